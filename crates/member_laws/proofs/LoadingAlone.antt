-- A program without overlay: its parts are its sections, in their order.
use Rattle.std.proofs.Common.{arith, ◌≡◌, ℕ, zero, suc, ◌+◌, ◌<◌, ◌≤◌, Bool, true, false, ◌&&◌, ◌||◌, ◌==◌, cond, if◌then◌else◌, List, [], ◌∷◌, ◌++◌, map, filter, flat_map, length, take, count_by, refl, sym, ◌∙◌, ap, subst, append-nil, Some, None, slice_get}
use Rattle.std.specs.Option.{option_map_or}
use Rattle.std.specs.List.{AllByRecursion as Each, range_with_len}
use Rattle.std.proofs.lemmas.Bool.{false≢true, and_right, ltb-false, eq-eqb}
use Rattle.std.proofs.lemmas.Option.{none-some, slice_get_within}
use Rattle.std.proofs.lemmas.List.Sums.{sum_by-cons}
use Rattle.sym_mod.specs.declared.program.Program.{Program}
use Rattle.sym_mod.specs.declared.program.SecKind.{SecKind}
use Rattle.sym_mod.specs.declared.program.SecKind.TheVariants.{Sd, Pc, Cm}
use Rattle.sym_mod.specs.declared.program.Target.{Target}
use Rattle.sym_mod.specs.declared.program.Target.TheVariants.{Section as InSection, Label as AtLabel, Unresolved, Register as OfRegister, Total}
use Rattle.sym_mod.specs.Sound.{IsSymbolOf}
use Rattle.load_recs.specs.declared.items.SymbolItem.{SymbolItem}
use Rattle.linking_model.specs.Tree.{Tree, IsTree, root, segments, path, is_on_path, is_below, is_away}
use Rattle.linking_model.specs.Places.{Laid, is_overlay, has_segtab, entry_count, segment_of_section}
use Rattle.linking_model.specs.Tables.{segment_of, is_defined, is_direct, needs_entry, is_called_from, holder, has_entry, entries, targets_in_order}
use Rattle.linking_model.specs.Run.{sections_in}
use Rattle.linking_model.proofs.Trees.{segments_are_on_their_paths}
use Rattle.load_recs.specs.Kinds.{is_section_kind}
use Rattle.member_model.specs.Symbols.{is_section, section_rank}
use Rattle.member_model.specs.SymbolList.{symbols_written, symbol_kind, part_symbol}
use Rattle.member_model.specs.Parts.{Part, SegmentTable, OneSection, EntryTable, parts, parts_in, part_number, part_kind}
use Rattle.member_laws.specs.Linkable.{IsLinkable, StandsInTree}
use Rattle.member_laws.proofs.LoadingLists.{Among, each_always, each_weaker, each_map, each_place}
use Rattle.member_laws.proofs.LoadingSymbols.{HasNumber, has_number, item_of_part, after_parts, symbols_are, length_mapped}
use Rattle.member_laws.proofs.LoadingTargets.{Found, within, of_all, section_is_part, home, IsInSection, is_in_section}
use Rattle.member_laws.proofs.LoadingSections.{nothing_kept}
use Rattle.member_laws.proofs.LoadingTables.{IsKnown, targets_known}

-- ---- the tree

one_root : (tree : Tree) → IsTree tree → length tree ≤ 1 → tree ≡ root ∷ []
one_root [] is short = absurd is
one_root (x ∷ []) is short = ap (λ y. y ∷ []) is
one_root (x ∷ y ∷ older) is short = absurd (omega (arith, short))

pub tree_is : (P : Laid) → IsLinkable P → is_overlay P.tree ≡ false → P.tree ≡ root ∷ []
tree_is P link plain = one_root P.tree link.tree (ltb-false 1 (length P.tree) plain)

one_segment : segments (root ∷ []) ≡ 1 ∷ []
unfolding segments
one_segment = refl

pub segment_is : (P : Laid) (i : ℕ) → IsLinkable P → is_overlay P.tree ≡ false → i < length P.program.sections → segment_of_section P.program i ≡ 1
segment_is P i link plain inside =
    let at : Found P.program.sections i (λ x. Unit {0}) = within P.program.sections i inside in
    let stands : StandsInTree P.tree at.item = of_all (StandsInTree P.tree) P.program.sections i at.item link.in_tree at.found in
    ap (λ o. option_map_or (λ x. x.segment) o 0) at.found
    ∙ one at.item.segment (length P.tree) stands.first stands.last (ap length (tree_is P link plain))
  where
    one : (s n : ℕ) → 1 ≤ s → s ≤ n → n ≡ 1 → s ≡ 1
    one s n first last size = omega arith

-- ---- calls

target_segment : (P : Laid) (y : Target) → IsLinkable P → is_overlay P.tree ≡ false → IsSymbolOf P.program y → is_defined y ≡ true
    → segment_of P.program y ≡ 1
target_segment P y link plain symbol defined =
    let is : IsInSection P (symbols_written P) y = is_in_section P y link symbol defined in
    same y defined ∙ segment_is P (home P.program y) link plain is.inside
  where
    same : (y : Target) → is_defined y ≡ true → segment_of P.program y ≡ segment_of_section P.program (home P.program y)
    same (InSection i) defined = refl
    same (AtLabel i) defined = refl
    same (Unresolved i) defined = absurd (false≢true defined)
    same (OfRegister i) defined = absurd (false≢true defined)
    same Total defined = absurd (false≢true defined)

-- every call goes directly
pub all_direct : (P : Laid) (i : ℕ) (y : Target) → IsLinkable P → is_overlay P.tree ≡ false → i < length P.program.sections
    → IsSymbolOf P.program y → is_defined y ≡ true → is_direct P.program P.tree (segment_of_section P.program i) y ≡ true
all_direct P i y link plain inside symbol defined =
    ap (λ s. is_on_path P.tree s (segment_of_section P.program i)) (target_segment P y link plain symbol defined)
    ∙ (ap (is_on_path P.tree 1) (segment_is P i link plain inside)
    ∙ segments_are_on_their_paths P.tree 1 (omega arith) (subst (λ n. 1 ≤ n) (sym (ap length (tree_is P link plain))) (omega arith)))

-- ---- tables

not_needed : (p : Program) (y : Target) → segment_of p y ≡ 1 → needs_entry p (root ∷ []) y 1 ≡ false
unfolding path
not_needed p y here =
    ap (λ t. is_called_from p y 1 && (is_below (root ∷ []) t 1 || is_away (root ∷ []) t 1)) here ∙ and_right (is_called_from p y 1) false refl

no_holder : (p : Program) (y : Target) → segment_of p y ≡ 1 → holder p (root ∷ []) 1 y ≡ None
unfolding holder path
no_holder p y here = ap (λ b. cond b (Some 1) None) (not_needed p y here)

no_entry : (P : Laid) (y : Target) → IsLinkable P → is_overlay P.tree ≡ false → IsKnown P.program y → has_entry P.program P.tree 1 y ≡ false
no_entry P y link plain known =
    ap (λ o. option_map_or (λ h. h == 1) o false)
    (ap (λ tree. holder P.program tree 1 y) (tree_is P link plain) ∙ no_holder P.program y (target_segment P y link plain known.symbol known.defined))

no_entries : (P : Laid) → IsLinkable P → is_overlay P.tree ≡ false → entries P.program P.tree 1 ≡ []
unfolding entries
no_entries P link plain =
    nothing_kept (has_entry P.program P.tree 1) (targets_in_order P.program)
    (each_weaker (IsKnown P.program) _ (targets_in_order P.program) (λ y known. no_entry P y link plain known) (targets_known P.program))

segments_are : (P : Laid) → IsLinkable P → is_overlay P.tree ≡ false → segments P.tree ≡ 1 ∷ []
segments_are P link plain = ap segments (tree_is P link plain) ∙ one_segment

pub table_empty : (P : Laid) → IsLinkable P → is_overlay P.tree ≡ false → entry_count P 1 ≡ 0
table_empty P link plain =
    ap (λ es. length (option_map_or (λ x. x) (slice_get es 0) [])) (link.entries ∙ ap (map (entries P.program P.tree)) (segments_are P link plain))
    ∙ ap length (no_entries P link plain)

pub no_segtab : (tree : Tree) (s : ℕ) → is_overlay tree ≡ false → has_segtab tree s ≡ false
no_segtab tree s plain = ap (λ b. b && (s == 1)) plain

-- ---- parts

all_kept : {X : Type 0} (p : X → Bool) (xs : List X) → Each (λ x. p x ≡ true) xs → filter p xs ≡ xs
all_kept p [] all = refl
all_kept p (x ∷ xs) all =
    ap (λ b. cond b (x ∷ filter p xs) (filter p xs)) all.0 ∙ ap (λ ys. x ∷ ys) (all_kept p xs all.1)

-- the sections of the program, in their order
abbrev pub all_sections : Laid → List Part
all_sections P = map (λ i. OneSection i) (range_with_len 0 (length P.program.sections))

pub parts_are_sections : (P : Laid) → IsLinkable P → is_overlay P.tree ≡ false → parts_in P 1 ≡ all_sections P
parts_are_sections P link plain =
    ap (λ b. (if b then SegmentTable ∷ [] else []) ++ map (λ i. OneSection i) (sections_in P.program 1) ++ last (entry_count P 1 == 0))
    (no_segtab P.tree 1 plain)
    ∙ (ap (λ b. map (λ i. OneSection i) (sections_in P.program 1) ++ last b) (ap (λ n. n == 0) (table_empty P link plain))
    ∙ (append-nil (map (λ i. OneSection i) (sections_in P.program 1))
    ∙ ap (map (λ i. OneSection i))
    (all_kept (λ i. segment_of_section P.program i == 1) (range_with_len 0 (length P.program.sections))
    (each_place _ 0 (length P.program.sections)
    (λ i low high. eq-eqb (segment_of_section P.program i) 1 (segment_is P i link plain (omega (arith, high))))))))
  where
    last : Bool → List Part
    last b = if b then [] else EntryTable 1 ∷ []

all_parts : (P : Laid) → IsLinkable P → is_overlay P.tree ≡ false → parts P ≡ all_sections P
all_parts P link plain =
    ap (flat_map (parts_in P)) (segments_are P link plain) ∙ (append-nil (parts_in P 1) ∙ parts_are_sections P link plain)

-- ---- numbers and ranks

at_range : (f : ℕ → Part) (a n k : ℕ) (x : Part) → slice_get (map f (range_with_len a n)) k ≡ Some x → x ≡ f (a + k)
at_range f a zero k x found = absurd (none-some x found)
at_range f a (suc n) zero x found = sym (is (f a) x found) ∙ ap f (here a)
  where
    is : (y x : Part) → Some y ≡ Some x → y ≡ x
    is y x same = cc

    here : (a : ℕ) → a ≡ a + 0
    here a = omega arith
at_range f a (suc n) (suc k) x found = at_range f (a + 1) n k x found ∙ ap f (next a k)
  where
    next : (a k : ℕ) → a + 1 + k ≡ a + suc k
    next a k = omega arith

-- sections are numbered in their order
pub section_number : (P : Laid) (i : ℕ) → IsLinkable P → is_overlay P.tree ≡ false → i < length P.program.sections
    → part_number P (OneSection i) ≡ i + 1
section_number P i link plain inside =
    let it : HasNumber P (OneSection i) = has_number P (OneSection i) (section_is_part P i link inside) in
    let same : OneSection i ≡ OneSection (0 + it.place) = at_range (λ i. OneSection i) 0 (length P.program.sections) it.place (OneSection i)
    (sym (ap (λ xs. slice_get xs it.place) (all_parts P link plain)) ∙ it.there) in
    it.number ∙ ap (λ n. n + 1) (sym (number i (0 + it.place) same ∙ zero_add it.place))
  where
    number : (i j : ℕ) → OneSection i ≡ OneSection j → i ≡ j
    number i j same = cc

    zero_add : (k : ℕ) → 0 + k ≡ k
    zero_add k = omega arith

counted : (p : SymbolItem → Bool) (xs ys : List SymbolItem) (k : ℕ) → Each (λ x. p x ≡ true) xs → k ≤ length xs → count_by p (take k (xs ++ ys)) ≡ k
counted p [] ys zero all short = refl
counted p [] ys (suc k) all short = absurd (omega (arith, short))
counted p (x ∷ xs) ys zero all short = refl
counted p (x ∷ xs) ys (suc k) all short =
    sum_by-cons (λ y. cond (p y) 1 0) x (take k (xs ++ ys))
    ∙ (ap (λ b. cond b 1 0 + count_by p (take k (xs ++ ys))) all.0
    ∙ (ap (λ n. 1 + n) (counted p xs ys k all.1 (omega (arith, short))) ∙ next k))
  where
    next : (k : ℕ) → 1 + k ≡ suc k
    next k = omega arith

part_is_section : (P : Laid) (x : Part) → is_section (part_symbol P x) ≡ true
part_is_section P x = by_kind (part_kind P x)
  where
    by_kind : (kind : SecKind) → is_section_kind (symbol_kind kind) ≡ true
    by_kind Sd = refl
    by_kind Pc = refl
    by_kind Cm = refl

-- the rank of a part is its number
pub part_rank : (P : Laid) (x : Part) → Among x (parts P) → section_rank (symbols_written P) (part_number P x) ≡ part_number P x
part_rank P x among =
    let it : HasNumber P x = has_number P x among in
    let below : it.place < length (parts P) = slice_get_within (parts P) it.place x it.there in
    ap (λ o. if option_map_or is_section o false then count_by is_section (take (part_number P x) (symbols_written P)) else 0) (item_of_part P x among)
    ∙ (ap (λ b. if b then count_by is_section (take (part_number P x) (symbols_written P)) else 0) (part_is_section P x)
    ∙ (ap (λ symbols. count_by is_section (take (part_number P x) symbols)) (symbols_are P)
    ∙ counted is_section (map (part_symbol P) (parts P)) (after_parts P) (part_number P x)
    (each_map (λ y. is_section y ≡ true) (part_symbol P) (parts P) (each_always _ (parts P) (part_is_section P)))
    (within_all (part_number P x) it.place (length (parts P)) (length (map (part_symbol P) (parts P))) it.number below (length_mapped (part_symbol P) (parts P)))))
  where
    within_all : (n k l m : ℕ) → n ≡ k + 1 → k < l → l ≡ m → n ≤ m
    within_all n k l m is below same = omega arith
