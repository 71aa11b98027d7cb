-- What the targets of constants are in the symbols of a written member, and how far they move with their sections.
use Rattle.std.proofs.Common.{arith, ◌≡◌, ◌⊎◌, inl, inr, ℕ, zero, suc, ◌+◌, ◌<◌, ◌≤◌, true, ◌==◌, if◌then◌else◌, List, [], ◌∷◌, ◌++◌, map, length, get_or, All, IsSomeAnd, refl, sym, ap, subst, add-zero, Option, Some, None, slice_get}
use Rattle.std.specs.Option.{option_map_or}
use Rattle.std.specs.List.{range_with_len}
use Rattle.std.proofs.lemmas.Bool.{false≢true, eq-eqb, cases_eq}
use Rattle.std.proofs.lemmas.Option.{slice_get_within, slice_get-get_or, get_or_from_slice_get}
use Rattle.sym_mod.specs.declared.program.Program.{Program}
use Rattle.sym_mod.specs.declared.program.Target.{Target}
use Rattle.sym_mod.specs.declared.program.Target.TheVariants.{Section as InSection, Label as AtLabel, Unresolved, Register as OfRegister, Total}
use Rattle.sym_mod.specs.Sound.{IsSymbolOf, IsSoundLabel}
use Rattle.load_recs.specs.declared.items.SymbolItem.{SymbolItem}
use Rattle.linking_model.specs.Tree.{Tree, segments}
use Rattle.linking_model.specs.Places.{Laid, segment_of_section, has_segtab, entry_count}
use Rattle.linking_model.specs.Tables.{section_of_label, is_defined}
use Rattle.linking_model.specs.Linked.{Placement, address_of, offset_of_label}
use Rattle.linking_model.specs.Run.{sections_in}
use Rattle.member_model.specs.Symbols.{is_outside, symbol_at}
use Rattle.member_model.specs.SymbolList.{symbols_written}
use Rattle.member_model.specs.Parts.{Part, SegmentTable, OneSection, EntryTable, parts, parts_in, part_number, target_number}
use Rattle.member_laws.specs.Linkable.{IsLinkable, StandsInTree}
use Rattle.member_laws.proofs.LoadingLists.{Among, among_front, among_behind, among_map, among_flat, among_filter}
use Rattle.member_laws.proofs.LoadingSymbols.{IsDefinedIn, part_is_defined, label_is_defined, unresolved_is_not}

-- ---- elements that are there

-- an element and what holds of it
pub record Found {A : Type 0} (xs : List A) (i : ℕ) (P : A → Type 0) : Type 0 where
  pub item : A
  pub found : slice_get xs i ≡ Some item
  pub holds : P item

pub there : {A : Type 0} (xs : List A) (i : ℕ) (P : A → Type 0) → IsSomeAnd (slice_get xs i) P → Found xs i P
there {A = A} xs i P some = by_cases (slice_get xs i) refl some
  where
    by_cases : (o : Option A) → slice_get xs i ≡ o → IsSomeAnd o P → Found xs i P
    by_cases None none some = absurd some
    by_cases (Some x) found some = record { item = x; found = found; holds = some }

pub within : {A : Type 0} (xs : List A) (i : ℕ) → i < length xs → Found xs i (λ x. Unit {0})
within [] i inside = absurd (omega (arith, inside))
within (x ∷ xs) i inside = record { item = get_or (x ∷ xs) i x; found = slice_get-get_or (x ∷ xs) i x inside; holds = tt }

pub of_all : {A : Type 0} (P : A → Type 0) (xs : List A) (i : ℕ) (x : A) → All P xs → slice_get xs i ≡ Some x → P x
of_all P xs i x all found = subst P (get_or_from_slice_get xs i x x found) (all i x (slice_get_within xs i x found))

-- ---- segments and parts

pub among_range : (a n s : ℕ) → a ≤ s → s < a + n → Among s (range_with_len a n)
among_range a zero s from to = absurd (omega (arith, from, to))
among_range a (suc n) s from to = by_cases (cases_eq a s) (λ low. among_range (a + 1) n s low (omega (arith, to)))
  where
    by_cases : (a ≡ s) ⊎ (a ≡ s → ⊥) → (a + 1 ≤ s → Among s (range_with_len (a + 1) n)) → (a ≡ s) ⊎ Among s (range_with_len (a + 1) n)
    by_cases (inl same) later = inl same
    by_cases (inr differ) later = inr (later (omega (arith, from, differ)))

pub among_segments : (tree : Tree) (s : ℕ) → 1 ≤ s → s ≤ length tree → Among s (segments tree)
unfolding segments
among_segments [] s first last = absurd (omega (arith, first, last))
among_segments (x ∷ older) s first last = by_cases (cases_eq (length older + 1) s) (λ low. among_segments older s first low)
  where
    by_cases : (length older + 1 ≡ s) ⊎ (length older + 1 ≡ s → ⊥) → (s ≤ length older → Among s (segments older))
        → Among s (segments older ++ (length older + 1) ∷ [])
    by_cases (inl same) later = among_behind s (segments older) ((length older + 1) ∷ []) (inl same)
    by_cases (inr differ) later =
        among_front s (segments older) ((length older + 1) ∷ []) (later (omega (arith, last, differ)))

-- the parts of a segment of the tree are parts
pub among_parts_in : (P : Laid) (s : ℕ) (x : Part) → 1 ≤ s → s ≤ length P.tree → Among x (parts_in P s) → Among x (parts P)
among_parts_in P s x first last among = among_flat (parts_in P) s x (segments P.tree) (among_segments P.tree s first last) among

pub section_among : (P : Laid) (i s : ℕ) → i < length P.program.sections → segment_of_section P.program i ≡ s
    → Among (OneSection i) (parts_in P s)
section_among P i s inside here =
    among_front (OneSection i)
    ((if has_segtab P.tree s then SegmentTable ∷ [] else []) ++ map (λ i. OneSection i) (sections_in P.program s))
    (if entry_count P s == 0 then [] else EntryTable s ∷ [])
    (among_behind (OneSection i) (if has_segtab P.tree s then SegmentTable ∷ [] else []) (map (λ i. OneSection i) (sections_in P.program s))
    (among_map (λ i. OneSection i) i (sections_in P.program s)
    (among_filter (λ i. segment_of_section P.program i == s) i (range_with_len 0 (length P.program.sections))
    (eq-eqb (segment_of_section P.program i) s here)
    (among_range 0 (length P.program.sections) i (omega arith) (omega (arith, inside))))))

-- a section of the program is a part
pub section_is_part : (P : Laid) (i : ℕ) → IsLinkable P → i < length P.program.sections → Among (OneSection i) (parts P)
section_is_part P i link inside =
    let at : Found P.program.sections i (λ x. Unit {0}) = within P.program.sections i inside in
    let stands : StandsInTree P.tree at.item = of_all (StandsInTree P.tree) P.program.sections i at.item link.in_tree at.found in
    let segment : segment_of_section P.program i ≡ at.item.segment = ap (λ o. option_map_or (λ x. x.segment) o 0) at.found in
    among_parts_in P (segment_of_section P.program i) (OneSection i)
    (subst (λ n. 1 ≤ n) (sym segment) stands.first) (subst (λ n. n ≤ length P.tree) (sym segment) stands.last)
    (section_among P i (segment_of_section P.program i) inside refl)

-- ---- targets

-- the section with which the target moves, and how far from it
abbrev pub home : Program → Target → ℕ
home p (InSection i) = i
home p (AtLabel i) = section_of_label p i
home p _ = 0

abbrev pub away : Program → Target → ℕ
away p (AtLabel i) = offset_of_label p i
away p _ = 0

-- the target is in a section of the program, by its symbol item and by its address
pub record IsInSection (P : Laid) (symbols : List SymbolItem) (y : Target) : Type 0 where
  pub inside : home P.program y < length P.program.sections
  pub item : IsDefinedIn symbols (target_number P y) (part_number P (OneSection (home P.program y)))
  pub address : (q : Placement) → address_of P.program q y ≡ q.section (home P.program y) + away P.program y

label_there : (P : Laid) (i : ℕ) → IsLinkable P → i < length P.program.labels → Found P.program.labels i (λ x. x.section < length P.program.sections)
label_there P i link inside =
    let at : Found P.program.labels i (λ x. Unit {0}) = within P.program.labels i inside in
    let sound : IsSoundLabel P.program at.item = of_all (IsSoundLabel P.program) P.program.labels i at.item link.sound.labels at.found in
    let owner : Found P.program.sections at.item.section (λ s. at.item.offset ≤ s.length) = there P.program.sections at.item.section (λ s. at.item.offset ≤ s.length) sound.inside in
    record { item = at.item; found = at.found; holds = slice_get_within P.program.sections at.item.section owner.item owner.found }

pub is_in_section : (P : Laid) (y : Target) → IsLinkable P → IsSymbolOf P.program y → is_defined y ≡ true
    → IsInSection P (symbols_written P) y
unfolding target_number
is_in_section P (InSection i) link symbol defined = record {
  inside = symbol;
  item = part_is_defined P (OneSection i) (section_is_part P i link symbol);
  address = λ q. sym (add-zero (q.section i));
}
is_in_section P (AtLabel i) link symbol defined =
    let at : Found P.program.labels i (λ x. x.section < length P.program.sections) = label_there P i link symbol in
    let is : section_of_label P.program i ≡ at.item.section = ap (λ o. option_map_or (λ x. x.section) o 0) at.found in
    record {
      inside = subst (λ n. n < length P.program.sections) (sym is) at.holds;
      item =
          subst (λ n. IsDefinedIn (symbols_written P) (length (parts P) + i + 1) (part_number P (OneSection n))) (sym is)
          (label_is_defined P i at.item at.found);
      address = λ q. refl;
    }
is_in_section P (Unresolved i) link symbol defined = absurd (false≢true defined)
is_in_section P (OfRegister i) link symbol defined = absurd (false≢true defined)
is_in_section P Total link symbol defined = absurd (false≢true defined)

-- an unresolved name is in none
pub is_in_none : (P : Laid) (i : ℕ) → i < length P.program.unresolved
    → is_outside (symbol_at (symbols_written P) (target_number P (Unresolved i))) ≡ true
unfolding target_number
is_in_none P i inside =
    let at : Found P.program.unresolved i (λ x. Unit {0}) = within P.program.unresolved i inside in
    unresolved_is_not P i at.item at.found
