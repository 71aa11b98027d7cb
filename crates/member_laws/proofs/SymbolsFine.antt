-- The symbol items of a program have no fault.
use Rattle.std.proofs.Common.{◌≡◌, ◌≢◌, ℕ, zero, suc, ◌+◌, ◌/◌, ◌%◌, ◌<◌, ◌≤◌, Bool, true, false, not, ◌&&◌, ◌||◌, ◌==◌, nat_lt, if◌then◌else◌, List, [], ◌∷◌, ◌++◌, map, fold, length, Option, Some, None, slice_get, inl, inr, refl, sym, ap, subst, ◌∙◌, zero-add, arith}
use Rattle.std.specs.Prelude.{IsSomeAnd}
use Rattle.std.specs.Option.{option_or}
use Rattle.std.proofs.lemmas.Option.{same_Some}
use Rattle.std.proofs.lemmas.Bool.{or_from, and_right, not_from_true, eq-eqb, ne_eqb, le-ltb, ltb-false, cond-true, cond-false}
use Rattle.std.proofs.lemmas.List.{append_assoc, map-append, append-nil}
use Rattle.std.proofs.lemmas.List.Sums.{fold-append}
use Rattle.std.specs.List.{AllByRecursion, flat_map, range_with_len, enumerate_from}
use Rattle.le_bytes.specs.declared.record_what.RecWhat.{RecWhat}
use Rattle.le_bytes.specs.declared.record_what.RecWhat.TheVariants.{SectionOutside, BadEsdid}
use Rattle.pds_directory.specs.declared.entry.Entry.{Entry}
use Rattle.sym_mod.specs.Sound.{IsSoundLabel}
use Rattle.sym_mod.specs.declared.program.Section.{Section}
use Rattle.sym_mod.specs.declared.program.SecKind.{SecKind}
use Rattle.sym_mod.specs.declared.program.SecKind.TheVariants.{Sd, Pc, Cm}
use Rattle.sym_mod.specs.declared.program.Label.{Label}
use Rattle.sym_mod.specs.declared.program.Unknown.{Unknown}
use Rattle.sym_mod.specs.declared.program.Register.{Register}
use Rattle.load_recs.specs.declared.items.SymbolItem.{SymbolItem}
use Rattle.load_recs.specs.declared.items.SymbolKind.{SymbolKind}
use Rattle.load_recs.specs.declared.items.SymbolKind.TheVariants.{Lr, Er, Wx}
use Rattle.linking_model.specs.Tree.{segments}
use Rattle.linking_model.specs.Places.{Laid, is_overlay, place, length_of_section, module_length}
use Rattle.member_model.specs.Parts.{Part, OneSection, parts, parts_in, part_kind, part_place, part_segment, part_length, part_number}
use Rattle.load_recs.specs.Kinds.{is_section_kind, is_text_kind}
use Rattle.member_model.specs.Symbols.{is_overlay_member, is_scatter_member, is_section, symbol_at, end_of}
use Rattle.member_model.specs.SymbolList.{symbol_kind, part_symbol, label_symbol, unresolved_symbol, register_symbol, symbols_written}
use Rattle.member_model.specs.Faults.{when, last_end, is_section_outside, label_fault, symbol_fault, symbols_fault}
use Rattle.member_model.specs.Written.{attribute}
use Rattle.member_laws.specs.Linkable.{IsLinkable, HasText}
use Rattle.member_laws.proofs.Ascending.{Ascends, parts_ascend}
use Rattle.member_laws.proofs.Judging.{when-not}
use Rattle.member_laws.proofs.Lists.{each-weaker}
use Rattle.member_laws.proofs.Membership.{Has, has-all, from-map, get-left}
use Rattle.member_laws.proofs.Numbered.{IsPart, is-numbered, section-part, segments-range}
use Rattle.member_laws.proofs.Standing.{IsPartOf, StandsWell, stands_well, parts-stand, length-at}
use Rattle.member_laws.proofs.SymbolsWritten.{some-and, kind-at, part-ends, is-owned}
use Rattle.member_laws.proofs.Targets.{symbol-next, mapped}

-- ---- the entry of a member

-- the entry tells the attribute and the length of the member that is written
pub record Describes (P : Laid) (scatter : Bool) (e : Entry) : Type 0 where
  pub attr : e.attr ≡ attribute P scatter
  pub length : e.length ≡ module_length P

pub overlay-bit : (a b : Bool) (n : ℕ) → n ≡ (if a then 32 else 0) + (if b then 4 else 0) → (n / 32 % 2 == 1) ≡ a
overlay-bit true true n e = rw (e) refl
overlay-bit true false n e = rw (e) refl
overlay-bit false true n e = rw (e) refl
overlay-bit false false n e = rw (e) refl

pub scatter-bit : (a b : Bool) (n : ℕ) → n ≡ (if a then 32 else 0) + (if b then 4 else 0) → (n / 4 % 2 == 1) ≡ b
scatter-bit true true n e = rw (e) refl
scatter-bit true false n e = rw (e) refl
scatter-bit false true n e = rw (e) refl
scatter-bit false false n e = rw (e) refl

pub is-overlay : (P : Laid) (scatter : Bool) (e : Entry) → Describes P scatter e → is_overlay_member e ≡ is_overlay P.tree
is-overlay P scatter e describes = overlay-bit (is_overlay P.tree) scatter e.attr describes.attr

pub is-scatter : (P : Laid) (scatter : Bool) (e : Entry) → Describes P scatter e → is_scatter_member e ≡ scatter
is-scatter P scatter e describes = scatter-bit (is_overlay P.tree) scatter e.attr describes.attr

-- ---- items one after another

pub symbols-append : (e : Entry) (before a b : List SymbolItem) → symbols_fault e before (a ++ b) ≡ option_or (symbols_fault e before a) (symbols_fault e (before ++ a) b)
symbols-append e before [] b = ap (λ l. symbols_fault e l b) (sym (append-nil before))
symbols-append e before (x ∷ a) b =
    ap (option_or (symbol_fault e before x x.kind)) (symbols-append e (before ++ x ∷ []) a b)
    ∙ or-or (symbol_fault e before x x.kind) (symbols_fault e (before ++ x ∷ []) a) (symbols_fault e ((before ++ x ∷ []) ++ a) b)
    ∙ ap (λ l. option_or (option_or (symbol_fault e before x x.kind) (symbols_fault e (before ++ x ∷ []) a)) (symbols_fault e l b)) (append_assoc before (x ∷ []) a)
  where
    or-or : (x y z : Option RecWhat) → option_or x (option_or y z) ≡ option_or (option_or x y) z
    or-or None y z = refl
    or-or (Some f) y z = refl

pub symbols-both : (e : Entry) (before a b : List SymbolItem) → symbols_fault e before a ≡ None → symbols_fault e (before ++ a) b ≡ None → symbols_fault e before (a ++ b) ≡ None
symbols-both e before a b first later = symbols-append e before a b ∙ ap (λ o. option_or o (symbols_fault e (before ++ a) b)) first ∙ later

either : (x y : Option RecWhat) → option_or x y ≡ None → (x ≡ None) × (y ≡ None)
either None y e = (refl, e)
either (Some f) y e = absurd cc

pub symbols-parts : (e : Entry) (before a b : List SymbolItem) → symbols_fault e before (a ++ b) ≡ None → (symbols_fault e before a ≡ None) × (symbols_fault e (before ++ a) b ≡ None)
symbols-parts e before a b fine = either (symbols_fault e before a) (symbols_fault e (before ++ a) b) (sym (symbols-append e before a b) ∙ fine)

-- items that have no fault whatever of these came before
each-fine : (e : Entry) (before : List SymbolItem) (xs : List SymbolItem) → ((done : List SymbolItem) (x : SymbolItem) → Has xs x → symbol_fault e (before ++ done) x x.kind ≡ None)
    → (done : List SymbolItem) → symbols_fault e (before ++ done) xs ≡ None
each-fine e before [] holds done = refl
each-fine e before (x ∷ xs) holds done =
    ap (λ o. option_or o (symbols_fault e ((before ++ done) ++ x ∷ []) xs)) (holds done x (inl refl))
    ∙ ap (λ l. symbols_fault e l xs) (append_assoc before done (x ∷ []))
    ∙ each-fine e before xs (λ d y there. holds d y (inr there)) (done ++ x ∷ [])

pub all-fine : (e : Entry) (before : List SymbolItem) (xs : List SymbolItem) → ((done : List SymbolItem) (x : SymbolItem) → Has xs x → symbol_fault e (before ++ done) x x.kind ≡ None) → symbols_fault e before xs ≡ None
all-fine e before xs holds = ap (λ l. symbols_fault e l xs) (sym (append-nil before)) ∙ each-fine e before xs holds []

-- ---- parts

pub section-kind : (k : SecKind) → is_section_kind (symbol_kind k) ≡ true
section-kind Sd = refl
section-kind Pc = refl
section-kind Cm = refl

-- the fault of a section
section-fault : (e : Entry) (before : List SymbolItem) (x : SymbolItem) (k : SecKind) → is_section_outside e before x ≡ false → symbol_fault e before x (symbol_kind k) ≡ None
section-fault e before x Sd inside = when-not (is_section_outside e before x) SectionOutside inside
section-fault e before x Pc inside = when-not (is_section_outside e before x) SectionOutside inside
section-fault e before x Cm inside = when-not (is_section_outside e before x) SectionOutside inside

not-outside : (e : Entry) (before : List SymbolItem) (x : SymbolItem) (s : ℕ) (overlay : Bool) → is_overlay_member e ≡ overlay → (overlay ≡ false → s ≡ 1) → x.segment ≡ s → 1 ≤ s → end_of x ≤ e.length → last_end before s ≤ x.address
    → is_section_outside e before x ≡ false
not-outside e before x s overlay is alone here low ends behind =
    or_from (nat_lt e.length (end_of x) || x.segment == 0 || not (is_overlay_member e) && not (x.segment == 1)) (nat_lt x.address (last_end before x.segment))
    (or_from (nat_lt e.length (end_of x) || x.segment == 0) (not (is_overlay_member e) && not (x.segment == 1))
    (or_from (nat_lt e.length (end_of x)) (x.segment == 0) (le-ltb e.length (end_of x) ends) (ne_eqb x.segment 0 (omega arith)))
    (root overlay is alone))
    (le-ltb x.address (last_end before x.segment) (subst (λ t. last_end before t ≤ x.address) (sym here) behind))
  where
    root : (b : Bool) → is_overlay_member e ≡ b → (b ≡ false → s ≡ 1) → (not (is_overlay_member e) && not (x.segment == 1)) ≡ false
    root true m only = ap (λ b. not b && not (x.segment == 1)) m
    root false m only = and_right (not (is_overlay_member e)) (not (x.segment == 1)) (not_from_true (x.segment == 1) (eq-eqb x.segment 1 (here ∙ only refl)))

-- the end of the last section of a segment after one more part
last-own : (P : Laid) (before : List SymbolItem) (x : Part) (s : ℕ) → part_segment P x ≡ s → last_end (before ++ part_symbol P x ∷ []) s ≡ part_place P x + part_length P x
last-own P before x s here =
    fold-append (λ end y. if is_section y && y.segment == s then end_of y else end) 0 before (part_symbol P x ∷ [])
    ∙ ap (λ b. if b && part_segment P x == s then part_place P x + part_length P x else last_end before s) (section-kind (part_kind P x))
    ∙ cond-true (part_segment P x == s) (part_place P x + part_length P x) (last_end before s) (eq-eqb (part_segment P x) s here)

last-other : (P : Laid) (before : List SymbolItem) (xs : List Part) (s t : ℕ) → AllByRecursion (λ x. part_segment P x ≡ s) xs → s ≢ t → last_end (before ++ map (part_symbol P) xs) t ≡ last_end before t
last-other P before [] s t all other = ap (λ l. last_end l t) (append-nil before)
last-other P before (x ∷ xs) s t all other =
    ap (λ l. last_end l t) (sym (append_assoc before (part_symbol P x ∷ []) (map (part_symbol P) xs)))
    ∙ last-other P (before ++ part_symbol P x ∷ []) xs s t all.1 other
    ∙ fold-append (λ end y. if is_section y && y.segment == t then end_of y else end) 0 before (part_symbol P x ∷ [])
    ∙ cond-false (is_section (part_symbol P x) && part_segment P x == t) (part_place P x + part_length P x) (last_end before t)
    (and_right (is_section (part_symbol P x)) (part_segment P x == t) (ne_eqb (part_segment P x) t (λ e. other (sym all.0 ∙ e))))

-- the parts of a segment, one behind another
segment-fine : (P : Laid) (scatter : Bool) (e : Entry) (s : ℕ) → Describes P scatter e → 1 ≤ s → (is_overlay P.tree ≡ false → s ≡ 1)
    → (xs : List Part) (before : List SymbolItem) (from : ℕ) → AllByRecursion (λ x. IsPart P x × (part_segment P x ≡ s)) xs → last_end before s ≡ from → Ascends P from xs
    → symbols_fault e before (map (part_symbol P) xs) ≡ None
segment-fine P scatter e s describes low alone [] before from all last ascends = refl
segment-fine P scatter e s describes low alone (x ∷ xs) before from all last ascends =
    let ends : part_place P x + part_length P x ≤ module_length P = part-ends P x all.0.0 in
    let whole : e.length ≡ module_length P = describes.length in
    let behind : from ≤ part_place P x = ascends.0 in
    ap (λ o. option_or o (symbols_fault e (before ++ part_symbol P x ∷ []) (map (part_symbol P) xs)))
    (section-fault e before (part_symbol P x) (part_kind P x)
    (not-outside e before (part_symbol P x) s (is_overlay P.tree) (is-overlay P scatter e describes) alone all.0.1 low (omega arith) (omega arith)))
    ∙ segment-fine P scatter e s describes low alone xs (before ++ part_symbol P x ∷ []) (part_place P x + part_length P x) all.1 (last-own P before x s all.0.1) ascends.1

-- the parts of k segments from segment a on
abbrev parts_from : Laid → ℕ → ℕ → List Part
parts_from P a k = flat_map (parts_in P) (range_with_len a k)

tree-alone : (P : Laid) → is_overlay P.tree ≡ false → length P.tree ≤ 1
tree-alone P alone = ltb-false 1 (length P.tree) alone

of-segment : (P : Laid) (s : ℕ) → 1 ≤ s → s ≤ length P.tree → AllByRecursion (λ x. IsPart P x × (part_segment P x ≡ s)) (parts_in P s)
of-segment P s low high =
    each-weaker (IsPartOf P s) (λ x. IsPart P x × (part_segment P x ≡ s)) (λ x is.
    let well = stands_well P s x low is in
    (record { in_segment = s; low = low; high = high; is = is }, well.segment)) (parts_in P s) (parts-stand P s)

segments-fine : (P : Laid) (scatter : Bool) (e : Entry) → Describes P scatter e → (a k : ℕ) → 1 ≤ a → a + k ≤ length P.tree + 1
    → (before : List SymbolItem) → ((t : ℕ) → a ≤ t → last_end before t ≡ 0) → symbols_fault e before (map (part_symbol P) (parts_from P a k)) ≡ None
segments-fine P scatter e describes a zero low within before none = refl
segments-fine P scatter e describes a (suc k) low within before none =
    let all = of-segment P a low (omega arith) in
    ap (symbols_fault e before) (map-append (part_symbol P) (parts_in P a) (parts_from P (a + 1) k))
    ∙ symbols-both e before (map (part_symbol P) (parts_in P a)) (map (part_symbol P) (parts_from P (a + 1) k))
    (segment-fine P scatter e a describes low (λ alone. let one = tree-alone P alone in omega arith) (parts_in P a) before 0 all (none a (omega arith)) (parts_ascend P a))
    (segments-fine P scatter e describes (a + 1) k (omega arith) (omega arith) (before ++ map (part_symbol P) (parts_in P a))
    (λ t high. last-other P before (parts_in P a) a t (each-weaker _ (λ x. part_segment P x ≡ a) (λ x both. both.1) (parts_in P a) all) (omega arith) ∙ none t (omega arith)))

parts-fine : (P : Laid) (scatter : Bool) (e : Entry) → Describes P scatter e → symbols_fault e [] (map (part_symbol P) (parts P)) ≡ None
parts-fine P scatter e describes =
    ap (λ l. symbols_fault e [] (map (part_symbol P) (flat_map (parts_in P) l))) (segments-range P.tree)
    ∙ segments-fine P scatter e describes 1 (length P.tree) (omega arith) (omega arith) [] (λ t high. refl)

-- ---- labels

pub text-kind : (k : SecKind) → HasText k → is_text_kind (symbol_kind k) ≡ true
text-kind Sd is = refl
text-kind Pc is = refl
text-kind Cm is = absurd is

label-fine : (x owner : SymbolItem) → is_text_kind owner.kind ≡ true → owner.address ≤ x.address → x.address ≤ end_of owner → label_fault x (Some owner) ≡ None
label-fine x owner text low high =
    ap (λ b. if not b then Some BadEsdid else when (nat_lt x.address owner.address || nat_lt (end_of owner) x.address) SectionOutside) text
    ∙ when-not (nat_lt x.address owner.address || nat_lt (end_of owner) x.address) SectionOutside
    (or_from (nat_lt x.address owner.address) (nat_lt (end_of owner) x.address) (le-ltb x.address owner.address low) (le-ltb (end_of owner) x.address high))

owner-there : (P : Laid) (x : Part) (done : List SymbolItem) → IsPart P x → symbol_at (map (part_symbol P) (parts P) ++ done) (part_number P x) ≡ Some (part_symbol P x)
owner-there P x done is =
    let numbered = is-numbered P x is in
    symbol-next (map (part_symbol P) (parts P) ++ done) numbered.place (part_number P x) numbered.number
    ∙ get-left (map (part_symbol P) (parts P)) done numbered.place (part_symbol P x) (mapped (part_symbol P) (parts P) numbered.place x numbered.there)

label-symbol-fine : (P : Laid) (e : Entry) (done : List SymbolItem) (x : Label) → IsLinkable P → Has P.program.labels x
    → symbol_fault e (map (part_symbol P) (parts P) ++ done) (label_symbol P x) Lr ≡ None
label-symbol-fine P e done x links there =
    let owned = is-owned P x (has-all (IsSoundLabel P.program) P.program.labels x links.sound.labels there) in
    let found = some-and (slice_get P.program.sections x.section) (λ y. HasText y.kind) (has-all (λ y. IsSomeAnd (slice_get P.program.sections y.section) (λ z. HasText z.kind)) P.program.labels x links.labels_in_text there) in
    let part = section-part P x.section owned.section links owned.there in
    let text : HasText owned.section.kind = subst (λ y. HasText y.kind) (same_Some found.0 owned.section (sym found.1 ∙ owned.there)) found.2 in
    let kind : is_text_kind (part_symbol P (OneSection x.section)).kind ≡ true = ap (λ k. is_text_kind (symbol_kind k)) (kind-at P x.section owned.section owned.there) ∙ text-kind owned.section.kind text in
    let len : length_of_section P.program x.section ≡ owned.section.length = length-at P x.section owned.section owned.there in
    let inside : x.offset ≤ owned.section.length = owned.inside in
    ap (label_fault (label_symbol P x)) (owner-there P (OneSection x.section) done part)
    ∙ label-fine (label_symbol P x) (part_symbol P (OneSection x.section)) kind (omega arith) (omega arith)

-- ---- all of them

unresolved-fine : (e : Entry) (before : List SymbolItem) (x : Unknown) → symbol_fault e before (unresolved_symbol x) (unresolved_symbol x).kind ≡ None
unresolved-fine e before x =
    elim x.weak as (λ b. symbol_fault e before (unresolved_symbol x) (if b then Wx else Er) ≡ None) [ true ↦ refl | false ↦ refl ]

pub symbols_fine : (P : Laid) (scatter : Bool) (e : Entry) → IsLinkable P → Describes P scatter e → symbols_fault e [] (symbols_written P) ≡ None
unfolding symbols_written
symbols_fine P scatter e links describes =
    let a = map (part_symbol P) (parts P) in
    let b = map (label_symbol P) P.program.labels in
    let c = map unresolved_symbol P.program.unresolved in
    let d = map (register_symbol P.program.registers) (enumerate_from 0 P.program.registers) in
    symbols-both e [] (a ++ b ++ c) d
    (symbols-both e [] (a ++ b) c
    (symbols-both e [] a b (parts-fine P scatter e describes)
    (all-fine e a b (λ done x there.
    let from = from-map (label_symbol P) P.program.labels x there in
    subst (λ y. symbol_fault e (a ++ done) y y.kind ≡ None) from.made (label-symbol-fine P e done from.source links from.there))))
    (all-fine e (a ++ b) c (λ done x there.
    let from = from-map unresolved_symbol P.program.unresolved x there in
    subst (λ y. symbol_fault e ((a ++ b) ++ done) y y.kind ≡ None) from.made (unresolved-fine e ((a ++ b) ++ done) from.source))))
    (all-fine e (a ++ b ++ c) d (λ done x there.
    let from = from-map (register_symbol P.program.registers) (enumerate_from 0 P.program.registers) x there in
    subst (λ y. symbol_fault e ((a ++ b ++ c) ++ done) y y.kind ≡ None) from.made refl))
