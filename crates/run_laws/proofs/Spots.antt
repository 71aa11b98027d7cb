-- A name is that of one section of a written member where it is that of one section of the program.
use Rattle.std.proofs.Common.{◌≡◌, ◌≢◌, ◌⊎◌, inl, inr, ℕ, ◌+◌, ◌<◌, ◌≤◌, Bool, true, false, not, ◌&&◌, if◌then◌else◌, List, [], ◌∷◌, ◌++◌, map, filter, find, length, Some, None, option_map, slice_get, refl, sym, ap, ◌∙◌, subst, arith}
use Rattle.std.specs.List.{AllByRecursion as Each, enumerate_from}
use Rattle.std.specs.Option.{option_map_or}
use Rattle.std.proofs.lemmas.Bool.{false≢true, cases_lt, and_parts}
use Rattle.std.proofs.lemmas.Option.{slice_get_within}
use Rattle.le_bytes.specs.declared.name.Name.{Name}
use Rattle.le_bytes.specs.Names.{name_eq, is_blank}
use Rattle.sym_mod.specs.Kinds.{is_private as is_private_kind}
use Rattle.sym_mod.specs.Reserved.{is_reserved}
use Rattle.sym_mod.specs.Sound.{HasProperKind, IsSoundSection, names_of}
use Rattle.sym_mod.specs.declared.program.Label.{Label}
use Rattle.sym_mod.specs.declared.program.Unknown.{Unknown}
use Rattle.sym_mod.specs.declared.program.Section.{Section}
use Rattle.sym_mod.specs.declared.program.SecKind.{SecKind}
use Rattle.sym_mod.specs.declared.program.SecKind.TheVariants.{Sd, Pc, Cm}
use Rattle.load_recs.specs.declared.items.SymbolItem.{SymbolItem}
use Rattle.load_recs.specs.declared.items.SymbolKind.TheVariants.{Er, Wx}
use Rattle.linking_model.specs.Places.{Laid}
use Rattle.linking_model.specs.Run.{section_named}
use Rattle.linking_model.specs.Settled.{is_section_named}
use Rattle.load_recs.specs.Kinds.{is_text_kind}
use Rattle.member_model.specs.Symbols.{is_named_kind, is_sd}
use Rattle.member_model.specs.SymbolList.{symbols_written, symbol_kind, part_symbol, label_symbol, unresolved_symbol, register_symbol}
use Rattle.member_model.specs.Parts.{Part, SegmentTable, OneSection, EntryTable, parts, part_number, name_as, blank_name}
use Rattle.member_model.specs.Fetched.{Fetched}
use Rattle.member_model.specs.ByteRun.{Spot, is_place, spot_of}
use Rattle.member_laws.specs.Linkable.{IsLinkable}
use Rattle.member_laws.proofs.LoadingLists.{Among, Pairs, each_append, each_in_front, each_weaker, each_map, each_always, pairs_from_all, none_found, at_one}
use Rattle.member_laws.proofs.LoadingSymbols.{after_parts, symbols_are, HasNumber, has_number, item_of_part}
use Rattle.member_laws.proofs.LoadingTargets.{Found, within, of_all, section_is_part}
use Rattle.member_laws.proofs.Membership.{Has, has-at, has-each}
use Rattle.member_laws.proofs.LoadingTables.{each_got}
use Rattle.member_laws.proofs.Numbered.{from-part}
use Rattle.member_laws.proofs.Distinct.{number_at}
use Rattle.member_laws.proofs.Targets.{symbol-next}
use Rattle.run_laws.specs.Answers.{HasNameAs, IsRunnable}
use Rattle.run_laws.specs.Fields.{spot_at}
use Rattle.run_laws.proofs.FoundTables.{get_split, Made, made_at, each_enumerated, among_enumerated, section_within}
use Rattle.run_laws.proofs.PartBytes.{find_only}
use Rattle.run_laws.proofs.FirstPlaces.{IsFirstAt, first_at, none_at, name_is, in_pairs}

-- ---- names of sections

names_apart : (P : Laid) → IsLinkable P → Pairs (λ (a b : Name). a ≢ b) (map (λ (x : Section). x.name) (filter (λ (x : Section). not (is_private_kind x.kind)) P.program.sections))
names_apart P link =
    front own labels (front (own ++ labels) (map (λ (x : Unknown). x.name) P.program.unresolved)
    (pairs_from_all (λ (a b : Name). a ≢ b) (names_of P.program) link.sound.names_differ))
  where
    own : List Name
    own = map (λ (x : Section). x.name) (filter (λ (x : Section). not (is_private_kind x.kind)) P.program.sections)

    labels : List Name
    labels = map (λ (x : Label). x.name) P.program.labels

    front : (xs ys : List Name) → Pairs (λ (a b : Name). a ≢ b) (xs ++ ys) → Pairs (λ (a b : Name). a ≢ b) xs
    front [] ys pairs = tt
    front (x ∷ xs) ys pairs = (each_in_front (λ b. x ≢ b) xs ys pairs.0, front xs ys pairs.1)

-- only one section has the name
one_section : (P : Laid) (name : Name) (i j : ℕ) → IsLinkable P → IsFirstAt (is_section_named name) P.program.sections i
    → IsFirstAt (is_section_named name) P.program.sections j → i ≡ j
one_section P name i j link one other = by_cases (cases_lt i j) (cases_lt j i)
  where
    kept : {k : ℕ} (x : IsFirstAt (is_section_named name) P.program.sections k) → (not (is_private_kind x.item.kind) ≡ true) × (name_eq x.item.name name ≡ true)
    kept x = and_parts (not (is_private_kind x.item.kind)) (name_eq x.item.name name) x.passes

    clash : {k l : ℕ} → IsFirstAt (is_section_named name) P.program.sections k → IsFirstAt (is_section_named name) P.program.sections l → k < l → ⊥
    clash {k = k} {l = l} x y before =
        in_pairs (λ (x : Section). x.name) (λ (x : Section). not (is_private_kind x.kind)) P.program.sections k l x.item y.item (names_apart P link) before x.there y.there
        (kept x).0 (kept y).0 (name_is x.item.name name (kept x).1 ∙ sym (name_is y.item.name name (kept y).1))

    by_cases : (i < j) ⊎ (j ≤ i) → (j < i) ⊎ (i ≤ j) → i ≡ j
    by_cases (inl before) why = absurd (clash one other before)
    by_cases (inr a) (inl after) = absurd (clash other one after)
    by_cases (inr a) (inr b) = omega (arith, a, b)

-- ---- which items are places

and_none : (b : Bool) → (b && false) ≡ false
and_none true = refl
and_none false = refl

by_kind : (x : Section) (kind : SecKind) (name : Name) → HasProperKind x kind → HasNameAs kind x.name
    → (is_named_kind (symbol_kind kind) && name_eq (name_as kind x.name) name && not (is_text_kind (symbol_kind kind) && is_blank (name_as kind x.name))
    && not (is_sd (symbol_kind kind) && is_reserved (name_as kind x.name)))
    ≡ (not (is_private_kind kind) && name_eq x.name name)
by_kind x Sd name proper named =
    ap (λ b. name_eq x.name name && not b && not (is_reserved x.name)) named ∙ ap (λ b. name_eq x.name name && true && not b) proper
    ∙ twice (name_eq x.name name)
  where
    twice : (b : Bool) → (b && true && true) ≡ b
    twice true = refl
    twice false = refl
by_kind x Pc name proper named = refl
by_kind x Cm name proper named = twice (name_eq x.name name)
  where
    twice : (b : Bool) → (b && true && true) ≡ b
    twice true = refl
    twice false = refl

section_is_place : (P : Laid) (i : ℕ) (x : Section) (name : Name) → IsLinkable P → IsRunnable P → slice_get P.program.sections i ≡ Some x
    → is_place name (part_symbol P (OneSection i)) ≡ is_section_named name x
section_is_place P i x name link runs there =
    ap (λ o. let kind = option_map_or (λ (y : Section). y.kind) o Sd in let own = option_map_or (λ (y : Section). name_as y.kind y.name) o blank_name in
    is_named_kind (symbol_kind kind) && name_eq own name && not (is_text_kind (symbol_kind kind) && is_blank own) && not (is_sd (symbol_kind kind) && is_reserved own)) there
    ∙ by_kind x x.kind name (of_all IsSoundSection P.program.sections i x link.sound.sections there).kind
    (of_all (λ (y : Section). HasNameAs y.kind y.name) P.program.sections i x runs.named there)

table_is_none : (P : Laid) (name : Name) → (is_place name (part_symbol P SegmentTable) ≡ false) × ((s : ℕ) → is_place name (part_symbol P (EntryTable s)) ≡ false)
table_is_none P name = (and_none _, λ s. and_none _)

none_behind : (P : Laid) (name : Name) → Each (λ x. is_place name x ≡ false) (after_parts P)
none_behind P name =
    each_append _ (map (label_symbol P) P.program.labels) _
    (each_map _ (label_symbol P) P.program.labels (each_always _ P.program.labels (λ y. refl)))
    (each_append _ (map unresolved_symbol P.program.unresolved) _
    (each_map _ unresolved_symbol P.program.unresolved (each_always _ P.program.unresolved (λ y. weak_or_not (unresolved_symbol y) y.weak)))
    (each_map _ (register_symbol P.program.registers) _ (each_always _ _ (λ y. refl))))
  where
    weak_or_not : (x : SymbolItem) (weak : Bool) → is_place name (record x { kind = if weak then Wx else Er }) ≡ false
    weak_or_not x true = refl
    weak_or_not x false = refl

-- ---- the spot of a name

-- an item that is a place for the name is that of a section which has it
record IsOfSection (P : Laid) (name : Name) (n : ℕ) (x : SymbolItem) : Type 0 where
  pub number : ℕ
  pub first : IsFirstAt (is_section_named name) P.program.sections number
  pub numbered : n ≡ part_number P (OneSection number)
  pub symbol : x ≡ part_symbol P (OneSection number)

items_of_sections : (P : Laid) (name : Name) → IsLinkable P → IsRunnable P
    → Each (λ (x : ℕ × SymbolItem). is_place name x.1 ≡ true → IsOfSection P name x.0 x.1) (enumerate_from 1 (symbols_written P))
items_of_sections P name link runs =
    each_enumerated (λ (x : ℕ × SymbolItem). is_place name x.1 ≡ true → IsOfSection P name x.0 x.1) 1 (symbols_written P)
    (λ k x there passes. by_place k x passes (get_split (map (part_symbol P) (parts P)) (after_parts P) k x (sym (ap (λ l. slice_get l k) (symbols_are P)) ∙ there)))
  where
    of_part : (k : ℕ) (p : Part) (x : SymbolItem) → slice_get (parts P) k ≡ Some p → part_symbol P p ≡ x → is_place name (part_symbol P p) ≡ true
        → IsOfSection P name (1 + k) x
    of_part k SegmentTable x there is passes = absurd (false≢true (sym (table_is_none P name).0 ∙ passes))
    of_part k (EntryTable s) x there is passes = absurd (false≢true (sym ((table_is_none P name).1 s) ∙ passes))
    of_part k (OneSection i) x there is passes =
        let at : Found P.program.sections i (λ x. Unit {0}) =
        within P.program.sections i (section_within P i (from-part P (OneSection i) (has-at (parts P) k (OneSection i) there))) in
        record {
          number = i;
          first = record { item = at.item; there = at.found; passes = sym (section_is_place P i at.item name link runs at.found) ∙ passes };
          numbered = turned k ∙ sym (number_at P k (OneSection i) there);
          symbol = sym is;
        }
      where
        turned : (k : ℕ) → 1 + k ≡ k + 1
        turned k = omega arith

    by_place : (k : ℕ) (x : SymbolItem) → is_place name x ≡ true → (slice_get (map (part_symbol P) (parts P)) k ≡ Some x) ⊎ Has (after_parts P) x
        → IsOfSection P name (1 + k) x
    by_place k x passes (inl there) =
        let made : Made (part_symbol P) (parts P) k x = made_at (part_symbol P) (parts P) k x there in
        of_part k made.source x made.there made.is (ap (is_place name) made.is ∙ passes)
    by_place k x passes (inr behind) = absurd (false≢true (sym (has-each (λ x. is_place name x ≡ false) (after_parts P) x (none_behind P name) behind) ∙ passes))

pub spot_there : (P : Laid) (m : Fetched) (name : Name) (i : ℕ) → IsLinkable P → IsRunnable P → m.facts.symbols ≡ symbols_written P
    → section_named P.program name ≡ Some i → (i < length P.program.sections) × (spot_of m name ≡ Some (spot_at P i))
spot_there P m name i link runs symbols named = (
  inside,
  ap (λ l. option_map spot (find (λ (x : ℕ × SymbolItem). is_place name x.1) (enumerate_from 1 l))) symbols
      ∙ ap (option_map spot)
      (find_only (λ (x : ℕ × SymbolItem). is_place name x.1) (enumerate_from 1 (symbols_written P)) (part_number P (OneSection i), part_symbol P (OneSection i))
      (subst (λ k. Among (k, part_symbol P (OneSection i)) (enumerate_from 1 (symbols_written P))) (turned number.place ∙ sym number.number)
      (among_enumerated 1 (symbols_written P) number.place (part_symbol P (OneSection i))
      (sym (symbol-next (symbols_written P) number.place (part_number P (OneSection i)) number.number) ∙ item_of_part P (OneSection i) among)))
      (section_is_place P i first.item name link runs first.there ∙ first.passes)
      (λ x there passes.
      same x (at_one (λ (x : ℕ × SymbolItem). is_place name x.1 ≡ true → IsOfSection P name x.0 x.1) x (enumerate_from 1 (symbols_written P)) (items_of_sections P name link runs) there passes))),
)
  where
    spot : ℕ × SymbolItem → Spot
    spot x = record { number = x.0; item = x.1 }

    first : IsFirstAt (is_section_named name) P.program.sections i
    first = first_at (is_section_named name) P.program.sections i named

    inside : i < length P.program.sections
    inside = slice_get_within P.program.sections i first.item first.there

    among : Among (OneSection i) (parts P)
    among = section_is_part P i link inside

    number : HasNumber P (OneSection i)
    number = has_number P (OneSection i) among

    turned : (k : ℕ) → 1 + k ≡ k + 1
    turned k = omega arith

    same : (x : ℕ × SymbolItem) → IsOfSection P name x.0 x.1 → x ≡ (part_number P (OneSection i), part_symbol P (OneSection i))
    same x is =
        let one : is.number ≡ i = one_section P name is.number i link is.first first in
        ap (λ k. (k, x.1)) (is.numbered ∙ ap (λ k. part_number P (OneSection k)) one)
        ∙ ap (λ y. (part_number P (OneSection i), y)) (is.symbol ∙ ap (λ k. part_symbol P (OneSection k)) one)

pub spot_not_there : (P : Laid) (m : Fetched) (name : Name) → IsLinkable P → IsRunnable P → m.facts.symbols ≡ symbols_written P
    → section_named P.program name ≡ None → spot_of m name ≡ None
spot_not_there P m name link runs symbols named =
    ap (λ l. option_map spot (find (λ (x : ℕ × SymbolItem). is_place name x.1) (enumerate_from 1 l))) symbols
    ∙ ap (option_map spot)
    (none_found (λ (x : ℕ × SymbolItem). is_place name x.1) (enumerate_from 1 (symbols_written P))
    (each_weaker (λ (x : ℕ × SymbolItem). is_place name x.1 ≡ true → IsOfSection P name x.0 x.1) (λ (x : ℕ × SymbolItem). is_place name x.1 ≡ false) _
    (λ x tells. not_true (is_place name x.1) (λ passes. none (tells passes))) (items_of_sections P name link runs)))
  where
    spot : ℕ × SymbolItem → Spot
    spot x = record { number = x.0; item = x.1 }

    not_true : (b : Bool) → (b ≡ true → ⊥) → b ≡ false
    not_true true fails = absurd (fails refl)
    not_true false fails = refl

    none : {n : ℕ} {x : SymbolItem} → IsOfSection P name n x → ⊥
    none is =
        false≢true
        (sym (each_got (λ x. is_section_named name x ≡ false) P.program.sections is.number is.first.item (none_at (is_section_named name) P.program.sections named) is.first.there)
        ∙ is.first.passes)
