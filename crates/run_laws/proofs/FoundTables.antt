-- Which entry table has an address: at most one of resident segments, and none has that of a section or label.
use Rattle.std.proofs.Common.{◌≡◌, ◌≢◌, ◌⊎◌, inl, inr, ℕ, zero, suc, ◌+◌, ◌<◌, ◌≤◌, Bool, true, false, ◌&&◌, ◌||◌, cond, if◌then◌else◌, List, [], ◌∷◌, ◌++◌, map, find, filter_map, length, Option, Some, None, slice_get, refl, sym, ap, ◌∙◌, subst, arith}
use Rattle.std.specs.Prelude.{nat_le, nat_lt}
use Rattle.std.specs.List.{AllByRecursion as Each, enumerate_from, cons_option}
use Rattle.std.proofs.lemmas.Bool.{false≢true, and_parts, and_from, le-leb, leb-true, ltb-true}
use Rattle.std.proofs.lemmas.Option.{none-some, slice_get_within}
use Rattle.le_bytes.specs.Names.{name_eq}
use Rattle.sym_mod.specs.Reserved.{segment_table, entry_table}
use Rattle.sym_mod.specs.Sound.{HasProperKind, IsSoundSection, IsSoundLabel, IsSymbolOf}
use Rattle.sym_mod.specs.declared.program.Program.{Program}
use Rattle.sym_mod.specs.declared.program.Label.{Label}
use Rattle.sym_mod.specs.declared.program.Target.{Target}
use Rattle.sym_mod.specs.declared.program.Target.TheVariants.{Section as InSection, Label as AtLabel, Unresolved, Register as OfRegister, Total}
use Rattle.linking_model.specs.Tables.{is_defined, segment_of}
use Rattle.std.specs.Option.{option_map_or}
use Rattle.sym_mod.specs.declared.program.Section.{Section}
use Rattle.sym_mod.specs.declared.program.SecKind.{SecKind}
use Rattle.sym_mod.specs.declared.program.SecKind.TheVariants.{Sd, Pc, Cm}
use Rattle.load_recs.specs.declared.items.SymbolItem.{SymbolItem}
use Rattle.load_recs.specs.declared.items.SymbolKind.TheVariants.{Er, Wx}
use Rattle.linking_model.specs.Tree.{is_in}
use Rattle.linking_model.specs.Places.{Laid, is_overlay, entab_length, entry_count, place, table_place, segment_of_section, length_of_section}
use Rattle.linking_model.specs.Linked.{Placement, block}
use Rattle.linking_model.specs.Run.{Storage}
use Rattle.member_model.specs.Symbols.{is_sd, is_sd_named}
use Rattle.member_model.specs.SymbolList.{symbols_written, symbol_kind, part_symbol, label_symbol, unresolved_symbol, register_symbol}
use Rattle.member_model.specs.Parts.{Part, SegmentTable, OneSection, EntryTable, parts, part_number, part_segment, section_kind, section_name, name_as, blank_name}
use Rattle.member_model.specs.Fetched.{Fetched}
use Rattle.member_model.specs.Segments.{count, is_resident}
use Rattle.member_model.specs.Calling.{Range, is_present, table_of, is_in_table, table_with}
use Rattle.pds_lib.specs.Stow.{main_entry}
use Rattle.member_model.specs.Written.{member_written}
use Rattle.member_laws.specs.Linkable.{IsLinkable}
use Rattle.member_laws.proofs.LoadingLists.{Among, each_append, each_map, each_always}
use Rattle.member_laws.proofs.LoadingSymbols.{item_of_part, after_parts, symbols_are}
use Rattle.member_laws.proofs.LoadingTargets.{Found, there, within, of_all, home, away, is_in_section}
use Rattle.member_laws.proofs.Membership.{Has, has-at, has-each}
use Rattle.member_laws.proofs.Distinct.{number_at}
use Rattle.member_laws.proofs.Numbered.{IsPart, has-part, from-part, IsNumbered, is-numbered}
use Rattle.member_laws.proofs.Targets.{symbol-next}
use Rattle.member_laws.proofs.Standing.{IsPartOf, segment-at, length-at}
use Rattle.std.proofs.lemmas.Bool.Decides.{eqb_tells}
use Rattle.run_laws.proofs.PartsApart.{AreApart, parts_apart}
use Rattle.run_laws.proofs.ResidentPaths.{resident_within}
use Rattle.run_laws.specs.EntryTables.{ReadsTable, table_range, member_at, OneTableIsFound, DirectAddressesAreInNoTable}
use Rattle.run_laws.specs.Residents.{AreResident}
use Rattle.run_laws.proofs.FetchedMembers.{IsFetched, fetched_in_block, count_is}
use Rattle.run_laws.proofs.SegmentTables.{resident_is, among_of_has}

-- ---- lists

pub get_split : {X : Type 0} (xs ys : List X) (k : ℕ) (x : X) → slice_get (xs ++ ys) k ≡ Some x → (slice_get xs k ≡ Some x) ⊎ Has ys x
get_split [] ys k x there = inr (has-at ys k x there)
get_split (z ∷ zs) ys zero x there = inl there
get_split (z ∷ zs) ys (suc k) x there = get_split zs ys k x there

-- the element from which one of a list was made
pub record Made {X Y : Type 0} (f : X → Y) (xs : List X) (k : ℕ) (y : Y) : Type 0 where
  pub source : X
  pub there : slice_get xs k ≡ Some source
  pub is : f source ≡ y

pub made_at : {X Y : Type 0} (f : X → Y) (xs : List X) (k : ℕ) (y : Y) → slice_get (map f xs) k ≡ Some y → Made f xs k y
made_at f [] k y there = absurd (none-some y there)
made_at f (x ∷ xs) zero y there = record { source = x; there = refl; is = same (f x) y there }
  where
    same : {Y : Type 0} (z y : Y) → Some z ≡ Some y → z ≡ y
    same z y is = cc
made_at f (x ∷ xs) (suc k) y there =
    let rest : Made f xs k y = made_at f xs k y there in record { source = rest.source; there = rest.there; is = rest.is }

pub each_filter_map : {X Y : Type 0} (Q : Y → Type 0) (h : X → Option Y) (xs : List X) → Each (λ x. (y : Y) → h x ≡ Some y → Q y) xs → Each Q (filter_map h xs)
each_filter_map Q h [] all = tt
each_filter_map {Y = Y} Q h (x ∷ xs) all = by_cases (h x) refl (each_filter_map Q h xs all.1)
  where
    by_cases : (o : Option Y) → h x ≡ o → Each Q (filter_map h xs) → Each Q (cons_option o (filter_map h xs))
    by_cases None none rest = rest
    by_cases (Some y) some rest = (all.0 y some, rest)

pub each_enumerated : {X : Type 0} (Q : ℕ × X → Type 0) (a : ℕ) (xs : List X) → ((k : ℕ) (x : X) → slice_get xs k ≡ Some x → Q (a + k, x)) → Each Q (enumerate_from a xs)
each_enumerated Q a [] holds = tt
each_enumerated Q a (x ∷ xs) holds = (
  subst (λ n. Q (n, x)) (plain a) (holds 0 x refl),
  each_enumerated Q (a + 1) xs (λ k y there. subst (λ n. Q (n, y)) (moved a k) (holds (suc k) y there)),
)
  where
    plain : (a : ℕ) → a + 0 ≡ a
    plain a = omega arith

    moved : (a k : ℕ) → a + suc k ≡ a + 1 + k
    moved a k = omega arith

-- ---- which items are tables

second_false : (a b : Bool) → (a || b) ≡ false → b ≡ false
second_false true b none = absurd (false≢true (sym none))
second_false false b none = none

by_kind : (x : Section) (k : SecKind) → HasProperKind x k → (is_sd (symbol_kind k) && name_eq (name_as k x.name) entry_table) ≡ false
by_kind x Sd proper = second_false (name_eq x.name segment_table) (name_eq x.name entry_table) proper
by_kind x Pc proper = refl
by_kind x Cm proper = refl

pub not_named : (P : Laid) (i : ℕ) → IsLinkable P → i < length P.program.sections → (is_sd (symbol_kind (section_kind P i)) && name_eq (section_name P i) entry_table) ≡ false
not_named P i link inside =
    let at : Found P.program.sections i (λ x. Unit {0}) = within P.program.sections i inside in
    ap (λ o. is_sd (symbol_kind (option_map_or (λ (x : Section). x.kind) o Sd))
    && name_eq (option_map_or (λ (x : Section). name_as x.kind x.name) o blank_name) entry_table) at.found
    ∙ by_kind at.item at.item.kind (of_all IsSoundSection P.program.sections i at.item link.sound.sections at.found).kind

pub none_behind : (P : Laid) → Each (λ x. is_sd_named entry_table x ≡ false) (after_parts P)
none_behind P =
    each_append _ (map (label_symbol P) P.program.labels) _
    (each_map _ (label_symbol P) P.program.labels (each_always _ P.program.labels (λ y. refl)))
    (each_append _ (map unresolved_symbol P.program.unresolved) _
    (each_map _ unresolved_symbol P.program.unresolved (each_always _ P.program.unresolved (λ y. weak_or_not y.weak (name_eq y.name entry_table))))
    (each_map _ (register_symbol P.program.registers) _ (each_always _ _ (λ y. refl))))
  where
    weak_or_not : (weak named : Bool) → (is_sd (if weak then Wx else Er) && named) ≡ false
    weak_or_not true named = refl
    weak_or_not false named = refl

-- the range is that of the table of a resident segment
pub record IsTableOf (P : Laid) (Q : Placement) (resident : List ℕ) (r : Range) : Type 0 where
  pub segment : ℕ
  pub resides : is_in segment resident ≡ true
  pub has_entries : 0 < entry_count P segment
  pub is : table_range P Q segment ≡ r

pub none_as : {A : Type 0} (b : Bool) (o : Option A) (r : A) → b ≡ false → (if b then o else None) ≡ Some r → ⊥
none_as b o r fails is = none-some r (sym (ap (λ c. if c then o else None) fails) ∙ is)

pub section_within : (P : Laid) (i : ℕ) → IsPart P (OneSection i) → i < length P.program.sections
section_within P i part = slice_get_within P.program.sections i part.is.section part.is.there

-- the item of a part, where it is a table that is told of
table_of_part : (P : Laid) (scatter : Bool) (n : ℕ) (Q : Placement) (m : Fetched) (resident : List ℕ) (M : Storage) (p : Part) (number : ℕ) (r : Range) → IsLinkable P
    → IsFetched P scatter n Q m → is_overlay P.tree ≡ true → ReadsTable P Q.segtab resident M → IsPart P p → number ≡ part_number P p
    → table_of m M (number, part_symbol P p) ≡ Some r → IsTableOf P Q resident r
table_of_part P scatter n Q m resident M SegmentTable number r link is over reads part numbered told = absurd (none-some r told)
table_of_part P scatter n Q m resident M (OneSection i) number r link is over reads part numbered told =
    absurd (none_as _ _ r (ap (λ b. b && is_present m M (part_segment P (OneSection i))) (not_named P i link (section_within P i part))) told)
table_of_part P scatter n Q m resident M (EntryTable s) number r link is over reads part numbered told = by_presence (is_present m M s) refl told
  where
    among : Among (EntryTable s) (parts P)
    among = among_of_has (parts P) (EntryTable s) (has-part P (EntryTable s) part)

    same : part.in_segment ≡ s
    same = sym part.is.0

    here : m.addresses number ≡ Q.entab s
    here = ap m.addresses numbered ∙ is.parts (EntryTable s) among

    by_presence : (b : Bool) → is_present m M s ≡ b
        → (if b then Some (record { at = m.addresses number; length = entab_length (entry_count P s) }) else None) ≡ Some r → IsTableOf P Q resident r
    by_presence false absent told = absurd (none-some r told)
    by_presence true present told = record {
      segment = s;
      resides =
          sym (resident_is P scatter n Q m resident M s link is over reads (subst (λ k. 1 ≤ k) same part.low) (subst (λ k. k ≤ length P.tree) same part.high))
          ∙ (and_parts (nat_le s (count m)) (is_resident m M s) present).1;
      has_entries = subst (λ k. 0 < entry_count P k) same part.is.1;
      is = ap (λ a. record { at = a; length = entab_length (entry_count P s) }) (sym here) ∙ some _ r told;
    }
      where
        some : (a b : Range) → Some a ≡ Some b → a ≡ b
        some a b is = cc

tables_told : (P : Laid) (scatter : Bool) (n : ℕ) (Q : Placement) (m : Fetched) (resident : List ℕ) (M : Storage) → IsLinkable P
    → IsFetched P scatter n Q m → is_overlay P.tree ≡ true → ReadsTable P Q.segtab resident M
    → Each (IsTableOf P Q resident) (filter_map (table_of m M) (enumerate_from 1 m.facts.symbols))
tables_told P scatter n Q m resident M link is over reads =
    each_filter_map (IsTableOf P Q resident) (table_of m M) (enumerate_from 1 m.facts.symbols)
    (each_enumerated (λ x. (r : Range) → table_of m M x ≡ Some r → IsTableOf P Q resident r) 1 m.facts.symbols
    (λ k x there r told.
    by_place k x r told (get_split (map (part_symbol P) (parts P)) (after_parts P) k x (sym (ap (λ l. slice_get l k) (is.symbols ∙ symbols_are P)) ∙ there))))
  where
    by_place : (k : ℕ) (x : SymbolItem) (r : Range) → table_of m M (1 + k, x) ≡ Some r
        → (slice_get (map (part_symbol P) (parts P)) k ≡ Some x) ⊎ Has (after_parts P) x → IsTableOf P Q resident r
    by_place k x r told (inl there) =
        let made : Made (part_symbol P) (parts P) k x = made_at (part_symbol P) (parts P) k x there in
        table_of_part P scatter n Q m resident M made.source (1 + k) r link is over reads
        (from-part P made.source (has-at (parts P) k made.source made.there))
        (turned k ∙ sym (number_at P k made.source made.there))
        (subst (λ y. table_of m M (1 + k, y) ≡ Some r) (sym made.is) told)
      where
        turned : (k : ℕ) → 1 + k ≡ k + 1
        turned k = omega arith
    by_place k x r told (inr behind) =
        absurd (none_as _ _ r (ap (λ b. b && is_present m M x.segment) (has-each (λ x. is_sd_named entry_table x ≡ false) (after_parts P) x (none_behind P) behind)) told)

-- ---- one table

find_only : (test : Range → Bool) (xs : List Range) (r : Range) → Among r xs → test r ≡ true → Each (λ y. test y ≡ true → y ≡ r) xs → find test xs ≡ Some r
find_only test [] r among passes only = absurd among
find_only test (x ∷ xs) r among passes only = by_test (test x) refl among (λ later. find_only test xs r later passes only.1)
  where
    by_test : (b : Bool) → test x ≡ b → (x ≡ r) ⊎ Among r xs → (Among r xs → find test xs ≡ Some r) → cond b (Some x) (find test xs) ≡ Some r
    by_test true here among rest = ap Some (only.0 here)
    by_test false fails (inl same) rest = absurd (false≢true (sym fails ∙ ap test same ∙ passes))
    by_test false fails (inr later) rest = rest later

pub find_nothing : (test : Range → Bool) (xs : List Range) → Each (λ y. test y ≡ false) xs → find test xs ≡ None
find_nothing test [] fails = refl
find_nothing test (x ∷ xs) fails = rw (fails.0) (find_nothing test xs fails.1)

pub each_more : {X : Type 0} (Q R : X → Type 0) (xs : List X) → ((x : X) → Q x → R x) → Each Q xs → Each R xs
each_more Q R [] more all = tt
each_more Q R (x ∷ xs) more all = (more x all.0, each_more Q R xs more all.1)

abbrev numbered : {X : Type 0} → X → ℕ → ℕ × X
numbered x n = (n, x)

pub among_enumerated : {X : Type 0} (a : ℕ) (xs : List X) (k : ℕ) (x : X) → slice_get xs k ≡ Some x → Among (a + k, x) (enumerate_from a xs)
among_enumerated a [] k x there = absurd (none-some x there)
among_enumerated a (y ∷ ys) zero x there = inl (ap (λ z. numbered z a) (is y x there) ∙ ap (numbered x) (plain a))
  where
    plain : (a : ℕ) → a ≡ a + 0
    plain a = omega arith

    is : {X : Type 0} (y x : X) → Some y ≡ Some x → y ≡ x
    is y x there = cc
among_enumerated {X = X} a (y ∷ ys) (suc k) x there = inr (subst (λ n. Among (n, x) (enumerate_from (a + 1) ys)) (moved a k) (among_enumerated (a + 1) ys k x there))
  where
    moved : (a k : ℕ) → a + 1 + k ≡ a + suc k
    moved a k = omega arith

pub among_filter_map : {X Y : Type 0} (h : X → Option Y) (xs : List X) (x : X) (y : Y) → Among x xs → h x ≡ Some y → Among y (filter_map h xs)
among_filter_map h [] x y among some = absurd among
among_filter_map {Y = Y} h (z ∷ zs) x y (inl same) some = rw (ap h same ∙ some) (inl refl)
among_filter_map {Y = Y} h (z ∷ zs) x y (inr later) some = by_cases (h z) (among_filter_map h zs x y later some)
  where
    by_cases : (o : Option Y) → Among y (filter_map h zs) → Among y (cons_option o (filter_map h zs))
    by_cases None rest = rest
    by_cases (Some w) rest = inr rest

-- the table of a resident segment with entries is told of
table_told : (P : Laid) (scatter : Bool) (n : ℕ) (Q : Placement) (m : Fetched) (resident : List ℕ) (M : Storage) (s : ℕ) → IsLinkable P
    → IsFetched P scatter n Q m → is_overlay P.tree ≡ true → ReadsTable P Q.segtab resident M → 1 ≤ s → s ≤ length P.tree
    → is_in s resident ≡ true → 0 < entry_count P s → Among (table_range P Q s) (filter_map (table_of m M) (enumerate_from 1 m.facts.symbols))
table_told P scatter n Q m resident M s link is over reads low high there some =
    among_filter_map (table_of m M) (enumerate_from 1 m.facts.symbols) (1 + number.place, part_symbol P (EntryTable s)) (table_range P Q s)
    (among_enumerated 1 m.facts.symbols number.place (part_symbol P (EntryTable s))
    (ap (λ l. slice_get l number.place) is.symbols
    ∙ sym (symbol-next (symbols_written P) number.place (part_number P (EntryTable s)) number.number)
    ∙ item_of_part P (EntryTable s) among))
    (ap (λ b. if b then Some (record { at = m.addresses (1 + number.place); length = entab_length (entry_count P s) }) else None) present
    ∙ ap (λ a. Some (record { at = a; length = entab_length (entry_count P s) }))
    (ap m.addresses (turned number.place ∙ sym number.number) ∙ is.parts (EntryTable s) among))
  where
    part : IsPart P (EntryTable s)
    part = record { in_segment = s; low = low; high = high; is = (refl, some) }

    among : Among (EntryTable s) (parts P)
    among = among_of_has (parts P) (EntryTable s) (has-part P (EntryTable s) part)

    number : IsNumbered P (EntryTable s)
    number = is-numbered P (EntryTable s) part

    turned : (k : ℕ) → 1 + k ≡ k + 1
    turned k = omega arith

    present : is_present m M s ≡ true
    present =
        and_from (nat_le s (count m)) (is_resident m M s)
        (le-leb s (count m) (subst (λ k. s ≤ k) (sym (count_is P scatter n Q m link is)) high))
        (resident_is P scatter n Q m resident M s link is over reads low high ∙ there)

-- what an address in a table is between
in_table : (v : ℕ) (r : Range) → is_in_table v r ≡ true → (r.at + 8 ≤ v) × (v < r.at + r.length)
in_table v r there =
    let both = and_parts (nat_le (r.at + 8) v) (nat_lt v (r.at + r.length)) there in
    (leb-true (r.at + 8) v both.0, ltb-true v (r.at + r.length) both.1)

tables_differ : (s t : ℕ) → s ≢ t → EntryTable s ≢ EntryTable t
tables_differ s t differ same = differ (number s t same)
  where
    number : (s t : ℕ) → EntryTable s ≡ EntryTable t → s ≡ t
    number s t same = cc

pub one_table : (P : Laid) (scatter : Bool) (n at : ℕ) (m : Fetched) (resident : List ℕ) (M : Storage) (s v : ℕ) → IsLinkable P
    → IsFetched P scatter n (block P at) m → is_overlay P.tree ≡ true → AreResident P.tree resident → ReadsTable P at resident M
    → is_in s resident ≡ true → 0 < entry_count P s → is_in_table v (table_range P (block P at) s) ≡ true
    → table_with m M v ≡ Some (table_range P (block P at) s)
one_table P scatter n at m resident M s v link is over are reads there some within =
    find_only (is_in_table v) (filter_map (table_of m M) (enumerate_from 1 m.facts.symbols)) (table_range P (block P at) s)
    (table_told P scatter n (block P at) m resident M s link is over reads low.0 low.1 there some) within
    (each_more (IsTableOf P (block P at) resident) (λ r. is_in_table v r ≡ true → r ≡ table_range P (block P at) s) _ only
    (tables_told P scatter n (block P at) m resident M link is over reads))
  where
    low : (1 ≤ s) × (s ≤ length P.tree)
    low = resident_within P.tree resident s are there

    clash : (a p q k l v : ℕ) → AreApart p k q l → (a + p + 8 ≤ v) × (v < a + p + k) → (a + q + 8 ≤ v) × (v < a + q + l) → ⊥
    clash a p q k l v (inl before) one other = omega (arith, before, one.0, one.1, other.0, other.1)
    clash a p q k l v (inr after) one other = omega (arith, after, one.0, one.1, other.0, other.1)

    only : (r : Range) → IsTableOf P (block P at) resident r → is_in_table v r ≡ true → r ≡ table_range P (block P at) s
    only r of_one inside =
        elim (eqb_tells of_one.segment s) as (λ _. r ≡ table_range P (block P at) s) [
          | inl w ↦ sym of_one.is ∙ ap (table_range P (block P at)) w.1
          | inr w ↦
              absurd (clash at (table_place P of_one.segment) (table_place P s) (entab_length (entry_count P of_one.segment)) (entab_length (entry_count P s)) v
              (parts_apart P resident of_one.segment s (EntryTable of_one.segment) (EntryTable s) link are of_one.resides there (refl, of_one.has_entries) (refl, some)
              (tables_differ of_one.segment s w.1))
              (in_table v (table_range P (block P at) of_one.segment) (ap (is_in_table v) of_one.is ∙ inside))
              (in_table v (table_range P (block P at) s) within))
        ]

-- ---- no table

section_differs : (i s : ℕ) → OneSection i ≢ EntryTable s
section_differs i s same = cc

pub no_table : (P : Laid) (scatter : Bool) (n at : ℕ) (m : Fetched) (resident : List ℕ) (M : Storage) (i o : ℕ) → IsLinkable P
    → IsFetched P scatter n (block P at) m → is_overlay P.tree ≡ true → AreResident P.tree resident → ReadsTable P at resident M
    → (at_i : Found P.program.sections i (λ x. o ≤ x.length)) → is_in (segment_of_section P.program i) resident ≡ true
    → table_with m M (at + place P i + o) ≡ None
no_table P scatter n at m resident M i o link is over are reads at_i there =
    find_nothing (is_in_table (at + place P i + o)) (filter_map (table_of m M) (enumerate_from 1 m.facts.symbols))
    (each_more (IsTableOf P (block P at) resident) (λ r. is_in_table (at + place P i + o) r ≡ false) _ misses
    (tables_told P scatter n (block P at) m resident M link is over reads))
  where
    part : IsPartOf P (segment_of_section P.program i) (OneSection i)
    part = record { section = at_i.item; there = at_i.found; here = sym (segment-at P i at_i.item at_i.found) }

    beside : (a p q k l o v : ℕ) → AreApart p k q l → o ≤ k → v ≡ a + p + o → (a + q + 8 ≤ v) × (v < a + q + l) → ⊥
    beside a p q k l o v (inl before) small is inside = omega (arith, before, small, is, inside.0, inside.1)
    beside a p q k l o v (inr after) small is inside = omega (arith, after, small, is, inside.0, inside.1)

    misses : (r : Range) → IsTableOf P (block P at) resident r → is_in_table (at + place P i + o) r ≡ false
    misses r of_one =
        not_true (is_in_table (at + place P i + o) r) (λ inside.
        beside at (place P i) (table_place P of_one.segment) (length_of_section P.program i) (entab_length (entry_count P of_one.segment)) o (at + place P i + o)
        (parts_apart P resident (segment_of_section P.program i) of_one.segment (OneSection i) (EntryTable of_one.segment) link are there of_one.resides part (refl, of_one.has_entries)
        (section_differs i of_one.segment))
        (subst (λ k. o ≤ k) (sym (length-at P i at_i.item at_i.found)) at_i.holds) refl
        (in_table (at + place P i + o) (table_range P (block P at) of_one.segment) (ap (is_in_table (at + place P i + o)) of_one.is ∙ inside)))
      where
        not_true : (b : Bool) → (b ≡ true → ⊥) → b ≡ false
        not_true true fails = absurd (fails refl)
        not_true false fails = refl

-- ---- the laws

pub one_table_is_found : OneTableIsFound
one_table_is_found P scatter n who at resident M s v link format over are reads there some within =
    one_table P scatter n at _ resident M s v link (fetched_in_block P scatter n (main_entry (member_written P scatter n who)) at link format (record { attr = refl; length = refl })) over are reads there some within

-- a section or label stands in its section, or at its end
pub stands_in : (P : Laid) (y : Target) → IsLinkable P → IsSymbolOf P.program y → is_defined y ≡ true
    → Found P.program.sections (home P.program y) (λ x. away P.program y ≤ x.length)
stands_in P (InSection i) link symbol defined =
    let at : Found P.program.sections i (λ x. Unit {0}) = within P.program.sections i symbol in
    record { item = at.item; found = at.found; holds = omega arith }
stands_in P (AtLabel i) link symbol defined =
    let at : Found P.program.labels i (λ x. Unit {0}) = within P.program.labels i symbol in
    let sound : IsSoundLabel P.program at.item = of_all (IsSoundLabel P.program) P.program.labels i at.item link.sound.labels at.found in
    let owner : Found P.program.sections at.item.section (λ s. at.item.offset ≤ s.length) = there P.program.sections at.item.section (λ s. at.item.offset ≤ s.length) sound.inside in
    record {
      item = owner.item;
      found = ap (λ o. slice_get P.program.sections (option_map_or (λ (x : Label). x.section) o 0)) at.found ∙ owner.found;
      holds = subst (λ k. k ≤ owner.item.length) (sym (ap (λ o. option_map_or (λ (x : Label). x.offset) o 0) at.found)) owner.holds;
    }
stands_in P (Unresolved i) link symbol defined = absurd (false≢true defined)
stands_in P (OfRegister i) link symbol defined = absurd (false≢true defined)
stands_in P Total link symbol defined = absurd (false≢true defined)

pub home_segment : (p : Program) (y : Target) → is_defined y ≡ true → segment_of p y ≡ segment_of_section p (home p y)
home_segment p (InSection i) defined = refl
home_segment p (AtLabel i) defined = refl
home_segment p (Unresolved i) defined = absurd (false≢true defined)
home_segment p (OfRegister i) defined = absurd (false≢true defined)
home_segment p Total defined = absurd (false≢true defined)

pub direct_addresses_are_in_no_table : DirectAddressesAreInNoTable
direct_addresses_are_in_no_table P scatter n who at resident M y link format over are reads symbol defined resides =
    ap (table_with (member_at P scatter n who at) M) ((is_in_section P y link symbol defined).address (block P at))
    ∙ no_table P scatter n at _ resident M (home P.program y) (away P.program y) link
    (fetched_in_block P scatter n (main_entry (member_written P scatter n who)) at link format (record { attr = refl; length = refl })) over are reads (stands_in P y link symbol defined)
    (ap (λ s. is_in s resident) (sym (home_segment P.program y defined)) ∙ resides)
