-- Runs of a written member without overlay whose sections are scattered over areas.
use Rattle.std.proofs.Common.{◌≡◌, ◌≢◌, ◌⊎◌, inl, inr, ℕ, ◌+◌, ◌<◌, ◌≤◌, Bool, true, false, List, [], ◌∷◌, map, length, slice_index, Some, refl, sym, ap, ◌∙◌, subst, arith}
use Rattle.std.proofs.lemmas.Bool.{false≢true, cases_lt, ltb-false}
use Rattle.std.proofs.lemmas.List.{get_or-map}
use Rattle.std.proofs.lemmas.Option.{get_or_from_slice_get, slice_get_within}
use Rattle.pds_directory.specs.declared.entry.Entry.{Entry}
use Rattle.pds_lib.specs.Stow.{main_entry}
use Rattle.sym_mod.specs.Sound.{IsSymbolOf}
use Rattle.sym_mod.specs.declared.program.Section.{Section}
use Rattle.sym_mod.specs.declared.program.Target.{Target}
use Rattle.linking_model.specs.Places.{Laid, is_overlay, entry_count, length_of_section}
use Rattle.linking_model.specs.Scattered.{Area, scattered}
use Rattle.linking_model.specs.Tables.{is_defined}
use Rattle.linking_model.specs.Linked.{spread, address_of}
use Rattle.member_model.specs.Facts.{Facts, no_facts, walked}
use Rattle.member_model.specs.Fetched.{fetched_over}
use Rattle.member_model.specs.Loaded.{in_places}
use Rattle.member_model.specs.SymbolList.{symbols_written}
use Rattle.member_model.specs.Parts.{Part, SegmentTable, OneSection, EntryTable, parts, part_number, part_length}
use Rattle.member_model.specs.StandsFor.{AreAreas}
use Rattle.member_model.specs.Written.{written_bytes, member_written}
use Rattle.member_laws.specs.Linkable.{IsLinkable, IsFormat}
use Rattle.member_laws.specs.Gathered.{head_facts, with_segment}
use Rattle.member_laws.proofs.LoadingAlone.{table_empty, no_segtab}
use Rattle.member_laws.proofs.LoadingAreas.{are_ordered, scattered_apart}
use Rattle.member_laws.proofs.LoadingLists.{Among}
use Rattle.member_laws.proofs.LoadingScatter.{at_address, scattered_load_linked}
use Rattle.member_laws.proofs.LoadingSymbols.{length_mapped}
use Rattle.member_laws.proofs.LoadingTargets.{Found, within, home, away, is_in_section}
use Rattle.member_laws.proofs.Membership.{Has}
use Rattle.member_laws.proofs.Numbered.{IsPart, from-part}
use Rattle.member_laws.proofs.Standing.{IsPartOf, length-at}
use Rattle.member_laws.proofs.SymbolsFine.{Describes, is-overlay}
use Rattle.run_laws.specs.Running.{member_over, ScatteredRunsGoAlike}
use Rattle.run_laws.proofs.FetchedMembers.{IsFetched, part_at, root_facts, root_symbols, root_notes, root_fields, root_held}
use Rattle.run_laws.proofs.FoundTables.{section_within, stands_in}
use Rattle.run_laws.proofs.PartBytes.{KeepsApart}
use Rattle.run_laws.proofs.PartsApart.{AreApart}
use Rattle.run_laws.proofs.DirectCalls.{plain_reaches}
use Rattle.run_laws.proofs.ResidentPaths.{resident_within}
use Rattle.run_laws.proofs.RunsAlike.{run_alike}
use Rattle.run_laws.proofs.ScatteredPlaces.{are_low, scattered_low}

-- ---- sections alone

no_table : (P : Laid) (s : ℕ) → IsLinkable P → is_overlay P.tree ≡ false → 1 ≤ s → s ≤ length P.tree → 0 < entry_count P s → ⊥
no_table P s link plain low high some =
    nothing (entry_count P s) (ap (entry_count P) (one s (length P.tree) low high (ltb-false 1 (length P.tree) plain)) ∙ table_empty P link plain) some
  where
    one : (s n : ℕ) → 1 ≤ s → s ≤ n → n ≤ 1 → s ≡ 1
    one s n low high short = omega (arith, low, high, short)

    nothing : (e : ℕ) → e ≡ 0 → 0 < e → ⊥
    nothing e none some = omega (arith, none, some)

has_of_among : {X : Type 0} (xs : List X) (x : X) → Among x xs → Has xs x
has_of_among [] x there = there
has_of_among (y ∷ ys) x (inl same) = inl same
has_of_among (y ∷ ys) x (inr later) = inr (has_of_among ys x later)

-- ---- the member

pub fetched_scattered : (P : Laid) (scatter : Bool) (n : ℕ) (e : Entry) (areas : List Area) (addresses : List ℕ) → IsLinkable P → IsFormat P scatter n
    → Describes P scatter e → is_overlay P.tree ≡ false → AreAreas 0 areas → scattered areas (map (λ (x : Section). x.length) P.program.sections) ≡ Some addresses
    → IsFetched P scatter n (spread addresses) (fetched_over e (written_bytes P scatter n) addresses)
fetched_scattered P scatter n e areas addresses link format describes plain are placed = record {
  records = refl;
  facts = facts;
  symbols = symbols;
  notes = ap (λ (G : Facts). G.notes) facts ∙ root_notes P scatter n;
  fields = ap (λ (G : Facts). G.fields) facts ∙ root_fields P scatter n;
  overlay = is-overlay P scatter e describes;
  length = describes.length;
  parts = λ x among. of_part x (from-part P x (has_of_among (parts P) x among));
  ranges = λ s over. absurd (false≢true (sym plain ∙ over));
  storage = scattered_load_linked P n areas addresses F link plain format.some are placed (root_held P scatter n link format);
}
  where
    F : Facts
    F = walked 1 no_facts (written_bytes P scatter n)

    facts : F ≡ with_segment P n 1 (head_facts P scatter n)
    facts = root_facts P scatter n link format

    symbols : F.symbols ≡ symbols_written P
    symbols = ap (λ (G : Facts). G.symbols) facts ∙ root_symbols P scatter n

    of_part : (x : Part) → IsPart P x → in_places F.symbols addresses (part_number P x) ≡ part_at (spread addresses) x
    of_part SegmentTable part = absurd (false≢true (sym (no_segtab P.tree part.in_segment plain) ∙ part.is))
    of_part (EntryTable s) part = absurd (no_table P part.in_segment link plain part.low part.high part.is.1)
    of_part (OneSection i) part = at_address P addresses F.symbols i link plain symbols (section_within P i part)

-- ---- its sections are apart

length_told : (P : Laid) (i : ℕ) → i < length P.program.sections
    → slice_index (map (λ (x : Section). x.length) P.program.sections) i ≡ length_of_section P.program i
length_told P i inside =
    let at : Found P.program.sections i (λ x. Unit {0}) = within P.program.sections i inside in
    get_or-map (λ (x : Section). x.length) P.program.sections i at.item 0 inside
    ∙ ap (λ (x : Section). x.length) (get_or_from_slice_get P.program.sections i at.item at.item at.found)
    ∙ sym (length-at P i at.item at.found)

pub scattered_keeps_apart : (P : Laid) (areas : List Area) (addresses : List ℕ) → IsLinkable P → is_overlay P.tree ≡ false → AreAreas 0 areas
    → scattered areas (map (λ (x : Section). x.length) P.program.sections) ≡ Some addresses → KeepsApart P (spread addresses)
scattered_keeps_apart P areas addresses link plain are placed = record {
  apart = λ resident s t x y residents one other first second differ.
      of_parts x y s t (resident_within P.tree resident s residents one) (resident_within P.tree resident t residents other) first second differ;
}
  where
    in_program : (s i : ℕ) → IsPartOf P s (OneSection i) → i < length P.program.sections
    in_program s i part = slice_get_within P.program.sections i part.section part.there

    in_order : (i j : ℕ) → i < j → j < length P.program.sections
        → AreApart (slice_index addresses i) (length_of_section P.program i) (slice_index addresses j) (length_of_section P.program j)
    in_order i j before inside =
        subst (λ k. AreApart (slice_index addresses i) k (slice_index addresses j) (length_of_section P.program j)) (length_told P i (omega (arith, before, inside)))
        (subst (λ k. AreApart (slice_index addresses i) (slice_index (map (λ (x : Section). x.length) P.program.sections) i) (slice_index addresses j) k) (length_told P j inside)
        (scattered_apart 0 areas (map (λ (x : Section). x.length) P.program.sections) addresses i j (are_ordered 0 areas are) placed before
        (subst (λ n. j < n) (length_mapped (λ (x : Section). x.length) P.program.sections) inside)))

    turned : (a k b l : ℕ) → AreApart a k b l → AreApart b l a k
    turned a k b l (inl before) = inr before
    turned a k b l (inr after) = inl after

    sections : (i j : ℕ) → i < length P.program.sections → j < length P.program.sections → i ≢ j
        → AreApart (slice_index addresses i) (length_of_section P.program i) (slice_index addresses j) (length_of_section P.program j)
    sections i j inside here differ = by_cases (cases_lt i j) (cases_lt j i)
      where
        by_cases : (i < j) ⊎ (j ≤ i) → (j < i) ⊎ (i ≤ j)
            → AreApart (slice_index addresses i) (length_of_section P.program i) (slice_index addresses j) (length_of_section P.program j)
        by_cases (inl before) why = in_order i j before here
        by_cases (inr a) (inl after) =
            turned (slice_index addresses j) (length_of_section P.program j) (slice_index addresses i) (length_of_section P.program i) (in_order j i after inside)
        by_cases (inr a) (inr b) = absurd (differ (omega (arith, a, b)))

    of_parts : (x y : Part) (s t : ℕ) → (1 ≤ s) × (s ≤ length P.tree) → (1 ≤ t) × (t ≤ length P.tree) → IsPartOf P s x → IsPartOf P t y → x ≢ y
        → AreApart (part_at (spread addresses) x) (part_length P x) (part_at (spread addresses) y) (part_length P y)
    of_parts SegmentTable y s t low high first second differ = absurd (false≢true (sym (no_segtab P.tree s plain) ∙ first))
    of_parts (EntryTable r) y s t low high first second differ = absurd (no_table P s link plain low.0 low.1 first.1)
    of_parts (OneSection i) SegmentTable s t low high first second differ = absurd (false≢true (sym (no_segtab P.tree t plain) ∙ second))
    of_parts (OneSection i) (EntryTable r) s t low high first second differ = absurd (no_table P t link plain high.0 high.1 second.1)
    of_parts (OneSection i) (OneSection j) s t low high first second differ =
        sections i j (in_program s i first) (in_program t j second) (λ same. differ (ap (λ k. OneSection k) same))

-- ---- addresses are small

scattered_small : (P : Laid) (areas : List Area) (addresses : List ℕ) (y : Target) → IsLinkable P → AreAreas 0 areas
    → scattered areas (map (λ (x : Section). x.length) P.program.sections) ≡ Some addresses → IsSymbolOf P.program y → is_defined y ≡ true
    → address_of P.program (spread addresses) y < 16777216
scattered_small P areas addresses y link are placed symbol defined =
    let at = is_in_section P y link symbol defined in
    let stands : Found P.program.sections (home P.program y) (λ x. away P.program y ≤ x.length) = stands_in P y link symbol defined in
    subst (λ v. v < 16777216) (sym (at.address (spread addresses)))
    (below (slice_index addresses (home P.program y)) (away P.program y) stands.item.length _ stands.holds
    (sym (length-at P (home P.program y) stands.item stands.found) ∙ sym (length_told P (home P.program y) at.inside))
    (scattered_low areas (map (λ (x : Section). x.length) P.program.sections) addresses (home P.program y) (are_low 0 areas are).1 placed
    (subst (λ n. home P.program y < n) (length_mapped (λ (x : Section). x.length) P.program.sections) at.inside)))
  where
    below : (a o l k : ℕ) → o ≤ l → l ≡ k → a + k ≤ 16777215 → a + o < 16777216
    below a o l k within same last = omega (arith, within, same, last)

-- ---- the law

pub scattered_runs_go_alike : ScatteredRunsGoAlike
scattered_runs_go_alike P scatter n who areas addresses events link runs format plain are placed =
    run_alike P scatter n (spread addresses) (member_over P scatter n who addresses) events
    (record {
      link = link;
      runs = runs;
      some = format.some;
      fetched = is;
      keeps = scattered_keeps_apart P areas addresses link plain are placed;
      reaches =
          plain_reaches P scatter n (spread addresses) (member_over P scatter n who addresses) link is plain
          (λ y symbol defined. scattered_small P areas addresses y link are placed symbol defined);
    })
  where
    is : IsFetched P scatter n (spread addresses) (member_over P scatter n who addresses)
    is = fetched_scattered P scatter n (main_entry (member_written P scatter n who)) areas addresses link format (record { attr = refl; length = refl }) plain are placed
