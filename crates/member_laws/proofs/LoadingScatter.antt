-- Scattered over areas, a program without overlay is as it is linked there.
use Rattle.std.proofs.Common.{arith, ◌≡◌, ◌⊎◌, inl, inr, ℕ, ◌+◌, ◌-◌, ◌<◌, ◌≤◌, false, List, map, length, slice_index, sym, ◌∙◌, ap, subst, Some}
use Rattle.std.specs.Option.{option_map_or}
use Rattle.std.specs.List.{range_with_len}
use Rattle.std.proofs.lemmas.Bool.{false≢true}
use Rattle.std.proofs.lemmas.List.{get_or-map}
use Rattle.std.proofs.lemmas.Option.{get_or_from_slice_get}
use Rattle.sym_mod.specs.declared.program.Section.{Section}
use Rattle.load_recs.specs.declared.items.SymbolItem.{SymbolItem}
use Rattle.linking_model.specs.Places.{Laid, is_overlay, entry_count}
use Rattle.linking_model.specs.Scattered.{Area, scattered}
use Rattle.linking_model.specs.Linked.{spread}
use Rattle.member_model.specs.SymbolList.{symbols_written}
use Rattle.member_model.specs.Symbols.{section_rank}
use Rattle.member_model.specs.Parts.{OneSection, part_number, part_bytes}
use Rattle.member_model.specs.Loaded.{in_places}
use Rattle.member_model.specs.StandsFor.{AreAreas}
use Rattle.member_laws.specs.Linkable.{IsLinkable}
use Rattle.member_laws.specs.Storing.{ScatteredLoadLinked}
use Rattle.member_laws.proofs.LoadingLists.{Pairs, pairs_map, pairs_of_places}
use Rattle.member_laws.proofs.LoadingFields.{Apart}
use Rattle.member_laws.proofs.LoadingTargets.{Found, within, section_is_part}
use Rattle.member_laws.proofs.LoadingConstants.{Agree}
use Rattle.member_laws.proofs.LoadingSections.{size_of_section}
use Rattle.member_laws.proofs.LoadingSegment.{Fits, segment_loads}
use Rattle.member_laws.proofs.LoadingAreas.{are_ordered, scattered_apart}
use Rattle.member_laws.proofs.LoadingAlone.{tree_is, all_direct, table_empty, no_segtab, parts_are_sections, section_number, part_rank}
use Rattle.member_laws.proofs.LoadingSymbols.{length_mapped}

-- a section stands at its own address
pub at_address : (P : Laid) (addresses : List ℕ) (symbols : List SymbolItem) (i : ℕ) → IsLinkable P → is_overlay P.tree ≡ false
    → symbols ≡ symbols_written P → i < length P.program.sections
    → in_places symbols addresses (part_number P (OneSection i)) ≡ slice_index addresses i
at_address P addresses symbols i link plain is inside =
    ap (λ symbols. slice_index addresses (section_rank symbols (part_number P (OneSection i)) - 1)) is
    ∙ (ap (λ n. slice_index addresses (n - 1)) (part_rank P (OneSection i) (section_is_part P i link inside) ∙ section_number P i link plain inside)
    ∙ ap (slice_index addresses) (back i))
  where
    back : (i : ℕ) → i + 1 - 1 ≡ i
    back i = omega arith

places_agree : (P : Laid) (addresses : List ℕ) (symbols : List SymbolItem) → IsLinkable P → is_overlay P.tree ≡ false
    → symbols ≡ symbols_written P → Agree P (in_places symbols addresses) (spread addresses)
places_agree P addresses symbols link plain is = record {
  section = λ i inside. at_address P addresses symbols i link plain is inside;
  called = λ i j b y inside symbol defined away. absurd (false≢true (sym away ∙ all_direct P i y link plain inside symbol defined));
}

length_at : (P : Laid) (i : ℕ) → i < length P.program.sections
    → slice_index (map (λ (x : Section). x.length) P.program.sections) i ≡ length (part_bytes P (OneSection i))
length_at P i inside =
    let at : Found P.program.sections i (λ x. Unit {0}) = within P.program.sections i inside in
    get_or-map (λ (x : Section). x.length) P.program.sections i at.item 0 inside
    ∙ (ap (λ (x : Section). x.length) (get_or_from_slice_get P.program.sections i at.item at.item at.found)
    ∙ sym (size_of_section P i ∙ ap (λ o. option_map_or (λ x. x.length) o 0) at.found))

sections_apart : (P : Laid) (areas : List Area) (addresses : List ℕ) (symbols : List SymbolItem) (i j : ℕ) → IsLinkable P
    → is_overlay P.tree ≡ false → AreAreas 0 areas → scattered areas (map (λ x. x.length) P.program.sections) ≡ Some addresses
    → symbols ≡ symbols_written P → i < j → j < length P.program.sections → Apart P (in_places symbols addresses) (OneSection i) (OneSection j)
sections_apart P areas addresses symbols i j link plain are placed is before below = record {
  differ = differ i j before;
  apart =
      sides (slice_index addresses i) (slice_index addresses j) (slice_index lengths i) (slice_index lengths j) _ _ _ _
      (at_address P addresses symbols i link plain is first) (at_address P addresses symbols j link plain is below)
      (length_at P i first) (length_at P j below)
      (scattered_apart 0 areas lengths addresses i j (are_ordered 0 areas are) placed before
      (subst (λ n. j < n) (length_mapped (λ (x : Section). x.length) P.program.sections) below));
}
  where
    lengths : List ℕ
    lengths = map (λ (x : Section). x.length) P.program.sections

    first : i < length P.program.sections
    first = omega (arith, before, below)

    differ : (i j : ℕ) → i < j → OneSection i ≡ OneSection j → ⊥
    differ i j before same = omega (arith, before, number i j same)
      where
        number : (i j : ℕ) → OneSection i ≡ OneSection j → i ≡ j
        number i j same = cc

    sides : (a b k l a' b' k' l' : ℕ) → a' ≡ a → b' ≡ b → k ≡ k' → l ≡ l' → (a + k ≤ b) ⊎ (b + l ≤ a) → (a' + k' ≤ b') ⊎ (b' + l' ≤ a')
    sides a b k l a' b' k' l' p q r s (inl x) = inl (omega (arith, p, q, r, x))
    sides a b k l a' b' k' l' p q r s (inr y) = inr (omega (arith, p, q, s, y))

pub places_fit : (P : Laid) (areas : List Area) (addresses : List ℕ) (symbols : List SymbolItem) → IsLinkable P → is_overlay P.tree ≡ false
    → AreAreas 0 areas → scattered areas (map (λ x. x.length) P.program.sections) ≡ Some addresses → symbols ≡ symbols_written P
    → Fits P (in_places symbols addresses) (spread addresses) 1
places_fit P areas addresses symbols link plain are placed is = record {
  agree = places_agree P addresses symbols link plain is;
  segment_table = λ has. absurd (false≢true (sym (no_segtab P.tree 1 plain) ∙ has));
  table = λ some. absurd (none (entry_count P 1) (table_empty P link plain) some);
  apart =
      subst (Pairs (Apart P (in_places symbols addresses))) (sym (parts_are_sections P link plain))
      (pairs_map (Apart P (in_places symbols addresses)) (λ i. OneSection i) (range_with_len 0 (length P.program.sections))
      (pairs_of_places _ 0 (length P.program.sections)
      (λ i j low before high. sections_apart P areas addresses symbols i j link plain are placed is before (omega (arith, high)))));
}
  where
    none : (n : ℕ) → n ≡ 0 → 0 < n → ⊥
    none n is some = omega arith

pub scattered_load_linked : ScatteredLoadLinked
scattered_load_linked P n areas addresses F link plain some are placed holds a =
    segment_loads P n 1 F (in_places F.symbols addresses) (spread addresses) a link some (omega arith)
    (subst (λ k. 1 ≤ k) (sym (ap length (tree_is P link plain))) (omega arith)) holds
    (places_fit P areas addresses F.symbols link plain are placed holds.symbols)
