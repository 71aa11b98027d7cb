-- Stores into a section of a resident segment that touch no constant: both runs agree again.
use Rattle.std.proofs.Common.{◌≡◌, ◌≢◌, ◌⊎◌, inl, inr, ℕ, ◌+◌, ◌<◌, ◌≤◌, true, false, ◌&&◌, ◌==◌, List, length, is_some, refl, sym, ap, ◌∙◌, subst, arith}
use Rattle.std.proofs.lemmas.Bool.{false≢true, cases_lt}
use Rattle.std.proofs.lemmas.Bool.Decides.{eqb_tells}
use Rattle.linking_model.specs.Numbers.{is_among}
use Rattle.linking_model.specs.Tree.{is_in}
use Rattle.linking_model.specs.Places.{Laid, segment_of_section, length_of_section}
use Rattle.linking_model.specs.Linked.{Placement, block, constant_at}
use Rattle.linking_model.specs.Run.{Piece, State as SymbolState, is_touched, with_piece, list_piece}
use Rattle.member_model.specs.Calling.{State}
use Rattle.member_model.specs.Parts.{Part, SegmentTable, OneSection, EntryTable, part_length}
use Rattle.member_laws.specs.Linkable.{IsLinkable}
use Rattle.member_laws.proofs.LoadingItems.{among_true, among_before, among_after}
use Rattle.member_laws.proofs.LoadingTargets.{Found, within}
use Rattle.member_laws.proofs.Standing.{IsPartOf, segment-at}
use Rattle.run_laws.specs.Agreement.{Agrees}
use Rattle.run_laws.specs.Bringing.{StoresPutAlike}
use Rattle.run_laws.proofs.FetchedMembers.{part_at}
use Rattle.run_laws.proofs.PartBytes.{KeepsApart, with_same, with_outside, block_keeps_apart, not_in_other}
use Rattle.run_laws.proofs.TouchedConstants.{constant_within}
use Rattle.run_laws.proofs.TreesStart.{some_of_range}

pub section_part : (P : Laid) (i : ℕ) → i < length P.program.sections → IsPartOf P (segment_of_section P.program i) (OneSection i)
section_part P i inside =
    let at : Found P.program.sections i (λ x. Unit {0}) = within P.program.sections i inside in
    record { section = at.item; there = at.found; here = sym (segment-at P i at.item at.found) }

-- a byte that the store does not write
beside : (at o count b : ℕ) → (b < o) ⊎ (o + count ≤ b) → is_among (at + o) count (at + b) ≡ false
beside at o count b (inl before) = among_before (at + o) count (at + b) (omega (arith, before))
beside at o count b (inr after) = among_after (at + o) count (at + b) (omega (arith, after))

narrower : (at length o count a : ℕ) → o + count ≤ length → is_among at length a ≡ false → is_among (at + o) count a ≡ false
narrower at l o count a within outside = by_cases (cases_lt a (at + o)) (cases_lt a (at + o + count))
  where
    by_cases : (a < at + o) ⊎ (at + o ≤ a) → (a < at + o + count) ⊎ (at + o + count ≤ a) → is_among (at + o) count a ≡ false
    by_cases (inl before) why = among_before (at + o) count a before
    by_cases (inr from) (inr after) = among_after (at + o) count a after
    by_cases (inr from) (inl below) = absurd (false≢true (sym outside ∙ among_true at l a (omega (arith, from)) (omega (arith, below, within))))

sections_differ : (i j : ℕ) → i ≢ j → OneSection i ≢ OneSection j
sections_differ i j differ same = differ (number i j same)
  where
    number : (i j : ℕ) → OneSection i ≡ OneSection j → i ≡ j
    number i j same = cc

table_differs : (i s : ℕ) → EntryTable s ≢ OneSection i
table_differs i s same = cc

first_differs : (i : ℕ) → SegmentTable ≢ OneSection i
first_differs i same = cc

pub stores_keep : (P : Laid) (Q : Placement) (n i o : ℕ) (bytes : List ℕ) (S : State) (T : SymbolState) → IsLinkable P → KeepsApart P Q
    → Agrees P Q n S T → i < length P.program.sections → is_in (segment_of_section P.program i) T.resident ≡ true
    → o + length bytes ≤ length_of_section P.program i → is_touched P.program i o (length bytes) ≡ false
    → Agrees P Q n (record S { storage = with_piece S.storage (list_piece (Q.section i + o) bytes) })
    (record T { storage = with_piece T.storage (list_piece (Q.section i + o) bytes) })
stores_keep P Q n i o bytes S T link keeps agrees inside there fits free = record {
  resident = agrees.resident;
  storage = with_same piece piece S.storage T.storage (record { at = refl; count = refl; byte = λ k. refl }) agrees.storage;
  table = λ over. record {
    bytes = λ k low. unchanged 1 SegmentTable k agrees.resident.root (ap (λ b. b && 1 == 1) over) (first_differs i) low ∙ (agrees.table over).bytes k low;
  };
  held = λ s resides. record {
    constants = record { bytes = λ j k within here some. constant s j k resides within here some ∙ (agrees.held s resides).constants.bytes j k within here some };
    table = λ entries. record {
      bytes = λ k low. unchanged s (EntryTable s) k resides (refl, entries) (table_differs i s) low ∙ ((agrees.held s resides).table entries).bytes k low;
    };
    fields = (agrees.held s resides).fields;
  };
}
  where
    piece : Piece
    piece = list_piece (Q.section i + o) bytes

    unchanged : (s : ℕ) (x : Part) (k : ℕ) → is_in s T.resident ≡ true → IsPartOf P s x → x ≢ OneSection i → k < part_length P x
        → with_piece S.storage piece (part_at Q x + k) ≡ S.storage (part_at Q x + k)
    unchanged s x k resides part differ low =
        with_outside S.storage piece (part_at Q x + k)
        (narrower (Q.section i) (length_of_section P.program i) o (length bytes) (part_at Q x + k) fits
        (not_in_other (part_at Q x) (part_length P x) (Q.section i) (length_of_section P.program i) k
        (keeps.apart T.resident s (segment_of_section P.program i) x (OneSection i) agrees.resident resides there part (section_part P i inside) differ) low))

    beyond : (k : ℕ) → is_some (constant_at P.program.constants i k) ≡ true → (k < o) ⊎ (o + length bytes ≤ k)
    beyond k some = by_cases (cases_lt k o) (cases_lt k (o + length bytes))
      where
        by_cases : (k < o) ⊎ (o ≤ k) → (k < o + length bytes) ⊎ (o + length bytes ≤ k) → (k < o) ⊎ (o + length bytes ≤ k)
        by_cases (inl before) why = inl before
        by_cases (inr from) (inr after) = inr after
        by_cases (inr from) (inl below) =
            absurd (false≢true (sym free ∙ some_of_range (λ k. is_some (constant_at P.program.constants i k)) o (length bytes) k from below some))

    constant : (s j k : ℕ) → is_in s T.resident ≡ true → j < length P.program.sections → segment_of_section P.program j ≡ s
        → is_some (constant_at P.program.constants j k) ≡ true → with_piece S.storage piece (Q.section j + k) ≡ S.storage (Q.section j + k)
    constant s j k resides within here some =
        elim (eqb_tells j i) as (λ _. with_piece S.storage piece (Q.section j + k) ≡ S.storage (Q.section j + k)) [
          | inl w ↦
              with_outside S.storage piece (Q.section j + k)
              (ap (λ l. is_among (Q.section i + o) (length bytes) (Q.section l + k)) w.1
              ∙ beside (Q.section i) o (length bytes) k (beyond k (subst (λ l. is_some (constant_at P.program.constants l k) ≡ true) w.1 some)))
          | inr w ↦
              unchanged s (OneSection j) k resides (subst (λ r. IsPartOf P r (OneSection j)) here (section_part P j within)) (sections_differ j i w.1)
              (constant_within P j k link some)
        ]

pub stores_put_alike : StoresPutAlike
stores_put_alike P n at i o bytes S T link agrees inside there fits free =
    stores_keep P (block P at) n i o bytes S T link (block_keeps_apart P at link) agrees inside there fits free
