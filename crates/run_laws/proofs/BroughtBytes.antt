-- What stands in storage when segments were brought in: each as it is linked, and beside them what stood there before.
use Rattle.std.proofs.Common.{◌≡◌, ◌⊎◌, inl, inr, ℕ, ◌+◌, ◌-◌, ◌<◌, ◌≤◌, Bool, true, false, ◌||◌, ◌==◌, if◌then◌else◌, List, [], ◌∷◌, refl, sym, ap, ◌∙◌, arith}
use Rattle.std.specs.List.{AllByRecursion as Each}
use Rattle.std.proofs.lemmas.Bool.{eq-eqb}
use Rattle.std.proofs.lemmas.Bool.Decides.{eqb_tells}
use Rattle.pds_directory.specs.declared.entry.Entry.{Entry}
use Rattle.linking_model.specs.Numbers.{is_among}
use Rattle.linking_model.specs.Tree.{is_in}
use Rattle.linking_model.specs.Places.{Laid, origin, size}
use Rattle.linking_model.specs.Linked.{Placement, block}
use Rattle.linking_model.specs.Run.{Storage, has_address, byte_in, pieces, with_piece, segment_piece, brought, after_call}
use Rattle.member_model.specs.AfterFailure.{SameBytes}
use Rattle.member_model.specs.Fetched.{Fetched, fetched}
use Rattle.member_model.specs.Parts.{Part, part_place, part_length}
use Rattle.member_model.specs.Segments.{note}
use Rattle.member_model.specs.Calling.{State, segment_facts, loaded_piece, brought_in, all_brought_in}
use Rattle.member_model.specs.Written.{written_bytes}
use Rattle.member_laws.specs.Linkable.{IsLinkable}
use Rattle.member_laws.specs.Storing.{linked_storage}
use Rattle.member_laws.proofs.LoadingFields.{among_parts}
use Rattle.member_laws.proofs.LoadingItems.{among_true}
use Rattle.member_laws.proofs.LoadingSegment.{piece_of}
use Rattle.member_laws.proofs.Standing.{IsPartOf, stands_well}
use Rattle.run_laws.specs.Residents.{AreResident}
use Rattle.run_laws.specs.Starts.{NotesSegment, ReadsAlone}
use Rattle.run_laws.proofs.BroughtSegments.{brought_by, brought_was_not}
use Rattle.run_laws.proofs.FetchedMembers.{part_at}
use Rattle.run_laws.proofs.NotesRight.{part_begins}
use Rattle.run_laws.proofs.PartBytes.{SamePiece, with_same, with_outside, with_inside, block_keeps_apart, in_block_at, part_linked}
use Rattle.run_laws.proofs.ResidentPaths.{resident_within, residents_are_apart}

-- ---- by records as by symbols

pub piece_same : (P : Laid) (scatter : Bool) (n s at : ℕ) (e : Entry)
    → NotesSegment P scatter n s (note (fetched e (written_bytes P scatter n) at) s) → ReadsAlone P n s at (fetched e (written_bytes P scatter n) at)
    → SamePiece (loaded_piece (fetched e (written_bytes P scatter n) at) s (segment_facts (fetched e (written_bytes P scatter n) at) s)) (segment_piece P (block P at) s)
unfolding segment_piece
piece_same P scatter n s at e notes reads = record {
  at = ap (λ o. at + o) notes.origin;
  count = notes.length;
  byte = λ o.
      reads.loads (at + (note (fetched e (written_bytes P scatter n) at) s).origin + o)
      ∙ ap (λ from. linked_storage P (block P at) s (at + from + o)) notes.origin;
}

pub brought_same : (P : Laid) (Q : Placement) (m : Fetched) (new : List ℕ) (S : State) (N : Storage) → SameBytes S.storage N
    → Each (λ s. SamePiece (loaded_piece m s (segment_facts m s)) (segment_piece P Q s)) new
    → SameBytes (all_brought_in m new S).storage (brought P Q new N)
brought_same P Q m [] S N same pieces a = same a
brought_same P Q m (s ∷ new) S N same pieces a =
    brought_same P Q m new (brought_in m S s) (with_piece N (segment_piece P Q s))
    (with_same (loaded_piece m s (segment_facts m s)) (segment_piece P Q s) S.storage N pieces.0 same) pieces.1 a

-- ---- a byte in the range of a segment

pub range_has : (P : Laid) (Q : Placement) (s a : ℕ) → has_address a (segment_piece P Q s) ≡ is_among (Q.range s) (size P s) a
unfolding segment_piece
range_has P Q s a = refl

pub range_byte : (P : Laid) (Q : Placement) (s a : ℕ) → Q.range s ≤ a → (segment_piece P Q s).byte (a - (segment_piece P Q s).at) ≡ byte_in (pieces P Q s) a
unfolding segment_piece
range_byte P Q s a from = ap (byte_in (pieces P Q s)) (back (Q.range s) a from)
  where
    back : (b a : ℕ) → b ≤ a → b + (a - b) ≡ a
    back b a from = omega (arith, from)

-- of the segments that are brought in, only s may have the address
pub brought_at : (P : Laid) (Q : Placement) (new : List ℕ) (M : Storage) (s a : ℕ) → has_address a (segment_piece P Q s) ≡ true
    → ((r : ℕ) → is_in r new ≡ true → has_address a (segment_piece P Q r) ≡ true → r ≡ s)
    → brought P Q new M a ≡ (if is_in s new then (segment_piece P Q s).byte (a - (segment_piece P Q s).at) else M a)
brought_at P Q [] M s a here only = refl
brought_at P Q (r ∷ new) M s a here only =
    brought_at P Q new (with_piece M (segment_piece P Q r)) s a here (λ k there has. only k (or_in (r == k) (is_in k new) there) has)
    ∙ elim (eqb_tells r s) as (λ _. (if is_in s new then piece_byte else with_piece M (segment_piece P Q r) a) ≡ (if r == s || is_in s new then piece_byte else M a)) [
      | inl w ↦
          ap (λ v. if is_in s new then piece_byte else v)
          (with_inside M (segment_piece P Q r) a (ap (λ k. has_address a (segment_piece P Q k)) w.1 ∙ here)
          ∙ ap (λ k. (segment_piece P Q k).byte (a - (segment_piece P Q k).at)) w.1)
          ∙ both (is_in s new) piece_byte
          ∙ ap (λ b. if b || is_in s new then piece_byte else M a) (sym w.0)
      | inr w ↦
          ap (λ v. if is_in s new then piece_byte else v)
          (with_outside M (segment_piece P Q r) a
          (not_true (has_address a (segment_piece P Q r)) (λ has. w.1 (only r (ap (λ b. b || is_in r new) (eq-eqb r r refl)) has))))
          ∙ ap (λ b. if b || is_in s new then piece_byte else M a) (sym w.0)
    ]
  where
    piece_byte : ℕ
    piece_byte = (segment_piece P Q s).byte (a - (segment_piece P Q s).at)

    or_in : (b c : Bool) → c ≡ true → (b || c) ≡ true
    or_in true c is = refl
    or_in false c is = is

    both : (b : Bool) (v : ℕ) → (if b then v else v) ≡ v
    both true v = refl
    both false v = refl

    not_true : (b : Bool) → (b ≡ true → ⊥) → b ≡ false
    not_true true fails = absurd (fails refl)
    not_true false fails = refl

-- where no segment that is brought in has the address
pub brought_outside : (P : Laid) (Q : Placement) (new : List ℕ) (M : Storage) (a : ℕ) → ((r : ℕ) → is_in r new ≡ true → has_address a (segment_piece P Q r) ≡ false)
    → brought P Q new M a ≡ M a
brought_outside P Q [] M a outside = refl
brought_outside P Q (r ∷ new) M a outside =
    brought_outside P Q new (with_piece M (segment_piece P Q r)) a (λ k there. outside k (or_in (r == k) (is_in k new) there))
    ∙ with_outside M (segment_piece P Q r) a (outside r (ap (λ b. b || is_in r new) (eq-eqb r r refl)))
  where
    or_in : (b c : Bool) → c ≡ true → (b || c) ≡ true
    or_in true c is = refl
    or_in false c is = is

-- ---- a byte after a call

-- byte o of a part of segment s lies in the range of s
pub part_in_range : (P : Laid) (at s : ℕ) (x : Part) (o : ℕ) → IsLinkable P → 1 ≤ s → IsPartOf P s x → o < part_length P x
    → ((block P at).range s ≤ part_at (block P at) x + o) × (part_at (block P at) x + o < (block P at).range s + size P s)
part_in_range P at s x o link first part low =
    bounds at (origin P s) (part_place P x) (part_length P x) (size P s) (part_at (block P at) x) (in_block_at P at x) (part_begins P s x link.tree first part)
    (stands_well P s x first part).ends o low
  where
    bounds : (at b p l z a : ℕ) → a ≡ at + p → b ≤ p → p + l ≤ b + z → (o : ℕ) → o < l → (at + b ≤ a + o) × (a + o < at + b + z)
    bounds at b p l z a is begins ends o low = (omega (arith, is, begins), omega (arith, is, ends, low))

-- in the range of a segment that is resident after the call: a new one stands as it is linked, and in one that stayed
-- nothing has changed
pub range_after : (P : Laid) (at t : ℕ) (resident : List ℕ) (M : Storage) (s a : ℕ) → IsLinkable P
    → AreResident P.tree (after_call P.tree resident t) → is_in s (after_call P.tree resident t) ≡ true
    → ((block P at).range s ≤ a) × (a < (block P at).range s + size P s)
    → brought P (block P at) (brought_by P.tree resident t) M a
    ≡ (if is_in s (brought_by P.tree resident t) then byte_in (pieces P (block P at) s) a else M a)
range_after P at t resident M s a link are there inside =
    brought_at P (block P at) (brought_by P.tree resident t) M s a
    (range_has P (block P at) s a ∙ among_true ((block P at).range s) (size P s) a inside.0 inside.1) only
    ∙ ap (λ v. if is_in s (brought_by P.tree resident t) then v else M a) (range_byte P (block P at) s a inside.0)
  where
    clash : (at b c z w a : ℕ) → (b + z ≤ c) ⊎ (c + w ≤ b) → (at + b ≤ a) × (a < at + b + z) → (at + c ≤ a) × (a < at + c + w) → ⊥
    clash at b c z w a (inl before) one other = omega (arith, before, one.0, one.1, other.0, other.1)
    clash at b c z w a (inr after) one other = omega (arith, after, one.0, one.1, other.0, other.1)

    only : (r : ℕ) → is_in r (brought_by P.tree resident t) ≡ true → has_address a (segment_piece P (block P at) r) ≡ true → r ≡ s
    only r new has =
        elim (eqb_tells r s) as (λ _. r ≡ s) [
          | inl w ↦ w.1
          | inr w ↦
              absurd (clash at (origin P r) (origin P s) (size P r) (size P s) a
              (residents_are_apart P (after_call P.tree resident t) r s link.tree are (brought_was_not P.tree resident t r new).0 there w.1)
              (among_parts ((block P at).range r) (size P r) a (sym (range_has P (block P at) r a) ∙ has)) inside)
        ]

-- so does each part of it
pub part_after : (P : Laid) (at t : ℕ) (resident : List ℕ) (M : Storage) (s : ℕ) (x : Part) (o : ℕ) → IsLinkable P
    → AreResident P.tree (after_call P.tree resident t) → is_in s (after_call P.tree resident t) ≡ true → IsPartOf P s x → o < part_length P x
    → brought P (block P at) (brought_by P.tree resident t) M (part_at (block P at) x + o)
    ≡ (if is_in s (brought_by P.tree resident t) then (piece_of P (block P at) x).byte o else M (part_at (block P at) x + o))
part_after P at t resident M s x o link are there part low =
    range_after P at t resident M s (part_at (block P at) x + o) link are there
    (part_in_range P at s x o link (resident_within P.tree (after_call P.tree resident t) s are there).0 part low)
    ∙ ap (λ v. if is_in s (brought_by P.tree resident t) then v else M (part_at (block P at) x + o))
    (part_linked P (block P at) (after_call P.tree resident t) s x o (block_keeps_apart P at link) are there part low)
