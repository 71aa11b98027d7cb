-- The status bytes of the segment table after a call: those that are written tell of the resident segments.
use Rattle.std.proofs.Common.{◌≡◌, ◌≢◌, inl, inr, ℕ, zero, suc, ◌+◌, ◌-◌, ◌*◌, ◌/◌, ◌%◌, ◌⊎◌, ◌<◌, ◌≤◌, Bool, true, false, ◌||◌, if◌then◌else◌, List, [], ◌∷◌, fold, filter, flat_map, replicate, length, slice_index, refl, sym, ap, ◌∙◌, arith}
use Rattle.std.specs.List.{AllByRecursion as Each}
use Rattle.std.proofs.lemmas.Bool.{false≢true, cases_lt}
use Rattle.std.proofs.lemmas.Bool.Decides.{eqb_tells}
use Rattle.std.proofs.lemmas.List.{get_or_append_left}
use Rattle.linking_model.specs.Numbers.{is_among}
use Rattle.linking_model.specs.Tree.{Tree, segments, regions, is_in}
use Rattle.linking_model.specs.TableBytes.{status_of, segtab_bytes}
use Rattle.linking_model.specs.Places.{segtab_length}
use Rattle.linking_model.specs.Run.{Storage, with_piece, list_piece}
use Rattle.member_model.specs.AfterFailure.{SameBytes}
use Rattle.member_laws.proofs.LoadingItems.{among_true, among_before, among_after}
use Rattle.run_laws.proofs.PartBytes.{with_same, with_outside, with_inside}
use Rattle.run_laws.proofs.SegmentTables.{row, table_is, table_row}

-- ---- one byte is written

-- the byte of segment s, of those from a place on that stand four apart
abbrev pub with_byte : ℕ → (ℕ → ℕ) → Storage → ℕ → Storage
with_byte base v M s = with_piece M (list_piece (base + 4 * s) (v s ∷ []))

pub byte_written : (base : ℕ) (v : ℕ → ℕ) (M : Storage) (s : ℕ) → with_byte base v M s (base + 4 * s) ≡ v s
byte_written base v M s =
    with_inside M (list_piece (base + 4 * s) (v s ∷ [])) (base + 4 * s) (among_true (base + 4 * s) 1 (base + 4 * s) (omega arith) (omega arith))
    ∙ ap (slice_index (v s ∷ [])) (none (base + 4 * s))
  where
    none : (a : ℕ) → a - a ≡ 0
    none a = omega arith

pub byte_left : (base : ℕ) (v : ℕ → ℕ) (M : Storage) (s a : ℕ) → a ≢ base + 4 * s → with_byte base v M s a ≡ M a
byte_left base v M s a differ =
    with_outside M (list_piece (base + 4 * s) (v s ∷ [])) a (by_cases (cases_lt a (base + 4 * s)))
  where
    more : (a b : ℕ) → b ≤ a → a ≢ b → b + 1 ≤ a
    more a b from differ = omega (arith, from, differ)

    by_cases : (a < base + 4 * s) ⊎ (base + 4 * s ≤ a) → is_among (base + 4 * s) 1 a ≡ false
    by_cases (inl before) = among_before (base + 4 * s) 1 a before
    by_cases (inr from) = among_after (base + 4 * s) 1 a (more a (base + 4 * s) from differ)

-- ---- several bytes are written

pub bytes_left : (base : ℕ) (v : ℕ → ℕ) (ss : List ℕ) (M : Storage) (a : ℕ) → Each (λ s. a ≢ base + 4 * s) ss → fold (with_byte base v) M ss a ≡ M a
bytes_left base v [] M a differ = refl
bytes_left base v (s ∷ ss) M a differ = bytes_left base v ss (with_byte base v M s) a differ.1 ∙ byte_left base v M s a differ.0

byte_stays : (base : ℕ) (v : ℕ → ℕ) (ss : List ℕ) (M : Storage) (s : ℕ) → M (base + 4 * s) ≡ v s → fold (with_byte base v) M ss (base + 4 * s) ≡ v s
byte_stays base v [] M s is = is
byte_stays base v (r ∷ ss) M s is =
    byte_stays base v ss (with_byte base v M r) s
    (elim (eqb_tells s r) as (λ _. with_byte base v M r (base + 4 * s) ≡ v s) [
      | inl w ↦ ap (λ k. with_byte base v M r (base + 4 * k)) w.1 ∙ byte_written base v M r ∙ sym (ap v w.1)
      | inr w ↦ byte_left base v M r (base + 4 * s) (λ same. w.1 (four base s r same)) ∙ is
    ])
  where
    four : (b s r : ℕ) → b + 4 * s ≡ b + 4 * r → s ≡ r
    four b s r same = omega (arith, same)

pub bytes_written : (base : ℕ) (v : ℕ → ℕ) (ss : List ℕ) (M : Storage) (s : ℕ) → is_in s ss ≡ true → fold (with_byte base v) M ss (base + 4 * s) ≡ v s
bytes_written base v [] M s there = absurd (false≢true there)
bytes_written base v (r ∷ ss) M s there =
    elim (eqb_tells r s) as (λ _. fold (with_byte base v) (with_byte base v M r) ss (base + 4 * s) ≡ v s) [
      | inl w ↦ byte_stays base v ss (with_byte base v M r) s (ap (λ k. with_byte base v M k (base + 4 * s)) w.1 ∙ byte_written base v M s)
      | inr w ↦ bytes_written base v ss (with_byte base v M r) s (sym (ap (λ b. b || is_in s ss) w.0) ∙ there)
    ]

-- where those that are not written are right already, writing some is as writing all
pub some_as_all : (base : ℕ) (v w : ℕ → ℕ) (test : ℕ → Bool) (ss : List ℕ) (M N : Storage) → SameBytes M N
    → Each (λ s. test s ≡ true → v s ≡ w s) ss → Each (λ s. test s ≡ false → N (base + 4 * s) ≡ w s) ss
    → SameBytes (fold (with_byte base v) M (filter test ss)) (fold (with_byte base w) N ss)
some_as_all base v w test [] M N same written right a = same a
some_as_all base v w test (s ∷ ss) M N same written right a =
    by_test (test s) refl
    (λ M' again. some_as_all base v w test ss M' (with_byte base w N s) again written.1 (still ss right.1) a)
  where
    four : (b s r : ℕ) → b + 4 * r ≡ b + 4 * s → r ≡ s
    four b s r same = omega (arith, same)

    still : (rest : List ℕ) → Each (λ r. test r ≡ false → N (base + 4 * r) ≡ w r) rest
        → Each (λ r. test r ≡ false → with_byte base w N s (base + 4 * r) ≡ w r) rest
    still [] each = tt
    still (r ∷ rest) each = (
      λ fails. elim (eqb_tells r s) as (λ _. with_byte base w N s (base + 4 * r) ≡ w r) [
        | inl x ↦ ap (λ k. with_byte base w N k (base + 4 * r)) (sym x.1) ∙ byte_written base w N r
        | inr x ↦ byte_left base w N s (base + 4 * r) (λ is. x.1 (four base s r is)) ∙ each.0 fails
      ],
      still rest each.1,
    )

    one : test s ≡ true → SameBytes (with_byte base v M s) (with_byte base w N s)
    one holds =
        with_same (list_piece (base + 4 * s) (v s ∷ [])) (list_piece (base + 4 * s) (w s ∷ [])) M N
        (record { at = refl; count = refl; byte = λ o. ap (λ k. slice_index (k ∷ []) o) (written.0 holds) }) same

    none : test s ≡ false → SameBytes M (with_byte base w N s)
    none fails b =
        elim (eqb_tells b (base + 4 * s)) as (λ _. M b ≡ with_byte base w N s b) [
          | inl x ↦ same b ∙ ap N x.1 ∙ right.0 fails ∙ sym (ap (with_byte base w N s) x.1 ∙ byte_written base w N s)
          | inr x ↦ same b ∙ sym (byte_left base w N s b x.1)
        ]

    by_test : (b : Bool) → test s ≡ b
        → ((M' : Storage) → SameBytes M' (with_byte base w N s)
        → fold (with_byte base v) M' (filter test ss) a ≡ fold (with_byte base w) (with_byte base w N s) ss a)
        → fold (with_byte base v) M (if b then s ∷ filter test ss else filter test ss) a ≡ fold (with_byte base w) (with_byte base w N s) ss a
    by_test true is rest = rest (with_byte base v M s) (one is)
    by_test false is rest = rest M (none is)

-- ---- the segment table

-- byte k of the table, of the segments of which so many are resident, with the status bytes of others
pub table_byte : (tree : Tree) (before after : List ℕ) (at : ℕ) (M N : Storage)
    → ((k : ℕ) → k < segtab_length tree → M (at + k) ≡ slice_index (segtab_bytes tree before) k)
    → ((s : ℕ) → 1 ≤ s → s ≤ length tree → N (at + 6 + 4 * s) ≡ status_of after s)
    → ((k : ℕ) → ((s : ℕ) → 1 ≤ s → s ≤ length tree → at + k ≢ at + 6 + 4 * s) → k < segtab_length tree → N (at + k) ≡ M (at + k))
    → (k : ℕ) → k < segtab_length tree → N (at + k) ≡ slice_index (segtab_bytes tree after) k
table_byte tree before after at M N reads told left k low = by_place (cases_lt k 8)
  where
    heading : List ℕ
    heading = length tree ∷ regions tree ∷ replicate 6 0

    in_heading : (resident : List ℕ) → k < 8 → slice_index (segtab_bytes tree resident) k ≡ slice_index heading k
    in_heading resident small =
        ap (λ bytes. slice_index bytes k) (table_is tree resident) ∙ get_or_append_left heading (flat_map (row tree resident) (segments tree)) 0 k small

    unchanged : ((s : ℕ) → 1 ≤ s → s ≤ length tree → at + k ≢ at + 6 + 4 * s) → N (at + k) ≡ M (at + k)
    unchanged differ = left k differ low

    s : ℕ
    s = (k - 4) / 4

    j : ℕ
    j = (k - 4) % 4

    split : (k : ℕ) → 8 ≤ k → k ≡ 4 + 4 * ((k - 4) / 4) + (k - 4) % 4
    split k from = omega (arith, from)

    first : (k : ℕ) → 8 ≤ k → 1 ≤ (k - 4) / 4
    first k from = omega (arith, from)

    last : (k n : ℕ) → 8 ≤ k → k < 8 + 4 * n → (k - 4) / 4 ≤ n
    last k n from below = omega (arith, from, below)

    small : (k : ℕ) → (k - 4) % 4 < 4
    small k = omega arith

    at_status : (at k s j : ℕ) → k ≡ 4 + 4 * s + j → j ≡ 2 → at + k ≡ at + 6 + 4 * s
    at_status at k s j is status = omega (arith, is, status)

    not_status : (at k s j r : ℕ) → k ≡ 4 + 4 * s + j → j < 4 → j ≢ 2 → at + k ≢ at + 6 + 4 * r
    not_status at k s j r is low differ same = omega (arith, is, low, differ, same)

    row_same : (j : ℕ) → j < 4 → j ≢ 2 → slice_index (row tree before s) j ≡ slice_index (row tree after s) j
    row_same zero low differ = refl
    row_same (suc zero) low differ = refl
    row_same (suc (suc zero)) low differ = absurd (differ refl)
    row_same (suc (suc (suc zero))) low differ = refl
    row_same (suc (suc (suc (suc j)))) low differ = absurd (omega (arith, low))

    by_place : (k < 8) ⊎ (8 ≤ k) → N (at + k) ≡ slice_index (segtab_bytes tree after) k
    by_place (inl head) =
        unchanged (λ r first last same. omega (arith, head, first, same)) ∙ reads k low ∙ in_heading before head ∙ sym (in_heading after head)
    by_place (inr from) =
        elim (eqb_tells j 2) as (λ _. N (at + k) ≡ slice_index (segtab_bytes tree after) k) [
          | inl w ↦
              ap N (at_status at k s j (split k from) w.1) ∙ told s (first k from) (last k (length tree) from low)
              ∙ sym (ap (slice_index (segtab_bytes tree after)) (split k from)
              ∙ table_row tree after s j (first k from) (last k (length tree) from low) (small k)
              ∙ ap (slice_index (row tree after s)) w.1)
          | inr w ↦
              unchanged (λ r one other. not_status at k s j r (split k from) (small k) w.1) ∙ reads k low
              ∙ ap (slice_index (segtab_bytes tree before)) (split k from)
              ∙ table_row tree before s j (first k from) (last k (length tree) from low) (small k)
              ∙ row_same j (small k) w.1
              ∙ sym (ap (slice_index (segtab_bytes tree after)) (split k from)
              ∙ table_row tree after s j (first k from) (last k (length tree) from low) (small k))
        ]
