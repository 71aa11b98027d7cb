-- What a call changes in storage: the ranges of the segments that it brings in, and the status bytes.
use Rattle.std.proofs.Common.{◌≡◌, ◌≢◌, ◌⊎◌, inl, inr, ℕ, ◌+◌, ◌*◌, ◌<◌, ◌≤◌, Bool, true, false, ◌&&◌, ◌==◌, if◌then◌else◌, length, refl, sym, ap, ◌∙◌, arith}
use Rattle.std.proofs.lemmas.Bool.{false≢true}
use Rattle.linking_model.specs.Tree.{segments, is_in}
use Rattle.linking_model.specs.TableBytes.{status_of}
use Rattle.linking_model.specs.Places.{Laid, origin, size}
use Rattle.linking_model.specs.Linked.{block}
use Rattle.linking_model.specs.Run.{State as SymbolState, byte_in, pieces, segment_piece, has_address, brought, after_call, call_into as call_by_symbols}
use Rattle.member_model.specs.Parts.{SegmentTable}
use Rattle.member_laws.proofs.LoadingFields.{among_parts}
use Rattle.member_laws.proofs.Standing.{IsPartOf}
use Rattle.run_laws.specs.Bringing.{NewSegmentsAreLinked, CallsChangeNothingElse}
use Rattle.run_laws.specs.Residents.{AreResident}
use Rattle.run_laws.proofs.BringingAlike.{bring_alike}
use Rattle.run_laws.proofs.BroughtBytes.{range_has, range_after, part_in_range, brought_outside}
use Rattle.run_laws.proofs.BroughtSegments.{brought_by, brought_was_not, new_or_stays}
use Rattle.run_laws.proofs.ResidentPaths.{each_segment, calls_keep_paths, residents_are_apart}
use Rattle.run_laws.proofs.StatusBytes.{bytes_left}

-- beside the status bytes the call leaves what stands when its segments were brought in
beside_status : (P : Laid) (at t a : ℕ) (T : SymbolState) → ((s : ℕ) → 1 ≤ s → s ≤ length P.tree → a ≢ at + 6 + 4 * s)
    → (call_by_symbols P (block P at) T t).storage a ≡ brought P (block P at) (brought_by P.tree T.resident t) T.storage a
beside_status P at t a T differ =
    bytes_left (at + 6) (status_of (after_call P.tree T.resident t)) (segments P.tree) (brought P (block P at) (brought_by P.tree T.resident t) T.storage) a
    (each_segment (λ s. a ≢ at + 6 + 4 * s) P.tree differ)

pub new_segments_are_linked : NewSegmentsAreLinked
new_segments_are_linked P scatter n who at t s a S T link format over few agrees first last there new inside =
    (bring_alike P scatter n who at t S T link format over few agrees first last).storage a
    ∙ beside_status P at t a T no_status
    ∙ range_after P at t T.resident T.storage s a link are there bounds
    ∙ ap (λ b. if b then byte_in (pieces P (block P at) s) a else T.storage a) (brought_now (new_or_stays P.tree T.resident t s there))
  where
    are : AreResident P.tree (after_call P.tree T.resident t)
    are = calls_keep_paths P.tree T.resident t link.tree first last agrees.resident

    bounds : ((block P at).range s ≤ a) × (a < (block P at).range s + size P s)
    bounds = among_parts ((block P at).range s) (size P s) a inside

    brought_now : (is_in s (brought_by P.tree T.resident t) ≡ true) ⊎ (is_in s T.resident ≡ true) → is_in s (brought_by P.tree T.resident t) ≡ true
    brought_now (inl is) = is
    brought_now (inr stays) = absurd (false≢true (sym new ∙ stays))

    not_root : 1 ≢ s
    not_root root = false≢true (sym new ∙ ap (λ k. is_in k T.resident) (sym root) ∙ agrees.resident.root)

    has_table : IsPartOf P 1 SegmentTable
    has_table = ap (λ b. b && 1 == 1) over

    table_end : (n r : ℕ) → r ≤ n → 6 + 4 * r < 8 + 4 * n
    table_end n r high = omega (arith, high)

    clash : (at r b z c w a : ℕ) → (b + z ≤ c) ⊎ (c + w ≤ b) → (at + b ≤ at + 0 + (6 + 4 * r)) × (at + 0 + (6 + 4 * r) < at + b + z)
        → (at + c ≤ a) × (a < at + c + w) → a ≡ at + 6 + 4 * r → ⊥
    clash at r b z c w a (inl before) one other is = omega (arith, before, one.0, one.1, other.0, other.1, is)
    clash at r b z c w a (inr after) one other is = omega (arith, after, one.0, one.1, other.0, other.1, is)

    no_status : (r : ℕ) → 1 ≤ r → r ≤ length P.tree → a ≢ at + 6 + 4 * r
    no_status r low high is =
        clash at r (origin P 1) (size P 1) (origin P s) (size P s) a
        (residents_are_apart P (after_call P.tree T.resident t) 1 s link.tree are are.root there not_root)
        (in_root (part_in_range P at 1 SegmentTable (6 + 4 * r) link (omega arith) has_table (table_end (length P.tree) r high))) bounds is
      where
        in_root : (at + origin P 1 ≤ at + (6 + 4 * r)) × (at + (6 + 4 * r) < at + origin P 1 + size P 1)
            → (at + origin P 1 ≤ at + 0 + (6 + 4 * r)) × (at + 0 + (6 + 4 * r) < at + origin P 1 + size P 1)
        in_root both = plain at (origin P 1) (size P 1) r both
          where
            plain : (at b z r : ℕ) → (at + b ≤ at + (6 + 4 * r)) × (at + (6 + 4 * r) < at + b + z)
                → (at + b ≤ at + 0 + (6 + 4 * r)) × (at + 0 + (6 + 4 * r) < at + b + z)
            plain at b z r both = (omega (arith, both.0), omega (arith, both.1))

pub calls_change_nothing_else : CallsChangeNothingElse
calls_change_nothing_else P scatter n who at t a S T link format over few agrees first last outside differ =
    (bring_alike P scatter n who at t S T link format over few agrees first last).storage a
    ∙ beside_status P at t a T differ
    ∙ brought_outside P (block P at) (brought_by P.tree T.resident t) T.storage a
    (λ r there. not_true (has_address a (segment_piece P (block P at) r))
    (λ has.
    let was = brought_was_not P.tree T.resident t r there in
    outside (record { segment = r; after = was.0; new = was.1; inside = sym (range_has P (block P at) r a) ∙ has })))
    ∙ sym (agrees.storage a)
  where
    not_true : (b : Bool) → (b ≡ true → ⊥) → b ≡ false
    not_true true fails = absurd (fails refl)
    not_true false fails = refl
