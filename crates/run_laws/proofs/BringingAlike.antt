-- Both runs agree again where both bring in the path of a segment.
use Rattle.std.proofs.Common.{◌≡◌, ◌≢◌, ◌⊎◌, inl, inr, ℕ, ◌+◌, ◌*◌, ◌<◌, ◌≤◌, Bool, true, false, not, ◌&&◌, ◌||◌, ◌==◌, if◌then◌else◌, List, filter, fold, length, slice_index, refl, sym, ap, ◌∙◌, subst, arith}
use Rattle.std.specs.List.{range_with_len}
use Rattle.std.proofs.lemmas.Bool.{false≢true, eqb-true, eqb-false, eq-eqb, ne_eqb}
use Rattle.pds_lib.specs.Stow.{main_entry}
use Rattle.pds_directory.specs.declared.entry.Entry.{Entry}
use Rattle.linking_model.specs.Numbers.{is_among}
use Rattle.linking_model.specs.Tree.{segments, region_of, path, is_in, is_on_path}
use Rattle.linking_model.specs.TableBytes.{status_of, segtab_bytes}
use Rattle.linking_model.specs.Places.{Laid, is_overlay, segtab_length}
use Rattle.linking_model.specs.Linked.{block}
use Rattle.linking_model.specs.Run.{Storage, State as SymbolState, segment_piece, brought, after_call, call_into as call_by_symbols}
use Rattle.linking_model.proofs.Origins.{is_in-segments}
use Rattle.member_model.specs.AfterFailure.{SameBytes}
use Rattle.member_model.specs.Fetched.{Fetched}
use Rattle.member_model.specs.Parts.{Part, SegmentTable, OneSection, EntryTable, part_length}
use Rattle.member_model.specs.Segments.{segments_of, region_in, path_in}
use Rattle.member_model.specs.Calling.{State, segment_facts, loaded_piece, all_brought_in, missing, with_status, call_down_to, call_into}
use Rattle.member_model.specs.Written.{Naming, written_bytes, member_written}
use Rattle.member_laws.specs.Linkable.{IsLinkable, IsFormat}
use Rattle.member_laws.proofs.LoadingItems.{among_true}
use Rattle.member_laws.proofs.LoadingSegment.{piece_of}
use Rattle.member_laws.proofs.Numbered.{segments-range}
use Rattle.member_laws.proofs.Standing.{IsPartOf}
use Rattle.run_laws.specs.Agreement.{Agrees}
use Rattle.run_laws.specs.Bringing.{CallsBringAlike}
use Rattle.run_laws.specs.EntryTables.{ReadsTable, member_at}
use Rattle.run_laws.specs.Residents.{AreResident}
use Rattle.run_laws.specs.Starts.{most_records}
use Rattle.run_laws.proofs.BroughtBytes.{piece_same, brought_same, part_after}
use Rattle.run_laws.proofs.BroughtFields.{calls_bring_fields}
use Rattle.run_laws.proofs.BroughtSegments.{brought_by, missing_are, path_in_is, each_brought, new_or_stays, brought_was_not}
use Rattle.run_laws.proofs.FetchedMembers.{IsFetched, fetched_in_block, count_is, part_at}
use Rattle.run_laws.proofs.PartBytes.{SamePiece, KeepsApart, block_keeps_apart, not_in_other}
use Rattle.run_laws.proofs.ReadAlone.{reads_alone}
use Rattle.run_laws.proofs.ResidentPaths.{calls_keep_paths, each_segment, in_filter, region_on_path}
use Rattle.run_laws.proofs.SegmentTables.{table_at, table_row, region_is}
use Rattle.run_laws.proofs.StartedMembers.{notes_are_exact}
use Rattle.run_laws.proofs.StatusBytes.{with_byte, bytes_left, bytes_written, some_as_all, table_byte}
use Rattle.run_laws.proofs.StoredBytes.{section_part}
use Rattle.run_laws.proofs.TouchedConstants.{constant_within}

-- ---- status bytes

call_storage : (m : Fetched) (S : State) (t : ℕ)
    → (call_into m S t).storage ≡ with_status m (region_in m S.storage t) (path_in m S.storage t) (all_brought_in m (missing m S.storage t) S).storage
unfolding call_down_to
call_storage m S t = refl

-- where segment s is in the region of t, it is resident after the call where it is on the path
status_on_path : (P : Laid) (resident : List ℕ) (t s : ℕ) → 1 ≤ s → s ≤ length P.tree → region_of P.tree s ≡ region_of P.tree t
    → status_of (path P.tree t) s ≡ status_of (after_call P.tree resident t) s
status_on_path P resident t s low high same =
    ap (λ b. if b then 255 else 0)
    (sym (in_filter (λ s. is_on_path P.tree s t || is_in s resident && not (region_of P.tree s == region_of P.tree t)) (segments P.tree) s
    ∙ ap (λ b. b && (is_on_path P.tree s t || is_in s resident && not (region_of P.tree s == region_of P.tree t))) (is_in-segments P.tree s low high)
    ∙ ap (λ b. is_on_path P.tree s t || is_in s resident && not b) (eq-eqb (region_of P.tree s) (region_of P.tree t) same)
    ∙ nothing (is_on_path P.tree s t) (is_in s resident)))
  where
    nothing : (on there : Bool) → (on || there && false) ≡ on
    nothing true there = refl
    nothing false true = refl
    nothing false false = refl

-- in another region it is where it was
status_elsewhere : (P : Laid) (resident : List ℕ) (t s : ℕ) → IsLinkable P → AreResident P.tree resident → 1 ≤ t → t ≤ length P.tree
    → 1 ≤ s → s ≤ length P.tree → region_of P.tree s ≢ region_of P.tree t
    → status_of resident s ≡ status_of (after_call P.tree resident t) s
status_elsewhere P resident t s link are first last low high differ =
    ap (λ b. if b then 255 else 0)
    (sym (in_filter (λ s. is_on_path P.tree s t || is_in s resident && not (region_of P.tree s == region_of P.tree t)) (segments P.tree) s
    ∙ ap (λ b. b && (is_on_path P.tree s t || is_in s resident && not (region_of P.tree s == region_of P.tree t))) (is_in-segments P.tree s low high)
    ∙ ap (λ b. is_on_path P.tree s t || is_in s resident && not b) (ne_eqb (region_of P.tree s) (region_of P.tree t) differ)
    ∙ kept (is_on_path P.tree s t) (is_in s resident) (λ on. root_of (region_on_path P.tree s t link.tree first last on))))
  where
    root_of : (s ≡ 1) ⊎ (region_of P.tree s ≡ region_of P.tree t) → is_in s resident ≡ true
    root_of (inl root) = ap (λ k. is_in k resident) root ∙ are.root
    root_of (inr same) = absurd (differ same)

    kept : (on there : Bool) → (on ≡ true → there ≡ true) → (on || there && true) ≡ there
    kept true there holds = sym (holds refl)
    kept false true holds = refl
    kept false false holds = refl

-- ---- the call

pub bring_alike : (P : Laid) (scatter : Bool) (n : ℕ) (who : Naming) (at t : ℕ) (S : State) (T : SymbolState) → IsLinkable P
    → IsFormat P scatter n → is_overlay P.tree ≡ true → length (written_bytes P scatter n) ≤ most_records
    → Agrees P (block P at) n S T → 1 ≤ t → t ≤ length P.tree
    → Agrees P (block P at) n (call_into (member_at P scatter n who at) S t) (call_by_symbols P (block P at) T t)
bring_alike P scatter n who at t S T link format over few agrees first last = record {
  resident = are;
  storage = same;
  table = λ o. record { bytes = λ k low. same (at + k) ∙ table_now k low };
  held = λ s there. record {
    constants = record {
      bytes = λ i o inside here some.
          same ((block P at).section i + o)
          ∙ held_part s (OneSection i) o there (subst (λ r. IsPartOf P r (OneSection i)) here (section_part P i inside)) (λ is. not_section i is)
          (constant_within P i o link some) (λ stays. (agrees.held s stays).constants.bytes i o inside here some);
    };
    table = λ entries. record {
      bytes = λ o low.
          same ((block P at).entab s + o)
          ∙ held_part s (EntryTable s) o there (refl, entries) (λ is. not_table s is) low (λ stays. ((agrees.held s stays).table entries).bytes o low);
    };
    fields = calls_bring_fields P scatter n who at t s T.resident S link format over few agrees.resident reads first last (λ r stays. (agrees.held r stays).fields) there;
  };
}
  where
    e : Entry
    e = main_entry (member_written P scatter n who)

    m : Fetched
    m = member_at P scatter n who at

    is : IsFetched P scatter n (block P at) m
    is = fetched_in_block P scatter n e at link format (record { attr = refl; length = refl })

    reads : ReadsTable P at T.resident S.storage
    reads = agrees.table over

    keeps : KeepsApart P (block P at)
    keeps = block_keeps_apart P at link

    after : List ℕ
    after = after_call P.tree T.resident t

    are : AreResident P.tree after
    are = calls_keep_paths P.tree T.resident t link.tree first last agrees.resident

    new : List ℕ
    new = brought_by P.tree T.resident t

    B : Storage
    B = brought P (block P at) new T.storage

    A : Storage
    A = (all_brought_in m new S).storage

    A_as_B : SameBytes A B
    A_as_B =
        brought_same P (block P at) m new S T.storage agrees.storage
        (each_brought (λ s. SamePiece (loaded_piece m s (segment_facts m s)) (segment_piece P (block P at) s)) P.tree T.resident t
        (λ s low high.
        piece_same P scatter n s at e (notes_are_exact P scatter n e at s link format over few low high)
        (reads_alone P scatter n s e at link format (record { attr = refl; length = refl }) over few low high)))

    has_table : IsPartOf P 1 SegmentTable
    has_table = ap (λ b. b && 1 == 1) over

    root_stays : is_in 1 new ≡ false
    root_stays = not_true (is_in 1 new) (λ there. false≢true (sym (brought_was_not P.tree T.resident t 1 there).1 ∙ agrees.resident.root))
      where
        not_true : (b : Bool) → (b ≡ true → ⊥) → b ≡ false
        not_true true fails = absurd (fails refl)
        not_true false fails = refl

    table_left : (k : ℕ) → k < segtab_length P.tree → B (at + k) ≡ S.storage (at + k)
    table_left k low =
        part_after P at t T.resident T.storage 1 SegmentTable k link are are.root has_table low
        ∙ ap (λ b. if b then (piece_of P (block P at) SegmentTable).byte k else T.storage (at + k)) root_stays
        ∙ sym (agrees.storage (at + k))

    reads_A : ReadsTable P at T.resident A
    reads_A = record { bytes = λ k low. A_as_B (at + k) ∙ table_left k low ∙ reads.bytes k low }

    path_told : path_in m S.storage t ≡ path P.tree t
    path_told = path_in_is P scatter n (block P at) m T.resident S.storage t link is over reads

    region_now : (s : ℕ) → 1 ≤ s → s ≤ length P.tree → region_in m A s ≡ region_of P.tree s
    region_now s low high = region_is P scatter n (block P at) m T.resident A s link is over reads_A low high

    region_then : region_in m S.storage t ≡ region_of P.tree t
    region_then = region_is P scatter n (block P at) m T.resident S.storage t link is over reads first last

    status_now : (s : ℕ) → 1 ≤ s → s ≤ length P.tree → B (at + 6 + 4 * s) ≡ status_of T.resident s
    status_now s low high =
        sym (A_as_B (at + 6 + 4 * s)) ∙ ap A (grouped at s)
        ∙ reads_A.bytes (4 + 4 * s + 2) (within (length P.tree) s high)
        ∙ table_row P.tree T.resident s 2 low high (omega arith)
      where
        grouped : (at s : ℕ) → at + 6 + 4 * s ≡ at + (4 + 4 * s + 2)
        grouped at s = omega arith

        within : (n s : ℕ) → s ≤ n → 4 + 4 * s + 2 < 8 + 4 * n
        within n s high = omega (arith, high)

    same : SameBytes (call_into m S t).storage (call_by_symbols P (block P at) T t).storage
    same a =
        ap (λ (M : Storage). M a) (call_storage m S t)
        ∙ ap (λ l. with_status m (region_in m S.storage t) (path_in m S.storage t) (all_brought_in m l S).storage a)
        (missing_are P scatter n (block P at) m T.resident S.storage t link is over reads)
        ∙ ap (λ b. fold (with_byte (b + 6) (status_of (path_in m S.storage t))) A (filter (λ s. region_in m A s == region_in m S.storage t) (segments_of m)) a)
        (table_at P scatter n (block P at) m link is over)
        ∙ ap (λ l. fold (with_byte (at + 6) (status_of l)) A (filter (λ s. region_in m A s == region_in m S.storage t) (segments_of m)) a) path_told
        ∙ ap (λ l. fold (with_byte (at + 6) (status_of (path P.tree t))) A (filter (λ s. region_in m A s == region_in m S.storage t) l) a)
        (ap (range_with_len 1) (count_is P scatter n (block P at) m link is) ∙ sym (segments-range P.tree))
        ∙ some_as_all (at + 6) (status_of (path P.tree t)) (status_of after) (λ s. region_in m A s == region_in m S.storage t) (segments P.tree) A B A_as_B
        (each_segment (λ s. (region_in m A s == region_in m S.storage t) ≡ true → status_of (path P.tree t) s ≡ status_of after s) P.tree
        (λ s low high here.
        status_on_path P T.resident t s low high
        (sym (region_now s low high) ∙ eqb-true (region_in m A s) (region_in m S.storage t) here ∙ region_then)))
        (each_segment (λ s. (region_in m A s == region_in m S.storage t) ≡ false → B (at + 6 + 4 * s) ≡ status_of after s) P.tree
        (λ s low high away.
        status_now s low high
        ∙ status_elsewhere P T.resident t s link agrees.resident first last low high
        (λ region. eqb-false (region_in m A s) (region_in m S.storage t) away (region_now s low high ∙ region ∙ sym region_then))))
        a

    N : Storage
    N = (call_by_symbols P (block P at) T t).storage

    N_left : (a : ℕ) → ((s : ℕ) → 1 ≤ s → s ≤ length P.tree → a ≢ at + 6 + 4 * s) → N a ≡ B a
    N_left a differ = bytes_left (at + 6) (status_of after) (segments P.tree) B a (each_segment (λ s. a ≢ at + 6 + 4 * s) P.tree differ)

    table_now : (k : ℕ) → k < segtab_length P.tree → N (at + k) ≡ slice_index (segtab_bytes P.tree after) k
    table_now =
        table_byte P.tree T.resident after at S.storage N reads.bytes
        (λ s low high. bytes_written (at + 6) (status_of after) (segments P.tree) B s (is_in-segments P.tree s low high))
        (λ k differ low. N_left (at + k) differ ∙ table_left k low)

    not_section : (i : ℕ) → OneSection i ≢ SegmentTable
    not_section i alike = cc

    not_table : (s : ℕ) → EntryTable s ≢ SegmentTable
    not_table s alike = cc

    -- a part beside the segment table stands as it is linked, if it stood so where its segment was resident
    held_part : (s : ℕ) (x : Part) (o : ℕ) → is_in s after ≡ true → IsPartOf P s x → x ≢ SegmentTable → o < part_length P x
        → (is_in s T.resident ≡ true → S.storage (part_at (block P at) x + o) ≡ (piece_of P (block P at) x).byte o)
        → N (part_at (block P at) x + o) ≡ (piece_of P (block P at) x).byte o
    held_part s x o there part differ low before =
        N_left (part_at (block P at) x + o)
        (λ r one other is.
        false≢true
        (sym (not_in_other (part_at (block P at) x) (part_length P x) at (segtab_length P.tree) o
        (keeps.apart after s 1 x SegmentTable are there are.root part has_table differ) low)
        ∙ ap (is_among at (segtab_length P.tree)) is
        ∙ among_true at (segtab_length P.tree) (at + 6 + 4 * r) (omega arith) (omega (arith, other))))
        ∙ part_after P at t T.resident T.storage s x o link are there part low
        ∙ by_cases (is_in s new) refl
      where
        by_cases : (b : Bool) → is_in s new ≡ b
            → (if b then (piece_of P (block P at) x).byte o else T.storage (part_at (block P at) x + o)) ≡ (piece_of P (block P at) x).byte o
        by_cases true here = refl
        by_cases false old = sym (agrees.storage (part_at (block P at) x + o)) ∙ before (stays (new_or_stays P.tree T.resident t s there))
          where
            stays : (is_in s new ≡ true) ⊎ (is_in s T.resident ≡ true) → is_in s T.resident ≡ true
            stays (inl here) = absurd (false≢true (sym old ∙ here))
            stays (inr there) = there

pub calls_bring_alike : CallsBringAlike
calls_bring_alike P scatter n who at t S T link format over few agrees first last =
    bring_alike P scatter n who at t S T link format over few agrees first last
