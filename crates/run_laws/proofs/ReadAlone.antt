-- A segment of a written member that is read alone, from the record that its note tells, is good.
use Rattle.std.proofs.Common.{◌≡◌, ◌≢◌, ℕ, suc, ◌+◌, ◌-◌, ◌≤◌, Bool, true, false, ◌==◌, if◌then◌else◌, List, [], ◌∷◌, ◌++◌, map, fold, flat_map, drop, length, Option, Some, None, option_map, refl, sym, ap, ◌∙◌, subst, arith}
use Rattle.std.specs.Option.{option_or}
use Rattle.std.proofs.lemmas.Bool.{ne_eqb}
use Rattle.std.specs.List.{range_with_len}
use Rattle.le_bytes.specs.declared.record_what.RecWhat.{RecWhat}
use Rattle.pds_directory.specs.declared.entry.Entry.{Entry}
use Rattle.load_recs.specs.Records.{rec_bytes}
use Rattle.linking_model.specs.Places.{Laid, is_overlay}
use Rattle.linking_model.specs.Linked.{block}
use Rattle.member_model.specs.Facts.{Facts, seen, walked}
use Rattle.member_model.specs.Faults.{fault}
use Rattle.member_model.specs.FirstBad.{at, faults_from}
use Rattle.member_model.specs.Fetched.{Fetched, fetched}
use Rattle.member_model.specs.Segments.{note}
use Rattle.member_model.specs.Parts.{parts_in}
use Rattle.member_model.specs.Calling.{facts_before, records_from, bad_from, segment_bad, segment_facts}
use Rattle.member_model.specs.Written.{written_bytes, segment_records}
use Rattle.member_laws.specs.Linkable.{IsLinkable, IsFormat}
use Rattle.member_laws.specs.Gathered.{items_of, fields_in, head_facts, with_segment, records_before}
use Rattle.member_laws.proofs.SymbolsFine.{Describes}
use Rattle.member_laws.proofs.Apart.{all_clear}
use Rattle.member_laws.proofs.Clear.{Clear}
use Rattle.member_laws.proofs.HeadPartFine.{head_begins}
use Rattle.member_laws.proofs.Pairs.{Pairs, pairs-right}
use Rattle.member_laws.proofs.Numbered.{segments-range}
use Rattle.member_laws.proofs.Judging.{fine_faults}
use Rattle.linking_model.specs.Tree.{segments}
use Rattle.load_recs.specs.declared.items.RldItem.{RldItem}
use Rattle.member_laws.proofs.PiecesFine.{items_of_facts}
use Rattle.member_laws.proofs.SegmentsFine.{Begins, items_from, segments_are_fine}
use Rattle.load_recs.specs.Records.{most_text}
use Rattle.member_laws.specs.Laws.{Gathers}
use Rattle.member_model.specs.Loaded.{in_block, loaded}
use Rattle.member_laws.proofs.PartPieces.{flat_map-flat, segment_walks}
use Rattle.member_laws.proofs.Reading.{fold-seen}
use Rattle.member_laws.proofs.Gathering.{range-split, records_of, next-segment, segment-there, written_records_gather}
use Rattle.member_laws.proofs.LoadingMembers.{segments_read_load_linked}
use Rattle.std.proofs.lemmas.List.Concat.{flat_map-append}
use Rattle.std.proofs.lemmas.List.{map-append}
use Rattle.run_laws.specs.Starts.{most_records, ReadsAlone, SegmentsReadAlone}
use Rattle.run_laws.proofs.FetchedMembers.{IsFetched, root_facts, fetched_in_block, first_is}
use Rattle.run_laws.proofs.StartedMembers.{each_entry}

-- ---- records that are judged up to the end of a segment

parts_none : {A : Type 0} (a b : Option A) → option_or a b ≡ None → (a ≡ None) × (b ≡ None)
parts_none None b none = (refl, none)
parts_none (Some x) b none = cc

not_at : (n : ℕ) (o : Option RecWhat) → option_map (at n) o ≡ None → o ≡ None
not_at n None none = refl
not_at n (Some x) none = cc

after_segment : (e : Entry) (s : ℕ) (G : Facts) (k : ℕ) (more : List (List ℕ)) → G.segment ≢ s → bad_from e s G k more ≡ None
unfolding bad_from
after_segment e s G k [] past = rw (ne_eqb G.segment s past) refl
after_segment e s G k (b ∷ bs) past = rw (ne_eqb G.segment s past) refl

fine_parts : (e : Entry) (F : Facts) (k : ℕ) (b : List ℕ) (bs : List (List ℕ)) → faults_from e F k (b ∷ bs) ≡ None
    → (fault e F b ≡ None) × (faults_from e (seen F b) (k + 1) bs ≡ None)
unfolding faults_from
fine_parts e F k b bs fine =
    let both = parts_none (option_map (at k) (fault e F b)) (faults_from e (seen F b) (k + 1) bs) fine in
    (not_at k (fault e F b) both.0, both.1)

one_more : (here : Bool) (k : ℕ) (o : Option RecWhat) (rest : Option ℕ) → o ≡ None → rest ≡ None
    → (if here then option_or (option_map (λ _. k) o) rest else None) ≡ None
one_more true k o rest fine later = rw (fine, later) refl
one_more false k o rest fine later = refl

-- records without a fault, of which the first ones end segment s
good_up_to : (e : Entry) (s : ℕ) (F : Facts) (k : ℕ) (bs more : List (List ℕ)) → faults_from e F k (bs ++ more) ≡ None
    → (fold seen F bs).segment ≢ s → bad_from e s F k (bs ++ more) ≡ None
unfolding bad_from
good_up_to e s F k [] more fine past = after_segment e s F k more past
good_up_to e s F k (b ∷ bs) more fine past =
    let both = fine_parts e F k b (bs ++ more) fine in
    one_more (F.segment == s) k (fault e F b) (bad_from e s (seen F b) (k + 1) (bs ++ more)) both.0
    (good_up_to e s (seen F b) (k + 1) bs more both.1 past)

-- ---- the reading of a segment

no_items : (F : Facts) → items_of_facts (record F { texts = []; fields = []; stage = 4; due = None; ended = false }) ≡ []
no_items F = refl

root_begins : (P : Laid) (scatter : Bool) (n : ℕ) (e : Entry) (s : ℕ) → Begins P e 1 (head_facts P scatter n)
    → Begins P e s (record (with_segment P n 1 (head_facts P scatter n)) { texts = []; fields = []; stage = 4; segment = s; due = None; ended = false })
unfolding with_segment
root_begins P scatter n e s begins = record {
  symbols = begins.symbols;
  segment = refl;
  due = refl;
  ready = record { goes_on = refl; stage = omega arith; complete = begins.ready.complete; noted = begins.ready.noted };
  count = begins.count;
}

facts_begin : (P : Laid) (scatter : Bool) (n : ℕ) (e : Entry) (at s : ℕ) → IsLinkable P → IsFormat P scatter n → Describes P scatter e
    → Begins P e s (facts_before (fetched e (written_bytes P scatter n) at) s)
facts_begin P scatter n e at s link format describes =
    subst (λ (G : Facts). Begins P e s (record G { texts = []; fields = []; stage = 4; segment = s; due = None; ended = false }))
    (sym (root_facts P scatter n link format)) (root_begins P scatter n e s (head_begins P scatter e n link describes))

rest_clear : (P : Laid) (n s : ℕ) → IsLinkable P → 1 ≤ n → 1 ≤ s → s ≤ length P.tree → Pairs Clear (items_from P n s (suc (length P.tree - s)))
rest_clear P n s link some low high =
    pairs-right Clear (items_from P n 1 (s - 1)) (items_from P n s (suc (length P.tree - s)))
    (subst (Pairs Clear)
    (flat_map-flat (items_of P n) (parts_in P) (segments P.tree)
    ∙ ap (flat_map in_segment) (segments-range P.tree ∙ ap (range_with_len 1) (split (length P.tree) s low high) ∙ range-split 1 (s - 1) (suc (length P.tree - s)))
    ∙ flat_map-append in_segment (range_with_len 1 (s - 1)) (range_with_len (1 + (s - 1)) (suc (length P.tree - s)))
    ∙ ap (λ i. items_from P n 1 (s - 1) ++ items_from P n i (suc (length P.tree - s))) (back s low))
    (all_clear P n link some))
  where
    in_segment : ℕ → List RldItem
    in_segment s = flat_map (items_of P n) (parts_in P s)

    split : (len s : ℕ) → 1 ≤ s → s ≤ len → len ≡ s - 1 + suc (len - s)
    split len s low high = omega (arith, low, high)

    back : (s : ℕ) → 1 ≤ s → 1 + (s - 1) ≡ s
    back s low = omega (arith, low)

rest_faultless : (P : Laid) (scatter : Bool) (n : ℕ) (e : Entry) (at s k : ℕ) → IsLinkable P → IsFormat P scatter n → Describes P scatter e
    → 1 ≤ s → s ≤ length P.tree
    → faults_from e (facts_before (fetched e (written_bytes P scatter n) at) s) k (map rec_bytes (records_of P n s (suc (length P.tree - s)))) ≡ None
rest_faultless P scatter n e at s k link format describes low high =
    fine_faults e F k (records_of P n s (suc (length P.tree - s)))
    (segments_are_fine P n s (suc (length P.tree - s)) e F link format.some format.most low (count (length P.tree) s high)
    (facts_begin P scatter n e at s link format describes) (rest_clear P n s link format.some low high))
  where
    F : Facts
    F = facts_before (fetched e (written_bytes P scatter n) at) s

    count : (len s : ℕ) → s ≤ len → s + suc (len - s) ≡ len + 1
    count len s high = omega (arith, high)

-- the facts after the records of the segment
after_is : (P : Laid) (n s : ℕ) (F : Facts) → IsLinkable P → 1 ≤ n → n ≤ most_text → 1 ≤ s → s ≤ length P.tree → F.segment ≡ s → F.due ≡ None
    → fold seen F (map rec_bytes (segment_records P n s)) ≡ with_segment P n s F
after_is P n s F link some most low high here due =
    fold-seen F (segment_records P n s) ∙ (segment_walks P n s F link some most low high here due).whole

records_are : (P : Laid) (scatter : Bool) (n s : ℕ) (e : Entry) (at : ℕ) → IsLinkable P → IsFormat P scatter n → Describes P scatter e
    → is_overlay P.tree ≡ true → length (written_bytes P scatter n) ≤ most_records → 1 ≤ s → s ≤ length P.tree
    → records_from (fetched e (written_bytes P scatter n) at) s ≡ drop (records_before P scatter n s) (written_bytes P scatter n)
records_are P scatter n s e at link format describes over few low high =
    ap (λ k. drop (k - 1) (written_bytes P scatter n))
    (first_is P scatter n (block P at) _ s link format (fetched_in_block P scatter n e at link format describes) over few low high)
    ∙ ap (λ k. drop k (written_bytes P scatter n)) (back (records_before P scatter n s))
  where
    back : (k : ℕ) → k + 1 - 1 ≡ k
    back k = omega arith

read_good : (P : Laid) (scatter : Bool) (n s : ℕ) (e : Entry) (at : ℕ) → IsLinkable P → IsFormat P scatter n → Describes P scatter e
    → is_overlay P.tree ≡ true → length (written_bytes P scatter n) ≤ most_records → 1 ≤ s → s ≤ length P.tree
    → segment_bad (fetched e (written_bytes P scatter n) at) s ≡ None
read_good P scatter n s e at link format describes over few low high =
    ap (bad_from e s F first) (records_are P scatter n s e at link format describes over few low high ∙ segment-there P scatter n s low high
    ∙ map-append rec_bytes (segment_records P n s) (records_of P n (s + 1) (length P.tree - s)))
    ∙ good_up_to e s F first (map rec_bytes (segment_records P n s)) (map rec_bytes (records_of P n (s + 1) (length P.tree - s)))
    (subst (λ l. faults_from e F first l ≡ None) (map-append rec_bytes (segment_records P n s) (records_of P n (s + 1) (length P.tree - s)))
    (rest_faultless P scatter n e at s first link format describes low high))
    (λ same. past s (sym (ap (λ (G : Facts). G.segment) (after_is P n s F link format.some format.most low high refl refl) ∙ next-segment P n s F) ∙ same))
  where
    F : Facts
    F = facts_before (fetched e (written_bytes P scatter n) at) s

    first : ℕ
    first = (note (fetched e (written_bytes P scatter n) at) s).first

    past : (s : ℕ) → s + 1 ≡ s → ⊥
    past s same = omega (arith, same)

-- ---- what was read

facts_are : (P : Laid) (scatter : Bool) (n s : ℕ) (e : Entry) (at : ℕ) → IsLinkable P → IsFormat P scatter n → Describes P scatter e
    → is_overlay P.tree ≡ true → length (written_bytes P scatter n) ≤ most_records → 1 ≤ s → s ≤ length P.tree
    → segment_facts (fetched e (written_bytes P scatter n) at) s
    ≡ walked s (facts_before (fetched e (written_bytes P scatter n) at) s) (drop (records_before P scatter n s) (written_bytes P scatter n))
unfolding segment_facts
facts_are P scatter n s e at link format describes over few low high =
    ap (walked s (facts_before (fetched e (written_bytes P scatter n) at) s)) (records_are P scatter n s e at link format describes over few low high)

new_fields : (P : Laid) (n s : ℕ) (F : Facts) → F.fields ≡ [] → (with_segment P n s F).fields ≡ fields_in P n s
unfolding with_segment
new_fields P n s F none = ap (λ fs. fs ++ fields_in P n s) none

pub reads_alone : (P : Laid) (scatter : Bool) (n s : ℕ) (e : Entry) (at : ℕ) → IsLinkable P → IsFormat P scatter n → Describes P scatter e
    → is_overlay P.tree ≡ true → length (written_bytes P scatter n) ≤ most_records → 1 ≤ s → s ≤ length P.tree
    → ReadsAlone P n s at (fetched e (written_bytes P scatter n) at)
reads_alone P scatter n s e at link format describes over few low high =
    let gathers : Gathers P scatter n = written_records_gather P scatter n link format in
    let is : IsFetched P scatter n (block P at) m = fetched_in_block P scatter n e at link format describes in
    let read = facts_are P scatter n s e at link format describes over few low high in
    record {
      good = read_good P scatter n s e at link format describes over few low high;
      fields =
          ap (λ (G : Facts). G.fields) (read ∙ gathers.segment s F low high refl refl) ∙ new_fields P n s F refl;
      loads = λ a.
          ap (λ (G : Facts). loaded G m.addresses s a) read
          ∙ ap (λ symbols. loaded (walked s F (drop (records_before P scatter n s) (written_bytes P scatter n))) (in_block symbols at) s a) is.symbols
          ∙ segments_read_load_linked P scatter n s at F link format gathers low high
          (record { symbols = is.symbols; texts = refl; fields = refl; segment = refl; due = refl }) a;
    }
  where
    m : Fetched
    m = fetched e (written_bytes P scatter n) at

    F : Facts
    F = facts_before m s

pub segments_read_alone : SegmentsReadAlone
segments_read_alone P scatter n who at s link format over few low high =
    each_entry (λ e. ReadsAlone P n s at (fetched e (written_bytes P scatter n) at)) P scatter n who
    (λ e describes. reads_alone P scatter n s e at link format describes over few low high)
