-- What a fetch reads and meets, and the text that records add.
use Rattle.std.proofs.Common.{◌≡◌, ℕ, suc, ◌+◌, ◌≤◌, refl, sym, ap, subst, ◌∙◌, Bool, true, false, not, ◌==◌, ◌||◌, nat_lt, if◌then◌else◌, List, [], ◌∷◌, ◌++◌, fold, Option, Some, None, option_map, arith, rules, append_assoc}
use Rattle.std.proofs.lemmas.Bool.{eqb-true}
use Rattle.le_bytes.specs.declared.record_what.RecWhat.{RecWhat}
use Rattle.pds_directory.specs.declared.entry.Entry.{Entry}
use Rattle.load_recs.specs.Records.{Record, SymbolRecord, ScatterRecord, TranslationRecord, NoteRecord, ControlRecord, RldRecord, ControlRldRecord, TextRecord}
use Rattle.load_recs.specs.Reading.{contents}
use Rattle.load_recs.specs.Relocations.{rlds_of}
use Rattle.load_recs.specs.declared.records.Ends.{Ends}
use Rattle.load_recs.specs.declared.records.TextHead.{TextHead}
use Rattle.member_model.specs.Symbols.{is_overlay_member}
use Rattle.member_model.specs.Facts.{Facts, Text, facts, no_facts, seen, ended_by, with_fields, with_contents, with_record}
use Rattle.member_model.specs.FirstBad.{Fault, first_bad_of, first_bad, root_part, fetch_bad}
use Rattle.member_model.proofs.Gathered.{records_add_facts}
use Rattle.member_walk.proofs.Textless.{contents_texts, ended_texts}
use Rattle.member_walk.specs.Walked.{Walked, IsWalked, walked_of}
use Rattle.member_walk.specs.Told.{text_told, texts_of, IsFirstFault, is_fetched_on, is_fetched_whole}
use Rattle.member_walk.specs.declared.parts.TextPlace.{TextPlace}
use Rattle.member_walk.specs.declared.faults.WalkFault.TheVariants.{At}
use Rattle.member_walk.specs.Laws.{TextsAreTold, WholeMembersEnd, FetchReads, FetchMeetsFaults, FetchRunsOut, FetchEnds}

-- ---- text

no_more : {A : Type 0} (xs : List A) → xs ≡ xs ++ []
no_more [] = refl
no_more (x ∷ xs) = ap (λ ys. x ∷ ys) (no_more xs)

-- where the text lies that is due
place_in : Facts → Option TextHead → Option TextPlace
place_in F due = option_map (λ text. record { segment = F.segment; section = text.section; address = text.address }) due

record_texts : (F : Facts) (due : Option TextHead) (bytes : List ℕ) → (with_record F due bytes).texts ≡ F.texts ++ texts_of (place_in F due) bytes
unfolding place_in
record_texts F None bytes = contents_texts F (contents bytes) ∙ no_more F.texts
record_texts F (Some text) bytes =
    ended_texts F.ends (record F {
      texts = F.texts ++ record { segment = F.segment; section = text.section; address = text.address; bytes = bytes } ∷ [];
      due = None;
    })

seen_texts : (F : Facts) (bytes : List ℕ) → (seen F bytes).texts ≡ F.texts ++ texts_of (place_in F F.due) bytes
unfolding seen
seen_texts F bytes = record_texts F F.due bytes

pub texts_are_told : TextsAreTold
unfolding place_in
texts_are_told e records bytes w walked =
    ap (λ F. F.texts) (records_add_facts records bytes)
    ∙ (seen_texts (facts records) bytes
    ∙ ap (λ v. (facts records).texts ++ texts_of (text_told v) bytes) (sym walked.state))

-- ---- whole members

pub whole_members_end : WholeMembersEnd
unfolding first_bad
whole_members_end e records w walked = ap (λ v. first_bad_of e records v.facts.ended) (sym walked.state)

-- ---- segments are never fewer

ended_rises : (ends : Ends) (F : Facts) → F.segment ≤ (ended_by ends F).segment
ended_rises ends F = by_end ends.segment
  where
    by_end : (t : Bool) → F.segment ≤ (if t then record F { segment = F.segment + 1; ended = ends.module } else F).segment
    by_end true = omega arith
    by_end false = omega arith

same_rises : (n : ℕ) → n ≤ n
same_rises n = omega arith

contents_rise : (F : Facts) (x : Record) → F.segment ≤ (with_contents F x).segment
contents_rise F (SymbolRecord first items) = same_rises F.segment
contents_rise F (ScatterRecord first items) = same_rises F.segment
contents_rise F (TranslationRecord first items) = same_rises F.segment
contents_rise F (NoteRecord first items) = same_rises F.segment
contents_rise F (ControlRecord ends text) = same_rises F.segment
contents_rise F (RldRecord ends items) = ended_rises ends (with_fields (rlds_of items) F)
contents_rise F (ControlRldRecord ends items text) = same_rises F.segment
contents_rise F (TextRecord bytes) = same_rises F.segment

record_rises : (F : Facts) (due : Option TextHead) (bytes : List ℕ) → F.segment ≤ (with_record F due bytes).segment
record_rises F None bytes = contents_rise F (contents bytes)
record_rises F (Some text) bytes =
    ended_rises F.ends (record F {
      texts = F.texts ++ record { segment = F.segment; section = text.section; address = text.address; bytes = bytes } ∷ [];
      due = None;
    })

seen_rises : (F : Facts) (bytes : List ℕ) → F.segment ≤ (seen F bytes).segment
unfolding seen
seen_rises F bytes = record_rises F F.due bytes

all_rise : (F : Facts) (records : List (List ℕ)) → F.segment ≤ (fold seen F records).segment
all_rise F [] = same_rises F.segment
all_rise F (b ∷ bs) = through (seen_rises F b) (all_rise (seen F b) bs)
  where
    through : {m n k : ℕ} → m ≤ n → n ≤ k → m ≤ k
    through h i = omega arith

some_segment : (records : List (List ℕ)) → 1 ≤ (facts records).segment
unfolding facts
some_segment records = all_rise no_facts records

-- ---- what a fetch reads

is_first : (m n : ℕ) → 1 ≤ m → m ≤ n → n ≡ 1 → (m == 1) ≡ true
is_first m n some rises one = let same : m ≡ 1 = omega arith in rw same refl

part_more : (F : Facts) (records rest : List (List ℕ)) → 1 ≤ F.segment → (fold seen F records).segment ≡ 1 → root_part F (records ++ rest) ≡ records ++ root_part (fold seen F records) rest
unfolding root_part
part_more F [] rest some one = refl
part_more F (b ∷ bs) rest some one =
    let first : (F.segment == 1) ≡ true = is_first F.segment (fold seen F (b ∷ bs)).segment some (all_rise F (b ∷ bs)) one in
    let later : 1 ≤ (seen F b).segment = through some (seen_rises F b) in
    rw first (ap (λ xs. b ∷ xs) (part_more (seen F b) bs rest later one))
  where
    through : {m n k : ℕ} → m ≤ n → n ≤ k → m ≤ k
    through h i = omega arith

part_of : (records rest : List (List ℕ)) → (facts records).segment ≡ 1 → root_part no_facts (records ++ rest) ≡ records ++ root_part (facts records) rest
unfolding facts
part_of records rest one = part_more no_facts records rest (same_rises 1) one

segment_of : (e : Entry) (records : List (List ℕ)) (w : Walked) → IsWalked e records w → w.facts.segment ≡ (facts records).segment
segment_of e records w walked = ap (λ v. v.facts.segment) walked.state

pub fetch_reads : FetchReads
fetch_reads e records rest w walked one = part_of records rest (sym (segment_of e records w walked) ∙ one)

-- the next record of segment 1 is read
part_next : (F : Facts) (bytes : List ℕ) (rest : List (List ℕ)) → F.segment ≡ 1 → root_part F (bytes ∷ rest) ≡ bytes ∷ root_part (seen F bytes) rest
unfolding root_part
part_next F bytes rest one = rw one refl

part_with : (records rest : List (List ℕ)) (bytes : List ℕ) → (facts records).segment ≡ 1 → root_part no_facts (records ++ bytes ∷ rest) ≡ records ++ bytes ∷ root_part (seen (facts records) bytes) rest
part_with records rest bytes one = part_of records (bytes ∷ rest) one ∙ ap (λ xs. records ++ xs) (part_next (facts records) bytes rest one)

-- ---- what a fetch meets

on_first : (overlay : Bool) (n : ℕ) → overlay ≡ true → (not overlay || n == 1) ≡ true → n ≡ 1
on_first true n o h = eqb-true n 1 h
on_first false n o h = cc

plain_fetch : (e : Entry) (records : List (List ℕ)) → is_overlay_member e ≡ false → fetch_bad e records ≡ first_bad_of e records (facts records).ended
unfolding fetch_bad first_bad
plain_fetch e records plain = rw plain refl

overlay_fetch : (e : Entry) (records part : List (List ℕ)) → is_overlay_member e ≡ true → root_part no_facts records ≡ part → fetch_bad e records ≡ first_bad_of e part (nat_lt 1 (facts part).segment)
unfolding fetch_bad
overlay_fetch e records part overlay same = rw (overlay, same) refl

pub fetch_meets_faults : FetchMeetsFaults
fetch_meets_faults e records rest bytes w number what walked on fault = by_attribute (is_overlay_member e) refl
  where
    by_attribute : (t : Bool) → is_overlay_member e ≡ t → fetch_bad e (records ++ bytes ∷ rest) ≡ Some (number, what)
    by_attribute false plain = plain_fetch e (records ++ bytes ∷ rest) plain ∙ fault records rest (facts (records ++ bytes ∷ rest)).ended walked
    by_attribute true overlay =
        let one : (facts records).segment ≡ 1 = sym (segment_of e records w walked) ∙ on_first (is_overlay_member e) w.facts.segment overlay on in
        let part : List (List ℕ) = records ++ bytes ∷ root_part (seen (facts records) bytes) rest in
        overlay_fetch e (records ++ bytes ∷ rest) part overlay (part_with records rest bytes one)
        ∙ fault records (root_part (seen (facts records) bytes) rest) (nat_lt 1 (facts part).segment) walked

part_over : (F : Facts) → root_part F [] ≡ []
unfolding root_part
part_over F = refl

pub fetch_runs_out : FetchRunsOut
fetch_runs_out e records w walked on = by_attribute (is_overlay_member e) refl
  where
    whole_as : (t : Bool) → is_overlay_member e ≡ t → is_fetched_whole e w ≡ (if t then nat_lt 1 (facts records).segment else (facts records).ended)
    whole_as t same = rw (same, walked.state) refl

    by_attribute : (t : Bool) → is_overlay_member e ≡ t → fetch_bad e records ≡ first_bad_of e records (is_fetched_whole e w)
    by_attribute false plain = plain_fetch e records plain ∙ ap (first_bad_of e records) (sym (whole_as false plain))
    by_attribute true overlay =
        let one : (facts records).segment ≡ 1 = sym (segment_of e records w walked) ∙ on_first (is_overlay_member e) w.facts.segment overlay on in
        overlay_fetch e records records overlay (ap (root_part no_facts) (no_more records) ∙ (part_of records [] one ∙ (ap (λ xs. records ++ xs) (part_over (facts records)) ∙ sym (no_more records))))
        ∙ ap (first_bad_of e records) (sym (whole_as true overlay))

-- a segment after the first goes on
no_longer : (overlay : Bool) (n : ℕ) → 1 ≤ n → (not overlay || n == 1) ≡ false → (overlay ≡ true) × ((n == 1) ≡ false) × (nat_lt 1 n ≡ true)
no_longer true n some h = (refl, h, above n some h)
  where
    above : (n : ℕ) → 1 ≤ n → (n == 1) ≡ false → nat_lt 1 n ≡ true
    above n some h = search (rules)
no_longer false n some h = cc

part_ends : (F : Facts) (rest : List (List ℕ)) → (F.segment == 1) ≡ false → root_part F rest ≡ []
unfolding root_part
part_ends F [] other = refl
part_ends F (b ∷ bs) other = rw other refl

pub fetch_ends : FetchEnds
fetch_ends e records rest bytes w next walked on later off =
    let all : List (List ℕ) = records ++ bytes ∷ [] in
    let there : 1 ≤ next.facts.segment = subst (λ n. 1 ≤ n) (sym (segment_of e all next later)) (some_segment all) in
    let ended = no_longer (is_overlay_member e) next.facts.segment there off in
    let one : (facts records).segment ≡ 1 = sym (segment_of e records w walked) ∙ on_first (is_overlay_member e) w.facts.segment ended.0 on in
    let same : seen (facts records) bytes ≡ facts all = sym (records_add_facts records bytes) in
    let over : ((seen (facts records) bytes).segment == 1) ≡ false = ap (λ F. F.segment == 1) same ∙ (ap (λ n. n == 1) (sym (segment_of e all next later)) ∙ ended.1) in
    let part : root_part no_facts (records ++ bytes ∷ rest) ≡ all = part_with records rest bytes one ∙ ap (λ xs. records ++ bytes ∷ xs) (part_ends (seen (facts records) bytes) rest over) in
    let whole : is_fetched_whole e next ≡ nat_lt 1 (facts all).segment = rw (ended.0, later.state) refl in
    (part, overlay_fetch e (records ++ bytes ∷ rest) all ended.0 part ∙ ap (first_bad_of e all) (sym whole))
