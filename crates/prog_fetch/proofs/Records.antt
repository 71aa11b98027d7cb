-- One record more of those that a fetch reads.
use Rattle.std.proofs.Common.{arith, ◌≡◌, ℕ, zero, suc, ◌+◌, ◌-◌, ◌≤◌, Bool, true, false, not, ◌||◌, ◌==◌, if◌then◌else◌, List, [], ◌∷◌, ◌++◌, length, fold, take, drop, replicate, refl, sym, ◌∙◌, ap, subst, append_assoc, Option, Some, None, Result, Ok, Err, OnOk, IfErr, slice_get}
use Rattle.std.specs.Option.{option_or, option_map}
use Rattle.std.proofs.lemmas.Grind.{common_steps}
use Rattle.std.proofs.lemmas.List.{take-append-drop}
use Rattle.std.specs.List.{prefix_len}
use Rattle.le_bytes.specs.declared.record_what.RecWhat.{RecWhat}
use Rattle.le_io.specs.Counts.{WhereTold}
use Rattle.lib_stream.specs.Sources.{IsRecord, AreRecords}
use Rattle.pds_directory.specs.declared.entry.Entry.{Entry}
use Rattle.member_model.specs.Symbols.{is_overlay_member}
use Rattle.member_model.specs.Facts.{Facts, facts, no_facts, seen, walked}
use Rattle.member_model.specs.Faults.{first_some, fault}
use Rattle.member_model.specs.FirstBad.{Fault, at, faults_from, first_symbols, begins_with_symbols, head_fault, entry_fault, root_part, fetch_bad}
use Rattle.member_model.proofs.Gathered.{faults_come_in_turn}
use Rattle.member_walk.specs.Walked.{Walked, IsWalked, bad_so_far, are_symbols}
use Rattle.member_walk.specs.Told.{is_fetched_on}
use Rattle.member_walk.proofs.Fetching.{fetch_reads, fetch_meets_faults, fetch_ends}
use Rattle.member_walk.proofs.HeadLists.{faults-append}
use Rattle.prog_fetch.specs.declared.fault.FetchFault.{FetchFault}
use Rattle.prog_fetch.specs.declared.fault.FetchFault.TheVariants.{At, ReadFault, Memory}
use Rattle.prog_fetch.specs.Sources.{AreOf}
use Rattle.prog_fetch.specs.Reading.{IsRead, IsPart, FindsFault, ShowsFault}
use Rattle.prog_fetch.proofs.Sound.{Sound, nothing_sound, sound_seen, in_segment_one, left_none, right_none}

-- ---- the records that were walked have no fault

pub front_back : (bs : List (List ℕ)) → first_symbols bs ++ drop (length (first_symbols bs)) bs ≡ bs
front_back bs = cut bs (prefix_len begins_with_symbols bs)
  where
    cut : (bs : List (List ℕ)) (k : ℕ) → take k bs ++ drop (length (take k bs)) bs ≡ bs
    cut bs k = grind (arith, common_steps)

pub none_of_map : (n : ℕ) (x : Option RecWhat) → option_map (at n) x ≡ None → x ≡ None
none_of_map n None h = refl
none_of_map n (Some what) h = absurd cc

pub no_faults : (e : Entry) (records : List (List ℕ)) (w : Walked) → IsWalked e records w → faults_from e no_facts 1 records ≡ None
unfolding bad_so_far facts
no_faults e records w walked =
    let first : List (List ℕ) = first_symbols records in
    let rest : List (List ℕ) = drop (length first) records in
    let a : Option Fault = faults_from e no_facts 1 first in
    let b : Option Fault = option_map (at 1) (head_fault records) in
    let c : Option Fault = option_map (at 0) (if are_symbols records then None else entry_fault e (facts first)) in
    let d : Option Fault = faults_from e (facts first) (length first + 1) rest in
    let a_none : a ≡ None = left_none a (first_some (b ∷ c ∷ d ∷ [])) walked.good in
    let after_a : first_some (b ∷ c ∷ d ∷ []) ≡ None = right_none a (first_some (b ∷ c ∷ d ∷ [])) walked.good in
    let after_b : first_some (c ∷ d ∷ []) ≡ None = right_none b (first_some (c ∷ d ∷ [])) after_a in
    let after_c : first_some (d ∷ []) ≡ None = right_none c (first_some (d ∷ [])) after_b in
    let d_none : d ≡ None = left_none d None after_c in
    let number : 1 + length first ≡ length first + 1 = omega arith in
    ap (faults_from e no_facts 1) (sym (front_back records))
    ∙ (faults-append e no_facts 1 first rest ∙ rw (a_none, number) d_none)

pub last_right : (e : Entry) (records : List (List ℕ)) (bytes : List ℕ) (w : Walked) → IsWalked e (records ++ bytes ∷ []) w → fault e (facts records) bytes ≡ None
unfolding facts
last_right e records bytes w walked =
    let all : option_or (faults_from e no_facts 1 records) (option_map (at (1 + length records)) (fault e (fold seen no_facts records) bytes)) ≡ None =
    sym (faults_come_in_turn e no_facts 1 records bytes) ∙ no_faults e (records ++ bytes ∷ []) w walked in
    none_of_map (1 + length records) (fault e (fold seen no_facts records) bytes) (right_none (faults_from e no_facts 1 records) _ all)

-- ---- they are sound

sound_all : (e : Entry) (F : Facts) (n : ℕ) (bs : List (List ℕ)) → Sound e F → faults_from e F n bs ≡ None → root_part F bs ≡ bs → Sound e (fold seen F bs)
unfolding faults_from root_part
sound_all e F n [] sound none root = sound
sound_all e F n (b ∷ bs) sound none root =
    by_segment (F.segment == 1) refl root (λ one rest. sound_all e (seen F b) (n + 1) bs (sound_seen e F b one here sound) later rest)
  where
    here : fault e F b ≡ None
    here = none_of_map n (fault e F b) (left_none (option_map (at n) (fault e F b)) (faults_from e (seen F b) (n + 1) bs) none)

    later : faults_from e (seen F b) (n + 1) bs ≡ None
    later = right_none (option_map (at n) (fault e F b)) (faults_from e (seen F b) (n + 1) bs) none

    by_segment : (t : Bool) → (F.segment == 1) ≡ t → (if t then b ∷ root_part (seen F b) bs else []) ≡ b ∷ bs
        → (F.segment ≡ 1 → root_part (seen F b) bs ≡ bs → Sound e (fold seen (seen F b) bs)) → Sound e (fold seen (seen F b) bs)
    by_segment true is root go = go (grind (arith, is)) (cc)
    by_segment false is root go = absurd cc

pub sound_of : (e : Entry) (records : List (List ℕ)) (w : Walked) → IsWalked e records w → root_part no_facts records ≡ records → Sound e (facts records)
unfolding facts
sound_of e records w walked root = sound_all e no_facts 1 records (nothing_sound e) (no_faults e records w walked) root

pub segment_of_walk : (e : Entry) (records : List (List ℕ)) (w : Walked) → IsWalked e records w → w.facts.segment ≡ (facts records).segment
segment_of_walk e records w walked = ap (λ (x : Walked). x.facts.segment) walked.state

pub number_of_walk : (e : Entry) (records : List (List ℕ)) (w : Walked) → IsWalked e records w → w.number ≡ length records
number_of_walk e records w walked = ap (λ (x : Walked). x.number) walked.state

-- a record that a fetch reads is one of segment 1
pub fetched_one : (e : Entry) (records : List (List ℕ)) (bytes : List ℕ) (w next : Walked) → IsWalked e records w → root_part no_facts records ≡ records
    → is_fetched_on e w ≡ true → IsWalked e (records ++ bytes ∷ []) next → (facts records).segment ≡ 1
fetched_one e records bytes w next walked root on later =
    in_segment_one e (facts records) bytes (sound_of e records w walked root) (λ overlay. by_overlay overlay on) (last_right e records bytes next later)
  where
    by_overlay : is_overlay_member e ≡ true → is_fetched_on e w ≡ true → (facts records).segment ≡ 1
    by_overlay overlay on =
        let one : (w.facts.segment == 1) ≡ true = rw overlay at on in
        let is : w.facts.segment ≡ 1 = grind (arith, one) in
        sym (segment_of_walk e records w walked) ∙ is

-- ---- what a fetch reads

root_of_one : (F : Facts) (b : List ℕ) → F.segment ≡ 1 → root_part F (b ∷ []) ≡ b ∷ []
unfolding root_part
root_of_one F b one = let is : (F.segment == 1) ≡ true = grind (arith, one) in rw is refl

root_more : (e : Entry) (records : List (List ℕ)) (bytes : List ℕ) (w : Walked) → IsWalked e records w → (facts records).segment ≡ 1
    → root_part no_facts (records ++ bytes ∷ []) ≡ records ++ bytes ∷ []
root_more e records bytes w walked one =
    fetch_reads e records (bytes ∷ []) w walked (segment_of_walk e records w walked ∙ one)
    ∙ ap (λ bs. records ++ bs) (root_of_one (facts records) bytes one)

part_more : (e : Entry) (records : List (List ℕ)) (bytes : List ℕ) (w next : Walked) → IsWalked e records w → is_fetched_on e w ≡ true
    → IsWalked e (records ++ bytes ∷ []) next → is_fetched_on e next ≡ false → IsPart e (records ++ bytes ∷ []) next
part_more e records bytes w next walked on later off = record {
  root = λ rest. ap (root_part no_facts) (append_assoc records (bytes ∷ []) rest) ∙ (fetch_ends e records rest bytes w next walked on later off).0;
  bad = λ rest. ap (fetch_bad e) (append_assoc records (bytes ∷ []) rest) ∙ (fetch_ends e records rest bytes w next walked on later off).1;
}

-- ---- the list of the source

take_next : (all : List (List ℕ)) (k : ℕ) (bytes : List ℕ) → slice_get all k ≡ Some bytes → take k all ++ bytes ∷ [] ≡ take (suc k) all
take_next [] k bytes there = absurd cc
take_next (x ∷ all) zero bytes there = let is : x ≡ bytes = cc in ap (λ (b : List ℕ). b ∷ []) (sym is)
take_next (x ∷ all) (suc k) bytes there = ap (λ (rs : List (List ℕ)). x ∷ rs) (take_next all k bytes there)

pub one_longer : (records : List (List ℕ)) (bytes : List ℕ) → length (records ++ bytes ∷ []) ≡ suc (length records)
one_longer [] bytes = refl
one_longer (b ∷ records) bytes = ap suc (one_longer records bytes)

pub told_more : (list : Option (List (List ℕ))) (records : List (List ℕ)) (bytes : List ℕ) (n : ℕ) → n ≡ length records + 1
    → WhereTold list (λ all. records ≡ take (length records) all) → WhereTold list (λ all. IsRecord all n bytes)
    → WhereTold list (λ all. records ++ bytes ∷ [] ≡ take (length (records ++ bytes ∷ [])) all)
told_more list records bytes n number told next = λ all is.
    let place : n - 1 ≡ length records = omega (arith, number) in
    let there : slice_get all (length records) ≡ Some bytes = subst (λ k. slice_get all k ≡ Some bytes) place (next all is) in
    ap (λ rs. rs ++ bytes ∷ []) (told all is) ∙ (take_next all (length records) bytes there ∙ ap (λ k. take k all) (sym (one_longer records bytes)))

-- some records that the source may have begin with these
pub record Begins (list : Option (List (List ℕ))) (total : ℕ) (records : List (List ℕ)) : Type 0 where
  pub rest : List (List ℕ)
  pub are : AreOf list total (records ++ rest)

filled_length : (records : List (List ℕ)) (total : ℕ) → length records ≤ total → length (records ++ replicate {A = List ℕ} (total - length records) []) ≡ total
filled_length records total few = grind (arith, common_steps)

pub begins : (list : Option (List (List ℕ))) (total : ℕ) (lengths : ℕ → ℕ) (records : List (List ℕ)) → WhereTold list (λ all. AreRecords all total lengths)
    → WhereTold list (λ all. records ≡ take (length records) all) → length records ≤ total → Begins list total records
begins None total lengths records agrees told few = record {
  rest = replicate (total - length records) [];
  are = record { told = λ all is. absurd cc; counted = filled_length records total few };
}
begins (Some all) total lengths records agrees told few =
    let whole : records ++ drop (length records) all ≡ all =
    ap (λ rs. rs ++ drop (length records) all) (told all refl) ∙ take-append-drop (length records) all in
    record {
      rest = drop (length records) all;
      are = record {
        told = λ others is. whole ∙ (let same : all ≡ others = cc in same);
        counted = ap length whole ∙ (agrees all refl).counted;
      };
    }

-- ---- one record more

pub read_more : (e : Entry) (list : Option (List (List ℕ))) (total n : ℕ) (w next : Walked) (records : List (List ℕ)) (bytes : List ℕ)
    → IsRead e list total w records → is_fetched_on e w ≡ true → n ≡ w.number + 1 → n ≤ total → WhereTold list (λ all. IsRecord all n bytes)
    → IsWalked e (records ++ bytes ∷ []) next → IsRead e list total next (records ++ bytes ∷ [])
read_more e list total n w next records bytes read on number most told later =
    let count : w.number ≡ length records = number_of_walk e records w read.walked in
    let one : (facts records).segment ≡ 1 = fetched_one e records bytes w next read.walked read.root on later in
    record {
      walked = later;
      told = told_more list records bytes n (omega (arith, number, count)) read.told told;
      few = rw (one_longer records bytes) (omega (arith, number, count, most));
      root = root_more e records bytes w read.walked one;
      part = λ off. part_more e records bytes w next read.walked on later off;
    }

pub counted_more : (e : Entry) (w next : Walked) (records : List (List ℕ)) (bytes : List ℕ) → IsWalked e records w → IsWalked e (records ++ bytes ∷ []) next
    → next.number ≡ w.number + 1
counted_more e w next records bytes walked later =
    let before : w.number ≡ length records = number_of_walk e records w walked in
    let after : next.number ≡ length (records ++ bytes ∷ []) = number_of_walk e (records ++ bytes ∷ []) next later in
    omega (arith, before, after, one_longer records bytes)

pub fault_found : (e : Entry) (list : Option (List (List ℕ))) (total n : ℕ) (lengths : ℕ → ℕ) (w : Walked) (records : List (List ℕ)) (bytes : List ℕ) (why : FetchFault)
    → WhereTold list (λ all. AreRecords all total lengths) → IsRead e list total w records → is_fetched_on e w ≡ true → n ≡ w.number + 1 → n ≤ total
    → WhereTold list (λ all. IsRecord all n bytes) → ShowsFault e w bytes why → FindsFault list total e why
fault_found e list total n lengths w records bytes (At number what) agrees read on is most told shows =
    let count : w.number ≡ length records = number_of_walk e records w read.walked in
    let more : Begins list total (records ++ bytes ∷ []) =
    begins list total lengths (records ++ bytes ∷ []) agrees (told_more list records bytes n (omega (arith, is, count)) read.told told)
    (rw (one_longer records bytes) (omega (arith, is, count, most))) in (
      records ++ bytes ∷ more.rest,
      subst (AreOf list total) (append_assoc records (bytes ∷ []) more.rest) more.are,
      fetch_meets_faults e records more.rest bytes w number what read.walked on shows,
    )
fault_found e list total n lengths w records bytes ReadFault agrees read on is most told shows = tt
fault_found e list total n lengths w records bytes Memory agrees read on is most told shows = tt

pub counted_on : {X : Type 0} (answer : Result X FetchFault) (e : Entry) (w next : Walked) (records : List (List ℕ)) (bytes : List ℕ) → IsWalked e records w
    → OnOk answer ((rs : List (List ℕ)) → IsWalked e rs w → IsWalked e (rs ++ bytes ∷ []) next) → OnOk answer (next.number ≡ w.number + 1)
counted_on (Ok x) e w next records bytes walked later = counted_more e w next records bytes walked (later records walked)
counted_on (Err why) e w next records bytes walked later = later

pub fault_on : {X : Type 0} (answer : Result X FetchFault) (e : Entry) (list : Option (List (List ℕ))) (total n : ℕ) (lengths : ℕ → ℕ) (w : Walked) (records : List (List ℕ)) (bytes : List ℕ)
    → WhereTold list (λ all. AreRecords all total lengths) → IsRead e list total w records → is_fetched_on e w ≡ true → n ≡ w.number + 1 → n ≤ total
    → WhereTold list (λ all. IsRecord all n bytes) → IfErr answer (ShowsFault e w bytes) → IfErr answer (FindsFault list total e)
fault_on (Ok x) e list total n lengths w records bytes agrees read on is most told shows = shows
fault_on (Err why) e list total n lengths w records bytes agrees read on is most told shows =
    fault_found e list total n lengths w records bytes why agrees read on is most told shows

-- ---- before the first record

pub nothing_read : (e : Entry) (list : Option (List (List ℕ))) (total : ℕ) (w : Walked) → IsWalked e [] w → IsRead e list total w []
unfolding root_part facts
nothing_read e list total w walked = record {
  walked = walked;
  told = λ all is. refl;
  few = omega arith;
  root = refl;
  part = λ off. absurd (still_on off);
}
  where
    still_on : is_fetched_on e w ≡ false → ⊥
    still_on off =
        let one : w.facts.segment ≡ 1 = segment_of_walk e [] w walked in
        by_overlay (is_overlay_member e) one off
      where
        by_overlay : (t : Bool) → w.facts.segment ≡ 1 → (not t || w.facts.segment == 1) ≡ false → ⊥
        by_overlay true one off = let is : (w.facts.segment == 1) ≡ true = grind (arith, one) in (let gone : true ≡ false = sym is ∙ off in absurd cc)
        by_overlay false one off = absurd cc
