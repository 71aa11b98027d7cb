-- A good member is fetched: the head records and segment 1 of an overlay member have no fault where the whole has none.
use Rattle.std.proofs.Common.{◌≡◌, ℕ, ◌+◌, ◌≤◌, refl, Bool, true, false, not, ◌==◌, nat_lt, if◌then◌else◌, List, [], ◌∷◌, ◌++◌, length, drop, fold, Option, Some, None, option_map, arith, rules}
use Rattle.std.specs.Option.{option_or}
use Rattle.std.proofs.Math.Seq.{drop-append_seam}
use Rattle.std.proofs.lemmas.Bool.{eqb-true}
use Rattle.std.proofs.lemmas.List.Sums.{take_while-cons}
use Rattle.pds_directory.specs.declared.entry.Entry.{Entry}
use Rattle.le_bytes.specs.declared.record_what.RecWhat.TheVariants.{NoEnd}
use Rattle.load_recs.specs.Records.{Record, SymbolRecord, ScatterRecord, TranslationRecord, NoteRecord, ControlRecord, RldRecord, ControlRldRecord, TextRecord}
use Rattle.load_recs.specs.Reading.{contents}
use Rattle.load_recs.specs.Relocations.{rlds_of}
use Rattle.load_recs.specs.declared.records.Ends.{Ends}
use Rattle.load_recs.specs.declared.records.TextHead.{TextHead}
use Rattle.member_model.specs.Symbols.{is_overlay_member}
use Rattle.member_model.specs.Facts.{Facts, facts, no_facts, seen, ended_by, with_contents, with_fields, with_record}
use Rattle.member_model.specs.Faults.{fault, first_some, when}
use Rattle.member_model.specs.FirstBad.{Fault, at, faults_from, entry_fault, begins_with_symbols, first_symbols, head_fault, first_bad_of, first_bad, root_part, fetch_bad}
use Rattle.member_model.specs.Laws.{GoodMembersAreFetched}

-- ---- the first of several faults

left_none : (x y : Option Fault) → option_or x y ≡ None → x ≡ None
left_none None y h = refl
left_none (Some f) y h = h

right_none : (x y : Option Fault) → option_or x y ≡ None → y ≡ None
right_none None y h = h
right_none (Some f) y h = cc

none_of : (a b c d e : Option Fault) → a ≡ None → b ≡ None → c ≡ None → d ≡ None → e ≡ None → first_some (a ∷ b ∷ c ∷ d ∷ e ∷ []) ≡ None
none_of a b c d e ha hb hc hd he = rw (ha, hb, hc, hd, he) refl

whole_of : (t : Bool) (n : ℕ) (rest : Option Fault) → option_or (option_map (at n) (when (not t) NoEnd)) rest ≡ None → t ≡ true
whole_of true n rest h = refl
whole_of false n rest h = cc

either_none : (t : Bool) (x y : Option Fault) → x ≡ None → y ≡ None → (if t then x else y) ≡ None
either_none true x y hx hy = hx
either_none false x y hx hy = hy

-- ---- the symbol records that a member begins with

is_symbols : (n : ℕ) → (n == 32) ≡ true → n ≡ 32
is_symbols n h = eqb-true n 32 h

symbols_go_on : (F : Facts) (b : List ℕ) → begins_with_symbols b ≡ true → F.due ≡ None → ((seen F b).segment ≡ F.segment) × ((seen F b).due ≡ None)
unfolding seen
symbols_go_on F [] h d = cc
symbols_go_on F (f ∷ rest) h d = rw (is_symbols f h, d) (refl, refl)

-- facts with segment 1 going on and no text due
record InRoot (F : Facts) : Type 0 where
  pub first : (F.segment == 1) ≡ true
  pub nothing_due : F.due ≡ None

stays_in_root : (F : Facts) (b : List ℕ) → begins_with_symbols b ≡ true → InRoot F → InRoot (seen F b)
stays_in_root F b h root =
    let goes_on : ((seen F b).segment ≡ F.segment) × ((seen F b).due ≡ None) = symbols_go_on F b h root.nothing_due in
    record { first = rw goes_on.0 root.first; nothing_due = goes_on.1 }

root_cons : (F : Facts) (b : List ℕ) (bs : List (List ℕ)) → (F.segment == 1) ≡ true → root_part F (b ∷ bs) ≡ b ∷ root_part (seen F b) bs
unfolding root_part
root_cons F b bs first = rw first refl

-- the symbol records are in the root's part, and are what it begins with
symbols_kept : (F : Facts) (bs : List (List ℕ)) → InRoot F → first_symbols (root_part F bs) ≡ first_symbols bs
unfolding root_part
symbols_kept F [] root = refl
symbols_kept F (b ∷ bs) root =
    rw (root_cons F b bs root.first, take_while-cons begins_with_symbols b (root_part (seen F b) bs), take_while-cons begins_with_symbols b bs) (step (begins_with_symbols b) (λ h. symbols_kept (seen F b) bs (stays_in_root F b h root)))
  where
    step : (t : Bool) → (t ≡ true → first_symbols (root_part (seen F b) bs) ≡ first_symbols bs) → (if t then b ∷ first_symbols (root_part (seen F b) bs) else []) ≡ (if t then b ∷ first_symbols bs else [])
    step true h = rw (h refl) refl
    step false h = refl

-- and after them comes the root's part of what follows
rest_after_symbols : (F : Facts) (bs : List (List ℕ)) → InRoot F → root_part F bs ≡ first_symbols bs ++ root_part (fold seen F (first_symbols bs)) (drop (length (first_symbols bs)) bs)
unfolding root_part
rest_after_symbols F [] root = refl
rest_after_symbols F (b ∷ bs) root = rw (take_while-cons begins_with_symbols b bs) (step (begins_with_symbols b) (λ h. rest_after_symbols (seen F b) bs (stays_in_root F b h root)))
  where
    run : Bool → List (List ℕ)
    run t = if t then b ∷ first_symbols bs else []

    step : (t : Bool) → (t ≡ true → root_part (seen F b) bs ≡ first_symbols bs ++ root_part (fold seen (seen F b) (first_symbols bs)) (drop (length (first_symbols bs)) bs)) → root_part F (b ∷ bs) ≡ run t ++ root_part (fold seen F (run t)) (drop (length (run t)) (b ∷ bs))
    step true h = rw (root_cons F b bs root.first, h refl) refl
    step false h = refl

head_fault_kept : (bs : List (List ℕ)) → head_fault (root_part no_facts bs) ≡ head_fault bs
unfolding root_part
head_fault_kept [] = refl
head_fault_kept (b ∷ bs) = refl

in_root : InRoot no_facts
in_root = record { first = refl; nothing_due = refl }

rest_dropped : (records : List (List ℕ)) → drop (length (first_symbols records)) (root_part no_facts records) ≡ root_part (facts (first_symbols records)) (drop (length (first_symbols records)) records)
unfolding facts
rest_dropped records =
    rw (rest_after_symbols no_facts records in_root)
    (drop-append_seam (first_symbols records) (root_part (fold seen no_facts (first_symbols records)) (drop (length (first_symbols records)) records)))

-- ---- faults

no_faults_in_root : (e : Entry) (F : Facts) (n : ℕ) (bs : List (List ℕ)) → faults_from e F n bs ≡ None → faults_from e F n (root_part F bs) ≡ None
unfolding root_part faults_from
no_faults_in_root e F n [] h = refl
no_faults_in_root e F n (b ∷ bs) h =
    step (F.segment == 1) (left_none (option_map (at n) (fault e F b)) (faults_from e (seen F b) (n + 1) bs) h)
    (no_faults_in_root e (seen F b) (n + 1) bs (right_none (option_map (at n) (fault e F b)) (faults_from e (seen F b) (n + 1) bs) h))
  where
    step : (t : Bool) → option_map (at n) (fault e F b) ≡ None → faults_from e (seen F b) (n + 1) (root_part (seen F b) bs) ≡ None → faults_from e F n (if t then b ∷ root_part (seen F b) bs else []) ≡ None
    step true here later = rw (here, later) refl
    step false here later = refl

-- ---- where the records end

-- segments count from 1, and a module that has ended had one
record IsCounted (F : Facts) : Type 0 where
  pub some : 1 ≤ F.segment
  pub later : F.ended ≡ true → 2 ≤ F.segment

ends_counted : (ends : Ends) (F : Facts) → IsCounted F → IsCounted (ended_by ends F)
ends_counted ends F counted = step ends.segment
  where
    step : (t : Bool) → IsCounted (if t then record F { segment = F.segment + 1; ended = ends.module } else F)
    step true = let some : 1 ≤ F.segment = counted.some in record { some = omega arith; later = λ _. omega arith }
    step false = counted

contents_counted : (F : Facts) (x : Record) → IsCounted F → IsCounted (with_contents F x)
contents_counted F (SymbolRecord first items) counted = record { some = counted.some; later = counted.later }
contents_counted F (ScatterRecord first items) counted = record { some = counted.some; later = counted.later }
contents_counted F (TranslationRecord first items) counted = record { some = counted.some; later = counted.later }
contents_counted F (NoteRecord first items) counted = record { some = counted.some; later = counted.later }
contents_counted F (ControlRecord ends text) counted = record { some = counted.some; later = counted.later }
contents_counted F (RldRecord ends items) counted =
    ends_counted ends (with_fields (rlds_of items) F) (record { some = counted.some; later = counted.later })
contents_counted F (ControlRldRecord ends items text) counted = record { some = counted.some; later = counted.later }
contents_counted F (TextRecord bytes) counted = counted

record_counted : (F : Facts) (due : Option TextHead) (b : List ℕ) → IsCounted F → IsCounted (with_record F due b)
record_counted F None b counted = contents_counted F (contents b) counted
record_counted F (Some text) b counted =
    ends_counted F.ends
    (record F {
      texts = F.texts ++ record { segment = F.segment; section = text.section; address = text.address; bytes = b } ∷ [];
      due = None;
    })
    (record { some = counted.some; later = counted.later })

seen_counted : (F : Facts) (b : List ℕ) → IsCounted F → IsCounted (seen F b)
unfolding seen
seen_counted F b counted = record_counted F F.due b counted

two_from : (n : ℕ) → 1 ≤ n → (n == 1) ≡ false → 2 ≤ n
two_from n some differs = search (rules)

root_ends : (F : Facts) (bs : List (List ℕ)) → IsCounted F → (fold seen F bs).ended ≡ true → 2 ≤ (fold seen F (root_part F bs)).segment
unfolding root_part
root_ends F [] counted ended = counted.later ended
root_ends F (b ∷ bs) counted ended = step (F.segment == 1) (λ h. two_from F.segment counted.some h) (root_ends (seen F b) bs (seen_counted F b counted) ended)
  where
    step : (t : Bool) → (t ≡ false → 2 ≤ F.segment) → 2 ≤ (fold seen (seen F b) (root_part (seen F b) bs)).segment → 2 ≤ (fold seen F (if t then b ∷ root_part (seen F b) bs else [])).segment
    step true here later = later
    step false here later = here refl

above_one : (n : ℕ) → 2 ≤ n → nat_lt 1 n ≡ true
above_one n h = search (rules)

root_is_whole : (records : List (List ℕ)) → (facts records).ended ≡ true → nat_lt 1 (facts (root_part no_facts records)).segment ≡ true
unfolding facts
root_is_whole records ended =
    above_one (fold seen no_facts (root_part no_facts records)).segment
    (root_ends no_facts records (record { some = arith_one; later = λ h. cc }) ended)
  where
    arith_one : 1 ≤ 1
    arith_one = omega arith

-- ---- the law

root_is_good : (e : Entry) (records : List (List ℕ)) → first_bad e records ≡ None → first_bad_of e (root_part no_facts records) (nat_lt 1 (facts (root_part no_facts records)).segment) ≡ None
unfolding first_bad first_bad_of
root_is_good e records good =
    let first : List (List ℕ) = first_symbols records in
    let rest : List (List ℕ) = drop (length first) records in
    let a : Option Fault = faults_from e no_facts 1 first in
    let b : Option Fault = option_map (at 1) (head_fault records) in
    let c : Option Fault = option_map (at 0) (entry_fault e (facts first)) in
    let d : Option Fault = faults_from e (facts first) (length first + 1) rest in
    let n : ℕ = length records + 1 in
    let after_a : first_some (b ∷ c ∷ d ∷ option_map (at n) (when (not (facts records).ended) NoEnd) ∷ []) ≡ None = right_none a _ good in
    let after_b : first_some (c ∷ d ∷ option_map (at n) (when (not (facts records).ended) NoEnd) ∷ []) ≡ None = right_none b _ after_a in
    let after_c : first_some (d ∷ option_map (at n) (when (not (facts records).ended) NoEnd) ∷ []) ≡ None = right_none c _ after_b in
    let after_d : option_or (option_map (at n) (when (not (facts records).ended) NoEnd)) None ≡ None = right_none d _ after_c in
    rw (root_is_whole records (whole_of (facts records).ended n None after_d), symbols_kept no_facts records in_root, head_fault_kept records, rest_dropped records)
    (none_of a b c (faults_from e (facts first) (length first + 1) (root_part (facts first) rest)) None
    (left_none a _ good) (left_none b _ after_a) (left_none c _ after_b)
    (no_faults_in_root e (facts first) (length first + 1) rest (left_none d _ after_c)) refl)

pub good_members_are_fetched : GoodMembersAreFetched
unfolding fetch_bad
good_members_are_fetched e records good =
    either_none (is_overlay_member e)
    (first_bad_of e (root_part no_facts records) (nat_lt 1 (facts (root_part no_facts records)).segment)) (first_bad e records)
    (root_is_good e records good) good
