-- Records before the first of a segment, and what placing over areas answers after them.
use Rattle.std.proofs.Common.{arith, ◌≡◌, ℕ, suc, ◌+◌, ◌<◌, ◌≤◌, Bool, true, false, not, ◌&&◌, ◌||◌, ◌==◌, nat_le, nat_lt, List, [], ◌∷◌, ◌++◌, length, refl, sym, ◌∙◌, ap, subst, append_assoc, length-append, Option, Some, None, Result, Ok, Err, IfOk, IfErr}
use Rattle.std.proofs.lemmas.List.{take_all}
use Rattle.std.proofs.lemmas.List.Sums.{take_while-cons}
use Rattle.le_bytes.specs.declared.record_what.RecWhat.{RecWhat}
use Rattle.le_io.specs.Counts.{WhereTold}
use Rattle.lib_stream.specs.Sources.{IsRecord, AreRecords}
use Rattle.pds_directory.specs.declared.entry.Entry.{Entry}
use Rattle.load_recs.specs.declared.items.SymbolItem.{SymbolItem}
use Rattle.member_model.specs.Facts.{facts}
use Rattle.member_model.specs.Faults.{is_incomplete}
use Rattle.member_model.specs.FirstBad.{Fault, begins_with_symbols, first_bad_of, first_bad}
use Rattle.member_model.specs.Placing.{may_scatter, is_of_segment, heads, comes_first, placing_bad, homeless, sections_of}
use Rattle.load_recs.specs.Forms.{is_one_of}
use Rattle.member_walk.specs.Walked.{Walked, IsWalked, are_symbols}
use Rattle.member_walk.specs.Told.{IsFirstFault}
use Rattle.member_walk.specs.declared.faults.WalkFault.{WalkFault}
use Rattle.member_walk.specs.declared.faults.WalkFault.TheVariants.{At as AtRecord, Memory as NoWalkMemory}
use Rattle.member_walk.proofs.Fetching.{whole_members_end}
use Rattle.fetch_places.specs.declared.placement.Area.{Area}
use Rattle.fetch_places.specs.declared.placement.Placement.{Placement}
use Rattle.fetch_places.specs.declared.placement.Placement.TheVariants.{Block, Scattered}
use Rattle.fetch_places.specs.Extents.{Fits}
use Rattle.fetch_places.specs.Over.{left_of, IsOver}
use Rattle.prog_fetch.specs.declared.fault.ScatterFault.{ScatterFault}
use Rattle.prog_fetch.specs.declared.fault.ScatterFault.TheVariants.{NotScatter, Record, NoStorage, ReadFault, Memory}
use Rattle.prog_fetch.specs.Scattering.{head_symbols, Places, PlacesSome, PlacesAt, PlacedOver, are_heads, HasHeads, PlacesNext, GoesOn, AnswersNext}
use Rattle.prog_fetch.specs.Faults.{scatter_fault_of}
use Rattle.prog_fetch.specs.Given.{IsPlacementOf}
use Rattle.prog_fetch.specs.Sources.{AreOf}
use Rattle.prog_fetch.proofs.Records.{Begins, begins, told_more, one_longer, number_of_walk, counted_more}
use Rattle.prog_fetch.proofs.Numbers.{within_whole, within_all, behind_walked}

-- ---- head records

heads_before : (records : List (List ℕ)) (b : List ℕ) (rest : List (List ℕ)) → are_heads records ≡ true → is_of_segment b ≡ true → heads (records ++ b ∷ rest) ≡ records
heads_before [] b rest all segment = take_while-cons (λ c. not (is_of_segment c)) b rest ∙ rw segment refl
heads_before (a ∷ records) b rest all segment = by_cases (is_of_segment a) refl all (λ later. heads_before records b rest later segment)
  where
    by_cases : (t : Bool) → is_of_segment a ≡ t → (not t && are_heads records) ≡ true → (are_heads records ≡ true → heads (records ++ b ∷ rest) ≡ records)
        → heads (a ∷ records ++ b ∷ rest) ≡ a ∷ records
    by_cases true is all go = absurd cc
    by_cases false is all go = take_while-cons (λ c. not (is_of_segment c)) a (records ++ b ∷ rest) ∙ rw (is, go all) refl

heads_alone : (records : List (List ℕ)) → are_heads records ≡ true → heads records ≡ records
heads_alone [] all = refl
heads_alone (a ∷ records) all = by_cases (is_of_segment a) refl all (λ later. heads_alone records later)
  where
    by_cases : (t : Bool) → is_of_segment a ≡ t → (not t && are_heads records) ≡ true → (are_heads records ≡ true → heads records ≡ records)
        → heads (a ∷ records) ≡ a ∷ records
    by_cases true is all go = absurd cc
    by_cases false is all go = take_while-cons (λ c. not (is_of_segment c)) a records ∙ rw (is, go all) refl

heads_more : (records : List (List ℕ)) (b : List ℕ) → are_heads records ≡ true → is_of_segment b ≡ false → are_heads (records ++ b ∷ []) ≡ true
heads_more [] b all other = rw other refl
heads_more (a ∷ records) b all other = by_cases (is_of_segment a) refl all (λ later. heads_more records b later other)
  where
    by_cases : (t : Bool) → is_of_segment a ≡ t → (not t && are_heads records) ≡ true → (are_heads records ≡ true → are_heads (records ++ b ∷ []) ≡ true)
        → (not (is_of_segment a) && are_heads (records ++ b ∷ [])) ≡ true
    by_cases true is all go = absurd cc
    by_cases false is all go = rw is (go all)

pub heads_begin : (e : Entry) (list : Option (List (List ℕ))) (total : ℕ) (w : Walked) → IsWalked e [] w → HasHeads e list total w
heads_begin e list total w walked = ([], record { walked = walked; told = λ all is. refl; few = omega arith; all_heads = refl })

pub head_read : (e : Entry) (list : Option (List (List ℕ))) (total n : ℕ) (w next : Walked) (bytes : List ℕ) → HasHeads e list total w
    → n ≡ w.number + 1 → n ≤ total → WhereTold list (λ all. IsRecord all n bytes) → is_of_segment bytes ≡ false
    → ((records : List (List ℕ)) → IsWalked e records w → IsWalked e (records ++ bytes ∷ []) next) → HasHeads e list total next
head_read e list total n w next bytes head number most told other later =
    let records : List (List ℕ) = head.0 in
    let count : w.number ≡ length records = number_of_walk e records w head.1.walked in (
      records ++ bytes ∷ [],
      record {
        walked = later records head.1.walked;
        told = told_more list records bytes n (omega (arith, number, count)) head.1.told told;
        few = rw (one_longer records bytes) (omega (arith, number, count, most));
        all_heads = heads_more records bytes head.1.all_heads other;
      },
    )

-- ---- which faults come before want of storage

first_placed : (e : Entry) (all : List (List ℕ)) (n : ℕ) (what : RecWhat) → first_bad e all ≡ Some (n, what) → comes_first all n ≡ true → placing_bad e all ≡ Some (n, what)
unfolding placing_bad
first_placed e all n what bad first = rw (bad, first) refl

not_placed : (e : Entry) (all : List (List ℕ)) (n : ℕ) (what : RecWhat) → first_bad e all ≡ Some (n, what) → comes_first all n ≡ false → placing_bad e all ≡ None
unfolding placing_bad
not_placed e all n what bad late = rw (bad, late) refl

none_placed : (e : Entry) (all : List (List ℕ)) → first_bad e all ≡ None → placing_bad e all ≡ None
unfolding placing_bad
none_placed e all good = rw good refl

bad_is : (e : Entry) (all : List (List ℕ)) → first_bad e all ≡ first_bad_of e all (facts all).ended
unfolding first_bad
bad_is e all = refl

-- the shape of that test
shape_true : (a b c t : Bool) → (a ≡ false → b ≡ true) → (a ≡ false → t ≡ true) → (a || b && (c || t)) ≡ true
shape_true true b c t next due = refl
shape_true false b c t next due = rw (next refl, due refl) (or_true c)
  where
    or_true : (c : Bool) → (c || true) ≡ true
    or_true true = refl
    or_true false = refl

shape_same : (a b c t : Bool) → (a ≡ false → b ≡ true) → c ≡ true → (a || b && (c || t)) ≡ true
shape_same true b c t next same = refl
shape_same false b c t next same = rw (next refl, same) refl

shape_false : (a b c t : Bool) → a ≡ false → c ≡ false → t ≡ false → (a || b && (c || t)) ≡ false
shape_false a b c t first other none = rw (first, other, none) (and_false b)
  where
    and_false : (b : Bool) → (b && false) ≡ false
    and_false true = refl
    and_false false = refl

shape_late : (a b c t : Bool) → a ≡ false → b ≡ false → (a || b && (c || t)) ≡ false
shape_late a b c t first next = rw (first, next) refl

second_true : (a b : Bool) → a ≡ false → (a || b) ≡ true → b ≡ true
second_true a b first some = rw first at some

neither : (a b : Bool) → (a || b) ≡ false → (a ≡ false) × (b ≡ false)
neither false b none = (refl, none)
neither true b none = absurd cc

-- at the first record of a segment
early : (records : List (List ℕ)) (b : List ℕ) (rest : List (List ℕ)) (n : ℕ) → are_heads records ≡ true → is_of_segment b ≡ true → n ≤ length records + 1
    → (nat_lt n (length records + 1) || is_incomplete (facts records)) ≡ true → comes_first (records ++ b ∷ rest) n ≡ true
early records b rest n all segment most guard =
    let same : heads (records ++ b ∷ rest) ≡ records = heads_before records b rest all segment in
    rw same (by_guard n (length records) (length (records ++ b ∷ rest)) (is_incomplete (facts records)) most guard)
  where
    by_guard : (n k m : ℕ) (t : Bool) → n ≤ k + 1 → (nat_lt n (k + 1) || t) ≡ true → (nat_le n k || n == k + 1 && (k == m || t)) ≡ true
    by_guard n k m t most guard = shape_true (nat_le n k) (n == k + 1) (k == m) t (λ high. next high) (λ high. second_true (nat_lt n (k + 1)) t (below high) guard)
      where
        next : nat_le n k ≡ false → (n == k + 1) ≡ true
        next high = grind (arith, high, most)

        below : nat_le n k ≡ false → nat_lt n (k + 1) ≡ false
        below high = grind (arith, high)

late : (records : List (List ℕ)) (b : List ℕ) (rest : List (List ℕ)) (n : ℕ) → are_heads records ≡ true → is_of_segment b ≡ true
    → (nat_lt n (length records + 1) || is_incomplete (facts records)) ≡ false → comes_first (records ++ b ∷ rest) n ≡ false
late records b rest n all segment guard =
    let same : heads (records ++ b ∷ rest) ≡ records = heads_before records b rest all segment in
    rw same (by_guard n (length records) (length (records ++ b ∷ rest)) (is_incomplete (facts records)) (longer records b rest) guard)
  where
    longer : (records : List (List ℕ)) (b : List ℕ) (rest : List (List ℕ)) → length records < length (records ++ b ∷ rest)
    longer records b rest = let size : length (records ++ b ∷ rest) ≡ length records + length (b ∷ rest) = length-append records (b ∷ rest) in omega (arith, size)

    by_guard : (n k m : ℕ) (t : Bool) → k < m → (nat_lt n (k + 1) || t) ≡ false → (nat_le n k || n == k + 1 && (k == m || t)) ≡ false
    by_guard n k m t less guard =
        let none = neither (nat_lt n (k + 1)) t guard in
        shape_false (nat_le n k) (n == k + 1) (k == m) t (above none.0) other none.1
      where
        above : nat_lt n (k + 1) ≡ false → nat_le n k ≡ false
        above high = grind (arith, high)

        other : (k == m) ≡ false
        other = grind (arith, less)

behind_late : (records : List (List ℕ)) (b : List ℕ) (rest : List (List ℕ)) (n : ℕ) → are_heads records ≡ true → is_of_segment b ≡ true → length records + 1 < n
    → comes_first (records ++ b ∷ rest) n ≡ false
behind_late records b rest n all segment after =
    let same : heads (records ++ b ∷ rest) ≡ records = heads_before records b rest all segment in
    rw same (by_number n (length records) (length (records ++ b ∷ rest)) (is_incomplete (facts records)) after)
  where
    by_number : (n k m : ℕ) (t : Bool) → k + 1 < n → (nat_le n k || n == k + 1 && (k == m || t)) ≡ false
    by_number n k m t after = shape_late (nat_le n k) (n == k + 1) (k == m) t above other
      where
        above : nat_le n k ≡ false
        above = grind (arith, after)

        other : (n == k + 1) ≡ false
        other = grind (arith, after)

no_symbols : (b : List ℕ) → is_of_segment b ≡ true → begins_with_symbols b ≡ false
no_symbols [] segment = refl
no_symbols (i ∷ b) segment = by_cases (i == 32) refl
  where
    by_cases : (t : Bool) → (i == 32) ≡ t → (i == 32) ≡ false
    by_cases false is = is
    by_cases true is =
        let same : i ≡ 32 = grind (arith, is) in
        let gone : is_one_of (1 ∷ 2 ∷ 3 ∷ 5 ∷ 6 ∷ 7 ∷ 13 ∷ 14 ∷ 15 ∷ []) 32 ≡ true = subst (λ k. is_one_of (1 ∷ 2 ∷ 3 ∷ 5 ∷ 6 ∷ 7 ∷ 13 ∷ 14 ∷ 15 ∷ []) k ≡ true) same segment in
        absurd cc

not_all_symbols : (records : List (List ℕ)) (b : List ℕ) → begins_with_symbols b ≡ false → are_symbols (records ++ b ∷ []) ≡ false
not_all_symbols [] b other = rw other refl
not_all_symbols (a ∷ records) b other = by_cases (begins_with_symbols a) (not_all_symbols records b other)
  where
    by_cases : (t : Bool) → are_symbols (records ++ b ∷ []) ≡ false → (t && are_symbols (records ++ b ∷ [])) ≡ false
    by_cases true rest = rest
    by_cases false rest = refl

-- a fault that shows at the first record of a segment
pub shown_placed : (e : Entry) (records : List (List ℕ)) (b : List ℕ) (rest : List (List ℕ)) (w : Walked) (n : ℕ) (what : RecWhat) → IsWalked e records w
    → are_heads records ≡ true → is_of_segment b ≡ true → IsFirstFault e w b (AtRecord n what)
    → (nat_lt n (w.number + 1) || is_incomplete w.facts) ≡ true → placing_bad e (records ++ b ∷ rest) ≡ Some (n, what)
shown_placed e records b rest w n what walked all segment shows guard =
    let bad : first_bad e (records ++ b ∷ rest) ≡ Some (n, what) = bad_is e (records ++ b ∷ rest) ∙ shows records rest (facts (records ++ b ∷ rest)).ended walked in
    let most : n ≤ length (records ++ b ∷ []) = within_whole e (records ++ b ∷ []) n what (shows records [] true walked) in
    let count : w.number ≡ length records = number_of_walk e records w walked in
    let incomplete : is_incomplete w.facts ≡ is_incomplete (facts records) = ap (λ (x : Walked). is_incomplete x.facts) walked.state in
    let there : (nat_lt n (length records + 1) || is_incomplete (facts records)) ≡ true = rw (count, incomplete) at guard in
    first_placed e (records ++ b ∷ rest) n what bad
    (early records b rest n all segment (omega (arith, most, one_longer records b)) there)

pub shown_late : (e : Entry) (records : List (List ℕ)) (b : List ℕ) (rest : List (List ℕ)) (w : Walked) (n : ℕ) (what : RecWhat) → IsWalked e records w
    → are_heads records ≡ true → is_of_segment b ≡ true → IsFirstFault e w b (AtRecord n what)
    → (nat_lt n (w.number + 1) || is_incomplete w.facts) ≡ false → placing_bad e (records ++ b ∷ rest) ≡ None
shown_late e records b rest w n what walked all segment shows guard =
    let bad : first_bad e (records ++ b ∷ rest) ≡ Some (n, what) = bad_is e (records ++ b ∷ rest) ∙ shows records rest (facts (records ++ b ∷ rest)).ended walked in
    let count : w.number ≡ length records = number_of_walk e records w walked in
    let incomplete : is_incomplete w.facts ≡ is_incomplete (facts records) = ap (λ (x : Walked). is_incomplete x.facts) walked.state in
    let there : (nat_lt n (length records + 1) || is_incomplete (facts records)) ≡ false = rw (count, incomplete) at guard in
    not_placed e (records ++ b ∷ rest) n what bad (late records b rest n all segment there)

-- at a head record
heads_through : (records : List (List ℕ)) (b : List ℕ) (rest : List (List ℕ)) → are_heads records ≡ true → is_of_segment b ≡ false
    → heads (records ++ b ∷ rest) ≡ records ++ b ∷ heads rest
heads_through [] b rest all other = take_while-cons (λ c. not (is_of_segment c)) b rest ∙ rw other refl
heads_through (a ∷ records) b rest all other = by_cases (is_of_segment a) refl all (λ later. heads_through records b rest later other)
  where
    by_cases : (t : Bool) → is_of_segment a ≡ t → (not t && are_heads records) ≡ true
        → (are_heads records ≡ true → heads (records ++ b ∷ rest) ≡ records ++ b ∷ heads rest) → heads (a ∷ records ++ b ∷ rest) ≡ a ∷ records ++ b ∷ heads rest
    by_cases true is all go = absurd cc
    by_cases false is all go = take_while-cons (λ c. not (is_of_segment c)) a (records ++ b ∷ rest) ∙ rw (is, go all) refl

among_heads : (records : List (List ℕ)) (b : List ℕ) (rest : List (List ℕ)) (n : ℕ) → are_heads records ≡ true → is_of_segment b ≡ false → n ≤ length records + 1
    → comes_first (records ++ b ∷ rest) n ≡ true
among_heads records b rest n all other most =
    let size : length (records ++ b ∷ heads rest) ≡ length records + length (b ∷ heads rest) = length-append records (b ∷ heads rest) in
    rw (heads_through records b rest all other)
    (by_number n (length (records ++ b ∷ heads rest)) (n == length (records ++ b ∷ heads rest) + 1 && (length (records ++ b ∷ heads rest) == length (records ++ b ∷ rest) || is_incomplete (facts (records ++ b ∷ heads rest))))
    (longer n (length records) (length (heads rest)) (length (records ++ b ∷ heads rest)) most size))
  where
    longer : (n k h m : ℕ) → n ≤ k + 1 → m ≡ k + suc h → n ≤ m
    longer n k h m most size = omega (arith, most, size)

    by_number : (n m : ℕ) (t : Bool) → n ≤ m → (nat_le n m || t) ≡ true
    by_number n m t most = grind (arith, most)

pub shown_head : (e : Entry) (records : List (List ℕ)) (b : List ℕ) (rest : List (List ℕ)) (w : Walked) (n : ℕ) (what : RecWhat) → IsWalked e records w
    → are_heads records ≡ true → is_of_segment b ≡ false → IsFirstFault e w b (AtRecord n what) → placing_bad e (records ++ b ∷ rest) ≡ Some (n, what)
shown_head e records b rest w n what walked all other shows =
    let bad : first_bad e (records ++ b ∷ rest) ≡ Some (n, what) = bad_is e (records ++ b ∷ rest) ∙ shows records rest (facts (records ++ b ∷ rest)).ended walked in
    let most : n ≤ length (records ++ b ∷ []) = within_whole e (records ++ b ∷ []) n what (shows records [] true walked) in
    first_placed e (records ++ b ∷ rest) n what bad (among_heads records b rest n all other (omega (arith, most, one_longer records b)))

-- that record has no fault
pub right_placed : (e : Entry) (records : List (List ℕ)) (b : List ℕ) (rest : List (List ℕ)) (next : Walked) → are_heads records ≡ true → is_of_segment b ≡ true
    → IsWalked e (records ++ b ∷ []) next → placing_bad e (records ++ b ∷ rest) ≡ None
right_placed e records b rest next all segment walked = by_bad (first_bad e (records ++ b ∷ rest)) refl
  where
    by_bad : (o : Option Fault) → first_bad e (records ++ b ∷ rest) ≡ o → placing_bad e (records ++ b ∷ rest) ≡ None
    by_bad None good = none_placed e (records ++ b ∷ rest) good
    by_bad (Some (n, what)) bad =
        let joined : first_bad_of e ((records ++ b ∷ []) ++ rest) (facts (records ++ b ∷ rest)).ended ≡ Some (n, what) =
        ap (λ bs. first_bad_of e bs (facts (records ++ b ∷ rest)).ended) (append_assoc records (b ∷ []) rest) ∙ (sym (bad_is e (records ++ b ∷ rest)) ∙ bad) in
        let after : length (records ++ b ∷ []) < n =
        behind_walked e (records ++ b ∷ []) rest (facts (records ++ b ∷ rest)).ended next n what walked (not_all_symbols records b (no_symbols b segment)) joined in
        not_placed e (records ++ b ∷ rest) n what bad
        (behind_late records b rest n all segment (omega (arith, after, one_longer records b)))

-- no record of a segment comes
pub ended_placed : (e : Entry) (records : List (List ℕ)) (w : Walked) (n : ℕ) (what : RecWhat) → IsWalked e records w → are_heads records ≡ true
    → first_bad_of e records w.facts.ended ≡ Some (n, what) → placing_bad e records ≡ Some (n, what)
ended_placed e records w n what walked all bad =
    first_placed e records n what (whole_members_end e records w walked ∙ bad)
    (rw (heads_alone records all) (by_number n (length records) (is_incomplete (facts records)) (within_all e records w.facts.ended n what bad)))
  where
    by_number : (n k : ℕ) (t : Bool) → n ≤ k + 1 → (nat_le n k || n == k + 1 && (k == k || t)) ≡ true
    by_number n k t most = shape_same (nat_le n k) (n == k + 1) (k == k) t (λ high. next high) same
      where
        next : nat_le n k ≡ false → (n == k + 1) ≡ true
        next high = grind (arith, high, most)

        same : (k == k) ≡ true
        same = grind arith

pub ended_right : (e : Entry) (records : List (List ℕ)) (w : Walked) → IsWalked e records w → first_bad_of e records w.facts.ended ≡ None → placing_bad e records ≡ None
ended_right e records w walked good = none_placed e records (whole_members_end e records w walked ∙ good)

-- ---- what is answered

pub symbols_before : (e : Entry) (records : List (List ℕ)) (b : List ℕ) (rest : List (List ℕ)) (w : Walked) → IsWalked e records w → are_heads records ≡ true → is_of_segment b ≡ true
    → w.facts.symbols ≡ head_symbols (records ++ b ∷ rest)
symbols_before e records b rest w walked all segment =
    ap (λ (x : Walked). x.facts.symbols) walked.state ∙ ap (λ bs. (facts bs).symbols) (sym (heads_before records b rest all segment))

pub symbols_alone : (e : Entry) (records : List (List ℕ)) (w : Walked) → IsWalked e records w → are_heads records ≡ true → w.facts.symbols ≡ head_symbols records
symbols_alone e records w walked all = ap (λ (x : Walked). x.facts.symbols) walked.state ∙ ap (λ bs. (facts bs).symbols) (sym (heads_alone records all))

answer_of : (e : Entry) (areas : List Area) (records : List (List ℕ)) (symbols : List SymbolItem) (answer : Result Placement ScatterFault) → may_scatter e ≡ true
    → placing_bad e records ≡ None → symbols ≡ head_symbols records → PlacedOver areas symbols answer → Places e areas records answer
answer_of e areas records symbols (Ok p) scatter right same placed =
    (record { scatter = scatter; right = right }, subst (λ ss. IsOver areas ss p) same placed.0, subst (λ ss. Fits p ss) same placed.1)
answer_of e areas records symbols (Err (NoStorage name)) scatter right same placed =
    (record { scatter = scatter; right = right }, subst (λ ss. homeless (left_of areas) (sections_of ss) ≡ Some name) same placed)
answer_of e areas records symbols (Err Memory) scatter right same placed = tt
answer_of e areas records symbols (Err NotScatter) scatter right same placed = absurd placed
answer_of e areas records symbols (Err (Record number what)) scatter right same placed = absurd placed
answer_of e areas records symbols (Err ReadFault) scatter right same placed = absurd placed

-- the record of a segment has no fault
pub before_right : (e : Entry) (areas : List Area) (b : List ℕ) (w next : Walked) (answer : Result Placement ScatterFault) → may_scatter e ≡ true
    → is_of_segment b ≡ true → ((records : List (List ℕ)) → IsWalked e records w → IsWalked e (records ++ b ∷ []) next) → PlacedOver areas w.facts.symbols answer
    → PlacesAt e areas b w answer
before_right e areas b w next answer scatter segment later placed = λ records rest walked all.
    answer_of e areas (records ++ b ∷ rest) w.facts.symbols answer scatter (right_placed e records b rest next all segment (later records walked))
    (symbols_before e records b rest w walked all segment) placed

-- it has one, which comes after want of storage
pub before_late : (e : Entry) (areas : List Area) (b : List ℕ) (w : Walked) (n : ℕ) (what : RecWhat) (answer : Result Placement ScatterFault) → may_scatter e ≡ true
    → is_of_segment b ≡ true → IsFirstFault e w b (AtRecord n what) → (nat_lt n (w.number + 1) || is_incomplete w.facts) ≡ false → PlacedOver areas w.facts.symbols answer
    → PlacesAt e areas b w answer
before_late e areas b w n what answer scatter segment shows guard placed = λ records rest walked all.
    answer_of e areas (records ++ b ∷ rest) w.facts.symbols answer scatter (shown_late e records b rest w n what walked all segment shows guard)
    (symbols_before e records b rest w walked all segment) placed

-- it has one, which comes first
pub before_shown : (e : Entry) (areas : List Area) (b : List ℕ) (w : Walked) (n : ℕ) (what : RecWhat) → may_scatter e ≡ true
    → is_of_segment b ≡ true → IsFirstFault e w b (AtRecord n what) → (nat_lt n (w.number + 1) || is_incomplete w.facts) ≡ true → PlacesAt e areas b w (Err (Record n what))
before_shown e areas b w n what scatter segment shows guard = λ records rest walked all.
    (scatter, shown_placed e records b rest w n what walked all segment shows guard)

pub head_shown : (e : Entry) (areas : List Area) (b : List ℕ) (w : Walked) (n : ℕ) (what : RecWhat) → may_scatter e ≡ true
    → is_of_segment b ≡ false → IsFirstFault e w b (AtRecord n what) → PlacesAt e areas b w (Err (Record n what))
head_shown e areas b w n what scatter other shows = λ records rest walked all.
    (scatter, shown_head e records b rest w n what walked all other shows)

pub alone_right : (e : Entry) (areas : List Area) (records : List (List ℕ)) (w : Walked) (answer : Result Placement ScatterFault) → may_scatter e ≡ true
    → IsWalked e records w → are_heads records ≡ true → first_bad_of e records w.facts.ended ≡ None → PlacedOver areas w.facts.symbols answer → Places e areas records answer
alone_right e areas records w answer scatter walked all good placed =
    answer_of e areas records w.facts.symbols answer scatter (ended_right e records w walked good) (symbols_alone e records w walked all) placed

-- ---- some records that the source may have

pub next_answers : (e : Entry) (areas : List Area) (list : Option (List (List ℕ))) (total n : ℕ) (lengths : ℕ → ℕ) (w : Walked) (bytes : List ℕ) (answer : Result Placement ScatterFault)
    → WhereTold list (λ all. AreRecords all total lengths) → HasHeads e list total w → n ≡ w.number + 1 → n ≤ total → WhereTold list (λ all. IsRecord all n bytes)
    → PlacesAt e areas bytes w answer → PlacesSome list total e areas answer
next_answers e areas list total n lengths w bytes answer agrees head number most told places =
    let records : List (List ℕ) = head.0 in
    let count : w.number ≡ length records = number_of_walk e records w head.1.walked in
    let more : Begins list total (records ++ bytes ∷ []) =
    begins list total lengths (records ++ bytes ∷ []) agrees (told_more list records bytes n (omega (arith, number, count)) head.1.told told)
    (rw (one_longer records bytes) (omega (arith, number, count, most))) in (
      records ++ bytes ∷ more.rest,
      subst (AreOf list total) (append_assoc records (bytes ∷ []) more.rest) more.are,
      places records more.rest head.1.walked head.1.all_heads,
    )

pub alone_answers : (e : Entry) (areas : List Area) (list : Option (List (List ℕ))) (total : ℕ) (lengths : ℕ → ℕ) (w : Walked) (answer : Result Placement ScatterFault)
    → WhereTold list (λ all. AreRecords all total lengths) → HasHeads e list total w → w.number ≡ total
    → ((records : List (List ℕ)) → IsWalked e records w → are_heads records ≡ true → Places e areas records answer) → PlacesSome list total e areas answer
alone_answers e areas list total lengths w answer agrees head last places =
    let records : List (List ℕ) = head.0 in
    let count : w.number ≡ length records = number_of_walk e records w head.1.walked in (
      records,
      record {
        told = λ all is.
            let size : length all ≡ total = (agrees all is).counted in
            head.1.told all is ∙ take_all (length records) all (omega (arith, size, last, count));
        counted = sym count ∙ last;
      },
      places records head.1.walked head.1.all_heads,
    )

pub any_answers : (e : Entry) (areas : List Area) (list : Option (List (List ℕ))) (total : ℕ) (lengths : ℕ → ℕ) (answer : Result Placement ScatterFault)
    → WhereTold list (λ all. AreRecords all total lengths) → ((records : List (List ℕ)) → Places e areas records answer) → PlacesSome list total e areas answer
any_answers e areas list total lengths answer agrees places =
    let more : Begins list total [] = begins list total lengths [] agrees (λ all is. refl) (omega arith) in (more.rest, more.are, places more.rest)

-- where the source tells its records, they are these
pub places_told : (e : Entry) (areas : List Area) (list : Option (List (List ℕ))) (total : ℕ) (answer : Result Placement ScatterFault) → PlacesSome list total e areas answer
    → WhereTold list (λ records. Places e areas records answer)
places_told e areas list total answer some = λ records is. subst (λ rs. Places e areas rs answer) (some.1.told records is) some.2

-- what is placed is placed as a fetch asks
pub placement_of : (e : Entry) (areas : List Area) (records : List (List ℕ)) (p : Placement) → Places e areas records (Ok p) → IsPlacementOf e p
placement_of e areas records (Scattered addresses) places = places.0.scatter
placement_of e areas records (Block at size) places = absurd places.1

pub placement_some : (e : Entry) (areas : List Area) (list : Option (List (List ℕ))) (total : ℕ) (answer : Result Placement ScatterFault)
    → PlacesSome list total e areas answer → IfOk answer (IsPlacementOf e)
placement_some e areas list total (Ok p) some = placement_of e areas some.0 p some.2
placement_some e areas list total (Err why) some = tt

-- ---- one record after the other

pub next_on : (e : Entry) (areas : List Area) (list : Option (List (List ℕ))) (total n : ℕ) (lengths : ℕ → ℕ) (w : Walked) (bytes : List ℕ) (answer : Result (Option Placement) ScatterFault)
    → WhereTold list (λ all. AreRecords all total lengths) → HasHeads e list total w → n ≡ w.number + 1 → n ≤ total → WhereTold list (λ all. IsRecord all n bytes)
    → AnswersNext e areas bytes w answer → PlacesNext list total e areas answer
next_on e areas list total n lengths w bytes (Ok None) agrees head number most told answers = tt
next_on e areas list total n lengths w bytes (Ok (Some p)) agrees head number most told answers =
    next_answers e areas list total n lengths w bytes (Ok p) agrees head number most told answers
next_on e areas list total n lengths w bytes (Err why) agrees head number most told answers =
    next_answers e areas list total n lengths w bytes (Err why) agrees head number most told answers

pub heads_on : (e : Entry) (list : Option (List (List ℕ))) (total n : ℕ) (w next : Walked) (bytes : List ℕ) (answer : Result (Option Placement) ScatterFault) → HasHeads e list total w
    → n ≡ w.number + 1 → n ≤ total → WhereTold list (λ all. IsRecord all n bytes) → IfOk answer (λ placed. placed ≡ None → GoesOn e bytes w next)
    → IfOk answer (λ placed. placed ≡ None → HasHeads e list total next)
heads_on e list total n w next bytes (Ok placed) head number most told on = λ none.
    head_read e list total n w next bytes head number most told (on none).head (on none).walked
heads_on e list total n w next bytes (Err why) head number most told on = on

pub heads_counted : (e : Entry) (list : Option (List (List ℕ))) (total : ℕ) (w next : Walked) (bytes : List ℕ) (answer : Result (Option Placement) ScatterFault) → HasHeads e list total w
    → IfOk answer (λ placed. placed ≡ None → GoesOn e bytes w next) → IfOk answer (λ placed. placed ≡ None → next.number ≡ w.number + 1)
heads_counted e list total w next bytes (Ok placed) head on = λ none.
    counted_more e w next head.0 bytes head.1.walked ((on none).walked head.0 head.1.walked)
heads_counted e list total w next bytes (Err why) head on = on

-- the fault of a head record
pub head_faults : (e : Entry) (areas : List Area) (b : List ℕ) (w : Walked) (fault : WalkFault) → may_scatter e ≡ true → is_of_segment b ≡ false
    → IsFirstFault e w b fault → PlacesAt e areas b w (Err (scatter_fault_of fault))
head_faults e areas b w (AtRecord number what) scatter other shows = head_shown e areas b w number what scatter other shows
head_faults e areas b w NoWalkMemory scatter other shows = λ records rest walked all. tt

pub walk_other : (fault : WalkFault) → scatter_fault_of fault ≡ ReadFault → ⊥
walk_other (AtRecord number what) is = absurd cc
walk_other NoWalkMemory is = absurd cc

pub placed_other : (areas : List Area) (symbols : List SymbolItem) (answer : Result Placement ScatterFault) → PlacedOver areas symbols answer
    → IfErr answer (λ why. why ≡ ReadFault → ⊥)
placed_other areas symbols (Ok p) placed = tt
placed_other areas symbols (Err (NoStorage name)) placed = λ is. absurd cc
placed_other areas symbols (Err Memory) placed = λ is. absurd cc
placed_other areas symbols (Err NotScatter) placed = absurd placed
placed_other areas symbols (Err (Record number what)) placed = absurd placed
placed_other areas symbols (Err ReadFault) placed = absurd placed

-- the guard, as it is computed
pub guard_is : (w : Walked) (n heads : ℕ) (incomplete answer : Bool) → answer ≡ (nat_lt n (heads + 1) || incomplete) → heads ≡ w.number → incomplete ≡ is_incomplete w.facts
    → (nat_lt n (w.number + 1) || is_incomplete w.facts) ≡ answer
guard_is w n heads incomplete answer is heads_are incomplete_is = sym (is ∙ rw (heads_are, incomplete_is) refl)

-- no record comes but head records
pub alone_bad : (e : Entry) (areas : List Area) (records : List (List ℕ)) (w : Walked) (number : ℕ) (what : RecWhat) → may_scatter e ≡ true
    → IsWalked e records w → are_heads records ≡ true → first_bad_of e records w.facts.ended ≡ Some (number, what) → Places e areas records (Err (Record number what))
alone_bad e areas records w number what scatter walked all bad = (scatter, ended_placed e records w number what walked all bad)
