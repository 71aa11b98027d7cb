-- Walks over lists of records, one record after the other.
use Rattle.std.proofs.Common.{◌≡◌, ℕ, suc, ◌+◌, refl, sym, ap, ◌∙◌, Bool, true, false, not, ◌&&◌, ◌==◌, if◌then◌else◌, List, [], ◌∷◌, ◌++◌, length, drop, fold, Option, Some, None, option_map, Err, arith, rules, append_assoc, length-append}
use Rattle.std.specs.Option.{option_or}
use Rattle.std.proofs.lemmas.List.Folds.{list_all-append}
use Rattle.std.proofs.lemmas.List.Sums.{take_while-cons}
use Rattle.le_bytes.specs.declared.record_what.RecWhat.TheVariants.{NoEnd}
use Rattle.load_recs.specs.Faults.{what_of}
use Rattle.load_recs.specs.Reading.{own_fault}
use Rattle.pds_directory.specs.declared.entry.Entry.{Entry}
use Rattle.member_model.specs.Facts.{Facts, facts, no_facts, seen}
use Rattle.member_model.specs.Faults.{fault, when}
use Rattle.member_model.specs.FirstBad.{Fault, at, faults_from, begins_with_symbols, first_symbols, head_fault, entry_fault, first_bad_of}
use Rattle.member_model.proofs.Gathered.{records_add_facts}
use Rattle.member_walk.specs.Walked.{Walked, IsWalked, are_symbols, bad_so_far, walked_of, without_texts}
use Rattle.member_walk.specs.Steps.{step_bad, head_bad, end_bad, stepped, Steps}
use Rattle.member_walk.specs.Told.{IsFirstFault}
use Rattle.member_walk.specs.declared.faults.WalkFault.{WalkFault}
use Rattle.member_walk.specs.declared.faults.WalkFault.TheVariants.{At, Memory}
use Rattle.member_walk.proofs.Textless.{fault_without, seen_without}
use Rattle.member_walk.proofs.HeadLists.{first_of_all, first_of_some, rest_of_some, facts_split, number_split, head_of_symbols, head_of_some, or-or, or-none, faults-append, faults-one}

-- ---- the faults of records that are all symbol records, and of others

-- the first of four faults
abbrev four : Option Fault → Option Fault → Option Fault → Option Fault → Option Fault
four a b c d = option_or a (option_or b (option_or c (option_or d None)))

rest_none : (e : Entry) (F : Facts) (n : ℕ) (records : List (List ℕ)) → faults_from e F n (drop (length records) records) ≡ None
unfolding faults_from
rest_none e F n [] = refl
rest_none e F n (b ∷ bs) = rest_none e F n bs

no_more : (xs : List (List ℕ)) → xs ++ [] ≡ xs
no_more [] = refl
no_more (x ∷ xs) = ap (λ ys. x ∷ ys) (no_more xs)

first_alone : (records : List (List ℕ)) → are_symbols records ≡ true → first_symbols records ≡ records
first_alone records all = ap first_symbols (sym (no_more records)) ∙ (first_of_all records [] all ∙ no_more records)

four_none : (a b c d : Option Fault) → four a b c d ≡ None → (a ≡ None) × (b ≡ None) × (c ≡ None) × (d ≡ None)
four_none None None None None h = (refl, refl, refl, refl)
four_none (Some f) b c d h = absurd cc
four_none None (Some f) c d h = absurd cc
four_none None None (Some f) d h = absurd cc
four_none None None None (Some f) h = absurd cc

-- what four have, five begin with
four_found : (a b c d x y : Option Fault) (f : Fault) → four a b c d ≡ Some f → option_or a (option_or b (option_or c (option_or (option_or d x) y))) ≡ Some f
four_found (Some g) b c d x y f h = h
four_found None (Some g) c d x y f h = h
four_found None None (Some g) d x y f h = h
four_found None None None (Some g) x y f h = h
four_found None None None None x y f h = cc

first_found : (x y : Option Fault) (f : Fault) → x ≡ Some f → option_or x y ≡ Some f
first_found x y f h = rw h refl

-- records that are all symbol records
so_far_all : (e : Entry) (records : List (List ℕ)) → are_symbols records ≡ true → bad_so_far e records ≡ faults_from e no_facts 1 records
unfolding bad_so_far
so_far_all e records all =
    rw (all, first_alone records all, head_of_symbols records all, rest_none e (facts records) (length records + 1) records)
    (or-none (faults_from e no_facts 1 records))

-- and others
abbrev of_some : Entry → List (List ℕ) → Option Fault
of_some e records =
    four (faults_from e no_facts 1 (first_symbols records)) (option_map (at 1) (head_fault records)) (option_map (at 0) (entry_fault e (facts (first_symbols records))))
    (faults_from e (facts (first_symbols records)) (length (first_symbols records) + 1) (drop (length (first_symbols records)) records))

so_far_some : (e : Entry) (records : List (List ℕ)) → are_symbols records ≡ false → bad_so_far e records ≡ of_some e records
unfolding bad_so_far
so_far_some e records some = rw some refl

-- ---- one record more

all_more : (records : List (List ℕ)) (bytes : List ℕ) → are_symbols (records ++ bytes ∷ []) ≡ (are_symbols records && begins_with_symbols bytes)
all_more records bytes = list_all-append begins_with_symbols records (bytes ∷ []) ∙ ap (λ t. are_symbols records && t) (and-true (begins_with_symbols bytes))
  where
    and-true : (t : Bool) → (t && true) ≡ t
    and-true true = refl
    and-true false = refl

facts_more : (e : Entry) (records : List (List ℕ)) (bytes : List ℕ) (n : ℕ) → faults_from e (fold seen no_facts records) n (bytes ∷ []) ≡ option_map (at n) (fault e (facts records) bytes)
unfolding facts
facts_more e records bytes n = faults-one e (fold seen no_facts records) n bytes

one_first : (n : ℕ) → 1 + n ≡ n + 1
one_first n = omega arith

more_all : (e : Entry) (records : List (List ℕ)) (bytes : List ℕ) → are_symbols records ≡ true → begins_with_symbols bytes ≡ true → bad_so_far e records ≡ None
    → bad_so_far e (records ++ bytes ∷ []) ≡ option_map (at (length records + 1)) (fault e (facts records) bytes)
more_all e records bytes all begins good =
    so_far_all e (records ++ bytes ∷ []) (rw (all_more records bytes, all, begins) refl)
    ∙ (faults-append e no_facts 1 records (bytes ∷ [])
    ∙ (ap (λ x. option_or x (faults_from e (fold seen no_facts records) (1 + length records) (bytes ∷ []))) (sym (so_far_all e records all) ∙ good)
    ∙ (facts_more e records bytes (1 + length records) ∙ ap (λ n. option_map (at n) (fault e (facts records) bytes)) (one_first (length records)))))

head_after : (records : List (List ℕ)) (bytes : List ℕ) → are_symbols records ≡ true → begins_with_symbols bytes ≡ false
    → head_fault (records ++ bytes ∷ []) ≡ (if length records == 0 then option_map what_of (own_fault bytes) else None)
head_after [] bytes all begins = rw begins refl
head_after (b ∷ bs) bytes all begins = step (begins_with_symbols b) all
  where
    some_number : (n : ℕ) → (suc n == 0) ≡ false
    some_number n = search (rules)

    step : (t : Bool) → (t && are_symbols bs) ≡ true → (if t then None else option_map what_of (own_fault b)) ≡ (if suc (length bs) == 0 then option_map what_of (own_fault bytes) else None)
    step true h = rw (some_number (length bs)) refl
    step false h = cc

behind : (records : List (List ℕ)) (bytes : List ℕ) → drop (length records) (records ++ bytes ∷ []) ≡ bytes ∷ []
behind [] bytes = refl
behind (b ∷ bs) bytes = behind bs bytes

more_head : (e : Entry) (records : List (List ℕ)) (bytes : List ℕ) → are_symbols records ≡ true → begins_with_symbols bytes ≡ false → bad_so_far e records ≡ None
    → bad_so_far e (records ++ bytes ∷ [])
    ≡ option_or (option_map (at 1) (if length records == 0 then option_map what_of (own_fault bytes) else None)) (option_or (option_map (at 0) (entry_fault e (facts records))) (option_map (at (length records + 1)) (fault e (facts records) bytes)))
more_head e records bytes all begins good =
    so_far_some e (records ++ bytes ∷ []) (rw (all_more records bytes, all, begins) refl)
    ∙ rw (first_is, sym (so_far_all e records all) ∙ good, head_after records bytes all begins, behind records bytes, faults-one e (facts records) (length records + 1) bytes, or-none (option_map (at (length records + 1)) (fault e (facts records) bytes)))
    refl
  where
    none_first : first_symbols (bytes ∷ []) ≡ []
    none_first = rw (take_while-cons begins_with_symbols bytes [], begins) refl

    first_is : first_symbols (records ++ bytes ∷ []) ≡ records
    first_is = first_of_all records (bytes ∷ []) all ∙ (ap (λ xs. records ++ xs) none_first ∙ no_more records)

tail_alone : (a b c d x : Option Fault) → four a b c d ≡ None → four a b c (option_or d x) ≡ x
tail_alone None None None None x h = or-none x
tail_alone (Some f) b c d x h = cc
tail_alone None (Some f) c d x h = cc
tail_alone None None (Some f) d x h = cc
tail_alone None None None (Some f) x h = cc

split_facts : (records : List (List ℕ)) → fold seen (facts (first_symbols records)) (drop (length (first_symbols records)) records) ≡ facts records
unfolding facts
split_facts records = facts_split no_facts records

split_number : (records : List (List ℕ)) → length (first_symbols records) + 1 + length (drop (length (first_symbols records)) records) ≡ length records + 1
split_number records = one_more (length (first_symbols records)) (length (drop (length (first_symbols records)) records)) (length records) (number_split records)
  where
    one_more : (m n k : ℕ) → m + n ≡ k → m + 1 + n ≡ k + 1
    one_more m n k h = omega arith

last_fault : (e : Entry) (records : List (List ℕ)) (bytes : List ℕ)
    → faults_from e (fold seen (facts (first_symbols records)) (drop (length (first_symbols records)) records)) (length (first_symbols records) + 1 + length (drop (length (first_symbols records)) records)) (bytes ∷ [])
    ≡ option_map (at (length records + 1)) (fault e (facts records) bytes)
last_fault e records bytes =
    ap (λ F. faults_from e F (length (first_symbols records) + 1 + length (drop (length (first_symbols records)) records)) (bytes ∷ [])) (split_facts records)
    ∙ (ap (λ n. faults_from e (facts records) n (bytes ∷ [])) (split_number records) ∙ faults-one e (facts records) (length records + 1) bytes)

of_some_more : (e : Entry) (records rest : List (List ℕ)) → are_symbols records ≡ false
    → of_some e (records ++ rest)
    ≡ four (faults_from e no_facts 1 (first_symbols records)) (option_map (at 1) (head_fault records)) (option_map (at 0) (entry_fault e (facts (first_symbols records))))
    (option_or (faults_from e (facts (first_symbols records)) (length (first_symbols records) + 1) (drop (length (first_symbols records)) records))
    (faults_from e (fold seen (facts (first_symbols records)) (drop (length (first_symbols records)) records)) (length (first_symbols records) + 1 + length (drop (length (first_symbols records)) records)) rest))
of_some_more e records rest some =
    rw (first_of_some records rest some, head_of_some records rest some, rest_of_some records rest, faults-append e (facts (first_symbols records)) (length (first_symbols records) + 1) (drop (length (first_symbols records)) records) rest) refl

more_some : (e : Entry) (records : List (List ℕ)) (bytes : List ℕ) → are_symbols records ≡ false → bad_so_far e records ≡ None
    → bad_so_far e (records ++ bytes ∷ []) ≡ option_map (at (length records + 1)) (fault e (facts records) bytes)
more_some e records bytes some good =
    so_far_some e (records ++ bytes ∷ []) (rw (all_more records bytes, some) refl)
    ∙ (of_some_more e records (bytes ∷ []) some
    ∙ (tail_alone (faults_from e no_facts 1 (first_symbols records)) (option_map (at 1) (head_fault records)) (option_map (at 0) (entry_fault e (facts (first_symbols records))))
    (faults_from e (facts (first_symbols records)) (length (first_symbols records) + 1) (drop (length (first_symbols records)) records))
    (faults_from e (fold seen (facts (first_symbols records)) (drop (length (first_symbols records)) records)) (length (first_symbols records) + 1 + length (drop (length (first_symbols records)) records)) (bytes ∷ []))
    (sym (so_far_some e records some) ∙ good)
    ∙ last_fault e records bytes))

-- ---- the walk's step says the same

step_all : (e : Entry) (records : List (List ℕ)) (bytes : List ℕ) → are_symbols records ≡ true → begins_with_symbols bytes ≡ true
    → step_bad e (walked_of records) bytes ≡ option_map (at (length records + 1)) (fault e (facts records) bytes)
unfolding step_bad head_bad
step_all e records bytes all begins = rw (all, begins, fault_without e (facts records) bytes) refl

step_head : (e : Entry) (records : List (List ℕ)) (bytes : List ℕ) → are_symbols records ≡ true → begins_with_symbols bytes ≡ false
    → step_bad e (walked_of records) bytes
    ≡ option_or (option_map (at 1) (if length records == 0 then option_map what_of (own_fault bytes) else None)) (option_or (option_map (at 0) (entry_fault e (facts records))) (option_map (at (length records + 1)) (fault e (facts records) bytes)))
unfolding step_bad head_bad
step_head e records bytes all begins =
    rw (all, begins, fault_without e (facts records) bytes)
    (regroup (option_map (at 1) (if length records == 0 then option_map what_of (own_fault bytes) else None)) (option_map (at 0) (entry_fault e (facts records))) (option_map (at (length records + 1)) (fault e (facts records) bytes)))
  where
    regroup : (a b c : Option Fault) → option_or (option_or a (option_or b None)) c ≡ option_or a (option_or b c)
    regroup None None c = refl
    regroup None (Some f) c = refl
    regroup (Some f) b c = refl

step_some : (e : Entry) (records : List (List ℕ)) (bytes : List ℕ) → are_symbols records ≡ false
    → step_bad e (walked_of records) bytes ≡ option_map (at (length records + 1)) (fault e (facts records) bytes)
unfolding step_bad head_bad
step_some e records bytes some = rw (some, fault_without e (facts records) bytes) refl

one_more : (e : Entry) (records : List (List ℕ)) (bytes : List ℕ) → bad_so_far e records ≡ None → bad_so_far e (records ++ bytes ∷ []) ≡ step_bad e (walked_of records) bytes
one_more e records bytes good = by_head (are_symbols records) (begins_with_symbols bytes) refl refl
  where
    by_head : (s t : Bool) → are_symbols records ≡ s → begins_with_symbols bytes ≡ t → bad_so_far e (records ++ bytes ∷ []) ≡ step_bad e (walked_of records) bytes
    by_head true true all begins = more_all e records bytes all begins good ∙ sym (step_all e records bytes all begins)
    by_head true false all begins = more_head e records bytes all begins good ∙ sym (step_head e records bytes all begins)
    by_head false t some begins = more_some e records bytes some good ∙ sym (step_some e records bytes some)

-- ---- a fault stays the first

found_all : (e : Entry) (records rest : List (List ℕ)) (is_whole : Bool) (f : Fault) → are_symbols records ≡ true → faults_from e no_facts 1 records ≡ Some f → first_bad_of e (records ++ rest) is_whole ≡ Some f
unfolding first_bad_of
found_all e records rest is_whole f all found =
    first_found (faults_from e no_facts 1 (first_symbols (records ++ rest))) _ f
    (ap (faults_from e no_facts 1) (first_of_all records rest all)
    ∙ (faults-append e no_facts 1 records (first_symbols rest) ∙ ap (λ x. option_or x (faults_from e (fold seen no_facts records) (1 + length records) (first_symbols rest))) found))

found_some : (e : Entry) (records rest : List (List ℕ)) (is_whole : Bool) (f : Fault) → are_symbols records ≡ false → of_some e records ≡ Some f → first_bad_of e (records ++ rest) is_whole ≡ Some f
unfolding first_bad_of
found_some e records rest is_whole f some found =
    rw (first_of_some records rest some, head_of_some records rest some, rest_of_some records rest, faults-append e (facts (first_symbols records)) (length (first_symbols records) + 1) (drop (length (first_symbols records)) records) rest)
    (four_found (faults_from e no_facts 1 (first_symbols records)) (option_map (at 1) (head_fault records)) (option_map (at 0) (entry_fault e (facts (first_symbols records))))
    (faults_from e (facts (first_symbols records)) (length (first_symbols records) + 1) (drop (length (first_symbols records)) records))
    (faults_from e (fold seen (facts (first_symbols records)) (drop (length (first_symbols records)) records)) (length (first_symbols records) + 1 + length (drop (length (first_symbols records)) records)) rest)
    (option_or (option_map (at (length (records ++ rest) + 1)) (when (not is_whole) NoEnd)) None) f found)

stays_first : (e : Entry) (records rest : List (List ℕ)) (is_whole : Bool) (f : Fault) → bad_so_far e records ≡ Some f → first_bad_of e (records ++ rest) is_whole ≡ Some f
stays_first e records rest is_whole f found = by_head (are_symbols records) refl
  where
    by_head : (s : Bool) → are_symbols records ≡ s → first_bad_of e (records ++ rest) is_whole ≡ Some f
    by_head true all = found_all e records rest is_whole f all (sym (so_far_all e records all) ∙ found)
    by_head false some = found_some e records rest is_whole f some (sym (so_far_some e records some) ∙ found)

-- ---- no record comes any more

end_all : (e : Entry) (records : List (List ℕ)) (is_whole : Bool) → are_symbols records ≡ true → faults_from e no_facts 1 records ≡ None → first_bad_of e records is_whole ≡ end_bad e (walked_of records) is_whole
unfolding first_bad_of end_bad
end_all e records is_whole all good =
    rw (first_alone records all, good, head_of_symbols records all, rest_none e (facts records) (length records + 1) records, all) refl

end_some : (e : Entry) (records : List (List ℕ)) (is_whole : Bool) → are_symbols records ≡ false → of_some e records ≡ None → first_bad_of e records is_whole ≡ end_bad e (walked_of records) is_whole
unfolding first_bad_of end_bad
end_some e records is_whole some good =
    let parts = four_none (faults_from e no_facts 1 (first_symbols records)) (option_map (at 1) (head_fault records)) (option_map (at 0) (entry_fault e (facts (first_symbols records))))
    (faults_from e (facts (first_symbols records)) (length (first_symbols records) + 1) (drop (length (first_symbols records)) records)) good in
    rw (parts.0, parts.1, parts.2, parts.3, some) refl

-- ---- what a walk's calls say

pub starts : (e : Entry) → IsWalked e [] (walked_of [])
unfolding bad_so_far faults_from
starts e = record { good = refl; state = refl }

state_after : (records : List (List ℕ)) (bytes : List ℕ) → stepped (walked_of records) bytes ≡ walked_of (records ++ bytes ∷ [])
unfolding stepped
state_after records bytes =
    rw (all_more records bytes, length-append records (bytes ∷ []), records_add_facts records bytes, seen_without (facts records) bytes) refl

pub goes_on : (e : Entry) (records : List (List ℕ)) (bytes : List ℕ) (w : Walked) → IsWalked e records w → step_bad e w bytes ≡ None → IsWalked e (records ++ bytes ∷ []) (stepped w bytes)
goes_on e records bytes w walked none = record {
  good = one_more e records bytes walked.good ∙ (ap (λ v. step_bad e v bytes) (sym walked.state) ∙ none);
  state = ap (λ v. stepped v bytes) walked.state ∙ state_after records bytes;
}

pub stops : (e : Entry) (records rest : List (List ℕ)) (is_whole : Bool) (bytes : List ℕ) (w : Walked) (f : Fault) → IsWalked e records w → step_bad e w bytes ≡ Some f
    → first_bad_of e (records ++ bytes ∷ rest) is_whole ≡ Some f
stops e records rest is_whole bytes w f walked found =
    ap (λ xs. first_bad_of e xs is_whole) (sym (append_assoc records (bytes ∷ []) rest))
    ∙ stays_first e (records ++ bytes ∷ []) rest is_whole f (one_more e records bytes walked.good ∙ (ap (λ v. step_bad e v bytes) (sym walked.state) ∙ found))

pub ends : (e : Entry) (records : List (List ℕ)) (is_whole : Bool) (w : Walked) → IsWalked e records w → first_bad_of e records is_whole ≡ end_bad e w is_whole
ends e records is_whole w walked = by_head (are_symbols records) refl ∙ ap (λ v. end_bad e v is_whole) (sym walked.state)
  where
    by_head : (s : Bool) → are_symbols records ≡ s → first_bad_of e records is_whole ≡ end_bad e (walked_of records) is_whole
    by_head true all = end_all e records is_whole all (sym (so_far_all e records all) ∙ walked.good)
    by_head false some = end_some e records is_whole some (sym (so_far_some e records some) ∙ walked.good)

pub shows_first : (e : Entry) (w : Walked) (bytes : List ℕ) (fault : WalkFault) → Steps e w bytes (Err fault) → IsFirstFault e w bytes fault
shows_first e w bytes (At number what) shown = λ records rest is_whole walked. stops e records rest is_whole bytes w (number, what) walked shown
shows_first e w bytes Memory shown = tt
