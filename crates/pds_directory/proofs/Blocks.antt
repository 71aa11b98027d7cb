-- Reading the entries of a block one after the other, as a loop does.
use Rattle.std.proofs.Common.{◌≡◌, ℕ, suc, ◌-◌, ◌+◌, ◌≤◌, ◌<◌, ◌&&◌, Bool, true, false, eqb, leb, List, [], ◌∷◌, ◌++◌, length, drop, get_or, Some, None, Result, Ok, Err, refl, sym, ap, ◌∙◌, arith}
use Rattle.le_bytes.specs.declared.library_fault.LibFault.{LibFault}
use Rattle.le_bytes.specs.declared.library_fault.LibFault.TheVariants.{BadDirectory, BadEntry}
use Rattle.pds_directory.specs.declared.entry.Listed.{Listed}
use Rattle.pds_directory.specs.declared.header.Head.{Head}
use Rattle.pds_directory.specs.declared.stop.LibStop.{LibStop}
use Rattle.pds_directory.specs.declared.stop.LibStop.TheVariants as stops
use Rattle.std.proofs.lemmas.List.{drop_more, drop_all}
use Rattle.le_bytes.specs.declared.name.Name.{Name}
use Rattle.pds_directory.specs.declared.kinds.LibKind.{LibKind}
use Rattle.pds_directory.specs.declared.kinds.LibKind.TheVariants.{Cards, Modules}
use Rattle.pds_directory.specs.Order.{ascends, ascends_after}
use Rattle.pds_directory.specs.Answers.{Fails}
use Rattle.pds_directory.specs.Parts.{number, name_at, is_below}
use Rattle.pds_directory.specs.Directory.{entry_length, entry_at, entries_from, is_good, is_above, has_size, listed_name, listed_of, entry_of, Listing, keeps_rules, rules_from, block_from, blocks_from}

abbrev pub Entries : Type 0
Entries = Result (List Listed × Bool) LibFault

pub takes_entry : (tries i : ℕ) (h : Head) (block : ℕ) (done : List Listed) (end : ℕ) (rest : List ℕ) (x : Listed) (total : Entries)
    → i < tries → eqb (length rest) 0 ≡ false → entry_at h block (i + 1) done end rest ≡ Ok (Some x)
    → entries_from (tries - i) h block (i + 1) done end rest ≡ total
    → entries_from (tries - (i + 1)) h block (i + 1 + 1) (done ++ x ∷ []) end (drop (entry_length rest) rest) ≡ total
unfolding entries_from
takes_entry tries i h block done end rest x total lt more here so_far =
    let k : tries - i ≡ suc (tries - (i + 1)) = omega arith in
    let one : entries_from (tries - i) h block (i + 1) done end rest ≡ entries_from (tries - (i + 1)) h block (i + 1 + 1) (done ++ x ∷ []) end (drop (entry_length rest) rest) = rw (k, more, here) refl in
    sym one ∙ so_far

pub no_entry_left : (tries i : ℕ) (h : Head) (block : ℕ) (done : List Listed) (end : ℕ) (rest : List ℕ) (total : Entries)
    → i < tries → eqb (length rest) 0 ≡ true
    → entries_from (tries - i) h block (i + 1) done end rest ≡ total → total ≡ Ok (done, false)
unfolding entries_from
no_entry_left tries i h block done end rest total lt more so_far =
    let k : tries - i ≡ suc (tries - (i + 1)) = omega arith in
    let one : entries_from (tries - i) h block (i + 1) done end rest ≡ Ok (done, false) = rw (k, more) refl in
    sym so_far ∙ one

pub last_entry : (tries i : ℕ) (h : Head) (block : ℕ) (done : List Listed) (end : ℕ) (rest : List ℕ) (total : Entries)
    → i < tries → eqb (length rest) 0 ≡ false → entry_at h block (i + 1) done end rest ≡ Ok None
    → entries_from (tries - i) h block (i + 1) done end rest ≡ total → total ≡ Ok (done, true)
unfolding entries_from
last_entry tries i h block done end rest total lt more here so_far =
    let k : tries - i ≡ suc (tries - (i + 1)) = omega arith in
    let one : entries_from (tries - i) h block (i + 1) done end rest ≡ Ok (done, true) = rw (k, more, here) refl in
    sym so_far ∙ one

pub bad_entry : (e : LibStop) (tries i : ℕ) (h : Head) (block : ℕ) (done : List Listed) (end : ℕ) (rest : List ℕ) (total : Entries)
    → i < tries → eqb (length rest) 0 ≡ false → Fails e (entry_at h block (i + 1) done end rest)
    → entries_from (tries - i) h block (i + 1) done end rest ≡ total → Fails e total
unfolding entries_from
bad_entry stops.Memory tries i h block done end rest total lt more here so_far = tt
bad_entry (stops.Bad f) tries i h block done end rest total lt more here so_far =
    let k : tries - i ≡ suc (tries - (i + 1)) = omega arith in
    let one : entries_from (tries - i) h block (i + 1) done end rest ≡ Err f = rw (k, more, here) refl in
    sym so_far ∙ one

pub no_more_tries : (tries i : ℕ) (h : Head) (block : ℕ) (done : List Listed) (end : ℕ) (rest : List ℕ) (total : Entries)
    → tries ≤ i → entries_from (tries - i) h block (i + 1) done end rest ≡ total → total ≡ Err (BadDirectory block)
unfolding entries_from
no_more_tries tries i h block done end rest total le so_far =
    let k : tries - i ≡ 0 = omega arith in
    let one : entries_from (tries - i) h block (i + 1) done end rest ≡ Err (BadDirectory block) = rw k refl in
    sym so_far ∙ one

second_holds : (a b : Bool) → (a && b) ≡ true → b ≡ true
second_holds true b e = e
second_holds false b e = absurd cc

pub good_has_size : (h : Head) (done : List Listed) (rest : List ℕ) → is_good h done rest ≡ true → has_size h.kind rest ≡ true
good_has_size h done rest e =
    let one = second_holds (is_above done (name_at rest 0)) (leb 1 (number 3 rest 8) && (leb (number 3 rest 8) h.records && has_size h.kind rest)) e in
    let two = second_holds (leb 1 (number 3 rest 8)) (leb (number 3 rest 8) h.records && has_size h.kind rest) one in
    second_holds (leb (number 3 rest 8) h.records) (has_size h.kind rest) two

-- ---- block after block

pub block_ended : (left i : ℕ) (h : Head) (image : List ℕ) (done more : List Listed) (total : Result (List Listed) LibFault)
    → i < left → block_from h image (i + 1) done ≡ Ok (more, true)
    → blocks_from (left - i) h image (i + 1) done ≡ total → total ≡ Ok more
unfolding blocks_from
block_ended left i h image done more total lt here so_far =
    let k : left - i ≡ suc (left - (i + 1)) = omega arith in
    let one : blocks_from (left - i) h image (i + 1) done ≡ Ok more = rw (k, here) refl in
    sym so_far ∙ one

pub block_taken : (left i : ℕ) (h : Head) (image : List ℕ) (done more : List Listed) (total : Result (List Listed) LibFault)
    → i < left → block_from h image (i + 1) done ≡ Ok (more, false)
    → blocks_from (left - i) h image (i + 1) done ≡ total → blocks_from (left - (i + 1)) h image (i + 1 + 1) more ≡ total
unfolding blocks_from
block_taken left i h image done more total lt here so_far =
    let k : left - i ≡ suc (left - (i + 1)) = omega arith in
    let one : blocks_from (left - i) h image (i + 1) done ≡ blocks_from (left - (i + 1)) h image (i + 1 + 1) more = rw (k, here) refl in
    sym one ∙ so_far

pub block_bad : (e : LibStop) (left i : ℕ) (h : Head) (image : List ℕ) (done : List Listed) (total : Result (List Listed) LibFault)
    → i < left → Fails e (block_from h image (i + 1) done)
    → blocks_from (left - i) h image (i + 1) done ≡ total → Fails e total
unfolding blocks_from
block_bad stops.Memory left i h image done total lt here so_far = tt
block_bad (stops.Bad f) left i h image done total lt here so_far =
    let k : left - i ≡ suc (left - (i + 1)) = omega arith in
    let one : blocks_from (left - i) h image (i + 1) done ≡ Err f = rw (k, here) refl in
    sym so_far ∙ one

pub no_block_left : (left i : ℕ) (h : Head) (image : List ℕ) (done : List Listed) (total : Result (List Listed) LibFault)
    → left ≤ i → blocks_from (left - i) h image (i + 1) done ≡ total → total ≡ Err (BadDirectory h.blocks)
unfolding blocks_from
no_block_left left i h image done total le so_far =
    let k : left - i ≡ 0 = omega arith in
    let one : blocks_from (left - i) h image (i + 1) done ≡ Err (BadDirectory h.blocks) = rw k refl in
    sym so_far ∙ one

-- ---- names ascend

first_holds : (a b : Bool) → (a && b) ≡ true → a ≡ true
first_holds true b e = refl
first_holds false b e = absurd cc

pub good_is_above : (h : Head) (done : List Listed) (rest : List ℕ) → is_good h done rest ≡ true → is_above done (name_at rest 0) ≡ true
good_is_above h done rest e =
    first_holds (is_above done (name_at rest 0)) (leb 1 (number 3 rest 8) && (leb (number 3 rest 8) h.records && has_size h.kind rest)) e

above_tail : (y z : Listed) (zs : List Listed) (n : Name) → is_above (y ∷ z ∷ zs) n ≡ is_above (z ∷ zs) n
above_tail y z zs n = let k : length (y ∷ z ∷ zs) - 1 ≡ suc (length (z ∷ zs) - 1) = omega arith in rw k refl

after_push : (m : Name) (y : Listed) (ys : List Listed) (x : Listed) → ascends_after listed_name m (y ∷ ys) ≡ true → is_above (y ∷ ys) x.entry.name ≡ true
    → ascends_after listed_name m ((y ∷ ys) ++ x ∷ []) ≡ true
after_push m y [] x up above = let a = first_holds (is_below m y.entry.name) true up in rw (a, above) refl
after_push m y (z ∷ zs) x up above =
    let a = first_holds (is_below m y.entry.name) (ascends_after listed_name y.entry.name (z ∷ zs)) up in
    let b = second_holds (is_below m y.entry.name) (ascends_after listed_name y.entry.name (z ∷ zs)) up in
    rw (a, after_push y.entry.name z zs x b (sym (above_tail y z zs x.entry.name) ∙ above)) refl

pub ascends_push : (xs : List Listed) (x : Listed) → ascends listed_name xs ≡ true → is_above xs x.entry.name ≡ true → ascends listed_name (xs ++ x ∷ []) ≡ true
ascends_push [] x up above = refl
ascends_push (y ∷ []) x up above = rw above refl
ascends_push (y ∷ z ∷ zs) x up above = after_push y.entry.name z zs x up (sym (above_tail y z zs x.entry.name) ∙ above)

name_of_entry : (kind : LibKind) (rest : List ℕ) → (entry_of kind rest).name ≡ name_at rest 0
name_of_entry Cards rest = refl
name_of_entry Modules rest = refl

pub entry_is_above : (h : Head) (block k : ℕ) (done : List Listed) (end : ℕ) (rest : List ℕ) → is_good h done rest ≡ true
    → is_above done (listed_of h block k end rest).entry.name ≡ true
entry_is_above h block k done end rest e = ap (is_above done) (name_of_entry h.kind rest) ∙ good_is_above h done rest e

-- ---- the rules, entry by entry

pub rule_kept : (d : Listing) (ends : List ℕ) (i : ℕ) (xs : List Listed) (x : Listed) (total : Result (Unit {0}) LibFault) → i < length xs
    → keeps_rules d ends i (get_or xs i x) ≡ true → rules_from d ends i (drop i xs) ≡ total → rules_from d ends (i + 1) (drop (i + 1) xs) ≡ total
unfolding rules_from
rule_kept d ends i xs x total lt keeps so_far =
    let one : rules_from d ends i (drop i xs) ≡ rules_from d ends (i + 1) (drop (i + 1) xs) = rw (drop_more xs i x lt, keeps) refl in
    sym one ∙ so_far

pub rule_broken : (d : Listing) (ends : List ℕ) (i : ℕ) (xs : List Listed) (x : Listed) (total : Result (Unit {0}) LibFault) → i < length xs
    → keeps_rules d ends i (get_or xs i x) ≡ false → rules_from d ends i (drop i xs) ≡ total → Err (BadEntry (get_or xs i x).block (get_or xs i x).number) ≡ total
unfolding rules_from
rule_broken d ends i xs x total lt breaks so_far =
    let one : rules_from d ends i (drop i xs) ≡ Err (BadEntry (get_or xs i x).block (get_or xs i x).number) = rw (drop_more xs i x lt, breaks) refl in
    sym one ∙ so_far

pub rules_kept : (d : Listing) (ends : List ℕ) (i : ℕ) (xs : List Listed) (total : Result (Unit {0}) LibFault) → length xs ≤ i
    → rules_from d ends i (drop i xs) ≡ total → Ok tt ≡ total
unfolding rules_from
rules_kept d ends i xs total le so_far =
    let one : rules_from d ends i (drop i xs) ≡ Ok tt = rw (drop_all i xs le) refl in
    sym one ∙ so_far
