-- The members of a library, seen from its rows.
use Rattle.std.proofs.Common.{◌≡◌, ℕ, zero, suc, ◌+◌, ◌-◌, ◌≤◌, ◌<◌, Bool, true, false, cond, not, ◌&&◌, eqb, List, [], ◌∷◌, length, take, drop, map, Option, Some, None, Ok, refl, sym, ap, ◌∙◌, arith}
use Rattle.std.specs.Prelude.{find, slice_get, option_map, option_and_then}
use Rattle.std.specs.List.{list_all}
use Rattle.std.specs.Option.{option_map_or}
use Rattle.std.proofs.lemmas.Bool.{ltb-true, eqb-true}
use Rattle.std.proofs.lemmas.List.{length-map, length-take, length-drop}
use Rattle.le_bytes.specs.declared.name.Name.{Name}
use Rattle.le_bytes.specs.Names.{name_eq}
use Rattle.pds_directory.specs.declared.entry.Entry.{Entry}
use Rattle.pds_directory.specs.declared.entry.Span.{Span}
use Rattle.pds_lib.specs.declared.table.Row.{Row}
use Rattle.pds_lib.specs.declared.table.Store.{Store}
use Rattle.pds_directory.specs.declared.entry.Listed.{Listed}
use Rattle.pds_directory.specs.Parts.{part, is_below}
use Rattle.pds_directory.specs.Order.{ascends, ascends_after}
use Rattle.pds_directory.specs.declared.header.Head.{Head}
use Rattle.pds_directory.specs.Places.{run_length, ends_of, records_of as records_from_head}
use Rattle.pds_directory.specs.Directory.{begins_at, owner_from, owner_of, listed_name, Listing, listing_of, rules_of}
use Rattle.pds_lib.specs.Grammar.{member_of, members_of, library_of}
use Rattle.pds_lib.specs.Rows.{main_count, row_of}
use Rattle.pds_lib.specs.Contents.{Held}
use Rattle.pds_lib.specs.Stored.{held, stored, row_name, is_few, row_is_there}
use Rattle.pds_directory.proofs.Halving.{both_true}

abbrev pub members : List ℕ → List Span → List (List (List ℕ)) → List Row → List Held
members image places given rows = map (held image places given) rows

pub entries-members : (image : List ℕ) (places : List Span) (given : List (List (List ℕ))) (rows : List Row)
    → map (λ (r : Row). r.entry) rows ≡ map (λ (h : Held). h.entry) (members image places given rows)
entries-members image places given [] = refl
entries-members image places given (r ∷ rows) = ap (λ (es : List Entry). r.entry ∷ es) (entries-members image places given rows)

cond_map : {X Y : Type 0} (f : X → Y) (b : Bool) (x : X) (o : Option X) (p : Option Y) → p ≡ option_map f o
    → cond b (Some (f x)) p ≡ option_map f (cond b (Some x) o)
cond_map f true x o p e = refl
cond_map f false x o p e = e

pub find-map : {X Y : Type 0} (p : Y → Bool) (f : X → Y) (xs : List X) → find p (map f xs) ≡ option_map f (find (λ x. p (f x)) xs)
find-map p f [] = refl
find-map p f (x ∷ xs) = cond_map f (p (f x)) x (find (λ y. p (f y)) xs) (find p (map f xs)) (find-map p f xs)

pub slice_get-map : {X Y : Type 0} (f : X → Y) (xs : List X) (k : ℕ) → slice_get (map f xs) k ≡ option_map f (slice_get xs k)
slice_get-map f [] k = refl
slice_get-map f (x ∷ xs) zero = refl
slice_get-map f (x ∷ xs) (suc k) = slice_get-map f xs k

abbrev pub with_name : Name → Row → Bool
with_name n r = name_eq (row_name r) n

-- the entry that a look-up in the rows finds
pub entry_found : (image : List ℕ) (places : List Span) (given : List (List (List ℕ))) (rows : List Row) (n : Name)
    → find (λ (e : Entry). name_eq e.name n) (map (λ (h : Held). h.entry) (members image places given rows))
    ≡ option_map (λ (r : Row). r.entry) (find (with_name n) rows)
entry_found image places given rows n =
    ap (find (λ (e : Entry). name_eq e.name n)) (sym (entries-members image places given rows))
    ∙ find-map (λ (e : Entry). name_eq e.name n) (λ (r : Row). r.entry) rows

records_in : (image : List ℕ) (places : List Span) (given : List (List (List ℕ))) (o : Option Row)
    → option_map_or (λ (h : Held). h.records) (option_map (held image places given) o) [] ≡ option_map_or (λ (r : Row). stored image places given r.store) o []
records_in image places given None = refl
records_in image places given (Some r) = refl

-- the records that a look-up in the rows finds
pub records_found : (image : List ℕ) (places : List Span) (given : List (List (List ℕ))) (rows : List Row) (n : Name)
    → option_map_or (λ (h : Held). h.records) (find (λ (h : Held). name_eq h.entry.name n) (members image places given rows)) []
    ≡ option_map_or (λ (r : Row). stored image places given r.store) (find (with_name n) rows) []
records_found image places given rows n =
    ap (λ (o : Option Held). option_map_or (λ (h : Held). h.records) o []) (find-map (λ (h : Held). name_eq h.entry.name n) (held image places given) rows)
    ∙ records_in image places given (find (with_name n) rows)

data_in : (image : List ℕ) (places : List Span) (given : List (List (List ℕ))) (o : Option Row)
    → option_map_or (λ (h : Held). h.user_data) (option_map (held image places given) o) [] ≡ option_map_or (λ (r : Row). part image r.user_data) o []
data_in image places given None = refl
data_in image places given (Some r) = refl

-- the user data that a look-up in the rows finds
pub data_found : (image : List ℕ) (places : List Span) (given : List (List (List ℕ))) (rows : List Row) (n : Name)
    → option_map_or (λ (h : Held). h.user_data) (find (λ (h : Held). name_eq h.entry.name n) (members image places given rows)) []
    ≡ option_map_or (λ (r : Row). part image r.user_data) (find (with_name n) rows) []
data_found image places given rows n =
    ap (λ (o : Option Held). option_map_or (λ (h : Held). h.user_data) o []) (find-map (λ (h : Held). name_eq h.entry.name n) (held image places given) rows)
    ∙ data_in image places given (find (with_name n) rows)

-- what is read so has few records
pub read_few : (image : List ℕ) (places : List Span) (first count : ℕ) → length places < 16777216
    → length (map (part image) (take count (drop first places))) < 16777216
read_few image places first count few =
    omega (arith, length-map (take count (drop first places)) (part image), length-take count (drop first places), length-drop first places)

pub given_few : (given : List (List (List ℕ))) (i : ℕ) (x : List (List ℕ)) → list_all is_few given ≡ true → slice_get given i ≡ Some x → length x < 16777216
given_few [] i x all here = absurd cc
given_few (y ∷ ys) zero x all here =
    let both = both_true (is_few y) (list_all is_few ys) all in
    let e : y ≡ x = cc in
    rw (← e) (ltb-true (length y) 16777216 both.0)
given_few (y ∷ ys) (suc i) x all here =
    let both = both_true (is_few y) (list_all is_few ys) all in
    given_few ys i x both.1 here

-- ---- a library that was read

pub members-read : (image : List ℕ) (places : List Span) (all xs : List Listed)
    → members image places [] (map (row_of places all) xs) ≡ map (member_of image places all) xs
members-read image places all [] = refl
members-read image places all (x ∷ xs) = ap (λ (hs : List Held). member_of image places all x ∷ hs) (members-read image places all xs)

pub all_there : (places : List Span) (all xs : List Listed) → list_all (row_is_there 0) (map (row_of places all) xs) ≡ true
all_there places all [] = refl
all_there places all (x ∷ xs) = all_there places all xs

after-map : {X Y : Type 0} (name : Y → Name) (f : X → Y) (m : Name) (xs : List X) → ascends_after name m (map f xs) ≡ ascends_after (λ x. name (f x)) m xs
after-map name f m [] = refl
after-map name f m (x ∷ xs) = ap (λ (b : Bool). is_below m (name (f x)) && b) (after-map name f (name (f x)) xs)

pub ascends-map : {X Y : Type 0} (name : Y → Name) (f : X → Y) (xs : List X) → ascends name (map f xs) ≡ ascends (λ x. name (f x)) xs
ascends-map name f [] = refl
ascends-map name f (x ∷ xs) = after-map name f (name (f x)) xs

-- the count that is known of a main entry is that of each entry of its member
low_step : (i j t : ℕ) (xs : List Listed) (b : Bool) → cond b (Some i) (owner_from (i + 1) xs t) ≡ Some j
    → (owner_from (i + 1) xs t ≡ Some j → i + 1 ≤ j) → i ≤ j
low_step i j t xs true owned ih = let e : i ≡ j = cc in omega arith
low_step i j t xs false owned ih = let le = ih owned in omega arith

pub owner_low : (i j t : ℕ) (xs : List Listed) → owner_from i xs t ≡ Some j → i ≤ j
unfolding owner_from
owner_low i j t [] owned = absurd cc
owner_low i j t (x ∷ xs) owned = low_step i j t xs (begins_at t x) owned (owner_low (i + 1) j t xs)

no_alias : (b : Bool) → not b ≡ true → b ≡ false
no_alias true e = absurd cc
no_alias false e = refl

main_counts : (places : List Span) (x : Listed) (t : ℕ) → begins_at t x ≡ true → main_count places x ≡ run_length (drop (t - 1) places)
main_counts places x t begins =
    let both = both_true (not x.entry.alias) (eqb x.first t) begins in
    let first : x.first ≡ t = eqb-true x.first t both.1 in
    let main : x.entry.alias ≡ false = no_alias x.entry.alias both.0 in
    rw (main, first) refl

count_step : (places : List Span) (i j t : ℕ) (x : Listed) (xs : List Listed) (n : ℕ) (b : Bool) → b ≡ begins_at t x
    → cond b (Some i) (owner_from (i + 1) xs t) ≡ Some j → slice_get (map (main_count places) (x ∷ xs)) (j - i) ≡ Some n
    → (owner_from (i + 1) xs t ≡ Some j → slice_get (map (main_count places) xs) (j - (i + 1)) ≡ Some n → n ≡ run_length (drop (t - 1) places))
    → n ≡ run_length (drop (t - 1) places)
count_step places i j t x xs n true here owned counted ih =
    let e : i ≡ j = cc in
    let at : j - i ≡ 0 = omega arith in
    let got : Some (main_count places x) ≡ Some n = ap (slice_get (map (main_count places) (x ∷ xs))) (sym at) ∙ counted in
    let same : main_count places x ≡ n = cc in
    sym same ∙ main_counts places x t (sym here)
count_step places i j t x xs n false here owned counted ih =
    let le = owner_low (i + 1) j t xs owned in
    let at : j - i ≡ suc (j - (i + 1)) = omega arith in
    ih owned (ap (slice_get (map (main_count places) (x ∷ xs))) (sym at) ∙ counted)

count_from : (places : List Span) (i j t : ℕ) (xs : List Listed) (n : ℕ) → owner_from i xs t ≡ Some j
    → slice_get (map (main_count places) xs) (j - i) ≡ Some n → n ≡ run_length (drop (t - 1) places)
unfolding owner_from
count_from places i j t [] n owned counted = absurd cc
count_from places i j t (x ∷ xs) n owned counted =
    count_step places i j t x xs n (begins_at t x) refl owned counted (count_from places (i + 1) j t xs n)

pub count_of_owner : (places : List Span) (xs : List Listed) (j t n : ℕ) → owner_of xs t ≡ Some j
    → slice_get (map (main_count places) xs) j ≡ Some n → n ≡ run_length (drop (t - 1) places)
count_of_owner places xs j t n owned counted =
    let e : j - 0 ≡ j = omega arith in
    count_from places 0 j t xs n owned (ap (slice_get (map (main_count places) xs)) e ∙ counted)

pub known_count : (places : List Span) (xs : List Listed) (t n : ℕ) (o : Option ℕ) → owner_of xs t ≡ o
    → Some n ≡ option_and_then (slice_get (map (main_count places) xs)) o → n ≡ run_length (drop (t - 1) places)
known_count places xs t n None owned e = absurd cc
known_count places xs t n (Some j) owned e = count_of_owner places xs j t n owned (sym e)

-- the records of a row that a look-up finds
pub records_stored : (image : List ℕ) (places : List Span) (given : List (List (List ℕ))) (s : Store) (o : Option Row)
    → Some s ≡ option_map (λ (r : Row). r.store) o → stored image places given s ≡ option_map_or (λ (r : Row). stored image places given r.store) o []
records_stored image places given s None e = absurd cc
records_stored image places given s (Some r) e = let same : s ≡ r.store = cc in ap (stored image places given) same

pub none_stored : (image : List ℕ) (places : List Span) (given : List (List (List ℕ))) (o : Option Row)
    → None ≡ option_map (λ (r : Row). r.store) o → [] ≡ option_map_or (λ (r : Row). stored image places given r.store) o []
none_stored image places given None e = refl
none_stored image places given (Some r) e = absurd cc

pub rows_ascend : (places : List Span) (xs : List Listed) → ascends listed_name xs ≡ true → ascends row_name (map (row_of places xs) xs) ≡ true
rows_ascend places xs up = ascends-map row_name (row_of places xs) xs ∙ up

pub rows_ascend_at : (rows : List Row) (places : List Span) (xs : List Listed) → rows ≡ map (row_of places xs) xs → ascends listed_name xs ≡ true → ascends row_name rows ≡ true
rows_ascend_at rows places xs e up = ap (ascends row_name) e ∙ rows_ascend places xs up

pub rows_there : (rows : List Row) (places : List Span) (xs : List Listed) → rows ≡ map (row_of places xs) xs → list_all (row_is_there 0) rows ≡ true
rows_there rows places xs e = ap (list_all (row_is_there 0)) e ∙ all_there places xs xs

-- the library of an image, from its parts
pub library_is : (image : List ℕ) (d : Listing) (h : Head) (places : List Span) (rows : List Row)
    → listing_of image ≡ Ok d → h ≡ d.head → records_from_head h image ≡ Ok places → Ok tt ≡ rules_of d (ends_of places)
    → rows ≡ map (row_of places d.entries) d.entries
    → library_of image ≡ Ok (record { version = h.version; kind = h.kind; members = map (held image places []) rows })
unfolding library_of
library_is image d h places rows directory head records rules e =
    let here : records_from_head d.head image ≡ Ok places = ap (λ (g : Head). records_from_head g image) (sym head) ∙ records in
    let whole : library_of image ≡ Ok (record { version = d.head.version; kind = d.head.kind; members = members_of image places d.entries }) =
    rw (directory, here, ← rules) refl in
    let same : members_of image places d.entries ≡ map (held image places []) rows =
    sym (ap (map (held image places [])) e ∙ members-read image places d.entries d.entries) in
    whole
    ∙ ap (λ (g : Head). Ok (record { version = g.version; kind = g.kind; members = members_of image places d.entries })) (sym head)
    ∙ ap (λ (hs : List Held). Ok (record { version = h.version; kind = h.kind; members = hs })) same
