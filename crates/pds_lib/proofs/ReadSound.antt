-- A library that was read is sound.
use Rattle.std.proofs.Common.{◌≡◌, ℕ, zero, suc, ◌+◌, ◌-◌, ◌≤◌, Bool, true, false, cond, not, ◌&&◌, ◌||◌, eqb, List, [], ◌∷◌, length, take, drop, map, Option, Some, None, Ok, refl, sym, ap, ◌∙◌, subst, arith}
use Rattle.std.specs.Prelude.{slice_get, find, option_map}
use Rattle.std.specs.Option.{option_map_or}
use Rattle.std.specs.List.{AllByRecursion, list_any}
use Rattle.std.proofs.lemmas.Bool.{eqb-true}
use Rattle.std.proofs.lemmas.Bool.Decides.{nat_tests}
use Rattle.std.proofs.lemmas.Slice.Eq.{bytes_eq-Decides}
use Rattle.std.proofs.lemmas.List.{length-map}
use Rattle.std.proofs.lemmas.List.Sums.{sum_by-cons}
use Rattle.le_bytes.specs.Numbers.{AreBytes}
use Rattle.le_bytes.specs.declared.name.Name.{Name}
use Rattle.le_bytes.specs.Names.{name_eq}
use Rattle.le_bytes.specs.declared.library_fault.LibFault.TheVariants.{BadEntry}
use Rattle.pds_directory.specs.declared.kinds.LibKind.{LibKind}
use Rattle.pds_directory.specs.declared.kinds.LibKind.TheVariants.{Cards, Modules}
use Rattle.pds_directory.specs.declared.entry.Entry.{Entry}
use Rattle.pds_directory.specs.declared.entry.Span.{Span}
use Rattle.pds_directory.specs.declared.entry.Listed.{Listed}
use Rattle.pds_directory.specs.Parts.{part, is_below}
use Rattle.pds_directory.specs.Order.{ascends, ascends_after}
use Rattle.pds_directory.specs.Places.{records_of, ends_of, run_length}
use Rattle.pds_directory.specs.Directory.{listed_name, begins_at, owner_from, owner_of, may_begin, names_owner, keeps_rules, rules_from, rules_of, Listing, listing_of}
use Rattle.pds_lib.specs.Grammar.{places_from, main_of, member_of, members_of, library_of}
use Rattle.pds_lib.specs.Contents.{Held, held_name, Contents, entry_count, record_count}
use Rattle.pds_lib.specs.Sound.{HasData, HasMain, IsHeld, IsSound}
use Rattle.pds_directory.proofs.Halving.{both_true}
use Rattle.pds_lib.proofs.Halving.{below_trans, same_not_below, ascends_tail}
use Rattle.pds_lib.proofs.Members.{find-map, ascends-map, owner_low}
use Rattle.pds_lib.proofs.ReadEntries.{bind_ok, then_ok, IsListed, IsListing, listing_holds}
use Rattle.pds_lib.proofs.ReadPlaces.{ArePlaces, places_hold, run_long, member_records}
use Rattle.pds_lib.proofs.ReadCount.{IsAmong, weight, weights, weights_total, count, count_none, few_in, lone, end_is, refuted}

-- ---- names are apart

pub same_name : (n : Name) → name_eq n n ≡ true
same_name n = (bytes_eq-Decides n.0 n.0).1 refl

not_same : (m n : Name) (b : Bool) → name_eq m n ≡ b → is_below m n ≡ true → b ≡ false
not_same m n true same below = let e : false ≡ true = sym (same_not_below m n same) ∙ below in absurd cc
not_same m n false same below = refl

after_get : {X : Type 0} (name : X → Name) (m : Name) (xs : List X) (k : ℕ) (x : X) → ascends_after name m xs ≡ true → slice_get xs k ≡ Some x → is_below m (name x) ≡ true
after_get name m [] k x up there = absurd cc
after_get name m (y ∷ xs) zero x up there =
    let same : y ≡ x = cc in
    ap (λ (z : _). is_below m (name z)) (sym same) ∙ (both_true (is_below m (name y)) (ascends_after name (name y) xs) up).0
after_get name m (y ∷ xs) (suc k) x up there =
    let two = both_true (is_below m (name y)) (ascends_after name (name y) xs) up in
    below_trans m (name y) (name x) two.0 (after_get name (name y) xs k x two.1 there)

-- of things in the order of their names each is found by its name
pub find_at : {X : Type 0} (name : X → Name) (xs : List X) (k : ℕ) (x : X) → ascends name xs ≡ true → slice_get xs k ≡ Some x
    → find (λ (y : X). name_eq (name y) (name x)) xs ≡ Some x
find_at name [] k x up there = absurd cc
find_at {X = X} name (y ∷ xs) zero x up there =
    let same : y ≡ x = cc in
    subst (λ (x : X). find (λ (z : X). name_eq (name z) (name x)) (y ∷ xs) ≡ Some x) same (rw (same_name (name y)) refl)
find_at {X = X} name (y ∷ xs) (suc k) x up there =
    let below = after_get name (name y) xs k x up there in
    let other = not_same (name y) (name x) (name_eq (name y) (name x)) refl below in
    rw other (find_at name xs k x (ascends_tail name (name y) xs up) there)

-- ---- the rules, entry by entry

abbrev Kept : Listing → List ℕ → ℕ → List Listed → Type 0
Kept d ends i [] = Unit {0}
Kept d ends i (x ∷ xs) = (keeps_rules d ends i x ≡ true) × Kept d ends (i + 1) xs

all_kept : (d : Listing) (ends : List ℕ) (i : ℕ) (xs : List Listed) → rules_from d ends i xs ≡ Ok tt → Kept d ends i xs
unfolding rules_from
all_kept d ends i [] e = tt
all_kept d ends i (x ∷ xs) e =
    let r = then_ok (keeps_rules d ends i x) (BadEntry x.block x.number) (rules_from d ends (i + 1) xs) tt e in
    (r.0, all_kept d ends (i + 1) xs r.1)

kept_at : (d : Listing) (ends : List ℕ) (i k : ℕ) (xs : List Listed) (x : Listed) → Kept d ends i xs → slice_get xs k ≡ Some x → keeps_rules d ends (i + k) x ≡ true
kept_at d ends i k [] x kept there = absurd cc
kept_at d ends i zero (y ∷ xs) x kept there =
    let same : y ≡ x = cc in
    let n : i + 0 ≡ i = omega arith in
    rw n (subst (λ (x : Listed). keeps_rules d ends i x ≡ true) same kept.0)
kept_at d ends i (suc k) (y ∷ xs) x kept there =
    let n : i + suc k ≡ i + 1 + k = omega arith in
    rw n (kept_at d ends (i + 1) k xs x kept.1 there)

second : (b p q : Bool) → b ≡ false → cond b p q ≡ true → q ≡ true
second true p q main e = absurd cc
second false p q main e = e

first : (b p q : Bool) → b ≡ true → cond b p q ≡ true → p ≡ true
first true p q alias e = e
first false p q alias e = absurd cc

owner_is : (o : Option ℕ) (i : ℕ) → option_map_or (λ j. eqb j i) o false ≡ true → o ≡ Some i
owner_is None i e = absurd cc
owner_is (Some j) i e = ap (λ (n : ℕ). Some n) (eqb-true j i e)

owner_some : (o : Option ℕ) (p : ℕ → Bool) → option_map_or p o false ≡ true → (j : ℕ) × (o ≡ Some j)
owner_some None p e = absurd cc
owner_some (Some j) p e = (j, refl)

-- a main entry begins where a member may, and no other does
main_rule : (d : Listing) (ends : List ℕ) (i : ℕ) (x : Listed) → x.entry.alias ≡ false → keeps_rules d ends i x ≡ true
    → (may_begin ends x.first ≡ true) × (owner_of d.entries x.first ≡ Some i)
unfolding keeps_rules
main_rule d ends i x main keeps =
    let e = second x.entry.alias (option_map_or (names_owner d.head.kind d.entries x) (owner_of d.entries x.first) false) (may_begin ends x.first && option_map_or (λ j. eqb j i) (owner_of d.entries x.first) false) main keeps in
    let two = both_true (may_begin ends x.first) (option_map_or (λ j. eqb j i) (owner_of d.entries x.first) false) e in
    (two.0, owner_is (owner_of d.entries x.first) i two.1)

-- an alias has a main entry
alias_rule : (d : Listing) (ends : List ℕ) (i : ℕ) (x : Listed) → x.entry.alias ≡ true → keeps_rules d ends i x ≡ true → (j : ℕ) × (owner_of d.entries x.first ≡ Some j)
unfolding keeps_rules
alias_rule d ends i x alias keeps =
    owner_some (owner_of d.entries x.first) (names_owner d.head.kind d.entries x)
    (first x.entry.alias (option_map_or (names_owner d.head.kind d.entries x) (owner_of d.entries x.first) false) (may_begin ends x.first && option_map_or (λ j. eqb j i) (owner_of d.entries x.first) false) alias keeps)

-- ---- the main entry of a member

record Owner (xs : List Listed) (j t : ℕ) : Type 0 where
  item : Listed
  there : slice_get xs j ≡ Some item
  main : item.entry.alias ≡ false
  begins : item.first ≡ t

is_not : (b : Bool) → not b ≡ true → b ≡ false
is_not true e = absurd cc
is_not false e = refl

begins_is : (t : ℕ) (x : Listed) → begins_at t x ≡ true → (x.entry.alias ≡ false) × (x.first ≡ t)
begins_is t x e =
    let two = both_true (not x.entry.alias) (eqb x.first t) e in
    (is_not x.entry.alias two.0, eqb-true x.first t two.1)

owner_case : (i j t : ℕ) (x : Listed) (xs : List Listed) (b : Bool) → b ≡ begins_at t x → cond b (Some i) (owner_from (i + 1) xs t) ≡ Some j
    → (owner_from (i + 1) xs t ≡ Some j → Owner xs (j - (i + 1)) t) → Owner (x ∷ xs) (j - i) t
owner_case i j t x xs true begins owned more =
    let same : i ≡ j = cc in
    let n : j - i ≡ 0 = omega (arith, same) in
    let two = begins_is t x (sym begins) in
    record { item = x; there = rw n refl; main = two.0; begins = two.1 }
owner_case i j t x xs false begins owned more =
    let low = owner_low (i + 1) j t xs owned in
    let n : j - i ≡ suc (j - (i + 1)) = omega (arith, low) in
    let o = more owned in
    record { item = o.item; there = rw n o.there; main = o.main; begins = o.begins }

owner_at : (i j t : ℕ) (xs : List Listed) → owner_from i xs t ≡ Some j → Owner xs (j - i) t
unfolding owner_from
owner_at i j t [] owned = absurd cc
owner_at i j t (x ∷ xs) owned = owner_case i j t x xs (begins_at t x) refl owned (owner_at (i + 1) j t xs)

owner_found : (xs : List Listed) (j t : ℕ) → owner_of xs t ≡ Some j → Owner xs j t
owner_found xs j t owned =
    let n : j - 0 ≡ j = omega arith in
    subst (λ (j : ℕ). Owner xs j t) n (owner_at 0 j t xs owned)

-- ---- what was read

-- an image without a fault
record Reading (image : List ℕ) (d : Listing) (places : List Span) : Type 0 where
  listing : IsListing image d
  places_are : ArePlaces d.head image d.head.records places
  kept : Kept d (ends_of places) 0 d.entries

abbrev made : List ℕ → Listing → List Span → Contents
made image d places = record { version = d.head.version; kind = d.head.kind; members = members_of image places d.entries }

all_get : (P : Listed → Type 0) (xs : List Listed) (k : ℕ) (x : Listed) → AllByRecursion P xs → slice_get xs k ≡ Some x → P x
all_get P [] k x all there = absurd cc
all_get P (y ∷ xs) zero x all there = let same : y ≡ x = cc in subst P same all.0
all_get P (y ∷ xs) (suc k) x all there = all_get P xs k x all.1 there

main_named : (xs : List Listed) (x : Listed) (j : ℕ) (y : Listed) → x.entry.alias ≡ true → owner_of xs x.first ≡ Some j → slice_get xs j ≡ Some y → main_of xs x ≡ y.entry.name
main_named xs x j y alias owned there = rw (alias, owned, there) refl

main_itself : (xs : List Listed) (x : Listed) → x.entry.alias ≡ false → main_of xs x ≡ x.entry.main
main_itself xs x main = rw main refl

alias_main : (image : List ℕ) (d : Listing) (places : List Span) → Reading image d places → (i : ℕ) (x : Listed) → slice_get d.entries i ≡ Some x → x.entry.alias ≡ true
    → HasMain true (made image d places) (member_of image places d.entries x) × (length (main_of d.entries x).0 ≡ 8)
alias_main image d places read i x there alias =
    let xs = d.entries in
    let n : 0 + i ≡ i = omega arith in
    let keeps : keeps_rules d (ends_of places) i x ≡ true = rw n at (kept_at d (ends_of places) 0 i xs x read.kept there) in
    let j = alias_rule d (ends_of places) i x alias keeps in
    let o = owner_found xs j.0 x.first j.1 in
    let name = main_named xs x j.0 o.item alias j.1 o.there in
    let here : find (λ (y : Listed). name_eq (listed_name y) (listed_name o.item)) xs ≡ Some o.item = find_at listed_name xs j.0 o.item read.listing.entries.ascending o.there in
    let found : find (λ (g : Held). name_eq g.entry.name (main_of xs x)) (members_of image places xs) ≡ Some (member_of image places xs o.item) =
    find-map (λ (g : Held). name_eq g.entry.name (main_of xs x)) (member_of image places xs) xs
    ∙ ap (λ (m : Name). option_map (member_of image places xs) (find (λ (y : Listed). name_eq y.entry.name m) xs)) name
    ∙ ap (option_map (member_of image places xs)) here in
    let long = (all_get (IsListed d.head image) xs j.0 o.item read.listing.entries.all o.there).name in (
      (member_of image places xs o.item, found, o.main, ap (λ (t : ℕ). map (part image) (places_from places t)) (sym o.begins)),
      ap (λ (m : Name). length m.0) name ∙ long,
    )

plain_main : (image : List ℕ) (d : Listing) (places : List Span) (x : Listed) → IsListed d.head image x → x.entry.alias ≡ false
    → HasMain false (made image d places) (member_of image places d.entries x) × (length (main_of d.entries x).0 ≡ 8)
plain_main image d places x listed main =
    let name = main_itself d.entries x main in
    (name ∙ listed.own main, ap (λ (m : Name). length m.0) name ∙ listed.main_name)

has_main : (image : List ℕ) (d : Listing) (places : List Span) → Reading image d places → (i : ℕ) (x : Listed) → slice_get d.entries i ≡ Some x → IsListed d.head image x
    → (b : Bool) → x.entry.alias ≡ b → HasMain b (made image d places) (member_of image places d.entries x) × (length (main_of d.entries x).0 ≡ 8)
has_main image d places read i x there listed true alias = alias_main image d places read i x there alias
has_main image d places read i x there listed false alias = plain_main image d places x listed alias

with_main : (kind : LibKind) (e : Entry) (m : Name) (user : List ℕ) → HasData kind e user → HasData kind (record e { main = m }) user
with_main Cards e m user has = has
with_main Modules e m user has = has

is_held : (image : List ℕ) (d : Listing) (places : List Span) → Reading image d places → (i : ℕ) (x : Listed) → slice_get d.entries i ≡ Some x
    → IsHeld (made image d places) (member_of image places d.entries x)
is_held image d places read i x there =
    let listed = all_get (IsListed d.head image) d.entries i x read.listing.entries.all there in
    let main = has_main image d places read i x there listed x.entry.alias refl in
    record {
      name = listed.name;
      main_name = main.1;
      not_last = listed.not_last;
      user = with_main d.head.kind x.entry (main_of d.entries x) (part image x.user_data) listed.user;
      main = main.0;
      records = member_records (made image d places) d.head image places (x.first - 1) refl refl read.places_are.all;
    }

held_from : (image : List ℕ) (d : Listing) (places : List Span) (i : ℕ) (xs : List Listed)
    → ((k : ℕ) (x : Listed) → slice_get xs k ≡ Some x → IsHeld (made image d places) (member_of image places d.entries x))
    → AllByRecursion (IsHeld (made image d places)) (map (member_of image places d.entries) xs)
held_from image d places i [] each = tt
held_from image d places i (x ∷ xs) each = (each 0 x refl, held_from image d places (i + 1) xs (λ k y there. each (suc k) y there))

-- ---- how many records

count_is : (image : List ℕ) (places : List Span) (all : List Listed) (x : Listed) (b : Bool) → x.entry.alias ≡ b → entry_count (member_of image places all x) ≡ weight places x
count_is image places all x true alias = rw alias refl
count_is image places all x false alias =
    let run = drop (x.first - 1) places in
    let l : length (map (part image) (take (run_length run) run)) ≡ run_length run = length-map (take (run_length run) run) (part image) ∙ run_long run in
    rw (alias, l) refl

counts_are : (image : List ℕ) (places : List Span) (all xs : List Listed) → record_count (map (member_of image places all) xs) ≡ weights places xs
counts_are image places all [] = refl
counts_are image places all (x ∷ xs) =
    let one = count_is image places all x x.entry.alias refl in
    let sum = sum_by-cons entry_count (member_of image places all x) (map (member_of image places all) xs) in
    let rest = counts_are image places all xs in
    omega (arith, one, sum, rest)

among : (d : Listing) (image : List ℕ) (places : List Span) (xs : List Listed) → length places ≡ d.head.records → AllByRecursion (IsListed d.head image) xs
    → AllByRecursion (IsAmong places) xs
among d image places [] long all = tt
among d image places (x ∷ xs) long all =
    let high = all.0.most in
    ((all.0.least, omega (arith, high, long)), among d image places xs long all.1)

-- no two members begin with one record
one_begins : (image : List ℕ) (d : Listing) (places : List Span) → Reading image d places → (t : ℕ) → count t d.entries ≤ 1
one_begins image d places read t =
    lone t 0 d.entries (λ i x there begins.
    let two = begins_is t x begins in
    let rule = main_rule d (ends_of places) (0 + i) x two.0 (kept_at d (ends_of places) 0 i d.entries x read.kept there) in
    ap (owner_of d.entries) (sym two.1) ∙ rule.1)

begin_case : (p : ℕ) (b c : Bool) → eqb (suc (suc p)) 1 ≡ b → (b || c) ≡ true → c ≡ true
begin_case p true c is e = let other : eqb (suc (suc p)) 1 ≡ false = grind (arith, nat_tests) in let bad : true ≡ false = sym is ∙ other in absurd cc
begin_case p false c is e = e

-- none begins behind a record that does not end a member
none_behind : (image : List ℕ) (d : Listing) (places : List Span) → Reading image d places → (p : ℕ) (s : Span) → slice_get places p ≡ Some s → eqb s.len 0 ≡ false
    → count (suc (suc p)) d.entries ≡ 0
none_behind image d places read p s here some =
    count_none (suc (suc p)) d.entries (λ i x there. refuted (begins_at (suc (suc p)) x) (λ begins.
    let two = begins_is (suc (suc p)) x begins in
    let rule = main_rule d (ends_of places) (0 + i) x two.0 (kept_at d (ends_of places) 0 i d.entries x read.kept there) in
    let may : may_begin (ends_of places) (suc (suc p)) ≡ true = ap (may_begin (ends_of places)) (sym two.1) ∙ rule.0 in
    let ended : list_any (λ e. eqb e (suc (suc p) - 1)) (ends_of places) ≡ true = begin_case p (eqb (suc (suc p)) 1) _ refl may in
    let n : suc (suc p) - 1 ≡ 1 + p = omega arith in
    let end = sym (end_is 1 p places s here) ∙ ap (λ (k : ℕ). list_any (λ e. eqb e k) (ends_of places)) (sym n) ∙ ended in
    let bad : false ≡ true = sym some ∙ end in
    cc))

few_records : (image : List ℕ) (d : Listing) (places : List Span) → Reading image d places → record_count (members_of image places d.entries) ≤ 16777215
few_records image d places read =
    let counts = counts_are image places d.entries d.entries in
    let sum = weights_total places d.entries (among d image places d.entries read.places_are.count read.listing.entries.all) in
    let most = few_in (λ p. count (suc p) d.entries) places (λ p. one_begins image d places read (suc p)) (none_behind image d places read) read.places_are.last in
    let long = read.places_are.count in
    let few = read.listing.head.few in
    omega (arith, counts, sum, most, long, few)

-- ---- the whole

made_sound : (image : List ℕ) (d : Listing) (places : List Span) → Reading image d places → IsSound (made image d places)
made_sound image d places read = record {
  ascending = ascends-map held_name (member_of image places d.entries) d.entries ∙ read.listing.entries.ascending;
  members = held_from image d places 0 d.entries (is_held image d places read);
  few = few_records image d places read;
}

pub read_sound : (image : List ℕ) (lib : Contents) → AreBytes image → library_of image ≡ Ok lib → IsSound lib
unfolding library_of
read_sound image lib bytes e =
    let a = bind_ok (listing_of image) _ lib e in
    let d = a.0 in
    let b = bind_ok (records_of d.head image) _ lib a.2 in
    let places = b.0 in
    let c = bind_ok (rules_of d (ends_of places)) _ lib b.2 in
    let read : Reading image d places = record {
      listing = listing_holds image d bytes a.1;
      places_are = places_hold d.head image places bytes b.1;
      kept = all_kept d (ends_of places) 0 d.entries c.1;
    } in
    let same : made image d places ≡ lib = let found = c.2 in cc in
    subst IsSound same (made_sound image d places read)
