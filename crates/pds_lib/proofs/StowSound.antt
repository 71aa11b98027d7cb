-- A library stays sound when a member is stowed.
use Rattle.std.proofs.Common.{◌≡◌, ℕ, ◌≤◌, ◌<◌, ◌^◌, Bool, true, false, cond, not, ◌&&◌, ◌||◌, ltb, List, [], ◌∷◌, ◌++◌, length, take, drop, map, Option, Some, None, Result, Ok, Err, refl, sym, ap, ◌∙◌, subst, arith, inl, inr, ◌⊎◌}
use Rattle.std.specs.Prelude.{find, filter, insert}
use Rattle.std.specs.Option.{option_or}
use Rattle.std.specs.List.{list_any, AllByRecursion}
use Rattle.std.specs.Str.{bytes_eq}
use Rattle.std.proofs.lemmas.Bool.{ltb-false}
use Rattle.std.proofs.lemmas.Slice.Eq.{bytes_eq-Decides}
use Rattle.std.proofs.lemmas.List.{take-append-drop}
use Rattle.std.proofs.lemmas.List.Folds.{find-append}
use Rattle.le_bytes.specs.declared.name.Name.{Name}
use Rattle.le_bytes.specs.Names.{name_eq}
use Rattle.pds_directory.specs.declared.kinds.LibKind.{LibKind}
use Rattle.pds_directory.specs.declared.kinds.LibKind.TheVariants.{Modules}
use Rattle.pds_directory.specs.declared.kinds.Version.{Version}
use Rattle.pds_directory.specs.declared.kinds.Version.TheVariants.{One, Two}
use Rattle.pds_directory.specs.declared.entry.Entry.{Entry}
use Rattle.pds_lib.specs.declared.member.AliasAt.{AliasAt}
use Rattle.pds_lib.specs.declared.member.Member.{Member}
use Rattle.pds_lib.specs.declared.member.StowFault.{StowFault}
use Rattle.pds_lib.specs.declared.member.StowFault.TheVariants.{Exists, TooManyRecords}
use Rattle.pds_directory.specs.Order.{ascends, place_of}
use Rattle.pds_directory.specs.Places.{width, has_length}
use Rattle.pds_directory.specs.Directory.{last_name as last_bytes}
use Rattle.pds_lib.specs.Contents.{Held, held_name, Contents, record_count}
use Rattle.pds_lib.specs.Sound.{IsRecord, HasData, HasMain, IsHeld, IsSound}
use Rattle.pds_lib.specs.Stow.{is_named, stays, main_entry, alias_entry, entries_for, HasWidths, has_name, put_in, put_all, held_for, counted, kept, stowed, last_name, MayStow}
use Rattle.pds_lib.proofs.StowLaws.{left_ascends}
use Rattle.pds_lib.proofs.Stowing.{ascends_put}
use Rattle.pds_lib.proofs.ReadEntries.{neither}
use Rattle.pds_lib.proofs.ReadSound.{same_name}

-- ---- what was put in

-- of the entries that go in, the first goes in, and the others then
record OneIn (records : List (List ℕ)) (hs out : List Held) (e : Entry) (es : List Entry) : Type 0 where
  fresh : has_name held_name hs e.name ≡ false
  rest : put_all held_name (held_for records) (put_in held_name hs (held_for records e)) es ≡ Ok out

fresh_case : (b : Bool) (n : Name) (r : Result (List Held) StowFault) (out : List Held) → cond b (Err (Exists n)) r ≡ Ok out → (b ≡ false) × (r ≡ Ok out)
fresh_case true n r out e = absurd cc
fresh_case false n r out e = (refl, e)

one_in : (records : List (List ℕ)) (hs out : List Held) (e : Entry) (es : List Entry) → put_all held_name (held_for records) hs (e ∷ es) ≡ Ok out → OneIn records hs out e es
unfolding put_all
one_in records hs out e es put =
    let two = fresh_case (has_name held_name hs e.name) e.name (put_all held_name (held_for records) (put_in held_name hs (held_for records e)) es) out put in
    record { fresh = two.0; rest = two.1 }

none_in : (records : List (List ℕ)) (hs out : List Held) → put_all held_name (held_for records) hs [] ≡ Ok out → hs ≡ out
unfolding put_all
none_in records hs out put = cc

put_ascends : (records : List (List ℕ)) (hs out : List Held) (es : List Entry) → ascends held_name hs ≡ true → put_all held_name (held_for records) hs es ≡ Ok out → ascends held_name out ≡ true
put_ascends records hs out [] up put = subst (λ (hs : List Held). ascends held_name hs ≡ true) (none_in records hs out put) up
put_ascends records hs out (e ∷ es) up put =
    let one = one_in records hs out e es put in
    put_ascends records (put_in held_name hs (held_for records e)) out es (ascends_put held_name hs (held_for records e) up one.fresh) one.rest

all_append : (P : Held → Type 0) (xs ys : List Held) → AllByRecursion P xs → AllByRecursion P ys → AllByRecursion P (xs ++ ys)
all_append P [] ys a b = b
all_append P (x ∷ xs) ys a b = (a.0, all_append P xs ys a.1 b)

all_front : (P : Held → Type 0) (xs ys : List Held) → AllByRecursion P (xs ++ ys) → AllByRecursion P xs × AllByRecursion P ys
all_front P [] ys all = (tt, all)
all_front P (x ∷ xs) ys all = let two = all_front P xs ys all.1 in ((all.0, two.0), two.1)

all_inserted : (P : Held → Type 0) (xs : List Held) (k : ℕ) (x : Held) → AllByRecursion P xs → P x → AllByRecursion P (insert xs k x)
all_inserted P xs k x all one =
    let two = all_front P (take k xs) (drop k xs) (subst (λ (hs : List Held). AllByRecursion P hs) (sym (take-append-drop k xs)) all) in
    all_append P (take k xs) (x ∷ drop k xs) two.0 (one, two.1)

put_holds : (P : Held → Type 0) (records : List (List ℕ)) (hs out : List Held) (es : List Entry) → AllByRecursion P hs → AllByRecursion (λ (e : Entry). P (held_for records e)) es
    → put_all held_name (held_for records) hs es ≡ Ok out → AllByRecursion P out
put_holds P records hs out [] all each put = subst (λ (hs : List Held). AllByRecursion P hs) (none_in records hs out put) all
put_holds P records hs out (e ∷ es) all each put =
    let one = one_in records hs out e es put in
    put_holds P records (put_in held_name hs (held_for records e)) out es
    (all_inserted P hs (place_of held_name hs e.name) (held_for records e) all each.0) each.1 one.rest

-- ---- an entry that is found by its name still is

abbrev pub named : Name → Held → Bool
named n h = name_eq h.entry.name n

name_from : (m n : Name) → name_eq m n ≡ true → m ≡ n
name_from m n e = ap (λ (bs : List ℕ). record { 0 = bs }) ((bytes_eq-Decides m.0 n.0).0 e)

turned : (m n : Name) (b : Bool) → name_eq n m ≡ b → name_eq m n ≡ false → b ≡ false
turned m n true same other =
    let e : name_eq m n ≡ true = ap (name_eq m) (name_from n m same) ∙ same_name m in
    let bad : true ≡ false = sym e ∙ other in
    absurd cc
turned m n false same other = refl

found_case : (n : Name) (g : Held) (hs : List Held) (h : Held) (b : Bool) → named n g ≡ b → cond b (Some g) (find (named n) hs) ≡ Some h → (find (named n) hs ≡ Some h → named n h ≡ true) → named n h ≡ true
found_case n g hs h true is there more = let same : g ≡ h = cc in subst (λ (h : Held). named n h ≡ true) same is
found_case n g hs h false is there more = more there

found_named : (n : Name) (hs : List Held) (h : Held) → find (named n) hs ≡ Some h → named n h ≡ true
found_named n [] h there = absurd cc
found_named n (g ∷ hs) h there = found_case n g hs h (named n g) refl there (found_named n hs h)

other_case : (n : Name) (q : Held → Bool) (g : Held) (hs : List Held) (h : Held) (b : Bool) → cond b (Some g) (find (named n) hs) ≡ Some h → (q g || list_any q hs) ≡ false
    → (find (named n) hs ≡ Some h → list_any q hs ≡ false → q h ≡ false) → q h ≡ false
other_case n q g hs h true there none more = let same : g ≡ h = cc in subst (λ (h : Held). q h ≡ false) same (neither (q g) (list_any q hs) none).0
other_case n q g hs h false there none more = more there (neither (q g) (list_any q hs) none).1

found_other : (n : Name) (q : Held → Bool) (hs : List Held) (h : Held) → find (named n) hs ≡ Some h → list_any q hs ≡ false → q h ≡ false
found_other n q [] h there none = absurd cc
found_other n q (g ∷ hs) h there none = other_case n q g hs h (named n g) there none (found_other n q hs h)

find_inserted : (p : Held → Bool) (hs : List Held) (k : ℕ) (x : Held) → p x ≡ false → find p (insert hs k x) ≡ find p hs
find_inserted p hs k x other =
    let one : find p (x ∷ drop k hs) ≡ find p (drop k hs) = rw other refl in
    find-append p (take k hs) (x ∷ drop k hs) ∙ ap (option_or (find p (take k hs))) one
    ∙ sym (find-append p (take k hs) (drop k hs)) ∙ ap (find p) (take-append-drop k hs)

put_finds : (n : Name) (h : Held) (records : List (List ℕ)) (hs out : List Held) (es : List Entry) → find (named n) hs ≡ Some h
    → put_all held_name (held_for records) hs es ≡ Ok out → find (named n) out ≡ Some h
put_finds n h records hs out [] there put = ap (find (named n)) (sym (none_in records hs out put)) ∙ there
put_finds n h records hs out (e ∷ es) there put =
    let one = one_in records hs out e es put in
    let name : h.entry.name ≡ n = name_from h.entry.name n (found_named n hs h there) in
    let far : name_eq h.entry.name e.name ≡ false = found_other n (named e.name) hs h there one.fresh in
    let other : name_eq e.name n ≡ false = turned n e.name (name_eq e.name n) refl (ap (λ (m : Name). name_eq m e.name) (sym name) ∙ far) in
    put_finds n h records (put_in held_name hs (held_for records e)) out es
    (find_inserted (named n) hs (place_of held_name hs e.name) (held_for records e) other ∙ there) one.rest

no_case : (p : Held → Bool) (x : Held) (o : Option Held) (b : Bool) (more : Bool) → (b || more) ≡ false → (more ≡ false → o ≡ None) → cond b (Some x) o ≡ None
no_case p x o true more none rest = absurd cc
no_case p x o false more none rest = rest none

not_found : (p : Held → Bool) (hs : List Held) → list_any p hs ≡ false → find p hs ≡ None
not_found p [] none = refl
not_found p (h ∷ hs) none = no_case p h (find p hs) (p h) (list_any p hs) none (not_found p hs)

any_front : (p : Held → Bool) (xs ys : List Held) → list_any p (xs ++ ys) ≡ false → list_any p xs ≡ false
any_front p [] ys none = refl
any_front p (x ∷ xs) ys none =
    let two = neither (p x) (list_any p (xs ++ ys)) none in
    rw (two.0, any_front p xs ys two.1) refl

-- one that is new is found
finds_new : (hs : List Held) (k : ℕ) (x : Held) → list_any (named x.entry.name) hs ≡ false → find (named x.entry.name) (insert hs k x) ≡ Some x
finds_new hs k x none =
    let p = named x.entry.name in
    let front : find p (take k hs) ≡ None = not_found p (take k hs) (any_front p (take k hs) (drop k hs) (ap (list_any p) (take-append-drop k hs) ∙ none)) in
    find-append p (take k hs) (x ∷ drop k hs) ∙ rw (front, same_name x.entry.name) refl

kept_case : (p q : Held → Bool) (g : Held) (hs : List Held) (h : Held) (b c : Bool) → q g ≡ c → cond b (Some g) (find p hs) ≡ Some h → q h ≡ true → p g ≡ b
    → (find p hs ≡ Some h → find p (filter q hs) ≡ Some h) → find p (cond c (g ∷ filter q hs) (filter q hs)) ≡ Some h
kept_case p q g hs h true true is there stay pg more = rw pg there
kept_case p q g hs h true false is there stay pg more =
    let same : g ≡ h = cc in
    let bad : false ≡ true = sym is ∙ ap q same ∙ stay in
    absurd cc
kept_case p q g hs h false true is there stay pg more = rw pg (more there)
kept_case p q g hs h false false is there stay pg more = more there

-- one that stays is found among what stays
finds_kept : (p q : Held → Bool) (hs : List Held) (h : Held) → find p hs ≡ Some h → q h ≡ true → find p (filter q hs) ≡ Some h
finds_kept p q [] h there stay = absurd cc
finds_kept p q (g ∷ hs) h there stay = kept_case p q g hs h (p g) (q g) refl there stay refl (λ again. finds_kept p q hs h again stay)

-- ---- what stays has its main entry

all_step : (P : Held → Type 0) (n : Name) (g : Held) (hs : List Held) (h : Held) (b : Bool) → AllByRecursion P (g ∷ hs) → cond b (Some g) (find (named n) hs) ≡ Some h → (find (named n) hs ≡ Some h → P h) → P h
all_step P n g hs h true all there more = let same : g ≡ h = cc in subst P same all.0
all_step P n g hs h false all there more = more there

pub all_found : (P : Held → Type 0) (n : Name) (hs : List Held) (h : Held) → AllByRecursion P hs → find (named n) hs ≡ Some h → P h
all_found P n [] h all there = absurd cc
all_found P n (g ∷ hs) h all there = all_step P n g hs h (named n g) all there (all_found P n hs h all.1)

main_stays_case : (replace by_main others : Bool) → not (replace && (by_main || others)) ≡ true → (replace ≡ false) ⊎ (by_main ≡ false)
main_stays_case true true others stay = absurd cc
main_stays_case true false others stay = inr refl
main_stays_case false by_main others stay = inl refl

plain_case : (replace alias named by_main : Bool) → alias ≡ false → by_main ≡ false → not (replace && (by_main || (alias && named))) ≡ true
plain_case replace true named by_main plain other = absurd cc
plain_case true false named true plain other = absurd cc
plain_case true false named false plain other = refl
plain_case false false named by_main plain other = refl

plain_stays : (m : Member) (replace : Bool) (e : Entry) → e.alias ≡ false → (replace ≡ false) ⊎ (name_eq e.main m.name ≡ false) → stays m replace e ≡ true
plain_stays m replace e plain why =
    elim why [
      | inl off ↦ rw off refl
      | inr other ↦ plain_case replace e.alias (is_named m e.name) (name_eq e.main m.name) plain other
    ]

own : (b : Bool) (lib : Contents) (h : Held) → b ≡ false → HasMain b lib h → h.entry.main ≡ h.entry.name
own true lib h plain has = absurd cc
own false lib h plain has = has

abbrev with_members : Contents → List Held → Contents
with_members lib hs = record lib { members = hs }

main_kept : (b : Bool) (lib : Contents) (m : Member) (replace : Bool) (out : List Held) (h : Held) → IsSound lib
    → put_all held_name (held_for m.records) (kept lib m replace) (entries_for m) ≡ Ok out
    → stays m replace h.entry ≡ true → HasMain b lib h → HasMain b (with_members lib out) h
main_kept false lib m replace out h sound put stay has = has
main_kept true lib m replace out h sound put stay has =
    let g = has.0 in
    let held : IsHeld lib g = all_found (IsHeld lib) h.entry.main lib.members g sound.members has.1 in
    let name : g.entry.name ≡ h.entry.main = name_from g.entry.name h.entry.main (found_named h.entry.main lib.members g has.1) in
    let main : g.entry.main ≡ h.entry.main = own g.entry.alias lib g has.2 held.main ∙ name in
    let why = main_stays_case replace (name_eq h.entry.main m.name) (h.entry.alias && is_named m h.entry.name) stay in
    let why2 : (replace ≡ false) ⊎ (name_eq g.entry.main m.name ≡ false) = elim why [
      | inl off ↦ inl off
      | inr other ↦ inr (ap (λ (n : Name). name_eq n m.name) main ∙ other)
    ] in
    let still : stays m replace g.entry ≡ true = plain_stays m replace g.entry has.2 why2 in
    let there = finds_kept (named h.entry.main) (λ (x : Held). stays m replace x.entry) lib.members g has.1 still in
    (g, put_finds h.entry.main g m.records (kept lib m replace) out (entries_for m) there put, has.2, has.3)

kept_held : (lib : Contents) (m : Member) (replace : Bool) (out : List Held) (h : Held) → IsSound lib
    → put_all held_name (held_for m.records) (kept lib m replace) (entries_for m) ≡ Ok out
    → stays m replace h.entry ≡ true → IsHeld lib h → IsHeld (with_members lib out) h
kept_held lib m replace out h sound put stay held = record {
  name = held.name;
  main_name = held.main_name;
  not_last = held.not_last;
  user = held.user;
  main = main_kept h.entry.alias lib m replace out h sound put stay held.main;
  records = held.records;
}

stays_case : (P Q : Held → Type 0) (q : Held → Bool) (h : Held) (hs : List Held) (b : Bool) → q h ≡ b → ((x : Held) → q x ≡ true → P x → Q x) → P h
    → AllByRecursion Q (filter q hs) → AllByRecursion Q (cond b (h ∷ filter q hs) (filter q hs))
stays_case P Q q h hs true is each one rest = (each h is one, rest)
stays_case P Q q h hs false is each one rest = rest

all_stay : (P Q : Held → Type 0) (q : Held → Bool) (hs : List Held) → ((x : Held) → q x ≡ true → P x → Q x) → AllByRecursion P hs → AllByRecursion Q (filter q hs)
all_stay P Q q [] each all = tt
all_stay P Q q (h ∷ hs) each all = stays_case P Q q h hs (q h) refl each all.0 (all_stay P Q q hs each all.1)

-- ---- what is new

fits_width : (v : Version) (n : ℕ) → n < 2 ^ 16 → n < 256 ^ width v
fits_width One n lt = omega (arith, lt)
fits_width Two n lt = omega (arith, lt)

new_records : (lib : Contents) (out : List Held) (rs : List (List ℕ)) → lib.kind ≡ Modules → AllByRecursion (λ (r : List ℕ). (0 < length r) × (length r < 2 ^ 16)) rs
    → AllByRecursion (IsRecord (with_members lib out)) rs
new_records lib out [] kind all = tt
new_records lib out (r ∷ rs) kind all =
    let has : has_length lib.kind (length r) ≡ true = rw kind refl in
    ((all.0.0, fits_width lib.version (length r) all.0.1, has), new_records lib out rs kind all.1)

other_name : (n : Name) (b : Bool) → bytes_eq n.0 last_bytes ≡ b → name_eq last_name n ≡ false → b ≡ false
other_name n true is other =
    let e : name_eq n last_name ≡ true = is in
    turned last_name n true e other
other_name n false is other = refl

new_held : (lib : Contents) (m : Member) (out : List Held) (e : Entry) → MayStow lib m → HasWidths e → e.length < 2 ^ 24 → e.entry < 2 ^ 24 → name_eq last_name e.name ≡ false
    → HasMain e.alias (with_members lib out) (held_for m.records e) → IsHeld (with_members lib out) (held_for m.records e)
new_held lib m out e may widths len entry other main = record {
  name = widths.0;
  main_name = widths.1;
  not_last = other_name e.name (bytes_eq e.name.0 last_bytes) refl other;
  user = subst (λ (kind : LibKind). HasData kind e []) (sym may.kind) (len, entry, widths.2, refl);
  main = main;
  records = new_records lib out m.records may.kind may.records;
}

new_aliases : (lib : Contents) (m : Member) (out : List Held) (others : List AliasAt) → MayStow lib m → AllByRecursion HasWidths (map (alias_entry m) others)
    → AllByRecursion (λ (a : AliasAt). a.entry < 2 ^ 24) others → list_any (λ (a : AliasAt). name_eq last_name a.name) others ≡ false
    → find (named m.name) out ≡ Some (held_for m.records (main_entry m))
    → AllByRecursion (λ (e : Entry). IsHeld (with_members lib out) (held_for m.records e)) (map (alias_entry m) others)
new_aliases lib m out [] may widths entries last there = tt
new_aliases lib m out (a ∷ others) may widths entries last there =
    let two = neither (name_eq last_name a.name) (list_any (λ (a : AliasAt). name_eq last_name a.name) others) last in
    (new_held lib m out (alias_entry m a) may widths.0 may.length entries.0 two.0 (held_for m.records (main_entry m), there, refl, refl), new_aliases lib m out others may widths.1 entries.1 two.1 there)

main_found : (m : Member) (hs out : List Held) → put_all held_name (held_for m.records) hs (entries_for m) ≡ Ok out
    → find (named m.name) out ≡ Some (held_for m.records (main_entry m))
main_found m hs out put =
    let one = one_in m.records hs out (main_entry m) (map (alias_entry m) m.aliases) put in
    put_finds m.name (held_for m.records (main_entry m)) m.records (put_in held_name hs (held_for m.records (main_entry m))) out (map (alias_entry m) m.aliases)
    (finds_new hs (place_of held_name hs m.name) (held_for m.records (main_entry m)) one.fresh) one.rest

new_entries : (lib : Contents) (m : Member) (hs out : List Held) → MayStow lib m → AllByRecursion HasWidths (entries_for m) → put_all held_name (held_for m.records) hs (entries_for m) ≡ Ok out
    → AllByRecursion (λ (e : Entry). IsHeld (with_members lib out) (held_for m.records e)) (entries_for m)
new_entries lib m hs out may widths put =
    let two = neither (name_eq last_name m.name) (list_any (λ (a : AliasAt). name_eq last_name a.name) m.aliases) may.not_last in
    (new_held lib m out (main_entry m) may widths.0 may.length may.entry two.0 refl, new_aliases lib m out m.aliases may widths.1 may.entries two.1 (main_found m hs out put))

-- ---- the whole

record Counted (lib : Contents) (read : Result (List Held) StowFault) (new : Contents) : Type 0 where
  out : List Held
  put : read ≡ Ok out
  few : record_count out ≤ 16777215
  is : with_members lib out ≡ new

counted_case : (lib : Contents) (hs : List Held) (new : Contents) (b : Bool) → ltb 16777215 (record_count hs) ≡ b
    → cond b (Err (TooManyRecords (record_count hs))) (Ok (with_members lib hs)) ≡ Ok new → Counted lib (Ok hs) new
counted_case lib hs new true many e = absurd cc
counted_case lib hs new false many e = record { out = hs; put = refl; few = ltb-false 16777215 (record_count hs) many; is = cc }

counted_is : (lib : Contents) (read : Result (List Held) StowFault) (new : Contents) → counted lib read ≡ Ok new → Counted lib read new
counted_is lib (Err f) new e = absurd cc
counted_is lib (Ok hs) new e = counted_case lib hs new (ltb 16777215 (record_count hs)) refl e

pub stow_sound : (lib : Contents) (m : Member) (replace : Bool) (new : Contents) → IsSound lib → MayStow lib m → AllByRecursion HasWidths (entries_for m)
    → stowed lib m replace ≡ Ok new → IsSound new
stow_sound lib m replace new sound may widths e =
    let c = counted_is lib (put_all held_name (held_for m.records) (kept lib m replace) (entries_for m)) new e in
    let q = λ (h : Held). stays m replace h.entry in
    let put : put_all held_name (held_for m.records) (kept lib m replace) (entries_for m) ≡ Ok c.out = c.put in
    subst IsSound c.is
    (record {
      ascending = put_ascends m.records (kept lib m replace) c.out (entries_for m) (left_ascends held_name q lib.members sound.ascending) put;
      members = put_holds (IsHeld (with_members lib c.out)) m.records (kept lib m replace) c.out (entries_for m)
          (all_stay (IsHeld lib) (IsHeld (with_members lib c.out)) q lib.members (λ h stay held. kept_held lib m replace c.out h sound put stay held) sound.members)
          (new_entries lib m (kept lib m replace) c.out may widths put) put;
      few = c.few;
    })
