-- Where the members of a library begin.
use Rattle.std.proofs.Common.{◌≡◌, ℕ, ◌+◌, ◌≤◌, Bool, true, false, not, ◌&&◌, cond, eqb, List, [], ◌∷◌, ◌++◌, length, map, Option, Some, None, refl, sym, ap, ◌∙◌, subst, arith, length-append, append_assoc}
use Rattle.std.specs.Prelude.{find}
use Rattle.std.specs.Option.{option_map_or}
use Rattle.std.specs.List.{flat_map, AllByRecursion}
use Rattle.std.proofs.lemmas.Bool.Decides.{nat_tests}
use Rattle.std.proofs.lemmas.Slice.Eq.{bytes_eq-Decides}
use Rattle.std.proofs.lemmas.List.{append-nil}
use Rattle.std.proofs.lemmas.Grind.{flat_map-append}
use Rattle.std.proofs.lemmas.List.Sums.{sum_by-cons}
use Rattle.le_bytes.specs.declared.name.Name.{Name}
use Rattle.le_bytes.specs.Names.{name_eq}
use Rattle.pds_directory.specs.declared.entry.Entry.{Entry}
use Rattle.pds_directory.specs.Parts.{is_below}
use Rattle.pds_directory.specs.Order.{ascends, ascends_after}
use Rattle.pds_lib.specs.Contents.{Held, held_name, Contents, records_of, user_data_of}
use Rattle.pds_lib.proofs.Halving.{same_not_below, below_trans}
use Rattle.pds_image.specs.Spelling.{record_bytes}
use Rattle.pds_image.specs.Image.{added, records_in, first_from, first_record, body_bytes}
use Rattle.pds_image.proofs.Walking.{name_from}
use Rattle.pds_lib.specs.Sound.{IsHeld, HasMain, IsSound}

-- ---- a list taken apart

pub record Split (hs : List Held) (h : Held) : Type 0 where
  pub before : List Held
  pub behind : List Held
  pub is : hs ≡ before ++ h ∷ behind

pub all_at : (P : Held → Type 0) (pre : List Held) (h : Held) (post : List Held) → AllByRecursion P (pre ++ h ∷ post) → P h
all_at P [] h post all = all.0
all_at P (g ∷ pre) h post all = all_at P pre h post all.1

-- ---- names are apart

both : (a b : Bool) → (a && b) ≡ true → (a ≡ true) × (b ≡ true)
both true b e = (refl, e)
both false b e = absurd cc

after_below : (m : Name) (pre : List Held) (h : Held) (post : List Held) → ascends_after held_name m (pre ++ h ∷ post) ≡ true → is_below m h.entry.name ≡ true
after_below m [] h post up = (both (is_below m h.entry.name) (ascends_after held_name h.entry.name post) up).0
after_below m (g ∷ pre) h post up =
    let two = both (is_below m g.entry.name) (ascends_after held_name g.entry.name (pre ++ h ∷ post)) up in
    below_trans m g.entry.name h.entry.name two.0 (after_below g.entry.name pre h post two.1)

ascends_on : (m : Name) (hs : List Held) → ascends_after held_name m hs ≡ true → ascends held_name hs ≡ true
ascends_on m [] up = refl
ascends_on m (h ∷ hs) up = (both (is_below m h.entry.name) (ascends_after held_name h.entry.name hs) up).1

not_same : (m n : Name) (b : Bool) → name_eq m n ≡ b → is_below m n ≡ true → b ≡ false
not_same m n true same below = let e : false ≡ true = sym (same_not_below m n same) ∙ below in absurd cc
not_same m n false same below = refl

abbrev pub Apart : List Held → Held → Type 0
Apart pre h = AllByRecursion (λ (g : Held). name_eq g.entry.name h.entry.name ≡ false) pre

pub apart : (pre : List Held) (h : Held) (post : List Held) → ascends held_name (pre ++ h ∷ post) ≡ true → Apart pre h
apart [] h post up = tt
apart (g ∷ pre) h post up =
    (not_same g.entry.name h.entry.name (name_eq g.entry.name h.entry.name) refl (after_below g.entry.name pre h post up), apart pre h post (ascends_on g.entry.name (pre ++ h ∷ post) up))

pub same_name : (n : Name) → name_eq n n ≡ true
same_name n = (bytes_eq-Decides n.0 n.0).1 refl

find_self : (pre : List Held) (h : Held) (post : List Held) → Apart pre h → find (λ (g : Held). name_eq g.entry.name h.entry.name) (pre ++ h ∷ post) ≡ Some h
find_self [] h post far = rw (same_name h.entry.name) refl
find_self (g ∷ pre) h post far = rw far.0 (find_self pre h post far.1)

-- the entry that was found, in its place
pub record Found (n : Name) (hs : List Held) (m : Held) : Type 0 where
  pub split : Split hs m
  pub name : m.entry.name ≡ n

found_case : (n : Name) (g : Held) (hs : List Held) (m : Held) (b : Bool) → b ≡ name_eq g.entry.name n → cond b (Some g) (find (λ (x : Held). name_eq x.entry.name n) hs) ≡ Some m
    → (find (λ (x : Held). name_eq x.entry.name n) hs ≡ Some m → Found n hs m) → Found n (g ∷ hs) m
found_case n g hs m true same here next =
    let e : g ≡ m = cc in
    record { split = record { before = []; behind = hs; is = ap (λ (x : Held). x ∷ hs) e }; name = ap (λ (x : Held). x.entry.name) (sym e) ∙ name_from g.entry.name n (sym same) }
found_case n g hs m false same here next =
    let f = next here in
    record { split = record { before = g ∷ f.split.before; behind = f.split.behind; is = ap (λ (xs : List Held). g ∷ xs) f.split.is }; name = f.name }

pub found : (n : Name) (hs : List Held) (m : Held) → find (λ (x : Held). name_eq x.entry.name n) hs ≡ Some m → Found n hs m
found n [] m here = absurd cc
found n (g ∷ hs) m here = found_case n g hs m (name_eq g.entry.name n) refl here (found n hs m)

-- ---- what a library tells of its entries

pub record Told (lib : Contents) (h : Held) : Type 0 where
  pub records : records_of lib h.entry ≡ h.records
  pub user : user_data_of lib h.entry ≡ h.user_data

told_at : (lib : Contents) (pre : List Held) (h : Held) (post : List Held) → ascends held_name lib.members ≡ true → lib.members ≡ pre ++ h ∷ post → Told lib h
told_at lib pre h post up is =
    let here : find (λ (g : Held). name_eq g.entry.name h.entry.name) lib.members ≡ Some h = rw is (find_self pre h post (apart pre h post (rw is at up))) in
    record { records = ap (λ (o : Option Held). option_map_or (λ (g : Held). g.records) o []) here; user = ap (λ (o : Option Held). option_map_or (λ (g : Held). g.user_data) o []) here }

told_from : (lib : Contents) (pre hs : List Held) → ascends held_name lib.members ≡ true → lib.members ≡ pre ++ hs → AllByRecursion (Told lib) hs
told_from lib pre [] up is = tt
told_from lib pre (h ∷ hs) up is =
    (told_at lib pre h hs up is, told_from lib (pre ++ h ∷ []) hs up (is ∙ sym (append_assoc pre (h ∷ []) hs)))

pub all_told : (lib : Contents) → ascends held_name lib.members ≡ true → AllByRecursion (Told lib) lib.members
all_told lib up = told_from lib [] lib.members up refl

-- ---- the texts of all records

abbrev pub body_texts : Held → List (List ℕ)
body_texts h = cond h.entry.alias [] (h.records ++ [] ∷ [])

abbrev pub texts : List Held → List (List ℕ)
texts hs = flat_map body_texts hs

abbrev pub entries : List Held → List Entry
entries hs = map (λ (h : Held). h.entry) hs

body_spelled : (lib : Contents) (h : Held) (b : Bool) → b ≡ h.entry.alias → Told lib h → body_bytes lib h.entry ≡ flat_map (record_bytes lib.version) (body_texts h)
unfolding body_bytes
body_spelled lib h true is told = rw (← is) refl
body_spelled lib h false is told =
    rw (← is, told.records)
    (sym (flat_map-append (record_bytes lib.version) h.records ([] ∷ []) ∙ ap (λ (xs : List ℕ). flat_map (record_bytes lib.version) h.records ++ xs) (append-nil (record_bytes lib.version []))))

pub bodies_spelled : (lib : Contents) (hs : List Held) → AllByRecursion (Told lib) hs → flat_map (body_bytes lib) (entries hs) ≡ flat_map (record_bytes lib.version) (texts hs)
bodies_spelled lib [] told = refl
bodies_spelled lib (h ∷ hs) told =
    rw (body_spelled lib h h.entry.alias refl told.0, bodies_spelled lib hs told.1) (sym (flat_map-append (record_bytes lib.version) (body_texts h) (texts hs)))

added_is : (lib : Contents) (h : Held) (b : Bool) → b ≡ h.entry.alias → Told lib h → added lib h.entry ≡ length (body_texts h)
added_is lib h true is told = rw (← is) refl
added_is lib h false is told = let l = length-append h.records ([] ∷ []) in rw (← is, told.records) (omega (arith, l))

pub texts_count : (lib : Contents) (hs : List Held) → AllByRecursion (Told lib) hs → records_in lib (entries hs) ≡ length (texts hs)
texts_count lib [] told = refl
texts_count lib (h ∷ hs) told =
    let l : length (texts (h ∷ hs)) ≡ length (body_texts h) + length (texts hs) = length-append (body_texts h) (texts hs) in
    let ih = texts_count lib hs told.1 in
    let one = added_is lib h h.entry.alias refl told.0 in
    let sum = sum_by-cons (added lib) h.entry (entries hs) in
    omega (arith, l, ih, one, sum)

-- ---- first records

unfoldable pub start : List Held → ℕ
start pre = 1 + length (texts pre)

nothing : (b : Bool) → (b && false) ≡ false
nothing true = refl
nothing false = refl

first_of_main : (lib : Contents) (k : ℕ) (pre : List Held) (h : Held) (post : List Held) → AllByRecursion (Told lib) pre → Apart pre h → h.entry.alias ≡ false
    → first_from k lib (entries (pre ++ h ∷ post)) h.entry.name ≡ Some (k + length (texts pre))
unfolding first_from
first_of_main lib k [] h post told far main =
    let k_is : k + length (texts []) ≡ k = omega arith in
    rw (main, same_name h.entry.name, k_is) refl
first_of_main lib k (g ∷ pre) h post told far main =
    let a = added_is lib g g.entry.alias refl told.0 in
    let l : length (texts (g ∷ pre)) ≡ length (body_texts g) + length (texts pre) = length-append (body_texts g) (texts pre) in
    let k_is : k + length (texts (g ∷ pre)) ≡ k + added lib g.entry + length (texts pre) = omega (arith, a, l) in
    let other : (not g.entry.alias && name_eq g.entry.name h.entry.name) ≡ false = rw far.0 (nothing (not g.entry.alias)) in
    rw (other, k_is) (first_of_main lib (k + added lib g.entry) pre h post told.1 far.1 main)

told_front : (lib : Contents) (pre hs : List Held) → AllByRecursion (Told lib) (pre ++ hs) → AllByRecursion (Told lib) pre
told_front lib [] hs told = tt
told_front lib (g ∷ pre) hs told = (told.0, told_front lib pre hs told.1)

pub main_first : (lib : Contents) (pre : List Held) (h : Held) (post : List Held) → ascends held_name lib.members ≡ true → lib.members ≡ pre ++ h ∷ post → h.entry.alias ≡ false
    → first_record lib h.entry.name ≡ start pre
unfolding start
main_first lib pre h post up is main =
    let told : AllByRecursion (Told lib) (pre ++ h ∷ post) = subst (λ (hs : List Held). AllByRecursion (Told lib) hs) is (all_told lib up) in
    let f = first_of_main lib 1 pre h post (told_front lib pre (h ∷ post) told) (apart pre h post (rw is at up)) main in
    ap (λ (hs : List Held). option_map_or (λ k. k) (first_from 1 lib (entries hs) h.entry.name) 0) is ∙ ap (λ (o : Option ℕ). option_map_or (λ k. k) o 0) f

-- ---- the texts of a member, in their place

start_more : (pre : List Held) (h : Held) → start (pre ++ h ∷ []) ≡ start pre + length (body_texts h)
unfolding start
start_more pre h =
    let l : length (texts (pre ++ h ∷ [])) ≡ length (texts pre ++ (body_texts h ++ [])) = ap length (flat_map-append body_texts pre (h ∷ [])) in
    let a = length-append (texts pre) (body_texts h ++ []) in
    let b = length-append (body_texts h) [] in
    omega (arith, l, a, b)

pub texts_at : (pre : List Held) (m : Held) (post : List Held) → m.entry.alias ≡ false → texts (pre ++ m ∷ post) ≡ texts pre ++ (m.records ++ [] ∷ texts post)
texts_at pre m post main =
    let body : body_texts m ≡ m.records ++ [] ∷ [] = rw main refl in
    flat_map-append body_texts pre (m ∷ post) ∙ ap (λ (ts : List (List ℕ)). texts pre ++ (ts ++ texts post)) body
    ∙ ap (λ (ts : List (List ℕ)). texts pre ++ ts) (append_assoc m.records ([] ∷ []) (texts post))

-- ---- numbers of first records

abbrev pub Numbered : (Held → ℕ) → ℕ → List Held → Type 0
Numbered f k [] = Unit {0}
Numbered f k (h ∷ hs) = (h.entry.alias ≡ false → f h ≡ k) × Numbered f (k + length (body_texts h)) hs

abbrev pub first_of : Contents → Held → ℕ
first_of lib h = first_record lib h.entry.main

main_name : (lib : Contents) (h : Held) (b : Bool) → b ≡ h.entry.alias → HasMain b lib h → b ≡ false → h.entry.main ≡ h.entry.name
main_name lib h true is has main = absurd cc
main_name lib h false is has main = has

pub own_main : (lib : Contents) (h : Held) → IsHeld lib h → h.entry.alias ≡ false → h.entry.main ≡ h.entry.name
own_main lib h held main = main_name lib h h.entry.alias refl held.main main

pub held_at : (lib : Contents) (pre : List Held) (h : Held) (post : List Held) → lib.members ≡ pre ++ h ∷ post → IsSound lib → IsHeld lib h
held_at lib pre h post is sound = all_at (IsHeld lib) pre h post (subst (λ (hs : List Held). AllByRecursion (IsHeld lib) hs) is sound.members)

pub first_is : (lib : Contents) (pre : List Held) (h : Held) (post : List Held) → IsSound lib → lib.members ≡ pre ++ h ∷ post → h.entry.alias ≡ false → first_of lib h ≡ start pre
first_is lib pre h post sound is main =
    let held : IsHeld lib h = held_at lib pre h post is sound in
    ap (first_record lib) (own_main lib h held main) ∙ main_first lib pre h post sound.ascending is main

numbered_from : (lib : Contents) (pre hs : List Held) → IsSound lib → lib.members ≡ pre ++ hs → Numbered (first_of lib) (start pre) hs
numbered_from lib pre [] sound is = tt
numbered_from lib pre (h ∷ hs) sound is =
    (first_is lib pre h hs sound is, rw (← start_more pre h) (numbered_from lib (pre ++ h ∷ []) hs sound (is ∙ sym (append_assoc pre (h ∷ []) hs))))

pub numbered : (lib : Contents) → IsSound lib → Numbered (first_of lib) 1 lib.members
unfolding start
numbered lib sound = numbered_from lib [] lib.members sound refl

later : (f : Held → ℕ) (k : ℕ) (pre : List Held) (m : Held) (post : List Held) → Numbered f k (pre ++ m ∷ post) → m.entry.alias ≡ false → k ≤ f m
later f k [] m post num main = let e = num.0 main in omega (arith, e)
later f k (g ∷ pre) m post num main = let le = later f (k + length (body_texts g)) pre m post num.1 main in omega (arith, le)

-- the place of the main entry of the member that begins with a record
unfoldable pub owner_held : (Held → ℕ) → ℕ → List Held → ℕ → Option ℕ
owner_held f i [] t = None
owner_held f i (h ∷ hs) t = cond (not h.entry.alias && eqb (f h) t) (Some i) (owner_held f (i + 1) hs t)

not_before : (f : Held → ℕ) (k t : ℕ) (g : Held) (b : Bool) → b ≡ g.entry.alias → (b ≡ false → f g ≡ k) → k + length (body_texts g) ≤ t → (not b && eqb (f g) t) ≡ false
not_before f k t g true is num le = refl
not_before f k t g false is num le =
    let here = num refl in
    let body : length (body_texts g) ≡ length g.records + 1 = let l = length-append g.records ([] ∷ []) in rw (← is) (omega (arith, l)) in
    let other : eqb (f g) t ≡ false = grind (arith, nat_tests, here, body, le) in
    rw other refl

pub owner_main : (f : Held → ℕ) (k i : ℕ) (pre : List Held) (m : Held) (post : List Held) → Numbered f k (pre ++ m ∷ post) → m.entry.alias ≡ false
    → owner_held f i (pre ++ m ∷ post) (f m) ≡ Some (i + length pre)
unfolding owner_held
owner_main f k i [] m post num main =
    let same : eqb (f m) (f m) ≡ true = grind (arith, nat_tests) in
    let i_is : i + length {A = Held} [] ≡ i = omega arith in
    let test : (not m.entry.alias && eqb (f m) (f m)) ≡ true = ap (λ (b : Bool). not b && eqb (f m) (f m)) main ∙ same in
    ap (λ (b : Bool). cond b (Some i) (owner_held f (i + 1) post (f m))) test ∙ ap (λ (n : ℕ). Some n) (sym i_is)
owner_main f k i (g ∷ pre) m post num main =
    let le = later f (k + length (body_texts g)) pre m post num.1 main in
    let other : (not g.entry.alias && eqb (f g) (f m)) ≡ false = not_before f k (f m) g g.entry.alias refl num.0 le in
    let i_is : i + length (g ∷ pre) ≡ i + 1 + length pre = omega arith in
    ap (λ (b : Bool). cond b (Some i) (owner_held f (i + 1) (pre ++ m ∷ post) (f m))) other
    ∙ owner_main f (k + length (body_texts g)) (i + 1) pre m post num.1 main ∙ ap (λ (n : ℕ). Some n) (sym i_is)
