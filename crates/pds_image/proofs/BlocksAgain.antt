-- A directory that was written is read as the same entries.
use Rattle.std.proofs.Common.{◌≡◌, ℕ, suc, ◌+◌, ◌-◌, ◌*◌, ◌≤◌, Bool, true, false, ◌&&◌, cond, eqb, leb, ltb, List, [], ◌∷◌, ◌++◌, length, drop, map, replicate, Some, Result, Ok, refl, sym, ap, ◌∙◌, subst, arith, length-append, append_assoc}
use Rattle.std.specs.Prelude.{slice_get}
use Rattle.std.specs.List.{flat_map, AllByRecursion}
use Rattle.std.proofs.lemmas.Bool.Decides.{nat_tests}
use Rattle.std.proofs.lemmas.List.{append-nil, length-replicate}
use Rattle.std.proofs.lemmas.Bool.{leb-true}
use Rattle.std.proofs.lemmas.Grind.{flat_map-append}
use Rattle.std.proofs.Math.Seq.{drop-append_seam, take-append_seam}
use Rattle.byteorder.specs.Endian.{big_number}
use Rattle.byteorder.specs.Numbers.{big_number-reads_back}
use Rattle.le_bytes.specs.declared.library_fault.LibFault.{LibFault}
use Rattle.pds_directory.specs.declared.kinds.LibKind.{LibKind}
use Rattle.pds_directory.specs.declared.kinds.LibKind.TheVariants.{Cards, Modules}
use Rattle.pds_directory.specs.declared.entry.Entry.{Entry}
use Rattle.pds_directory.specs.declared.entry.Listed.{Listed}
use Rattle.pds_directory.specs.declared.header.Head.{Head}
use Rattle.pds_directory.specs.Parts.{number, part, is_below}
use Rattle.pds_directory.specs.Order.{ascends_after}
use Rattle.pds_directory.specs.Directory.{entry_length, is_above, entry_at, entries_from, block_at, block_from, blocks_from}
use Rattle.pds_lib.specs.Contents.{Held, held_name}
use Rattle.pds_lib.specs.Sound.{HasData}
use Rattle.pds_image.specs.Spelling.{number_bytes, data_bytes, entry_bytes, closing, block_bytes, blocks_of}
use Rattle.pds_image.proofs.EntryAgain.{AsWritten, as_read, listed, user_read, last_read}
use Rattle.pds_image.proofs.RecordsAgain.{drop_on}

-- an entry, whose member begins with the record that f gives
abbrev pub spell : Head → (Held → ℕ) → Held → List ℕ
spell hd f h = entry_bytes h.entry (data_bytes hd.kind h.entry h.user_data) (f h)

abbrev pub spells : Head → (Held → ℕ) → List Held → List ℕ
spells hd f hs = flat_map (spell hd f) hs

-- an entry that is read as it was written, and that is not too long
pub record Ready (hd : Head) (f : Held → ℕ) (h : Held) : Type 0 where
  pub written : AsWritten hd.kind hd.version hd.blocks hd.records h.entry h.user_data (f h)
  pub eight : length h.entry.name.0 ≡ 8
  pub has : HasData hd.kind h.entry h.user_data
  pub least : 12 ≤ length (spell hd f h)
  pub most : length (spell hd f h) ≤ 254

-- what was read of an entry
pub record Matches (hd : Head) (f : Held → ℕ) (image : List ℕ) (x : Listed) (h : Held) : Type 0 where
  pub entry : x.entry ≡ as_read hd.kind h.entry
  pub first : x.first ≡ f h
  pub user : part image x.user_data ≡ h.user_data

abbrev pub AllMatch : Head → (Held → ℕ) → List ℕ → List Listed → List Held → Type 0
AllMatch hd f image [] [] = Unit {0}
AllMatch hd f image [] (h ∷ hs) = ⊥
AllMatch hd f image (x ∷ xs) [] = ⊥
AllMatch hd f image (x ∷ xs) (h ∷ hs) = Matches hd f image x h × AllMatch hd f image xs hs

match_append : (hd : Head) (f : Held → ℕ) (image : List ℕ) (xs ys : List Listed) (gs hs : List Held) → AllMatch hd f image xs gs → AllMatch hd f image ys hs
    → AllMatch hd f image (xs ++ ys) (gs ++ hs)
match_append hd f image [] ys [] hs a b = b
match_append hd f image [] ys (g ∷ gs) hs a b = absurd a
match_append hd f image (x ∷ xs) ys [] hs a b = absurd a
match_append hd f image (x ∷ xs) ys (g ∷ gs) hs a b = (a.0, match_append hd f image xs ys gs hs a.1 b)

-- the names to come are above those so far
abbrev pub Follows : List Listed → List Held → Type 0
Follows done [] = Unit {0}
Follows done (h ∷ hs) = (is_above done h.entry.name ≡ true) × (ascends_after held_name h.entry.name hs ≡ true)

both : (a b : Bool) → (a && b) ≡ true → (a ≡ true) × (b ≡ true)
both true b e = (refl, e)
both false b e = absurd cc

last_of : (done : List Listed) (x : Listed) → slice_get (done ++ x ∷ []) (length (done ++ x ∷ []) - 1) ≡ Some x
last_of [] x = refl
last_of (y ∷ []) x = refl
last_of (y ∷ z ∷ done) x =
    let n : length (y ∷ (z ∷ done) ++ x ∷ []) - 1 ≡ suc (length ((z ∷ done) ++ x ∷ []) - 1) = omega arith in
    rw n (last_of (z ∷ done) x)

follows_on : (done : List Listed) (x : Listed) (h : Held) (hs : List Held) → x.entry.name ≡ h.entry.name → ascends_after held_name h.entry.name hs ≡ true
    → Follows (done ++ x ∷ []) hs
follows_on done x h [] same up = tt
follows_on done x h (g ∷ hs) same up =
    let two = both (is_below h.entry.name g.entry.name) (ascends_after held_name g.entry.name hs) up in
    let above : is_above (done ++ x ∷ []) g.entry.name ≡ true = rw (last_of done x, same) two.0 in
    (above, two.1)

name_kept : (kind : LibKind) (e : Entry) → (as_read kind e).name ≡ e.name
name_kept Cards e = refl
name_kept Modules e = refl

-- ---- the entries of a block

abbrev Into : Type 0
Into = Result (List Listed × Bool) LibFault

one_read : (t b k end : ℕ) (hd : Head) (done : List Listed) (x : Listed) (rest more : List ℕ) → 1 ≤ length rest
    → entry_at hd b k done end rest ≡ Ok (Some x) → drop (entry_length rest) rest ≡ more
    → entries_from (suc t) hd b k done end rest ≡ entries_from t hd b (k + 1) (done ++ x ∷ []) end more
unfolding entries_from
one_read t b k end hd done x rest more some read on =
    let full : eqb (length rest) 0 ≡ false = grind (arith, nat_tests) in
    rw (full, read, on) refl

abbrev pub EntriesRead : Head → (Held → ℕ) → List ℕ → List Held → List Held → List ℕ → ℕ → ℕ → ℕ → ℕ → List Listed → ℕ → Type 0
EntriesRead hd f image g hs tail t tries b k done end =
    (xs : List Listed)
    × (entries_from tries hd b k done end (spells hd f g ++ tail) ≡ entries_from (suc t) hd b (k + length g) (done ++ xs) end tail)
    × AllMatch hd f image xs g × Follows (done ++ xs) hs

entries_read : (hd : Head) (f : Held → ℕ) (image : List ℕ) (g hs : List Held) (tail : List ℕ) (t tries b k : ℕ) (done : List Listed) (end p : ℕ) (outside : List ℕ)
    → tries ≡ length g + suc t → end ≡ p + length (spells hd f g ++ tail) → drop p image ≡ (spells hd f g ++ tail) ++ outside
    → AllByRecursion (Ready hd f) g → Follows done (g ++ hs) → EntriesRead hd f image g hs tail t tries b k done end
entries_read hd f image [] hs tail t tries b k done end p outside enough end_is here ready follows =
    let n : tries ≡ suc t = omega (arith, enough) in
    let k_is : k + length {A = Held} [] ≡ k = omega arith in
    let same : done ++ [] ≡ done = append-nil done in
    ([], rw (n, k_is, same) refl, tt, rw same follows)
entries_read hd f image (h ∷ g) hs tail t tries b k done end p outside enough end_is here ready follows =
    let one = spell hd f h in
    let more = spells hd f g ++ tail in
    let shape : (one ++ spells hd f g) ++ tail ≡ one ++ more = append_assoc one (spells hd f g) tail in
    let n : tries ≡ suc (length g + suc t) = omega (arith, enough) in
    let end_is2 : end ≡ p + length (one ++ more) = end_is ∙ ap (λ (ys : List ℕ). p + length ys) shape in
    let here2 : drop p image ≡ (one ++ more) ++ outside = here ∙ ap (λ (ys : List ℕ). ys ++ outside) shape in
    let form = ready.0.written b k end done more follows.0 in
    let x = listed hd.kind b k end h.entry (f h) (one ++ more) in
    let user : part image x.user_data ≡ h.user_data = user_read hd.kind image h.entry h.user_data (f h) p end more outside ready.0.eight ready.0.has form.1 end_is2 here2 in
    let l = length-append one more in
    let on : drop (entry_length (one ++ more)) (one ++ more) ≡ more = rw form.1 (drop-append_seam one more) in
    let step = one_read (length g + suc t) b k end hd done x (one ++ more) more (let low = ready.0.least in omega (arith, l, low)) form.0 on in
    let here3 : drop (p + length one) image ≡ more ++ outside = drop_on image one (more ++ outside) p (here2 ∙ append_assoc one more outside) in
    let next = entries_read hd f image g hs tail t (length g + suc t) b (k + 1) (done ++ x ∷ []) end (p + length one) outside refl (omega (arith, end_is2, l)) here3 ready.1
    (follows_on done x h (g ++ hs) (name_kept hd.kind h.entry) follows.1) in
    let k_is : k + length (h ∷ g) ≡ k + 1 + length g = omega arith in
    let done_is : (done ++ x ∷ []) ++ next.0 ≡ done ++ x ∷ next.0 = append_assoc done (x ∷ []) next.0 in (
      x ∷ next.0,
      ap (λ (m : ℕ). entries_from m hd b k done end ((one ++ spells hd f g) ++ tail)) n
          ∙ ap (λ (ys : List ℕ). entries_from (suc (length g + suc t)) hd b k done end ys) shape ∙ step ∙ next.1
          ∙ ap (λ (m : ℕ). entries_from (suc t) hd b m ((done ++ x ∷ []) ++ next.0) end tail) (sym k_is)
          ∙ ap (λ (ds : List Listed). entries_from (suc t) hd b (k + length (h ∷ g)) ds end tail) done_is,
      (record { entry = refl; first = refl; user = user }, next.2),
      subst (λ (ds : List Listed). Follows ds hs) done_is next.3,
    )

-- ---- a block

-- what a block gives: its entries, and whether it has the last one
abbrev pub BlockRead : Head → (Held → ℕ) → List ℕ → List Held → List Held → Bool → ℕ → List Listed → Type 0
BlockRead hd f image g hs last b done =
    (xs : List Listed) × (block_from hd image b done ≡ Ok (done ++ xs, last)) × AllMatch hd f image xs g × Follows (done ++ xs) hs

-- the bytes behind the entries of a block, of which the last may be among them
abbrev pub tail_of : Bool → List ℕ
tail_of true = closing
tail_of false = []

tail_read : (last : Bool) (t b k end : ℕ) (hd : Head) (done : List Listed) → entries_from (suc t) hd b k done end (tail_of last) ≡ Ok (done, last)
unfolding entries_from
tail_read true t b k end hd done = rw (last_read hd b k end done) refl
tail_read false t b k end hd done = refl

few_entries : (hd : Head) (f : Held → ℕ) (g : List Held) → AllByRecursion (Ready hd f) g → 12 * length g ≤ length (spells hd f g)
few_entries hd f [] ready = omega arith
few_entries hd f (h ∷ g) ready =
    let l = length-append (spell hd f h) (spells hd f g) in
    let low = ready.0.least in
    let ih = few_entries hd f g ready.1 in
    omega (arith, l, low, ih)

used_read : (image E more : List ℕ) (at : ℕ) → length E ≤ 254 → drop at image ≡ number_bytes 2 (2 + length E) ++ more → number 2 image at ≡ 2 + length E
unfolding number number_bytes
used_read image E more at le here = ap (big_number 2) here ∙ big_number-reads_back 2 (2 + length E) more (omega arith)

block_shape : (E outside : List ℕ) → block_bytes E ++ outside ≡ number_bytes 2 (2 + length E) ++ (E ++ (replicate (254 - length E) 0 ++ outside))
unfolding block_bytes
block_shape E outside =
    let nb = number_bytes 2 (2 + length E) in
    let zeros = replicate {A = ℕ} (254 - length E) 0 in
    append_assoc (nb ++ E) zeros outside ∙ append_assoc nb E (zeros ++ outside)

two_long : (n : ℕ) → length (number_bytes 2 n) ≡ 2
unfolding number_bytes
two_long n = refl

block_opens : (hd : Head) (image E outside : List ℕ) (b : ℕ) (done : List Listed) → length E ≤ 254 → drop (block_at b) image ≡ block_bytes E ++ outside
    → block_from hd image b done ≡ entries_from 22 hd b 1 done (block_at b + (2 + length E)) E
unfolding block_from
block_opens hd image E outside b done le here =
    let at = block_at b in
    let more = replicate {A = ℕ} (254 - length E) 0 ++ outside in
    let all : drop at image ≡ number_bytes 2 (2 + length E) ++ (E ++ more) = here ∙ block_shape E outside in
    let used : number 2 image at ≡ 2 + length E = used_read image E (E ++ more) at le all in
    let low : ltb (2 + length E) 2 ≡ false = grind (arith, nat_tests) in
    let high : ltb 256 (2 + length E) ≡ false = grind (arith, nat_tests) in
    let on : drop (at + 2) image ≡ E ++ more = rw (← two_long (2 + length E)) (drop_on image (number_bytes 2 (2 + length E)) (E ++ more) at all) in
    let size : at + (2 + length E) - (at + 2) ≡ length E = omega arith in
    rw (used, low, high, size, on, take-append_seam E more) refl

block_read : (hd : Head) (f : Held → ℕ) (image : List ℕ) (g hs : List Held) (last : Bool) (b : ℕ) (done : List Listed) (outside : List ℕ)
    → length (spells hd f g ++ tail_of last) ≤ 254 → drop (block_at b) image ≡ block_bytes (spells hd f g ++ tail_of last) ++ outside
    → AllByRecursion (Ready hd f) g → Follows done (g ++ hs) → BlockRead hd f image g hs last b done
block_read hd f image g hs last b done outside le here ready follows =
    let E = spells hd f g ++ tail_of last in
    let at = block_at b in
    let more = replicate {A = ℕ} (254 - length E) 0 ++ outside in
    let all : drop at image ≡ number_bytes 2 (2 + length E) ++ (E ++ more) = here ∙ block_shape E outside in
    let on : drop (at + 2) image ≡ E ++ more = rw (← two_long (2 + length E)) (drop_on image (number_bytes 2 (2 + length E)) (E ++ more) at all) in
    let few = few_entries hd f g ready in
    let l = length-append (spells hd f g) (tail_of last) in
    let enough : 22 ≡ length g + suc (21 - length g) = omega (arith, few, l, le) in
    let end_is : at + (2 + length E) ≡ at + 2 + length E = omega arith in
    let read = entries_read hd f image g hs (tail_of last) (21 - length g) 22 b 1 done (at + (2 + length E)) (at + 2) more enough end_is on ready follows in (
      read.0,
      block_opens hd image E outside b done le here ∙ read.1 ∙ tail_read last (21 - length g) b (1 + length g) (at + (2 + length E)) hd (done ++ read.0),
      read.2,
      read.3,
    )

-- ---- the blocks

unfoldable pub block_count : List ℕ → List (List ℕ) → ℕ
block_count begun [] = 1
block_count begun (e ∷ es) = cond (leb (length begun + length e) 254) (block_count (begun ++ e) es) (suc (block_count e es))

abbrev pub BlocksRead : Head → (Held → ℕ) → List ℕ → ℕ → ℕ → List Listed → List Held → Type 0
BlocksRead hd f image left b done hs = (xs : List Listed) × (blocks_from left hd image b done ≡ Ok (done ++ xs)) × AllMatch hd f image xs hs

ends_here : (hd : Head) (f : Held → ℕ) (image : List ℕ) (left left2 b : ℕ) (done : List Listed) (g : List Held) → left ≡ suc left2
    → BlockRead hd f image g [] true b done → BlocksRead hd f image left b done g
unfolding blocks_from
ends_here hd f image left left2 b done g n read = (read.0, rw (n, read.1) refl, read.2)

goes_on : (hd : Head) (f : Held → ℕ) (image : List ℕ) (left left2 b : ℕ) (done : List Listed) (g hs : List Held) → left ≡ suc left2
    → (read : BlockRead hd f image g hs false b done) → BlocksRead hd f image left2 (b + 1) (done ++ read.0) hs → BlocksRead hd f image left b done (g ++ hs)
unfolding blocks_from
goes_on hd f image left left2 b done g hs n read next = (
  read.0 ++ next.0,
  rw (n, read.1) (next.1 ∙ ap (λ (ys : List Listed). Ok ys) (append_assoc done read.0 next.0)),
  match_append hd f image read.0 next.0 g hs read.2 next.2,
)

next_block : (b : ℕ) → 1 ≤ b → block_at (b + 1) ≡ block_at b + 256
next_block b one = omega arith

pub block_long : (E : List ℕ) → length E ≤ 254 → length (block_bytes E) ≡ 256
unfolding block_bytes
block_long E le =
    let zeros = replicate {A = ℕ} (254 - length E) 0 in
    let a = length-append (number_bytes 2 (2 + length E) ++ E) zeros in
    let c = length-append (number_bytes 2 (2 + length E)) E in
    let z = length-replicate {A = ℕ} (254 - length E) 0 in
    omega (arith, a, c, z, two_long (2 + length E))

behind_block : (image E more outside : List ℕ) (b : ℕ) → 1 ≤ b → length E ≤ 254 → drop (block_at b) image ≡ (block_bytes E ++ more) ++ outside
    → drop (block_at (b + 1)) image ≡ more ++ outside
behind_block image E more outside b one le here =
    let on = drop_on image (block_bytes E) (more ++ outside) (block_at b) (here ∙ append_assoc (block_bytes E) more outside) in
    let n : block_at (b + 1) ≡ block_at b + length (block_bytes E) = next_block b one ∙ ap (λ (k : ℕ). block_at b + k) (sym (block_long E le)) in
    ap (λ (k : ℕ). drop k image) n ∙ on

-- the last entry, in the block that was begun or in one of its own
closes : (hd : Head) (f : Held → ℕ) (image : List ℕ) (g : List Held) (fits : Bool) (left b : ℕ) (done : List Listed) (outside : List ℕ)
    → fits ≡ leb (length (spells hd f g) + 12) 254 → 1 ≤ b → length (spells hd f g) ≤ 254
    → drop (block_at b) image ≡ cond fits (block_bytes (spells hd f g ++ closing)) (block_bytes (spells hd f g) ++ block_bytes closing) ++ outside
    → left ≡ cond fits 1 2 → AllByRecursion (Ready hd f) g → Follows done (g ++ []) → BlocksRead hd f image left b done g
closes hd f image g true left b done outside fits one le here count ready follows =
    let l = length-append (spells hd f g) closing in
    let small : length (spells hd f g) + 12 ≤ 254 = leb-true (length (spells hd f g) + 12) 254 (sym fits) in
    ends_here hd f image left 0 b done g count (block_read hd f image g [] true b done outside (omega (arith, l, small)) here ready follows)
closes hd f image g false left b done outside fits one le here count ready follows =
    let E = spells hd f g in
    let plain : E ++ [] ≡ E = append-nil E in
    let first : drop (block_at b) image ≡ block_bytes (E ++ []) ++ (block_bytes closing ++ outside) = rw plain (here ∙ append_assoc (block_bytes E) (block_bytes closing) outside) in
    let read = block_read hd f image g [] false b done (block_bytes closing ++ outside) (rw plain le) first ready follows in
    let second : drop (block_at (b + 1)) image ≡ block_bytes closing ++ outside = behind_block image E (block_bytes closing) outside b one le here in
    let rest = ends_here hd f image 1 0 (b + 1) (done ++ read.0) [] refl (block_read hd f image [] [] true (b + 1) (done ++ read.0) outside (omega arith) second tt tt) in
    rw (← append-nil g) (goes_on hd f image left 1 b done g [] count read rest)

ends_count : (b : Bool) → cond b 1 (suc 1) ≡ cond b 1 2
ends_count true = refl
ends_count false = refl

spells_more : (hd : Head) (f : Held → ℕ) (g : List Held) (h : Held) → spells hd f (g ++ h ∷ []) ≡ spells hd f g ++ spell hd f h
spells_more hd f g h = flat_map-append (spell hd f) g (h ∷ []) ∙ ap (λ (ys : List ℕ). spells hd f g ++ ys) (append-nil (spell hd f h))

ready_more : (hd : Head) (f : Held → ℕ) (g : List Held) (h : Held) → AllByRecursion (Ready hd f) g → Ready hd f h → AllByRecursion (Ready hd f) (g ++ h ∷ [])
ready_more hd f [] h all one = (one, tt)
ready_more hd f (x ∷ g) h all one = (all.0, ready_more hd f g h all.1 one)

abbrev pub written_from : Head → (Held → ℕ) → List ℕ → List Held → List ℕ
written_from hd f begun hs = blocks_of begun (map (spell hd f) hs ++ closing ∷ [])

abbrev pub count_from : Head → (Held → ℕ) → List ℕ → List Held → ℕ
count_from hd f begun hs = block_count begun (map (spell hd f) hs ++ closing ∷ [])

-- reading blocks, of which the first has some entries already
abbrev pub Reading : Head → (Held → ℕ) → List ℕ → List Held → Type 0
Reading hd f image hs =
    (g : List Held) (left b : ℕ) (done : List Listed) (outside : List ℕ) → 1 ≤ b → length (spells hd f g) ≤ 254
    → drop (block_at b) image ≡ written_from hd f (spells hd f g) hs ++ outside → left ≡ count_from hd f (spells hd f g) hs
    → AllByRecursion (Ready hd f) g → Follows done (g ++ hs) → BlocksRead hd f image left b done (g ++ hs)

opened : (hd : Head) (f : Held → ℕ) (image : List ℕ) (h : Held) (hs : List Held) (fits : Bool) → Ready hd f h → Reading hd f image hs
    → (g : List Held) (left b : ℕ) (done : List Listed) (outside : List ℕ) → 1 ≤ b → length (spells hd f g) ≤ 254
    → fits ≡ leb (length (spells hd f g) + length (spell hd f h)) 254
    → drop (block_at b) image ≡ cond fits (written_from hd f (spells hd f g ++ spell hd f h) hs) (block_bytes (spells hd f g) ++ written_from hd f (spell hd f h) hs) ++ outside
    → left ≡ cond fits (count_from hd f (spells hd f g ++ spell hd f h) hs) (suc (count_from hd f (spell hd f h) hs))
    → AllByRecursion (Ready hd f) g → Follows done (g ++ h ∷ hs) → BlocksRead hd f image left b done (g ++ h ∷ hs)
opened hd f image h hs true ready reading g left b done outside one le fits here count all follows =
    let more = spells_more hd f g h in
    let l = length-append (spells hd f g) (spell hd f h) in
    let small : length (spells hd f g) + length (spell hd f h) ≤ 254 = leb-true (length (spells hd f g) + length (spell hd f h)) 254 (sym fits) in
    let le2 : length (spells hd f (g ++ h ∷ [])) ≤ 254 = rw more (omega (arith, l, small)) in
    let shape : (g ++ h ∷ []) ++ hs ≡ g ++ h ∷ hs = append_assoc g (h ∷ []) hs in
    rw (← shape)
    (reading (g ++ h ∷ []) left b done outside one le2 (rw more here) (rw more count) (ready_more hd f g h all ready) (rw shape follows))
opened hd f image h hs false ready reading g left b done outside one le fits here count all follows =
    let E = spells hd f g in
    let plain : E ++ [] ≡ E = append-nil E in
    let single : spells hd f (h ∷ []) ≡ spell hd f h = append-nil (spell hd f h) in
    let behind = written_from hd f (spell hd f h) hs in
    let first : drop (block_at b) image ≡ block_bytes (E ++ []) ++ (behind ++ outside) = rw plain (here ∙ append_assoc (block_bytes E) behind outside) in
    let read = block_read hd f image g (h ∷ hs) false b done (behind ++ outside) (rw plain le) first all follows in
    let second : drop (block_at (b + 1)) image ≡ behind ++ outside = behind_block image E behind outside b one le here in
    let most = ready.most in
    let rest = reading (h ∷ []) (count_from hd f (spell hd f h) hs) (b + 1) (done ++ read.0) outside (omega arith) (rw single most) (rw single second) (rw single refl) (ready, tt) read.3 in
    goes_on hd f image left (count_from hd f (spell hd f h) hs) b done g (h ∷ hs) count read rest

pub blocks_read : (hd : Head) (f : Held → ℕ) (image : List ℕ) (hs : List Held) → AllByRecursion (Ready hd f) hs → Reading hd f image hs
unfolding blocks_of block_count
blocks_read hd f image [] ready g left b done outside one le here count all follows =
    rw (append-nil g) (closes hd f image g (leb (length (spells hd f g) + 12) 254) left b done outside refl one le here (count ∙ ends_count (leb (length (spells hd f g) + 12) 254)) all follows)
blocks_read hd f image (h ∷ hs) ready g left b done outside one le here count all follows =
    opened hd f image h hs (leb (length (spells hd f g) + length (spell hd f h)) 254) ready.0 (blocks_read hd f image hs ready.1) g left b done outside one le refl here count all follows
