-- The law: a written image is read as the same library.
use Rattle.std.proofs.Common.{◌≡◌, ℕ, suc, ◌+◌, ◌*◌, ◌/◌, ◌^◌, ◌≤◌, ◌<◌, Bool, true, false, cond, eqb, leb, ltb, List, [], ◌∷◌, ◌++◌, length, drop, map, Some, Ok, refl, sym, ap, ◌∙◌, arith, length-append, append_assoc}
use Rattle.std.specs.List.{flat_map, AllByRecursion}
use Rattle.std.proofs.lemmas.Bool.Decides.{nat_tests}
use Rattle.std.proofs.lemmas.Bool.{leb-true}
use Rattle.std.proofs.lemmas.List.Sums.{sum_by-cons}
use Rattle.std.proofs.Math.Seq.{drop-append_seam}
use Rattle.le_bytes.specs.declared.name.Name.{Name}
use Rattle.pds_directory.specs.declared.kinds.LibKind.{LibKind}
use Rattle.pds_directory.specs.declared.kinds.LibKind.TheVariants.{Cards, Modules}
use Rattle.pds_directory.specs.declared.kinds.Version.{Version}
use Rattle.pds_directory.specs.declared.kinds.Version.TheVariants.{One, Two}
use Rattle.pds_directory.specs.declared.entry.Entry.{Entry}
use Rattle.pds_directory.specs.declared.entry.Span.{Span}
use Rattle.pds_directory.specs.declared.entry.Listed.{Listed}
use Rattle.pds_directory.specs.declared.header.Head.{Head}
use Rattle.pds_directory.specs.Parts.{number}
use Rattle.pds_directory.specs.Order.{ascends}
use Rattle.pds_directory.specs.Header.{mark, head_of, directory_end}
use Rattle.pds_directory.specs.Places.{width, has_length, records_from, ends_of}
use Rattle.pds_directory.specs.Directory.{listing_of, block_at, blocks_from, rules_of}
use Rattle.pds_lib.specs.Grammar.{members_of, library_of}
use Rattle.pds_lib.specs.Contents.{Held, held_name, Contents, entries_of, entry_count, record_count}
use Rattle.pds_image.specs.Spelling.{number_bytes, version_byte, kind_byte, data_bytes, module_data, entry_bytes, closing, record_bytes, block_bytes, blocks_of}
use Rattle.pds_image.specs.Image.{records_in, first_record, spelled_entry, directory_bytes, body_bytes, header_bytes, written}
use Rattle.pds_lib.specs.Sound.{IsRecord, IsHeld, IsSound, HasMain, HasData}
use Rattle.pds_image.proofs.Capped.{length-header, length-written}
use Rattle.pds_image.proofs.EntryAgain.{Own, read_at, entry_read, entry_long}
use Rattle.pds_image.proofs.RecordsAgain.{spans_of, MayBe, records_read, parts_read, drop_on}
use Rattle.pds_image.proofs.BlocksAgain.{spell, spells, Ready, Follows, block_count, block_long, written_from, count_from, blocks_read}
use Rattle.pds_image.proofs.PlacesAgain.{held_at, Told, all_told, body_texts, texts, entries, bodies_spelled, texts_count, start, texts_at, first_of, first_is}
use Rattle.pds_image.proofs.ReadAgain.{main_found, Scene, all_rules, members_again, texts_end}

-- ---- the header

head_long : (n B : ℕ) → 256 * B ≤ n → ltb (20 + n) (20 + 256 * B) ≡ false
head_long n B le = grind (arith, nat_tests)

head_least : (n : ℕ) → ltb (20 + n) 20 ≡ false
head_least n = grind (arith, nat_tests)

head_case : (v : Version) (kind : LibKind) (B N : ℕ) (rest : List ℕ) → 1 ≤ B → B < 2 ^ 32 → N ≤ 16777215 → 256 * B ≤ length rest
    → head_of (((mark ++ (version_byte v ∷ kind_byte kind ∷ 0 ∷ 0 ∷ number_bytes 4 B)) ++ number_bytes 4 N) ++ rest)
    ≡ Some (record { version = v; kind = kind; blocks = B; records = N })
unfolding head_of number_bytes
head_case One Cards B N rest low lt few long =
    let image = ((mark ++ (version_byte One ∷ kind_byte Cards ∷ 0 ∷ 0 ∷ number_bytes 4 B)) ++ number_bytes 4 N) ++ rest in
    let b : number 4 image 12 ≡ B = read_at 4 image 12 B (number_bytes 4 N ++ rest) (omega (arith, lt)) refl in
    let n : number 4 image 16 ≡ N = read_at 4 image 16 N rest (omega (arith, few)) refl in
    let size : length image ≡ 20 + length rest = omega arith in
    let one : eqb B 0 ≡ false = grind (arith, nat_tests) in
    let two : ltb 16777215 N ≡ false = grind (arith, nat_tests) in
    let three : ltb (length image) (20 + 256 * B) ≡ false = ap (λ (n : ℕ). ltb n (20 + 256 * B)) size ∙ head_long (length rest) B long in
    let four : ltb (length image) 20 ≡ false = ap (λ (n : ℕ). ltb n 20) size ∙ head_least (length rest) in
    rw (four, b, n, one, two, three) refl
head_case One Modules B N rest low lt few long =
    let image = ((mark ++ (version_byte One ∷ kind_byte Modules ∷ 0 ∷ 0 ∷ number_bytes 4 B)) ++ number_bytes 4 N) ++ rest in
    let b : number 4 image 12 ≡ B = read_at 4 image 12 B (number_bytes 4 N ++ rest) (omega (arith, lt)) refl in
    let n : number 4 image 16 ≡ N = read_at 4 image 16 N rest (omega (arith, few)) refl in
    let size : length image ≡ 20 + length rest = omega arith in
    let one : eqb B 0 ≡ false = grind (arith, nat_tests) in
    let two : ltb 16777215 N ≡ false = grind (arith, nat_tests) in
    let three : ltb (length image) (20 + 256 * B) ≡ false = ap (λ (n : ℕ). ltb n (20 + 256 * B)) size ∙ head_long (length rest) B long in
    let four : ltb (length image) 20 ≡ false = ap (λ (n : ℕ). ltb n 20) size ∙ head_least (length rest) in
    rw (four, b, n, one, two, three) refl
head_case Two Cards B N rest low lt few long =
    let image = ((mark ++ (version_byte Two ∷ kind_byte Cards ∷ 0 ∷ 0 ∷ number_bytes 4 B)) ++ number_bytes 4 N) ++ rest in
    let b : number 4 image 12 ≡ B = read_at 4 image 12 B (number_bytes 4 N ++ rest) (omega (arith, lt)) refl in
    let n : number 4 image 16 ≡ N = read_at 4 image 16 N rest (omega (arith, few)) refl in
    let size : length image ≡ 20 + length rest = omega arith in
    let one : eqb B 0 ≡ false = grind (arith, nat_tests) in
    let two : ltb 16777215 N ≡ false = grind (arith, nat_tests) in
    let three : ltb (length image) (20 + 256 * B) ≡ false = ap (λ (n : ℕ). ltb n (20 + 256 * B)) size ∙ head_long (length rest) B long in
    let four : ltb (length image) 20 ≡ false = ap (λ (n : ℕ). ltb n 20) size ∙ head_least (length rest) in
    rw (four, b, n, one, two, three) refl
head_case Two Modules B N rest low lt few long =
    let image = ((mark ++ (version_byte Two ∷ kind_byte Modules ∷ 0 ∷ 0 ∷ number_bytes 4 B)) ++ number_bytes 4 N) ++ rest in
    let b : number 4 image 12 ≡ B = read_at 4 image 12 B (number_bytes 4 N ++ rest) (omega (arith, lt)) refl in
    let n : number 4 image 16 ≡ N = read_at 4 image 16 N rest (omega (arith, few)) refl in
    let size : length image ≡ 20 + length rest = omega arith in
    let one : eqb B 0 ≡ false = grind (arith, nat_tests) in
    let two : ltb 16777215 N ≡ false = grind (arith, nat_tests) in
    let three : ltb (length image) (20 + 256 * B) ≡ false = ap (λ (n : ℕ). ltb n (20 + 256 * B)) size ∙ head_long (length rest) B long in
    let four : ltb (length image) 20 ≡ false = ap (λ (n : ℕ). ltb n 20) size ∙ head_least (length rest) in
    rw (four, b, n, one, two, three) refl

pub head_read : (v : Version) (kind : LibKind) (B N : ℕ) (rest : List ℕ) → 1 ≤ B → B < 2 ^ 32 → N ≤ 16777215 → 256 * B ≤ length rest
    → head_of (((mark ++ (version_byte v ∷ kind_byte kind ∷ 0 ∷ 0 ∷ number_bytes 4 B)) ++ number_bytes 4 N) ++ rest)
    ≡ Some (record { version = v; kind = kind; blocks = B; records = N })
head_read v kind B N rest low lt few long = head_case v kind B N rest low lt few long

-- ---- how long the directory is

count_case : (b : Bool) (e : List ℕ) (es : List (List ℕ)) (begun : List ℕ) → b ≡ leb (length begun + length e) 254 → length begun ≤ 254 → length e ≤ 254
    → (length (begun ++ e) ≤ 254 → AllByRecursion (λ (e : List ℕ). length e ≤ 254) es → length (blocks_of (begun ++ e) es) ≡ 256 * block_count (begun ++ e) es)
    → length (blocks_of e es) ≡ 256 * block_count e es → AllByRecursion (λ (e : List ℕ). length e ≤ 254) es
    → length (cond b (blocks_of (begun ++ e) es) (block_bytes begun ++ blocks_of e es)) ≡ 256 * cond b (block_count (begun ++ e) es) (suc (block_count e es))
count_case true e es begun fits le le2 into next all =
    let l = length-append begun e in
    let small : length begun + length e ≤ 254 = leb-true (length begun + length e) 254 (sym fits) in
    into (omega (arith, l, small)) all
count_case false e es begun fits le le2 into next all =
    let l = length-append (block_bytes begun) (blocks_of e es) in
    let one = block_long begun le in
    omega (arith, l, one, next)

count_long : (es : List (List ℕ)) (begun : List ℕ) → length begun ≤ 254 → AllByRecursion (λ (e : List ℕ). length e ≤ 254) es
    → length (blocks_of begun es) ≡ 256 * block_count begun es
unfolding blocks_of block_count
count_long [] begun le all = rw (block_long begun le) refl
count_long (e ∷ es) begun le all = count_case (leb (length begun + length e) 254) e es begun refl le all.0 (count_long es (begun ++ e)) (count_long es e all.0 all.1) all.1

-- ---- entries are ready to be read

module_long : (b : Bool) (e : Entry) → b ≡ e.alias → length e.main.0 ≡ 8 → length (module_data e) ≤ 20
unfolding number_bytes
module_long true e is eight = rw (← is) (omega (arith, eight))
module_long false e is eight = rw (← is) (omega arith)

data_long : (kind : LibKind) (e : Entry) (user : List ℕ) → length e.main.0 ≡ 8 → HasData kind e user → length (data_bytes kind e user) ≤ 62
data_long Cards e user eight has = has.5
data_long Modules e user eight has = let l = module_long e.alias e refl eight in omega (arith, l)

own_case : (b : Bool) (lib : Contents) (h : Held) → HasMain b lib h → Own b h.entry.name.0 h.entry.main.0
own_case true lib h has = tt
own_case false lib h has = ap (λ (n : Name). n.0) has

main_bounds : (lib : Contents) (pre : List Held) (h : Held) (post : List Held) → IsSound lib → lib.members ≡ pre ++ h ∷ post → h.entry.alias ≡ false
    → (1 ≤ first_of lib h) × (first_of lib h ≤ length (texts lib.members))
unfolding start
main_bounds lib pre h post sound is main =
    let f = first_is lib pre h post sound is main in
    let t : length (texts lib.members) ≡ length (texts pre ++ (h.records ++ [] ∷ texts post)) = ap length (ap texts is ∙ texts_at pre h post main) in
    let a = length-append (texts pre) (h.records ++ [] ∷ texts post) in
    let b = length-append h.records ([] ∷ texts post) in
    (omega (arith, f), omega (arith, f, t, a, b))

bounds : (lib : Contents) (pre : List Held) (h : Held) (post : List Held) (b : Bool) → b ≡ h.entry.alias → IsSound lib → lib.members ≡ pre ++ h ∷ post
    → (1 ≤ first_of lib h) × (first_of lib h ≤ length (texts lib.members))
bounds lib pre h post false alias sound is = main_bounds lib pre h post sound is (sym alias)
bounds lib pre h post true alias sound is =
    let held : IsHeld lib h = held_at lib pre h post is sound in
    let m = main_found lib h sound held (sym alias) in
    rw m.first (main_bounds lib m.before m.main m.behind sound m.is m.plain)

ready : (lib : Contents) (hd : Head) (pre : List Held) (h : Held) (post : List Held) → IsSound lib → lib.members ≡ pre ++ h ∷ post → hd.kind ≡ lib.kind
    → hd.records ≡ length (texts lib.members) → length (texts lib.members) ≤ 16777215 → Ready hd (first_of lib) h
ready lib hd pre h post sound is kind count few =
    let held : IsHeld lib h = held_at lib pre h post is sound in
    let has : HasData hd.kind h.entry h.user_data = rw kind held.user in
    let b = bounds lib pre h post h.entry.alias refl sound is in
    let long = entry_long h.entry (data_bytes hd.kind h.entry h.user_data) (first_of lib h) held.name in
    let most = data_long hd.kind h.entry h.user_data held.main_name has in
    record {
      written = entry_read hd h.entry h.user_data (first_of lib h) held.name held.main_name (own_case h.entry.alias lib h held.main) held.not_last b.0 (omega (arith, b.1, count)) (omega (arith, b.1, few)) has;
      eight = held.name;
      has = has;
      least = omega (arith, long);
      most = omega (arith, long, most);
    }

ready_from : (lib : Contents) (hd : Head) (pre hs : List Held) → IsSound lib → lib.members ≡ pre ++ hs → hd.kind ≡ lib.kind
    → hd.records ≡ length (texts lib.members) → length (texts lib.members) ≤ 16777215 → AllByRecursion (Ready hd (first_of lib)) hs
ready_from lib hd pre [] sound is kind count few = tt
ready_from lib hd pre (h ∷ hs) sound is kind count few =
    (ready lib hd pre h hs sound is kind count few, ready_from lib hd (pre ++ h ∷ []) hs sound (is ∙ sym (append_assoc pre (h ∷ []) hs)) kind count few)

follows : (hs : List Held) → ascends held_name hs ≡ true → Follows [] hs
follows [] up = tt
follows (h ∷ hs) up = (refl, up)

entries_spelled : (lib : Contents) (hd : Head) (hs : List Held) → hd.kind ≡ lib.kind → AllByRecursion (Told lib) hs
    → map (spelled_entry lib) (entries hs) ≡ map (spell hd (first_of lib)) hs
unfolding spelled_entry
entries_spelled lib hd [] kind told = refl
entries_spelled lib hd (h ∷ hs) kind told =
    let one : spelled_entry lib h.entry ≡ spell hd (first_of lib) h =
    ap (λ (u : List ℕ). entry_bytes h.entry (data_bytes lib.kind h.entry u) (first_record lib h.entry.main)) told.0.user
    ∙ ap (λ (k : LibKind). entry_bytes h.entry (data_bytes k h.entry h.user_data) (first_record lib h.entry.main)) (sym kind) in
    ap (λ (x : List ℕ). x ∷ map (spelled_entry lib) (entries hs)) one ∙ ap (λ (xs : List (List ℕ)). spell hd (first_of lib) h ∷ xs) (entries_spelled lib hd hs kind told.1)

-- ---- texts may stand

one_few : (h : Held) (b : Bool) → b ≡ h.entry.alias → entry_count h ≡ length (body_texts h)
one_few h true is = rw (← is) refl
one_few h false is = let l = length-append h.records ([] ∷ []) in rw (← is) (omega (arith, l))

texts_few : (hs : List Held) → record_count hs ≡ length (texts hs)
texts_few [] = refl
texts_few (h ∷ hs) =
    let l : length (texts (h ∷ hs)) ≡ length (body_texts h) + length (texts hs) = length-append (body_texts h) (texts hs) in
    let ih = texts_few hs in
    let one = one_few h h.entry.alias refl in
    let sum = sum_by-cons entry_count h hs in
    omega (arith, l, ih, one, sum)

ends_fit : (v : Version) → length {A = ℕ} [] < 256 ^ width v
ends_fit One = omega arith
ends_fit Two = omega arith

end_may : (kind : LibKind) → has_length kind (length {A = ℕ} []) ≡ true
end_may Cards = refl
end_may Modules = refl

maybe_records : (lib : Contents) (rs : List (List ℕ)) → AllByRecursion (IsRecord lib) rs → AllByRecursion (MayBe lib.version lib.kind) (rs ++ [] ∷ [])
maybe_records lib [] all = ((ends_fit lib.version, end_may lib.kind), tt)
maybe_records lib (r ∷ rs) all = ((all.0.1, all.0.2), maybe_records lib rs all.1)

maybe_append : (v : Version) (kind : LibKind) (xs ys : List (List ℕ)) → AllByRecursion (MayBe v kind) xs → AllByRecursion (MayBe v kind) ys → AllByRecursion (MayBe v kind) (xs ++ ys)
maybe_append v kind [] ys a b = b
maybe_append v kind (x ∷ xs) ys a b = (a.0, maybe_append v kind xs ys a.1 b)

maybe_body : (lib : Contents) (h : Held) (b : Bool) → b ≡ h.entry.alias → IsHeld lib h → AllByRecursion (MayBe lib.version lib.kind) (body_texts h)
maybe_body lib h true is held = rw (← is) tt
maybe_body lib h false is held = rw (← is) (maybe_records lib h.records held.records)

maybe_texts : (lib : Contents) (hs : List Held) → AllByRecursion (IsHeld lib) hs → AllByRecursion (MayBe lib.version lib.kind) (texts hs)
maybe_texts lib [] held = tt
maybe_texts lib (h ∷ hs) held = maybe_append lib.version lib.kind (body_texts h) (texts hs) (maybe_body lib h h.entry.alias refl held.0) (maybe_texts lib hs held.1)

-- ---- the whole

assembled : (lib : Contents) (image : List ℕ) (hd : Head) (xs : List Listed) (ss : List Span) → head_of image ≡ Some hd → blocks_from hd.blocks hd image 1 [] ≡ Ok xs
    → records_from hd.records hd image 1 (directory_end hd.blocks) [] ≡ Ok ss → rules_of (record { head = hd; entries = xs }) (ends_of ss) ≡ Ok tt
    → members_of image ss xs ≡ lib.members → hd.version ≡ lib.version → hd.kind ≡ lib.kind → library_of image ≡ Ok lib
unfolding library_of listing_of
assembled lib image hd xs ss head blocks records rules members version kind = rw (head, blocks, records, rules, members, version, kind) refl

ready_long : (hd : Head) (f : Held → ℕ) (hs : List Held) → AllByRecursion (Ready hd f) hs → AllByRecursion (λ (e : List ℕ). length e ≤ 254) (map (spell hd f) hs ++ closing ∷ [])
ready_long hd f [] all = (omega arith, tt)
ready_long hd f (h ∷ hs) all = (all.0.most, ready_long hd f hs all.1)

one_case : (b : Bool) (m n : ℕ) → 1 ≤ m → 1 ≤ cond b m (suc n)
one_case true m n le = le
one_case false m n le = omega arith

one_block : (es : List (List ℕ)) (begun : List ℕ) → 1 ≤ block_count begun es
unfolding block_count
one_block [] begun = omega arith
one_block (e ∷ es) begun = one_case (leb (length begun + length e) 254) (block_count (begun ++ e) es) (block_count e es) (one_block es (begun ++ e))

header_is : (lib : Contents)
    → header_bytes lib
    ≡ (mark ++ (version_byte lib.version ∷ kind_byte lib.kind ∷ 0 ∷ 0 ∷ number_bytes 4 (length (directory_bytes lib) / 256))) ++ number_bytes 4 (records_in lib (entries_of lib))
unfolding header_bytes number_bytes
header_is lib = refl

abbrev head_for : Contents → Head
head_for lib = record { version = lib.version; kind = lib.kind; blocks = length (directory_bytes lib) / 256; records = records_in lib (entries_of lib) }

-- what stands behind the header
record Laid (lib : Contents) : Type 0 where
  image_is : written lib ≡ header_bytes lib ++ (directory_bytes lib ++ flat_map (body_bytes lib) (entries_of lib))
  count : records_in lib (entries_of lib) ≡ length (texts lib.members)
  few : length (texts lib.members) ≤ 16777215
  entries : AllByRecursion (Ready (head_for lib) (first_of lib)) lib.members
  directory : directory_bytes lib ≡ written_from (head_for lib) (first_of lib) [] lib.members
  blocks : length (directory_bytes lib) / 256 ≡ count_from (head_for lib) (first_of lib) [] lib.members
  long : length (directory_bytes lib) ≡ 256 * (length (directory_bytes lib) / 256)
  some : 1 ≤ length (directory_bytes lib) / 256

laid : (lib : Contents) → IsSound lib → Laid lib
laid lib sound =
    let told = all_told lib sound.ascending in
    let hd = head_for lib in
    let f = first_of lib in
    let bodies = flat_map (body_bytes lib) (entries_of lib) in
    let count : records_in lib (entries_of lib) ≡ length (texts lib.members) = texts_count lib lib.members told in
    let few : length (texts lib.members) ≤ 16777215 = let n = texts_few lib.members in let most = sound.few in omega (arith, n, most) in
    let all : AllByRecursion (Ready hd f) lib.members = ready_from lib hd [] lib.members sound refl refl count few in
    let dir : directory_bytes lib ≡ written_from hd f [] lib.members = ap (λ (es : List (List ℕ)). blocks_of [] (es ++ closing ∷ [])) (entries_spelled lib hd lib.members refl told) in
    let long : length (directory_bytes lib) ≡ 256 * count_from hd f [] lib.members =
    ap length dir ∙ count_long (map (spell hd f) lib.members ++ closing ∷ []) [] (omega arith) (ready_long hd f lib.members all) in
    let one : 1 ≤ count_from hd f [] lib.members = one_block (map (spell hd f) lib.members ++ closing ∷ []) [] in
    record {
      image_is = append_assoc (header_bytes lib) (directory_bytes lib) bodies;
      count = count;
      few = few;
      entries = all;
      directory = dir;
      blocks = omega (arith, long);
      long = omega (arith, long);
      some = omega (arith, long, one);
    }

-- where the records begin
abbrev body_at : Contents → ℕ
body_at lib = directory_end (length (directory_bytes lib) / 256)

directory_here : (lib : Contents) → Laid lib → drop (block_at 1) (written lib) ≡ directory_bytes lib ++ flat_map (body_bytes lib) (entries_of lib)
directory_here lib l =
    let rest = directory_bytes lib ++ flat_map (body_bytes lib) (entries_of lib) in
    let seam : drop (length (header_bytes lib)) (written lib) ≡ rest = ap (drop (length (header_bytes lib))) l.image_is ∙ drop-append_seam (header_bytes lib) rest in
    rw (length-header lib) at seam

bodies_here : (lib : Contents) → IsSound lib → Laid lib → drop (body_at lib) (written lib) ≡ flat_map (record_bytes lib.version) (texts lib.members)
bodies_here lib sound l =
    let bodies = flat_map (body_bytes lib) (entries_of lib) in
    let on : drop (20 + length (directory_bytes lib)) (written lib) ≡ bodies = drop_on (written lib) (directory_bytes lib) bodies 20 (directory_here lib l) in
    let n : 20 + length (directory_bytes lib) ≡ body_at lib = let long = l.long in omega (arith, long) in
    (rw n at on) ∙ bodies_spelled lib lib.members (all_told lib sound.ascending)

head_here : (lib : Contents) → IsSound lib → Laid lib → length (written lib) ≤ 67108864 → head_of (written lib) ≡ Some (head_for lib)
head_here lib sound l limit =
    let rest = directory_bytes lib ++ flat_map (body_bytes lib) (entries_of lib) in
    let a = length-append (directory_bytes lib) (flat_map (body_bytes lib) (entries_of lib)) in
    let w = length-written lib in
    let long = l.long in
    let count = l.count in
    let few = l.few in
    ap head_of (l.image_is ∙ ap (λ (xs : List ℕ). xs ++ rest) (header_is lib))
    ∙ head_read lib.version lib.kind (length (directory_bytes lib) / 256) (records_in lib (entries_of lib)) rest l.some (omega (arith, w, long, limit)) (omega (arith, count, few)) (omega (arith, a, long))

-- what an image gives is read as the same library
pub written_again : (lib : Contents) → IsSound lib → length (written lib) ≤ 67108864 → library_of (written lib) ≡ Ok lib
written_again lib sound limit =
    let l = laid lib sound in
    let hd = head_for lib in
    let f = first_of lib in
    let image = written lib in
    let bodies = flat_map (body_bytes lib) (entries_of lib) in
    let at = body_at lib in
    let ts = texts lib.members in
    let front : drop (block_at 1) image ≡ written_from hd f (spells hd f []) lib.members ++ bodies = directory_here lib l ∙ ap (λ (xs : List ℕ). xs ++ bodies) l.directory in
    let read = blocks_read hd f image lib.members l.entries [] hd.blocks 1 [] bodies (omega arith) (omega arith) front l.blocks tt (follows lib.members sound.ascending) in
    let here = bodies_here lib sound l in
    let within : at ≤ length image = let w = length-written lib in let long = l.long in omega (arith, w, long) in
    let recs : records_from (length ts) hd image 1 at [] ≡ Ok (spans_of lib.version at ts) =
    records_read hd image ts 1 at [] within here (maybe_texts lib lib.members sound.members) (texts_end lib.members) in
    let scene : Scene lib = record {
      hd = hd;
      image = image;
      xs = read.0;
      ss = spans_of lib.version at ts;
      at = at;
      kind = refl;
      sound = sound;
      matches = read.2;
      spans = refl;
      parts = parts_read lib.version image ts at here;
    } in
    assembled lib image hd read.0 (spans_of lib.version at ts) (head_here lib sound l limit) read.1 (ap (λ (n : ℕ). records_from n hd image 1 at []) l.count ∙ recs) (all_rules lib scene) (members_again lib scene) refl refl
