-- A directory entry that was written is read as the same entry.
use Rattle.std.proofs.Common.{◌≡◌, ℕ, ◌+◌, ◌-◌, ◌*◌, ◌/◌, ◌%◌, ◌^◌, ◌≤◌, ◌<◌, Bool, true, false, cond, leb, List, [], ◌∷◌, ◌++◌, length, take, drop, Some, None, Ok, refl, sym, ap, ◌∙◌, arith, length-append, append_assoc}
use Rattle.std.proofs.lemmas.List.{drop-drop}
use Rattle.std.proofs.Math.Seq.{take-append_seam}
use Rattle.std.specs.Int.{bytes_high_first}
use Rattle.std.specs.Str.{bytes_eq}
use Rattle.std.proofs.lemmas.Bool.Decides.{nat_tests}
use Rattle.byteorder.specs.Endian.{big_from}
use Rattle.byteorder.specs.Numbers.{big_number-reads_back}
use Rattle.le_bytes.specs.declared.name.Name.{Name}
use Rattle.pds_directory.specs.declared.kinds.LibKind.{LibKind}
use Rattle.pds_directory.specs.declared.kinds.LibKind.TheVariants.{Cards, Modules}
use Rattle.pds_directory.specs.declared.kinds.Version.{Version}
use Rattle.pds_directory.specs.declared.entry.Entry.{Entry}
use Rattle.pds_directory.specs.declared.entry.Listed.{Listed}
use Rattle.pds_directory.specs.declared.header.Head.{Head}
use Rattle.pds_directory.specs.Parts.{number, part}
use Rattle.pds_directory.specs.Directory.{data_length, entry_length, entry_fits, is_last, last_name, is_above, has_size, is_good, data_of, listed_of, entry_at}
use Rattle.pds_lib.specs.Sound.{HasData}
use Rattle.pds_image.specs.Spelling.{number_bytes, data_bytes, flag_byte, entry_bytes, closing}

-- ---- eight bytes

pub by_cells : (P : List ℕ → Type 0) → ((a b c d e f g h : ℕ) → P (a ∷ b ∷ c ∷ d ∷ e ∷ f ∷ g ∷ h ∷ [])) → (xs : List ℕ) → length xs ≡ 8 → P xs
by_cells P go [] n = absurd (omega (arith, n))
by_cells P go (a ∷ []) n = absurd (omega (arith, n))
by_cells P go (a ∷ b ∷ []) n = absurd (omega (arith, n))
by_cells P go (a ∷ b ∷ c ∷ []) n = absurd (omega (arith, n))
by_cells P go (a ∷ b ∷ c ∷ d ∷ []) n = absurd (omega (arith, n))
by_cells P go (a ∷ b ∷ c ∷ d ∷ e ∷ []) n = absurd (omega (arith, n))
by_cells P go (a ∷ b ∷ c ∷ d ∷ e ∷ f ∷ []) n = absurd (omega (arith, n))
by_cells P go (a ∷ b ∷ c ∷ d ∷ e ∷ f ∷ g ∷ []) n = absurd (omega (arith, n))
by_cells P go (a ∷ b ∷ c ∷ d ∷ e ∷ f ∷ g ∷ h ∷ []) n = go a b c d e f g h
by_cells P go (a ∷ b ∷ c ∷ d ∷ e ∷ f ∷ g ∷ h ∷ i ∷ xs) n = absurd (omega (arith, n))

-- an entry with the name of these cells
abbrev pub front : ℕ → ℕ → ℕ → ℕ → ℕ → ℕ → ℕ → ℕ → ℕ → ℕ → List ℕ → List ℕ
front a b c d e f g h first flag tail = a ∷ b ∷ c ∷ d ∷ e ∷ f ∷ g ∷ h ∷ (bytes_high_first 3 first ++ (flag ∷ tail))

-- ---- the flag byte

flag_alias : (alias : Bool) (n : ℕ) → leb 128 (cond alias 128 0 + n / 2 % 32) ≡ alias
flag_alias true n = grind (arith, nat_tests)
flag_alias false n = let small : n / 2 % 32 < 32 = omega arith in grind (arith, nat_tests)

flag_length : (alias : Bool) (n : ℕ) → n % 2 ≡ 0 → n ≤ 62 → 2 * ((cond alias 128 0 + n / 2 % 32) % 32) ≡ n
flag_length true n even small = omega arith
flag_length false n even small = omega arith

-- ---- the tests

entry_is : (hd : Head) (b k : ℕ) (done : List Listed) (end : ℕ) (rest : List ℕ) → entry_fits rest ≡ true → is_last rest ≡ false → is_good hd done rest ≡ true
    → entry_at hd b k done end rest ≡ Ok (Some (listed_of hd b k end rest))
unfolding entry_at
entry_is hd b k done end rest fits last good = rw (fits, last, good) refl

first_read : (a b c d e f g h first flag : ℕ) (tail : List ℕ) → first < 2 ^ 24 → number 3 (front a b c d e f g h first flag tail) 8 ≡ first
unfolding number
first_read a b c d e f g h first flag tail lt = big_number-reads_back 3 first (flag ∷ tail) (omega arith)

pub read_at : (w : ℕ) (xs : List ℕ) (at n : ℕ) (more : List ℕ) → n < 256 ^ w → drop at xs ≡ bytes_high_first w n ++ more → number w xs at ≡ n
unfolding number
read_at w xs at n more lt here = ap (big_from 0 w) here ∙ big_number-reads_back w n more lt

fits : (a b c d e f g h first flag : ℕ) (tail : List ℕ) → 2 * (flag % 32) ≤ length tail → entry_fits (front a b c d e f g h first flag tail) ≡ true
fits a b c d e f g h first flag tail le =
    let one : leb 12 (length (front a b c d e f g h first flag tail)) ≡ true = grind (arith, nat_tests) in
    let two : leb (12 + 2 * (flag % 32)) (length (front a b c d e f g h first flag tail)) ≡ true = grind (arith, nat_tests) in
    rw (one, two) refl

good : (hd : Head) (done : List Listed) (a b c d e f g h first flag : ℕ) (tail : List ℕ)
    → is_above done (record { 0 = a ∷ b ∷ c ∷ d ∷ e ∷ f ∷ g ∷ h ∷ [] }) ≡ true → 1 ≤ first → first ≤ hd.records → first < 2 ^ 24
    → has_size hd.kind (front a b c d e f g h first flag tail) ≡ true
    → is_good hd done (front a b c d e f g h first flag tail) ≡ true
good hd done a b c d e f g h first flag tail above low high lt size =
    let n = first_read a b c d e f g h first flag tail lt in
    let one : leb 1 first ≡ true = grind (arith, nat_tests) in
    let two : leb first hd.records ≡ true = grind (arith, nat_tests) in
    rw (n, one, two, size, above) refl

-- ---- what reading makes of an entry

abbrev pub as_read : LibKind → Entry → Entry
as_read Cards e = record e { main = e.name }
as_read Modules e = e

abbrev pub listed : LibKind → ℕ → ℕ → ℕ → Entry → ℕ → List ℕ → Listed
listed kind b k end e first rest = record { entry = as_read kind e; first = first; user_data = data_of kind end rest; block = b; number = k }

-- an alias tells its main name in a library of load modules
abbrev pub Own : Bool → List ℕ → List ℕ → Type 0
Own false name main = main ≡ name
Own true name main = Unit {0}

cards_read : (v : Version) (bl n b k : ℕ) (done : List Listed) (end a1 a2 a3 a4 a5 a6 a7 a8 : ℕ) (main : Name) (alias : Bool) (attr len ent sec first : ℕ) (user more : List ℕ)
    → let name : Name = record { 0 = a1 ∷ a2 ∷ a3 ∷ a4 ∷ a5 ∷ a6 ∷ a7 ∷ a8 ∷ [] } in
    let hd : Head = record { version = v; kind = Cards; blocks = bl; records = n } in
    let e : Entry = record { name = name; main = main; alias = alias; attr = attr; length = len; entry = ent; entry_section = sec } in
    let rest = front a1 a2 a3 a4 a5 a6 a7 a8 first (flag_byte e user) (user ++ more) in
    bytes_eq name.0 last_name ≡ false → is_above done name ≡ true → 1 ≤ first → first ≤ n → first < 2 ^ 24 → HasData Cards e user
    → entry_at hd b k done end rest ≡ Ok (Some (listed Cards b k end e first rest))
cards_read v bl n b k done end a1 a2 a3 a4 a5 a6 a7 a8 main alias attr len ent sec first user more last above low high lt kept =
    let name : Name = record { 0 = a1 ∷ a2 ∷ a3 ∷ a4 ∷ a5 ∷ a6 ∷ a7 ∷ a8 ∷ [] } in
    let hd : Head = record { version = v; kind = Cards; blocks = bl; records = n } in
    let e : Entry = record { name = name; main = main; alias = alias; attr = attr; length = len; entry = ent; entry_section = sec } in
    let rest = front a1 a2 a3 a4 a5 a6 a7 a8 first (flag_byte e user) (user ++ more) in
    let all = length-append user more in
    let size = flag_length alias (length user) kept.4 kept.5 in
    let number_is = first_read a1 a2 a3 a4 a5 a6 a7 a8 first (flag_byte e user) (user ++ more) lt in
    entry_is hd b k done end rest (fits a1 a2 a3 a4 a5 a6 a7 a8 first (flag_byte e user) (user ++ more) (omega (arith, all, size))) last
    (good hd done a1 a2 a3 a4 a5 a6 a7 a8 first (flag_byte e user) (user ++ more) above low high lt refl)
    ∙ rw (number_is, flag_alias alias (length user), kept.0, kept.1, kept.2, kept.3) refl

-- the user data of a load module with the name of its member's main entry in these cells, of an alias
plain_read : (v : Version) (bl n b k : ℕ) (done : List Listed) (end a1 a2 a3 a4 a5 a6 a7 a8 attr len ent sec first : ℕ) (more : List ℕ)
    → let name : Name = record { 0 = a1 ∷ a2 ∷ a3 ∷ a4 ∷ a5 ∷ a6 ∷ a7 ∷ a8 ∷ [] } in
    let hd : Head = record { version = v; kind = Modules; blocks = bl; records = n } in
    let e : Entry = record { name = name; main = name; alias = false; attr = attr; length = len; entry = ent; entry_section = sec } in
    let rest = front a1 a2 a3 a4 a5 a6 a7 a8 first 6 (attr ∷ 0 ∷ (bytes_high_first 3 len ++ (0 ∷ (bytes_high_first 3 ent ++ (0 ∷ (bytes_high_first 2 sec ++ more)))))) in
    bytes_eq name.0 last_name ≡ false → is_above done name ≡ true → 1 ≤ first → first ≤ n → first < 2 ^ 24
    → len < 2 ^ 24 → ent < 2 ^ 24 → sec < 2 ^ 16
    → entry_at hd b k done end rest ≡ Ok (Some (listed Modules b k end e first rest))
plain_read v bl n b k done end a1 a2 a3 a4 a5 a6 a7 a8 attr len ent sec first more last above low high lt lt1 lt2 lt3 =
    let name : Name = record { 0 = a1 ∷ a2 ∷ a3 ∷ a4 ∷ a5 ∷ a6 ∷ a7 ∷ a8 ∷ [] } in
    let hd : Head = record { version = v; kind = Modules; blocks = bl; records = n } in
    let tail = attr ∷ 0 ∷ (bytes_high_first 3 len ++ (0 ∷ (bytes_high_first 3 ent ++ (0 ∷ (bytes_high_first 2 sec ++ more))))) in
    let rest = front a1 a2 a3 a4 a5 a6 a7 a8 first 6 tail in
    let number_is = first_read a1 a2 a3 a4 a5 a6 a7 a8 first 6 tail lt in
    let len_is : number 3 rest 14 ≡ len = read_at 3 rest 14 len (0 ∷ (bytes_high_first 3 ent ++ (0 ∷ (bytes_high_first 2 sec ++ more)))) (omega arith) refl in
    let ent_is : number 3 rest 18 ≡ ent = read_at 3 rest 18 ent (0 ∷ (bytes_high_first 2 sec ++ more)) (omega arith) refl in
    let sec_is : number 2 rest 22 ≡ sec = read_at 2 rest 22 sec more (omega arith) refl in
    entry_is hd b k done end rest (fits a1 a2 a3 a4 a5 a6 a7 a8 first 6 tail (omega arith)) last
    (good hd done a1 a2 a3 a4 a5 a6 a7 a8 first 6 tail above low high lt refl)
    ∙ rw (number_is, len_is, ent_is, sec_is) refl

alias_read : (v : Version) (bl n b k : ℕ) (done : List Listed) (end a1 a2 a3 a4 a5 a6 a7 a8 m1 m2 m3 m4 m5 m6 m7 m8 attr len ent sec first : ℕ) (more : List ℕ)
    → let name : Name = record { 0 = a1 ∷ a2 ∷ a3 ∷ a4 ∷ a5 ∷ a6 ∷ a7 ∷ a8 ∷ [] } in
    let main : Name = record { 0 = m1 ∷ m2 ∷ m3 ∷ m4 ∷ m5 ∷ m6 ∷ m7 ∷ m8 ∷ [] } in
    let hd : Head = record { version = v; kind = Modules; blocks = bl; records = n } in
    let e : Entry = record { name = name; main = main; alias = true; attr = attr; length = len; entry = ent; entry_section = sec } in
    let rest = front a1 a2 a3 a4 a5 a6 a7 a8 first 138
    (attr ∷ 0 ∷ (bytes_high_first 3 len ++ (0 ∷ (bytes_high_first 3 ent ++ (0 ∷ (bytes_high_first 2 sec ++ (m1 ∷ m2 ∷ m3 ∷ m4 ∷ m5 ∷ m6 ∷ m7 ∷ m8 ∷ more))))))) in
    bytes_eq name.0 last_name ≡ false → is_above done name ≡ true → 1 ≤ first → first ≤ n → first < 2 ^ 24
    → len < 2 ^ 24 → ent < 2 ^ 24 → sec < 2 ^ 16
    → entry_at hd b k done end rest ≡ Ok (Some (listed Modules b k end e first rest))
alias_read v bl n b k done end a1 a2 a3 a4 a5 a6 a7 a8 m1 m2 m3 m4 m5 m6 m7 m8 attr len ent sec first more last above low high lt lt1 lt2 lt3 =
    let hd : Head = record { version = v; kind = Modules; blocks = bl; records = n } in
    let on = m1 ∷ m2 ∷ m3 ∷ m4 ∷ m5 ∷ m6 ∷ m7 ∷ m8 ∷ more in
    let tail = attr ∷ 0 ∷ (bytes_high_first 3 len ++ (0 ∷ (bytes_high_first 3 ent ++ (0 ∷ (bytes_high_first 2 sec ++ on))))) in
    let rest = front a1 a2 a3 a4 a5 a6 a7 a8 first 138 tail in
    let number_is = first_read a1 a2 a3 a4 a5 a6 a7 a8 first 138 tail lt in
    let len_is : number 3 rest 14 ≡ len = read_at 3 rest 14 len (0 ∷ (bytes_high_first 3 ent ++ (0 ∷ (bytes_high_first 2 sec ++ on)))) (omega arith) refl in
    let ent_is : number 3 rest 18 ≡ ent = read_at 3 rest 18 ent (0 ∷ (bytes_high_first 2 sec ++ on)) (omega arith) refl in
    let sec_is : number 2 rest 22 ≡ sec = read_at 2 rest 22 sec on (omega arith) refl in
    entry_is hd b k done end rest (fits a1 a2 a3 a4 a5 a6 a7 a8 first 138 tail (omega arith)) last
    (good hd done a1 a2 a3 a4 a5 a6 a7 a8 first 138 tail above low high lt refl)
    ∙ rw (number_is, len_is, ent_is, sec_is) refl

-- ---- any entry

abbrev pub AsWritten : LibKind → Version → ℕ → ℕ → Entry → List ℕ → ℕ → Type 0
AsWritten kind v bl n e user first =
    (b k end : ℕ) (done : List Listed) (more : List ℕ) → is_above done e.name ≡ true
    → let rest = entry_bytes e (data_bytes kind e user) first ++ more in
    (entry_at (record { version = v; kind = kind; blocks = bl; records = n }) b k done end rest ≡ Ok (Some (listed kind b k end e first rest)))
    × (entry_length rest ≡ length (entry_bytes e (data_bytes kind e user) first))

entry_cells : (kind : LibKind) (alias : Bool) (v : Version) (bl n : ℕ) (name main : List ℕ) (attr len ent sec first : ℕ) (user : List ℕ)
    → let e : Entry = record { name = record { 0 = name }; main = record { 0 = main }; alias = alias; attr = attr; length = len; entry = ent; entry_section = sec } in
    length name ≡ 8 → length main ≡ 8 → Own alias name main → bytes_eq name last_name ≡ false → 1 ≤ first → first ≤ n → first < 2 ^ 24 → HasData kind e user
    → AsWritten kind v bl n e user first
unfolding number_bytes
entry_cells Cards alias v bl n name main attr len ent sec first user eight eight2 own last low high lt kept =
    by_cells
    (λ (xs : List ℕ). bytes_eq xs last_name ≡ false → AsWritten Cards v bl n (record { name = record { 0 = xs }; main = record { 0 = main }; alias = alias; attr = attr; length = len; entry = ent; entry_section = sec }) user first)
    (λ a1 a2 a3 a4 a5 a6 a7 a8 last b k end done more above. (
      cards_read v bl n b k done end a1 a2 a3 a4 a5 a6 a7 a8 (record { 0 = main }) alias attr len ent sec first user more last above low high lt kept,
      (let size = flag_length alias (length user) kept.4 kept.5 in omega (arith, size)),
    ))
    name eight last
entry_cells Modules false v bl n name main attr len ent sec first user eight eight2 own last low high lt kept =
    rw own
    (by_cells
    (λ (xs : List ℕ). bytes_eq xs last_name ≡ false → AsWritten Modules v bl n (record { name = record { 0 = xs }; main = record { 0 = xs }; alias = false; attr = attr; length = len; entry = ent; entry_section = sec }) user first)
    (λ a1 a2 a3 a4 a5 a6 a7 a8 last b k end done more above.
    (plain_read v bl n b k done end a1 a2 a3 a4 a5 a6 a7 a8 attr len ent sec first more last above low high lt kept.0 kept.1 kept.2, refl))
    name eight last)
entry_cells Modules true v bl n name main attr len ent sec first user eight eight2 own last low high lt kept =
    by_cells
    (λ (xs : List ℕ). bytes_eq xs last_name ≡ false → AsWritten Modules v bl n (record { name = record { 0 = xs }; main = record { 0 = main }; alias = true; attr = attr; length = len; entry = ent; entry_section = sec }) user first)
    (λ a1 a2 a3 a4 a5 a6 a7 a8 last. by_cells
    (λ (ys : List ℕ). AsWritten Modules v bl n (record { name = record { 0 = a1 ∷ a2 ∷ a3 ∷ a4 ∷ a5 ∷ a6 ∷ a7 ∷ a8 ∷ [] }; main = record { 0 = ys }; alias = true; attr = attr; length = len; entry = ent; entry_section = sec }) user first)
    (λ m1 m2 m3 m4 m5 m6 m7 m8 b k end done more above.
    (alias_read v bl n b k done end a1 a2 a3 a4 a5 a6 a7 a8 m1 m2 m3 m4 m5 m6 m7 m8 attr len ent sec first more last above low high lt kept.0 kept.1 kept.2, refl))
    main eight2)
    name eight last

pub entry_read : (hd : Head) (e : Entry) (user : List ℕ) (first : ℕ) → length e.name.0 ≡ 8 → length e.main.0 ≡ 8 → Own e.alias e.name.0 e.main.0
    → bytes_eq e.name.0 last_name ≡ false → 1 ≤ first → first ≤ hd.records → first < 2 ^ 24 → HasData hd.kind e user
    → AsWritten hd.kind hd.version hd.blocks hd.records e user first
entry_read hd e user first eight eight2 own last low high lt kept =
    entry_cells hd.kind e.alias hd.version hd.blocks hd.records e.name.0 e.main.0 e.attr e.length e.entry e.entry_section first user eight eight2 own last low high lt kept

-- the last one
pub last_read : (hd : Head) (b k end : ℕ) (done : List Listed) → entry_at hd b k done end closing ≡ Ok None
unfolding entry_at
last_read hd b k end done = refl

-- ---- user data

pub entry_long : (e : Entry) (user : List ℕ) (first : ℕ) → length e.name.0 ≡ 8 → length (entry_bytes e user first) ≡ 12 + length user
unfolding number_bytes
entry_long e user first eight =
    let a = length-append (e.name.0 ++ number_bytes 3 first) (flag_byte e user ∷ user) in
    let b = length-append e.name.0 (number_bytes 3 first) in
    omega (arith, a, b, eight)

no_part : (image user : List ℕ) → user ≡ [] → part image (record { at = 0; len = 0 }) ≡ user
no_part image user none = rw none refl

cards_part : (image user more outside : List ℕ) (first flag p end size : ℕ) (name : List ℕ) → length name ≡ 8
    → let rest = ((name ++ number_bytes 3 first) ++ (flag ∷ user)) ++ more in
    end ≡ p + length rest → size ≡ length user → drop p image ≡ rest ++ outside
    → part image (record { at = end - length rest + 12; len = size }) ≡ user
unfolding number_bytes
cards_part image user more outside first flag p end size name eight end_is size_is here =
    by_cells
    (λ (xs : List ℕ). let rest = ((xs ++ number_bytes 3 first) ++ (flag ∷ user)) ++ more in
    end ≡ p + length rest → drop p image ≡ rest ++ outside → part image (record { at = end - length rest + 12; len = size }) ≡ user)
    (λ a1 a2 a3 a4 a5 a6 a7 a8 end_is here.
    let rest = (((a1 ∷ a2 ∷ a3 ∷ a4 ∷ a5 ∷ a6 ∷ a7 ∷ a8 ∷ []) ++ number_bytes 3 first) ++ (flag ∷ user)) ++ more in
    let at : end - length rest ≡ p = omega (arith, end_is) in
    let len : p + 12 + size - (p + 12) ≡ length user = omega (arith, size_is) in
    let on : drop (p + 12) image ≡ (user ++ more) ++ outside = sym (drop-drop 12 p image) ∙ ap (λ (xs : List ℕ). drop 12 xs) here in
    let front_is : take (length user) ((user ++ more) ++ outside) ≡ user = ap (λ (xs : List ℕ). take (length user) xs) (append_assoc user more outside) ∙ take-append_seam user (more ++ outside) in
    rw (at, len, on) front_is)
    name eight end_is here

pub user_read : (kind : LibKind) (image : List ℕ) (e : Entry) (user : List ℕ) (first p end : ℕ) (more outside : List ℕ) → length e.name.0 ≡ 8 → HasData kind e user
    → let rest = entry_bytes e (data_bytes kind e user) first ++ more in
    entry_length rest ≡ length (entry_bytes e (data_bytes kind e user) first) → end ≡ p + length rest → drop p image ≡ rest ++ outside
    → part image (data_of kind end rest) ≡ user
user_read Modules image e user first p end more outside eight kept sized end_is here = no_part image user kept.3
user_read Cards image e user first p end more outside eight kept sized end_is here =
    let long = entry_long e user first eight in
    cards_part image user more outside first (flag_byte e user) p end (data_length (entry_bytes e user first ++ more)) e.name.0 eight end_is (omega (arith, sized, long)) here
