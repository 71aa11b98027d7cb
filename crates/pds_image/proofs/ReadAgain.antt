-- A written image is read as the same library.
use Rattle.std.proofs.Common.{◌≡◌, ℕ, zero, suc, ◌+◌, ◌-◌, Bool, true, false, not, ◌&&◌, ◌||◌, cond, eqb, List, [], ◌∷◌, ◌++◌, length, take, drop, map, Option, Some, Ok, refl, sym, ap, ◌∙◌, subst, arith, length-append, append_assoc, inl, inr, ◌⊎◌}
use Rattle.std.specs.Prelude.{slice_get}
use Rattle.std.specs.Option.{option_map_or}
use Rattle.std.specs.List.{AllByRecursion, prefix_len, list_any}
use Rattle.std.proofs.lemmas.Bool.Decides.{nat_tests}
use Rattle.std.proofs.lemmas.List.{take-map, drop-map}
use Rattle.std.proofs.lemmas.Grind.{flat_map-append}
use Rattle.std.proofs.Math.Seq.{drop-append_seam, take-append_seam}
use Rattle.le_bytes.specs.Names.{name_eq}
use Rattle.pds_directory.specs.declared.kinds.LibKind.{LibKind}
use Rattle.pds_directory.specs.declared.kinds.LibKind.TheVariants.{Cards, Modules}
use Rattle.pds_directory.specs.declared.kinds.Version.{Version}
use Rattle.pds_directory.specs.declared.entry.Entry.{Entry}
use Rattle.pds_directory.specs.declared.entry.Span.{Span}
use Rattle.pds_directory.specs.declared.entry.Listed.{Listed}
use Rattle.pds_directory.specs.declared.header.Head.{Head}
use Rattle.pds_directory.specs.Parts.{part}
use Rattle.pds_directory.specs.Places.{width, ends_from, ends_of, run_length}
use Rattle.pds_directory.specs.Directory.{owner_from, owner_of, may_begin, names_owner, keeps_rules, rules_from, rules_of}
use Rattle.pds_lib.specs.Grammar.{places_from, main_of, member_of, members_of}
use Rattle.pds_lib.specs.Contents.{Held, Contents}
use Rattle.pds_image.specs.Image.{first_record}
use Rattle.pds_lib.specs.Sound.{IsRecord, IsHeld, IsSound, HasMain}
use Rattle.pds_image.proofs.EntryAgain.{as_read}
use Rattle.pds_image.proofs.RecordsAgain.{spans_of, LastEnds}
use Rattle.pds_image.proofs.BlocksAgain.{Matches, AllMatch}
use Rattle.pds_image.proofs.PlacesAgain.{held_at, body_texts, texts, start, texts_at, Numbered, first_of, own_main, first_is, owner_held, owner_main, found, numbered, same_name}

-- ---- what was read of an entry, in its place

alias_kept : (kind : LibKind) (e : Entry) → (as_read kind e).alias ≡ e.alias
alias_kept Cards e = refl
alias_kept Modules e = refl

name_kept : (kind : LibKind) (e : Entry) → (as_read kind e).name ≡ e.name
name_kept Cards e = refl
name_kept Modules e = refl

pub record At (hd : Head) (f : Held → ℕ) (image : List ℕ) (xs : List Listed) (i : ℕ) (h : Held) : Type 0 where
  pub item : Listed
  pub there : slice_get xs i ≡ Some item
  pub matches : Matches hd f image item h

pub match_at : (hd : Head) (f : Held → ℕ) (image : List ℕ) (xs : List Listed) (pre : List Held) (h : Held) (post : List Held)
    → AllMatch hd f image xs (pre ++ h ∷ post) → At hd f image xs (length pre) h
match_at hd f image [] [] h post all = absurd all
match_at hd f image [] (g ∷ pre) h post all = absurd all
match_at hd f image (x ∷ xs) [] h post all = record { item = x; there = refl; matches = all.0 }
match_at hd f image (x ∷ xs) (g ∷ pre) h post all =
    let next = match_at hd f image xs pre h post all.1 in
    record { item = next.item; there = next.there; matches = next.matches }

pub owners_read : (hd : Head) (f : Held → ℕ) (image : List ℕ) (xs : List Listed) (hs : List Held) (i t : ℕ) → AllMatch hd f image xs hs
    → owner_from i xs t ≡ owner_held f i hs t
unfolding owner_from owner_held
owners_read hd f image [] [] i t all = refl
owners_read hd f image [] (h ∷ hs) i t all = absurd all
owners_read hd f image (x ∷ xs) [] i t all = absurd all
owners_read hd f image (x ∷ xs) (h ∷ hs) i t all =
    let a : x.entry.alias ≡ h.entry.alias = ap (λ (e : Entry). e.alias) all.0.entry ∙ alias_kept hd.kind h.entry in
    rw (a, all.0.first, owners_read hd f image xs hs (i + 1) t all.1) refl

-- ---- records of a member

run_whole : (v : Version) (at : ℕ) (rs : List (List ℕ)) → run_length (spans_of v at rs) ≡ prefix_len (λ r. not (eqb (length r) 0)) rs
unfolding spans_of
run_whole v at [] = refl
run_whole v at (r ∷ rs) = ap (λ (n : ℕ). cond (not (eqb (length r) 0)) (1 + n) 0) (run_whole v (at + width v + length r) rs)

run_is : (v : Version) (at : ℕ) (rs : List (List ℕ)) (n : ℕ) → run_length (drop n (spans_of v at rs)) ≡ prefix_len (λ r. not (eqb (length r) 0)) (drop n rs)
unfolding spans_of
run_is v at rs zero = run_whole v at rs
run_is v at [] (suc n) = refl
run_is v at (r ∷ rs) (suc n) = run_is v (at + width v + length r) rs n

run_of_member : (lib : Contents) (rs more : List (List ℕ)) → AllByRecursion (IsRecord lib) rs → prefix_len (λ r. not (eqb (length r) 0)) (rs ++ [] ∷ more) ≡ length rs
run_of_member lib [] more all = refl
run_of_member lib (r ∷ rs) more all =
    let low = all.0.0 in
    let some : eqb (length r) 0 ≡ false = grind (arith, nat_tests, low) in
    let n : 1 + length rs ≡ length (r ∷ rs) = omega arith in
    rw (some, run_of_member lib rs more all.1) n

pub member_records : (lib : Contents) (image : List ℕ) (ss : List Span) (at first : ℕ) (pre : List Held) (m : Held) (post : List Held)
    → map (part image) ss ≡ texts (pre ++ m ∷ post) → ss ≡ spans_of lib.version at (texts (pre ++ m ∷ post)) → m.entry.alias ≡ false
    → AllByRecursion (IsRecord lib) m.records → first ≡ start pre → map (part image) (places_from ss first) ≡ m.records
unfolding start
member_records lib image ss at first pre m post parts is main good first_is =
    let v = lib.version in
    let all = texts (pre ++ m ∷ post) in
    let k : first - 1 ≡ length (texts pre) = omega (arith, first_is) in
    let on : drop (length (texts pre)) all ≡ m.records ++ [] ∷ texts post =
    ap (drop (length (texts pre))) (texts_at pre m post main) ∙ drop-append_seam (texts pre) (m.records ++ [] ∷ texts post) in
    let run : run_length (drop (length (texts pre)) ss) ≡ length m.records =
    ap (λ (xs : List Span). run_length (drop (length (texts pre)) xs)) is ∙ run_is v at all (length (texts pre))
    ∙ ap (prefix_len (λ r. not (eqb (length r) 0))) on ∙ run_of_member lib m.records (texts post) good in
    let moved : map (part image) (take (length m.records) (drop (length (texts pre)) ss)) ≡ take (length m.records) (drop (length (texts pre)) (map (part image) ss)) =
    sym (take-map (part image) (length m.records) (drop (length (texts pre)) ss)) ∙ ap (take (length m.records)) (sym (drop-map (part image) (length (texts pre)) ss)) in
    rw (k, run) (moved ∙ ap (λ (ts : List (List ℕ)). take (length m.records) (drop (length (texts pre)) ts)) parts ∙ ap (take (length m.records)) on ∙ take-append_seam m.records ([] ∷ texts post))

-- ---- members begin behind ends

any_or : (a b : Bool) → b ≡ true → (a || b) ≡ true
any_or true b e = refl
any_or false b e = e

ends_more : (k n : ℕ) (es : List ℕ) (b : Bool) → list_any (λ e. eqb e n) es ≡ true → list_any (λ e. eqb e n) ((cond b (k ∷ []) []) ++ es) ≡ true
ends_more k n es true here = any_or (eqb k n) (list_any (λ e. eqb e n) es) here
ends_more k n es false here = here

end_there : (v : Version) (k at : ℕ) (ts more : List (List ℕ)) → list_any (λ e. eqb e (k + length ts)) (ends_from k (spans_of v at (ts ++ [] ∷ more))) ≡ true
unfolding ends_from spans_of
end_there v k at [] more =
    let same : eqb k (k + length {A = List ℕ} []) ≡ true = grind (arith, nat_tests) in
    rw same refl
end_there v k at (t ∷ ts) more =
    let n : k + length (t ∷ ts) ≡ k + 1 + length ts = omega arith in
    rw n (ends_more k (k + 1 + length ts) (ends_from (k + 1) (spans_of v (at + width v + length t) (ts ++ [] ∷ more))) (eqb (length t) 0) (end_there v (k + 1) (at + width v + length t) ts more))

last_split : (ts : List (List ℕ)) → LastEnds ts → (ts ≡ []) ⊎ ((us : List (List ℕ)) × (ts ≡ us ++ [] ∷ []))
last_split [] ends = inl refl
last_split (t ∷ []) ends = inr ([], ap (λ (x : List ℕ). x ∷ []) ends)
last_split (t ∷ s ∷ ts) ends =
    elim (last_split (s ∷ ts) ends) [
      | inl e ↦ absurd (let bad : s ∷ ts ≡ [] = e in cc)
      | inr u ↦ inr (t ∷ u.0, ap (λ (xs : List (List ℕ)). t ∷ xs) u.1)
    ]

last_append : (xs ys : List (List ℕ)) → LastEnds xs → LastEnds ys → LastEnds (xs ++ ys)
last_append [] ys a b = b
last_append (x ∷ []) [] a b = a
last_append (x ∷ []) (y ∷ ys) a b = b
last_append (x ∷ z ∷ xs) ys a b = last_append (z ∷ xs) ys a b

last_record : (rs : List (List ℕ)) → LastEnds (rs ++ [] ∷ [])
last_record [] = refl
last_record (r ∷ []) = refl
last_record (r ∷ s ∷ rs) = last_record (s ∷ rs)

last_body : (h : Held) (b : Bool) → b ≡ h.entry.alias → LastEnds (body_texts h)
last_body h true is = rw (← is) tt
last_body h false is = rw (← is) (last_record h.records)

pub texts_end : (hs : List Held) → LastEnds (texts hs)
texts_end [] = tt
texts_end (h ∷ hs) = last_append (body_texts h) (texts hs) (last_body h h.entry.alias refl) (texts_end hs)

pub begins_well : (v : Version) (at : ℕ) (pre hs : List Held) → may_begin (ends_of (spans_of v at (texts (pre ++ hs)))) (start pre) ≡ true
unfolding start
begins_well v at pre hs =
    let all : texts (pre ++ hs) ≡ texts pre ++ texts hs = flat_map-append body_texts pre hs in
    elim (last_split (texts pre) (texts_end pre)) [
      | inl none ↦ let one : eqb (1 + length (texts pre)) 1 ≡ true = rw none refl in rw one refl
      | inr u ↦
          let shape : texts (pre ++ hs) ≡ u.0 ++ [] ∷ texts hs = all ∙ ap (λ (ts : List (List ℕ)). ts ++ texts hs) u.1 ∙ append_assoc u.0 ([] ∷ []) (texts hs) in
          let l : length (texts pre) ≡ length u.0 + 1 = ap length u.1 ∙ length-append u.0 ([] ∷ []) in
          let n : 1 + length (texts pre) - 1 ≡ 1 + length u.0 = omega (arith, l) in
          rw (n, shape) (any_or (eqb (1 + length (texts pre)) 1) _ (end_there v 1 at u.0 (texts hs)))
    ]

-- ---- rules

-- the main entry of an alias, in its place
pub record MainOf (lib : Contents) (h : Held) : Type 0 where
  pub main : Held
  pub before : List Held
  pub behind : List Held
  pub is : lib.members ≡ before ++ main ∷ behind
  pub name : main.entry.name ≡ h.entry.main
  pub plain : main.entry.alias ≡ false
  pub first : first_of lib h ≡ first_of lib main
  pub records : h.records ≡ main.records

main_case : (lib : Contents) (h : Held) (b : Bool) → IsSound lib → b ≡ h.entry.alias → HasMain b lib h → b ≡ true → MainOf lib h
main_case lib h false sound is has alias = absurd cc
main_case lib h true sound is has alias =
    let f = found h.entry.main lib.members has.0 has.1 in
    let held : IsHeld lib has.0 = held_at lib f.split.before has.0 f.split.behind f.split.is sound in
    let own = own_main lib has.0 held has.2 in
    record {
      main = has.0;
      before = f.split.before;
      behind = f.split.behind;
      is = f.split.is;
      name = f.name;
      plain = has.2;
      first = ap (first_record lib) (sym (own ∙ f.name));
      records = has.3;
    }

pub main_found : (lib : Contents) (h : Held) → IsSound lib → IsHeld lib h → h.entry.alias ≡ true → MainOf lib h
main_found lib h sound held alias = main_case lib h h.entry.alias sound refl held.main alias

-- all that was read of a library: its entries match and its records are there
pub record Scene (lib : Contents) : Type 0 where
  pub hd : Head
  pub image : List ℕ
  pub xs : List Listed
  pub ss : List Span
  pub at : ℕ
  pub kind : hd.kind ≡ lib.kind
  pub sound : IsSound lib
  pub matches : AllMatch hd (first_of lib) image xs lib.members
  pub spans : ss ≡ spans_of lib.version at (texts lib.members)
  pub parts : map (part image) ss ≡ texts lib.members

owner_there : (lib : Contents) (s : Scene lib) (pre : List Held) (m : Held) (post : List Held) → lib.members ≡ pre ++ m ∷ post → m.entry.alias ≡ false
    → owner_of s.xs (first_of lib m) ≡ Some (length pre)
owner_there lib s pre m post is main =
    let i_is : 0 + length pre ≡ length pre = omega arith in
    owners_read s.hd (first_of lib) s.image s.xs lib.members 0 (first_of lib m) s.matches
    ∙ ap (λ (hs : List Held). owner_held (first_of lib) 0 hs (first_of lib m)) is
    ∙ owner_main (first_of lib) 1 0 pre m post (subst (λ (hs : List Held). Numbered (first_of lib) 1 hs) is (numbered lib s.sound)) main
    ∙ ap (λ (n : ℕ). Some n) i_is

keeps_main : (lib : Contents) (s : Scene lib) (pre : List Held) (h : Held) (post : List Held) (x : Listed) → lib.members ≡ pre ++ h ∷ post
    → Matches s.hd (first_of lib) s.image x h → h.entry.alias ≡ false → keeps_rules (record { head = s.hd; entries = s.xs }) (ends_of s.ss) (length pre) x ≡ true
unfolding keeps_rules
keeps_main lib s pre h post x is match main =
    let plain : x.entry.alias ≡ false = ap (λ (e : Entry). e.alias) match.entry ∙ alias_kept s.hd.kind h.entry ∙ main in
    let owned : owner_of s.xs x.first ≡ Some (length pre) = ap (owner_of s.xs) match.first ∙ owner_there lib s pre h post is main in
    let same : eqb (length pre) (length pre) ≡ true = grind (arith, nat_tests) in
    let begins : may_begin (ends_of s.ss) x.first ≡ true =
    ap (may_begin (ends_of s.ss)) (match.first ∙ first_is lib pre h post s.sound is main)
    ∙ ap (λ (ss : List Span). may_begin (ends_of ss) (start pre)) (s.spans ∙ ap (λ (hs : List Held). spans_of lib.version s.at (texts hs)) is)
    ∙ begins_well lib.version s.at pre (h ∷ post) in
    rw (plain, owned, same, begins) refl

named : (kind : LibKind) (xs : List Listed) (x y : Listed) (j : ℕ) (h m : Held) → slice_get xs j ≡ Some y → y.entry ≡ as_read kind m.entry → x.entry ≡ as_read kind h.entry
    → m.entry.name ≡ h.entry.main → names_owner kind xs x j ≡ true
named Cards xs x y j h m there mine yours same = refl
named Modules xs x y j h m there mine yours same =
    let test : name_eq y.entry.name x.entry.main ≡ true = rw (mine, yours, same) (same_name h.entry.main) in
    rw there test

keeps_alias : (lib : Contents) (s : Scene lib) (pre : List Held) (h : Held) (post : List Held) (x : Listed) → lib.members ≡ pre ++ h ∷ post
    → Matches s.hd (first_of lib) s.image x h → h.entry.alias ≡ true → keeps_rules (record { head = s.hd; entries = s.xs }) (ends_of s.ss) (length pre) x ≡ true
unfolding keeps_rules
keeps_alias lib s pre h post x is match alias =
    let held : IsHeld lib h = held_at lib pre h post is s.sound in
    let m = main_found lib h s.sound held alias in
    let other : x.entry.alias ≡ true = ap (λ (e : Entry). e.alias) match.entry ∙ alias_kept s.hd.kind h.entry ∙ alias in
    let owned : owner_of s.xs x.first ≡ Some (length m.before) = ap (owner_of s.xs) (match.first ∙ m.first) ∙ owner_there lib s m.before m.main m.behind m.is m.plain in
    let y = match_at s.hd (first_of lib) s.image s.xs m.before m.main m.behind (subst (λ (hs : List Held). AllMatch s.hd (first_of lib) s.image s.xs hs) m.is s.matches) in
    let names : names_owner s.hd.kind s.xs x (length m.before) ≡ true = named s.hd.kind s.xs x y.item (length m.before) h m.main y.there y.matches.entry match.entry m.name in
    ap (λ (b : Bool). cond b (option_map_or (names_owner s.hd.kind s.xs x) (owner_of s.xs x.first) false)
    (may_begin (ends_of s.ss) x.first && option_map_or (λ j. eqb j (length pre)) (owner_of s.xs x.first) false)) other
    ∙ ap (λ (o : Option ℕ). option_map_or (names_owner s.hd.kind s.xs x) o false) owned ∙ names

keeps : (lib : Contents) (s : Scene lib) (pre : List Held) (h : Held) (post : List Held) (x : Listed) (b : Bool) → b ≡ h.entry.alias → lib.members ≡ pre ++ h ∷ post
    → Matches s.hd (first_of lib) s.image x h → keeps_rules (record { head = s.hd; entries = s.xs }) (ends_of s.ss) (length pre) x ≡ true
keeps lib s pre h post x true alias is match = keeps_alias lib s pre h post x is match (sym alias)
keeps lib s pre h post x false alias is match = keeps_main lib s pre h post x is match (sym alias)

rules_kept : (lib : Contents) (s : Scene lib) (pre hs : List Held) (xs : List Listed) → lib.members ≡ pre ++ hs → AllMatch s.hd (first_of lib) s.image xs hs
    → rules_from (record { head = s.hd; entries = s.xs }) (ends_of s.ss) (length pre) xs ≡ Ok tt
unfolding rules_from
rules_kept lib s pre [] [] is all = refl
rules_kept lib s pre (h ∷ hs) [] is all = absurd all
rules_kept lib s pre [] (x ∷ xs) is all = absurd all
rules_kept lib s pre (h ∷ hs) (x ∷ xs) is all =
    let one = keeps lib s pre h hs x h.entry.alias refl is all.0 in
    let n : length pre + 1 ≡ length (pre ++ h ∷ []) = let l = length-append pre (h ∷ []) in omega (arith, l) in
    rw (one, n) (rules_kept lib s (pre ++ h ∷ []) hs xs (is ∙ sym (append_assoc pre (h ∷ []) hs)) all.1)

pub all_rules : (lib : Contents) (s : Scene lib) → rules_of (record { head = s.hd; entries = s.xs }) (ends_of s.ss) ≡ Ok tt
all_rules lib s = rules_kept lib s [] lib.members s.xs refl s.matches

-- ---- members

entry_again : (kind : LibKind) (e : Entry) → record (as_read kind e) { main = e.main } ≡ e
entry_again Cards e = refl
entry_again Modules e = refl

main_again : (kind : LibKind) (e : Entry) → e.main ≡ e.name → (as_read kind e).main ≡ e.main
main_again Cards e own = sym own
main_again Modules e own = refl

-- the main entry and the records that are read of an entry
pub record Again (lib : Contents) (s : Scene lib) (x : Listed) (h : Held) : Type 0 where
  pub main : main_of s.xs x ≡ h.entry.main
  pub records : map (part s.image) (places_from s.ss x.first) ≡ h.records

records_again : (lib : Contents) (s : Scene lib) (pre : List Held) (m : Held) (post : List Held) (first : ℕ) → lib.members ≡ pre ++ m ∷ post → m.entry.alias ≡ false
    → first ≡ first_of lib m → map (part s.image) (places_from s.ss first) ≡ m.records
records_again lib s pre m post first is main same =
    let held : IsHeld lib m = held_at lib pre m post is s.sound in
    member_records lib s.image s.ss s.at first pre m post (s.parts ∙ ap texts is) (s.spans ∙ ap (λ (hs : List Held). spans_of lib.version s.at (texts hs)) is) main held.records
    (same ∙ first_is lib pre m post s.sound is main)

again_case : (lib : Contents) (s : Scene lib) (pre : List Held) (h : Held) (post : List Held) (x : Listed) (b : Bool) → b ≡ h.entry.alias → lib.members ≡ pre ++ h ∷ post
    → Matches s.hd (first_of lib) s.image x h → Again lib s x h
again_case lib s pre h post x false alias is match =
    let held : IsHeld lib h = held_at lib pre h post is s.sound in
    let plain : x.entry.alias ≡ false = ap (λ (e : Entry). e.alias) match.entry ∙ alias_kept s.hd.kind h.entry ∙ sym alias in
    let own : x.entry.main ≡ h.entry.main = ap (λ (e : Entry). e.main) match.entry ∙ main_again s.hd.kind h.entry (own_main lib h held (sym alias)) in
    record { main = rw plain own; records = records_again lib s pre h post x.first is (sym alias) match.first }
again_case lib s pre h post x true alias is match =
    let held : IsHeld lib h = held_at lib pre h post is s.sound in
    let m = main_found lib h s.sound held (sym alias) in
    let other : x.entry.alias ≡ true = ap (λ (e : Entry). e.alias) match.entry ∙ alias_kept s.hd.kind h.entry ∙ sym alias in
    let owned : owner_of s.xs x.first ≡ Some (length m.before) = ap (owner_of s.xs) (match.first ∙ m.first) ∙ owner_there lib s m.before m.main m.behind m.is m.plain in
    let y = match_at s.hd (first_of lib) s.image s.xs m.before m.main m.behind (subst (λ (hs : List Held). AllMatch s.hd (first_of lib) s.image s.xs hs) m.is s.matches) in
    let name : y.item.entry.name ≡ h.entry.main = ap (λ (e : Entry). e.name) y.matches.entry ∙ name_kept s.hd.kind m.main.entry ∙ m.name in
    record {
      main = rw (other, owned, y.there) name;
      records = records_again lib s m.before m.main m.behind x.first m.is m.plain (match.first ∙ m.first) ∙ sym m.records;
    }

member_again : (lib : Contents) (s : Scene lib) (x : Listed) (h : Held) → Matches s.hd (first_of lib) s.image x h → Again lib s x h → member_of s.image s.ss s.xs x ≡ h
member_again lib s x h match again =
    rw (again.main, again.records, match.user, match.entry) (ap (λ (e : Entry). record { entry = e; user_data = h.user_data; records = h.records }) (entry_again s.hd.kind h.entry))

members_from : (lib : Contents) (s : Scene lib) (pre hs : List Held) (xs : List Listed) → lib.members ≡ pre ++ hs → AllMatch s.hd (first_of lib) s.image xs hs
    → map (member_of s.image s.ss s.xs) xs ≡ hs
members_from lib s pre [] [] is all = refl
members_from lib s pre (h ∷ hs) [] is all = absurd all
members_from lib s pre [] (x ∷ xs) is all = absurd all
members_from lib s pre (h ∷ hs) (x ∷ xs) is all =
    let one = member_again lib s x h all.0 (again_case lib s pre h hs x h.entry.alias refl is all.0) in
    rw (one, members_from lib s (pre ++ h ∷ []) hs xs (is ∙ sym (append_assoc pre (h ∷ []) hs)) all.1) refl

pub members_again : (lib : Contents) (s : Scene lib) → members_of s.image s.ss s.xs ≡ lib.members
members_again lib s = members_from lib s [] lib.members s.xs refl s.matches
