-- The scatter and translation items that a reader wants are those that are written.
use Rattle.std.proofs.Common.{◌≡◌, ℕ, zero, suc, ◌+◌, ◌<◌, ◌≤◌, Bool, true, false, cond, ◌==◌, if◌then◌else◌, List, [], ◌∷◌, ◌++◌, map, filter, length, take, replicate, Option, Some, None, slice_get, refl, sym, ap, subst, ◌∙◌, add-zero, arith}
use Rattle.std.specs.Prelude.{count_by, option_map}
use Rattle.std.specs.Option.{option_map_or}
use Rattle.std.proofs.lemmas.Bool.{cond-true, cond-false}
use Rattle.std.proofs.lemmas.List.{append_assoc, append-nil, length-append, length-map, length-take-le, map-append, take-append-le, replicate-append-replicate}
use Rattle.std.proofs.lemmas.List.Elements.{filter-append}
use Rattle.std.proofs.lemmas.List.FromFn.{length-enumerate_from}
use Rattle.std.proofs.lemmas.List.Sums.{length-filter}
use Rattle.std.specs.List.{AllByRecursion, enumerate_from}
use Rattle.sym_mod.specs.Sound.{IsSoundLabel}
use Rattle.sym_mod.specs.declared.program.SecKind.{SecKind}
use Rattle.sym_mod.specs.declared.program.SecKind.TheVariants.{Sd, Pc, Cm}
use Rattle.sym_mod.specs.declared.program.Label.{Label}
use Rattle.sym_mod.specs.declared.program.Unknown.{Unknown}
use Rattle.sym_mod.specs.declared.program.Register.{Register}
use Rattle.load_recs.specs.declared.items.SymbolItem.{SymbolItem}
use Rattle.load_recs.specs.declared.items.SymbolKind.TheVariants.{Er, Wx}
use Rattle.linking_model.specs.Places.{Laid}
use Rattle.member_model.specs.Parts.{Part, OneSection, parts, part_kind, part_place, part_number}
use Rattle.load_recs.specs.Kinds.{is_section_kind}
use Rattle.member_model.specs.Symbols.{is_section, symbol_at, section_as, section_of, section_rank, section_addresses}
use Rattle.member_model.specs.SymbolList.{symbol_kind, part_symbol, label_symbol, unresolved_symbol, register_symbol, symbols_written, translation_numbers}
use Rattle.member_model.specs.Faults.{translations}
use Rattle.member_laws.specs.Linkable.{IsLinkable}
use Rattle.member_laws.proofs.Distinct.{number_at}
use Rattle.member_laws.proofs.HeadsWritten.{map-of-map, part_places}
use Rattle.member_laws.proofs.Lists.{each-map, each-always, each-take}
use Rattle.member_laws.proofs.Membership.{Has, has-all, has-at}
use Rattle.member_laws.proofs.Numbered.{IsPart, is-numbered, number-within, from-part, section-part}
use Rattle.member_laws.proofs.SymbolsFine.{section-kind}
use Rattle.member_laws.proofs.SymbolsWritten.{is-owned}
use Rattle.member_laws.proofs.Targets.{symbol-next, mapped, fourth-of, symbol-of-part, label-there, unresolved-there}

-- ---- lists

enumerate-append : {X : Type 0} (j : ℕ) (xs ys : List X) → enumerate_from j (xs ++ ys) ≡ enumerate_from j xs ++ enumerate_from (j + length xs) ys
enumerate-append j [] ys = ap (λ k. enumerate_from k ys) (sym (add-zero j))
enumerate-append j (x ∷ xs) ys =
    ap (λ l. (j, x) ∷ l) (enumerate-append (j + 1) xs ys ∙ ap (λ k. enumerate_from (j + 1) xs ++ enumerate_from k ys) (moved j (length xs)))
  where
    moved : (j n : ℕ) → j + 1 + n ≡ j + suc n
    moved j n = omega arith

map-enumerated : {X Y Z : Type 0} (g : ℕ × Y → Z) (f : X → Y) (h : X → Z) (j : ℕ) (xs : List X) → ((k : ℕ) (x : X) → slice_get xs k ≡ Some x → g (j + k, f x) ≡ h x)
    → map g (enumerate_from j (map f xs)) ≡ map h xs
map-enumerated g f h j [] same = refl
map-enumerated g f h j (x ∷ xs) same =
    ap (λ z. z ∷ map g (enumerate_from (j + 1) (map f xs))) (ap (λ n. g (n, f x)) (sym (add-zero j)) ∙ same 0 x refl)
    ∙ ap (λ l. h x ∷ l) (map-enumerated g f h (j + 1) xs (λ k y there. ap (λ n. g (n, f y)) (moved j k) ∙ same (suc k) y there))
  where
    moved : (j k : ℕ) → j + 1 + k ≡ j + suc k
    moved j k = omega arith

zero-of : {X : Type 0} → X → ℕ
zero-of x = 0

map-zeros : {X : Type 0} (xs : List X) → map zero-of xs ≡ replicate (length xs) 0
unfolding zero-of
map-zeros [] = refl
map-zeros (x ∷ xs) = ap (λ l. 0 ∷ l) (map-zeros xs)

-- four lists one after the other, numbered
four-numbered : {Y Z : Type 0} (g : ℕ × Y → Z) (a b c d : List Y) (j p q r : ℕ) → length a ≡ p → length b ≡ q → length c ≡ r
    → map g (enumerate_from j (a ++ b ++ c ++ d))
    ≡ map g (enumerate_from j a) ++ map g (enumerate_from (j + p) b) ++ map g (enumerate_from (j + p + q) c) ++ map g (enumerate_from (j + p + q + r) d)
four-numbered {Y} g a b c d j p q r e f h =
    let ab : length (a ++ b) ≡ length a + length b = length-append a b in
    let abc : length (a ++ b ++ c) ≡ length (a ++ b) + length c = length-append (a ++ b) c in
    let last : enumerate_from (j + length (a ++ b ++ c)) d ≡ enumerate_from (j + p + q + r) d = ap (λ n. enumerate_from n d) (omega arith) in
    let third : enumerate_from (j + length (a ++ b)) c ≡ enumerate_from (j + p + q) c = ap (λ n. enumerate_from n c) (omega arith) in
    let second : enumerate_from (j + length a) b ≡ enumerate_from (j + p) b = ap (λ n. enumerate_from (j + n) b) e in
    ap (map g) (enumerate-append j (a ++ b ++ c) d ∙ ap (λ l. enumerate_from j (a ++ b ++ c) ++ l) last
    ∙ ap (λ l. l ++ enumerate_from (j + p + q + r) d) (enumerate-append j (a ++ b) c ∙ ap (λ l. enumerate_from j (a ++ b) ++ l) third
    ∙ ap (λ l. l ++ enumerate_from (j + p + q) c) (enumerate-append j a b ∙ ap (λ l. enumerate_from j a ++ l) second)))
    ∙ map-append g (enumerate_from j a ++ enumerate_from (j + p) b ++ enumerate_from (j + p + q) c) (enumerate_from (j + p + q + r) d)
    ∙ ap (λ l. l ++ map g (enumerate_from (j + p + q + r) d)) (map-append g (enumerate_from j a ++ enumerate_from (j + p) b) (enumerate_from (j + p + q) c)
    ∙ ap (λ l. l ++ map g (enumerate_from (j + p + q) c)) (map-append g (enumerate_from j a) (enumerate_from (j + p) b)))

filter-all : {X : Type 0} (test : X → Bool) (xs : List X) → AllByRecursion (λ x. test x ≡ true) xs → filter test xs ≡ xs
filter-all test [] all = refl
filter-all test (x ∷ xs) all = cond-true (test x) (x ∷ filter test xs) (filter test xs) all.0 ∙ ap (λ l. x ∷ l) (filter-all test xs all.1)

filter-none : {X : Type 0} (test : X → Bool) (xs : List X) → AllByRecursion (λ x. test x ≡ false) xs → filter test xs ≡ []
filter-none test [] all = refl
filter-none test (x ∷ xs) all = cond-false (test x) (x ∷ filter test xs) (filter test xs) all.0 ∙ filter-none test xs all.1

count-all : {X : Type 0} (test : X → Bool) (xs : List X) → AllByRecursion (λ x. test x ≡ true) xs → count_by test xs ≡ length xs
count-all test xs all = sym (length-filter test xs) ∙ ap length (filter-all test xs all)

-- ---- sections

parts-are-sections : (P : Laid) → AllByRecursion (λ x. is_section x ≡ true) (map (part_symbol P) (parts P))
parts-are-sections P = each-map (λ x. is_section x ≡ true) (part_symbol P) (parts P) (each-always _ (λ x. section-kind (part_kind P x)) (parts P))

weak-no-section : (weak : Bool) → is_section_kind (if weak then Wx else Er) ≡ false
weak-no-section true = refl
weak-no-section false = refl

pub sections-are : (P : Laid) → filter is_section (symbols_written P) ≡ map (part_symbol P) (parts P)
unfolding symbols_written
sections-are P =
    let a = map (part_symbol P) (parts P) in
    let b = map (label_symbol P) P.program.labels in
    let c = map unresolved_symbol P.program.unresolved in
    let d = map (register_symbol P.program.registers) (enumerate_from 0 P.program.registers) in
    filter-append is_section (a ++ b ++ c) d
    ∙ ap (λ l. l ++ filter is_section d) (filter-append is_section (a ++ b) c ∙ ap (λ l. l ++ filter is_section c) (filter-append is_section a b))
    ∙ four _ _ _ _ a (filter-all is_section a (parts-are-sections P))
    (filter-none is_section b (each-map (λ x. is_section x ≡ false) (label_symbol P) P.program.labels (each-always _ (λ x. refl) P.program.labels)))
    (filter-none is_section c (each-map (λ x. is_section x ≡ false) unresolved_symbol P.program.unresolved (each-always _ (λ x. weak-no-section x.weak) P.program.unresolved)))
    (filter-none is_section d (each-map (λ x. is_section x ≡ false) (register_symbol P.program.registers) (enumerate_from 0 P.program.registers) (each-always _ (λ x. refl) (enumerate_from 0 P.program.registers))))
  where
    four : (p q r t a : List SymbolItem) → p ≡ a → q ≡ [] → r ≡ [] → t ≡ [] → p ++ q ++ r ++ t ≡ a
    four p q r t a e f g h = rw (e, f, g, h) (append-nil (a ++ [] ++ []) ∙ append-nil (a ++ []) ∙ append-nil a)

pub sections-count : (P : Laid) → count_by is_section (symbols_written P) ≡ length (parts P)
sections-count P = sym (length-filter is_section (symbols_written P)) ∙ ap length (sections-are P) ∙ length-map (parts P) (part_symbol P)

pub addresses-are : (P : Laid) → section_addresses (symbols_written P) ≡ part_places P
addresses-are P =
    ap (map (λ (x : SymbolItem). x.address)) (sections-are P) ∙ sym (map-of-map (λ (x : SymbolItem). x.address) (part_symbol P) (parts P))

-- ---- ranks

first-sections : (P : Laid) (n : ℕ) → n ≤ length (parts P) → count_by is_section (take n (symbols_written P)) ≡ n
unfolding symbols_written
first-sections P n low =
    let a = map (part_symbol P) (parts P) in
    let b = map (label_symbol P) P.program.labels in
    let c = map unresolved_symbol P.program.unresolved in
    let d = map (register_symbol P.program.registers) (enumerate_from 0 P.program.registers) in
    let len : length a ≡ length (parts P) = length-map (parts P) (part_symbol P) in
    let ab : length (a ++ b) ≡ length a + length b = length-append a b in
    let abc : length (a ++ b ++ c) ≡ length (a ++ b) + length c = length-append (a ++ b) c in
    ap (count_by is_section) (take-append-le n (a ++ b ++ c) d (omega arith) ∙ take-append-le n (a ++ b) c (omega arith) ∙ take-append-le n a b (omega arith))
    ∙ count-all is_section (take n a) (each-take (λ x. is_section x ≡ true) n a (parts-are-sections P))
    ∙ length-take-le n a (omega arith)

-- the rank of a part among the sections is its number
rank-of-part : (P : Laid) (x : Part) → IsPart P x → section_rank (symbols_written P) (part_number P x) ≡ part_number P x
rank-of-part P x is =
    let within = number-within P x is in
    ap (λ o. if option_map_or is_section o false then count_by is_section (take (part_number P x) (symbols_written P)) else 0) (symbol-of-part P x is)
    ∙ cond-true (is_section (part_symbol P x)) (count_by is_section (take (part_number P x) (symbols_written P))) 0 (section-kind (part_kind P x))
    ∙ first-sections P (part_number P x) within.1

section-itself : (k : SecKind) (n len : ℕ) → section_as n len (symbol_kind k) ≡ n
section-itself Sd n len = refl
section-itself Pc n len = refl
section-itself Cm n len = refl

section-of-part : (P : Laid) (x : Part) → IsPart P x → section_of (symbols_written P) (part_number P x) ≡ part_number P x
section-of-part P x is =
    ap (λ o. option_map_or (λ y. section_as (part_number P x) y.length y.kind) o (part_number P x)) (symbol-of-part P x is)
    ∙ section-itself (part_kind P x) (part_number P x) (part_symbol P x).length

-- the rank of the section of item n, where that is this symbol
rank-at : (symbols : List SymbolItem) (n : ℕ) (y : SymbolItem) → symbol_at symbols n ≡ Some y → section_as n y.length y.kind ≡ n → is_section y ≡ false → section_rank symbols (section_of symbols n) ≡ 0
rank-at symbols n y there itself none =
    ap (section_rank symbols) (ap (λ o. option_map_or (λ z. section_as n z.length z.kind) o n) there ∙ itself)
    ∙ ap (λ o. if option_map_or is_section o false then count_by is_section (take n symbols) else 0) there
    ∙ cond-false (is_section y) (count_by is_section (take n symbols)) 0 none

weak-itself : (weak : Bool) (n len : ℕ) → section_as n len (if weak then Wx else Er) ≡ n
weak-itself true n len = refl
weak-itself false n len = refl

-- ---- translation items

abbrev translated : Laid → ℕ × SymbolItem → ℕ
translated P (n, x) = section_rank (symbols_written P) (section_of (symbols_written P) n)

of-parts : (P : Laid) → map (translated P) (enumerate_from 1 (map (part_symbol P) (parts P))) ≡ map (part_number P) (parts P)
of-parts P =
    map-enumerated (translated P) (part_symbol P) (part_number P) 1 (parts P) (λ k x there.
    let part = from-part P x (has-at (parts P) k x there) in
    ap (λ n. section_rank (symbols_written P) (section_of (symbols_written P) n)) (swapped k ∙ sym (number_at P k x there))
    ∙ ap (section_rank (symbols_written P)) (section-of-part P x part) ∙ rank-of-part P x part)
  where
    swapped : (k : ℕ) → 1 + k ≡ k + 1
    swapped k = omega arith

of-labels : (P : Laid) → IsLinkable P → map (translated P) (enumerate_from (1 + length (parts P)) (map (label_symbol P) P.program.labels)) ≡ map (λ (x : Label). part_number P (OneSection x.section)) P.program.labels
of-labels P links =
    map-enumerated (translated P) (label_symbol P) (λ (x : Label). part_number P (OneSection x.section)) (1 + length (parts P)) P.program.labels (λ k x there.
    let owned = is-owned P x (has-all (IsSoundLabel P.program) P.program.labels x links.sound.labels (has-at P.program.labels k x there)) in
    let part = section-part P x.section owned.section links owned.there in
    ap (λ n. section_rank (symbols_written P) (section_of (symbols_written P) n)) (swapped (length (parts P)) k)
    ∙ ap (section_rank (symbols_written P)) (ap (λ o. option_map_or (λ y. section_as (length (parts P) + k + 1) y.length y.kind) o (length (parts P) + k + 1)) (label-there P k x there))
    ∙ rank-of-part P (OneSection x.section) part)
  where
    swapped : (n k : ℕ) → 1 + n + k ≡ n + k + 1
    swapped n k = omega arith

of-unresolved : (P : Laid) → map (translated P) (enumerate_from (1 + length (parts P) + length P.program.labels) (map unresolved_symbol P.program.unresolved)) ≡ map zero-of P.program.unresolved
unfolding zero-of
of-unresolved P =
    map-enumerated (translated P) unresolved_symbol zero-of (1 + length (parts P) + length P.program.labels) P.program.unresolved (λ k x there.
    ap (λ n. section_rank (symbols_written P) (section_of (symbols_written P) n)) (swapped (length (parts P)) (length P.program.labels) k)
    ∙ rank-at (symbols_written P) (length (parts P) + length P.program.labels + k + 1) (unresolved_symbol x) (unresolved-there P k x there)
    (weak-itself x.weak (length (parts P) + length P.program.labels + k + 1) 0) (weak-no-section x.weak))
  where
    swapped : (n m k : ℕ) → 1 + n + m + k ≡ n + m + k + 1
    swapped n m k = omega arith

register-at : (P : Laid) (k : ℕ) (z : ℕ × Register) → slice_get (enumerate_from 0 P.program.registers) k ≡ Some z
    → symbol_at (symbols_written P) (length (parts P) + length P.program.labels + length P.program.unresolved + k + 1) ≡ Some (register_symbol P.program.registers z)
unfolding symbols_written
register-at P k z there =
    symbol-next (symbols_written P) (length (parts P) + length P.program.labels + length P.program.unresolved + k) (length (parts P) + length P.program.labels + length P.program.unresolved + k + 1) refl
    ∙ fourth-of (map (part_symbol P) (parts P)) (map (label_symbol P) P.program.labels) (map unresolved_symbol P.program.unresolved) (map (register_symbol P.program.registers) (enumerate_from 0 P.program.registers))
    (length (parts P) + length P.program.labels + length P.program.unresolved + k) k (register_symbol P.program.registers z)
    (sums _ _ _ _ _ _ k (length-map (parts P) (part_symbol P)) (length-map P.program.labels (label_symbol P)) (length-map P.program.unresolved unresolved_symbol))
    (mapped (register_symbol P.program.registers) (enumerate_from 0 P.program.registers) k z there)
  where
    sums : (a b c p q r i : ℕ) → a ≡ p → b ≡ q → c ≡ r → p + q + r + i ≡ a + b + c + i
    sums a b c p q r i f g h = omega arith

of-registers : (P : Laid) → map (translated P) (enumerate_from (1 + length (parts P) + length P.program.labels + length P.program.unresolved) (map (register_symbol P.program.registers) (enumerate_from 0 P.program.registers)))
    ≡ map zero-of (enumerate_from 0 P.program.registers)
unfolding zero-of
of-registers P =
    map-enumerated (translated P) (register_symbol P.program.registers) zero-of (1 + length (parts P) + length P.program.labels + length P.program.unresolved) (enumerate_from 0 P.program.registers) (λ k z there.
    ap (λ n. section_rank (symbols_written P) (section_of (symbols_written P) n)) (swapped (length (parts P)) (length P.program.labels) (length P.program.unresolved) k)
    ∙ rank-at (symbols_written P) (length (parts P) + length P.program.labels + length P.program.unresolved + k + 1) (register_symbol P.program.registers z) (register-at P k z there) refl refl)
  where
    swapped : (n m u k : ℕ) → 1 + n + m + u + k ≡ n + m + u + k + 1
    swapped n m u k = omega arith

pub translations_are : (P : Laid) → IsLinkable P → translations (symbols_written P) ≡ translation_numbers P
unfolding symbols_written
translations_are P links =
    let u = P.program.unresolved in
    let r = enumerate_from 0 P.program.registers in
    four-numbered (translated P) (map (part_symbol P) (parts P)) (map (label_symbol P) P.program.labels) (map unresolved_symbol u) (map (register_symbol P.program.registers) r)
    1 (length (parts P)) (length P.program.labels) (length u) (length-map (parts P) (part_symbol P)) (length-map P.program.labels (label_symbol P)) (length-map u unresolved_symbol)
    ∙ joined _ _ _ _ (map (part_number P) (parts P)) (map (λ (x : Label). part_number P (OneSection x.section)) P.program.labels) (length u) (length P.program.registers)
    (of-parts P) (of-labels P links) (of-unresolved P ∙ map-zeros u) (of-registers P ∙ map-zeros r ∙ ap (λ n. replicate n 0) (length-enumerate_from 0 P.program.registers))
  where
    joined : (a b c d p q : List ℕ) (m n : ℕ) → a ≡ p → b ≡ q → c ≡ replicate m 0 → d ≡ replicate n 0 → a ++ b ++ c ++ d ≡ p ++ q ++ replicate (m + n) 0
    joined a b c d p q m n e f g h = rw (e, f, g, h) (append_assoc (p ++ q) (replicate m 0) (replicate n 0) ∙ ap (λ l. (p ++ q) ++ l) (replicate-append-replicate m n 0))
