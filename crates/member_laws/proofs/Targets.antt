-- The symbol item of each part and each target, by its number.
use Rattle.std.proofs.Common.{◌≡◌, ℕ, zero, suc, ◌+◌, ◌-◌, ◌<◌, ◌≤◌, ◌^◌, Bool, true, false, ◌==◌, if◌then◌else◌, List, [], ◌∷◌, ◌++◌, map, length, Option, Some, None, option_map, slice_get, add-zero, refl, sym, ap, subst, ◌∙◌, arith}
use Rattle.std.specs.Option.{option_map_or}
use Rattle.std.proofs.lemmas.Bool.{cond-false, ne_eqb}
use Rattle.std.proofs.lemmas.List.{length-append, length-map}
use Rattle.std.proofs.lemmas.Option.{slice_get-map, slice_get_within}
use Rattle.std.specs.List.{enumerate_from}
use Rattle.sym_mod.specs.Sound.{IsSymbolOf, TargetFitsKind}
use Rattle.sym_mod.specs.declared.module.Kind.{Kind}
use Rattle.sym_mod.specs.declared.module.Kind.TheVariants.{Address, Branch, Displacement, Total as TotalKind}
use Rattle.sym_mod.specs.declared.program.SecKind.{SecKind}
use Rattle.sym_mod.specs.declared.program.SecKind.TheVariants.{Sd, Pc, Cm}
use Rattle.sym_mod.specs.declared.program.Label.{Label}
use Rattle.sym_mod.specs.declared.program.Register.{Register}
use Rattle.sym_mod.specs.declared.program.Unknown.{Unknown}
use Rattle.sym_mod.specs.declared.program.Target.{Target}
use Rattle.sym_mod.specs.declared.program.Target.TheVariants.{Section as InSection, Label as AtLabel, Unresolved, Register as OfRegister, Total}
use Rattle.load_recs.specs.declared.items.SymbolItem.{SymbolItem}
use Rattle.load_recs.specs.declared.items.SymbolKind.TheVariants.{Er, Wx}
use Rattle.linking_model.specs.Places.{Laid}
use Rattle.member_model.specs.Parts.{Part, OneSection, parts, part_kind, part_number, target_number}
use Rattle.load_recs.specs.Kinds.{is_outside_kind}
use Rattle.member_model.specs.Symbols.{symbol_at, is_register_kind, is_referable_kind}
use Rattle.member_model.specs.SymbolList.{symbol_kind, part_symbol, label_symbol, unresolved_symbol, register_symbol, symbols_written}
use Rattle.member_laws.specs.Linkable.{IsLinkable}
use Rattle.member_laws.proofs.Counts.{symbols-count, symbols_few}
use Rattle.member_laws.proofs.Membership.{get-within, get-left, get-right}
use Rattle.member_laws.proofs.Numbered.{IsPart, is-numbered, section-part}

pub symbol-next : (symbols : List SymbolItem) (k n : ℕ) → n ≡ k + 1 → symbol_at symbols n ≡ slice_get symbols k
symbol-next symbols k n e =
    cond-false (n == 0) None (slice_get symbols (n - 1)) (ne_eqb n 0 (omega arith)) ∙ ap (λ m. slice_get symbols m) (let same : n - 1 ≡ k = omega arith in same)

pub mapped : {X Y : Type 0} (f : X → Y) (xs : List X) (k : ℕ) (x : X) → slice_get xs k ≡ Some x → slice_get (map f xs) k ≡ Some (f x)
mapped f xs k x there = slice_get-map f xs k ∙ ap (λ o. option_map f o) there

-- ---- places in four lists one after the other

pub first-of : {X : Type 0} (a b c d : List X) (k : ℕ) (x : X) → slice_get a k ≡ Some x → slice_get (a ++ b ++ c ++ d) k ≡ Some x
first-of a b c d k x there = get-left (a ++ b ++ c) d k x (get-left (a ++ b) c k x (get-left a b k x there))

pub second-of : {X : Type 0} (a b c d : List X) (n k : ℕ) (x : X) → n ≡ length a + k → slice_get b k ≡ Some x → slice_get (a ++ b ++ c ++ d) n ≡ Some x
second-of a b c d n k x e there = get-left (a ++ b ++ c) d n x (get-left (a ++ b) c n x (get-right a b n k e ∙ there))

pub third-of : {X : Type 0} (a b c d : List X) (n k : ℕ) (x : X) → n ≡ length a + length b + k → slice_get c k ≡ Some x → slice_get (a ++ b ++ c ++ d) n ≡ Some x
third-of a b c d n k x e there =
    let sum : length (a ++ b) ≡ length a + length b = length-append a b in
    get-left (a ++ b ++ c) d n x (get-right (a ++ b) c n k (omega arith) ∙ there)

pub fourth-of : {X : Type 0} (a b c d : List X) (n k : ℕ) (x : X) → n ≡ length a + length b + length c + k → slice_get d k ≡ Some x → slice_get (a ++ b ++ c ++ d) n ≡ Some x
fourth-of a b c d n k x e there =
    let sum : length (a ++ b ++ c) ≡ length (a ++ b) + length c = length-append (a ++ b) c in
    let sums : length (a ++ b) ≡ length a + length b = length-append a b in
    get-right (a ++ b ++ c) d n k (omega arith) ∙ there

-- ---- parts

pub symbol-of-part : (P : Laid) (x : Part) → IsPart P x → symbol_at (symbols_written P) (part_number P x) ≡ Some (part_symbol P x)
unfolding symbols_written
symbol-of-part P x is =
    let numbered = is-numbered P x is in
    symbol-next (symbols_written P) numbered.place (part_number P x) numbered.number
    ∙ first-of (map (part_symbol P) (parts P)) (map (label_symbol P) P.program.labels) (map unresolved_symbol P.program.unresolved) (map (register_symbol P.program.registers) (enumerate_from 0 P.program.registers))
    numbered.place (part_symbol P x) (mapped (part_symbol P) (parts P) numbered.place x numbered.there)

-- ---- targets

-- the target is a name that is not defined
abbrev pub is_unresolved : Target → Bool
is_unresolved (Unresolved i) = true
is_unresolved _ = false

section-kinds : (k : SecKind) → (is_referable_kind (symbol_kind k) ≡ true) × (is_outside_kind (symbol_kind k) ≡ false)
section-kinds Sd = (refl, refl)
section-kinds Pc = (refl, refl)
section-kinds Cm = (refl, refl)

weak-kinds : (weak : Bool) → (is_referable_kind (if weak then Wx else Er) ≡ true) × (is_outside_kind (if weak then Wx else Er) ≡ true)
weak-kinds true = (refl, refl)
weak-kinds false = (refl, refl)

-- a section, a label or an unresolved name has a symbol item, which is outside exactly where it is unresolved
pub record IsSymbolAt (P : Laid) (y : Target) : Type 0 where
  pub symbol : SymbolItem
  pub there : symbol_at (symbols_written P) (target_number P y) ≡ Some symbol
  pub referable : is_referable_kind symbol.kind ≡ true
  pub outside : is_outside_kind symbol.kind ≡ is_unresolved y

pub label-there : (P : Laid) (i : ℕ) (x : Label) → slice_get P.program.labels i ≡ Some x → symbol_at (symbols_written P) (length (parts P) + i + 1) ≡ Some (label_symbol P x)
unfolding symbols_written
label-there P i x there =
    let a = length-map (parts P) (part_symbol P) in
    symbol-next (symbols_written P) (length (parts P) + i) (length (parts P) + i + 1) refl
    ∙ second-of (map (part_symbol P) (parts P)) (map (label_symbol P) P.program.labels) (map unresolved_symbol P.program.unresolved) (map (register_symbol P.program.registers) (enumerate_from 0 P.program.registers))
    (length (parts P) + i) i (label_symbol P x) (ap (λ n. n + i) (sym a)) (mapped (label_symbol P) P.program.labels i x there)

pub unresolved-there : (P : Laid) (i : ℕ) (x : Unknown) → slice_get P.program.unresolved i ≡ Some x → symbol_at (symbols_written P) (length (parts P) + length P.program.labels + i + 1) ≡ Some (unresolved_symbol x)
unfolding symbols_written
unresolved-there P i x there =
    symbol-next (symbols_written P) (length (parts P) + length P.program.labels + i) (length (parts P) + length P.program.labels + i + 1) refl
    ∙ third-of (map (part_symbol P) (parts P)) (map (label_symbol P) P.program.labels) (map unresolved_symbol P.program.unresolved) (map (register_symbol P.program.registers) (enumerate_from 0 P.program.registers))
    (length (parts P) + length P.program.labels + i) i (unresolved_symbol x)
    (sums _ _ _ _ i (length-map (parts P) (part_symbol P)) (length-map P.program.labels (label_symbol P))) (mapped unresolved_symbol P.program.unresolved i x there)
  where
    sums : (a b p q i : ℕ) → a ≡ p → b ≡ q → p + q + i ≡ a + b + i
    sums a b p q i f g = omega arith

enumerated : {X : Type 0} (j : ℕ) (xs : List X) (k : ℕ) (x : X) → slice_get xs k ≡ Some x → slice_get (enumerate_from j xs) k ≡ Some (j + k, x)
enumerated j [] k x there = absurd cc
enumerated j (y ∷ ys) zero x there = ap (λ o. option_map (λ z. (j, z)) o) there ∙ ap (λ n. Some (n, x)) (sym (add-zero j))
enumerated j (y ∷ ys) (suc k) x there = enumerated (j + 1) ys k x there ∙ ap (λ n. Some (n, x)) (moved j k)
  where
    moved : (j k : ℕ) → j + 1 + k ≡ j + suc k
    moved j k = omega arith

register-there : (P : Laid) (i : ℕ) (x : Register) → slice_get P.program.registers i ≡ Some x
    → symbol_at (symbols_written P) (length (parts P) + length P.program.labels + length P.program.unresolved + i + 1) ≡ Some (register_symbol P.program.registers (0 + i, x))
unfolding symbols_written
register-there P i x there =
    symbol-next (symbols_written P) (length (parts P) + length P.program.labels + length P.program.unresolved + i) (length (parts P) + length P.program.labels + length P.program.unresolved + i + 1) refl
    ∙ fourth-of (map (part_symbol P) (parts P)) (map (label_symbol P) P.program.labels) (map unresolved_symbol P.program.unresolved) (map (register_symbol P.program.registers) (enumerate_from 0 P.program.registers))
    (length (parts P) + length P.program.labels + length P.program.unresolved + i) i (register_symbol P.program.registers (0 + i, x))
    (sums _ _ _ _ _ _ i (length-map (parts P) (part_symbol P)) (length-map P.program.labels (label_symbol P)) (length-map P.program.unresolved unresolved_symbol))
    (mapped (register_symbol P.program.registers) (enumerate_from 0 P.program.registers) i (0 + i, x) (enumerated 0 P.program.registers i x there))
  where
    sums : (a b c p q r i : ℕ) → a ≡ p → b ≡ q → c ≡ r → p + q + r + i ≡ a + b + c + i
    sums a b c p q r i f g h = omega arith

pub symbol-of-target : (P : Laid) (y : Target) → IsLinkable P → IsSymbolOf P.program y → IsSymbolAt P y
unfolding target_number
symbol-of-target P (InSection i) links is =
    let x = get-within P.program.sections i is in
    let part = section-part P i x.0 links x.1 in
    let kinds = section-kinds (part_kind P (OneSection i)) in
    record { symbol = part_symbol P (OneSection i); there = symbol-of-part P (OneSection i) part; referable = kinds.0; outside = kinds.1 }
symbol-of-target P (AtLabel i) links is =
    let x = get-within P.program.labels i is in
    record { symbol = label_symbol P x.0; there = label-there P i x.0 x.1; referable = refl; outside = refl }
symbol-of-target P (Unresolved i) links is =
    let x = get-within P.program.unresolved i is in
    let kinds = weak-kinds x.0.weak in
    record { symbol = unresolved_symbol x.0; there = unresolved-there P i x.0 x.1; referable = kinds.0; outside = kinds.1 }
symbol-of-target P (OfRegister i) links is = absurd is
symbol-of-target P Total links is = absurd is

-- a register has one too
pub record IsRegisterAt (P : Laid) (i : ℕ) : Type 0 where
  pub symbol : SymbolItem
  pub there : symbol_at (symbols_written P) (target_number P (OfRegister i)) ≡ Some symbol
  pub register : is_register_kind symbol.kind ≡ true

pub symbol-of-register : (P : Laid) (i : ℕ) → i < length P.program.registers → IsRegisterAt P i
unfolding target_number
symbol-of-register P i is =
    let x = get-within P.program.registers i is in
    record { symbol = register_symbol P.program.registers (0 + i, x.0); there = register-there P i x.0 x.1; register = refl }

-- ---- numbers

-- the number of a symbol that is there is within their count
at-within : (symbols : List SymbolItem) (n : ℕ) (x : SymbolItem) → symbol_at symbols n ≡ Some x → n ≤ length symbols
at-within symbols zero x there = absurd cc
at-within symbols (suc n) x there = let low = slice_get_within symbols n x (sym (symbol-next symbols n (suc n) (omega arith)) ∙ there) in omega arith

symbol-number : (P : Laid) (y : Target) → IsLinkable P → IsSymbolOf P.program y → target_number P y < 2 ^ 16
symbol-number P y links is =
    let at = symbol-of-target P y links is in
    let low : target_number P y ≤ length (symbols_written P) = at-within (symbols_written P) (target_number P y) at.symbol at.there in
    let few : length (symbols_written P) ≤ 32767 = symbols_few P links in
    omega arith

register-number : (P : Laid) (i : ℕ) → IsLinkable P → i < length P.program.registers → target_number P (OfRegister i) < 2 ^ 16
register-number P i links is =
    let at = symbol-of-register P i is in
    let low : target_number P (OfRegister i) ≤ length (symbols_written P) = at-within (symbols_written P) (target_number P (OfRegister i)) at.symbol at.there in
    let few : length (symbols_written P) ≤ 32767 = symbols_few P links in
    omega arith

total-number : (P : Laid) → target_number P Total < 2 ^ 16
unfolding target_number
total-number P = omega arith

pub number_of_target : (P : Laid) (kind : Kind) (y : Target) → IsLinkable P → TargetFitsKind P.program kind y → target_number P y < 2 ^ 16
number_of_target P Address y links is = symbol-number P y links is
number_of_target P Branch y links is = symbol-number P y links is
number_of_target P Displacement (OfRegister i) links is = register-number P i links is
number_of_target P Displacement (InSection i) links is = absurd is
number_of_target P Displacement (AtLabel i) links is = absurd is
number_of_target P Displacement (Unresolved i) links is = absurd is
number_of_target P Displacement Total links is = absurd is
number_of_target P TotalKind Total links is = total-number P
number_of_target P TotalKind (OfRegister i) links is = absurd is
number_of_target P TotalKind (InSection i) links is = absurd is
number_of_target P TotalKind (AtLabel i) links is = absurd is
number_of_target P TotalKind (Unresolved i) links is = absurd is
