-- How the number of a constant moves: the shifts of its items take it from where the module is linked at 0 to any placement.
use Rattle.std.proofs.Common.{arith, ◌≡◌, ℕ, ◌+◌, ◌*◌, ◌%◌, ◌^◌, ◌<◌, ◌≤◌, Bool, true, false, not, ◌&&◌, nat_lt, if◌then◌else◌, List, [], ◌∷◌, map, length, sum_by, get_or, All, refl, sym, ◌∙◌, ap, subst, zero-add, add-zero, unwrap_or, position}
use Rattle.std.proofs.Math.Nat.{mod-add-mod}
use Rattle.sym_mod.specs.declared.module.Kind.{Kind}
use Rattle.sym_mod.specs.declared.module.Kind.TheVariants.{Address, Branch, Displacement, Total as TotalKind}
use Rattle.sym_mod.specs.declared.program.Constant.{Constant}
use Rattle.sym_mod.specs.declared.program.Term.{Term}
use Rattle.sym_mod.specs.declared.program.Target.{Target}
use Rattle.sym_mod.specs.declared.program.Target.TheVariants.{Section as InSection, Label as AtLabel, Unresolved, Register as OfRegister, Total}
use Rattle.sym_mod.specs.Sound.{IsSymbolOf, IsSoundConstant, TargetFitsKind, HaveProperSigns}
use Rattle.load_recs.specs.declared.items.SymbolItem.{SymbolItem}
use Rattle.linking_model.specs.Places.{Laid, place, table_place, segment_of_section, entries_of}
use Rattle.linking_model.specs.Tables.{is_defined, is_direct, holder, target_eq, only_target}
use Rattle.linking_model.specs.Points.{registers_end}
use Rattle.linking_model.specs.Linked.{Placement, block, address_of, entry_address, branch_address, displacement_of, signed_difference, stored_number, number_for, number_in}
use Rattle.member_model.specs.Symbols.{is_minus, is_outside, symbol_at, section_of, address_in_module}
use Rattle.member_model.specs.SymbolList.{symbols_written}
use Rattle.member_model.specs.Facts.{Facts}
use Rattle.member_model.specs.Parts.{OneSection, part_number, target_number}
use Rattle.member_model.specs.Chunks.{term_item}
use Rattle.member_model.specs.Loaded.{Addresses, is_shifted, shift}
use Rattle.member_laws.specs.Linkable.{IsLinkable}
use Rattle.member_laws.proofs.LoadingLists.{each_from_all, each_weaker, sum_none}
use Rattle.member_laws.proofs.LoadingNumbers.{power_some, moved_term, moved_address, moved_sum}
use Rattle.member_laws.proofs.LoadingSymbols.{address_of_part}
use Rattle.member_laws.proofs.LoadingTerms.{kind_code, IsTermItem, is_term_item}
use Rattle.member_laws.proofs.LoadingTargets.{home, away, IsInSection, section_is_part, is_in_section, is_in_none}

-- the addresses of the sections are those of the placement; a call that goes by an entry moves as its target does
pub record Agree (P : Laid) (q : Addresses) (Q : Placement) : Type 0 where
  pub section : (i : ℕ) → i < length P.program.sections → q (part_number P (OneSection i)) ≡ Q.section i
  pub called : (i j b : ℕ) (y : Target) → i < length P.program.sections → IsSymbolOf P.program y → is_defined y ≡ true
      → is_direct P.program P.tree (segment_of_section P.program i) y ≡ false
      → Q.entab b + place P j ≡ table_place P b + Q.section j

-- what a term's item adds
abbrev pub term_shift : Laid → Facts → Addresses → ℕ → Constant → Term → ℕ
term_shift P F q m c t = if is_shifted F.symbols (term_item P c t) then shift F q m (term_item P c t) else 0

-- ---- a term's item

-- by the kind, the symbol item and the sign
abbrev shift_if : Facts → Addresses → ℕ → Bool → ℕ → Bool → Bool → ℕ
shift_if F q m of_address r outside minus =
    if of_address && not outside
    then signed_difference m minus (q (section_of F.symbols r)) (address_in_module F.symbols (section_of F.symbols r)) else 0

abbrev shift_of : Facts → Addresses → ℕ → ℕ → ℕ → Bool → Bool → ℕ
shift_of F q m kind r outside minus = shift_if F q m (nat_lt kind 2) r outside minus

shift_is : (P : Laid) (F : Facts) (q : Addresses) (m : ℕ) (c : Constant) (t : Term) → 1 ≤ c.length → c.length ≤ 4
    → term_shift P F q m c t
    ≡ shift_of F q m (kind_code c.kind) (target_number P t.target) (is_outside (symbol_at F.symbols (target_number P t.target))) t.minus
shift_is P F q m c t some short =
    let is : IsTermItem c t (term_item P c t) = is_term_item P c t some short in
    ap (λ k. shift_of F q m k (target_number P t.target) (is_outside (symbol_at F.symbols (target_number P t.target))) (is_minus (term_item P c t))) is.kind
    ∙ ap (shift_of F q m (kind_code c.kind) (target_number P t.target) (is_outside (symbol_at F.symbols (target_number P t.target)))) is.minus

-- no shift of a register's displacement or of the total
no_shift : (P : Laid) (F : Facts) (q : Addresses) (m : ℕ) (c : Constant) (t : Term) → 1 ≤ c.length → c.length ≤ 4
    → nat_lt (kind_code c.kind) 2 ≡ false → term_shift P F q m c t ≡ 0
no_shift P F q m c t some short none =
    shift_is P F q m c t some short
    ∙ ap (λ b. shift_if F q m b (target_number P t.target) (is_outside (symbol_at F.symbols (target_number P t.target))) t.minus) none

-- nor of an unresolved name
no_shift_outside : (P : Laid) (F : Facts) (q : Addresses) (m : ℕ) (c : Constant) (t : Term) → 1 ≤ c.length → c.length ≤ 4
    → is_outside (symbol_at F.symbols (target_number P t.target)) ≡ true → term_shift P F q m c t ≡ 0
no_shift_outside P F q m c t some short outside =
    shift_is P F q m c t some short
    ∙ (ap (λ b. shift_of F q m (kind_code c.kind) (target_number P t.target) b t.minus) outside ∙ none (nat_lt (kind_code c.kind) 2))
  where
    none : (b : Bool) → shift_if F q m b (target_number P t.target) true t.minus ≡ 0
    none true = refl
    none false = refl

-- a target that is in a section moves with it
shift_with : (P : Laid) (F : Facts) (q : Addresses) (Q : Placement) (m : ℕ) (c : Constant) (t : Term) → IsLinkable P
    → F.symbols ≡ symbols_written P → Agree P q Q → 1 ≤ c.length → c.length ≤ 4 → nat_lt (kind_code c.kind) 2 ≡ true
    → IsInSection P F.symbols t.target
    → term_shift P F q m c t ≡ signed_difference m t.minus (Q.section (home P.program t.target)) (place P (home P.program t.target))
shift_with P F q Q m c t link symbols agree some short kind is =
    shift_is P F q m c t some short
    ∙ (ap (λ b. shift_of F q m (kind_code c.kind) r b t.minus) is.item.inside
    ∙ (ap (λ b. shift_if F q m b r false t.minus) kind
    ∙ (ap (λ n. signed_difference m t.minus (q n) (address_in_module F.symbols n)) is.item.section
    ∙ (ap (λ n. signed_difference m t.minus n (address_in_module F.symbols N)) (agree.section h is.inside)
    ∙ ap (signed_difference m t.minus (Q.section h)) place_is))))
  where
    r : ℕ
    r = target_number P t.target

    h : ℕ
    h = home P.program t.target

    N : ℕ
    N = part_number P (OneSection h)

    place_is : address_in_module F.symbols N ≡ place P h
    place_is = ap (λ s. address_in_module s N) symbols ∙ address_of_part P (OneSection h) (section_is_part P h link is.inside)

-- ---- addresses

-- as the program is linked at 0
at_zero : (P : Laid) (symbols : List SymbolItem) (y : Target) → IsInSection P symbols y
    → address_of P.program (block P 0) y ≡ place P (home P.program y) + away P.program y
at_zero P symbols y is = is.address (block P 0) ∙ ap (λ n. n + away P.program y) (zero-add (place P (home P.program y)))

-- what a symbol of the program is
symbol_is : (P : Laid) (F : Facts) (y : Target) → IsLinkable P → F.symbols ≡ symbols_written P → IsSymbolOf P.program y
    → is_defined y ≡ true → IsInSection P F.symbols y
symbol_is P F y link symbols symbol defined =
    subst (λ s. IsInSection P s y) (sym symbols) (is_in_section P y link symbol defined)

outside_is : (P : Laid) (F : Facts) (i : ℕ) → F.symbols ≡ symbols_written P → i < length P.program.unresolved
    → is_outside (symbol_at F.symbols (target_number P (Unresolved i))) ≡ true
outside_is P F i symbols inside = ap (λ s. is_outside (symbol_at s (target_number P (Unresolved i)))) symbols ∙ is_in_none P i inside

-- ---- address constants

abbrev term_at : Laid → Placement → ℕ → Term → ℕ
term_at P Q m t = signed_difference m t.minus (address_of P.program Q t.target) t.base

term_moves : (P : Laid) (F : Facts) (q : Addresses) (Q : Placement) (m : ℕ) (c : Constant) (t : Term) (y : Target) → t.target ≡ y → IsLinkable P
    → F.symbols ≡ symbols_written P → Agree P q Q → 1 ≤ c.length → c.length ≤ 4 → nat_lt (kind_code c.kind) 2 ≡ true → 0 < m
    → IsSymbolOf P.program y → (term_at P (block P 0) m t + term_shift P F q m c t) % m ≡ term_at P Q m t % m
term_moves P F q Q m c t y same link symbols agree some short kind full symbol = by_cases y same symbol
  where
    in_section : is_defined t.target ≡ true → IsSymbolOf P.program t.target
        → (term_at P (block P 0) m t + term_shift P F q m c t) % m ≡ term_at P Q m t % m
    in_section defined symbol =
        let is : IsInSection P F.symbols t.target = symbol_is P F t.target link symbols symbol defined in
        ap (λ n. (signed_difference m t.minus n t.base + term_shift P F q m c t) % m) (at_zero P F.symbols t.target is)
        ∙ (ap (λ n. (signed_difference m t.minus (place P (home P.program t.target) + away P.program t.target) t.base + n) % m)
        (shift_with P F q Q m c t link symbols agree some short kind is)
        ∙ (moved_term m t.minus (place P (home P.program t.target)) (away P.program t.target) (Q.section (home P.program t.target)) t.base full
        ∙ ap (λ n. signed_difference m t.minus n t.base % m) (sym (is.address Q))))

    by_cases : (y : Target) → t.target ≡ y → IsSymbolOf P.program y
        → (term_at P (block P 0) m t + term_shift P F q m c t) % m ≡ term_at P Q m t % m
    by_cases (InSection i) same symbol = in_section (ap is_defined same) (subst (IsSymbolOf P.program) (sym same) symbol)
    by_cases (AtLabel i) same symbol = in_section (ap is_defined same) (subst (IsSymbolOf P.program) (sym same) symbol)
    by_cases (Unresolved i) same symbol =
        ap (λ n. (term_at P (block P 0) m t + n) % m)
        (no_shift_outside P F q m c t some short (ap (λ y. is_outside (symbol_at F.symbols (target_number P y))) same ∙ outside_is P F i symbols symbol))
        ∙ (ap (λ n. n % m) (add-zero (term_at P (block P 0) m t))
        ∙ ap (λ n. signed_difference m t.minus n t.base % m)
        (ap (address_of P.program (block P 0)) same ∙ sym (ap (address_of P.program Q) same)))
    by_cases (OfRegister i) same symbol = absurd symbol
    by_cases Total same symbol = absurd symbol

-- ---- branch constants

-- the only term of such a constant
only_term : (c : Constant) (terms : List Term) → HaveProperSigns Branch (map (λ t. t.minus) terms)
    → (t : Term) × (terms ≡ t ∷ []) × (t.minus ≡ false)
only_term c [] signs = absurd signs
only_term c (t ∷ []) signs = (t, refl, signs)
only_term c (t ∷ u ∷ terms) signs = absurd signs

branch_moves : (P : Laid) (F : Facts) (q : Addresses) (Q : Placement) (m : ℕ) (c : Constant) (t : Term) (y : Target) → t.target ≡ y → IsLinkable P
    → F.symbols ≡ symbols_written P → Agree P q Q → 1 ≤ c.length → c.length ≤ 4 → nat_lt (kind_code c.kind) 2 ≡ true → 0 < m
    → c.section < length P.program.sections → t.minus ≡ false → IsSymbolOf P.program y
    → (branch_address P (block P 0) (segment_of_section P.program c.section) y % m + term_shift P F q m c t) % m
    ≡ branch_address P Q (segment_of_section P.program c.section) y % m
branch_moves P F q Q m c t y same link symbols agree some short kind full within plus symbol = by_cases y same symbol
  where
    s : ℕ
    s = segment_of_section P.program c.section

    called_at : Placement → Target → Bool → ℕ
    called_at R y direct = if direct then address_of P.program R y else entry_address P R s y

    moves : (y : Target) → t.target ≡ y → IsSymbolOf P.program y → is_defined y ≡ true → (direct : Bool) → is_direct P.program P.tree s y ≡ direct
        → (called_at (block P 0) y direct % m + term_shift P F q m c t) % m ≡ called_at Q y direct % m
    moves y same symbol defined direct goes =
        let is : IsInSection P F.symbols y = symbol_is P F y link symbols symbol defined in
        ap (λ n. (called_at (block P 0) y direct % m + n) % m)
        (shift_with P F q Q m c t link symbols agree some short kind (subst (IsInSection P F.symbols) (sym same) is)
        ∙ (ap (λ b. signed_difference m b (Q.section (home P.program t.target)) (place P (home P.program t.target))) plus
        ∙ ap (λ z. signed_difference m false (Q.section (home P.program z)) (place P (home P.program z))) same))
        ∙ moved_address m (called_at (block P 0) y direct) (place P (home P.program y)) (Q.section (home P.program y)) (called_at Q y direct) full
        (by_way direct goes is)
      where
        direct_way : (a b z q o : ℕ) → a ≡ z + o → b ≡ q + o → a + q ≡ b + z
        direct_way a b z q o first last = omega arith

        by_entry : (tp tb z q k : ℕ) → tb + z ≡ tp + q → 0 + tp + 8 + k + q ≡ tb + 8 + k + z
        by_entry tp tb z q k as_far = omega arith

        by_way : (direct : Bool) → is_direct P.program P.tree s y ≡ direct → IsInSection P F.symbols y
            → called_at (block P 0) y direct + Q.section (home P.program y) ≡ called_at Q y direct + place P (home P.program y)
        by_way true goes is =
            direct_way (address_of P.program (block P 0) y) (address_of P.program Q y) (place P (home P.program y)) (Q.section (home P.program y)) (away P.program y)
            (at_zero P F.symbols y is) (is.address Q)
        by_way false goes is =
            let b : ℕ = unwrap_or (holder P.program P.tree s y) 0 in
            by_entry (table_place P b) (Q.entab b) (place P (home P.program y)) (Q.section (home P.program y))
            (12 * unwrap_or (position (target_eq y) (entries_of P b)) 0)
            (agree.called c.section (home P.program y) b y within symbol defined goes)

    by_cases : (y : Target) → t.target ≡ y → IsSymbolOf P.program y
        → (branch_address P (block P 0) s y % m + term_shift P F q m c t) % m ≡ branch_address P Q s y % m
    by_cases (InSection i) same symbol = moves (InSection i) same symbol refl (is_direct P.program P.tree s (InSection i)) refl
    by_cases (AtLabel i) same symbol = moves (AtLabel i) same symbol refl (is_direct P.program P.tree s (AtLabel i)) refl
    by_cases (Unresolved i) same symbol =
        ap (λ n. (0 % m + n) % m)
        (no_shift_outside P F q m c t some short (ap (λ y. is_outside (symbol_at F.symbols (target_number P y))) same ∙ outside_is P F i symbols symbol))
        ∙ mod-add-mod 0 m 0
    by_cases (OfRegister i) same symbol = absurd symbol
    by_cases Total same symbol = absurd symbol

-- ---- constants of each kind

sum_one : {X : Type 0} (f : X → ℕ) (x : X) → sum_by f (x ∷ []) ≡ f x
sum_one f x = zero-add (f x)

number_moves : (P : Laid) (F : Facts) (q : Addresses) (Q : Placement) (c : Constant) (kind : Kind) → c.kind ≡ kind → IsLinkable P
    → F.symbols ≡ symbols_written P → Agree P q Q → IsSoundConstant P.program c → c.section < length P.program.sections
    → (number_for P (block P 0) c kind % 256 ^ c.length + sum_by (term_shift P F q (256 ^ c.length) c) c.terms) % 256 ^ c.length
    ≡ number_for P Q c kind % 256 ^ c.length
number_moves P F q Q c Address is link symbols agree sound within =
    mod-add-mod (stored_number P.program c + sum_by (term_at P (block P 0) m) c.terms) m (sum_by (term_shift P F q m c) c.terms)
    ∙ moved_sum m (stored_number P.program c) (term_at P (block P 0) m) (term_shift P F q m c) (term_at P Q m) c.terms
    (each_weaker (λ t. TargetFitsKind P.program Address t.target) _ c.terms
    (λ t symbol. term_moves P F q Q m c t t.target refl link symbols agree sound.not_empty sound.short (ap (λ k. nat_lt (kind_code k) 2) is)
    (power_some c.length) symbol)
    (each_from_all (λ t. TargetFitsKind P.program Address t.target) c.terms (subst (λ k. All (λ t. TargetFitsKind P.program k t.target) c.terms) is sound.targets)))
  where
    m : ℕ
    m = 256 ^ c.length
number_moves P F q Q c Branch is link symbols agree sound within =
    let only = only_term c c.terms (subst (λ k. HaveProperSigns k (map (λ t. t.minus) c.terms)) is sound.signs) in
    one only.0 only.1 only.2
  where
    m : ℕ
    m = 256 ^ c.length

    s : ℕ
    s = segment_of_section P.program c.section

    fits : All (λ t. TargetFitsKind P.program Branch t.target) c.terms
    fits = subst (λ k. All (λ t. TargetFitsKind P.program k t.target) c.terms) is sound.targets

    one : (t : Term) → c.terms ≡ t ∷ [] → t.minus ≡ false
        → (branch_address P (block P 0) s (only_target c.terms) % m + sum_by (term_shift P F q m c) c.terms) % m
        ≡ branch_address P Q s (only_target c.terms) % m
    one t terms plus =
        ap (λ ts. (branch_address P (block P 0) s (only_target ts) % m + sum_by (term_shift P F q m c) ts) % m) terms
        ∙ (ap (λ n. (branch_address P (block P 0) s t.target % m + n) % m) (sum_one (term_shift P F q m c) t)
        ∙ (branch_moves P F q Q m c t t.target refl link symbols agree sound.not_empty sound.short (ap (λ k. nat_lt (kind_code k) 2) is)
        (power_some c.length) within plus
        (subst (λ ts. All (λ t. TargetFitsKind P.program Branch t.target) ts) terms fits 0 t (omega arith))
        ∙ ap (λ ts. branch_address P Q s (only_target ts) % m) (sym terms)))
number_moves P F q Q c Displacement is link symbols agree sound within =
    ap (λ n. (displacement_of P.program (only_target c.terms) % 256 ^ c.length + n) % 256 ^ c.length)
    (sum_none (term_shift P F q (256 ^ c.length) c) c.terms
    (each_from_all _ c.terms (λ k d inside. no_shift P F q (256 ^ c.length) c (get_or c.terms k d) sound.not_empty sound.short (ap (λ k. nat_lt (kind_code k) 2) is))))
    ∙ (mod-add-mod (displacement_of P.program (only_target c.terms)) (256 ^ c.length) 0
    ∙ ap (λ n. n % 256 ^ c.length) (add-zero (displacement_of P.program (only_target c.terms))))
number_moves P F q Q c TotalKind is link symbols agree sound within =
    ap (λ n. (registers_end 0 P.program.registers % 256 ^ c.length + n) % 256 ^ c.length)
    (sum_none (term_shift P F q (256 ^ c.length) c) c.terms
    (each_from_all _ c.terms (λ k d inside. no_shift P F q (256 ^ c.length) c (get_or c.terms k d) sound.not_empty sound.short (ap (λ k. nat_lt (kind_code k) 2) is))))
    ∙ (mod-add-mod (registers_end 0 P.program.registers) (256 ^ c.length) 0
    ∙ ap (λ n. n % 256 ^ c.length) (add-zero (registers_end 0 P.program.registers)))

-- the number of a constant, with the shifts of its items
pub constant_moves : (P : Laid) (F : Facts) (q : Addresses) (Q : Placement) (c : Constant) → IsLinkable P → F.symbols ≡ symbols_written P
    → Agree P q Q → IsSoundConstant P.program c → c.section < length P.program.sections
    → (number_in P (block P 0) c + sum_by (term_shift P F q (256 ^ c.length) c) c.terms) % 256 ^ c.length ≡ number_in P Q c
unfolding number_in
constant_moves P F q Q c link symbols agree sound within =
    number_moves P F q Q c c.kind refl link symbols agree sound within
