-- The constants of the module of a good member are sound, and share no byte.
use Rattle.std.proofs.Common.{arith, ◌≡◌, ℕ, ◌+◌, ◌-◌, ◌<◌, ◌≤◌, ◌⊎◌, inl, inr, Bool, true, false, not, ◌&&◌, ◌==◌, nat_lt, List, [], ◌∷◌, map, length, get_or, All, AllPairs, refl, sym, ap, subst, ◌∙◌}
use Rattle.std.specs.List.{filter, AllByRecursion}
use Rattle.std.proofs.lemmas.Bool.{ltb-false}
use Rattle.std.proofs.lemmas.List.{length-map, get_or-map}
use Rattle.std.proofs.lemmas.List.Elements.{All-from_recursion}
use Rattle.load_recs.specs.Relocations as flags
use Rattle.load_recs.specs.declared.items.SymbolItem.{SymbolItem}
use Rattle.load_recs.specs.declared.items.RldItem.{RldItem}
use Rattle.load_recs.proofs.Spelled.{tested}
use Rattle.sym_mod.specs.declared.module.Kind.{Kind}
use Rattle.sym_mod.specs.declared.module.Kind.TheVariants.{Address, Branch, Displacement, Total as TotalKind}
use Rattle.sym_mod.specs.declared.module.SymTerm.{SymTerm}
use Rattle.sym_mod.specs.Sound.{IsAddress, FitsKind, HaveProperSigns, IsSoundConst, AreApart}
use Rattle.linking_model.specs.Names.{firsts}
use Rattle.member_model.specs.Symbols.{same_field, field_kind, field_length, address_in_module}
use Rattle.member_model.specs.ReadBack.{is_kept_at, items_of, kind_of_field, term_of}
use Rattle.mod_read.specs.Gathered.{constants_in}
use Rattle.mod_read.specs.Judged.{IsJudgedSymbol, IsJudgedField, Pairs, IsClear}
use Rattle.mod_read.proofs.SameFields.{same_refl, same_section, same_address, all_differ}
use Rattle.mod_read.proofs.Grouping.{constant_in}
use Rattle.mod_read.proofs.KeptItems.{lies_there, kept_there, same_number, address_is}
use Rattle.mod_read.proofs.Members.{Has, has_each, each_of, each_map, filter_each, filter_passes, has_filter, pairs_filter, pairs_either, firsts_each}
use Rattle.mod_read.proofs.SoundTerms.{IsSoundTerm, term_sound, added}

-- ---- the items of one field

short : (flag : ℕ) → (1 ≤ flags.field_length flag) × (flags.field_length flag ≤ 4)
short flag = (omega arith, omega arith)

-- both are of A-type
record AreAddresses (x y : RldItem) : Type 0 where
  pub first : (field_kind x == 0) ≡ true
  pub second : (field_kind y == 0) ≡ true

four : (a b c d : Bool) → (a && b && c && d) ≡ true → (c ≡ true) × (d ≡ true)
four true true true true h = (refl, refl)
four true true true false h = cc
four true true false d h = cc
four true false c d h = cc
four false b c d h = cc

all_but : (a b c d : Bool) → a ≡ true → b ≡ true → c ≡ true → (a && b && c && not d) ≡ false → d ≡ true
all_but true true true true p q r h = refl
all_but true true true false p q r h = cc
all_but true true false d p q r h = cc
all_but true false c d p q r h = cc
all_but false b c d p q r h = cc

own_byte : (a b n : ℕ) → b ≡ a → 1 ≤ n → nat_lt a (b + n) ≡ true
own_byte a b n e some = grind (arith, e, some)

-- two items of one field that share no byte wrongly are A-type
clear_same : (g x y : RldItem) → same_field g x ≡ true → same_field g y ≡ true → IsClear x y → AreAddresses x y
clear_same g x y first second clear =
    let place : x.address ≡ y.address = sym (same_address g x first) ∙ same_address g y second in
    let section : (x.p == y.p) ≡ true = equal x.p y.p (sym (same_section g x first) ∙ same_section g y second) in
    let both : (y.address == x.address && field_length y == field_length x && field_kind y == 0 && field_kind x == 0) ≡ true =
    all_but (x.p == y.p) (nat_lt y.address (x.address + field_length x)) (nat_lt x.address (y.address + field_length y)) _ section
    (own_byte y.address x.address (field_length x) place (short x.flag).0) (own_byte x.address y.address (field_length y) (sym place) (short y.flag).0) clear in
    let kinds = four (y.address == x.address) (field_length y == field_length x) (field_kind y == 0) (field_kind x == 0) both in
    record { first = kinds.1; second = kinds.0 }
  where
    equal : (m n : ℕ) → m ≡ n → (m == n) ≡ true
    equal m n e = grind (arith, e)

-- an item alone, or A-type items
abbrev IsGroup : RldItem → List RldItem → Type 0
IsGroup g xs = (xs ≡ g ∷ []) ⊎ AllByRecursion (λ h. (field_kind h == 0) ≡ true) xs

group : (g : RldItem) (xs : List RldItem) → AllByRecursion (λ h. same_field g h ≡ true) xs → Has xs g → Pairs IsClear xs → IsGroup g xs
group g [] same there pairs = absurd there
group g (a ∷ []) same there pairs = elim there [ inl e ↦ inl (ap (λ x. x ∷ []) e) | inr never ↦ absurd never ]
group g (a ∷ b ∷ more) same there pairs =
    inr (
      (clear_same g a b same.0 same.1.0 pairs.0.0).first,
      each_of (λ h. (field_kind h == 0) ≡ true) (b ∷ more)
          (λ h within. (clear_same g a h same.0 (has_each (λ h. same_field g h ≡ true) (b ∷ more) h same.1 within) (has_each (IsClear a) (b ∷ more) h pairs.0 within)).second),
    )

-- ---- one constant

abbrev items_at : RldItem → List RldItem → List RldItem
items_at g items = filter (same_field g) items

group_of : (items : List RldItem) (g : RldItem) → Pairs IsClear items → Has items g → IsGroup g (items_at g items)
group_of items g clear there =
    group g (items_at g items) (filter_passes (same_field g) items) (has_filter (same_field g) items g there (same_refl g)) (pairs_filter IsClear (same_field g) items clear)

is_address_kind : (n : ℕ) → (n == 0) ≡ true → kind_of_field n ≡ Address
is_address_kind n e = rw e refl

terms_sound : (symbols : List SymbolItem) (g : RldItem) (xs : List RldItem) → AllByRecursion (IsJudgedSymbol symbols) symbols → Has xs g → AllByRecursion (IsJudgedField symbols) xs → IsGroup g xs
    → AllByRecursion (λ h. IsSoundTerm (items_of symbols) (kind_of_field (field_kind g)) (term_of symbols h)) xs
terms_sound symbols g xs judged there fields both =
    elim both [
      | inl one ↦
          subst (AllByRecursion (λ h. IsSoundTerm (items_of symbols) (kind_of_field (field_kind g)) (term_of symbols h))) (sym one)
          (term_sound symbols g judged (has_each (IsJudgedField symbols) xs g fields there), tt)
      | inr all ↦
          each_of (λ h. IsSoundTerm (items_of symbols) (kind_of_field (field_kind g)) (term_of symbols h)) xs
          (λ h within.
          subst (λ kind. IsSoundTerm (items_of symbols) kind (term_of symbols h))
          (is_address_kind (field_kind h) (has_each (λ h. (field_kind h == 0) ≡ true) xs h all within)
          ∙ sym (is_address_kind (field_kind g) (has_each (λ h. (field_kind h == 0) ≡ true) xs g all there)))
          (term_sound symbols h judged (has_each (IsJudgedField symbols) xs h fields within)))
    ]

address_signs : (xs : List RldItem) (f : RldItem → Bool) (g : RldItem) → Has xs g → HaveProperSigns Address (map f xs)
address_signs [] f g there = absurd there
address_signs (x ∷ xs) f g there = tt

one_sign : (kind : Kind) (minus : Bool) → minus ≡ false → HaveProperSigns kind (minus ∷ [])
one_sign Address minus plus = tt
one_sign Branch minus plus = plus
one_sign Displacement minus plus = plus
one_sign TotalKind minus plus = plus

signs_of : (symbols : List SymbolItem) (xs : List RldItem) → map (λ t. t.minus) (map (term_of symbols) xs) ≡ map (λ h. (term_of symbols h).minus) xs
signs_of symbols [] = refl
signs_of symbols (x ∷ xs) = ap (λ ys. (term_of symbols x).minus ∷ ys) (signs_of symbols xs)

signs_proper : (symbols : List SymbolItem) (g : RldItem) (xs : List RldItem) → Has xs g → IsJudgedField symbols g → IsGroup g xs
    → HaveProperSigns (kind_of_field (field_kind g)) (map (λ h. (term_of symbols h).minus) xs)
signs_proper symbols g xs there field both =
    elim (tested (field_kind g == 0)) [
      | inl e ↦ subst (λ kind. HaveProperSigns kind (map (λ h. (term_of symbols h).minus) xs)) (sym (is_address_kind (field_kind g) e)) (address_signs xs (λ h. (term_of symbols h).minus) g there)
      | inr other ↦
          elim both [
            | inl one ↦
                subst (λ ys. HaveProperSigns (kind_of_field (field_kind g)) (map (λ h. (term_of symbols h).minus) ys)) (sym one)
                (one_sign (kind_of_field (field_kind g)) (term_of symbols g).minus (added symbols g field other))
            | inr all ↦ absurd (differ (sym (has_each (λ h. (field_kind h == 0) ≡ true) xs g all there) ∙ other))
          ]
    ]
  where
    differ : true ≡ false → ⊥
    differ e = cc

-- an item whose section is kept
pub record IsKeptField (symbols : List SymbolItem) (x : RldItem) : Type 0 where
  pub field : IsJudgedField symbols x
  pub kept : is_kept_at symbols x.p ≡ true

fields_of : (symbols : List SymbolItem) (items : List RldItem) → AllByRecursion (IsKeptField symbols) items → AllByRecursion (IsJudgedField symbols) items
fields_of symbols items all = each_of (IsJudgedField symbols) items (λ x there. (has_each (IsKeptField symbols) items x all there).field)

constant_sound : (symbols : List SymbolItem) (items : List RldItem) (g : RldItem) → AllByRecursion (IsJudgedSymbol symbols) symbols → AllByRecursion (IsKeptField symbols) items → Pairs IsClear items → Has items g
    → IsSoundConst (items_of symbols) (constant_in symbols items g)
constant_sound symbols items g judged fields clear there =
    let one : IsKeptField symbols g = has_each (IsKeptField symbols) items g fields there in
    let xs : List RldItem = items_at g items in
    let within : Has xs g = has_filter (same_field g) items g there (same_refl g) in
    let both : IsGroup g xs = group_of items g clear there in
    let each : AllByRecursion (IsJudgedField symbols) xs =
    filter_each (IsJudgedField symbols) (same_field g) items (each_of (λ x. same_field g x ≡ true → IsJudgedField symbols x) items (λ x h passes. has_each (IsJudgedField symbols) items x (fields_of symbols items fields) h)) in
    let terms : AllByRecursion (λ h. IsSoundTerm (items_of symbols) (kind_of_field (field_kind g)) (term_of symbols h)) xs = terms_sound symbols g xs judged within each both in
    record {
      not_empty = (short g.flag).0;
      short = (short g.flag).1;
      inside = lies_there symbols g.p g.address (field_length g) one.field.lies one.kept;
      signs = subst (HaveProperSigns (kind_of_field (field_kind g))) (sym (signs_of symbols xs)) (signs_proper symbols g xs within one.field both);
      targets = All-from_recursion (λ t. FitsKind (items_of symbols) (kind_of_field (field_kind g)) t.target) (map (term_of symbols) xs)
          (each_map (λ t. FitsKind (items_of symbols) (kind_of_field (field_kind g)) t.target) (term_of symbols) xs
          (each_of (λ h. FitsKind (items_of symbols) (kind_of_field (field_kind g)) (term_of symbols h).target) xs (λ h w. (has_each _ xs h terms w).target)));
      bases = All-from_recursion (λ (t : SymTerm). IsAddress t.base) (map (term_of symbols) xs)
          (each_map (λ (t : SymTerm). IsAddress t.base) (term_of symbols) xs
          (each_of (λ h. IsAddress (term_of symbols h).base) xs (λ h w. (has_each _ xs h terms w).base)));
    }

firsts_there : (items : List RldItem) → AllByRecursion (Has items) (firsts same_field items)
firsts_there items = firsts_each (Has items) items (each_of (Has items) items (λ x there. there))

pub constants_sound : (symbols : List SymbolItem) (items : List RldItem) → AllByRecursion (IsJudgedSymbol symbols) symbols → AllByRecursion (IsKeptField symbols) items → Pairs IsClear items
    → All (IsSoundConst (items_of symbols)) (constants_in symbols items)
constants_sound symbols items judged fields clear =
    All-from_recursion (IsSoundConst (items_of symbols)) (constants_in symbols items)
    (each_map (IsSoundConst (items_of symbols)) (constant_in symbols items) (firsts same_field items)
    (each_of (λ g. IsSoundConst (items_of symbols) (constant_in symbols items g)) (firsts same_field items)
    (λ g first. constant_sound symbols items g judged fields clear (has_each (Has items) (firsts same_field items) g (firsts_there items) first))))

-- ---- two constants

either_apart : (a b c d : Bool) → a ≡ true → d ≡ false → (a && b && c && not d) ≡ false → (b ≡ false) ⊎ (c ≡ false)
either_apart true false c d p q h = inl refl
either_apart true true false d p q h = inr refl
either_apart true true true true p q h = cc
either_apart true true true false p q h = cc
either_apart false b c d p q h = cc

no_place : (a b c d : Bool) → a ≡ false → (a && b && c && d) ≡ false
no_place a b c d e = ap (λ t. t && b && c && d) e

other_address : (x y : RldItem) → x.p ≡ y.p → same_field x y ≡ false → (x.address == y.address) ≡ false
other_address x y section differ = by_section (x.p == y.p) (equal x.p y.p section) differ
  where
    equal : (m n : ℕ) → m ≡ n → (m == n) ≡ true
    equal m n e = grind (arith, e)

    by_section : (t : Bool) → t ≡ true → (t && x.address == y.address) ≡ false → (x.address == y.address) ≡ false
    by_section true e h = h
    by_section false e h = cc

-- the later of two items at another address lies apart
clear_apart : (x y : RldItem) → x.p ≡ y.p → (y.address == x.address) ≡ false → IsClear x y → (x.address + field_length x ≤ y.address) ⊎ (y.address + field_length y ≤ x.address)
clear_apart x y section other clear =
    let e : (x.p == y.p) ≡ true = equal x.p y.p section in
    elim (either_apart (x.p == y.p) (nat_lt y.address (x.address + field_length x)) (nat_lt x.address (y.address + field_length y)) _ e (no_place (y.address == x.address) (field_length y == field_length x) (field_kind y == 0) (field_kind x == 0) other) clear) [
      | inl low ↦ inl (ltb-false y.address (x.address + field_length x) low)
      | inr high ↦ inr (ltb-false x.address (y.address + field_length y) high)
    ]
  where
    equal : (m n : ℕ) → m ≡ n → (m == n) ≡ true
    equal m n e = grind (arith, e)

turned : (m n : ℕ) → (m == n) ≡ false → (n == m) ≡ false
turned m n e = grind (arith, e)

swapped : {A B : Type 0} → A ⊎ B → B ⊎ A
swapped either = elim either [ inl a ↦ inr a | inr b ↦ inl b ]

fields_apart : (items : List RldItem) (x y : RldItem) → Pairs IsClear items → Has items x → Has items y → same_field x y ≡ false → x.p ≡ y.p
    → (x.address + field_length x ≤ y.address) ⊎ (y.address + field_length y ≤ x.address)
fields_apart items x y clear a b differ section =
    let other : (x.address == y.address) ≡ false = other_address x y section differ in
    elim (pairs_either IsClear items x y clear a b) [
      | inl either ↦ elim either [
        | inl h ↦ clear_apart x y section (turned x.address y.address other) h
        | inr h ↦ swapped (clear_apart y x (sym section) other h)
      ]
      | inr same ↦ absurd (clash (sym (same_refl x) ∙ (ap (same_field x) same ∙ differ)))
    ]
  where
    clash : true ≡ false → ⊥
    clash e = cc

apart_step : (a m b n base other : ℕ) → other ≡ base → base ≤ a → base ≤ b → (a + m ≤ b) ⊎ (b + n ≤ a) → (a - base + m ≤ b - other) ⊎ (b - other + n ≤ a - base)
apart_step a m b n base other e low high either = elim either [ inl first ↦ inl (omega (arith, first)) | inr second ↦ inr (omega (arith, second)) ]

one_apart : (symbols : List SymbolItem) (items : List RldItem) (x y : RldItem) → AllByRecursion (IsKeptField symbols) items → Pairs IsClear items → Has items x → Has items y → same_field x y ≡ false
    → AreApart (constant_in symbols items x) (constant_in symbols items y)
one_apart symbols items x y fields clear a b differ = λ same.
    let p : IsKeptField symbols x = has_each (IsKeptField symbols) items x fields a in
    let q : IsKeptField symbols y = has_each (IsKeptField symbols) items y fields b in
    let s : SymbolItem = p.field.lies.section in
    let t : SymbolItem = q.field.lies.section in
    let section : x.p ≡ y.p =
    same_number symbols x.p y.p s t p.field.lies.there (kept_there symbols x.p s p.field.lies.there p.kept) q.field.lies.there (kept_there symbols y.p t q.field.lies.there q.kept) same in
    apart_step x.address (field_length x) y.address (field_length y) (address_in_module symbols x.p) (address_in_module symbols y.p) (ap (address_in_module symbols) (sym section))
    (subst (λ n. n ≤ x.address) (sym (address_is symbols x.p s p.field.lies.there)) p.field.lies.from)
    (subst (λ n. n ≤ y.address) (sym (ap (address_in_module symbols) section ∙ address_is symbols y.p t q.field.lies.there)) q.field.lies.from)
    (fields_apart items x y clear a b differ section)

pub constants_apart : (symbols : List SymbolItem) (items : List RldItem) → AllByRecursion (IsKeptField symbols) items → Pairs IsClear items → AllPairs AreApart (constants_in symbols items)
constants_apart symbols items fields clear = λ i j d before within.
    let L : List RldItem = firsts same_field items in
    let nothing : RldItem = record { r = 0; p = 0; flag = 0; address = 0 } in
    let last : j < length L = subst (λ n. j < n) (length-map L (constant_in symbols items)) within in
    let first : i < length L = omega arith in
    let there : All (Has items) L = All-from_recursion (Has items) L (firsts_there items) in
    subst (λ c. AreApart c (get_or (map (constant_in symbols items) L) j d)) (sym (get_or-map (constant_in symbols items) L i nothing d first))
    (subst (λ c. AreApart (constant_in symbols items (get_or L i nothing)) c) (sym (get_or-map (constant_in symbols items) L j nothing d last))
    (one_apart symbols items (get_or L i nothing) (get_or L j nothing) fields clear (there i nothing first) (there j nothing last) (all_differ items i j nothing before last)))
