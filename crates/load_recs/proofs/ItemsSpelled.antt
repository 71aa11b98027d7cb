-- The bytes of items that were read spell them, but for those that nothing looks at.
use Rattle.std.proofs.Common.{◌≡◌, ℕ, ◌/◌, ◌%◌, ◌^◌, ◌<◌, ◌≤◌, nat_lt, true, false, ◌==◌, List, [], ◌∷◌, ◌++◌, length, take, drop, Option, Some, None, inl, inr, refl, sym, ap, subst, ◌∙◌, arith}
use Rattle.std.specs.Prelude.{unwrap_or}
use Rattle.std.proofs.lemmas.Bool.{eqb-true}
use Rattle.std.proofs.lemmas.List.{nil_from_length, length-drop}
use Rattle.byteorder.specs.Endian.{big_bytes, big_number}
use Rattle.le_bytes.specs.Names.{blank_bytes}
use Rattle.load_recs.specs.declared.items.SymbolKind.{SymbolKind}
use Rattle.load_recs.specs.declared.items.SymbolKind.TheVariants.{Sd, Er, Lr, Pc, Cm, Pr, Null, Wx}
use Rattle.load_recs.specs.declared.relocation_items.Pointers.{Pointers}
use Rattle.load_recs.specs.Items.{is_alignment, kind_of, symbol_as, symbol_of, is_wrong_as, is_wrong_symbol, note_of}
use Rattle.load_recs.specs.ItemBytes.{kind_byte, symbol_bytes, IsSymbol, plain_symbol_as, plain_symbol, note_bytes, plain_note, IsNote, rld_list_bytes}
use Rattle.load_recs.specs.Relocations.{numbers, kept_after, rlds_after, left_after, rlds_of, is_whole}
use Rattle.load_recs.proofs.Spelled.{AreBytes, AreBytes-drop, two, two_bytes, three, three_bytes, tested, true_by_not, on_16}

-- ---- relocation items

short_spelled : (flag x y z : ℕ) (rest spelled : List ℕ) → x < 256 → y < 256 → z < 256 → spelled ≡ rest
    → (flag ∷ big_bytes 3 (three x y z)) ++ spelled ≡ flag ∷ x ∷ y ∷ z ∷ rest
short_spelled flag x y z rest spelled p q r e =
    ap (λ (v : List ℕ). (flag ∷ v) ++ spelled) (three_bytes x y z p q r) ∙ ap (λ (v : List ℕ). flag ∷ x ∷ y ∷ z ∷ v) e

full_spelled : (a b c d : ℕ) (rest spelled : List ℕ) → a < 256 → b < 256 → c < 256 → d < 256 → spelled ≡ rest
    → big_bytes 2 (two a b) ++ (big_bytes 2 (two c d) ++ spelled) ≡ a ∷ b ∷ c ∷ d ∷ rest
full_spelled a b c d rest spelled p q r s e =
    ap (λ (v : List ℕ). v ++ (big_bytes 2 (two c d) ++ spelled)) (two_bytes a b p q)
    ∙ ap (λ (v : List ℕ). a ∷ b ∷ (v ++ spelled)) (two_bytes c d r s) ∙ ap (λ (v : List ℕ). a ∷ b ∷ c ∷ d ∷ v) e

-- items with nothing left after them
rlds_spelled : (kept : Option Pointers) (bytes : List ℕ) → AreBytes bytes → left_after kept bytes ≡ [] → rld_list_bytes kept (rlds_after kept bytes) ≡ bytes
rlds_spelled (Some p) [] fits e = refl
rlds_spelled (Some p) (a ∷ []) fits e = absurd cc
rlds_spelled (Some p) (a ∷ b ∷ []) fits e = absurd cc
rlds_spelled (Some p) (a ∷ b ∷ c ∷ []) fits e = absurd cc
rlds_spelled (Some p) (flag ∷ x ∷ y ∷ z ∷ rest) fits e =
    short_spelled flag x y z rest _ (fits 1) (fits 2) (fits 3) (rlds_spelled (kept_after p flag) rest (AreBytes-drop 4 (flag ∷ x ∷ y ∷ z ∷ rest) fits) e)
rlds_spelled None [] fits e = refl
rlds_spelled None (a ∷ []) fits e = absurd cc
rlds_spelled None (a ∷ b ∷ []) fits e = absurd cc
rlds_spelled None (a ∷ b ∷ c ∷ []) fits e = absurd cc
rlds_spelled None (a ∷ b ∷ c ∷ d ∷ []) fits e = absurd cc
rlds_spelled None (a ∷ b ∷ c ∷ d ∷ f ∷ []) fits e = absurd cc
rlds_spelled None (a ∷ b ∷ c ∷ d ∷ f ∷ g ∷ []) fits e = absurd cc
rlds_spelled None (a ∷ b ∷ c ∷ d ∷ f ∷ g ∷ h ∷ []) fits e = absurd cc
rlds_spelled None (a ∷ b ∷ c ∷ d ∷ flag ∷ x ∷ y ∷ z ∷ rest) fits e =
    full_spelled a b c d (flag ∷ x ∷ y ∷ z ∷ rest) _ (fits 0) (fits 1) (fits 2) (fits 3)
    (short_spelled flag x y z rest _ (fits 5) (fits 6) (fits 7)
    (rlds_spelled (kept_after (numbers a b c d) flag) rest (AreBytes-drop 8 (a ∷ b ∷ c ∷ d ∷ flag ∷ x ∷ y ∷ z ∷ rest) fits) e))

pub whole_spelled : (bytes : List ℕ) → AreBytes bytes → is_whole bytes ≡ true → rld_list_bytes None (rlds_of bytes) ≡ bytes
whole_spelled bytes fits whole =
    rlds_spelled None bytes fits (nil_from_length (left_after None bytes) (eqb-true (length (left_after None bytes)) 0 whole))

-- ---- symbol items

abbrev IsKindByte : ℕ → Option SymbolKind → Type 0
IsKindByte n None = Unit {0}
IsKindByte n (Some kind) = n ≡ kind_byte kind

abbrev IsKindRight : ℕ → Type 0
IsKindRight n = IsKindByte n (kind_of n)

at_kind : (k n : ℕ) → IsKindRight k → (n == k) ≡ true → IsKindRight n
at_kind k n here e = subst IsKindRight (sym (eqb-true n k e)) here

kind_none : (n : ℕ) → (n == 0) ≡ false → (n == 2) ≡ false → (n == 3) ≡ false → (n == 4) ≡ false → (n == 5) ≡ false → (n == 6) ≡ false
    → (n == 7) ≡ false → (n == 10) ≡ false → IsKindRight n
kind_none n a b c d e f g h = rw (a, b, c, d, e, f, g, h) tt

kind_right : (n : ℕ) → IsKindRight n
kind_right n =
    elim (tested (n == 0)) [
      | inl e ↦ at_kind 0 n refl e
      | inr a ↦
          elim (tested (n == 2)) [
            | inl e ↦ at_kind 2 n refl e
            | inr b ↦
                elim (tested (n == 3)) [
                  | inl e ↦ at_kind 3 n refl e
                  | inr c ↦
                      elim (tested (n == 4)) [
                        | inl e ↦ at_kind 4 n refl e
                        | inr d ↦
                            elim (tested (n == 5)) [
                              | inl e ↦ at_kind 5 n refl e
                              | inr f ↦
                                  elim (tested (n == 6)) [
                                    | inl e ↦ at_kind 6 n refl e
                                    | inr g ↦
                                        elim (tested (n == 7)) [
                                          | inl e ↦ at_kind 7 n refl e
                                          | inr h ↦
                                              elim (tested (n == 10)) [
                                                | inl e ↦ at_kind 10 n refl e
                                                | inr i ↦
                                                    kind_none n a b c d f g h i
                                              ]
                                        ]
                                  ]
                            ]
                      ]
                ]
          ]
    ]

abbrev symbol_with : List ℕ → ℕ → List ℕ → ℕ → List ℕ → List ℕ
symbol_with name kind address segment len = name ++ (kind ∷ address ++ (segment ∷ len))

symbol_with-is : (name : List ℕ) (k k' : ℕ) (a a' : List ℕ) (segment : ℕ) (l l' : List ℕ) → k ≡ k' → a ≡ a' → l ≡ l'
    → symbol_with name k a segment l ≡ symbol_with name k' a' segment l'
symbol_with-is name k k' a a' segment l l' p q r = rw (p, q, r) refl

zero_first : (a b : ℕ) → a < 256 → b < 256 → big_bytes 3 (two a b) ≡ 0 ∷ a ∷ b ∷ []
zero_first a b p q =
    let zero : two a b / 65536 % 256 ≡ 0 = omega arith in
    ap (λ (n : ℕ). n ∷ big_bytes 2 (two a b)) zero ∙ ap (λ (v : List ℕ). 0 ∷ v) (two_bytes a b p q)

-- the kind decides what is spelled
abbrev SpellsAs : Option SymbolKind → List ℕ → Type 0
SpellsAs None item = ⊥
SpellsAs (Some kind) item = IsSymbol (symbol_as kind item) × (symbol_bytes (symbol_as kind item) ≡ plain_symbol_as kind item)

-- the items of all kinds but labels and private code, whose bytes are all looked at
spells_whole : (kind : SymbolKind) (a b c d e f g h k i j l s m o p : ℕ)
    → (let item : List ℕ = a ∷ b ∷ c ∷ d ∷ e ∷ f ∷ g ∷ h ∷ k ∷ i ∷ j ∷ l ∷ s ∷ m ∷ o ∷ p ∷ [] in
    AreBytes item → k ≡ kind_byte kind
    → symbol_with (a ∷ b ∷ c ∷ d ∷ e ∷ f ∷ g ∷ h ∷ []) (kind_byte kind) (big_bytes 3 (three i j l)) s (big_bytes 3 (three m o p)) ≡ item)
spells_whole kind a b c d e f g h k i j l s m o p fits is =
    symbol_with-is (a ∷ b ∷ c ∷ d ∷ e ∷ f ∷ g ∷ h ∷ []) (kind_byte kind) k (big_bytes 3 (three i j l)) (i ∷ j ∷ l ∷ []) s (big_bytes 3 (three m o p)) (m ∷ o ∷ p ∷ [])
    (sym is) (three_bytes i j l (fits 9) (fits 10) (fits 11)) (three_bytes m o p (fits 13) (fits 14) (fits 15))

below_24 : (a b c : ℕ) → a < 256 → b < 256 → c < 256 → three a b c < 2 ^ 24
below_24 a b c p q r = omega arith

spells_as : (kind : Option SymbolKind) (a b c d e f g h k i j l s m o p : ℕ)
    → (let item : List ℕ = a ∷ b ∷ c ∷ d ∷ e ∷ f ∷ g ∷ h ∷ k ∷ i ∷ j ∷ l ∷ s ∷ m ∷ o ∷ p ∷ [] in
    AreBytes item → IsKindByte k kind → is_wrong_as kind item ≡ false → SpellsAs kind item)
spells_as None a b c d e f g h k i j l s m o p fits is fine = absurd cc
spells_as (Some Sd) a b c d e f g h k i j l s m o p fits is fine = (
  record { name = refl; address = below_24 i j l (fits 9) (fits 10) (fits 11); length_fits = below_24 m o p (fits 13) (fits 14) (fits 15); suits = tt },
  spells_whole Sd a b c d e f g h k i j l s m o p fits is,
)
spells_as (Some Cm) a b c d e f g h k i j l s m o p fits is fine = (
  record { name = refl; address = below_24 i j l (fits 9) (fits 10) (fits 11); length_fits = below_24 m o p (fits 13) (fits 14) (fits 15); suits = tt },
  spells_whole Cm a b c d e f g h k i j l s m o p fits is,
)
spells_as (Some Null) a b c d e f g h k i j l s m o p fits is fine = (
  record { name = refl; address = below_24 i j l (fits 9) (fits 10) (fits 11); length_fits = below_24 m o p (fits 13) (fits 14) (fits 15); suits = tt },
  spells_whole Null a b c d e f g h k i j l s m o p fits is,
)
spells_as (Some Er) a b c d e f g h k i j l s m o p fits is fine = (
  record { name = refl; address = below_24 i j l (fits 9) (fits 10) (fits 11); length_fits = below_24 m o p (fits 13) (fits 14) (fits 15); suits = fine },
  spells_whole Er a b c d e f g h k i j l s m o p fits is,
)
spells_as (Some Wx) a b c d e f g h k i j l s m o p fits is fine = (
  record { name = refl; address = below_24 i j l (fits 9) (fits 10) (fits 11); length_fits = below_24 m o p (fits 13) (fits 14) (fits 15); suits = fine },
  spells_whole Wx a b c d e f g h k i j l s m o p fits is,
)
spells_as (Some Pr) a b c d e f g h k i j l s m o p fits is fine = (
  record {
    name = refl;
    address = below_24 i j l (fits 9) (fits 10) (fits 11);
    length_fits = below_24 m o p (fits 13) (fits 14) (fits 15);
    suits = true_by_not (is_alignment s) fine;
  },
  spells_whole Pr a b c d e f g h k i j l s m o p fits is,
)
spells_as (Some Pc) a b c d e f g h k i j l s m o p fits is fine = (
  record { name = refl; address = below_24 i j l (fits 9) (fits 10) (fits 11); length_fits = below_24 m o p (fits 13) (fits 14) (fits 15); suits = refl },
  symbol_with-is blank_bytes 4 k (big_bytes 3 (three i j l)) (i ∷ j ∷ l ∷ []) s (big_bytes 3 (three m o p)) (m ∷ o ∷ p ∷ [])
      (sym is) (three_bytes i j l (fits 9) (fits 10) (fits 11)) (three_bytes m o p (fits 13) (fits 14) (fits 15)),
)
spells_as (Some Lr) a b c d e f g h k i j l s m o p fits is fine =
    let short : two o p < 2 ^ 16 = omega (arith, fits 14, fits 15) in (
      record { name = refl; address = below_24 i j l (fits 9) (fits 10) (fits 11); length_fits = omega arith; suits = (fine, short) },
      symbol_with-is (a ∷ b ∷ c ∷ d ∷ e ∷ f ∷ g ∷ h ∷ []) 3 k (big_bytes 3 (three i j l)) (i ∷ j ∷ l ∷ []) s (big_bytes 3 (two o p)) (0 ∷ o ∷ p ∷ [])
          (sym is) (three_bytes i j l (fits 9) (fits 10) (fits 11)) (zero_first o p (fits 14) (fits 15)),
    )

by_kind : (o : Option SymbolKind) (item : List ℕ) → SpellsAs o item
    → IsSymbol (symbol_as (unwrap_or o Null) item) × (symbol_bytes (symbol_as (unwrap_or o Null) item) ≡ plain_symbol_as (unwrap_or o Null) item)
by_kind None item s = absurd s
by_kind (Some kind) item s = s

abbrev SpellsSymbol : List ℕ → Type 0
SpellsSymbol item = length item ≡ 16 → AreBytes item → is_wrong_symbol item ≡ false
    → IsSymbol (symbol_of item) × (symbol_bytes (symbol_of item) ≡ plain_symbol item)

spells_sixteen : (a b c d e f g h k i j l s m o p : ℕ) (rest : List ℕ) → SpellsSymbol (a ∷ b ∷ c ∷ d ∷ e ∷ f ∷ g ∷ h ∷ k ∷ i ∷ j ∷ l ∷ s ∷ m ∷ o ∷ p ∷ rest)
spells_sixteen a b c d e f g h k i j l s m o p [] n fits fine =
    by_kind (kind_of k) _ (spells_as (kind_of k) a b c d e f g h k i j l s m o p fits (kind_right k) fine)
spells_sixteen a b c d e f g h k i j l s m o p (q ∷ rest) n fits fine = absurd (omega arith)

pub symbol_spelled : (item : List ℕ) → SpellsSymbol item
symbol_spelled item n fits fine = on_16 SpellsSymbol spells_sixteen item (ap (λ k. nat_lt k 16) n) n fits fine

-- ---- note items

front_spelled : (bytes : List ℕ) → AreBytes bytes → 3 ≤ length bytes → big_bytes 3 (big_number 3 bytes) ≡ take 3 bytes
front_spelled [] fits long = absurd (omega arith)
front_spelled (a ∷ []) fits long = absurd (omega arith)
front_spelled (a ∷ b ∷ []) fits long = absurd (omega arith)
front_spelled (a ∷ b ∷ c ∷ rest) fits long = three_bytes a b c (fits 0) (fits 1) (fits 2)

note_with-is : (x x' y y' z z' : List ℕ) → x ≡ x' → y ≡ y' → z ≡ z'
    → (x ++ 0 ∷ []) ++ ((y ++ 0 ∷ []) ++ (z ++ 0 ∷ [])) ≡ (x' ++ 0 ∷ []) ++ ((y' ++ 0 ∷ []) ++ (z' ++ 0 ∷ []))
note_with-is x x' y y' z z' p q r = rw (p, q, r) refl

front_below : (bytes : List ℕ) → AreBytes bytes → big_number 3 bytes < 2 ^ 24
front_below bytes fits = omega (arith, fits 0, fits 1, fits 2)

pub note_spelled : (item : List ℕ) → length item ≡ 12 → AreBytes item → IsNote (note_of item) × (note_bytes (note_of item) ≡ plain_note item)
note_spelled item n fits =
    let second = AreBytes-drop 4 item fits in
    let third = AreBytes-drop 8 item fits in (
      record { first_fits = front_below item fits; origin_fits = front_below (drop 4 item) second; length_fits = front_below (drop 8 item) third },
      note_with-is (big_bytes 3 (big_number 3 item)) (take 3 item) (big_bytes 3 (big_number 3 (drop 4 item))) (take 3 (drop 4 item))
          (big_bytes 3 (big_number 3 (drop 8 item))) (take 3 (drop 8 item))
          (front_spelled item fits (omega arith)) (front_spelled (drop 4 item) second (omega (arith, length-drop 4 item)))
          (front_spelled (drop 8 item) third (omega (arith, length-drop 8 item))),
    )
