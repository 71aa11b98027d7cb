-- Relocation items that may stand beside each other in one module.
use Rattle.std.proofs.Common.{◌≡◌, ◌≢◌, ℕ, zero, suc, ◌+◌, ◌*◌, ◌/◌, ◌%◌, ◌<◌, ◌≤◌, Bool, true, false, not, ◌&&◌, ◌||◌, ◌==◌, nat_lt, nat_le, List, [], ◌∷◌, ◌++◌, map, length, ◌⊎◌, inl, inr, refl, sym, ap, subst, ◌∙◌, arith}
use Rattle.std.proofs.lemmas.List.{map-append}
use Rattle.std.proofs.lemmas.Bool.{and_left, and_right, and_parts, eq-eqb, eqb-true, ne_eqb, le-ltb, ltb-true, leb-true, not_from_true, and_from}
use Rattle.std.specs.List.{flat_map}
use Rattle.load_recs.specs.declared.items.RldItem.{RldItem}
use Rattle.member_model.specs.Symbols.{field_kind, field_length}
use Rattle.member_model.specs.Faults.{shares_wrongly}
use Rattle.member_laws.proofs.Joined.{IsPlain, ArePlain, told}
use Rattle.member_model.specs.Chunks.{same_pointers, joined, chunks}
use Rattle.member_model.proofs.Cutting.{chunks_hold_all_items}
use Rattle.member_laws.proofs.Chunked.{IsChunk, chunks-are}
use Rattle.member_laws.proofs.PartPieces.{flat_map-same}
use Rattle.member_laws.proofs.Membership.{Has, has-each}

-- ---- two items

-- A-type items of one place and length
pub record AreTogether (x y : RldItem) : Type 0 where
  pub address : x.address ≡ y.address
  pub size : field_length x ≡ field_length y
  pub first_kind : field_kind x ≡ 0
  pub second_kind : field_kind y ≡ 0

-- in other sections, one before the other, or together
abbrev pub Clear : RldItem → RldItem → Type 0
Clear x y = (x.p ≢ y.p) ⊎ ((x.address + field_length x ≤ y.address) ⊎ ((y.address + field_length y ≤ x.address) ⊎ AreTogether x y))

pub clear-both : (x y : RldItem) → Clear x y → Clear y x
clear-both x y clear =
    elim clear [
      | inl other ↦ inl (λ e. other (sym e))
      | inr a ↦ elim a [
        | inl before ↦ inr (inr (inl before))
        | inr b ↦ elim b [
          | inl after ↦ inr (inl after)
          | inr t ↦ inr (inr (inr (record { address = sym t.address; size = sym t.size; first_kind = t.second_kind; second_kind = t.first_kind })))
        ]
      ]
    ]

pub clear-not-shared : (x y : RldItem) → Clear x y → shares_wrongly x y ≡ false
clear-not-shared x y clear =
    let a = y.p == x.p in
    let b = nat_lt x.address (y.address + field_length y) in
    let c = nat_lt y.address (x.address + field_length x) in
    let d = not (x.address == y.address && field_length x == field_length y && field_kind x == 0 && field_kind y == 0) in
    elim clear [
      | inl other ↦ and_left (a && b && c) d (and_left (a && b) c (and_left a b (ne_eqb y.p x.p (λ e. other (sym e)))))
      | inr s ↦ elim s [
        | inl before ↦ and_left (a && b && c) d (and_right (a && b) c (le-ltb y.address (x.address + field_length x) before))
        | inr t ↦ elim t [
          | inl after ↦ and_left (a && b && c) d (and_left (a && b) c (and_right a b (le-ltb x.address (y.address + field_length y) after)))
          | inr u ↦ and_right (a && b && c) d (not_from_true _
              (and_from (x.address == y.address && field_length x == field_length y && field_kind x == 0) (field_kind y == 0)
              (and_from (x.address == y.address && field_length x == field_length y) (field_kind x == 0)
              (and_from (x.address == y.address) (field_length x == field_length y) (eq-eqb x.address y.address u.address) (eq-eqb (field_length x) (field_length y) u.size))
              (eq-eqb (field_kind x) 0 u.first_kind)) (eq-eqb (field_kind y) 0 u.second_kind)))
        ]
      ]
    ]

-- ---- without what an item tells of the next

-- the item, which tells nothing of the next
abbrev pub strip : RldItem → RldItem
strip x = record x { flag = x.flag / 2 * 2 }

pub strip-length : (x : RldItem) → field_length (strip x) ≡ field_length x
strip-length x = halves x.flag
  where
    halves : (n : ℕ) → n / 2 * 2 / 4 % 4 + 1 ≡ n / 4 % 4 + 1
    halves n = omega arith

pub strip-kind : (x : RldItem) → field_kind (strip x) ≡ field_kind x
strip-kind x = halves x.flag
  where
    halves : (n : ℕ) → n / 2 * 2 / 16 % 8 ≡ n / 16 % 8
    halves n = omega arith

pub clear-stripped : (x y : RldItem) → Clear (strip x) (strip y) → Clear x y
clear-stripped x y clear =
    let lx = strip-length x in
    let ly = strip-length y in
    elim clear [
      | inl other ↦ inl other
      | inr s ↦ elim s [
        | inl before ↦ inr (inl (subst (λ n. x.address + n ≤ y.address) lx before))
        | inr t ↦ elim t [
          | inl after ↦ inr (inr (inl (subst (λ n. y.address + n ≤ x.address) ly after)))
          | inr u ↦ inr (inr (inr (record {
            address = u.address;
            size = sym lx ∙ u.size ∙ ly;
            first_kind = sym (strip-kind x) ∙ u.first_kind;
            second_kind = sym (strip-kind y) ∙ u.second_kind;
          })))
        ]
      ]
    ]

strip-told : (same : Bool) (x : RldItem) → IsPlain x → strip (told same x) ≡ x
strip-told true x is = item_with (((x.flag + 1) / 2) * 2) x (odd x.flag is.even)
  where
    odd : (n : ℕ) → n % 2 ≡ 0 → (n + 1) / 2 * 2 ≡ n
    odd n e = omega arith

    item_with : (n : ℕ) (x : RldItem) → n ≡ x.flag → record x { flag = n } ≡ x
    item_with n x e = ap (λ m. record x { flag = m }) e
strip-told false x is = item_with (x.flag / 2 * 2) x (whole x.flag is.even)
  where
    whole : (n : ℕ) → n % 2 ≡ 0 → n / 2 * 2 ≡ n
    whole n e = omega arith

    item_with : (n : ℕ) (x : RldItem) → n ≡ x.flag → record x { flag = n } ≡ x
    item_with n x e = ap (λ m. record x { flag = m }) e

strip-joined : (items : List RldItem) → ArePlain items → map strip (joined items) ≡ items
strip-joined [] plain = refl
strip-joined (x ∷ []) plain = ap (λ y. y ∷ []) (strip-told false x plain.0)
strip-joined (x ∷ y ∷ rest) plain =
    ap (λ z. z ∷ map strip (joined (y ∷ rest))) (strip-told (same_pointers x y) x plain.0) ∙ ap (λ l. x ∷ l) (strip-joined (y ∷ rest) plain.1)

pub map-flat : {X Y Z : Type 0} (f : Y → Z) (g : X → List Y) (xs : List X) → map f (flat_map g xs) ≡ flat_map (λ x. map f (g x)) xs
map-flat f g [] = refl
map-flat f g (x ∷ xs) = map-append f (g x) (flat_map g xs) ∙ ap (λ l. map f (g x) ++ l) (map-flat f g xs)

-- the items of chunks, without what they tell of the next, are these items
pub strip_chunks : (items : List RldItem) → ArePlain items → map strip (flat_map joined (chunks items)) ≡ items
strip_chunks items plain =
    map-flat strip joined (chunks items)
    ∙ flat_map-same (λ c. map strip (joined c)) (λ c. c) (chunks items) (λ c there. strip-joined c (has-each IsChunk (chunks items) c (chunks-are items plain) there).plain)
    ∙ chunks_hold_all_items items
