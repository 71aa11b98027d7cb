-- The parts of a segment in storage, apart from one another: their items and their text.
use Rattle.std.proofs.Common.{arith, ◌≡◌, ◌≢◌, ◌⊎◌, inl, inr, ℕ, ◌+◌, ◌-◌, ◌<◌, ◌≤◌, Bool, true, false, nat_le, nat_lt, List, [], fold, length, slice_index, refl, sym, ◌∙◌, ap}
use Rattle.std.specs.List.{AllByRecursion as Each}
use Rattle.std.proofs.lemmas.Bool.{and_parts, leb-true, ltb-true, false≢true}
use Rattle.sym_mod.specs.declared.program.SecKind.{SecKind}
use Rattle.sym_mod.specs.declared.program.SecKind.TheVariants.{Sd, Pc, Cm}
use Rattle.load_recs.specs.declared.items.SymbolItem.{SymbolItem}
use Rattle.load_recs.specs.declared.items.RldItem.{RldItem}
use Rattle.linking_model.specs.Numbers.{is_among}
use Rattle.linking_model.specs.Places.{Laid}
use Rattle.linking_model.specs.Run.{Storage}
use Rattle.member_model.specs.Symbols.{field_length, address_in_module}
use Rattle.member_model.specs.Facts.{Facts}
use Rattle.member_model.specs.Parts.{Part, parts, parts_in, part_kind, part_place, part_bytes, part_number}
use Rattle.member_model.specs.Chunks.{part_items}
use Rattle.member_model.specs.Loaded.{Addresses, text_storage, field_place, covers}
use Rattle.member_laws.specs.Storing.{HoldsSegment}
use Rattle.member_laws.proofs.LoadingLists.{Among, Pairs, each_weaker, each_both, each_beside, at_one, pairs_of_each}
use Rattle.member_laws.proofs.LoadingItems.{IsEven, EndsIn, AreItems, among_true}
use Rattle.member_laws.proofs.LoadingText.{with_part, part_inside, part_outside, text_by_parts, fold_one, fold_none}

-- ---- parts and their items

-- the item's field is in the part
pub record IsItemOf (P : Laid) (x : Part) (z : RldItem) : Type 0 where
  pub part : z.p ≡ part_number P x
  pub from : part_place P x ≤ z.address
  pub to : z.address + field_length z ≤ part_place P x + length (part_bytes P x)

-- the part has no items, and zeros alone
pub record IsBlank (P : Laid) (x : Part) : Type 0 where
  pub items : part_items P x ≡ []
  pub bytes : (o : ℕ) → slice_index (part_bytes P x) o ≡ 0

-- the part has a symbol, and its items are in it
pub record Stands (P : Laid) (symbols : List SymbolItem) (x : Part) : Type 0 where
  pub numbered : Among x (parts P)
  pub place : address_in_module symbols (part_number P x) ≡ part_place P x
  pub even : Each IsEven (part_items P x)
  pub inside : Each (IsItemOf P x) (part_items P x)
  pub common : part_kind P x ≡ Cm → IsBlank P x

pub are_items : (P : Laid) (symbols : List SymbolItem) (x : Part) → Stands P symbols x → AreItems P x
are_items P symbols x stands = record {
  even = stands.even;
  ends =
      each_weaker (IsItemOf P x) (EndsIn (part_place P x) (length (part_bytes P x))) (part_items P x)
      (λ z inside. ends z inside) stands.inside;
  common = λ is. (stands.common is).items;
}
  where
    last : (p a l n : ℕ) → p ≤ a → 1 ≤ l → a + l ≤ p + n → (p ≤ a + (l - 1)) × (a + (l - 1) < p + n)
    last p a l n from some to = (omega arith, omega arith)

    ends : (z : RldItem) → IsItemOf P x z → EndsIn (part_place P x) (length (part_bytes P x)) z
    ends z inside =
        let both = last (part_place P x) z.address (field_length z) (length (part_bytes P x)) inside.from (omega arith) inside.to in
        record { from = both.0; to = both.1 }

-- where the part stands
abbrev pub now_at : Laid → Addresses → Part → ℕ
now_at P q x = q (part_number P x)

pub field_stands : (P : Laid) (F : Facts) (q : Addresses) (x : Part) (z : RldItem) → Stands P F.symbols x → IsItemOf P x z
    → field_place F q z ≡ now_at P q x + (z.address - part_place P x)
field_stands P F q x z stands inside =
    ap (λ p. q p + (z.address - address_in_module F.symbols p)) inside.part
    ∙ ap (λ A. now_at P q x + (z.address - A)) stands.place

pub among_parts : (a n p : ℕ) → is_among a n p ≡ true → (a ≤ p) × (p < a + n)
among_parts a n p inside =
    let both = and_parts (nat_le a p) (nat_lt p (a + n)) inside in
    (leb-true a p both.0, ltb-true p (a + n) both.1)

-- a place is in the part
abbrev pub has_place : Laid → Addresses → ℕ → Part → Bool
has_place P q a x = is_among (now_at P q x) (length (part_bytes P x)) a

-- an item covers no place outside of its part
pub not_elsewhere : (P : Laid) (F : Facts) (q : Addresses) (a : ℕ) (x : Part) (z : RldItem) → Stands P F.symbols x → IsItemOf P x z
    → has_place P q a x ≡ false → covers F q a z ≡ false
not_elsewhere P F q a x z stands inside outside = by_cases (covers F q a z) refl
  where
    within : (b A p f l n a : ℕ) → b ≡ A + (f - p) → p ≤ f → f + l ≤ p + n → b ≤ a → a < b + l → (A ≤ a) × (a < A + n)
    within b A p f l n a is from to low high = (omega arith, omega arith)

    by_cases : (b : Bool) → covers F q a z ≡ b → covers F q a z ≡ false
    by_cases false not_there = not_there
    by_cases true there =
        let both = among_parts (field_place F q z) (field_length z) a there in
        let place = within (field_place F q z) (now_at P q x) (part_place P x) z.address (field_length z) (length (part_bytes P x)) a
        (field_stands P F q x z stands inside) inside.from inside.to both.0 both.1 in
        absurd (false≢true (sym outside ∙ among_true (now_at P q x) (length (part_bytes P x)) a place.0 place.1))

-- ---- the parts of a segment

-- the two parts are apart in storage
pub record Apart (P : Laid) (q : Addresses) (x y : Part) : Type 0 where
  pub differ : x ≢ y
  pub apart : (now_at P q x + length (part_bytes P x) ≤ now_at P q y) ⊎ (now_at P q y + length (part_bytes P y) ≤ now_at P q x)

-- the facts have the segment, its parts stand there, and they are apart in storage
pub record IsReady (P : Laid) (n s : ℕ) (F : Facts) (q : Addresses) : Type 0 where
  pub some : 1 ≤ n
  pub holds : HoldsSegment P n s F
  pub stands : Each (Stands P F.symbols) (parts_in P s)
  pub apart : Pairs (Apart P q) (parts_in P s)

-- parts that stand beside one another
abbrev pub Beside : Laid → Facts → Addresses → Part → Part → Type 0
Beside P F q x y = Stands P F.symbols x × Stands P F.symbols y × Apart P q x y

pub beside : (P : Laid) (n s : ℕ) (F : Facts) (q : Addresses) → IsReady P n s F q → Pairs (Beside P F q) (parts_in P s)
beside P n s F q ready = pairs_of_each (Apart P q) (Stands P F.symbols) (parts_in P s) ready.apart ready.stands

-- of two that are apart, one alone has the place
not_both : (P : Laid) (q : Addresses) (a : ℕ) (x y : Part) → has_place P q a x ≡ true
    → (now_at P q x + length (part_bytes P x) ≤ now_at P q y) ⊎ (now_at P q y + length (part_bytes P y) ≤ now_at P q x)
    → has_place P q a y ≡ false
not_both P q a x y here apart = by_cases (has_place P q a y) refl
  where
    clash : (A m B n a : ℕ) → (A ≤ a) × (a < A + m) → (B ≤ a) × (a < B + n) → (A + m ≤ B) ⊎ (B + n ≤ A) → ⊥
    clash A m B n a first second sides = omega arith

    by_cases : (b : Bool) → has_place P q a y ≡ b → has_place P q a y ≡ false
    by_cases false outside = outside
    by_cases true there =
        absurd (clash (now_at P q x) (length (part_bytes P x)) (now_at P q y) (length (part_bytes P y)) a
        (among_parts _ _ a here) (among_parts _ _ a there) apart)

turned : (A B : Type 0) → A ⊎ B → B ⊎ A
turned A B (inl a) = inr a
turned A B (inr b) = inl b

-- no other part has the place
pub others : (P : Laid) (n s : ℕ) (F : Facts) (q : Addresses) (a : ℕ) (x : Part) → IsReady P n s F q → Among x (parts_in P s)
    → has_place P q a x ≡ true → Each (λ y. (y ≡ x) ⊎ (has_place P q a y ≡ false)) (parts_in P s)
others P n s F q a x ready among here =
    each_beside (Apart P q) (λ y. (y ≡ x) ⊎ (has_place P q a y ≡ false)) x (parts_in P s) ready.apart among (inl refl)
    (λ y apart. inr (not_both P q a x y here apart.apart))
    (λ y apart. inr (not_both P q a x y here (turned _ _ apart.apart)))

-- ---- text

pub sd_not_common : Sd ≡ Cm → ⊥
sd_not_common same = cc

pc_not_common : Pc ≡ Cm → ⊥
pc_not_common same = cc

pub text_in_part : (P : Laid) (n s : ℕ) (F : Facts) (q : Addresses) (x : Part) (o : ℕ) → IsReady P n s F q → Among x (parts_in P s)
    → o < length (part_bytes P x) → text_storage F q s (now_at P q x + o) ≡ slice_index (part_bytes P x) o
text_in_part P n s F q x o ready among inside =
    ap (λ M. M a) (text_by_parts P n s F q ready.holds) ∙ by_cases (part_kind P x) refl
  where
    a : ℕ
    a = now_at P q x + o

    own : Stands P F.symbols x
    own = at_one (Stands P F.symbols) x (parts_in P s) ready.stands among

    here : has_place P q a x ≡ true
    here = among_true (now_at P q x) (length (part_bytes P x)) a (omega arith) (omega (arith, inside))

    keeps : Each (λ y. (y ≡ x) ⊎ ((N : Storage) → with_part F.symbols q P n N y a ≡ N a)) (parts_in P s)
    keeps =
        each_weaker (λ y. Stands P F.symbols y × ((y ≡ x) ⊎ (has_place P q a y ≡ false))) _ (parts_in P s)
        (λ y both. or_keeps y both.0 both.1)
        (each_both (Stands P F.symbols) _ (parts_in P s) ready.stands (others P n s F q a x ready among here))
      where
        or_keeps : (y : Part) → Stands P F.symbols y → (y ≡ x) ⊎ (has_place P q a y ≡ false)
            → (y ≡ x) ⊎ ((N : Storage) → with_part F.symbols q P n N y a ≡ N a)
        or_keeps y stands (inl same) = inl same
        or_keeps y stands (inr outside) = inr (λ N. part_outside F.symbols q P n y a N stands.place outside)

    back : a - now_at P q x ≡ o
    back = omega arith

    written : (part_kind P x ≡ Cm → ⊥) → fold (with_part F.symbols q P n) (λ _. 0) (parts_in P s) a ≡ slice_index (part_bytes P x) o
    written text =
        fold_one (with_part F.symbols q P n) a (slice_index (part_bytes P x) o) x (parts_in P s) (λ _. 0)
        (λ N. part_inside F.symbols q P n x a N ready.some own.place text (omega arith) (omega (arith, inside))
        ∙ ap (slice_index (part_bytes P x)) back)
        keeps among

    by_cases : (kind : SecKind) → part_kind P x ≡ kind → fold (with_part F.symbols q P n) (λ _. 0) (parts_in P s) a ≡ slice_index (part_bytes P x) o
    by_cases Sd is = written (λ common. sd_not_common (sym is ∙ common))
    by_cases Pc is = written (λ common. pc_not_common (sym is ∙ common))
    by_cases Cm is = unwritten ∙ sym ((own.common is).bytes o)
      where
        unwritten : fold (with_part F.symbols q P n) (λ _. 0) (parts_in P s) a ≡ 0
        unwritten =
            fold_none (with_part F.symbols q P n) a (parts_in P s) (λ _. 0)
            (each_weaker (λ y. (y ≡ x) ⊎ ((N : Storage) → with_part F.symbols q P n N y a ≡ N a)) _ (parts_in P s)
            (λ y or. kept y or) keeps)
          where
            kept : (y : Part) → (y ≡ x) ⊎ ((N : Storage) → with_part F.symbols q P n N y a ≡ N a) → (N : Storage)
                → with_part F.symbols q P n N y a ≡ N a
            kept y (inl same) N = ap (λ z. with_part F.symbols q P n N z a) same ∙ no_pieces N
              where
                no_pieces : (N : Storage) → with_part F.symbols q P n N x a ≡ N a
                no_pieces N = rw is refl
            kept y (inr keeps) N = keeps N
