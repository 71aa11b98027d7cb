-- Relocation items that tell whether the next has the same numbers are read as they were written.
use Rattle.std.proofs.Common.{◌≡◌, ℕ, zero, suc, ◌+◌, ◌/◌, ◌%◌, ◌<◌, ◌≤◌, ◌^◌, Bool, true, false, not, ◌&&◌, ◌||◌, ◌==◌, if◌then◌else◌, List, [], ◌∷◌, ◌++◌, length, fold, Option, Some, None, refl, sym, ap, subst, ◌∙◌, arith}
use Rattle.std.specs.Bool.{⊤}
use Rattle.std.proofs.lemmas.Bool.{and_parts, eqb-true, ne_eqb, eq-eqb, or_from, cond-true, cond-false}
use Rattle.std.specs.List.{AllByRecursion, list_any}
use Rattle.byteorder.specs.Endian.{big_bytes, big_number}
use Rattle.byteorder.specs.Numbers.{big_number-reads_back}
use Rattle.load_recs.specs.declared.items.RldItem.{RldItem}
use Rattle.load_recs.specs.declared.relocation_items.Pointers.{Pointers}
use Rattle.load_recs.specs.ItemBytes.{IsRld, rld_list_bytes}
use Rattle.load_recs.specs.Relocations.{pointers_of, numbers, kept_after, kept_by, is_joined, is_wrong_flag, has_wrong_flag, is_minus, field_kind, rlds_after, left_after, rlds_of, is_whole}
use Rattle.member_model.specs.Chunks.{same_pointers, joined, chunk_bytes}

-- ---- items of which each has the numbers that the one before promises

abbrev StartsAs : Option Pointers → RldItem → Type 0
StartsAs None x = ⊤
StartsAs (Some p) x = p ≡ pointers_of x

abbrev Joins : Option Pointers → List RldItem → Type 0
Joins kept [] = kept ≡ None
Joins kept (x ∷ xs) = StartsAs kept x × IsRld x × Joins (kept_by x) xs

item_is : (r p flag address : ℕ) (x : RldItem) → r ≡ x.r → p ≡ x.p → flag ≡ x.flag → address ≡ x.address
    → (let y : RldItem = record { r = r; p = p; flag = flag; address = address } in y ≡ x)
item_is r p flag address x a b c d = rw (a, b, c, d) refl

pointers_are : (r p : ℕ) (x : RldItem) → r ≡ x.r → p ≡ x.p → (let y : Pointers = record { r = r; p = p } in y ≡ pointers_of x)
pointers_are r p x a b = rw (a, b) refl

rlds-again : (kept : Option Pointers) (xs : List RldItem) → Joins kept xs → rlds_after kept (rld_list_bytes kept xs) ≡ xs
rlds-again None [] joins = refl
rlds-again (Some p) [] joins = refl
rlds-again None (x ∷ xs) joins =
    let r = big_number-reads_back 2 x.r [] joins.1.r_fits in
    let p = big_number-reads_back 2 x.p [] joins.1.p_fits in
    let address = big_number-reads_back 3 x.address [] joins.1.address_fits in
    ap (λ y. y ∷ rlds_after (kept_after (record { r = big_number 2 (big_bytes 2 x.r); p = big_number 2 (big_bytes 2 x.p) }) x.flag) (rld_list_bytes (kept_by x) xs))
    (item_is (big_number 2 (big_bytes 2 x.r)) (big_number 2 (big_bytes 2 x.p)) x.flag (big_number 3 (big_bytes 3 x.address)) x r p refl address)
    ∙ ap (λ q. x ∷ rlds_after (kept_after q x.flag) (rld_list_bytes (kept_by x) xs)) (pointers_are (big_number 2 (big_bytes 2 x.r)) (big_number 2 (big_bytes 2 x.p)) x r p)
    ∙ ap (λ l. x ∷ l) (rlds-again (kept_by x) xs joins.2)
rlds-again (Some q) (x ∷ xs) joins =
    let address = big_number-reads_back 3 x.address [] joins.1.address_fits in
    ap (λ y. y ∷ rlds_after (kept_after q x.flag) (rld_list_bytes (kept_by x) xs))
    (item_is q.r q.p x.flag (big_number 3 (big_bytes 3 x.address)) x (ap (λ z. z.r) joins.0) (ap (λ z. z.p) joins.0) refl address)
    ∙ ap (λ z. x ∷ rlds_after (kept_after z x.flag) (rld_list_bytes (kept_by x) xs)) joins.0
    ∙ ap (λ l. x ∷ l) (rlds-again (kept_by x) xs joins.2)

left-again : (kept : Option Pointers) (xs : List RldItem) → Joins kept xs → left_after kept (rld_list_bytes kept xs) ≡ []
left-again None [] joins = refl
left-again (Some p) [] joins = refl
left-again None (x ∷ xs) joins =
    let r = big_number-reads_back 2 x.r [] joins.1.r_fits in
    let p = big_number-reads_back 2 x.p [] joins.1.p_fits in
    ap (λ q. left_after (kept_after q x.flag) (rld_list_bytes (kept_by x) xs)) (pointers_are (big_number 2 (big_bytes 2 x.r)) (big_number 2 (big_bytes 2 x.p)) x r p)
    ∙ left-again (kept_by x) xs joins.2
left-again (Some q) (x ∷ xs) joins =
    ap (λ z. left_after (kept_after z x.flag) (rld_list_bytes (kept_by x) xs)) joins.0 ∙ left-again (kept_by x) xs joins.2

-- ---- items as the writer has them

-- an item whose numbers fit, with a flag that means something and tells nothing of the next
pub record IsPlain (x : RldItem) : Type 0 where
  pub r_fits : x.r < 2 ^ 16
  pub p_fits : x.p < 2 ^ 16
  pub address_fits : x.address < 2 ^ 24
  pub even : x.flag % 2 ≡ 0
  pub right : is_wrong_flag x.flag ≡ false

abbrev pub ArePlain : List RldItem → Type 0
ArePlain items = AllByRecursion IsPlain items

-- the item, which tells of the next or not
abbrev pub told : Bool → RldItem → RldItem
told same x = if same then record x { flag = x.flag + 1 } else x

odd : (flag : ℕ) → flag % 2 ≡ 0 → is_joined (flag + 1) ≡ true
odd flag even = eq-eqb ((flag + 1) % 2) 1 (omega arith)

not_odd : (flag : ℕ) → flag % 2 ≡ 0 → is_joined flag ≡ false
not_odd flag even = ne_eqb (flag % 2) 1 (omega arith)

pub kept-none : (x : RldItem) → IsPlain x → kept_by x ≡ None
kept-none x is = cond-false (is_joined x.flag) (Some (pointers_of x)) None (not_odd x.flag is.even)

pub kept-some : (x : RldItem) → IsPlain x → kept_by (told true x) ≡ Some (pointers_of x)
kept-some x is = cond-true (is_joined (x.flag + 1)) (Some (pointers_of x)) None (odd x.flag is.even)

is_rld : (x : RldItem) → IsPlain x → IsRld x
is_rld x is = record { r_fits = is.r_fits; p_fits = is.p_fits; address_fits = is.address_fits }

rld-told : (same : Bool) (x : RldItem) → IsPlain x → IsRld (told same x)
rld-told true x is = record { r_fits = is.r_fits; p_fits = is.p_fits; address_fits = is.address_fits }
rld-told false x is = is_rld x is

pub pointers-told : (same : Bool) (x : RldItem) → pointers_of (told same x) ≡ pointers_of x
pointers-told true x = refl
pointers-told false x = refl

pub same-pointers : (x y : RldItem) → same_pointers x y ≡ true → pointers_of x ≡ pointers_of y
same-pointers x y same =
    let both = and_parts (x.r == y.r) (x.p == y.p) same in
    pointers_are x.r x.p y (eqb-true x.r y.r both.0) (eqb-true x.p y.p both.1)

joins-start : (p : Pointers) (y : RldItem) (rest : List RldItem) → p ≡ pointers_of y → Joins None (joined (y ∷ rest)) → Joins (Some p) (joined (y ∷ rest))
joins-start p y [] same joins = (same, joins.1, joins.2)
joins-start p y (z ∷ rest) same joins = (same ∙ sym (pointers-told (same_pointers y z) y), joins.1, joins.2)

joins-next : (x y : RldItem) (rest : List RldItem) → IsPlain x → Joins None (joined (y ∷ rest)) → Joins (kept_by (told (same_pointers x y) x)) (joined (y ∷ rest))
joins-next x y rest is later =
    elim (same_pointers x y) as (λ b. same_pointers x y ≡ b → Joins (kept_by (told b x)) (joined (y ∷ rest))) [
      | true ↦ λ e. subst (λ k. Joins k (joined (y ∷ rest))) (sym (kept-some x is)) (joins-start (pointers_of x) y rest (same-pointers x y e) later)
      | false ↦ λ e. subst (λ k. Joins k (joined (y ∷ rest))) (sym (kept-none x is)) later
    ] refl

joined-joins : (items : List RldItem) → ArePlain items → Joins None (joined items)
joined-joins [] plain = refl
joined-joins (x ∷ []) plain = (tt, is_rld x plain.0, kept-none x plain.0)
joined-joins (x ∷ y ∷ rest) plain =
    (tt, rld-told (same_pointers x y) x plain.0, joins-next x y rest plain.0 (joined-joins (y ∷ rest) plain.1))

-- the items of a chunk are read again, and nothing is left
pub chunk-again : (items : List RldItem) → ArePlain items → rlds_of (chunk_bytes items) ≡ joined items
chunk-again items plain = rlds-again None (joined items) (joined-joins items plain)

pub chunk-whole : (items : List RldItem) → ArePlain items → is_whole (chunk_bytes items) ≡ true
chunk-whole items plain = ap (λ l. length l == 0) (left-again None (joined items) (joined-joins items plain))

-- ---- flags

right_again : (flag : ℕ) → flag % 2 ≡ 0 → is_wrong_flag (flag + 1) ≡ is_wrong_flag flag
right_again flag even =
    let high : (flag + 1) / 16 ≡ flag / 16 = omega arith in
    let low : (flag + 1) / 2 ≡ flag / 2 = omega arith in
    rw (high, low) refl

right-told : (same : Bool) (x : RldItem) → IsPlain x → is_wrong_flag (told same x).flag ≡ false
right-told true x is = right_again x.flag is.even ∙ is.right
right-told false x is = is.right

none-wrong : (items : List RldItem) → ArePlain items → list_any (λ x. is_wrong_flag x.flag) (joined items) ≡ false
none-wrong [] plain = refl
none-wrong (x ∷ []) plain = or_from (is_wrong_flag x.flag) false plain.0.right refl
none-wrong (x ∷ y ∷ rest) plain =
    or_from (is_wrong_flag (told (same_pointers x y) x).flag) (list_any (λ z. is_wrong_flag z.flag) (joined (y ∷ rest)))
    (right-told (same_pointers x y) x plain.0) (none-wrong (y ∷ rest) plain.1)

-- the last item promises nothing
last-alone : (before : Bool) (x : RldItem) (items : List RldItem) → ArePlain (x ∷ items) → fold (λ (b : Bool) (y : RldItem). is_joined y.flag) before (joined (x ∷ items)) ≡ false
last-alone before x [] plain = not_odd x.flag plain.0.even
last-alone before x (y ∷ rest) plain = last-alone (is_joined (told (same_pointers x y) x).flag) y rest plain.1

no-promise : (items : List RldItem) → ArePlain items → fold (λ (b : Bool) (y : RldItem). is_joined y.flag) false (joined items) ≡ false
no-promise [] plain = refl
no-promise (x ∷ items) plain = last-alone false x items plain

pub chunk_flags : (items : List RldItem) → ArePlain items → has_wrong_flag (rlds_of (chunk_bytes items)) ≡ false
chunk_flags items plain = ap has_wrong_flag (chunk-again items plain) ∙ or_from _ _ (none-wrong items plain) (no-promise items plain)
