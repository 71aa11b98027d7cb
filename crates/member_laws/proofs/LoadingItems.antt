-- The relocation items of a part as they are written, piece by piece and in chunks: but for the bit that joins two items
-- they are the items of the part.
use Rattle.std.proofs.Common.{arith, ◌≡◌, ℕ, zero, suc, ◌+◌, ◌-◌, ◌*◌, ◌/◌, ◌%◌, ◌<◌, ◌≤◌, min, ◌⊎◌, inl, inr, Bool, true, false, ◌==◌, nat_le, nat_lt, if◌then◌else◌, List, [], ◌∷◌, map, filter, flat_map, length, drop, sum_by, refl, sym, ◌∙◌, ap, subst, add-zero, zero-add, mod-lt}
use Rattle.std.specs.List.{AllByRecursion as Each, range_with_len, enumerate_from}
use Rattle.std.proofs.Math.Nat.{mod-add-div}
use Rattle.std.proofs.lemmas.Bool.{and_from, and_left, and_right, le-leb, lt-leb, lt-ltb, le-ltb, cases_lt}
use Rattle.std.proofs.lemmas.List.{length-take, length-drop}
use Rattle.std.proofs.lemmas.List.Sums.{sum_by-cons}
use Rattle.sym_mod.specs.declared.program.SecKind.{SecKind}
use Rattle.sym_mod.specs.declared.program.SecKind.TheVariants.{Sd, Pc, Cm}
use Rattle.load_recs.specs.declared.items.RldItem.{RldItem}
use Rattle.linking_model.specs.Numbers.{is_among}
use Rattle.linking_model.specs.Places.{Laid}
use Rattle.member_model.specs.Symbols.{field_length, field_kind, is_minus}
use Rattle.member_model.specs.Cuts.{cuts, cut_at}
use Rattle.member_model.specs.Parts.{Part, part_kind, part_place, part_bytes}
use Rattle.member_model.specs.Chunks.{chunks, joined, same_pointers, part_items}
use Rattle.member_model.specs.Pieces.{ends_among}
use Rattle.member_model.proofs.Cutting.{chunks_hold_all_items}
use Rattle.member_laws.specs.Gathered.{piece_items, items_as, items_of}
use Rattle.member_laws.proofs.LoadingLists.{each_weaker, each_always, each_both, each_filter, each_flat_map, each_of_flat, sum_same, sum_filter, sum_map, sum_flat_map, sum_swap, if_is, if_not}

-- ---- the bit that tells that the next item has the same numbers

abbrev pub joined_to_next : RldItem → RldItem
joined_to_next x = record x { flag = x.flag + 1 }

-- the bit is off
abbrev pub IsEven : RldItem → Type 0
IsEven x = x.flag % 2 ≡ 0

-- the number does not look at the bit
abbrev pub IsSteady : (RldItem → ℕ) → Type 0
IsSteady f = (x : RldItem) → IsEven x → f (joined_to_next x) ≡ f x

-- what holds of an item does not look at it
abbrev pub HoldsJoined : (RldItem → Type 0) → Type 0
HoldsJoined P = (x : RldItem) → IsEven x → P x → P (joined_to_next x)

length_joined : (n : ℕ) → n % 2 ≡ 0 → (n + 1) / 4 % 4 + 1 ≡ n / 4 % 4 + 1
length_joined n even = omega arith

kind_joined : (n : ℕ) → n % 2 ≡ 0 → (n + 1) / 16 % 8 ≡ n / 16 % 8
kind_joined n even = omega arith

minus_joined : (n : ℕ) → n % 2 ≡ 0 → (n + 1) / 2 % 2 ≡ n / 2 % 2
minus_joined n even = omega arith

pub same_length : (x : RldItem) → IsEven x → field_length (joined_to_next x) ≡ field_length x
same_length x even = length_joined x.flag even

pub same_kind : (x : RldItem) → IsEven x → field_kind (joined_to_next x) ≡ field_kind x
same_kind x even = kind_joined x.flag even

pub same_sign : (x : RldItem) → IsEven x → is_minus (joined_to_next x) ≡ is_minus x
same_sign x even = ap (λ n. n == 1) (minus_joined x.flag even)

sum_joined : (f : RldItem → ℕ) → IsSteady f → (xs : List RldItem) → Each IsEven xs → sum_by f (joined xs) ≡ sum_by f xs
sum_joined f steady [] even = refl
sum_joined f steady (x ∷ []) even = refl
sum_joined f steady (x ∷ y ∷ rest) even =
    sum_by-cons f (if same_pointers x y then joined_to_next x else x) (joined (y ∷ rest))
    ∙ (ap (λ n. n + sum_by f (joined (y ∷ rest))) (first (same_pointers x y))
    ∙ (ap (λ n. f x + n) (sum_joined f steady (y ∷ rest) even.1) ∙ sym (sum_by-cons f x (y ∷ rest))))
  where
    first : (b : Bool) → f (if b then joined_to_next x else x) ≡ f x
    first true = steady x even.0
    first false = refl

each_joined : (P : RldItem → Type 0) → HoldsJoined P → (xs : List RldItem) → Each IsEven xs → Each P xs → Each P (joined xs)
each_joined P holds [] even all = tt
each_joined P holds (x ∷ []) even all = all
each_joined P holds (x ∷ y ∷ rest) even all = (first (same_pointers x y), each_joined P holds (y ∷ rest) even.1 all.1)
  where
    first : (b : Bool) → P (if b then joined_to_next x else x)
    first true = holds x even.0 all.0
    first false = all.0

-- ---- chunks

even_chunks : (xs : List RldItem) → Each IsEven xs → Each (λ c. Each IsEven c) (chunks xs)
even_chunks xs even = each_of_flat IsEven (λ c. c) (chunks xs) (subst (Each IsEven) (sym (chunks_hold_all_items xs)) even)

sum_chunks : (f : RldItem → ℕ) → IsSteady f → (xs : List RldItem) → Each IsEven xs → sum_by f (flat_map joined (chunks xs)) ≡ sum_by f xs
sum_chunks f steady xs even =
    sum_flat_map f joined (chunks xs)
    ∙ (sum_same (λ c. sum_by f (joined c)) (λ c. sum_by f c) (chunks xs)
    (each_weaker (λ c. Each IsEven c) (λ c. sum_by f (joined c) ≡ sum_by f c) (chunks xs) (λ c all. sum_joined f steady c all) (even_chunks xs even))
    ∙ (sym (sum_flat_map f (λ c. c) (chunks xs)) ∙ ap (sum_by f) (chunks_hold_all_items xs)))

each_chunks : (P : RldItem → Type 0) → HoldsJoined P → (xs : List RldItem) → Each IsEven xs → Each P xs
    → Each P (flat_map joined (chunks xs))
each_chunks P holds xs even all =
    each_flat_map P joined (chunks xs)
    (each_weaker (λ c. Each IsEven c × Each P c) (λ c. Each P (joined c)) (chunks xs) (λ c both. each_joined P holds c both.0 both.1)
    (each_both (λ c. Each IsEven c) (λ c. Each P c) (chunks xs) (even_chunks xs even)
    (each_of_flat P (λ c. c) (chunks xs) (subst (Each P) (sym (chunks_hold_all_items xs)) all))))

-- ---- places among others

pub among_true : (a n p : ℕ) → a ≤ p → p < a + n → is_among a n p ≡ true
among_true a n p from to = and_from (nat_le a p) (nat_lt p (a + n)) (le-leb a p from) (lt-ltb p (a + n) to)

pub among_before : (a n p : ℕ) → p < a → is_among a n p ≡ false
among_before a n p before = and_left (nat_le a p) (nat_lt p (a + n)) (lt-leb a p before)

pub among_after : (a n p : ℕ) → a + n ≤ p → is_among a n p ≡ false
among_after a n p after = and_right (nat_le a p) (nat_lt p (a + n)) (le-ltb p (a + n) after)

-- ---- pieces

pub cut_length : (n : ℕ) (B : List ℕ) (k : ℕ) → length (cut_at n B k) ≡ min n (length B - n * k)
cut_length n B k = length-take n (drop (n * k) B) ∙ ap (min n) (length-drop (n * k) B)

-- what counts where the place e is in piece k
abbrev in_piece : ℕ → ℕ → List ℕ → ℕ → ℕ → ℕ → ℕ
in_piece n A B e v k = if is_among (A + n * k) (length (cut_at n B k)) e then v else 0

pieces_behind : (n A : ℕ) (B : List ℕ) (e v j K : ℕ) → e < A + n * j → sum_by (in_piece n A B e v) (range_with_len j K) ≡ 0
pieces_behind n A B e v j zero before = refl
pieces_behind n A B e v j (suc K) before =
    sum_by-cons (in_piece n A B e v) j (range_with_len (j + 1) K)
    ∙ (ap (λ m. m + sum_by (in_piece n A B e v) (range_with_len (j + 1) K))
    (if_not _ v (among_before (A + n * j) (length (cut_at n B j)) e before))
    ∙ (zero-add _ ∙ pieces_behind n A B e v (j + 1) K (further n A e j before)))
  where
    further : (n A e j : ℕ) → e < A + n * j → e < A + n * (j + 1)
    further n A e j before = omega arith

pieces_from : (n A : ℕ) (B : List ℕ) (e v j K : ℕ) → A + n * j ≤ e → e < A + n * (j + K) → e < A + length B
    → sum_by (in_piece n A B e v) (range_with_len j K) ≡ v
pieces_from n A B e v j zero from to inside = absurd (none n A e j from to)
  where
    none : (n A e j : ℕ) → A + n * j ≤ e → e < A + n * (j + 0) → ⊥
    none n A e j from to = omega arith
pieces_from n A B e v j (suc K) from to inside =
    sum_by-cons (in_piece n A B e v) j (range_with_len (j + 1) K)
    ∙ by_cases (cases_lt e (A + n * (j + 1)))
    (λ later. pieces_from n A B e v (j + 1) K later (rest n A e j K to) inside)
  where
    rest : (n A e j K : ℕ) → e < A + n * (j + suc K) → e < A + n * (j + 1 + K)
    rest n A e j K to = omega arith

    reached : (n A e j l c : ℕ) → c ≡ min n (l - n * j) → A + n * j ≤ e → e < A + n * (j + 1) → e < A + l → e < A + n * j + c
    reached n A e j l c size from to inside = omega arith

    passed : (n A e j l c : ℕ) → c ≡ min n (l - n * j) → A + n * (j + 1) ≤ e → A + n * j + c ≤ e
    passed n A e j l c size later = omega arith

    by_cases : (e < A + n * (j + 1)) ⊎ (A + n * (j + 1) ≤ e)
        → (A + n * (j + 1) ≤ e → sum_by (in_piece n A B e v) (range_with_len (j + 1) K) ≡ v)
        → in_piece n A B e v j + sum_by (in_piece n A B e v) (range_with_len (j + 1) K) ≡ v
    by_cases (inl here) others =
        ap (λ m. m + sum_by (in_piece n A B e v) (range_with_len (j + 1) K))
        (if_is _ v (among_true (A + n * j) (length (cut_at n B j)) e from
        (reached n A e j (length B) (length (cut_at n B j)) (cut_length n B j) from here inside)))
        ∙ (ap (λ m. v + m) (pieces_behind n A B e v (j + 1) K here) ∙ add-zero v)
    by_cases (inr later) others =
        ap (λ m. m + sum_by (in_piece n A B e v) (range_with_len (j + 1) K))
        (if_not _ v (among_after (A + n * j) (length (cut_at n B j)) e
        (passed n A e j (length B) (length (cut_at n B j)) (cut_length n B j) later)))
        ∙ (zero-add _ ∙ others later)

-- as many pieces as there are hold all
pub pieces_reach : (n l : ℕ) → 1 ≤ n → l ≤ n * ((l + (n - 1)) / n)
pieces_reach n l some =
    reached ((l + (n - 1)) % n) (n * ((l + (n - 1)) / n)) n l (mod-add-div (l + (n - 1)) n) (mod-lt (l + (n - 1)) some)
  where
    reached : (r p n l : ℕ) → r + p ≡ l + (n - 1) → r < n → l ≤ p
    reached r p n l sum below = omega arith

-- a place is in one of the pieces
in_one_piece : (n A : ℕ) (B : List ℕ) (e v : ℕ) → 1 ≤ n → A ≤ e → e < A + length B
    → sum_by (in_piece n A B e v) (range_with_len 0 ((length B + (n - 1)) / n)) ≡ v
in_one_piece n A B e v some from inside =
    pieces_from n A B e v 0 ((length B + (n - 1)) / n) (start n A e from)
    (whole n A e (length B) ((length B + (n - 1)) / n) inside (pieces_reach n (length B) some)) inside
  where
    start : (n A e : ℕ) → A ≤ e → A + n * 0 ≤ e
    start n A e from = omega arith

    whole : (n A e l k : ℕ) → e < A + l → l ≤ n * k → e < A + n * (0 + k)
    whole n A e l k inside reach = omega arith

pub enumerate_range : {X : Type 0} (f : ℕ → X) (a n : ℕ) → enumerate_from a (map f (range_with_len a n)) ≡ map (λ k. (k, f k)) (range_with_len a n)
enumerate_range f a zero = refl
enumerate_range f a (suc n) = ap (λ xs. (a, f a) ∷ xs) (enumerate_range f (a + 1) n)

-- the field of the item ends within the n places from A on
pub record EndsIn (A n : ℕ) (x : RldItem) : Type 0 where
  pub from : A ≤ x.address + (field_length x - 1)
  pub to : x.address + (field_length x - 1) < A + n

sum_pieces : (f : RldItem → ℕ) → IsSteady f → (n A : ℕ) (items : List RldItem) (B : List ℕ) → 1 ≤ n → Each IsEven items
    → Each (EndsIn A (length B)) items → sum_by f (flat_map (piece_items n A items) (enumerate_from 0 (cuts n B))) ≡ sum_by f items
sum_pieces f steady n A items B some even ends =
    ap (λ ks. sum_by f (flat_map (piece_items n A items) ks)) (enumerate_range (cut_at n B) 0 count)
    ∙ (sum_flat_map f (piece_items n A items) (map (λ k. (k, cut_at n B k)) (range_with_len 0 count))
    ∙ (sum_map (λ piece. sum_by f (piece_items n A items piece)) (λ k. (k, cut_at n B k)) (range_with_len 0 count)
    ∙ (sum_same (λ k. sum_by f (piece_items n A items (k, cut_at n B k))) (λ k. sum_by (part k) items) (range_with_len 0 count)
    (each_always _ (range_with_len 0 count) one)
    ∙ (sum_swap part (range_with_len 0 count) items
    ∙ sum_same (λ x. sum_by (λ k. part k x) (range_with_len 0 count)) f items
    (each_weaker (EndsIn A (length B)) _ items
    (λ x inside. in_one_piece n A B (x.address + (field_length x - 1)) (f x) some inside.from inside.to) ends)))))
  where
    count : ℕ
    count = (length B + (n - 1)) / n

    part : ℕ → RldItem → ℕ
    part k x = if ends_among (A + n * k) (length (cut_at n B k)) x then f x else 0

    one : (k : ℕ) → sum_by f (piece_items n A items (k, cut_at n B k)) ≡ sum_by (part k) items
    one k =
        sum_chunks f steady (filter (ends_among (A + n * k) (length (cut_at n B k))) items)
        (each_filter IsEven (ends_among (A + n * k) (length (cut_at n B k))) items (each_weaker IsEven _ items (λ x is _. is) even))
        ∙ sum_filter f (ends_among (A + n * k) (length (cut_at n B k))) items

each_pieces : (P : RldItem → Type 0) → HoldsJoined P → (n A : ℕ) (items : List RldItem) (pieces : List (ℕ × List ℕ)) → Each IsEven items
    → Each P items → Each P (flat_map (piece_items n A items) pieces)
each_pieces P holds n A items pieces even all = each_flat_map P (piece_items n A items) pieces (each_always _ pieces one)
  where
    one : (piece : ℕ × List ℕ) → Each P (piece_items n A items piece)
    one (k, bytes) =
        each_chunks P holds (filter (ends_among (A + n * k) (length bytes)) items)
        (each_filter IsEven (ends_among (A + n * k) (length bytes)) items (each_weaker IsEven _ items (λ x is _. is) even))
        (each_filter P (ends_among (A + n * k) (length bytes)) items (each_weaker P _ items (λ x is _. is) all))

-- ---- the items of a part

-- the items of a part have the bit off, end within the part, and are none in a common area
pub record AreItems (P : Laid) (x : Part) : Type 0 where
  pub even : Each IsEven (part_items P x)
  pub ends : Each (EndsIn (part_place P x) (length (part_bytes P x))) (part_items P x)
  pub common : part_kind P x ≡ Cm → part_items P x ≡ []

pub sum_items : (f : RldItem → ℕ) → IsSteady f → (P : Laid) (n : ℕ) (x : Part) → 1 ≤ n → AreItems P x
    → sum_by f (items_of P n x) ≡ sum_by f (part_items P x)
unfolding items_of
sum_items f steady P n x some are = by_cases (part_kind P x) refl
  where
    written : List RldItem
    written = flat_map (piece_items n (part_place P x) (part_items P x)) (enumerate_from 0 (cuts n (part_bytes P x)))

    same : sum_by f written ≡ sum_by f (part_items P x)
    same = sum_pieces f steady n (part_place P x) (part_items P x) (part_bytes P x) some are.even are.ends

    by_cases : (kind : SecKind) → part_kind P x ≡ kind → sum_by f (items_as kind written) ≡ sum_by f (part_items P x)
    by_cases Sd is = same
    by_cases Pc is = same
    by_cases Cm is = sym (ap (sum_by f) (are.common is))

pub each_item : (Q : RldItem → Type 0) → HoldsJoined Q → (P : Laid) (n : ℕ) (x : Part) → AreItems P x → Each Q (part_items P x)
    → Each Q (items_of P n x)
unfolding items_of
each_item Q holds P n x are all = by_cases (part_kind P x)
  where
    pieces : List (ℕ × List ℕ)
    pieces = enumerate_from 0 (cuts n (part_bytes P x))

    written : Each Q (flat_map (piece_items n (part_place P x) (part_items P x)) pieces)
    written = each_pieces Q holds n (part_place P x) (part_items P x) pieces are.even all

    by_cases : (kind : SecKind) → Each Q (items_as kind (flat_map (piece_items n (part_place P x) (part_items P x)) pieces))
    by_cases Sd = written
    by_cases Pc = written
    by_cases Cm = tt
