-- The items of a record one by one, and numbers that are wanted.
use Rattle.std.proofs.Common.{◌≡◌, ℕ, zero, suc, ◌+◌, ◌-◌, ◌/◌, ◌<◌, ◌≤◌, ◌⊎◌, inl, inr, refl, sym, ap, ◌∙◌, Bool, true, false, ◌&&◌, ◌==◌, if◌then◌else◌, List, [], ◌∷◌, ◌++◌, length, drop, take, map, Option, Some, None, slice_get, arith, add-one, append_assoc}
use Rattle.std.specs.Option.{option_map_or}
use Rattle.std.specs.Str.{bytes_eq}
use Rattle.std.specs.List.{range_with_len}
use Rattle.std.proofs.lemmas.List.FromFn.{length-map-range_with_len}
use Rattle.load_recs.specs.Items.{item_at, values_of}
use Rattle.load_recs.proofs.ItemLists.{value_listed}
use Rattle.member_model.specs.Faults.{is_next}
use Rattle.member_checks.specs.Matching.{begins, count_after}

-- ---- items

drop_there : {A : Type 0} (xs : List A) (k : ℕ) (x : A) → slice_get xs k ≡ Some x → drop k xs ≡ x ∷ drop (suc k) xs
drop_there [] k x there = cc
drop_there (y ∷ xs) zero x there = head there
  where
    head : Some y ≡ Some x → y ∷ xs ≡ x ∷ xs
    head h = cc
drop_there (y ∷ xs) (suc k) x there = drop_there xs k x there

-- item k, and those after it
pub item_next : {A : Type 0} (value : List ℕ → A) (n k : ℕ) (bytes : List ℕ) → k < length bytes / n
    → drop k (values_of value n bytes) ≡ value (item_at n k bytes) ∷ drop (k + 1) (values_of value n bytes)
item_next value n k bytes below =
    rw add-one (drop_there (values_of value n bytes) k (value (item_at n k bytes)) (value_listed value n k bytes below))

pub item_count : {A : Type 0} (value : List ℕ → A) (n : ℕ) (bytes : List ℕ) → length (values_of value n bytes) ≡ length bytes / n
unfolding values_of
item_count value n bytes = length-map-range_with_len (λ k. value (item_at n k bytes)) 0 (length bytes / n)

drop_whole : {A : Type 0} (xs : List A) → drop (length xs) xs ≡ []
drop_whole [] = refl
drop_whole (x ∷ xs) = drop_whole xs

-- after the last item
pub items_over : {A : Type 0} (value : List ℕ → A) (n k : ℕ) (bytes : List ℕ) → k ≡ length bytes / n → drop k (values_of value n bytes) ≡ []
items_over value n k bytes same =
    ap (λ m. drop m (values_of value n bytes)) (same ∙ sym (item_count value n bytes)) ∙ drop_whole (values_of value n bytes)

-- a list that grows by the items: what it has and what is left stays the same
pub list_next : {A : Type 0} (value : List ℕ → A) (n k : ℕ) (bytes : List ℕ) (done later : List A) → k < length bytes / n
    → later ≡ done ++ value (item_at n k bytes) ∷ [] → later ++ drop (k + 1) (values_of value n bytes) ≡ done ++ drop k (values_of value n bytes)
list_next value n k bytes done later below same =
    ap (λ xs. xs ++ drop (k + 1) (values_of value n bytes)) same
    ∙ (append_assoc done (value (item_at n k bytes) ∷ []) (drop (k + 1) (values_of value n bytes))
    ∙ ap (λ xs. done ++ xs) (sym (item_next value n k bytes below)))

none_more : {A : Type 0} (xs : List A) → xs ++ [] ≡ xs
none_more [] = refl
none_more (x ∷ xs) = ap (λ ys. x ∷ ys) (none_more xs)

pub list_over : {A : Type 0} (value : List ℕ → A) (n k : ℕ) (bytes : List ℕ) (done : List A) → k ≡ length bytes / n
    → done ++ drop k (values_of value n bytes) ≡ done
list_over value n k bytes done same = ap (λ xs. done ++ xs) (items_over value n k bytes same) ∙ none_more done

-- ---- what is wanted

begins_as : (xs ys : List ℕ) → bytes_eq xs (take (length xs) ys) ≡ begins xs ys
begins_as [] ys = refl
begins_as (x ∷ xs) [] = refl
begins_as (x ∷ xs) (y ∷ ys) = ap (λ t. (x == y) && t) (begins_as xs ys)

pub count_as : (wanted : List ℕ) (done : ℕ) (items : List ℕ) → count_after wanted done items ≡ (if begins items (drop done wanted) then Some (done + length items) else None)
unfolding count_after
count_as wanted done items = rw (begins_as items (drop done wanted)) refl

-- one item more
begins_after : (xs ys : List ℕ) (k : ℕ) (x : ℕ) → slice_get xs k ≡ Some x → begins (drop k xs) (drop k ys) ≡ (option_map_or (λ y. x == y) (slice_get ys k) false && begins (drop (suc k) xs) (drop (suc k) ys))
begins_after [] ys k x there = cc
begins_after (z ∷ xs) [] zero x there = refl
begins_after (z ∷ xs) (y ∷ ys) zero x there = head there
  where
    head : Some z ≡ Some x → ((z == y) && begins xs ys) ≡ ((x == y) && begins xs ys)
    head h = let same : z ≡ x = cc in rw same refl
begins_after (z ∷ xs) [] (suc k) x there = rw (drop_there xs k x there) refl
begins_after (z ∷ xs) (y ∷ ys) (suc k) x there = begins_after xs ys k x there

pub begins_next : (value : List ℕ → ℕ) (n k : ℕ) (bytes wanted : List ℕ) → k < length bytes / n
    → begins (drop k (values_of value n bytes)) (drop k wanted)
    ≡ (option_map_or (λ y. value (item_at n k bytes) == y) (slice_get wanted k) false && begins (drop (k + 1) (values_of value n bytes)) (drop (k + 1) wanted))
begins_next value n k bytes wanted below =
    rw add-one (begins_after (values_of value n bytes) wanted k (value (item_at n k bytes)) (value_listed value n k bytes below))

begins_within : (xs ys : List ℕ) → begins xs ys ≡ true → length xs ≤ length ys
begins_within [] ys h = omega arith
begins_within (x ∷ xs) [] h = absurd cc
begins_within (x ∷ xs) (y ∷ ys) h = by_first (x == y) h (λ more. begins_within xs ys more)
  where
    by_first : (t : Bool) → (t && begins xs ys) ≡ true → (begins xs ys ≡ true → length xs ≤ length ys) → suc (length xs) ≤ suc (length ys)
    by_first true h rest = let less : length xs ≤ length ys = rest h in omega arith
    by_first false h rest = absurd cc

-- what has come is no more than was wanted, or than had come
pub count_within : (wanted : List ℕ) (done : ℕ) (items : List ℕ) → begins items (drop done wanted) ≡ true → (done + length items ≤ length wanted) ⊎ (length items ≡ 0)
count_within wanted done items h = split (length items) (length wanted) (dropped wanted done) (begins_within items (drop done wanted) h)
  where
    dropped : (xs : List ℕ) (n : ℕ) → length (drop n xs) ≡ length xs - n
    dropped xs zero = omega arith
    dropped [] (suc n) = omega arith
    dropped (x ∷ xs) (suc n) = let less : length (drop n xs) ≡ length xs - n = dropped xs n in omega arith

    split : (m n : ℕ) → length (drop done wanted) ≡ n - done → m ≤ length (drop done wanted) → (done + m ≤ n) ⊎ (m ≡ 0)
    split zero n size less = inr refl
    split (suc m) n size less = inl (omega arith)
