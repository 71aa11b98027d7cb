-- Lists that keep what passes a test, with one more element.
use Rattle.std.proofs.Common.{arith, ◌≡◌, ℕ, zero, suc, ◌+◌, ◌-◌, ◌<◌, ◌≤◌, ◌==◌, Bool, true, false, not, cond, if◌then◌else◌, List, [], ◌∷◌, ◌++◌, map, length, fold, take, drop, slice_get, Some, None, refl, sym, ap, ◌∙◌}
use Rattle.std.specs.List.{filter}
use Rattle.std.proofs.lemmas.List.{append-nil, append_assoc, drop_all}
use Rattle.sym_mod.specs.declared.module.Item.{Item}
use Rattle.sym_mod.specs.declared.module.Frag.{Frag}
use Rattle.load_recs.specs.declared.items.SymbolItem.{SymbolItem}
use Rattle.member_model.specs.ReadBack.{is_gone, is_kept_at, item_as, items_of, fragment_of, fragments_of}
use Rattle.mod_read.specs.declared.fragments.LoadedText.{LoadedText}
use Rattle.mod_read.specs.Gathered.{text_of, holding, with_symbol, with_text}

-- ---- what passes, one after the other

folded_more : {X Y : Type 0} (F : X → Y) (passes : Bool) (made : List Y) (x : X) (rest : List X)
    → (if passes then made ++ F x ∷ [] else made) ++ map F rest ≡ made ++ map F (cond passes (x ∷ rest) rest)
folded_more F true made x rest = append_assoc made (F x ∷ []) (map F rest)
folded_more F false made x rest = refl

turned : {X : Type 0} (b : Bool) (x y : X) → (if b then x else y) ≡ (if not b then y else x)
turned true x y = refl
turned false x y = refl

symbols_from : (symbols : List SymbolItem) (made : List Item) (xs : List SymbolItem)
    → fold (with_symbol symbols) made xs ≡ made ++ map (λ x. item_as symbols x x.kind) (filter (λ x. not (is_gone symbols x)) xs)
unfolding with_symbol
symbols_from symbols made [] = sym (append-nil made)
symbols_from symbols made (x ∷ xs) =
    symbols_from symbols (with_symbol symbols made x) xs
    ∙ (ap (λ ys. ys ++ map (λ x. item_as symbols x x.kind) (filter (λ x. not (is_gone symbols x)) xs)) (turned (is_gone symbols x) made (made ++ item_as symbols x x.kind ∷ []))
    ∙ folded_more (λ x. item_as symbols x x.kind) (not (is_gone symbols x)) made x (filter (λ x. not (is_gone symbols x)) xs))

pub symbols_done : (symbols : List SymbolItem) (made : List Item) (k : ℕ) → length symbols ≤ k
    → fold (with_symbol symbols) made (drop k symbols) ≡ fold (with_symbol symbols) [] symbols → made ≡ items_of symbols
symbols_done symbols made k all is =
    ap (λ xs. fold (with_symbol symbols) made xs) (sym (drop_all k symbols all)) ∙ (is ∙ symbols_from symbols [] symbols)

texts_from : (symbols : List SymbolItem) (made : List Frag) (xs : List LoadedText)
    → fold (with_text symbols) made xs ≡ made ++ map (fragment_of (holding symbols [] [])) (filter (λ t. is_kept_at symbols t.section) (map text_of xs))
unfolding with_text
texts_from symbols made [] = sym (append-nil made)
texts_from symbols made (x ∷ xs) =
    texts_from symbols (with_text symbols made x) xs
    ∙ folded_more (fragment_of (holding symbols [] [])) (is_kept_at symbols x.section) made (text_of x) (filter (λ t. is_kept_at symbols t.section) (map text_of xs))

pub texts_done : (symbols : List SymbolItem) (made : List Frag) (left xs : List LoadedText) → left ≡ []
    → fold (with_text symbols) made left ≡ fold (with_text symbols) [] xs → made ≡ fragments_of (holding symbols (map text_of xs) [])
texts_done symbols made left xs none is = ap (λ ys. fold (with_text symbols) made ys) (sym none) ∙ (is ∙ texts_from symbols [] xs)

-- ---- a list about one of its elements

pub around : {X : Type 0} (xs : List X) (k : ℕ) (x : X) → slice_get xs k ≡ Some x → xs ≡ take k xs ++ x ∷ drop (suc k) xs
around [] k x there = cc
around (y ∷ ys) zero x there = let same : y ≡ x = cc there in ap (λ z. z ∷ ys) same
around (y ∷ ys) (suc k) x there = ap (λ zs. y ∷ zs) (around ys k x there)

pub take_next_is : {X : Type 0} (xs : List X) (k : ℕ) (x : X) → slice_get xs k ≡ Some x → take (k + 1) xs ≡ take k xs ++ x ∷ []
take_next_is xs k x there = ap (λ n. take n xs) (let e : k + 1 ≡ suc k = omega arith in e) ∙ next xs k x there
  where
    next : {X : Type 0} (xs : List X) (k : ℕ) (x : X) → slice_get xs k ≡ Some x → take (suc k) xs ≡ take k xs ++ x ∷ []
    next [] k x there = cc
    next (y ∷ ys) zero x there = let same : y ≡ x = cc there in ap (λ z. z ∷ []) same
    next (y ∷ ys) (suc k) x there = ap (λ zs. y ∷ zs) (next ys k x there)

-- element n + 1, counted from 1
pub counted_from_one : {X : Type 0} (xs : List X) (n : ℕ) → (if n + 1 == 0 then None else slice_get xs (n + 1 - 1)) ≡ slice_get xs n
counted_from_one xs n = grind arith

-- an element below the length is there
pub not_past : {X : Type 0} (xs : List X) (k : ℕ) → k < length xs → slice_get xs k ≡ None → ⊥
not_past [] k within none = absurd (omega (arith, within))
not_past (x ∷ xs) zero within none = absurd cc
not_past (x ∷ xs) (suc k) within none = not_past xs k (omega (arith, within)) none
