-- Symbol items, one after another, and that each has a spelling.
use Rattle.std.proofs.Common.{◌≡◌, ℕ, ◌+◌, ◌-◌, ◌<◌, ◌≤◌, Bool, true, false, ◌||◌, List, [], ◌∷◌, ◌++◌, map, flat_map, length, take, get_or, slice_index, All, IsTrue, refl, sym, ap, ◌∙◌, inl, inr, arith, append_assoc}
use Rattle.std.specs.List.{range_with_len, enumerate_from}
use Rattle.std.proofs.lemmas.Bool.Decides.{eqb_tells}
use Rattle.std.proofs.lemmas.List.{map-append, map_more, map_push, take_all}
use Rattle.std.proofs.lemmas.List.Elements.{All-push}
use Rattle.std.proofs.lemmas.List.FromFn.{get_or-enumerate_from, length-enumerate_from}
use Rattle.sym_mod.specs.Sound.{IsAlignment}
use Rattle.sym_mod.specs.declared.program.Register.{Register}
use Rattle.linking_model.specs.Places.{Laid}
use Rattle.linking_model.specs.Points.{displacements}
use Rattle.load_recs.specs.ItemBytes.{IsSymbol}
use Rattle.load_recs.specs.declared.items.SymbolItem.{SymbolItem}
use Rattle.load_recs.specs.declared.items.SymbolKind.TheVariants.{Pr}
use Rattle.member_model.specs.Parts.{Part as Piece, parts, parts_in}
use Rattle.member_model.specs.SymbolList.{register_symbol}
use Rattle.mod_parts.specs.declared.part.Part.{Part}
use Rattle.mod_parts.specs.Seen.{seen}
use Rattle.mod_parts.proofs.Bucketed.{segments_listed, flat_range_more}
use Rattle.load_recs.specs.Items.{is_alignment}

-- an alignment less one
pub alignment_less_one : (n : ℕ) → IsAlignment n → is_alignment (n - 1) ≡ true
alignment_less_one n is =
    elim (eqb_tells n 1) as (λ _. is_alignment (n - 1) ≡ true) [
      | inl a ↦ rw a.1 refl
      | inr a ↦ elim (eqb_tells n 2) as (λ _. is_alignment (n - 1) ≡ true) [
        | inl b ↦ rw b.1 refl
        | inr b ↦ elim (eqb_tells n 4) as (λ _. is_alignment (n - 1) ≡ true) [
          | inl d ↦ rw d.1 refl
          | inr d ↦ elim (eqb_tells n 8) as (λ _. is_alignment (n - 1) ≡ true) [
            | inl e ↦ rw e.1 refl
            | inr e ↦ absurd (none_of a.0 b.0 d.0 e.0 is)
          ]
        ]
      ]
    ]
  where
    none_of : {p q r s : Bool} → p ≡ false → q ≡ false → r ≡ false → s ≡ false → IsTrue (((p || q) || r) || s) → ⊥
    none_of e f g h t = cc

-- ---- one item more

item_after : {X : Type 0} (f : X → SymbolItem) (xs : List X) (i : ℕ) (d : X) (out old new : List SymbolItem) (item : SymbolItem) → i < length xs
    → old ≡ out ++ map f (take i xs) → item ≡ f (get_or xs i d) → new ≡ old ++ item ∷ [] → new ≡ out ++ map f (take (i + 1) xs)
item_after f xs i d out old new item low was is now =
    now ∙ (ap (λ l. l ++ item ∷ []) was
    ∙ (append_assoc out (map f (take i xs)) (item ∷ [])
    ∙ ap (λ l. out ++ l) (ap (λ y. map f (take i xs) ++ y ∷ []) is ∙ sym (map_more f xs i d low))))

-- of a list that is lent
pub item_more : {X : Type 0} (f : X → SymbolItem) (xs ys : List X) (i : ℕ) (d : X) (out old new : List SymbolItem) (item : SymbolItem) → ys ≡ xs → i < length ys
    → old ≡ out ++ map f (take i xs) → item ≡ f (get_or ys i d) → new ≡ old ++ item ∷ [] → new ≡ out ++ map f (take (i + 1) xs)
item_more f xs ys i d out old new item same low was is now =
    item_after f xs i d out old new item (omega (arith, low, ap length same)) was (is ∙ ap (λ l. f (get_or l i d)) same) now

pub part_more : (f : Piece → SymbolItem) (xs : List Part) (i : ℕ) (d : Part) (out old new : List SymbolItem) (item : SymbolItem) → i < length xs
    → old ≡ out ++ map f (map seen (take i xs)) → item ≡ f (seen (get_or xs i d)) → new ≡ old ++ item ∷ [] → new ≡ out ++ map f (map seen (take (i + 1) xs))
part_more f xs i d out old new item low was is now =
    now ∙ (ap (λ l. l ++ item ∷ []) was
    ∙ (append_assoc out (map f (map seen (take i xs))) (item ∷ [])
    ∙ ap (λ l. out ++ l)
    (ap (λ y. map f (map seen (take i xs)) ++ y ∷ []) is
    ∙ sym (ap (map f) (map_more seen xs i d low) ∙ map_push f (map seen (take i xs)) (seen (get_or xs i d))))))

-- the items of one segment more
pub segment_items_more : (P : Laid) (f : Piece → SymbolItem) (i m : ℕ) (parts : List Piece) (out old new : List SymbolItem) → m ≡ i + 1
    → old ≡ out ++ map f (flat_map (parts_in P) (range_with_len 1 i)) → parts ≡ parts_in P m → new ≡ old ++ map f parts
    → new ≡ out ++ map f (flat_map (parts_in P) (range_with_len 1 m))
segment_items_more P f i m parts out old new next was are now =
    now ∙ (ap (λ l. l ++ map f parts) was
    ∙ (append_assoc out (map f (flat_map (parts_in P) (range_with_len 1 i))) (map f parts)
    ∙ ap (λ l. out ++ l)
    (ap (λ l. map f (flat_map (parts_in P) (range_with_len 1 i)) ++ map f l) are
    ∙ (sym (map-append f (flat_map (parts_in P) (range_with_len 1 i)) (parts_in P m)) ∙ ap (map f) (sym (flat_range_more (parts_in P) i m next))))))

pub segments_all : (P : Laid) (i : ℕ) → i ≡ length P.tree → flat_map (parts_in P) (range_with_len 1 i) ≡ parts P
segments_all P i all = ap (λ n. flat_map (parts_in P) (range_with_len 1 n)) all ∙ ap (flat_map (parts_in P)) (sym (segments_listed P.tree))

-- the item of register i
register_after : (registers : List Register) (i : ℕ) (d : Register) (address : ℕ) (out old new : List SymbolItem) (item : SymbolItem) → i < length registers
    → old ≡ out ++ map (register_symbol registers) (take i (enumerate_from 0 registers))
    → address ≡ slice_index (displacements 0 registers) i
    → item ≡ record { name = (get_or registers i d).name; kind = Pr; address = address; segment = (get_or registers i d).align - 1; length = (get_or registers i d).length }
    → new ≡ old ++ item ∷ [] → new ≡ out ++ map (register_symbol registers) (take (i + 1) (enumerate_from 0 registers))
register_after registers i d address out old new item low was at is now =
    item_after (register_symbol registers) (enumerate_from 0 registers) i (0, d) out old new item (omega (arith, low, length-enumerate_from 0 registers)) was
    (is ∙ (ap (λ n. record { name = (get_or registers i d).name; kind = Pr; address = n; segment = (get_or registers i d).align - 1; length = (get_or registers i d).length }) at
    ∙ ap (register_symbol registers) (sym (get_or-enumerate_from 0 registers i (0, d) low ∙ ap (λ k. (k, get_or registers i d)) (none_before i)))))
    now
  where
    none_before : (k : ℕ) → 0 + k ≡ k
    none_before k = omega arith

pub register_more : (registers ys : List Register) (i : ℕ) (d : Register) (address : ℕ) (out old new : List SymbolItem) (item : SymbolItem) → ys ≡ registers
    → i < length ys → old ≡ out ++ map (register_symbol registers) (take i (enumerate_from 0 registers))
    → address ≡ slice_index (displacements 0 registers) i
    → item ≡ record { name = (get_or ys i d).name; kind = Pr; address = address; segment = (get_or ys i d).align - 1; length = (get_or ys i d).length }
    → new ≡ old ++ item ∷ [] → new ≡ out ++ map (register_symbol registers) (take (i + 1) (enumerate_from 0 registers))
register_more registers ys i d address out old new item same low was at is now =
    register_after registers i d address out old new item (omega (arith, low, ap length same)) was at
    (is ∙ ap (λ l. record { name = (get_or l i d).name; kind = Pr; address = address; segment = (get_or l i d).align - 1; length = (get_or l i d).length }) same) now

pub registers_all : (registers : List Register) (i : ℕ) (out new : List SymbolItem) → length registers ≤ i
    → new ≡ out ++ map (register_symbol registers) (take i (enumerate_from 0 registers)) → new ≡ out ++ map (register_symbol registers) (enumerate_from 0 registers)
registers_all registers i out new all was =
    was ∙ ap (λ l. out ++ map (register_symbol registers) l) (take_all i (enumerate_from 0 registers) (omega (arith, all, length-enumerate_from 0 registers)))

-- one item with a spelling more
pub spelled_more : (old new : List SymbolItem) (item : SymbolItem) → All IsSymbol old → IsSymbol item → new ≡ old ++ item ∷ [] → All IsSymbol new
spelled_more old new item all is now = rw now (All-push IsSymbol old item all is)
