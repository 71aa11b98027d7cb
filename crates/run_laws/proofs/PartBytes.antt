-- What stands in storage byte by byte: in a piece, beside it, and in a part of a segment as it is linked.
use Rattle.std.proofs.Common.{◌≡◌, ◌≢◌, ◌⊎◌, inl, inr, ℕ, ◌+◌, ◌-◌, ◌<◌, Bool, true, false, ◌==◌, cond, if◌then◌else◌, List, [], ◌∷◌, ◌++◌, map, find, Some, option_map, refl, sym, ap, ◌∙◌, arith}
use Rattle.std.specs.Option.{option_map_or}
use Rattle.std.proofs.lemmas.Bool.{false≢true}
use Rattle.linking_model.specs.Tree.{is_in}
use Rattle.linking_model.specs.Numbers.{is_among}
use Rattle.linking_model.specs.Places.{Laid, has_segtab, entry_count}
use Rattle.linking_model.specs.Linked.{Placement, block, address_of}
use Rattle.linking_model.specs.Run.{Storage, Piece, has_address, byte_in, with_piece, pieces, sections_in}
use Rattle.member_model.specs.AfterFailure.{SameBytes}
use Rattle.member_model.specs.Parts.{Part, SegmentTable, OneSection, EntryTable, parts_in, part_eq, part_place, part_length}
use Rattle.member_laws.specs.Linkable.{IsLinkable}
use Rattle.member_laws.proofs.LoadingBlock.{size_of_segtab}
use Rattle.member_laws.proofs.LoadingItems.{among_true, among_before, among_after}
use Rattle.member_laws.proofs.LoadingLists.{Among, at_one, find_map}
use Rattle.member_laws.proofs.LoadingSegment.{piece_of}
use Rattle.member_laws.proofs.LoadingSymbols.{part_is, same_part}
use Rattle.member_laws.proofs.LoadingTables.{size_of_table}
use Rattle.member_laws.proofs.Standing.{IsPartOf, parts-stand}
use Rattle.run_laws.specs.Residents.{AreResident}
use Rattle.run_laws.proofs.FetchedMembers.{part_at}
use Rattle.run_laws.proofs.PartIn.{has-part-in}
use Rattle.run_laws.proofs.PartsApart.{AreApart, parts_apart}
use Rattle.run_laws.proofs.SegmentTables.{among_of_has}

-- ---- pieces

-- both pieces have the same bytes
pub record SamePiece (p r : Piece) : Type 0 where
  pub at : p.at ≡ r.at
  pub count : p.count ≡ r.count
  pub byte : (o : ℕ) → p.byte o ≡ r.byte o

pub with_same : (p r : Piece) (M N : Storage) → SamePiece p r → SameBytes M N → SameBytes (with_piece M p) (with_piece N r)
with_same p r M N same before a =
    ap (λ at. if is_among at p.count a then p.byte (a - at) else M a) same.at
    ∙ ap (λ count. if is_among r.at count a then p.byte (a - r.at) else M a) same.count
    ∙ ap (λ b. if is_among r.at r.count a then b else M a) (same.byte (a - r.at))
    ∙ ap (λ b. if is_among r.at r.count a then r.byte (a - r.at) else b) (before a)

pub with_outside : (M : Storage) (p : Piece) (a : ℕ) → has_address a p ≡ false → with_piece M p a ≡ M a
with_outside M p a outside = ap (λ b. if b then p.byte (a - p.at) else M a) outside

pub with_inside : (M : Storage) (p : Piece) (a : ℕ) → has_address a p ≡ true → with_piece M p a ≡ p.byte (a - p.at)
with_inside M p a inside = ap (λ b. if b then p.byte (a - p.at) else M a) inside

-- ---- parts that are apart

-- parts of resident segments share no byte
pub record KeepsApart (P : Laid) (Q : Placement) : Type 0 where
  pub apart : (resident : List ℕ) (s t : ℕ) (x y : Part) → AreResident P.tree resident → is_in s resident ≡ true → is_in t resident ≡ true
      → IsPartOf P s x → IsPartOf P t y → x ≢ y → AreApart (part_at Q x) (part_length P x) (part_at Q y) (part_length P y)

pub in_block_at : (P : Laid) (at : ℕ) (x : Part) → part_at (block P at) x ≡ at + part_place P x
in_block_at P at SegmentTable = plain at
  where
    plain : (at : ℕ) → at ≡ at + 0
    plain at = omega arith
in_block_at P at (OneSection i) = refl
in_block_at P at (EntryTable s) = refl

pub block_keeps_apart : (P : Laid) (at : ℕ) → IsLinkable P → KeepsApart P (block P at)
block_keeps_apart P at link = record {
  apart = λ resident s t x y are one other first second differ.
      moved (part_place P x) (part_place P y) (part_length P x) (part_length P y) _ _ (in_block_at P at x) (in_block_at P at y)
      (parts_apart P resident s t x y link are one other first second differ);
}
  where
    moved : (a b k l a' b' : ℕ) → a' ≡ at + a → b' ≡ at + b → AreApart a k b l → AreApart a' k b' l
    moved a b k l a' b' p q (inl before) = inl (omega (arith, p, q, before))
    moved a b k l a' b' p q (inr after) = inr (omega (arith, p, q, after))

-- a byte of one of two parts that are apart is none of the other
pub not_in_other : (a k b l o : ℕ) → AreApart a k b l → o < k → is_among b l (a + o) ≡ false
not_in_other a k b l o (inl before) low = among_before b l (a + o) (omega (arith, before, low))
not_in_other a k b l o (inr after) low = among_after b l (a + o) (omega (arith, after))

-- ---- a part as it is linked

rest_as : (f : Part → Piece) (c : Bool) (y : Part) (sections : List ℕ)
    → map (λ i. f (OneSection i)) sections ++ (if c then [] else f y ∷ [])
    ≡ map f (map (λ i. OneSection i) sections ++ (if c then [] else y ∷ []))
rest_as f true y [] = refl
rest_as f false y [] = refl
rest_as f c y (i ∷ sections) = ap (λ rest. f (OneSection i) ∷ rest) (rest_as f c y sections)

pieces_as : (f : Part → Piece) (b c : Bool) (x y : Part) (sections : List ℕ)
    → (if b then f x ∷ [] else []) ++ map (λ i. f (OneSection i)) sections ++ (if c then [] else f y ∷ [])
    ≡ map f ((if b then x ∷ [] else []) ++ map (λ i. OneSection i) sections ++ (if c then [] else y ∷ []))
pieces_as f true c x y sections = ap (λ rest. f x ∷ rest) (rest_as f c y sections)
pieces_as f false c x y sections = rest_as f c y sections

pieces_are : (P : Laid) (Q : Placement) (s : ℕ) → pieces P Q s ≡ map (piece_of P Q) (parts_in P s)
pieces_are P Q s =
    pieces_as (piece_of P Q) (has_segtab P.tree s) (entry_count P s == 0) SegmentTable (EntryTable s) (sections_in P.program s)

piece_at : (P : Laid) (Q : Placement) (x : Part) → (piece_of P Q x).at ≡ part_at Q x
piece_at P Q SegmentTable = refl
piece_at P Q (OneSection i) = refl
piece_at P Q (EntryTable s) = refl

piece_count : (P : Laid) (Q : Placement) (x : Part) → (piece_of P Q x).count ≡ part_length P x
piece_count P Q SegmentTable = size_of_segtab P.tree (1 ∷ [])
piece_count P Q (OneSection i) = refl
piece_count P Q (EntryTable s) = size_of_table P (address_of P.program Q) s

pub find_only : {X : Type 0} (test : X → Bool) (xs : List X) (x : X) → Among x xs → test x ≡ true → ((y : X) → Among y xs → test y ≡ true → y ≡ x)
    → find test xs ≡ Some x
find_only test [] x among passes only = absurd among
find_only {X = X} test (y ∷ ys) x among passes only =
    by_test (test y) refl among (λ later. find_only test ys x later passes (λ z there holds. only z (inr there) holds))
  where
    by_test : (b : Bool) → test y ≡ b → (y ≡ x) ⊎ Among x ys → (Among x ys → find test ys ≡ Some x) → cond b (Some y) (find test ys) ≡ Some x
    by_test true here among rest = ap Some (only y (inl refl) here)
    by_test false fails (inl same) rest = absurd (false≢true (sym fails ∙ ap test same ∙ passes))
    by_test false fails (inr later) rest = rest later

parts_tell : (x y : Part) → (x ≡ y) ⊎ (x ≢ y)
parts_tell x y = by_test (part_eq x y) refl
  where
    by_test : (b : Bool) → part_eq x y ≡ b → (x ≡ y) ⊎ (x ≢ y)
    by_test true is = inl (sym (part_is x y is))
    by_test false is = inr (λ same. false≢true (sym is ∙ sym (ap (part_eq x) same) ∙ same_part x))

-- byte o of a part of segment s, as it is linked
pub part_linked : (P : Laid) (Q : Placement) (resident : List ℕ) (s : ℕ) (x : Part) (o : ℕ) → KeepsApart P Q → AreResident P.tree resident
    → is_in s resident ≡ true → IsPartOf P s x → o < part_length P x → byte_in (pieces P Q s) (part_at Q x + o) ≡ (piece_of P Q x).byte o
part_linked P Q resident s x o keeps are there part low =
    ap (λ ps. byte_in ps a) (pieces_are P Q s)
    ∙ ap (λ f. option_map_or (λ (piece : Piece). piece.byte (a - piece.at)) f 0)
    (find_map (has_address a) (piece_of P Q) (parts_in P s)
    ∙ ap (option_map (piece_of P Q)) (find_only (λ y. has_address a (piece_of P Q y)) (parts_in P s) x (among_of_has (parts_in P s) x (has-part-in P s x part)) inside only))
    ∙ ap (λ at. (piece_of P Q x).byte (a - at)) (piece_at P Q x)
    ∙ ap (piece_of P Q x).byte (back (part_at Q x) o)
  where
    a : ℕ
    a = part_at Q x + o

    back : (b o : ℕ) → b + o - b ≡ o
    back b o = omega arith

    has : (y : Part) → has_address a (piece_of P Q y) ≡ is_among (part_at Q y) (part_length P y) a
    has y = ap (λ at. is_among at (piece_of P Q y).count a) (piece_at P Q y) ∙ ap (λ count. is_among (part_at Q y) count a) (piece_count P Q y)

    inside : has_address a (piece_of P Q x) ≡ true
    inside = has x ∙ among_true (part_at Q x) (part_length P x) a (omega arith) (omega (arith, low))

    only : (y : Part) → Among y (parts_in P s) → has_address a (piece_of P Q y) ≡ true → y ≡ x
    only y among here = by_cases (parts_tell y x)
      where
        by_cases : (y ≡ x) ⊎ (y ≢ x) → y ≡ x
        by_cases (inl same) = same
        by_cases (inr differ) =
            absurd (false≢true
            (sym (not_in_other (part_at Q x) (part_length P x) (part_at Q y) (part_length P y) o
            (keeps.apart resident s s x y are there there part (at_one (IsPartOf P s) y (parts_in P s) (parts-stand P s) among) (λ same. differ (sym same))) low)
            ∙ sym (has y) ∙ here))
