-- A segment that is loaded where its parts are apart is as it is linked there.
use Rattle.std.proofs.Common.{arith, ◌≡◌, ◌⊎◌, inl, inr, ℕ, ◌+◌, ◌-◌, ◌<◌, ◌≤◌, Bool, true, false, ◌==◌, if◌then◌else◌, List, [], ◌∷◌, ◌++◌, map, find, length, slice_index, refl, sym, ◌∙◌, ap, subst, Option, Some, None}
use Rattle.std.specs.Option.{option_map, option_map_or}
use Rattle.std.specs.List.{AllByRecursion as Each, range_with_len}
use Rattle.std.proofs.lemmas.Bool.{cond_both, eqb-true, eqb-false}
use Rattle.sym_mod.specs.declared.program.SecKind.TheVariants.{Cm}
use Rattle.sym_mod.specs.declared.program.Constant.{Constant}
use Rattle.load_recs.specs.declared.items.SymbolItem.{SymbolItem}
use Rattle.linking_model.specs.Numbers.{is_among}
use Rattle.linking_model.specs.Places.{Laid, has_segtab, entry_count, segment_of_section}
use Rattle.linking_model.specs.TableBytes.{entab_bytes}
use Rattle.linking_model.specs.Linked.{Placement, block, address_of, linked_byte, covers}
use Rattle.linking_model.specs.Run.{Piece, has_address, segtab_piece, section_piece, entab_piece, sections_in, pieces}
use Rattle.member_model.specs.SymbolList.{symbols_written}
use Rattle.member_model.specs.Symbols.{address_in_module}
use Rattle.member_model.specs.Facts.{Facts}
use Rattle.member_model.specs.Parts.{Part, SegmentTable, OneSection, EntryTable, parts, parts_in, part_kind, part_place, part_bytes, part_number}
use Rattle.member_model.specs.Chunks.{part_items}
use Rattle.member_model.specs.Loaded.{Addresses, loaded}
use Rattle.member_laws.specs.Linkable.{IsLinkable}
use Rattle.member_laws.specs.Storing.{HoldsSegment, linked_storage}
use Rattle.member_laws.proofs.LoadingLists.{Among, Pairs, each_weaker, each_both, each_append, each_map, each_filter, each_place, at_one, found_passes, found_among, not_found, find_map}
use Rattle.member_laws.proofs.LoadingSymbols.{address_of_part}
use Rattle.member_laws.proofs.LoadingItems.{IsEven}
use Rattle.member_laws.proofs.LoadingFields.{IsItemOf, IsBlank, Stands, now_at, has_place, among_parts, Apart, IsReady, sd_not_common}
use Rattle.member_laws.proofs.LoadingBytes.{Misses, plain_byte, no_byte}
use Rattle.member_laws.proofs.LoadingShifted.{moved_byte, InField}
use Rattle.member_laws.proofs.LoadingTargets.{among_parts_in}
use Rattle.member_laws.proofs.LoadingConstants.{Agree}
use Rattle.member_laws.proofs.LoadingSections.{size_of_section, section_even, section_inside, common_is_blank, section_field, section_misses, section_plain}
use Rattle.member_laws.proofs.LoadingTables.{size_of_table}
use Rattle.member_laws.proofs.LoadingEntries.{table_even, table_inside, table_place_is}

-- ---- each part of a segment

pub each_part : (R : Part → Type 0) (P : Laid) (s : ℕ) → (has_segtab P.tree s ≡ true → R SegmentTable)
    → ((i : ℕ) → i < length P.program.sections → segment_of_section P.program i ≡ s → R (OneSection i))
    → (0 < entry_count P s → R (EntryTable s)) → Each R (parts_in P s)
each_part R P s first sections last =
    each_append R
    ((if has_segtab P.tree s then SegmentTable ∷ [] else []) ++ map (λ i. OneSection i) (sections_in P.program s))
    (if entry_count P s == 0 then [] else EntryTable s ∷ [])
    (each_append R (if has_segtab P.tree s then SegmentTable ∷ [] else []) (map (λ i. OneSection i) (sections_in P.program s))
    (cond_both (has_segtab P.tree s) (SegmentTable ∷ []) [] (Each R) (λ has. (first has, tt)) (λ none. tt))
    (each_map R (λ i. OneSection i) (sections_in P.program s)
    (each_filter (λ i. R (OneSection i)) (λ i. segment_of_section P.program i == s) (range_with_len 0 (length P.program.sections))
    (each_place (λ i. (segment_of_section P.program i == s) ≡ true → R (OneSection i)) 0 (length P.program.sections)
    (λ i low high here. sections i (omega (arith, high)) (eqb-true (segment_of_section P.program i) s here))))))
    (cond_both (entry_count P s == 0) [] (EntryTable s ∷ []) (Each R) (λ none. tt)
    (λ some. (last (positive (entry_count P s) (eqb-false (entry_count P s) 0 some)), tt)))
  where
    positive : (n : ℕ) → (n ≡ 0 → ⊥) → 0 < n
    positive n some = omega arith

pub each_among : {X : Type 0} (xs : List X) → Each (λ x. Among x xs) xs
each_among [] = tt
each_among (x ∷ xs) = (inl refl, each_weaker (λ y. Among y xs) (λ y. Among y (x ∷ xs)) xs (λ y later. inr later) (each_among xs))

-- ---- the parts stand

no_items : (P : Laid) → part_items P SegmentTable ≡ []
unfolding part_items
no_items P = refl

-- what is asked of a part beside its number
record Whole (P : Laid) (x : Part) : Type 0 where
  pub even : Each IsEven (part_items P x)
  pub inside : Each (IsItemOf P x) (part_items P x)
  pub common : part_kind P x ≡ Cm → IsBlank P x

parts_whole : (P : Laid) (s : ℕ) → IsLinkable P → Each (Whole P) (parts_in P s)
parts_whole P s link =
    each_part (Whole P) P s
    (λ has. record {
      even = subst (Each IsEven) (sym (no_items P)) tt;
      inside = subst (Each (IsItemOf P SegmentTable)) (sym (no_items P)) tt;
      common = λ is. absurd (sd_not_common is);
    })
    (λ i inside here. record { even = section_even P i link; inside = section_inside P i link; common = λ is. common_is_blank P i link is })
    (λ some. record { even = table_even P s; inside = table_inside P s; common = λ is. absurd (sd_not_common is) })

pub parts_stand : (P : Laid) (s : ℕ) (symbols : List SymbolItem) → IsLinkable P → 1 ≤ s → s ≤ length P.tree → symbols ≡ symbols_written P
    → Each (Stands P symbols) (parts_in P s)
parts_stand P s symbols link first last is =
    each_weaker (λ x. Among x (parts_in P s) × Whole P x) (Stands P symbols) (parts_in P s) (λ x both. stand x both.0 both.1)
    (each_both (λ x. Among x (parts_in P s)) (Whole P) (parts_in P s) (each_among (parts_in P s)) (parts_whole P s link))
  where
    stand : (x : Part) → Among x (parts_in P s) → Whole P x → Stands P symbols x
    stand x among whole =
        let numbered : Among x (parts P) = among_parts_in P s x first last among in
        record {
          numbered = numbered;
          place = ap (λ symbols. address_in_module symbols (part_number P x)) is ∙ address_of_part P x numbered;
          even = whole.even;
          inside = whole.inside;
          common = whole.common;
        }

-- ---- parts and pieces

-- the part as it is linked
abbrev pub piece_of : Laid → Placement → Part → Piece
piece_of P Q SegmentTable = segtab_piece P Q
piece_of P Q (OneSection i) = section_piece P Q i
piece_of P Q (EntryTable s) = entab_piece P Q s

rest_as : (f : Part → Piece) (c : Bool) (y : Part) (sections : List ℕ)
    → map (λ i. f (OneSection i)) sections ++ (if c then [] else f y ∷ [])
    ≡ map f (map (λ i. OneSection i) sections ++ (if c then [] else y ∷ []))
rest_as f true y [] = refl
rest_as f false y [] = refl
rest_as f c y (i ∷ sections) = ap (λ rest. f (OneSection i) ∷ rest) (rest_as f c y sections)

pieces_as : (f : Part → Piece) (b c : Bool) (x y : Part) (sections : List ℕ)
    → (if b then f x ∷ [] else []) ++ map (λ i. f (OneSection i)) sections ++ (if c then [] else f y ∷ [])
    ≡ map f ((if b then x ∷ [] else []) ++ map (λ i. OneSection i) sections ++ (if c then [] else y ∷ []))
pieces_as f true c x y sections = ap (λ rest. f x ∷ rest) (rest_as f c y sections)
pieces_as f false c x y sections = rest_as f c y sections

pieces_are : (P : Laid) (Q : Placement) (s : ℕ) → pieces P Q s ≡ map (piece_of P Q) (parts_in P s)
pieces_are P Q s =
    pieces_as (piece_of P Q) (has_segtab P.tree s) (entry_count P s == 0) SegmentTable (EntryTable s) (sections_in P.program s)

-- the addresses put the parts of segment s where the placement has them, apart
pub record Fits (P : Laid) (q : Addresses) (Q : Placement) (s : ℕ) : Type 0 where
  pub agree : Agree P q Q
  pub segment_table : has_segtab P.tree s ≡ true → q (part_number P SegmentTable) ≡ Q.segtab
  pub table : 0 < entry_count P s → q (part_number P (EntryTable s)) ≡ Q.entab s
  pub apart : Pairs (Apart P q) (parts_in P s)

-- the part stands where its piece is, and is as long
record IsPieceOf (P : Laid) (q : Addresses) (Q : Placement) (x : Part) : Type 0 where
  pub at : (piece_of P Q x).at ≡ now_at P q x
  pub count : (piece_of P Q x).count ≡ length (part_bytes P x)

are_pieces : (P : Laid) (q : Addresses) (Q : Placement) (s : ℕ) → Fits P q Q s → Each (IsPieceOf P q Q) (parts_in P s)
are_pieces P q Q s fits =
    each_part (IsPieceOf P q Q) P s
    (λ has. record { at = sym (fits.segment_table has); count = refl })
    (λ i inside here. record { at = sym (fits.agree.section i inside); count = sym (size_of_section P i) })
    (λ some. record {
      at = sym (fits.table some);
      count = size_of_table P (address_of P.program Q) s ∙ sym (size_of_table P (address_of P.program (block P 0)) s);
    })

-- ---- a byte of a part

abbrev IsLoadedSo : Laid → ℕ → Facts → Addresses → Placement → Part → ℕ → Type 0
IsLoadedSo P s F q Q x o = loaded F q s (now_at P q x + o) ≡ (piece_of P Q x).byte o

part_byte : (P : Laid) (n s : ℕ) (F : Facts) (q : Addresses) (Q : Placement) (x : Part) (o : ℕ) → IsLinkable P
    → F.symbols ≡ symbols_written P → IsReady P n s F q → Agree P q Q → Among x (parts_in P s) → o < length (part_bytes P x)
    → IsLoadedSo P s F q Q x o
part_byte P n s F q Q SegmentTable o link symbols ready agree among inside =
    plain_byte P n s F q SegmentTable o ready among inside
    (subst (Each (Misses (part_place P SegmentTable + o))) (sym (no_items P)) tt)
part_byte P n s F q Q (OneSection i) o link symbols ready agree among inside = by_cases (find (covers i o) P.program.constants) refl
  where
    by_cases : (found : Option Constant) → find (covers i o) P.program.constants ≡ found → IsLoadedSo P s F q Q (OneSection i) o
    by_cases None none =
        plain_byte P n s F q (OneSection i) o ready among inside (section_misses P i o link none)
        ∙ section_plain P Q i o (subst (λ n. o < n) (size_of_section P i) inside) none
    by_cases (Some c) found =
        moved_byte P n s F q (OneSection i) o (linked_byte P Q i o) ready among (section_field P F q Q i o c link symbols agree found)
part_byte P n s F q Q (EntryTable t) o link symbols ready agree among inside = by_cases (table_place_is P F q Q t o link symbols agree)
  where
    now : ℕ
    now = slice_index (entab_bytes P (address_of P.program Q) t) o

    by_cases : InField P F q (EntryTable t) o now
        ⊎ (Each (Misses (part_place P (EntryTable t) + o)) (part_items P (EntryTable t)) × (slice_index (part_bytes P (EntryTable t)) o ≡ now))
        → IsLoadedSo P s F q Q (EntryTable t) o
    by_cases (inl field) = moved_byte P n s F q (EntryTable t) o now ready among field
    by_cases (inr plain) = plain_byte P n s F q (EntryTable t) o ready among inside plain.0 ∙ plain.1

-- ---- a byte of the segment

pub segment_loads : (P : Laid) (n s : ℕ) (F : Facts) (q : Addresses) (Q : Placement) (a : ℕ) → IsLinkable P → 1 ≤ n → 1 ≤ s
    → s ≤ length P.tree → HoldsSegment P n s F → Fits P q Q s → loaded F q s a ≡ linked_storage P Q s a
segment_loads P n s F q Q a link some first last holds fits =
    by_cases (find (λ x. has_address a (piece_of P Q x)) (parts_in P s)) refl
    ∙ sym (ap (λ found. option_map_or (λ (piece : Piece). piece.byte (a - piece.at)) found 0)
    (ap (find (has_address a)) (pieces_are P Q s) ∙ find_map (has_address a) (piece_of P Q) (parts_in P s)))
  where
    ready : IsReady P n s F q
    ready = record { some = some; holds = holds; stands = parts_stand P s F.symbols link first last holds.symbols; apart = fits.apart }

    found_byte : Option Part → ℕ
    found_byte found = option_map_or (λ (piece : Piece). piece.byte (a - piece.at)) (option_map (piece_of P Q) found) 0

    same_place : (x : Part) → IsPieceOf P q Q x → has_address a (piece_of P Q x) ≡ has_place P q a x
    same_place x is =
        ap (λ at. is_among at (piece_of P Q x).count a) is.at ∙ ap (λ count. is_among (now_at P q x) count a) is.count

    by_cases : (found : Option Part) → find (λ x. has_address a (piece_of P Q x)) (parts_in P s) ≡ found → loaded F q s a ≡ found_byte found
    by_cases None none =
        no_byte P n s F q a ready
        (each_weaker (λ x. IsPieceOf P q Q x × (has_address a (piece_of P Q x) ≡ false)) (λ x. has_place P q a x ≡ false) (parts_in P s)
        (λ x both. sym (same_place x both.0) ∙ both.1)
        (each_both (IsPieceOf P q Q) (λ x. has_address a (piece_of P Q x) ≡ false) (parts_in P s) (are_pieces P q Q s fits)
        (not_found (λ x. has_address a (piece_of P Q x)) (parts_in P s) none)))
    by_cases (Some x) found =
        let among : Among x (parts_in P s) = found_among (λ x. has_address a (piece_of P Q x)) x (parts_in P s) found in
        let is : IsPieceOf P q Q x = at_one (IsPieceOf P q Q) x (parts_in P s) (are_pieces P q Q s fits) among in
        let here : has_place P q a x ≡ true = sym (same_place x is) ∙ found_passes (λ x. has_address a (piece_of P Q x)) x (parts_in P s) found in
        let place = among_parts (now_at P q x) (length (part_bytes P x)) a here in
        ap (loaded F q s) (split (now_at P q x) a place.0)
        ∙ (part_byte P n s F q Q x (a - now_at P q x) link holds.symbols ready fits.agree among
        (below (now_at P q x) a (length (part_bytes P x)) place.0 place.1)
        ∙ ap (λ at. (piece_of P Q x).byte (a - at)) (sym is.at))
      where
        split : (b a : ℕ) → b ≤ a → a ≡ b + (a - b)
        split b a from = omega arith

        below : (b a n : ℕ) → b ≤ a → a < b + n → a - b < n
        below b a n from to = omega arith
