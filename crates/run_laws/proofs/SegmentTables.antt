-- What a written member reads of its segment table: the tree of the program, and which segments are resident.
use Rattle.std.proofs.Common.{◌≡◌, inl, inr, ℕ, zero, suc, ◌+◌, ◌-◌, ◌*◌, ◌<◌, ◌≤◌, Bool, true, false, ◌&&◌, ◌==◌, nat_lt, if◌then◌else◌, List, [], ◌∷◌, ◌++◌, map, flat_map, replicate, length, Some, None, option_map, position, slice_get, slice_index, refl, sym, ap, ◌∙◌, arith, get_or-append-add}
use Rattle.std.specs.Option.{option_map_or}
use Rattle.std.specs.List.{range_with_len}
use Rattle.std.proofs.lemmas.Bool.{eq-eqb, ltb-true}
use Rattle.std.proofs.lemmas.List.{get_or_append_left}
use Rattle.load_recs.specs.declared.items.SymbolItem.{SymbolItem}
use Rattle.linking_model.specs.Tree.{Tree, segments, regions, parent_of, region_of, is_in}
use Rattle.linking_model.specs.TableBytes.{status_of, segtab_bytes}
use Rattle.linking_model.specs.Places.{Laid, is_overlay, segtab_length, entry_count}
use Rattle.linking_model.specs.Linked.{Placement}
use Rattle.linking_model.specs.Run.{Storage}
use Rattle.member_model.specs.Symbols.{symbol_at}
use Rattle.member_model.specs.SymbolList.{symbols_written, part_symbol}
use Rattle.member_model.specs.Parts.{SegmentTable, OneSection, EntryTable, parts, parts_in, part_number}
use Rattle.member_model.specs.Fetched.{Fetched}
use Rattle.member_model.specs.Segments.{count, is_segtab, segtab_item, segtab, segment_byte, parent_in, region_in, is_resident}
use Rattle.member_laws.specs.Linkable.{IsLinkable}
use Rattle.member_laws.proofs.LoadingLists.{Among}
use Rattle.member_laws.proofs.LoadingSymbols.{item_of_part}
use Rattle.member_laws.proofs.Numbered.{segments-range, has-part}
use Rattle.member_laws.proofs.Membership.{Has}
use Rattle.std.proofs.lemmas.Option.{none-some}
use Rattle.linking_model.specs.Run.{sections_in}
use Rattle.member_laws.proofs.Distinct.{number_at}
use Rattle.run_laws.specs.EntryTables.{ReadsTable}
use Rattle.run_laws.proofs.FetchedMembers.{IsFetched, count_is}

-- ---- the bytes of a segment table

-- what the table tells of segment s
abbrev pub row : Tree → List ℕ → ℕ → List ℕ
row tree resident s = parent_of tree s ∷ region_of tree s ∷ status_of resident s ∷ 0 ∷ []

pub table_is : (tree : Tree) (resident : List ℕ) → segtab_bytes tree resident
    ≡ (length tree ∷ regions tree ∷ replicate 6 0) ++ flat_map (row tree resident) (segments tree)
unfolding segtab_bytes
table_is tree resident = refl

-- byte j of row k
row_at : (tree : Tree) (resident : List ℕ) (a n k j : ℕ) → k < n → j < 4
    → slice_index (flat_map (row tree resident) (range_with_len a n)) (4 * k + j) ≡ slice_index (row tree resident (a + k)) j
row_at tree resident a zero k j below within = absurd (omega (arith, below))
row_at tree resident a (suc n) zero j below within =
    ap (slice_index (flat_map (row tree resident) (range_with_len a (suc n)))) (first j)
    ∙ get_or_append_left (row tree resident a) (flat_map (row tree resident) (range_with_len (a + 1) n)) 0 j within
    ∙ ap (λ s. slice_index (row tree resident s) j) (same a)
  where
    first : (j : ℕ) → 4 * 0 + j ≡ j
    first j = omega arith

    same : (a : ℕ) → a ≡ a + 0
    same a = omega arith
row_at tree resident a (suc n) (suc k) j below within =
    ap (slice_index (flat_map (row tree resident) (range_with_len a (suc n)))) (next k j)
    ∙ get_or-append-add (row tree resident a) (flat_map (row tree resident) (range_with_len (a + 1) n)) (4 * k + j) 0
    ∙ row_at tree resident (a + 1) n k j (omega (arith, below)) within
    ∙ ap (λ s. slice_index (row tree resident s) j) (same a k)
  where
    next : (k j : ℕ) → 4 * suc k + j ≡ 4 + (4 * k + j)
    next k j = omega arith

    same : (a k : ℕ) → a + 1 + k ≡ a + suc k
    same a k = omega arith

-- byte j of what the table tells of segment s
pub table_row : (tree : Tree) (resident : List ℕ) (s j : ℕ) → 1 ≤ s → s ≤ length tree → j < 4
    → slice_index (segtab_bytes tree resident) (4 + 4 * s + j) ≡ slice_index (row tree resident s) j
table_row tree resident s j low high within =
    ap (λ bytes. slice_index bytes (4 + 4 * s + j)) (table_is tree resident)
    ∙ ap (slice_index ((length tree ∷ regions tree ∷ replicate 6 0) ++ flat_map (row tree resident) (segments tree))) (behind s j low)
    ∙ get_or-append-add (length tree ∷ regions tree ∷ replicate 6 0) (flat_map (row tree resident) (segments tree)) (4 * (s - 1) + j) 0
    ∙ ap (λ ss. slice_index (flat_map (row tree resident) ss) (4 * (s - 1) + j)) (segments-range tree)
    ∙ row_at tree resident 1 (length tree) (s - 1) j (omega (arith, low, high)) within
    ∙ ap (λ t. slice_index (row tree resident t) j) (back s low)
  where
    behind : (s j : ℕ) → 1 ≤ s → 4 + 4 * s + j ≡ 8 + (4 * (s - 1) + j)
    behind s j low = omega arith

    back : (s : ℕ) → 1 ≤ s → 1 + (s - 1) ≡ s
    back s low = omega arith

pub table_count : (tree : Tree) (resident : List ℕ) → slice_index (segtab_bytes tree resident) 0 ≡ length tree
table_count tree resident = ap (λ bytes. slice_index bytes 0) (table_is tree resident)

pub table_regions : (tree : Tree) (resident : List ℕ) → slice_index (segtab_bytes tree resident) 1 ≡ regions tree
table_regions tree resident = ap (λ bytes. slice_index bytes 1) (table_is tree resident)

-- ---- where the table stands

table_first : (P : Laid) → is_overlay P.tree ≡ true → slice_get (parts P) 0 ≡ Some SegmentTable
table_first P over =
    ap (λ ss. slice_get (flat_map (parts_in P) ss) 0) (segments-range P.tree) ∙ from_one (length P.tree) (omega (arith, ltb-true 1 (length P.tree) over))
  where
    from_one : (k : ℕ) → 1 ≤ k → slice_get (flat_map (parts_in P) (range_with_len 1 k)) 0 ≡ Some SegmentTable
    from_one zero some = absurd (omega (arith, some))
    from_one (suc k) some =
        ap (λ b. slice_get (((if b && 1 == 1 then SegmentTable ∷ [] else []) ++ map (λ i. OneSection i) (sections_in P.program 1)
        ++ (if entry_count P 1 == 0 then [] else EntryTable 1 ∷ [])) ++ flat_map (parts_in P) (range_with_len 2 k)) 0) over

pub among_of_has : {X : Type 0} (xs : List X) (x : X) → Has xs x → Among x xs
among_of_has [] x there = there
among_of_has (y ∷ ys) x (inl same) = inl same
among_of_has (y ∷ ys) x (inr later) = inr (among_of_has ys x later)

pub table_among : (P : Laid) → is_overlay P.tree ≡ true → Among SegmentTable (parts P)
table_among P over =
    among_of_has (parts P) SegmentTable (has-part P SegmentTable (record {
      in_segment = 1;
      low = omega arith;
      high = omega (arith, ltb-true 1 (length P.tree) over);
      is = ap (λ b. b && 1 == 1) over;
    }))

pub table_number : (P : Laid) → is_overlay P.tree ≡ true → part_number P SegmentTable ≡ 1
table_number P over = number_at P 0 SegmentTable (table_first P over)

symbol_first : (P : Laid) → is_overlay P.tree ≡ true → slice_get (symbols_written P) 0 ≡ Some (part_symbol P SegmentTable)
symbol_first P over =
    ap (λ k. symbol_at (symbols_written P) k) (sym (table_number P over)) ∙ item_of_part P SegmentTable (table_among P over)

position_first : (test : SymbolItem → Bool) (xs : List SymbolItem) (x : SymbolItem) → slice_get xs 0 ≡ Some x → test x ≡ true → position test xs ≡ Some 0
position_first test [] x there passes = absurd (none-some x there)
position_first test (y ∷ ys) x there passes = rw (ap test (is y x there) ∙ passes) (ap (λ b. if b then Some 0 else None) (some (length ys)))
  where
    some : (n : ℕ) → nat_lt 0 (suc n) ≡ true
    some n = grind arith

    is : (y x : SymbolItem) → Some y ≡ Some x → y ≡ x
    is y x same = cc

-- ---- what is read

pub item_is : (P : Laid) (scatter : Bool) (n : ℕ) (Q : Placement) (m : Fetched) → IsLinkable P → IsFetched P scatter n Q m → is_overlay P.tree ≡ true
    → segtab_item m ≡ Some 1
item_is P scatter n Q m link is over =
    ap (λ o. option_map (λ k. k + 1) o)
    (position_first (is_segtab m) m.facts.symbols (part_symbol P SegmentTable)
    (ap (λ symbols. slice_get symbols 0) is.symbols ∙ symbol_first P over)
    (eq-eqb (segtab_length P.tree) (8 + 4 * count m) (ap (λ k. 8 + 4 * k) (sym (count_is P scatter n Q m link is)))))

-- the table stands where the placement has it
pub table_at : (P : Laid) (scatter : Bool) (n : ℕ) (Q : Placement) (m : Fetched) → IsLinkable P → IsFetched P scatter n Q m → is_overlay P.tree ≡ true
    → segtab m ≡ Q.segtab
table_at P scatter n Q m link is over =
    ap (λ o. option_map_or m.addresses o 0) (item_is P scatter n Q m link is over)
    ∙ ap m.addresses (sym (table_number P over)) ∙ is.parts SegmentTable (table_among P over)

-- byte j of what storage tells of segment s
pub byte_is : (P : Laid) (scatter : Bool) (n : ℕ) (Q : Placement) (m : Fetched) (resident : List ℕ) (M : Storage) (j s : ℕ) → IsLinkable P
    → IsFetched P scatter n Q m → is_overlay P.tree ≡ true → ReadsTable P Q.segtab resident M → 1 ≤ s → s ≤ length P.tree → j < 4
    → segment_byte m M j s ≡ slice_index (row P.tree resident s) j
byte_is P scatter n Q m resident M j s link is over reads low high within =
    ap (λ a. M (a + 4 + 4 * s + j)) (table_at P scatter n Q m link is over)
    ∙ ap M (grouped Q.segtab s j)
    ∙ reads.bytes (4 + 4 * s + j) (omega (arith, high, within))
    ∙ table_row P.tree resident s j low high within
  where
    grouped : (a s j : ℕ) → a + 4 + 4 * s + j ≡ a + (4 + 4 * s + j)
    grouped a s j = omega arith

pub parent_is : (P : Laid) (scatter : Bool) (n : ℕ) (Q : Placement) (m : Fetched) (resident : List ℕ) (M : Storage) (s : ℕ) → IsLinkable P
    → IsFetched P scatter n Q m → is_overlay P.tree ≡ true → ReadsTable P Q.segtab resident M → 1 ≤ s → s ≤ length P.tree
    → parent_in m M s ≡ parent_of P.tree s
parent_is P scatter n Q m resident M s link is over reads low high =
    ap (λ b. if b then segment_byte m M 0 s else 0) (is.overlay ∙ over) ∙ byte_is P scatter n Q m resident M 0 s link is over reads low high (omega arith)

pub region_is : (P : Laid) (scatter : Bool) (n : ℕ) (Q : Placement) (m : Fetched) (resident : List ℕ) (M : Storage) (s : ℕ) → IsLinkable P
    → IsFetched P scatter n Q m → is_overlay P.tree ≡ true → ReadsTable P Q.segtab resident M → 1 ≤ s → s ≤ length P.tree
    → region_in m M s ≡ region_of P.tree s
region_is P scatter n Q m resident M s link is over reads low high =
    ap (λ b. if b then segment_byte m M 1 s else 1) (is.overlay ∙ over) ∙ byte_is P scatter n Q m resident M 1 s link is over reads low high (omega arith)

pub resident_is : (P : Laid) (scatter : Bool) (n : ℕ) (Q : Placement) (m : Fetched) (resident : List ℕ) (M : Storage) (s : ℕ) → IsLinkable P
    → IsFetched P scatter n Q m → is_overlay P.tree ≡ true → ReadsTable P Q.segtab resident M → 1 ≤ s → s ≤ length P.tree
    → is_resident m M s ≡ is_in s resident
resident_is P scatter n Q m resident M s link is over reads low high =
    ap (λ b. if b then segment_byte m M 2 s == 255 else s == 1) (is.overlay ∙ over)
    ∙ ap (λ v. v == 255) (byte_is P scatter n Q m resident M 2 s link is over reads low high (omega arith)) ∙ by_cases (is_in s resident)
  where
    by_cases : (b : Bool) → ((if b then 255 else 0) == 255) ≡ b
    by_cases true = refl
    by_cases false = refl
