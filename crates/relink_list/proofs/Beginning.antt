-- The segment that an OVERLAY statement begins.
use Rattle.std.proofs.Common.{◌≡◌, ℕ, zero, suc, ◌+◌, ◌-◌, ◌<◌, ◌≤◌, Bool, true, false, ◌==◌, ◌&&◌, ◌||◌, not, List, [], ◌∷◌, ◌++◌, length, take, get_or, map, refl, ap, sym, ◌∙◌, arith, append_assoc, length-append}
use Rattle.std.specs.Prelude.{nat_lt, slice_get, Some, if◌then◌else◌}
use Rattle.std.specs.List.{list_any, range_with_len}
use Rattle.std.specs.Option.{option_map_or}
use Rattle.std.proofs.lemmas.Option.{slice_get-get_or}
use Rattle.std.proofs.lemmas.List.FromFn.{map-range_with_len_more}
use Rattle.le_bytes.specs.declared.name.Name.{Name}
use Rattle.load_recs.specs.declared.items.SymbolItem.{SymbolItem}
use Rattle.member_model.specs.Relink.{Statement, OverlayBelow, OverlayRegion, overlay_statement}
use Rattle.member_model.specs.Starting.{earlier}
use Rattle.list_text.specs.declared.relinking.RelinkSegment.{RelinkSegment}
use Rattle.relink_list.specs.declared.tree.SegmentPlace.{SegmentPlace}
use Rattle.relink_list.specs.Segments.{parent_of, region_of, has_region, symbol_name, inserts_of, begun, segment_of}

-- segment k + 1 stands at place k
parent_here : (tree : List SegmentPlace) (k : ℕ) (d : SegmentPlace) → k < length tree → parent_of tree (k + 1) ≡ (get_or tree k d).parent
parent_here tree k d h =
    let j : k + 1 - 1 ≡ k = omega arith in
    ap (λ (i : ℕ). option_map_or (λ (x : SegmentPlace). x.parent) (slice_get tree i) 0) j
    ∙ ap (λ o. option_map_or (λ (x : SegmentPlace). x.parent) o 0) (slice_get-get_or tree k d h)

region_here : (tree : List SegmentPlace) (k : ℕ) (d : SegmentPlace) → k < length tree → region_of tree (k + 1) ≡ (get_or tree k d).region
region_here tree k d h =
    let j : k + 1 - 1 ≡ k = omega arith in
    ap (λ (i : ℕ). option_map_or (λ (x : SegmentPlace). x.region) (slice_get tree i) 0) j
    ∙ ap (λ o. option_map_or (λ (x : SegmentPlace). x.region) o 0) (slice_get-get_or tree k d h)

-- the segments before, by their numbers and by their places
any_before : (tree : List SegmentPlace) (v : ℕ) (before rest : List SegmentPlace) (k : ℕ) → tree ≡ before ++ rest → k ≤ length rest
    → list_any (λ r. region_of tree r == v) (range_with_len (length before + 1) k) ≡ list_any (λ (x : SegmentPlace). x.region == v) (take k rest)
any_before tree v before rest zero e h = refl
any_before tree v before [] (suc k) e h = absurd (omega arith)
any_before tree v before (x ∷ rest) (suc k) e h =
    let here : region_of tree (length before + 1) ≡ x.region = found tree before x rest e in
    let size : length (before ++ x ∷ []) + 1 ≡ length before + 1 + 1 = ap (λ (n : ℕ). n + 1) (length-append before (x ∷ [])) in
    let more : list_any (λ r. region_of tree r == v) (range_with_len (length (before ++ x ∷ []) + 1) k)
    ≡ list_any (λ (x : SegmentPlace). x.region == v) (take k rest)
    = any_before tree v (before ++ x ∷ []) rest k (e ∙ sym (append_assoc before (x ∷ []) rest)) (omega arith) in
    ap (λ (n : ℕ). (n == v) || list_any (λ r. region_of tree r == v) (range_with_len (length before + 1 + 1) k)) here
    ∙ ap (λ (b : Bool). (x.region == v) || b) (ap (λ (n : ℕ). list_any (λ r. region_of tree r == v) (range_with_len n k)) (sym size) ∙ more)
  where
    at_end : (before : List SegmentPlace) (x : SegmentPlace) (rest : List SegmentPlace) → slice_get (before ++ x ∷ rest) (length before) ≡ Some x
    at_end [] x rest = refl
    at_end (y ∷ before) x rest = at_end before x rest

    found : (tree before : List SegmentPlace) (x : SegmentPlace) (rest : List SegmentPlace) → tree ≡ before ++ x ∷ rest → region_of tree (length before + 1) ≡ x.region
    found tree before x rest e =
        let j : length before + 1 - 1 ≡ length before = omega arith in
        ap (λ (i : ℕ). option_map_or (λ (x : SegmentPlace). x.region) (slice_get tree i) 0) j
        ∙ ap (λ o. option_map_or (λ (x : SegmentPlace). x.region) o 0)
        (ap (λ (xs : List SegmentPlace). slice_get xs (length before)) e ∙ at_end before x rest)

earlier_any : (tree : List SegmentPlace) (k v : ℕ) → k < length tree
    → list_any (λ r. region_of tree r == v) (earlier (k + 1)) ≡ has_region (take k tree) v
earlier_any tree k v h =
    let j : k + 1 - 1 ≡ k = omega arith in
    ap (λ (n : ℕ). list_any (λ r. region_of tree r == v) (range_with_len 1 n)) j ∙ any_before tree v [] tree k refl (omega arith)

chosen : (b : Bool) (x y : Statement) → b ≡ true → (if b then x else y) ≡ x
chosen true x y e = refl
chosen false x y e = absurd cc

other : (b : Bool) (x y : Statement) → b ≡ false → (if b then x else y) ≡ y
other true x y e = absurd cc
other false x y e = refl

at_region : (tree : List SegmentPlace) (k : ℕ) (d : SegmentPlace) → k < length tree
    → ((get_or tree k d).parent == 1 && nat_lt 1 (get_or tree k d).region) ≡ true
    → overlay_statement (parent_of tree) (region_of tree) (k + 1) ≡ OverlayRegion (get_or tree k d).region (not (has_region (take k tree) (get_or tree k d).region))
at_region tree k d h test =
    let p = parent_here tree k d h in
    let r = region_here tree k d h in
    let any = earlier_any tree k (get_or tree k d).region h in
    let so : (parent_of tree (k + 1) == 1 && nat_lt 1 (region_of tree (k + 1))) ≡ true
    = ap (λ (n : ℕ). n == 1 && nat_lt 1 (region_of tree (k + 1))) p ∙ ap (λ (n : ℕ). (get_or tree k d).parent == 1 && nat_lt 1 n) r ∙ test in
    chosen (parent_of tree (k + 1) == 1 && nat_lt 1 (region_of tree (k + 1))) _ _ so
    ∙ ap (λ (n : ℕ). OverlayRegion n (not (list_any (λ r. region_of tree r == n) (earlier (k + 1))))) r
    ∙ ap (λ (b : Bool). OverlayRegion (get_or tree k d).region (not b)) any

at_parent : (tree : List SegmentPlace) (k : ℕ) (d : SegmentPlace) → k < length tree
    → ((get_or tree k d).parent == 1 && nat_lt 1 (get_or tree k d).region) ≡ false
    → overlay_statement (parent_of tree) (region_of tree) (k + 1) ≡ OverlayBelow (get_or tree k d).parent
at_parent tree k d h test =
    let p = parent_here tree k d h in
    let r = region_here tree k d h in
    let so : (parent_of tree (k + 1) == 1 && nat_lt 1 (region_of tree (k + 1))) ≡ false
    = ap (λ (n : ℕ). n == 1 && nat_lt 1 (region_of tree (k + 1))) p ∙ ap (λ (n : ℕ). (get_or tree k d).parent == 1 && nat_lt 1 n) r ∙ test in
    other (parent_of tree (k + 1) == 1 && nat_lt 1 (region_of tree (k + 1))) _ _ so ∙ ap (λ (n : ℕ). OverlayBelow n) p

abbrev segment_with : Name → Bool → List Name → RelinkSegment
segment_with symbol region names = record { symbol = symbol; region = region; inserts = names }

-- a segment in a region above the first, below the root
pub begun_at_region : (tree : List SegmentPlace) (symbols : List SymbolItem) (k : ℕ) (d : SegmentPlace) (symbol : Name) (first : Bool) (names : List Name)
    → k < length tree → ((get_or tree k d).parent == 1 && nat_lt 1 (get_or tree k d).region) ≡ true
    → symbol ≡ symbol_name 217 (get_or tree k d).region → first ≡ not (has_region (take k tree) (get_or tree k d).region)
    → names ≡ inserts_of symbols (k + 1) → segment_with symbol first names ≡ segment_of tree symbols (k + 1)
begun_at_region tree symbols k d symbol first names h test s f i =
    ap (λ (n : Name). segment_with n first names) s
    ∙ ap (λ (b : Bool). segment_with (symbol_name 217 (get_or tree k d).region) b names) f
    ∙ ap (λ ns. segment_with (symbol_name 217 (get_or tree k d).region) (not (has_region (take k tree) (get_or tree k d).region)) ns) i
    ∙ sym (ap (λ (x : Statement). begun x (inserts_of symbols (k + 1))) (at_region tree k d h test))

-- any other segment
pub begun_at_parent : (tree : List SegmentPlace) (symbols : List SymbolItem) (k : ℕ) (d : SegmentPlace) (symbol : Name) (names : List Name)
    → k < length tree → ((get_or tree k d).parent == 1 && nat_lt 1 (get_or tree k d).region) ≡ false
    → symbol ≡ symbol_name 215 (get_or tree k d).parent
    → names ≡ inserts_of symbols (k + 1) → segment_with symbol false names ≡ segment_of tree symbols (k + 1)
begun_at_parent tree symbols k d symbol names h test s i =
    ap (λ (n : Name). segment_with n false names) s
    ∙ ap (λ ns. segment_with (symbol_name 215 (get_or tree k d).parent) false ns) i
    ∙ sym (ap (λ (x : Statement). begun x (inserts_of symbols (k + 1))) (at_parent tree k d h test))

-- one segment more
pub segments_more : (tree : List SegmentPlace) (symbols : List SymbolItem) (k : ℕ) (now new : List RelinkSegment) (x : RelinkSegment)
    → now ≡ map (segment_of tree symbols) (range_with_len 2 k) → x ≡ segment_of tree symbols (k + 1 + 1) → new ≡ now ++ x ∷ []
    → new ≡ map (segment_of tree symbols) (range_with_len 2 (k + 1))
segments_more tree symbols k now new x so_far is pushed =
    pushed ∙ ap (λ l. l ++ x ∷ []) so_far ∙ ap (λ y. map (segment_of tree symbols) (range_with_len 2 k) ++ y ∷ []) is
    ∙ sym (map-range_with_len_more (segment_of tree symbols) 2 k (k + 1 + 1) (omega arith))
