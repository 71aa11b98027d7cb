-- What the tree answers, and how it grows.
use Rattle.std.proofs.Common.{◌≡◌, ◌≢◌, ℕ, zero, suc, ◌+◌, ◌<◌, ◌≤◌, max, Bool, true, false, ◌||◌, ◌==◌, nat_lt, List, [], ◌∷◌, ◌++◌, length, drop, map, Option, Some, None, option_map, unwrap_or, is_some, position, Result, Ok, Err, refl, subst, sym, ap, ◌∙◌, arith, inl, inr}
use Rattle.std.specs.Prelude.{get_or}
use Rattle.std.specs.Option.{option_map_or}
use Rattle.std.proofs.lemmas.Bool.{ne_eqb, ltb-true, ltb-false}
use Rattle.std.proofs.lemmas.Bool.Decides.{eqb_tells}
use Rattle.std.proofs.lemmas.List.Quantifiers.{position-Some}
use Rattle.le_bytes.specs.declared.name.Name.{Name}
use Rattle.le_bytes.specs.Names.{name_eq}
use Rattle.linking_model.specs.declared.segment.Segment.{Segment}
use Rattle.linking_model.specs.Tree.{Tree, IsTree, IsSmall, MayBegin, Overlays, OverlayFault, RegionNameUsed, TooManyRegions, TooManySegments, overlaid, overlay_fault, first_of, next_segment, root, path, parent_of, region_of, regions, is_in, is_on_path}
use Rattle.linking_model.specs.Laws.{HasParent}
use Rattle.linking_model.proofs.Trees.{greatest-cons, parent_of-older, segments_have_parents, path-newest, path-older, path-root, region_of-newest, region_of-older, statements_make_trees, statements_keep_trees_small}
use Rattle.linking_model.proofs.Origins.{path-parent, path-start, path-own}
use Rattle.seg_tree.specs.declared.node.Node.{Node}
use Rattle.seg_tree.specs.declared.node.Node.TheViews.{roll-Node}
use Rattle.seg_tree.proofs.Finding.{rolled}
use Rattle.std.proofs.lemmas.List.{length-append}
use Rattle.seg_tree.specs.declared.tree.TreeFault.{TreeFault}
use Rattle.seg_tree.specs.Nodes.{Found, Holds, Hangs, HangAnswer, found, passes, path_found, parent_under, segment_found, begun}
use Rattle.seg_tree.specs.Answers.{OverlayAnswer, told}

-- ---- numbers that no segment has

pub path_out : (tree : Tree) (s : ℕ) → length tree < s → path tree s ≡ []
unfolding path
path_out [] s high = refl
path_out (x ∷ older) s high =
    elim (eqb_tells s (length older + 1)) as (λ _. path (x ∷ older) s ≡ []) [
      | inl w ↦ let no : ⊥ = omega arith in absurd no
      | inr w ↦ path-older x older s w.1 ∙ path_out older s (omega arith)
    ]

pub path_zero : (tree : Tree) → path tree 0 ≡ []
unfolding path
path_zero [] = refl
path_zero (x ∷ older) = path-older x older 0 (omega arith) ∙ path_zero older

pub parent_out : (tree : Tree) (s : ℕ) → length tree < s → parent_of tree s ≡ 0
unfolding parent_of
parent_out [] s high = refl
parent_out (x ∷ older) s high = parent_of-older x older s (omega arith) ∙ parent_out older s (omega arith)

pub parent_zero : (tree : Tree) → parent_of tree 0 ≡ 0
unfolding parent_of
parent_zero [] = refl
parent_zero (x ∷ older) = parent_of-older x older 0 (omega arith) ∙ parent_zero older

parent_root : (tree : Tree) → IsTree tree → parent_of tree 1 ≡ 0
unfolding parent_of
parent_root [] t = absurd t
parent_root (x ∷ []) t = rw t refl
parent_root (x ∷ y ∷ older) t = parent_of-older x (y ∷ older) 1 (omega arith) ∙ parent_root (y ∷ older) t.1

-- ---- what is found

second_on_path : (tree : Tree) (s : ℕ) → IsTree tree → get_or (drop 1 (path tree s)) 0 0 ≡ parent_of tree s
second_on_path tree s t =
    elim (eqb_tells s 0) as (λ _. get_or (drop 1 (path tree s)) 0 0 ≡ parent_of tree s) [
      | inl w ↦ rw (w.1, path_zero tree, parent_zero tree) refl
      | inr w ↦ elim (nat_lt (length tree) s) as (λ b. nat_lt (length tree) s ≡ b → get_or (drop 1 (path tree s)) 0 0 ≡ parent_of tree s) [
        | true ↦ λ e. let high : length tree < s = ltb-true (length tree) s e in rw (path_out tree s high, parent_out tree s high) refl
        | false ↦ λ e. within (omega arith) (ltb-false (length tree) s e)
      ] refl
    ]
  where
    within : 1 ≤ s → s ≤ length tree → get_or (drop 1 (path tree s)) 0 0 ≡ parent_of tree s
    within low high =
        elim (eqb_tells s 1) as (λ _. get_or (drop 1 (path tree s)) 0 0 ≡ parent_of tree s) [
          | inl v ↦ rw (v.1, path-start tree t, parent_root tree t) refl
          | inr v ↦ below (omega arith)
        ]
      where
        below : 2 ≤ s → get_or (drop 1 (path tree s)) 0 0 ≡ parent_of tree s
        below two =
            let has : HasParent tree s = segments_have_parents tree s t two high in
            let up : path tree s ≡ s ∷ path tree (parent_of tree s) = path-parent tree s t two high in
            let own : path tree (parent_of tree s) ≡ parent_of tree s ∷ drop 1 (path tree (parent_of tree s)) = path-own tree (parent_of tree s) t has.below_root (omega arith) in
            ap (λ l. get_or (drop 1 l) 0 0) up ∙ ap (λ l. get_or l 0 0) own

second_found : (s : ℕ) (x : Option Found) → option_map_or (parent_under 0) x 0 ≡ get_or (drop 1 (path_found s x)) 0 0
second_found s None = refl
second_found s (Some f) = first_of_longer f.up
  where
    first_of_longer : (up : List ℕ) → get_or (up ++ 0 ∷ []) 0 0 ≡ get_or up 0 0
    first_of_longer [] = refl
    first_of_longer (u ∷ up) = refl

unwrap_map : {A B : Type 0} (f : A → B) (x : Option A) (b : B) → unwrap_or (option_map f x) b ≡ option_map_or f x b
unwrap_map f None b = refl
unwrap_map f (Some a) b = refl

pub parent_found : (top : Node) (count highest : ℕ) (symbols : List Name) (s : ℕ) → Holds top count highest (begun top count) symbols → unwrap_or (option_map (parent_under 0) (found top s)) 0 ≡ parent_of (begun top count) s
parent_found top count highest symbols s holds =
    unwrap_map (parent_under 0) (found top s) 0 ∙ second_found s (found top s)
    ∙ ap (λ l. get_or (drop 1 l) 0 0) (holds.same_path s) ∙ second_on_path (begun top count) s holds.tree_is

pub region_found : (top : Node) (count highest : ℕ) (symbols : List Name) (s : ℕ) → Holds top count highest (begun top count) symbols → unwrap_or (option_map (λ f. f.region) (found top s)) 0 ≡ region_of (begun top count) s
region_found top count highest symbols s holds = unwrap_map (λ f. f.region) (found top s) 0 ∙ holds.same_region s

or_false : (b : Bool) → (b || false) ≡ b
or_false true = refl
or_false false = refl

seen_on : (a s : ℕ) (x : Option Found) → unwrap_or (option_map (passes a s false) x) false ≡ is_in a (path_found s x)
unfolding passes
seen_on a s None = refl
seen_on a s (Some f) = or_false (is_in a (s ∷ f.up))

pub on_path_found : (top : Node) (count highest : ℕ) (symbols : List Name) (a s : ℕ) → Holds top count highest (begun top count) symbols → unwrap_or (option_map (passes a s false) (found top s)) false ≡ is_on_path (begun top count) a s
on_path_found top count highest symbols a s holds = seen_on a s (found top s) ∙ ap (λ l. is_in a l) (holds.same_path s)

-- ---- growing

path_none : (s : ℕ) → path [] s ≡ []
unfolding path
path_none s = refl

region_out : (s : ℕ) → region_of [] s ≡ 0
unfolding region_of
region_out s = refl

regions-cons : (x : Segment) (older : Tree) → regions (x ∷ older) ≡ max x.region (regions older)
unfolding regions
regions-cons x older = greatest-cons x.region (map (λ y. y.region) older)

no_regions : regions [] ≡ 0
unfolding regions
no_regions = refl

root_of : (top : Node) (own : Option Found) → own ≡ Some (record { region = 1; up = [] }) → segment_found own ≡ root
root_of top own is = rw is refl

found_holds : (top : Node) (x : Segment) → x ≡ root → found top 1 ≡ Some (record { region = 1; up = [] }) → ((s : ℕ) → s ≢ 1 → found top s ≡ None) → Holds top 1 1 (x ∷ []) []
found_holds top x is own others = record {
  tree_is = is;
  small = record { few_segments = omega arith; few_regions = rw (regions-cons x [], no_regions, is) (omega arith) };
  counted = refl;
  regions_counted = rw (regions-cons x [], no_regions, is) refl;
  begun_at = refl;
  no_more = λ s high. others s (omega arith);
  same_path = λ s. elim (eqb_tells s 1) as (λ _. path_found s (found top s) ≡ path (x ∷ []) s) [
    | inl w ↦ rw (w.1, own, path-root x) refl
    | inr w ↦ rw (others s w.1, path-older x [] s w.1, path_none s) refl
  ];
  same_region = λ s. elim (eqb_tells s 1) as (λ _. (segment_found (found top s)).region ≡ region_of (x ∷ []) s) [
    | inl w ↦ rw (w.1, own, region_of-newest x [], is) refl
    | inr w ↦ rw (others s w.1, region_of-older x [] s w.1, region_out s) refl
  ];
}

pub root_holds : (top : Node) → top ≡ roll-Node (record { number = 1; region = 1; first = None; next = None }) → Holds top 1 1 (segment_found (found top 1) ∷ []) []
root_holds top is =
    let own : found top 1 ≡ Some (record { region = 1; up = [] }) = ap (λ t. found t 1) is ∙ rolled 1 1 None None 1 in
    found_holds top (segment_found (found top 1)) (root_of top (found top 1) own) own
    (λ s apart. ap (λ t. found t s) is ∙ rolled 1 1 None None s ∙ rw (ne_eqb 1 s (λ e. apart (sym e))) refl)

begun_same : (old new : Node) (n : ℕ) → ((s : ℕ) → s ≤ n → found new s ≡ found old s) → begun new n ≡ begun old n
begun_same old new zero same = refl
begun_same old new (suc n) same =
    ap (λ x. segment_found x ∷ begun new n) (same (suc n) (omega arith))
    ∙ ap (λ l. segment_found (found old (suc n)) ∷ l) (begun_same old new n (λ s low. same s (omega arith)))

may_begin : (x : Segment) (tree : Tree) → IsTree tree → IsTree (x ∷ tree) → MayBegin tree x
may_begin x [] t both = absurd t
may_begin x (y ∷ older) t both = both.0

some_found : (s : ℕ) (x : Option Found) (rest : List ℕ) → path_found s x ≡ s ∷ rest → x ≢ None
some_found s None rest h = cc
some_found s (Some f) rest h = λ e. cc

begun_next : (top : Node) (n : ℕ) → begun top (n + 1) ≡ segment_found (found top (n + 1)) ∷ begun top n
begun_next top n = let next : n + 1 ≡ suc n = omega arith in rw next refl

pub parent_there : (top : Node) (count highest : ℕ) (symbols : List Name) (x : Segment) → Holds top count highest (begun top count) symbols → IsTree (x ∷ begun top count) → found top x.parent ≢ None
parent_there top count highest symbols x holds both =
    let may : MayBegin (begun top count) x = may_begin x (begun top count) holds.tree_is both in
    some_found x.parent (found top x.parent) (drop 1 (path (begun top count) x.parent))
    (holds.same_path x.parent ∙ path-own (begun top count) x.parent holds.tree_is may.below_root may.below_earlier)

abbrev hung : Segment → Found → Found
hung x f = record { region = x.region; up = x.parent ∷ f.up }

segment_hung : (x : Segment) (y : Option Found) → is_some y ≡ true → segment_found (option_map (hung x) y) ≡ x
segment_hung x None h = cc
segment_hung x (Some f) h = refl

path_hung : (x : Segment) (s : ℕ) (y : Option Found) → is_some y ≡ true → path_found s (option_map (hung x) y) ≡ s ∷ path_found x.parent y
path_hung x s None h = cc
path_hung x s (Some f) h = refl

newest_found : (old new : Node) (count highest : ℕ) (symbols : List Name) (x : Segment) → Holds old count highest (begun old count) symbols → Hangs (found old) (found new) x.parent (count + 1) x.region → found new (count + 1) ≡ option_map (hung x) (found old x.parent)
newest_found old new count highest symbols x holds hangs = hangs.own (holds.no_more (count + 1) (omega arith))

pub grown_tree : (old new : Node) (count highest : ℕ) (symbols : List Name) (x : Segment) → Holds old count highest (begun old count) symbols → Hangs (found old) (found new) x.parent (count + 1) x.region → begun new (count + 1) ≡ x ∷ begun old count
grown_tree old new count highest symbols x holds hangs =
    begun_next new count
    ∙ ap (λ y. segment_found y ∷ begun new count) (newest_found old new count highest symbols x holds hangs)
    ∙ ap (λ y. y ∷ begun new count) (segment_hung x (found old x.parent) hangs.there)
    ∙ ap (λ l. x ∷ l) (begun_same old new count (λ s low. hangs.others s (omega arith)))

grown_holds : (old new : Node) (count highest : ℕ) (tree : Tree) (symbols : List Name) (x : Segment) (name : Name) → Holds old count highest tree symbols → IsTree (x ∷ tree) → IsSmall (x ∷ tree) → Hangs (found old) (found new) x.parent (count + 1) x.region → found new (count + 1) ≡ option_map (hung x) (found old x.parent) → Holds new (count + 1) (max highest x.region) (x ∷ tree) (symbols ++ name ∷ [])
grown_holds old new count highest tree symbols x name holds both small hangs newest =
    let counted : length tree ≡ count = holds.counted in
    let at : length tree ≡ length symbols + 1 = holds.begun_at in
    let highest_is : regions tree ≡ highest = holds.regions_counted in
    record {
      tree_is = both;
      small = small;
      counted = omega arith;
      regions_counted = rw (regions-cons x tree) (omega arith);
      begun_at = rw (length-append symbols (name ∷ [])) (omega arith);
      no_more = λ s high. hangs.others s (omega arith) ∙ holds.no_more s (omega arith);
      same_path = λ s. elim (eqb_tells s (count + 1)) as (λ _. path_found s (found new s) ≡ path (x ∷ tree) s) [
        | inl w ↦ rw (w.1) (newest_path counted)
        | inr w ↦ ap (λ y. path_found s y) (hangs.others s w.1) ∙ holds.same_path s ∙ sym (path-older x tree s (omega arith))
      ];
      same_region = λ s. elim (eqb_tells s (count + 1)) as (λ _. (segment_found (found new s)).region ≡ region_of (x ∷ tree) s) [
        | inl w ↦ rw (w.1) (newest_region counted)
        | inr w ↦ ap (λ y. (segment_found y).region) (hangs.others s w.1) ∙ holds.same_region s ∙ sym (region_of-older x tree s (omega arith))
      ];
    }
  where
    newest_path : length tree ≡ count → path_found (count + 1) (found new (count + 1)) ≡ path (x ∷ tree) (count + 1)
    newest_path counted =
        ap (λ y. path_found (count + 1) y) newest ∙ path_hung x (count + 1) (found old x.parent) hangs.there
        ∙ ap (λ l. (count + 1) ∷ l) (holds.same_path x.parent)
        ∙ sym (ap (λ n. path (x ∷ tree) (n + 1)) (sym counted) ∙ path-newest x tree ∙ ap (λ n. (n + 1) ∷ path tree x.parent) counted)

    newest_region : length tree ≡ count → (segment_found (found new (count + 1))).region ≡ region_of (x ∷ tree) (count + 1)
    newest_region counted =
        ap (λ y. (segment_found y).region) newest ∙ ap (λ y. y.region) (segment_hung x (found old x.parent) hangs.there)
        ∙ sym (ap (λ n. region_of (x ∷ tree) (n + 1)) (sym counted) ∙ region_of-newest x tree)

pub grown : (old new : Node) (count highest : ℕ) (symbols : List Name) (x : Segment) (name : Name) → Holds old count highest (begun old count) symbols → IsTree (x ∷ begun old count) → IsSmall (x ∷ begun old count) → Hangs (found old) (found new) x.parent (count + 1) x.region → Holds new (count + 1) (max highest x.region) (begun new (count + 1)) (symbols ++ name ∷ [])
grown old new count highest symbols x name holds both small hangs =
    rw (grown_tree old new count highest symbols x holds hangs)
    (grown_holds old new count highest (begun old count) symbols x name holds both small hangs (newest_found old new count highest symbols x holds hangs))

hangs_there : {E : Type 0} (old x new : Node) (r : Result Bool E) (b : Bool) (above number in_region : ℕ) → r ≡ Ok b → x ≡ old → found old above ≢ None → HangAnswer x above number in_region r new → Hangs (found old) (found new) above number in_region
hangs_there old x new (Ok true) b above number in_region is same there h = rw (sym same) h
hangs_there old x new (Ok false) b above number in_region is same there h = absurd (there (ap (λ v. found v above) (sym same) ∙ h.1))
hangs_there old x new (Err e) b above number in_region is same there h = cc

pub begun_holds : {E : Type 0} (old x new : Node) (count highest regions_now : ℕ) (symbols items : List Name) (next : Segment) (name : Name) (r : Result Bool E) (b : Bool) → Holds old count highest (begun old count) symbols → IsTree (next ∷ begun old count) → IsSmall (next ∷ begun old count) → r ≡ Ok b → x ≡ old → HangAnswer x next.parent (count + 1) next.region r new → regions_now ≡ max highest next.region → items ≡ symbols ++ name ∷ [] → Holds new (count + 1) regions_now (begun new (count + 1)) items
begun_holds old x new count highest regions_now symbols items next name r b holds both small is same answer regions_is items_is =
    rw (regions_is, items_is)
    (grown old new count highest symbols next name holds both small
    (hangs_there old x new r b next.parent (count + 1) next.region is same (parent_there old count highest symbols next holds both) answer))

pub begun_tree : {E : Type 0} (old x new : Node) (count highest : ℕ) (symbols : List Name) (next : Segment) (r : Result Bool E) (b : Bool) → Holds old count highest (begun old count) symbols → IsTree (next ∷ begun old count) → r ≡ Ok b → x ≡ old → HangAnswer x next.parent (count + 1) next.region r new → begun new (count + 1) ≡ next ∷ begun old count
begun_tree old x new count highest symbols next r b holds both is same answer =
    grown_tree old new count highest symbols next holds
    (hangs_there old x new r b next.parent (count + 1) next.region is same (parent_there old count highest symbols next holds both) answer)

-- ---- OVERLAY statements

pub place_within : (symbols : List Name) (symbol : Name) (at : ℕ) → position (λ x. name_eq x symbol) symbols ≡ Some at → at < length symbols
place_within symbols symbol at is = (position-Some (λ x. name_eq x symbol) symbols at symbol is).0

next_tree : (o : Overlays) (symbol : Name) (region : Bool) → IsTree o.tree → length o.tree ≡ length o.symbols + 1 → IsTree (next_segment o.tree region (first_of o.symbols symbol) ∷ o.tree)
unfolding overlaid
next_tree o symbol region t size = statements_make_trees o symbol region t size

next_small : (o : Overlays) (symbol : Name) (region : Bool) → IsTree o.tree → length o.tree ≡ length o.symbols + 1 → IsSmall o.tree → overlay_fault o symbol region ≡ None → IsSmall (next_segment o.tree region (first_of o.symbols symbol) ∷ o.tree)
unfolding overlaid
next_small o symbol region t size small fault = statements_keep_trees_small o symbol region t size small fault

pub next_is_tree : (o : Overlays) (symbol : Name) (region : Bool) (first : Option ℕ) (x : Segment) → first ≡ first_of o.symbols symbol → x ≡ next_segment o.tree region first → IsTree o.tree → length o.tree ≡ length o.symbols + 1 → IsTree (x ∷ o.tree)
next_is_tree o symbol region first x first_is x_is t size = subst (λ y. IsTree (y ∷ o.tree)) (sym (x_is ∙ ap (λ f. next_segment o.tree region f) first_is)) (next_tree o symbol region t size)

pub next_is_small : (o : Overlays) (symbol : Name) (region : Bool) (first : Option ℕ) (x : Segment) → first ≡ first_of o.symbols symbol → x ≡ next_segment o.tree region first → IsTree o.tree → length o.tree ≡ length o.symbols + 1 → IsSmall o.tree → overlay_fault o symbol region ≡ None → IsSmall (x ∷ o.tree)
next_is_small o symbol region first x first_is x_is t size small fault = subst (λ y. IsSmall (y ∷ o.tree)) (sym (x_is ∙ ap (λ f. next_segment o.tree region f) first_is)) (next_small o symbol region t size small fault)

pub no_fault : (fault : Option OverlayFault) → option_map told fault ≡ None → fault ≡ None
no_fault None h = refl
no_fault (Some f) h = cc

pub fault_answer : (o : Overlays) (symbol : Name) (region : Bool) (f : TreeFault) → option_map told (overlay_fault o symbol region) ≡ Some f → OverlayAnswer o symbol region (Err f) o
fault_answer o symbol region f h = by_fault (overlay_fault o symbol region) refl h
  where
    by_fault : (fault : Option OverlayFault) → overlay_fault o symbol region ≡ fault → option_map told fault ≡ Some f → OverlayAnswer o symbol region (Err f) o
    by_fault None is h = cc
    by_fault (Some (RegionNameUsed name)) is h = let e : told (RegionNameUsed name) ≡ f = cc in rw (sym e) (is, refl)
    by_fault (Some (TooManyRegions n)) is h = let e : told (TooManyRegions n) ≡ f = cc in rw (sym e) (is, refl)
    by_fault (Some (TooManySegments n)) is h = let e : told (TooManySegments n) ≡ f = cc in rw (sym e) (is, refl)

-- ---- what contracts see

abbrev made_of : Tree → List Name → Overlays
made_of tree symbols = record { tree = tree; symbols = symbols }

pub seen_as : (old new : Overlays) (tree : Tree) (symbols : List Name) (next : Segment) (point : Name) → old ≡ made_of tree symbols → new.tree ≡ next ∷ tree → new.symbols ≡ symbols ++ point ∷ [] → new ≡ made_of (next ∷ old.tree) (old.symbols ++ point ∷ [])
seen_as old new tree symbols next point is tree_is symbols_is = rw is (both new.tree new.symbols tree_is symbols_is)
  where
    both : (t : Tree) (l : List Name) → t ≡ next ∷ tree → l ≡ symbols ++ point ∷ [] → made_of t l ≡ made_of (next ∷ tree) (symbols ++ point ∷ [])
    both t l a b = rw (a, b) refl
