-- The texts of the listed statements.
use Rattle.std.proofs.Common.{◌≡◌, ℕ, zero, suc, ◌+◌, ◌-◌, ◌/◌, ◌%◌, ◌<◌, ◌≤◌, Bool, true, false, ◌==◌, ◌&&◌, ◌||◌, not, List, [], ◌∷◌, ◌++◌, length, map, filter, flat_map, refl, ap, sym, ◌∙◌, arith}
use Rattle.std.specs.Prelude.{codes, nat_lt, if◌then◌else◌}
use Rattle.std.specs.List.{list_any, range_with_len}
use Rattle.std.proofs.lemmas.List.{map-append}
use Rattle.std.proofs.lemmas.Bool.{ne_eqb}
use Rattle.le_bytes.specs.Codes.{ascii_of}
use Rattle.le_bytes.specs.declared.name.Name.{Name}
use Rattle.load_recs.specs.declared.items.SymbolItem.{SymbolItem}
use Rattle.map_list.specs.Printed.{trimmed, printed_name}
use Rattle.member_model.specs.Symbols.{is_overlay_member}
use Rattle.member_model.specs.Fetched.{Fetched, first_storage}
use Rattle.member_model.specs.Segments.{count, parent_in, region_in}
use Rattle.member_model.specs.Starting.{later_segments, earlier}
use Rattle.member_model.specs.Relink.{Statement, OverlayBelow, OverlayRegion, Insert, Alias, Replace, is_inserted, overlay_statement, segment_statements, overlay_statements, relink}
use Rattle.list_text.specs.Statements.{include_text, insert_text, alias_text, replace_text, overlay_text, segment_texts}
use Rattle.relink_list.specs.declared.tree.SegmentPlace.{SegmentPlace}
use Rattle.relink_list.specs.Segments.{parent_of, region_of, symbol_name, inserts_of, begun, segment_of, relink_segments}
use Rattle.relink_list.specs.Texts.{three_digits, text_of, IsTreeOf, TextsAreThoseOfTheStatements}

-- ---- symbols

digit_code : (d : ℕ) → d < 10 → ascii_of (240 + d) ≡ 48 + d
digit_code zero h = refl
digit_code (suc zero) h = refl
digit_code (suc (suc zero)) h = refl
digit_code (suc (suc (suc zero))) h = refl
digit_code (suc (suc (suc (suc zero)))) h = refl
digit_code (suc (suc (suc (suc (suc zero))))) h = refl
digit_code (suc (suc (suc (suc (suc (suc zero)))))) h = refl
digit_code (suc (suc (suc (suc (suc (suc (suc zero))))))) h = refl
digit_code (suc (suc (suc (suc (suc (suc (suc (suc zero)))))))) h = refl
digit_code (suc (suc (suc (suc (suc (suc (suc (suc (suc zero))))))))) h = refl
digit_code (suc (suc (suc (suc (suc (suc (suc (suc (suc (suc d)))))))))) h = absurd (omega arith)

four_characters : (a b c d : ℕ) → (a ≡ 32 → ⊥) → (b ≡ 32 → ⊥) → (c ≡ 32 → ⊥) → (d ≡ 32 → ⊥)
    → trimmed (a ∷ b ∷ c ∷ d ∷ 32 ∷ 32 ∷ 32 ∷ 32 ∷ []) ≡ a ∷ b ∷ c ∷ d ∷ []
four_characters a b c d na nb nc nd = rw (ne_eqb a 32 na, ne_eqb b 32 nb, ne_eqb c 32 nc, ne_eqb d 32 nd) refl

mapped : (x y z : ℕ) (letter code : ℕ) → ascii_of letter ≡ code → x < 10 → y < 10 → z < 10
    → map ascii_of (letter ∷ (240 + x) ∷ (240 + y) ∷ (240 + z) ∷ 64 ∷ 64 ∷ 64 ∷ 64 ∷ [])
    ≡ code ∷ (48 + x) ∷ (48 + y) ∷ (48 + z) ∷ 32 ∷ 32 ∷ 32 ∷ 32 ∷ []
mapped x y z letter code e hx hy hz =
    let a = digit_code x hx in
    let b = digit_code y hy in
    let c = digit_code z hz in
    ap (λ (n : ℕ). n ∷ ascii_of (240 + x) ∷ ascii_of (240 + y) ∷ ascii_of (240 + z) ∷ 32 ∷ 32 ∷ 32 ∷ 32 ∷ []) e
    ∙ ap (λ (n : ℕ). code ∷ n ∷ ascii_of (240 + y) ∷ ascii_of (240 + z) ∷ 32 ∷ 32 ∷ 32 ∷ 32 ∷ []) a
    ∙ ap (λ (n : ℕ). code ∷ (48 + x) ∷ n ∷ ascii_of (240 + z) ∷ 32 ∷ 32 ∷ 32 ∷ 32 ∷ []) b
    ∙ ap (λ (n : ℕ). code ∷ (48 + x) ∷ (48 + y) ∷ n ∷ 32 ∷ 32 ∷ 32 ∷ 32 ∷ []) c

symbol_text : (letter code n : ℕ) → ascii_of letter ≡ code → (code ≡ 32 → ⊥) → n < 256 → printed_name (symbol_name letter n) ≡ code ∷ three_digits n
unfolding printed_name
symbol_text letter code n e mark h =
    ap (λ (xs : List ℕ). trimmed xs) (mapped (n / 100) (n / 10 % 10) (n % 10) letter code e (omega arith) (omega arith) (omega arith))
    ∙ four_characters code (48 + n / 100) (48 + n / 10 % 10) (48 + n % 10) mark (λ i. omega arith) (λ i. omega arith) (λ i. omega arith)

-- ---- segments

begun_by : (x : Statement) (names : List Name) (parent region : ℕ) → parent < 256 → region < 256 → (b : Bool) (first : Bool)
    → x ≡ (if b then OverlayRegion region first else OverlayBelow parent)
    → overlay_text (begun x names) ≡ text_of x
begun_by x names parent region p r true first e =
    ap (λ (y : Statement). overlay_text (begun y names)) e ∙ at_region first ∙ sym (ap text_of e)
  where
    at_region : (first : Bool) → overlay_text (begun (OverlayRegion region first) names) ≡ text_of (OverlayRegion region first)
    at_region true = ap (λ (xs : List ℕ). codes " OVERLAY " ++ xs ++ codes "(REGION)") (symbol_text 217 82 region refl (λ i. omega arith) r)
    at_region false = ap (λ (xs : List ℕ). codes " OVERLAY " ++ xs ++ codes "") (symbol_text 217 82 region refl (λ i. omega arith) r)
begun_by x names parent region p r false first e =
    ap (λ (y : Statement). overlay_text (begun y names)) e
    ∙ (ap (λ (xs : List ℕ). codes " OVERLAY " ++ xs ++ codes "") (symbol_text 215 80 parent refl (λ i. omega arith) p))
    ∙ sym (ap text_of e)

begun_names : (x : Statement) (names : List Name) (parent region : ℕ) (b first : Bool)
    → x ≡ (if b then OverlayRegion region first else OverlayBelow parent) → (begun x names).inserts ≡ names
begun_names x names parent region true first e = ap (λ (y : Statement). (begun y names).inserts) e
begun_names x names parent region false first e = ap (λ (y : Statement). (begun y names).inserts) e

insert_texts : (items : List SymbolItem) → map insert_text (map (λ (x : SymbolItem). x.name) items) ≡ map text_of (map (λ (x : SymbolItem). Insert x.name) items)
insert_texts [] = refl
insert_texts (x ∷ items) = ap (λ l. insert_text x.name ∷ l) (insert_texts items)

-- the same places give the same statement
same_any : (f g : ℕ → ℕ) (v a n : ℕ) → ((r : ℕ) → a ≤ r → r < a + n → f r ≡ g r)
    → list_any (λ r. f r == v) (range_with_len a n) ≡ list_any (λ r. g r == v) (range_with_len a n)
same_any f g v a zero h = refl
same_any f g v a (suc n) h =
    let first : f a ≡ g a = h a (omega arith) (omega arith) in
    let rest = same_any f g v (a + 1) n (λ r low high. h r (omega arith) (omega arith)) in
    ap (λ (k : ℕ). (k == v) || list_any (λ r. f r == v) (range_with_len (a + 1) n)) first ∙ ap (λ (b : Bool). (g a == v) || b) rest

same_statement : (parent region parent' region' : ℕ → ℕ) (s : ℕ) → 1 ≤ s
    → parent s ≡ parent' s → ((r : ℕ) → 1 ≤ r → r ≤ s → region r ≡ region' r)
    → overlay_statement parent region s ≡ overlay_statement parent' region' s
same_statement parent region parent' region' s low p h =
    let r : region s ≡ region' s = h s low (omega arith) in
    let any : list_any (λ r. region r == region' s) (earlier s) ≡ list_any (λ r. region' r == region' s) (earlier s)
    = same_any region region' (region' s) 1 (s - 1) (λ k a b. h k a (omega arith)) in
    ap (λ (n : ℕ). if n == 1 && nat_lt 1 (region s) then OverlayRegion (region s) (not (list_any (λ r. region r == region s) (earlier s))) else OverlayBelow n) p
    ∙ ap (λ (n : ℕ). if parent' s == 1 && nat_lt 1 n then OverlayRegion n (not (list_any (λ r. region r == n) (earlier s))) else OverlayBelow (parent' s)) r
    ∙ ap (λ (b : Bool). if parent' s == 1 && nat_lt 1 (region' s) then OverlayRegion (region' s) (not b) else OverlayBelow (parent' s)) any

-- the texts of segment s
texts_of_segment : (tree : List SegmentPlace) (m : Fetched) (s : ℕ) → IsTreeOf m tree → 1 ≤ s → s ≤ count m
    → segment_texts (segment_of tree m.facts.symbols s) ≡ map text_of (segment_statements m (first_storage m) s)
texts_of_segment tree m s is low high =
    let names : List Name = inserts_of m.facts.symbols s in
    let x : Statement = overlay_statement (parent_of tree) (region_of tree) s in
    let b : Bool = parent_of tree s == 1 && nat_lt 1 (region_of tree s) in
    let first : Bool = not (list_any (λ r. region_of tree r == region_of tree s) (earlier s)) in
    let head : overlay_text (begun x names) ≡ text_of x
    = begun_by x names (parent_of tree s) (region_of tree s) (is.parents_fit s) (is.regions_fit s) b first refl in
    let same : x ≡ overlay_statement (parent_in m (first_storage m)) (region_in m (first_storage m)) s
    = same_statement (parent_of tree) (region_of tree) (parent_in m (first_storage m)) (region_in m (first_storage m)) s low
    (is.parents_are s low high) (λ r a c. is.regions_are r a (omega arith)) in
    let inserted : (begun x names).inserts ≡ names = begun_names x names (parent_of tree s) (region_of tree s) b first refl in
    ap (λ (t : List ℕ). t ∷ map insert_text (begun x names).inserts) (head ∙ ap text_of same)
    ∙ ap (λ ns. text_of (overlay_statement (parent_in m (first_storage m)) (region_in m (first_storage m)) s) ∷ map insert_text ns) inserted
    ∙ ap (λ l. text_of (overlay_statement (parent_in m (first_storage m)) (region_in m (first_storage m)) s) ∷ l) (insert_texts (filter (is_inserted s) m.facts.symbols))

texts_of_range : (tree : List SegmentPlace) (m : Fetched) (a n : ℕ) → IsTreeOf m tree → 1 ≤ a → a + n ≤ count m + 1
    → flat_map segment_texts (map (segment_of tree m.facts.symbols) (range_with_len a n)) ≡ map text_of (flat_map (segment_statements m (first_storage m)) (range_with_len a n))
texts_of_range tree m a zero is low high = refl
texts_of_range tree m a (suc n) is low high =
    let first = texts_of_segment tree m a is low (omega arith) in
    let rest = texts_of_range tree m (a + 1) n is (omega arith) (omega arith) in
    ap (λ l. l ++ flat_map segment_texts (map (segment_of tree m.facts.symbols) (range_with_len (a + 1) n))) first
    ∙ ap (λ l. map text_of (segment_statements m (first_storage m) a) ++ l) rest
    ∙ sym (map-append text_of (segment_statements m (first_storage m) a) (flat_map (segment_statements m (first_storage m)) (range_with_len (a + 1) n)))

alias_texts : (names : List Name) → map alias_text names ≡ map text_of (map (λ y. Alias y) names)
alias_texts [] = refl
alias_texts (n ∷ names) = ap (λ l. alias_text n ∷ l) (alias_texts names)

-- all segments, none without overlay
segments_by : (b : Bool) (tree : List SegmentPlace) (m : Fetched) → IsTreeOf m tree → is_overlay_member m.entry ≡ b → (b ≡ false → count m ≤ 1)
    → flat_map segment_texts (map (segment_of tree m.facts.symbols) (later_segments (length tree)))
    ≡ map text_of (if b then flat_map (segment_statements m (first_storage m)) (later_segments (count m)) else [])
segments_by true tree m is e plain =
    ap (λ (n : ℕ). flat_map segment_texts (map (segment_of tree m.facts.symbols) (later_segments n))) is.all_are
    ∙ texts_by (count m) refl
  where
    texts_by : (n : ℕ) → n ≡ count m → flat_map segment_texts (map (segment_of tree m.facts.symbols) (later_segments n)) ≡ map text_of (flat_map (segment_statements m (first_storage m)) (later_segments n))
    texts_by zero same = refl
    texts_by (suc n) same = texts_of_range tree m 2 (suc n - 1) is (omega arith) (omega arith)
segments_by false tree m is e plain =
    let few : count m ≤ 1 = plain refl in
    let none : length tree - 1 ≡ 0 = omega (arith, is.all_are) in
    ap (λ (n : ℕ). flat_map segment_texts (map (segment_of tree m.facts.symbols) (range_with_len 2 n))) none

plain_count : (m : Fetched) → is_overlay_member m.entry ≡ false → count m ≤ 1
plain_count m e = rw e (omega arith)

pub texts_are_those_of_the_statements : TextsAreThoseOfTheStatements
unfolding relink relink_segments
texts_are_those_of_the_statements name aliases tree m is =
    let segments : flat_map segment_texts (relink_segments tree m.facts.symbols) ≡ map text_of (overlay_statements m)
    = segments_by (is_overlay_member m.entry) tree m is refl (plain_count m) in
    let both : map text_of (overlay_statements m ++ map (λ y. Alias y) aliases ++ Replace name ∷ [])
    ≡ map text_of (overlay_statements m) ++ map text_of (map (λ y. Alias y) aliases) ++ replace_text name ∷ []
    = map-append text_of (overlay_statements m ++ map (λ y. Alias y) aliases) (Replace name ∷ [])
    ∙ ap (λ l. l ++ replace_text name ∷ []) (map-append text_of (overlay_statements m) (map (λ y. Alias y) aliases)) in
    ap (λ l. include_text name ∷ l)
    (ap (λ l. l ++ map alias_text aliases ++ replace_text name ∷ []) segments
    ∙ ap (λ l. map text_of (overlay_statements m) ++ l ++ replace_text name ∷ []) (alias_texts aliases)
    ∙ sym both)
