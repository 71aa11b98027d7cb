-- The text of a statement that links a member again, and what it means that a list prints these texts. The statements
-- are those of GC28-6538.
use Rattle.std.specs.Prelude.{◌≡◌, ℕ, ◌+◌, ◌/◌, ◌%◌, ◌≤◌, ◌<◌, if◌then◌else◌, List, [], ◌∷◌, ◌++◌, length, map, codes}
use Rattle.le_bytes.specs.declared.name.Name.{Name}
use Rattle.member_model.specs.Fetched.{Fetched, first_storage}
use Rattle.member_model.specs.Segments.{count, parent_in, region_in}
use Rattle.member_model.specs.Relink.{Statement, Include, OverlayBelow, OverlayRegion, Insert, Alias, Replace, relink}
use Rattle.list_text.specs.Statements.{include_text, insert_text, alias_text, replace_text, relink_texts}
use Rattle.relink_list.specs.declared.tree.SegmentPlace.{SegmentPlace}
use Rattle.relink_list.specs.Segments.{parent_of, region_of, relink_of}

-- a number below 1,000 in three decimal digits
abbrev pub three_digits : ℕ → List ℕ
three_digits n = (48 + n / 100) ∷ (48 + n / 10 % 10) ∷ (48 + n % 10) ∷ []

abbrev pub text_of : Statement → List ℕ
text_of (Include name) = include_text name
text_of (OverlayBelow parent) = codes " OVERLAY P" ++ three_digits parent
text_of (OverlayRegion region first) =
    codes " OVERLAY R" ++ three_digits region ++ (if first then codes "(REGION)" else [])
text_of (Insert section) = insert_text section
text_of (Alias name) = alias_text name
text_of (Replace name) = replace_text name

-- the places are those of the segments of an overlay member, by its segment table
pub record IsTreeOf (m : Fetched) (tree : List SegmentPlace) : Type 0 where
  pub all_are : length tree ≡ count m
  pub parents_are : (s : ℕ) → 1 ≤ s → s ≤ count m → parent_of tree s ≡ parent_in m (first_storage m) s
  pub regions_are : (s : ℕ) → 1 ≤ s → s ≤ count m → region_of tree s ≡ region_in m (first_storage m) s
  pub parents_fit : (s : ℕ) → parent_of tree s < 256
  pub regions_fit : (s : ℕ) → region_of tree s < 256

abbrev pub TextsAreThoseOfTheStatements : Type 0
TextsAreThoseOfTheStatements =
    (name : Name) (aliases : List Name) (tree : List SegmentPlace) (m : Fetched) → IsTreeOf m tree
    → relink_texts (relink_of name aliases tree m.facts.symbols) ≡ map text_of (relink name aliases m)
