-- The statements that link a member again. The statements are those of GC28-6538, and which of them a member needs is
-- this project's profile.
use Rattle.std.specs.Prelude.{ℕ, Bool, not, ◌&&◌, ◌==◌, nat_lt, if◌then◌else◌, List, [], ◌∷◌, ◌++◌, map, filter, flat_map}
use Rattle.std.specs.List.{list_any}
use Rattle.le_bytes.specs.Names.{is_writable}
use Rattle.le_bytes.specs.declared.name.Name.{Name}
use Rattle.load_recs.specs.declared.items.SymbolItem.{SymbolItem}
use Rattle.linking_model.specs.Run.{Storage}
use Rattle.member_model.specs.Symbols.{is_overlay_member, is_named_kind, is_table}
use Rattle.member_model.specs.Fetched.{Fetched, first_storage}
use Rattle.member_model.specs.Segments.{count, parent_in, region_in}
use Rattle.member_model.specs.Starting.{later_segments, earlier}

-- INCLUDE of the member, OVERLAY at a symbol that is named by a parent's number, OVERLAY at one that is named by a
-- region's number, with or without REGION, INSERT of a section, ALIAS, and NAME that replaces
pub data Statement : Type 0 where
  Include : Name → Statement
  OverlayBelow : ℕ → Statement
  OverlayRegion : ℕ → Bool → Statement
  Insert : Name → Statement
  Alias : Name → Statement
  Replace : Name → Statement

-- ---- the statements

-- a named section of segment s that is no table
abbrev pub is_inserted : ℕ → SymbolItem → Bool
is_inserted s x = is_named_kind x.kind && x.segment == s && not (is_table x) && is_writable x.name

-- segment s begins: below the root, in a region above the first, the first of that region begins it
abbrev pub overlay_statement : (ℕ → ℕ) → (ℕ → ℕ) → ℕ → Statement
overlay_statement parent region s =
    if parent s == 1 && nat_lt 1 (region s)
    then OverlayRegion (region s) (not (list_any (λ r. region r == region s) (earlier s)))
    else OverlayBelow (parent s)

-- the statements of segment s: OVERLAY, and INSERT of each of its sections
abbrev pub segment_statements : Fetched → Storage → ℕ → List Statement
segment_statements m M s =
    overlay_statement (parent_in m M) (region_in m M) s
    ∷ map (λ x. Insert x.name) (filter (is_inserted s) m.facts.symbols)

-- the statements of all segments but the root, none without overlay
abbrev pub overlay_statements : Fetched → List Statement
overlay_statements m =
    if is_overlay_member m.entry then flat_map (segment_statements m (first_storage m)) (later_segments (count m)) else []

-- the statements for a member of this name, with these aliases, ascending
unfoldable pub relink : Name → List Name → Fetched → List Statement
relink name aliases m =
    Include name ∷ overlay_statements m ++ map (λ y. Alias y) aliases ++ Replace name ∷ []
