-- Where a program is entered: at a section of the root, or at its end.
use Rattle.std.proofs.Common.{arith, ◌≡◌, ℕ, ◌+◌, ◌-◌, ◌<◌, ◌≤◌, ◌==◌, Bool, true, false, [], length, refl, sym, ◌∙◌, ap, subst, Option, Some, None, if◌then◌else◌, unwrap_or, get_or}
use Rattle.std.specs.Prelude.{filter_map, find, position, slice_get, option_map, option_and_then, IsSomeAnd, IsTrue}
use Rattle.std.specs.Option.{option_map_or, option_or}
use Rattle.std.specs.List.{position_or_len}
use Rattle.std.proofs.Math.Nat.{zero-max}
use Rattle.std.proofs.lemmas.Option.{none-some, slice_get-get_or, slice_get_within}
use Rattle.std.proofs.lemmas.List.Quantifiers.{position-Some}
use Rattle.le_bytes.specs.declared.name.Name.{Name}
use Rattle.le_bytes.specs.Names.{name_eq}
use Rattle.sym_mod.specs.declared.program.Program.{Program}
use Rattle.sym_mod.specs.declared.program.Section.{Section}
use Rattle.sym_mod.specs.declared.program.SecKind.TheVariants.{Pc as PcSection}
use Rattle.sym_mod.specs.declared.program.Label.{Label}
use Rattle.sym_mod.specs.declared.program.StartAt.{StartAt}
use Rattle.sym_mod.specs.declared.program.StartAt.TheVariants.{At as StartsAt, Named as StartsAtName}
use Rattle.sym_mod.specs.Sound.{IsSoundProgram, IsSoundLabel, IsSoundStart}
use Rattle.linking_model.specs.Tree.{segments}
use Rattle.linking_model.specs.Settled.{has_root_section, is_section_named}
use Rattle.linking_model.specs.Places.{place, end_of, module_length, segment_of_section, length_of_section}
use Rattle.linking_model.specs.Points.{Point, in_root, label_point, point_of, start_point, first_of_root, default_point}
use Rattle.linking_model.proofs.Extents.{sections_lie_in_segments}
use Rattle.block_storage.specs.Storage.{alone}
use Rattle.std.proofs.lemmas.List.FromFn.{get_or-map-range_with_len, length-map-range_with_len}
use Rattle.sym_mod.specs.declared.program.Places.{Places}
use Rattle.addr_assign.specs.Laid.{places_of}
use Rattle.addr_assign.specs.Seen.{seen}
use Rattle.addr_assign.specs.declared.pointing.Point.{Point as FoundPoint}
use Rattle.mod_write.specs.declared.naming.PointAt.{PointAt}
use Rattle.mod_write.specs.Naming.{IsPoint, seen as seen_point}
use Rattle.link_core.specs.Programs.{entry_address}
use Rattle.link_core.specs.Links.{IsRooted, IsPlaced}
use Rattle.link_core.proofs.Lists.{found, made, first_of, any_found, not_none}

-- a byte of a section of the root, or its end
abbrev pub IsEntry : Program → Point → Type 0
IsEntry p x = (segment_of_section p x.section ≡ 1) × (x.offset ≤ length_of_section p x.section)

stands : (o : Option Section) (offset : ℕ) → IsSomeAnd o (λ x. offset ≤ x.length) → offset ≤ option_map_or (λ x. x.length) o 0
stands (Some x) offset h = h
stands None offset h = absurd h

rooted : (p : Program) (x y : Point) → x.offset ≤ length_of_section p x.section → in_root p x ≡ Some y → IsEntry p y
rooted p x y within is = cases (segment_of_section p x.section == 1) refl is
  where
    cases : (b : Bool) → (segment_of_section p x.section == 1) ≡ b → (if b then Some x else None) ≡ Some y → IsEntry p y
    cases true root there = subst (IsEntry p) (ap (λ o. unwrap_or o x) there) (grind (arith, root), within)
    cases false away there = absurd (none-some y there)

-- a place that a name means
named : (p : Program) → IsSoundProgram p → (name : Name) (y : Point) → point_of p name ≡ Some y → IsEntry p y
named p sound name y is = sections (position (is_section_named name) p.sections) is
  where
    labels : (o : Option Label) → find (λ x. name_eq x.name name) p.labels ≡ o
        → option_and_then (in_root p) (option_map (λ x. record { section = x.section; offset = x.offset }) o) ≡ Some y → IsEntry p y
    labels None none there = absurd (none-some y there)
    labels (Some l) at there =
        rooted p (record { section = l.section; offset = l.offset }) y
        (stands _ l.offset (found (IsSoundLabel p) (λ x. name_eq x.name name) p.labels l sound.labels at).inside) there

    sections : (o : Option ℕ) → option_and_then (in_root p) (option_or (option_map (λ i. record { section = i; offset = 0 }) o) (label_point p name)) ≡ Some y → IsEntry p y
    sections None there = labels (find (λ x. name_eq x.name name) p.labels) refl there
    sections (Some i) there = rooted p (record { section = i; offset = 0 }) y (omega arith) there

started : (p : Program) → IsSoundProgram p → (s : StartAt) (y : Point) → IsSoundStart p s → start_point p s ≡ Some y → IsEntry p y
started p sound (StartsAt i offset) y inside is = rooted p (record { section = i; offset = offset }) y (stands _ offset inside) is
started p sound (StartsAtName name) y has is = named p sound name y is

-- a section, whichever
nothing : Section
nothing = record { name = record { 0 = [] }; kind = PcSection; rank = 0; segment = 0; users = []; length = 0 }

-- a section of the root is there
has_first : (p : Program) → IsTrue (has_root_section p) → IsEntry p (first_of_root p)
has_first p root = cases (position test p.sections) refl
  where
    test : Section → Bool
    test = λ x. x.segment == 1

    cases : (o : Option ℕ) → position test p.sections ≡ o → IsEntry p (record { section = unwrap_or o 0; offset = 0 })
    cases (Some i) is =
        let there : i < length p.sections = (position-Some test p.sections i nothing is).0 in
        let one : test (get_or p.sections i nothing) ≡ true = (position-Some test p.sections i nothing is).1 in
        let at : segment_of_section p i ≡ (get_or p.sections i nothing).segment =
        ap (λ o. option_map_or (λ x. x.segment) o 0) (slice_get-get_or p.sections i nothing there) in
        (at ∙ grind (arith, one), omega arith)
    cases None is = absurd (not_none (position_or_len test p.sections) (length p.sections) (any_found test p.sections root) is)

-- where a program without ENTRY is entered
pub entered : (p : Program) → IsSoundProgram p → IsTrue (has_root_section p) → IsEntry p (default_point p)
entered p sound root = cases (slice_get (filter_map (start_point p) p.starts) 0) refl
  where
    cases : (o : Option Point) → slice_get (filter_map (start_point p) p.starts) 0 ≡ o → IsEntry p (unwrap_or o (first_of_root p))
    cases None none = has_first p root
    cases (Some x) is =
        first_of (IsEntry p) (filter_map (start_point p) p.starts) x
        (made (IsSoundStart p) (IsEntry p) (start_point p) (λ s y inside gives. started p sound s y inside gives) p.starts sound.starts) is

-- such a place has a number of a section
pub in_sections : (p : Program) (x : Point) → IsEntry p x → x.section < length p.sections
in_sections p x entry = cases (slice_get p.sections x.section) refl entry.0
  where
    cases : (o : Option Section) → slice_get p.sections x.section ≡ o → option_map_or (λ s. s.segment) o 0 ≡ 1 → x.section < length p.sections
    cases (Some s) there root = slice_get_within p.sections x.section s there
    cases None there root = cc

-- the module ends with its one segment
one_end : (p : Program) → module_length (alone p) ≡ end_of (alone p) 1
unfolding segments
one_end p = zero-max (end_of (alone p) 1)

-- and lies in the module, or at its end
pub in_module : (p : Program) (x : Point) → IsEntry p x → place (alone p) x.section + x.offset ≤ module_length (alone p)
in_module p x entry = cases (slice_get p.sections x.section) refl entry.0 entry.1
  where
    cases : (o : Option Section) → slice_get p.sections x.section ≡ o → option_map_or (λ s. s.segment) o 0 ≡ 1
        → x.offset ≤ option_map_or (λ s. s.length) o 0 → place (alone p) x.section + x.offset ≤ module_length (alone p)
    cases None there root inside = cc
    cases (Some s) there root inside =
        let ends : place (alone p) x.section + s.length ≤ end_of (alone p) s.segment = (sections_lie_in_segments (alone p) x.section s there).ends in
        let last : end_of (alone p) s.segment ≡ module_length (alone p) = ap (λ n. end_of (alone p) n) root ∙ sym (one_end p) in
        subst (λ n. place (alone p) x.section + x.offset ≤ n) last (omega (arith, ends, inside))

-- ---- the point as it was found

place_at : (p : Program) (i : ℕ) → i < length p.sections → get_or (places_of (alone p)).sections i 0 ≡ place (alone p) i
unfolding places_of
place_at p i within = get_or-map-range_with_len (place (alone p)) 0 (length p.sections) i i 0 within (omega arith)

module _ (p : Program) (places : Places) (x : FoundPoint) (rooted_p : IsRooted p) (placed : IsPlaced p places) (is : seen x ≡ default_point p) where
  pub entry : IsEntry p (seen x)
  entry = subst (IsEntry p) (sym is) (entered p rooted_p.sound rooted_p.root)

  pub entry_there : x.section < length places.sections
  unfolding places_of
  entry_there = rw (placed.are, length-map-range_with_len (place (alone p)) 0 (length p.sections)) (in_sections p (seen x) entry)

  pub at : get_or places.sections x.section 0 ≡ place (alone p) x.section
  at = ap (λ a. get_or a.sections x.section 0) placed.are ∙ place_at p x.section (in_sections p (seen x) entry)

  pub entry_is : get_or places.sections x.section 0 + x.offset ≡ entry_address p 0
  entry_is = rw (at, ← is) (omega arith)

  -- the point by its address in the module
  abbrev pub found_at : PointAt
  found_at = record { section = x.section; address = get_or places.sections x.section 0 + x.offset }

  pub seen_at : seen_point (alone p) found_at ≡ default_point p
  seen_at = rw (at) (same ∙ is)
    where
      same : record { section = x.section; offset = place (alone p) x.section + x.offset - place (alone p) x.section } ≡ seen x
      same = ap (λ n. record { section = x.section; offset = n }) (omega arith)

  pub is_point : IsPoint (alone p) found_at
  is_point = record {
    resident = entry.0;
    first = rw (at) (omega arith);
    last = rw (at) (omega (arith, entry.1));
  }

  pub entry_inside : get_or places.sections x.section 0 + x.offset ≤ module_length (alone p)
  entry_inside = rw (at) (in_module p (seen x) entry)
