-- Calls between segments: which go by an entry, in which table the entry stands, and which are refused.
-- That a call into another segment goes by an entry of a table, and that a call between segments that share storage
-- is exclusive, follows GC28-6538; where the entry stands and the order of entries are this project's profile.
use Rattle.std.specs.Prelude.{ℕ, ◌+◌, Bool, true, false, not, ◌&&◌, ◌||◌, ◌==◌, nat_lt, if◌then◌else◌, List, [], ◌∷◌, ◌++◌, length, map, filter, filter_map, find, reverse, slice_get, Option, Some, None, is_some}
use Rattle.std.specs.List.{list_any, enumerate_from}
use Rattle.std.specs.Option.{option_map_or}
use Rattle.le_bytes.specs.declared.name.Name.{Name}
use Rattle.sym_mod.specs.declared.module.Kind.{Kind}
use Rattle.sym_mod.specs.declared.module.Kind.TheVariants.{Branch}
use Rattle.sym_mod.specs.declared.program.Program.{Program}
use Rattle.sym_mod.specs.declared.program.Section.{Section}
use Rattle.sym_mod.specs.declared.program.Label.{Label}
use Rattle.sym_mod.specs.declared.program.Constant.{Constant}
use Rattle.sym_mod.specs.declared.program.Term.{Term}
use Rattle.sym_mod.specs.declared.program.Target.{Target}
use Rattle.sym_mod.specs.declared.program.Target.TheVariants.{Section as InSection, Label as AtLabel, Unresolved, Register as OfRegister, Total}
use Rattle.sym_mod.specs.Kinds.{is_private}
use Rattle.linking_model.specs.Names.{name_below, in_order}
use Rattle.linking_model.specs.Tree.{Tree, path, segments, is_on_path, is_below, is_away}
use Rattle.linking_model.specs.Places.{Laid, segment_of_section}

-- the kind is V-type
abbrev pub is_branch : Kind → Bool
is_branch Branch = true
is_branch _ = false

-- two targets are the same
abbrev pub target_eq : Target → Target → Bool
target_eq (InSection i) (InSection j) = i == j
target_eq (AtLabel i) (AtLabel j) = i == j
target_eq (Unresolved i) (Unresolved j) = i == j
target_eq (OfRegister i) (OfRegister j) = i == j
target_eq Total Total = true
target_eq _ _ = false

-- the section of label i
abbrev pub section_of_label : Program → ℕ → ℕ
section_of_label p i = option_map_or (λ x. x.section) (slice_get p.labels i) 0

-- the segment in which a section or a label stands
abbrev pub segment_of : Program → Target → ℕ
segment_of p (InSection i) = segment_of_section p i
segment_of p (AtLabel i) = segment_of_section p (section_of_label p i)
segment_of p _ = 0

-- ---- holders, for a section or a label y

-- a branch constant for y stands in segment b
abbrev pub is_called_from : Program → Target → ℕ → Bool
is_called_from p y b =
    list_any
    (λ c. is_branch c.kind && segment_of_section p c.section == b && list_any (λ t. target_eq t.target y) c.terms)
    p.constants

-- a branch constant for y stands in segment b, and y is below b or away from it
abbrev pub needs_entry : Program → Tree → Target → ℕ → Bool
needs_entry p tree y b =
    let t = segment_of p y in is_called_from p y b && (is_below tree t b || is_away tree t b)

-- the segment whose table has the entry of y for a branch constant in segment a: the nearest to the root
unfoldable pub holder : Program → Tree → ℕ → Target → Option ℕ
holder p tree a y = find (needs_entry p tree y) (reverse (path tree a))

-- the constant has the address of y: y stands in segment a or above it
abbrev pub is_direct : Program → Tree → ℕ → Target → Bool
is_direct p tree a y = is_on_path tree (segment_of p y) a

-- to load y would drop segment a
abbrev pub is_exclusive : Program → Tree → ℕ → Target → Bool
is_exclusive p tree a y =
    let t = segment_of p y in not (is_on_path tree t a) && not (is_below tree t a) && not (is_away tree t a)

-- ---- references that are refused

-- a branch constant for a section or a label, and the segment in which it stands
pub record Reference : Type 0 where
  pub segment : ℕ
  pub section : ℕ
  pub offset : ℕ
  pub target : Target

-- the target is a section or a label
abbrev pub is_defined : Target → Bool
is_defined (InSection i) = true
is_defined (AtLabel i) = true
is_defined _ = false

-- what the first of the terms refers to, which is the only one of a branch constant
abbrev pub only_target : List Term → Target
only_target [] = Total
only_target (t ∷ _) = t.target

-- a constant as such a reference, where it is one
abbrev pub reference : Program → Constant → Option Reference
reference p c =
    if is_branch c.kind && is_defined (only_target c.terms)
    then Some (record { segment = segment_of_section p c.section; section = c.section; offset = c.offset; target = only_target c.terms })
    else None

-- by segment, section and offset
abbrev pub comes_before : Reference → Reference → Bool
comes_before x y =
    nat_lt x.segment y.segment
    || x.segment == y.segment && (nat_lt x.section y.section || x.section == y.section && nat_lt x.offset y.offset)

-- an exclusive reference is accepted only with XCAL and where it has a holder
abbrev pub is_refused : Program → Tree → Bool → Reference → Bool
is_refused p tree xcal x =
    is_exclusive p tree x.segment x.target && not (xcal && is_some (holder p tree x.segment x.target))

-- the first reference that is refused, by segment, section and offset
unfoldable pub refused_reference : Program → Tree → Bool → Option Reference
refused_reference p tree xcal =
    find (is_refused p tree xcal) (in_order comes_before (filter_map (reference p) p.constants))

-- ---- the entries of a table

-- a section or a label with its name
pub record NamedTarget : Type 0 where
  pub name : Name
  pub target : Target

-- a section that has a name
abbrev pub named_section : ℕ × Section → Option NamedTarget
named_section (i, x) = if is_private x.kind then None else Some (record { name = x.name; target = InSection i })

-- a section that has none
abbrev pub private_section : ℕ × Section → Option Target
private_section (i, x) = if is_private x.kind then Some (InSection i) else None

-- a label
abbrev pub named_label : ℕ × Label → NamedTarget
named_label (i, x) = record { name = x.name; target = AtLabel i }

-- the sections and labels that have names
abbrev pub named_targets : Program → List NamedTarget
named_targets p =
    filter_map named_section (enumerate_from 0 p.sections) ++ map named_label (enumerate_from 0 p.labels)

-- what may have an entry: sections and labels ascending by name, then the private sections
abbrev pub targets_in_order : Program → List Target
targets_in_order p =
    map (λ x. x.target) (in_order (λ x y. name_below x.name y.name) (named_targets p))
    ++ filter_map private_section (enumerate_from 0 p.sections)

-- b is the holder of its own branch constants for y, and so of all for which b is a holder
abbrev pub has_entry : Program → Tree → ℕ → Target → Bool
has_entry p tree b y = option_map_or (λ h. h == b) (holder p tree b y) false

-- the targets that have an entry in the table of segment b, in order
unfoldable pub entries : Program → Tree → ℕ → List Target
entries p tree b = filter (has_entry p tree b) (targets_in_order p)

-- the program with the entries of each segment's table
abbrev pub laid_out : Program → Tree → Laid
laid_out p tree = record { program = p; tree = tree; entries = map (entries p tree) (segments tree) }

-- a table has at most 340 entries, so that each can reach its end
pub record Crowd : Type 0 where
  pub segment : ℕ
  pub entries : ℕ

-- the first of these tables that has more, where the first of them is that of segment s
abbrev pub crowd_in : List (List Target) → ℕ → Option Crowd
crowd_in [] s = None
crowd_in (table ∷ tables) s =
    if nat_lt 340 (length table) then Some (record { segment = s; entries = length table }) else crowd_in tables (s + 1)

-- the first table that would have more
abbrev pub crowded : Laid → Option Crowd
crowded P = crowd_in P.entries 1
