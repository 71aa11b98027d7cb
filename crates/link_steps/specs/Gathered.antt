-- What each step does to what a load module gathers, or why it is refused. That REPLACE and CHANGE apply to the next
-- module, that a module stands in the current segment, and that ENTRY, ALIAS, INSERT and OVERLAY speak of the load module
-- in which they stand, follows GC28-6538; the order of refusals and the limits are this project's profile.
use Rattle.std.specs.Prelude.{ℕ, ◌+◌, Bool, true, nat_lt, if◌then◌else◌, List, [], ◌∷◌, ◌++◌, length, map, slice_get, Option, Some, None, option_map, Result, Ok, Err}
use Rattle.std.specs.Option.{option_or, option_map_or}
use Rattle.le_bytes.specs.declared.name.Name.{Name}
use Rattle.le_bytes.specs.Names.{blank_bytes}
use Rattle.le_bytes.specs.declared.card_what.CardWhat.TheVariants.{TooMany, EditNotThere, EditClash, RegionNameUsed}
use Rattle.le_bytes.specs.declared.refusal.Spot.{Spot}
use Rattle.le_bytes.specs.declared.refusal.Refusal.{Refusal}
use Rattle.le_bytes.specs.declared.refusal.Refusal.TheVariants.{Card, Symbol, Limit}
use Rattle.le_bytes.specs.declared.refusal.SymbolWhat.TheVariants.{DoubleDefinition}
use Rattle.le_bytes.specs.declared.refusal.Counted.TheVariants.{Symbols, Includes, Regions, Segments}
use Rattle.ctl_cards.specs.declared.statement.Statement.{Statement}
use Rattle.ctl_cards.specs.declared.statement.Statement.TheVariants as statement
use Rattle.sym_mod.specs.declared.module.SymModule.{SymModule}
use Rattle.sym_mod.specs.declared.edits.Edit.{Edit}
use Rattle.sym_mod.specs.declared.edits.Edit.TheVariants as edit
use Rattle.sym_edit.specs.declared.fault.EditFault.{EditFault}
use Rattle.sym_edit.specs.declared.fault.EditFault.TheVariants as edit_fault
use Rattle.sym_edit.specs.Edited.{edited}
use Rattle.linking_model.specs.Tree.{OverlayFault, overlaid, overlay_fault, RegionNameUsed as RegionUsed, TooManyRegions, TooManySegments}
use Rattle.esd_merge.specs.declared.fault.MergeFault.{MergeFault}
use Rattle.esd_merge.specs.declared.fault.MergeFault.TheVariants as merge
use Rattle.esd_merge.specs.Added.{with_module, merge_fault}
use Rattle.autocall.specs.Rules.{with_items}
use Rattle.link_steps.specs.Unfolded.{Step, Enters, Brings, Says, Unfolded}
use Rattle.link_steps.specs.declared.gathering.Gathering.{Gathering}
use Rattle.link_steps.specs.declared.waiting.Waiting.{Waiting}

-- what is gathered, or the refusal
abbrev pub After : Type 0
After = Result Gathering Refusal

-- the refusal, or what follows from what is gathered
abbrev pub and_then : (Gathering → After) → After → After
and_then go_on (Err r) = Err r
and_then go_on (Ok s) = go_on s

-- a refusal, or else this
abbrev pub unless_refused : Option Refusal → After → After
unless_refused (Some r) after = Err r
unless_refused None after = after

-- ---- modules

-- the segment that is current: the newest
abbrev pub current : Gathering → ℕ
current s = length s.tree.tree

-- a module that does not merge; out of memory is nothing that modules say
abbrev pub merge_refusal : Option MergeFault → Option Refusal
merge_refusal (Some (merge.DoubleDefinition name)) = Some (Symbol name DoubleDefinition)
merge_refusal (Some (merge.TooManySymbols n)) = Some (Limit Symbols n)
merge_refusal _ = None

-- with a module more
abbrev pub with_read : Gathering → SymModule → ℕ → Gathering
with_read s m segment = record s { merged = with_module s.merged m segment }

-- a module is merged in a segment
unfoldable pub merged_in : Gathering → SymModule → ℕ → After
merged_in s m segment =
    unless_refused (merge_refusal (merge_fault (with_module s.merged m segment))) (Ok (with_read s m segment))

-- no card
abbrev pub nowhere : Spot
nowhere = record { set = record { 0 = blank_bytes }; member = None; number = 0 }

-- where edit k was asked for
abbrev pub edit_spot : List Waiting → ℕ → Spot
edit_spot edits k = option_map_or (λ (w : Waiting). w.at) (slice_get edits k) nowhere

-- an edit that does not apply, at its own card; out of memory is nothing that edits say
abbrev pub edit_refusal : List Waiting → EditFault → Refusal
edit_refusal edits (edit_fault.NotThere k name) = Card (edit_spot edits k) (EditNotThere name)
edit_refusal edits (edit_fault.Clash k name) = Card (edit_spot edits k) (EditClash name)
edit_refusal edits edit_fault.Memory = Limit Includes 0

-- the edited module is merged in the current segment, and no edit waits
abbrev pub edited_in : Gathering → Result SymModule EditFault → After
edited_in s (Err why) = Err (edit_refusal s.edits why)
edited_in s (Ok m) = merged_in (record s { edits = [] }) m (current s)

-- a module comes
unfoldable pub brought : Gathering → SymModule → After
brought s m = edited_in s (edited m (map (λ (w : Waiting). w.edit) s.edits))

-- ---- statements

-- the edit of an item of REPLACE
abbrev pub replacing : Name × Option Name → Edit
replacing (old, None) = edit.Remove old
replacing (old, Some new) = edit.Replace old new

-- it waits
abbrev pub replace_edit : Spot → Name × Option Name → Waiting
replace_edit at r = record { edit = replacing r; at = at }

-- the edit of an item of CHANGE waits
abbrev pub change_edit : Spot → Name × Name → Waiting
change_edit at r = record { edit = edit.Change r.0 r.1; at = at }

-- a load module has at most 16 names of ALIAS statements
abbrev pub most_aliases : ℕ
most_aliases = 16

-- more aliases
abbrev pub with_aliases : Gathering → Spot → List Name → After
with_aliases s at names =
    if nat_lt most_aliases (length s.aliases + length names) then Err (Card at TooMany)
    else Ok (record s { aliases = s.aliases ++ names })

-- why no segment begins
abbrev pub overlay_refusal : Spot → OverlayFault → Refusal
overlay_refusal at (RegionUsed name) = Card at (RegionNameUsed name)
overlay_refusal at (TooManyRegions n) = Limit Regions n
overlay_refusal at (TooManySegments n) = Limit Segments n

-- a segment begins
abbrev pub with_segment : Gathering → Spot → Name → Bool → After
with_segment s at name region =
    unless_refused (option_map (overlay_refusal at) (overlay_fault s.tree name region))
    (Ok (record s { tree = overlaid s.tree name region }))

-- a statement; INCLUDE is unfolded, and NAME ends the load module
unfoldable pub said : Gathering → Spot → Statement → After
said s at (statement.Include items) = Ok s
said s at (statement.Library items) = Ok (record s { rules = with_items s.rules items })
said s at (statement.Replace items) = Ok (record s { edits = s.edits ++ map (replace_edit at) items })
said s at (statement.Change items) = Ok (record s { edits = s.edits ++ map (change_edit at) items })
said s at (statement.Entry name) = Ok (record s { entry = option_or s.entry (Some name) })
said s at (statement.Alias names) = with_aliases s at names
said s at (statement.NameOf name replace) = Ok s
said s at (statement.Insert names) = Ok (record s { inserts = s.inserts ++ map (λ n. (n, current s)) names })
said s at (statement.Overlay name region) = with_segment s at name region

-- ---- steps

-- a load module includes at most 4,096 sets and members
abbrev pub most_includes : ℕ
most_includes = 4096

-- one more is included
abbrev pub included_one : Gathering → After
included_one s =
    if nat_lt s.includes most_includes then Ok (record s { includes = s.includes + 1 })
    else Err (Limit Includes (most_includes + 1))

-- after one step
abbrev pub after_kind : Gathering → Step → After
after_kind s Enters = included_one s
after_kind s (Brings m) = brought s m
after_kind s (Says at statement) = said s at statement

unfoldable pub after_step : Gathering → Step → After
after_step s x = after_kind (record s { came = true }) x

-- after steps one after another, up to the first that is refused
unfoldable pub after_steps : Gathering → List Step → After
after_steps s [] = Ok s
after_steps s (x ∷ xs) = and_then (λ t. after_steps t xs) (after_step s x)

-- after all of what was unfolded, and what is refused after it
unfoldable pub after_all : Gathering → Unfolded → After
after_all s u = and_then (λ t. unless_refused u.refusal (Ok t)) (after_steps s u.steps)
