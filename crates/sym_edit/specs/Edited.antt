-- What REPLACE and CHANGE make of a module (GC28-6538), and which edits do not apply (this project's profile).
use Rattle.std.specs.Prelude.{◌≡◌, ℕ, ◌+◌, Bool, false, not, ◌&&◌, ◌||◌, if◌then◌else◌, List, [], ◌∷◌, map, slice_get, Option, Some, None, Result, Ok, Err, ⊤}
use Rattle.std.specs.Option.{option_map_or}
use Rattle.std.specs.List.{list_any}
use Rattle.le_bytes.specs.declared.name.Name.{Name}
use Rattle.le_bytes.specs.Names.{name_eq}
use Rattle.sym_mod.specs.declared.module.Item.{Item}
use Rattle.sym_mod.specs.declared.module.SymConst.{SymConst}
use Rattle.sym_mod.specs.declared.module.SymTarget.{SymTarget}
use Rattle.sym_mod.specs.declared.module.SymTarget.TheVariants.{Named}
use Rattle.sym_mod.specs.declared.module.SymEntry.{SymEntry}
use Rattle.sym_mod.specs.declared.module.SymEntry.TheVariants.{Named as AtName}
use Rattle.sym_mod.specs.declared.module.SymModule.{SymModule}
use Rattle.sym_mod.specs.declared.edits.Edit.{Edit}
use Rattle.sym_mod.specs.declared.edits.Edit.TheVariants.{Remove, Replace, Change}
use Rattle.sym_mod.specs.Kinds.{is_sd, is_cm, is_label, is_register}
use Rattle.sym_mod.specs.Reserved.{is_reserved}
use Rattle.sym_mod.specs.Sound.{HasName}
use Rattle.sym_edit.specs.declared.fault.EditFault.{EditFault}
use Rattle.sym_edit.specs.declared.fault.EditFault.TheVariants.{NotThere, Clash, Memory}
use Rattle.sym_edit.specs.Without.{without}
use Rattle.sym_edit.specs.Renamed.{renamed}

-- ---- what has a name

-- a section of the name; private code has none
abbrev pub is_section_named : Name → Item → Bool
is_section_named name x = (is_sd x.kind || is_cm x.kind) && name_eq x.name name

-- a section or label of the name
abbrev pub is_defined_as : Name → Item → Bool
is_defined_as name x = (is_sd x.kind || is_cm x.kind || is_label x.kind) && name_eq x.name name

-- a section, label or reference of the name
abbrev pub is_symbol_named : Name → Item → Bool
is_symbol_named name x = not (is_register x.kind) && name_eq x.name name

-- a target by the name
abbrev pub is_target_named : Name → SymTarget → Bool
is_target_named name (Named y) = name_eq y name
is_target_named name _ = false

-- a constant that refers to the name
abbrev pub refers_by_name : Name → SymConst → Bool
refers_by_name name c = list_any (λ t. is_target_named name t.target) c.terms

-- an entry at the name
abbrev pub is_entry_named : Name → SymEntry → Bool
is_entry_named name (AtName y) = name_eq y name
is_entry_named name _ = false

-- the module has a section, label or reference of the name
abbrev pub is_known : Name → SymModule → Bool
is_known name m =
    list_any (is_symbol_named name) m.items || list_any (refers_by_name name) m.constants || is_entry_named name m.entry

-- ---- faults

-- one element passes the first test, and another the second
abbrev pub has_two : {A : Type 0} → (A → Bool) → (A → Bool) → List A → Bool
has_two p q [] = false
has_two p q (x ∷ xs) = (p x && list_any q xs) || (q x && list_any p xs) || has_two p q xs

-- a section or label has the old name, and another the new one
unfoldable pub clashes : Name → Name → List Item → Bool
clashes old new items = has_two (is_defined_as old) (is_defined_as new) items

-- what is missing comes before what clashes
abbrev pub first_fault : ℕ → Name → Name → Bool → Bool → Option EditFault
first_fault k old new there clash =
    if not there then Some (NotThere k old) else (if clash then Some (Clash k new) else None)

-- why the edit at place k does not apply, none where it does
unfoldable pub fault_of : ℕ → SymModule → Edit → Option EditFault
fault_of k m (Remove old) = first_fault k old old (list_any (is_defined_as old) m.items) false
fault_of k m (Replace old new) = first_fault k old new (list_any (is_defined_as old) m.items) (is_reserved new)
fault_of k m (Change old new) = first_fault k old new (is_known old m) (is_reserved new || clashes old new m.items)

-- ---- one edit

-- the section in which a label stands has the name
abbrev pub stands_in : Name → List Item → Item → Bool
stands_in name items x = is_label x.kind && option_map_or (is_section_named name) (slice_get items x.owner) false

-- for each item whether it goes: sections and labels of the name, and the labels of these sections
abbrev pub gone_with : Name → List Item → List Bool
gone_with name items = map (λ x. is_defined_as name x || stands_in name items x) items

-- without what has the name
abbrev pub removed : Name → SymModule → SymModule
removed old m = without (gone_with old m.items) m

-- references to what had the name become references to the new name; an entry at a section's name stays
unfoldable pub replaced : Name → Name → SymModule → SymModule
replaced old new m =
    if list_any (is_section_named old) m.items
    then record (renamed old new (removed old m)) { entry = (removed old m).entry }
    else renamed old new (removed old m)

-- the module after an edit that applies
unfoldable pub after_edit : SymModule → Edit → SymModule
after_edit m (Remove old) = removed old m
after_edit m (Replace old new) = replaced old new m
after_edit m (Change old new) = renamed old new m

-- ---- edits one after another

-- the fault, or else what comes then
abbrev pub unless_fault : Option EditFault → Result SymModule EditFault → Result SymModule EditFault
unless_fault (Some fault) then_ = Err fault
unless_fault None then_ = then_

-- edits from place k on, each of what the one before made
unfoldable pub edited_from : ℕ → SymModule → List Edit → Result SymModule EditFault
edited_from k m [] = Ok m
edited_from k m (e ∷ es) = unless_fault (fault_of k m e) (edited_from (k + 1) (after_edit m e) es)

-- the edited module, or the first edit that does not apply
abbrev pub edited : SymModule → List Edit → Result SymModule EditFault
edited m es = edited_from 0 m es

-- ---- answers

-- the names in the edit are not blank
abbrev pub HasNames : Edit → Type 0
HasNames (Remove old) = HasName old
HasNames (Replace old new) = HasName old × HasName new
HasNames (Change old new) = HasName old × HasName new

-- the value that is due, or out of memory
abbrev pub IsDue : Result SymModule EditFault → Result SymModule EditFault → Type 0
IsDue due (Err Memory) = ⊤
IsDue due answer = due ≡ answer

-- the module is edited, or as it was
abbrev pub EditAnswer : {A : Type 0} → SymModule → List Edit → Result A EditFault → SymModule → Type 0
EditAnswer old es (Ok _) new = edited old es ≡ Ok new
EditAnswer old es (Err Memory) new = new ≡ old
EditAnswer old es (Err fault) new = (edited old es ≡ Err fault) × (new ≡ old)
