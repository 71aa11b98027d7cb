-- The edit of a sound module is sound.
use Rattle.std.proofs.Common.{◌≡◌, ℕ, ◌+◌, Bool, true, false, ◌||◌, cond, List, [], ◌∷◌, Option, Some, None, Result, Ok, refl, sym, subst}
use Rattle.std.specs.Prelude.{All}
use Rattle.std.specs.List.{list_any, AllByRecursion}
use Rattle.std.proofs.lemmas.List.Elements.{recursion_from_All}
use Rattle.le_bytes.specs.declared.name.Name.{Name}
use Rattle.sym_mod.specs.declared.edits.Edit.{Edit}
use Rattle.sym_mod.specs.declared.edits.Edit.TheVariants.{Remove, Replace, Change}
use Rattle.sym_mod.specs.declared.module.SymModule.{SymModule}
use Rattle.sym_mod.specs.Reserved.{is_reserved}
use Rattle.sym_mod.specs.Sound.{HasName, IsSoundModule}
use Rattle.sym_edit.specs.declared.fault.EditFault.{EditFault}
use Rattle.sym_edit.specs.Renamed.{renamed}
use Rattle.sym_edit.specs.Edited.{is_section_named, is_defined_as, is_known, clashes, first_fault, fault_of, gone_with, removed, replaced, after_edit, unless_fault, edited_from, edited, HasNames}
use Rattle.sym_edit.proofs.SoundLeft.{left_sound}
use Rattle.sym_edit.proofs.SoundGone.{sound_but}
use Rattle.sym_edit.proofs.SoundRenamed.{MayRename, renamed_sound, renamed_entry_sound}

removed_sound : (old : Name) (m : SymModule) → IsSoundModule m → HasName old → IsSoundModule (removed old m)
removed_sound old m s has = left_sound (gone_with old m.items) m (sound_but old m s has)

replaced_case : (old new : Name) (m : SymModule) (b : Bool) → MayRename old new → IsSoundModule m → IsSoundModule (cond b (record (renamed old new m) { entry = m.entry }) (renamed old new m))
replaced_case old new m true may s = renamed_entry_sound old new m may s
replaced_case old new m false may s = renamed_sound old new m may s

replaced_sound : (old new : Name) (m : SymModule) → MayRename old new → IsSoundModule m → IsSoundModule (replaced old new m)
unfolding replaced
replaced_sound old new m may s = replaced_case old new (removed old m) (list_any (is_section_named old) m.items) may (removed_sound old m s may.old_named)

-- an edit without a fault does not clash
no_clash : (k : ℕ) (old new : Name) (there clash : Bool) → first_fault k old new there clash ≡ None → clash ≡ false
no_clash k old new false clash is = absurd (cc is)
no_clash k old new true true is = absurd (cc is)
no_clash k old new true false is = refl

first_false : (b c : Bool) → (b || c) ≡ false → b ≡ false
first_false true c is = absurd (cc is)
first_false false c is = refl

after_sound : (k : ℕ) (m : SymModule) (e : Edit) → fault_of k m e ≡ None → HasNames e → IsSoundModule m → IsSoundModule (after_edit m e)
unfolding fault_of after_edit
after_sound k m (Remove old) none names s = removed_sound old m s names
after_sound k m (Replace old new) none names s =
    replaced_sound old new m (record { old_named = names.0; new_named = names.1; free = no_clash k old new (list_any (is_defined_as old) m.items) (is_reserved new) none }) s
after_sound k m (Change old new) none names s =
    let free = first_false (is_reserved new) (clashes old new m.items) (no_clash k old new (is_known old m) (is_reserved new || clashes old new m.items) none) in
    renamed_sound old new m (record { old_named = names.0; new_named = names.1; free = free }) s

ok_case : (o : Option EditFault) (r : Result SymModule EditFault) (n : SymModule) → unless_fault o r ≡ Ok n → (o ≡ None) × (r ≡ Ok n)
ok_case (Some fault) r n is = absurd (cc is)
ok_case None r n is = (refl, is)

from_sound : (es : List Edit) (k : ℕ) (m n : SymModule) → AllByRecursion HasNames es → IsSoundModule m → edited_from k m es ≡ Ok n → IsSoundModule n
unfolding edited_from
from_sound [] k m n names s is =
    let same : m ≡ n = cc is in
    subst IsSoundModule same s
from_sound (e ∷ es) k m n names s is =
    let went = ok_case (fault_of k m e) (edited_from (k + 1) (after_edit m e) es) n is in
    from_sound es (k + 1) (after_edit m e) n names.1 (after_sound k m e went.0 names.0 s) went.1

-- of a copy as well
pub edited_sound : (es : List Edit) (m copy n : SymModule) → All HasNames es → IsSoundModule m → copy ≡ m → edited copy es ≡ Ok n → IsSoundModule n
edited_sound es m copy n names s same is = from_sound es 0 copy n (recursion_from_All HasNames es names) (subst IsSoundModule (sym same) s) is
