-- When a content with numbers is the linked text of a program: at a placement that the addresses make.
use Rattle.std.specs.Prelude.{◌≡◌, ℕ, ◌-◌, ◌<◌, ◌≤◌, not, ◌||◌, List, length, map, slice_index, All, IsTrue, is_some}
use Rattle.std.specs.List.{range_with_len}
use Rattle.sym_mod.specs.declared.program.Program.{Program}
use Rattle.sym_mod.specs.declared.program.Constant.{Constant}
use Rattle.sym_mod.specs.declared.program.Places.{Places}
use Rattle.linking_model.specs.Places.{Laid, entry_count, segment_of_section, length_of_section}
use Rattle.linking_model.specs.Points.{displacements, registers_end}
use Rattle.linking_model.specs.Tables.{is_branch, is_direct, holder, only_target, is_defined}
use Rattle.linking_model.specs.Linked.{Placement, stored_byte, linked_section}
use Rattle.relocate.specs.Ready.{FitTogether}
use Rattle.relocate.specs.Relocated.{relocated}

-- the addresses make the placement, as far as the program reaches, and the registers stand as in the program
pub record MakePlacement (P : Laid) (a : Places) (q : Placement) : Type 0 where
  pub section : (i : ℕ) → i < length P.program.sections → slice_index a.sections i ≡ q.section i
  pub table : (s : ℕ) → 1 ≤ s → s ≤ length P.tree → 0 < entry_count P s → slice_index a.tables (s - 1) ≡ q.entab s
  pub registers : a.registers ≡ displacements 0 P.program.registers
  pub total : a.total ≡ registers_end 0 P.program.registers

-- a call of a section or a label goes directly or by an entry
abbrev pub IsReached : Laid → Constant → Type 0
IsReached P c =
    let s = segment_of_section P.program c.section in
    let y = only_target c.terms in
    IsTrue (not (is_branch c.kind) || not (is_defined y) || is_direct P.program P.tree s y || is_some (holder P.program P.tree s y))

-- the bytes of each section as text gives them
unfoldable pub stored_text : Program → List (List ℕ)
stored_text p =
    map (λ i. map (stored_byte p.texts i) (range_with_len 0 (length_of_section p i))) (range_with_len 0 (length p.sections))

-- the bytes of each section linked
unfoldable pub linked_text : Laid → Placement → List (List ℕ)
linked_text P q = map (linked_section P q) (range_with_len 0 (length P.program.sections))

-- the stored text, with numbers at addresses that make a placement, is the linked text
abbrev pub StoredTextIsLinked : Type 0
StoredTextIsLinked =
    (P : Laid) (a : Places) (q : Placement) → FitTogether P a → MakePlacement P a q → All (IsReached P) P.program.constants
    → relocated P a (stored_text P.program) ≡ linked_text P q
