-- What settling and assigning leave, by the answer.
use Rattle.std.specs.Prelude.{◌≡◌, ◌<◌, ◌≤◌, Some, None, Result, Ok, Err, IsFalse, IsTrue, ⊤}
use Rattle.sym_mod.specs.declared.program.Program.{Program}
use Rattle.sym_mod.specs.declared.program.Places.{Places}
use Rattle.linking_model.specs.Tree.{Tree}
use Rattle.linking_model.specs.Places.{Laid, module_length}
use Rattle.linking_model.specs.Points.{registers_end}
use Rattle.linking_model.specs.Settled.{Inserts, settled, unknown_insert, has_root_section}
use Rattle.addr_assign.specs.Laid.{places_of}
use Rattle.addr_assign.specs.declared.settling.SettleFault.{SettleFault}
use Rattle.addr_assign.specs.declared.settling.SettleFault.TheVariants.{InsertUnknown, NoSection, Memory as SettleMemory}
use Rattle.addr_assign.specs.declared.assigning.AssignFault.{AssignFault}
use Rattle.addr_assign.specs.declared.assigning.AssignFault.TheVariants.{Registers, ModuleLength, Memory}

-- the settled program, or the first fault there is; after a fault nothing has changed
abbrev pub SettleAnswer : Tree → Inserts → Program → Result ⊤ SettleFault → Program → Type 0
SettleAnswer tree inserts old (Ok _) new =
    (unknown_insert old inserts ≡ None) × IsTrue (has_root_section (settled tree inserts old)) × (new ≡ settled tree inserts old)
SettleAnswer tree inserts old (Err (InsertUnknown name)) new =
    (unknown_insert old inserts ≡ Some name) × (new ≡ old)
SettleAnswer tree inserts old (Err NoSection) new =
    (unknown_insert old inserts ≡ None) × IsFalse (has_root_section (settled tree inserts old)) × (new ≡ old)
SettleAnswer tree inserts old (Err SettleMemory) new = new ≡ old

-- the places, or the first limit that is passed with the number that passes it
abbrev pub AssignAnswer : Laid → Result Places AssignFault → Type 0
AssignAnswer P (Ok places) =
    (registers_end 0 P.program.registers ≤ 16777215) × (module_length P ≤ 4194304) × (places ≡ places_of P)
AssignAnswer P (Err (Registers n)) = (registers_end 0 P.program.registers ≡ n) × (16777215 < n)
AssignAnswer P (Err (ModuleLength n)) =
    (registers_end 0 P.program.registers ≤ 16777215) × (module_length P ≡ n) × (4194304 < n)
AssignAnswer P (Err Memory) = ⊤
