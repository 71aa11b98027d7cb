-- What entering a module in an index answers.
use Rattle.std.specs.Prelude.{◌≡◌, ℕ, ◌+◌, nat_lt, if◌then◌else◌, Bool, List, length, Option, Some, None, Result, Ok, Err, ⊤}
use Rattle.le_bytes.specs.declared.name.Name.{Name}
use Rattle.sym_mod.specs.declared.module.SymModule.{SymModule}
use Rattle.esd_index.specs.Contents.{Contents}
use Rattle.esd_index.specs.Steps.{kept_flags}
use Rattle.esd_merge.specs.declared.fault.MergeFault.{MergeFault}
use Rattle.esd_merge.specs.declared.fault.MergeFault.TheVariants.{DoubleDefinition, TooManySymbols, Memory}

-- how many symbols and registers there are
abbrev pub count_of : Contents → ℕ
count_of c = length c.symbols + length c.registers

-- the fault of what is wanted
abbrev pub fault_of : Result Contents Name → Option MergeFault
fault_of (Err y) = Some (DoubleDefinition y)
fault_of (Ok c) = if nat_lt 32511 (count_of c) then Some (TooManySymbols (count_of c)) else None

-- a call that enters a module answers which of its items are kept, or the fault there is; want of memory says nothing
abbrev pub Enters : SymModule → Contents → Result Contents Name → Result (List Bool) MergeFault → Contents → Type 0
Enters m old wanted (Ok kept) new = (fault_of wanted ≡ None) × (wanted ≡ Ok new) × (kept ≡ kept_flags old.controls m.items)
Enters m old wanted (Err Memory) new = ⊤
Enters m old wanted (Err f) new = fault_of wanted ≡ Some f
