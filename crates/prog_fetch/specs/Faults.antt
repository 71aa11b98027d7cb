-- Faults of a walk, as those of a fetch and of a placement.
use Rattle.member_walk.specs.declared.faults.WalkFault.{WalkFault}
use Rattle.member_walk.specs.declared.faults.WalkFault.TheVariants.{At as AtRecord, Memory as NoMemory}
use Rattle.prog_fetch.specs.declared.fault.FetchFault.{FetchFault}
use Rattle.prog_fetch.specs.declared.fault.FetchFault.TheVariants.{At, Memory}
use Rattle.prog_fetch.specs.declared.fault.ScatterFault.{ScatterFault}
use Rattle.prog_fetch.specs.declared.fault.ScatterFault.TheVariants.{Record, Memory as NoScatterMemory}

-- as one of a fetch
abbrev pub fault_of : WalkFault → FetchFault
fault_of (AtRecord number what) = At number what
fault_of NoMemory = Memory

-- as one of a placement
abbrev pub scatter_fault_of : WalkFault → ScatterFault
scatter_fault_of (AtRecord number what) = Record number what
scatter_fault_of NoMemory = NoScatterMemory
