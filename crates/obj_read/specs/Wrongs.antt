-- A fault with the place of its card.
use Rattle.std.specs.Prelude.{ℕ}
use Rattle.obj_read.specs.declared.fault.ObjFault.{ObjFault}
use Rattle.obj_read.specs.declared.fault.ObjFault.TheVariants.{At, Memory}
use Rattle.obj_read.specs.declared.fault.Wrong.{Wrong}
use Rattle.obj_read.specs.declared.fault.Wrong.TheVariants.{Card, Memory as NoMemory}

abbrev pub at_place : ℕ → Wrong → ObjFault
at_place n (Card what) = At n what
at_place n NoMemory = Memory
