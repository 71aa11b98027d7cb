-- What a call that reads a deck answers.
use Rattle.std.specs.Prelude.{◌≡◌, ℕ, ◌≤◌, List, length, Result, Ok, Err}
use Rattle.sym_mod.specs.declared.module.SymModule.{SymModule}
use Rattle.sym_mod.specs.Sound.{IsSoundModule}
use Rattle.obj_read.specs.declared.fault.ObjFault.{ObjFault}
use Rattle.obj_read.specs.declared.fault.ObjFault.TheVariants.{At, Memory}
use Rattle.obj_read.specs.Decks.{deck_of}

-- the module of the deck and the number of its cards, or its first faulty card; want of memory may come anywhere
abbrev pub Reads : List (List ℕ) → Result (SymModule × ℕ) ObjFault → Type 0
Reads cards (Ok (m, taken)) = (deck_of cards ≡ Ok (m, taken)) × (taken ≤ length cards) × IsSoundModule m
Reads cards (Err (At place what)) = (deck_of cards ≡ Err (place, what)) × (place ≤ length cards)
Reads cards (Err Memory) = Unit {0}
