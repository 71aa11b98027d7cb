-- What noting the items of a module answers.
use Rattle.std.specs.Prelude.{◌≡◌, Result, Ok, Err, ⊤}
use Rattle.le_bytes.specs.declared.name.Name.{Name}
use Rattle.esd_index.specs.Contents.{Contents}
use Rattle.esd_index.specs.declared.noting.Stop.{Stop}
use Rattle.esd_index.specs.declared.noting.Stop.TheVariants.{Clash, Memory}

-- the answer is what is wanted, unless memory ran out
abbrev pub Notes : Result Contents Name → Result (Unit {0}) Stop → Contents → Type 0
Notes wanted (Ok _) new = wanted ≡ Ok new
Notes wanted (Err (Clash name)) new = wanted ≡ Err name
Notes wanted (Err Memory) new = ⊤
