-- A module in an index.
use Rattle.std.specs.Prelude.{◌≡◌, ℕ, Bool, List, filter, fold, Result, Ok, Err, ⊤}
use Rattle.le_bytes.specs.declared.name.Name.{Name}
use Rattle.sym_mod.specs.declared.module.SymConst.{SymConst}
use Rattle.sym_mod.specs.declared.module.SymModule.{SymModule}
use Rattle.linking_model.specs.Names.{in_order}
use Rattle.linking_model.specs.Kept.{stands_before, sights_in}
use Rattle.esd_index.specs.Contents.{Contents}
use Rattle.esd_index.specs.Steps.{flag_at, kept_flags, with_control, with_sights, with_constant}
use Rattle.esd_index.specs.declared.noting.Stop.{Stop}
use Rattle.esd_index.specs.declared.noting.Stop.TheVariants.{Clash, Memory}

-- the constants that stand in marked items, by item and offset
abbrev pub kept_in_order : List Bool → List SymConst → List SymConst
kept_in_order kept constants = in_order stands_before (filter (λ c. flag_at kept c.item) constants)

-- what an index says with a module, or the name of the first item that gives its name a second meaning
unfoldable pub noted_module : ℕ → ℕ → SymModule → Contents → Result Contents Name
noted_module n segment m c =
    with_constants (with_sights (kept_flags c.controls m.items) (fold with_control c m.items) (sights_in n segment 0 m.items))
  where
    with_constants : Result Contents Name → Result Contents Name
    with_constants (Ok d) = Ok (fold (with_constant m.items) d (kept_in_order (kept_flags c.controls m.items) m.constants))
    with_constants (Err name) = Err name

-- the answer is what is wanted, with the marks of the items, unless memory ran out
abbrev pub NotesModule : SymModule → Contents → Result Contents Name → Result (List Bool) Stop → Contents → Type 0
NotesModule m old wanted (Ok kept) new = (wanted ≡ Ok new) × (kept ≡ kept_flags old.controls m.items)
NotesModule m old wanted (Err (Clash name)) new = wanted ≡ Err name
NotesModule m old wanted (Err Memory) new = ⊤
