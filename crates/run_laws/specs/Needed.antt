-- Programs of which the law of runs says nothing, and where the two runs part (this project's profile).
use Rattle.std.specs.Prelude.{◌≡◌, Bool, true, [], ◌∷◌, None}
use Rattle.sym_mod.specs.declared.program.Program.{Program}
use Rattle.sym_mod.specs.declared.program.SecKind.TheVariants.{Sd}
use Rattle.linking_model.specs.Decks.{blank_name}
use Rattle.linking_model.specs.Tree.{Tree, root}
use Rattle.linking_model.specs.Tables.{refused_reference}
use Rattle.linking_model.specs.Places.{Laid}

-- a program of one control section of kind SD, of eight bytes, with a blank name
abbrev pub nameless : Laid
nameless = record {
  program = record {
    sections = record { name = blank_name; kind = Sd; rank = 0; segment = 1; users = []; length = 8 } ∷ [];
    labels = [];
    unresolved = [];
    registers = [];
    texts = [];
    constants = [];
    starts = [];
  };
  tree = root ∷ [];
  entries = [] ∷ [];
}

-- where no reference is refused, with or without leave for exclusive ones, each exclusive reference has a holder
abbrev pub AcceptedReferencesHaveHolders : Type 0
AcceptedReferencesHaveHolders =
    (p : Program) (tree : Tree) (xcal : Bool) → refused_reference p tree xcal ≡ None → refused_reference p tree true ≡ None
