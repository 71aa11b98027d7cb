use Rattle.std.proofs.Common.{◌∙◌, ap, List}
use Rattle.std.specs.Prelude.{find, option_map}
use Rattle.le_bytes.specs.declared.name.Name.{Name}
use Rattle.le_bytes.specs.Names.{name_eq}
use Rattle.autocall.proofs.Lists.{looked_up}
use Rattle.autocall.proofs.dds.Dds.of.Goals as goal

pub returns : goal.returns
returns c =
    c.copied.ensures ∙ c.get.ensures.value ∙ looked_up c.args.symbol.now c.self.inside.by_symbol.entries
    ∙ ap (λ (es : List (Name × Name)). option_map (λ (p : Name × Name). p.1) (find (λ (p : Name × Name). name_eq c.args.symbol.now p.0) es)) c.self.view_is
