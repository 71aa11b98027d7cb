use Rattle.std.proofs.Common.{◌∙◌}
use Rattle.member_checks.proofs.SymbolLists.{number_of_section}
use Rattle.member_checks.proofs.symbols.Symbols.number_of.Goals as goal

pub returns : goal.returns
returns c = c.number_at.ensures ∙ number_of_section c.args.self.now c.numbers.result.now c.args.n c.numbers.ensures c.requires
