use Rattle.esd_index.specs.Keys.{as_symbol}
use Rattle.esd_index.proofs.Parts.{part_put}
use Rattle.esd_index.proofs.symbol_table.SymbolTable.put.Goals as goal

pub invariant_of-self : goal.invariant_of-self
invariant_of-self c =
    let put = c.put_near.ensures in
    let y = as_symbol c.args.key in
    record {
      sections = part_put c.put_near.result c.put_near.new.self c.self.inside.symbols y c.self.inside.sections put.noted put.marked put.err c.self.invariant.sections;
      controls = part_put c.put_near.result c.put_near.new.self c.self.inside.symbols y c.self.inside.controls put.noted put.marked put.err c.self.invariant.controls;
      strong = part_put c.put_near.result c.put_near.new.self c.self.inside.symbols y c.self.inside.strong put.noted put.marked put.err c.self.invariant.strong;
    }
