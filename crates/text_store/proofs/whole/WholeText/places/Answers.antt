use Rattle.std.proofs.Common.{rules, arith, ◌+◌, ◌<◌, ◌≤◌, length, ap}
use Rattle.text_store.proofs.Standing.{start_there, start_read, end_within}
use Rattle.text_store.proofs.whole.WholeText.places.Goals as goal

pub index-requires : goal.index-requires
index-requires c =
    let there : c.args.sec < length c.args.self.now.starts.items = start_there c.args.self.now c.args.sec c.args.at c.args.len c.requires.inside in
    omega (arith, there, c.args.self.now.starts.ok.0)

pub overflow_add-from : goal.overflow_add-from
overflow_add-from c =
    let within = end_within c.args.self.now c.args.sec c.args.at c.args.len c.index.result.now c.requires.inside c.index.ensures in
    let below : c.index.result.now + c.args.at ≤ c.args.self.now.bytes.len = omega (arith, within, c.args.self.now.bytes.ok.0) in
    search (rules, below)

pub overflow_add-result : goal.overflow_add-result
overflow_add-result c =
    let within = end_within c.args.self.now c.args.sec c.args.at c.args.len c.index.result.now c.requires.inside c.index.ensures in
    let below : c.index.result.now + c.args.at + c.args.len ≤ c.args.self.now.bytes.len = omega (arith, within, c.args.self.now.bytes.ok.0) in
    search (rules, below)

pub returns-clause-start : goal.returns-clause-start
returns-clause-start c =
    ap (λ s. s + c.args.at) (start_read c.args.self.now c.args.sec c.args.at c.args.len c.index.result.now c.requires.inside c.index.ensures)

pub returns-clause-within : goal.returns-clause-within
returns-clause-within c = end_within c.args.self.now c.args.sec c.args.at c.args.len c.index.result.now c.requires.inside c.index.ensures
