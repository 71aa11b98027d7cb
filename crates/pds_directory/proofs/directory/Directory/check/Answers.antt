use Rattle.std.proofs.Common.{sym, ap}
use Rattle.pds_directory.specs.Directory.{rules_from}
use Rattle.pds_directory.proofs.Blocks.{rule_kept, rule_broken, rules_kept}
use Rattle.pds_directory.proofs.directory.Directory.check.Goals as goal

pub returns-then-not-keeps_rules : goal.returns-then-not-keeps_rules
returns-then-not-keeps_rules c =
    rule_broken c.args.self.now c.args.ends.now c.loop-i.i c.entries-entries.result.now _ _ c.loop-i-test.true (sym c.if-not-keeps_rules.ensures) c.loop-i.invariant

pub loop-i-preserved : goal.loop-i-preserved
loop-i-preserved c =
    rule_kept c.args.self.now c.args.ends.now c.loop-i.i c.entries-entries.result.now _ _ c.loop-i-test.true (sym c.if-not-keeps_rules.ensures) c.loop-i.invariant

pub returns : goal.returns
returns c = rules_kept c.args.self.now c.args.ends.now c.loop-i.i c.entries-entries.result.now _ c.loop-i-test.false c.loop-i.invariant

pub loop-i-init : goal.loop-i-init
loop-i-init c = ap (rules_from c.args.self.now c.args.ends.now 0) c.entries-entries.ensures.entries
