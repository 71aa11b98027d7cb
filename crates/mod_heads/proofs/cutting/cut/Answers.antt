use Rattle.std.proofs.Common.{◌-◌, ◌*◌, arith, take, drop, length}
use Rattle.std.proofs.lemmas.List.{length-take, length-drop}
use Rattle.mod_heads.proofs.Fitting.{cut_short}
use Rattle.mod_heads.proofs.cutting.cut.Goals as goal

pub returns-then-rest-lt-MOST : goal.returns-then-rest-lt-MOST
returns-then-rest-lt-MOST c =
    cut_short c.args.items.now (240 * c.args.k) 240
    (omega (arith, c.if-rest-lt-MOST.true, length-take (length c.args.items.now - 240 * c.args.k) (drop (240 * c.args.k) c.args.items.now), length-drop (240 * c.args.k) c.args.items.now))
