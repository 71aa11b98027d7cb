use Rattle.std.proofs.Common.{All, sym, subst}
use Rattle.std.proofs.lemmas.Result.{IfOk-weaker}
use Rattle.mod_segments.specs.Records.{IsStored}
use Rattle.mod_segments.specs.Writing.{GoesOn}
use Rattle.mod_segments.proofs.Recorded.{records_stored}
use Rattle.mod_segments.proofs.Writing.{last_written}
use Rattle.mod_segments.proofs.recording.SegmentRecords.end.Goals as goal

pub returns-in-Some-clause-sizes : goal.returns-in-Some-clause-sizes
returns-in-Some-clause-sizes c =
    IfOk-weaker c.end.result _ _
    (λ records e pieces has. subst (All IsStored)
    (sym (last_written c.args.self.records c.in-Some.piece c.args.ends pieces records (subst (λ held. GoesOn c.args.self.records held pieces) c.in-Some.is has.written) e))
    (records_stored c.args.ends pieces has.each))
    c.end.ensures
