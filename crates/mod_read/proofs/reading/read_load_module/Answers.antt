use Rattle.std.proofs.Common.{◌≡◌, sym, subst}
use Rattle.sym_mod.specs.Sound.{IsSoundModule}
use Rattle.member_model.specs.FirstBad.{IsGood}
use Rattle.member_model.specs.ReadBack.{module_of}
use Rattle.mod_read.proofs.Sound.{good_members_are_sound}
use Rattle.mod_read.proofs.Steps.{made_is}
use Rattle.mod_read.proofs.reading.read_load_module.Goals as goal

pub returns-in-Ok : goal.returns-in-Ok
returns-in-Ok c =
    let good : IsGood c.args.e.now c.args.r = c.in_ok-judge_end.ensures c.args.r c.in_ok-walk.ensures.read.walked in
    let made : c.in-Ok.module ≡ module_of c.args.e.now c.args.r =
    made_is c.args.e.now c.args.r c.in_ok-walk.walk c.in_ok-walk.texts c.in-Ok.module c.in_ok-walk.ensures.read c.in-Ok.ensures in
    record { answer = (good, made); sound = subst IsSoundModule (sym made) (good_members_are_sound c.args.e.now c.args.r c.in_ok-walk.ensures.read.bytes good) }
