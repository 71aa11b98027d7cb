use Rattle.std.proofs.Common.{◌≡◌, ◌+◌, ◌∷◌, [], drop}
use Rattle.relocate.specs.Ready.{laid}
use Rattle.relocate.proofs.Steps.{lies, sound_constant, rest_front, rest_empty, one_constant, all_constants}
use Rattle.relocate.proofs.relocating.relocate_all.Goals as goal

pub relocate-requires-clause-inside : goal.relocate-requires-clause-inside
relocate-requires-clause-inside g c =
    lies (g.K.TextKeeper.content c.loop-constant.kept) c.args.p.now c.constant-item.result c.loop-constant.invariant.lengths
    (sound_constant c.args.p.now c.as_slice-constant-items.result.now c.loop-constant.constant-index c.constant-item.result
    c.requires.fit.sound c.as_slice-constant-items.ensures c.loop-constant-test.true c.constant-item.is)

pub loop-constant-preserved : goal.loop-constant-preserved
loop-constant-preserved g c =
    let front : drop c.loop-constant.constant-index c.as_slice-constant-items.result.now
    ≡ c.constant-item.result ∷ drop (c.loop-constant.constant-index + 1) c.as_slice-constant-items.result.now =
    rest_front c.as_slice-constant-items.result.now c.loop-constant.constant-index c.constant-item.result c.loop-constant-test.true c.constant-item.is in
    one_constant (laid c.args.p.now c.args.tree.now c.args.t.now) c.args.a.now
    (g.K.TextKeeper.content c.args.kept.now) (g.K.TextKeeper.content c.loop-constant.kept) (g.K.TextKeeper.content c.relocate.new.kept)
    (g.K.TextKeeper.writable c.args.kept.now) (g.K.TextKeeper.writable c.loop-constant.kept) (g.K.TextKeeper.writable c.relocate.new.kept)
    c.constant-item.result (drop (c.loop-constant.constant-index + 1) c.as_slice-constant-items.result.now)
    (rw front at c.loop-constant.invariant)
    (sound_constant c.args.p.now c.as_slice-constant-items.result.now c.loop-constant.constant-index c.constant-item.result
    c.requires.fit.sound c.as_slice-constant-items.ensures c.loop-constant-test.true c.constant-item.is)
    c.relocate.ensures.content c.relocate.ensures.writable

pub returns-clause-content : goal.returns-clause-content
returns-clause-content g c =
    let empty : drop c.loop-constant.constant-index c.as_slice-constant-items.result.now ≡ [] =
    rest_empty c.as_slice-constant-items.result.now c.loop-constant.constant-index c.loop-constant-test.false in
    all_constants (laid c.args.p.now c.args.tree.now c.args.t.now) c.args.a.now
    (g.K.TextKeeper.content c.args.kept.now) (g.K.TextKeeper.content c.loop-constant.kept)
    (g.K.TextKeeper.writable c.args.kept.now) (g.K.TextKeeper.writable c.loop-constant.kept)
    c.requires.fit.sound c.requires.lengths (rw empty at c.loop-constant.invariant)
