use Rattle.std.proofs.Common.{◌≡◌, ◌+◌, ◌∷◌, drop, length}
use Rattle.relocate.proofs.Steps.{lies_at}
use Rattle.block_storage.proofs.Texts.{one_laid, sound_text, rest_front}
use Rattle.block_storage.proofs.laying.lay_all.Goals as goal

pub lay-requires : goal.lay-requires
lay-requires g c =
    lies_at (g.K.TextKeeper.content c.loop-text.kept) c.args.p.now c.text-item.result.section c.text-item.result.offset (length c.text-item.result.bytes)
    c.loop-text.invariant.lengths
    (sound_text c.args.p.now c.as_slice-text-items.result.now c.loop-text.text-index c.text-item.result c.requires.sound
    c.as_slice-text-items.ensures c.loop-text-test.true c.text-item.is)

pub loop-text-preserved : goal.loop-text-preserved
loop-text-preserved g c =
    let front : drop c.loop-text.text-index c.as_slice-text-items.result.now
    ≡ c.text-item.result ∷ drop (c.loop-text.text-index + 1) c.as_slice-text-items.result.now =
    rest_front c.as_slice-text-items.result.now c.loop-text.text-index c.text-item.result c.loop-text-test.true c.text-item.is in
    one_laid c.args.p.now (g.K.TextKeeper.content c.args.kept.now) (g.K.TextKeeper.content c.loop-text.kept) (g.K.TextKeeper.content c.lay.new.kept)
    c.text-item.result (drop (c.loop-text.text-index + 1) c.as_slice-text-items.result.now)
    (rw front at c.loop-text.invariant)
    (sound_text c.args.p.now c.as_slice-text-items.result.now c.loop-text.text-index c.text-item.result c.requires.sound
    c.as_slice-text-items.ensures c.loop-text-test.true c.text-item.is)
    c.in_ok-lay.ensures
