use Rattle.std.proofs.Common.{◌∙◌, map, string_bytes, subst, Ok}
use Rattle.command_sets.specs.Reading.{SetsHaveCause}
use Rattle.command_sets.specs.Sets.{set_at, sets_of}
use Rattle.command_sets.proofs.NamedWords.{word_named}
use Rattle.command_sets.proofs.SetsRead.{goes_on_at, stops_at, ends_at}
use Rattle.command_sets.proofs.Statuses.{no_fault, none_falls}
use Rattle.command_sets.proofs.reading.read_sets.Goals as goal

pub returns-in-Ok-Err-clause-sets : goal.returns-in-Ok-Err-clause-sets
returns-in-Ok-Err-clause-sets g c files told =
    stops_at (set_at (map string_bytes c.args.request.now.words.now) files) c.loop-word.sets c.take_word.new.sets c.args.request.now.words.now c.loop-word.word-index c.word-item.result c.as_str.result.now
    (sets_of (map string_bytes c.args.request.now.words.now) files) (c.loop-word.invariant.0 files told) c.loop-word-test.true c.word-item.is c.as_str.ensures.value
    c.in-Ok-Err.field-0 c.in-Ok-Err.refusal c.in-Ok-Err.field-0-is (c.in-Ok-Err.ensures.sets files (c.loop-word.invariant.2 ∙ told))

pub loop-word-preserved : goal.loop-word-preserved
loop-word-preserved g c = (
  λ files told. goes_on_at (set_at (map string_bytes c.args.request.now.words.now) files) c.loop-word.sets c.take_word.new.sets c.args.request.now.words.now c.loop-word.word-index c.word-item.result c.as_str.result.now
      (sets_of (map string_bytes c.args.request.now.words.now) files) (c.loop-word.invariant.0 files told) c.loop-word-test.true c.word-item.is c.as_str.ensures.value
      c.in-Ok-Ok.field-0 c.in-Ok-Ok.field-0-is (c.in-Ok-Ok.ensures.sets files (c.loop-word.invariant.2 ∙ told)),
  c.in-Ok-Ok.ensures.read,
  c.take_word.ensures.told ∙ c.loop-word.invariant.2,
  none_falls (g.S.Store.counts c.args.store.now) (g.S.Store.counts c.loop-word.store) (g.S.Store.counts c.take_word.new.store) c.loop-word.invariant.3 c.take_word.ensures.counts,
  no_fault (g.S.Store.counts c.args.store.now) (g.S.Store.counts c.loop-word.store) (g.S.Store.counts c.take_word.new.store) c.loop-word.invariant.4
      (subst (λ r. SetsHaveCause (g.S.Store.counts c.loop-word.store) (g.S.Store.counts c.take_word.new.store) (map string_bytes c.args.request.now.words.now) (Ok r)) c.in-Ok-Ok.field-0-is c.in-Ok-Ok.ensures.cause),
)

pub returns-clause-sets : goal.returns-clause-sets
returns-clause-sets g c files told =
    ends_at (set_at (map string_bytes c.args.request.now.words.now) files) c.loop-word.sets c.args.request.now.words.now c.loop-word.word-index
    (sets_of (map string_bytes c.args.request.now.words.now) files) (c.loop-word.invariant.0 files told) c.loop-word-test.false

pub take_word-requires-clause-named : goal.take_word-requires-clause-named
take_word-requires-clause-named g c =
    word_named c.args.request.now.words.now c.loop-word.word-index c.word-item.result c.as_str.result.now c.loop-word-test.true c.word-item.is c.as_str.ensures.value
