use Rattle.std.proofs.Common.{◌-◌, ◌++◌, length, All, refl, sym, ap, subst, ◌∙◌}
use Rattle.std.proofs.lemmas.List.Elements.{All-take}
use Rattle.load_recs.specs.Records.{AreRlds}
use Rattle.mod_segments.specs.Chunks.{IsChunk}
use Rattle.mod_segments.specs.Pieces.{seen}
use Rattle.mod_segments.specs.Records.{but_last, last_of}
use Rattle.mod_segments.proofs.Recorded.{last_held, last_without, some_there, ended}
use Rattle.mod_segments.proofs.recording.Records.end.Goals as goal

pub returns-then-is_empty : goal.returns-then-is_empty
returns-then-is_empty c =
    ap (λ r. r.done) c.in_ok-put_text.ensures.value
    ∙ ap (λ v. c.args.self.done ++ v) (sym (last_without c.args.ends c.args.self.carried (seen c.args.piece) (c.if-is_empty.ensures.0 refl)))

pub put_chunks-requires : goal.put_chunks-requires
put_chunks-requires c =
    subst (All IsChunk) (sym (c.as_slice.ensures ∙ (c.parted-before.ensures.before ∙ ap but_last c.in_ok-put_text-2.ensures.chunks)))
    (All-take IsChunk (length c.args.piece.chunks - 1) c.args.piece.chunks c.requires.piece.chunks)

pub put_chunk-requires-clause-items : goal.put_chunk-requires-clause-items
put_chunk-requires-clause-items c =
    subst AreRlds (sym (c.as_slice-2.ensures ∙ (c.parted-before.ensures.last ∙ ap last_of c.in_ok-put_text-2.ensures.chunks)))
    (last_held c.args.piece.chunks c.requires.piece.chunks)

pub returns : goal.returns
returns c =
    ended c.args.self.done c.put_text-2.new.self.done c.put_chunks.new.self.done c.put_chunk.new.self.done c.args.ends c.args.self.carried (seen c.args.piece)
    c.as_slice.result.now c.as_slice-2.result.now
    (some_there c.args.piece.chunks c.if-is_empty.ensures.1)
    (c.as_slice.ensures ∙ (c.parted-before.ensures.before ∙ ap but_last c.in_ok-put_text-2.ensures.chunks))
    (c.as_slice-2.ensures ∙ (c.parted-before.ensures.last ∙ ap last_of c.in_ok-put_text-2.ensures.chunks))
    (ap (λ r. r.done) c.in_ok-put_text-2.ensures.value) (ap (λ r. r.done) c.in_ok-put_chunks.ensures) (ap (λ r. r.done) c.in_ok-put_chunk.ensures)
