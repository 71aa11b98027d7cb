use Rattle.std.proofs.Common.{ℕ, List, ◌++◌, ap, ◌≡◌, length, take, arith, lit<, ◌∙◌}
use Rattle.le_io.proofs.ReadSoFar.{refilled, read_nothing, read_more, read_whole, stop_told, stop_cause, none_falls_on, no_fault_on}
use Rattle.le_io.proofs.whole.read_all.Goals as goal

pub loop-bytes-init : goal.loop-bytes-init
loop-bytes-init g c =
    record {
      so_far = rw c.new-bytes.ensures.items (read_nothing _ _ _);
      room = rw c.in_ok-buffer.ensures (lit< tt);
    }

pub returns-in-Ok-eq0-clause-whole : goal.returns-in-Ok-eq0-clause-whole
returns-in-Ok-eq0-clause-whole g c =
    read_whole _ _ _ _ _ _ _ _ _ c.loop-bytes.invariant.so_far (c.len.ensures ∙ c.loop-bytes.bytes.ok.0) c.in-Ok-eq0.field-0-test c.in-Ok-eq0.ensures.piece

pub returns-in-Ok-eq0-clause-counts : goal.returns-in-Ok-eq0-clause-counts
returns-in-Ok-eq0-clause-counts g c = none_falls_on _ _ _ c.loop-bytes.invariant.so_far.none_falls c.read_piece.ensures.counts

pub returns-in-Ok-eq0-clause-cause : goal.returns-in-Ok-eq0-clause-cause
returns-in-Ok-eq0-clause-cause g c = no_fault_on _ _ _ c.loop-bytes.invariant.so_far.no_fault c.in-Ok-eq0.ensures.cause

pub loop-bytes-preserved : goal.loop-bytes-preserved
loop-bytes-preserved g c =
    let same_length : length c.read_piece.new.buffer ≡ c.loop-bytes.buffer.len = omega (arith, c.read_piece.auto.buffer, c.deref_mut.ensures.len) in
    let grown = rw c.if-is_err.ensures.negation at c.extend_from_slice.ensures.items in
    record {
      so_far = read_more _ _ _ _ _ _ _ _ c.read_piece.new.buffer _ c.len.result c.in-Ok.n c.loop-bytes.invariant.so_far (c.len.ensures ∙ c.loop-bytes.bytes.ok.0) c.in-Ok.ensures.within c.in-Ok.ensures.limit c.in-Ok.ensures.piece c.read_piece.ensures.told c.read_piece.ensures.counts c.in-Ok.ensures.cause (grown ∙ ap (λ (x : List ℕ). c.loop-bytes.bytes.items ++ take c.in-Ok.n x) (c.deref.ensures.value ∙ refilled c.loop-bytes.buffer.len c.read_piece.new.buffer c.loop-bytes.buffer.items same_length));
      room = c.loop-bytes.invariant.room;
    }

pub returns-in-Err-clause-whole : goal.returns-in-Err-clause-whole
returns-in-Err-clause-whole g c = stop_told _ _ _ _ c.loop-bytes.invariant.so_far.same_told c.in-Err.ensures.piece

pub returns-in-Err-clause-counts : goal.returns-in-Err-clause-counts
returns-in-Err-clause-counts g c = none_falls_on _ _ _ c.loop-bytes.invariant.so_far.none_falls c.read_piece.ensures.counts

pub returns-in-Err-clause-cause : goal.returns-in-Err-clause-cause
returns-in-Err-clause-cause g c = stop_cause _ _ _ _ _ c.loop-bytes.invariant.so_far.none_falls c.loop-bytes.invariant.so_far.no_fault c.in-Err.ensures.cause
