use Rattle.std.proofs.Common.{◌≡◌, ℕ, ◌+◌, ◌-◌, ◌*◌, ◌/◌, ◌≤◌, ◌<◌, min, List, ◌++◌, take, drop, length, map, All, refl, sym, ap, subst, ◌∙◌, arith}
use Rattle.std.specs.List.{range_with_len}
use Rattle.std.proofs.lemmas.List.{append-nil}
use Rattle.std.proofs.lemmas.List.Elements.{All-filter, All-take}
use Rattle.std.specs.Prelude.{nat_le}
use Rattle.mod_segments.specs.Chunks.{IsItem, IsChunk}
use Rattle.mod_segments.specs.Pieces.{seen, IsPiece, last_byte}
use Rattle.member_model.specs.Pieces.{Piece as Seen}
use Rattle.mod_segments.specs.Writing.{HasPieces}
use Rattle.mod_segments.proofs.Cut.{ending_from, end_of_pieces, nothing_before, within, left_here, items_later, piece_here, piece_fits, piece_number, one_more, all_pieces}
use Rattle.mod_segments.proofs.cutting.add_pieces.Goals as goal

pub loop-k-init : goal.loop-k-init
loop-k-init g c = record {
  made = λ before has. subst (HasPieces c.args.records.now) (sym (append-nil before)) has;
  rest = nothing_before c.args.part.address c.args.most c.args.part.length c.args.part.items.now c.requires.part.inside;
  ready = c.requires.ready;
}

pub ending_before-requires : goal.ending_before-requires
ending_before-requires g c =
    subst (All IsItem) (sym c.loop-k.invariant.rest)
    (All-filter (λ x. nat_le (c.args.part.address + end_of_pieces c.args.most c.loop-k.k c.args.part.length) (last_byte x)) IsItem c.args.part.items.now c.requires.part.each)

pub piece-requires-clause-items : goal.piece-requires-clause-items
piece-requires-clause-items g c =
    subst (All IsItem) (sym c.split_at.ensures.front)
    (All-take IsItem c.ending_before.result c.loop-k.rest.now
    (subst (All IsItem) (sym c.loop-k.invariant.rest)
    (All-filter (λ x. nat_le (c.args.part.address + end_of_pieces c.args.most c.loop-k.k c.args.part.length) (last_byte x)) IsItem c.args.part.items.now c.requires.part.each)))

pub put-requires-clause-piece : goal.put-requires-clause-piece
put-requires-clause-piece g c =
    let n = c.args.most in
    let k = c.loop-k.k in
    let part = c.args.part in
    let bytes : List ℕ = g.T.PartText.text c.args.text.now in
    let whole : length bytes ≡ part.length = c.requires.whole in
    let some : 1 ≤ n = c.requires.most.some in
    let below : k < (part.length + (n - 1)) / n = c.loop-k-test.true in
    let there : n * k < part.length = within n k part.length some below in
    let before : n * k < length bytes = rw whole there in
    let size : c.min-size.result ≡ min n (length bytes - n * k) = c.min-size.ensures ∙ ap (λ t. min n (t - n * k)) (sym whole) in
    let left = left_here part.address n k part.length part.items.now c.loop-k.rest.now there c.loop-k.invariant.rest in
    let made : seen c.in_ok-piece.piece ≡ piece_number part.number part.address part.items.now n bytes k =
    c.in_ok-piece.ensures.value
    ∙ piece_here part.number part.address n k c.min-size.result part.items.now c.loop-k.rest.now bytes before size c.requires.part.ordered left
    c.split_at.result.0.now (c.split_at.ensures.front ∙ ap (λ m. take m c.loop-k.rest.now) c.ending_before.ensures.value) in
    let fits : IsPiece (piece_number part.number part.address part.items.now n bytes k) =
    piece_fits part.number part.address n k c.min-size.result part.items.now c.loop-k.rest.now bytes before size c.requires.part.ordered left
    c.requires.part.number (rw whole c.requires.part.end) c.requires.most (subst (λ x. All IsChunk x.chunks) made c.in_ok-piece.ensures.chunks) in
    subst IsPiece (sym made) fits

pub loop-k-preserved : goal.loop-k-preserved
loop-k-preserved g c =
    let n = c.args.most in
    let k = c.loop-k.k in
    let part = c.args.part in
    let bytes : List ℕ = g.T.PartText.text c.args.text.now in
    let whole : length bytes ≡ part.length = c.requires.whole in
    let some : 1 ≤ n = c.requires.most.some in
    let below : k < (part.length + (n - 1)) / n = c.loop-k-test.true in
    let there : n * k < part.length = within n k part.length some below in
    let before : n * k < length bytes = rw whole there in
    let size : c.min-size.result ≡ min n (length bytes - n * k) = c.min-size.ensures ∙ ap (λ t. min n (t - n * k)) (sym whole) in
    let left = left_here part.address n k part.length part.items.now c.loop-k.rest.now there c.loop-k.invariant.rest in
    let made : seen c.in_ok-piece.piece ≡ piece_number part.number part.address part.items.now n bytes k =
    c.in_ok-piece.ensures.value
    ∙ piece_here part.number part.address n k c.min-size.result part.items.now c.loop-k.rest.now bytes before size c.requires.part.ordered left
    c.split_at.result.0.now (c.split_at.ensures.front ∙ ap (λ m. take m c.loop-k.rest.now) c.ending_before.ensures.value) in
    let number : ℕ → Seen = piece_number part.number part.address part.items.now n bytes in
    record {
      made = λ old has. subst (HasPieces c.put.new.self)
          (one_more number old (old ++ map number (range_with_len 0 k)) _ k (seen c.in_ok-piece.piece) refl made refl)
          (c.in_ok-put.ensures.pieces (old ++ map number (range_with_len 0 k)) (let so_far = c.loop-k.invariant.made old has in record { each = so_far.each; written = so_far.written }));
      rest = c.split_at.ensures.back ∙ (ap (λ m. drop m c.loop-k.rest.now) c.ending_before.ensures.value
          ∙ (items_later part.number part.address n k c.min-size.result part.items.now c.loop-k.rest.now bytes before size c.requires.part.ordered left
          ∙ ap (λ t. ending_from (part.address + end_of_pieces n (k + 1) t) part.items.now) whole));
      ready = c.in_ok-put.ensures.ready;
    }

pub returns-clause-pieces : goal.returns-clause-pieces
returns-clause-pieces g c =
    let part = c.args.part in
    let number : ℕ → Seen = piece_number part.number part.address part.items.now c.args.most (g.T.PartText.text c.args.text.now) in
    let last : c.loop-k.k ≡ (c.args.part.length + (c.args.most - 1)) / c.args.most = omega arith in
    λ before has. subst (HasPieces c.loop-k.records)
    (all_pieces part.number part.address c.args.most c.loop-k.k part.items.now (g.T.PartText.text c.args.text.now) before (before ++ map number (range_with_len 0 c.loop-k.k)) refl
    (last ∙ ap (λ t. (t + (c.args.most - 1)) / c.args.most) (sym c.requires.whole)))
    (c.loop-k.invariant.made before has)
