use Rattle.std.proofs.Common.{rules, arith, ◌≡◌, ◌+◌, ◌∷◌, drop, get_or, replicate, ℕ, List, ap, ◌∙◌}
use Rattle.std.specs.List.{sum}
use Rattle.std.proofs.lemmas.List.{drop_more}
use Rattle.std.proofs.lemmas.List.Sums.{sum_by-cons}
use Rattle.text_store.proofs.Zeros.{starts_more, starts_whole, made}
use Rattle.text_store.proofs.whole.WholeText.new.Goals as goal

pub loop-length-preserved : goal.loop-length-preserved
loop-length-preserved c =
    let xs : List ℕ = c.args.lengths.now in
    let k : ℕ = c.loop-length.length-index in
    let n : ℕ = get_or xs k 0 in
    let next : drop k xs ≡ n ∷ drop (k + 1) xs = drop_more xs k 0 c.loop-length-test.true in
    let end : c.in_ok-end.end ≡ c.loop-length.end + n = search rules in
    let sums : sum (drop k xs) ≡ n + sum (drop (k + 1) xs) = ap sum next ∙ sum_by-cons (λ x. x) n (drop (k + 1) xs) in (
      rw end (starts_more c.loop-length.starts.items c.push.new.self.items xs _ k c.loop-length.end n next c.loop-length.invariant.0 c.in_ok-push.ensures.items),
      omega (arith, end, sums, c.loop-length.invariant.1),
    )

pub returns : goal.returns
returns c =
    let xs : List ℕ = c.args.lengths.now in
    let zeros : c.in_ok-bytes.bytes.items ≡ replicate c.loop-length.end 0 = search rules in
    let whole = starts_whole c.loop-length.starts.items xs c.loop-length.length-index c.loop-length.end c.loop-length-test.false c.loop-length.invariant.0 c.loop-length.invariant.1 in
    made (record { bytes = c.in_ok-bytes.bytes; starts = c.loop-length.starts }) xs c.loop-length.end zeros whole.0 whole.1
