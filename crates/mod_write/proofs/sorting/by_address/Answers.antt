use Rattle.std.proofs.Common.{rules}
use Rattle.std.proofs.lemmas.List.Sorted.{answers_always, IsNonDecreasingBy-from_sort_by_key}
use Rattle.mod_write.proofs.Sorted.{sorted_is}
use Rattle.mod_write.proofs.sorting.by_address.Goals as goal

pub returns : goal.returns
returns c =
    sorted_is (λ x. x.address) c.args.items.now.items c.sort_by_key.new.self.items
    (IsNonDecreasingBy-from_sort_by_key (λ x. x.address) _ c.in_ok-sort_by_key.ensures.sorted (λ a r q k. search rules))
    (c.in_ok-sort_by_key.ensures.stable (λ x. x.address) (answers_always _ _ _ (λ f a r g h. search rules)))
