use Rattle.std.proofs.Common.{◌++◌, ◌∷◌, [], ◌∙◌, ap, sym, map, set}
use Rattle.std.proofs.lemmas.List.{map-set, get_or-map}
use Rattle.mod_parts.proofs.gathering.put.Goals as goal

pub returns : goal.returns
returns c =
    map-set (λ v. v.items) c.args.lists.now.items c.args.at c.push.new.self
    ∙ ap (set (map (λ v. v.items) c.args.lists.now.items) c.args.at)
    (c.in_ok-push.ensures.items
    ∙ ap (λ l. l ++ c.args.number ∷ [])
    (ap (λ v. v.items) c.index_mut.ensures.value ∙ sym (get_or-map (λ v. v.items) c.args.lists.now.items c.args.at _ [] c.requires)))
