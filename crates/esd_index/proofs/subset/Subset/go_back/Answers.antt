use Rattle.std.proofs.Common.{◌≡◌, ◌∙◌, ap, sym, map, take, arith}
use Rattle.std.proofs.lemmas.List.{take-map, take-take}
use Rattle.esd_index.specs.Keys.{as_symbol}
use Rattle.esd_index.specs.Parts.{Part}
use Rattle.esd_index.proofs.subset.Subset.go_back.Goals as goal

pub returns : goal.returns
returns c =
    let shorter : map as_symbol c.truncate.new.self.items ≡ take c.self.inside.mark (map as_symbol c.self.inside.keys.items) =
    ap (map as_symbol) c.truncate.ensures.items ∙ sym (take-map as_symbol c.self.inside.mark c.self.inside.keys.items) in
    let marked : take c.self.inside.mark (map as_symbol c.self.inside.keys.items) ≡ c.args.self.now.marked = ap (λ (v : Part). v.marked) c.self.view_is in
    let places : c.self.inside.places.items ≡ c.args.self.now.places = ap (λ (v : Part). v.places) c.self.view_is in
    let all : map as_symbol c.truncate.new.self.items ≡ c.args.self.now.marked = shorter ∙ marked in
    let again : take c.self.inside.mark (take c.self.inside.mark (map as_symbol c.self.inside.keys.items)) ≡ take c.self.inside.mark (map as_symbol c.self.inside.keys.items) = take-take c.self.inside.mark c.self.inside.mark (map as_symbol c.self.inside.keys.items) (omega arith) in
    let mark : take c.self.inside.mark (map as_symbol c.truncate.new.self.items) ≡ c.args.self.now.marked = ap (take c.self.inside.mark) shorter ∙ again ∙ marked in
    cc (all, mark, places)
