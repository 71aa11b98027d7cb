use Rattle.std.proofs.Common.{◌≡◌, ◌∙◌, ap, sym, map, take, arith}
use Rattle.std.proofs.lemmas.List.{take-map, take-take}
use Rattle.esd_index.specs.Keys.{as_symbol}
use Rattle.esd_index.specs.Marked.{Marked}
use Rattle.esd_index.proofs.symbols.Symbols.go_back.Goals as goal

pub returns : goal.returns
returns c =
    let shorter : map as_symbol c.truncate.new.self.keys ≡ take c.self.inside.mark (map as_symbol c.self.inside.keys.keys) =
    ap (map as_symbol) c.truncate.ensures.keys ∙ sym (take-map as_symbol c.self.inside.mark c.self.inside.keys.keys) in
    let marked : take c.self.inside.mark (map as_symbol c.self.inside.keys.keys) ≡ c.args.self.now.marked = ap (λ (v : Marked). v.marked) c.self.view_is in
    let all : map as_symbol c.truncate.new.self.keys ≡ c.args.self.now.marked = shorter ∙ marked in
    let again : take c.self.inside.mark (take c.self.inside.mark (map as_symbol c.self.inside.keys.keys)) ≡ take c.self.inside.mark (map as_symbol c.self.inside.keys.keys) = take-take c.self.inside.mark c.self.inside.mark (map as_symbol c.self.inside.keys.keys) (omega arith) in
    let mark : take c.self.inside.mark (map as_symbol c.truncate.new.self.keys) ≡ c.args.self.now.marked = ap (take c.self.inside.mark) shorter ∙ again ∙ marked in
    cc (all, mark)
