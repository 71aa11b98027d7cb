use Rattle.std.proofs.Common.{◌≡◌, ◌∙◌, ap, sym, List, map, Some, None, position}
use Rattle.linking_model.specs.Kept.{Read, ByName, symbol_eq, section_number}
use Rattle.linking_model.specs.Merged.{definition}
use Rattle.esd_index.specs.Contents.{now_of}
use Rattle.esd_lists.specs.Held.{as_read}
use Rattle.esd_lists.proofs.Parts.{number_is}
use Rattle.esd_merge.proofs.Few.{is_small}
use Rattle.esd_merge.proofs.Defining.{in_section, at_label}
use Rattle.esd_merge.proofs.merged.Merged.define.Goals as goal

pub section_near-requires : goal.section_near-requires
section_near-requires c = is_small (map as_read c.self.inside.reads.items) (now_of c.self.inside.index) c.self.invariant.merged c.self.invariant.indexed

pub label-requires : goal.label-requires
label-requires c = is_small (map as_read c.self.inside.reads.items) (now_of c.self.inside.index) c.self.invariant.merged c.self.invariant.indexed

pub returns-in-Some : goal.returns-in-Some
returns-in-Some c =
    let rs : List Read = map as_read c.self.inside.reads.items in
    let number : section_number rs (ByName c.args.n.now) ≡ Some c.in-Some.number =
    ap (position (symbol_eq (ByName c.args.n.now))) (sym (number_is rs (now_of c.self.inside.index) c.self.invariant.indexed)) ∙ sym c.section_near.ensures ∙ c.in-Some.is in
    in_section rs c.args.n.now c.in-Some.number number ∙ ap (λ (zs : List Read). definition zs c.args.n.now) c.self.view_is

pub returns-in-None : goal.returns-in-None
returns-in-None c =
    let rs : List Read = map as_read c.self.inside.reads.items in
    let number : section_number rs (ByName c.args.n.now) ≡ None =
    ap (position (symbol_eq (ByName c.args.n.now))) (sym (number_is rs (now_of c.self.inside.index) c.self.invariant.indexed)) ∙ sym c.section_near.ensures ∙ c.in-None.is in
    c.label.ensures ∙ at_label rs (now_of c.self.inside.index) c.args.n.now c.self.invariant.indexed number ∙ ap (λ (zs : List Read). definition zs c.args.n.now) c.self.view_is
