use Rattle.std.proofs.Common.{◌<◌, List, All, length, sym, ap, subst, ◌∙◌}
use Rattle.sym_mod.specs.declared.program.Constant.{Constant}
use Rattle.mod_write.proofs.Chaining.{in_sections}
use Rattle.mod_write.proofs.items.chains.Goals as goal

pub new-requires : goal.new-requires
new-requires c =
    let p = c.args.list.now.program in
    subst (λ (cs : List Constant). All (λ (k : Constant). k.section < c.len.result) cs) (sym (c.as_slice.ensures ∙ ap (λ p. p.constants) c.program-program.ensures.program))
    (subst (λ n. All (λ (k : Constant). k.section < n) p.constants) (sym (c.len.ensures ∙ ap (λ p. length p.sections) c.program-program.ensures.program))
    (in_sections p c.program-program.ensures.can.sound))
