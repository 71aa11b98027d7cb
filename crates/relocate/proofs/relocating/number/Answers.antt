use Rattle.std.proofs.Common.{◌∙◌, ap, sym, subst}
use Rattle.linking_model.specs.Tables.{only_target}
use Rattle.sym_mod.specs.Sound.{IsSymbolOf}
use Rattle.relocate.specs.Ready.{laid}
use Rattle.relocate.proofs.Bounds.{are_small, section_of_constant, branch_symbol}
use Rattle.relocate.proofs.relocating.number.Goals as goal

pub summed-requires-clause-small : goal.summed-requires-clause-small
summed-requires-clause-small c = are_small (laid c.args.p.now c.args.tree.now c.args.t.now) c.args.a.now c.requires.fit

pub branch_address-requires-clause-small : goal.branch_address-requires-clause-small
branch_address-requires-clause-small c = are_small (laid c.args.p.now c.args.tree.now c.args.t.now) c.args.a.now c.requires.fit

pub branch_address-requires-clause-first : goal.branch_address-requires-clause-first
branch_address-requires-clause-first c =
    rw c.segment_of_section-segment.ensures
    ((section_of_constant (laid c.args.p.now c.args.tree.now c.args.t.now) c.args.a.now c.args.c.now c.requires.fit c.requires.sound).0)

pub branch_address-requires-clause-last : goal.branch_address-requires-clause-last
branch_address-requires-clause-last c =
    rw c.segment_of_section-segment.ensures
    ((section_of_constant (laid c.args.p.now c.args.tree.now c.args.t.now) c.args.a.now c.args.c.now c.requires.fit c.requires.sound).1)

pub branch_address-requires-clause-symbol : goal.branch_address-requires-clause-symbol
branch_address-requires-clause-symbol c =
    subst (IsSymbolOf c.args.p.now) (sym (c.only_target-target.ensures ∙ ap only_target c.as_slice-in-Branch.ensures))
    (branch_symbol c.args.p.now c.args.c.now c.requires.sound c.in-Branch.is)

pub returns-in-Address-clause-value : goal.returns-in-Address-clause-value
returns-in-Address-clause-value c = rw (c.in-Address.is, ← c.as_slice.ensures, ← c.modulus-modulus.ensures.value) c.summed.ensures.value
