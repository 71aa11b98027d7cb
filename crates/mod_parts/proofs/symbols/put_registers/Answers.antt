use Rattle.std.proofs.Common.{◌<◌, ◌∙◌, arith, ap, length, slice_index}
use Rattle.linking_model.specs.Points.{displacements}
use Rattle.mod_parts.proofs.Addressed.{IsAt, register_at, register_near}
use Rattle.mod_parts.proofs.Symbolled.{register_more, registers_all, spelled_more}
use Rattle.mod_parts.proofs.symbols.put_registers.Goals as goal

pub bounds-as_slice-i : goal.bounds-as_slice-i
bounds-as_slice-i c =
    let low : c.loop-i.i < length c.args.list.now.program.registers =
    omega (arith, c.loop-i-test.true, ap length c.as_slice-registers.ensures, ap (λ p. length p.registers) c.program.ensures.program) in
    let at : IsAt c.args.a.now.registers c.loop-i.i (slice_index (displacements 0 c.args.list.now.program.registers) c.loop-i.i) =
    register_at c.args.list.now c.args.a.now c.loop-i.i c.requires.places low in
    omega (arith, at.inside, ap length c.as_slice.ensures)

pub register_symbol-requires-clause-near : goal.register_symbol-requires-clause-near
register_symbol-requires-clause-near c =
    let low : c.loop-i.i < length c.args.list.now.program.registers =
    omega (arith, c.loop-i-test.true, ap length c.as_slice-registers.ensures, ap (λ p. length p.registers) c.program.ensures.program) in
    let at : IsAt c.args.a.now.registers c.loop-i.i (slice_index (displacements 0 c.args.list.now.program.registers) c.loop-i.i) =
    register_at c.args.list.now c.args.a.now c.loop-i.i c.requires.places low in
    omega (
      arith,
      ap (λ l. slice_index l c.loop-i.i) c.as_slice.ensures ∙ at.value,
      register_near c.args.list.now c.args.a.now c.loop-i.i c.requires.places c.program.ensures.can low,
    )

pub loop-i-preserved : goal.loop-i-preserved
loop-i-preserved c =
    let low : c.loop-i.i < length c.args.list.now.program.registers =
    omega (arith, c.loop-i-test.true, ap length c.as_slice-registers.ensures, ap (λ p. length p.registers) c.program.ensures.program) in
    let at : IsAt c.args.a.now.registers c.loop-i.i (slice_index (displacements 0 c.args.list.now.program.registers) c.loop-i.i) =
    register_at c.args.list.now c.args.a.now c.loop-i.i c.requires.places low in (
      register_more c.args.list.now.program.registers c.as_slice-registers.result.now c.loop-i.i _ (slice_index c.as_slice.result.now c.loop-i.i)
          c.args.items.now.items c.loop-i.items.items c.push.new.self.items c.register_symbol.result
          (c.as_slice-registers.ensures ∙ ap (λ p. p.registers) c.program.ensures.program)
          c.loop-i-test.true c.loop-i.invariant.0 (ap (λ l. slice_index l c.loop-i.i) c.as_slice.ensures ∙ at.value) c.register_symbol.ensures.item c.in_ok-push.ensures.items,
      spelled_more c.loop-i.items.items c.push.new.self.items c.register_symbol.result c.loop-i.invariant.1 c.register_symbol.ensures.spelled c.in_ok-push.ensures.items,
    )

pub returns-clause-items : goal.returns-clause-items
returns-clause-items c =
    registers_all c.args.list.now.program.registers c.loop-i.i c.args.items.now.items c.loop-i.items.items
    (omega (arith, c.loop-i-test.false, ap length c.as_slice-registers.ensures, ap (λ p. length p.registers) c.program.ensures.program)) c.loop-i.invariant.0
