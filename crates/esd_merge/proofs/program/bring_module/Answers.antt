use Rattle.std.proofs.Common.{◌∙◌}
use Rattle.std.specs.HashMap.{get}
use Rattle.le_bytes.specs.Names.{name_eq}
use Rattle.esd_index.specs.Contents.{now_of}
use Rattle.esd_lists.proofs.Gather.{on_ok}
use Rattle.esd_merge.proofs.ItemTables.{constants_are, texts_are}
use Rattle.esd_merge.proofs.program.bring_module.Goals as goal

pub returns-clause-constants : goal.returns-clause-constants
returns-clause-constants c = on_ok c.add_texts.result _ _ c.add_texts.ensures (λ texts.
    c.in_ok-add_constants.ensures
    ∙ constants_are (now_of c.args.index.now) (get name_eq c.args.meanings.now.labels) (get name_eq c.args.meanings.now.unknowns) c.args.brought.now.constants c.args.number c.args.reading
    c.fill.new.self.homes.items c.fill.new.self.targets.items c.as_slice.result.now c.as_slice-2.result.now c.as_slice-3.result.now
    c.in_ok-fill.ensures.homes c.in_ok-fill.ensures.targets c.as_slice.ensures c.as_slice-2.ensures c.as_slice-3.ensures)

pub returns-clause-texts : goal.returns-clause-texts
returns-clause-texts c = on_ok c.add_texts.result _ _ c.add_texts.ensures (λ texts.
    texts
    ∙ texts_are (now_of c.args.index.now) c.args.brought.now.texts c.args.number c.args.reading
    c.fill.new.self.homes.items c.as_slice.result.now c.as_slice-2.result.now c.into_vec.result.items
    c.in_ok-fill.ensures.homes c.as_slice.ensures c.as_slice-2.ensures c.into_vec.ensures)
