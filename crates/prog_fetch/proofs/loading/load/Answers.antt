use Rattle.std.proofs.Common.{rules}
use Rattle.prog_fetch.proofs.Finishing.{entry_from, entry_near, fields_lie_as, gives_parts}
use Rattle.prog_fetch.proofs.loading.load.Goals as goal

pub address_of-entry-requires-clause-from : goal.address_of-entry-requires-clause-from
address_of-entry-requires-clause-from c =
    search (rules, entry_from c.args.task.now.entry.now c.args.task.now.placement.now c.args.walk c.args.parts c.requires.placement c.requires.laid c.requires.good)

pub address_of-entry-requires-clause-near : goal.address_of-entry-requires-clause-near
address_of-entry-requires-clause-near c =
    search (rules, entry_near c.args.task.now.entry.now c.args.task.now.placement.now c.args.walk c.args.parts c.requires.placement c.requires.laid c.requires.good c.requires.fits)

pub relocate-requires : goal.relocate-requires
relocate-requires c =
    search (
      rules,
      fields_lie_as c.args.task.now.entry.now c.args.task.now.placement.now c.args.walk c.args.parts c.into_parts-symbols.result.fields.items
          c.requires.placement c.requires.laid c.into_parts-symbols.ensures.fields,
    )

pub returns : goal.returns
returns c =
    search (
      rules,
      gives_parts c.args.task.now.entry.now c.args.task.now.placement.now c.args.walk c.args.parts c.args.count c.into_parts-symbols.result.fields.items c.from.result
          c.requires.placement c.requires.good c.requires.fits c.into_parts-symbols.ensures.fields,
    )
