use Rattle.mod_heads.proofs.Recorded.{scatter_fit, translation_fit}
use Rattle.mod_heads.proofs.heads.put_scatter_list.Goals as goal

pub put_records-requires-clause-items : goal.put_records-requires-clause-items
put_records-requires-clause-items c =
    scatter_fit c.args.list.now c.in_ok-addresses.addresses.items c.as_slice.result.now c.requires.can c.in_ok-addresses.ensures c.as_slice.ensures.value

pub put_records-requires-2-clause-items : goal.put_records-requires-2-clause-items
put_records-requires-2-clause-items c =
    translation_fit c.args.list.now c.in_ok-numbers.numbers.items c.as_slice-2.result.now c.requires.can c.in_ok-numbers.ensures c.as_slice-2.ensures.value
