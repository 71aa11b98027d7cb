use Rattle.mod_heads.proofs.Recorded.{symbols_fit}
use Rattle.mod_heads.proofs.heads.put_symbols.Goals as goal

pub put_records-requires-clause-items : goal.put_records-requires-clause-items
put_records-requires-clause-items c =
    symbols_fit c.args.list.now c.in_ok-items.items.items c.as_slice.result.now c.in_ok-bytes.bytes.items c.as_slice-2.result.now c.requires.can
    c.in_ok-items.ensures.items c.in_ok-items.ensures.spelled c.as_slice.ensures.value c.in_ok-bytes.ensures c.as_slice-2.ensures.value
