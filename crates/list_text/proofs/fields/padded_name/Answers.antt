use Rattle.std.proofs.Common.{rules}
use Rattle.le_bytes.specs.Codes.{ascii_of}
use Rattle.map_list.proofs.Names.{mapped_eight}
use Rattle.list_text.specs.Padded.{padded_name}
use Rattle.list_text.proofs.fields.padded_name.Goals as goal

pub returns : goal.returns
unfolding padded_name
returns c =
    mapped_eight ascii_of c.args.name.now.0 _ _ _ _ _ _ _ _ (search rules)
    c.to_ascii.ensures c.to_ascii-2.ensures c.to_ascii-3.ensures c.to_ascii-4.ensures
    c.to_ascii-5.ensures c.to_ascii-6.ensures c.to_ascii-7.ensures c.to_ascii-8.ensures
