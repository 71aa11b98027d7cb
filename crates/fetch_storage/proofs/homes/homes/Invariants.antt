use Rattle.std.proofs.Common.{◌≡◌, map, take, count_by}
use Rattle.std.specs.List.{range_with_len}
use Rattle.member_model.specs.Symbols.{is_section}
use Rattle.fetch_storage.specs.Homes.{home_by}
use Rattle.fetch_storage.proofs.homes.homes.Given as goal

abbrev pub invariant-loop-item : goal.invariant-loop-item
invariant-loop-item l = record {
  made : l.homes.items ≡ map (home_by l.items l.p) (range_with_len 1 l.item-index);
  counted : l.sections ≡ count_by is_section (take l.item-index l.items);
}
