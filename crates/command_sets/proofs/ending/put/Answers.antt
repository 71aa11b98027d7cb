use Rattle.std.proofs.Common.{map, string_bytes, subst, sym}
use Rattle.std.specs.Prelude.{IsSomeAnd}
use Rattle.le_io.specs.Reads.{PutsTold}
use Rattle.command_sets.specs.Ending.{PutTold}
use Rattle.command_sets.proofs.Statuses.{some_so, put_told}
use Rattle.command_sets.proofs.ending.put.Goals as goal

pub returns-in-Some-clause-told : goal.returns-in-Some-clause-told
returns-in-Some-clause-told g c files told =
    subst (λ o. IsSomeAnd (g.S.Store.told c.put.new.self) (λ now. PutTold (map string_bytes c.args.request.now.words.now) files now o c.put.result)) (sym c.in-Some.is)
    (some_so (g.S.Store.told c.put.new.self) (c.put.ensures.told files told)
    (λ now puts. put_told (map string_bytes c.args.request.now.words.now) files now c.in-Some.put c.path_for.result.now c.put.result c.path_for.ensures
    (subst (λ bytes. PutsTold files now c.path_for.result.now bytes c.put.result) c.as_slice.ensures puts)))
