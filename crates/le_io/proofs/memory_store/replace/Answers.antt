use Rattle.std.proofs.Common.{◌≡◌, None, Some, ◌∙◌, ap, sym}
use Rattle.std.specs.List.{position}
use Rattle.le_io.specs.Stored.{is_at}
use Rattle.le_io.proofs.FilesLemmas.{files_in-set, files_in-push}
use Rattle.le_io.proofs.memory_store.replace.Goals as goal

pub returns-in-Some-clause-held : goal.returns-in-Some-clause-held
returns-in-Some-clause-held c =
    let found : position (is_at c.args.path.now) c.args.files.now.items ≡ Some c.in-Some.i =
    rw (← c.deref.ensures.value) (sym c.index_of.ensures ∙ c.in-Some.is) in
    (files_in-set c.args.path.now c.args.files.now.items c.in-Some.i c.index_mut.result.now c.in_ok-bytes.bytes found c.index_mut.ensures.value).0 ∙ ap Some c.in_ok-bytes.ensures.items

pub returns-in-Some-clause-others : goal.returns-in-Some-clause-others
returns-in-Some-clause-others c =
    let found : position (is_at c.args.path.now) c.args.files.now.items ≡ Some c.in-Some.i =
    rw (← c.deref.ensures.value) (sym c.index_of.ensures ∙ c.in-Some.is) in
    (files_in-set c.args.path.now c.args.files.now.items c.in-Some.i c.index_mut.result.now c.in_ok-bytes.bytes found c.index_mut.ensures.value).1

pub returns-in_ok-push-in-None-clause-held : goal.returns-in_ok-push-in-None-clause-held
returns-in_ok-push-in-None-clause-held c =
    let none : position (is_at c.args.path.now) c.args.files.now.items ≡ None =
    rw (← c.deref.ensures.value) (sym c.index_of.ensures ∙ c.in-None.is) in
    rw c.in_ok-push-in-None.ensures.items
    ((files_in-push c.args.path.now c.args.files.now.items c.in_ok-name-in-None.name c.in_ok-bytes.bytes none c.in_ok-name-in-None.ensures.ok).0 ∙ ap Some c.in_ok-bytes.ensures.items)

pub returns-in_ok-push-in-None-clause-others : goal.returns-in_ok-push-in-None-clause-others
returns-in_ok-push-in-None-clause-others c =
    let none : position (is_at c.args.path.now) c.args.files.now.items ≡ None =
    rw (← c.deref.ensures.value) (sym c.index_of.ensures ∙ c.in-None.is) in
    rw c.in_ok-push-in-None.ensures.items
    (files_in-push c.args.path.now c.args.files.now.items c.in_ok-name-in-None.name c.in_ok-bytes.bytes none c.in_ok-name-in-None.ensures.ok).1
