use Rattle.std.proofs.Common.{◌≡◌, ◌∙◌, ap, sym, List, map, subst}
use Rattle.std.specs.HashMap.{get}
use Rattle.le_bytes.specs.Names.{name_eq}
use Rattle.sym_mod.specs.Sound.{IsSoundProgram}
use Rattle.linking_model.specs.Kept.{Read}
use Rattle.linking_model.specs.Merged.{program_of}
use Rattle.esd_index.specs.Contents.{now_of}
use Rattle.esd_lists.specs.declared.reading.Reading.{Reading}
use Rattle.esd_lists.specs.Held.{as_read}
use Rattle.esd_lists.specs.Indexed.{Holds}
use Rattle.esd_lists.specs.Numbered.{Means}
use Rattle.esd_merge.proofs.Few.{is_small}
use Rattle.esd_merge.proofs.Brought.{constants_are, texts_are, starts_are}
use Rattle.esd_merge.proofs.Whole.{program_is}
use Rattle.esd_merge.proofs.Sound.{program_sound}
use Rattle.esd_merge.proofs.merged.Merged.program.Goals as goal

pub of-requires : goal.of-requires
of-requires c = record {
  holds = subst (λ (xs : List Reading). Holds (now_of c.self.inside.index) xs) (sym c.as_slice.ensures.value) (record {
    indexed = c.self.invariant.indexed;
    marked = c.self.invariant.marked;
    small = is_small (map as_read c.self.inside.reads.items) (now_of c.self.inside.index) c.self.invariant.merged c.self.invariant.indexed;
  });
}

pub bring-requires : goal.bring-requires
bring-requires c = is_small (map as_read c.self.inside.reads.items) (now_of c.self.inside.index) c.self.invariant.merged c.self.invariant.indexed

pub returns-clause-program : goal.returns-clause-program
returns-clause-program c =
    let rs : List Read = map as_read c.self.inside.reads.items in
    let same : map as_read c.as_slice.result.now ≡ rs = ap (map as_read) c.as_slice.ensures.value in
    let holds : Holds (now_of c.self.inside.index) c.self.inside.reads.items = record {
      indexed = c.self.invariant.indexed;
      marked = c.self.invariant.marked;
      small = is_small rs (now_of c.self.inside.index) c.self.invariant.merged c.self.invariant.indexed;
    } in
    let means : Means rs (get name_eq c.in_ok-lists.lists.meanings.labels) (get name_eq c.in_ok-lists.lists.meanings.unknowns) = rw same at c.in_ok-lists.ensures.meanings in
    let constants = c.in_ok-brought.ensures.constants ∙ constants_are (now_of c.self.inside.index) c.self.inside.reads.items (get name_eq c.in_ok-lists.lists.meanings.labels) (get name_eq c.in_ok-lists.lists.meanings.unknowns) holds means in
    let texts = c.in_ok-brought.ensures.texts ∙ texts_are (now_of c.self.inside.index) c.self.inside.reads.items holds in
    let starts = c.in_ok-brought.ensures.starts ∙ starts_are (now_of c.self.inside.index) c.self.inside.reads.items holds in
    c.with.ensures
    ∙ program_is rs c.in_ok-lists.lists.sections c.in_ok-lists.lists.labels c.in_ok-lists.lists.unresolved c.in_ok-lists.lists.registers c.in_ok-brought.brought.texts c.in_ok-brought.brought.constants c.in_ok-brought.brought.starts
    (rw same at c.in_ok-lists.ensures.sections) (rw same at c.in_ok-lists.ensures.labels) (rw same at c.in_ok-lists.ensures.unresolved) (rw same at c.in_ok-lists.ensures.registers) texts constants starts
    ∙ ap program_of c.self.view_is

pub returns-clause-sound : goal.returns-clause-sound
returns-clause-sound c =
    let value : c.with.result ≡ program_of c.args.self = returns-clause-program c in
    subst IsSoundProgram (sym value) (subst (λ (rs : List Read). IsSoundProgram (program_of rs)) c.self.view_is (program_sound (map as_read c.self.inside.reads.items) c.self.invariant.merged))
