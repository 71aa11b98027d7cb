use Rattle.std.proofs.Common.{◌≡◌, ◌+◌, ◌*◌, get_or, All, refl, sym, ap, subst, ◌∙◌}
use Rattle.sym_mod.specs.declared.program.Target.{Target}
use Rattle.sym_mod.specs.declared.program.Target.TheVariants.{Section as InSection}
use Rattle.linking_model.specs.Places.{entries_of}
use Rattle.load_recs.specs.declared.items.RldItem.{RldItem}
use Rattle.relocate.specs.Listed.{table_of}
use Rattle.relocate.specs.Ready.{IsDefinedIn}
use Rattle.mod_write.proofs.Entries.{all_defined, entries_more, entries_whole}
use Rattle.mod_write.proofs.Ready.{defined_target}
use Rattle.mod_write.proofs.items.entry_items.Goals as goal
use Rattle.mod_write.proofs.items.entry_items.Goals.{After-entries_of-entries}

table_is : (c : After-entries_of-entries) → c.entries_of-entries.result.now ≡ entries_of c.args.list.now c.args.segment
table_is c = c.entries_of-entries.ensures ∙ ap (λ e. table_of e c.args.segment) c.tables.ensures.tables

pub number_of_target-requires : goal.number_of_target-requires
number_of_target-requires c =
    let same = table_is (goal.at.number_of_target-requires c).After-entries_of-entries in
    defined_target c.args.list.now.program (get_or c.entries_of-entries.result.now c.loop-i.i (InSection 0))
    (subst (All (IsDefinedIn c.args.list.now.program)) (sym same) (all_defined c.args.list.now c.args.segment c.requires.planned) c.loop-i.i (InSection 0) c.loop-i-test.true)

pub loop-i-preserved : goal.loop-i-preserved
loop-i-preserved c =
    let target : Target = get_or c.entries_of-entries.result.now c.loop-i.i (InSection 0) in
    let item : RldItem = record { r = c.from.result; p = c.from-p.result; flag = 12; address = c.place_of-first.result + 12 + 12 * c.loop-i.i } in
    let number = c.number_of_target.ensures in
    let r = c.from.ensures in
    let own = c.number_of.ensures in
    let p = c.from-p.ensures in
    let place = c.place_of-first.ensures.place in
    entries_more c.args.list.now c.args.segment c.loop-i.i c.entries_of-entries.result.now target (InSection 0) c.loop-i.items.items c.push.new.self.items item
    c.loop-i-test.true refl c.loop-i.invariant (cc) c.in_ok-push.ensures.items

pub returns : goal.returns
returns c =
    entries_whole c.args.list.now c.args.segment c.loop-i.i c.entries_of-entries.result.now c.loop-i.items.items
    (table_is (goal.at.returns c).After-entries_of-entries) c.loop-i-test.false c.loop-i.invariant
