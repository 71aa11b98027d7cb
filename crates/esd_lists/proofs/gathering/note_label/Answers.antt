use Rattle.std.proofs.Common.{◌∙◌, sym}
use Rattle.std.specs.HashMap.{get}
use Rattle.le_bytes.specs.Names.{name_eq}
use Rattle.sym_mod.specs.Kinds.{kind_of, is_label}
use Rattle.esd_index.specs.Keys.{sight}
use Rattle.esd_index.specs.Contents.{now_of}
use Rattle.esd_lists.specs.Gathered.{label_by, label_step}
use Rattle.esd_lists.proofs.Gather.{on_ok, first_other, first_there, first_none, first_put}
use Rattle.esd_lists.proofs.gathering.note_label.Goals as goal

pub returns-then-not-is_label : goal.returns-then-not-is_label
unfolding label_step
returns-then-not-is_label c = λ y. first_other (is_label (kind_of c.args.x.now.item)) (label_by (now_of c.args.index.now) c.args.reads.now (sight c.args.x.now)) c.args.x.now.item.name y (get name_eq c.args.labels.now y) (sym c.is_label.ensures ∙ c.if-not-is_label.true)

pub returns-then-contains_key : goal.returns-then-contains_key
unfolding label_step
returns-then-contains_key c = λ y. first_there (is_label (kind_of c.args.x.now.item)) (label_by (now_of c.args.index.now) c.args.reads.now (sight c.args.x.now)) c.args.x.now.item.name y (get name_eq c.args.labels.now) (sym c.contains_key.ensures ∙ c.if-contains_key.true)

pub returns-in-Some : goal.returns-in-Some
unfolding label_step
returns-in-Some c = on_ok c.put.result _ _ c.put.ensures (λ h y. first_put (is_label (kind_of c.args.x.now.item)) (label_by (now_of c.args.index.now) c.args.reads.now (sight c.args.x.now)) c.args.x.now.item.name y c.in-Some.label (get name_eq c.args.labels.now) (get name_eq c.put.new.map y) (sym c.is_label.ensures ∙ c.if-not-is_label.false) (sym c.label.ensures ∙ c.in-Some.is) (sym c.contains_key.ensures ∙ c.if-contains_key.false) (h y))

pub returns-in-None : goal.returns-in-None
unfolding label_step
returns-in-None c = λ y. first_none (is_label (kind_of c.args.x.now.item)) (label_by (now_of c.args.index.now) c.args.reads.now (sight c.args.x.now)) c.args.x.now.item.name y (get name_eq c.args.labels.now y) (sym c.label.ensures ∙ c.in-None.is)
