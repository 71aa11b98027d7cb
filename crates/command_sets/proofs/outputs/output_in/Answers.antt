use Rattle.std.proofs.Common.{◌≡◌, ◌∷◌, All, false, List, sym, ◌∙◌, ap, subst}
use Rattle.std.proofs.lemmas.List.Elements.{All-tail}
use Rattle.std.specs.Vec.Iter.{into_iter_items}
use Rattle.le_bytes.specs.Names.{name_eq}
use Rattle.command_words.specs.Keys.{syslmod}
use Rattle.pds_directory.specs.declared.kinds.Version.{Version}
use Rattle.pds_lib.specs.declared.set.Set.{Set}
use Rattle.command_sets.specs.Reading.{IsReadBody}
use Rattle.command_sets.specs.Libraries.{output_in}
use Rattle.command_sets.proofs.OutputSets.{is_passed}
use Rattle.command_sets.proofs.outputs.output_in.Goals as goal

-- one set passed over
passed : (new : Version) (x : Set) (items rest whole : List Set) → items ≡ x ∷ rest → name_eq x.dd syslmod ≡ false
    → (output_in new items ≡ output_in new whole) × All (λ (x : Set). IsReadBody x.body) items → (output_in new rest ≡ output_in new whole) × All (λ (x : Set). IsReadBody x.body) rest
passed new x items rest whole is other so_far =
    (sym (is_passed new x rest other) ∙ (sym (ap (output_in new) is) ∙ so_far.0), All-tail (λ (x : Set). IsReadBody x.body) x rest (subst (All (λ (x : Set). IsReadBody x.body)) is so_far.1))

pub loop-set-preserved-else-eq : goal.loop-set-preserved-else-eq
loop-set-preserved-else-eq c =
    passed c.args.new c.in-Some.set (into_iter_items c.loop-set.set-iterator) (into_iter_items c.next.new.self) (into_iter_items c.into_iter-set-iterator.result)
    c.in-Some.ensures.steps.0 (sym c.eq.ensures ∙ c.if-eq.false) c.loop-set.invariant

pub loop-set-preserved : goal.loop-set-preserved
loop-set-preserved c =
    passed c.args.new c.in-Some.set (into_iter_items c.loop-set.set-iterator) (into_iter_items c.next.new.self) (into_iter_items c.into_iter-set-iterator.result)
    c.in-Some.ensures.steps.0 (sym c.eq.ensures ∙ c.if-eq.false) c.loop-set.invariant
