-- Where no reference is refused, each exclusive one has a holder.
use Rattle.std.proofs.Common.{◌≡◌, Bool, true, false, not, ◌&&◌, filter_map, is_some, refl, sym}
use Rattle.std.proofs.lemmas.Bool.{false≢true}
use Rattle.linking_model.specs.Names.{in_order}
use Rattle.linking_model.specs.Tables.{Reference, reference, comes_before, is_exclusive, holder, is_refused, refused_reference}
use Rattle.member_laws.proofs.LoadingLists.{each_weaker, not_found, none_found}
use Rattle.run_laws.specs.Needed.{AcceptedReferencesHaveHolders}

accepted : (exclusive xcal held : Bool) → (exclusive && not (xcal && held)) ≡ false → (exclusive && not (true && held)) ≡ false
accepted false xcal held fine = refl
accepted true true held fine = fine
accepted true false held fine = absurd (false≢true (sym fine))

pub accepted_references_have_holders : AcceptedReferencesHaveHolders
unfolding refused_reference
accepted_references_have_holders p tree xcal none =
    none_found (is_refused p tree true) (in_order comes_before (filter_map (reference p) p.constants))
    (each_weaker (λ (x : Reference). is_refused p tree xcal x ≡ false) (λ (x : Reference). is_refused p tree true x ≡ false) _
    (λ x fine. accepted (is_exclusive p tree x.segment x.target) xcal (is_some (holder p tree x.segment x.target)) fine)
    (not_found (is_refused p tree xcal) (in_order comes_before (filter_map (reference p) p.constants)) none))
