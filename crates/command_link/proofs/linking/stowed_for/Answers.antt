use Rattle.std.proofs.Common.{◌≡◌, false, All, subst, sym, Err}
use Rattle.command_words.specs.Seen.{words_of}
use Rattle.le_bytes.specs.Names.{name_eq}
use Rattle.pds_lib.specs.Stow.{last_name}
use Rattle.link_core.specs.Sets.{primary_cards}
use Rattle.link_core.specs.Linking.{linking, LinksAs}
use Rattle.command_link.proofs.Names.{not_last}
use Rattle.command_sets.specs.Reading.{IsReadSet}
use Rattle.command_link.proofs.PrimarySets.{primary_short}
use Rattle.command_link.proofs.Refusals.{none_before, own_linking}
use Rattle.command_link.proofs.linking.stowed_for.Goals as goal

pub stowed_of-requires-clause-stowable : goal.stowed_of-requires-clause-stowable
stowed_of-requires-clause-stowable c =
    c.in-Ok.ensures.stowable
    (subst (λ o. name_eq last_name o.member ≡ false) (sym c.linking_options-options.ensures) (not_last (words_of c.args.request.now)))

pub refused_after-requires-clause-stowable : goal.refused_after-requires-clause-stowable
refused_after-requires-clause-stowable c =
    none_before c.linking_options-options.result (primary_cards c.as_slice-2.result.now) c.in-Err-Refused.refusal c.in-Err-Refused.before
    (subst (λ f. LinksAs (linking c.linking_options-options.result (primary_cards c.as_slice-2.result.now)) (Err f)) c.in-Err-Refused.field-0-is c.in-Err-Refused.ensures.modules)

pub link-linked-requires-clause-short : goal.link-linked-requires-clause-short
link-linked-requires-clause-short c =
    primary_short (words_of c.args.request.now) c.as_slice-2.result.now
    (subst (All (IsReadSet (words_of c.args.request.now))) (sym c.as_slice-2.ensures) c.requires.read)
