-- The program of decks may be written as a member, and stands in it.
use Rattle.std.proofs.Common.{◌≡◌, ℕ, List, [], refl}
use Rattle.std.specs.Prelude.{Ok}
use Rattle.std.specs.List.{AllByRecursion}
use Rattle.std.proofs.lemmas.List.Elements.{All-from_recursion, All-nil, recursion_from_All}
use Rattle.sym_mod.specs.declared.module.Item.{Item}
use Rattle.sym_mod.specs.declared.program.Program.{Program}
use Rattle.sym_mod.specs.Sound.{IsSoundItem, IsSoundProgram}
use Rattle.linking_model.specs.Kept.{Read}
use Rattle.linking_model.specs.Merged.{program_of}
use Rattle.linking_model.specs.Tree.{plain}
use Rattle.member_model.specs.StandsFor.{AreBytes}
use Rattle.esd_lists.proofs.Each.{all_less}
use Rattle.esd_merge.proofs.Sound.{program_sound}
use Rattle.deck_steps.specs.Answers.{IsInRoot}
use Rattle.deck_steps.specs.Decks.{decks_of}
use Rattle.addr_assign.proofs.Moved.{stays_sound}
use Rattle.block_storage.specs.Storage.{alone}
use Rattle.member_laws.proofs.Members.{written_members_stand}
use Rattle.deck_laws.specs.Whole.{LiesInText, IsWholeRead}
use Rattle.deck_laws.specs.Laws.{SoundLabelsLieInText, DecksGiveWholeModules, DecksGiveSoundModules, root_program, DeckProgramsAreLinkable, DefaultPointsLieInRoot, named_alone, RootProgramsStand, DeckProgramsStand}
use Rattle.deck_laws.proofs.Deck.{in_text}
use Rattle.deck_laws.proofs.Decks.{IsGood, modules_good, modules_merged}
use Rattle.deck_laws.proofs.Entries.{entered}
use Rattle.deck_laws.proofs.Linkable.{root_linkable}

pub sound_labels : SoundLabelsLieInText
sound_labels m sound =
    All-from_recursion (λ (x : Item). LiesInText m.items x x.kind) m.items
    (all_less (IsSoundItem m.items) (λ (x : Item). LiesInText m.items x x.kind) (λ x is. in_text m.items x x.kind is.owner) m.items
    (recursion_from_All (IsSoundItem m.items) m.items sound.items))

pub decks_whole : DecksGiveWholeModules
decks_whole cards rs is =
    let good : AllByRecursion IsGood rs = modules_good cards rs is in
    record {
      whole = All-from_recursion IsWholeRead rs (all_less IsGood IsWholeRead (λ r both. both.0) rs good);
      root = All-from_recursion IsInRoot rs (all_less IsGood IsInRoot (λ r both. both.1) rs good);
    }

pub decks_sound : DecksGiveSoundModules
decks_sound cards rs bytes is = modules_merged cards rs bytes is

program_sound_of : (cards : List ℕ) (rs : List Read) → AreBytes cards → decks_of cards ≡ Ok rs → IsSoundProgram (root_program rs)
program_sound_of cards rs bytes is = stays_sound plain.tree [] (program_of rs) (root_program rs) refl (program_sound rs (modules_merged cards rs bytes is))

pub decks_linkable : DeckProgramsAreLinkable
decks_linkable cards rs bytes is fits = root_linkable rs (decks_whole cards rs is) (program_sound_of cards rs bytes is) fits

pub points_in_root : DefaultPointsLieInRoot
points_in_root P sound root = entered P.program sound root

pub root_stand : RootProgramsStand
root_stand rs name scatter n modules sound fits whole some most =
    let p : Program = root_program rs in
    written_members_stand (alone p) scatter n (named_alone name p) (root_linkable rs modules sound fits)
    (record { scatter_alone = λ asked. refl; some = some; most = most })
    (record { name = whole; point = points_in_root (alone p) sound fits.root; aliases = All-nil _ })

pub decks_stand : DeckProgramsStand
decks_stand cards rs name scatter n bytes is fits whole some most =
    root_stand rs name scatter n (decks_whole cards rs is) (program_sound_of cards rs bytes is) fits whole some most
