-- The module of a deck of byte cards is sound: the facts that its cards give are kept from card to card.
use Rattle.std.proofs.Common.{◌≡◌, ℕ, ◌+◌, List, [], ◌∷◌, Option, Some, None, Result, Ok, Err, refl, sym, subst}
use Rattle.std.specs.Prelude.{IfOk}
use Rattle.std.specs.List.{AllByRecursion}
use Rattle.le_bytes.specs.declared.card_what.CardWhat.{CardWhat}
use Rattle.obj_cards.specs.declared.card.EndStart.{EndStart}
use Rattle.obj_cards.specs.Cards.{card_of}
use Rattle.obj_cards.proofs.RldLaws.{IsBytes}
use Rattle.sym_mod.specs.declared.module.SymModule.{SymModule}
use Rattle.sym_mod.specs.Sound.{IsSoundModule}
use Rattle.obj_read.specs.declared.facts.Facts.{Facts}
use Rattle.obj_read.specs.declared.gathering.Step.{Step}
use Rattle.obj_read.specs.Decks.{Read as DeckRead, deck_of}
use Rattle.obj_read.specs.Kept.{IsKept, EndsWell}
use Rattle.obj_read.specs.Steps.{step_of, goes_on, next, deck_from}
use Rattle.obj_read.proofs.Decks.{deck_is}
use Rattle.obj_read.proofs.Kept.{kept_step, nothing_kept}
use Rattle.obj_read.proofs.Sound.{sound_made}
use Rattle.deck_laws.proofs.Deck.{IsLong}
use Rattle.deck_laws.proofs.InRange.{card_good}

-- 80 bytes
abbrev pub IsByteCard : List ℕ → Type 0
IsByteCard card = IsLong card × IsBytes card

abbrev IsSoundDeck : DeckRead → Type 0
IsSoundDeck r = IfOk r (λ (x : SymModule × ℕ). IsSoundModule x.0)

start_sound : (go : Facts → DeckRead) (n : ℕ) (f : Facts) (o : Option EndStart) → IsKept f → EndsWell f o → ((g : Facts) → IsKept g → IsSoundDeck (go g))
    → IsSoundDeck (goes_on go n f o)
start_sound go n f (Some start) kept well later = sound_made f start kept well
start_sound go n f None kept well later = later f kept

next_sound : (go : Facts → DeckRead) (n : ℕ) (r : Result Step CardWhat) → ((step : Step) → r ≡ Ok step → IsKept step.facts × EndsWell step.facts step.start)
    → ((g : Facts) → IsKept g → IsSoundDeck (go g)) → IsSoundDeck (next go n r)
next_sound go n (Err what) kept later = tt
next_sound go n (Ok step) kept later = let both = kept step refl in start_sound go n step.facts step.start both.0 both.1 later

from_sound : (cards : List (List ℕ)) (f : Facts) (n : ℕ) → AllByRecursion IsByteCard cards → IsKept f → IsSoundDeck (deck_from f n cards)
unfolding deck_from
from_sound [] f n all kept = tt
from_sound (card ∷ cards) f n all kept =
    next_sound (λ g. deck_from g (n + 1) cards) n (step_of f (card_of card))
    (λ step is. kept_step f (card_of card) step (card_good card all.0.0 all.0.1) is kept)
    (λ g more. from_sound cards g (n + 1) all.1 more)

pub deck_sound : (cards : List (List ℕ)) → AllByRecursion IsByteCard cards → IfOk (deck_of cards) (λ (x : SymModule × ℕ). IsSoundModule x.0)
deck_sound cards all = subst IsSoundDeck (sym (deck_is cards)) (from_sound cards (record { items = []; texts = []; terms = [] }) 0 all nothing_kept)
