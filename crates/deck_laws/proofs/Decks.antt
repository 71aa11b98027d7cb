-- The modules of a primary input: whole, in the root, and sound, since each deck is.
use Rattle.std.proofs.Common.{arith, ◌≡◌, ℕ, zero, suc, ◌+◌, ◌-◌, ◌*◌, ◌/◌, ◌<◌, ◌≤◌, nat_lt, cond, Bool, true, false, List, [], ◌∷◌, length, map, take, drop, Option, Some, None, Result, Ok, Err, refl, subst, length-drop}
use Rattle.std.specs.Prelude.{IfOk}
use Rattle.std.specs.List.{AllByRecursion, range_with_len}
use Rattle.std.proofs.lemmas.List.{length-take-le}
use Rattle.le_bytes.specs.declared.name.Name.{Name}
use Rattle.obj_cards.specs.declared.card.Card.{Card}
use Rattle.obj_cards.specs.declared.card.Card.TheVariants.{Esd, Txt, Rld, End, Sym, Statement, Comment}
use Rattle.obj_cards.specs.declared.fault.CardFault.{CardFault}
use Rattle.obj_cards.specs.Cards.{card_of}
use Rattle.obj_cards.proofs.RldLaws.{IsBytes}
use Rattle.obj_read.specs.Decks.{Read as DeckRead, deck_of}
use Rattle.sym_mod.specs.declared.module.SymModule.{SymModule}
use Rattle.sym_mod.specs.Sound.{IsSoundModule}
use Rattle.linking_model.specs.Kept.{Read}
use Rattle.linking_model.specs.Merged.{double_definition, symbol_count}
use Rattle.member_model.specs.StandsFor.{AreBytes}
use Rattle.esd_merge.specs.declared.fault.MergeFault.{MergeFault}
use Rattle.esd_merge.specs.declared.fault.MergeFault.TheVariants.{DoubleDefinition, TooManySymbols, Memory}
use Rattle.esd_merge.specs.Added.{with_module, merge_fault, IsMerged}
use Rattle.esd_lists.proofs.Each.{all_join}
use Rattle.esd_merge.proofs.Joining.{none_merged, next_merged}
use Rattle.deck_steps.specs.declared.fault.DeckFault.{DeckFault}
use Rattle.deck_steps.specs.Answers.{IsInRoot}
use Rattle.deck_steps.specs.Cards.{whole_cards, has_short_card}
use Rattle.deck_steps.specs.Decks.{Step, unless_refused, unless_fault, merge_refusal, deck_step, begun_by, step_at, at_end, merged_from, decks_of}
use Rattle.deck_laws.specs.Whole.{IsWhole, IsWholeRead}
use Rattle.deck_laws.proofs.Deck.{IsLong, deck_whole}
use Rattle.deck_laws.proofs.InRange.{bytes_after, bytes_before}
use Rattle.deck_laws.proofs.SoundDeck.{IsByteCard, deck_sound}

-- ---- all decks

-- the fault of a merge
no_refusal : (rs : List Read) (o : Option Name) (f : Option MergeFault) → double_definition rs ≡ o → merge_fault rs ≡ f → merge_refusal f ≡ None → merge_fault rs ≡ None
unfolding merge_fault
no_refusal rs o None double is none = is
no_refusal rs o (Some (DoubleDefinition name)) double is none = absurd cc
no_refusal rs o (Some (TooManySymbols n)) double is none = absurd cc
no_refusal rs (Some y) (Some Memory) double is none = absurd (cc (rw double at is))
no_refusal rs None (Some Memory) double is none = absurd (counted (nat_lt 32511 (symbol_count rs)) (rw double at is))
  where
    counted : (b : Bool) → cond b (Some (TooManySymbols (symbol_count rs))) None ≡ Some Memory → ⊥
    counted true e = absurd cc
    counted false e = absurd cc

-- what holds of no modules, and of more where a deck adds one that has D, holds of all, if D holds of the module of each deck
module _ (P : List Read → Type 0) (Q : List ℕ → Type 0) (D : SymModule → Type 0)
    (deck : (cards : List (List ℕ)) → AllByRecursion Q cards → IfOk (deck_of cards) (λ (x : SymModule × ℕ). D x.0))
    (more : (rs : List Read) (m : SymModule) → P rs → D m → merge_fault (with_module rs m 1) ≡ None → P (with_module rs m 1)) where
  abbrev StepHas : Step → Type 0
  StepHas r = IfOk r (λ (x : List Read × ℕ). P x.0)

  unless_has : (rs : List Read) (m : SymModule) (taken : ℕ) (o : Option DeckFault) → merge_refusal (merge_fault (with_module rs m 1)) ≡ o → P rs → D m
      → StepHas (unless_fault o (Ok (with_module rs m 1, taken)))
  unless_has rs m taken None none has sound =
      more rs m has sound (no_refusal (with_module rs m 1) (double_definition (with_module rs m 1)) (merge_fault (with_module rs m 1)) refl refl none)
  unless_has rs m taken (Some fault) is has sound = tt

  deck_has : (short : Bool) (number : ℕ) (rs : List Read) (count : ℕ) (d : DeckRead) → P rs → IfOk d (λ (x : SymModule × ℕ). D x.0)
      → StepHas (deck_step short number rs count d)
  deck_has short number rs count (Err (place, what)) has sound = tt
  deck_has short number rs count (Ok (m, taken)) has sound = unless_has rs m taken (merge_refusal (merge_fault (with_module rs m 1))) refl has sound

  at_deck : (short : Bool) (number : ℕ) (rs : List Read) (cards : List (List ℕ)) → AllByRecursion Q cards → P rs
      → StepHas (deck_step short number rs (length cards) (deck_of cards))
  at_deck short number rs cards all has = deck_has short number rs (length cards) (deck_of cards) has (deck cards all)

  step_has : (short : Bool) (number : ℕ) (rs : List Read) (cards : List (List ℕ)) (r : Result Card CardFault) → AllByRecursion Q cards → P rs
      → StepHas (step_at short number rs cards (begun_by r))
  step_has short number rs cards (Ok Comment) all has = has
  step_has short number rs cards (Ok (Statement text)) all has = tt
  step_has short number rs cards (Ok (Esd e)) all has = at_deck short number rs cards all has
  step_has short number rs cards (Ok (Txt t)) all has = at_deck short number rs cards all has
  step_has short number rs cards (Ok (Rld r)) all has = at_deck short number rs cards all has
  step_has short number rs cards (Ok (End e)) all has = at_deck short number rs cards all has
  step_has short number rs cards (Ok Sym) all has = at_deck short number rs cards all has
  step_has short number rs cards (Err fault) all has = at_deck short number rs cards all has

  end_has : (short : Bool) (number : ℕ) (rs : List Read) → P rs → IfOk (at_end short number rs) P
  end_has true number rs has = tt
  end_has false number rs has = has

  goes_on : (go : List Read × ℕ → Result (List Read) DeckFault) (r : Step) → StepHas r → ((x : List Read × ℕ) → P x.0 → IfOk (go x) P) → IfOk (unless_refused go r) P
  goes_on go (Err fault) has later = tt
  goes_on go (Ok x) has later = later x has

  pub merged_has : (short : Bool) (cards : List (List ℕ)) (number : ℕ) (rs : List Read) (done : ℕ) → AllByRecursion Q cards → P rs
      → IfOk (merged_from short number rs done cards) P
  unfolding merged_from
  merged_has short [] number rs zero all has = end_has short number rs has
  merged_has short [] number rs (suc done) all has = end_has short number rs has
  merged_has short (card ∷ cards) number rs (suc done) all has = merged_has short cards (number + 1) rs done all.1 has
  merged_has short (card ∷ cards) number rs zero all has =
      goes_on (λ (after, taken). merged_from short (number + 1) after (taken - 1) cards) (step_at short number rs (card ∷ cards) (begun_by (card_of card)))
      (step_has short number rs (card ∷ cards) (card_of card) all has)
      (λ x given. merged_has short cards (number + 1) x.0 (x.1 - 1) all.1 given)

-- ---- the cards

card_long : (bytes : List ℕ) (k : ℕ) → k < length bytes / 80 → length (take 80 (drop (80 * k) bytes)) ≡ 80
card_long bytes k within =
    let rest : length (drop (80 * k) bytes) ≡ length bytes - 80 * k = length-drop (80 * k) bytes in
    length-take-le 80 (drop (80 * k) bytes) (room (length bytes) (length (drop (80 * k) bytes)) within rest)
  where
    room : (n m : ℕ) → k < n / 80 → m ≡ n - 80 * k → 80 ≤ m
    room n m low is = omega (arith, low, is)

all_range : (P : ℕ → Type 0) (a n : ℕ) → ((i : ℕ) → i < a + n → P i) → AllByRecursion P (range_with_len a n)
all_range P a zero gives = tt
all_range P a (suc n) gives = (gives a (omega arith), all_range P (a + 1) n (λ i low. gives i (omega (arith, low))))

all_mapped : (P : List ℕ → Type 0) (f : ℕ → List ℕ) (ks : List ℕ) → AllByRecursion (λ k. P (f k)) ks → AllByRecursion P (map f ks)
all_mapped P f [] all = tt
all_mapped P f (k ∷ ks) all = (all.0, all_mapped P f ks all.1)

cards_have : (P : List ℕ → Type 0) (bytes : List ℕ) → ((k : ℕ) → k < length bytes / 80 → P (take 80 (drop (80 * k) bytes))) → AllByRecursion P (whole_cards bytes)
unfolding whole_cards
cards_have P bytes gives =
    all_mapped P (λ k. take 80 (drop (80 * k) bytes)) (range_with_len 0 (length bytes / 80))
    (all_range (λ k. P (take 80 (drop (80 * k) bytes))) 0 (length bytes / 80) (λ i low. gives i (omega (arith, low))))

-- ---- whole modules, in the root

-- the module that was read is whole, and came in the root
abbrev pub IsGood : Read → Type 0
IsGood r = IsWholeRead r × IsInRoot r

decks_good : (bytes : List ℕ) → IfOk (decks_of bytes) (AllByRecursion IsGood)
unfolding decks_of
decks_good bytes =
    merged_has (AllByRecursion IsGood) IsLong IsWhole deck_whole
    (λ rs m all whole none. all_join IsGood rs (record { module_ = m; segment = 1 } ∷ []) all ((whole, refl), tt))
    (has_short_card bytes) (whole_cards bytes) 1 [] 0 (cards_have IsLong bytes (card_long bytes)) tt

pub modules_good : (bytes : List ℕ) (rs : List Read) → decks_of bytes ≡ Ok rs → AllByRecursion IsGood rs
modules_good bytes rs is = subst (λ r. IfOk r (AllByRecursion IsGood)) is (decks_good bytes)

-- ---- sound modules, that merge

are_bytes : (xs : List ℕ) → AreBytes xs → IsBytes xs
are_bytes [] small k = omega arith
are_bytes (x ∷ xs) small zero = small.0
are_bytes (x ∷ xs) small (suc k) = are_bytes xs small.1 k

decks_merged : (bytes : List ℕ) → AreBytes bytes → IfOk (decks_of bytes) IsMerged
unfolding decks_of
decks_merged bytes small =
    merged_has IsMerged IsByteCard IsSoundModule deck_sound
    (λ rs m merged sound none. next_merged rs m 1 merged sound (omega arith) none)
    (has_short_card bytes) (whole_cards bytes) 1 [] 0
    (cards_have IsByteCard bytes (λ k within. (card_long bytes k within, bytes_before 80 (drop (80 * k) bytes) (bytes_after (80 * k) bytes (are_bytes bytes small))))) none_merged

pub modules_merged : (bytes : List ℕ) (rs : List Read) → AreBytes bytes → decks_of bytes ≡ Ok rs → IsMerged rs
modules_merged bytes rs small is = subst (λ r. IfOk r IsMerged) is (decks_merged bytes small)
