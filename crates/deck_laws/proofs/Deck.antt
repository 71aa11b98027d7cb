-- The module of a deck is whole: no card before its END has a fault, and at END each label stands in a section.
use Rattle.std.proofs.Common.{◌≡◌, ℕ, ◌+◌, ◌≤◌, Bool, true, false, cond, List, [], ◌∷◌, ◌++◌, length, map, filter, slice_get, Option, Some, None, Result, Ok, Err, refl, sym, ◌∙◌, ap, subst}
use Rattle.std.specs.Prelude.{All, IfOk, IsTrue, IsSomeAnd}
use Rattle.std.specs.List.{list_any, AllByRecursion}
use Rattle.std.specs.Option.{option_map_or}
use Rattle.std.proofs.lemmas.Grind.{flat_map-append}
use Rattle.std.proofs.lemmas.List.{append-nil}
use Rattle.std.proofs.lemmas.List.Elements.{All-from_recursion}
use Rattle.le_bytes.specs.declared.card_what.CardWhat.{CardWhat}
use Rattle.le_bytes.specs.declared.card_what.CardWhat.TheVariants.{TextOutside, ConstantOutside}
use Rattle.le_bytes.specs.Names.{is_blank}
use Rattle.obj_cards.specs.declared.card.Card.{Card}
use Rattle.obj_cards.specs.declared.card.Card.TheVariants.{Esd, Txt, Rld, End, Sym, Statement, Comment}
use Rattle.obj_cards.specs.declared.card.EsdItem.{EsdItem}
use Rattle.obj_cards.specs.declared.card.TxtCard.{TxtCard}
use Rattle.obj_cards.specs.declared.card.CardRld.{CardRld}
use Rattle.obj_cards.specs.declared.card.EndCard.{EndCard}
use Rattle.obj_cards.specs.declared.fault.CardFault.{CardFault}
use Rattle.obj_cards.specs.Cards.{card_of}
use Rattle.sym_mod.specs.declared.module.Item.{Item}
use Rattle.sym_mod.specs.declared.module.ItemKind.{ItemKind}
use Rattle.sym_mod.specs.declared.module.ItemKind.TheVariants.{Sd as Section, Pc as Private, Cm as Common, Label, Er as Reference, Wx as Weak, Register}
use Rattle.sym_mod.specs.declared.module.Kind.{Kind}
use Rattle.sym_mod.specs.declared.module.Kind.TheVariants.{Address, Branch, Displacement, Total as AllRegisters}
use Rattle.sym_mod.specs.declared.module.SymTarget.TheVariants.{Register as InRegister, Total}
use Rattle.sym_mod.specs.declared.module.SymTerm.{SymTerm}
use Rattle.sym_mod.specs.declared.module.SymModule.{SymModule}
use Rattle.sym_mod.specs.Kinds.{has_text}
use Rattle.sym_mod.specs.Sound.{StandsInOwner}
use Rattle.obj_read.specs.declared.numbered.Numbered.{Numbered}
use Rattle.obj_read.specs.Facts.{is_label, numbered, items_on, items_of, texts_of, terms_of, with_esdid}
use Rattle.obj_read.specs.Flags.{kind_of_flag}
use Rattle.obj_read.specs.Module.{lacks_length, with_length, with_end, symbol, same_place, leaders, target_of, term, constant, constants, module_of}
use Rattle.obj_read.specs.Faults.{or_else, when, label_fault, labels_fault, start_fault, is_text_outside, is_term_outside, end_fault, fault_after}
use Rattle.obj_read.specs.Decks.{Read as DeckRead, ended, unless_faulty, judged, deck_after, deck_of}
use Rattle.obj_read.proofs.Kept.{or_none_left, or_none_right}
use Rattle.obj_read.proofs.Labels.{labels_clear, proper_owner}
use Rattle.member_laws.specs.Linkable.{HasEightBytes}
use Rattle.deck_laws.specs.Whole.{RefersWhole, HasWholeTerms, LiesInText, IsWhole}
use Rattle.deck_laws.proofs.Cards.{IsNamedItem, IsNamedCard, card_named}
use Rattle.esd_lists.proofs.Each.{all_mapped, all_join}

-- ---- items

abbrev IsNamed : Numbered → Type 0
IsNamed x = HasEightBytes x.item.name

numbered_named : (n : ℕ) (xs : List EsdItem) → AllByRecursion IsNamedItem xs → AllByRecursion IsNamed (numbered n xs)
numbered_named n [] all = tt
numbered_named n (x ∷ xs) all = chosen (is_label x.kind) (numbered_named n xs all.1) (numbered_named (n + 1) xs all.1)
  where
    chosen : (b : Bool) → AllByRecursion IsNamed (numbered n xs) → AllByRecursion IsNamed (numbered (n + 1) xs)
        → AllByRecursion IsNamed (cond b (record { esdid = 0; item = x } ∷ numbered n xs) (record { esdid = n; item = x } ∷ numbered (n + 1) xs))
    chosen true same next = (all.0, same)
    chosen false same next = (all.0, next)

on_card : (c : Card) → IsNamedCard c → AllByRecursion IsNamed (items_on c)
on_card (Esd e) named = numbered_named e.esdid _ named
on_card (Txt t) named = tt
on_card (Rld r) named = tt
on_card (End e) named = tt
on_card Sym named = tt
on_card (Statement text) named = tt
on_card Comment named = tt

items_more : (before : List Card) (c : Card) → AllByRecursion IsNamed (items_of before) → IsNamedCard c → AllByRecursion IsNamed (items_of (before ++ c ∷ []))
items_more before c all named =
    let is : items_of (before ++ c ∷ []) ≡ items_of before ++ items_on c =
    flat_map-append items_on before (c ∷ []) ∙ ap (λ xs. items_of before ++ xs) (append-nil (items_on c)) in
    subst (AllByRecursion IsNamed) (sym is) (all_join IsNamed (items_of before) (items_on c) all (on_card c named))

with_length_named : (n : ℕ) (xs : List Numbered) → AllByRecursion IsNamed xs → AllByRecursion IsNamed (with_length n xs)
with_length_named n [] all = tt
with_length_named n (x ∷ xs) all = chosen (lacks_length x) (with_length_named n xs all.1)
  where
    chosen : (b : Bool) → AllByRecursion IsNamed (with_length n xs)
        → AllByRecursion IsNamed (cond b (record { esdid = x.esdid; item = record x.item { length = n } } ∷ xs) (x ∷ with_length n xs))
    chosen true more = all
    chosen false more = (all.0, more)

with_end_named : (o : Option ℕ) (xs : List Numbered) → AllByRecursion IsNamed xs → AllByRecursion IsNamed (with_end o xs)
with_end_named None xs all = all
with_end_named (Some n) xs all = with_length_named n xs all

symbols_named : (all xs : List Numbered) → AllByRecursion IsNamed xs → AllByRecursion (λ x. HasEightBytes x.name) (map (symbol all) xs)
symbols_named all [] named = tt
symbols_named all (x ∷ xs) named = (named.0, symbols_named all xs named.1)

-- ---- constants

register_whole : (o : Option Numbered) → RefersWhole (option_map_or (λ x. InRegister x.item.name) o Total)
register_whole None = tt
register_whole (Some x) = tt

target_whole : (items : List Numbered) (f : CardRld) (kind : Kind) → RefersWhole (target_of items f kind)
target_whole items f Address = tt
target_whole items f Branch = tt
target_whole items f Displacement = register_whole (with_esdid f.r items)
target_whole items f AllRegisters = tt

constant_whole : (items : List Numbered) (terms : List CardRld) (f : CardRld) → HasWholeTerms (constant items terms f)
constant_whole items terms f =
    All-from_recursion (λ (t : SymTerm). RefersWhole t.target) (map (term items) (filter (same_place f) terms))
    (all_mapped (λ (t : SymTerm). RefersWhole t.target) (term items) (λ g. target_whole items g (kind_of_flag g.flag)) (filter (same_place f) terms))

constants_whole : (items : List Numbered) (terms : List CardRld) → All HasWholeTerms (constants items terms)
constants_whole items terms =
    All-from_recursion HasWholeTerms (constants items terms) (all_mapped HasWholeTerms (constant items terms) (constant_whole items terms) (leaders [] terms))

-- ---- labels

pub in_text : (items : List Item) (x : Item) (kind : ItemKind) → StandsInOwner items x kind → LiesInText items x kind
in_text items x Label stands = one (slice_get items x.owner) stands
  where
    one : (o : Option Item) → IsSomeAnd o (λ owner. IsTrue (has_text owner.kind) × (owner.base ≤ x.base) × (x.base ≤ owner.base + owner.length)) → IsSomeAnd o (λ owner. IsTrue (has_text owner.kind))
    one None h = h
    one (Some owner) h = h.0
in_text items x Section stands = tt
in_text items x Private stands = tt
in_text items x Common stands = tt
in_text items x Reference stands = tt
in_text items x Weak stands = tt
in_text items x Register stands = tt

abbrev IsInText : List Numbered → Item → Type 0
IsInText all x = LiesInText (map (symbol all) all) x x.kind

labels_in : (all xs : List Numbered) → AllByRecursion (λ x. is_label x.item.kind ≡ true → label_fault all x.item ≡ None) xs → AllByRecursion (IsInText all) (map (symbol all) xs)
labels_in all [] clear = tt
labels_in all (x ∷ xs) clear = (
  in_text (map (symbol all) all) (symbol all x) (symbol all x).kind (proper_owner all x x.item.kind (is_blank x.item.name) refl clear.0),
  labels_in all xs clear.1,
)

labels_whole : (all : List Numbered) → labels_fault all all ≡ None → All (IsInText all) (map (symbol all) all)
labels_whole all none = All-from_recursion (IsInText all) (map (symbol all) all) (labels_in all all (labels_clear all all none))

-- ---- the module

module_whole : (items : List Numbered) (texts : List TxtCard) (terms : List CardRld) (end : EndCard) → AllByRecursion IsNamed items → end_fault items texts terms end ≡ None
    → IsWhole (module_of items texts terms end)
module_whole items texts terms end named none =
    let all : List Numbered = with_end end.length items in
    let a : Option CardWhat = start_fault all end.start in
    let b : Option CardWhat = labels_fault all all in
    let c : Option CardWhat = when (list_any (is_text_outside all) texts) TextOutside in
    let d : Option CardWhat = when (list_any (is_term_outside all) terms) ConstantOutside in
    let labels : b ≡ None = or_none_left b (or_else c d) (or_none_right a (or_else b (or_else c d)) none) in
    record {
      names = All-from_recursion (λ (x : Item). HasEightBytes x.name) (map (symbol all) all) (symbols_named all all (with_end_named end.length items named));
      terms = constants_whole all terms;
      labels = labels_whole all labels;
    }

-- ---- the deck

abbrev IsWholeDeck : DeckRead → Type 0
IsWholeDeck r = IfOk r (λ (x : SymModule × ℕ). IsWhole x.0)

ended_whole : (before : List Card) (go : List Card → DeckRead) (c : Card) → AllByRecursion IsNamed (items_of before) → fault_after before c ≡ None
    → IsWholeDeck (go (before ++ c ∷ [])) → IsWholeDeck (ended before go c)
ended_whole before go (End e) named none later = module_whole (items_of before) (texts_of before) (terms_of before) e named none
ended_whole before go (Esd e) named none later = later
ended_whole before go (Txt t) named none later = later
ended_whole before go (Rld r) named none later = later
ended_whole before go Sym named none later = later
ended_whole before go (Statement text) named none later = later
ended_whole before go Comment named none later = later

unless_whole : (before : List Card) (go : List Card → DeckRead) (c : Card) (o : Option CardWhat) → fault_after before c ≡ o → AllByRecursion IsNamed (items_of before)
    → IsWholeDeck (go (before ++ c ∷ [])) → IsWholeDeck (unless_faulty before go c o)
unless_whole before go c (Some what) is named later = tt
unless_whole before go c None is named later = ended_whole before go c named is later

judged_whole : (before : List Card) (go : List Card → DeckRead) (r : Result Card CardFault) → AllByRecursion IsNamed (items_of before) → IfOk r IsNamedCard
    → ((c : Card) → IsNamedCard c → IsWholeDeck (go (before ++ c ∷ []))) → IsWholeDeck (judged before go r)
judged_whole before go (Err fault) named card later = tt
judged_whole before go (Ok c) named card later = unless_whole before go c (fault_after before c) refl named (later c card)

-- cards of 80 columns
abbrev pub IsLong : List ℕ → Type 0
IsLong card = length card ≡ 80

after_whole : (cards : List (List ℕ)) (before : List Card) → AllByRecursion IsLong cards → AllByRecursion IsNamed (items_of before) → IsWholeDeck (deck_after before cards)
unfolding deck_after
after_whole [] before long named = tt
after_whole (card ∷ cards) before long named =
    judged_whole before (λ read. deck_after read cards) (card_of card) named (card_named card long.0)
    (λ c whole. after_whole cards (before ++ c ∷ []) long.1 (items_more before c named whole))

pub deck_whole : (cards : List (List ℕ)) → AllByRecursion IsLong cards → IfOk (deck_of cards) (λ (x : SymModule × ℕ). IsWhole x.0)
deck_whole cards long = after_whole cards [] long tt
