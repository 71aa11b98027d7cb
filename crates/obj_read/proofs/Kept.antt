-- What no card with a fault left true stays true with one more card.
use Rattle.std.proofs.Common.{arith, ◌≡◌, ℕ, ◌+◌, ◌<◌, ◌^◌, Bool, true, false, not, ◌&&◌, ◌==◌, cond, if◌then◌else◌, List, [], ◌∷◌, ◌++◌, take, Option, Some, None, Result, Ok, Err, refl, sym, ◌∙◌, ap, subst}
use Rattle.std.specs.List.{AllByRecursion}
use Rattle.std.specs.Option.{option_map_or, option_or, IfSome}
use Rattle.std.specs.Result.{IfOk}
use Rattle.std.proofs.lemmas.List.{append-nil, append_assoc}
use Rattle.std.proofs.lemmas.List.Folds.{find-append}
use Rattle.le_bytes.specs.declared.card_what.CardWhat.{CardWhat}
use Rattle.le_bytes.specs.declared.card_what.CardWhat.TheVariants.{BadEsdid, ReservedName, UnknownEsdid, ConstantOutside, ConstantsOverlap}
use Rattle.obj_cards.specs.declared.card.Card.{Card}
use Rattle.obj_cards.specs.declared.card.Card.TheVariants.{Esd, Txt, Rld, End, Sym, Statement, Comment}
use Rattle.obj_cards.specs.declared.card.EsdKind.{EsdKind}
use Rattle.obj_cards.specs.declared.card.EsdKind.TheVariants.{Sd, Ld, Er, Pc, Cm, Pr, Wx}
use Rattle.obj_cards.specs.declared.card.EsdItem.{EsdItem}
use Rattle.obj_cards.specs.declared.card.CardRld.{CardRld}
use Rattle.obj_cards.specs.declared.card.EndCard.{EndCard}
use Rattle.obj_cards.specs.declared.fault.CardFault.{CardFault}
use Rattle.obj_cards.specs.Esd.{IsEsdItem, SuitsKind}
use Rattle.obj_cards.specs.Rld.{IsCardRld}
use Rattle.obj_cards.specs.End.{IsEndCard}
use Rattle.obj_cards.specs.Cards.{IsCard}
use Rattle.sym_mod.specs.declared.module.Kind.{Kind}
use Rattle.sym_mod.specs.declared.module.Kind.TheVariants.{Address, Branch, Displacement, Total}
use Rattle.obj_read.specs.declared.numbered.Numbered.{Numbered}
use Rattle.obj_read.specs.declared.facts.Facts.{Facts}
use Rattle.obj_read.specs.declared.gathering.Step.{Step}
use Rattle.obj_read.specs.Facts.{is_label, has_text, is_register, is_referable, numbered, has_esdid, with_esdid}
use Rattle.obj_read.specs.Flags.{kind_of_flag, length_of_flag}
use Rattle.obj_read.specs.Module.{with_length, with_end, lacks_length}
use Rattle.obj_read.specs.Faults.{or_else, when, has_bad_esdid, takes_reserved_name, item_fault, items_fault, if_text, section_of, are_outside_now, fits_kind, overlaps, term_fault, terms_fault}
use Rattle.obj_read.specs.declared.fault.Wrong.{Wrong}
use Rattle.obj_read.specs.Steps.{Steps, fault_in, after, start_on, unless, step_of}
use Rattle.obj_read.specs.Kept.{IsKeptItem, HasSection, IsKeptTerm, AreConstants, IsKept, EndsWell, StaysKept}
use Rattle.obj_read.proofs.Positions.{longer}
use Rattle.obj_read.proofs.Joined.{constants_more, all_weaker, all_more}

-- ---- no fault

pub or_none_left : (a b : Option CardWhat) → or_else a b ≡ None → a ≡ None
or_none_left (Some what) b none = none
or_none_left None b none = refl

pub or_none_right : (a b : Option CardWhat) → or_else a b ≡ None → b ≡ None
or_none_right (Some what) b none = cc
or_none_right None b none = none

pub when_none : (wrong : Bool) (what : CardWhat) → when wrong what ≡ None → wrong ≡ false
when_none true what none = cc
when_none false what none = refl

pub not_false : (b : Bool) → not b ≡ false → b ≡ true
not_false true is = refl
not_false false is = cc

-- ---- items

items_kept : (before more : List Numbered) → AllByRecursion (λ x. IsEsdItem x.item) more → items_fault before more ≡ None → AllByRecursion IsKeptItem more
items_kept before [] all none = tt
items_kept before (x ∷ more) all none =
    let first : item_fault before x ≡ None = or_none_left (item_fault before x) (items_fault (before ++ x ∷ []) more) none in
    let reserved : takes_reserved_name x.item.kind x.item ≡ false =
    when_none (takes_reserved_name x.item.kind x.item) ReservedName (or_none_right (when (has_bad_esdid before x) BadEsdid) (when (takes_reserved_name x.item.kind x.item) ReservedName) first) in
    (record { item = all.0; name = reserved }, items_kept (before ++ x ∷ []) more all.1 (or_none_right (item_fault before x) (items_fault (before ++ x ∷ []) more) none))

numbered_step : (b : Bool) (n : ℕ) (i : EsdItem) (xs ys : List Numbered) → IsEsdItem i
    → AllByRecursion (λ x. IsEsdItem x.item) xs → AllByRecursion (λ x. IsEsdItem x.item) ys
    → AllByRecursion (λ x. IsEsdItem x.item) (if b then record { esdid = 0; item = i } ∷ xs else record { esdid = n; item = i } ∷ ys)
numbered_step true n i xs ys is all more = (is, all)
numbered_step false n i xs ys is all more = (is, more)

numbered_items : (n : ℕ) (items : List EsdItem) → AllByRecursion IsEsdItem items → AllByRecursion (λ x. IsEsdItem x.item) (numbered n items)
numbered_items n [] all = tt
numbered_items n (i ∷ items) all =
    numbered_step (is_label i.kind) n i (numbered n items) (numbered (n + 1) items) all.0 (numbered_items n items all.1) (numbered_items (n + 1) items all.1)

-- ---- what was found stays

found_step : (φ : Numbered → Bool) (o r : Option Numbered) → option_map_or φ o false ≡ true → option_map_or φ (option_or o r) false ≡ true
found_step φ None r found = cc
found_step φ (Some x) r found = found

found_more : (φ : Numbered → Bool) (items more : List Numbered) (id : ℕ)
    → option_map_or φ (with_esdid id items) false ≡ true → option_map_or φ (with_esdid id (items ++ more)) false ≡ true
found_more φ items more id found =
    ap (λ o. option_map_or φ o false) (find-append (has_esdid id) items more) ∙ found_step φ (with_esdid id items) (with_esdid id more) found

fits_more : (items more : List Numbered) (r : ℕ) (k : Kind) → fits_kind items r k ≡ true → fits_kind (items ++ more) r k ≡ true
fits_more items more r Address fits = found_more (λ x. is_referable x.item.kind) items more r fits
fits_more items more r Branch fits = found_more (λ x. is_referable x.item.kind) items more r fits
fits_more items more r Displacement fits = found_more (λ x. is_register x.item.kind) items more r fits
fits_more items more r Total fits = refl

term_more : (items more : List Numbered) (f : CardRld) → IsKeptTerm items f → IsKeptTerm (items ++ more) f
term_more items more f kept = record {
  card = kept.card;
  section = found_more (λ x. has_text x.item.kind) items more f.p kept.section;
  fits = fits_more items more f.r (kind_of_flag f.flag) kept.fits;
}

-- ---- and with the length that END gives

longer_step : (φ : Numbered → Bool) (n : ℕ) (x : Numbered) (has b : Bool) (r s : Option Numbered)
    → φ (longer n x) ≡ φ x → option_map_or φ r false ≡ option_map_or φ s false
    → option_map_or φ (if b then cond has (Some (longer n x)) s else cond has (Some x) r) false ≡ option_map_or φ (cond has (Some x) s) false
longer_step φ n x true true r s same rest = same
longer_step φ n x false true r s same rest = refl
longer_step φ n x true false r s same rest = refl
longer_step φ n x false false r s same rest = rest

found_of_longer : (φ : Numbered → Bool) (n id : ℕ) (items : List Numbered) → ((x : Numbered) → φ (longer n x) ≡ φ x)
    → option_map_or φ (with_esdid id (with_length n items)) false ≡ option_map_or φ (with_esdid id items) false
found_of_longer φ n id [] same = refl
found_of_longer φ n id (x ∷ items) same =
    find_if (lacks_length x)
    ∙ longer_step φ n x (has_esdid id x) (lacks_length x) (with_esdid id (with_length n items)) (with_esdid id items) (same x) (found_of_longer φ n id items same)
  where
    find_if : (b : Bool)
        → option_map_or φ (with_esdid id (if b then longer n x ∷ items else x ∷ with_length n items)) false
        ≡ option_map_or φ (if b then cond (has_esdid id x) (Some (longer n x)) (with_esdid id items) else cond (has_esdid id x) (Some x) (with_esdid id (with_length n items))) false
    find_if true = refl
    find_if false = refl

fits_of_longer : (n : ℕ) (items : List Numbered) (r : ℕ) (k : Kind) → fits_kind items r k ≡ true → fits_kind (with_length n items) r k ≡ true
fits_of_longer n items r Address fits = found_of_longer (λ x. is_referable x.item.kind) n r items (λ x. refl) ∙ fits
fits_of_longer n items r Branch fits = found_of_longer (λ x. is_referable x.item.kind) n r items (λ x. refl) ∙ fits
fits_of_longer n items r Displacement fits = found_of_longer (λ x. is_register x.item.kind) n r items (λ x. refl) ∙ fits
fits_of_longer n items r Total fits = refl

term_of_longer : (n : ℕ) (items : List Numbered) (f : CardRld) → IsKeptTerm items f → IsKeptTerm (with_length n items) f
term_of_longer n items f kept = record {
  card = kept.card;
  section = found_of_longer (λ x. has_text x.item.kind) n f.p items (λ x. refl) ∙ kept.section;
  fits = fits_of_longer n items f.r (kind_of_flag f.flag) kept.fits;
}

suits_longer : (k : EsdKind) (i : EsdItem) (n : ℕ) → has_text k ≡ true → SuitsKind k i → SuitsKind k (record i { length = n })
suits_longer Sd i n has suits = suits
suits_longer Pc i n has suits = suits
suits_longer Ld i n has suits = cc
suits_longer Er i n has suits = cc
suits_longer Cm i n has suits = cc
suits_longer Pr i n has suits = cc
suits_longer Wx i n has suits = cc

reserved_longer : (k : EsdKind) (i : EsdItem) (n : ℕ) → takes_reserved_name k i ≡ false → takes_reserved_name k (record i { length = n }) ≡ false
reserved_longer Sd i n is = is
reserved_longer Ld i n is = is
reserved_longer Er i n is = is
reserved_longer Pc i n is = is
reserved_longer Cm i n is = is
reserved_longer Pr i n is = is
reserved_longer Wx i n is = is

and_first : (a b : Bool) → (a && b) ≡ true → a ≡ true
and_first true b both = refl
and_first false b both = both

longer_kept : (n : ℕ) (x : Numbered) → n < 2 ^ 24 → lacks_length x ≡ true → IsKeptItem x → IsKeptItem (longer n x)
longer_kept n x small lacks kept = record {
  item = record {
    address = kept.item.address;
    length = small;
    suits = suits_longer x.item.kind x.item n (and_first (has_text x.item.kind) (x.item.length == 0) lacks) kept.item.suits;
  };
  name = reserved_longer x.item.kind x.item n kept.name;
}

items_step : (b : Bool) (n : ℕ) (x : Numbered) (xs ys : List Numbered) → n < 2 ^ 24 → lacks_length x ≡ b → IsKeptItem x
    → AllByRecursion IsKeptItem xs → AllByRecursion IsKeptItem ys → AllByRecursion IsKeptItem (if b then longer n x ∷ xs else x ∷ ys)
items_step true n x xs ys small lacks is all more = (longer_kept n x small lacks is, all)
items_step false n x xs ys small lacks is all more = (is, more)

items_of_longer : (n : ℕ) (items : List Numbered) → n < 2 ^ 24 → AllByRecursion IsKeptItem items → AllByRecursion IsKeptItem (with_length n items)
items_of_longer n [] small all = tt
items_of_longer n (x ∷ items) small all =
    items_step (lacks_length x) n x items (with_length n items) small refl all.0 all.1 (items_of_longer n items small all.1)

end_kept : (length : Option ℕ) (f : Facts) (e : EndCard) → e.length ≡ length → IsEndCard e → IsKept f → IsKept (record f { items = with_end length f.items })
end_kept None f e is good kept = kept
end_kept (Some n) f e is good kept = record {
  items = items_of_longer n f.items (small e.length is good.length) kept.items;
  texts = all_weaker (λ t. HasSection f.items t.esdid) (λ t. HasSection (with_length n f.items) t.esdid) f.texts
      (λ t has. found_of_longer (λ x. has_text x.item.kind) n t.esdid f.items (λ x. refl) ∙ has) kept.texts;
  terms = all_weaker (IsKeptTerm f.items) (IsKeptTerm (with_length n f.items)) f.terms (λ t. term_of_longer n f.items t) kept.terms;
  constants = kept.constants;
}
  where
    small : (o : Option ℕ) → o ≡ Some n → IfSome o (λ n. n < 2 ^ 24) → n < 2 ^ 24
    small (Some m) is less = let same : m ≡ n = cc is in subst (λ m. m < 2 ^ 24) same less
    small None is less = cc

-- ---- text and terms

section_if : (b : Bool) (x : EsdItem) (G : EsdItem → Option CardWhat) (what : CardWhat)
    → option_map_or G (if b then Some x else None) (Some what) ≡ None → b ≡ true
section_if true x G what none = refl
section_if false x G what none = cc

pub section_there : (o : Option Numbered) (G : EsdItem → Option CardWhat) (what : CardWhat)
    → option_map_or G (option_map_or if_text o None) (Some what) ≡ None → option_map_or (λ x. has_text x.item.kind) o false ≡ true
section_there None G what none = cc
section_there (Some x) G what none = section_if (has_text x.item.kind) x.item G what none

term_clear : (o : Option EsdItem) (fits over : Bool) (out : EsdItem → Bool) (a b c d : CardWhat)
    → option_map_or (λ x. or_else (when (not fits) a) (or_else (when (out x) b) (when over c))) o (Some d) ≡ None
    → (fits ≡ true) × (over ≡ false)
term_clear None fits over out a b c d none = cc
term_clear (Some x) fits over out a b c d none = (
  not_false fits (when_none (not fits) a (or_none_left (when (not fits) a) (or_else (when (out x) b) (when over c)) none)),
  when_none over c (or_none_right (when (out x) b) (when over c) (or_none_right (when (not fits) a) (or_else (when (out x) b) (when over c)) none)),
)

terms_kept : (items : List Numbered) (before more : List CardRld) → AllByRecursion IsCardRld more → terms_fault items before more ≡ None → AreConstants before
    → AllByRecursion (IsKeptTerm items) more × AreConstants (before ++ more)
terms_kept items before [] all none old = (tt, subst (λ xs. AreConstants xs) (sym (append-nil before)) old)
terms_kept items before (f ∷ more) all none old =
    let first : term_fault items before f ≡ None = or_none_left (term_fault items before f) (terms_fault items (before ++ f ∷ []) more) none in
    let clear : (fits_kind items f.r (kind_of_flag f.flag) ≡ true) × (overlaps before f ≡ false) =
    term_clear (section_of items f.p) (fits_kind items f.r (kind_of_flag f.flag)) (overlaps before f) (λ x. are_outside_now x f.address (length_of_flag f.flag))
    UnknownEsdid ConstantOutside ConstantsOverlap UnknownEsdid first in
    let rest : AllByRecursion (IsKeptTerm items) more × AreConstants ((before ++ f ∷ []) ++ more) =
    terms_kept items (before ++ f ∷ []) more all.1 (or_none_right (term_fault items before f) (terms_fault items (before ++ f ∷ []) more) none)
    (constants_more before f clear.1 old) in
    let section : HasSection items f.p = section_there (with_esdid f.p items) _ UnknownEsdid first in
    ((record { card = all.0; section = section; fits = clear.0 }, rest.0), subst (λ xs. AreConstants xs) (append_assoc before (f ∷ []) more) rest.1)

-- ---- one card

kept_card : (f : Facts) (card : Card) → IsCard card → fault_in f card ≡ None → IsKept f → IsKept (after f card) × EndsWell (after f card) (start_on card)
kept_card f (Esd e) good none kept =
    let xs : List Numbered = numbered e.esdid (take e.count e.items) in (
      record {
        items = all_more IsKeptItem f.items xs kept.items (items_kept f.items xs (numbered_items e.esdid (take e.count e.items) good.items) none);
        texts = all_weaker (λ t. HasSection f.items t.esdid) (λ t. HasSection (f.items ++ xs) t.esdid) f.texts
            (λ t has. found_more (λ x. has_text x.item.kind) f.items xs t.esdid has) kept.texts;
        terms = all_weaker (IsKeptTerm f.items) (IsKeptTerm (f.items ++ xs)) f.terms (λ t. term_more f.items xs t) kept.terms;
        constants = kept.constants;
      },
      tt,
    )
kept_card f (Txt t) good none kept = (
  record {
    items = kept.items;
    texts = all_more (λ t. HasSection f.items t.esdid) f.texts (t ∷ []) kept.texts (section_there (with_esdid t.esdid f.items) _ UnknownEsdid none, tt);
    terms = kept.terms;
    constants = kept.constants;
  },
  tt,
)
kept_card f (Rld r) good none kept =
    let xs : List CardRld = take r.count r.items in
    let all : AllByRecursion (IsKeptTerm f.items) xs × AreConstants (f.terms ++ xs) = terms_kept f.items f.terms xs good.items none kept.constants in (
      record {
        items = kept.items;
        texts = kept.texts;
        terms = all_more (IsKeptTerm f.items) f.terms xs kept.terms all.0;
        constants = all.1;
      },
      tt,
    )
kept_card f (End e) good none kept = (end_kept e.length f e refl good kept, (good.start, none))
kept_card f Sym good none kept = (kept, tt)
kept_card f (Statement text) good none kept = cc
kept_card f Comment good none kept = cc

unless_ok : (f : Facts) (card : Card) (o : Option CardWhat) (step : Step) → unless f card o ≡ Ok step
    → (o ≡ None) × (record { facts = after f card; start = start_on card } ≡ step)
unless_ok f card (Some what) step is = cc
unless_ok f card None step is = (refl, cc)

pub kept_step : (f : Facts) (r : Result Card CardFault) (step : Step) → IfOk r IsCard → step_of f r ≡ Ok step → StaysKept f step
kept_step f (Err fault) step good is = cc
kept_step f (Ok card) step good is = λ kept.
    let ok : (fault_in f card ≡ None) × (record { facts = after f card; start = start_on card } ≡ step) = unless_ok f card (fault_in f card) step is in
    subst (λ s. IsKept s.facts × EndsWell s.facts s.start) ok.1 (kept_card f card good ok.0 kept)

pub kept_result : (f : Facts) (r : Result Card CardFault) (answer : Result Step Wrong) → IfOk r IsCard → Steps (step_of f r) answer → IfOk answer (StaysKept f)
kept_result f r (Ok step) good is = kept_step f r step good is
kept_result f r (Err wrong) good is = tt

pub nothing_kept : IsKept (record { items = []; texts = []; terms = [] })
nothing_kept = record {
  items = tt;
  texts = tt;
  terms = tt;
  constants = record { apart = λ i j d before within. absurd (omega (arith, within)); joined = tt };
}
