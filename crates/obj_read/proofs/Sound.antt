-- Facts that no card had a fault in make a sound module.
use Rattle.std.proofs.Common.{arith, ◌≡◌, ℕ, zero, suc, ◌+◌, ◌-◌, ◌<◌, ◌≤◌, ◌⊎◌, inl, inr, true, false, not, List, [], ◌∷◌, length, map, get_or, slice_get, All, Option, Some, None, refl, sym, ◌∙◌, ap, subst}
use Rattle.std.specs.List.{filter, list_any, AllByRecursion, AllPairs}
use Rattle.std.specs.Option.{option_map_or}
use Rattle.std.proofs.lemmas.List.Elements.{All-from_recursion}
use Rattle.le_bytes.specs.declared.card_what.CardWhat.{CardWhat}
use Rattle.le_bytes.specs.declared.card_what.CardWhat.TheVariants.{TextOutside, ConstantOutside}
use Rattle.obj_cards.specs.declared.card.EsdItem.{EsdItem}
use Rattle.obj_cards.specs.declared.card.CardRld.{CardRld}
use Rattle.obj_cards.specs.declared.card.EndStart.{EndStart}
use Rattle.sym_mod.specs.declared.module.Item.{Item}
use Rattle.sym_mod.specs.Sound.{IsSoundItem, LieInItem, IsSoundConst, AreApart, IsSoundModule}
use Rattle.obj_read.specs.declared.numbered.Numbered.{Numbered}
use Rattle.obj_read.specs.declared.facts.Facts.{Facts}
use Rattle.obj_read.specs.Facts.{is_label, has_esdid, with_esdid}
use Rattle.obj_read.specs.Module.{symbol, base_of, number_or, fragment, constant}
use Rattle.obj_read.specs.Faults.{or_else, when, section_of, lie_in, label_fault, labels_fault, start_fault, is_text_outside, is_term_outside}
use Rattle.obj_read.specs.Steps.{made_of}
use Rattle.obj_read.specs.Kept.{IsKeptItem, HasSection, IsKept, EndsWell}
use Rattle.obj_read.proofs.Joined.{all_weaker}
use Rattle.obj_read.proofs.Kept.{or_none_left, or_none_right, when_none, not_false}
use Rattle.std.proofs.lemmas.List.{length-map}
use Rattle.obj_read.specs.Flags.{length_of_flag}
use Rattle.obj_read.specs.Module.{same_place, leaders}
use Rattle.obj_read.specs.Kept.{IsKeptTerm, AreJoined, AreDisjoint}
use Rattle.obj_read.proofs.Joined.{found_passes}
use Rattle.obj_read.proofs.Found.{all_map, all_both, found_there, Found, found_section, base_found, lie_from}
use Rattle.obj_read.proofs.Labels.{any_none, section_some, sound_item, sound_entry, sound_text, labels_clear}
use Rattle.obj_read.proofs.Patches.{all_leaders, IsKeptLeader, sound_constant}

-- ---- constants share no byte

esdid_is : (id : ℕ) (x : Numbered) → has_esdid id x ≡ true → x.esdid ≡ id
esdid_is id x has = grind (arith, has)

pub record Based (items : List Numbered) (f : CardRld) : Type 0 where
  pub x : Numbered
  pub number : slice_get items (number_or items f.p) ≡ Some x
  pub esdid : x.esdid ≡ f.p
  pub base : base_of items f.p ≤ f.address

based : (items : List Numbered) (terms : List CardRld) (f : CardRld) → IsKeptLeader items terms f → Based items f
based items terms f leader =
    let s : (s : EsdItem) × (section_of items f.p ≡ Some s) = section_some (with_esdid f.p items) leader.kept.section in
    let x : Found items f.p s.0 = found_section items f.p s.0 s.1 in
    let lies : lie_in s.0 f.address (length_of_flag f.flag) ≡ true =
    not_false (lie_in s.0 f.address (length_of_flag f.flag))
    (sym (ap (λ o. option_map_or (λ x. not (lie_in x f.address (length_of_flag f.flag))) o false) s.1) ∙ leader.inside) in
    record {
      x = x.x;
      number = found_there items f.p x.x x.is;
      esdid = esdid_is f.p x.x (found_passes (has_esdid f.p) items x.x x.is);
      base = subst (λ b. b ≤ f.address) (sym (base_found items f.p s.0 x)) (lie_from s.0 f.address (length_of_flag f.flag) lies);
    }

apart_step : (a m b n base : ℕ) → base ≤ a → base ≤ b → (a + m ≤ b) ⊎ (b + n ≤ a) → (a - base + m ≤ b - base) ⊎ (b - base + n ≤ a - base)
apart_step a m b n base low other either = elim either [ inl first ↦ inl (omega (arith, first)) | inr second ↦ inr (omega (arith, second)) ]

one_apart : (items : List Numbered) (terms : List CardRld) (f g : CardRld) → IsKeptLeader items terms f → IsKeptLeader items terms g → AreDisjoint f g
    → AreApart (constant items terms f) (constant items terms g)
one_apart items terms f g first second apart = λ same.
    let p : Based items f = based items terms f first in
    let q : Based items g = based items terms g second in
    let item : p.x ≡ q.x = one_only (slice_get items (number_or items f.p)) p.x q.x p.number (ap (λ k. slice_get items k) same ∙ q.number) in
    let section : f.p ≡ g.p = sym p.esdid ∙ (ap (λ x. x.esdid) item ∙ q.esdid) in
    subst (λ b. (f.address - base_of items f.p + length_of_flag f.flag ≤ g.address - b) ⊎ (g.address - b + length_of_flag g.flag ≤ f.address - base_of items f.p))
    (ap (λ s. base_of items s) section)
    (apart_step f.address (length_of_flag f.flag) g.address (length_of_flag g.flag) (base_of items f.p) p.base
    (subst (λ s. base_of items s ≤ g.address) (sym section) q.base) (apart section))
  where
    one_only : {X : Type 0} (o : Option X) (x y : X) → o ≡ Some x → o ≡ Some y → x ≡ y
    one_only o x y a b = cc

map_get : {X Y : Type 0} (F : X → Y) (xs : List X) (k : ℕ) (d : X) (e : Y) → k < length xs → get_or (map F xs) k e ≡ F (get_or xs k d)
map_get F [] k d e within = absurd (omega (arith, within))
map_get F (x ∷ xs) zero d e within = refl
map_get F (x ∷ xs) (suc k) d e within = map_get F xs k d e (omega (arith, within))

all_apart : (items : List Numbered) (terms ls : List CardRld) → AllByRecursion (IsKeptLeader items terms) ls → AllPairs AreDisjoint ls
    → AllPairs AreApart (map (constant items terms) ls)
all_apart items terms ls all pairs = λ i j d before within.
    let nothing : CardRld = record { r = 0; p = 0; flag = 0; address = 0 } in
    let last : j < length ls = subst (λ n. j < n) (length-map ls (constant items terms)) within in
    let first : i < length ls = omega arith in
    let leader : All (IsKeptLeader items terms) ls = All-from_recursion (IsKeptLeader items terms) ls all in
    subst (λ c. AreApart c (get_or (map (constant items terms) ls) j d)) (sym (map_get (constant items terms) ls i nothing d first))
    (subst (λ c. AreApart (constant items terms (get_or ls i nothing)) c) (sym (map_get (constant items terms) ls j nothing d last))
    (one_apart items terms (get_or ls i nothing) (get_or ls j nothing) (leader i nothing first) (leader j nothing last) (pairs i j nothing before last)))

-- ---- the whole

kept_leaders : (f : Facts) → IsKept f → list_any (is_term_outside f.items) f.terms ≡ false → AllByRecursion (IsKeptLeader f.items f.terms) (leaders [] f.terms)
kept_leaders f kept none =
    let ls : List CardRld = leaders [] f.terms in
    all_weaker (λ g. (IsKeptTerm f.items g × (is_term_outside f.items g ≡ false)) × AreJoined g (filter (same_place g) f.terms)) (IsKeptLeader f.items f.terms) ls
    (λ g all. record { kept = all.0.0; inside = all.0.1; joined = all.1 })
    (all_both (λ g. IsKeptTerm f.items g × (is_term_outside f.items g ≡ false)) (λ g. AreJoined g (filter (same_place g) f.terms)) ls
    (all_leaders (λ g. IsKeptTerm f.items g × (is_term_outside f.items g ≡ false)) [] f.terms
    (all_both (IsKeptTerm f.items) (λ g. is_term_outside f.items g ≡ false) f.terms kept.terms (any_none (is_term_outside f.items) f.terms none)))
    kept.constants.joined)

pub sound_made : (f : Facts) (start : EndStart) → IsKept f → EndsWell f (Some start) → IsSoundModule (made_of f start)
sound_made f start kept well =
    let syms : List Item = map (symbol f.items) f.items in
    let a : Option CardWhat = start_fault f.items start in
    let b : Option CardWhat = labels_fault f.items f.items in
    let c : Option CardWhat = when (list_any (is_text_outside f.items) f.texts) TextOutside in
    let d : Option CardWhat = when (list_any (is_term_outside f.items) f.terms) ConstantOutside in
    let rest : or_else b (or_else c d) ≡ None = or_none_right a (or_else b (or_else c d)) well.1 in
    let waiting : or_else c d ≡ None = or_none_right b (or_else c d) rest in
    let texts : list_any (is_text_outside f.items) f.texts ≡ false = when_none (list_any (is_text_outside f.items) f.texts) TextOutside (or_none_left c d waiting) in
    let terms : list_any (is_term_outside f.items) f.terms ≡ false = when_none (list_any (is_term_outside f.items) f.terms) ConstantOutside (or_none_right c d waiting) in
    let ls : AllByRecursion (IsKeptLeader f.items f.terms) (leaders [] f.terms) = kept_leaders f kept terms in
    record {
      items = All-from_recursion (IsSoundItem syms) syms
          (all_map (IsSoundItem syms) (symbol f.items) f.items
          (all_weaker (λ x. IsKeptItem x × (is_label x.item.kind ≡ true → label_fault f.items x.item ≡ None)) (λ x. IsSoundItem syms (symbol f.items x)) f.items
          (sound_item f.items)
          (all_both IsKeptItem (λ x. is_label x.item.kind ≡ true → label_fault f.items x.item ≡ None) f.items kept.items
          (labels_clear f.items f.items (or_none_left b (or_else c d) rest)))));
      fragments = All-from_recursion (λ t. LieInItem syms t.item t.offset (length t.bytes)) (map (fragment f.items) f.texts)
          (all_map (λ t. LieInItem syms t.item t.offset (length t.bytes)) (fragment f.items) f.texts
          (all_weaker (λ t. HasSection f.items t.esdid × (is_text_outside f.items t ≡ false)) (λ t. LieInItem syms (fragment f.items t).item (fragment f.items t).offset (length (fragment f.items t).bytes)) f.texts
          (sound_text f.items)
          (all_both (λ t. HasSection f.items t.esdid) (λ t. is_text_outside f.items t ≡ false) f.texts kept.texts (any_none (is_text_outside f.items) f.texts texts))));
      constants = All-from_recursion (IsSoundConst syms) (map (constant f.items f.terms) (leaders [] f.terms))
          (all_map (IsSoundConst syms) (constant f.items f.terms) (leaders [] f.terms)
          (all_weaker (IsKeptLeader f.items f.terms) (λ g. IsSoundConst syms (constant f.items f.terms g)) (leaders [] f.terms)
          (sound_constant f.items f.terms kept.items kept.terms) ls));
      apart = all_apart f.items f.terms (leaders [] f.terms) ls kept.constants.apart;
      entry = sound_entry f.items start well.0 (or_none_left a (or_else b (or_else c d)) well.1);
    }
