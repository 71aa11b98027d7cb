-- The relocation items of a section fit in records, and the order of their addresses is that of their last bytes.
use Rattle.std.proofs.Common.{◌≡◌, ℕ, ◌+◌, ◌-◌, ◌/◌, ◌%◌, ◌^◌, ◌≤◌, ◌<◌, ◌⊎◌, inl, inr, true, ◌==◌, nat_lt, List, [], ◌∷◌, length, map, filter, get_or, Option, Some, None, All, refl, sym, ap, subst, ◌∙◌, arith}
use Rattle.std.specs.Prelude.{flat_map, position, unwrap_or, option_map, slice_get}
use Rattle.std.specs.Option.{option_map_or}
use Rattle.std.specs.List.Sorted.{IsNonDecreasingBy}
use Rattle.std.proofs.lemmas.Bool.{eqb-true}
use Rattle.std.proofs.lemmas.List.Concat.{flat_map-cons}
use Rattle.std.proofs.lemmas.List.Elements.{All-head, All-tail, All-map, All-filter, All-weaker, filter_passes}
use Rattle.std.proofs.lemmas.List.Kept.{AllPairs-filter}
use Rattle.std.proofs.lemmas.List.Quantifiers.{position-Some}
use Rattle.std.proofs.lemmas.Option.{slice_get_within}
use Rattle.relocate.proofs.Bounds.{in_section}
use Rattle.sym_mod.specs.declared.module.Kind.{Kind}
use Rattle.sym_mod.specs.declared.module.Kind.TheVariants.{Address, Branch, Displacement, Total as TotalKind}
use Rattle.sym_mod.specs.declared.program.Program.{Program}
use Rattle.sym_mod.specs.declared.program.Section.{Section}
use Rattle.sym_mod.specs.declared.program.Constant.{Constant}
use Rattle.sym_mod.specs.declared.program.Term.{Term}
use Rattle.sym_mod.specs.declared.program.Target.{Target}
use Rattle.sym_mod.specs.declared.program.Target.TheVariants.{Section as InSection, Label as AtLabel, Unresolved, Register as OfRegister, Total}
use Rattle.sym_mod.specs.Sound.{TargetFitsKind, LieInSection, IsSoundConstant, ConstantsApart, IsSoundProgram}
use Rattle.load_recs.specs.declared.items.RldItem.{RldItem}
use Rattle.linking_model.specs.Places.{Laid, place, length_of_section}
use Rattle.member_model.specs.Parts.{Part, OneSection, parts, part_eq, part_number, target_number}
use Rattle.member_model.specs.Chunks.{term_item, section_items}
use Rattle.mod_segments.specs.Chunks.{IsItem}
use Rattle.mod_segments.specs.Pieces.{last_byte}
use Rattle.mod_write.proofs.Sorted.{in_order_all, in_order_ordered}
use Rattle.mod_write.proofs.Pairs.{Pairs, pairs_by, pairs_append, pairs_in_order, in_order_as, non_decreasing, all_flat}
use Rattle.mod_write.proofs.Terms.{flag_of, SignFits, signs_fit, term_alone, term_length, term_known}

-- ---- numbers

abbrev pub few_symbols : Laid → ℕ
few_symbols P = length (parts P) + length P.program.labels + length P.program.unresolved + length P.program.registers

number_by : (P : Laid) (x : Part) (found : Option ℕ) → position (part_eq x) (parts P) ≡ found
    → unwrap_or (option_map (λ k. k + 1) found) 0 ≤ length (parts P)
number_by P x None e = omega arith
number_by P x (Some k) e = let h = position-Some (part_eq x) (parts P) k x e in omega (arith, h.0)

pub number_within : (P : Laid) (x : Part) → part_number P x ≤ length (parts P)
number_within P x = number_by P x (position (part_eq x) (parts P)) refl

pub target_within : (P : Laid) (kind : Kind) (y : Target) → TargetFitsKind P.program kind y → target_number P y ≤ few_symbols P
unfolding target_number
target_within P Address (InSection i) fits = let h = number_within P (OneSection i) in omega arith
target_within P Address (AtLabel i) fits = omega (arith, fits)
target_within P Address (Unresolved i) fits = omega (arith, fits)
target_within P Address (OfRegister i) fits = absurd fits
target_within P Address Total fits = absurd fits
target_within P Branch (InSection i) fits = let h = number_within P (OneSection i) in omega arith
target_within P Branch (AtLabel i) fits = omega (arith, fits)
target_within P Branch (Unresolved i) fits = omega (arith, fits)
target_within P Branch (OfRegister i) fits = absurd fits
target_within P Branch Total fits = absurd fits
target_within P Displacement (InSection i) fits = absurd fits
target_within P Displacement (AtLabel i) fits = absurd fits
target_within P Displacement (Unresolved i) fits = absurd fits
target_within P Displacement (OfRegister i) fits = omega (arith, fits)
target_within P Displacement Total fits = absurd fits
target_within P TotalKind (InSection i) fits = absurd fits
target_within P TotalKind (AtLabel i) fits = absurd fits
target_within P TotalKind (Unresolved i) fits = absurd fits
target_within P TotalKind (OfRegister i) fits = absurd fits
target_within P TotalKind Total fits = omega arith

-- ---- where a constant stands

inside_by : (p : Program) (i offset n : ℕ) (found : Option Section) → slice_get p.sections i ≡ found → LieInSection p i offset n
    → offset + n ≤ option_map_or (λ x. x.length) found 0
inside_by p i offset n None e inside = absurd (let h = rw e at inside in h)
inside_by p i offset n (Some x) e inside = let h = rw e at inside in h.1

pub within_section : (p : Program) (i offset n : ℕ) → LieInSection p i offset n → offset + n ≤ length_of_section p i
within_section p i offset n inside = inside_by p i offset n (slice_get p.sections i) refl inside

pub section_there : (p : Program) (i offset n : ℕ) → LieInSection p i offset n → i < length p.sections
section_there p i offset n inside =
    let at = in_section p i offset n inside in
    slice_get_within p.sections i at.item at.found

-- ---- one item

pub term_end : (P : Laid) (c : Constant) (t : Term) → 1 ≤ c.length → c.length ≤ 4
    → last_byte (term_item P c t) ≡ place P c.section + c.offset + (c.length - 1)
term_end P c t some short =
    let e : flag_of c.kind c.length t.target t.minus / 4 % 4 ≡ c.length - 1 = term_length P.program c.kind c.length t.target t.minus some short in
    omega (arith, e)

-- few enough symbols, and sections that end within the greatest module
pub record AreNear (P : Laid) : Type 0 where
  pub few : few_symbols P < 2 ^ 16
  pub ends : (i : ℕ) → i < length P.program.sections → place P i + length_of_section P.program i ≤ 16777216

term_is : (P : Laid) (c : Constant) (t : Term) → AreNear P → IsSoundConstant P.program c → TargetFitsKind P.program c.kind t.target → SignFits c.kind t.minus
    → IsItem (term_item P c t)
term_is P c t near sound fits sign =
    let some = sound.not_empty in
    let short = sound.short in
    let within : c.offset + c.length ≤ length_of_section P.program c.section = within_section P.program c.section c.offset c.length sound.inside in
    let end : place P c.section + length_of_section P.program c.section ≤ 16777216 =
    near.ends c.section (section_there P.program c.section c.offset c.length sound.inside) in
    let few : few_symbols P < 2 ^ 16 = near.few in
    let number = number_within P (OneSection c.section) in
    let target = target_within P c.kind t.target fits in
    record {
      fits = record { r_fits = omega arith; p_fits = omega arith; address_fits = omega arith };
      alone = term_alone P.program c.kind c.length t.target t.minus some short;
      known = term_known P.program c.kind c.length t.target t.minus some short fits sign;
    }

terms_are : (P : Laid) (c : Constant) → AreNear P → IsSoundConstant P.program c → All IsItem (map (term_item P c) c.terms)
terms_are P c near sound =
    All-map IsItem (term_item P c) c.terms
    (λ k d below. term_is P c (get_or c.terms k d) near sound (sound.targets k d below) (signs_fit c.kind c.terms sound.signs k d below))

-- the constants of section i
abbrev pub constants_in : Laid → ℕ → List Constant
constants_in P i = filter (λ c. c.section == i) P.program.constants

sound_in : (P : Laid) (i : ℕ) → IsSoundProgram P.program → All (IsSoundConstant P.program) (constants_in P i)
sound_in P i sound = All-filter (λ c. c.section == i) (IsSoundConstant P.program) P.program.constants sound.constants

there : (P : Laid) (i : ℕ) → All (λ c. c.section ≡ i) (constants_in P i)
there P i =
    All-weaker (λ c. (c.section == i) ≡ true) (λ c. c.section ≡ i) (λ c e. eqb-true c.section i e) (constants_in P i)
    (filter_passes (λ c. c.section == i) P.program.constants)

pub items_are : (P : Laid) (i : ℕ) → AreNear P → IsSoundProgram P.program → All IsItem (section_items P i)
items_are P i near sound =
    in_order_all (λ x y. nat_lt x.address y.address) IsItem (flat_map (λ c. map (term_item P c) c.terms) (constants_in P i))
    (all_flat IsItem (λ c. map (term_item P c) c.terms) (constants_in P i)
    (All-weaker (IsSoundConstant P.program) (λ c. All IsItem (map (term_item P c) c.terms)) (λ c is. terms_are P c near is) (constants_in P i) (sound_in P i sound)))

-- ---- inside

pub items_inside : (P : Laid) (i : ℕ) → IsSoundProgram P.program → All (λ x. place P i ≤ last_byte x) (section_items P i)
items_inside P i sound =
    in_order_all (λ x y. nat_lt x.address y.address) (λ x. place P i ≤ last_byte x) (flat_map (λ c. map (term_item P c) c.terms) (constants_in P i))
    (all_flat (λ x. place P i ≤ last_byte x) (λ c. map (term_item P c) c.terms) (constants_in P i)
    (λ k d below.
    let c : Constant = get_or (constants_in P i) k d in
    let is : IsSoundConstant P.program c = sound_in P i sound k d below in
    let here : c.section ≡ i = there P i k d below in
    All-map (λ x. place P i ≤ last_byte x) (term_item P c) c.terms
    (λ j e short. let end = term_end P c (get_or c.terms j e) is.not_empty is.short in
    let at : place P c.section ≡ place P i = ap (place P) here in omega (arith, end, at))))

-- ---- order

-- the items go the same way by their addresses and by their last bytes
abbrev GoAlike : RldItem → RldItem → Type 0
GoAlike x y = (x.address ≤ y.address → last_byte x ≤ last_byte y) × (y.address ≤ x.address → last_byte y ≤ last_byte x)

own_alike : (P : Laid) (c : Constant) (terms : List Term) → IsSoundConstant P.program c → Pairs GoAlike (map (term_item P c) terms)
own_alike P c [] is = tt
own_alike P c (t ∷ ts) is = (
  All-map (GoAlike (term_item P c t)) (term_item P c) ts
      (λ k d below.
      let e = term_end P c t is.not_empty is.short in
      let f = term_end P c (get_or ts k d) is.not_empty is.short in
      (λ le. omega (arith, e, f), λ le. omega (arith, e, f))),
  own_alike P c ts is,
)

apart_alike : (P : Laid) (c d : Constant) (t u : Term) → IsSoundConstant P.program c → IsSoundConstant P.program d → c.section ≡ d.section
    → (c.offset + c.length ≤ d.offset) ⊎ (d.offset + d.length ≤ c.offset) → GoAlike (term_item P c t) (term_item P d u)
apart_alike P c d t u is js same (inl below) =
    let e = term_end P c t is.not_empty is.short in
    let f = term_end P d u js.not_empty js.short in
    let at : place P c.section ≡ place P d.section = ap (place P) same in
    let some = is.not_empty in
    let more = js.not_empty in
    (λ le. omega (arith, e, f, at), λ le. absurd (omega (arith, at)))
apart_alike P c d t u is js same (inr above) =
    let e = term_end P c t is.not_empty is.short in
    let f = term_end P d u js.not_empty js.short in
    let at : place P c.section ≡ place P d.section = ap (place P) same in
    let some = is.not_empty in
    let more = js.not_empty in
    (λ le. absurd (omega (arith, at)), λ le. omega (arith, e, f, at))

across_alike : (P : Laid) (i : ℕ) (c : Constant) (cs : List Constant) → IsSoundConstant P.program c → c.section ≡ i → All (IsSoundConstant P.program) cs
    → All (λ d. d.section ≡ i) cs → All (ConstantsApart c) cs
    → All (λ x. All (GoAlike x) (flat_map (λ d. map (term_item P d) d.terms) cs)) (map (term_item P c) c.terms)
across_alike P i c cs is here are heres apart =
    All-map (λ x. All (GoAlike x) (flat_map (λ d. map (term_item P d) d.terms) cs)) (term_item P c) c.terms
    (λ j e short.
    all_flat (GoAlike (term_item P c (get_or c.terms j e))) (λ d. map (term_item P d) d.terms) cs
    (λ k d below.
    let other : Constant = get_or cs k d in
    let same : c.section ≡ other.section = here ∙ sym (heres k d below) in
    All-map (GoAlike (term_item P c (get_or c.terms j e))) (term_item P other) other.terms
    (λ l g low. apart_alike P c other (get_or c.terms j e) (get_or other.terms l g) is (are k d below) same (apart k d below same))))

all_alike : (P : Laid) (i : ℕ) (cs : List Constant) → All (IsSoundConstant P.program) cs → All (λ d. d.section ≡ i) cs → Pairs ConstantsApart cs
    → Pairs GoAlike (flat_map (λ d. map (term_item P d) d.terms) cs)
all_alike P i [] are heres apart = tt
all_alike P i (c ∷ cs) are heres apart =
    let is = All-head (IsSoundConstant P.program) c cs are in
    let rest = All-tail (IsSoundConstant P.program) c cs are in
    let more = All-tail (λ d. d.section ≡ i) c cs heres in
    subst (Pairs GoAlike) (sym (flat_map-cons (λ d. map (term_item P d) d.terms) c cs))
    (pairs_append GoAlike (map (term_item P c) c.terms) (flat_map (λ d. map (term_item P d) d.terms) cs) (own_alike P c c.terms is)
    (all_alike P i cs rest more apart.1)
    (across_alike P i c cs is (All-head (λ d. d.section ≡ i) c cs heres) rest more apart.0))

pub items_ordered : (P : Laid) (i : ℕ) → IsSoundProgram P.program → IsNonDecreasingBy last_byte (section_items P i)
items_ordered P i sound =
    let found : List RldItem = flat_map (λ c. map (term_item P c) c.terms) (constants_in P i) in
    let alike = all_alike P i (constants_in P i) (sound_in P i sound) (there P i)
    (pairs_by ConstantsApart (constants_in P i) (AllPairs-filter ConstantsApart (λ c. c.section == i) P.program.constants sound.apart)) in
    non_decreasing last_byte (section_items P i)
    (in_order_as (λ x. x.address) last_byte (section_items P i) (in_order_ordered (λ x. x.address) found)
    (forward (section_items P i) (pairs_in_order GoAlike (λ x. x.address) (λ x y both. (both.1, both.0)) found alike)))
  where
    forward : (xs : List RldItem) → Pairs GoAlike xs → Pairs (λ x y. x.address ≤ y.address → last_byte x ≤ last_byte y) xs
    forward [] p = tt
    forward (x ∷ xs) p = (λ k d lt. (p.0 k d lt).0, forward xs p.1)
