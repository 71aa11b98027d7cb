-- The bytes of a section: in a constant and outside of all.
use Rattle.std.proofs.Common.{arith, ◌≡◌, ◌⊎◌, inl, inr, ℕ, ◌+◌, ◌-◌, ◌%◌, ◌^◌, ◌<◌, ◌≤◌, Bool, true, false, ◌&&◌, ◌==◌, if◌then◌else◌, List, [], ◌∷◌, filter, find, length, sum_by, slice_index, refl, sym, ◌∙◌, ap, subst, mod-lt, Option, Some, None, slice_get}
use Rattle.std.specs.Option.{option_map_or}
use Rattle.std.specs.List.{AllByRecursion as Each}
use Rattle.std.proofs.lemmas.Bool.{and_parts, and_from, and_left, and_right, cases_lt, eqb-true, eq-eqb, ne_eqb, false≢true}
use Rattle.std.proofs.lemmas.Option.{slice_get_within}
use Rattle.std.proofs.lemmas.List.{get_or_past}
use Rattle.std.proofs.lemmas.List.FromFn.{get_or-map-range_with_len, length-map-range_with_len}
use Rattle.byteorder.specs.Endian.{big_bytes}
use Rattle.sym_mod.specs.declared.program.SecKind.TheVariants.{Sd, Cm}
use Rattle.sym_mod.specs.declared.program.Program.{Program}
use Rattle.sym_mod.specs.declared.program.Section.{Section}
use Rattle.sym_mod.specs.declared.program.Constant.{Constant}
use Rattle.sym_mod.specs.declared.program.Term.{Term}
use Rattle.sym_mod.specs.declared.program.Text.{Text}
use Rattle.sym_mod.specs.Sound.{IsSoundConstant, LieInSection, ConstantsApart}
use Rattle.load_recs.specs.declared.items.RldItem.{RldItem}
use Rattle.linking_model.specs.Numbers.{is_among}
use Rattle.linking_model.specs.Places.{Laid, place, length_of_section}
use Rattle.linking_model.specs.Linked.{Placement, block, number_in, stored_byte, covers, constant_at, byte_of, linked_byte}
use Rattle.member_model.specs.Symbols.{field_length}
use Rattle.member_model.specs.SymbolList.{symbols_written}
use Rattle.member_model.specs.Facts.{Facts}
use Rattle.member_model.specs.Parts.{OneSection, part_number, part_bytes, section_kind}
use Rattle.member_model.specs.Chunks.{term_item, part_items}
use Rattle.member_model.specs.Loaded.{Addresses, is_shifted, shift}
use Rattle.member_laws.specs.Linkable.{IsLinkable}
use Rattle.member_laws.proofs.LoadingLists.{Among, Pairs, each_from_all, each_always, each_weaker, each_both, each_beside, at_one, found_passes, found_among, not_found, none_found, find_alone, pairs_from_all, pairs_of_each, sum_same, sum_none, sum_beside, if_is, if_none}
use Rattle.member_laws.proofs.LoadingNumbers.{power_some}
use Rattle.member_laws.proofs.LoadingItems.{IsEven, among_true}
use Rattle.member_laws.proofs.LoadingFields.{IsItemOf, IsBlank, among_parts, sd_not_common}
use Rattle.member_laws.proofs.LoadingBytes.{Misses, stands_at, shift_here}
use Rattle.member_laws.proofs.LoadingShifted.{IsFieldOr, InField}
use Rattle.member_laws.proofs.LoadingTerms.{IsTermItem, is_term_item, section_items_are, each_section_item, sum_section_items}
use Rattle.member_laws.proofs.LoadingTargets.{Found, there}
use Rattle.member_laws.proofs.LoadingConstants.{Agree, term_shift, constant_moves}

-- ---- sections and their bytes

pub size_of_section : (P : Laid) (i : ℕ) → length (part_bytes P (OneSection i)) ≡ length_of_section P.program i
size_of_section P i = length-map-range_with_len (linked_byte P (block P 0) i) 0 (length_of_section P.program i)

-- byte o of the section as it is written
byte_written : (P : Laid) (i o : ℕ) → o < length_of_section P.program i
    → slice_index (part_bytes P (OneSection i)) o ≡ linked_byte P (block P 0) i o
byte_written P i o inside = get_or-map-range_with_len (linked_byte P (block P 0) i) 0 (length_of_section P.program i) o o 0 inside (omega arith)

-- ---- constants

-- n bytes lie in a section of the program that is no common area
pub record LiesThere (p : Program) (i end : ℕ) : Type 0 where
  pub within : i < length p.sections
  pub inside : end ≤ length_of_section p i

pub lies_there : (p : Program) (i o n : ℕ) → LieInSection p i o n → LiesThere p i (o + n)
lies_there p i o n lies = from_found (there p.sections i _ lies)
  where
    from_found : {Q : Section → Type 0} → Found p.sections i (λ x. Q x × (o + n ≤ x.length)) → LiesThere p i (o + n)
    from_found at = record {
      within = slice_get_within p.sections i at.item at.found;
      inside = subst (λ k. o + n ≤ k) (sym (ap (λ s. option_map_or (λ x. x.length) s 0) at.found)) at.holds.1;
    }

no_common : (p : Program) (i o n : ℕ) (s : Option Section) → LieInSection p i o n → slice_get p.sections i ≡ s
    → option_map_or (λ x. x.kind) s Sd ≡ Cm → ⊥
no_common p i o n None lies found common = sd_not_common common
no_common p i o n (Some x) lies found common =
    let at = rw found at lies in
    let text = rw common at at.0 in
    text

sound : (P : Laid) → IsLinkable P → Each (IsSoundConstant P.program) P.program.constants
sound P link = each_from_all (IsSoundConstant P.program) P.program.constants link.sound.constants

abbrev Clear : Program → Constant → Constant → Type 0
Clear p c d = IsSoundConstant p c × IsSoundConstant p d × ConstantsApart c d

clear : (P : Laid) → IsLinkable P → Pairs (Clear P.program) P.program.constants
clear P link =
    pairs_of_each ConstantsApart (IsSoundConstant P.program) P.program.constants
    (pairs_from_all ConstantsApart P.program.constants link.sound.apart) (sound P link)

-- ---- items of constants

-- each item of a constant of the section
each_of_constants : (Q : RldItem → Type 0) (P : Laid) (i : ℕ) → IsLinkable P
    → ((c : Constant) (t : Term) → IsSoundConstant P.program c → c.section ≡ i → IsTermItem c t (term_item P c t) → Q (term_item P c t))
    → Each Q (part_items P (OneSection i))
each_of_constants Q P i link holds =
    each_section_item Q P i
    (each_weaker (IsSoundConstant P.program) _ P.program.constants
    (λ c fit here. each_always (λ t. Q (term_item P c t)) c.terms (λ t. holds c t fit here (is_term_item P c t fit.not_empty fit.short)))
    (sound P link))

pub section_even : (P : Laid) (i : ℕ) → IsLinkable P → Each IsEven (part_items P (OneSection i))
section_even P i link = each_of_constants IsEven P i link (λ c t fit here is. is.even)

pub section_inside : (P : Laid) (i : ℕ) → IsLinkable P → Each (IsItemOf P (OneSection i)) (part_items P (OneSection i))
section_inside P i link =
    each_of_constants (IsItemOf P (OneSection i)) P i link
    (λ c t fit here is. record {
      part = ap (λ k. part_number P (OneSection k)) here;
      from = from (place P c.section) (place P i) c.offset (ap (place P) here);
      to =
          to (place P c.section) (place P i) c.offset c.length (field_length (term_item P c t)) (length_of_section P.program c.section)
          (length (part_bytes P (OneSection i))) (ap (place P) here) is.long (lies_there P.program c.section c.offset c.length fit.inside).inside
          (size_of_section P i ∙ ap (length_of_section P.program) (sym here));
    })
  where
    from : (a b o : ℕ) → a ≡ b → b ≤ a + o
    from a b o same = omega arith

    to : (a b o l f n m : ℕ) → a ≡ b → f ≡ l → o + l ≤ n → m ≡ n → a + o + f ≤ b + m
    to a b o l f n m same long inside size = omega arith

-- ---- bytes by what a search finds

linked_none : (P : Laid) (Q : Placement) (i o : ℕ) → find (covers i o) P.program.constants ≡ None
    → linked_byte P Q i o ≡ stored_byte P.program.texts i o
unfolding linked_byte constant_at
linked_none P Q i o none = ap (byte_of P Q i o) none

linked_some : (P : Laid) (Q : Placement) (i o : ℕ) (c : Constant) → find (covers i o) P.program.constants ≡ Some c
    → linked_byte P Q i o ≡ slice_index (big_bytes c.length (number_in P Q c)) (o - c.offset)
unfolding linked_byte constant_at
linked_some P Q i o c found = ap (byte_of P Q i o) found

no_text : (i : ℕ) (texts : List Text) (o : ℕ) → Each (λ (t : Text). (t.section == i) ≡ false) texts → stored_byte texts i o ≡ 0
unfolding stored_byte
no_text i [] o none = refl
no_text i (t ∷ texts) o none = rw none.0 (no_text i texts o none.1)

-- ---- common areas

pub nothing_kept : {X : Type 0} (p : X → Bool) (xs : List X) → Each (λ x. p x ≡ false) xs → filter p xs ≡ []
nothing_kept p [] none = refl
nothing_kept p (x ∷ xs) none = rw none.0 (nothing_kept p xs none.1)

pub common_is_blank : (P : Laid) (i : ℕ) → IsLinkable P → section_kind P i ≡ Cm → IsBlank P (OneSection i)
common_is_blank P i link common = record { items = items; bytes = bytes }
  where
    elsewhere : (j o n : ℕ) → LieInSection P.program j o n → (j == i) ≡ false
    elsewhere j o n lies =
        ne_eqb j i (λ same.
        no_common P.program j o n (slice_get P.program.sections j) lies refl (ap (section_kind P) same ∙ common))

    no_constants : Each (λ (c : Constant). (c.section == i) ≡ false) P.program.constants
    no_constants =
        each_weaker (IsSoundConstant P.program) _ P.program.constants (λ c fit. elsewhere c.section c.offset c.length fit.inside) (sound P link)

    items : part_items P (OneSection i) ≡ []
    items =
        section_items_are P i
        ∙ rw (nothing_kept (λ (c : Constant). c.section == i) P.program.constants no_constants) refl

    texts : Each (λ (t : Text). (t.section == i) ≡ false) P.program.texts
    texts =
        each_weaker (λ (t : Text). LieInSection P.program t.section t.offset (length t.bytes)) _ P.program.texts
        (λ t lies. elsewhere t.section t.offset (length t.bytes) lies)
        (each_from_all (λ (t : Text). LieInSection P.program t.section t.offset (length t.bytes)) P.program.texts link.sound.texts)

    none_there : (o : ℕ) → find (covers i o) P.program.constants ≡ None
    none_there o =
        none_found (covers i o) P.program.constants
        (each_weaker (λ (c : Constant). (c.section == i) ≡ false) _ P.program.constants
        (λ c other. and_left (c.section == i) (is_among c.offset c.length o) other) no_constants)

    by_cases : (o : ℕ) → (o < length_of_section P.program i) ⊎ (length_of_section P.program i ≤ o)
        → slice_index (part_bytes P (OneSection i)) o ≡ 0
    by_cases o (inl inside) =
        byte_written P i o inside ∙ (linked_none P (block P 0) i o (none_there o) ∙ no_text i P.program.texts o texts)
    by_cases o (inr past) =
        get_or_past (part_bytes P (OneSection i)) o 0 (subst (λ n. n ≤ o) (sym (size_of_section P i)) past)

    bytes : (o : ℕ) → slice_index (part_bytes P (OneSection i)) o ≡ 0
    bytes o = by_cases o (cases_lt o (length_of_section P.program i))

-- ---- in a constant

number_small : (P : Laid) (Q : Placement) (c : Constant) → number_in P Q c < 256 ^ c.length
unfolding number_in
number_small P Q c = mod-lt _ (power_some c.length)

covered : (i o : ℕ) (c : Constant) → covers i o c ≡ true → (c.section ≡ i) × (c.offset ≤ o) × (o < c.offset + c.length)
covered i o c inside =
    let both = and_parts (c.section == i) (is_among c.offset c.length o) inside in
    let place = among_parts c.offset c.length o both.1 in
    (eqb-true c.section i both.0, place.0, place.1)

not_covered : (p : Program) (i o : ℕ) (c d : Constant) → Clear p d c → covers i o c ≡ true → covers i o d ≡ false
not_covered p i o c d clear inside = by_cases (covers i o d) refl
  where
    clash : (a l b m o : ℕ) → a ≤ o → o < a + l → b ≤ o → o < b + m → (b + m ≤ a) ⊎ (a + l ≤ b) → ⊥
    clash a l b m o p r s t sides = omega arith

    by_cases : (b : Bool) → covers i o d ≡ b → covers i o d ≡ false
    by_cases false outside = outside
    by_cases true both =
        let one = covered i o c inside in
        let other = covered i o d both in
        absurd (clash c.offset c.length d.offset d.length o one.1 one.2 other.1 other.2 (clear.2 (other.0 ∙ sym one.0)))

-- the sides of two constants of one section
abbrev Sides : Constant → Constant → Type 0
Sides c d = (c.offset + c.length ≤ d.offset) ⊎ (d.offset + d.length ≤ c.offset)

pub section_field : (P : Laid) (F : Facts) (q : Addresses) (Q : Placement) (i o : ℕ) (c : Constant) → IsLinkable P
    → F.symbols ≡ symbols_written P → Agree P q Q → find (covers i o) P.program.constants ≡ Some c
    → InField P F q (OneSection i) o (linked_byte P Q i o)
section_field P F q Q i o c link symbols agree found = record {
  start = c.offset;
  size = c.length;
  first = number_in P (block P 0) c;
  last = number_in P Q c;
  from = cover.1;
  to = cover.2;
  inside = inside;
  small = number_small P (block P 0) c;
  bytes = bytes;
  fields = fields;
  moves = ap (λ n. (number_in P (block P 0) c + n) % m) sum_is ∙ constant_moves P F q Q c link symbols agree fit lies.within;
  gives = sym (linked_some P Q i o c found);
}
  where
    p : Program
    p = P.program

    m : ℕ
    m = 256 ^ c.length

    N : ℕ
    N = part_number P (OneSection i)

    A : ℕ
    A = place P i + c.offset

    among : Among c p.constants
    among = found_among (covers i o) c p.constants found

    fit : IsSoundConstant p c
    fit = at_one (IsSoundConstant p) c p.constants (sound P link) among

    cover : (c.section ≡ i) × (c.offset ≤ o) × (o < c.offset + c.length)
    cover = covered i o c (found_passes (covers i o) c p.constants found)

    lies : LiesThere p c.section (c.offset + c.length)
    lies = lies_there p c.section c.offset c.length fit.inside

    in_section : c.offset + c.length ≤ length_of_section p i
    in_section = subst (λ k. c.offset + c.length ≤ length_of_section p k) cover.0 lies.inside

    inside : c.offset + c.length ≤ length (part_bytes P (OneSection i))
    inside = subst (λ n. c.offset + c.length ≤ n) (sym (size_of_section P i)) in_section

    bytes : (j : ℕ) → j < c.length
        → slice_index (part_bytes P (OneSection i)) (c.offset + j) ≡ slice_index (big_bytes c.length (number_in P (block P 0) c)) j
    bytes j below =
        byte_written P i (c.offset + j) (further c.offset j c.length (length_of_section p i) below in_section)
        ∙ (linked_some P (block P 0) i (c.offset + j) c again
        ∙ ap (slice_index (big_bytes c.length (number_in P (block P 0) c))) (back c.offset j))
      where
        further : (a j l n : ℕ) → j < l → a + l ≤ n → a + j < n
        further a j l n below in_part = omega arith

        back : (a j : ℕ) → a + j - a ≡ j
        back a j = omega arith

        here : covers i (c.offset + j) c ≡ true
        here =
            and_from (c.section == i) (is_among c.offset c.length (c.offset + j)) (eq-eqb c.section i cover.0)
            (among_true c.offset c.length (c.offset + j) (omega arith) (omega (arith, below)))

        again : find (covers i (c.offset + j)) p.constants ≡ Some c
        again =
            find_alone (Clear p) (covers i (c.offset + j)) c p.constants (clear P link) among here
            (λ d apart. not_covered p i (c.offset + j) c d apart here)

    beside : (d : Constant) → IsSoundConstant p d → Sides c d → d.section ≡ i
        → Each (λ t. IsFieldOr A c.length (term_item P d t)) d.terms
    beside d fit_d sides here =
        each_always (λ t. IsFieldOr A c.length (term_item P d t)) d.terms
        (λ t. by_side t (is_term_item P d t fit_d.not_empty fit_d.short) sides)
      where
        behind : (a b x l y : ℕ) → b ≡ a → x + l ≤ y → a + x + l ≤ b + y
        behind a b x l y same apart = omega arith

        before : (a b x y k f : ℕ) → b ≡ a → f ≡ k → y + k ≤ x → b + y + f ≤ a + x
        before a b x y k f same long apart = omega arith

        by_side : (t : Term) → IsTermItem d t (term_item P d t) → Sides c d → IsFieldOr A c.length (term_item P d t)
        by_side t is (inl after) = inr (inr (behind (place P i) (place P d.section) c.offset c.length d.offset (ap (place P) here) after))
        by_side t is (inr first) =
            inr (inl (before (place P i) (place P d.section) c.offset d.offset d.length (field_length (term_item P d t)) (ap (place P) here) is.long first))

    turned : (d : Constant) → (d.offset + d.length ≤ c.offset) ⊎ (c.offset + c.length ≤ d.offset) → Sides c d
    turned d (inl first) = inr first
    turned d (inr after) = inl after

    fields : Each (IsFieldOr A c.length) (part_items P (OneSection i))
    fields =
        each_section_item (IsFieldOr A c.length) P i
        (each_beside (Clear p) (λ d. d.section ≡ i → Each (λ t. IsFieldOr A c.length (term_item P d t)) d.terms) c p.constants (clear P link) among
        (λ here. each_always (λ t. IsFieldOr A c.length (term_item P c t)) c.terms
        (λ t. inl (ap (λ k. place P k + c.offset) here, (is_term_item P c t fit.not_empty fit.short).long)))
        (λ d apart here. beside d apart.1 (apart.2 (cover.0 ∙ sym here)) here)
        (λ d apart here. beside d apart.0 (turned d (apart.2 (here ∙ sym cover.0))) here))

    sums : Constant → ℕ
    sums d = if d.section == i then sum_by (λ t. shift_here F q m N A (term_item P d t)) d.terms else 0

    nothing : (d : Constant) → IsSoundConstant p d → (c.section ≡ d.section → Sides c d) → sums d ≡ 0
    nothing d fit_d apart =
        if_none (d.section == i) (sum_by (λ t. shift_here F q m N A (term_item P d t)) d.terms)
        (λ here. sum_none (λ t. shift_here F q m N A (term_item P d t)) d.terms
        (each_always _ d.terms (λ t. away t (eqb-true d.section i here) (apart (cover.0 ∙ sym (eqb-true d.section i here))))))
      where
        differ : (a b x y l k : ℕ) → b ≡ a → 1 ≤ l → 1 ≤ k → (x + l ≤ y) ⊎ (y + k ≤ x) → a + x ≡ b + y → ⊥
        differ a b x y l k same some full sides is = omega arith

        off : (t : Term) → d.section ≡ i → Sides c d → stands_at N A (term_item P d t) ≡ false
        off t here sides =
            and_right (N == (term_item P d t).p) (A == (term_item P d t).address)
            (ne_eqb A (term_item P d t).address
            (differ (place P i) (place P d.section) c.offset d.offset c.length d.length (ap (place P) here) fit.not_empty fit_d.not_empty sides))

        away : (t : Term) → d.section ≡ i → Sides c d → shift_here F q m N A (term_item P d t) ≡ 0
        away t here sides =
            if_none (is_shifted F.symbols (term_item P d t)) _
            (λ shifted. ap (λ b. if b then shift F q m (term_item P d t) else 0) (off t here sides))

    own : sums c ≡ sum_by (term_shift P F q m c) c.terms
    own =
        if_is (c.section == i) (sum_by (λ t. shift_here F q m N A (term_item P c t)) c.terms) (eq-eqb c.section i cover.0)
        ∙ sum_same (λ t. shift_here F q m N A (term_item P c t)) (term_shift P F q m c) c.terms
        (each_always _ c.terms
        (λ t. ap (λ b. if is_shifted F.symbols (term_item P c t) then (if b then shift F q m (term_item P c t) else 0) else 0) (on t)))
      where
        on : (t : Term) → stands_at N A (term_item P c t) ≡ true
        on t =
            and_from (N == (term_item P c t).p) (A == (term_item P c t).address)
            (eq-eqb N (term_item P c t).p (ap (λ k. part_number P (OneSection k)) (sym cover.0)))
            (eq-eqb A (term_item P c t).address (ap (λ k. place P k + c.offset) (sym cover.0)))

    sum_is : sum_by (shift_here F q m N A) (part_items P (OneSection i)) ≡ sum_by (term_shift P F q m c) c.terms
    sum_is =
        sum_section_items (shift_here F q m N A) P i
        ∙ (sum_beside (Clear p) sums c p.constants (clear P link) among
        (λ d apart. nothing d apart.1 apart.2)
        (λ d apart. nothing d apart.0 (λ same. turned d (apart.2 (sym same))))
        ∙ own)

-- ---- in none

among_moved : (k a n o : ℕ) → is_among a n o ≡ false → is_among (k + a) n (k + o) ≡ false
among_moved k a n o outside = by_cases (is_among (k + a) n (k + o)) refl
  where
    back : (k a n o : ℕ) → k + a ≤ k + o → k + o < k + a + n → (a ≤ o) × (o < a + n)
    back k a n o low high = (omega arith, omega arith)

    by_cases : (b : Bool) → is_among (k + a) n (k + o) ≡ b → is_among (k + a) n (k + o) ≡ false
    by_cases false is = is
    by_cases true is =
        let both = among_parts (k + a) n (k + o) is in
        let place = back k a n o both.0 both.1 in
        absurd (false≢true (sym outside ∙ among_true a n o place.0 place.1))

pub section_misses : (P : Laid) (i o : ℕ) → IsLinkable P → find (covers i o) P.program.constants ≡ None
    → Each (Misses (place P i + o)) (part_items P (OneSection i))
section_misses P i o link none =
    each_section_item (Misses (place P i + o)) P i
    (each_weaker (λ c. IsSoundConstant P.program c × (covers i o c ≡ false)) _ P.program.constants
    (λ c both here. each_always (λ t. Misses (place P i + o) (term_item P c t)) c.terms (λ t. missed c t both.0 both.1 here))
    (each_both (IsSoundConstant P.program) (λ c. covers i o c ≡ false) P.program.constants (sound P link)
    (not_found (covers i o) P.program.constants none)))
  where
    missed : (c : Constant) (t : Term) → IsSoundConstant P.program c → covers i o c ≡ false → c.section ≡ i
        → Misses (place P i + o) (term_item P c t)
    missed c t fit outside here =
        ap (λ n. is_among (place P c.section + c.offset) n (place P i + o)) (is_term_item P c t fit.not_empty fit.short).long
        ∙ (ap (λ k. is_among (place P k + c.offset) c.length (place P i + o)) here
        ∙ among_moved (place P i) c.offset c.length o
        (sym (ap (λ b. b && is_among c.offset c.length o) (eq-eqb c.section i here)) ∙ outside))

pub section_plain : (P : Laid) (Q : Placement) (i o : ℕ) → o < length_of_section P.program i → find (covers i o) P.program.constants ≡ None
    → slice_index (part_bytes P (OneSection i)) o ≡ linked_byte P Q i o
section_plain P Q i o inside none =
    byte_written P i o inside ∙ (linked_none P (block P 0) i o none ∙ sym (linked_none P Q i o none))
