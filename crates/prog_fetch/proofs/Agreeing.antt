-- The symbols that a member is placed by are those that a fetch of it reads.
use Rattle.std.proofs.Common.{arith, ◌≡◌, ℕ, ◌+◌, ◌≤◌, ◌⊎◌, inl, inr, Bool, true, false, not, ◌&&◌, ◌||◌, ◌==◌, if◌then◌else◌, List, [], ◌∷◌, ◌++◌, length, fold, drop, refl, sym, ◌∙◌, ap, subst, Option, Some, None, Ok}
use Rattle.std.specs.Option.{option_map}
use Rattle.std.proofs.lemmas.List.Sums.{take_while-cons}
use Rattle.le_bytes.specs.declared.record_what.RecWhat.TheVariants.{NoEnd}
use Rattle.pds_directory.specs.declared.entry.Entry.{Entry}
use Rattle.load_recs.specs.Forms.{is_one_of, ends_of, form_of}
use Rattle.load_recs.specs.Items.{number_at}
use Rattle.load_recs.specs.Reading.{form, subtype, contents_as, rld_bytes}
use Rattle.load_recs.specs.Relocations.{rlds_of}
use Rattle.load_recs.specs.declared.forms.Form.{Form}
use Rattle.load_recs.specs.declared.forms.Form.TheVariants.{Symbols, Sections, Notes, Control, Rld, ControlRld, Unknown}
use Rattle.load_recs.specs.declared.records.TextHead.{TextHead}
use Rattle.load_recs.specs.Records.{ScatterRecord, TranslationRecord}
use Rattle.member_model.specs.Symbols.{is_overlay_member, is_scatter_member}
use Rattle.member_model.specs.Facts.{Facts, facts, no_facts, seen, walked, with_contents, with_record, with_fields}
use Rattle.member_model.specs.Faults.{first_some, when, fault}
use Rattle.member_model.specs.FirstBad.{Fault, at, faults_from, first_symbols, head_fault, entry_fault, first_bad_of, first_bad, fetch_bad}
use Rattle.member_model.specs.Placing.{may_scatter, is_of_segment, heads}
use Rattle.member_walk.proofs.HeadLists.{faults-append}
use Rattle.fetch_places.specs.declared.placement.Area.{Area}
use Rattle.fetch_places.specs.declared.placement.Placement.{Placement}
use Rattle.fetch_places.specs.Extents.{Fits}
use Rattle.prog_fetch.specs.Scattering.{head_symbols, Places}
use Rattle.prog_fetch.proofs.Sound.{left_none, right_none}
use Rattle.prog_fetch.proofs.Records.{front_back, none_of_map}
use Rattle.prog_fetch.proofs.Texts.{other_same, late_more, ended_symbols, ended_stage, after_text}

-- ---- forms

-- control and relocation records
abbrev is_late : Form → Bool
is_late (Control ends) = true
is_late (Rld ends) = true
is_late (ControlRld ends) = true
is_late _ = false

-- none of nine
none_of : (a b c d e f g h k : Bool) → (a || (b || (c || (d || (e || (f || (g || (h || (k || false))))))))) ≡ false
    → ((a || (d || (g || false))) ≡ false) × ((b || (e || (h || false))) ≡ false) × ((c || (f || (k || false))) ≡ false)
none_of false false false false false false false false false none = (refl, refl, refl)
none_of true b c d e f g h k none = absurd cc
none_of false true c d e f g h k none = absurd cc
none_of false false true d e f g h k none = absurd cc
none_of false false false true e f g h k none = absurd cc
none_of false false false false true f g h k none = absurd cc
none_of false false false false false true g h k none = absurd cc
none_of false false false false false false true h k none = absurd cc
none_of false false false false false false false true k none = absurd cc
none_of false false false false false false false false true none = absurd cc

all_three : (a d g : Bool) → (a || (d || (g || false))) ≡ false → (a ≡ false) × (d ≡ false) × (g ≡ false)
all_three false false false none = (refl, refl, refl)
all_three true d g none = absurd cc
all_three false true g none = absurd cc
all_three false false true none = absurd cc

other_form : (i : ℕ) → is_one_of (1 ∷ 2 ∷ 3 ∷ 5 ∷ 6 ∷ 7 ∷ 13 ∷ 14 ∷ 15 ∷ []) i ≡ false → is_late (form_of i) ≡ false
other_form i none =
    let parts = none_of (1 == i) (2 == i) (3 == i) (5 == i) (6 == i) (7 == i) (13 == i) (14 == i) (15 == i) none in
    by_head (i == 32) (i == 16) (i == 96) parts.0 parts.1 parts.2
  where
    by_head : (s t u : Bool) → is_one_of (1 ∷ 5 ∷ 13 ∷ []) i ≡ false → is_one_of (2 ∷ 6 ∷ 14 ∷ []) i ≡ false → is_one_of (3 ∷ 7 ∷ 15 ∷ []) i ≡ false
        → is_late (if s then Symbols
        else (if t then Sections
        else (if u then Notes
        else (if is_one_of (1 ∷ 5 ∷ 13 ∷ []) i then Control (ends_of i)
        else (if is_one_of (2 ∷ 6 ∷ 14 ∷ []) i then Rld (ends_of i)
        else (if is_one_of (3 ∷ 7 ∷ 15 ∷ []) i then ControlRld (ends_of i)
        else Unknown)))))) ≡ false
    by_head true t u x y z = refl
    by_head false true u x y z = refl
    by_head false false true x y z = refl
    by_head false false false x y z = rw (x, y, z) refl

-- no number is one of these and another
none_else : (n : ℕ) → (n ≡ 32) ⊎ (n ≡ 16) ⊎ (n ≡ 96) → is_one_of (1 ∷ 2 ∷ 3 ∷ 5 ∷ 6 ∷ 7 ∷ 13 ∷ 14 ∷ 15 ∷ []) n ≡ false
none_else n (inl is) = rw is refl
none_else n (inr (inl is)) = rw is refl
none_else n (inr (inr is)) = rw is refl

late_form : (i : ℕ) → is_one_of (1 ∷ 2 ∷ 3 ∷ 5 ∷ 6 ∷ 7 ∷ 13 ∷ 14 ∷ 15 ∷ []) i ≡ true → is_late (form_of i) ≡ true
late_form i some = by_head (i == 32) refl (i == 16) refl (i == 96) refl (is_one_of (1 ∷ 5 ∷ 13 ∷ []) i) refl (is_one_of (2 ∷ 6 ∷ 14 ∷ []) i) refl (is_one_of (3 ∷ 7 ∷ 15 ∷ []) i) refl
  where
    other : (n : ℕ) → (i == n) ≡ true → i ≡ n
    other n is = grind (arith, is)

    never : is_one_of (1 ∷ 2 ∷ 3 ∷ 5 ∷ 6 ∷ 7 ∷ 13 ∷ 14 ∷ 15 ∷ []) i ≡ false → ⊥
    never none = let gone : true ≡ false = sym some ∙ none in absurd cc

    nothing : is_one_of (1 ∷ 5 ∷ 13 ∷ []) i ≡ false → is_one_of (2 ∷ 6 ∷ 14 ∷ []) i ≡ false → is_one_of (3 ∷ 7 ∷ 15 ∷ []) i ≡ false → ⊥
    nothing x y z =
        let a = all_three (1 == i) (5 == i) (13 == i) x in
        let b = all_three (2 == i) (6 == i) (14 == i) y in
        let c = all_three (3 == i) (7 == i) (15 == i) z in
        never (rw (a.0, b.0, c.0, a.1, b.1, c.1, a.2, b.2, c.2) refl)

    by_head : (s : Bool) → (i == 32) ≡ s → (t : Bool) → (i == 16) ≡ t → (u : Bool) → (i == 96) ≡ u → (x : Bool) → is_one_of (1 ∷ 5 ∷ 13 ∷ []) i ≡ x
        → (y : Bool) → is_one_of (2 ∷ 6 ∷ 14 ∷ []) i ≡ y → (z : Bool) → is_one_of (3 ∷ 7 ∷ 15 ∷ []) i ≡ z
        → is_late (if s then Symbols
        else (if t then Sections
        else (if u then Notes
        else (if x then Control (ends_of i)
        else (if y then Rld (ends_of i)
        else (if z then ControlRld (ends_of i)
        else Unknown)))))) ≡ true
    by_head true is t ist u isu x isx y isy z isz = absurd (never (none_else i (inl (other 32 is))))
    by_head false is true ist u isu x isx y isy z isz = absurd (never (none_else i (inr (inl (other 16 ist)))))
    by_head false is false ist true isu x isx y isy z isz = absurd (never (none_else i (inr (inr (other 96 isu)))))
    by_head false is false ist false isu true isx y isy z isz = refl
    by_head false is false ist false isu false isx true isy z isz = refl
    by_head false is false ist false isu false isx false isy true isz = refl
    by_head false is false ist false isu false isx false isy false isz = absurd (nothing isx isy isz)

late_record : (b : List ℕ) → is_of_segment b ≡ true → is_late (form b) ≡ true
late_record [] segment = absurd cc
late_record (i ∷ b) segment = late_form i segment

other_record : (b : List ℕ) → is_of_segment b ≡ false → is_late (form b) ≡ false
other_record [] other = refl
other_record (i ∷ b) other = other_form i other

-- ---- one record

-- what stays where a record is one of a segment
record IsLate (F G : Facts) : Type 0 where
  pub symbols : G.symbols ≡ F.symbols
  pub stage : 4 ≤ G.stage

late_contents : (F : Facts) (f : Form) (b : List ℕ) → is_late f ≡ true → IsLate F (with_contents F (contents_as f b))
late_contents F (Control ends) b late = record { symbols = refl; stage = omega arith }
late_contents F (Rld ends) b late = record {
  symbols = ended_symbols ends (with_fields (rlds_of (rld_bytes b)) F);
  stage = rw (ended_stage ends (with_fields (rlds_of (rld_bytes b)) F)) (omega arith);
}
late_contents F (ControlRld ends) b late = record { symbols = refl; stage = omega arith }
late_contents F Symbols b late = absurd cc
late_contents F Sections b late = absurd cc
late_contents F Notes b late = absurd cc
late_contents F Unknown b late = absurd cc

late_seen : (F : Facts) (b : List ℕ) → F.due ≡ None → is_of_segment b ≡ true → IsLate F (seen F b)
unfolding seen
late_seen F b none segment = subst (λ o. IsLate F (with_record F o b)) (sym none) (late_contents F (form b) b (late_record b segment))

-- what stays where it is none
record IsOther (F G : Facts) : Type 0 where
  pub due : G.due ≡ F.due
  pub segment : G.segment ≡ F.segment

other_contents : (F : Facts) (f : Form) (b : List ℕ) → is_late f ≡ false → IsOther F (with_contents F (contents_as f b))
other_contents F Symbols b other = record { due = refl; segment = refl }
other_contents F Sections b other = by_kind (subtype b == 1)
  where
    by_kind : (t : Bool) → IsOther F (with_contents F (if t then ScatterRecord (number_at 4 2 b) (drop 8 b) else TranslationRecord (number_at 4 2 b) (drop 8 b)))
    by_kind true = record { due = refl; segment = refl }
    by_kind false = record { due = refl; segment = refl }
other_contents F Notes b other = record { due = refl; segment = refl }
other_contents F Unknown b other = record { due = refl; segment = refl }
other_contents F (Control ends) b other = absurd cc
other_contents F (Rld ends) b other = absurd cc
other_contents F (ControlRld ends) b other = absurd cc

other_seen : (F : Facts) (b : List ℕ) → F.due ≡ None → is_of_segment b ≡ false → IsOther F (seen F b)
unfolding seen
other_seen F b none other = subst (λ o. IsOther F (with_record F o b)) (sym none) (other_contents F (form b) b (other_record b other))

-- ---- the records behind the heads bring no symbols

late_symbols : (e : Entry) (F : Facts) (b : List ℕ) → 4 ≤ F.stage → fault e F b ≡ None → (seen F b).symbols ≡ F.symbols
late_symbols e F b late right = by_due F.due refl
  where
    by_due : (o : Option TextHead) → F.due ≡ o → (seen F b).symbols ≡ F.symbols
    by_due None none = (other_same e F b none late right).symbols
    by_due (Some t) due =
        ap (λ (G : Facts). G.symbols) (after_text F b t due)
        ∙ ended_symbols F.ends (record F { texts = F.texts ++ record { segment = F.segment; section = t.section; address = t.address; bytes = b } ∷ []; due = None })

late_walk : (e : Entry) (F : Facts) (n : ℕ) (bs : List (List ℕ)) → 4 ≤ F.stage → faults_from e F n bs ≡ None → (walked 1 F bs).symbols ≡ F.symbols
unfolding walked faults_from
late_walk e F n [] late none = refl
late_walk e F n (b ∷ bs) late none =
    by_segment (F.segment == 1)
    (late_walk e (seen F b) (n + 1) bs (late_more e F b late here) (right_none (option_map (at n) (fault e F b)) (faults_from e (seen F b) (n + 1) bs) none))
  where
    here : fault e F b ≡ None
    here = none_of_map n (fault e F b) (left_none (option_map (at n) (fault e F b)) (faults_from e (seen F b) (n + 1) bs) none)

    by_segment : (t : Bool) → (walked 1 (seen F b) bs).symbols ≡ (seen F b).symbols → (if t then walked 1 (seen F b) bs else F).symbols ≡ F.symbols
    by_segment true rest = rest ∙ late_symbols e F b late here
    by_segment false rest = refl

heads_walk : (e : Entry) (F : Facts) (n : ℕ) (bs : List (List ℕ)) → F.due ≡ None → F.segment ≡ 1 → faults_from e F n bs ≡ None
    → (walked 1 F bs).symbols ≡ (fold seen F (heads bs)).symbols
unfolding walked faults_from
heads_walk e F n [] none one good = refl
heads_walk e F n (b ∷ bs) none one good =
    by_kind (is_of_segment b) refl
    (λ other. heads_walk e (seen F b) (n + 1) bs ((other_seen F b none other).due ∙ none) ((other_seen F b none other).segment ∙ one) later)
  where
    later : faults_from e (seen F b) (n + 1) bs ≡ None
    later = right_none (option_map (at n) (fault e F b)) (faults_from e (seen F b) (n + 1) bs) good

    goes : walked 1 F (b ∷ bs) ≡ walked 1 (seen F b) bs
    goes = let is : (F.segment == 1) ≡ true = grind (arith, one) in rw is refl

    by_kind : (t : Bool) → is_of_segment b ≡ t → (is_of_segment b ≡ false → (walked 1 (seen F b) bs).symbols ≡ (fold seen (seen F b) (heads bs)).symbols)
        → (walked 1 F (b ∷ bs)).symbols ≡ (fold seen F (heads (b ∷ bs))).symbols
    by_kind true segment go =
        let late : IsLate F (seen F b) = late_seen F b none segment in
        let no_heads : heads (b ∷ bs) ≡ [] = take_while-cons (λ c. not (is_of_segment c)) b bs ∙ rw segment refl in
        ap (λ (G : Facts). G.symbols) goes
        ∙ (late_walk e (seen F b) (n + 1) bs late.stage later
        ∙ (late.symbols ∙ ap (λ hs. (fold seen F hs).symbols) (sym no_heads)))
    by_kind false other go =
        let one_head : heads (b ∷ bs) ≡ b ∷ heads bs = take_while-cons (λ c. not (is_of_segment c)) b bs ∙ rw other refl in
        ap (λ (G : Facts). G.symbols) goes ∙ (go other ∙ ap (λ hs. (fold seen F hs).symbols) (sym one_head))

-- ---- a good member

all_right : (e : Entry) (records : List (List ℕ)) (t : Bool) → first_bad_of e records t ≡ None → faults_from e no_facts 1 records ≡ None
unfolding first_bad_of facts
all_right e records t good =
    let first : List (List ℕ) = first_symbols records in
    let rest : List (List ℕ) = drop (length first) records in
    let a : Option Fault = faults_from e no_facts 1 first in
    let b : Option Fault = option_map (at 1) (head_fault records) in
    let c : Option Fault = option_map (at 0) (entry_fault e (facts first)) in
    let d : Option Fault = faults_from e (facts first) (length first + 1) rest in
    let f : Option Fault = option_map (at (length records + 1)) (when (not t) NoEnd) in
    let a_none : a ≡ None = left_none a (first_some (b ∷ c ∷ d ∷ f ∷ [])) good in
    let after_a : first_some (b ∷ c ∷ d ∷ f ∷ []) ≡ None = right_none a (first_some (b ∷ c ∷ d ∷ f ∷ [])) good in
    let after_b : first_some (c ∷ d ∷ f ∷ []) ≡ None = right_none b (first_some (c ∷ d ∷ f ∷ [])) after_a in
    let after_c : first_some (d ∷ f ∷ []) ≡ None = right_none c (first_some (d ∷ f ∷ [])) after_b in
    let d_none : d ≡ None = left_none d (first_some (f ∷ [])) after_c in
    let number : 1 + length first ≡ length first + 1 = omega arith in
    ap (faults_from e no_facts 1) (sym (front_back records))
    ∙ (faults-append e no_facts 1 first rest ∙ rw (a_none, number) d_none)

not_overlay : (e : Entry) → may_scatter e ≡ true → is_overlay_member e ≡ false
not_overlay e scatter = by_cases (is_scatter_member e) (is_overlay_member e) scatter
  where
    by_cases : (a b : Bool) → (a && not b) ≡ true → b ≡ false
    by_cases a false both = refl
    by_cases true true both = absurd cc
    by_cases false true both = absurd cc

pub symbols_agree : (e : Entry) (records : List (List ℕ)) → may_scatter e ≡ true → fetch_bad e records ≡ None
    → (walked 1 no_facts records).symbols ≡ head_symbols records
unfolding fetch_bad first_bad facts
symbols_agree e records scatter good =
    let whole : first_bad_of e records (facts records).ended ≡ None = rw (not_overlay e scatter) at good in
    heads_walk e no_facts 1 records refl refl (all_right e records (facts records).ended whole)

pub placed_fits : (e : Entry) (areas : List Area) (records : List (List ℕ)) (p : Placement) → Places e areas records (Ok p) → fetch_bad e records ≡ None
    → Fits p (walked 1 no_facts records).symbols
placed_fits e areas records p places good = subst (Fits p) (sym (symbols_agree e records places.0.scatter good)) places.2
