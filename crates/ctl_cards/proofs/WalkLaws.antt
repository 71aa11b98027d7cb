-- A walk over what spells a name, names, an item or a whole operand.
use Rattle.std.proofs.Common.{◌≡◌, ◌≢◌, ℕ, zero, suc, ◌+◌, ◌-◌, ◌<◌, ◌≤◌, min, Bool, true, false, cond, eqb, ltb, ◌&&◌, List, [], ◌∷◌, ◌++◌, length, take, drop, map, Option, Some, None, Result, Ok, Err, refl, sym, ap, subst, ◌∙◌, arith, inl, inr, append_assoc}
use Rattle.std.specs.List.{list_all, prefix_len, flat_map, AllByRecursion}
use Rattle.std.proofs.lemmas.Bool.{cases_Bool, and_parts, lt-ltb, le-ltb, and_left, ne_eqb, eqb-false, cases_eq}
use Rattle.std.proofs.lemmas.List.{take-append-drop, append-nil}
use Rattle.le_bytes.specs.declared.name.Name.{Name}
use Rattle.ctl_cards.specs.NameTexts.{begins_name, stands_in_name, written, IsWritable}
use Rattle.ctl_cards.specs.Letters.{name_length, name_with, NotNext}
use Rattle.ctl_cards.specs.Statements.{Item, Head, Nameless, Starred, Named, joined, item_text, names_text, comma, open_mark, close_mark, IsList, name_item}
use Rattle.ctl_cards.specs.Walk.{Form, Within, NoParentheses, ThisWord, OneName, SeveralNames, Point, AtItem, AfterStar, InHead, AtName, InName, InWord, AfterItem, opened, takes_names, takes_several, next_point, may_end, stop_of, name_form}
use Rattle.ctl_cards.specs.Reads.{TakesName, HasNoName, ReadsName, ReadsItem}
use Rattle.ctl_cards.specs.declared.operand.Stop.{Stop}
use Rattle.ctl_cards.specs.declared.operand.Stop.TheVariants.{Bad, Memory}
use Rattle.ctl_cards.proofs.NameLaws.{IsWord, begins_stands, differs, open_no_letter, comma_no_letter, close_no_letter, star_no_letter, word_at_front, name_length-le, written-name_with, writable-name_with}

-- what a step gives
abbrev pub went : Form → Option Point → ℕ → List ℕ → Option (List ℕ)
went f o b text = elim o as (λ _. Option (List ℕ)) [ None ↦ Some (b ∷ text) | Some q ↦ stop_of f q text ]

pub step : (f : Form) (p : Point) (b : ℕ) (text : List ℕ) (o : Option Point) → next_point f p b ≡ o → stop_of f p (b ∷ text) ≡ went f o b text
step f p b text o e = ap (λ (x : Option Point). went f x b text) e

-- ---- a name

head_on : (f : Form) (k b : ℕ) → stands_in_name b ≡ true → k < 8 → next_point f (InHead k) b ≡ Some (InHead (k + 1))
head_on f k b t lt = rw (differs b 77 t open_no_letter, differs b 107 t comma_no_letter, t, lt-ltb k 8 lt) refl

head_past : (f : Form) (k b : ℕ) → stands_in_name b ≡ false → next_point f (InHead k) b ≡ next_point f (InHead 8) b
head_past f k b t = rw t refl

name_on : (f : Form) (k b : ℕ) → stands_in_name b ≡ true → k < 8 → next_point f (InName k) b ≡ Some (InName (k + 1))
name_on f k b t lt = rw (differs b 93 t close_no_letter, differs b 107 t comma_no_letter, t, lt-ltb k 8 lt) refl

name_past : (f : Form) (k b : ℕ) → stands_in_name b ≡ false → next_point f (InName k) b ≡ next_point f (InName 8) b
name_past f k b t = rw t refl

drop_letter : (b : ℕ) (text : List ℕ) (n m : ℕ) → drop (min (1 + n) (suc m)) (b ∷ text) ≡ drop (min n m) text
drop_letter b text n m = let e : min (1 + n) (suc m) ≡ suc (min n m) = omega arith in rw e refl

pub head_letters : (f : Form) (k m : ℕ) (text : List ℕ) → k + m ≡ 8 → stop_of f (InHead k) text ≡ stop_of f (InHead 8) (drop (min (prefix_len stands_in_name text) m) text)
head_letters f k m [] e = let z : min 0 m ≡ 0 = omega arith in rw z refl
head_letters f k zero (b ∷ text) e =
    let z : min (prefix_len stands_in_name (b ∷ text)) 0 ≡ 0 = omega arith in
    let k8 : k ≡ 8 = omega arith in
    rw (z, k8) refl
head_letters f k (suc m) (b ∷ text) e = elim (cases_Bool (stands_in_name b)) [
  | inl t ↦ (let lt : k < 8 = omega arith in
      let rest : k + 1 + m ≡ 8 = omega arith in
      rw (t, drop_letter b text (prefix_len stands_in_name text) m)
      (step f (InHead k) b text (Some (InHead (k + 1))) (head_on f k b t lt) ∙ head_letters f (k + 1) m text rest))
  | inr t ↦ (let z : min 0 (suc m) ≡ 0 = omega arith in
      rw (t, z) (step f (InHead k) b text (next_point f (InHead 8) b) (head_past f k b t)))
]

pub name_letters : (f : Form) (k m : ℕ) (text : List ℕ) → k + m ≡ 8 → stop_of f (InName k) text ≡ stop_of f (InName 8) (drop (min (prefix_len stands_in_name text) m) text)
name_letters f k m [] e = let z : min 0 m ≡ 0 = omega arith in rw z refl
name_letters f k zero (b ∷ text) e =
    let z : min (prefix_len stands_in_name (b ∷ text)) 0 ≡ 0 = omega arith in
    let k8 : k ≡ 8 = omega arith in
    rw (z, k8) refl
name_letters f k (suc m) (b ∷ text) e = elim (cases_Bool (stands_in_name b)) [
  | inl t ↦ (let lt : k < 8 = omega arith in
      let rest : k + 1 + m ≡ 8 = omega arith in
      rw (t, drop_letter b text (prefix_len stands_in_name text) m)
      (step f (InName k) b text (Some (InName (k + 1))) (name_on f k b t lt) ∙ name_letters f (k + 1) m text rest))
  | inr t ↦ (let z : min 0 (suc m) ≡ 0 = omega arith in
      rw (t, z) (step f (InName k) b text (next_point f (InName 8) b) (name_past f k b t)))
]

drop_first : (b : ℕ) (text : List ℕ) (m : ℕ) → drop (1 + m) (b ∷ text) ≡ drop m text
drop_first b text m = let e : 1 + m ≡ suc m = omega arith in rw e refl

item_begins : (f : Form) (b : ℕ) → begins_name b ≡ true → next_point f AtItem b ≡ Some (InHead 1)
item_begins f b t = let s = begins_stands b t in rw (differs b 77 s open_no_letter, differs b 92 s star_no_letter, t) refl

name_begins : (f : Form) (b : ℕ) → takes_names f.within ≡ true → begins_name b ≡ true → next_point f AtName b ≡ Some (InName 1)
name_begins f b n t = rw (n, t) refl

pub walk_head : (f : Form) (text : List ℕ) → (name_length text ≡ 0 → ⊥) → stop_of f AtItem text ≡ stop_of f (InHead 8) (drop (name_length text) text)
walk_head f [] h = absurd (h refl)
walk_head f (b ∷ text) h = elim (cases_Bool (begins_name b)) [
  | inl t ↦ rw (t, drop_first b text (min (prefix_len stands_in_name text) 7))
      (step f AtItem b text (Some (InHead 1)) (item_begins f b t) ∙ head_letters f 1 7 text refl)
  | inr t ↦ absurd (h (rw t refl))
]

pub walk_name : (f : Form) (text : List ℕ) → takes_names f.within ≡ true → (name_length text ≡ 0 → ⊥) → stop_of f AtName text ≡ stop_of f (InName 8) (drop (name_length text) text)
walk_name f [] n h = absurd (h refl)
walk_name f (b ∷ text) n h = elim (cases_Bool (begins_name b)) [
  | inl t ↦ rw (t, drop_first b text (min (prefix_len stands_in_name text) 7))
      (step f AtName b text (Some (InName 1)) (name_begins f b n t) ∙ name_letters f 1 7 text refl)
  | inr t ↦ absurd (h (rw t refl))
]

no_length : (b : ℕ) (text : List ℕ) → name_length (b ∷ text) ≡ 0 → begins_name b ≡ false
no_length b text h = elim (cases_Bool (begins_name b)) [
  | inl t ↦ absurd (omega (arith, rw t at h))
  | inr t ↦ t
]

no_item : (f : Form) (b : ℕ) → f.nameless ≡ false → begins_name b ≡ false → next_point f AtItem b ≡ None
no_item f b n t = elim (cases_Bool (eqb b 77)) [
  | inl o ↦ rw (o, n) refl
  | inr o ↦ elim (cases_Bool (eqb b 92)) [
    | inl s ↦ rw (o, s, n) refl
    | inr s ↦ rw (o, s, t) refl
  ]
]

nothing_begins : (f : Form) (b : ℕ) → b ≢ 77 → b ≢ 92 → begins_name b ≡ false → next_point f AtItem b ≡ None
nothing_begins f b o s t = rw (ne_eqb b 77 o, ne_eqb b 92 s, t) refl

no_inner : (f : Form) (b : ℕ) → begins_name b ≡ false → next_point f AtName b ≡ None
no_inner f b t = elim (cases_Bool (takes_names f.within)) [
  | inl n ↦ rw (n, t) refl
  | inr n ↦ rw n refl
]

pub no_name : (text : List ℕ) → name_length text ≡ 0 → HasNoName text text
no_name [] h = record { same = refl; at_item = λ f n. refl; at_nameless = λ f o s. refl; at_name = λ f. refl }
no_name (b ∷ text) h =
    let t = no_length b text h in
    record {
      same = refl;
      at_item = λ f n. step f AtItem b text None (no_item f b n t);
      at_nameless = λ f o s. step f AtItem b text None (nothing_begins f b o s t);
      at_name = λ f. step f AtName b text None (no_inner f b t);
    }

pub takes_name : (text : List ℕ) → (name_length text ≡ 0 → ⊥) → TakesName text (name_with (take (name_length text) text)) (drop (name_length text) text)
takes_name text h =
    let w = word_at_front text h in
    record {
      writable = writable-name_with (take (name_length text) text) w;
      text = rw (written-name_with (take (name_length text) text) w) (sym (take-append-drop (name_length text) text));
      at_item = λ f. walk_head f text h;
      at_name = λ f n. walk_name f text n h;
    }

-- ---- a name as a whole item

never : (b : Bool) → cond (b && false) (Some (InHead 9)) None ≡ None
never true = refl
never false = refl

bare_next : (many : Bool) (b : ℕ) → next_point (name_form many) (InHead 8) b ≡ next_point (name_form many) AfterItem b
bare_next many b = elim (cases_eq b 77) [
  | inl e ↦ rw e refl
  | inr o ↦ elim (cases_eq b 107) [
    | inl e ↦ rw e refl
    | inr c ↦ rw (ne_eqb b 77 o, ne_eqb b 107 c) (never (stands_in_name b))
  ]
]

bare_name : (many : Bool) (rest : List ℕ) → stop_of (name_form many) (InHead 8) rest ≡ stop_of (name_form many) AfterItem rest
bare_name many [] = refl
bare_name many (b ∷ rest) = step (name_form many) (InHead 8) b rest (next_point (name_form many) AfterItem b) (bare_next many b)

pub item_from_name : (old : List ℕ) (r : Result Name Stop) (new : List ℕ) → ReadsName old r new → ReadsItem name_form name_item IsWritable old r new
item_from_name old (Ok n) new t = (
  t.writable,
  record {
    text = t.text ∙ ap (λ (w : List ℕ). w ++ new) (sym (append-nil (written n)));
    walk = λ many. t.at_item (name_form many) ∙ bare_name many new;
  },
)
item_from_name old (Err Bad) new t = λ many. t.at_item (name_form many) refl ∙ ap Some (sym t.same)
item_from_name old (Err Memory) new t = absurd t
