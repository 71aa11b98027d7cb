-- Where a walk stops, the text up to there begins an operand, and with the next character it does not.
use Rattle.std.proofs.Common.{◌≡◌, ◌≢◌, ℕ, zero, suc, ◌+◌, ◌-◌, ◌<◌, ◌≤◌, Bool, true, false, cond, eqb, ltb, ◌&&◌, List, [], ◌∷◌, ◌++◌, length, take, drop, Option, Some, None, refl, sym, ap, subst, ◌∙◌, arith, inl, inr, ◌⊎◌, append_assoc}
use Rattle.std.specs.List.{list_all, flat_map, AllByRecursion}
use Rattle.std.proofs.lemmas.Bool.{cases_Bool, eqb-true, and_parts, ltb-true}
use Rattle.std.proofs.lemmas.List.{append-nil}
use Rattle.ctl_cards.specs.NameTexts.{begins_name, stands_in_name}
use Rattle.ctl_cards.specs.Walk.{Form, Within, NoParentheses, ThisWord, OneName, SeveralNames, Point, AtItem, AfterStar, InHead, AtName, InName, InWord, AfterItem, opened, takes_names, takes_several, next_point, may_end, stop_of}
use Rattle.ctl_cards.proofs.WalkLaws.{went, step}
use Rattle.ctl_cards.proofs.Items.{IsSound, Goes, FitsPoint, end_from, opened_names, back_nameless, back_star, back_after_star, back_head, back_name, back_open, back_word, back_comma, back_letter, back_name_letter, back_close, back_name_comma, back_item}

-- what was chosen, and which way the test went
pub chosen : (b : Bool) (x y : Option Point) (q : Point) → cond b x y ≡ Some q → ((b ≡ true) × (x ≡ Some q)) ⊎ ((b ≡ false) × (y ≡ Some q))
chosen true x y q e = inl (refl, e)
chosen false x y q e = inr (refl, e)

same_point : (p q : Point) → Some p ≡ Some q → p ≡ q
same_point p q e = cc

abbrev nowhere : Option Point
nowhere = None

nothing_is_no_point : {A : Type 0} (q : Point) → nowhere ≡ Some q → A
nothing_is_no_point q e = absurd cc

-- a step that was taken can be taken back
pub record Onward (f : Form) (p : Point) (b : ℕ) (q : Point) : Type 0 where
  pub fits : FitsPoint f q
  pub back : (w : List ℕ) → Goes f q w → Goes f p (b ∷ w)

onto : (f : Form) (p : Point) (b : ℕ) (q r : Point) → Some q ≡ Some r → Onward f p b q → Onward f p b r
onto f p b q r e o = subst (λ (x : Point). Onward f p b x) (same_point q r e) o

at_item : (f : Form) (b : ℕ) (q : Point) → IsSound f → next_point f AtItem b ≡ Some q → Onward f AtItem b q
at_item f b q s e = elim (chosen (eqb b 77) _ _ q e) [
  | inl o ↦ elim (chosen f.nameless _ _ q o.1) [
    | inl n ↦ (let names = s.if_nameless n.0 in
        onto f AtItem b AtName q (sym (opened_names f.within names) ∙ n.1)
        (record { fits = names; back = λ w g. rw (eqb-true b 77 o.0) (back_nameless f w n.0 g) }))
    | inr n ↦ nothing_is_no_point q n.1
  ]
  | inr o ↦ elim (chosen (eqb b 92) _ _ q o.1) [
    | inl t ↦ elim (chosen f.nameless _ _ q t.1) [
      | inl n ↦ onto f AtItem b AfterStar q n.1 (record { fits = n.0; back = λ w g. rw (eqb-true b 92 t.0) (back_star f w n.0 g) })
      | inr n ↦ nothing_is_no_point q n.1
    ]
    | inr t ↦ elim (chosen (begins_name b) _ _ q t.1) [
      | inl n ↦ onto f AtItem b (InHead 1) q n.1 (record { fits = omega arith; back = λ w g. back_head f b w n.0 g })
      | inr n ↦ nothing_is_no_point q n.1
    ]
  ]
]

after_star : (f : Form) (b : ℕ) (q : Point) → IsSound f → FitsPoint f AfterStar → next_point f AfterStar b ≡ Some q → Onward f AfterStar b q
after_star f b q s h e = elim (chosen (eqb b 77) _ _ q e) [
  | inl o ↦ (let names = s.if_nameless h in
      onto f AfterStar b AtName q (sym (opened_names f.within names) ∙ o.1)
      (record { fits = names; back = λ w g. rw (eqb-true b 77 o.0) (back_after_star f w g) }))
  | inr o ↦ nothing_is_no_point q o.1
]

-- after an open parenthesis
pub data Opens (w : Within) (q : Point) : Type 0 where
  ToNames : takes_names w ≡ true → AtName ≡ q → Opens w q
  ToWord : (t : List ℕ) → w ≡ ThisWord t → InWord t ≡ q → Opens w q

opens : (w : Within) (q : Point) → opened w ≡ Some q → Opens w q
opens NoParentheses q e = nothing_is_no_point q e
opens (ThisWord t) q e = ToWord t refl (same_point (InWord t) q e)
opens OneName q e = ToNames refl (same_point AtName q e)
opens SeveralNames q e = ToNames refl (same_point AtName q e)

open_in_head : (f : Form) (k : ℕ) (q : Point) → IsSound f → k ≤ 8 → Opens f.within q → Onward f (InHead k) 77 q
open_in_head f k q s le (ToNames h e) = subst (λ (x : Point). Onward f (InHead k) 77 x) e (record { fits = h; back = λ w g. back_open f k w le g })
open_in_head f k q s le (ToWord t h e) = subst (λ (x : Point). Onward f (InHead k) 77 x) e (record { fits = tt; back = λ w g. back_word f k t w le (s.if_word t h) h g })

in_head : (f : Form) (k b : ℕ) (q : Point) → IsSound f → k ≤ 8 → next_point f (InHead k) b ≡ Some q → Onward f (InHead k) b q
in_head f k b q s le e = elim (chosen (eqb b 77) _ _ q e) [
  | inl o ↦ subst (λ (x : ℕ). Onward f (InHead k) x q) (sym (eqb-true b 77 o.0)) (open_in_head f k q s le (opens f.within q o.1))
  | inr o ↦ elim (chosen (eqb b 107) _ _ q o.1) [
    | inl c ↦ elim (chosen (f.bare && f.many) _ _ q c.1) [
      | inl m ↦ (let both = and_parts f.bare f.many m.0 in
          onto f (InHead k) b AtItem q m.1 (record { fits = tt; back = λ w g. rw (eqb-true b 107 c.0) (back_comma f k w le both.0 both.1 g) }))
      | inr m ↦ nothing_is_no_point q m.1
    ]
    | inr c ↦ elim (chosen (stands_in_name b && ltb k 8) _ _ q c.1) [
      | inl m ↦ (let both = and_parts (stands_in_name b) (ltb k 8) m.0 in
          let lt : k < 8 = ltb-true k 8 both.1 in
          onto f (InHead k) b (InHead (k + 1)) q m.1 (record { fits = omega arith; back = λ w g. back_letter f k b w both.0 g }))
      | inr m ↦ nothing_is_no_point q m.1
    ]
  ]
]

at_name : (f : Form) (b : ℕ) (q : Point) → takes_names f.within ≡ true → next_point f AtName b ≡ Some q → Onward f AtName b q
at_name f b q h e = elim (chosen (takes_names f.within && begins_name b) _ _ q e) [
  | inl m ↦ (let both = and_parts (takes_names f.within) (begins_name b) m.0 in
      onto f AtName b (InName 1) q m.1 (record { fits = (omega arith, h); back = λ w g. back_name f b w both.1 g }))
  | inr m ↦ nothing_is_no_point q m.1
]

in_name : (f : Form) (k b : ℕ) (q : Point) → k ≤ 8 → takes_names f.within ≡ true → next_point f (InName k) b ≡ Some q → Onward f (InName k) b q
in_name f k b q le h e = elim (chosen (eqb b 93) _ _ q e) [
  | inl o ↦ onto f (InName k) b AfterItem q o.1 (record { fits = tt; back = λ w g. rw (eqb-true b 93 o.0) (back_close f k w le h g) })
  | inr o ↦ elim (chosen (eqb b 107) _ _ q o.1) [
    | inl c ↦ elim (chosen (takes_several f.within) _ _ q c.1) [
      | inl m ↦ onto f (InName k) b AtName q m.1 (record { fits = h; back = λ w g. rw (eqb-true b 107 c.0) (back_name_comma f k w le m.0 g) })
      | inr m ↦ nothing_is_no_point q m.1
    ]
    | inr c ↦ elim (chosen (stands_in_name b && ltb k 8) _ _ q c.1) [
      | inl m ↦ (let both = and_parts (stands_in_name b) (ltb k 8) m.0 in
          let lt : k < 8 = ltb-true k 8 both.1 in
          onto f (InName k) b (InName (k + 1)) q m.1 (record { fits = (omega arith, h); back = λ w g. back_name_letter f k b w both.0 g }))
      | inr m ↦ nothing_is_no_point q m.1
    ]
  ]
]

in_word : (f : Form) (word : List ℕ) (b : ℕ) (q : Point) → next_point f (InWord word) b ≡ Some q → Onward f (InWord word) b q
in_word f [] b q e = elim (chosen (eqb b 93) _ _ q e) [
  | inl o ↦ onto f (InWord []) b AfterItem q o.1 (record { fits = tt; back = λ w g. rw (eqb-true b 93 o.0) (record { xs = g.xs; tail_fits = g.tail_fits; text = ap (λ (t : List ℕ). 93 ∷ t) g.text }) })
  | inr o ↦ nothing_is_no_point q o.1
]
in_word f (c ∷ word) b q e = elim (chosen (eqb b c) _ _ q e) [
  | inl o ↦ onto f (InWord (c ∷ word)) b (InWord word) q o.1 (record { fits = tt; back = λ w g. rw (eqb-true b c o.0) (record { xs = g.xs; tail_fits = g.tail_fits; text = ap (λ (t : List ℕ). c ∷ t) g.text }) })
  | inr o ↦ nothing_is_no_point q o.1
]

after_item : (f : Form) (b : ℕ) (q : Point) → next_point f AfterItem b ≡ Some q → Onward f AfterItem b q
after_item f b q e = elim (chosen (eqb b 107 && f.many) _ _ q e) [
  | inl m ↦ (let both = and_parts (eqb b 107) f.many m.0 in
      onto f AfterItem b AtItem q m.1 (record { fits = tt; back = λ w g. rw (eqb-true b 107 both.0) (back_item f w both.1 g) }))
  | inr m ↦ nothing_is_no_point q m.1
]

pub onward : (f : Form) (p : Point) (b : ℕ) (q : Point) → IsSound f → FitsPoint f p → next_point f p b ≡ Some q → Onward f p b q
onward f AtItem b q s h e = at_item f b q s e
onward f AfterStar b q s h e = after_star f b q s h e
onward f (InHead k) b q s h e = in_head f k b q s h e
onward f AtName b q s h e = at_name f b q h e
onward f (InName k) b q s h e = in_name f k b q h.0 h.1 e
onward f (InWord word) b q s h e = in_word f word b q e
onward f AfterItem b q s h e = after_item f b q e

-- a walk that stops: the text up to there goes on to an end; and whatever comes in place
-- of what is left, the walk comes to the same place
pub record StopsThere (f : Form) (p : Point) (text rest : List ℕ) : Type 0 where
  pub front : List ℕ
  pub more : List ℕ
  pub q : Point
  pub parts : text ≡ front ++ rest
  pub goes : Goes f p (front ++ more)
  pub again : (z : List ℕ) → stop_of f p (front ++ z) ≡ stop_of f q z
  pub blocked : (b : ℕ) (t z : List ℕ) → rest ≡ b ∷ t → stop_of f q (b ∷ z) ≡ Some (b ∷ z)

abbrev pub some_text : List ℕ → Option (List ℕ)
some_text x = Some x

same_rest : (x y : List ℕ) → some_text x ≡ some_text y → x ≡ y
same_rest x y e = cc

heads_same : (a b : ℕ) (s t : List ℕ) → a ∷ s ≡ b ∷ t → a ≡ b
heads_same a b s t e = cc

here : (f : Form) (p : Point) (text rest : List ℕ) → IsSound f → FitsPoint f p → text ≡ rest → ((b : ℕ) (t z : List ℕ) → text ≡ b ∷ t → stop_of f p (b ∷ z) ≡ Some (b ∷ z)) → StopsThere f p text rest
here f p text rest s h e blocked = let w = end_from f p s h in record {
  front = [];
  more = w.0;
  q = p;
  parts = e;
  goes = w.1;
  again = λ z. refl;
  blocked = λ b t z r. blocked b t z (e ∙ r);
}

abbrev pub no_text : Option (List ℕ)
no_text = None

pub none_is_no_text : {A : Type 0} (x : List ℕ) → no_text ≡ some_text x → A
none_is_no_text x e = absurd cc

at_step : (f : Form) (p : Point) (b : ℕ) (text rest : List ℕ) (o : Option Point) → next_point f p b ≡ o → IsSound f → FitsPoint f p → ((q : Point) → FitsPoint f q → stop_of f q text ≡ Some rest → StopsThere f q text rest) → stop_of f p (b ∷ text) ≡ Some rest → StopsThere f p (b ∷ text) rest
at_step f p b text rest None n s h more e =
    let r : b ∷ text ≡ rest = same_rest (b ∷ text) rest (sym (step f p b text None n) ∙ e) in
    here f p (b ∷ text) rest s h r (λ c t z g. subst (λ (x : ℕ). stop_of f p (x ∷ z) ≡ Some (x ∷ z)) (heads_same b c text t g) (step f p b z None n))
at_step f p b text rest (Some q) n s h more e =
    let o = onward f p b q s h n in
    let i = more q o.fits (sym (step f p b text (Some q) n) ∙ e) in
    record {
      front = b ∷ i.front;
      more = i.more;
      q = i.q;
      parts = ap (λ (t : List ℕ). b ∷ t) i.parts;
      goes = o.back (i.front ++ i.more) i.goes;
      again = λ z. step f p b (i.front ++ z) (Some q) n ∙ i.again z;
      blocked = i.blocked;
    }

pub stops_there : (f : Form) (p : Point) (text rest : List ℕ) → IsSound f → FitsPoint f p → stop_of f p text ≡ Some rest → StopsThere f p text rest
stops_there f p [] rest s h e = elim (cases_Bool (may_end f p)) [
  | inl m ↦ absurd (let d = rw m at e in none_is_no_text rest d)
  | inr m ↦ here f p [] rest s h (same_rest [] rest (rw m at e)) (λ b t z r. absurd cc)
]
stops_there f p (b ∷ text) rest s h e = at_step f p b text rest (next_point f p b) refl s h (λ q fits d. stops_there f q text rest s fits d) e
