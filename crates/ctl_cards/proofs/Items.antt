-- Items that a form allows, and what a walk may still take from each place on.
use Rattle.std.proofs.Common.{◌≡◌, ◌≢◌, ℕ, zero, suc, ◌+◌, ◌-◌, ◌<◌, ◌≤◌, Bool, true, false, cond, eqb, ltb, ◌&&◌, List, [], ◌∷◌, ◌++◌, length, Option, Some, None, refl, sym, ap, subst, ◌∙◌, arith, inl, inr, ◌⊎◌, append_assoc}
use Rattle.std.specs.List.{list_all, flat_map, AllByRecursion}
use Rattle.std.proofs.lemmas.Bool.{cases_Bool, eqb-true, and_parts, and_from, ltb-true}
use Rattle.std.proofs.lemmas.List.{append-nil}
use Rattle.le_bytes.specs.declared.name.Name.{Name}
use Rattle.ctl_cards.specs.NameTexts.{begins_name, stands_in_name, written, IsWritable}
use Rattle.ctl_cards.specs.Letters.{name_with}
use Rattle.ctl_cards.specs.Statements.{Item, Head, Nameless, Starred, Named, joined, item_text, names_text, comma, open_mark, close_mark, star}
use Rattle.ctl_cards.specs.Walk.{Form, Within, NoParentheses, ThisWord, OneName, SeveralNames, Point, AtItem, AfterStar, InHead, AtName, InName, InWord, AfterItem, opened, takes_names, takes_several, next_point, may_end, stop_of}
use Rattle.ctl_cards.proofs.NameLaws.{IsWord, written-name_with, writable-name_with}

-- ---- items that a form allows

abbrev pub FitsNames : Within → List Name → Type 0
FitsNames w [] = Unit {0}
FitsNames NoParentheses (n ∷ ns) = ⊥
FitsNames (ThisWord t) (n ∷ ns) = (written n ≡ t) × (ns ≡ [])
FitsNames OneName (n ∷ ns) = IsWritable n × (ns ≡ [])
FitsNames SeveralNames (n ∷ ns) = IsWritable n × AllByRecursion IsWritable ns

abbrev pub FitsHead : Form → Head → List Name → Type 0
FitsHead f (Named n) [] = IsWritable n × (f.bare ≡ true)
FitsHead f (Named n) (m ∷ ms) = IsWritable n × Unit {0}
FitsHead f Nameless [] = ⊥
FitsHead f Nameless (m ∷ ms) = f.nameless ≡ true
FitsHead f Starred [] = ⊥
FitsHead f Starred (m ∷ ms) = f.nameless ≡ true

pub record FitsItem (f : Form) (i : Item) : Type 0 where
  pub head_fits : FitsHead f i.head i.names
  pub names_fit : FitsNames f.within i.names

abbrev pub FitsTail : Form → List Item → Type 0
FitsTail f [] = Unit {0}
FitsTail f (x ∷ xs) = (f.many ≡ true) × FitsItem f x × FitsTail f xs

abbrev pub FitsItems : Form → List Item → Type 0
FitsItems f [] = ⊥
FitsItems f (x ∷ xs) = FitsItem f x × FitsTail f xs

abbrev pub tail_text : List Item → List ℕ
tail_text xs = flat_map (λ i. comma ∷ item_text i) xs

abbrev pub tail_names : List Name → List ℕ
tail_names ns = flat_map (λ n. comma ∷ written n) ns

-- a form under which each place can come to an end
pub record IsSound (f : Form) : Type 0 where
  pub if_not_bare : f.bare ≡ false → takes_names f.within ≡ true
  pub if_nameless : f.nameless ≡ true → takes_names f.within ≡ true
  pub if_word : (t : List ℕ) → f.within ≡ ThisWord t → IsWord t

-- ---- what may come from each place on

pub record GoesItem (f : Form) (w : List ℕ) : Type 0 where
  pub x : Item
  pub xs : List Item
  pub item_fits : FitsItem f x
  pub tail_fits : FitsTail f xs
  pub text : w ≡ item_text x ++ tail_text xs

pub record GoesStar (f : Form) (w : List ℕ) : Type 0 where
  pub n : Name
  pub ns : List Name
  pub xs : List Item
  pub names_fit : FitsNames f.within (n ∷ ns)
  pub tail_fits : FitsTail f xs
  pub text : w ≡ names_text (n ∷ ns) ++ tail_text xs

pub record GoesHead (f : Form) (k : ℕ) (w : List ℕ) : Type 0 where
  pub l : List ℕ
  pub ns : List Name
  pub xs : List Item
  pub letters : list_all stands_in_name l ≡ true
  pub short : k + length l ≤ 8
  pub head_fits : (n : Name) → IsWritable n → FitsHead f (Named n) ns
  pub names_fit : FitsNames f.within ns
  pub tail_fits : FitsTail f xs
  pub text : w ≡ l ++ (names_text ns ++ tail_text xs)

pub record GoesAtName (f : Form) (w : List ℕ) : Type 0 where
  pub n : Name
  pub ns : List Name
  pub xs : List Item
  pub writable : IsWritable n
  pub names_fit : FitsNames f.within (n ∷ ns)
  pub tail_fits : FitsTail f xs
  pub text : w ≡ joined written (n ∷ ns) ++ (close_mark ∷ tail_text xs)

pub record GoesInName (f : Form) (k : ℕ) (w : List ℕ) : Type 0 where
  pub l : List ℕ
  pub ns : List Name
  pub xs : List Item
  pub letters : list_all stands_in_name l ≡ true
  pub short : k + length l ≤ 8
  pub names_fit : (n : Name) → IsWritable n → FitsNames f.within (n ∷ ns)
  pub tail_fits : FitsTail f xs
  pub text : w ≡ l ++ (tail_names ns ++ (close_mark ∷ tail_text xs))

pub record GoesWord (f : Form) (word w : List ℕ) : Type 0 where
  pub xs : List Item
  pub tail_fits : FitsTail f xs
  pub text : w ≡ word ++ (close_mark ∷ tail_text xs)

pub record GoesAfter (f : Form) (w : List ℕ) : Type 0 where
  pub xs : List Item
  pub tail_fits : FitsTail f xs
  pub text : w ≡ tail_text xs

abbrev pub Goes : Form → Point → List ℕ → Type 0
Goes f AtItem w = GoesItem f w
Goes f AfterStar w = GoesStar f w
Goes f (InHead k) w = GoesHead f k w
Goes f AtName w = GoesAtName f w
Goes f (InName k) w = GoesInName f k w
Goes f (InWord word) w = GoesWord f word w
Goes f AfterItem w = GoesAfter f w

-- the place can be come to
abbrev pub FitsPoint : Form → Point → Type 0
FitsPoint f AtItem = Unit {0}
FitsPoint f AfterStar = f.nameless ≡ true
FitsPoint f (InHead k) = k ≤ 8
FitsPoint f AtName = takes_names f.within ≡ true
FitsPoint f (InName k) = (k ≤ 8) × (takes_names f.within ≡ true)
FitsPoint f (InWord word) = Unit {0}
FitsPoint f AfterItem = Unit {0}

-- ---- an end from each place

pub begins_A : begins_name 193 ≡ true
unfolding begins_name
begins_A = refl

pub word_A : IsWord (193 ∷ [])
word_A = (begins_A, refl, omega arith)

pub name_A : Name
name_A = name_with (193 ∷ [])

pub writable_A : IsWritable name_A
unfolding name_A
writable_A = writable-name_with (193 ∷ []) word_A

one_fits : (w : Within) (n : Name) → takes_names w ≡ true → IsWritable n → FitsNames w (n ∷ [])
one_fits NoParentheses n h a = absurd cc
one_fits (ThisWord t) n h a = absurd cc
one_fits OneName n h a = (a, refl)
one_fits SeveralNames n h a = (a, tt)

end_at_name : (f : Form) → takes_names f.within ≡ true → (w : List ℕ) × GoesAtName f w
end_at_name f h = (_, record { n = name_A; ns = []; xs = []; writable = writable_A; names_fit = one_fits f.within name_A h writable_A; tail_fits = tt; text = refl })

end_after_star : (f : Form) → takes_names f.within ≡ true → (w : List ℕ) × GoesStar f w
end_after_star f h = (_, record { n = name_A; ns = []; xs = []; names_fit = one_fits f.within name_A h writable_A; tail_fits = tt; text = refl })

end_in_head : (f : Form) (k : ℕ) → IsSound f → k ≤ 8 → (w : List ℕ) × GoesHead f k w
end_in_head f k s le = elim (cases_Bool f.bare) [
  | inl b ↦ (_, record { l = []; ns = []; xs = []; letters = refl; short = omega arith; head_fits = λ n a. (a, b); names_fit = tt; tail_fits = tt; text = refl })
  | inr b ↦ (_, record { l = []; ns = name_A ∷ []; xs = []; letters = refl; short = omega arith; head_fits = λ n a. (a, tt); names_fit = one_fits f.within name_A (s.if_not_bare b) writable_A; tail_fits = tt; text = refl })
]

end_in_name : (f : Form) (k : ℕ) → k ≤ 8 → takes_names f.within ≡ true → (w : List ℕ) × GoesInName f k w
end_in_name f k le h = (_, record { l = []; ns = []; xs = []; letters = refl; short = omega arith; names_fit = λ n a. one_fits f.within n h a; tail_fits = tt; text = refl })

name_alone : (f : Form) → f.bare ≡ true → FitsItem f (record { head = Named name_A; names = [] })
name_alone f b = record { head_fits = (writable_A, b); names_fit = tt }

name_and_one : (f : Form) → takes_names f.within ≡ true → FitsItem f (record { head = Named name_A; names = name_A ∷ [] })
name_and_one f h = record { head_fits = (writable_A, tt); names_fit = one_fits f.within name_A h writable_A }

end_at_item : (f : Form) → IsSound f → (w : List ℕ) × GoesItem f w
end_at_item f s = elim (cases_Bool f.bare) [
  | inl b ↦ (_, record { x = record { head = Named name_A; names = [] }; xs = []; item_fits = name_alone f b; tail_fits = tt; text = refl })
  | inr b ↦ (_, record { x = record { head = Named name_A; names = name_A ∷ [] }; xs = []; item_fits = name_and_one f (s.if_not_bare b); tail_fits = tt; text = refl })
]

pub end_from : (f : Form) (p : Point) → IsSound f → FitsPoint f p → (w : List ℕ) × Goes f p w
end_from f AtItem s h = end_at_item f s
end_from f AfterStar s h = end_after_star f (s.if_nameless h)
end_from f (InHead k) s h = end_in_head f k s h
end_from f AtName s h = end_at_name f h
end_from f (InName k) s h = end_in_name f k h.0 h.1
end_from f (InWord word) s h = (_, record { xs = []; tail_fits = tt; text = refl })
end_from f AfterItem s h = (_, record { xs = []; tail_fits = tt; text = refl })

-- ---- a step back: what may come after a character, with the character

-- an open parenthesis, where names may come
pub opened_names : (w : Within) → takes_names w ≡ true → opened w ≡ Some AtName
opened_names NoParentheses h = absurd cc
opened_names (ThisWord t) h = absurd cc
opened_names OneName h = refl
opened_names SeveralNames h = refl

in_list : (n : Name) (ns : List Name) (xs : List Item) → open_mark ∷ (joined written (n ∷ ns) ++ (close_mark ∷ tail_text xs)) ≡ names_text (n ∷ ns) ++ tail_text xs
in_list n ns xs = ap (λ (t : List ℕ). open_mark ∷ t) (sym (append_assoc (joined written (n ∷ ns)) (close_mark ∷ []) (tail_text xs)))

pub back_nameless : (f : Form) (w : List ℕ) → f.nameless ≡ true → GoesAtName f w → GoesItem f (77 ∷ w)
back_nameless f w h g = record {
  x = record { head = Nameless; names = g.n ∷ g.ns };
  xs = g.xs;
  item_fits = record { head_fits = h; names_fit = g.names_fit };
  tail_fits = g.tail_fits;
  text = ap (λ (t : List ℕ). 77 ∷ t) g.text ∙ in_list g.n g.ns g.xs;
}

pub back_star : (f : Form) (w : List ℕ) → f.nameless ≡ true → GoesStar f w → GoesItem f (92 ∷ w)
back_star f w h g = record {
  x = record { head = Starred; names = g.n ∷ g.ns };
  xs = g.xs;
  item_fits = record { head_fits = h; names_fit = g.names_fit };
  tail_fits = g.tail_fits;
  text = ap (λ (t : List ℕ). 92 ∷ t) g.text;
}

pub back_after_star : (f : Form) (w : List ℕ) → GoesAtName f w → GoesStar f (77 ∷ w)
back_after_star f w g = record {
  n = g.n;
  ns = g.ns;
  xs = g.xs;
  names_fit = g.names_fit;
  tail_fits = g.tail_fits;
  text = ap (λ (t : List ℕ). 77 ∷ t) g.text ∙ in_list g.n g.ns g.xs;
}

word_from : (b : ℕ) (l : List ℕ) → begins_name b ≡ true → list_all stands_in_name l ≡ true → 1 + length l ≤ 8 → IsWord (b ∷ l)
word_from b l h t le = (h, t, omega arith)

pub back_head : (f : Form) (b : ℕ) (w : List ℕ) → begins_name b ≡ true → GoesHead f 1 w → GoesItem f (b ∷ w)
back_head f b w h g =
    let word = word_from b g.l h g.letters g.short in
    record {
      x = record { head = Named (name_with (b ∷ g.l)); names = g.ns };
      xs = g.xs;
      item_fits = record { head_fits = g.head_fits (name_with (b ∷ g.l)) (writable-name_with (b ∷ g.l) word); names_fit = g.names_fit };
      tail_fits = g.tail_fits;
      text = ap (λ (t : List ℕ). b ∷ t) g.text ∙ ap (λ (t : List ℕ). t ++ (names_text g.ns ++ tail_text g.xs)) (sym (written-name_with (b ∷ g.l) word)) ∙ sym (append_assoc (written (name_with (b ∷ g.l))) (names_text g.ns) (tail_text g.xs));
    }

pub back_name : (f : Form) (b : ℕ) (w : List ℕ) → begins_name b ≡ true → GoesInName f 1 w → GoesAtName f (b ∷ w)
back_name f b w h g =
    let word = word_from b g.l h g.letters g.short in
    let a = writable-name_with (b ∷ g.l) word in
    record {
      n = name_with (b ∷ g.l);
      ns = g.ns;
      xs = g.xs;
      writable = a;
      names_fit = g.names_fit (name_with (b ∷ g.l)) a;
      tail_fits = g.tail_fits;
      text = ap (λ (t : List ℕ). b ∷ t) g.text ∙ ap (λ (t : List ℕ). t ++ (tail_names g.ns ++ (close_mark ∷ tail_text g.xs))) (sym (written-name_with (b ∷ g.l) word)) ∙ sym (append_assoc (written (name_with (b ∷ g.l))) (tail_names g.ns) (close_mark ∷ tail_text g.xs));
    }

pub back_open : (f : Form) (k : ℕ) (w : List ℕ) → k ≤ 8 → GoesAtName f w → GoesHead f k (77 ∷ w)
back_open f k w le g = record {
  l = [];
  ns = g.n ∷ g.ns;
  xs = g.xs;
  letters = refl;
  short = omega arith;
  head_fits = λ n a. (a, tt);
  names_fit = g.names_fit;
  tail_fits = g.tail_fits;
  text = ap (λ (t : List ℕ). 77 ∷ t) g.text ∙ in_list g.n g.ns g.xs;
}

pub back_word : (f : Form) (k : ℕ) (t w : List ℕ) → k ≤ 8 → IsWord t → f.within ≡ ThisWord t → GoesWord f t w → GoesHead f k (77 ∷ w)
back_word f k t w le word e g = record {
  l = [];
  ns = name_with t ∷ [];
  xs = g.xs;
  letters = refl;
  short = omega arith;
  head_fits = λ n a. (a, tt);
  names_fit = rw e (written-name_with t word, refl);
  tail_fits = g.tail_fits;
  text = ap (λ (u : List ℕ). 77 ∷ u) (g.text ∙ ap (λ (u : List ℕ). u ++ (close_mark ∷ tail_text g.xs)) (sym (written-name_with t word) ∙ sym (append-nil (written (name_with t))))) ∙ in_list (name_with t) [] g.xs;
}

pub back_comma : (f : Form) (k : ℕ) (w : List ℕ) → k ≤ 8 → f.bare ≡ true → f.many ≡ true → GoesItem f w → GoesHead f k (107 ∷ w)
back_comma f k w le b m g = record {
  l = [];
  ns = [];
  xs = g.x ∷ g.xs;
  letters = refl;
  short = omega arith;
  head_fits = λ n a. (a, b);
  names_fit = tt;
  tail_fits = (m, g.item_fits, g.tail_fits);
  text = ap (λ (t : List ℕ). 107 ∷ t) g.text;
}

pub back_letter : (f : Form) (k b : ℕ) (w : List ℕ) → stands_in_name b ≡ true → GoesHead f (k + 1) w → GoesHead f k (b ∷ w)
back_letter f k b w h g = let le = g.short in record {
  l = b ∷ g.l;
  ns = g.ns;
  xs = g.xs;
  letters = and_from _ _ h g.letters;
  short = omega arith;
  head_fits = g.head_fits;
  names_fit = g.names_fit;
  tail_fits = g.tail_fits;
  text = ap (λ (t : List ℕ). b ∷ t) g.text;
}

pub back_name_letter : (f : Form) (k b : ℕ) (w : List ℕ) → stands_in_name b ≡ true → GoesInName f (k + 1) w → GoesInName f k (b ∷ w)
back_name_letter f k b w h g = let le = g.short in record {
  l = b ∷ g.l;
  ns = g.ns;
  xs = g.xs;
  letters = and_from _ _ h g.letters;
  short = omega arith;
  names_fit = g.names_fit;
  tail_fits = g.tail_fits;
  text = ap (λ (t : List ℕ). b ∷ t) g.text;
}

pub back_close : (f : Form) (k : ℕ) (w : List ℕ) → k ≤ 8 → takes_names f.within ≡ true → GoesAfter f w → GoesInName f k (93 ∷ w)
back_close f k w le h g = record {
  l = [];
  ns = [];
  xs = g.xs;
  letters = refl;
  short = omega arith;
  names_fit = λ n a. one_fits f.within n h a;
  tail_fits = g.tail_fits;
  text = ap (λ (t : List ℕ). 93 ∷ t) g.text;
}

several_fit : (w : Within) (m n : Name) (ns : List Name) → takes_several w ≡ true → IsWritable m → FitsNames w (n ∷ ns) → FitsNames w (m ∷ n ∷ ns)
several_fit NoParentheses m n ns h a g = absurd cc
several_fit (ThisWord t) m n ns h a g = absurd cc
several_fit OneName m n ns h a g = absurd cc
several_fit SeveralNames m n ns h a g = (a, g)

pub back_name_comma : (f : Form) (k : ℕ) (w : List ℕ) → k ≤ 8 → takes_several f.within ≡ true → GoesAtName f w → GoesInName f k (107 ∷ w)
back_name_comma f k w le h g = record {
  l = [];
  ns = g.n ∷ g.ns;
  xs = g.xs;
  letters = refl;
  short = omega arith;
  names_fit = λ n a. several_fit f.within n g.n g.ns h a g.names_fit;
  tail_fits = g.tail_fits;
  text = ap (λ (t : List ℕ). 107 ∷ t) g.text;
}

pub back_item : (f : Form) (w : List ℕ) → f.many ≡ true → GoesItem f w → GoesAfter f (107 ∷ w)
back_item f w m g = record {
  xs = g.x ∷ g.xs;
  tail_fits = (m, g.item_fits, g.tail_fits);
  text = ap (λ (t : List ℕ). 107 ∷ t) g.text;
}
