-- What the loops that read an operand have read so far.
use Rattle.std.proofs.Common.{◌≡◌, ◌≢◌, ℕ, zero, suc, ◌+◌, ◌-◌, ◌<◌, ◌≤◌, Bool, true, false, cond, eqb, ◌&&◌, List, [], ◌∷◌, ◌++◌, length, get_or, take, drop, map, Option, Some, None, refl, sym, ap, subst, ◌∙◌, arith, inl, inr, append_assoc, add-one, drop-cons}
use Rattle.std.specs.List.{flat_map, AllByRecursion}
use Rattle.std.proofs.lemmas.Bool.{cases_Bool, eq-eqb, ne_eqb}
use Rattle.std.proofs.lemmas.List.{take_more, append-nil}
use Rattle.std.proofs.lemmas.Grind.{flat_map-append}
use Rattle.le_bytes.specs.declared.name.Name.{Name}
use Rattle.ctl_cards.specs.NameTexts.{written, IsWritable, stands_in_name}
use Rattle.ctl_cards.specs.Letters.{NotNext}
use Rattle.ctl_cards.specs.Statements.{Item, joined, item_text, comma, close_mark, IsList}
use Rattle.ctl_cards.specs.Walk.{Form, Within, NoParentheses, ThisWord, OneName, SeveralNames, Point, AtItem, InHead, AtName, InName, InWord, AfterItem, takes_names, takes_several, next_point, stop_of}
use Rattle.ctl_cards.specs.Reads.{TakesName, HasNoName, TakesNames, TakesItem}
use Rattle.ctl_cards.proofs.WalkLaws.{went, step}

-- ---- a word

pub record WordSoFar (word old : List ℕ) (i : ℕ) (rest : List ℕ) : Type 0 where
  pub text : old ≡ take i word ++ rest
  pub walk : (f : Form) → stop_of f (InWord word) old ≡ stop_of f (InWord (drop i word)) rest

pub word_step : (f : Form) (b : ℕ) (word rest : List ℕ) → stop_of f (InWord (b ∷ word)) (b ∷ rest) ≡ stop_of f (InWord word) rest
word_step f b word rest =
    let e : next_point f (InWord (b ∷ word)) b ≡ Some (InWord word) = rw (eq-eqb b b refl) refl in
    step f (InWord (b ∷ word)) b rest (Some (InWord word)) e

word_stop : (f : Form) (b : ℕ) (word rest : List ℕ) → NotNext b rest → stop_of f (InWord (b ∷ word)) rest ≡ Some rest
word_stop f b word [] h = refl
word_stop f b word (c ∷ rest) h =
    let e : next_point f (InWord (b ∷ word)) c ≡ None = rw (ne_eqb c b h) refl in
    step f (InWord (b ∷ word)) c rest None e

pub word_more : (word old : List ℕ) (i : ℕ) (rest new : List ℕ) (b : ℕ) → WordSoFar word old i rest → i < length word → b ≡ get_or word i 0 → rest ≡ b ∷ new → WordSoFar word old (i + 1) new
word_more word old i rest new b s lt at e =
    let cut : drop i word ≡ b ∷ drop (i + 1) word = rw (at, add-one) (drop-cons word i 0 lt) in
    record {
      text = s.text ∙ ap (λ (t : List ℕ). take i word ++ t) e ∙ sym (append_assoc (take i word) (b ∷ []) new) ∙ ap (λ (t : List ℕ). t ++ new) (rw at (sym (take_more word i 0 lt)));
      walk = λ f. s.walk f ∙ rw (cut, e) (word_step f b (drop (i + 1) word) new);
    }

pub word_ends : (word old : List ℕ) (i : ℕ) (rest new : List ℕ) (b : ℕ) → WordSoFar word old i rest → i < length word → b ≡ get_or word i 0 → NotNext b rest → new ≡ rest → (f : Form) → stop_of f (InWord word) old ≡ Some new
word_ends word old i rest new b s lt at h e f =
    let cut : drop i word ≡ b ∷ drop (i + 1) word = rw (at, add-one) (drop-cons word i 0 lt) in
    s.walk f ∙ rw (cut, e) (word_stop f b (drop (i + 1) word) rest h)

-- ---- lists with commas

-- one item more behind a list that is not empty
pub joined_push : {X : Type 0} (text : X → List ℕ) (P : X → Type 0) (xs : List X) (x : X) (rest : List ℕ) → IsList P xs → joined text xs ++ comma ∷ (text x ++ rest) ≡ joined text (xs ++ x ∷ []) ++ rest
joined_push text P [] x rest h = absurd h
joined_push text P (y ∷ ys) x rest h = rw (flat_map-append (λ z. comma ∷ text z) ys (x ∷ [])) (simp append_assoc)

pub AllByRecursion-push : {X : Type 0} (P : X → Type 0) (xs : List X) (x : X) → AllByRecursion P xs → P x → AllByRecursion P (xs ++ x ∷ [])
AllByRecursion-push P [] x h p = (p, tt)
AllByRecursion-push P (y ∷ ys) x h p = (h.0, AllByRecursion-push P ys x h.1 p)

pub IsList-push : {X : Type 0} (P : X → Type 0) (xs : List X) (x : X) → IsList P xs → P x → IsList P (xs ++ x ∷ [])
IsList-push P [] x h p = absurd h
IsList-push P (y ∷ ys) x h p = (h.0, AllByRecursion-push P ys x h.1 p)

-- ---- names in parentheses

pub record NamesSoFar (old : List ℕ) (ns : List Name) (rest : List ℕ) : Type 0 where
  pub names : IsList IsWritable ns
  pub text : old ≡ joined written ns ++ rest
  pub walk : (f : Form) → takes_several f.within ≡ true → stop_of f AtName old ≡ stop_of f (InName 8) rest

several_names : (w : Within) → takes_several w ≡ true → takes_names w ≡ true
several_names NoParentheses h = absurd cc
several_names (ThisWord t) h = absurd cc
several_names OneName h = refl
several_names SeveralNames h = refl

pub first_name : (old : List ℕ) (n : Name) (new : List ℕ) → TakesName old n new → NamesSoFar old (n ∷ []) new
first_name old n new t = record {
  names = (t.writable, tt);
  text = t.text ∙ ap (λ (w : List ℕ). w ++ new) (sym (append-nil (written n)));
  walk = λ f h. t.at_name f (several_names f.within h);
}

pub comma_goes : (f : Form) (rest : List ℕ) → takes_several f.within ≡ true → stop_of f (InName 8) (107 ∷ rest) ≡ stop_of f AtName rest
comma_goes f rest h =
    let e : next_point f (InName 8) 107 ≡ Some AtName = rw h refl in
    step f (InName 8) 107 rest (Some AtName) e

pub next_name : (old : List ℕ) (ns : List Name) (rest mid : List ℕ) (n : Name) (new : List ℕ) → NamesSoFar old ns rest → rest ≡ 107 ∷ mid → TakesName mid n new → NamesSoFar old (ns ++ n ∷ []) new
next_name old ns rest mid n new s e t = record {
  names = IsList-push IsWritable ns n s.names t.writable;
  text = s.text ∙ ap (λ (w : List ℕ). joined written ns ++ w) (e ∙ ap (λ (w : List ℕ). 107 ∷ w) t.text) ∙ joined_push written IsWritable ns n new s.names;
  walk = λ f h. s.walk f h ∙ ap (stop_of f (InName 8)) e ∙ comma_goes f mid h ∙ t.at_name f (several_names f.within h);
}

pub no_next_name : (old : List ℕ) (ns : List Name) (rest mid new : List ℕ) → NamesSoFar old ns rest → rest ≡ 107 ∷ mid → HasNoName mid new → (f : Form) → takes_several f.within ≡ true → stop_of f AtName old ≡ Some new
no_next_name old ns rest mid new s e t f h =
    s.walk f h ∙ ap (stop_of f (InName 8)) e ∙ comma_goes f mid h ∙ t.at_name f ∙ ap Some (sym t.same)

pub names_close : (old : List ℕ) (ns : List Name) (rest new : List ℕ) → NamesSoFar old ns rest → rest ≡ 93 ∷ new → TakesNames old ns new
names_close old ns rest new s e = record {
  names = s.names;
  text = s.text ∙ ap (λ (w : List ℕ). joined written ns ++ w) e;
  walk = λ f h. s.walk f h ∙ ap (stop_of f (InName 8)) e;
}

no_more : (b : Bool) → cond (b && false) (Some (InName 9)) None ≡ None
no_more true = refl
no_more false = refl

name_end : (f : Form) (rest : List ℕ) → NotNext 107 rest → NotNext 93 rest → stop_of f (InName 8) rest ≡ Some rest
name_end f [] a b = refl
name_end f (c ∷ rest) a b =
    let e : next_point f (InName 8) c ≡ None = rw (ne_eqb c 93 b, ne_eqb c 107 a) (no_more (stands_in_name c)) in
    step f (InName 8) c rest None e

pub names_open : (old : List ℕ) (ns : List Name) (rest new : List ℕ) → NamesSoFar old ns rest → NotNext 107 rest → NotNext 93 rest → new ≡ rest → (f : Form) → takes_several f.within ≡ true → stop_of f AtName old ≡ Some new
names_open old ns rest new s a b e f h = s.walk f h ∙ name_end f rest a b ∙ ap Some (sym e)

-- ---- the items of an operand

pub record ItemsSoFar {X : Type 0} (form : Bool → Form) (item : X → Item) (Is : X → Type 0) (old : List ℕ) (xs : List X) (rest : List ℕ) : Type 0 where
  pub items : IsList Is xs
  pub text : old ≡ joined (λ x. item_text (item x)) xs ++ rest
  pub walk : stop_of (form true) AtItem old ≡ stop_of (form true) AfterItem rest

pub first_item : {X : Type 0} (form : Bool → Form) (item : X → Item) (Is : X → Type 0) (old : List ℕ) (x : X) (new : List ℕ) → Is x × TakesItem form old (item_text (item x)) new → ItemsSoFar form item Is old (x ∷ []) new
first_item form item Is old x new t = record {
  items = (t.0, tt);
  text = t.1.text ∙ ap (λ (w : List ℕ). w ++ new) (sym (append-nil (item_text (item x))));
  walk = t.1.walk true;
}

pub comma_on : (f : Form) (rest : List ℕ) → f.many ≡ true → stop_of f AfterItem (107 ∷ rest) ≡ stop_of f AtItem rest
comma_on f rest h =
    let e : next_point f AfterItem 107 ≡ Some AtItem = rw h refl in
    step f AfterItem 107 rest (Some AtItem) e

pub next_item : {X : Type 0} (form : Bool → Form) (item : X → Item) (Is : X → Type 0) (old : List ℕ) (xs : List X) (rest mid : List ℕ) (x : X) (new : List ℕ) → (form true).many ≡ true → ItemsSoFar form item Is old xs rest → rest ≡ 107 ∷ mid → Is x × TakesItem form mid (item_text (item x)) new → ItemsSoFar form item Is old (xs ++ x ∷ []) new
next_item form item Is old xs rest mid x new many s e t = record {
  items = IsList-push Is xs x s.items t.0;
  text = s.text ∙ ap (λ (w : List ℕ). joined (λ y. item_text (item y)) xs ++ w) (e ∙ ap (λ (w : List ℕ). 107 ∷ w) t.1.text) ∙ joined_push (λ y. item_text (item y)) Is xs x new s.items;
  walk = s.walk ∙ ap (stop_of (form true) AfterItem) e ∙ comma_on (form true) mid many ∙ t.1.walk true;
}

pub no_next_item : {X : Type 0} (form : Bool → Form) (item : X → Item) (Is : X → Type 0) (old : List ℕ) (xs : List X) (rest mid new : List ℕ) → (form true).many ≡ true → ItemsSoFar form item Is old xs rest → rest ≡ 107 ∷ mid → ((many : Bool) → stop_of (form many) AtItem mid ≡ Some new) → stop_of (form true) AtItem old ≡ Some new
no_next_item form item Is old xs rest mid new many s e t =
    s.walk ∙ ap (stop_of (form true) AfterItem) e ∙ comma_on (form true) mid many ∙ t true

pub items_end : {X : Type 0} (form : Bool → Form) (item : X → Item) (Is : X → Type 0) (old : List ℕ) (xs : List X) (rest : List ℕ) → ItemsSoFar form item Is old xs rest → rest ≡ [] → IsList Is xs × (old ≡ joined (λ x. item_text (item x)) xs)
items_end form item Is old xs rest s e = (s.items, s.text ∙ ap (λ (w : List ℕ). joined (λ x. item_text (item x)) xs ++ w) e ∙ append-nil (joined (λ x. item_text (item x)) xs))

after_stop : (f : Form) (b : ℕ) (rest : List ℕ) → NotNext 107 (b ∷ rest) → stop_of f AfterItem (b ∷ rest) ≡ Some (b ∷ rest)
after_stop f b rest h =
    let e : next_point f AfterItem b ≡ None = rw (ne_eqb b 107 h) refl in
    step f AfterItem b rest None e

pub items_open : {X : Type 0} (form : Bool → Form) (item : X → Item) (Is : X → Type 0) (old : List ℕ) (xs : List X) (b : ℕ) (rest : List ℕ) → ItemsSoFar form item Is old xs (b ∷ rest) → NotNext 107 (b ∷ rest) → stop_of (form true) AtItem old ≡ Some (b ∷ rest)
items_open form item Is old xs b rest s h = s.walk ∙ after_stop (form true) b rest h
