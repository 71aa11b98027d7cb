-- A walk through items that a form allows comes to its end.
use Rattle.std.proofs.Common.{◌≡◌, ◌≢◌, ℕ, zero, suc, ◌+◌, ◌-◌, ◌<◌, ◌≤◌, min, Bool, true, false, cond, eqb, ◌&&◌, List, [], ◌∷◌, ◌++◌, length, take, drop, Option, Some, None, refl, sym, ap, subst, ◌∙◌, arith, inl, inr, append_assoc}
use Rattle.std.specs.List.{list_all, prefix_len, flat_map, AllByRecursion}
use Rattle.std.proofs.lemmas.Bool.{cases_Bool, and_parts}
use Rattle.std.proofs.lemmas.List.{append-nil, drop_at}
use Rattle.le_bytes.specs.declared.name.Name.{Name}
use Rattle.ctl_cards.specs.NameTexts.{begins_name, stands_in_name, written, IsWritable}
use Rattle.ctl_cards.specs.Letters.{name_length}
use Rattle.ctl_cards.specs.Statements.{Item, Head, Nameless, Starred, Named, joined, item_text, names_text, close_mark}
use Rattle.ctl_cards.specs.Walk.{Form, Within, NoParentheses, ThisWord, OneName, SeveralNames, Point, AtItem, AfterStar, InHead, AtName, InName, InWord, AfterItem, opened, takes_names, takes_several, next_point, may_end, stop_of}
use Rattle.ctl_cards.proofs.NameLaws.{IsWord, word-written, open_no_letter, comma_no_letter, close_no_letter}
use Rattle.ctl_cards.proofs.WalkLaws.{step, walk_head, walk_name}
use Rattle.ctl_cards.proofs.Loops.{comma_goes, comma_on, word_step}
use Rattle.ctl_cards.proofs.Items.{FitsItem, FitsItems, FitsTail, FitsNames, tail_text, tail_names}

abbrev pub NoLetter : List ℕ → Type 0
NoLetter [] = Unit {0}
NoLetter (b ∷ text) = stands_in_name b ≡ false

prefix_letters : (t z : List ℕ) → list_all stands_in_name t ≡ true → NoLetter z → prefix_len stands_in_name (t ++ z) ≡ length t
prefix_letters [] [] h n = refl
prefix_letters [] (b ∷ z) h n = rw n refl
prefix_letters (b ∷ t) z h n =
    let p = and_parts (stands_in_name b) (list_all stands_in_name t) h in
    rw (p.0, prefix_letters t z p.1 n) (omega arith)

pub name_length-word : (w z : List ℕ) → IsWord w → NoLetter z → name_length (w ++ z) ≡ length w
name_length-word [] z h n = absurd h
name_length-word (b ∷ t) z h n = let lt = h.2 in rw (h.0, prefix_letters t z h.1 n) (omega arith)

not_empty : (w : List ℕ) → IsWord w → length w ≡ 0 → ⊥
not_empty [] h e = absurd h
not_empty (b ∷ t) h e = omega arith

pub pass_head : (f : Form) (n : Name) (z : List ℕ) → IsWritable n → NoLetter z → stop_of f AtItem (written n ++ z) ≡ stop_of f (InHead 8) z
pass_head f n z a h =
    let w = word-written n a in
    let len = name_length-word (written n) z w h in
    walk_head f (written n ++ z) (λ e. not_empty (written n) w (sym len ∙ e)) ∙ rw (len, drop_at (written n) z (length (written n)) refl) refl

pub pass_name : (f : Form) (n : Name) (z : List ℕ) → takes_names f.within ≡ true → IsWritable n → NoLetter z → stop_of f AtName (written n ++ z) ≡ stop_of f (InName 8) z
pass_name f n z t a h =
    let w = word-written n a in
    let len = name_length-word (written n) z w h in
    walk_name f (written n ++ z) t (λ e. not_empty (written n) w (sym len ∙ e)) ∙ rw (len, drop_at (written n) z (length (written n)) refl) refl

pub no_letter_after : (ns : List Name) (z : List ℕ) → NoLetter (tail_names ns ++ (93 ∷ z))
no_letter_after [] z = close_no_letter
no_letter_after (n ∷ ns) z = comma_no_letter

pub regroup_names : (n : Name) (ns : List Name) (z : List ℕ) → tail_names (n ∷ ns) ++ z ≡ 107 ∷ (written n ++ (tail_names ns ++ z))
regroup_names n ns z = ap (λ (t : List ℕ). 107 ∷ t) (append_assoc (written n) (tail_names ns) z)

pass_more : (f : Form) (ns : List Name) (z : List ℕ) → takes_names f.within ≡ true → (ns ≢ [] → takes_several f.within ≡ true) → AllByRecursion IsWritable ns → stop_of f (InName 8) (tail_names ns ++ (93 ∷ z)) ≡ stop_of f AfterItem z
pass_more f [] z t h a = refl
pass_more f (n ∷ ns) z t h a =
    let several = h (λ e. absurd cc) in
    ap (stop_of f (InName 8)) (regroup_names n ns (93 ∷ z))
    ∙ comma_goes f (written n ++ (tail_names ns ++ (93 ∷ z))) several
    ∙ pass_name f n (tail_names ns ++ (93 ∷ z)) t a.0 (no_letter_after ns z)
    ∙ pass_more f ns z t (λ e. several) a.1

pass_names : (f : Form) (n : Name) (ns : List Name) (z : List ℕ) → takes_names f.within ≡ true → IsWritable n → (ns ≢ [] → takes_several f.within ≡ true) → AllByRecursion IsWritable ns → stop_of f AtName (joined written (n ∷ ns) ++ (93 ∷ z)) ≡ stop_of f AfterItem z
pass_names f n ns z t a h b =
    ap (stop_of f AtName) (append_assoc (written n) (tail_names ns) (93 ∷ z))
    ∙ pass_name f n (tail_names ns ++ (93 ∷ z)) t a (no_letter_after ns z)
    ∙ pass_more f ns z t h b

pass_word : (f : Form) (word z : List ℕ) → stop_of f (InWord word) (word ++ (93 ∷ z)) ≡ stop_of f AfterItem z
pass_word f [] z = refl
pass_word f (c ∷ word) z = word_step f c word (word ++ (93 ∷ z)) ∙ pass_word f word z

pub regroup_list : (n : Name) (ns : List Name) (z : List ℕ) → names_text (n ∷ ns) ++ z ≡ 77 ∷ (joined written (n ∷ ns) ++ (93 ∷ z))
regroup_list n ns z = ap (λ (t : List ℕ). 77 ∷ t) (append_assoc (joined written (n ∷ ns)) (93 ∷ []) z)

-- from a place where an open parenthesis may come
pass_open : (f : Form) (p : Point) (w : Within) (n : Name) (ns : List Name) (z : List ℕ) → f.within ≡ w → next_point f p 77 ≡ opened w → FitsNames w (n ∷ ns) → stop_of f p (names_text (n ∷ ns) ++ z) ≡ stop_of f AfterItem z
pass_open f p NoParentheses n ns z e o h = absurd h
pass_open f p (ThisWord t) n ns z e o h =
    let one : names_text (n ∷ ns) ++ z ≡ 77 ∷ (t ++ (93 ∷ z)) =
    regroup_list n ns z ∙ ap (λ (ms : List Name). 77 ∷ (joined written (n ∷ ms) ++ (93 ∷ z))) h.1 ∙ ap (λ (u : List ℕ). 77 ∷ (u ++ (93 ∷ z))) (append-nil (written n) ∙ h.0) in
    ap (stop_of f p) one ∙ step f p 77 (t ++ (93 ∷ z)) (Some (InWord t)) o ∙ pass_word f t z
pass_open f p OneName n ns z e o h =
    ap (stop_of f p) (regroup_list n ns z) ∙ step f p 77 (joined written (n ∷ ns) ++ (93 ∷ z)) (Some AtName) o
    ∙ pass_names f n ns z (rw e refl) h.0 (λ d. absurd (d h.1)) (rw h.1 tt)
pass_open f p SeveralNames n ns z e o h =
    ap (stop_of f p) (regroup_list n ns z) ∙ step f p 77 (joined written (n ∷ ns) ++ (93 ∷ z)) (Some AtName) o
    ∙ pass_names f n ns z (rw e refl) h.0 (λ d. rw e refl) h.1

pass_bare : (f : Form) (xs : List Item) → f.bare ≡ true → stop_of f (InHead 8) (tail_text xs) ≡ stop_of f AfterItem (tail_text xs)
pass_bare f [] h = rw h refl
pass_bare f (x ∷ xs) h =
    let e : next_point f (InHead 8) 107 ≡ next_point f AfterItem 107 = rw h refl in
    step f (InHead 8) 107 (item_text x ++ tail_text xs) (next_point f AfterItem 107) e

pub no_letter_tail : (xs : List Item) → NoLetter (tail_text xs)
no_letter_tail [] = tt
no_letter_tail (x ∷ xs) = comma_no_letter

pub pass_item : (f : Form) (h : Head) (ns : List Name) (xs : List Item) → FitsItem f (record { head = h; names = ns }) → stop_of f AtItem (item_text (record { head = h; names = ns }) ++ tail_text xs) ≡ stop_of f AfterItem (tail_text xs)
pass_item f (Named n) [] xs g =
    ap (λ (t : List ℕ). stop_of f AtItem (t ++ tail_text xs)) (append-nil (written n))
    ∙ pass_head f n (tail_text xs) g.head_fits.0 (no_letter_tail xs) ∙ pass_bare f xs g.head_fits.1
pass_item f (Named n) (m ∷ ms) xs g =
    ap (stop_of f AtItem) (append_assoc (written n) (names_text (m ∷ ms)) (tail_text xs))
    ∙ pass_head f n (names_text (m ∷ ms) ++ tail_text xs) g.head_fits.0 open_no_letter
    ∙ pass_open f (InHead 8) f.within m ms (tail_text xs) refl refl g.names_fit
pass_item f Nameless [] xs g = absurd g.head_fits
pass_item f Nameless (m ∷ ms) xs g = pass_open f AtItem f.within m ms (tail_text xs) refl (rw g.head_fits refl) g.names_fit
pass_item f Starred [] xs g = absurd g.head_fits
pass_item f Starred (m ∷ ms) xs g =
    let e : next_point f AtItem 92 ≡ Some AfterStar = rw g.head_fits refl in
    step f AtItem 92 (names_text (m ∷ ms) ++ tail_text xs) (Some AfterStar) e
    ∙ pass_open f AfterStar f.within m ms (tail_text xs) refl refl g.names_fit

pub pass_tail : (f : Form) (xs : List Item) → FitsTail f xs → stop_of f AfterItem (tail_text xs) ≡ None
pass_tail f [] h = refl
pass_tail f (x ∷ xs) h = comma_on f (item_text x ++ tail_text xs) h.0 ∙ pass_item f x.head x.names xs h.1 ∙ pass_tail f xs h.2

pub accepts : (f : Form) (xs : List Item) → FitsItems f xs → stop_of f AtItem (joined item_text xs) ≡ None
accepts f [] h = absurd h
accepts f (x ∷ xs) h = pass_item f x.head x.names xs h.0 ∙ pass_tail f xs h.1
