-- A printed operand, taken apart, gives its items again.
use Rattle.std.proofs.Common.{◌≡◌, ℕ, true, List, [], ◌∷◌, ◌++◌, refl, sym, ap, ◌∙◌, append_assoc}
use Rattle.std.specs.List.{list_all, AllByRecursion}
use Rattle.std.proofs.lemmas.Bool.{and_parts}
use Rattle.std.proofs.lemmas.List.{append-nil}
use Rattle.le_bytes.specs.declared.name.Name.{Name}
use Rattle.ctl_cards.specs.NameTexts.{stands_in_name, written, IsWritable}
use Rattle.ctl_cards.specs.Letters.{name_with}
use Rattle.ctl_cards.specs.Statements.{Item, Head, Nameless, Starred, Named, joined, item_text, names_text}
use Rattle.ctl_cards.specs.Meaning.{OfHead, OfNames, Closed, head_of, item_of, items_from, items_in}
use Rattle.ctl_cards.proofs.NameLaws.{IsWord, word_stands, word-written, name_with-written, begins_stands, differs, open_no_letter, comma_no_letter, close_no_letter, star_no_letter}
use Rattle.ctl_cards.proofs.Accepts.{regroup_names, regroup_list}
use Rattle.ctl_cards.proofs.Items.{tail_text, tail_names}
use Rattle.ctl_cards.proofs.Unique.{IsItem, AreItems}

-- ---- letters

head_letter : (head : List ℕ) (b : ℕ) (z : List ℕ) → stands_in_name b ≡ true → items_from (OfHead head) (b ∷ z) ≡ items_from (OfHead (head ++ b ∷ [])) z
unfolding items_from
head_letter head b z h = rw (differs b 107 h comma_no_letter, differs b 77 h open_no_letter) refl

head_letters : (w head z : List ℕ) → list_all stands_in_name w ≡ true → items_from (OfHead head) (w ++ z) ≡ items_from (OfHead (head ++ w)) z
head_letters [] head z h = ap (λ t. items_from (OfHead t) z) (sym (append-nil head))
head_letters (b ∷ w) head z h =
    let p = and_parts (stands_in_name b) (list_all stands_in_name w) h in
    head_letter head b (w ++ z) p.0 ∙ head_letters w (head ++ b ∷ []) z p.1
    ∙ ap (λ t. items_from (OfHead t) z) (append_assoc head (b ∷ []) w)

name_letter : (head : List ℕ) (ns : List Name) (l : List ℕ) (b : ℕ) (z : List ℕ) → stands_in_name b ≡ true → items_from (OfNames head ns l) (b ∷ z) ≡ items_from (OfNames head ns (l ++ b ∷ [])) z
unfolding items_from
name_letter head ns l b z h = rw (differs b 107 h comma_no_letter, differs b 93 h close_no_letter) refl

name_letters : (w head : List ℕ) (ns : List Name) (l z : List ℕ) → list_all stands_in_name w ≡ true → items_from (OfNames head ns l) (w ++ z) ≡ items_from (OfNames head ns (l ++ w)) z
name_letters [] head ns l z h = ap (λ t. items_from (OfNames head ns t) z) (sym (append-nil l))
name_letters (b ∷ w) head ns l z h =
    let p = and_parts (stands_in_name b) (list_all stands_in_name w) h in
    name_letter head ns l b (w ++ z) p.0 ∙ name_letters w head ns (l ++ b ∷ []) z p.1
    ∙ ap (λ t. items_from (OfNames head ns t) z) (append_assoc l (b ∷ []) w)

-- ---- heads

head_word : (w : List ℕ) → IsWord w → head_of w ≡ Named (name_with w)
head_word [] h = absurd h
head_word (b ∷ t) h = rw (differs b 92 (begins_stands b h.0) star_no_letter) refl

named_head : Name → Head
named_head n = Named n

head_written : (n : Name) → IsWritable n → head_of (written n) ≡ Named n
unfolding named_head
head_written n a = head_word (written n) (word-written n a) ∙ ap named_head (name_with-written n a)

written_letters : (n : Name) → IsWritable n → list_all stands_in_name (written n) ≡ true
written_letters n a = word_stands (written n) (word-written n a)

-- ---- marks

comma_in_names : (head : List ℕ) (ns : List Name) (l z : List ℕ) → items_from (OfNames head ns l) (107 ∷ z) ≡ items_from (OfNames head (ns ++ name_with l ∷ []) []) z
unfolding items_from
comma_in_names head ns l z = refl

close_names : (head : List ℕ) (ns : List Name) (l z : List ℕ) → items_from (OfNames head ns l) (93 ∷ z) ≡ item_of head (ns ++ name_with l ∷ []) ∷ items_from Closed z
unfolding items_from
close_names head ns l z = refl

open_names : (head z : List ℕ) → items_from (OfHead head) (77 ∷ z) ≡ items_from (OfNames head [] []) z
unfolding items_from
open_names head z = refl

star_head : (z : List ℕ) → items_from (OfHead []) (92 ∷ z) ≡ items_from (OfHead (92 ∷ [])) z
unfolding items_from
star_head z = refl

-- ---- names in parentheses

names_apart : (head : List ℕ) (before : List Name) (n : Name) (ns : List Name) (z : List ℕ) → IsWritable n → AllByRecursion IsWritable ns
    → items_from (OfNames head before []) (written n ++ (tail_names ns ++ (93 ∷ z))) ≡ item_of head (before ++ n ∷ ns) ∷ items_from Closed z
names_apart head before n [] z a b =
    name_letters (written n) head before [] (93 ∷ z) (written_letters n a)
    ∙ close_names head before (written n) z
    ∙ ap (λ m. item_of head (before ++ m ∷ []) ∷ items_from Closed z) (name_with-written n a)
names_apart head before n (m ∷ ms) z a b =
    name_letters (written n) head before [] (tail_names (m ∷ ms) ++ (93 ∷ z)) (written_letters n a)
    ∙ ap (items_from (OfNames head before (written n))) (regroup_names m ms (93 ∷ z))
    ∙ comma_in_names head before (written n) (written m ++ (tail_names ms ++ (93 ∷ z)))
    ∙ ap (λ k. items_from (OfNames head (before ++ k ∷ []) []) (written m ++ (tail_names ms ++ (93 ∷ z)))) (name_with-written n a)
    ∙ names_apart head (before ++ n ∷ []) m ms z b.0 b.1
    ∙ ap (λ ns. item_of head ns ∷ items_from Closed z) (append_assoc before (n ∷ []) (m ∷ ms))

in_parens : (head : List ℕ) (n : Name) (ns : List Name) (z : List ℕ) → IsWritable n → AllByRecursion IsWritable ns
    → items_from (OfHead head) (names_text (n ∷ ns) ++ z) ≡ item_of head (n ∷ ns) ∷ items_from Closed z
in_parens head n ns z a b =
    ap (items_from (OfHead head)) (regroup_list n ns z)
    ∙ open_names head (joined written (n ∷ ns) ++ (93 ∷ z))
    ∙ ap (items_from (OfNames head [] [])) (append_assoc (written n) (tail_names ns) (93 ∷ z))
    ∙ names_apart head [] n ns z a b

-- ---- items

-- the items after one
abbrev rest_of : List Item → List Item
rest_of xs = items_from Closed (tail_text xs)

bare_ends : (head : List ℕ) (xs : List Item) → items_from (OfHead head) (tail_text xs) ≡ item_of head [] ∷ rest_of xs
unfolding items_from
bare_ends head [] = refl
bare_ends head (x ∷ xs) = refl

item_with : Head → List Name → Item
item_with h ns = record { head = h; names = ns }

item_apart : (h : Head) (ns : List Name) (xs : List Item) → IsItem h ns
    → items_from (OfHead []) (item_text (record { head = h; names = ns }) ++ tail_text xs) ≡ record { head = h; names = ns } ∷ rest_of xs
unfolding item_with
item_apart (Named n) [] xs a =
    ap (λ t. items_from (OfHead []) (t ++ tail_text xs)) (append-nil (written n))
    ∙ head_letters (written n) [] (tail_text xs) (written_letters n a.0)
    ∙ bare_ends (written n) xs
    ∙ ap (λ h. item_with h [] ∷ rest_of xs) (head_written n a.0)
item_apart (Named n) (m ∷ ms) xs a =
    ap (items_from (OfHead [])) (append_assoc (written n) (names_text (m ∷ ms)) (tail_text xs))
    ∙ head_letters (written n) [] (names_text (m ∷ ms) ++ tail_text xs) (written_letters n a.0)
    ∙ in_parens (written n) m ms (tail_text xs) a.1.0 a.1.1
    ∙ ap (λ h. item_with h (m ∷ ms) ∷ rest_of xs) (head_written n a.0)
item_apart Nameless [] xs a = absurd a
item_apart Nameless (m ∷ ms) xs a = in_parens [] m ms (tail_text xs) a.0 a.1
item_apart Starred [] xs a = absurd a
item_apart Starred (m ∷ ms) xs a =
    star_head (names_text (m ∷ ms) ++ tail_text xs) ∙ in_parens (92 ∷ []) m ms (tail_text xs) a.0 a.1

comma_after : (z : List ℕ) → items_from Closed (107 ∷ z) ≡ items_from (OfHead []) z
unfolding items_from
comma_after z = refl

none_after : rest_of [] ≡ []
unfolding items_from
none_after = refl

rest_apart : (xs : List Item) → AreItems xs → rest_of xs ≡ xs
rest_apart [] a = none_after
rest_apart (x ∷ xs) a =
    comma_after (item_text x ++ tail_text xs) ∙ item_apart x.head x.names xs a.0 ∙ ap (λ ys. x ∷ ys) (rest_apart xs a.1)

-- the items of an operand are those that it was printed from
pub taken_apart : (x : Item) (xs : List Item) → AreItems (x ∷ xs) → items_in (joined item_text (x ∷ xs)) ≡ x ∷ xs
taken_apart x xs a = item_apart x.head x.names xs a.0 ∙ ap (λ ys. x ∷ ys) (rest_apart xs a.1)
