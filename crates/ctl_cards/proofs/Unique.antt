-- A statement is spelled in one way, and no other statement is spelled so.
use Rattle.std.proofs.Common.{◌≡◌, ℕ, Bool, true, false, cond, eqb, List, [], ◌∷◌, ◌++◌, length, take, drop, map, Option, Some, None, Result, Ok, Err, inl, inr, arith, refl, sym, ap, subst, ◌∙◌, append_assoc}
use Rattle.std.specs.Prelude.{IfOk, IfErr}
use Rattle.std.specs.List.{AllByRecursion}
use Rattle.std.specs.Option.{option_to_list}
use Rattle.std.proofs.lemmas.Bool.{true≢false, eqb-false}
use Rattle.std.proofs.lemmas.List.{take_at, drop_at}
use Rattle.le_bytes.specs.declared.name.Name.{Name}
use Rattle.ctl_cards.specs.NameTexts.{stands_in_name, written, IsWritable}
use Rattle.ctl_cards.specs.Letters.{name_length, name_with}
use Rattle.ctl_cards.specs.Statements.{Item, Head, Nameless, Starred, Named, joined, item_text, names_text, head_text, IsList, IsWellFormed, items_of, include_item, library_item, replace_item, change_item, name_item, marked_item, replace_word, region_word, IsIncludeItem, IsLibraryItem, IsReplaceItem, IsChangeItem, HasFewAliases}
use Rattle.ctl_cards.specs.Operations.{operation_of}
use Rattle.ctl_cards.specs.Grammar.{Spells, IsStatement, HasFault, AnswersUnlessMemory}
use Rattle.ctl_cards.specs.declared.statement.IncludeItem.{IncludeItem}
use Rattle.ctl_cards.specs.declared.statement.LibraryItem.{LibraryItem}
use Rattle.ctl_cards.specs.declared.statement.LibraryItem.TheVariants as library
use Rattle.ctl_cards.specs.declared.statement.Statement.{Statement}
use Rattle.ctl_cards.specs.declared.statement.Statement.TheVariants as statement
use Rattle.ctl_cards.specs.declared.statement.StmtFault.{StmtFault}
use Rattle.ctl_cards.specs.declared.statement.StmtFault.TheVariants as fault
use Rattle.ctl_cards.proofs.NameLaws.{IsWord, word-written, name_with-written, begins_stands, open_no_letter, star_no_letter}
use Rattle.ctl_cards.proofs.Accepts.{NoLetter, name_length-word, no_letter_after, regroup_names, regroup_list, no_letter_tail}
use Rattle.ctl_cards.proofs.Items.{tail_text, tail_names}
use Rattle.ctl_cards.proofs.Faults.{text_injective}

-- ---- names

pair_same : {A B : Type 0} (x y : A × B) → x.0 ≡ y.0 → x.1 ≡ y.1 → x ≡ y
pair_same {A} {B} x y e d =
    let one : (b : B) → A → A × B = λ b a. (a, b) in
    let two : (a : A) → B → A × B = λ a b. (a, b) in
    ap (one x.1) e ∙ ap (two y.0) d

pub record SameName (m n : Name) (y z : List ℕ) : Type 0 where
  pub name : m ≡ n
  pub rest : y ≡ z

pub same_name : (m n : Name) (y z : List ℕ) → IsWritable m → IsWritable n → NoLetter y → NoLetter z → written m ++ y ≡ written n ++ z → SameName m n y z
same_name m n y z a b g h e =
    let u = name_length-word (written m) y (word-written m a) g in
    let v = name_length-word (written n) z (word-written n b) h in
    let len : length (written m) ≡ length (written n) = sym u ∙ ap name_length e ∙ v in
    let fronts : written m ≡ written n =
    sym (take_at (written m) y (length (written m)) refl) ∙ ap (take (length (written m))) e ∙ take_at (written n) z (length (written m)) (sym len) in
    let rests : y ≡ z =
    sym (drop_at (written m) y (length (written m)) refl) ∙ ap (drop (length (written m))) e ∙ drop_at (written n) z (length (written m)) (sym len) in
    record { name = sym (name_with-written m a) ∙ ap name_with fronts ∙ name_with-written n b; rest = rests }

pub record SameNames (ms ns : List Name) (y z : List ℕ) : Type 0 where
  pub names : ms ≡ ns
  pub rest : y ≡ z

rest_of : (a b : ℕ) (x y : List ℕ) → a ∷ x ≡ b ∷ y → x ≡ y
rest_of a b x y e = cc

first_of_two : (a b : ℕ) (x y : List ℕ) → a ∷ x ≡ b ∷ y → a ≡ b
first_of_two a b x y e = cc

clash : {A : Type 0} (a b : ℕ) (x y : List ℕ) → eqb a b ≡ false → a ∷ x ≡ b ∷ y → A
clash a b x y h e = absurd (eqb-false a b h (first_of_two a b x y e))

close_or_comma : {A : Type 0} (x y : List ℕ) → 93 ∷ x ≡ 107 ∷ y → A
close_or_comma x y e = clash 93 107 x y refl e

pub same_tails : (ms ns : List Name) (y z : List ℕ) → AllByRecursion IsWritable ms → AllByRecursion IsWritable ns → tail_names ms ++ (93 ∷ y) ≡ tail_names ns ++ (93 ∷ z) → SameNames ms ns y z
same_tails [] [] y z a b e = record { names = refl; rest = rest_of 93 93 y z e }
same_tails [] (n ∷ ns) y z a b e = close_or_comma y (written n ++ (tail_names ns ++ (93 ∷ z))) (e ∙ regroup_names n ns (93 ∷ z))
same_tails (m ∷ ms) [] y z a b e = close_or_comma z (written m ++ (tail_names ms ++ (93 ∷ y))) (sym e ∙ regroup_names m ms (93 ∷ y))
same_tails (m ∷ ms) (n ∷ ns) y z a b e =
    let inner : written m ++ (tail_names ms ++ (93 ∷ y)) ≡ written n ++ (tail_names ns ++ (93 ∷ z)) =
    rest_of 107 107 _ _ (sym (regroup_names m ms (93 ∷ y)) ∙ e ∙ regroup_names n ns (93 ∷ z)) in
    let one = same_name m n (tail_names ms ++ (93 ∷ y)) (tail_names ns ++ (93 ∷ z)) a.0 b.0 (no_letter_after ms y) (no_letter_after ns z) inner in
    let more = same_tails ms ns y z a.1 b.1 one.rest in
    record { names = cc (one.name, more.names); rest = more.rest }

pub same_lists : (m : Name) (ms : List Name) (n : Name) (ns : List Name) (y z : List ℕ) → AllByRecursion IsWritable (m ∷ ms) → AllByRecursion IsWritable (n ∷ ns) → names_text (m ∷ ms) ++ y ≡ names_text (n ∷ ns) ++ z → SameNames (m ∷ ms) (n ∷ ns) y z
same_lists m ms n ns y z a b e =
    let inner : joined written (m ∷ ms) ++ (93 ∷ y) ≡ joined written (n ∷ ns) ++ (93 ∷ z) =
    rest_of 77 77 _ _ (sym (regroup_list m ms y) ∙ e ∙ regroup_list n ns z) in
    let flat : written m ++ (tail_names ms ++ (93 ∷ y)) ≡ written n ++ (tail_names ns ++ (93 ∷ z)) =
    sym (append_assoc (written m) (tail_names ms) (93 ∷ y)) ∙ inner ∙ append_assoc (written n) (tail_names ns) (93 ∷ z) in
    let one = same_name m n (tail_names ms ++ (93 ∷ y)) (tail_names ns ++ (93 ∷ z)) a.0 b.0 (no_letter_after ms y) (no_letter_after ns z) flat in
    let more = same_tails ms ns y z a.1 b.1 one.rest in
    record { names = cc (one.name, more.names); rest = more.rest }

-- ---- items

-- what every item of a well-formed statement is
abbrev pub IsItem : Head → List Name → Type 0
IsItem (Named n) ns = IsWritable n × AllByRecursion IsWritable ns
IsItem Nameless [] = ⊥
IsItem Nameless (n ∷ ns) = AllByRecursion IsWritable (n ∷ ns)
IsItem Starred [] = ⊥
IsItem Starred (n ∷ ns) = AllByRecursion IsWritable (n ∷ ns)

abbrev pub AreItems : List Item → Type 0
AreItems [] = Unit {0}
AreItems (x ∷ xs) = IsItem x.head x.names × AreItems xs

-- an item's names in parentheses, with what follows
in_parens : (ms ns : List Name) (xs ys : List Item) → AllByRecursion IsWritable ms → AllByRecursion IsWritable ns → names_text ms ++ tail_text xs ≡ names_text ns ++ tail_text ys → SameNames ms ns (tail_text xs) (tail_text ys)
in_parens [] [] xs ys a b e = record { names = refl; rest = e }
in_parens [] (n ∷ ns) [] ys a b e = absurd cc
in_parens [] (n ∷ ns) (x ∷ xs) ys a b e = clash 107 77 _ _ refl e
in_parens (m ∷ ms) [] xs [] a b e = absurd cc
in_parens (m ∷ ms) [] xs (y ∷ ys) a b e = clash 77 107 _ _ refl e
in_parens (m ∷ ms) (n ∷ ns) xs ys a b e = same_lists m ms n ns (tail_text xs) (tail_text ys) a b e

abbrev named_head : Name → Head
named_head n = Named n

abbrev item_with : Head → List Name → Item
item_with h ns = record { head = h; names = ns }

no_letter_parens : (ms : List Name) (xs : List Item) → NoLetter (names_text ms ++ tail_text xs)
no_letter_parens [] xs = no_letter_tail xs
no_letter_parens (m ∷ ms) xs = open_no_letter

begins_a_name : {A : Type 0} (w z t : List ℕ) (c : ℕ) → IsWord w → stands_in_name c ≡ false → w ++ z ≡ c ∷ t → A
begins_a_name [] z t c h n e = absurd h
begins_a_name (b ∷ l) z t c h n e = absurd (true≢false (sym (begins_stands b h.0) ∙ ap stands_in_name (first_of_two b c (l ++ z) t e) ∙ n))

pub record SameItem (h k : Head) (ms ns : List Name) (xs ys : List Item) : Type 0 where
  pub head : h ≡ k
  pub names : ms ≡ ns
  pub rest : tail_text xs ≡ tail_text ys

same_item : (h k : Head) (ms ns : List Name) (xs ys : List Item) → IsItem h ms → IsItem k ns → (head_text h ++ names_text ms) ++ tail_text xs ≡ (head_text k ++ names_text ns) ++ tail_text ys → SameItem h k ms ns xs ys
same_item (Named m) (Named n) ms ns xs ys a b e =
    let flat : written m ++ (names_text ms ++ tail_text xs) ≡ written n ++ (names_text ns ++ tail_text ys) =
    sym (append_assoc (written m) (names_text ms) (tail_text xs)) ∙ e ∙ append_assoc (written n) (names_text ns) (tail_text ys) in
    let one = same_name m n (names_text ms ++ tail_text xs) (names_text ns ++ tail_text ys) a.0 b.0 (no_letter_parens ms xs) (no_letter_parens ns ys) flat in
    let more = in_parens ms ns xs ys a.1 b.1 one.rest in
    record { head = ap (λ (x : Name). named_head x) one.name; names = more.names; rest = more.rest }
same_item (Named m) Nameless ms [] xs ys a b e = absurd b
same_item (Named m) Nameless ms (n ∷ ns) xs ys a b e = begins_a_name (written m) (names_text ms ++ tail_text xs) _ 77 (word-written m a.0) open_no_letter (sym (append_assoc (written m) (names_text ms) (tail_text xs)) ∙ e)
same_item (Named m) Starred ms [] xs ys a b e = absurd b
same_item (Named m) Starred ms (n ∷ ns) xs ys a b e = begins_a_name (written m) (names_text ms ++ tail_text xs) _ 92 (word-written m a.0) star_no_letter (sym (append_assoc (written m) (names_text ms) (tail_text xs)) ∙ e)
same_item Nameless k [] ns xs ys a b e = absurd a
same_item Nameless (Named n) (m ∷ ms) ns xs ys a b e = begins_a_name (written n) (names_text ns ++ tail_text ys) _ 77 (word-written n b.0) open_no_letter (sym (append_assoc (written n) (names_text ns) (tail_text ys)) ∙ sym e)
same_item Nameless Nameless (m ∷ ms) [] xs ys a b e = absurd b
same_item Nameless Nameless (m ∷ ms) (n ∷ ns) xs ys a b e = let more = same_lists m ms n ns (tail_text xs) (tail_text ys) a b e in record { head = refl; names = more.names; rest = more.rest }
same_item Nameless Starred (m ∷ ms) [] xs ys a b e = absurd b
same_item Nameless Starred (m ∷ ms) (n ∷ ns) xs ys a b e = clash 77 92 _ _ refl e
same_item Starred k [] ns xs ys a b e = absurd a
same_item Starred (Named n) (m ∷ ms) ns xs ys a b e = begins_a_name (written n) (names_text ns ++ tail_text ys) _ 92 (word-written n b.0) star_no_letter (sym (append_assoc (written n) (names_text ns) (tail_text ys)) ∙ sym e)
same_item Starred Nameless (m ∷ ms) [] xs ys a b e = absurd b
same_item Starred Nameless (m ∷ ms) (n ∷ ns) xs ys a b e = clash 92 77 _ _ refl e
same_item Starred Starred (m ∷ ms) [] xs ys a b e = absurd b
same_item Starred Starred (m ∷ ms) (n ∷ ns) xs ys a b e = let more = same_lists m ms n ns (tail_text xs) (tail_text ys) a b (rest_of 92 92 _ _ e) in record { head = refl; names = more.names; rest = more.rest }

item_parts : (x y : Item) (xs ys : List Item) → SameItem x.head y.head x.names y.names xs ys → x ≡ y
item_parts x y xs ys s = ap (λ (h : Head). item_with h x.names) s.head ∙ ap (λ (ns : List Name). item_with y.head ns) s.names

same_tail : (xs ys : List Item) → AreItems xs → AreItems ys → tail_text xs ≡ tail_text ys → xs ≡ ys
same_tail [] [] a b e = refl
same_tail [] (y ∷ ys) a b e = absurd cc
same_tail (x ∷ xs) [] a b e = absurd cc
same_tail (x ∷ xs) (y ∷ ys) a b e =
    let one = same_item x.head y.head x.names y.names xs ys a.0 b.0 (rest_of 107 107 _ _ e) in
    let more = same_tail xs ys a.1 b.1 one.rest in
    let first = item_parts x y xs ys one in
    cc (first, more)

pub same_items : (x y : Item) (xs ys : List Item) → AreItems (x ∷ xs) → AreItems (y ∷ ys) → joined item_text (x ∷ xs) ≡ joined item_text (y ∷ ys) → x ∷ xs ≡ y ∷ ys
same_items x y xs ys a b e =
    let one = same_item x.head y.head x.names y.names xs ys a.0 b.0 e in
    let more = same_tail xs ys a.1 b.1 one.rest in
    let first = item_parts x y xs ys one in
    cc (first, more)

-- ---- statements

map_items : {X : Type 0} (item : X → Item) (P : X → Type 0) → ((x : X) → P x → IsItem (item x).head (item x).names) → (xs : List X) → AllByRecursion P xs → AreItems (map item xs)
map_items item P each [] h = tt
map_items item P each (x ∷ xs) h = (each x h.0, map_items item P each xs h.1)

list_items : {X : Type 0} (item : X → Item) (P : X → Type 0) → ((x : X) → P x → IsItem (item x).head (item x).names) → (xs : List X) → IsList P xs → AreItems (map item xs)
list_items item P each [] h = absurd h
list_items item P each (x ∷ xs) h = (each x h.0, map_items item P each xs h.1)

library_is_item : (x : LibraryItem) → IsLibraryItem x → IsItem (library_item x).head (library_item x).names
library_is_item (library.From dd []) h = absurd h.1
library_is_item (library.From dd (n ∷ ns)) h = (h.0, h.1)
library_is_item (library.NoCall []) h = absurd h
library_is_item (library.NoCall (n ∷ ns)) h = h
library_is_item (library.NeverCall []) h = absurd h
library_is_item (library.NeverCall (n ∷ ns)) h = h

replace_is_item : (n : Name) (o : Option Name) → IsReplaceItem (n, o) → IsItem (replace_item (n, o)).head (replace_item (n, o)).names
replace_is_item n None h = (h.0, tt)
replace_is_item n (Some m) h = (h.0, (h.1, tt))

marked_is_item : (word n : Name) (b : Bool) → IsWritable word → IsWritable n → IsItem (marked_item word (n, b)).head (marked_item word (n, b)).names
marked_is_item word n true w h = (h, (w, tt))
marked_is_item word n false w h = (h, tt)

replace_writable : IsWritable replace_word
unfolding IsWritable written
replace_writable = refl

region_writable : IsWritable region_word
unfolding IsWritable written
region_writable = refl

pub are_items : (s : Statement) → IsWellFormed s → AreItems (items_of s)
are_items (statement.Include xs) h = list_items include_item IsIncludeItem (λ x g. g) xs h
are_items (statement.Library xs) h = list_items library_item IsLibraryItem library_is_item xs h
are_items (statement.Replace xs) h = list_items replace_item IsReplaceItem (λ x. replace_is_item x.0 x.1) xs h
are_items (statement.Change xs) h = list_items change_item IsChangeItem (λ x g. (g.0, (g.1, tt))) xs h
are_items (statement.Entry n) h = ((h, tt), tt)
are_items (statement.Alias ns) h = list_items name_item IsWritable (λ x g. (g, tt)) ns h
are_items (statement.NameOf n b) h = (marked_is_item replace_word n b replace_writable h, tt)
are_items (statement.Insert ns) h = list_items name_item IsWritable (λ x g. (g, tt)) ns h
are_items (statement.Overlay n b) h = (marked_is_item region_word n b region_writable h, tt)

not_empty_list : {X : Type 0} (P : X → Type 0) (xs : List X) (item : X → Item) → IsList P xs → map item xs ≡ [] → ⊥
not_empty_list P [] item h e = absurd h
not_empty_list P (x ∷ xs) item h e = absurd cc

pub some_items : (s : Statement) → IsWellFormed s → items_of s ≡ [] → ⊥
some_items (statement.Include xs) h e = not_empty_list IsIncludeItem xs include_item h e
some_items (statement.Library xs) h e = not_empty_list IsLibraryItem xs library_item h e
some_items (statement.Replace xs) h e = not_empty_list IsReplaceItem xs replace_item h e
some_items (statement.Change xs) h e = not_empty_list IsChangeItem xs change_item h e
some_items (statement.Entry n) h e = absurd cc
some_items (statement.Alias ns) h e = not_empty_list IsWritable ns name_item h e
some_items (statement.NameOf n b) h e = absurd cc
some_items (statement.Insert ns) h e = not_empty_list IsWritable ns name_item h e
some_items (statement.Overlay n b) h e = absurd cc

of_items : (xs ys : List Item) → (xs ≡ [] → ⊥) → (ys ≡ [] → ⊥) → AreItems xs → AreItems ys → joined item_text xs ≡ joined item_text ys → xs ≡ ys
of_items [] ys a b g h e = absurd (a refl)
of_items (x ∷ xs) [] a b g h e = absurd (b refl)
of_items (x ∷ xs) (y ∷ ys) a b g h e = same_items x y xs ys g h e

first_item : (x y : Item) (xs ys : List Item) → x ∷ xs ≡ y ∷ ys → x ≡ y
first_item x y xs ys e = cc

other_items : (x y : Item) (xs ys : List Item) → x ∷ xs ≡ y ∷ ys → xs ≡ ys
other_items x y xs ys e = cc

map_same : {X : Type 0} (item : X → Item) → ((x y : X) → item x ≡ item y → x ≡ y) → (xs ys : List X) → map item xs ≡ map item ys → xs ≡ ys
map_same item each [] [] e = refl
map_same item each [] (y ∷ ys) e = absurd cc
map_same item each (x ∷ xs) [] e = absurd cc
map_same item each (x ∷ xs) (y ∷ ys) e =
    let a = each x y (first_item (item x) (item y) (map item xs) (map item ys) e) in
    let b = map_same item each xs ys (other_items (item x) (item y) (map item xs) (map item ys) e) in
    cc (a, b)

names_same : (i j : Item) → i ≡ j → i.names ≡ j.names
names_same i j e = ap (λ (k : Item). k.names) e

head_name : (m n : Name) → Named m ≡ Named n → m ≡ n
head_name m n e = cc

named_same : (m n : Name) (ms ns : List Name) → item_with (Named m) ms ≡ item_with (Named n) ns → m ≡ n
named_same m n ms ns e = head_name m n (ap (λ (k : Item). k.head) e)

abbrev include_of : Name → List Name → IncludeItem
include_of dd ms = record { dd = dd; members = ms }

same_include : (x y : IncludeItem) → include_item x ≡ include_item y → x ≡ y
same_include x y e =
    ap (λ (n : Name). include_of n x.members) (named_same x.dd y.dd x.members y.members e) ∙ ap (λ (ms : List Name). include_of y.dd ms) (names_same (include_item x) (include_item y) e)

heads_differ : {A : Type 0} (i j : Item) (f : Head → Bool) → f i.head ≡ true → f j.head ≡ false → i ≡ j → A
heads_differ i j f a b e = absurd (true≢false (sym a ∙ ap (λ (k : Item). f k.head) e ∙ b))

abbrev is_named : Head → Bool
is_named (Named n) = true
is_named Nameless = false
is_named Starred = false

abbrev is_nameless : Head → Bool
is_nameless Nameless = true
is_nameless (Named n) = false
is_nameless Starred = false

same_library : (x y : LibraryItem) → library_item x ≡ library_item y → x ≡ y
same_library (library.From m ms) (library.From n ns) e =
    let a = named_same m n ms ns e in let b : ms ≡ ns = names_same (item_with (Named m) ms) (item_with (Named n) ns) e in cc (a, b)
same_library (library.From m ms) (library.NoCall ns) e = heads_differ (item_with (Named m) ms) (item_with Nameless ns) is_named refl refl e
same_library (library.From m ms) (library.NeverCall ns) e = heads_differ (item_with (Named m) ms) (item_with Starred ns) is_named refl refl e
same_library (library.NoCall ms) (library.From n ns) e = heads_differ (item_with (Named n) ns) (item_with Nameless ms) is_named refl refl (sym e)
same_library (library.NoCall ms) (library.NoCall ns) e = let b : ms ≡ ns = names_same (item_with Nameless ms) (item_with Nameless ns) e in cc b
same_library (library.NoCall ms) (library.NeverCall ns) e = heads_differ (item_with Nameless ms) (item_with Starred ns) is_nameless refl refl e
same_library (library.NeverCall ms) (library.From n ns) e = heads_differ (item_with (Named n) ns) (item_with Starred ms) is_named refl refl (sym e)
same_library (library.NeverCall ms) (library.NoCall ns) e = heads_differ (item_with Nameless ns) (item_with Starred ms) is_nameless refl refl (sym e)
same_library (library.NeverCall ms) (library.NeverCall ns) e = let b : ms ≡ ns = names_same (item_with Starred ms) (item_with Starred ns) e in cc b

one_name_same : (m n : Name) → m ∷ [] ≡ n ∷ [] → m ≡ n
one_name_same m n e = cc

abbrev some_name : Name → Option Name
some_name x = Some x

option_same : (a b : Option Name) → option_to_list a ≡ option_to_list b → a ≡ b
option_same None None e = refl
option_same None (Some n) e = absurd cc
option_same (Some m) None e = absurd cc
option_same (Some m) (Some n) e = ap (λ (x : Name). some_name x) (one_name_same m n e)

same_replace : (x y : Name × Option Name) → replace_item x ≡ replace_item y → x ≡ y
same_replace x y e =
    let a : x.0 ≡ y.0 = named_same x.0 y.0 _ _ e in
    let b : x.1 ≡ y.1 = option_same x.1 y.1 (names_same (replace_item x) (replace_item y) e) in
    pair_same x y a b

same_change : (x y : Name × Name) → change_item x ≡ change_item y → x ≡ y
same_change x y e =
    let a : x.0 ≡ y.0 = named_same x.0 y.0 _ _ e in
    let b : x.1 ≡ y.1 = one_name_same x.1 y.1 (names_same (change_item x) (change_item y) e) in
    pair_same x y a b

same_name_item : (m n : Name) → name_item m ≡ name_item n → m ≡ n
same_name_item m n e = named_same m n [] [] e

flag_same : (word : Name) (a b : Bool) → cond a (word ∷ []) [] ≡ cond b (word ∷ []) [] → a ≡ b
flag_same word true true e = refl
flag_same word true false e = absurd cc
flag_same word false true e = absurd cc
flag_same word false false e = refl

same_marked : (word m n : Name) (a b : Bool) → marked_item word (m, a) ∷ [] ≡ marked_item word (n, b) ∷ [] → (m ≡ n) × (a ≡ b)
same_marked word m n a b e =
    let d = first_item (marked_item word (m, a)) (marked_item word (n, b)) [] [] e in
    (named_same m n _ _ d, flag_same word a b (names_same (marked_item word (m, a)) (marked_item word (n, b)) d))

-- items tell the statement of an operation
pub of_operation : (s t : Statement) → operation_of s ≡ operation_of t → items_of s ≡ items_of t → s ≡ t
of_operation (statement.Include xs) (statement.Include xs2) o e = let d = map_same include_item same_include xs xs2 e in cc d
of_operation (statement.Include xs) (statement.Library xs2) o e = absurd cc
of_operation (statement.Include xs) (statement.Replace xs2) o e = absurd cc
of_operation (statement.Include xs) (statement.Change xs2) o e = absurd cc
of_operation (statement.Include xs) (statement.Entry n2) o e = absurd cc
of_operation (statement.Include xs) (statement.Alias xs2) o e = absurd cc
of_operation (statement.Include xs) (statement.NameOf n2 b2) o e = absurd cc
of_operation (statement.Include xs) (statement.Insert xs2) o e = absurd cc
of_operation (statement.Include xs) (statement.Overlay n2 b2) o e = absurd cc
of_operation (statement.Library xs) (statement.Include xs2) o e = absurd cc
of_operation (statement.Library xs) (statement.Library xs2) o e = let d = map_same library_item same_library xs xs2 e in cc d
of_operation (statement.Library xs) (statement.Replace xs2) o e = absurd cc
of_operation (statement.Library xs) (statement.Change xs2) o e = absurd cc
of_operation (statement.Library xs) (statement.Entry n2) o e = absurd cc
of_operation (statement.Library xs) (statement.Alias xs2) o e = absurd cc
of_operation (statement.Library xs) (statement.NameOf n2 b2) o e = absurd cc
of_operation (statement.Library xs) (statement.Insert xs2) o e = absurd cc
of_operation (statement.Library xs) (statement.Overlay n2 b2) o e = absurd cc
of_operation (statement.Replace xs) (statement.Include xs2) o e = absurd cc
of_operation (statement.Replace xs) (statement.Library xs2) o e = absurd cc
of_operation (statement.Replace xs) (statement.Replace xs2) o e = let d = map_same replace_item same_replace xs xs2 e in cc d
of_operation (statement.Replace xs) (statement.Change xs2) o e = absurd cc
of_operation (statement.Replace xs) (statement.Entry n2) o e = absurd cc
of_operation (statement.Replace xs) (statement.Alias xs2) o e = absurd cc
of_operation (statement.Replace xs) (statement.NameOf n2 b2) o e = absurd cc
of_operation (statement.Replace xs) (statement.Insert xs2) o e = absurd cc
of_operation (statement.Replace xs) (statement.Overlay n2 b2) o e = absurd cc
of_operation (statement.Change xs) (statement.Include xs2) o e = absurd cc
of_operation (statement.Change xs) (statement.Library xs2) o e = absurd cc
of_operation (statement.Change xs) (statement.Replace xs2) o e = absurd cc
of_operation (statement.Change xs) (statement.Change xs2) o e = let d = map_same change_item same_change xs xs2 e in cc d
of_operation (statement.Change xs) (statement.Entry n2) o e = absurd cc
of_operation (statement.Change xs) (statement.Alias xs2) o e = absurd cc
of_operation (statement.Change xs) (statement.NameOf n2 b2) o e = absurd cc
of_operation (statement.Change xs) (statement.Insert xs2) o e = absurd cc
of_operation (statement.Change xs) (statement.Overlay n2 b2) o e = absurd cc
of_operation (statement.Entry n) (statement.Include xs2) o e = absurd cc
of_operation (statement.Entry n) (statement.Library xs2) o e = absurd cc
of_operation (statement.Entry n) (statement.Replace xs2) o e = absurd cc
of_operation (statement.Entry n) (statement.Change xs2) o e = absurd cc
of_operation (statement.Entry n) (statement.Entry n2) o e = let d = same_name_item n n2 (first_item (name_item n) (name_item n2) [] [] e) in cc d
of_operation (statement.Entry n) (statement.Alias xs2) o e = absurd cc
of_operation (statement.Entry n) (statement.NameOf n2 b2) o e = absurd cc
of_operation (statement.Entry n) (statement.Insert xs2) o e = absurd cc
of_operation (statement.Entry n) (statement.Overlay n2 b2) o e = absurd cc
of_operation (statement.Alias xs) (statement.Include xs2) o e = absurd cc
of_operation (statement.Alias xs) (statement.Library xs2) o e = absurd cc
of_operation (statement.Alias xs) (statement.Replace xs2) o e = absurd cc
of_operation (statement.Alias xs) (statement.Change xs2) o e = absurd cc
of_operation (statement.Alias xs) (statement.Entry n2) o e = absurd cc
of_operation (statement.Alias xs) (statement.Alias xs2) o e = let d = map_same name_item same_name_item xs xs2 e in cc d
of_operation (statement.Alias xs) (statement.NameOf n2 b2) o e = absurd cc
of_operation (statement.Alias xs) (statement.Insert xs2) o e = absurd cc
of_operation (statement.Alias xs) (statement.Overlay n2 b2) o e = absurd cc
of_operation (statement.NameOf n b) (statement.Include xs2) o e = absurd cc
of_operation (statement.NameOf n b) (statement.Library xs2) o e = absurd cc
of_operation (statement.NameOf n b) (statement.Replace xs2) o e = absurd cc
of_operation (statement.NameOf n b) (statement.Change xs2) o e = absurd cc
of_operation (statement.NameOf n b) (statement.Entry n2) o e = absurd cc
of_operation (statement.NameOf n b) (statement.Alias xs2) o e = absurd cc
of_operation (statement.NameOf n b) (statement.NameOf n2 b2) o e = let d = same_marked replace_word n n2 b b2 e in cc (d.0, d.1)
of_operation (statement.NameOf n b) (statement.Insert xs2) o e = absurd cc
of_operation (statement.NameOf n b) (statement.Overlay n2 b2) o e = absurd cc
of_operation (statement.Insert xs) (statement.Include xs2) o e = absurd cc
of_operation (statement.Insert xs) (statement.Library xs2) o e = absurd cc
of_operation (statement.Insert xs) (statement.Replace xs2) o e = absurd cc
of_operation (statement.Insert xs) (statement.Change xs2) o e = absurd cc
of_operation (statement.Insert xs) (statement.Entry n2) o e = absurd cc
of_operation (statement.Insert xs) (statement.Alias xs2) o e = absurd cc
of_operation (statement.Insert xs) (statement.NameOf n2 b2) o e = absurd cc
of_operation (statement.Insert xs) (statement.Insert xs2) o e = let d = map_same name_item same_name_item xs xs2 e in cc d
of_operation (statement.Insert xs) (statement.Overlay n2 b2) o e = absurd cc
of_operation (statement.Overlay n b) (statement.Include xs2) o e = absurd cc
of_operation (statement.Overlay n b) (statement.Library xs2) o e = absurd cc
of_operation (statement.Overlay n b) (statement.Replace xs2) o e = absurd cc
of_operation (statement.Overlay n b) (statement.Change xs2) o e = absurd cc
of_operation (statement.Overlay n b) (statement.Entry n2) o e = absurd cc
of_operation (statement.Overlay n b) (statement.Alias xs2) o e = absurd cc
of_operation (statement.Overlay n b) (statement.NameOf n2 b2) o e = absurd cc
of_operation (statement.Overlay n b) (statement.Insert xs2) o e = absurd cc
of_operation (statement.Overlay n b) (statement.Overlay n2 b2) o e = let d = same_marked region_word n n2 b b2 e in cc (d.0, d.1)

pub one_statement : (operation operand : List ℕ) (s t : Statement) → Spells operation operand s → Spells operation operand t → s ≡ t
one_statement operation operand s t g h =
    let o = text_injective (operation_of s) (operation_of t) (g.has_operation ∙ sym h.has_operation) in
    let e = of_items (items_of s) (items_of t) (some_items s g.formed) (some_items t h.formed) (are_items s g.formed) (are_items t h.formed) (g.has_operand ∙ sym h.has_operand) in
    of_operation s t o e

-- cards that spell a statement have no fault
no_fault : (cards : List (List ℕ)) (e : StmtFault) (s : Statement) (n : ℕ) → HasFault cards e → IsStatement cards s n → e ≡ fault.Memory
no_fault cards fault.TooMany s n (inl h) g = absurd (let a = h.0 in let b = g.whole.1 in omega arith)
no_fault cards fault.TooMany s n (inr h) g =
    let same = one_statement _ _ s h.1.0 g.spells h.1.1 in
    absurd (h.1.2 (subst HasFewAliases same g.few_aliases))
no_fault cards (fault.NoContinuation k) s n h g = absurd (let a = h.0 in let b = h.1 in let c = g.whole.0 in omega arith)
no_fault cards fault.UnknownOperation s n h g = absurd (h.1 (s, g.spells.has_operation))
no_fault cards (fault.BadOperand p) s n h g = absurd (h.2.not_valid s g.spells)
no_fault cards fault.Memory s n h g = refl

pub again : (cards : List (List ℕ)) (r : Result (Statement × ℕ) StmtFault) → IfOk r (λ x. IsStatement cards x.0 x.1) → IfErr r (HasFault cards) → (s : Statement) (n : ℕ) → IsStatement cards s n → AnswersUnlessMemory r s n
again cards (Ok x) a b s n h =
    let same = one_statement _ _ x.0 s a.spells h.spells in
    let count : x.1 ≡ n = a.taken ∙ sym h.taken in
    pair_same x (s, n) same count
again cards (Err e) a b s n h = no_fault cards e s n b h
