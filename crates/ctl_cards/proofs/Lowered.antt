-- Between statements and the items of their operands.
use Rattle.std.proofs.Common.{◌≡◌, ◌≢◌, ℕ, Bool, true, false, cond, List, [], ◌∷◌, ◌++◌, map, Option, Some, None, refl, sym, ap, subst, ◌∙◌, arith}
use Rattle.std.specs.Option.{option_to_list}
use Rattle.std.specs.List.{AllByRecursion}
use Rattle.le_bytes.specs.declared.name.Name.{Name}
use Rattle.ctl_cards.specs.NameTexts.{begins_name, stands_in_name, written, IsWritable}
use Rattle.ctl_cards.specs.Statements.{Item, Head, Nameless, Starred, Named, joined, item_text, IsList, IsWellFormed, items_of, operand_of, include_item, library_item, replace_item, change_item, name_item, marked_item, replace_word, region_word, IsIncludeItem, IsLibraryItem, IsReplaceItem, IsChangeItem}
use Rattle.ctl_cards.specs.Operations.{operation_of}
use Rattle.ctl_cards.specs.Walk.{Form, Within, SeveralNames, OneName, ThisWord, takes_names, form_of, include_form, library_form, replace_form, change_form, name_form, word_form}
use Rattle.ctl_cards.specs.Reads.{IsStatementOf}
use Rattle.ctl_cards.specs.declared.operation.Operation.{Operation}
use Rattle.ctl_cards.specs.declared.operation.Operation.TheVariants.{Include, Library, Replace, Change, Entry, Alias, NameOf, Insert, Overlay}
use Rattle.ctl_cards.specs.declared.statement.IncludeItem.{IncludeItem}
use Rattle.ctl_cards.specs.declared.statement.LibraryItem.{LibraryItem}
use Rattle.ctl_cards.specs.declared.statement.LibraryItem.TheVariants as library
use Rattle.ctl_cards.specs.declared.statement.Statement.{Statement}
use Rattle.ctl_cards.specs.declared.statement.Statement.TheVariants as statement
use Rattle.ctl_cards.proofs.NameLaws.{IsWord}
use Rattle.ctl_cards.proofs.Items.{FitsItem, FitsItems, FitsTail, FitsNames, IsSound}

-- ---- a well-formed statement's items fit the form of its operation

tail_fits : {X : Type 0} (f : Form) (item : X → Item) (P : X → Type 0) → f.many ≡ true → ((x : X) → P x → FitsItem f (item x)) → (xs : List X) → AllByRecursion P xs → FitsTail f (map item xs)
tail_fits f item P m each [] h = tt
tail_fits f item P m each (x ∷ xs) h = (m, each x h.0, tail_fits f item P m each xs h.1)

list_fits : {X : Type 0} (f : Form) (item : X → Item) (P : X → Type 0) → f.many ≡ true → ((x : X) → P x → FitsItem f (item x)) → (xs : List X) → IsList P xs → FitsItems f (map item xs)
list_fits f item P m each [] h = absurd h
list_fits f item P m each (x ∷ xs) h = (each x h.0, tail_fits f item P m each xs h.1)

members_fit : (n : Name) (ns : List Name) → IsWritable n → AllByRecursion IsWritable ns → FitsItem (include_form true) (record { head = Named n; names = ns })
members_fit n [] a b = record { head_fits = (a, refl); names_fit = tt }
members_fit n (m ∷ ms) a b = record { head_fits = (a, tt); names_fit = b }

include_fits : (x : IncludeItem) → IsIncludeItem x → FitsItem (include_form true) (include_item x)
include_fits x h = members_fit x.dd x.members h.0 h.1

library_fits : (x : LibraryItem) → IsLibraryItem x → FitsItem (library_form true) (library_item x)
library_fits (library.From dd []) h = absurd h.1
library_fits (library.From dd (n ∷ ns)) h = record { head_fits = (h.0, tt); names_fit = h.1 }
library_fits (library.NoCall []) h = absurd h
library_fits (library.NoCall (n ∷ ns)) h = record { head_fits = refl; names_fit = h }
library_fits (library.NeverCall []) h = absurd h
library_fits (library.NeverCall (n ∷ ns)) h = record { head_fits = refl; names_fit = h }

replace_fits : (n : Name) (o : Option Name) → IsReplaceItem (n, o) → FitsItem (replace_form true) (replace_item (n, o))
replace_fits n None h = record { head_fits = (h.0, refl); names_fit = tt }
replace_fits n (Some m) h = record { head_fits = (h.0, tt); names_fit = (h.1, refl) }

change_fits : (x : Name × Name) → IsChangeItem x → FitsItem (change_form true) (change_item x)
change_fits x h = record { head_fits = (h.0, tt); names_fit = (h.1, refl) }

name_fits : (many : Bool) (n : Name) → IsWritable n → FitsItem (name_form many) (name_item n)
name_fits many n h = record { head_fits = (h, refl); names_fit = tt }

marked_fits : (word n : Name) (b : Bool) → IsWritable n → FitsItem (word_form (written word) false) (marked_item word (n, b))
marked_fits word n true h = record { head_fits = (h, tt); names_fit = (refl, refl) }
marked_fits word n false h = record { head_fits = (h, refl); names_fit = tt }

-- the words of NAME and OVERLAY as they are spelled
pub replace_written : written replace_word ≡ 217 ∷ []
unfolding written
replace_written = refl

pub region_written : written region_word ≡ 217 ∷ 197 ∷ 199 ∷ 201 ∷ 214 ∷ 213 ∷ []
unfolding written
region_written = refl

pub fits : (s : Statement) → IsWellFormed s → FitsItems (form_of (operation_of s)) (items_of s)
fits (statement.Include xs) h = list_fits (include_form true) include_item IsIncludeItem refl include_fits xs h
fits (statement.Library xs) h = list_fits (library_form true) library_item IsLibraryItem refl library_fits xs h
fits (statement.Replace xs) h = list_fits (replace_form true) replace_item IsReplaceItem refl (λ x. replace_fits x.0 x.1) xs h
fits (statement.Change xs) h = list_fits (change_form true) change_item IsChangeItem refl change_fits xs h
fits (statement.Entry n) h = (name_fits false n h, tt)
fits (statement.Alias ns) h = list_fits (name_form true) name_item IsWritable refl (name_fits true) ns h
fits (statement.NameOf n b) h = (subst (λ (t : List ℕ). FitsItem (word_form t false) (marked_item replace_word (n, b))) replace_written (marked_fits replace_word n b h), tt)
fits (statement.Insert ns) h = list_fits (name_form true) name_item IsWritable refl (name_fits true) ns h
fits (statement.Overlay n b) h = (subst (λ (t : List ℕ). FitsItem (word_form t false) (marked_item region_word (n, b))) region_written (marked_fits region_word n b h), tt)

-- ---- items that fit the form of an operation are those of a statement

pub record Lifts {X : Type 0} (item : X → Item) (P : X → Type 0) (i : Item) : Type 0 where
  pub x : X
  pub holds : P x
  pub same : item x ≡ i

pub record LiftsAll {X : Type 0} (item : X → Item) (P : X → Type 0) (xs : List Item) : Type 0 where
  pub ys : List X
  pub all : AllByRecursion P ys
  pub same : map item ys ≡ xs

lifts_tail : {X : Type 0} (f : Form) (item : X → Item) (P : X → Type 0) → ((i : Item) → FitsItem f i → Lifts item P i) → (xs : List Item) → FitsTail f xs → LiftsAll item P xs
lifts_tail f item P each [] h = record { ys = []; all = tt; same = refl }
lifts_tail f item P each (x ∷ xs) h =
    let one = each x h.1 in
    let more = lifts_tail f item P each xs h.2 in
    record { ys = one.x ∷ more.ys; all = (one.holds, more.all); same = cc (one.same, more.same) }

-- a whole list, as the items of a statement
lifts_list : {X : Type 0} (op : Operation) (f : Form) (item : X → Item) (P : X → Type 0) (make : List X → Statement) → ((i : Item) → FitsItem f i → Lifts item P i) → ((ys : List X) → IsList P ys → IsWellFormed (make ys) × (operation_of (make ys) ≡ op) × (items_of (make ys) ≡ map item ys)) → (x : Item) (xs : List Item) → FitsItem f x → FitsTail f xs → (w : List ℕ) → w ≡ joined item_text (x ∷ xs) → (s : Statement) × IsStatementOf op w s
lifts_list op f item P make each made x xs h t w e =
    let one = each x h in
    let more = lifts_tail f item P each xs t in
    let m = made (one.x ∷ more.ys) (one.holds, more.all) in
    let items : items_of (make (one.x ∷ more.ys)) ≡ x ∷ xs = m.2 ∙ cc (one.same, more.same) in
    (make (one.x ∷ more.ys), record { formed = m.0; has_operation = m.1; has_operand = ap (joined item_text) items ∙ sym e })

lifts_one : {X : Type 0} (op : Operation) (item : X → Item) (P : X → Type 0) (make : X → Statement) (i : Item) → Lifts item P i → ((y : X) → P y → IsWellFormed (make y) × (operation_of (make y) ≡ op) × (items_of (make y) ≡ item y ∷ [])) → (w : List ℕ) → w ≡ joined item_text (i ∷ []) → (s : Statement) × IsStatementOf op w s
lifts_one op item P make i l made w e =
    let m = made l.x l.holds in
    (make l.x, record { formed = m.0; has_operation = m.1; has_operand = ap (joined item_text) (m.2 ∙ ap (λ (j : Item). j ∷ []) l.same) ∙ sym e })

lift_include : (h : Head) (ns : List Name) → FitsItem (include_form true) (record { head = h; names = ns }) → Lifts include_item IsIncludeItem (record { head = h; names = ns })
lift_include (Named n) [] g = record { x = record { dd = n; members = [] }; holds = (g.head_fits.0, tt); same = refl }
lift_include (Named n) (m ∷ ms) g = record { x = record { dd = n; members = m ∷ ms }; holds = (g.head_fits.0, g.names_fit); same = refl }
lift_include Nameless [] g = absurd g.head_fits
lift_include Nameless (m ∷ ms) g = let e = g.head_fits in absurd cc
lift_include Starred [] g = absurd g.head_fits
lift_include Starred (m ∷ ms) g = let e = g.head_fits in absurd cc

lift_library : (h : Head) (ns : List Name) → FitsItem (library_form true) (record { head = h; names = ns }) → Lifts library_item IsLibraryItem (record { head = h; names = ns })
lift_library (Named n) [] g = let e = g.head_fits.1 in absurd cc
lift_library (Named n) (m ∷ ms) g = record { x = library.From n (m ∷ ms); holds = (g.head_fits.0, g.names_fit); same = refl }
lift_library Nameless [] g = absurd g.head_fits
lift_library Nameless (m ∷ ms) g = record { x = library.NoCall (m ∷ ms); holds = g.names_fit; same = refl }
lift_library Starred [] g = absurd g.head_fits
lift_library Starred (m ∷ ms) g = record { x = library.NeverCall (m ∷ ms); holds = g.names_fit; same = refl }

abbrev named_with : Name → List Name → Item
named_with n ns = record { head = Named n; names = ns }

lift_replace : (h : Head) (ns : List Name) → FitsItem (replace_form true) (record { head = h; names = ns }) → Lifts replace_item IsReplaceItem (record { head = h; names = ns })
lift_replace (Named n) [] g = record { x = (n, None); holds = (g.head_fits.0, tt); same = refl }
lift_replace (Named n) (m ∷ ms) g = record { x = (n, Some m); holds = (g.head_fits.0, g.names_fit.0); same = ap (λ (t : List Name). named_with n (m ∷ t)) (sym g.names_fit.1) }
lift_replace Nameless [] g = absurd g.head_fits
lift_replace Nameless (m ∷ ms) g = let e = g.head_fits in absurd cc
lift_replace Starred [] g = absurd g.head_fits
lift_replace Starred (m ∷ ms) g = let e = g.head_fits in absurd cc

lift_change : (h : Head) (ns : List Name) → FitsItem (change_form true) (record { head = h; names = ns }) → Lifts change_item IsChangeItem (record { head = h; names = ns })
lift_change (Named n) [] g = let e = g.head_fits.1 in absurd cc
lift_change (Named n) (m ∷ ms) g = record { x = (n, m); holds = (g.head_fits.0, g.names_fit.0); same = ap (λ (t : List Name). named_with n (m ∷ t)) (sym g.names_fit.1) }
lift_change Nameless [] g = absurd g.head_fits
lift_change Nameless (m ∷ ms) g = let e = g.head_fits in absurd cc
lift_change Starred [] g = absurd g.head_fits
lift_change Starred (m ∷ ms) g = let e = g.head_fits in absurd cc

lift_name : (many : Bool) (h : Head) (ns : List Name) → FitsItem (name_form many) (record { head = h; names = ns }) → Lifts name_item IsWritable (record { head = h; names = ns })
lift_name many (Named n) [] g = record { x = n; holds = g.head_fits.0; same = refl }
lift_name many (Named n) (m ∷ ms) g = absurd g.names_fit
lift_name many Nameless [] g = absurd g.head_fits
lift_name many Nameless (m ∷ ms) g = let e = g.head_fits in absurd cc
lift_name many Starred [] g = absurd g.head_fits
lift_name many Starred (m ∷ ms) g = let e = g.head_fits in absurd cc

-- a name and the word in parentheses: its text is the same, whatever name spells the word
pub record LiftsText (word : Name) (i : Item) : Type 0 where
  pub n : Name
  pub b : Bool
  pub writable : IsWritable n
  pub same : item_text (marked_item word (n, b)) ≡ item_text i

word_text : (word n m : Name) (ms : List Name) → written m ≡ written word → ms ≡ [] → item_text (named_with n (word ∷ [])) ≡ item_text (named_with n (m ∷ ms))
word_text word n m ms e d =
    ap (λ (t : List ℕ). written n ++ (77 ∷ ((t ++ []) ++ (93 ∷ [])))) (sym e) ∙ ap (λ (ks : List Name). item_text (named_with n (m ∷ ks))) (sym d)

lift_marked : (word : Name) (h : Head) (ns : List Name) → FitsItem (word_form (written word) false) (record { head = h; names = ns }) → LiftsText word (record { head = h; names = ns })
lift_marked word (Named n) [] g = record { n = n; b = false; writable = g.head_fits.0; same = refl }
lift_marked word (Named n) (m ∷ ms) g = record { n = n; b = true; writable = g.head_fits.0; same = word_text word n m ms g.names_fit.0 g.names_fit.1 }
lift_marked word Nameless [] g = absurd g.head_fits
lift_marked word Nameless (m ∷ ms) g = let e = g.head_fits in absurd cc
lift_marked word Starred [] g = absurd g.head_fits
lift_marked word Starred (m ∷ ms) g = let e = g.head_fits in absurd cc

one_text : (i j : Item) → item_text i ≡ item_text j → joined item_text (i ∷ []) ≡ joined item_text (j ∷ [])
one_text i j e = ap (λ (t : List ℕ). t ++ []) e

pub lifted : (op : Operation) (x : Item) (xs : List Item) → FitsItem (form_of op) x → FitsTail (form_of op) xs → (w : List ℕ) → w ≡ joined item_text (x ∷ xs) → (s : Statement) × IsStatementOf op w s
lifted Include x xs h t w e = lifts_list Include (include_form true) include_item IsIncludeItem (λ ys. statement.Include ys) (λ i. lift_include i.head i.names) (λ ys g. (g, refl, refl)) x xs h t w e
lifted Library x xs h t w e = lifts_list Library (library_form true) library_item IsLibraryItem (λ ys. statement.Library ys) (λ i. lift_library i.head i.names) (λ ys g. (g, refl, refl)) x xs h t w e
lifted Replace x xs h t w e = lifts_list Replace (replace_form true) replace_item IsReplaceItem (λ ys. statement.Replace ys) (λ i. lift_replace i.head i.names) (λ ys g. (g, refl, refl)) x xs h t w e
lifted Change x xs h t w e = lifts_list Change (change_form true) change_item IsChangeItem (λ ys. statement.Change ys) (λ i. lift_change i.head i.names) (λ ys g. (g, refl, refl)) x xs h t w e
lifted Entry x [] h t w e = lifts_one Entry name_item IsWritable (λ y. statement.Entry y) x (lift_name false x.head x.names h) (λ y g. (g, refl, refl)) w e
lifted Entry x (y ∷ xs) h t w e = let m = t.0 in absurd cc
lifted Alias x xs h t w e = lifts_list Alias (name_form true) name_item IsWritable (λ ys. statement.Alias ys) (λ i. lift_name true i.head i.names) (λ ys g. (g, refl, refl)) x xs h t w e
lifted NameOf x [] h t w e =
    let l = lift_marked replace_word x.head x.names (subst (λ (t : List ℕ). FitsItem (word_form t false) x) (sym replace_written) h) in
    (statement.NameOf l.n l.b, record { formed = l.writable; has_operation = refl; has_operand = one_text (marked_item replace_word (l.n, l.b)) x l.same ∙ sym e })
lifted NameOf x (y ∷ xs) h t w e = let m = t.0 in absurd cc
lifted Insert x xs h t w e = lifts_list Insert (name_form true) name_item IsWritable (λ ys. statement.Insert ys) (λ i. lift_name true i.head i.names) (λ ys g. (g, refl, refl)) x xs h t w e
lifted Overlay x [] h t w e =
    let l = lift_marked region_word x.head x.names (subst (λ (t : List ℕ). FitsItem (word_form t false) x) (sym region_written) h) in
    (statement.Overlay l.n l.b, record { formed = l.writable; has_operation = refl; has_operand = one_text (marked_item region_word (l.n, l.b)) x l.same ∙ sym e })
lifted Overlay x (y ∷ xs) h t w e = let m = t.0 in absurd cc

-- ---- the forms are sound

replace_is_word : IsWord (217 ∷ [])
unfolding begins_name
replace_is_word = (refl, refl, omega arith)

region_is_word : IsWord (217 ∷ 197 ∷ 199 ∷ 201 ∷ 214 ∷ 213 ∷ [])
unfolding begins_name stands_in_name
region_is_word = (refl, refl, omega arith)

same_word : (s t : List ℕ) → ThisWord s ≡ ThisWord t → IsWord s → IsWord t
same_word s t e h = let d : s ≡ t = cc in subst IsWord d h

pub sound : (op : Operation) → IsSound (form_of op)
sound Include = record { if_not_bare = λ e. absurd cc; if_nameless = λ e. refl; if_word = λ t e. absurd cc }
sound Library = record { if_not_bare = λ e. refl; if_nameless = λ e. refl; if_word = λ t e. absurd cc }
sound Replace = record { if_not_bare = λ e. absurd cc; if_nameless = λ e. absurd cc; if_word = λ t e. absurd cc }
sound Change = record { if_not_bare = λ e. refl; if_nameless = λ e. absurd cc; if_word = λ t e. absurd cc }
sound Entry = record { if_not_bare = λ e. absurd cc; if_nameless = λ e. absurd cc; if_word = λ t e. absurd cc }
sound Alias = record { if_not_bare = λ e. absurd cc; if_nameless = λ e. absurd cc; if_word = λ t e. absurd cc }
sound NameOf = record { if_not_bare = λ e. absurd cc; if_nameless = λ e. absurd cc; if_word = λ t e. same_word (217 ∷ []) t e replace_is_word }
sound Insert = record { if_not_bare = λ e. absurd cc; if_nameless = λ e. absurd cc; if_word = λ t e. absurd cc }
sound Overlay = record { if_not_bare = λ e. absurd cc; if_nameless = λ e. absurd cc; if_word = λ t e. same_word (217 ∷ 197 ∷ 199 ∷ 201 ∷ 214 ∷ 213 ∷ []) t e region_is_word }
