-- Statements and faults are those that the function of cards gives.
use Rattle.std.proofs.Common.{◌≡◌, ℕ, ◌+◌, ◌-◌, ◌<◌, ◌≤◌, true, false, List, [], ◌∷◌, length, map, Option, Some, None, Result, Ok, Err, inl, inr, arith, refl, sym, ap, subst, ◌∙◌}
use Rattle.std.specs.Prelude.{IfOk, IfErr}
use Rattle.std.proofs.lemmas.Bool.{cases_Bool, cases_lt, lt-ltb, le-ltb}
use Rattle.le_bytes.specs.declared.name.Name.{Name}
use Rattle.ctl_cards.specs.Cards.{continued_count, first_unfit, joined_operand, operation_of_cards, IsWhole}
use Rattle.ctl_cards.specs.Statements.{Item, joined, item_text, IsWellFormed, items_of, operand_of, include_item, library_item, replace_item, change_item, name_item, HasFewAliases}
use Rattle.ctl_cards.specs.Operations.{operation_of, operation_text, operation_named}
use Rattle.ctl_cards.specs.Walk.{Form, Point, AtItem, AfterStar, InHead, AtName, InName, InWord, AfterItem, form_of, next_point, may_end, stop_of}
use Rattle.ctl_cards.specs.Grammar.{Spells, IsStatement, HasFault, IsBadAt, IsKnown}
use Rattle.ctl_cards.specs.Reads.{IsStatementOf}
use Rattle.ctl_cards.specs.Meaning.{items_in, statement_with, include_of, library_of, replace_of, change_of, name_of, cards_taken, unless_many, unless_stopped, with_operation, of_cards, statement_of, IsDue}
use Rattle.ctl_cards.specs.declared.operation.Operation.{Operation}
use Rattle.ctl_cards.specs.declared.statement.LibraryItem.{LibraryItem}
use Rattle.ctl_cards.specs.declared.statement.LibraryItem.TheVariants as library
use Rattle.ctl_cards.specs.declared.statement.Statement.{Statement}
use Rattle.ctl_cards.specs.declared.statement.Statement.TheVariants as statement
use Rattle.ctl_cards.specs.declared.statement.StmtFault.{StmtFault}
use Rattle.ctl_cards.specs.declared.statement.StmtFault.TheVariants as fault
use Rattle.ctl_cards.proofs.CardLaws.{whole_short}
use Rattle.ctl_cards.proofs.Faults.{named_text, text_of_named, valid, bad_place, known}
use Rattle.ctl_cards.proofs.Items.{Goes, GoesItem, FitsPoint, IsSound}
use Rattle.ctl_cards.proofs.Lowered.{lifted, sound}
use Rattle.ctl_cards.proofs.Places.{onward}
use Rattle.ctl_cards.proofs.TakenApart.{taken_apart}
use Rattle.ctl_cards.proofs.Unique.{are_items, some_items, AreItems}
use Rattle.ctl_cards.proofs.WalkLaws.{step}

-- ---- a statement from its items

inverse : {X Y : Type 0} (f : X → Y) (g : Y → X) → ((x : X) → g (f x) ≡ x) → (xs : List X) → map g (map f xs) ≡ xs
inverse f g each [] = refl
inverse f g each (x ∷ xs) = rw (each x, inverse f g each xs) refl

library_back : (x : LibraryItem) → library_of (library_item x) ≡ x
library_back (library.From dd ns) = refl
library_back (library.NoCall ns) = refl
library_back (library.NeverCall ns) = refl

replaced : Name → Option Name → Name × Option Name
replaced n o = (n, o)

replace_parts : (n : Name) (o : Option Name) → replace_of (replace_item (replaced n o)) ≡ replaced n o
unfolding replaced
replace_parts n None = refl
replace_parts n (Some m) = refl

replace_back : (x : Name × Option Name) → replace_of (replace_item x) ≡ x
unfolding replaced
replace_back x = replace_parts x.0 x.1

pub of_items : (s : Statement) → statement_with (operation_of s) (items_of s) ≡ s
of_items (statement.Include xs) = ap (λ ys. statement.Include ys) (inverse include_item include_of (λ x. refl) xs)
of_items (statement.Library xs) = ap (λ ys. statement.Library ys) (inverse library_item library_of library_back xs)
of_items (statement.Replace xs) = ap (λ ys. statement.Replace ys) (inverse replace_item replace_of replace_back xs)
of_items (statement.Change xs) = ap (λ ys. statement.Change ys) (inverse change_item change_of (λ x. refl) xs)
of_items (statement.Entry n) = refl
of_items (statement.Alias ns) = ap (λ ys. statement.Alias ys) (inverse name_item name_of (λ x. refl) ns)
of_items (statement.NameOf n true) = refl
of_items (statement.NameOf n false) = refl
of_items (statement.Insert ns) = ap (λ ys. statement.Insert ys) (inverse name_item name_of (λ x. refl) ns)
of_items (statement.Overlay n true) = refl
of_items (statement.Overlay n false) = refl

items_back : (xs : List Item) → (xs ≡ [] → ⊥) → AreItems xs → items_in (joined item_text xs) ≡ xs
items_back [] some a = absurd (some refl)
items_back (x ∷ xs) some a = taken_apart x xs a

-- ---- a walk that does not stop goes through an operand

ended_here : (f : Form) (p : Point) → FitsPoint f p → may_end f p ≡ true → Goes f p []
ended_here f AtItem k h = absurd cc
ended_here f AfterStar k h = absurd cc
ended_here f (InHead n) k h = record { l = []; ns = []; xs = []; letters = refl; short = omega (arith, k); head_fits = λ m a. (a, h); names_fit = tt; tail_fits = tt; text = refl }
ended_here f AtName k h = absurd cc
ended_here f (InName n) k h = absurd cc
ended_here f (InWord word) k h = absurd cc
ended_here f AfterItem k h = record { xs = []; tail_fits = tt; text = refl }

abbrev some_text : List ℕ → Option (List ℕ)
some_text x = Some x

not_none : {A : Type 0} (x : List ℕ) → some_text x ≡ None → A
not_none x e = absurd cc

on_goes : (f : Form) (p : Point) (b : ℕ) (text : List ℕ) (o : Option Point) → next_point f p b ≡ o → IsSound f → FitsPoint f p
    → ((q : Point) → FitsPoint f q → stop_of f q text ≡ None → Goes f q text) → stop_of f p (b ∷ text) ≡ None → Goes f p (b ∷ text)
on_goes f p b text None n s k more e = not_none (b ∷ text) (sym (step f p b text None n) ∙ e)
on_goes f p b text (Some q) n s k more e =
    let o = onward f p b q s k n in o.back text (more q o.fits (sym (step f p b text (Some q) n) ∙ e))

goes_through : (f : Form) (p : Point) (text : List ℕ) → IsSound f → FitsPoint f p → stop_of f p text ≡ None → Goes f p text
goes_through f p [] s k e = elim (cases_Bool (may_end f p)) [
  | inl m ↦ ended_here f p k m
  | inr m ↦ not_none [] (let d = rw m at e in d)
]
goes_through f p (b ∷ text) s k e = on_goes f p b text (next_point f p b) refl s k (λ q fits d. goes_through f q text s fits d) e

-- an operand through which the walk goes is that of a statement
spelled : (op : Operation) (text : List ℕ) → stop_of (form_of op) AtItem text ≡ None → (s : Statement) × IsStatementOf op text s
spelled op text e =
    let g : GoesItem (form_of op) text = goes_through (form_of op) AtItem text (sound op) tt e in
    lifted op g.x g.xs g.item_fits g.tail_fits text g.text

spells_from : (op : Operation) (text : List ℕ) (s : Statement) → IsStatementOf op text s → Spells (operation_text op) text s
spells_from op text s h = record { formed = h.formed; has_operation = ap operation_text h.has_operation; has_operand = h.has_operand }

-- ---- where an operand is bad is one place

before : (operation operand : List ℕ) (p q : ℕ) → IsBadAt operation operand p → IsBadAt operation operand q → p < q → ⊥
before operation operand p q a b lt = a.no_longer (q - 1) (omega (arith, lt)) (omega (arith, b.place.1)) b.begins

same_place : (operation operand : List ℕ) (p q : ℕ) → IsBadAt operation operand p → IsBadAt operation operand q → p ≡ q
same_place operation operand p q a b = elim (cases_lt p q) [
  | inl h ↦ absurd (before operation operand p q a b h)
  | inr h ↦ elim (cases_lt q p) [ inl g ↦ absurd (before operation operand q p b a g) | inr g ↦ omega (arith, h, g) ]
]

-- ---- counts of cards

counts_whole : (c u : ℕ) → c < u → c < 32 → cards_taken c u ≡ Ok (c + 1)
counts_whole c u h g = rw (lt-ltb c 32 g, lt-ltb c u h) refl

counts_gap : (c u : ℕ) → u ≤ c → u < 32 → cards_taken c u ≡ Err (fault.NoContinuation u)
counts_gap c u h g = elim (cases_lt c 32) [
  | inl l ↦ rw (lt-ltb c 32 l, le-ltb c u h) refl
  | inr l ↦ rw (le-ltb c 32 l, lt-ltb u 32 g) refl
]

counts_many : (c u : ℕ) → 32 ≤ c → 32 ≤ u → cards_taken c u ≡ Err fault.TooMany
counts_many c u h g = rw (le-ltb c 32 h, le-ltb u 32 g) refl

-- ---- the function gives each statement and each fault

few : (s : Statement) (n : ℕ) → HasFewAliases s → unless_many s n ≡ Ok (s, n)
few (statement.Include xs) n h = refl
few (statement.Library xs) n h = refl
few (statement.Replace xs) n h = refl
few (statement.Change xs) n h = refl
few (statement.Entry m) n h = refl
few (statement.Alias ns) n h = rw (le-ltb 16 (length ns) h) refl
few (statement.NameOf m b) n h = refl
few (statement.Insert ns) n h = refl
few (statement.Overlay m b) n h = refl

many : (s : Statement) (n : ℕ) → (HasFewAliases s → ⊥) → unless_many s n ≡ Err fault.TooMany
many (statement.Include xs) n h = absurd (h tt)
many (statement.Library xs) n h = absurd (h tt)
many (statement.Replace xs) n h = absurd (h tt)
many (statement.Change xs) n h = absurd (h tt)
many (statement.Entry m) n h = absurd (h tt)
many (statement.Alias ns) n h = elim (cases_lt 16 (length ns)) [
  | inl l ↦ rw (lt-ltb 16 (length ns) l) refl
  | inr l ↦ absurd (h l)
]
many (statement.NameOf m b) n h = absurd (h tt)
many (statement.Insert ns) n h = absurd (h tt)
many (statement.Overlay m b) n h = absurd (h tt)

-- the operand of a statement
through : (s : Statement) (text : List ℕ) (n : ℕ) → IsWellFormed s → operand_of s ≡ text
    → unless_stopped (operation_of s) text n (stop_of (form_of (operation_of s)) AtItem text) ≡ unless_many s n
through s text n formed is =
    let op : Operation = operation_of s in
    let ends : stop_of (form_of op) AtItem text ≡ None = valid op text s (record { formed = formed; has_operation = refl; has_operand = is }) in
    let whole : statement_with op (items_in text) ≡ s =
    ap (λ t. statement_with op (items_in t)) (sym is)
    ∙ ap (statement_with op) (items_back (items_of s) (some_items s formed) (are_items s formed)) ∙ of_items s in
    ap (unless_stopped op text n) ends ∙ ap (λ t. unless_many t n) whole

-- the operation is known
known_as : (cards : List (List ℕ)) (op : Operation) → operation_text op ≡ operation_of_cards cards → operation_named (operation_of_cards cards) ≡ Some op
known_as cards op is = ap operation_named (sym is) ∙ named_text op

whole_of : (cards : List (List ℕ)) → IsWhole cards
    → statement_of cards ≡ with_operation (operation_named (operation_of_cards cards)) (joined_operand cards) (continued_count cards + 1)
unfolding statement_of
whole_of cards w = ap (of_cards cards) (counts_whole (continued_count cards) (first_unfit cards) w.0 w.1)

spelled_as : (cards : List (List ℕ)) (s : Statement) → IsWhole cards → Spells (operation_of_cards cards) (joined_operand cards) s
    → statement_of cards ≡ unless_many s (continued_count cards + 1)
spelled_as cards s w h =
    whole_of cards w
    ∙ ap (λ o. with_operation o (joined_operand cards) (continued_count cards + 1)) (known_as cards (operation_of s) h.has_operation)
    ∙ through s (joined_operand cards) (continued_count cards + 1) h.formed h.has_operand

pub meant : (cards : List (List ℕ)) (s : Statement) (n : ℕ) → IsStatement cards s n → statement_of cards ≡ Ok (s, n)
meant cards s n h =
    spelled_as cards s h.whole h.spells ∙ few s (continued_count cards + 1) h.few_aliases
    ∙ ap (λ m. read_as s m) (sym h.taken)
  where
    read_as : Statement → ℕ → Result (Statement × ℕ) StmtFault
    read_as s m = Ok (s, m)

bad_at : ℕ → Result (Statement × ℕ) StmtFault
bad_at p = Err (fault.BadOperand p)

bad_from : (op : Operation) (text : List ℕ) (n p : ℕ) (o : Option (List ℕ)) → stop_of (form_of op) AtItem text ≡ o → IsBadAt (operation_text op) text p
    → unless_stopped op text n o ≡ bad_at p
unfolding bad_at
bad_from op text n p None e h = let s = spelled op text e in absurd (h.not_valid s.0 (spells_from op text s.0 s.1))
bad_from op text n p (Some rest) e h =
    ap bad_at (same_place (operation_text op) text (length text - length rest + 1) p (bad_place op text rest e) h)

unknown_from : (cards : List (List ℕ)) (text : List ℕ) (n : ℕ) (o : Option Operation) → operation_named (operation_of_cards cards) ≡ o → (IsKnown (operation_of_cards cards) → ⊥)
    → with_operation o text n ≡ Err fault.UnknownOperation
unknown_from cards text n None e h = refl
unknown_from cards text n (Some op) e h = absurd (h (subst IsKnown (text_of_named (operation_of_cards cards) op e) (known op)))

gap_at : ℕ → Result (Statement × ℕ) StmtFault
gap_at k = Err (fault.NoContinuation k)

fault_meant : (cards : List (List ℕ)) (e : StmtFault) → HasFault cards e → IsDue (statement_of cards) (Err e)
unfolding statement_of gap_at bad_at
fault_meant cards fault.TooMany (inl h) = ap (of_cards cards) (counts_many (continued_count cards) (first_unfit cards) h.0 h.1)
fault_meant cards fault.TooMany (inr h) = spelled_as cards h.1.0 h.0 h.1.1 ∙ many h.1.0 (continued_count cards + 1) h.1.2
fault_meant cards (fault.NoContinuation k) h =
    let le : first_unfit cards ≤ continued_count cards = rw (sym h.0) h.1 in
    let lt : first_unfit cards < 32 = rw (sym h.0) h.2 in
    ap (of_cards cards) (counts_gap (continued_count cards) (first_unfit cards) le lt) ∙ ap gap_at (sym h.0)
fault_meant cards fault.UnknownOperation h =
    whole_of cards h.0
    ∙ unknown_from cards (joined_operand cards) (continued_count cards + 1) (operation_named (operation_of_cards cards)) refl h.1
fault_meant cards (fault.BadOperand p) h =
    let op : Operation = operation_of h.1.0 in
    let bad : IsBadAt (operation_text op) (joined_operand cards) p = subst (λ t. IsBadAt t (joined_operand cards) p) (sym h.1.1) h.2 in
    whole_of cards h.0
    ∙ ap (λ o. with_operation o (joined_operand cards) (continued_count cards + 1)) (known_as cards op h.1.1)
    ∙ bad_from op (joined_operand cards) (continued_count cards + 1) p (stop_of (form_of op) AtItem (joined_operand cards)) refl bad
fault_meant cards fault.Memory h = tt

pub due : (cards : List (List ℕ)) (r : Result (Statement × ℕ) StmtFault) → IfOk r (λ x. IsStatement cards x.0 x.1) → IfErr r (HasFault cards) → IsDue (statement_of cards) r
due cards (Ok x) a b = meant cards x.0 x.1 a
due cards (Err e) a b = fault_meant cards e b

-- a statement has a card at least, and no more than there are
pub counted : (cards : List (List ℕ)) (r : Result (Statement × ℕ) StmtFault) → IfOk r (λ x. IsStatement cards x.0 x.1) → IfOk r (λ x. (1 ≤ x.1) × (x.1 ≤ length cards))
counted cards (Ok x) a = (omega (arith, a.taken), whole_short cards x.1 (a.whole, a.taken))
counted cards (Err e) a = tt
