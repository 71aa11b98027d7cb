-- The first table that has a target is the table of its holder.
use Rattle.std.proofs.Common.{arith, ◌≡◌, ℕ, zero, suc, ◌+◌, ◌-◌, ◌<◌, ◌≤◌, Bool, true, false, ◌==◌, ◌||◌, ◌&&◌, if◌then◌else◌, List, [], ◌∷◌, ◌++◌, length, map, filter, filter_map, refl, sym, ◌∙◌, ap, Option, Some, None, slice_get, nat_lt, add-one}
use Rattle.std.specs.List.{list_any, enumerate_from, position, position_or_len}
use Rattle.std.proofs.lemmas.Bool.{false≢true}
use Rattle.std.proofs.lemmas.List.{length-append}
use Rattle.std.proofs.lemmas.Option.{slice_get-map}
use Rattle.std.specs.Option.{option_or, option_map, option_map_or, is_some}
use Rattle.sym_mod.specs.declared.program.Program.{Program}
use Rattle.sym_mod.specs.declared.program.Section.{Section}
use Rattle.sym_mod.specs.declared.program.Label.{Label}
use Rattle.sym_mod.specs.declared.program.Target.{Target}
use Rattle.sym_mod.specs.declared.program.Target.TheVariants.{Section as InSection, Label as AtLabel, Unresolved, Register as OfRegister, Total}
use Rattle.linking_model.specs.Names.{inserted, in_order, name_below}
use Rattle.sym_mod.specs.Kinds.{is_private}
use Rattle.linking_model.specs.Tables.{target_eq, named_section, private_section, named_label, named_targets, targets_in_order, has_entry, needs_entry, entries, holder}
use Rattle.linking_model.specs.Tree.{Tree, IsTree, segments, parent_of}
use Rattle.linking_model.specs.Places.{Laid}
use Rattle.relocate.specs.Ready.{IsDefinedIn}
use Rattle.relocate.specs.Listed.{table_of, is_listed, listing}
use Rattle.relocate.proofs.Holding.{first_on_path, if_passes, first_below, first_at_root, parent_answer, parent_earlier}

-- ---- tests of lists

and_true : (a : Bool) → (a && true) ≡ a
and_true true = refl
and_true false = refl

any_append : {A : Type 0} (f : A → Bool) (xs ys : List A) → list_any f (xs ++ ys) ≡ (list_any f xs || list_any f ys)
any_append f [] ys = refl
any_append f (x ∷ xs) ys = by_cases (f x) refl (any_append f xs ys)
  where
    by_cases : (b : Bool) → f x ≡ b → list_any f (xs ++ ys) ≡ (list_any f xs || list_any f ys)
        → list_any f (x ∷ (xs ++ ys)) ≡ (list_any f (x ∷ xs) || list_any f ys)
    by_cases true first rest = rw first refl
    by_cases false first rest = rw first rest

any_map : {A B : Type 0} (f : B → Bool) (g : A → B) (xs : List A) → list_any f (map g xs) ≡ list_any (λ x. f (g x)) xs
any_map f g [] = refl
any_map f g (x ∷ xs) = ap (λ b. f (g x) || b) (any_map f g xs)

any_inserted : {A : Type 0} (f : A → Bool) (before : A → A → Bool) (x : A) (xs : List A)
    → list_any f (inserted before x xs) ≡ (f x || list_any f xs)
any_inserted f before x [] = refl
any_inserted f before x (y ∷ ys) = by_cases (before y x) refl (any_inserted f before x ys)
  where
    swap : (a b c : Bool) → (a || (b || c)) ≡ (b || (a || c))
    swap true true c = refl
    swap true false c = refl
    swap false b c = refl

    by_cases : (b : Bool) → before y x ≡ b → list_any f (inserted before x ys) ≡ (f x || list_any f ys)
        → list_any f (inserted before x (y ∷ ys)) ≡ (f x || list_any f (y ∷ ys))
    by_cases true first rest = rw first (ap (λ b. f y || b) rest ∙ swap (f y) (f x) (list_any f ys))
    by_cases false first rest = rw first refl

any_in_order : {A : Type 0} (f : A → Bool) (before : A → A → Bool) (xs : List A) → list_any f (in_order before xs) ≡ list_any f xs
any_in_order f before [] = refl
any_in_order f before (x ∷ xs) =
    any_inserted f before x (in_order before xs) ∙ ap (λ b. f x || b) (any_in_order f before xs)

or_left : (a b : Bool) → a ≡ true → (a || b) ≡ true
or_left true b first = refl
or_left false b first = absurd (false≢true first)

or_right : (a b : Bool) → b ≡ true → (a || b) ≡ true
or_right true b second = refl
or_right false b second = second

or_more_right : (a t b : Bool) → (a || b) ≡ true → (a || (t || b)) ≡ true
or_more_right true t b some = refl
or_more_right false t b some = or_right t b some

or_more_left : (t a b : Bool) → (a || b) ≡ true → ((t || a) || b) ≡ true
or_more_left true a b some = refl
or_more_left false a b some = some

or_skip : (a l b : Bool) → (a || b) ≡ true → ((a || l) || b) ≡ true
or_skip true l b some = refl
or_skip false l b some = or_right l b some

-- ---- a place in a list

both_more : (a b : ℕ) → nat_lt (1 + a) (suc b) ≡ nat_lt a b
both_more a b = grind arith

some_more : (n : ℕ) → nat_lt 0 (suc n) ≡ true
some_more n = grind arith

placed_any : {A : Type 0} (f : A → Bool) (xs : List A) → nat_lt (position_or_len f xs) (length xs) ≡ list_any f xs
placed_any f [] = refl
placed_any f (x ∷ xs) = by_cases (f x) refl (placed_any f xs)
  where
    by_cases : (b : Bool) → f x ≡ b → nat_lt (position_or_len f xs) (length xs) ≡ list_any f xs
        → nat_lt (position_or_len f (x ∷ xs)) (length (x ∷ xs)) ≡ list_any f (x ∷ xs)
    by_cases true first rest = rw first (some_more (length xs))
    by_cases false first rest = rw first (both_more (position_or_len f xs) (length xs) ∙ rest)

pub is_placed : {A : Type 0} (f : A → Bool) (xs : List A) → is_some (position f xs) ≡ list_any f xs
is_placed f xs = by_cases (nat_lt (position_or_len f xs) (length xs)) refl ∙ placed_any f xs
  where
    by_cases : (b : Bool) → nat_lt (position_or_len f xs) (length xs) ≡ b
        → is_some (if b then Some (position_or_len f xs) else None) ≡ b
    by_cases true inside = refl
    by_cases false past = refl

-- ---- targets

pub is_section : (i : ℕ) (x : Target) → target_eq (InSection i) x ≡ true → InSection i ≡ x
is_section i (InSection j) same = ap InSection (grind (arith, same))
is_section i (AtLabel j) same = absurd (false≢true same)
is_section i (Unresolved j) same = absurd (false≢true same)
is_section i (OfRegister j) same = absurd (false≢true same)
is_section i Total same = absurd (false≢true same)

pub is_label : (i : ℕ) (x : Target) → target_eq (AtLabel i) x ≡ true → AtLabel i ≡ x
is_label i (AtLabel j) same = ap AtLabel (grind (arith, same))
is_label i (InSection j) same = absurd (false≢true same)
is_label i (Unresolved j) same = absurd (false≢true same)
is_label i (OfRegister j) same = absurd (false≢true same)
is_label i Total same = absurd (false≢true same)

pub is_target : (p : Program) (y x : Target) → IsDefinedIn p y → target_eq y x ≡ true → y ≡ x
is_target p (InSection i) x defined same = is_section i x same
is_target p (AtLabel i) x defined same = is_label i x same
is_target p (Unresolved i) x defined same = absurd defined
is_target p (OfRegister i) x defined same = absurd defined
is_target p Total x defined same = absurd defined

and_false : (a : Bool) → (a && false) ≡ false
and_false true = refl
and_false false = refl

any_filter : (y : Target) (h : Target → Bool) (xs : List Target) → ((x : Target) → target_eq y x ≡ true → y ≡ x)
    → list_any (target_eq y) (filter h xs) ≡ (h y && list_any (target_eq y) xs)
any_filter y h [] same = sym (and_false (h y))
any_filter y h (x ∷ xs) same = by_cases (h x) refl (target_eq y x) refl (any_filter y h xs same)
  where
    by_cases : (a : Bool) → h x ≡ a → (b : Bool) → target_eq y x ≡ b
        → list_any (target_eq y) (filter h xs) ≡ (h y && list_any (target_eq y) xs)
        → list_any (target_eq y) (filter h (x ∷ xs)) ≡ (h y && list_any (target_eq y) (x ∷ xs))
    by_cases true kept true is rest = let own : h y ≡ true = ap h (same x is) ∙ kept in rw (kept, is, own) refl
    by_cases true kept false is rest = rw (kept, is) rest
    by_cases false kept true is rest = let own : h y ≡ false = ap h (same x is) ∙ kept in rw (kept, is, own) (rest ∙ rw own refl)
    by_cases false kept false is rest = rw (kept, is) rest

-- ---- every section and label may have an entry

private_or_named : (k i j : ℕ) (xs : List Section) → j ≡ k + i → i < length xs
    → (list_any (λ n. target_eq (InSection j) n.target) (filter_map named_section (enumerate_from k xs))
    || list_any (target_eq (InSection j)) (filter_map private_section (enumerate_from k xs))) ≡ true
private_or_named k i j [] at within = absurd (omega (arith, within))
private_or_named k zero j (x ∷ xs) at within = by_cases (is_private x.kind) refl
  where
    by_cases : (b : Bool) → is_private x.kind ≡ b
        → (list_any (λ n. target_eq (InSection j) n.target) (filter_map named_section (enumerate_from k (x ∷ xs)))
        || list_any (target_eq (InSection j)) (filter_map private_section (enumerate_from k (x ∷ xs)))) ≡ true
    by_cases true kind = rw kind (or_right _ _ (or_left (j == k) _ (grind (arith, at))))
    by_cases false kind = rw kind (or_left _ _ (or_left (j == k) _ (grind (arith, at))))
private_or_named k (suc i) j (x ∷ xs) at within =
    by_cases (is_private x.kind) refl (private_or_named (k + 1) i j xs (omega (arith, at)) (omega (arith, within)))
  where
    by_cases : (b : Bool) → is_private x.kind ≡ b
        → (list_any (λ n. target_eq (InSection j) n.target) (filter_map named_section (enumerate_from (k + 1) xs))
        || list_any (target_eq (InSection j)) (filter_map private_section (enumerate_from (k + 1) xs))) ≡ true
        → (list_any (λ n. target_eq (InSection j) n.target) (filter_map named_section (enumerate_from k (x ∷ xs)))
        || list_any (target_eq (InSection j)) (filter_map private_section (enumerate_from k (x ∷ xs)))) ≡ true
    by_cases true kind rest = rw kind (or_more_right _ (j == k) _ rest)
    by_cases false kind rest = rw kind (or_more_left (j == k) _ _ rest)

label_there : (k i j : ℕ) (xs : List Label) → j ≡ k + i → i < length xs
    → list_any (λ n. target_eq (AtLabel j) n.target) (map named_label (enumerate_from k xs)) ≡ true
label_there k i j [] at within = absurd (omega (arith, within))
label_there k zero j (x ∷ xs) at within = or_left (j == k) _ (grind (arith, at))
label_there k (suc i) j (x ∷ xs) at within =
    or_right (j == k) _ (label_there (k + 1) i j xs (omega (arith, at)) (omega (arith, within)))

pub targets_split : (p : Program) (f : Target → Bool) → list_any f (targets_in_order p)
    ≡ ((list_any (λ n. f n.target) (filter_map named_section (enumerate_from 0 p.sections))
    || list_any (λ n. f n.target) (map named_label (enumerate_from 0 p.labels)))
    || list_any f (filter_map private_section (enumerate_from 0 p.sections)))
targets_split p f =
    any_append f (map (λ x. x.target) (in_order (λ x y. name_below x.name y.name) (named_targets p))) (filter_map private_section (enumerate_from 0 p.sections))
    ∙ ap (λ b. b || list_any f (filter_map private_section (enumerate_from 0 p.sections)))
    (any_map f (λ x. x.target) (in_order (λ x y. name_below x.name y.name) (named_targets p))
    ∙ (any_in_order (λ x. f x.target) (λ x y. name_below x.name y.name) (named_targets p)
    ∙ any_append (λ x. f x.target) (filter_map named_section (enumerate_from 0 p.sections)) (map named_label (enumerate_from 0 p.labels))))

pub in_targets : (p : Program) (y : Target) → IsDefinedIn p y → list_any (target_eq y) (targets_in_order p) ≡ true
in_targets p (InSection i) defined =
    targets_split p (target_eq (InSection i)) ∙ or_skip (list_any (λ n. target_eq (InSection i) n.target) (filter_map named_section (enumerate_from 0 p.sections)))
    (list_any (λ n. target_eq (InSection i) n.target) (map named_label (enumerate_from 0 p.labels)))
    (list_any (target_eq (InSection i)) (filter_map private_section (enumerate_from 0 p.sections))) (private_or_named 0 i i p.sections (omega arith) defined)
in_targets p (AtLabel i) defined =
    targets_split p (target_eq (AtLabel i)) ∙ or_left
    (list_any (λ n. target_eq (AtLabel i) n.target) (filter_map named_section (enumerate_from 0 p.sections))
    || list_any (λ n. target_eq (AtLabel i) n.target) (map named_label (enumerate_from 0 p.labels)))
    (list_any (target_eq (AtLabel i)) (filter_map private_section (enumerate_from 0 p.sections)))
    (or_right (list_any (λ n. target_eq (AtLabel i) n.target) (filter_map named_section (enumerate_from 0 p.sections)))
    (list_any (λ n. target_eq (AtLabel i) n.target) (map named_label (enumerate_from 0 p.labels))) (label_there 0 i i p.labels (omega arith) defined))
in_targets p (Unresolved i) defined = absurd defined
in_targets p (OfRegister i) defined = absurd defined
in_targets p Total defined = absurd defined

-- ---- tables

front_got : (xs ys : List ℕ) (i : ℕ) → i < length xs → slice_get (xs ++ ys) i ≡ slice_get xs i
front_got [] ys i within = absurd (omega (arith, within))
front_got (x ∷ xs) ys zero within = refl
front_got (x ∷ xs) ys (suc i) within = front_got xs ys i (omega (arith, within))

last_got : (xs : List ℕ) (i n m : ℕ) → i ≡ length xs → n ≡ m → slice_get (xs ++ m ∷ []) i ≡ Some n
last_got [] i n m is same = rw (is, same) refl
last_got (x ∷ xs) zero n m is same = absurd (omega (arith, is))
last_got (x ∷ xs) (suc i) n m is same = last_got xs i n m (omega (arith, is)) same

length-segments : (tree : Tree) → length (segments tree) ≡ length tree
unfolding segments
length-segments [] = refl
length-segments (x ∷ older) = length-append (segments older) ((length older + 1) ∷ []) ∙ (ap (λ n. n + 1) (length-segments older) ∙ add-one (length older))

segment_at : (tree : Tree) (i : ℕ) → i < length tree → slice_get (segments tree) i ≡ Some (i + 1)
unfolding segments
segment_at [] i within = absurd (omega (arith, within))
segment_at (x ∷ older) i within = by_cases (i == length older) refl (segment_at older i)
  where
    size : length (segments older) ≡ length older
    size = length-segments older

    by_cases : (b : Bool) → (i == length older) ≡ b → (i < length older → slice_get (segments older) i ≡ Some (i + 1))
        → slice_get (segments older ++ (length older + 1) ∷ []) i ≡ Some (i + 1)
    by_cases true last rest =
        let is : i ≡ length older = grind (arith, last) in
        last_got (segments older) i (i + 1) (length older + 1) (is ∙ sym size) (ap (λ n. n + 1) is)
    by_cases false other rest =
        let below : i < length older = grind (arith, other, within) in
        front_got (segments older) ((length older + 1) ∷ []) i (omega (arith, below, size)) ∙ rest below

pub table_at : (P : Laid) (s : ℕ) → P.entries ≡ map (entries P.program P.tree) (segments P.tree) → 1 ≤ s → s ≤ length P.tree
    → table_of P.entries s ≡ entries P.program P.tree s
table_at P s planned first last =
    let there : slice_get (segments P.tree) (s - 1) ≡ Some s =
    segment_at P.tree (s - 1) (omega (arith, first, last)) ∙ ap (λ n. Some n) (omega (arith, first)) in
    let found : slice_get P.entries (s - 1) ≡ Some (entries P.program P.tree s) =
    ap (λ xs. slice_get xs (s - 1)) planned
    ∙ (slice_get-map (entries P.program P.tree) (segments P.tree) (s - 1) ∙ ap (option_map (entries P.program P.tree)) there) in
    ap (λ o. option_map_or (λ x. x) o []) found

-- the table of a segment has what has an entry there
pub listed_there : (P : Laid) (s : ℕ) (y : Target) → P.entries ≡ map (entries P.program P.tree) (segments P.tree) → 1 ≤ s → s ≤ length P.tree
    → IsDefinedIn P.program y → is_listed P.entries y s ≡ has_entry P.program P.tree s y
unfolding entries
listed_there P s y planned first last defined =
    is_placed (target_eq y) (table_of P.entries s)
    ∙ (ap (list_any (target_eq y)) (table_at P s planned first last)
    ∙ (any_filter y (has_entry P.program P.tree s) (targets_in_order P.program) (λ x. is_target P.program y x defined)
    ∙ (ap (λ b. has_entry P.program P.tree s y && b) (in_targets P.program y defined) ∙ and_true (has_entry P.program P.tree s y))))

-- ---- the holder

own : (L N : ℕ → Bool) (s : ℕ) → L s ≡ option_map_or (λ h. h == s) (if_passes N s) false → if_passes L s ≡ if_passes N s
own L N s same = by_cases (N s) refl
  where
    by_cases : (b : Bool) → N s ≡ b → if_passes L s ≡ if_passes N s
    by_cases true needs = let lists : L s ≡ true = same ∙ (rw needs (grind arith)) in rw (lists, needs) refl
    by_cases false needs = let lists : L s ≡ false = same ∙ (rw needs refl) in rw (lists, needs) refl

joined : (L N : ℕ → Bool) (s : ℕ) (q found : Option ℕ) → found ≡ option_or q (if_passes N s)
    → L s ≡ option_map_or (λ h. h == s) found false → option_or q (if_passes L s) ≡ option_or q (if_passes N s)
joined L N s (Some b) found is same = refl
joined L N s None found is same = own L N s (same ∙ ap (λ o. option_map_or (λ h. h == s) o false) is)

held_by : (L N : ℕ → Bool) (tree : Tree) (n s : ℕ) → IsTree tree
    → ((s : ℕ) → 1 ≤ s → s ≤ length tree → L s ≡ option_map_or (λ h. h == s) (first_on_path N tree s) false)
    → s ≤ n → 1 ≤ s → s ≤ length tree → first_on_path L tree s ≡ first_on_path N tree s
held_by L N tree zero s made same most first last = absurd (omega (arith, most, first))
held_by L N tree (suc n) s made same most first last =
    by_cases (parent_answer (parent_of tree s)) refl (λ p below above within. held_by L N tree n p made same below above within)
  where
    by_cases : (o : Option ℕ) → parent_answer (parent_of tree s) ≡ o
        → ((p : ℕ) → p ≤ n → 1 ≤ p → p ≤ length tree → first_on_path L tree p ≡ first_on_path N tree p)
        → first_on_path L tree s ≡ first_on_path N tree s
    by_cases None none rest =
        let here : first_on_path N tree s ≡ if_passes N s = first_at_root N tree s made first last none in
        first_at_root L tree s made first last none
        ∙ (own L N s (same s first last ∙ ap (λ o. option_map_or (λ h. h == s) o false) here) ∙ sym here)
    by_cases (Some p) some rest =
        let earlier : (1 ≤ p) × (p < s) = parent_earlier tree s p made first last some in
        let before : p < s = earlier.1 in
        let above : first_on_path L tree p ≡ first_on_path N tree p = rest p (omega (arith, before, most)) earlier.0 (omega (arith, before, last)) in
        let here : first_on_path N tree s ≡ option_or (first_on_path N tree p) (if_passes N s) = first_below N tree s p made first last some in
        first_below L tree s p made first last some
        ∙ (ap (λ o. option_or o (if_passes L s)) above
        ∙ (joined L N s (first_on_path N tree p) (first_on_path N tree s) here (same s first last) ∙ sym here))

pub listing_is_holder : (P : Laid) (s : ℕ) (y : Target) → IsTree P.tree → P.entries ≡ map (entries P.program P.tree) (segments P.tree)
    → 1 ≤ s → s ≤ length P.tree → IsDefinedIn P.program y → listing P.tree P.entries s y ≡ holder P.program P.tree s y
unfolding listing holder
listing_is_holder P s y made planned first last defined =
    held_by (is_listed P.entries y) (needs_entry P.program P.tree y) P.tree s s made
    (λ t low high. listed_there P t y planned low high defined) (omega arith) first last
