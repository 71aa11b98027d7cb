-- What a table says of the items of a module.
use Rattle.std.proofs.Common.{◌≡◌, ℕ, zero, suc, ◌+◌, ◌<◌, Bool, true, false, cond, List, [], ◌∷◌, ◌++◌, length, drop, append_assoc, map, fold, slice_get, Option, Some, None, unwrap_or, option_map, option_and_then, refl, sym, ap, ◌∙◌, arith}
use Rattle.le_bytes.specs.declared.name.Name.{Name}
use Rattle.sym_mod.specs.declared.module.Item.{Item}
use Rattle.sym_mod.specs.declared.module.ItemKind.{ItemKind}
use Rattle.sym_mod.specs.declared.module.ItemKind.TheVariants.{Sd, Pc, Cm, Label as LabelItem, Er, Wx, Register as RegisterItem}
use Rattle.sym_mod.specs.declared.module.Frag.{Frag}
use Rattle.sym_mod.specs.declared.module.SymConst.{SymConst}
use Rattle.sym_mod.specs.declared.module.SymTerm.{SymTerm}
use Rattle.sym_mod.specs.declared.module.SymTarget.{SymTarget}
use Rattle.sym_mod.specs.declared.module.SymTarget.TheVariants.{Own, Named, Register as InRegister, Total as OfAll}
use Rattle.sym_mod.specs.declared.module.SymEntry.{SymEntry}
use Rattle.sym_mod.specs.declared.module.SymEntry.TheVariants.{None as NoEntry, At, Named as AtName}
use Rattle.sym_mod.specs.declared.program.Constant.{Constant}
use Rattle.sym_mod.specs.declared.program.Text.{Text}
use Rattle.sym_mod.specs.declared.program.Target.{Target}
use Rattle.sym_mod.specs.declared.program.Target.TheVariants.{Section as InSection, Total}
use Rattle.sym_mod.specs.Kinds.{kind_of}
use Rattle.linking_model.specs.Kept.{Sight, section_symbol, section_symbol_for}
use Rattle.esd_index.specs.Contents.{Contents}
use Rattle.esd_index.specs.Steps.{flag_at}
use Rattle.esd_lists.specs.declared.reading.Reading.{Reading}
use Rattle.esd_lists.specs.Looked.{number_by}
use Rattle.esd_lists.specs.Listed.{pushed}
use Rattle.esd_merge.specs.Meant.{home_at, item_means, means, name_means, term_by, constant_by, start_by, text_by}
use Rattle.esd_merge.specs.Tabled.{each_from, homes_of, target_at, targets_of, home_in, means_in, term_in, constant_in, start_in, text_in}
use Rattle.esd_merge.specs.Whole.{module_constants, module_texts}

get_each : {A : Type 0} (f : ℕ → A) (n : ℕ) (xs : List Item) (i : ℕ) → slice_get (each_from f n xs) i ≡ option_map (λ (x : Item). f (n + i)) (slice_get xs i)
get_each f n [] i = refl
get_each f n (x ∷ xs) zero =
    let same : n + 0 ≡ n = omega arith in
    rw same refl
get_each f n (x ∷ xs) (suc i) =
    let same : n + suc i ≡ n + 1 + i = omega arith in
    rw same (get_each f (n + 1) xs i)

get_at : {A : Type 0} (f : ℕ → A) (xs : List Item) (i : ℕ) → slice_get (each_from f 0 xs) i ≡ option_map (λ (x : Item). f i) (slice_get xs i)
get_at f xs i =
    let same : 0 + i ≡ i = omega arith in
    rw same at (get_each f 0 xs i)

either_none : {A : Type 0} (b : Bool) → (let o : Option A = None in cond b o o) ≡ None
either_none true = refl
either_none false = refl

no_home : (c : Contents) (k s : ℕ) (items : List Item) (kept : List Bool) (i : ℕ) → slice_get items i ≡ None → home_at c k s items kept i ≡ None
unfolding home_at
no_home c k s items kept i e = rw e (either_none (flag_at kept i))

home_case : (c : Contents) (k s : ℕ) (items : List Item) (kept : List Bool) (i : ℕ) (o : Option Item) → slice_get items i ≡ o
    → unwrap_or (option_map (λ (x : Item). home_at c k s items kept i) o) None ≡ home_at c k s items kept i
home_case c k s items kept i None e = sym (no_home c k s items kept i e)
home_case c k s items kept i (Some x) e = refl

home_is : (c : Contents) (k s : ℕ) (items : List Item) (kept : List Bool) (i : ℕ) → home_in (homes_of c k s items kept) i ≡ home_at c k s items kept i
home_is c k s items kept i =
    ap (λ (o : Option (Option ℕ)). unwrap_or o None) (get_at (home_at c k s items kept) items i) ∙ home_case c k s items kept i (slice_get items i) refl

target_case : (c : Contents) (L U : Name → Option ℕ) (k i : ℕ) (o : Option Item)
    → unwrap_or (option_map (λ (x : Item). item_means c L U k i o) o) Total ≡ item_means c L U k i o
target_case c L U k i None = refl
target_case c L U k i (Some x) = refl

target_is : (c : Contents) (L U : Name → Option ℕ) (k : ℕ) (items : List Item) (i : ℕ) → unwrap_or (slice_get (targets_of c L U k items) i) Total ≡ item_means c L U k i (slice_get items i)
target_is c L U k items i =
    ap (λ (o : Option Target). unwrap_or o Total) (get_at (target_at c L U k items) items i) ∙ target_case c L U k i (slice_get items i)

means_is : (c : Contents) (L U : Name → Option ℕ) (k : ℕ) (items : List Item) (t : SymTarget) → means_in c L U (targets_of c L U k items) t ≡ means c L U k items t
unfolding means means_in
means_is c L U k items (Own n) = target_is c L U k items n
means_is c L U k items (Named y) = refl
means_is c L U k items (InRegister y) = refl
means_is c L U k items OfAll = refl

terms_are : (c : Contents) (L U : Name → Option ℕ) (k : ℕ) (items : List Item) (ts : List SymTerm) → map (term_in c L U (targets_of c L U k items)) ts ≡ map (term_by c L U k items) ts
terms_are c L U k items [] = refl
terms_are c L U k items (t ∷ ts) = rw (means_is c L U k items t.target, terms_are c L U k items ts) refl

constant_is : (c : Contents) (L U : Name → Option ℕ) (k s : ℕ) (items : List Item) (kept : List Bool) (x : SymConst)
    → constant_in c L U (homes_of c k s items kept) (targets_of c L U k items) x ≡ constant_by c L U k s items kept x
unfolding constant_in constant_by
constant_is c L U k s items kept x = rw (home_is c k s items kept x.item, terms_are c L U k items x.terms) refl

text_is : (c : Contents) (k s : ℕ) (items : List Item) (kept : List Bool) (f : Frag) → text_in (homes_of c k s items kept) f ≡ text_by c k s items kept f
unfolding text_in text_by
text_is c k s items kept f = rw (home_is c k s items kept f.item) refl

pub start_is : (c : Contents) (k s : ℕ) (items : List Item) (kept : List Bool) (e : SymEntry) → start_in (homes_of c k s items kept) e ≡ start_by c k s items kept e
unfolding start_in start_by
start_is c k s items kept NoEntry = refl
start_is c k s items kept (At n offset) = rw (home_is c k s items kept n) refl
start_is c k s items kept (AtName y) = refl

same_pushed : {A B : Type 0} (f g : A → Option B) → ((x : A) → f x ≡ g x) → (l : List B) (xs : List A) → fold (λ ys x. pushed ys (f x)) l xs ≡ fold (λ ys x. pushed ys (g x)) l xs
same_pushed f g same l [] = refl
same_pushed f g same l (x ∷ xs) = rw (same x) (same_pushed f g same (pushed l (g x)) xs)

constants_here : (c : Contents) (L U : Name → Option ℕ) (list : List Constant) (k : ℕ) (r : Reading)
    → fold (λ xs x. pushed xs (constant_in c L U (homes_of c k r.segment r.read.items r.kept) (targets_of c L U k r.read.items) x)) list r.read.constants ≡ module_constants c L U list k r
unfolding module_constants
constants_here c L U list k r =
    same_pushed (constant_in c L U (homes_of c k r.segment r.read.items r.kept) (targets_of c L U k r.read.items)) (constant_by c L U k r.segment r.read.items r.kept)
    (constant_is c L U k r.segment r.read.items r.kept) list r.read.constants

pub constants_are : (c : Contents) (L U : Name → Option ℕ) (list : List Constant) (k : ℕ) (r : Reading) (homes : List (Option ℕ)) (targets : List Target) (items : List Item) (kept : List Bool) (constants : List SymConst)
    → homes ≡ homes_of c k r.segment items kept → targets ≡ targets_of c L U k items → items ≡ r.read.items → kept ≡ r.kept → constants ≡ r.read.constants
    → fold (λ xs x. pushed xs (constant_in c L U homes targets x)) list constants ≡ module_constants c L U list k r
constants_are c L U list k r homes targets items kept constants h t i m e = rw (e, h, t, i, m) (constants_here c L U list k r)

texts_here : (c : Contents) (list : List Text) (k : ℕ) (r : Reading)
    → fold (λ xs f. pushed xs (text_in (homes_of c k r.segment r.read.items r.kept) f)) list r.read.fragments ≡ module_texts c list k r
unfolding module_texts
texts_here c list k r =
    same_pushed (text_in (homes_of c k r.segment r.read.items r.kept)) (text_by c k r.segment r.read.items r.kept)
    (text_is c k r.segment r.read.items r.kept) list r.read.fragments

pub texts_are : (c : Contents) (list : List Text) (k : ℕ) (r : Reading) (homes : List (Option ℕ)) (items : List Item) (kept : List Bool) (fragments : List Frag)
    → homes ≡ homes_of c k r.segment items kept → items ≡ r.read.items → kept ≡ r.kept → fragments ≡ r.read.fragments
    → fold (λ xs f. pushed xs (text_in homes f)) list fragments ≡ module_texts c list k r
texts_are c list k r homes items kept fragments h i m e = rw (e, h, i, m) (texts_here c list k r)

-- ---- where an item is kept, its section is meant

kind_case : (c : Contents) (L U : Name → Option ℕ) (k s n h : ℕ) (x : Item) (kind : ItemKind) → kind_of x ≡ kind
    → option_and_then (number_by c) (section_symbol_for (record { of_module = k; number = n; segment = s; item = x }) kind) ≡ Some h → item_means c L U k n (Some x) ≡ InSection h
unfolding name_means
kind_case c L U k s n h x Pc e f = rw (e, f) refl
kind_case c L U k s n h x Sd e f = rw (e, f) refl
kind_case c L U k s n h x Cm e f = rw (e, f) refl
kind_case c L U k s n h x LabelItem e f = absurd cc
kind_case c L U k s n h x Er e f = absurd cc
kind_case c L U k s n h x Wx e f = absurd cc
kind_case c L U k s n h x RegisterItem e f = absurd cc

marked_case : (c : Contents) (L U : Name → Option ℕ) (k s n h : ℕ) (b : Bool) (o : Option Item)
    → cond b (option_and_then (number_by c) (option_and_then section_symbol (option_map (λ (x : Item). let y : Sight = record { of_module = k; number = n; segment = s; item = x } in y) o))) None ≡ Some h
    → item_means c L U k n o ≡ InSection h
marked_case c L U k s n h true (Some x) e = kind_case c L U k s n h x (kind_of x) refl e
marked_case c L U k s n h true None e = absurd cc
marked_case c L U k s n h false o e = absurd cc

pub home_means : (c : Contents) (L U : Name → Option ℕ) (k s : ℕ) (items : List Item) (kept : List Bool) (n h : ℕ) → home_at c k s items kept n ≡ Some h
    → item_means c L U k n (slice_get items n) ≡ InSection h
unfolding home_at
home_means c L U k s items kept n h e = marked_case c L U k s n h (flag_at kept n) (slice_get items n) e

-- ---- one item more

each_on : {A : Type 0} (f : ℕ → A) (m n : ℕ) (xs : List Item) → n < length xs → each_from f m (drop n xs) ≡ f m ∷ each_from f (m + 1) (drop (n + 1) xs)
each_on f m n [] low = absurd (omega (arith, low))
each_on f m zero (x ∷ xs) low = refl
each_on f m (suc n) (x ∷ xs) low =
    let same : suc n + 1 ≡ suc (n + 1) = omega arith in
    rw same (each_on f m n xs (omega (arith, low)))

pub each_next : {A : Type 0} (f : ℕ → A) (n : ℕ) (xs : List Item) (old new all : List A) → n < length xs → new ≡ old ++ f n ∷ [] → old ++ each_from f n (drop n xs) ≡ all
    → new ++ each_from f (n + 1) (drop (n + 1) xs) ≡ all
each_next f n xs old new all low is before =
    rw is (append_assoc old (f n ∷ []) (each_from f (n + 1) (drop (n + 1) xs)) ∙ ap (λ zs. old ++ zs) (sym (each_on f n n xs low)) ∙ before)
