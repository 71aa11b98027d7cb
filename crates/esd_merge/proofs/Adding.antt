-- An index with one more module says what the modules with one more say.
use Rattle.std.proofs.Common.{◌≡◌, ℕ, ◌+◌, ◌<◌, ◌≤◌, Bool, true, false, ◌&&◌, ◌||◌, ◌==◌, cond, List, [], ◌∷◌, ◌++◌, length, map, fold, slice_get, Option, Some, None, option_map, is_some, refl, sym, ap, ◌∙◌, arith, append-nil, filter, filter_map, flat_map}
use Rattle.std.proofs.lemmas.List.{map-append}
use Rattle.std.proofs.lemmas.Bool.Decides.{nat_tests}
use Rattle.std.specs.List.{list_any, AllByRecursion, cons_option, enumerate_from}
use Rattle.std.specs.Option.{option_and_then}
use Rattle.std.proofs.lemmas.List.Sums.{fold-append}
use Rattle.std.proofs.lemmas.List.Elements.{filter_map-append}
use Rattle.std.proofs.lemmas.Grind.{flat_map-append}
use Rattle.le_bytes.specs.declared.name.Name.{Name}
use Rattle.le_bytes.specs.Names.{name_eq}
use Rattle.sym_mod.specs.declared.module.Item.{Item}
use Rattle.sym_mod.specs.declared.module.SymConst.{SymConst}
use Rattle.sym_mod.specs.declared.module.SymTerm.{SymTerm}
use Rattle.sym_mod.specs.declared.module.SymModule.{SymModule}
use Rattle.sym_mod.specs.Kinds.{kind_of, is_sd, is_er, is_wx, is_register}
use Rattle.linking_model.specs.Names.{with_first, firsts, in_order}
use Rattle.linking_model.specs.Kept.{Read, Sight, Symbol, ByName, symbol_eq, sights_in, sights, is_at, is_sd_named, kept_as, symbol_of, section_symbol, section_symbols, kept_in, stands_before, kept_constants, name_in, referred_names, seen_in, appearance}
use Rattle.linking_model.specs.Merged.{double_definition, first_clash}
use Rattle.esd_index.specs.Marked.{with_some}
use Rattle.esd_index.specs.Contents.{Contents}
use Rattle.esd_index.specs.Steps.{named_if, flag_at, kept_flags, kept_label_by, with_control, with_sight, with_sights, label_meant, with_target, with_constant}
use Rattle.esd_index.specs.Modules.{kept_in_order, noted_module}
use Rattle.esd_lists.specs.Indexed.{kept_label, named_in, labelled_in, content_of}
use Rattle.esd_lists.proofs.Firsts.{name_sym, any_firsts, fold_some, firsts_more}
use Rattle.esd_lists.proofs.Sights.{seen_at}
use Rattle.esd_merge.specs.Added.{with_module}
use Rattle.esd_merge.proofs.Grown.{sights_with, sight_at_new}
use Rattle.esd_merge.proofs.Kept.{kept_in_old, kept_in_some, section_symbols_with, flags_are}
use Rattle.esd_merge.proofs.Clashes.{IsMarked, outcome, clash_is, clash_in_new, marks_in, all_map, all_same_old, within_from}

-- ---- a field of what many steps make

field_kept : {A : Type 0} (step : Contents → A → Contents) (g : Contents → List Symbol) → ((c : Contents) (x : A) → g (step c x) ≡ g c)
    → (c : Contents) (xs : List A) → g (fold step c xs) ≡ g c
field_kept step g keeps c [] = refl
field_kept step g keeps c (x ∷ xs) = field_kept step g keeps (step c x) xs ∙ keeps c x

field_some : {A : Type 0} (step : Contents → A → Contents) (g : Contents → List Symbol) (f : A → Option Symbol) → ((c : Contents) (x : A) → g (step c x) ≡ with_some (g c) (f x))
    → (c : Contents) (xs : List A) → g (fold step c xs) ≡ fold (λ ys x. with_some ys (f x)) (g c) xs
field_some step g f puts c [] = refl
field_some step g f puts c (x ∷ xs) = field_some step g f puts (step c x) xs ∙ ap (λ (ys : List Symbol). fold (λ zs x. with_some zs (f x)) ys xs) (puts c x)

field_noted : {A : Type 0} (step : Contents → A → Contents) (g : Contents → List Symbol) (f : A → Option Symbol) → ((c : Contents) (x : A) → g (step c x) ≡ with_some (g c) (f x))
    → (c : Contents) (xs : List A) → g (fold step c xs) ≡ fold (with_first symbol_eq) (g c) (filter_map f xs)
field_noted step g f puts c xs = field_some step g f puts c xs ∙ fold_some f (g c) xs

field_many : {A : Type 0} (step : Contents → A → Contents) (g : Contents → List Symbol) (f : A → List Symbol) → ((c : Contents) (x : A) → g (step c x) ≡ fold (with_first symbol_eq) (g c) (f x))
    → (c : Contents) (xs : List A) → g (fold step c xs) ≡ fold (with_first symbol_eq) (g c) (flat_map f xs)
field_many step g f puts c [] = refl
field_many step g f puts c (x ∷ xs) =
    field_many step g f puts (step c x) xs
    ∙ ap (λ (ys : List Symbol). fold (with_first symbol_eq) ys (flat_map f xs)) (puts c x)
    ∙ sym (fold-append (with_first symbol_eq) (g c) (f x) (flat_map f xs))

-- ---- the names of constants

abbrev names_of : SymConst → List Symbol
names_of c = filter_map (λ t. option_map ByName (name_in t.target)) c.terms

abbrev labels_of : List Item → SymConst → List Symbol
labels_of items c = filter_map (λ t. label_meant items t.target) c.terms

map_some : (f : SymTerm → Option Name) (ts : List SymTerm) → map (λ y. ByName y) (filter_map f ts) ≡ filter_map (λ t. option_map ByName (f t)) ts
map_some f [] = refl
map_some f (t ∷ ts) = chosen f (f t) ts (map_some f ts)
  where
    chosen : (f : SymTerm → Option Name) (o : Option Name) (ts : List SymTerm) → map (λ y. ByName y) (filter_map f ts) ≡ filter_map (λ t. option_map ByName (f t)) ts
        → map (λ y. ByName y) (cons_option o (filter_map f ts)) ≡ cons_option (option_map ByName o) (filter_map (λ t. option_map ByName (f t)) ts)
    chosen f None ts more = more
    chosen f (Some y) ts more = ap (λ (ys : List Symbol). ByName y ∷ ys) more

map_names : (cs : List SymConst) → map (λ y. ByName y) (flat_map (λ c. filter_map (λ t. name_in t.target) c.terms) cs) ≡ flat_map names_of cs
map_names [] = refl
map_names (c ∷ cs) =
    map-append (λ y. ByName y) (filter_map (λ t. name_in t.target) c.terms) (flat_map (λ c. filter_map (λ t. name_in t.target) c.terms) cs)
    ∙ rw (map_some (λ t. name_in t.target) c.terms, map_names cs) refl

-- ---- modules one after the other

enumerate-append : {A : Type 0} (n : ℕ) (xs ys : List A) → enumerate_from n (xs ++ ys) ≡ enumerate_from n xs ++ enumerate_from (n + length xs) ys
enumerate-append n [] ys =
    let same : n + 0 ≡ n = omega arith in
    rw same refl
enumerate-append n (x ∷ xs) ys =
    let same : n + 1 + length xs ≡ n + length (x ∷ xs) = omega arith in
    ap (λ zs. (n, x) ∷ zs) (rw same at (enumerate-append (n + 1) xs ys))

flat_same : {A B : Type 0} (f g : ℕ × A → List B) (n m : ℕ) (xs : List A) → n + length xs ≤ m → ((k : ℕ) (x : A) → k < m → f (k, x) ≡ g (k, x))
    → flat_map f (enumerate_from n xs) ≡ flat_map g (enumerate_from n xs)
flat_same f g n m [] low same = refl
flat_same f g n m (x ∷ xs) low same = rw (same n x (omega arith), flat_same f g (n + 1) m xs (omega arith) same) refl

pub modules_more : {B : Type 0} (f g : ℕ × Read → List B) (rs : List Read) (r : Read) → ((k : ℕ) (x : Read) → k < length rs → f (k, x) ≡ g (k, x))
    → flat_map f (enumerate_from 0 (rs ++ r ∷ [])) ≡ flat_map g (enumerate_from 0 rs) ++ f (length rs, r)
modules_more f g rs r same =
    let zero_on : 0 + length rs ≡ length rs = omega arith in
    let split : enumerate_from 0 (rs ++ r ∷ []) ≡ enumerate_from 0 rs ++ (length rs, r) ∷ [] = rw zero_on at (enumerate-append 0 rs (r ∷ [])) in
    let last : flat_map f ((length rs, r) ∷ []) ≡ f (length rs, r) = append-nil (f (length rs, r)) in
    ap (flat_map f) split ∙ flat_map-append f (enumerate_from 0 rs) ((length rs, r) ∷ [])
    ∙ rw (last, flat_same f g 0 (length rs) rs (omega arith) same) refl

filter_same : {A : Type 0} (p q : A → Bool) → ((x : A) → p x ≡ q x) → (xs : List A) → filter p xs ≡ filter q xs
filter_same p q same [] = refl
filter_same p q same (x ∷ xs) = rw (same x, filter_same p q same xs) refl

pub kept_constants_old : (rs : List Read) (m : SymModule) (s k : ℕ) (x : SymModule) → k < length rs → kept_constants (with_module rs m s) k x ≡ kept_constants rs k x
kept_constants_old rs m s k x low =
    ap (in_order stands_before) (filter_same (λ c. is_some (kept_in (with_module rs m s) k c.item)) (λ c. is_some (kept_in rs k c.item)) (λ c. ap is_some (kept_in_old rs m s k c.item low)) x.constants)

filter_map_same : {A : Type 0} (f g : A → Option Symbol) (xs : List A) → AllByRecursion (λ x. f x ≡ g x) xs → filter_map f xs ≡ filter_map g xs
filter_map_same f g [] all = refl
filter_map_same f g (x ∷ xs) all = rw (all.0, filter_map_same f g xs all.1) refl

-- ---- one more module in each list

sights_more : (f : Sight → Option Symbol) (rs : List Read) (m : SymModule) (s : ℕ)
    → firsts symbol_eq (filter_map f (sights (with_module rs m s))) ≡ fold (with_first symbol_eq) (firsts symbol_eq (filter_map f (sights rs))) (filter_map f (sights_in (length rs) s 0 m.items))
sights_more f rs m s =
    ap (λ (xs : List Sight). firsts symbol_eq (filter_map f xs)) (sights_with rs m s)
    ∙ ap (firsts symbol_eq) (filter_map-append f (sights rs) (sights_in (length rs) s 0 m.items))
    ∙ firsts_more (filter_map f (sights rs)) (filter_map f (sights_in (length rs) s 0 m.items))

labels_old : (rs : List Read) (m : SymModule) (s : ℕ) → filter_map (kept_label (with_module rs m s)) (sights rs) ≡ filter_map (kept_label rs) (sights rs)
labels_old rs m s =
    filter_map_same (kept_label (with_module rs m s)) (kept_label rs) (sights rs)
    (all_map _ (λ x. kept_label (with_module rs m s) x ≡ kept_label rs x) (λ x h. ap (λ (b : Bool). cond b (Some (ByName x.item.name)) None) h.1) (sights rs) (all_same_old rs m s))

labels_more : (rs : List Read) (m : SymModule) (s : ℕ) (flags : List Bool) → AllByRecursion (IsMarked (with_module rs m s) flags) (sights_in (length rs) s 0 m.items)
    → firsts symbol_eq (filter_map (kept_label (with_module rs m s)) (sights (with_module rs m s)))
    ≡ fold (with_first symbol_eq) (firsts symbol_eq (filter_map (kept_label rs) (sights rs))) (filter_map (kept_label_by flags) (sights_in (length rs) s 0 m.items))
labels_more rs m s flags marked =
    let new : filter_map (kept_label (with_module rs m s)) (sights_in (length rs) s 0 m.items) ≡ filter_map (kept_label_by flags) (sights_in (length rs) s 0 m.items) =
    filter_map_same (kept_label (with_module rs m s)) (kept_label_by flags) (sights_in (length rs) s 0 m.items)
    (all_map (IsMarked (with_module rs m s) flags) (λ x. kept_label (with_module rs m s) x ≡ kept_label_by flags x) (λ x h. rw h.1 refl) (sights_in (length rs) s 0 m.items) marked) in
    sights_more (kept_label (with_module rs m s)) rs m s ∙ rw (new, labels_old rs m s) refl

control_of : (items : List Item) (n s k : ℕ) → filter_map (λ (x : Sight). named_if is_sd x.item) (sights_in n s k items) ≡ filter_map (named_if is_sd) items
control_of [] n s k = refl
control_of (x ∷ items) n s k = ap (cons_option (named_if is_sd x)) (control_of items n s (k + 1))

-- ---- what the marks say

control_among : (y : Name) (x : Sight) (xs : List Sight) (b : Bool) → list_any (symbol_eq (ByName y)) (filter_map (λ (x : Sight). named_if is_sd x.item) xs) ≡ list_any (is_sd_named y) xs
    → list_any (symbol_eq (ByName y)) (cons_option (cond b (Some (ByName x.item.name)) None) (filter_map (λ (x : Sight). named_if is_sd x.item) xs)) ≡ (b && name_eq x.item.name y || list_any (is_sd_named y) xs)
control_among y x xs true more = rw (more, name_sym y x.item.name) refl
control_among y x xs false more = more

any_control : (y : Name) (xs : List Sight) → list_any (symbol_eq (ByName y)) (filter_map (λ (x : Sight). named_if is_sd x.item) xs) ≡ list_any (is_sd_named y) xs
any_control y [] = refl
any_control y (x ∷ xs) = control_among y x xs (is_sd (kind_of x.item)) (any_control y xs)

none_within : (n j : ℕ) (xs : List Sight) → AllByRecursion (λ (x : Sight). x.of_module < n) xs → list_any (is_at n j) xs ≡ false
none_within n j [] all = refl
none_within n j (x ∷ xs) all =
    let other : (x.of_module == n && x.number == j) ≡ false = low x.of_module x.number all.0 in
    rw (other, none_within n j xs all.1) refl
  where
    low : (a b : ℕ) → a < n → (a == n && b == j) ≡ false
    low a b h = grind (arith, nat_tests)

abbrev pub marks : List Read → SymModule → List Bool
marks rs m = kept_flags (firsts symbol_eq (filter_map (λ (x : Sight). named_if is_sd x.item) (sights rs))) m.items

flags_at : (rs : List Read) (m : SymModule) (s i : ℕ)
    → flag_at (marks rs m) i ≡ is_some (option_and_then (λ x. kept_as (with_module rs m s) x (kind_of x.item)) (option_map (λ x. seen_at (length rs) s i x) (slice_get m.items i)))
flags_at rs m s i =
    let same : 0 + i ≡ i = omega arith in
    rw same at
    (flags_are (with_module rs m s) (length rs) s 0 m.items (sights rs) (firsts symbol_eq (filter_map (λ (x : Sight). named_if is_sd x.item) (sights rs)))
    (sights_with rs m s)
    (λ j. none_within (length rs) (0 + j) (sights rs) (within_from 0 (length rs) rs (omega arith)))
    (λ y. any_firsts (ByName y) (filter_map (λ (x : Sight). named_if is_sd x.item) (sights rs)) ∙ any_control y (sights rs))
    i)

-- the marks of the items say which are kept
pub marks_kept : (rs : List Read) (m : SymModule) (s j : ℕ) → is_some (kept_in (with_module rs m s) (length rs) j) ≡ flag_at (marks rs m) j
marks_kept rs m s j =
    kept_in_some (with_module rs m s) (length rs) j
    ∙ ap (λ (o : Option Sight). is_some (option_and_then (λ x. kept_as (with_module rs m s) x (kind_of x.item)) o)) (sight_at_new rs m s j)
    ∙ sym (flags_at rs m s j)

mark_here : (rs : List Read) (m : SymModule) (s i : ℕ) (x : Item) → slice_get m.items i ≡ Some x
    → is_some (kept_as (with_module rs m s) (seen_at (length rs) s (0 + i) x) (kind_of x)) ≡ flag_at (marks rs m) (0 + i)
mark_here rs m s i x e =
    let same : 0 + i ≡ i = omega arith in
    let flag : flag_at (marks rs m) i ≡ is_some (kept_as (with_module rs m s) (seen_at (length rs) s i x) (kind_of x)) =
    flags_at rs m s i ∙ ap (λ (o : Option Item). is_some (option_and_then (λ x. kept_as (with_module rs m s) x (kind_of x.item)) (option_map (λ x. seen_at (length rs) s i x) o))) e in
    rw same (sym flag)

all_marked : (rs : List Read) (m : SymModule) (s : ℕ) → AllByRecursion (IsMarked (with_module rs m s) (marks rs m)) (sights_in (length rs) s 0 m.items)
all_marked rs m s = marks_in (with_module rs m s) (marks rs m) (length rs) s 0 m.items (mark_here rs m s) (marks_kept rs m s)

constants_kept : (rs : List Read) (m : SymModule) (s : ℕ) → kept_constants (with_module rs m s) (length rs) m ≡ kept_in_order (marks rs m) m.constants
constants_kept rs m s =
    ap (in_order stands_before) (filter_same (λ c. is_some (kept_in (with_module rs m s) (length rs) c.item)) (λ c. flag_at (marks rs m) c.item) (λ c. marks_kept rs m s c.item) m.constants)

-- ---- the fields

puts_symbols : (items : List Item) (c : Contents) (x : SymConst) → (with_constant items c x).symbols ≡ fold (with_first symbol_eq) c.symbols (names_of x)
unfolding with_constant with_target
puts_symbols items c x = field_noted (with_target items) (λ c. c.symbols) (λ t. option_map ByName (name_in t.target)) (λ c t. refl) c x.terms

puts_named : (items : List Item) (c : Contents) (x : SymConst) → (with_constant items c x).named ≡ fold (with_first symbol_eq) c.named (names_of x)
unfolding with_constant with_target
puts_named items c x = field_noted (with_target items) (λ c. c.named) (λ t. option_map ByName (name_in t.target)) (λ c t. refl) c x.terms

puts_labelled : (items : List Item) (c : Contents) (x : SymConst) → (with_constant items c x).labelled ≡ fold (with_first symbol_eq) c.labelled (labels_of items x)
unfolding with_constant with_target
puts_labelled items c x = field_noted (with_target items) (λ c. c.labelled) (λ t. label_meant items t.target) (λ c t. refl) c x.terms

-- the fields that constants leave as they are
pub record IsLike (c d : Contents) : Type 0 where
  pub sections : c.sections ≡ d.sections
  pub registers : c.registers ≡ d.registers
  pub controls : c.controls ≡ d.controls
  pub labels : c.labels ≡ d.labels
  pub strong : c.strong ≡ d.strong
  pub weak : c.weak ≡ d.weak

constant_like : (items : List Item) (c : Contents) (x : SymConst) → IsLike (with_constant items c x) c
unfolding with_constant with_target
constant_like items c x = record {
  sections = field_kept (with_target items) (λ c. c.sections) (λ c t. refl) c x.terms;
  registers = field_kept (with_target items) (λ c. c.registers) (λ c t. refl) c x.terms;
  controls = field_kept (with_target items) (λ c. c.controls) (λ c t. refl) c x.terms;
  labels = field_kept (with_target items) (λ c. c.labels) (λ c t. refl) c x.terms;
  strong = field_kept (with_target items) (λ c. c.strong) (λ c t. refl) c x.terms;
  weak = field_kept (with_target items) (λ c. c.weak) (λ c t. refl) c x.terms;
}

same_fields : (a b c d e f g h i a' b' c' d' e' f' g' h' i' : List Symbol) → a ≡ a' → b ≡ b' → c ≡ c' → d ≡ d' → e ≡ e' → f ≡ f' → g ≡ g' → h ≡ h' → i ≡ i'
    → (let x : Contents = record { symbols = a; sections = b; registers = c; controls = d; labels = e; strong = f; weak = g; named = h; labelled = i } in x)
    ≡ record { symbols = a'; sections = b'; registers = c'; controls = d'; labels = e'; strong = f'; weak = g'; named = h'; labelled = i' }
same_fields a b c d e f g h i a' b' c' d' e' f' g' h' i' p q r s t u v w x = rw (p, q, r, s, t, u, v, w, x) refl

same_contents : (c d : Contents) → c.symbols ≡ d.symbols → IsLike c d → c.named ≡ d.named → c.labelled ≡ d.labelled → c ≡ d
same_contents c d symbols like named labelled =
    same_fields c.symbols c.sections c.registers c.controls c.labels c.strong c.weak c.named c.labelled d.symbols d.sections d.registers d.controls d.labels d.strong d.weak d.named d.labelled
    symbols like.sections like.registers like.controls like.labels like.strong like.weak named labelled

abbrev pub contents_before : List Read → SymModule → Contents
contents_before rs m = fold with_control (content_of rs) m.items

abbrev pub contents_sighted : List Read → SymModule → ℕ → Contents
contents_sighted rs m s = fold (with_sight (marks rs m)) (contents_before rs m) (sights_in (length rs) s 0 m.items)

abbrev pub contents_after : List Read → SymModule → ℕ → Contents
contents_after rs m s = fold (with_constant m.items) (contents_sighted rs m s) (kept_in_order (marks rs m) m.constants)

after_symbols : (rs : List Read) (m : SymModule) (s : ℕ) → (contents_after rs m s).symbols ≡ appearance (with_module rs m s)
unfolding content_of appearance with_sight
after_symbols rs m s =
    let K : List SymConst = kept_in_order (marks rs m) m.constants in
    let N : List Sight = sights_in (length rs) s 0 m.items in
    let r : Read = record { module_ = m; segment = s } in
    let last : (contents_after rs m s).symbols ≡ fold (with_first symbol_eq) (contents_sighted rs m s).symbols (flat_map names_of K) =
    field_many (with_constant m.items) (λ c. c.symbols) names_of (puts_symbols m.items) (contents_sighted rs m s) K in
    let items : (contents_sighted rs m s).symbols ≡ fold (with_first symbol_eq) (contents_before rs m).symbols (filter_map symbol_of N) =
    field_noted (with_sight (marks rs m)) (λ c. c.symbols) symbol_of (λ c x. refl) (contents_before rs m) N in
    let first : (contents_before rs m).symbols ≡ appearance rs = field_kept with_control (λ c. c.symbols) (λ c x. refl) (content_of rs) m.items in
    let old : (k : ℕ) (x : Read) → k < length rs → seen_in (with_module rs m s) (k, x) ≡ seen_in rs (k, x) = λ k x low.
    ap (λ (cs : List SymConst). filter_map symbol_of (sights_in k x.segment 0 x.module_.items) ++ map (λ y. ByName y) (flat_map (λ c. filter_map (λ t. name_in t.target) c.terms) cs)) (kept_constants_old rs m s k x.module_ low) in
    let seen : appearance (with_module rs m s) ≡ fold (with_first symbol_eq) (appearance rs) (seen_in (with_module rs m s) (length rs, r)) =
    ap (firsts symbol_eq) (modules_more (seen_in (with_module rs m s)) (seen_in rs) rs r old) ∙ firsts_more (flat_map (seen_in rs) (enumerate_from 0 rs)) (seen_in (with_module rs m s) (length rs, r)) in
    let names : map (λ y. ByName y) (referred_names (with_module rs m s) (length rs) m) ≡ flat_map names_of K = map_names (kept_constants (with_module rs m s) (length rs) m) ∙ ap (flat_map names_of) (constants_kept rs m s) in
    let here : seen_in (with_module rs m s) (length rs, r) ≡ filter_map symbol_of N ++ flat_map names_of K = ap (λ (ys : List Symbol). filter_map symbol_of N ++ ys) names in
    last ∙ ap (λ (ys : List Symbol). fold (with_first symbol_eq) ys (flat_map names_of K)) (items ∙ ap (λ (ys : List Symbol). fold (with_first symbol_eq) ys (filter_map symbol_of N)) first)
    ∙ sym (seen ∙ ap (fold (with_first symbol_eq) (appearance rs)) here ∙ fold-append (with_first symbol_eq) (appearance rs) (filter_map symbol_of N) (flat_map names_of K))

after_named : (rs : List Read) (m : SymModule) (s : ℕ) → (contents_after rs m s).named ≡ firsts symbol_eq (flat_map (named_in (with_module rs m s)) (enumerate_from 0 (with_module rs m s)))
unfolding content_of with_sight
after_named rs m s =
    let K : List SymConst = kept_in_order (marks rs m) m.constants in
    let N : List Sight = sights_in (length rs) s 0 m.items in
    let r : Read = record { module_ = m; segment = s } in
    let last : (contents_after rs m s).named ≡ fold (with_first symbol_eq) (contents_sighted rs m s).named (flat_map names_of K) =
    field_many (with_constant m.items) (λ c. c.named) names_of (puts_named m.items) (contents_sighted rs m s) K in
    let first : (contents_sighted rs m s).named ≡ (content_of rs).named =
    field_kept (with_sight (marks rs m)) (λ c. c.named) (λ c x. refl) (contents_before rs m) N ∙ field_kept with_control (λ c. c.named) (λ c x. refl) (content_of rs) m.items in
    let old : (k : ℕ) (x : Read) → k < length rs → named_in (with_module rs m s) (k, x) ≡ named_in rs (k, x) = λ k x low. ap (flat_map names_of) (kept_constants_old rs m s k x.module_ low) in
    let more : firsts symbol_eq (flat_map (named_in (with_module rs m s)) (enumerate_from 0 (with_module rs m s))) ≡ fold (with_first symbol_eq) (content_of rs).named (named_in (with_module rs m s) (length rs, r)) =
    ap (firsts symbol_eq) (modules_more (named_in (with_module rs m s)) (named_in rs) rs r old) ∙ firsts_more (flat_map (named_in rs) (enumerate_from 0 rs)) (named_in (with_module rs m s) (length rs, r)) in
    let here : named_in (with_module rs m s) (length rs, r) ≡ flat_map names_of K = ap (flat_map names_of) (constants_kept rs m s) in
    last ∙ ap (λ (ys : List Symbol). fold (with_first symbol_eq) ys (flat_map names_of K)) first ∙ sym (more ∙ ap (fold (with_first symbol_eq) (content_of rs).named) here)

after_labelled : (rs : List Read) (m : SymModule) (s : ℕ) → (contents_after rs m s).labelled ≡ firsts symbol_eq (flat_map (labelled_in (with_module rs m s)) (enumerate_from 0 (with_module rs m s)))
unfolding content_of with_sight
after_labelled rs m s =
    let K : List SymConst = kept_in_order (marks rs m) m.constants in
    let N : List Sight = sights_in (length rs) s 0 m.items in
    let r : Read = record { module_ = m; segment = s } in
    let last : (contents_after rs m s).labelled ≡ fold (with_first symbol_eq) (contents_sighted rs m s).labelled (flat_map (labels_of m.items) K) =
    field_many (with_constant m.items) (λ c. c.labelled) (labels_of m.items) (puts_labelled m.items) (contents_sighted rs m s) K in
    let first : (contents_sighted rs m s).labelled ≡ (content_of rs).labelled =
    field_kept (with_sight (marks rs m)) (λ c. c.labelled) (λ c x. refl) (contents_before rs m) N ∙ field_kept with_control (λ c. c.labelled) (λ c x. refl) (content_of rs) m.items in
    let old : (k : ℕ) (x : Read) → k < length rs → labelled_in (with_module rs m s) (k, x) ≡ labelled_in rs (k, x) = λ k x low. ap (flat_map (labels_of x.module_.items)) (kept_constants_old rs m s k x.module_ low) in
    let more : firsts symbol_eq (flat_map (labelled_in (with_module rs m s)) (enumerate_from 0 (with_module rs m s))) ≡ fold (with_first symbol_eq) (content_of rs).labelled (labelled_in (with_module rs m s) (length rs, r)) =
    ap (firsts symbol_eq) (modules_more (labelled_in (with_module rs m s)) (labelled_in rs) rs r old) ∙ firsts_more (flat_map (labelled_in rs) (enumerate_from 0 rs)) (labelled_in (with_module rs m s) (length rs, r)) in
    let here : labelled_in (with_module rs m s) (length rs, r) ≡ flat_map (labels_of m.items) K = ap (flat_map (labels_of m.items)) (constants_kept rs m s) in
    last ∙ ap (λ (ys : List Symbol). fold (with_first symbol_eq) ys (flat_map (labels_of m.items) K)) first ∙ sym (more ∙ ap (fold (with_first symbol_eq) (content_of rs).labelled) here)

constants_like : (items : List Item) (c : Contents) (K : List SymConst) → IsLike (fold (with_constant items) c K) c
constants_like items c K = record {
  sections = field_kept (with_constant items) (λ c. c.sections) (λ c x. (constant_like items c x).sections) c K;
  registers = field_kept (with_constant items) (λ c. c.registers) (λ c x. (constant_like items c x).registers) c K;
  controls = field_kept (with_constant items) (λ c. c.controls) (λ c x. (constant_like items c x).controls) c K;
  labels = field_kept (with_constant items) (λ c. c.labels) (λ c x. (constant_like items c x).labels) c K;
  strong = field_kept (with_constant items) (λ c. c.strong) (λ c x. (constant_like items c x).strong) c K;
  weak = field_kept (with_constant items) (λ c. c.weak) (λ c x. (constant_like items c x).weak) c K;
}

-- a field of the items alone
item_field : (rs : List Read) (m : SymModule) (s : ℕ) (g : Contents → List Symbol) (f h : Sight → Option Symbol) (new : List Symbol)
    → ((c : Contents) (x : Sight) → g (with_sight (marks rs m) c x) ≡ with_some (g c) (f x)) → ((c : Contents) (x : Item) → g (with_control c x) ≡ g c)
    → new ≡ fold (with_first symbol_eq) (g (content_of rs)) (filter_map f (sights_in (length rs) s 0 m.items))
    → g (contents_sighted rs m s) ≡ new
item_field rs m s g f h new puts keeps is =
    field_noted (with_sight (marks rs m)) g f puts (contents_before rs m) (sights_in (length rs) s 0 m.items)
    ∙ ap (λ (ys : List Symbol). fold (with_first symbol_eq) ys (filter_map f (sights_in (length rs) s 0 m.items))) (field_kept with_control g keeps (content_of rs) m.items)
    ∙ sym is

sighted_like : (rs : List Read) (m : SymModule) (s : ℕ) → IsLike (contents_sighted rs m s) (content_of (with_module rs m s))
unfolding content_of with_sight
sighted_like rs m s = record {
  sections = item_field rs m s (λ c. c.sections) section_symbol section_symbol (section_symbols (with_module rs m s)) (λ c x. refl) (λ c x. refl) (section_symbols_with rs m s);
  registers = item_field rs m s (λ c. c.registers) (λ x. named_if is_register x.item) section_symbol (content_of (with_module rs m s)).registers (λ c x. refl) (λ c x. refl) (sights_more (λ x. named_if is_register x.item) rs m s);
  controls =
      field_kept (with_sight (marks rs m)) (λ c. c.controls) (λ c x. refl) (contents_before rs m) (sights_in (length rs) s 0 m.items)
      ∙ field_noted with_control (λ c. c.controls) (named_if is_sd) (λ c x. refl) (content_of rs) m.items
      ∙ sym (sights_more (λ x. named_if is_sd x.item) rs m s ∙ ap (fold (with_first symbol_eq) (content_of rs).controls) (control_of m.items (length rs) s 0));
  labels = item_field rs m s (λ c. c.labels) (kept_label_by (marks rs m)) section_symbol (content_of (with_module rs m s)).labels (λ c x. refl) (λ c x. refl) (labels_more rs m s (marks rs m) (all_marked rs m s));
  strong = item_field rs m s (λ c. c.strong) (λ x. named_if is_er x.item) section_symbol (content_of (with_module rs m s)).strong (λ c x. refl) (λ c x. refl) (sights_more (λ x. named_if is_er x.item) rs m s);
  weak = item_field rs m s (λ c. c.weak) (λ x. named_if is_wx x.item) section_symbol (content_of (with_module rs m s)).weak (λ c x. refl) (λ c x. refl) (sights_more (λ x. named_if is_wx x.item) rs m s);
}

pub after_is : (rs : List Read) (m : SymModule) (s : ℕ) → contents_after rs m s ≡ content_of (with_module rs m s)
unfolding content_of
after_is rs m s =
    let like = constants_like m.items (contents_sighted rs m s) (kept_in_order (marks rs m) m.constants) in
    let items = sighted_like rs m s in
    same_contents (contents_after rs m s) (content_of (with_module rs m s)) (after_symbols rs m s)
    (record {
      sections = like.sections ∙ items.sections;
      registers = like.registers ∙ items.registers;
      controls = like.controls ∙ items.controls;
      labels = like.labels ∙ items.labels;
      strong = like.strong ∙ items.strong;
      weak = like.weak ∙ items.weak;
    })
    (after_named rs m s) (after_labelled rs m s)

-- ---- the answer

noted_by : (n s : ℕ) (m : SymModule) (c d : Contents) (o : Option Name) → with_sights (kept_flags c.controls m.items) (fold with_control c m.items) (sights_in n s 0 m.items) ≡ outcome o d
    → noted_module n s m c ≡ outcome o (fold (with_constant m.items) d (kept_in_order (kept_flags c.controls m.items) m.constants))
unfolding noted_module
noted_by n s m c d None e = rw e refl
noted_by n s m c d (Some y) e = rw e refl

-- an index of modules without a fault, with one more module
pub noted_as : (rs : List Read) (m : SymModule) (s : ℕ) → double_definition rs ≡ None → noted_module (length rs) s m (content_of rs) ≡ outcome (double_definition (with_module rs m s)) (content_of (with_module rs m s))
unfolding content_of
noted_as rs m s none =
    let labels : (contents_before rs m).labels ≡ firsts symbol_eq (filter_map (kept_label (with_module rs m s)) (sights rs)) =
    field_kept with_control (λ c. c.labels) (λ c x. refl) (content_of rs) m.items ∙ sym (ap (firsts symbol_eq) (labels_old rs m s)) in
    let sections : (contents_before rs m).sections ≡ firsts symbol_eq (filter_map section_symbol (sights rs)) = field_kept with_control (λ c. c.sections) (λ c x. refl) (content_of rs) m.items in
    let clash : with_sights (marks rs m) (contents_before rs m) (sights_in (length rs) s 0 m.items) ≡ outcome (first_clash (with_module rs m s) (sights rs) (sights_in (length rs) s 0 m.items)) (contents_sighted rs m s) =
    clash_is (with_module rs m s) (marks rs m) (contents_before rs m) (sights rs) (sights_in (length rs) s 0 m.items) (sights_with rs m s) (all_marked rs m s) labels sections in
    noted_by (length rs) s m (content_of rs) (contents_sighted rs m s) (first_clash (with_module rs m s) (sights rs) (sights_in (length rs) s 0 m.items)) clash
    ∙ rw (after_is rs m s, clash_in_new rs m s none) refl
