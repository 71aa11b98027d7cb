-- The constants, texts and entries of a program are those of its definition.
use Rattle.std.proofs.Common.{◌≡◌, ℕ, suc, ◌+◌, List, [], ◌∷◌, ◌++◌, map, slice_get, Option, Some, None, unwrap_or, option_map, is_some, refl, sym, ap, ◌∙◌, arith, append-nil, append_assoc, filter_map, flat_map}
use Rattle.std.specs.Prelude.{position}
use Rattle.std.specs.List.{cons_option, enumerate_from}
use Rattle.std.proofs.lemmas.Iterator.Adapters.{position_from-zero}
use Rattle.le_bytes.specs.declared.name.Name.{Name}
use Rattle.le_bytes.specs.Names.{name_eq}
use Rattle.sym_mod.specs.declared.module.Item.{Item}
use Rattle.sym_mod.specs.declared.module.ItemKind.{ItemKind}
use Rattle.sym_mod.specs.declared.module.ItemKind.TheVariants.{Sd, Pc, Cm, Label as LabelItem, Er, Wx, Register as RegisterItem}
use Rattle.sym_mod.specs.declared.module.Frag.{Frag}
use Rattle.sym_mod.specs.declared.module.SymConst.{SymConst}
use Rattle.sym_mod.specs.declared.module.SymTerm.{SymTerm}
use Rattle.sym_mod.specs.declared.module.SymTarget.{SymTarget}
use Rattle.sym_mod.specs.declared.module.SymTarget.TheVariants.{Own, Named, Register as InRegister, Total as OfAll}
use Rattle.sym_mod.specs.declared.module.SymEntry.{SymEntry}
use Rattle.sym_mod.specs.declared.module.SymEntry.TheVariants.{None as NoEntry, At, Named as AtName}
use Rattle.sym_mod.specs.declared.module.SymModule.{SymModule}
use Rattle.sym_mod.specs.declared.program.Label.{Label}
use Rattle.sym_mod.specs.declared.program.Register.{Register}
use Rattle.sym_mod.specs.declared.program.Text.{Text}
use Rattle.sym_mod.specs.declared.program.Constant.{Constant}
use Rattle.sym_mod.specs.declared.program.StartAt.{StartAt}
use Rattle.sym_mod.specs.declared.program.Target.TheVariants.{Register as OfRegister}
use Rattle.sym_mod.specs.declared.program.Term.{Term}
use Rattle.sym_mod.specs.Kinds.{kind_of}
use Rattle.linking_model.specs.Names.{firsts}
use Rattle.linking_model.specs.Kept.{Read, Sight, ByName, symbol_eq, sight_at, section_number, kept_in}
use Rattle.linking_model.specs.Merged.{labels, definition, register_items, register_of, registers, named_target, own_target, meaning, constant_of, constants, text_of, texts, start_of, starts}
use Rattle.esd_index.specs.Contents.{Contents}
use Rattle.esd_index.specs.Steps.{flag_at}
use Rattle.esd_lists.specs.declared.reading.Reading.{Reading}
use Rattle.esd_lists.specs.Indexed.{content_of, Holds}
use Rattle.esd_lists.specs.Held.{as_read}
use Rattle.esd_lists.specs.Looked.{number_by}
use Rattle.esd_lists.specs.Numbered.{Means}
use Rattle.esd_lists.specs.Listed.{pushed}
use Rattle.esd_lists.proofs.Firsts.{name_sym}
use Rattle.esd_lists.proofs.Parts.{fold_pushed, filter_map_ext, home_chosen, seen_is, number_is, registers_is}
use Rattle.esd_lists.proofs.Numbers.{from_map, from_ext}
use Rattle.esd_merge.specs.Meant.{home_at, name_means, item_means, means, term_by, constant_by, start_by, text_by}
use Rattle.esd_merge.specs.Whole.{module_constants, constants_from, starts_from, module_texts, texts_from}

-- ---- homes

pub home_here : (c : Contents) (xs : List Reading) → Holds c xs → (k i : ℕ) (r : Reading) → slice_get xs k ≡ Some r → home_at c k r.segment r.read.items r.kept i ≡ kept_in (map as_read xs) k i
unfolding home_at
home_here c xs h k i r e =
    let rs : List Read = map as_read xs in
    let flag : flag_at r.kept i ≡ is_some (kept_in rs k i) = h.marked k r e i in
    let seen : sight_at rs k i ≡ option_map (λ x. let z : Sight = record { of_module = k; number = i; segment = r.segment; item = x } in z) (slice_get r.read.items i) = sym (seen_is xs k i) ∙ rw e refl in
    rw (number_is rs c h.indexed) (rw seen at (home_chosen rs k i (flag_at r.kept i) (sym flag)))

-- ---- names

name_case : (rs : List Read) (c : Contents) (L U : Name → Option ℕ) → c ≡ content_of rs → Means rs L U → (y : Name) (a b : Option ℕ)
    → section_number rs (ByName y) ≡ a → position (λ (x : Label). name_eq x.name y) (labels rs) ≡ b → name_means c L U y ≡ named_target rs y (definition rs y)
unfolding name_means definition
name_case rs c L U is m y (Some i) b d e =
    let number : number_by c (ByName y) ≡ Some i = ap (position (symbol_eq (ByName y))) (number_is rs c is) ∙ d in
    rw (number, d) refl
name_case rs c L U is m y None (Some i) d e =
    let number : number_by c (ByName y) ≡ None = ap (position (symbol_eq (ByName y))) (number_is rs c is) ∙ d in
    let label : L y ≡ Some i = m.of_labels y ∙ e in
    rw (number, label, d, e) refl
name_case rs c L U is m y None None d e =
    let number : number_by c (ByName y) ≡ None = ap (position (symbol_eq (ByName y))) (number_is rs c is) ∙ d in
    let label : L y ≡ None = m.of_labels y ∙ e in
    rw (number, label, d, e, m.of_unknowns y) refl

name_is : (rs : List Read) (c : Contents) (L U : Name → Option ℕ) → c ≡ content_of rs → Means rs L U → (y : Name) → name_means c L U y ≡ named_target rs y (definition rs y)
name_is rs c L U is m y = name_case rs c L U is m y (section_number rs (ByName y)) (position (λ (x : Label). name_eq x.name y) (labels rs)) refl refl

item_case : (rs : List Read) (c : Contents) (L U : Name → Option ℕ) → c ≡ content_of rs → Means rs L U → (k n : ℕ) (x : Item) (kind : ItemKind) → kind_of x ≡ kind → item_means c L U k n (Some x) ≡ own_target rs k n (Some x)
item_case rs c L U is m k n x Pc e = rw (e, number_is rs c is) refl
item_case rs c L U is m k n x Sd e = rw e (name_is rs c L U is m x.name)
item_case rs c L U is m k n x Cm e = rw e (name_is rs c L U is m x.name)
item_case rs c L U is m k n x LabelItem e = rw e (name_is rs c L U is m x.name)
item_case rs c L U is m k n x Er e = rw e (name_is rs c L U is m x.name)
item_case rs c L U is m k n x Wx e = rw e (name_is rs c L U is m x.name)
item_case rs c L U is m k n x RegisterItem e = rw e (name_is rs c L U is m x.name)

item_is : (rs : List Read) (c : Contents) (L U : Name → Option ℕ) → c ≡ content_of rs → Means rs L U → (k n : ℕ) (o : Option Item) → item_means c L U k n o ≡ own_target rs k n o
item_is rs c L U is m k n None = refl
item_is rs c L U is m k n (Some x) = item_case rs c L U is m k n x (kind_of x) refl

pub register_place : (rs : List Read) (c : Contents) (y : Name) → c ≡ content_of rs → position (symbol_eq (ByName y)) c.registers ≡ position (λ (r : Register). name_eq r.name y) (registers rs)
register_place rs c y is =
    let names : List Name = firsts name_eq (map (λ x. x.item.name) (register_items rs)) in
    ap (position (symbol_eq (ByName y))) (registers_is rs c is)
    ∙ position_from-zero (symbol_eq (ByName y)) (map ByName names)
    ∙ from_map (symbol_eq (ByName y)) ByName 0 names
    ∙ from_ext (λ n. name_eq y n) (λ n. name_eq n y) (name_sym y) 0 names
    ∙ sym (from_map (λ (r : Register). name_eq r.name y) (register_of rs) 0 names)
    ∙ sym (position_from-zero (λ (r : Register). name_eq r.name y) (registers rs))

means_is : (rs : List Read) (c : Contents) (L U : Name → Option ℕ) → c ≡ content_of rs → Means rs L U → (k : ℕ) (x : SymModule) (t : SymTarget) → means c L U k x.items t ≡ meaning rs k x t
unfolding means
means_is rs c L U is m k x (Own n) = item_is rs c L U is m k n (slice_get x.items n)
means_is rs c L U is m k x (Named y) = name_is rs c L U is m y
means_is rs c L U is m k x (InRegister y) = ap (λ (o : Option ℕ). OfRegister (unwrap_or o 0)) (register_place rs c y is)
means_is rs c L U is m k x OfAll = refl

terms_are : (rs : List Read) (c : Contents) (L U : Name → Option ℕ) → c ≡ content_of rs → Means rs L U → (k : ℕ) (x : SymModule) (ts : List SymTerm)
    → map (term_by c L U k x.items) ts ≡ map (λ t. let z : Term = record { minus = t.minus; target = meaning rs k x t.target; base = t.base } in z) ts
terms_are rs c L U is m k x [] = refl
terms_are rs c L U is m k x (t ∷ ts) = rw (means_is rs c L U is m k x t.target, terms_are rs c L U is m k x ts) refl

constant_is : (c : Contents) (xs : List Reading) (L U : Name → Option ℕ) → Holds c xs → Means (map as_read xs) L U → (k : ℕ) (r : Reading) → slice_get xs k ≡ Some r
    → (x : SymConst) → constant_by c L U k r.segment r.read.items r.kept x ≡ constant_of (map as_read xs) k r.read x
unfolding constant_by
constant_is c xs L U h m k r e x = rw (home_here c xs h k x.item r e, terms_are (map as_read xs) c L U h.indexed m k r.read x.terms) refl

start_is : (c : Contents) (xs : List Reading) → Holds c xs → (k : ℕ) (r : Reading) → slice_get xs k ≡ Some r → (e : SymEntry) → r.read.entry ≡ e
    → start_by c k r.segment r.read.items r.kept e ≡ start_of (map as_read xs) (k, as_read r)
unfolding start_by
start_is c xs h k r at_k NoEntry e = rw e refl
start_is c xs h k r at_k (At n offset) e = rw (e, home_here c xs h k n r at_k) refl
start_is c xs h k r at_k (AtName y) e = rw e refl

text_is : (c : Contents) (xs : List Reading) → Holds c xs → (k : ℕ) (r : Reading) → slice_get xs k ≡ Some r → (f : Frag) → text_by c k r.segment r.read.items r.kept f ≡ text_of (map as_read xs) k f
unfolding text_by
text_is c xs h k r e f = rw (home_here c xs h k f.item r e) refl

-- ---- all modules

-- these modules stand from number k on
abbrev StandFrom : List Reading → ℕ → List Reading → Type 0
StandFrom xs k ys = (i : ℕ) (r : Reading) → slice_get ys i ≡ Some r → slice_get xs (k + i) ≡ Some r

stands_here : (xs : List Reading) (k : ℕ) (r : Reading) (ys : List Reading) → StandFrom xs k (r ∷ ys) → slice_get xs k ≡ Some r
stands_here xs k r ys stand =
    let same : k + 0 ≡ k = omega arith in
    rw same at (stand 0 r refl)

stands_later : (xs : List Reading) (k : ℕ) (r : Reading) (ys : List Reading) → StandFrom xs k (r ∷ ys) → StandFrom xs (k + 1) ys
stands_later xs k r ys stand i z e =
    let same : k + suc i ≡ k + 1 + i = omega arith in
    rw same at (stand (suc i) z e)

constants_go : (c : Contents) (xs : List Reading) (L U : Name → Option ℕ) → Holds c xs → Means (map as_read xs) L U → (l : List Constant) (k : ℕ) (ys : List Reading) → StandFrom xs k ys
    → constants_from c L U l k ys ≡ l ++ flat_map (λ (m, r). filter_map (constant_of (map as_read xs) m r.module_) r.module_.constants) (enumerate_from k (map as_read ys))
unfolding module_constants
constants_go c xs L U h m l k [] stand = sym (append-nil l)
constants_go c xs L U h m l k (r ∷ ys) stand =
    let here : module_constants c L U l k r ≡ l ++ filter_map (constant_of (map as_read xs) k r.read) r.read.constants =
    fold_pushed (constant_by c L U k r.segment r.read.items r.kept) l r.read.constants
    ∙ ap (λ (zs : List Constant). l ++ zs) (filter_map_ext (constant_by c L U k r.segment r.read.items r.kept) (constant_of (map as_read xs) k r.read) (constant_is c xs L U h m k r (stands_here xs k r ys stand)) r.read.constants) in
    constants_go c xs L U h m (module_constants c L U l k r) (k + 1) ys (stands_later xs k r ys stand)
    ∙ rw here (append_assoc l (filter_map (constant_of (map as_read xs) k r.read) r.read.constants) (flat_map (λ (m, r). filter_map (constant_of (map as_read xs) m r.module_) r.module_.constants) (enumerate_from (k + 1) (map as_read ys))))

from_zero : (xs : List Reading) → StandFrom xs 0 xs
from_zero xs i r e =
    let same : 0 + i ≡ i = omega arith in
    rw same e

pub constants_are : (c : Contents) (xs : List Reading) (L U : Name → Option ℕ) → Holds c xs → Means (map as_read xs) L U → constants_from c L U [] 0 xs ≡ constants (map as_read xs)
constants_are c xs L U h m = constants_go c xs L U h m [] 0 xs (from_zero xs)

starts_go : (c : Contents) (xs : List Reading) → Holds c xs → (l : List StartAt) (k : ℕ) (ys : List Reading) → StandFrom xs k ys
    → starts_from c l k ys ≡ l ++ filter_map (start_of (map as_read xs)) (enumerate_from k (map as_read ys))
starts_go c xs h l k [] stand = sym (append-nil l)
starts_go c xs h l k (r ∷ ys) stand =
    let here : start_by c k r.segment r.read.items r.kept r.read.entry ≡ start_of (map as_read xs) (k, as_read r) = start_is c xs h k r (stands_here xs k r ys stand) r.read.entry refl in
    starts_go c xs h (pushed l (start_by c k r.segment r.read.items r.kept r.read.entry)) (k + 1) ys (stands_later xs k r ys stand)
    ∙ rw here (pushed_case l (start_of (map as_read xs) (k, as_read r)) (filter_map (start_of (map as_read xs)) (enumerate_from (k + 1) (map as_read ys))))
  where
    pushed_case : (l : List StartAt) (o : Option StartAt) (zs : List StartAt) → pushed l o ++ zs ≡ l ++ cons_option o zs
    pushed_case l None zs = refl
    pushed_case l (Some x) zs = append_assoc l (x ∷ []) zs

pub starts_are : (c : Contents) (xs : List Reading) → Holds c xs → starts_from c [] 0 xs ≡ starts (map as_read xs)
starts_are c xs h = starts_go c xs h [] 0 xs (from_zero xs)

texts_go : (c : Contents) (xs : List Reading) → Holds c xs → (l : List Text) (k : ℕ) (ys : List Reading) → StandFrom xs k ys
    → texts_from c l k ys ≡ l ++ flat_map (λ (m, r). filter_map (text_of (map as_read xs) m) r.module_.fragments) (enumerate_from k (map as_read ys))
unfolding module_texts
texts_go c xs h l k [] stand = sym (append-nil l)
texts_go c xs h l k (r ∷ ys) stand =
    let here : module_texts c l k r ≡ l ++ filter_map (text_of (map as_read xs) k) r.read.fragments =
    fold_pushed (text_by c k r.segment r.read.items r.kept) l r.read.fragments
    ∙ ap (λ (zs : List Text). l ++ zs) (filter_map_ext (text_by c k r.segment r.read.items r.kept) (text_of (map as_read xs) k) (text_is c xs h k r (stands_here xs k r ys stand)) r.read.fragments) in
    texts_go c xs h (module_texts c l k r) (k + 1) ys (stands_later xs k r ys stand)
    ∙ rw here (append_assoc l (filter_map (text_of (map as_read xs) k) r.read.fragments) (flat_map (λ (m, r). filter_map (text_of (map as_read xs) m) r.module_.fragments) (enumerate_from (k + 1) (map as_read ys))))

pub texts_are : (c : Contents) (xs : List Reading) → Holds c xs → texts_from c [] 0 xs ≡ texts (map as_read xs)
texts_are c xs h = texts_go c xs h [] 0 xs (from_zero xs)
