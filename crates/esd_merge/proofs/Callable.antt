-- The names that are to be called, and where a module may make one of them.
use Rattle.std.proofs.Common.{◌≡◌, ℕ, zero, suc, ◌+◌, ◌<◌, ◌≤◌, Bool, true, false, not, ◌&&◌, ◌||◌, cond, List, [], ◌∷◌, ◌++◌, length, map, fold, drop, get_or, filter_map, slice_get, Option, Some, None, refl, sym, ap, ◌∙◌, subst, arith, Result, Ok, Err, IfOk, ◌⊎◌, inl, inr, append-nil, append_assoc}
use Rattle.std.specs.Prelude.{position, option_and_then}
use Rattle.std.specs.List.{list_any, position_from, cons_option}
use Rattle.std.proofs.lemmas.Iterator.Adapters.{position_from-zero}
use Rattle.std.proofs.lemmas.List.{drop_more}
use Rattle.le_bytes.specs.declared.name.Name.{Name}
use Rattle.sym_mod.specs.declared.module.SymModule.{SymModule}
use Rattle.sym_mod.specs.declared.module.Item.{Item}
use Rattle.sym_mod.specs.declared.module.SymConst.{SymConst}
use Rattle.sym_mod.specs.declared.module.SymTerm.{SymTerm}
use Rattle.sym_mod.specs.declared.program.Unknown.{Unknown}
use Rattle.linking_model.specs.Kept.{Read, Sight, Symbol, ByName, Private, symbol_eq, sights_in, appearance}
use Rattle.linking_model.specs.Merged.{unknown_of, unresolved}
use Rattle.esd_index.specs.Contents.{Contents}
use Rattle.esd_index.specs.Keys.{as_symbol}
use Rattle.esd_index.specs.Marked.{with_some}
use Rattle.esd_index.specs.declared.key.Key.{Key}
use Rattle.esd_index.specs.Steps.{with_control, with_sight, with_target, with_constant}
use Rattle.esd_index.specs.Modules.{kept_in_order}
use Rattle.esd_index.proofs.Parts.{symbol_refl, symbol_same}
use Rattle.esd_lists.specs.Indexed.{content_of}
use Rattle.esd_lists.specs.Listed.{has, unknown_by}
use Rattle.esd_lists.proofs.Unknowns.{unknown_is}
use Rattle.esd_merge.specs.declared.fault.MergeFault.{MergeFault}
use Rattle.esd_merge.specs.Added.{with_module, AddAnswer}
use Rattle.esd_merge.specs.Calls.{AreInOrder, strong_name, called_name, callable_at, lesser, least_place, changed_from, changed_place, WereCalled}
use Rattle.esd_merge.proofs.Adding.{contents_before, contents_sighted, contents_after, marks, after_is}

-- ---- the names, by an index

abbrev pub called_by : Contents → Symbol → Option Name
called_by c y = strong_name (unknown_by c y)

abbrev pub callable_by : Contents → ℕ → Option Name
callable_by c k = option_and_then (called_by c) (slice_get c.symbols k)

at_symbol : (rs : List Read) (o : Option Symbol) → option_and_then (called_by (content_of rs)) o ≡ option_and_then (called_name rs) o
at_symbol rs None = refl
at_symbol rs (Some y) = ap strong_name (unknown_is rs y)

pub symbols_are : (rs : List Read) → (content_of rs).symbols ≡ appearance rs
unfolding content_of
symbols_are rs = refl

pub callable_is : (rs : List Read) (c : Contents) (k : ℕ) → c ≡ content_of rs → callable_by c k ≡ callable_at rs k
unfolding callable_at
callable_is rs c k is =
    rw is (ap (λ (ys : List Symbol). option_and_then (called_by (content_of rs)) (slice_get ys k)) (symbols_are rs) ∙ at_symbol rs (slice_get (appearance rs) k))

strong_case : (o : Option Unknown) (ys : List Name) (us : List Unknown) → ys ≡ filter_map (λ u. strong_name (Some u)) us → cons_option (strong_name o) ys ≡ filter_map (λ u. strong_name (Some u)) (cons_option o us)
strong_case None ys us e = e
strong_case (Some u) ys us e = ap (cons_option (strong_name (Some u))) e

strong_among : (f : Symbol → Option Unknown) (ys : List Symbol) → filter_map (λ y. strong_name (f y)) ys ≡ filter_map (λ u. strong_name (Some u)) (filter_map f ys)
strong_among f [] = refl
strong_among f (y ∷ ys) = strong_case (f y) (filter_map (λ y. strong_name (f y)) ys) (filter_map f ys) (strong_among f ys)

pub in_order : AreInOrder
unfolding unresolved
in_order rs = strong_among (unknown_of rs) (appearance rs)

-- ---- lists that grow

abbrev Grows : List Symbol → List Symbol → Type 0
Grows xs ys = (more : List Symbol) × (ys ≡ xs ++ more)

grows_same : (xs : List Symbol) → Grows xs xs
grows_same xs = ([], sym (append-nil xs))

grows_on : (xs ys zs : List Symbol) → Grows xs ys → Grows ys zs → Grows xs zs
grows_on xs ys zs a b = (a.0 ++ b.0, b.1 ∙ ap (λ (w : List Symbol). w ++ b.0) a.1 ∙ append_assoc xs a.0 b.0)

grows_cond : (xs : List Symbol) (y : Symbol) (b : Bool) → Grows xs (cond b xs (xs ++ y ∷ []))
grows_cond xs y true = grows_same xs
grows_cond xs y false = (y ∷ [], refl)

grows_some : (xs : List Symbol) (o : Option Symbol) → Grows xs (with_some xs o)
grows_some xs None = grows_same xs
grows_some xs (Some y) = grows_cond xs y (list_any (symbol_eq y) xs)

grows_fold : {A : Type 0} (f : Contents → A → Contents) (g : Contents → List Symbol) → ((c : Contents) (x : A) → Grows (g c) (g (f c x))) → (c : Contents) (xs : List A) → Grows (g c) (g (fold f c xs))
grows_fold f g step c [] = grows_same (g c)
grows_fold f g step c (x ∷ xs) = grows_on (g c) (g (f c x)) (g (fold f (f c x) xs)) (step c x) (grows_fold f g step (f c x) xs)

module_grows : (rs : List Read) (m : SymModule) (s : ℕ) (g : Contents → List Symbol)
    → ((c : Contents) (x : Item) → Grows (g c) (g (with_control c x)))
    → ((c : Contents) (x : Sight) → Grows (g c) (g (with_sight (marks rs m) c x)))
    → ((c : Contents) (t : SymTerm) → Grows (g c) (g (with_target m.items c t)))
    → Grows (g (content_of rs)) (g (content_of (with_module rs m s)))
unfolding with_constant
module_grows rs m s g control sight target =
    let constant : (c : Contents) (x : SymConst) → Grows (g c) (g (with_constant m.items c x)) = λ c x. grows_fold (with_target m.items) g target c x.terms in
    let to_end : Grows (g (content_of rs)) (g (contents_after rs m s)) =
    grows_on (g (content_of rs)) (g (contents_before rs m)) (g (contents_after rs m s)) (grows_fold with_control g control (content_of rs) m.items)
    (grows_on (g (contents_before rs m)) (g (contents_sighted rs m s)) (g (contents_after rs m s)) (grows_fold (with_sight (marks rs m)) g sight (contents_before rs m) (sights_in (length rs) s 0 m.items))
    (grows_fold (with_constant m.items) g constant (contents_sighted rs m s) (kept_in_order (marks rs m) m.constants))) in
    subst (λ (d : Contents). Grows (g (content_of rs)) (g d)) (after_is rs m s) to_end

pub record AllGrow (c d : Contents) : Type 0 where
  pub symbols : Grows c.symbols d.symbols
  pub sections : Grows c.sections d.sections
  pub labels : Grows c.labels d.labels
  pub strong : Grows c.strong d.strong
  pub weak : Grows c.weak d.weak
  pub named : Grows c.named d.named
  pub labelled : Grows c.labelled d.labelled

pub all_grow : (rs : List Read) (m : SymModule) (s : ℕ) → AllGrow (content_of rs) (content_of (with_module rs m s))
unfolding with_sight with_target
all_grow rs m s = record {
  symbols = module_grows rs m s (λ c. c.symbols) (λ c x. grows_same c.symbols) (λ c x. grows_some c.symbols _) (λ c t. grows_some c.symbols _);
  sections = module_grows rs m s (λ c. c.sections) (λ c x. grows_same c.sections) (λ c x. grows_some c.sections _) (λ c t. grows_same c.sections);
  labels = module_grows rs m s (λ c. c.labels) (λ c x. grows_same c.labels) (λ c x. grows_some c.labels _) (λ c t. grows_same c.labels);
  strong = module_grows rs m s (λ c. c.strong) (λ c x. grows_same c.strong) (λ c x. grows_some c.strong _) (λ c t. grows_same c.strong);
  weak = module_grows rs m s (λ c. c.weak) (λ c x. grows_same c.weak) (λ c x. grows_some c.weak _) (λ c t. grows_same c.weak);
  named = module_grows rs m s (λ c. c.named) (λ c x. grows_same c.named) (λ c x. grows_same c.named) (λ c t. grows_some c.named _);
  labelled = module_grows rs m s (λ c. c.labelled) (λ c x. grows_same c.labelled) (λ c x. grows_same c.labelled) (λ c t. grows_some c.labelled _);
}

-- ---- the least place

low_of : (n : ℕ) (o : Option ℕ) → lesser n o ≤ n
unfolding lesser
low_of n None = omega arith
low_of n (Some k) = omega arith

least_low : (all : List Symbol) (n : ℕ) (ys : List Symbol) → least_place all n ys ≤ n
least_low all n [] = omega arith
least_low all n (y ∷ ys) =
    let here : lesser n (position (symbol_eq y) all) ≤ n = low_of n (position (symbol_eq y) all) in
    let later : least_place all (lesser n (position (symbol_eq y) all)) ys ≤ lesser n (position (symbol_eq y) all) = least_low all (lesser n (position (symbol_eq y) all)) ys in
    omega (arith, here, later)

found_by : (p : Symbol → Bool) (n j : ℕ) (xs : List Symbol) (y : Symbol) → slice_get xs j ≡ Some y → p y ≡ true → (i : ℕ) × (position_from p n xs ≡ Some i) × (i ≤ n + j)
found_by p n j [] y at_j e = absurd cc
found_by p n zero (x ∷ xs) y at_j e =
    let same : x ≡ y = cc in
    let here : p x ≡ true = subst (λ (z : Symbol). p z ≡ true) (sym same) e in
    (n, rw here refl, omega arith)
found_by p n (suc j) (x ∷ xs) y at_j e = head (p x) (found_by p (n + 1) j xs y at_j e)
  where
    head : (b : Bool) → ((i : ℕ) × (position_from p (n + 1) xs ≡ Some i) × (i ≤ n + 1 + j)) → (i : ℕ) × (cond b (Some n) (position_from p (n + 1) xs) ≡ Some i) × (i ≤ n + suc j)
    head true more = (n, refl, omega arith)
    head false more = (more.0, more.1, omega (arith, more.2))

pub position_low : (s : Symbol) (j : ℕ) (xs : List Symbol) → slice_get xs j ≡ Some s → (i : ℕ) × (position (symbol_eq s) xs ≡ Some i) × (i ≤ j)
position_low s j xs at_j =
    let f = found_by (symbol_eq s) 0 j xs s at_j (symbol_refl s) in
    (f.0, position_from-zero (symbol_eq s) xs ∙ f.1, omega (arith, f.2))

least_found : (all : List Symbol) (n i : ℕ) (s : Symbol) (ys : List Symbol) → position (symbol_eq s) all ≡ Some i → list_any (symbol_eq s) ys ≡ true → least_place all n ys ≤ i
unfolding lesser
least_found all n i s [] at_i e = absurd cc
least_found all n i s (y ∷ ys) at_i e = head (symbol_eq s y) refl e (least_found all (lesser n (position (symbol_eq y) all)) i s ys at_i)
  where
    head : (b : Bool) → symbol_eq s y ≡ b → (b || list_any (symbol_eq s) ys) ≡ true
        → (list_any (symbol_eq s) ys ≡ true → least_place all (lesser n (position (symbol_eq y) all)) ys ≤ i) → least_place all (lesser n (position (symbol_eq y) all)) ys ≤ i
    head false d e more = more e
    head true d e more =
        let at_y : position (symbol_eq y) all ≡ Some i = ap (λ (z : Symbol). position (symbol_eq z) all) (sym (symbol_same s y d)) ∙ at_i in
        let low : least_place all (lesser n (position (symbol_eq y) all)) ys ≤ lesser n (position (symbol_eq y) all) = least_low all (lesser n (position (symbol_eq y) all)) ys in
        let here : lesser n (position (symbol_eq y) all) ≤ i = rw at_y (omega arith) in
        omega (arith, low, here)

-- one symbol more
pub next_least : (all : List Symbol) (keys : List Key) (i k r most : ℕ) (d : Key) → i < length keys → r ≡ lesser k (position (symbol_eq (as_symbol (get_or keys i d))) all)
    → least_place all k (map as_symbol (drop i keys)) ≡ least_place all most (map as_symbol keys) → least_place all r (map as_symbol (drop (i + 1) keys)) ≡ least_place all most (map as_symbol keys)
next_least all keys i k r most d low is before =
    let step : least_place all k (map as_symbol (drop i keys)) ≡ least_place all (lesser k (position (symbol_eq (as_symbol (get_or keys i d))) all)) (map as_symbol (drop (i + 1) keys)) =
    ap (λ (ks : List Key). least_place all k (map as_symbol ks)) (drop_more keys i d low) in
    ap (λ (n : ℕ). least_place all n (map as_symbol (drop (i + 1) keys))) is ∙ sym step ∙ before

-- ---- what is new

drop_old : (xs ys : List Symbol) → drop (length xs) (xs ++ ys) ≡ ys
drop_old [] ys = refl
drop_old (x ∷ xs) ys = drop_old xs ys

any_more : (p : Symbol → Bool) (xs ys : List Symbol) → list_any p (xs ++ ys) ≡ (list_any p xs || list_any p ys)
any_more p [] ys = refl
any_more p (x ∷ xs) ys = head (p x) (any_more p xs ys)
  where
    head : (b : Bool) → list_any p (xs ++ ys) ≡ (list_any p xs || list_any p ys) → (b || list_any p (xs ++ ys)) ≡ ((b || list_any p xs) || list_any p ys)
    head true e = refl
    head false e = e

has_more : (xs ys : List Symbol) (y : Name) → Grows xs ys → has ys y ≡ (has xs y || has (drop (length xs) ys) y)
has_more xs ys y g = rw (g.1, drop_old xs g.0) (any_more (symbol_eq (ByName y)) xs g.0)

-- ---- what can make a name one that is to be called

abbrev called_if : Bool → Bool → Bool → Bool → Bool → Bool → Name → Option Name
called_if s w n l e a y = strong_name (cond (((s || w) || (n || l)) && not (e || a)) (Some (record { name = y; weak = (w && not s) && not l })) None)

or_false : (b : Bool) → (b || false) ≡ b
or_false true = refl
or_false false = refl

-- less that is weak or defined
fewer : (s w n l e a v d b : Bool) (y z : Name) → called_if s (w || v) n l (e || d) (a || b) y ≡ Some z → called_if s w n l e a y ≡ Some z
fewer s w n l e a v d b y z h = grind arith

split : (s w n l e a p v q r d b : Bool) (y z : Name) → called_if (s || p) (w || v) (n || q) (l || r) (e || d) (a || b) y ≡ Some z
    → (called_if s w n l e a y ≡ Some z) ⊎ (((p || q) || r) ≡ true)
split s w n l e a true v q r d b y z h = inr refl
split s w n l e a false v true r d b y z h = inr refl
split s w n l e a false v false true d b y z h = inr refl
split s w n l e a false v false false d b y z h = inl (fewer s w n l e a v d b y z (rw (or_false s, or_false n, or_false l) at h))

called_flags : (c : Contents) (y : Name) → called_by c (ByName y) ≡ called_if (has c.strong y) (has c.weak y) (has c.named y) (has c.labelled y) (has c.sections y) (has c.labels y) y
unfolding unknown_by
called_flags c y = refl

fresh_has : Contents → Contents → Name → Bool
fresh_has c d y = (has (drop (length c.strong) d.strong) y || has (drop (length c.named) d.named) y) || has (drop (length c.labelled) d.labelled) y

called_more : (c d : Contents) (y z : Name) → AllGrow c d → called_by d (ByName y) ≡ Some z → (called_by c (ByName y) ≡ Some z) ⊎ (fresh_has c d y ≡ true)
unfolding fresh_has
called_more c d y z g h =
    let flags : called_if (has d.strong y) (has d.weak y) (has d.named y) (has d.labelled y) (has d.sections y) (has d.labels y) y ≡ Some z = sym (called_flags d y) ∙ h in
    elim (split (has c.strong y) (has c.weak y) (has c.named y) (has c.labelled y) (has c.sections y) (has c.labels y) _ _ _ _ _ _ y z
    (rw (has_more c.strong d.strong y g.strong, has_more c.weak d.weak y g.weak, has_more c.named d.named y g.named, has_more c.labelled d.labelled y g.labelled, has_more c.sections d.sections y g.sections, has_more c.labels d.labels y g.labels) at flags)) [
      | inl old ↦ inl (called_flags c y ∙ old)
      | inr new ↦ inr new
    ]

get_front : (xs ys : List Symbol) (j : ℕ) → j < length xs → slice_get (xs ++ ys) j ≡ slice_get xs j
get_front [] ys j low = absurd (omega (arith, low))
get_front (x ∷ xs) ys zero low = refl
get_front (x ∷ xs) ys (suc j) low = get_front xs ys j (omega (arith, low))

fresh_low : (c d : Contents) (y : Name) (j : ℕ) → slice_get d.symbols j ≡ Some (ByName y) → fresh_has c d y ≡ true → changed_from c d ≤ j
unfolding changed_from fresh_has
fresh_low c d y j at_j e =
    let i = position_low (ByName y) j d.symbols at_j in
    let n1 : ℕ = least_place d.symbols (length c.symbols) (drop (length c.strong) d.strong) in
    let n2 : ℕ = least_place d.symbols n1 (drop (length c.named) d.named) in
    let n3 : ℕ = least_place d.symbols n2 (drop (length c.labelled) d.labelled) in
    let low2 : n2 ≤ n1 = least_low d.symbols n1 (drop (length c.named) d.named) in
    let low3 : n3 ≤ n2 = least_low d.symbols n2 (drop (length c.labelled) d.labelled) in
    by_list n1 n2 n3 i.0 j low2 low3 i.2 (has (drop (length c.strong) d.strong) y) (has (drop (length c.named) d.named) y) (has (drop (length c.labelled) d.labelled) y)
    (least_found d.symbols (length c.symbols) i.0 (ByName y) (drop (length c.strong) d.strong) i.1)
    (least_found d.symbols n1 i.0 (ByName y) (drop (length c.named) d.named) i.1)
    (least_found d.symbols n2 i.0 (ByName y) (drop (length c.labelled) d.labelled) i.1) e
  where
    by_list : (n1 n2 n3 i j : ℕ) → n2 ≤ n1 → n3 ≤ n2 → i ≤ j → (p q r : Bool) → (p ≡ true → n1 ≤ i) → (q ≡ true → n2 ≤ i) → (r ≡ true → n3 ≤ i) → ((p || q) || r) ≡ true → n3 ≤ j
    by_list n1 n2 n3 i j a b low true q r f g h e =
        let here : n1 ≤ i = f refl in
        omega (arith, a, b, low, here)
    by_list n1 n2 n3 i j a b low false true r f g h e =
        let here : n2 ≤ i = g refl in
        omega (arith, b, low, here)
    by_list n1 n2 n3 i j a b low false false true f g h e =
        let here : n3 ≤ i = h refl in
        omega (arith, low, here)
    by_list n1 n2 n3 i j a b low false false false f g h e = absurd (cc e)

changed_low : (c d : Contents) → changed_from c d ≤ length c.symbols
unfolding changed_from
changed_low c d =
    let n1 : ℕ = least_place d.symbols (length c.symbols) (drop (length c.strong) d.strong) in
    let n2 : ℕ = least_place d.symbols n1 (drop (length c.named) d.named) in
    let a : n1 ≤ length c.symbols = least_low d.symbols (length c.symbols) (drop (length c.strong) d.strong) in
    let b : n2 ≤ n1 = least_low d.symbols n1 (drop (length c.named) d.named) in
    let e : least_place d.symbols n2 (drop (length c.labelled) d.labelled) ≤ n2 = least_low d.symbols n2 (drop (length c.labelled) d.labelled) in
    omega (arith, a, b, e)

none_private : (c : Contents) (k i : ℕ) → called_by c (Private k i) ≡ None
unfolding unknown_by
none_private c k i = refl

at_front : (c d : Contents) (j : ℕ) (z : Name) (o : Option Symbol) → AllGrow c d → j < changed_from c d → slice_get d.symbols j ≡ o → slice_get c.symbols j ≡ o → option_and_then (called_by d) o ≡ Some z → option_and_then (called_by c) o ≡ Some z
at_front c d j z None g low e f h = absurd (cc h)
at_front c d j z (Some (Private k i)) g low e f h = absurd (cc (sym (none_private d k i) ∙ h))
at_front c d j z (Some (ByName y)) g low e f h = elim (called_more c d y z g h) [
  | inl old ↦ old
  | inr new ↦
      let above : changed_from c d ≤ j = fresh_low c d y j e new in
      absurd (omega (arith, low, above))
]

pub were_called : (rs : List Read) (m : SymModule) (s : ℕ) → WereCalled rs (with_module rs m s) (changed_from (content_of rs) (content_of (with_module rs m s)))
were_called rs m s j z low h =
    let c : Contents = content_of rs in
    let d : Contents = content_of (with_module rs m s) in
    let g : AllGrow c d = all_grow rs m s in
    let old : changed_from c d ≤ length c.symbols = changed_low c d in
    let in_old : j < length c.symbols = omega (arith, low, old) in
    let same : slice_get d.symbols j ≡ slice_get c.symbols j = ap (λ (ys : List Symbol). slice_get ys j) g.symbols.1 ∙ get_front c.symbols g.symbols.0 j in_old in
    let here : callable_by d j ≡ Some z = callable_is (with_module rs m s) d j refl ∙ h in
    sym (callable_is rs c j refl) ∙ at_front c d j z (slice_get c.symbols j) g low same refl (ap (option_and_then (called_by d)) (sym same) ∙ here)

-- the modules with one more, where it was added
pub called_after : (old new : List Read) (m : SymModule) (s : ℕ) (r : Result ℕ MergeFault) → AddAnswer old m s r new → IfOk r (λ k. true ≡ true → k ≡ changed_place old new) → IfOk r (WereCalled old new)
called_after old new m s (Err f) answer changed = tt
called_after old new m s (Ok k) answer changed =
    subst (λ (ss : List Read). (k ≡ changed_place old ss) → WereCalled old ss k) (sym answer.1) (λ is. subst (WereCalled old (with_module old m s)) (sym is) (were_called old m s)) (changed refl)
