-- One item more, by name.
use Rattle.std.proofs.Common.{◌≡◌, ℕ, Bool, true, false, ◌&&◌, cond, Option, Some, None, is_some, option_map, refl, sym, ap, ◌∙◌, subst, Result, Ok, Err}
use Rattle.std.specs.Prelude.{OnOk, IfOk}
use Rattle.std.specs.Option.{option_or}
use Rattle.le_bytes.specs.declared.name.Name.{Name}
use Rattle.le_bytes.specs.Names.{name_eq}
use Rattle.esd_lists.specs.Gathered.{put_in}
use Rattle.esd_lists.proofs.Firsts.{name_same}

pub on_ok : {A E : Type 0} (r : Result A E) (P Q : Type 0) → OnOk r P → (P → Q) → OnOk r Q
on_ok (Ok x) P Q h f = f h
on_ok (Err e) P Q h f = h

or_none : {A : Type 0} (o : Option A) → option_or o None ≡ o
or_none None = refl
or_none (Some x) = refl

-- the first of a name
abbrev pub first_step : {A : Type 0} → Bool → Option A → Name → Name → Option A → Option A
first_step b v n y o = option_or o (cond (b && name_eq n y) v None)

pub first_other : {A : Type 0} (b : Bool) (v : Option A) (n y : Name) (o : Option A) → b ≡ false → o ≡ first_step b v n y o
first_other b v n y o e = rw e (sym (or_none o))

and_false : (b : Bool) → (b && false) ≡ false
and_false true = refl
and_false false = refl

there_case : {A : Type 0} (b : Bool) (v : Option A) (n y : Name) (o : Option A) (c : Bool) → name_eq n y ≡ c → (n ≡ y → is_some o ≡ true) → o ≡ option_or o (cond (b && c) v None)
there_case b v n y (Some x) c e has = refl
there_case b v n y None true e has = absurd (cc (has (name_same n y e)))
there_case b v n y None false e has = rw (and_false b) refl

pub first_there : {A : Type 0} (b : Bool) (v : Option A) (n y : Name) (f : Name → Option A) → is_some (f n) ≡ true → f y ≡ first_step b v n y (f y)
first_there b v n y f has = there_case b v n y (f y) (name_eq n y) refl (λ e. subst (λ (z : Name). is_some (f z) ≡ true) e has)

pub first_none : {A : Type 0} (b : Bool) (v : Option A) (n y : Name) (o : Option A) → v ≡ None → o ≡ first_step b v n y o
first_none b v n y o e = none_case (b && name_eq n y) v o e
  where
    none_case : {A : Type 0} (c : Bool) (v o : Option A) → v ≡ None → o ≡ option_or o (cond c v None)
    none_case true v o e = rw e (sym (or_none o))
    none_case false v o e = sym (or_none o)

put_case : {A : Type 0} (b : Bool) (v : Option A) (n y : Name) (l : A) (o p : Option A) (c : Bool) → name_eq n y ≡ c → b ≡ true → v ≡ Some l → (n ≡ y → is_some o ≡ false) → p ≡ cond c (Some l) o
    → p ≡ option_or o (cond (b && c) v None)
put_case b v n y l None p true e kind is has new = rw (kind, is) new
put_case b v n y l (Some x) p true e kind is has new = absurd (cc (has (name_same n y e)))
put_case b v n y l o p false e kind is has new = rw (and_false b) (new ∙ sym (or_none o))

pub first_put : {A : Type 0} (b : Bool) (v : Option A) (n y : Name) (l : A) (f : Name → Option A) (p : Option A) → b ≡ true → v ≡ Some l → is_some (f n) ≡ false → p ≡ put_in n l y (f y)
    → p ≡ first_step b v n y (f y)
first_put b v n y l f p kind is has new = put_case b v n y l (f y) p (name_eq n y) refl kind is (λ e. subst (λ (z : Name). is_some (f z) ≡ false) e has) new

-- what grows with each of a name
abbrev pub grown_step : {A : Type 0} → Bool → (A → A) → Name → Name → A → A
grown_step b w n y a = cond (b && name_eq n y) (w a) a

pub grown_other : {A : Type 0} (b : Bool) (w : A → A) (n y : Name) (a : A) → b ≡ false → a ≡ grown_step b w n y a
grown_other b w n y a e = rw e refl

grown_case : {A V : Type 0} (see : Option V → A) (b : Bool) (w : A → A) (n y : Name) (l : V) (o p mid : Option V) (first : A) (c : Bool) → name_eq n y ≡ c → b ≡ true → see (Some l) ≡ w first → (n ≡ y → first ≡ see o) → (c ≡ false → mid ≡ o)
    → p ≡ cond c (Some l) mid → see p ≡ cond (b && c) (w (see o)) (see o)
grown_case see b w n y l o p mid first true e kind is same rest new = ap see new ∙ is ∙ rw kind (ap w (same (name_same n y e)))
grown_case see b w n y l o p mid first false e kind is same rest new = rw (and_false b) (ap see (new ∙ rest refl))

pub grown_put : {A V : Type 0} (see : Option V → A) (b : Bool) (w : A → A) (n y : Name) (l : V) (f : Name → Option V) (p mid : Option V) → b ≡ true → see (Some l) ≡ w (see (f n))
    → (name_eq n y ≡ false → mid ≡ f y) → p ≡ put_in n l y mid → see p ≡ grown_step b w n y (see (f y))
grown_put see b w n y l f p mid kind is rest new = grown_case see b w n y l (f y) p mid (see (f n)) (name_eq n y) refl kind is (λ e. ap (λ (z : Name). see (f z)) e) rest new

pub some_seen : {A B : Type 0} (f : A → B) (o : Option A) → is_some (option_map f o) ≡ is_some o
some_seen f None = refl
some_seen f (Some x) = refl

pub put_seen : {A B : Type 0} (f : A → B) (c : Bool) (x : A) (o : Option A) → option_map f (cond c (Some x) o) ≡ cond c (Some (f x)) (option_map f o)
put_seen f true x o = refl
put_seen f false x o = refl

-- a number where there is none yet, and then those to come
pub number_more : (o r : Option ℕ) (b : Bool) (i : ℕ) → option_or (option_or o (cond (true && b) (Some i) None)) r ≡ option_or o (cond b (Some i) r)
number_more None r true i = refl
number_more None r false i = refl
number_more (Some x) r b i = refl

pub if_ok : {A E : Type 0} (r : Result A E) (P Q : A → Type 0) → IfOk r P → ((x : A) → P x → Q x) → IfOk r Q
if_ok (Ok x) P Q h f = f x h
if_ok (Err e) P Q h f = h
