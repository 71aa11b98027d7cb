-- Constants that stand in order are noted as they stand.
use Rattle.std.proofs.Common.{◌≡◌, ℕ, Bool, true, false, not, ◌&&◌, ◌||◌, ◌==◌, nat_lt, cond, List, [], ◌∷◌, filter, fold, refl, sym, ap, ◌∙◌, arith}
use Rattle.std.specs.List.{AllByRecursion}
use Rattle.std.proofs.lemmas.Bool.Decides.{nat_tests}
use Rattle.sym_mod.specs.declared.module.Item.{Item}
use Rattle.sym_mod.specs.declared.module.SymConst.{SymConst}
use Rattle.linking_model.specs.Names.{in_order, inserted}
use Rattle.linking_model.specs.Kept.{stands_before}
use Rattle.esd_index.specs.Contents.{Contents}
use Rattle.esd_index.specs.Steps.{flag_at, with_constant}
use Rattle.esd_index.specs.Ordered.{with_kept}
use Rattle.esd_index.specs.Sorted.{rise_from}
use Rattle.esd_index.specs.Modules.{kept_in_order}
use Rattle.esd_index.proofs.Sorting.{all_chosen, all_weaker}

abbrev is_below : ℕ → ℕ → SymConst → Bool
is_below item offset d = nat_lt d.item item || d.item == item && nat_lt d.offset offset

not_below : (i o k p j q : ℕ) → (nat_lt k i || k == i && nat_lt p o) ≡ false → (nat_lt j k || j == k && nat_lt q p) ≡ false → (nat_lt j i || j == i && nat_lt q o) ≡ false
not_below i o k p j q first second = grind (arith, nat_tests, first, second)

both : (a b : Bool) → (not a && b) ≡ true → (a ≡ false) × (b ≡ true)
both false b e = (refl, e)
both true b e = absurd cc

none_below : (i o : ℕ) (cs : List SymConst) → rise_from i o cs ≡ true → AllByRecursion (λ d. is_below i o d ≡ false) cs
none_below i o [] e = tt
none_below i o (c ∷ cs) e =
    let here = both (is_below i o c) (rise_from c.item c.offset cs) e in
    (here.0, all_weaker (λ d. is_below c.item c.offset d ≡ false) (λ d. is_below i o d ≡ false) (λ d later. not_below i o c.item c.offset d.item d.offset here.0 later) cs (none_below c.item c.offset cs here.1))

all_passing : (P : SymConst → Type 0) (p : SymConst → Bool) (cs : List SymConst) → AllByRecursion P cs → AllByRecursion P (filter p cs)
all_passing P p [] all = tt
all_passing P p (c ∷ cs) all =
    let more = all_passing P p cs all.1 in
    all_chosen P (p c) (c ∷ filter p cs) (filter p cs) (all.0, more) more

stays_first : (c : SymConst) (ds : List SymConst) → AllByRecursion (λ d. stands_before d c ≡ false) ds → inserted stands_before c ds ≡ c ∷ ds
stays_first c [] all = refl
stays_first c (d ∷ ds) all = rw all.0 refl

stays_in_order : (p : SymConst → Bool) (i o : ℕ) (cs : List SymConst) → rise_from i o cs ≡ true → in_order stands_before (filter p cs) ≡ filter p cs
stays_in_order p i o [] e = refl
stays_in_order p i o (c ∷ cs) e =
    let here = both (is_below i o c) (rise_from c.item c.offset cs) e in
    chosen c (filter p cs) (p c) (stays_in_order p c.item c.offset cs here.1) (all_passing (λ d. stands_before d c ≡ false) p cs (none_below c.item c.offset cs here.1))
  where
    chosen : (c : SymConst) (ds : List SymConst) (b : Bool) → in_order stands_before ds ≡ ds → AllByRecursion (λ d. stands_before d c ≡ false) ds
        → in_order stands_before (cond b (c ∷ ds) ds) ≡ cond b (c ∷ ds) ds
    chosen c ds true more all = ap (inserted stands_before c) more ∙ stays_first c ds all
    chosen c ds false more all = more

fold_kept : (items : List Item) (kept : List Bool) (cs : List SymConst) (c : Contents)
    → fold (with_kept items kept) c cs ≡ fold (with_constant items) c (filter (λ (x : SymConst). flag_at kept x.item) cs)
unfolding with_kept
fold_kept items kept [] c = refl
fold_kept items kept (x ∷ xs) c = chosen x (filter (λ (x : SymConst). flag_at kept x.item) xs) c (flag_at kept x.item) (λ d. fold_kept items kept xs d)
  where
    chosen : (x : SymConst) (ys : List SymConst) (c : Contents) (b : Bool) → ((d : Contents) → fold (with_kept items kept) d xs ≡ fold (with_constant items) d ys)
        → fold (with_kept items kept) (cond b (with_constant items c x) c) xs ≡ fold (with_constant items) c (cond b (x ∷ ys) ys)
    chosen x ys c true again = again (with_constant items c x)
    chosen x ys c false again = again c

pub fold_rising : (items : List Item) (kept : List Bool) (c : Contents) (cs : List SymConst) → rise_from 0 0 cs ≡ true
    → fold (with_kept items kept) c cs ≡ fold (with_constant items) c (kept_in_order kept cs)
fold_rising items kept c cs e =
    fold_kept items kept cs c ∙ ap (fold (with_constant items) c) (sym (stays_in_order (λ (x : SymConst). flag_at kept x.item) 0 0 cs e))
