-- Linked bytes and runs.
use Rattle.std.proofs.Common.{◌≡◌, ℕ, Bool, true, false, refl, not, ◌&&◌, ◌||◌, cond, sym, ◌==◌, List, [], ◌∷◌, find, reverse, Option, Some}
use Rattle.std.proofs.lemmas.Bool.{ne_eqb}
use Rattle.std.proofs.lemmas.List.Folds.{list_any-append}
use Rattle.linking_model.proofs.Trees.{same_tells, reverse-cons}
use Rattle.linking_model.specs.Tree.{path, region_of, is_in, is_on_path, is_below}
use Rattle.linking_model.specs.Tables.{holder, needs_entry, segment_of}
use Rattle.linking_model.specs.Linked.{linked_byte}
use Rattle.linking_model.specs.Run.{run_from}
use Rattle.linking_model.specs.Laws.{HoldersAreOnPaths, OtherRegionsAreNotExclusive, PlainBytesStay, RefusedEventsChangeNothing}

pub plain_bytes_stay : PlainBytesStay
unfolding linked_byte
plain_bytes_stay P q r i o outside = rw outside refl

pub refused_events_change_nothing : RefusedEventsChangeNothing
unfolding run_from
refused_events_change_nothing P q S e events why refused = rw refused refl

not_exclusive : (on_path below : Bool) → (not on_path && not below && not (not on_path && not false)) ≡ false
not_exclusive true below = refl
not_exclusive false true = refl
not_exclusive false false = refl

pub other_regions_are_not_exclusive : OtherRegionsAreNotExclusive
other_regions_are_not_exclusive p tree a y differ =
    rw (ne_eqb (region_of tree (segment_of p y)) (region_of tree a) differ)
    (not_exclusive (is_on_path tree (segment_of p y) a) (is_below tree (segment_of p y) a))

-- ---- what a search finds is in the list

pub or-true : (b : Bool) → (b || true) ≡ true
or-true true = refl
or-true false = refl

or-last : (b c : Bool) → (b || (c || false)) ≡ (c || b)
or-last true true = refl
or-last true false = refl
or-last false true = refl
or-last false false = refl

pub is_in-reverse : (b : ℕ) (xs : List ℕ) → is_in b (reverse xs) ≡ is_in b xs
is_in-reverse b [] = refl
is_in-reverse b (x ∷ xs) =
    rw (reverse-cons x xs, list_any-append (λ r. r == b) (reverse xs) (x ∷ []), is_in-reverse b xs)
    (or-last (is_in b xs) (x == b))

found-step : (t : Bool) (x b : ℕ) (rest : Option ℕ) (in_rest : Bool) → cond t (Some x) rest ≡ Some b → (rest ≡ Some b → in_rest ≡ true) → (x == b || in_rest) ≡ true
found-step true x b rest in_rest h later = let e : x ≡ b = cc in rw (e, same_tells b) refl
found-step false x b rest in_rest h later = rw (later h) (or-true (x == b))

pub is_in-found : (test : ℕ → Bool) (xs : List ℕ) (b : ℕ) → find test xs ≡ Some b → is_in b xs ≡ true
is_in-found test [] b h = cc
is_in-found test (x ∷ xs) b h = found-step (test x) x b (find test xs) (is_in b xs) h (is_in-found test xs b)

pub holders_are_on_paths : HoldersAreOnPaths
unfolding holder
holders_are_on_paths p tree a y b found =
    rw (sym (is_in-reverse b (path tree a))) (is_in-found (needs_entry p tree y) (reverse (path tree a)) b found)
