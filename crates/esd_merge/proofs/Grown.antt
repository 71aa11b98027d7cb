-- Where items are seen when one more module is read.
use Rattle.std.proofs.Common.{◌≡◌, ℕ, zero, suc, ◌+◌, ◌<◌, List, [], ◌∷◌, ◌++◌, length, slice_get, Some, option_map, refl, sym, ap, ◌∙◌, arith, append-nil}
use Rattle.std.specs.Option.{option_and_then}
use Rattle.sym_mod.specs.declared.module.SymModule.{SymModule}
use Rattle.linking_model.specs.Kept.{Read, Sight, sights_in, sights_from, sights, sight_at}
use Rattle.esd_lists.proofs.Sights.{sights_from-append, seen_at, seen_of, sight_at_is}
use Rattle.esd_merge.specs.Added.{with_module}

pub sights_with : (rs : List Read) (m : SymModule) (s : ℕ) → sights (with_module rs m s) ≡ sights rs ++ sights_in (length rs) s 0 m.items
sights_with rs m s =
    let same : 0 + length rs ≡ length rs = omega arith in
    let split : sights_from 0 (with_module rs m s) ≡ sights_from 0 rs ++ (sights_in (length rs) s 0 m.items ++ []) = rw same at (sights_from-append 0 rs (record { module_ = m; segment = s } ∷ [])) in
    split ∙ ap (λ (zs : List Sight). sights_from 0 rs ++ zs) (append-nil (sights_in (length rs) s 0 m.items))

get_front : {A : Type 0} (xs ys : List A) (k : ℕ) → k < length xs → slice_get (xs ++ ys) k ≡ slice_get xs k
get_front [] ys k low = absurd (omega arith)
get_front (x ∷ xs) ys zero low = refl
get_front (x ∷ xs) ys (suc k) low = get_front xs ys k (omega arith)

get_end : {A : Type 0} (xs : List A) (y : A) → slice_get (xs ++ y ∷ []) (length xs) ≡ Some y
get_end [] y = refl
get_end (x ∷ xs) y = get_end xs y

pub sight_at_old : (rs : List Read) (m : SymModule) (s k i : ℕ) → k < length rs → sight_at (with_module rs m s) k i ≡ sight_at rs k i
sight_at_old rs m s k i low =
    sight_at_is (with_module rs m s) k i ∙ ap (option_and_then (seen_of k i)) (get_front rs (record { module_ = m; segment = s } ∷ []) k low) ∙ sym (sight_at_is rs k i)

pub sight_at_new : (rs : List Read) (m : SymModule) (s i : ℕ) → sight_at (with_module rs m s) (length rs) i ≡ option_map (λ x. seen_at (length rs) s i x) (slice_get m.items i)
sight_at_new rs m s i =
    let r : Read = record { module_ = m; segment = s } in
    sight_at_is (with_module rs m s) (length rs) i ∙ ap (option_and_then (seen_of (length rs) i)) (get_end rs r)
