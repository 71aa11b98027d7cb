-- The first main entry of a member, entry by entry.
use Rattle.std.proofs.Common.{◌≡◌, ℕ, ◌+◌, ◌<◌, Bool, true, false, cond, List, [], ◌∷◌, ◌++◌, length, take, get_or, Option, Some, None, refl, ap, ◌∙◌, arith}
use Rattle.std.proofs.lemmas.List.{take_more, length-take-le}
use Rattle.pds_directory.specs.declared.entry.Listed.{Listed}
use Rattle.pds_directory.specs.Directory.{begins_at, owner_from, owner_of, owner_with}

owner_step : (b : Bool) (i j : ℕ) (o : Option ℕ) (x : Listed) (t : ℕ) → cond b (Some i) (owner_with o j x t) ≡ owner_with (cond b (Some i) o) j x t
unfolding owner_with
owner_step true i j o x t = refl
owner_step false i j o x t = refl

owner_push : (i : ℕ) (xs : List Listed) (x : Listed) (t : ℕ) → owner_from i (xs ++ x ∷ []) t ≡ owner_with (owner_from i xs t) (i + length xs) x t
unfolding owner_from owner_with
owner_push i [] x t = let e : i + 0 ≡ i = omega arith in rw e refl
owner_push i (y ∷ xs) x t =
    let e : i + (length (y ∷ xs)) ≡ i + 1 + length xs = omega arith in
    rw (owner_push (i + 1) xs x t, e) (owner_step (begins_at t y) i (i + 1 + length xs) (owner_from (i + 1) xs t) x t)

pub owner_more : (xs : List Listed) (i : ℕ) (d : Listed) (t : ℕ) → i < length xs
    → owner_of (take (i + 1) xs) t ≡ owner_with (owner_of (take i xs) t) i (get_or xs i d) t
owner_more xs i d t lt =
    let x = get_or xs i d in
    let more : take (i + 1) xs ≡ take i xs ++ x ∷ [] = take_more xs i d lt in
    let len : 0 + length (take i xs) ≡ i = let l = length-take-le i xs (omega arith) in omega (arith, l) in
    ap (λ (ys : List Listed). owner_of ys t) more ∙ owner_push 0 (take i xs) x t ∙ ap (λ (n : ℕ). owner_with (owner_of (take i xs) t) n x t) len

pub no_owner : (t : ℕ) → owner_of [] t ≡ None
unfolding owner_from
no_owner t = refl
