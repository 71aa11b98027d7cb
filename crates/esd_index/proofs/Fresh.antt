-- The symbols that came after the mark.
use Rattle.std.proofs.Common.{◌≡◌, ℕ, zero, suc, ◌≤◌, ◌-◌, List, [], ◌∷◌, length, map, take, drop, refl, ap, ◌∙◌, arith}
use Rattle.std.proofs.lemmas.List.{take_rest}
use Rattle.esd_index.specs.declared.key.Key.{Key}
use Rattle.esd_index.specs.Keys.{as_symbol}

pub fresh_keys : (n : ℕ) (xs : List Key) → n ≤ length xs → map as_symbol (drop n xs) ≡ drop (length (take n (map as_symbol xs))) (map as_symbol xs)
fresh_keys zero xs low = refl
fresh_keys (suc n) [] low = refl
fresh_keys (suc n) (x ∷ xs) low = fresh_keys n xs (omega (arith, low))

pub rest_fresh : (n : ℕ) (xs ys : List Key) → n ≤ length xs → ys ≡ xs → map as_symbol (take (length ys - n) (drop n ys)) ≡ drop (length (take n (map as_symbol xs))) (map as_symbol xs)
rest_fresh n xs ys low same = ap (map as_symbol) (take_rest ys n) ∙ ap (λ (zs : List Key). map as_symbol (drop n zs)) same ∙ fresh_keys n xs low
