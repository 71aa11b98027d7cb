-- Keys as symbols.
use Rattle.std.proofs.Common.{◌≡◌, ℕ, ◌+◌, ◌==◌, length, Bool, true, false, cond, List, [], ◌∷◌, ◌++◌, map, position, refl, sym, ap, ◌∙◌, arith}
use Rattle.std.specs.List.{list_any, position_from}
use Rattle.std.proofs.lemmas.Bool.Decides.{nat_tests}
use Rattle.std.proofs.lemmas.List.{map-append}
use Rattle.std.proofs.lemmas.Iterator.Adapters.{position_from-zero}
use Rattle.linking_model.specs.Names.{with_first}
use Rattle.linking_model.specs.Kept.{symbol_eq}
use Rattle.esd_index.specs.contracts.key.KeyPartialEq.TheImpl.{eq-value}
use Rattle.esd_index.specs.declared.key.Key.{Key}
use Rattle.esd_index.specs.declared.key.Key.TheVariants.{Named as NamedKey, Private as PrivateKey}
use Rattle.esd_index.specs.Keys.{as_symbol}

pub same_key : (k l : Key) → (eq-value).it k l ≡ symbol_eq (as_symbol k) (as_symbol l)
same_key (NamedKey x) (NamedKey y) = refl
same_key (NamedKey x) (PrivateKey m n) = refl
same_key (PrivateKey m n) (NamedKey y) = refl
same_key (PrivateKey m n) (PrivateKey i j) = refl

-- a key is among keys where its symbol is among theirs
pub any_map : (k : Key) (ks : List Key) → list_any ((eq-value).it k) ks ≡ list_any (symbol_eq (as_symbol k)) (map as_symbol ks)
any_map k [] = refl
any_map k (l ∷ ks) = rw (same_key k l, any_map k ks) refl

cond_map : (b : Bool) (k : Key) (ks : List Key) → map as_symbol (cond b ks (ks ++ k ∷ [])) ≡ cond b (map as_symbol ks) (map as_symbol ks ++ as_symbol k ∷ [])
cond_map true k ks = refl
cond_map false k ks = map-append as_symbol ks (k ∷ [])

pub insert_map : (k : Key) (ks : List Key) → map as_symbol (cond (list_any ((eq-value).it k) ks) ks (ks ++ k ∷ [])) ≡ with_first symbol_eq (map as_symbol ks) (as_symbol k)
insert_map k ks =
    let both : map as_symbol (cond (list_any ((eq-value).it k) ks) ks (ks ++ k ∷ [])) ≡ cond (list_any ((eq-value).it k) ks) (map as_symbol ks) (map as_symbol ks ++ as_symbol k ∷ []) = cond_map (list_any ((eq-value).it k) ks) k ks in
    both ∙ ap (λ (b : Bool). cond b (map as_symbol ks) (map as_symbol ks ++ as_symbol k ∷ [])) (any_map k ks)

from_map : (k : Key) (n : ℕ) (ks : List Key) → position_from ((eq-value).it k) n ks ≡ position_from (symbol_eq (as_symbol k)) n (map as_symbol ks)
from_map k n [] = refl
from_map k n (l ∷ ks) = rw (same_key k l, from_map k (n + 1) ks) refl

-- the place of a key is that of its symbol
pub position_map : (k : Key) (ks : List Key) → position ((eq-value).it k) ks ≡ position (symbol_eq (as_symbol k)) (map as_symbol ks)
position_map k ks =
    position_from-zero ((eq-value).it k) ks ∙ from_map k 0 ks ∙ sym (position_from-zero (symbol_eq (as_symbol k)) (map as_symbol ks))

-- no key is among none
pub none_there : (k : Key) (ks : List Key) → (length ks == 0) ≡ true → false ≡ list_any (symbol_eq (as_symbol k)) (map as_symbol ks)
none_there k [] e = refl
none_there k (l ∷ ks) e = absurd (grind (arith, nat_tests, e))
