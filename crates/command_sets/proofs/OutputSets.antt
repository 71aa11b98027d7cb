-- The library that is linked into, found among the sets.
use Rattle.std.proofs.Common.{add-one, drop-cons, suc, ◌≡◌, ℕ, ◌+◌, ◌<◌, ◌≤◌, true, false, List, ◌∷◌, length, drop, get_or, refl, sym, ◌∙◌, ap, unwrap_or}
use Rattle.std.proofs.Math.ListN.{drop_of_length-le}
use Rattle.le_bytes.specs.Names.{name_eq}
use Rattle.command_words.specs.Keys.{syslmod}
use Rattle.pds_directory.specs.declared.kinds.Version.{Version}
use Rattle.pds_lib.specs.declared.set.Set.{Set}
use Rattle.pds_lib.specs.Contents.{Contents}
use Rattle.command_sets.specs.Sets.{empty_library}
use Rattle.command_sets.specs.Libraries.{library_in, output_in}

-- the rest of a list from one of its places
pub front : {X : Type 0} (xs : List X) (k : ℕ) (x : X) → k < length xs → x ≡ get_or xs k x → drop k xs ≡ x ∷ drop (k + 1) xs
front xs k x within is = rw (add-one) (drop-cons xs k x within ∙ ap (λ y. y ∷ drop (suc k) xs) (sym is))

module _ (new : Version) (sets : List Set) (k : ℕ) (lib : Contents) (so_far : output_in new (drop k sets) ≡ lib) where
  -- the set that is named so
  pub is_found : (x : Set) → k < length sets → x ≡ get_or sets k x → name_eq x.dd syslmod ≡ true → unwrap_or (library_in x.body) (empty_library new) ≡ lib
  is_found x within is named = sym (ap (output_in new) (front sets k x within is) ∙ rw named refl) ∙ so_far

  pub is_later : (x : Set) → k < length sets → x ≡ get_or sets k x → name_eq x.dd syslmod ≡ false → output_in new (drop (k + 1) sets) ≡ lib
  is_later x within is other = sym (ap (output_in new) (front sets k x within is) ∙ rw other refl) ∙ so_far

  pub is_new : length sets ≤ k → empty_library new ≡ lib
  is_new all = sym (ap (output_in new) (drop_of_length-le sets all)) ∙ so_far

-- a set of another name is passed over
pub is_passed : (new : Version) (x : Set) (rest : List Set) → name_eq x.dd syslmod ≡ false → output_in new (x ∷ rest) ≡ output_in new rest
is_passed new x rest other = rw other refl
