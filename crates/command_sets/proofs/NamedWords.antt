-- The data set that a word names has a path.
use Rattle.std.proofs.Common.{◌≡◌, ℕ, suc, zero, ◌<◌, Bool, true, false, ◌||◌, List, [], ◌∷◌, length, map, drop, get_or, refl, ◌∙◌, ap, subst, Option, Some, None, String, string_bytes, if◌then◌else◌}
use Rattle.std.specs.Prelude.{IfSome, IsSome}
use Rattle.std.specs.List.{list_any}
use Rattle.std.specs.Option.{option_and_then}
use Rattle.le_bytes.specs.declared.name.Name.{Name}
use Rattle.command_words.specs.Keys.{is_reserved}
use Rattle.command_words.specs.Meaning.{data_set_in, path_of}
use Rattle.command_words.specs.Word.{KeyValue, has_key, is_given, key_value, value_in}
use Rattle.command_words.proofs.AskedLemmas.{value_given}
use Rattle.pds_lib.proofs.ReadSound.{same_name}
use Rattle.command_sets.proofs.SetsRead.{from_place}

any_later : {Z : Type 0} (p : List ℕ → Bool) (words : List (String Z)) (k : ℕ) → list_any p (map string_bytes (drop k words)) ≡ true → list_any p (map string_bytes words) ≡ true
any_later p words zero there = there
any_later p [] (suc k) there = there
any_later p (word ∷ words) (suc k) there = later (p (string_bytes word)) (list_any p (map string_bytes words)) (any_later p words k there)
  where
    later : (a b : Bool) → b ≡ true → (a || b) ≡ true
    later true b is = refl
    later false b is = is

of_setting : (words : List (List ℕ)) (text : List ℕ) (o : Option KeyValue) → key_value text ≡ o → ((key : Name) → has_key key text ≡ true → is_given key words ≡ true)
    → IfSome (option_and_then (λ (s : KeyValue). if is_reserved s.key then None else Some s) o) (λ s. IsSome (path_of words s.key))
unfolding path_of
of_setting words text None is given = tt
of_setting words text (Some s) is given = cases (is_reserved s.key) refl
  where
    here : has_key s.key text ≡ true
    here = rw is (same_name s.key)

    cases : (b : Bool) → is_reserved s.key ≡ b → IfSome (if b then None else Some s) (λ s. IsSome (if is_reserved s.key then None else value_in s.key words))
    cases true reserved = tt
    cases false free = rw free (value_given s.key words (given s.key here))

-- the data set that a word names has a path
pub word_named : {Z : Type 0} (words : List (String Z)) (k : ℕ) (item : String Z) (text : List ℕ) → k < length words → item ≡ get_or words k item → text ≡ string_bytes item
    → IfSome (data_set_in text) (λ s. IsSome (path_of (map string_bytes words) s.key))
unfolding data_set_in
word_named words k item text within is shown =
    of_setting (map string_bytes words) text (key_value text) refl
    (λ key has. any_later (has_key key) words k
    (let first : has_key key (string_bytes (get_or words k item)) ≡ true = subst (λ t. has_key key t ≡ true) (shown ∙ ap string_bytes is) has in
    rw (from_place words k item within) (rw first refl)))
