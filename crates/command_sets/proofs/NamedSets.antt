-- The sets that words name, found by their names among all that were read.
use Rattle.std.proofs.Common.{◌≡◌, ℕ, ◌==◌, nat_lt, Bool, true, false, List, [], ◌∷◌, length, refl, sym, ◌∙◌, ap, subst, Option, Some, None, unwrap_or, Result, Ok, Err, if◌then◌else◌}
use Rattle.std.specs.Prelude.{find, IsSomeAnd, option_map}
use Rattle.std.specs.Option.{option_and_then, option_map_or}
use Rattle.std.specs.Result.{result_unwrap_or}
use Rattle.le_bytes.specs.declared.library_fault.LibFault.{LibFault}
use Rattle.le_bytes.specs.declared.name.Name.{Name}
use Rattle.le_bytes.specs.declared.refusal.Refusal.{Refusal}
use Rattle.le_bytes.specs.declared.refusal.Refusal.TheVariants.{NotLibrary, TooLong}
use Rattle.le_bytes.specs.Names.{name_eq}
use Rattle.le_io.specs.Counts.{Files}
use Rattle.command_words.specs.Keys.{is_reserved, syslmod}
use Rattle.command_words.specs.Word.{KeyValue, key_value, value_in}
use Rattle.command_words.specs.Meaning.{data_set_in, path_of}
use Rattle.command_words.proofs.AskedLemmas.{name_eq-true}
use Rattle.pds_directory.specs.declared.kinds.Version.{Version}
use Rattle.pds_lib.specs.declared.set.Body.{Body}
use Rattle.pds_lib.specs.declared.set.Body.TheVariants.{Lib}
use Rattle.pds_lib.specs.declared.set.Set.{Set}
use Rattle.pds_lib.specs.Contents.{Contents}
use Rattle.pds_lib.specs.Grammar.{library_of}
use Rattle.pds_lib.proofs.ReadSound.{same_name}
use Rattle.command_sets.specs.Libraries.{library_in, output_in}
use Rattle.command_sets.specs.Sets.{body_at, empty_library, file_at, is_for_modules, made_version, new_version, set_as, set_at, set_before, set_limit, set_of_word, sets_in, sets_of, whole_library, with_set, library_at, library_or_new}

-- ---- a set by its name

-- the set of this name among these
abbrev pub set_named : Name → List Set → Option Set
set_named dd sets = find (λ (x : Set). name_eq x.dd dd) sets

-- no word has the name, and no set; or some word has it, and the set is what is read by that name
abbrev pub IsNamed : (Name → Result Set Refusal) → Name → Option (List ℕ) → Option Set → Type 0
IsNamed read dd None o = o ≡ None
IsNamed read dd (Some path) o = IsSomeAnd o (λ x. read dd ≡ Ok x)

abbrev has_name : Name → Option KeyValue → Bool
has_name dd o = option_map_or (λ (s : KeyValue). name_eq s.key dd) o false

abbrev set_of_setting : Option KeyValue → Option KeyValue
set_of_setting o = option_and_then (λ (s : KeyValue). if is_reserved s.key then None else Some s) o

set_of : (word : List ℕ) → data_set_in word ≡ set_of_setting (key_value word)
unfolding data_set_in
set_of word = refl

first_word : (read : Name → Result Set Refusal) (word : List ℕ) (words : List (List ℕ)) → sets_in read (word ∷ words) ≡ with_set (set_of_word read word) (sets_in read words)
unfolding sets_in
first_word read word words = refl

no_words : (read : Name → Result Set Refusal) → sets_in read [] ≡ Ok []
unfolding sets_in
no_words read = refl

abbrev all_sets : List Set → Result (List Set) Refusal
all_sets xs = Ok xs

same_sets : (xs ys : List Set) → all_sets xs ≡ all_sets ys → xs ≡ ys
same_sets xs ys is = cc

-- the sets behind the first
behind_first : {P : Type 0} (x : Set) (r : Result (List Set) Refusal) (sets : List Set) → set_before x r ≡ Ok sets
    → ((rest : List Set) → r ≡ Ok rest → x ∷ rest ≡ sets → P) → P
behind_first x (Ok rest) sets is so = so rest refl (same_sets (x ∷ rest) sets is)
behind_first x (Err refusal) sets is so = absurd cc

has_it : (dd : Name) (x : Set) (rest : List Set) → name_eq x.dd dd ≡ true → set_named dd (x ∷ rest) ≡ Some x
has_it dd x rest is = rw (is) refl

has_another : (dd : Name) (x : Set) (rest : List Set) → name_eq x.dd dd ≡ false → set_named dd (x ∷ rest) ≡ set_named dd rest
has_another dd x rest is = rw (is) refl

module _ (read : Name → Result Set Refusal) (named : (n : Name) (x : Set) → read n ≡ Ok x → x.dd ≡ n) (dd : Name) (free : is_reserved dd ≡ false) where
  -- a word that has the name
  here : (s : KeyValue) (words : List (List ℕ)) (r : Result Set Refusal) (b : Bool) (sets : List Set) → s.key ≡ dd → read dd ≡ r → is_reserved s.key ≡ b
      → with_set (option_map (λ (t : KeyValue). read t.key) (if b then None else Some s)) (sets_in read words) ≡ Ok sets
      → IsSomeAnd (set_named dd sets) (λ x. read dd ≡ Ok x)
  here s words r true sets key is reserved gives = absurd (let kept : is_reserved s.key ≡ false = subst (λ n. is_reserved n ≡ false) (sym key) free in cc)
  here s words (Err refusal) false sets key is reserved gives =
      absurd (let none : with_set (Some (Err refusal)) (sets_in read words) ≡ Ok sets =
      subst (λ r. with_set (Some r) (sets_in read words) ≡ Ok sets) (ap read key ∙ is) gives in cc)
  here s words (Ok x) false sets key is reserved gives =
      behind_first x (sets_in read words) sets (subst (λ r. with_set (Some r) (sets_in read words) ≡ Ok sets) (ap read key ∙ is) gives)
      (λ rest later all.
      let first : name_eq x.dd dd ≡ true = subst (λ n. name_eq n dd ≡ true) (sym (named dd x is)) (same_name dd) in
      subst (λ xs. IsSomeAnd (set_named dd xs) (λ y. read dd ≡ Ok y)) all
      (subst (λ o. IsSomeAnd o (λ y. read dd ≡ Ok y)) (sym (has_it dd x rest first)) is))

  -- a word that has another
  passes : (x : Set) (n : Name) (words : List (List ℕ)) (sets : List Set) → name_eq n dd ≡ false → read n ≡ Ok x
      → ((rest : List Set) → sets_in read words ≡ Ok rest → IsNamed read dd (value_in dd words) (set_named dd rest))
      → set_before x (sets_in read words) ≡ Ok sets → IsNamed read dd (value_in dd words) (set_named dd sets)
  passes x n words sets other is later gives =
      behind_first x (sets_in read words) sets gives
      (λ rest goes all.
      let differs : name_eq x.dd dd ≡ false = subst (λ m. name_eq m dd ≡ false) (sym (named n x is)) other in
      subst (λ xs. IsNamed read dd (value_in dd words) (set_named dd xs)) all
      (subst (λ o. IsNamed read dd (value_in dd words) o) (sym (has_another dd x rest differs)) (later rest goes)))

  there : (s : KeyValue) (words : List (List ℕ)) (r : Result Set Refusal) (b : Bool) (sets : List Set) → name_eq s.key dd ≡ false → read s.key ≡ r
      → ((rest : List Set) → sets_in read words ≡ Ok rest → IsNamed read dd (value_in dd words) (set_named dd rest))
      → with_set (option_map (λ (t : KeyValue). read t.key) (if b then None else Some s)) (sets_in read words) ≡ Ok sets
      → IsNamed read dd (value_in dd words) (set_named dd sets)
  there s words r true sets other is later gives = later sets gives
  there s words (Ok x) false sets other is later gives =
      passes x s.key words sets other is later (subst (λ r. with_set (Some r) (sets_in read words) ≡ Ok sets) is gives)
  there s words (Err refusal) false sets other is later gives =
      absurd (let none : with_set (Some (Err refusal)) (sets_in read words) ≡ Ok sets =
      subst (λ r. with_set (Some r) (sets_in read words) ≡ Ok sets) is gives in cc)

  by_word : (o : Option KeyValue) (words : List (List ℕ)) (sets : List Set)
      → ((rest : List Set) → sets_in read words ≡ Ok rest → IsNamed read dd (value_in dd words) (set_named dd rest))
      → with_set (option_map (λ (t : KeyValue). read t.key) (set_of_setting o)) (sets_in read words) ≡ Ok sets
      → IsNamed read dd (if has_name dd o then option_map (λ (s : KeyValue). s.value) o else value_in dd words) (set_named dd sets)
  by_word None words sets later gives = later sets gives
  by_word (Some s) words sets later gives = cases (name_eq s.key dd) refl
    where
      cases : (h : Bool) → name_eq s.key dd ≡ h → IsNamed read dd (if h then Some s.value else value_in dd words) (set_named dd sets)
      cases true same = here s words (read dd) (is_reserved s.key) sets (name_eq-true s.key dd same) refl refl gives
      cases false other = there s words (read s.key) (is_reserved s.key) sets other refl later gives

  -- a set is found by its name exactly where a word has it
  pub found_named : (words : List (List ℕ)) (sets : List Set) → sets_in read words ≡ Ok sets → IsNamed read dd (value_in dd words) (set_named dd sets)
  found_named [] sets gives = ap (set_named dd) (sym (same_sets [] sets (sym (no_words read) ∙ gives)))
  found_named (word ∷ words) sets gives =
      by_word (key_value word) words sets (λ rest goes. found_named words rest goes)
      (subst (λ o. with_set (option_map (λ (t : KeyValue). read t.key) o) (sets_in read words) ≡ Ok sets) (set_of word)
      (sym (first_word read word words) ∙ gives))

-- ---- the sets of files

abbrev one_set : Set → Result Set Refusal
one_set x = Ok x

same_set : (x y : Set) → one_set x ≡ one_set y → x ≡ y
same_set x y is = cc

named_as : (dd : Name) (r : Result Body Refusal) (x : Set) → set_as dd r ≡ Ok x → x.dd ≡ dd
named_as dd (Ok body) x is = ap (λ (y : Set). y.dd) (sym (same_set (record { dd = dd; body = body }) x is))
named_as dd (Err refusal) x is = absurd cc

body_is : (dd : Name) (r : Result Body Refusal) (x : Set) → set_as dd r ≡ Ok x → r ≡ Ok x.body
body_is dd (Ok body) x is = ap (λ (y : Set). Ok y.body) (same_set (record { dd = dd; body = body }) x is)
body_is dd (Err refusal) x is = absurd cc

module _ (words : List (List ℕ)) (files : Files) where
  pub set_named_so : (n : Name) (x : Set) → set_at words files n ≡ Ok x → x.dd ≡ n
  unfolding set_at
  set_named_so n x is = named_as n (body_at (made_version words) n (file_at words files n)) x is

  pub body_read : (n : Name) (x : Set) → set_at words files n ≡ Ok x → body_at (made_version words) n (file_at words files n) ≡ Ok x.body
  unfolding set_at
  body_read n x is = body_is n (body_at (made_version words) n (file_at words files n)) x is

  pub path_is : (n : Name) → is_reserved n ≡ false → path_of words n ≡ value_in n words
  unfolding path_of
  path_is n free = rw free refl

  -- ---- SYSLMOD

  output_read : (v : Version) (o : Option (List ℕ)) (b : Body) → body_at (Some v) syslmod o ≡ Ok b → unwrap_or (library_in b) (empty_library v) ≡ library_or_new v o
  output_read v None b is = let same : Lib (empty_library v) ≡ b = cc in ap (λ b. unwrap_or (library_in b) (empty_library v)) (sym same)
  output_read v (Some image) b is = long (nat_lt set_limit (length image)) is
    where
      whole : (r : Result Contents LibFault) → whole_library r ≡ Ok b → unwrap_or (library_in b) (empty_library v) ≡ result_unwrap_or r (empty_library v)
      whole (Ok lib) gives = let same : Lib lib ≡ b = cc in ap (λ b. unwrap_or (library_in b) (empty_library v)) (sym same)
      whole (Err fault) none = absurd cc

      begun : (begins : Bool) → (if begins then whole_library (library_of image) else Err (NotLibrary syslmod)) ≡ Ok b
          → unwrap_or (library_in b) (empty_library v) ≡ result_unwrap_or (library_of image) (empty_library v)
      begun true gives = whole (library_of image) gives
      begun false none = absurd cc

      some : (empty : Bool)
          → (if empty then Ok (Lib (empty_library v)) else (if is_for_modules image then whole_library (library_of image) else Err (NotLibrary syslmod))) ≡ Ok b
          → unwrap_or (library_in b) (empty_library v) ≡ (if empty then empty_library v else result_unwrap_or (library_of image) (empty_library v))
      some true gives = let same : Lib (empty_library v) ≡ b = cc in ap (λ b. unwrap_or (library_in b) (empty_library v)) (sym same)
      some false gives = begun (is_for_modules image) gives

      long : (too : Bool)
          → (if too then Err (TooLong syslmod)
          else (if length image == 0 then Ok (Lib (empty_library v)) else (if is_for_modules image then whole_library (library_of image) else Err (NotLibrary syslmod)))) ≡ Ok b
          → unwrap_or (library_in b) (empty_library v) ≡ library_or_new v (Some image)
      long true none = absurd cc
      long false gives = some (length image == 0) gives

  output_named : (v : Version) (path : Option (List ℕ)) (o : Option Set) → path_of words syslmod ≡ path → made_version words ≡ Some v → IsNamed (set_at words files) syslmod path o
      → unwrap_or (option_and_then (λ (x : Set). library_in x.body) o) (empty_library v) ≡ library_or_new v (option_and_then files path)
  output_named v None o at made named = ap (λ o. unwrap_or (option_and_then (λ (x : Set). library_in x.body) o) (empty_library v)) named
  output_named v (Some path) None at made named = absurd named
  output_named v (Some path) (Some x) at made named =
      output_read v (file_at words files syslmod) x.body
      (subst (λ new. body_at new syslmod (file_at words files syslmod) ≡ Ok x.body) made (body_read syslmod x named))
      ∙ ap (λ path. library_or_new v (option_and_then files path)) at

  pub output_is : (sets : List Set) → sets_of words files ≡ Ok sets → made_version words ≡ Some (new_version words) → output_in (new_version words) sets ≡ library_at words files
  output_is sets is made =
      output_named (new_version words) (path_of words syslmod) (set_named syslmod sets) refl made
      (subst (λ path. IsNamed (set_at words files) syslmod path (set_named syslmod sets)) (sym (path_is syslmod refl))
      (found_named (set_at words files) set_named_so syslmod refl words sets is))
