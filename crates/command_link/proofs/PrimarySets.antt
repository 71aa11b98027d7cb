-- The primary input, found among the sets that were read.
use Rattle.command_sets.proofs.NamedSets.{IsNamed, set_named, found_named, set_named_so, body_read, path_is}
use Rattle.command_words.proofs.AskedLemmas.{name_eq-true}
use Rattle.command_words.specs.Keys.{is_reserved, syslin, syslmod}
use Rattle.command_words.specs.Meaning.{data_set_in, path_of}
use Rattle.command_words.specs.Word.{KeyValue, key_value, value_in}
use Rattle.le_bytes.specs.Names.{name_eq}
use Rattle.le_bytes.specs.declared.library_fault.LibFault.{LibFault}
use Rattle.le_bytes.specs.declared.name.Name.{Name}
use Rattle.le_bytes.specs.declared.refusal.Refusal.TheVariants.{NotLibrary, TooLong}
use Rattle.le_bytes.specs.declared.refusal.Refusal.{Refusal}
use Rattle.le_io.specs.Counts.{Files}
use Rattle.link_core.proofs.Lists.{found}
use Rattle.link_core.specs.Sets.{cards_in, primary_cards}
use Rattle.command_sets.specs.Reading.{IsReadBody, IsReadSet}
use Rattle.command_sets.specs.Sets.{cards_at, library_at, library_or_new, body_at, empty_library, file_at, is_for_modules, made_version, new_version, set_as, set_at, set_before, set_limit, set_of_word, sets_in, sets_of, whole_library, with_set}
use Rattle.command_sets.specs.Libraries.{library_in, output_in}
use Rattle.member_model.specs.StandsFor.{AreBytes}
use Rattle.pds_directory.specs.declared.kinds.Version.{Version}
use Rattle.pds_lib.proofs.ReadSound.{same_name}
use Rattle.pds_lib.specs.Contents.{Contents}
use Rattle.pds_lib.specs.Grammar.{library_of}
use Rattle.pds_lib.specs.declared.set.Body.TheVariants.{Cards, Lib}
use Rattle.pds_lib.specs.declared.set.Body.{Body}
use Rattle.pds_lib.specs.declared.set.Set.{Set}
use Rattle.std.proofs.Common.{arith, ◌≡◌, ℕ, ◌+◌, ◌<◌, ◌≤◌, ◌==◌, nat_lt, Bool, true, false, List, [], ◌∷◌, length, drop, get_or, refl, sym, ◌∙◌, ap, subst, Option, Some, None, unwrap_or, Result, Ok, Err, if◌then◌else◌}
use Rattle.std.proofs.Math.ListN.{drop_of_length-le}
use Rattle.std.proofs.lemmas.List.Elements.{All-weaker}
use Rattle.std.specs.Option.{option_and_then, option_map_or}
use Rattle.std.specs.Prelude.{All, find, IsSomeAnd, option_map}
use Rattle.std.specs.Result.{result_unwrap_or}

-- ---- among sets that were read

-- cards that were read, and no cards
abbrev IsReadCards : List ℕ → Type 0
IsReadCards bytes = (length bytes ≤ set_limit) × AreBytes bytes

none_read : IsReadCards []
none_read = (omega arith, tt)

cards_read : (b : Body) → IsReadBody b → IsReadCards (cards_in b)
cards_read (Cards bytes) read = read
cards_read (Lib lib) read = none_read

-- sets whose bodies were read
abbrev pub AreBodiesRead : List Set → Type 0
AreBodiesRead sets = All (λ (x : Set). IsReadBody x.body) sets

primary_read : (sets : List Set) → AreBodiesRead sets → IsReadCards (primary_cards sets)
primary_read sets all = cases (find (λ (x : Set). name_eq x.dd syslin) sets) refl
  where
    cases : (o : Option Set) → find (λ (x : Set). name_eq x.dd syslin) sets ≡ o → IsReadCards (option_map_or (λ (x : Set). cards_in x.body) o [])
    cases None is = none_read
    cases (Some x) is = cards_read x.body (found (λ (z : Set). IsReadBody z.body) (λ (y : Set). name_eq y.dd syslin) sets x all is)

-- sets that words name, by their bodies
pub bodies : (words : List (List ℕ)) (sets : List Set) → All (IsReadSet words) sets → AreBodiesRead sets
bodies words sets all = All-weaker (IsReadSet words) (λ (x : Set). IsReadBody x.body) (λ x read. read.0) sets all

pub primary_short : (words : List (List ℕ)) (sets : List Set) → All (IsReadSet words) sets → length (primary_cards sets) ≤ set_limit
primary_short words sets all = (primary_read sets (bodies words sets all)).0

pub primary_bytes : (words : List (List ℕ)) (sets : List Set) → All (IsReadSet words) sets → AreBytes (primary_cards sets)
primary_bytes words sets all = (primary_read sets (bodies words sets all)).1

-- ---- SYSLIN of files

module _ (words : List (List ℕ)) (files : Files) where
  cards_there : (new : Option Version) (o : Option (List ℕ)) (b : Body) → body_at new syslin o ≡ Ok b → cards_in b ≡ unwrap_or o []
  cards_there new None b is = absurd cc
  cards_there new (Some bytes) b is = cases (nat_lt set_limit (length bytes)) is
    where
      cases : (long : Bool) → (if long then Err (TooLong syslin) else Ok (Cards bytes)) ≡ Ok b → cards_in b ≡ bytes
      cases true none = absurd cc
      cases false gives = let same : Cards bytes ≡ b = cc in ap cards_in (sym same)

  cards_named : (path : Option (List ℕ)) (o : Option Set) → path_of words syslin ≡ path → IsNamed (set_at words files) syslin path o
      → option_map_or (λ (x : Set). cards_in x.body) o [] ≡ unwrap_or (option_and_then files path) []
  cards_named None o at named = ap (λ o. option_map_or (λ (x : Set). cards_in x.body) o []) named
  cards_named (Some path) None at named = absurd named
  cards_named (Some path) (Some x) at named =
      cards_there (made_version words) (file_at words files syslin) x.body (body_read words files syslin x named)
      ∙ ap (λ path. unwrap_or (option_and_then files path) []) at

  pub cards_are : (sets : List Set) → sets_of words files ≡ Ok sets → primary_cards sets ≡ cards_at words files
  cards_are sets is =
      cards_named (path_of words syslin) (set_named syslin sets) refl
      (subst (λ path. IsNamed (set_at words files) syslin path (set_named syslin sets)) (sym (path_is words files syslin refl))
      (found_named (set_at words files) (set_named_so words files) syslin refl words sets is))
