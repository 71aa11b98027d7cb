-- A set is refused for what stands there, and never for a placement.
use Rattle.std.proofs.Common.{◌≡◌, ℕ, ◌==◌, nat_lt, Bool, true, false, List, [], ◌∷◌, length, subst, Option, Some, None, Result, Ok, Err, if◌then◌else◌}
use Rattle.std.specs.Prelude.{option_map}
use Rattle.le_bytes.specs.declared.library_fault.LibFault.{LibFault}
use Rattle.le_bytes.specs.declared.name.Name.{Name}
use Rattle.le_bytes.specs.declared.refusal.Refusal.{Refusal}
use Rattle.le_bytes.specs.declared.refusal.Refusal.TheVariants.{NotLibrary, Place, SetAbsent, TooLong}
use Rattle.le_bytes.specs.Names.{name_eq}
use Rattle.le_io.specs.Counts.{Files}
use Rattle.command_words.specs.Keys.{syslmod}
use Rattle.command_words.specs.Meaning.{data_set_in}
use Rattle.command_words.specs.Word.{KeyValue}
use Rattle.pds_directory.specs.declared.kinds.Version.{Version}
use Rattle.pds_lib.specs.declared.set.Body.{Body}
use Rattle.pds_lib.specs.declared.set.Body.TheVariants.{Cards}
use Rattle.pds_lib.specs.declared.set.Set.{Set}
use Rattle.pds_lib.specs.Contents.{Contents}
use Rattle.pds_lib.specs.Grammar.{library_of}
use Rattle.command_sets.specs.Causes.{IsLinkRefusal}
use Rattle.command_sets.specs.Sets.{body_at, body_of, file_at, is_for_modules, made_version, new_library, output_of, set_as, set_at, set_before, set_limit, sets_in, sets_of, whole_library, with_set}

-- a refusal that is of no placement
abbrev pub IsOfNoPlace : Refusal → Type 0
IsOfNoPlace (Place _) = ⊥
IsOfNoPlace _ = Unit {0}

pub link_no_place : (refusal : Refusal) → IsLinkRefusal refusal → IsOfNoPlace refusal
link_no_place (Place what) own = own
link_no_place _ own = tt

-- a refusal, if it is one, is of no placement
abbrev NoPlaceIn : {A : Type 0} → Result A Refusal → Type 0
NoPlaceIn (Ok x) = Unit {0}
NoPlaceIn (Err refusal) = IsOfNoPlace refusal

new_none : (new : Option Version) (refusal : Refusal) → IsOfNoPlace refusal → NoPlaceIn (new_library new refusal)
new_none (Some version) refusal none = tt
new_none None refusal none = none

whole_none : (r : Result Contents LibFault) → NoPlaceIn (whole_library r)
whole_none (Ok lib) = tt
whole_none (Err fault) = tt

output_none : (new : Option Version) (bytes : List ℕ) → NoPlaceIn (output_of new bytes)
output_none new bytes = empty (length bytes == 0)
  where
    begun : (b : Bool) → NoPlaceIn (if b then whole_library (library_of bytes) else Err (NotLibrary syslmod))
    begun true = whole_none (library_of bytes)
    begun false = tt

    empty : (b : Bool) → NoPlaceIn (if b then new_library new (NotLibrary syslmod) else (if is_for_modules bytes then whole_library (library_of bytes) else Err (NotLibrary syslmod)))
    empty true = new_none new (NotLibrary syslmod) tt
    empty false = begun (is_for_modules bytes)

body_none : (new : Option Version) (dd : Name) (bytes : List ℕ) (b : Bool) → NoPlaceIn (if b then output_of new bytes else Ok (Cards bytes))
body_none new dd bytes true = output_none new bytes
body_none new dd bytes false = tt

at_none : (new : Option Version) (dd : Name) (o : Option (List ℕ)) → NoPlaceIn (body_at new dd o)
at_none new dd None = absent (name_eq dd syslmod)
  where
    absent : (b : Bool) → NoPlaceIn (if b then new_library new (SetAbsent dd) else Err (SetAbsent dd))
    absent true = new_none new (SetAbsent dd) tt
    absent false = tt
at_none new dd (Some bytes) = long (nat_lt set_limit (length bytes))
  where
    long : (b : Bool) → NoPlaceIn (if b then Err (TooLong dd) else body_of new dd bytes)
    long true = tt
    long false = body_none new dd bytes (name_eq dd syslmod)

as_none : (dd : Name) (r : Result Body Refusal) → NoPlaceIn r → NoPlaceIn (set_as dd r)
as_none dd (Ok body) none = tt
as_none dd (Err refusal) none = none

set_none : (words : List (List ℕ)) (files : Files) (dd : Name) → NoPlaceIn (set_at words files dd)
unfolding set_at
set_none words files dd =
    as_none dd (body_at (made_version words) dd (file_at words files dd)) (at_none (made_version words) dd (file_at words files dd))

before_none : (x : Set) (r : Result (List Set) Refusal) → NoPlaceIn r → NoPlaceIn (set_before x r)
before_none x (Ok sets) none = tt
before_none x (Err refusal) none = none

with_none : (r : Result Set Refusal) (rest : Result (List Set) Refusal) → NoPlaceIn r → NoPlaceIn rest → NoPlaceIn (with_set (Some r) rest)
with_none (Ok x) rest first later = before_none x rest later
with_none (Err refusal) rest first later = first

module _ (read : Name → Result Set Refusal) (each : (n : Name) → NoPlaceIn (read n)) where
  word_none : (o : Option KeyValue) (rest : Result (List Set) Refusal) → NoPlaceIn rest → NoPlaceIn (with_set (option_map (λ (s : KeyValue). read s.key) o) rest)
  word_none None rest later = later
  word_none (Some s) rest later = with_none (read s.key) rest (each s.key) later

  sets_none : (words : List (List ℕ)) → NoPlaceIn (sets_in read words)
  unfolding sets_in
  sets_none [] = tt
  sets_none (word ∷ words) = word_none (data_set_in word) (sets_in read words) (sets_none words)

pub set_no_place : (words : List (List ℕ)) (files : Files) (refusal : Refusal) → sets_of words files ≡ Err refusal → IsOfNoPlace refusal
set_no_place words files refusal is = subst NoPlaceIn is (sets_none (set_at words files) (set_none words files) words)
