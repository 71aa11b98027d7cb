-- The library that stands at SYSLMOD among the sets, and the answer that puts a library there.
use Rattle.std.specs.Prelude.{◌≡◌, ℕ, ◌≤◌, ◌-◌, ◌^◌, min, Bool, true, false, nat_lt, if◌then◌else◌, List, length, find, Option, Some, None, unwrap_or, IfSome, Ok}
use Rattle.std.specs.Option.{option_and_then}
use Rattle.le_bytes.specs.Names.{name_eq}
use Rattle.le_bytes.specs.declared.refusal.Refusal.TheVariants.{Limit}
use Rattle.le_bytes.specs.declared.refusal.Counted.TheVariants as counted
use Rattle.command_words.specs.Keys.{syslmod}
use Rattle.pds_directory.specs.declared.kinds.Version.{Version}
use Rattle.pds_lib.specs.declared.set.Body.{Body}
use Rattle.pds_lib.specs.declared.set.Body.TheVariants.{Cards, Lib}
use Rattle.pds_lib.specs.declared.set.Set.{Set}
use Rattle.pds_lib.specs.Contents.{Contents}
use Rattle.pds_lib.specs.Grammar.{library_of}
use Rattle.pds_image.specs.Image.{written}
use Rattle.command_sets.specs.declared.answer.Answer.{Answer}
use Rattle.command_sets.specs.declared.answer.Put.{Put}
use Rattle.command_sets.specs.declared.status.Status.{Status}
use Rattle.command_sets.specs.Refusing.{refused}
use Rattle.command_sets.specs.Sets.{set_limit, empty_library}

-- ---- the library of the sets

-- the library of a set
abbrev pub library_in : Body → Option Contents
library_in (Lib lib) = Some lib
library_in (Cards _) = None

-- the library of the first set that is named SYSLMOD, or one without members
abbrev pub output_in : Version → List Set → Contents
output_in version sets =
    unwrap_or (option_and_then (λ (x : Set). library_in x.body) (find (λ (x : Set). name_eq x.dd syslmod) sets)) (empty_library version)

-- ---- a library that is put

-- the image of this library, at SYSLMOD
abbrev pub output_put : Contents → Put
output_put lib = record { dd = syslmod; image = written lib }

-- an image is no longer than a data set may be
abbrev pub MayBePut : Put → Type 0
MayBePut put = length put.image ≤ set_limit

-- the length of the image of a library, as far as 64 bits count
abbrev pub image_size : Contents → ℕ
image_size lib = min (length (written lib)) (2 ^ 64 - 1)

-- the library is put, where its image is no longer than a data set may be
unfoldable pub put_answer : Status → List ℕ → Contents → Answer
put_answer status text lib =
    if nat_lt set_limit (image_size lib) then refused (Limit counted.ImageLength (image_size lib))
    else record { status = status; text = text; put = Some (output_put lib) }

-- a library that the words name is put, and one that they do not is only kept in memory
abbrev pub library_answer : Bool → Status → List ℕ → Contents → Answer
library_answer true status text lib = put_answer status text lib
library_answer false status text lib = record { status = status; text = text; put = None }

-- ---- what is put

-- what is put is SYSLMOD, and only where it is named
abbrev pub PutsOutput : Bool → Answer → Type 0
PutsOutput named answer = IfSome answer.put (λ put. (put.dd ≡ syslmod) × (named ≡ true))

-- what is put is read as this library
abbrev pub PutsReadable : Contents → Answer → Type 0
PutsReadable lib answer = IfSome answer.put (λ put. library_of put.image ≡ Ok lib)
