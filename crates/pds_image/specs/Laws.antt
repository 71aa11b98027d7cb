-- The law of images: what is written of a library is read as that library.
use Rattle.std.specs.Prelude.{◌≡◌, ◌≤◌, length, Ok}
use Rattle.pds_lib.specs.Contents.{Contents}
use Rattle.pds_lib.specs.Grammar.{library_of}
use Rattle.pds_lib.specs.Sound.{IsSound}
use Rattle.pds_image.specs.Image.{written, most_bytes}

-- the image of a sound library, where it is not too long, holds that library
abbrev pub WrittenLibrariesAreRead : Type 0
WrittenLibrariesAreRead = (lib : Contents) → IsSound lib → length (written lib) ≤ most_bytes → library_of (written lib) ≡ Ok lib
