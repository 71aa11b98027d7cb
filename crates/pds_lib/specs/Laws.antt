-- The laws of libraries: each that can come to be is sound.
use Rattle.std.specs.Prelude.{◌≡◌, ℕ, Bool, List, [], Ok}
use Rattle.std.specs.List.{AllByRecursion}
use Rattle.le_bytes.specs.Numbers.{AreBytes}
use Rattle.pds_directory.specs.declared.kinds.LibKind.{LibKind}
use Rattle.pds_directory.specs.declared.kinds.Version.{Version}
use Rattle.pds_lib.specs.declared.member.Member.{Member}
use Rattle.pds_lib.specs.Contents.{Contents}
use Rattle.pds_lib.specs.Grammar.{library_of}
use Rattle.pds_lib.specs.Sound.{IsSound}
use Rattle.pds_lib.specs.Stow.{MayStow, HasWidths, entries_for, stowed}

-- a library of no members is sound
abbrev pub EmptyLibrariesAreSound : Type 0
EmptyLibrariesAreSound = (version : Version) (kind : LibKind) → IsSound (record { version = version; kind = kind; members = [] })

-- the library that an image holds is sound
abbrev pub ReadLibrariesAreSound : Type 0
ReadLibrariesAreSound = (image : List ℕ) (lib : Contents) → AreBytes image → library_of image ≡ Ok lib → IsSound lib

-- a sound library is sound with a member that may be stowed
abbrev pub StowsKeepLibrariesSound : Type 0
StowsKeepLibrariesSound =
    (lib : Contents) (m : Member) (replace : Bool) (new : Contents) → IsSound lib → MayStow lib m → AllByRecursion HasWidths (entries_for m)
    → stowed lib m replace ≡ Ok new → IsSound new
