-- Each record of a library is one whose bytes four bytes count.
use Rattle.std.proofs.Common.{◌≡◌, ℕ, zero, suc, ◌<◌, ◌^◌, List, [], ◌∷◌, length, Option, Some, None, refl, subst, arith}
use Rattle.std.specs.Prelude.{find, slice_get}
use Rattle.std.specs.Option.{option_map_or}
use Rattle.std.specs.List.{AllByRecursion}
use Rattle.le_bytes.specs.declared.name.Name.{Name}
use Rattle.pds_directory.specs.declared.kinds.Version.{Version}
use Rattle.pds_directory.specs.declared.kinds.Version.TheVariants.{One, Two}
use Rattle.pds_directory.specs.Places.{width}
use Rattle.pds_lib.specs.Contents.{Held, Contents}
use Rattle.pds_lib.specs.Sound.{IsRecord, IsHeld, IsSound}
use Rattle.pds_lib.specs.Forms.{AreShort}
use Rattle.pds_lib.proofs.StowSound.{named, all_found}

-- no records
pub none_short : AreShort []
unfolding AreShort
none_short = tt

fits_four : (v : Version) (n : ℕ) → n < 256 ^ width v → n < 2 ^ 32
fits_four One n lt = omega (arith, lt)
fits_four Two n lt = omega (arith, lt)

member_short : (lib : Contents) (records : List (List ℕ)) → AllByRecursion (IsRecord lib) records → AreShort records
unfolding AreShort
member_short lib [] all = tt
member_short lib (r ∷ rs) all = (fits_four lib.version (length r) all.0.1, member_short lib rs all.1)

-- the records that are found by a name
pub found_short : (lib : Contents) (n : Name) → IsSound lib → AreShort (option_map_or (λ (h : Held). h.records) (find (named n) lib.members) [])
unfolding AreShort
found_short lib n sound = by_cases (find (named n) lib.members) refl
  where
    by_cases : (found : Option Held) → find (named n) lib.members ≡ found → AreShort (option_map_or (λ (h : Held). h.records) found [])
    by_cases None there = tt
    by_cases (Some h) there = member_short lib h.records (all_found (IsHeld lib) n lib.members h sound.members there).records

-- one of short records
pub nth_short : (records : List (List ℕ)) (k : ℕ) (r : List ℕ) → AreShort records → slice_get records k ≡ Some r → length r < 2 ^ 32
unfolding AreShort
nth_short [] k r all there = absurd cc
nth_short (x ∷ rs) zero r all there =
    let is : x ≡ r = cc in
    subst (λ (y : List ℕ). length y < 2 ^ 32) is all.0
nth_short (x ∷ rs) (suc k) r all there = nth_short rs k r all.1 there
