-- Entry points lie in sections that are there, and the directory data of a member.
use Rattle.std.proofs.Common.{◌≡◌, ℕ, ◌+◌, ◌^◌, ◌<◌, if◌then◌else◌, List, [], ◌∷◌, length, map, All, Option, Some, None, refl, sym, ap, subst, ◌∙◌, arith}
use Rattle.std.specs.Prelude.{slice_get}
use Rattle.std.specs.List.{AllByRecursion}
use Rattle.std.specs.Option.{option_map_or}
use Rattle.std.proofs.lemmas.Option.{slice_get_within}
use Rattle.std.proofs.lemmas.List.Elements.{All-head, All-tail, All-map, All-weaker, recursion_from_All}
use Rattle.le_bytes.specs.declared.name.Name.{Name}
use Rattle.sym_mod.specs.declared.program.Section.{Section}
use Rattle.sym_mod.specs.declared.program.Places.{Places}
use Rattle.pds_lib.specs.declared.member.AliasAt.{AliasAt}
use Rattle.pds_lib.specs.declared.member.Member.{Member}
use Rattle.linking_model.specs.Places.{Laid, module_length}
use Rattle.member_model.specs.Parts.{OneSection, part_number}
use Rattle.member_model.specs.Written.{address_of_point, alias_of, written_bytes, member_written}
use Rattle.addr_assign.specs.Laid.{places_of}
use Rattle.mod_segments.specs.Records.{IsStored}
use Rattle.mod_parts.specs.Listed.{CanBeListed}
use Rattle.mod_parts.specs.Placed.{ArePlacesOf}
use Rattle.mod_parts.proofs.Addressed.{part_end}
use Rattle.mod_write.specs.declared.naming.PointAt.{PointAt}
use Rattle.mod_write.specs.declared.naming.AliasPoint.{AliasPoint}
use Rattle.mod_write.specs.declared.naming.Format.{Format}
use Rattle.mod_write.specs.declared.naming.Naming.{Naming}
use Rattle.mod_write.specs.Naming.{seen, named, IsPoint, ArePoints}
use Rattle.mod_write.specs.Ready.{IsFormat}
use Rattle.mod_write.specs.Stowable.{IsStowable}
use Rattle.mod_write.specs.Written.{alias_at}
use Rattle.mod_write.proofs.Member.{stored_by}

pub point_there : (P : Laid) (x : PointAt) → IsPoint P x → x.section < length P.program.sections
point_there P x is = by_found (slice_get P.program.sections x.section) refl
  where
    by_found : (found : Option Section) → slice_get P.program.sections x.section ≡ found → x.section < length P.program.sections
    by_found None e = absurd (let h : 0 ≡ 1 = sym (ap (λ o. option_map_or (λ y. y.segment) o 0) e) ∙ is.resident in omega (arith, h))
    by_found (Some y) e = slice_get_within P.program.sections x.section y e

pub point_near : (P : Laid) (a : Places) (x : PointAt) → ArePlacesOf P a → CanBeListed P → IsPoint P x → x.address < 2 ^ 24
point_near P a x placed can is =
    let end = part_end P a (OneSection x.section) placed can (point_there P x is) in omega (arith, end, is.last)

-- the point is at its address
pub point_address : (P : Laid) (x : PointAt) → IsPoint P x → address_of_point P (seen P x) ≡ x.address
point_address P x is = omega (arith, is.first)

same_alias : (P : Laid) (x : AliasPoint) → IsPoint P x.point → alias_of P (x.name, seen P x.point) ≡ alias_at P x
same_alias P x is =
    let at : ℕ → AliasAt = λ n. record { name = x.name; entry = n; entry_section = part_number P (OneSection x.point.section) } in
    ap at (point_address P x.point is)

-- the aliases are those of the member
pub aliases_are : (P : Laid) (xs : List AliasPoint) → All (λ x. IsPoint P x.point) xs
    → map (alias_of P) (map (λ (x : AliasPoint). (x.name, seen P x.point)) xs) ≡ map (alias_at P) xs
aliases_are P [] are = refl
aliases_are P (x ∷ xs) are =
    ap (λ y. y ∷ map (alias_of P) (map (λ (x : AliasPoint). (x.name, seen P x.point)) xs)) (same_alias P x (All-head (λ x. IsPoint P x.point) x xs are))
    ∙ ap (λ ys. alias_at P x ∷ ys) (aliases_are P xs (All-tail (λ x. IsPoint P x.point) x xs are))

pub aliases_near : (P : Laid) (a : Places) (xs : List AliasPoint) → ArePlacesOf P a → CanBeListed P → All (λ x. IsPoint P x.point) xs
    → AllByRecursion (λ (y : AliasAt). y.entry < 2 ^ 24) (map (alias_at P) xs)
aliases_near P a xs placed can are =
    recursion_from_All (λ (y : AliasAt). y.entry < 2 ^ 24) (map (alias_at P) xs)
    (All-map (λ (y : AliasAt). y.entry < 2 ^ 24) (alias_at P) xs
    (All-weaker (λ x. IsPoint P x.point) (λ x. x.point.address < 2 ^ 24) (λ x is. point_near P a x.point placed can is) xs are))

-- a member of these parts
abbrev pub made : Name → List AliasAt → ℕ → ℕ → ℕ → ℕ → List (List ℕ) → Member
made name aliases attr length entry section records =
    record { name = name; aliases = aliases; attr = attr; length = length; entry = entry; entry_section = section; records = records }

pub same_member : (name : Name) (aliases aliases' : List AliasAt) (attr attr' length length' entry entry' section section' : ℕ) (records records' : List (List ℕ))
    → aliases ≡ aliases' → attr ≡ attr' → length ≡ length' → entry ≡ entry' → section ≡ section' → records ≡ records'
    → made name aliases attr length entry section records ≡ made name aliases' attr' length' entry' section' records'
same_member name aliases aliases' attr attr' length length' entry entry' section section' records records' a b c d e f =
    ap (λ x. made name x attr length entry section records) a
    ∙ (ap (λ x. made name aliases' x length entry section records) b
    ∙ (ap (λ x. made name aliases' attr' x entry section records) c
    ∙ (ap (λ x. made name aliases' attr' length' x section records) d
    ∙ (ap (λ x. made name aliases' attr' length' entry' x records) e ∙ ap (made name aliases' attr' length' entry' section') f))))

-- the member that is made of these is the one that the definition gives, where the list of parts is that of the program
pub member_is : (P L : Laid) (a : Places) (fmt : Format) (who : Naming) (aliases : List AliasAt) (attr section : ℕ) (records : List (List ℕ))
    → L ≡ P → ArePlacesOf P a → IsFormat P fmt → ArePoints P who → aliases ≡ map (alias_at L) who.aliases
    → attr ≡ (if fmt.overlay then 32 else 0) + (if fmt.scatter then 4 else 0) → section ≡ part_number L (OneSection who.point.section)
    → records ≡ written_bytes L fmt.scatter fmt.piece
    → made who.name aliases attr a.length who.point.address section records ≡ member_written P fmt.scatter fmt.piece (named P who)
unfolding places_of
member_is P L a fmt who aliases attr section records same placed format points others bits number bytes =
    same_member who.name aliases _ attr _ a.length _ who.point.address _ section _ records _
    (others ∙ (ap (λ l. map (alias_at l) who.aliases) same ∙ sym (aliases_are P who.aliases points.aliases)))
    (bits ∙ ap (λ o. (if o then 32 else 0) + (if fmt.scatter then 4 else 0)) format.overlay)
    (ap (λ b. b.length) placed.2)
    (sym (point_address P who.point points.main))
    (number ∙ ap (λ l. part_number l (OneSection who.point.section)) same)
    (bytes ∙ ap (λ l. written_bytes l fmt.scatter fmt.piece) same)

-- and a library can hold it
pub member_stowable : (P L : Laid) (a : Places) (who : Naming) (aliases : List AliasAt) (attr section : ℕ) (records : List (List ℕ))
    → L ≡ P → ArePlacesOf P a → CanBeListed L → ArePoints P who → aliases ≡ map (alias_at L) who.aliases → All IsStored records
    → IsStowable (made who.name aliases attr a.length who.point.address section records)
unfolding places_of
member_stowable P L a who aliases attr section records same placed can points others stored =
    let listed : CanBeListed P = subst CanBeListed same can in
    let long : a.length ≡ module_length P = ap (λ b. b.length) placed.2 in
    record {
      records = stored_by records stored;
      length = omega (arith, long, placed.1);
      entry = point_near P a who.point placed listed points.main;
      entries = subst (AllByRecursion (λ (y : AliasAt). y.entry < 2 ^ 24)) (sym (others ∙ ap (λ l. map (alias_at l) who.aliases) same))
          (aliases_near P a who.aliases placed listed points.aliases);
    }
