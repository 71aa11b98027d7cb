-- Which name is called next, and from which data set (GC28-6538; the order of calls is this project's profile).
use Rattle.std.specs.Prelude.{ℕ, Bool, false, not, ◌&&◌, ◌||◌, if◌then◌else◌, List, map, filter, filter_map, slice_get, position, Option, None, is_some, option_map}
use Rattle.le_bytes.specs.declared.name.Name.{Name}
use Rattle.le_bytes.specs.Names.{name_eq}
use Rattle.pds_lib.specs.Contents.{find_entry}
use Rattle.pds_lib.specs.declared.set.Body.{Body}
use Rattle.pds_lib.specs.declared.set.Body.TheVariants.{Cards, Lib}
use Rattle.pds_lib.specs.declared.set.Set.{Set}
use Rattle.linking_model.specs.Kept.{Read}
use Rattle.linking_model.specs.Merged.{unresolved}
use Rattle.autocall.specs.Rules.{Rules, is_stopped, was_tried, dd_of}

-- it is a library that has a member or alias of the name
abbrev pub has_member : Name → Body → Bool
has_member n (Cards _) = false
has_member n (Lib lib) = is_some (find_entry lib n)

-- it is the library of this data set, and has a member or alias of the name
abbrev pub is_library_with : Name → Name → Set → Bool
is_library_with dd n s = name_eq s.dd dd && has_member n s.body

-- the place, among the data sets, of the library that a name is called from, where that has a member or alias of it
abbrev pub library_of : Rules → List Set → Name → Option ℕ
library_of r sets n = position (is_library_with (dd_of r n) n) sets

-- the call of an unresolved name that is not weak: the name, and the place of its library; none where it is stopped,
-- was tried, or has no library with it
unfoldable pub call_of : Rules → List Set → Name → Option (Name × ℕ)
call_of r sets n =
    if is_stopped r n || was_tried r n then None else option_map (λ (k : ℕ). (n, k)) (library_of r sets n)

-- the unresolved names that are not weak, in order of first appearance
abbrev pub names_to_call : List Read → List Name
names_to_call rs = map (λ u. u.name) (filter (λ u. not u.weak) (unresolved rs))

-- the next call: of the first of these names that has one
unfoldable pub next_call : Rules → List Read → List Set → Option (Name × ℕ)
next_call r rs sets = slice_get (filter_map (call_of r sets) (names_to_call rs)) 0
