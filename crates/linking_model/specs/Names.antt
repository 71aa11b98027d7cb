-- Names in order, and the order of first appearance (this project's profile).
use Rattle.std.specs.Prelude.{Bool, List, [], ◌∷◌, ◌++◌, fold, if◌then◌else◌}
use Rattle.std.specs.List.{list_any}
use Rattle.std.specs.Ordering.{nat_cmp, is_lt}
use Rattle.std.specs.Cmp.Lexicographic.{slice_cmp}
use Rattle.le_bytes.specs.declared.name.Name.{Name}

-- the items, and x after them where none of them is equal to it
abbrev pub with_first : {A : Type 0} → (A → A → Bool) → List A → A → List A
with_first eq items x = if list_any (eq x) items then items else items ++ x ∷ []

-- each item where it stands first
abbrev pub firsts : {A : Type 0} → (A → A → Bool) → List A → List A
firsts eq items = fold (with_first eq) [] items

-- x in its place among items that are in order, before those that tie with it
abbrev pub inserted : {A : Type 0} → (A → A → Bool) → A → List A → List A
inserted before x [] = x ∷ []
inserted before x (y ∷ ys) = if before y x then y ∷ inserted before x ys else x ∷ y ∷ ys

-- the items in order, those that tie as they stood
abbrev pub in_order : {A : Type 0} → (A → A → Bool) → List A → List A
in_order before [] = []
in_order before (x ∷ xs) = inserted before x (in_order before xs)

-- ascending as bytes
abbrev pub name_below : Name → Name → Bool
name_below m n = is_lt (slice_cmp nat_cmp m.0 n.0)
