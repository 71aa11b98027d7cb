-- A program whose sections all stand in the root.
use Rattle.std.proofs.Common.{arith, ◌≡◌, ℕ, zero, suc, ◌+◌, ◌<◌, ◌≤◌, true, List, [], ◌∷◌, length, map, get_or, slice_index, All, IsTrue, refl, ◌∙◌, ap, subst, Some, slice_get}
use Rattle.std.specs.Prelude.{⊤}
use Rattle.std.specs.List.{range_with_len}
use Rattle.std.specs.Option.{option_map_or}
use Rattle.std.proofs.lemmas.List.Sums.{AllPass-from_list_all}
use Rattle.std.proofs.lemmas.List.FromFn.{get_or-map-range_with_len}
use Rattle.sym_mod.specs.declared.program.Program.{Program}
use Rattle.sym_mod.specs.declared.program.Section.{Section}
use Rattle.linking_model.specs.Tree.{Tree, root, segments}
use Rattle.linking_model.specs.Places.{place, end_of, module_length, segment_of_section, length_of_section}
use Rattle.linking_model.specs.Laws.{LiesInSegment}
use Rattle.linking_model.proofs.Extents.{sections_lie_in_segments}
use Rattle.addr_assign.specs.Laid.{is_in_tree, are_in_tree}
use Rattle.relocate.specs.Ready.{StandsInTree}
use Rattle.relocate.proofs.Bounds.{Found, of_each}
use Rattle.block_storage.specs.Storage.{alone}

-- ---- sections

stands_one : (tree : Tree) (x : Section) → is_in_tree tree x ≡ true → StandsInTree tree x
stands_one tree x inside = record { first = grind (arith, inside); last = grind (arith, inside) }

pub stand_all : (tree : Tree) (p : Program) → IsTrue (are_in_tree tree p) → All (StandsInTree tree) p.sections
stand_all tree p inside = λ k d within.
    stands_one tree (get_or p.sections k d) (AllPass-from_list_all (is_in_tree tree) p.sections inside k d within)

pub got : {A : Type 0} (xs : List A) (i : ℕ) → i < length xs → Found xs i (λ _. ⊤)
got [] i within = absurd (omega (arith, within))
got (x ∷ xs) zero within = record { item = x; found = refl; holds = tt }
got (x ∷ xs) (suc i) within = let rest = got xs i (omega (arith, within)) in record { item = rest.item; found = rest.found; holds = tt }

pub segment_one : (p : Program) (i : ℕ) (x : Section) → All (StandsInTree (root ∷ [])) p.sections → slice_get p.sections i ≡ Some x → x.segment ≡ 1
segment_one p i x stand found =
    let at : StandsInTree (root ∷ []) x = of_each (StandsInTree (root ∷ [])) p.sections i x stand found in
    omega (arith, at.first, at.last)

pub section_one : (p : Program) (i : ℕ) → All (StandsInTree (root ∷ [])) p.sections → i < length p.sections → segment_of_section p i ≡ 1
section_one p i stand within =
    let at : Found p.sections i (λ _. ⊤) = got p.sections i within in
    ap (λ o. option_map_or (λ x. x.segment) o 0) at.found ∙ segment_one p i at.item stand at.found

-- ---- places

pub module_end : (p : Program) → module_length (alone p) ≡ end_of (alone p) 1
unfolding segments
module_end p = grind arith

pub ends_inside : (p : Program) (i : ℕ) → All (StandsInTree (root ∷ [])) p.sections → i < length p.sections
    → place (alone p) i + length_of_section p i ≤ module_length (alone p)
ends_inside p i stand within =
    let at : Found p.sections i (λ _. ⊤) = got p.sections i within in
    let lies : LiesInSegment (alone p) i at.item = sections_lie_in_segments (alone p) i at.item at.found in
    let size : length_of_section p i ≡ at.item.length = ap (λ o. option_map_or (λ x. x.length) o 0) at.found in
    rw (module_end p, size) (subst (λ s. place (alone p) i + at.item.length ≤ end_of (alone p) s) (segment_one p i at.item stand at.found) lies.ends)

abbrev pub addresses : Program → List ℕ
addresses p = map (place (alone p)) (range_with_len 0 (length p.sections))

pub address_at : (p : Program) (i : ℕ) → i < length p.sections → slice_index (addresses p) i ≡ place (alone p) i
address_at p i within = get_or-map-range_with_len (place (alone p)) 0 (length p.sections) i i 0 within (omega arith)
