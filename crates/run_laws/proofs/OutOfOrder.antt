-- Segments below 1, 1 and 2 in one region are a tree, but no statements give it, and a start refuses it.
use Rattle.std.proofs.Common.{◌≡◌, inl, inr, ℕ, ◌≤◌, true, [], ◌∷◌, refl, ap, ◌∙◌, arith}
use Rattle.std.proofs.lemmas.Bool.Decides.{eqb_tells}
use Rattle.linking_model.specs.declared.segment.Segment.{Segment}
use Rattle.linking_model.specs.Tree.{Tree, root, IsTree, parent_of, region_of, regions}
use Rattle.member_model.specs.Starting.{is_wrong_order}
use Rattle.run_laws.specs.Grown.{MayFollow, IsGrown}
use Rattle.run_laws.specs.Starts.{out_of_order}

abbrev newest : Segment
newest = record { parent = 2; region = 1 }

abbrev older : Tree
older = record { parent = 1; region = 1 } ∷ record { parent = 1; region = 1 } ∷ root ∷ []

pub is_tree : IsTree out_of_order
unfolding region_of regions
is_tree = (
  record { below_root = omega arith; below_earlier = omega arith; numbered = omega arith; next = omega arith; same_region = inr refl },
  (
    record { below_root = omega arith; below_earlier = omega arith; numbered = omega arith; next = omega arith; same_region = inl refl },
    (record { below_root = omega arith; below_earlier = omega arith; numbered = omega arith; next = omega arith; same_region = inl refl }, refl),
  ),
)

-- no segment from the second on is below the second
not_second : (first : ℕ) → 2 ≤ first → first ≤ 3 → 2 ≡ parent_of older first → ⊥
unfolding parent_of
not_second first low high same =
    elim (eqb_tells first 2) as (λ _. ⊥) [
      | inl w ↦ omega (arith, same ∙ ap (parent_of older) w.1)
      | inr w ↦
          let third : first ≡ 3 = omega (arith, low, high, w.1) in
          omega (arith, same ∙ ap (parent_of older) third)
    ]

pub is_not_grown : IsGrown out_of_order → ⊥
is_not_grown g = no_way g.0
  where
    no_way : MayFollow older newest → ⊥
    no_way (inl below) = omega (arith, ap (λ (z : Segment). z.parent) below)
    no_way (inr (inl apart)) = omega (arith, ap (λ (z : Segment). z.parent) apart)
    no_way (inr (inr beside)) = not_second beside.first beside.below_root beside.earlier beside.parent

pub is_refused : is_wrong_order (parent_of out_of_order) (region_of out_of_order) 4 ≡ true
unfolding parent_of region_of
is_refused = refl
