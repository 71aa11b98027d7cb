-- What a list of parts keeps.
use Rattle.std.specs.Prelude.{◌≡◌, ℕ, ◌≤◌, All, List, length, map}
use Rattle.sym_mod.specs.Sound.{IsSoundProgram}
use Rattle.linking_model.specs.Tree.{IsTree, IsSmall, segments}
use Rattle.linking_model.specs.Places.{Laid}
use Rattle.relocate.specs.Ready.{StandsInTree}
use Rattle.member_model.specs.Parts.{Part as Piece, parts, parts_in, part_number}
use Rattle.mod_parts.specs.declared.part.Part.{Part}
use Rattle.mod_parts.specs.declared.numbers.Numbers.{Numbers}
use Rattle.mod_parts.specs.Seen.{seen, IsPartOf}
use Rattle.mod_parts.specs.Numbers.{number_in}

-- the program is sound, its sections stand in the tree, and a table has at most 340 entries
pub record CanBeListed (P : Laid) : Type 0 where
  pub sound : IsSoundProgram P.program
  pub tree : IsTree P.tree
  pub small : IsSmall P.tree
  pub in_tree : All (StandsInTree P.tree) P.program.sections
  pub few : All (λ x. length x ≤ 340) P.entries

-- the parts of each segment, segment 1 first, how many they are, and the number of each
pub record ListsParts (P : Laid) (listed : List (List Part)) (count : ℕ) (numbers : Numbers) : Type 0 where
  pub can : CanBeListed P
  pub segments : map (map seen) listed ≡ map (parts_in P) (segments P.tree)
  pub count_is : count ≡ length (parts P)
  pub sections_counted : length numbers.sections ≡ length P.program.sections
  pub tables_counted : length numbers.tables ≡ length P.tree
  pub numbers_are : (x : Piece) → IsPartOf P x → number_in numbers x ≡ part_number P x
