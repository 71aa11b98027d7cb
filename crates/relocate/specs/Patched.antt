-- What the field of a constant becomes, from its terms and from what stands in it.
use Rattle.std.specs.Prelude.{ℕ, ◌+◌, ◌%◌, ◌^◌, List, [], ◌∷◌, sum_by, ⊤}
use Rattle.sym_mod.specs.declared.module.Kind.{Kind}
use Rattle.sym_mod.specs.declared.module.Kind.TheVariants.{Address}
use Rattle.linking_model.specs.Linked.{signed_difference}
use Rattle.relocate.specs.declared.numbers.Shift.{Shift}

-- what a term adds to a number modulo m
abbrev pub shift_of : ℕ → Shift → ℕ
shift_of m s = signed_difference m s.minus s.to s.from

-- the new address of the first term, 0 where there is none
abbrev pub only_to : List Shift → ℕ
only_to [] = 0
only_to (s ∷ _) = s.to

-- an address has any number of terms, and any other constant one
abbrev pub HasTerms : Kind → List Shift → Type 0
HasTerms Address terms = ⊤
HasTerms kind (s ∷ []) = ⊤
HasTerms kind _ = ⊥

-- the number of a field of n bytes in which a number stood: an address has it and what its terms add, and any other
-- constant what its only term gives
unfoldable pub patched : ℕ → Kind → List Shift → ℕ → ℕ
patched n Address terms stored = (stored + sum_by (shift_of (256 ^ n)) terms) % 256 ^ n
patched n kind terms stored = only_to terms % 256 ^ n
