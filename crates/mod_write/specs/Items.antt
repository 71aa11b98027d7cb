-- The relocation items of sections before they are in order.
use Rattle.std.specs.Prelude.{ℕ, ◌==◌, List, map, filter, flat_map}
use Rattle.sym_mod.specs.declared.program.Constant.{Constant}
use Rattle.load_recs.specs.declared.items.RldItem.{RldItem}
use Rattle.linking_model.specs.Places.{Laid}
use Rattle.member_model.specs.Chunks.{term_item}

-- the items of the constants that stand in section i, in the order of terms
unfoldable pub terms_in : Laid → List Constant → ℕ → List RldItem
terms_in P constants i = flat_map (λ c. map (term_item P c) c.terms) (filter (λ c. c.section == i) constants)
