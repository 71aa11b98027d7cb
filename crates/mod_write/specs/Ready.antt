-- What has to stand for a member to be written: the addresses, the tables and the text are those of the program.
use Rattle.std.specs.Prelude.{◌≡◌, false, ◌&&◌, ℕ, List, length}
use Rattle.sym_mod.specs.declared.program.Places.{Places}
use Rattle.linking_model.specs.Places.{Laid, is_overlay}
use Rattle.linking_model.specs.Linked.{block}
use Rattle.relocate.specs.Ready.{FitTogether}
use Rattle.relocate.specs.Agreeing.{linked_text}
use Rattle.mod_parts.specs.Listed.{CanBeListed}
use Rattle.mod_parts.specs.Placed.{ArePlacesOf}
use Rattle.mod_segments.specs.Pieces.{IsPieceLength}
use Rattle.mod_write.specs.declared.chains.Chains.{Chains}
use Rattle.mod_write.specs.declared.naming.Format.{Format}
use Rattle.mod_write.specs.Chained.{AreChained}

-- the addresses are assigned to the program, within the limits of registers and module, the tree and the tables are
-- its own, and the text is linked for a block at 0
pub record IsLinked (P : Laid) (a : Places) (content : List (List ℕ)) : Type 0 where
  pub fit : FitTogether P a
  pub placed : ArePlacesOf P a
  pub text : content ≡ linked_text P (block P 0)

-- overlay exactly with segments beside the root, and not with scatter, and a length that a record of text may have
pub record IsFormat (P : Laid) (fmt : Format) : Type 0 where
  pub overlay : fmt.overlay ≡ is_overlay P.tree
  pub one : (fmt.overlay && fmt.scatter) ≡ false
  pub piece : IsPieceLength fmt.piece

-- what the records of segments are made of: such a program, the constants of each section, and the length of a piece
pub record IsSource (P : Laid) (a : Places) (content : List (List ℕ)) (chains : Chains) (piece : ℕ) : Type 0 where
  pub can : CanBeListed P
  pub linked : IsLinked P a content
  pub chained : AreChained P.program.constants (length P.program.sections) chains
  pub length : IsPieceLength piece
