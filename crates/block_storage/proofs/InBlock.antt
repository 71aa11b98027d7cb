-- From the stored text to the linked text of a program of one segment.
use Rattle.std.proofs.Common.{◌≡◌, ℕ, ◌+◌, ◌<◌, ◌≤◌, List, [], ◌∷◌, length, All, refl, sym, ◌∙◌, ap, subst}
use Rattle.std.proofs.lemmas.List.{ext_get_or, get_or-map, length-map}
use Rattle.sym_mod.specs.Sound.{IsSoundProgram}
use Rattle.sym_mod.specs.declared.program.Program.{Program}
use Rattle.sym_mod.specs.declared.program.Places.{Places}
use Rattle.sym_mod.specs.declared.program.Target.{Target}
use Rattle.linking_model.specs.Tree.{Tree, root}
use Rattle.linking_model.specs.Places.{Laid, length_of_section, module_length}
use Rattle.linking_model.specs.Linked.{block}
use Rattle.text_store.specs.Content.{section_of}
use Rattle.addr_assign.specs.Laid.{places_of}
use Rattle.relocate.specs.Ready.{StandsInTree, FitTogether}
use Rattle.relocate.specs.Relocated.{relocated}
use Rattle.relocate.specs.Agreeing.{stored_text, linked_text}
use Rattle.relocate.proofs.Agreeing.{stored_text_is_linked, length_stored, length_stored_section}
use Rattle.relocate.proofs.Steps.{HasLengths}
use Rattle.block_storage.specs.Storage.{alone, moved}
use Rattle.block_storage.proofs.Fitting.{fit_together, make_block, all_reached}
use Rattle.block_storage.proofs.Texts.{lengths_got}

has_lengths : (X : List (List ℕ)) (p : Program) → length X ≡ length p.sections
    → ((i : ℕ) → i < length p.sections → length (section_of X i) ≡ length_of_section p i) → HasLengths X p
has_lengths X p count sizes =
    ext_get_or 0 _ _ (length-map X length ∙ (count ∙ sym (length-map p.sections (λ x. x.length))))
    (λ i within.
    let there : i < length X = subst (λ n. i < n) (length-map X length) within in
    get_or-map length X i [] 0 there ∙ (sizes i (subst (λ n. i < n) count there) ∙ sym (lengths_got p.sections i)))

pub stored_lengths : (p : Program) → HasLengths (stored_text p) p
stored_lengths p = has_lengths (stored_text p) p (length_stored p) (length_stored_section p)

-- what the call has: the tree of the root, tables without entries, and addresses at the origin
pub record IsAlone (p : Program) (at : ℕ) (tree : Tree) (entries : List (List Target)) (a m : Places) : Type 0 where
  pub sound : IsSoundProgram p
  pub stand : All (StandsInTree (root ∷ [])) p.sections
  pub near : at + module_length (alone p) ≤ 16777215
  pub one : tree ≡ root ∷ []
  pub empty : entries ≡ [] ∷ []
  pub placed : a ≡ places_of (alone p)
  pub moves : m ≡ moved at a

abbrev pub given : Program → Tree → List (List Target) → Laid
given p tree entries = record { program = p; tree = tree; entries = entries }

is_alone : (p : Program) (at : ℕ) (tree : Tree) (entries : List (List Target)) (a m : Places) → IsAlone p at tree entries a m
    → given p tree entries ≡ alone p
is_alone p at tree entries a m it = rw (it.one, it.empty) refl

is_moved : (p : Program) (at : ℕ) (tree : Tree) (entries : List (List Target)) (a m : Places) → IsAlone p at tree entries a m
    → m ≡ moved at (places_of (alone p))
is_moved p at tree entries a m it = it.moves ∙ ap (moved at) it.placed

pub fits : (p : Program) (at : ℕ) (tree : Tree) (entries : List (List Target)) (a m : Places) → IsAlone p at tree entries a m
    → FitTogether (given p tree entries) m
fits p at tree entries a m it =
    subst (λ P. FitTogether P m) (sym (is_alone p at tree entries a m it))
    (subst (FitTogether (alone p)) (sym (is_moved p at tree entries a m it)) (fit_together p at it.sound it.stand it.near))

pub links : (p : Program) (at : ℕ) (tree : Tree) (entries : List (List Target)) (a m : Places) (X : List (List ℕ)) → IsAlone p at tree entries a m
    → X ≡ stored_text p → relocated (given p tree entries) m X ≡ linked_text (alone p) (block (alone p) at)
links p at tree entries a m X it stored =
    ap (λ P. relocated P m X) (is_alone p at tree entries a m it)
    ∙ (ap (λ n. relocated (alone p) n X) (is_moved p at tree entries a m it)
    ∙ (ap (relocated (alone p) (moved at (places_of (alone p)))) stored
    ∙ stored_text_is_linked (alone p) (moved at (places_of (alone p))) (block (alone p) at)
    (fit_together p at it.sound it.stand it.near) (make_block p at) (all_reached p it.sound it.stand)))
