-- A linked program as the crates that write it see it: of one segment, without entries.
use Rattle.std.proofs.Common.{arith, ◌≡◌, ℕ, ◌+◌, ◌≤◌, List, [], ◌∷◌, length, map, All, IsTrue, refl, sym, ◌∙◌, ap, subst}
use Rattle.sym_mod.specs.Sound.{IsAddress}
use Rattle.sym_mod.specs.declared.program.Program.{Program}
use Rattle.sym_mod.specs.declared.program.Places.{Places}
use Rattle.linking_model.specs.Tree.{root, plain, segments}
use Rattle.linking_model.specs.Places.{Laid, module_length, table_place}
use Rattle.linking_model.specs.Linked.{block}
use Rattle.addr_assign.specs.Laid.{are_in_tree, places_of}
use Rattle.addr_assign.proofs.Assigned.{tables_fit}
use Rattle.relocate.specs.Ready.{StandsInTree, FitTogether, laid}
use Rattle.relocate.specs.Agreeing.{linked_text}
use Rattle.block_storage.specs.Storage.{alone, moved}
use Rattle.block_storage.proofs.Alone.{addresses, stand_all}
use Rattle.block_storage.proofs.Fitting.{fit_together, near_each, sections_are}
use Rattle.mod_write.specs.Ready.{IsLinked as IsReady}
use Rattle.link_core.specs.declared.program.LinkedProgram.{LinkedProgram}
use Rattle.link_core.specs.Links.{IsRooted, IsPlaced, IsLinked}

pub length_placed : (p : Program) (places : Places) → IsPlaced p places → places.length ≡ module_length (alone p)
unfolding places_of
length_placed p places placed = ap (λ a. a.length) placed.are

-- with the root alone and without entries
pub is_alone : (x : LinkedProgram) → IsLinked x → laid x.program x.tree x.tables ≡ alone x.program
is_alone x linked = rw (linked.one, linked.empty) refl

pub is_in_tree : (x : LinkedProgram) → IsLinked x → IsTrue (are_in_tree x.tree.tree x.program)
is_in_tree x linked = subst (λ t. IsTrue (are_in_tree t.tree x.program)) (sym linked.one) linked.rooted.in_tree

pub one_tree : (x : LinkedProgram) → IsLinked x → x.tree.tree ≡ root ∷ []
one_tree x linked = ap (λ t. t.tree) linked.one

-- ---- ready to be written

tables_are : (p : Program) → (places_of (alone p)).tables ≡ map (table_place (alone p)) (segments (root ∷ []))
unfolding places_of
tables_are p = refl

below : (xs : List ℕ) → All (λ n. n ≤ 4194311) xs → All IsAddress xs
below xs low = λ k d within. omega (arith, low k d within)

own : (xs : List ℕ) → All (λ n. 0 + n ≤ 16777215) xs → All IsAddress xs
own xs low = λ k d within. omega (arith, low k d within)

near : (n : ℕ) → n ≤ 4194304 → 0 + n ≤ 16777215
near n short = omega (arith, short)

fit : (p : Program) (a : Places) → IsRooted p → IsPlaced p a → FitTogether (alone p) a
fit p a rooted placed =
    let stand : All (StandsInTree (root ∷ [])) p.sections = stand_all (root ∷ []) p rooted.in_tree in
    let inside : 0 + module_length (alone p) ≤ 16777215 = near (module_length (alone p)) placed.short in
    let moves : FitTogether (alone p) (moved 0 (places_of (alone p))) = fit_together p 0 rooted.sound stand inside in
    let tables : All IsAddress (places_of (alone p)).tables =
    below (places_of (alone p)).tables (tables_fit (alone p) (places_of (alone p)).tables placed.short (tables_are p)) in
    subst (FitTogether (alone p)) (sym placed.are)
    (record {
      sound = rooted.sound;
      tree = moves.tree;
      sections = subst (All IsAddress) (sym (sections_are p)) (own (addresses p) (near_each p 0 stand inside));
      tables = tables;
      in_tree = stand;
      entries = moves.entries;
      few = moves.few;
    })

-- with its linked text it can be written
pub ready : (x : LinkedProgram) (content : List (List ℕ)) → IsLinked x → content ≡ linked_text (alone x.program) (block (alone x.program) 0)
    → IsReady (laid x.program x.tree x.tables) x.places content
ready x content linked text =
    subst (λ P. IsReady P x.places content) (sym (is_alone x linked))
    (record {
      fit = fit x.program x.places linked.rooted linked.placed;
      placed = (linked.placed.registers, linked.placed.short, linked.placed.are);
      text = text;
    })
