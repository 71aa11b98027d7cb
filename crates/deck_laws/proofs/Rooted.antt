-- Modules that come in the root have all their sections there.
use Rattle.std.proofs.Common.{◌≡◌, ℕ, ◌+◌, ◌==◌, Bool, true, false, cond, List, [], ◌∷◌, map, refl, subst, Option, Some, None, unwrap_or}
use Rattle.std.specs.Prelude.{find, option_map, IsTrue, ⊤}
use Rattle.std.specs.List.{AllByRecursion, list_all}
use Rattle.std.proofs.lemmas.Bool.{eqb-true}
use Rattle.sym_mod.specs.declared.module.Item.{Item}
use Rattle.sym_mod.specs.declared.program.Section.{Section}
use Rattle.linking_model.specs.Tree.{root, path, is_on_path, lowest_common}
use Rattle.linking_model.specs.Kept.{Read, Sight, Symbol, ByName, Private, sights_in, sights_from, sights, kept_sd, is_sd_named, sight_at, is_at, section_symbols}
use Rattle.linking_model.specs.Merged.{named_section, private_section, section_of, sections, program_of}
use Rattle.linking_model.specs.Settled.{settled, settled_segment}
use Rattle.addr_assign.specs.Laid.{is_in_tree, are_in_tree}
use Rattle.deck_steps.specs.Answers.{IsInRoot}
use Rattle.esd_lists.proofs.Each.{all_made, all_given, all_join}
use Rattle.esd_merge.proofs.Homes.{all_found}

abbrev IsSeenInRoot : Sight → Type 0
IsSeenInRoot x = x.segment ≡ 1

items_seen : (m s n : ℕ) (xs : List Item) → s ≡ 1 → AllByRecursion IsSeenInRoot (sights_in m s n xs)
items_seen m s n [] one = tt
items_seen m s n (x ∷ xs) one = (one, items_seen m s (n + 1) xs one)

seen : (m : ℕ) (rs : List Read) → AllByRecursion IsInRoot rs → AllByRecursion IsSeenInRoot (sights_from m rs)
seen m [] all = tt
seen m (r ∷ rs) all =
    all_join IsSeenInRoot (sights_in m r.segment 0 r.module_.items) (sights_from (m + 1) rs) (items_seen m r.segment 0 r.module_.items all.0) (seen (m + 1) rs all.1)

-- the lowest segment of a tree of the root alone
on_root : (s : ℕ) (b : Bool) → s ≡ 1 → unwrap_or (cond b (Some s) None) 1 ≡ 1
on_root s true is = is
on_root s false is = refl

lowest_at : (test : ℕ → Bool) (s : ℕ) (b : Bool) → (s == 1) ≡ b → unwrap_or (find test (cond b (s ∷ []) [])) 1 ≡ 1
lowest_at test s true is = on_root s (test s) (eqb-true s 1 is)
lowest_at test s false is = refl

lowest : (users : List ℕ) → lowest_common (root ∷ []) users ≡ 1
unfolding lowest_common path
lowest [] = refl
lowest (s ∷ rest) = lowest_at (λ c. list_all (is_on_path (root ∷ []) c) rest) s (s == 1) refl

abbrev IsSettled : Section → Type 0
IsSettled x = settled_segment (root ∷ []) [] x x.kind ≡ 1

some_same : {A : Type 0} {x y : A} → Some x ≡ Some y → x ≡ y
some_same e = cc

section_settled : (rs : List Read) → AllByRecursion IsInRoot rs → (y : Symbol) (x : Section) → ⊤ → section_of rs y ≡ Some x → IsSettled x
section_settled rs all (ByName y) x h is = named (kept_sd rs y) refl is
  where
    named : (o : Option Sight) → kept_sd rs y ≡ o → Some (named_section rs y o) ≡ Some x → IsSettled x
    named None none there = subst IsSettled (some_same there) (lowest (named_section rs y None).users)
    named (Some first) there made = subst IsSettled (some_same made) (all_found IsSeenInRoot (is_sd_named y) (sights rs) first (seen 0 rs all) there)
section_settled rs all (Private m n) x h is = private (sight_at rs m n) refl is
  where
    private : (o : Option Sight) → sight_at rs m n ≡ o → option_map (private_section rs (Private m n)) o ≡ Some x → IsSettled x
    private None none there = absurd cc
    private (Some s) there made = subst IsSettled (some_same made) (all_found IsSeenInRoot (is_at m n) (sights rs) s (seen 0 rs all) there)

sections_settled : (rs : List Read) → AllByRecursion IsInRoot rs → AllByRecursion IsSettled (sections rs)
sections_settled rs all =
    all_made (λ (y : Symbol). ⊤) IsSettled (section_of rs) (section_settled rs all) (section_symbols rs) (all_given (λ (y : Symbol). ⊤) (λ y. tt) (section_symbols rs))

in_tree : (xs : List Section) → AllByRecursion IsSettled xs
    → list_all (is_in_tree (root ∷ [])) (map (λ (x : Section). record x { segment = settled_segment (root ∷ []) [] x x.kind }) xs) ≡ true
in_tree [] all = refl
in_tree (x ∷ xs) all = rw (all.0) (in_tree xs all.1)

-- the sections of modules that come in the root stand in the root
pub rooted : (rs : List Read) → AllByRecursion IsInRoot rs → IsTrue (are_in_tree (root ∷ []) (settled (root ∷ []) [] (program_of rs)))
unfolding settled program_of
rooted rs all = in_tree (sections rs) (sections_settled rs all)
