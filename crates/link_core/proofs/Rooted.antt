-- Modules that come in the root have all their sections there.
use Rattle.std.proofs.Common.{arith, ◌≡◌, ℕ, ◌+◌, ◌==◌, Bool, true, false, List, [], ◌∷◌, map, refl, sym, ap, subst, Option, Some, None, if◌then◌else◌, unwrap_or, cond}
use Rattle.std.specs.Prelude.{All, find, option_map, IsTrue}
use Rattle.std.specs.List.{list_all}
use Rattle.std.proofs.lemmas.Option.{none-some}
use Rattle.std.proofs.lemmas.List.Elements.{All-head, All-tail, All-nil, All-cons, All-append}
use Rattle.sym_mod.specs.declared.module.Item.{Item}
use Rattle.sym_mod.specs.declared.program.Section.{Section}
use Rattle.linking_model.specs.Tree.{plain, path, is_on_path, lowest_common}
use Rattle.linking_model.specs.Kept.{Read, Sight, Symbol, ByName, Private, sights_in, sights_from, sights, kept_sd, is_sd_named, sight_at, is_at, section_symbols}
use Rattle.linking_model.specs.Merged.{named_section, private_section, section_of, sections, program_of}
use Rattle.linking_model.specs.Settled.{settled, settled_segment}
use Rattle.addr_assign.specs.Laid.{is_in_tree, are_in_tree}
use Rattle.deck_steps.specs.Answers.{IsInRoot}
use Rattle.link_core.specs.Programs.{root_program}
use Rattle.link_core.proofs.Lists.{found, made}

abbrev pub IsSeenInRoot : Sight → Type 0
IsSeenInRoot x = x.segment ≡ 1

items_seen : (m n : ℕ) (xs : List Item) → All IsSeenInRoot (sights_in m 1 n xs)
items_seen m n [] = All-nil IsSeenInRoot
items_seen m n (x ∷ xs) = All-cons IsSeenInRoot _ _ refl (items_seen m (n + 1) xs)

seen : (m : ℕ) (rs : List Read) → All IsInRoot rs → All IsSeenInRoot (sights_from m rs)
seen m [] all = All-nil IsSeenInRoot
seen m (r ∷ rs) all =
    All-append IsSeenInRoot (sights_in m r.segment 0 r.module_.items) (sights_from (m + 1) rs)
    (subst (λ s. All IsSeenInRoot (sights_in m s 0 r.module_.items)) (sym (All-head IsInRoot r rs all)) (items_seen m 0 r.module_.items))
    (seen (m + 1) rs (All-tail IsInRoot r rs all))

-- the lowest segment of a tree of the root alone
on_root : (s : ℕ) (b : Bool) → s ≡ 1 → unwrap_or (cond b (Some s) None) 1 ≡ 1
on_root s true is = is
on_root s false is = refl

lowest_at : (test : ℕ → Bool) (s : ℕ) (b : Bool) → (s == 1) ≡ b → unwrap_or (find test (if b then s ∷ [] else [])) 1 ≡ 1
lowest_at test s true is = on_root s (test s) (grind (arith, is))
lowest_at test s false is = refl

lowest : (users : List ℕ) → lowest_common plain.tree users ≡ 1
unfolding lowest_common path
lowest [] = refl
lowest (s ∷ rest) = lowest_at (λ c. list_all (is_on_path plain.tree c) rest) s (s == 1) refl

abbrev pub IsSettled : Section → Type 0
IsSettled x = settled_segment plain.tree [] x x.kind ≡ 1

section_settled : (rs : List Read) → All IsInRoot rs → (y : Symbol) (x : Section) → section_of rs y ≡ Some x → IsSettled x
section_settled rs all (ByName y) x is = named (kept_sd rs y) refl is
  where
    named : (o : Option Sight) → kept_sd rs y ≡ o → Some (named_section rs y o) ≡ Some x → IsSettled x
    named None none there =
        subst IsSettled (ap (λ o. unwrap_or o (named_section rs y None)) there) (lowest (named_section rs y None).users)
    named (Some first) there made_of =
        subst IsSettled (ap (λ o. unwrap_or o (named_section rs y (Some first))) made_of)
        (found IsSeenInRoot (is_sd_named y) (sights rs) first (seen 0 rs all) there)
section_settled rs all (Private m n) x is = private (sight_at rs m n) refl is
  where
    private : (o : Option Sight) → sight_at rs m n ≡ o → option_map (private_section rs (Private m n)) o ≡ Some x → IsSettled x
    private None none there = absurd (none-some x there)
    private (Some s) there made_of =
        subst IsSettled (ap (λ o. unwrap_or o (private_section rs (Private m n) s)) made_of)
        (found IsSeenInRoot (is_at m n) (sights rs) s (seen 0 rs all) there)

sections_settled : (rs : List Read) → All IsInRoot rs → All IsSettled (sections rs)
sections_settled rs all =
    made (λ y. Unit {0}) IsSettled (section_of rs) (λ y x any is. section_settled rs all y x is) (section_symbols rs) (λ k d within. tt)

in_tree : (xs : List Section) → All IsSettled xs
    → list_all (is_in_tree plain.tree) (map (λ (x : Section). record x { segment = settled_segment plain.tree [] x x.kind }) xs) ≡ true
in_tree [] all = refl
in_tree (x ∷ xs) all = rw (All-head IsSettled x xs all) (in_tree xs (All-tail IsSettled x xs all))

-- the sections of modules that come in the root stand in the root
pub rooted : (rs : List Read) → All IsInRoot rs → IsTrue (are_in_tree plain.tree (root_program rs))
unfolding settled program_of
rooted rs all = in_tree (sections rs) (sections_settled rs all)
