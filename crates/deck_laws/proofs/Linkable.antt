-- The program of whole modules may be written as a member, wherever its sections are settled.
use Rattle.std.proofs.Common.{arith, ◌≡◌, ℕ, ◌+◌, ◌≤◌, Bool, true, false, cond, nat_lt, List, [], ◌∷◌, map, length, get_or, slice_get, Option, Some, None, option_map, refl, sym, ap, subst}
use Rattle.std.specs.Prelude.{All, IsSomeAnd, IsTrue}
use Rattle.std.specs.List.{AllByRecursion}
use Rattle.std.proofs.lemmas.Option.{slice_get-map}
use Rattle.std.proofs.lemmas.List.Elements.{All-from_recursion, recursion_from_All}
use Rattle.std.proofs.lemmas.List.Sums.{AllPass-from_list_all}
use Rattle.sym_mod.specs.declared.program.Program.{Program}
use Rattle.sym_mod.specs.declared.program.Section.{Section}
use Rattle.sym_mod.specs.declared.program.Label.{Label}
use Rattle.sym_mod.specs.declared.program.Unknown.{Unknown}
use Rattle.sym_mod.specs.declared.program.Register.{Register}
use Rattle.sym_mod.specs.declared.program.Target.{Target}
use Rattle.sym_mod.specs.Sound.{IsSoundProgram}
use Rattle.linking_model.specs.Kept.{Read}
use Rattle.linking_model.specs.Merged.{sections, labels, unresolved, registers, program_of}
use Rattle.linking_model.specs.Tree.{Tree, root, regions, segments}
use Rattle.linking_model.specs.Settled.{Inserts, settled, settled_segment}
use Rattle.linking_model.specs.Places.{Laid}
use Rattle.linking_model.specs.Tables.{crowd_in, laid_out, entries}
use Rattle.addr_assign.specs.Laid.{is_in_tree, are_in_tree}
use Rattle.block_storage.specs.Storage.{alone}
use Rattle.block_storage.proofs.Alone.{stand_all}
use Rattle.block_storage.proofs.Fitting.{alone_is_planned}
use Rattle.deck_steps.specs.Answers.{IsInRoot}
use Rattle.member_laws.specs.Linkable.{HasEightBytes, HasWholeNames, HasText, StandsInTree, IsLinkable}
use Rattle.deck_laws.specs.Whole.{IsWholeRead}
use Rattle.deck_laws.specs.Laws.{PassesNoLimit, FitsAlone, root_program, SettledProgramsAreLinkable, RootProgramsAreLinkable}
use Rattle.deck_laws.proofs.Labels.{IsWholeLabel, labels_whole}
use Rattle.deck_laws.proofs.Names.{sections_whole, unresolved_whole, registers_whole}
use Rattle.deck_laws.proofs.Rooted.{rooted}

-- ---- settling changes nothing but segments

abbrev in_segment : (Section → ℕ) → Section → Section
in_segment g x = record x { segment = g x }

names_stay : (g : Section → ℕ) (xs : List Section) → AllByRecursion (λ x. HasEightBytes x.name) xs → AllByRecursion (λ x. HasEightBytes x.name) (map (in_segment g) xs)
names_stay g [] all = tt
names_stay g (x ∷ xs) all = (all.0, names_stay g xs all.1)

text_stays : (g : Section → ℕ) (xs : List Section) (i : ℕ) → IsSomeAnd (slice_get xs i) (λ y. HasText y.kind) → IsSomeAnd (slice_get (map (in_segment g) xs) i) (λ y. HasText y.kind)
text_stays g xs i there = rw (slice_get-map (in_segment g) xs i) (one (slice_get xs i) there)
  where
    one : (o : Option Section) → IsSomeAnd o (λ y. HasText y.kind) → IsSomeAnd (option_map (in_segment g) o) (λ y. HasText y.kind)
    one None h = h
    one (Some x) h = h

label_names : (rs : List Read) (xs : List Label) → AllByRecursion (IsWholeLabel rs) xs → AllByRecursion (λ x. HasEightBytes x.name) xs
label_names rs [] all = tt
label_names rs (x ∷ xs) all = (all.0.1, label_names rs xs all.1)

labels_stay : (g : Section → ℕ) (rs : List Read) (xs : List Label) → AllByRecursion (IsWholeLabel rs) xs
    → AllByRecursion (λ x. IsSomeAnd (slice_get (map (in_segment g) (sections rs)) x.section) (λ y. HasText y.kind)) xs
labels_stay g rs [] all = tt
labels_stay g rs (x ∷ xs) all = (text_stays g (sections rs) x.section all.0.0, labels_stay g rs xs all.1)

module _ (tree : Tree) (inserts : Inserts) (rs : List Read) (whole : AllByRecursion IsWholeRead rs) where
  names_whole : HasWholeNames (settled tree inserts (program_of rs))
  unfolding settled program_of
  names_whole = record {
    sections = All-from_recursion (λ (x : Section). HasEightBytes x.name) _ (names_stay (λ x. settled_segment tree inserts x x.kind) (sections rs) (sections_whole rs whole));
    labels = All-from_recursion (λ (x : Label). HasEightBytes x.name) (labels rs) (label_names rs (labels rs) (labels_whole rs whole));
    unresolved = All-from_recursion (λ (x : Unknown). HasEightBytes x.name) (unresolved rs) (unresolved_whole rs whole);
    registers = All-from_recursion (λ (x : Register). HasEightBytes x.name) (registers rs) (registers_whole rs whole);
  }

  labels_in_text : All (λ x. IsSomeAnd (slice_get (settled tree inserts (program_of rs)).sections x.section) (λ y. HasText y.kind)) (settled tree inserts (program_of rs)).labels
  unfolding settled program_of
  labels_in_text =
      All-from_recursion (λ (x : Label). IsSomeAnd (slice_get (map (in_segment (λ x. settled_segment tree inserts x x.kind)) (sections rs)) x.section) (λ y. HasText y.kind)) (labels rs)
      (labels_stay (λ x. settled_segment tree inserts x x.kind) rs (labels rs) (labels_whole rs whole))

-- ---- in the tree, with few entries

stands_one : (tree : Tree) (x : Section) → is_in_tree tree x ≡ true → StandsInTree tree x
stands_one tree x inside = record { first = grind (arith, inside); last = grind (arith, inside) }

stand_in_tree : (tree : Tree) (p : Program) → IsTrue (are_in_tree tree p) → All (StandsInTree tree) p.sections
stand_in_tree tree p inside = λ k d within.
    stands_one tree (get_or p.sections k d) (AllPass-from_list_all (is_in_tree tree) p.sections inside k d within)

few_in : (tables : List (List Target)) (s : ℕ) → crowd_in tables s ≡ None → AllByRecursion (λ x. length x ≤ 340) tables
few_in [] s none = tt
few_in (table ∷ tables) s none = chosen (nat_lt 340 (length table)) refl none (few_in tables (s + 1))
  where
    chosen : (b : Bool) → nat_lt 340 (length table) ≡ b → cond b (Some (record { segment = s; entries = length table })) (crowd_in tables (s + 1)) ≡ None
        → (crowd_in tables (s + 1) ≡ None → AllByRecursion (λ x. length x ≤ 340) tables) → AllByRecursion (λ x. length x ≤ 340) (table ∷ tables)
    chosen true more is later = absurd cc
    chosen false more is later = (few (length table) more, later is)
      where
        few : (n : ℕ) → nat_lt 340 n ≡ false → n ≤ 340
        few n is = grind (arith, is)

pub settled_linkable : SettledProgramsAreLinkable
settled_linkable tree inserts rs whole fits =
    let each : AllByRecursion IsWholeRead rs = recursion_from_All IsWholeRead rs whole in
    let p : Program = settled tree inserts (program_of rs) in
    record {
      sound = fits.sound;
      whole_names = names_whole tree inserts rs each;
      tree = fits.tree;
      small = fits.small;
      in_tree = stand_in_tree tree p fits.in_tree;
      labels_in_text = labels_in_text tree inserts rs each;
      entries = refl;
      few_entries = All-from_recursion (λ (x : List Target). length x ≤ 340) (map (entries p tree) (segments tree)) (few_in (map (entries p tree) (segments tree)) 1 fits.few_entries);
      module_fits = fits.short;
      registers_fit = fits.registers;
    }

-- ---- in the root alone

one_region : regions (root ∷ []) ≤ 4
unfolding regions
one_region = omega arith

module _ (p : Program) (sound : IsSoundProgram p) (fits : FitsAlone p) (in_root : IsTrue (are_in_tree (root ∷ []) p)) where
  alone_passes : PassesNoLimit (alone p)
  alone_passes = record {
    sound = sound;
    tree = refl;
    small = record { few_segments = omega arith; few_regions = one_region };
    in_tree = in_root;
    few_entries = refl;
    registers = fits.registers;
    short = fits.short;
  }

  alone_laid : alone p ≡ laid_out p (root ∷ [])
  alone_laid = ap (λ es. let P : Laid = record { program = p; tree = root ∷ []; entries = es } in P) (alone_is_planned p sound (stand_all (root ∷ []) p in_root))

pub root_linkable : RootProgramsAreLinkable
root_linkable rs modules sound fits =
    let p : Program = root_program rs in
    let in_root : IsTrue (are_in_tree (root ∷ []) p) = rooted rs (recursion_from_All IsInRoot rs modules.root) in
    let is : alone p ≡ laid_out p (root ∷ []) = alone_laid p sound fits in_root in
    subst IsLinkable (sym is) (settled_linkable (root ∷ []) [] rs modules.whole (subst PassesNoLimit is (alone_passes p sound fits in_root)))
