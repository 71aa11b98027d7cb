-- Sections in the segments that they are settled in.
use Rattle.std.proofs.Common.{◌≡◌, ℕ, ◌≤◌, Bool, true, false, not, cond, filter, length, get_or, ◌==◌, ◌||◌, List, [], ◌∷◌, map, Option, Some, None, option_map, slice_get, IsSomeAnd, refl, ap, ◌∙◌}
use Rattle.std.specs.List.{list_any}
use Rattle.sym_mod.specs.declared.program.Program.{Program}
use Rattle.sym_mod.specs.declared.program.Section.{Section}
use Rattle.std.proofs.lemmas.List.Elements.{All-map}
use Rattle.std.proofs.lemmas.List.{length-map}
use Rattle.std.proofs.lemmas.Option.{slice_get-map}
use Rattle.sym_mod.specs.declared.module.Kind.{Kind}
use Rattle.sym_mod.specs.declared.module.Kind.TheVariants.{Address, Branch, Displacement, Total as TotalKind}
use Rattle.sym_mod.specs.declared.program.SecKind.{SecKind}
use Rattle.sym_mod.specs.declared.program.SecKind.TheVariants.{Sd as SdSection, Pc as PcSection, Cm as CmSection}
use Rattle.sym_mod.specs.declared.program.Target.{Target}
use Rattle.sym_mod.specs.declared.program.Target.TheVariants.{Section as InSection, Label as AtLabel, Unresolved, Register as OfRegister, Total as OfAll}
use Rattle.sym_mod.specs.declared.program.Constant.{Constant}
use Rattle.sym_mod.specs.declared.program.StartAt.{StartAt}
use Rattle.sym_mod.specs.declared.program.StartAt.TheVariants.{At as StartsAt, Named as StartsAtName}
use Rattle.sym_mod.specs.Kinds.{is_private}
use Rattle.sym_mod.specs.Sound.{IsSoundProgram, IsSoundSection, IsSoundConstant, IsSoundStart, HasProperKind, IsSymbolOf, TargetFitsKind, LieInSection}
use Rattle.linking_model.specs.Tree.{Tree}
use Rattle.linking_model.specs.Settled.{Inserts, settled, settled_segment, has_root_section}
use Rattle.addr_assign.specs.Maps.{moved}

pub settled_is : (tree : Tree) (inserts : Inserts) (p : Program) → settled tree inserts p ≡ record p { sections = map (moved tree inserts) p.sections }
unfolding settled moved
settled_is tree inserts p = refl

root_in : (tree : Tree) (inserts : Inserts) (sections : List Section) → list_any (λ x. x.segment == 1) (map (moved tree inserts) sections) ≡ list_any (λ x. settled_segment tree inserts x x.kind == 1) sections
unfolding moved
root_in tree inserts [] = refl
root_in tree inserts (x ∷ xs) = ap (λ b. settled_segment tree inserts x x.kind == 1 || b) (root_in tree inserts xs)

pub root_filled : (tree : Tree) (inserts : Inserts) (p : Program) → has_root_section (settled tree inserts p) ≡ list_any (λ x. settled_segment tree inserts x x.kind == 1) p.sections
root_filled tree inserts p = ap (λ q. has_root_section q) (settled_is tree inserts p) ∙ root_in tree inserts p.sections

-- ---- soundness: nothing but segments changes

abbrev in_segments : (Section → ℕ) → Section → Section
in_segments g x = record x { segment = g x }

abbrev with_segments : (Section → ℕ) → Program → Program
with_segments g p = record p { sections = map (in_segments g) p.sections }

some_moved : (P Q : Section → Type 0) (f : Section → Section) (sections : List Section) (i : ℕ) → ((x : Section) → P x → Q (f x)) → IsSomeAnd (slice_get sections i) P → IsSomeAnd (slice_get (map f sections) i) Q
some_moved P Q f sections i keeps there = rw (slice_get-map f sections i) (by_option (slice_get sections i) there)
  where
    by_option : (o : Option Section) → IsSomeAnd o P → IsSomeAnd (option_map f o) Q
    by_option None h = h
    by_option (Some x) h = keeps x h

kind_stays : (g : Section → ℕ) (x : Section) (kind : SecKind) → HasProperKind x kind → HasProperKind (in_segments g x) kind
kind_stays g x SdSection h = h
kind_stays g x PcSection h = h
kind_stays g x CmSection h = h

names_stay : (g : Section → ℕ) (xs : List Section) → map (λ x. x.name) (filter (λ x. not (is_private x.kind)) (map (in_segments g) xs)) ≡ map (λ x. x.name) (filter (λ x. not (is_private x.kind)) xs)
names_stay g [] = refl
names_stay g (x ∷ xs) = by_test (not (is_private x.kind)) (names_stay g xs)
  where
    by_test : (b : Bool) → map (λ x. x.name) (filter (λ x. not (is_private x.kind)) (map (in_segments g) xs)) ≡ map (λ x. x.name) (filter (λ x. not (is_private x.kind)) xs) → map (λ x. x.name) (cond b (in_segments g x ∷ filter (λ x. not (is_private x.kind)) (map (in_segments g) xs)) (filter (λ x. not (is_private x.kind)) (map (in_segments g) xs))) ≡ map (λ x. x.name) (cond b (x ∷ filter (λ x. not (is_private x.kind)) xs) (filter (λ x. not (is_private x.kind)) xs))
    by_test true h = ap (λ l. x.name ∷ l) h
    by_test false h = h

symbol_stays : (g : Section → ℕ) (p : Program) (t : Target) → IsSymbolOf p t → IsSymbolOf (with_segments g p) t
symbol_stays g p (InSection i) h = rw (length-map p.sections (in_segments g)) h
symbol_stays g p (AtLabel i) h = h
symbol_stays g p (Unresolved i) h = h
symbol_stays g p (OfRegister i) h = h
symbol_stays g p OfAll h = h

fit_stays : (g : Section → ℕ) (p : Program) (kind : Kind) (t : Target) → TargetFitsKind p kind t → TargetFitsKind (with_segments g p) kind t
fit_stays g p Address t h = symbol_stays g p t h
fit_stays g p Branch t h = symbol_stays g p t h
fit_stays g p Displacement (InSection i) h = h
fit_stays g p Displacement (AtLabel i) h = h
fit_stays g p Displacement (Unresolved i) h = h
fit_stays g p Displacement (OfRegister i) h = h
fit_stays g p Displacement OfAll h = h
fit_stays g p TotalKind (InSection i) h = h
fit_stays g p TotalKind (AtLabel i) h = h
fit_stays g p TotalKind (Unresolved i) h = h
fit_stays g p TotalKind (OfRegister i) h = h
fit_stays g p TotalKind OfAll h = h

start_stays : (g : Section → ℕ) (p : Program) (x : StartAt) → IsSoundStart p x → IsSoundStart (with_segments g p) x
start_stays g p (StartsAt i offset) h = some_moved (λ x. offset ≤ x.length) (λ x. offset ≤ x.length) (in_segments g) p.sections i (λ x k. k) h
start_stays g p (StartsAtName name) h = h

lies_still : (g : Section → ℕ) (p : Program) (i offset n : ℕ) → LieInSection p i offset n → LieInSection (with_segments g p) i offset n
lies_still g p i offset n h = some_moved _ _ (in_segments g) p.sections i (λ x k. k) h

constant_stays : (g : Section → ℕ) (p : Program) (c : Constant) → IsSoundConstant p c → IsSoundConstant (with_segments g p) c
constant_stays g p c h = record {
  not_empty = h.not_empty;
  short = h.short;
  inside = lies_still g p c.section c.offset c.length h.inside;
  signs = h.signs;
  targets = λ k d low. fit_stays g p c.kind (get_or c.terms k d).target (h.targets k d low);
  bases = h.bases;
}

sound_still : (g : Section → ℕ) (p : Program) → IsSoundProgram p → IsSoundProgram (with_segments g p)
sound_still g p h = record {
  few = rw (length-map p.sections (in_segments g)) h.few;
  sections = All-map IsSoundSection (in_segments g) p.sections (λ k d low. record { kind = kind_stays g (get_or p.sections k d) (get_or p.sections k d).kind (h.sections k d low).kind; size = (h.sections k d low).size });
  labels = λ k d low. record {
    name = (h.labels k d low).name;
    inside = some_moved (λ x. (get_or p.labels k d).offset ≤ x.length) (λ x. (get_or p.labels k d).offset ≤ x.length) (in_segments g) p.sections (get_or p.labels k d).section (λ x j. j) (h.labels k d low).inside;
  };
  unresolved = h.unresolved;
  registers = h.registers;
  names_differ = rw (names_stay g p.sections) h.names_differ;
  registers_differ = h.registers_differ;
  texts = λ k d low. lies_still g p (get_or p.texts k d).section (get_or p.texts k d).offset (length (get_or p.texts k d).bytes) (h.texts k d low);
  constants = λ k d low. constant_stays g p (get_or p.constants k d) (h.constants k d low);
  apart = h.apart;
  starts = λ k d low. start_stays g p (get_or p.starts k d) (h.starts k d low);
}

pub stays_sound : (tree : Tree) (inserts : Inserts) (p q : Program) → q ≡ settled tree inserts p → IsSoundProgram p → IsSoundProgram q
unfolding settled
stays_sound tree inserts p q is h = rw is (sound_still (λ x. settled_segment tree inserts x x.kind) p h)
