-- The entries of overlay tables are sections and labels of the program, so that an entry table in the module is that of
-- the definitions, and its relocation items fit in records.
use Rattle.std.proofs.Common.{◌≡◌, ℕ, ◌+◌, ◌-◌, ◌*◌, ◌^◌, ◌≤◌, ◌<◌, Bool, true, false, if◌then◌else◌, List, [], ◌∷◌, ◌++◌, length, map, take, get_or, Option, Some, None, All, refl, sym, ap, subst, ◌∙◌, zero-add, arith}
use Rattle.std.specs.Prelude.{flat_map, slice_get, slice_index, replicate, filter_map}
use Rattle.std.specs.Option.{IfSome, option_map_or}
use Rattle.std.specs.List.{cons_option, enumerate_from}
use Rattle.std.specs.List.Sorted.{IsNonDecreasingBy}
use Rattle.std.proofs.lemmas.List.{map-append, take_more, take_all}
use Rattle.std.proofs.lemmas.List.Concat.{flat_map-cons}
use Rattle.std.proofs.lemmas.List.Elements.{All-nil, All-cons, All-head, All-tail, All-append, All-map, All-filter, All-weaker}
use Rattle.std.proofs.lemmas.List.FromFn.{length-enumerate_from, get_or-enumerate_from, get_or-map-range_with_len}
use Rattle.byteorder.specs.Endian.{big_bytes}
use Rattle.sym_mod.specs.declared.program.Program.{Program}
use Rattle.sym_mod.specs.declared.program.Places.{Places}
use Rattle.sym_mod.specs.declared.program.Section.{Section}
use Rattle.sym_mod.specs.declared.program.Target.{Target}
use Rattle.sym_mod.specs.declared.program.Target.TheVariants.{Section as InSection, Label as AtLabel, Unresolved, Register as OfRegister, Total}
use Rattle.sym_mod.specs.Sound.{IsSymbolOf, IsSoundProgram}
use Rattle.sym_mod.specs.Kinds.{is_private}
use Rattle.linking_model.specs.Names.{name_below, in_order}
use Rattle.linking_model.specs.Tree.{Tree, segments}
use Rattle.linking_model.specs.Places.{Laid, place, table_place, entries_of}
use Rattle.linking_model.specs.Tables.{NamedTarget, named_section, private_section, named_label, named_targets, targets_in_order, has_entry, entries, segment_of}
use Rattle.linking_model.specs.TableBytes.{entry_bytes, entab_bytes}
use Rattle.linking_model.specs.Linked.{address_of, block}
use Rattle.addr_assign.specs.Laid.{places_of}
use Rattle.relocate.specs.Ready.{IsDefinedIn}
use Rattle.relocate.specs.Relocated.{placed_at}
use Rattle.relocate.specs.Agreeing.{MakePlacement}
use Rattle.relocate.proofs.Bounds.{of_each}
use Rattle.relocate.proofs.Agreeing.{same_address}
use Rattle.relocate.proofs.Rows.{segments_listed}
use Rattle.load_recs.specs.declared.items.RldItem.{RldItem}
use Rattle.sym_mod.specs.declared.module.Kind.TheVariants.{Address}
use Rattle.member_model.specs.Parts.{EntryTable, part_number, target_number}
use Rattle.member_model.specs.Chunks.{entry_items}
use Rattle.mod_segments.specs.Chunks.{IsItem}
use Rattle.mod_segments.specs.Pieces.{last_byte}
use Rattle.mod_write.proofs.Sorted.{InOrder, in_order_all}
use Rattle.mod_write.proofs.Pairs.{non_decreasing}
use Rattle.mod_write.proofs.Relocations.{few_symbols, number_within, target_within}

-- ---- lists

-- what holds of each element with its number
enumerated : {X : Type 0} (P : ℕ × X → Type 0) (xs : List X) → ((i : ℕ) (d : X) → i < length xs → P (i, get_or xs i d)) → All P (enumerate_from 0 xs)
enumerated P xs each k d below =
    let short : k < length xs = rw (length-enumerate_from 0 xs) at below in
    rw (get_or-enumerate_from 0 xs k d short) (rw (zero-add k) (each k d.1 short))

kept_all : {X Y : Type 0} (P : Y → Type 0) (f : X → Option Y) (xs : List X) → All (λ x. IfSome (f x) P) xs → All P (filter_map f xs)
kept_all P f [] are = All-nil P
kept_all {X} {Y} P f (x ∷ xs) are = by_first (f x) (All-head (λ x. IfSome (f x) P) x xs are) (kept_all P f xs (All-tail (λ x. IfSome (f x) P) x xs are))
  where
    by_first : (found : Option Y) → IfSome found P → All P (filter_map f xs) → All P (cons_option found (filter_map f xs))
    by_first None is more = more
    by_first (Some y) is more = All-cons P y (filter_map f xs) is more

same_flat : {X Y : Type 0} (f g : X → List Y) (xs : List X) → All (λ x. f x ≡ g x) xs → flat_map f xs ≡ flat_map g xs
same_flat f g [] are = refl
same_flat f g (x ∷ xs) are =
    flat_map-cons f x xs
    ∙ (ap (λ v. v ++ flat_map f xs) (All-head (λ x. f x ≡ g x) x xs are)
    ∙ (ap (λ v. g x ++ v) (same_flat f g xs (All-tail (λ x. f x ≡ g x) x xs are)) ∙ sym (flat_map-cons g x xs)))

-- ---- entries

named_section_is : (p : Program) (i : ℕ) (x : Section) → i < length p.sections → IfSome (named_section (i, x)) (λ y. IsDefinedIn p y.target)
named_section_is p i x there = by_kind (is_private x.kind)
  where
    by_kind : (b : Bool) → IfSome {T = NamedTarget} (if b then None else Some (record { name = x.name; target = InSection i })) (λ y. IsDefinedIn p y.target)
    by_kind true = tt
    by_kind false = there

private_section_is : (p : Program) (i : ℕ) (x : Section) → i < length p.sections → IfSome (private_section (i, x)) (IsDefinedIn p)
private_section_is p i x there = by_kind (is_private x.kind)
  where
    by_kind : (b : Bool) → IfSome {T = Target} (if b then Some (InSection i) else None) (IsDefinedIn p)
    by_kind true = there
    by_kind false = tt

targets_defined : (p : Program) → All (IsDefinedIn p) (targets_in_order p)
targets_defined p =
    let IsNamed : NamedTarget → Type 0 = λ y. IsDefinedIn p y.target in
    All-append (IsDefinedIn p) (map (λ x. x.target) (in_order (λ x y. name_below x.name y.name) (named_targets p))) (filter_map private_section (enumerate_from 0 p.sections))
    (All-map (IsDefinedIn p) (λ x. x.target) (in_order (λ x y. name_below x.name y.name) (named_targets p))
    (in_order_all (λ x y. name_below x.name y.name) IsNamed (named_targets p)
    (All-append IsNamed (filter_map named_section (enumerate_from 0 p.sections)) (map named_label (enumerate_from 0 p.labels))
    (kept_all IsNamed named_section (enumerate_from 0 p.sections) (enumerated (λ x. IfSome (named_section x) IsNamed) p.sections (λ i d there. named_section_is p i (get_or p.sections i d) there)))
    (All-map IsNamed named_label (enumerate_from 0 p.labels) (enumerated (λ x. IsNamed (named_label x)) p.labels (λ i d there. there))))))
    (kept_all (IsDefinedIn p) private_section (enumerate_from 0 p.sections) (enumerated (λ x. IfSome (private_section x) (IsDefinedIn p)) p.sections (λ i d there. private_section_is p i (get_or p.sections i d) there)))

entries_defined : (p : Program) (tree : Tree) (b : ℕ) → All (IsDefinedIn p) (entries p tree b)
unfolding entries
entries_defined p tree b = All-filter (has_entry p tree b) (IsDefinedIn p) (targets_in_order p) (targets_defined p)

pub all_defined : (P : Laid) (s : ℕ) → P.entries ≡ map (entries P.program P.tree) (segments P.tree) → All (IsDefinedIn P.program) (entries_of P s)
all_defined P s planned = by_found (slice_get P.entries (s - 1)) refl
  where
    each : All (All (IsDefinedIn P.program)) P.entries
    each =
        subst (All (All (IsDefinedIn P.program))) (sym planned)
        (All-map (All (IsDefinedIn P.program)) (entries P.program P.tree) (segments P.tree) (λ k d below. entries_defined P.program P.tree (get_or (segments P.tree) k d)))

    by_found : (found : Option (List Target)) → slice_get P.entries (s - 1) ≡ found → All (IsDefinedIn P.program) (option_map_or (λ x. x) found [])
    by_found None e = All-nil (IsDefinedIn P.program)
    by_found (Some ys) e = of_each (All (IsDefinedIn P.program)) P.entries (s - 1) ys each e

-- ---- the bytes of a table

defined_symbol : (p : Program) (y : Target) → IsDefinedIn p y → IsSymbolOf p y
defined_symbol p (InSection i) there = there
defined_symbol p (AtLabel i) there = there
defined_symbol p (Unresolved i) there = absurd there
defined_symbol p (OfRegister i) there = absurd there
defined_symbol p Total there = absurd there

-- the addresses that are assigned make the block at 0
pub make_block : (P : Laid) (a : Places) → a ≡ places_of P → MakePlacement P a (block P 0)
unfolding places_of
make_block P a placed = subst (λ b. MakePlacement P b (block P 0)) (sym placed) (record {
  section = λ i there. get_or-map-range_with_len (place P) 0 (length P.program.sections) i i 0 there (omega arith) ∙ sym (zero-add (place P i));
  table = λ s first last some.
      let there : s - 1 < length P.tree = omega arith in
      let at : 1 + (s - 1) ≡ s = omega arith in
      ap (λ xs. slice_index (map (table_place P) xs) (s - 1)) (segments_listed P.tree)
      ∙ (get_or-map-range_with_len (table_place P) 1 (length P.tree) (s - 1) s 0 there at ∙ sym (zero-add (table_place P s)));
  registers = refl;
  total = refl;
})

same_table : (P : Laid) (f g : Target → ℕ) (s : ℕ) → All (λ y. f y ≡ g y) (entries_of P s) → entab_bytes P f s ≡ entab_bytes P g s
unfolding entab_bytes
same_table P f g s same =
    ap (λ (v : List ℕ). big_bytes 2 (length (entries_of P s)) ++ replicate 6 0 ++ v ++ 10 ∷ 45 ∷ 0 ∷ 0 ∷ [])
    (same_flat (λ (i, y). entry_bytes (length (entries_of P s)) i (f y) (segment_of P.program y) s) (λ (i, y). entry_bytes (length (entries_of P s)) i (g y) (segment_of P.program y) s) (enumerate_from 0 (entries_of P s))
    (enumerated (λ (i, y). entry_bytes (length (entries_of P s)) i (f y) (segment_of P.program y) s ≡ entry_bytes (length (entries_of P s)) i (g y) (segment_of P.program y) s) (entries_of P s)
    (λ i d there. ap (λ n. entry_bytes (length (entries_of P s)) i n (segment_of P.program (get_or (entries_of P s) i d)) s) (same i d there))))

-- an entry table with the addresses that are assigned is that of the block at 0
pub table_linked : (P : Laid) (a : Places) (s : ℕ) → IsSoundProgram P.program → a ≡ places_of P → P.entries ≡ map (entries P.program P.tree) (segments P.tree)
    → entab_bytes P (address_of P.program (placed_at a)) s ≡ entab_bytes P (address_of P.program (block P 0)) s
table_linked P a s sound placed planned =
    same_table P (address_of P.program (placed_at a)) (address_of P.program (block P 0)) s
    (All-weaker (IsDefinedIn P.program) (λ y. address_of P.program (placed_at a) y ≡ address_of P.program (block P 0) y)
    (λ y there. same_address P a (block P 0) y sound (make_block P a placed) (defined_symbol P.program y there)) (entries_of P s) (all_defined P s planned))

-- the same, of the program and the tables that a list of parts gives
pub table_written : (P : Laid) (a : Places) (s : ℕ) (p : Program) (tables : List (List Target)) (out : List ℕ) → IsSoundProgram P.program → a ≡ places_of P
    → P.entries ≡ map (entries P.program P.tree) (segments P.tree) → p ≡ P.program → tables ≡ P.entries
    → out ≡ entab_bytes (record { program = p; tree = P.tree; entries = tables }) (address_of p (placed_at a)) s
    → out ≡ entab_bytes P (address_of P.program (block P 0)) s
table_written P a s p tables out sound placed planned same_program same_tables made =
    made
    ∙ (ap (λ (q : Program). entab_bytes (record { program = q; tree = P.tree; entries = tables }) (address_of q (placed_at a)) s) same_program
    ∙ (ap (λ (t : List (List Target)). entab_bytes (record { program = P.program; tree = P.tree; entries = t }) (address_of P.program (placed_at a)) s) same_tables
    ∙ table_linked P a s sound placed planned))

-- ---- the relocation items of a table

abbrev pub entry_item : Laid → ℕ → ℕ × Target → RldItem
entry_item P s (i, y) =
    record { r = target_number P y; p = part_number P (EntryTable s); flag = 12; address = table_place P s + 12 + 12 * i }

entry_is : (P : Laid) (s i : ℕ) (y : Target) → few_symbols P < 2 ^ 16 → table_place P s ≤ 4194311 → i < 340 → IsDefinedIn P.program y
    → IsItem (entry_item P s (i, y))
entry_is P s i y few near early there =
    let number = number_within P (EntryTable s) in
    let target = target_within P Address y (defined_symbol P.program y there) in
    record {
      fits = record { r_fits = omega arith; p_fits = omega arith; address_fits = omega arith };
      alone = refl;
      known = refl;
    }

pub entries_are : (P : Laid) (s : ℕ) → few_symbols P < 2 ^ 16 → table_place P s ≤ 4194311 → length (entries_of P s) ≤ 340
    → All (IsDefinedIn P.program) (entries_of P s) → All IsItem (entry_items P s)
entries_are P s few near early defined =
    All-map IsItem (entry_item P s) (enumerate_from 0 (entries_of P s))
    (enumerated (λ x. IsItem (entry_item P s x)) (entries_of P s)
    (λ i d there. entry_is P s i (get_or (entries_of P s) i d) few near (omega arith) (defined i d there)))

pub entries_inside : (P : Laid) (s : ℕ) → All (λ x. table_place P s ≤ last_byte x) (entry_items P s)
entries_inside P s =
    All-map (λ x. table_place P s ≤ last_byte x) (entry_item P s) (enumerate_from 0 (entries_of P s))
    (enumerated (λ x. table_place P s ≤ last_byte (entry_item P s x)) (entries_of P s) (λ i d there. omega arith))

entries_from : (P : Laid) (s b a : ℕ) (ys : List Target) → b ≤ a → All (λ x. table_place P s + 15 + 12 * b ≤ last_byte x) (map (entry_item P s) (enumerate_from a ys))
entries_from P s b a [] le = All-nil (λ x. table_place P s + 15 + 12 * b ≤ last_byte x)
entries_from P s b a (y ∷ ys) le =
    All-cons (λ x. table_place P s + 15 + 12 * b ≤ last_byte x) (entry_item P s (a, y)) (map (entry_item P s) (enumerate_from (a + 1) ys)) (omega arith)
    (entries_from P s b (a + 1) ys (omega arith))

entries_rise : (P : Laid) (s a : ℕ) (ys : List Target) → InOrder last_byte (map (entry_item P s) (enumerate_from a ys))
entries_rise P s a [] = tt
entries_rise P s a (y ∷ ys) = (
  All-weaker (λ x. table_place P s + 15 + 12 * a ≤ last_byte x) (λ x. last_byte (entry_item P s (a, y)) ≤ last_byte x) (λ x le. omega arith)
      (map (entry_item P s) (enumerate_from (a + 1) ys)) (entries_from P s a (a + 1) ys (omega arith)),
  entries_rise P s (a + 1) ys,
)

pub entries_ordered : (P : Laid) (s : ℕ) → IsNonDecreasingBy last_byte (entry_items P s)
entries_ordered P s = non_decreasing last_byte (entry_items P s) (entries_rise P s 0 (entries_of P s))

-- ---- the items of a table, made entry by entry

pub entries_more : (P : Laid) (s i : ℕ) (ys : List Target) (y d : Target) (old new : List RldItem) (x : RldItem) → i < length ys → y ≡ get_or ys i d
    → old ≡ map (entry_item P s) (take i (enumerate_from 0 ys)) → x ≡ entry_item P s (i, y) → new ≡ old ++ x ∷ []
    → new ≡ map (entry_item P s) (take (i + 1) (enumerate_from 0 ys))
entries_more P s i ys y d old new x within at e is pushed =
    let front : List (ℕ × Target) = take i (enumerate_from 0 ys) in
    let read : get_or (enumerate_from 0 ys) i (0, d) ≡ (i, y) =
    get_or-enumerate_from 0 ys i (0, d) within ∙ (ap (λ k. (k, get_or ys i d)) (zero-add i) ∙ ap (λ z. (i, z)) (sym at)) in
    let more : take (i + 1) (enumerate_from 0 ys) ≡ front ++ (i, y) ∷ [] =
    take_more (enumerate_from 0 ys) i (0, d) (omega (arith, within, length-enumerate_from 0 ys)) ∙ ap (λ e. front ++ e ∷ []) read in
    pushed
    ∙ (ap (λ v. v ++ x ∷ []) e
    ∙ (ap (λ z. map (entry_item P s) front ++ z ∷ []) is
    ∙ (sym (map-append (entry_item P s) front ((i, y) ∷ [])) ∙ ap (map (entry_item P s)) (sym more))))

pub entries_whole : (P : Laid) (s i : ℕ) (ys : List Target) (items : List RldItem) → ys ≡ entries_of P s → length ys ≤ i
    → items ≡ map (entry_item P s) (take i (enumerate_from 0 ys)) → items ≡ entry_items P s
entries_whole P s i ys items are past e =
    e
    ∙ (ap (map (entry_item P s)) (take_all i (enumerate_from 0 ys) (omega (arith, past, length-enumerate_from 0 ys)))
    ∙ ap (λ zs. map (entry_item P s) (enumerate_from 0 zs)) are)
