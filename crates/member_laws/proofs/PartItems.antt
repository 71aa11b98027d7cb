-- The relocation items of a part: they stand in it, and refer to symbols of kinds that fit.
use Rattle.std.proofs.Common.{◌≡◌, ℕ, zero, suc, ◌+◌, ◌-◌, ◌*◌, ◌<◌, ◌≤◌, ◌^◌, Bool, true, false, cond, ◌||◌, ◌==◌, nat_lt, if◌then◌else◌, List, [], ◌∷◌, ◌++◌, map, filter, length, Option, Some, None, slice_get, inl, inr, refl, sym, ap, subst, ◌∙◌, arith}
use Rattle.std.specs.Prelude.{All, filter_map}
use Rattle.std.specs.Option.{option_map_or}
use Rattle.std.proofs.lemmas.Bool.{cond-true, cond-false, eqb-true, lt-ltb, le-ltb}
use Rattle.std.proofs.lemmas.Option.{slice_get_within, same_Some}
use Rattle.std.specs.List.{AllByRecursion, flat_map, enumerate_from, cons_option}
use Rattle.sym_mod.specs.Sound.{IsSoundConstant, IsSymbolOf, TargetFitsKind, LieInSection}
use Rattle.sym_mod.specs.declared.module.Kind.{Kind}
use Rattle.sym_mod.specs.declared.module.Kind.TheVariants.{Address, Branch, Displacement, Total as TotalKind}
use Rattle.sym_mod.specs.declared.program.Program.{Program}
use Rattle.sym_mod.specs.declared.program.Section.{Section}
use Rattle.sym_mod.specs.declared.program.SecKind.TheVariants.{Sd, Pc, Cm}
use Rattle.sym_mod.specs.declared.program.Constant.{Constant}
use Rattle.sym_mod.specs.declared.program.Term.{Term}
use Rattle.sym_mod.specs.declared.program.Target.{Target}
use Rattle.sym_mod.specs.declared.program.Target.TheVariants.{Section as InSection, Label as AtLabel, Unresolved, Register as OfRegister, Total}
use Rattle.load_recs.specs.declared.items.SymbolItem.{SymbolItem}
use Rattle.load_recs.specs.declared.items.RldItem.{RldItem}
use Rattle.sym_mod.specs.Kinds.{is_private}
use Rattle.linking_model.specs.Names.{inserted, in_order, name_below}
use Rattle.linking_model.specs.Tree.{Tree, segments}
use Rattle.linking_model.specs.Tables.{NamedTarget, named_section, private_section, named_label, named_targets, targets_in_order, has_entry, entries}
use Rattle.linking_model.specs.Places.{Laid, place, table_place, entries_of, entry_count, entab_length, end_of, module_length}
use Rattle.member_model.specs.Parts.{Part, SegmentTable, OneSection, EntryTable, part_place, part_length, part_number, target_number}
use Rattle.load_recs.specs.Kinds.{is_outside_kind}
use Rattle.member_model.specs.Symbols.{symbol_at, is_outside, is_referable_kind, is_register_kind, field_kind, field_length, is_address_kind, is_marked_outside}
use Rattle.member_model.specs.Faults.{fits, differ}
use Rattle.member_model.specs.Chunks.{term_item, by_address, section_items, entry_items, part_items}
use Rattle.member_model.specs.SymbolList.{symbols_written}
use Rattle.member_laws.specs.Linkable.{IsLinkable, HasText}
use Rattle.member_laws.proofs.Flags.{kind_number, FlagSays, term_flag}
use Rattle.member_laws.proofs.Joined.{IsPlain}
use Rattle.member_laws.proofs.Lists.{each-append, each-always, each-at, each-filter, each-flat_map, each-map}
use Rattle.member_laws.proofs.Membership.{Has, has-each, each-of, has-all, has-at, from-filter, from-enumerate}
use Rattle.member_laws.proofs.Numbered.{IsPart, section-part, number_fits}
use Rattle.member_laws.proofs.Standing.{IsPartOf, length-at}
use Rattle.member_laws.proofs.SymbolsWritten.{part-ends, some-and}
use Rattle.member_laws.proofs.Targets.{is_unresolved, IsSymbolAt, symbol-of-target, IsRegisterAt, symbol-of-register, number_of_target}

-- an item of a part
pub record FitsPart (P : Laid) (x : Part) (item : RldItem) : Type 0 where
  pub plain : IsPlain item
  pub number : item.p ≡ part_number P x
  pub begins : part_place P x ≤ item.address
  pub ends : item.address + field_length item ≤ part_place P x + part_length P x
  pub fits_symbol : fits item (symbol_at (symbols_written P) item.r) ≡ true
  pub marked : is_address_kind item ≡ true → differ (is_marked_outside item) (is_outside (symbol_at (symbols_written P) item.r)) ≡ false

-- ---- kinds

-- the symbol is such as an item of this kind may refer to
abbrev FitsAs : Kind → Option SymbolItem → Type 0
FitsAs Displacement symbol = option_map_or (λ y. is_register_kind y.kind) symbol false ≡ true
FitsAs TotalKind symbol = Unit {0}
FitsAs _ symbol = option_map_or (λ y. is_referable_kind y.kind) symbol false ≡ true

-- the kind is that of an address or a branch
abbrev is_address : Kind → Bool
is_address Address = true
is_address Branch = true
is_address _ = false

address-kind : (kind : Kind) (n : ℕ) → n ≡ kind_number kind → nat_lt n 2 ≡ is_address kind
address-kind Address n e = lt-ltb n 2 (omega arith)
address-kind Branch n e = lt-ltb n 2 (omega arith)
address-kind Displacement n e = le-ltb n 2 (omega arith)
address-kind TotalKind n e = le-ltb n 2 (omega arith)

fits-by : (kind : Kind) (n : ℕ) (symbol : Option SymbolItem) → n ≡ kind_number kind → FitsAs kind symbol
    → (if nat_lt n 2 then option_map_or (λ y. is_referable_kind y.kind) symbol false else (nat_lt 2 n || option_map_or (λ y. is_register_kind y.kind) symbol false)) ≡ true
fits-by Address n symbol e as_is = rw (e) as_is
fits-by Branch n symbol e as_is = rw (e) as_is
fits-by Displacement n symbol e as_is = rw (e) as_is
fits-by TotalKind n symbol e as_is = rw (e) refl

same-not-differ : (a b c : Bool) → a ≡ c → b ≡ c → differ a b ≡ false
same-not-differ a b true p q = rw (p, q) refl
same-not-differ a b false p q = rw (p, q) refl

-- ---- items of constants

-- what a target of a constant of some kind gives
pub record Suits (P : Laid) (kind : Kind) (y : Target) : Type 0 where
  pub as_kind : FitsAs kind (symbol_at (symbols_written P) (target_number P y))
  pub outside : is_address kind ≡ true → is_outside (symbol_at (symbols_written P) (target_number P y)) ≡ is_unresolved y

suits-symbol : (P : Laid) (y : Target) → IsLinkable P → IsSymbolOf P.program y
    → (option_map_or (λ z. is_referable_kind z.kind) (symbol_at (symbols_written P) (target_number P y)) false ≡ true)
    × (is_outside (symbol_at (symbols_written P) (target_number P y)) ≡ is_unresolved y)
suits-symbol P y links is =
    let at = symbol-of-target P y links is in (
      ap (λ o. option_map_or (λ z. is_referable_kind z.kind) o false) at.there ∙ at.referable,
      ap is_outside at.there ∙ at.outside,
    )

pub suits : (P : Laid) (kind : Kind) (y : Target) → IsLinkable P → TargetFitsKind P.program kind y → Suits P kind y
suits P Address y links is = let both = suits-symbol P y links is in record { as_kind = both.0; outside = λ e. both.1 }
suits P Branch y links is = let both = suits-symbol P y links is in record { as_kind = both.0; outside = λ e. both.1 }
suits P Displacement (OfRegister i) links is =
    let at = symbol-of-register P i is in
    record { as_kind = ap (λ o. option_map_or (λ z. is_register_kind z.kind) o false) at.there ∙ at.register; outside = λ e. absurd cc }
suits P Displacement (InSection i) links is = absurd is
suits P Displacement (AtLabel i) links is = absurd is
suits P Displacement (Unresolved i) links is = absurd is
suits P Displacement Total links is = absurd is
suits P TotalKind Total links is = record { as_kind = tt; outside = λ e. absurd cc }
suits P TotalKind (OfRegister i) links is = absurd is
suits P TotalKind (InSection i) links is = absurd is
suits P TotalKind (AtLabel i) links is = absurd is
suits P TotalKind (Unresolved i) links is = absurd is

-- where a constant stands
pub record Lies (p : Program) (c : Constant) : Type 0 where
  pub section : Section
  pub there : slice_get p.sections c.section ≡ Some section
  pub text : HasText section.kind
  pub within : c.offset + c.length ≤ section.length

pub lies : (p : Program) (c : Constant) → IsSoundConstant p c → Lies p c
lies p c sound =
    let found = some-and (slice_get p.sections c.section) _ sound.inside in
    record { section = found.0; there = found.1; text = found.2.0; within = found.2.1 }

term-fits : (P : Laid) (c : Constant) (t : Term) → IsLinkable P → IsSoundConstant P.program c → Has c.terms t → FitsPart P (OneSection c.section) (term_item P c t)
term-fits P c t links sound there =
    let at = lies P.program c sound in
    let part = section-part P c.section at.section links at.there in
    let target : TargetFitsKind P.program c.kind t.target = has-all (λ x. TargetFitsKind P.program c.kind x.target) c.terms t sound.targets there in
    let flag = term_flag P.program c.kind c.length c.terms t sound.not_empty sound.short sound.signs target there in
    let suited = suits P c.kind t.target links target in
    let len : part_length P (OneSection c.section) ≡ at.section.length = length-at P c.section at.section at.there in
    let ends : place P c.section + part_length P (OneSection c.section) ≤ module_length P = part-ends P (OneSection c.section) part in
    let fits : module_length P ≤ 4194304 = links.module_fits in
    let within : c.offset + c.length ≤ at.section.length = at.within in
    let size : field_length (term_item P c t) ≡ c.length = flag.of_length in
    record {
      plain = record {
        r_fits = number_of_target P c.kind t.target links target;
        p_fits = number_fits P (OneSection c.section) links part;
        address_fits = small (place P c.section) c.offset c.length at.section.length (part_length P (OneSection c.section)) (module_length P) len within ends fits;
        even = flag.even;
        right = flag.right;
      };
      number = refl;
      begins = above (place P c.section) c.offset;
      ends = inside (place P c.section) c.offset c.length at.section.length (part_length P (OneSection c.section)) (field_length (term_item P c t)) len within size;
      fits_symbol = fits-by c.kind (field_kind (term_item P c t)) (symbol_at (symbols_written P) (target_number P t.target)) flag.of_kind suited.as_kind;
      marked = λ address.
          same-not-differ (is_marked_outside (term_item P c t)) (is_outside (symbol_at (symbols_written P) (target_number P t.target))) (is_unresolved t.target)
          flag.marked (suited.outside (sym (address-kind c.kind (field_kind (term_item P c t)) flag.of_kind) ∙ address));
    }
  where
    above : (a b : ℕ) → a ≤ a + b
    above a b = omega arith

    small : (place offset len size part all : ℕ) → part ≡ size → offset + len ≤ size → place + part ≤ all → all ≤ 4194304 → place + offset < 2 ^ 24
    small place offset len size part all e f g h = omega arith

    inside : (place offset len size part field : ℕ) → part ≡ size → offset + len ≤ size → field ≡ len → place + offset + field ≤ place + part
    inside place offset len size part field e f g = omega arith

-- ---- in order of address

pub each-inserted : {X : Type 0} (P : X → Type 0) (before : X → X → Bool) (x : X) (ys : List X) → P x → AllByRecursion P ys → AllByRecursion P (inserted before x ys)
each-inserted P before x [] is all = (is, tt)
each-inserted P before x (y ∷ ys) is all =
    elim (before y x) as (λ b. AllByRecursion P (cond b (y ∷ inserted before x ys) (x ∷ y ∷ ys))) [
      | true ↦ (all.0, each-inserted P before x ys is all.1)
      | false ↦ (is, all)
    ]

pub each-in_order : {X : Type 0} (P : X → Type 0) (before : X → X → Bool) (xs : List X) → AllByRecursion P xs → AllByRecursion P (in_order before xs)
each-in_order P before [] all = tt
each-in_order P before (x ∷ xs) all = each-inserted P before x (in_order before xs) all.0 (each-in_order P before xs all.1)

section-fits : (P : Laid) (i : ℕ) → IsLinkable P → AllByRecursion (FitsPart P (OneSection i)) (section_items P i)
section-fits P i links =
    each-in_order (FitsPart P (OneSection i)) (λ x y. nat_lt x.address y.address) (flat_map (λ (c : Constant). map (term_item P c) c.terms) (filter (λ (c : Constant). c.section == i) P.program.constants))
    (each-flat_map (FitsPart P (OneSection i)) (λ (c : Constant). map (term_item P c) c.terms) (filter (λ (c : Constant). c.section == i) P.program.constants)
    (each-of _ (filter (λ (c : Constant). c.section == i) P.program.constants) (λ c there.
    let from = from-filter (λ (d : Constant). d.section == i) P.program.constants c there in
    let sound : IsSoundConstant P.program c = has-all (IsSoundConstant P.program) P.program.constants c links.sound.constants from.0 in
    each-map (FitsPart P (OneSection i)) (term_item P c) c.terms (each-of _ c.terms (λ t has.
    subst (λ k. FitsPart P (OneSection k) (term_item P c t)) (eqb-true c.section i from.1) (term-fits P c t links sound has))))))

-- ---- entries

-- what may have an entry is a section or a label of the program
abbrev pub IsDefined : Program → Target → Type 0
IsDefined p (InSection i) = i < length p.sections
IsDefined p (AtLabel i) = i < length p.labels
IsDefined p _ = ⊥

defined-symbol : (p : Program) (y : Target) → IsDefined p y → IsSymbolOf p y × (is_unresolved y ≡ false)
defined-symbol p (InSection i) is = (is, refl)
defined-symbol p (AtLabel i) is = (is, refl)
defined-symbol p (Unresolved i) is = absurd is
defined-symbol p (OfRegister i) is = absurd is
defined-symbol p Total is = absurd is

each-filter_map : {X Y : Type 0} (P : Y → Type 0) (f : X → Option Y) (xs : List X) → ((x : X) (y : Y) → Has xs x → f x ≡ Some y → P y) → AllByRecursion P (filter_map f xs)
each-filter_map P f [] holds = tt
each-filter_map {X} {Y} P f (x ∷ xs) holds =
    elim (f x) as (λ o. f x ≡ o → AllByRecursion P (cons_option o (filter_map f xs))) [
      | None ↦ λ e. each-filter_map P f xs (λ z y there. holds z y (inr there))
      | Some y ↦ λ e. (holds x y (inl refl) e, each-filter_map P f xs (λ z w there. holds z w (inr there)))
    ] refl

named-defined : (p : Program) (i : ℕ) (x : Section) (b : Bool) (y : NamedTarget) → i < length p.sections → (if b then None else Some (record { name = x.name; target = InSection i })) ≡ Some y → IsDefined p y.target
named-defined p i x true y low e = absurd cc
named-defined p i x false y low e = subst (λ (z : NamedTarget). IsDefined p z.target) (same_Some _ y e) low

private-defined : (p : Program) (i : ℕ) (b : Bool) (y : Target) → i < length p.sections → (if b then Some (InSection i) else None) ≡ Some y → IsDefined p y
private-defined p i true y low e = subst (IsDefined p) (same_Some (InSection i) y e) low
private-defined p i false y low e = absurd cc

numbered-low : {X : Type 0} (xs : List X) (y : ℕ × X) → Has (enumerate_from 0 xs) y → y.0 < length xs
numbered-low xs y there =
    let at = from-enumerate 0 xs y there in
    let low = slice_get_within xs at.0 y.1 at.1 in
    let e : y.0 ≡ 0 + at.0 = at.2 in omega arith

targets-defined : (p : Program) → AllByRecursion (IsDefined p) (targets_in_order p)
targets-defined p =
    each-append (IsDefined p) (map (λ x. x.target) (in_order (λ x y. name_below x.name y.name) (named_targets p))) (filter_map private_section (enumerate_from 0 p.sections))
    (each-map (IsDefined p) (λ x. x.target) (in_order (λ x y. name_below x.name y.name) (named_targets p))
    (each-in_order (λ x. IsDefined p x.target) (λ x y. name_below x.name y.name) (named_targets p)
    (each-append (λ x. IsDefined p x.target) (filter_map named_section (enumerate_from 0 p.sections)) (map named_label (enumerate_from 0 p.labels))
    (each-filter_map (λ x. IsDefined p x.target) named_section (enumerate_from 0 p.sections) (λ z y there e. named-defined p z.0 z.1 (is_private z.1.kind) y (numbered-low p.sections z there) e))
    (each-map (λ x. IsDefined p x.target) named_label (enumerate_from 0 p.labels) (each-of _ (enumerate_from 0 p.labels) (λ z there. numbered-low p.labels z there))))))
    (each-filter_map (IsDefined p) private_section (enumerate_from 0 p.sections) (λ z y there e. private-defined p z.0 (is_private z.1.kind) y (numbered-low p.sections z there) e))

entries-defined : (p : Program) (tree : Tree) (s : ℕ) → AllByRecursion (IsDefined p) (entries p tree s)
unfolding entries
entries-defined p tree s = each-filter (IsDefined p) (has_entry p tree s) (targets_in_order p) (targets-defined p)

none-or : {X : Type 0} (P : X → Type 0) (o : Option (List X)) → ((x : List X) → o ≡ Some x → AllByRecursion P x) → AllByRecursion P (option_map_or (λ x. x) o [])
none-or P None holds = tt
none-or P (Some x) holds = holds x refl

pub table-defined : (P : Laid) (s : ℕ) → IsLinkable P → AllByRecursion (IsDefined P.program) (entries_of P s)
table-defined P s links =
    none-or (IsDefined P.program) (slice_get P.entries (s - 1)) (λ x there.
    each-at (AllByRecursion (IsDefined P.program)) (map (entries P.program P.tree) (segments P.tree)) (s - 1) x
    (each-map (AllByRecursion (IsDefined P.program)) (entries P.program P.tree) (segments P.tree) (each-always _ (entries-defined P.program P.tree) (segments P.tree)))
    (subst (λ l. slice_get l (s - 1) ≡ Some x) links.entries there))

entry-fits : (P : Laid) (s i : ℕ) (y : Target) → IsLinkable P → IsPart P (EntryTable s) → i < entry_count P s → IsDefined P.program y
    → FitsPart P (EntryTable s) (record { r = target_number P y; p = part_number P (EntryTable s); flag = 12; address = table_place P s + 12 + 12 * i })
entry-fits P s i y links part low is =
    let defined = defined-symbol P.program y is in
    let both = suits-symbol P y links defined.0 in
    let ends : table_place P s + entab_length (entry_count P s) ≤ module_length P = part-ends P (EntryTable s) part in
    let fits : module_length P ≤ 4194304 = links.module_fits in
    record {
      plain = record {
        r_fits = number_of_target P Address y links defined.0;
        p_fits = number_fits P (EntryTable s) links part;
        address_fits = small (table_place P s) i (entry_count P s) (module_length P) low ends fits;
        even = refl;
        right = refl;
      };
      number = refl;
      begins = above (table_place P s) (12 * i);
      ends = inside (table_place P s) i (entry_count P s) low;
      fits_symbol = both.0;
      marked = λ address. same-not-differ false (is_outside (symbol_at (symbols_written P) (target_number P y))) false refl (both.1 ∙ defined.1);
    }
  where
    above : (a b : ℕ) → a ≤ a + 12 + b
    above a b = omega arith

    small : (place i n all : ℕ) → i < n → place + (12 * n + 12) ≤ all → all ≤ 4194304 → place + 12 + 12 * i < 2 ^ 24
    small place i n all e f g = omega arith

    inside : (place i n : ℕ) → i < n → place + 12 + 12 * i + 4 ≤ place + (12 * n + 12)
    inside place i n e = omega arith

-- ---- all parts

pub part_fits : (P : Laid) (x : Part) → IsLinkable P → IsPart P x → AllByRecursion (FitsPart P x) (part_items P x)
unfolding part_items
part_fits P SegmentTable links part = tt
part_fits P (OneSection i) links part = section-fits P i links
part_fits P (EntryTable s) links part =
    each-map (FitsPart P (EntryTable s)) _ (enumerate_from 0 (entries_of P s)) (each-of _ (enumerate_from 0 (entries_of P s)) (λ z there.
    let at = from-enumerate 0 (entries_of P s) z there in
    entry-fits P s z.0 z.1 links part (numbered-low (entries_of P s) z there) (has-each (IsDefined P.program) (entries_of P s) z.1 (table-defined P s links) (has-at (entries_of P s) at.0 z.1 at.1))))
