-- A written member is good.
use Rattle.std.proofs.Common.{◌≡◌, ℕ, zero, suc, ◌+◌, ◌-◌, ◌<◌, ◌≤◌, Bool, true, false, not, ◌&&◌, ◌==◌, nat_le, List, [], ◌∷◌, ◌++◌, map, fold, length, drop, Option, Some, None, option_map, slice_get, refl, sym, ap, subst, ◌∙◌, arith}
use Rattle.std.specs.Prelude.{IsSomeAnd}
use Rattle.std.specs.Option.{option_or, option_map_or}
use Rattle.std.proofs.lemmas.Bool.{and_from, eq-eqb, le-leb, not_from_true}
use Rattle.std.proofs.lemmas.List.{append_assoc, drop_at, length-map, map-append}
use Rattle.std.proofs.lemmas.List.Sums.{fold-append}
use Rattle.std.specs.List.{AllByRecursion, flat_map, range_with_len}
use Rattle.le_bytes.specs.declared.name.Name.{Name}
use Rattle.le_bytes.specs.declared.record_what.RecWhat.{RecWhat}
use Rattle.le_bytes.specs.declared.record_what.RecWhat.TheVariants.{BadEntryPoint, NoEnd}
use Rattle.pds_directory.specs.declared.entry.Entry.{Entry}
use Rattle.pds_lib.specs.declared.member.Member.{Member}
use Rattle.pds_lib.specs.Stow.{main_entry, alias_entry, entries_for}
use Rattle.load_recs.specs.Records.{Record, rec_bytes}
use Rattle.linking_model.specs.Places.{Laid, is_overlay, place, length_of_section}
use Rattle.linking_model.specs.Points.{Point}
use Rattle.member_model.specs.Facts.{Facts, no_facts, facts, seen}
use Rattle.member_model.specs.Parts.{OneSection, parts, parts_in, part_kind, part_segment, part_number}
use Rattle.member_model.specs.Symbols.{is_section, symbol_at, end_of}
use Rattle.member_model.specs.SymbolList.{part_symbol, symbols_written, symbol_records}
use Rattle.member_model.specs.Faults.{first_some, when}
use Rattle.member_model.specs.FirstBad.{Fault, at, faults_from, is_entry_section, entry_fault, first_symbols, head_fault, first_bad_of, first_bad, IsGood}
use Rattle.member_model.specs.Written.{Naming, written, written_bytes, address_of_point, item_of_point, alias_of, member_written}
use Rattle.member_laws.specs.Linkable.{IsLinkable, IsFormat, LiesInRoot, IsNamedFor, HasEightBytes}
use Rattle.member_laws.specs.Gathered.{items_of, with_segment, head_facts, facts_written}
use Rattle.member_laws.specs.Laws.{WrittenMembersAreGood}
use Rattle.member_laws.proofs.Apart.{all_clear}
use Rattle.member_laws.proofs.Beginning.{later_records, first-are-symbols, head_fine}
use Rattle.member_laws.proofs.Clear.{Clear}
use Rattle.member_laws.proofs.Counts.{parts-within}
use Rattle.member_laws.proofs.Gathering.{records_of, range-split, written-is, written_records_gather, tree-some}
use Rattle.member_laws.proofs.HeadPartFine.{symbol-records-fine, later_heads, heads-split, later-leads, later-fine, head_begins}
use Rattle.member_laws.proofs.HeadsWritten.{symbol_facts, head_part, symbols-walk}
use Rattle.member_laws.proofs.Judging.{Fine, fine-append, fine_faults, when-not}
use Rattle.member_laws.proofs.Lists.{each-map}
use Rattle.member_laws.proofs.Membership.{each-of, has-all}
use Rattle.member_laws.proofs.Numbered.{IsPart, section-part, number-within, segments-range}
use Rattle.member_laws.proofs.Pairs.{Pairs}
use Rattle.member_laws.proofs.PartPieces.{flat_map-flat}
use Rattle.member_laws.proofs.PiecesFine.{items_of_facts}
use Rattle.member_laws.proofs.Reading.{saw, fold-seen}
use Rattle.member_laws.proofs.SegmentsFine.{items_from, segments_are_fine}
use Rattle.member_laws.proofs.Standing.{segment-at, length-at}
use Rattle.member_laws.proofs.SymbolsFine.{Describes, section-kind}
use Rattle.member_laws.proofs.SymbolsWritten.{some-and}
use Rattle.member_laws.proofs.Targets.{symbol-of-part}

-- ---- the records

-- the records begin with those of symbols
all-records : (P : Laid) (scatter : Bool) (n : ℕ) → written P scatter n ≡ symbol_records P ++ later_records P scatter n
all-records P scatter n =
    written-is P scatter n
    ∙ ap (λ l. l ++ records_of P n 1 (length P.tree)) (heads-split P scatter n)
    ∙ append_assoc (symbol_records P) (later_heads P scatter n) (records_of P n 1 (length P.tree))

head-items : (P : Laid) (scatter : Bool) (n : ℕ) → items_of_facts (head_facts P scatter n) ≡ []
unfolding head_facts
head-items P scatter n = refl

all-items : (P : Laid) (n : ℕ) → items_from P n 1 (length P.tree) ≡ flat_map (items_of P n) (parts P)
all-items P n = sym (ap (flat_map (items_of P n)) (ap (flat_map (parts_in P)) (segments-range P.tree)) ∙ flat_map-flat (items_of P n) (parts_in P) (range_with_len 1 (length P.tree)))

later-records-fine : (P : Laid) (scatter : Bool) (n : ℕ) (e : Entry) → IsLinkable P → IsFormat P scatter n → Describes P scatter e → Fine e (symbol_facts (symbols_written P)) (later_records P scatter n)
later-records-fine P scatter n e links format describes =
    fine-append e (symbol_facts (symbols_written P)) (later_heads P scatter n) (head_facts P scatter n) (records_of P n 1 (length P.tree))
    (later-leads P scatter n links format.scatter_alone) (later-fine P scatter e n links describes format.scatter_alone)
    (segments_are_fine P n 1 (length P.tree) e (head_facts P scatter n) links format.some format.most (omega arith) (omega arith) (head_begins P scatter e n links describes)
    (subst (λ l. Pairs Clear (l ++ items_from P n 1 (length P.tree))) (sym (head-items P scatter n)) (subst (Pairs Clear) (sym (all-items P n)) (all_clear P n links format.some))))

symbol-records-lead : (P : Laid) → IsLinkable P → facts (map rec_bytes (symbol_records P)) ≡ symbol_facts (symbols_written P)
unfolding facts
symbol-records-lead P links = fold-seen no_facts (symbol_records P) ∙ (symbols-walk P links).whole

-- ---- the end

last-ended : (P : Laid) (n s : ℕ) (F : Facts) → (with_segment P n s F).ended ≡ (s == length P.tree)
unfolding with_segment
last-ended P n s F = refl

range-last : (a n : ℕ) → range_with_len a (suc n) ≡ range_with_len a n ++ (a + n) ∷ []
range-last a n = ap (range_with_len a) (let e : suc n ≡ n + 1 = omega arith in e) ∙ range-split a n 1

run-ended : (P : Laid) (scatter : Bool) (n len : ℕ) → 1 ≤ len → len ≡ length P.tree → (facts_written P scatter n len).ended ≡ true
unfolding facts_written
run-ended P scatter n zero some e = absurd (omega arith)
run-ended P scatter n (suc m) some e =
    ap (λ l. (fold (λ F t. with_segment P n t F) (head_facts P scatter n) l).ended) (range-last 1 m)
    ∙ ap (λ (F : Facts). F.ended) (fold-append (λ F t. with_segment P n t F) (head_facts P scatter n) (range_with_len 1 m) ((1 + m) ∷ []))
    ∙ last-ended P n (1 + m) (fold (λ F t. with_segment P n t F) (head_facts P scatter n) (range_with_len 1 m))
    ∙ eq-eqb (1 + m) (length P.tree) (omega arith)

ended : (P : Laid) (scatter : Bool) (n : ℕ) → IsLinkable P → IsFormat P scatter n → (facts (written_bytes P scatter n)).ended ≡ true
ended P scatter n links format =
    ap (λ (F : Facts). F.ended) (written_records_gather P scatter n links format).whole ∙ run-ended P scatter n (length P.tree) (tree-some P.tree links.tree) refl

-- ---- the entry point

-- the entry is entered at this point
record EntersAt (P : Laid) (x : Point) (e : Entry) : Type 0 where
  entry : e.entry ≡ address_of_point P x
  section : e.entry_section ≡ item_of_point P x

-- the section of a point in the root
record IsRootSection (P : Laid) (x : Point) : Type 0 where
  part : IsPart P (OneSection x.section)
  root : part_segment P (OneSection x.section) ≡ 1
  inside : x.offset ≤ length_of_section P.program x.section

root-section : (P : Laid) (x : Point) → IsLinkable P → LiesInRoot P x → IsRootSection P x
root-section P x links lies =
    let found = some-and (slice_get P.program.sections x.section) (λ y. (y.segment ≡ 1) × (x.offset ≤ y.length)) lies in
    record {
      part = section-part P x.section found.0 links found.1;
      root = segment-at P x.section found.0 found.1 ∙ found.2.0;
      inside = subst (λ n. x.offset ≤ n) (sym (length-at P x.section found.0 found.1)) found.2.1;
    }

entry-section : (P : Laid) (x : Point) (e : Entry) → IsRootSection P x → e.entry ≡ place P x.section + x.offset → is_entry_section e (part_symbol P (OneSection x.section)) ≡ true
entry-section P x e root entry =
    let symbol = part_symbol P (OneSection x.section) in
    let inside : x.offset ≤ length_of_section P.program x.section = root.inside in
    and_from (is_section symbol && part_segment P (OneSection x.section) == 1 && nat_le (place P x.section) e.entry) (nat_le e.entry (end_of symbol))
    (and_from (is_section symbol && part_segment P (OneSection x.section) == 1) (nat_le (place P x.section) e.entry)
    (and_from (is_section symbol) (part_segment P (OneSection x.section) == 1) (section-kind (part_kind P (OneSection x.section))) (eq-eqb (part_segment P (OneSection x.section)) 1 root.root))
    (le-leb (place P x.section) e.entry (omega arith)))
    (le-leb e.entry (end_of symbol) (omega arith))

entry-fine : (P : Laid) (x : Point) (e : Entry) → IsLinkable P → LiesInRoot P x → EntersAt P x e → entry_fault e (symbol_facts (symbols_written P)) ≡ None
entry-fine P x e links lies enters =
    let root = root-section P x links lies in
    when-not (not (option_map_or (is_entry_section e) (symbol_at (symbols_written P) e.entry_section) false)) BadEntryPoint
    (not_from_true (option_map_or (is_entry_section e) (symbol_at (symbols_written P) e.entry_section) false)
    (ap (λ k. option_map_or (is_entry_section e) (symbol_at (symbols_written P) k) false) enters.section
    ∙ ap (λ o. option_map_or (is_entry_section e) o false) (symbol-of-part P (OneSection x.section) root.part) ∙ entry-section P x e root enters.entry))

-- ---- the law

none-of-five : (a b c d f : Option Fault) → a ≡ None → b ≡ None → c ≡ None → d ≡ None → f ≡ None → first_some (a ∷ b ∷ c ∷ d ∷ f ∷ []) ≡ None
none-of-five a b c d f p q r s t = rw (p, q, r, s, t) refl

mapped-none : (n : ℕ) (o : Option RecWhat) → o ≡ None → option_map (at n) o ≡ None
mapped-none n o e = ap (option_map (at n)) e

good-of : (P : Laid) (scatter : Bool) (n : ℕ) (x : Point) (e : Entry) → IsLinkable P → IsFormat P scatter n → Describes P scatter e → LiesInRoot P x → EntersAt P x e → (whole : Bool) → whole ≡ true
    → first_bad_of e (map rec_bytes (symbol_records P ++ later_records P scatter n)) whole ≡ None
unfolding first_bad_of
good-of P scatter n x e links format describes lies enters whole is =
    let symbols = map rec_bytes (symbol_records P) in
    let records = map rec_bytes (symbol_records P ++ later_records P scatter n) in
    let first : first_symbols records ≡ symbols = first-are-symbols P scatter n in
    let lead : facts (first_symbols records) ≡ symbol_facts (symbols_written P) = ap facts first ∙ symbol-records-lead P links in
    let rest : drop (length (first_symbols records)) records ≡ map rec_bytes (later_records P scatter n) =
    ap (λ l. drop (length l) records) first ∙ ap (drop (length symbols)) (map-append rec_bytes (symbol_records P) (later_records P scatter n)) ∙ drop_at symbols (map rec_bytes (later_records P scatter n)) (length symbols) refl in
    let part = (root-section P x links lies).part in
    let number = number-within P (OneSection x.section) part in
    let within : length (parts P) ≤ length (symbols_written P) = parts-within P in
    let low : 1 ≤ part_number P (OneSection x.section) = number.0 in
    let high : part_number P (OneSection x.section) ≤ length (parts P) = number.1 in
    none-of-five (faults_from e no_facts 1 (first_symbols records)) (option_map (at 1) (head_fault records)) (option_map (at 0) (entry_fault e (facts (first_symbols records))))
    (faults_from e (facts (first_symbols records)) (length (first_symbols records) + 1) (drop (length (first_symbols records)) records)) (option_map (at (length records + 1)) (when (not whole) NoEnd))
    (ap (faults_from e no_facts 1) first ∙ fine_faults e no_facts 1 (symbol_records P) (symbol-records-fine P scatter e links describes))
    (mapped-none 1 (head_fault records) (head_fine P scatter n (omega arith)))
    (mapped-none 0 (entry_fault e (facts (first_symbols records))) (ap (entry_fault e) lead ∙ entry-fine P x e links lies enters))
    (ap (λ F. faults_from e F (length (first_symbols records) + 1) (drop (length (first_symbols records)) records)) lead
    ∙ ap (faults_from e (symbol_facts (symbols_written P)) (length (first_symbols records) + 1)) rest
    ∙ fine_faults e (symbol_facts (symbols_written P)) (length (first_symbols records) + 1) (later_records P scatter n) (later-records-fine P scatter n e links format describes))
    (mapped-none (length records + 1) (when (not whole) NoEnd) (when-not (not whole) NoEnd (not_from_true whole is)))

entry-good : (P : Laid) (scatter : Bool) (n : ℕ) (x : Point) (e : Entry) → IsLinkable P → IsFormat P scatter n → Describes P scatter e → LiesInRoot P x → EntersAt P x e → IsGood e (written_bytes P scatter n)
unfolding first_bad
entry-good P scatter n x e links format describes lies enters =
    ap (λ l. first_bad_of e (map rec_bytes l) (facts (written_bytes P scatter n)).ended) (all-records P scatter n)
    ∙ good-of P scatter n x e links format describes lies enters (facts (written_bytes P scatter n)).ended (ended P scatter n links format)

pub written_members_are_good : WrittenMembersAreGood
written_members_are_good P scatter n who links format named =
    let m = member_written P scatter n who in (
      entry-good P scatter n who.point (main_entry m) links format (record { attr = refl; length = refl }) named.point (record { entry = refl; section = refl }),
      each-map (λ e. IsGood e m.records) (alias_entry m) m.aliases
          (each-map (λ a. IsGood (alias_entry m a) m.records) (alias_of P) who.aliases (each-of _ who.aliases (λ z there.
          let both = has-all (λ (y : Name × Point). HasEightBytes y.0 × LiesInRoot P y.1) who.aliases z named.aliases there in
          entry-good P scatter n z.1 (alias_entry m (alias_of P z)) links format (record { attr = refl; length = refl }) both.1 (record { entry = refl; section = refl })))),
    )
