-- The records of all segments have no fault.
use Rattle.std.proofs.Common.{◌≡◌, ℕ, zero, suc, ◌+◌, ◌-◌, ◌*◌, ◌<◌, ◌≤◌, Bool, true, false, not, ◌&&◌, ◌||◌, ◌==◌, nat_lt, if◌then◌else◌, List, [], ◌∷◌, ◌++◌, map, length, None, inl, inr, refl, sym, ap, subst, ◌∙◌, arith}
use Rattle.std.specs.Bool.{⊤}
use Rattle.std.proofs.lemmas.Bool.{and_left, and_right, or_from, not_from_true, ne_eqb, eq-eqb, le-ltb}
use Rattle.std.proofs.lemmas.Bool.Decides.{eqb_tells}
use Rattle.std.proofs.lemmas.List.{append_assoc, append-nil, map-append}
use Rattle.std.specs.List.{AllByRecursion, flat_map, range_with_len, enumerate_from}
use Rattle.le_bytes.specs.declared.record_what.RecWhat.TheVariants.{TextOutside}
use Rattle.pds_directory.specs.declared.entry.Entry.{Entry}
use Rattle.sym_mod.specs.declared.program.SecKind.{SecKind}
use Rattle.sym_mod.specs.declared.program.SecKind.TheVariants.{Sd, Pc, Cm}
use Rattle.load_recs.specs.declared.items.RldItem.{RldItem}
use Rattle.load_recs.specs.Records.{Record, most_text}
use Rattle.linking_model.specs.Places.{Laid}
use Rattle.member_model.specs.Cuts.{cuts}
use Rattle.member_model.specs.Parts.{Part, parts_in, part_kind, part_place, part_length, part_bytes, part_segment, part_number}
use Rattle.member_model.specs.Symbols.{is_overlay_member, is_scatter_member}
use Rattle.member_model.specs.Chunks.{part_items}
use Rattle.member_model.specs.SymbolList.{part_symbol, symbols_written}
use Rattle.member_model.specs.Pieces.{Piece, piece_of, pieces, text_head, ends_at, records_or_empty}
use Rattle.member_model.specs.Facts.{Facts, Field}
use Rattle.member_model.specs.Faults.{when, lies_in, text_section, text_fault, fields_fault, is_incomplete, segment_count, ends_wrongly}
use Rattle.member_model.specs.Written.{pieces_as, part_pieces, segment_records}
use Rattle.member_laws.specs.Linkable.{IsLinkable, HasText}
use Rattle.member_laws.specs.Gathered.{pieces_in, fields_in, items_as, items_of, with_segment}
use Rattle.member_laws.proofs.Apart.{items-fit}
use Rattle.member_laws.proofs.Clear.{Clear, strip}
use Rattle.member_laws.proofs.FieldsFine.{IsTextPart, IsFieldOf, text-section, lies-within, fields-fine}
use Rattle.member_laws.proofs.Gathering.{records_of, next-segment, nothing-due}
use Rattle.member_laws.proofs.Judging.{Fine, fine-none, fine-append, when-not}
use Rattle.member_laws.proofs.Lists.{each-flat_map, each-map}
use Rattle.member_laws.proofs.Membership.{Has, each-of, has-each}
use Rattle.member_laws.proofs.Numbered.{IsPart}
use Rattle.member_laws.proofs.Pairs.{Pairs, pairs-left}
use Rattle.member_laws.proofs.PartItems.{FitsPart}
use Rattle.member_laws.proofs.PartPieces.{IsCut, is-cut, in-segment, segment-read, segment-pieces-are, ends-right, segment_walks}
use Rattle.member_laws.proofs.Pieces.{items_read}
use Rattle.member_laws.proofs.PiecesFine.{IsReady, items_of_facts, more-items, IsFineText, segment_records_fine}
use Rattle.member_laws.proofs.Standing.{IsPartOf, parts-stand, stands_well}

-- ---- parts that have text

text-pieces : (Q : Piece → Type 0) (kind : SecKind) (xs : List Piece) → (HasText kind → AllByRecursion Q xs) → AllByRecursion Q (pieces_as kind xs)
text-pieces Q Sd xs holds = holds tt
text-pieces Q Pc xs holds = holds tt
text-pieces Q Cm xs holds = tt

text-items : (kind : SecKind) (items : List RldItem) → AllByRecursion (λ a. HasText kind) (items_as kind items)
text-items Sd items = each-of (λ a. ⊤) items (λ a there. tt)
text-items Pc items = each-of (λ a. ⊤) items (λ a there. tt)
text-items Cm items = tt

items-of-text : (P : Laid) (n : ℕ) (x : Part) → AllByRecursion (λ a. HasText (part_kind P x)) (items_of P n x)
unfolding items_of
items-of-text P n x = text-items (part_kind P x) _

-- the text of each piece of a part has no fault
part-texts : (P : Laid) (n : ℕ) (F : Facts) (x : Part) → 1 ≤ n → F.symbols ≡ symbols_written P → IsPart P x → part_segment P x ≡ F.segment → AllByRecursion (IsFineText F) (part_pieces P n x)
unfolding pieces
part-texts P n F x some symbols part here =
    text-pieces (IsFineText F) (part_kind P x) _ (λ text.
    each-map (IsFineText F) (piece_of (part_number P x) (part_place P x) (part_items P x) n) (enumerate_from 0 (cuts n (part_bytes P x)))
    (each-of _ (enumerate_from 0 (cuts n (part_bytes P x))) (λ z there.
    let cut = is-cut n (part_bytes P x) z some there in
    let well = stands_well P part.in_segment x part.low part.is in
    let bytes : length (part_bytes P x) ≡ part_length P x = well.bytes in
    let within : n * z.0 + length z.1 ≤ length (part_bytes P x) = cut.within in
    when-not (not (lies_in (text_section F (part_number P x)) (part_place P x + n * z.0) (length z.1))) TextOutside
    (not_from_true (lies_in (text_section F (part_number P x)) (part_place P x + n * z.0) (length z.1))
    (ap (λ o. lies_in o (part_place P x + n * z.0) (length z.1)) (text-section P F x (record { symbols = symbols; part = part; segment = here; text = text }))
    ∙ lies-within (part_symbol P x) (part_place P x + n * z.0) (length z.1) (above (part_place P x) (n * z.0)) (inside (part_place P x) (n * z.0) (length z.1) _ (part_length P x) bytes within))))))
  where
    above : (a b : ℕ) → a ≤ a + b
    above a b = omega arith

    inside : (place at len bytes all : ℕ) → bytes ≡ all → at + len ≤ bytes → place + at + len ≤ place + all
    inside place at len bytes all e f = omega arith

-- ---- one segment

-- facts with which segment s begins
pub record Begins (P : Laid) (e : Entry) (s : ℕ) (F : Facts) : Type 0 where
  pub symbols : F.symbols ≡ symbols_written P
  pub segment : F.segment ≡ s
  pub due : F.due ≡ None
  pub ready : IsReady e F
  pub count : segment_count e F ≡ length P.tree

-- the relocation items of segments from i on
abbrev pub items_from : Laid → ℕ → ℕ → ℕ → List RldItem
items_from P n i k = flat_map (λ s. flat_map (items_of P n) (parts_in P s)) (range_with_len i k)

here-part : (P : Laid) (s : ℕ) (F : Facts) (x : Part) → 1 ≤ s → s ≤ length P.tree → F.segment ≡ s → Has (parts_in P s) x → part_segment P x ≡ F.segment
here-part P s F x low high here there =
    let part = in-segment P s x low high there in
    let well = stands_well P s x low (has-each (IsPartOf P s) (parts_in P s) x (parts-stand P s) there) in
    well.segment ∙ sym here

segment-fields : (P : Laid) (n s : ℕ) (F : Facts) → IsLinkable P → 1 ≤ s → s ≤ length P.tree → F.symbols ≡ symbols_written P → F.segment ≡ s → AllByRecursion (IsFieldOf P F) (flat_map (items_of P n) (parts_in P s))
segment-fields P n s F links low high symbols here =
    each-flat_map (IsFieldOf P F) (items_of P n) (parts_in P s) (each-of _ (parts_in P s) (λ x there.
    let part = in-segment P s x low high there in
    each-of (IsFieldOf P F) (items_of P n x) (λ a has. record {
      of_part = x;
      is = record {
        symbols = symbols;
        part = part;
        segment = here-part P s F x low high here there;
        text = has-each (λ b. HasText (part_kind P x)) (items_of P n x) a (items-of-text P n x) has;
      };
      item = has-each (λ b. FitsPart P x (strip b)) (items_of P n x) a (items-fit P n x links part) has;
    })))

closes-well : (e : Entry) (F : Facts) (s count : ℕ) → F.segment ≡ s → segment_count e F ≡ count → ends_wrongly e F (ends_at count s) ≡ false
closes-well e F s count here all =
    elim (eqb_tells s count) [
      | inl w ↦ or_from ((s == count) && nat_lt F.segment (segment_count e F)) (not (s == count) && F.segment == segment_count e F)
          (and_right (s == count) (nat_lt F.segment (segment_count e F)) (le-ltb F.segment (segment_count e F) (omega arith)))
          (and_left (not (s == count)) (F.segment == segment_count e F) (not_from_true (s == count) w.0))
      | inr w ↦ or_from ((s == count) && nat_lt F.segment (segment_count e F)) (not (s == count) && F.segment == segment_count e F)
          (and_left (s == count) (nat_lt F.segment (segment_count e F)) w.0)
          (and_right (not (s == count)) (F.segment == segment_count e F) (ne_eqb F.segment (segment_count e F) (λ e'. w.1 (sym here ∙ e' ∙ all))))
    ]

segment-is-fine : (P : Laid) (n s : ℕ) (e : Entry) (F : Facts) → IsLinkable P → 1 ≤ n → n ≤ most_text → 1 ≤ s → s ≤ length P.tree → Begins P e s F
    → Pairs Clear (items_of_facts F ++ flat_map (items_of P n) (parts_in P s)) → Fine e F (segment_records P n s)
unfolding segment_records
segment-is-fine P n s e F links some most low high begins clear =
    segment_records_fine e F (ends_at (length P.tree) s) (pieces_in P n s) begins.ready (ends-right (length P.tree) s) (closes-well e F s (length P.tree) begins.segment begins.count)
    (segment-pieces-are P n s links some most low high) begins.due
    (each-flat_map (IsFineText F) (part_pieces P n) (parts_in P s) (each-of _ (parts_in P s) (λ x there.
    part-texts P n F x some begins.symbols (in-segment P s x low high there) (here-part P s F x low high begins.segment there))))
    (ap (fields_fault F (items_of_facts F)) (segment-read P n s links low high)
    ∙ fields-fine P F (items_of_facts F) (flat_map (items_of P n) (parts_in P s)) (segment-fields P n s F links low high begins.symbols begins.segment) clear)

-- ---- one segment after another

next-begins : (P : Laid) (n s : ℕ) (e : Entry) (F : Facts) → Begins P e s F → s < length P.tree → Begins P e (s + 1) (with_segment P n s F)
unfolding with_segment
next-begins P n s e F begins low =
    record {
      symbols = begins.symbols;
      segment = refl;
      due = refl;
      ready = record { goes_on = ne_eqb s (length P.tree) (omega arith); stage = omega arith; complete = begins.ready.complete; noted = begins.ready.noted };
      count = begins.count;
    }

next-items : (P : Laid) (n s : ℕ) (F : Facts) → items_of_facts (with_segment P n s F) ≡ items_of_facts F ++ flat_map (items_of P n) (parts_in P s)
unfolding with_segment
next-items P n s F = more-items F s (flat_map (items_of P n) (parts_in P s))

pub segments_are_fine : (P : Laid) (n i k : ℕ) (e : Entry) (F : Facts) → IsLinkable P → 1 ≤ n → n ≤ most_text → 1 ≤ i → i + k ≡ length P.tree + 1 → Begins P e i F
    → Pairs Clear (items_of_facts F ++ items_from P n i k) → Fine e F (records_of P n i k)
segments_are_fine P n i zero e F links some most low count begins clear = fine-none e F
segments_are_fine P n i (suc zero) e F links some most low count begins clear =
    subst (Fine e F) (sym (append-nil (segment_records P n i)))
    (segment-is-fine P n i e F links some most low (omega arith) begins
    (subst (λ l. Pairs Clear (items_of_facts F ++ l)) (append-nil (flat_map (items_of P n) (parts_in P i))) clear))
segments_are_fine P n i (suc (suc k)) e F links some most low count begins clear =
    let own = flat_map (items_of P n) (parts_in P i) in
    let rest = items_from P n (i + 1) (suc k) in
    let order : items_of_facts F ++ (own ++ rest) ≡ (items_of_facts F ++ own) ++ rest = sym (append_assoc (items_of_facts F) own rest) in
    let all : Pairs Clear ((items_of_facts F ++ own) ++ rest) = subst (Pairs Clear) order clear in
    fine-append e F (segment_records P n i) (with_segment P n i F) (records_of P n (i + 1) (suc k))
    (segment_walks P n i F links some most low (omega arith) begins.segment begins.due).whole
    (segment-is-fine P n i e F links some most low (omega arith) begins (pairs-left Clear (items_of_facts F ++ own) rest all))
    (segments_are_fine P n (i + 1) (suc k) e (with_segment P n i F) links some most (omega arith) (omega arith) (next-begins P n i e F begins (omega arith))
    (subst (λ l. Pairs Clear (l ++ rest)) (sym (next-items P n i F)) all))
