-- Each event is answered alike by the bytes of a written member and by the symbols of its program.
use Rattle.std.proofs.Common.{◌≡◌, ◌⊎◌, inl, inr, ℕ, ◌+◌, ◌%◌, ◌^◌, ◌<◌, ◌≤◌, Bool, true, false, ◌&&◌, ◌==◌, if◌then◌else◌, List, [], ◌∷◌, map, filter, find, length, Option, Some, None, slice_get, refl, sym, ap, ◌∙◌, subst, arith}
use Rattle.std.specs.Prelude.{nat_lt}
use Rattle.std.specs.List.{list_any, range_with_len}
use Rattle.std.specs.Option.{option_map_or}
use Rattle.std.proofs.Math.Nat.{mod-eq_of_lt}
use Rattle.std.proofs.lemmas.Bool.{cases_lt, eq-eqb, le-leb, ltb-false}
use Rattle.le_bytes.specs.declared.name.Name.{Name}
use Rattle.le_bytes.specs.Names.{blank_bytes}
use Rattle.le_bytes.specs.declared.record_what.EventWhat.TheVariants.{NotResident, Unresolved as UnresolvedName, OutOfSection, TouchesConstant}
use Rattle.sym_mod.specs.Sound.{IsSymbolOf}
use Rattle.sym_mod.specs.declared.program.Constant.{Constant}
use Rattle.sym_mod.specs.declared.program.Unknown.{Unknown}
use Rattle.sym_mod.specs.declared.program.Target.{Target}
use Rattle.sym_mod.specs.declared.program.Target.TheVariants.{Section as InSection, Label as AtLabel, Unresolved, Register as OfRegister, Total}
use Rattle.load_recs.specs.declared.items.SymbolItem.{SymbolItem}
use Rattle.linking_model.specs.Tree.{segments, is_in}
use Rattle.linking_model.specs.Places.{Laid, is_overlay, place, segment_of_section, length_of_section}
use Rattle.linking_model.specs.Tables.{is_defined, only_target}
use Rattle.linking_model.specs.Linked.{Placement, branch_address}
use Rattle.linking_model.specs.Run.{Storage, State as SymbolState, Event, Call, Store, Where, Dump, Answer as SymbolAnswer, Stops as StopsBySymbols, Goes as GoesBySymbols, Stored, Residents, Dumped, with_piece, list_piece, is_vcon_at as is_vcon_by_symbols, called as called_by_symbols, reached, stored as stored_by_symbols, dumped as dumped_by_symbols, is_touched as is_touched_by_symbols, section_named, at_section, if_resident, step as step_by_symbols}
use Rattle.member_model.specs.AfterFailure.{SameBytes}
use Rattle.member_model.specs.Fetched.{Fetched}
use Rattle.member_model.specs.Symbols.{symbol_at, is_outside, field_length}
use Rattle.member_model.specs.SymbolList.{symbols_written, unresolved_symbol}
use Rattle.member_model.specs.Parts.{OneSection, part_number, target_number, section_name}
use Rattle.member_model.specs.Segments.{count, residents, is_resident, segment_byte}
use Rattle.member_model.specs.Calling.{State, number_in, is_present, table_with}
use Rattle.member_model.specs.ByteRun.{Answer, Goes, Stops, Spot, is_vcon_at, called, called_through, called_at, name_or, is_touched, stored, dumped, if_there, at_spot, step}
use Rattle.member_laws.specs.Linkable.{IsLinkable}
use Rattle.member_laws.proofs.LoadingLists.{found_among, found_passes}
use Rattle.member_laws.proofs.LoadingSymbols.{item_of_unresolved}
use Rattle.member_laws.proofs.LoadingTargets.{Found, within, section_is_part, is_in_section, is_in_none}
use Rattle.member_laws.proofs.Numbered.{segments-range}
use Rattle.run_laws.specs.Agreement.{IsHeld, Agrees}
use Rattle.run_laws.specs.Answers.{IsRunnable, AnswerAlike}
use Rattle.run_laws.specs.Fields.{spot_at}
use Rattle.run_laws.proofs.BranchConstants.{IsCall, is_call, HasTarget, has_target}
use Rattle.run_laws.proofs.CalledConstants.{GoesBy, goes_by, no_item, number_held}
use Rattle.run_laws.proofs.FetchedMembers.{IsFetched, count_is}
use Rattle.run_laws.proofs.ItemsOfConstants.{sound_at, in_tree}
use Rattle.run_laws.proofs.PartBytes.{KeepsApart}
use Rattle.run_laws.proofs.DirectCalls.{ReachesAlike, Reaches}
use Rattle.run_laws.proofs.ResidentPaths.{each_segment, filter_same}
use Rattle.run_laws.proofs.SegmentTables.{resident_is}
use Rattle.run_laws.proofs.Spots.{spot_there, spot_not_there}
use Rattle.run_laws.proofs.StoredBytes.{stores_keep}
use Rattle.run_laws.proofs.TouchedConstants.{stores_touch_alike}

-- a member that was fetched, and what both runs need of where it was placed
pub record RunsAt (P : Laid) (scatter : Bool) (n : ℕ) (Q : Placement) (m : Fetched) : Type 0 where
  pub link : IsLinkable P
  pub runs : IsRunnable P
  pub some : 1 ≤ n
  pub fetched : IsFetched P scatter n Q m
  pub keeps : KeepsApart P Q
  pub reaches : Reaches P Q n m

-- ---- what is resident

resident_told : (P : Laid) (scatter : Bool) (n : ℕ) (Q : Placement) (m : Fetched) (S : State) (T : SymbolState) (s : ℕ) → RunsAt P scatter n Q m
    → Agrees P Q n S T → 1 ≤ s → s ≤ length P.tree → is_resident m S.storage s ≡ is_in s T.resident
resident_told P scatter n Q m S T s at agrees low high = by_overlay (is_overlay P.tree) refl
  where
    by_overlay : (b : Bool) → is_overlay P.tree ≡ b → is_resident m S.storage s ≡ is_in s T.resident
    by_overlay true over = resident_is P scatter n Q m T.resident S.storage s at.link at.fetched over (agrees.table over) low high
    by_overlay false plain =
        ap (λ b. if b then segment_byte m S.storage 2 s == 255 else s == 1) (at.fetched.overlay ∙ plain)
        ∙ eq-eqb s 1 root ∙ sym (ap (λ k. is_in k T.resident) root ∙ agrees.resident.root)
      where
        one : (s n : ℕ) → 1 ≤ s → s ≤ n → n ≤ 1 → s ≡ 1
        one s n low high short = omega (arith, low, high, short)

        root : s ≡ 1
        root = one s (length P.tree) low high (ltb-false 1 (length P.tree) plain)

present_told : (P : Laid) (scatter : Bool) (n : ℕ) (Q : Placement) (m : Fetched) (S : State) (T : SymbolState) (s : ℕ) → RunsAt P scatter n Q m
    → Agrees P Q n S T → 1 ≤ s → s ≤ length P.tree → is_present m S.storage s ≡ is_in s T.resident
present_told P scatter n Q m S T s at agrees low high =
    ap (λ b. b && is_resident m S.storage s) (le-leb s (count m) (subst (λ k. s ≤ k) (sym (count_is P scatter n Q m at.link at.fetched)) high))
    ∙ resident_told P scatter n Q m S T s at agrees low high

pub residents_told : (P : Laid) (scatter : Bool) (n : ℕ) (Q : Placement) (m : Fetched) (S : State) (T : SymbolState) → RunsAt P scatter n Q m
    → Agrees P Q n S T → residents m S.storage ≡ T.resident
residents_told P scatter n Q m S T at agrees =
    ap (filter (is_resident m S.storage)) (ap (range_with_len 1) (count_is P scatter n Q m at.link at.fetched) ∙ sym (segments-range P.tree))
    ∙ filter_same (is_resident m S.storage) (λ s. is_in s T.resident) (segments P.tree)
    (each_segment (λ s. is_resident m S.storage s ≡ is_in s T.resident) P.tree (λ s low high. resident_told P scatter n Q m S T s at agrees low high))
    ∙ sym agrees.resident.ascending

-- ---- at a section

at_alike : (P : Laid) (scatter : Bool) (n : ℕ) (Q : Placement) (m : Fetched) (S : State) (T : SymbolState) (name : Name) (done : Spot → Answer)
    (other : ℕ → SymbolAnswer) → RunsAt P scatter n Q m → Agrees P Q n S T
    → ((i : ℕ) → i < length P.program.sections → is_in (segment_of_section P.program i) T.resident ≡ true → AnswerAlike P Q n (done (spot_at P i)) (other i))
    → AnswerAlike P Q n (at_spot m S name done) (at_section P T name other)
at_alike P scatter n Q m S T name done other at agrees alike = by_name (section_named P.program name) refl
  where
    by_name : (o : Option ℕ) → section_named P.program name ≡ o → AnswerAlike P Q n (at_spot m S name done) (if_resident P T other o)
    by_name None none =
        subst (λ o. AnswerAlike P Q n (if_there m S done o) (if_resident P T other None)) (sym (spot_not_there P m name at.link at.runs at.fetched.symbols none)) refl
    by_name (Some i) named =
        let there = spot_there P m name i at.link at.runs at.fetched.symbols named in
        let bounds = in_tree P i at.link there.0 in
        subst (λ o. AnswerAlike P Q n (if_there m S done o) (if_resident P T other (Some i))) (sym there.1)
        (subst (λ b. AnswerAlike P Q n (if b then done (spot_at P i) else Stops (NotResident (segment_of_section P.program i))) (if_resident P T other (Some i)))
        (sym (present_told P scatter n Q m S T (segment_of_section P.program i) at agrees bounds.0 bounds.1))
        (by_presence (is_in (segment_of_section P.program i) T.resident) refl (alike i there.0)))
      where
        by_presence : (b : Bool) → is_in (segment_of_section P.program i) T.resident ≡ b
            → (is_in (segment_of_section P.program i) T.resident ≡ true → AnswerAlike P Q n (done (spot_at P i)) (other i))
            → AnswerAlike P Q n (if b then done (spot_at P i) else Stops (NotResident (segment_of_section P.program i)))
            (if b then other i else StopsBySymbols (NotResident (segment_of_section P.program i)))
        by_presence true here alike = alike here
        by_presence false absent alike = refl

section_address : (P : Laid) (scatter : Bool) (n : ℕ) (Q : Placement) (m : Fetched) (i : ℕ) → RunsAt P scatter n Q m → i < length P.program.sections
    → m.addresses (part_number P (OneSection i)) ≡ Q.section i
section_address P scatter n Q m i at inside = at.fetched.parts (OneSection i) (section_is_part P i at.link inside)

-- ---- calls

small_number : (k l : ℕ) → 3 ≤ l → l ≤ 4 → k < 16777216 → k % 256 ^ l ≡ k
small_number k l low high small = by_length (cases_lt l 4)
  where
    of_three : l ≡ 3 → k % 256 ^ l ≡ k
    of_three is = ap (λ l. k % 256 ^ l) is ∙ mod-eq_of_lt small

    of_four : l ≡ 4 → k % 256 ^ l ≡ k
    of_four is = ap (λ l. k % 256 ^ l) is ∙ mod-eq_of_lt (more k small)
      where
        more : (k : ℕ) → k < 16777216 → k < 4294967296
        more k small = omega (arith, small)

    by_length : (l < 4) ⊎ (4 ≤ l) → k % 256 ^ l ≡ k
    by_length (inl less) = of_three (omega (arith, low, less))
    by_length (inr more) = of_four (omega (arith, high, more))

-- what a call by an item that refers to y says, where the number in storage is w
abbrev through : Laid → Fetched → State → Name → Target → ℕ → Answer
through P m S name y w =
    if is_outside (symbol_at (symbols_written P) (target_number P y))
    then Stops (UnresolvedName (name_or (symbol_at (symbols_written P) (target_number P y)) name))
    else called_at m S w (table_with m S.storage w)

unresolved_at : (P : Laid) (j : ℕ) (x : Unknown) → slice_get P.program.unresolved j ≡ Some x
    → symbol_at (symbols_written P) (target_number P (Unresolved j)) ≡ Some (unresolved_symbol x)
unfolding target_number
unresolved_at P j x there = item_of_unresolved P j x there

through_alike : (P : Laid) (scatter : Bool) (n : ℕ) (Q : Placement) (m : Fetched) (S : State) (T : SymbolState) (i o : ℕ) (c : Constant) (name : Name)
    → RunsAt P scatter n Q m → Agrees P Q n S T → i < length P.program.sections → is_in (segment_of_section P.program i) T.resident ≡ true
    → IsCall P i o c → (y : Target) → only_target c.terms ≡ y → IsSymbolOf P.program y
    → AnswerAlike P Q n (through P m S name y (branch_address P Q (segment_of_section P.program i) y % 256 ^ c.length)) (reached P Q T y)
through_alike P scatter n Q m S T i o c name at agrees inside there call y target symbol = by_target y target symbol
  where
    defined_alike : (y : Target) → only_target c.terms ≡ y → IsSymbolOf P.program y → is_defined y ≡ true
        → AnswerAlike P Q n (through P m S name y (branch_address P Q (segment_of_section P.program i) y % 256 ^ c.length)) (reached P Q T y)
    defined_alike y target symbol defined =
        let reach : ReachesAlike P Q n m S T (segment_of_section P.program i) y =
        at.reaches S T i y agrees inside there symbol
        (record { constant = c; among = call.among; branch = call.kind; here = ap (segment_of_section P.program) call.section; target = target; defined = defined }) in
        subst (λ b. AnswerAlike P Q n (if b then Stops (UnresolvedName (name_or (symbol_at (symbols_written P) (target_number P y)) name))
        else called_at m S (branch_address P Q (segment_of_section P.program i) y % 256 ^ c.length)
        (table_with m S.storage (branch_address P Q (segment_of_section P.program i) y % 256 ^ c.length))) (reached P Q T y))
        (sym (is_in_section P y at.link symbol defined).item.inside)
        (subst (λ w. AnswerAlike P Q n (called_at m S w (table_with m S.storage w)) (reached P Q T y))
        (sym (small_number (branch_address P Q (segment_of_section P.program i) y) c.length call.long (sound_at P c at.link call.among).short reach.small)) reach.answer)

    by_target : (y : Target) → only_target c.terms ≡ y → IsSymbolOf P.program y
        → AnswerAlike P Q n (through P m S name y (branch_address P Q (segment_of_section P.program i) y % 256 ^ c.length)) (reached P Q T y)
    by_target (InSection j) target symbol = defined_alike (InSection j) target symbol refl
    by_target (AtLabel j) target symbol = defined_alike (AtLabel j) target symbol refl
    by_target (Unresolved j) target symbol =
        let x : Found P.program.unresolved j (λ x. Unit {0}) = within P.program.unresolved j symbol in
        subst (λ a. AnswerAlike P Q n a (reached P Q T (Unresolved j)))
        (sym (ap (λ b. if b then Stops (UnresolvedName (name_or (symbol_at (symbols_written P) (target_number P (Unresolved j))) name))
        else called_at m S (0 % 256 ^ c.length) (table_with m S.storage (0 % 256 ^ c.length))) (is_in_none P j symbol)
        ∙ ap (λ o. Stops (UnresolvedName (name_or o name))) (unresolved_at P j x.item x.found)))
        (sym (ap (λ o. UnresolvedName (option_map_or (λ (u : Unknown). u.name) o (record { 0 = blank_bytes }))) x.found))
    by_target (OfRegister j) target symbol = absurd symbol
    by_target Total target symbol = absurd symbol

call_alike : (P : Laid) (scatter : Bool) (n : ℕ) (Q : Placement) (m : Fetched) (S : State) (T : SymbolState) (o i : ℕ) → RunsAt P scatter n Q m
    → Agrees P Q n S T → i < length P.program.sections → is_in (segment_of_section P.program i) T.resident ≡ true
    → AnswerAlike P Q n (called m S (spot_at P i) o (find (is_vcon_at (spot_at P i) o) S.fields)) (called_by_symbols P Q T (find (is_vcon_by_symbols i o) P.program.constants))
call_alike P scatter n Q m S T o i at agrees inside there = by_constant (find (is_vcon_by_symbols i o) P.program.constants) refl
  where
    held : IsHeld P Q n (segment_of_section P.program i) S
    held = agrees.held (segment_of_section P.program i) there

    by_constant : (c : Option Constant) → find (is_vcon_by_symbols i o) P.program.constants ≡ c
        → AnswerAlike P Q n (called m S (spot_at P i) o (find (is_vcon_at (spot_at P i) o) S.fields)) (called_by_symbols P Q T c)
    by_constant None none =
        subst (λ f. AnswerAlike P Q n (called m S (spot_at P i) o f) (called_by_symbols P Q T None))
        (sym (no_item P n i o S.fields at.link inside held.fields.written none)) refl
    by_constant (Some c) found =
        let call : IsCall P i o c =
        is_call P i o c (found_among (is_vcon_by_symbols i o) c P.program.constants found) (found_passes (is_vcon_by_symbols i o) c P.program.constants found) in
        let goes : GoesBy P i o c S.fields = goes_by P n i o c S.fields at.link at.some inside held.fields call in
        let target : HasTarget P c = has_target P c at.link call.among call.kind in
        subst (λ f. AnswerAlike P Q n (called m S (spot_at P i) o f) (called_by_symbols P Q T (Some c))) (sym goes.found)
        (subst (λ a. AnswerAlike P Q n a (reached P Q T (only_target c.terms))) (sym (said goes call))
        (through_alike P scatter n Q m S T i o c (section_name P i) at agrees inside there call (only_target c.terms) refl target.symbol))
      where
        said : (goes : GoesBy P i o c S.fields) → IsCall P i o c → called_through m S (spot_at P i) o goes.field
            ≡ through P m S (section_name P i) (only_target c.terms) (branch_address P Q (segment_of_section P.program i) (only_target c.terms) % 256 ^ c.length)
        said goes call =
            ap (λ symbols. saying symbols goes.field.item.r (number_in S.storage (m.addresses (part_number P (OneSection i)) + o) (field_length goes.field.item))) at.fetched.symbols
            ∙ ap (λ r. saying (symbols_written P) r (number_in S.storage (m.addresses (part_number P (OneSection i)) + o) (field_length goes.field.item))) goes.refers
            ∙ ap (saying (symbols_written P) (target_number P (only_target c.terms)))
            (ap (λ a. number_in S.storage (a + o) (field_length goes.field.item)) (section_address P scatter n Q m i at inside)
            ∙ ap (λ l. number_in S.storage (Q.section i + o) l) goes.long
            ∙ number_held P Q i o c S.storage at.link inside held.constants call)
          where
            saying : List SymbolItem → ℕ → ℕ → Answer
            saying symbols r v =
                if is_outside (symbol_at symbols r) then Stops (UnresolvedName (name_or (symbol_at symbols r) (section_name P i)))
                else called_at m S v (table_with m S.storage v)

-- ---- stores and dumps

store_alike : (P : Laid) (scatter : Bool) (n : ℕ) (Q : Placement) (m : Fetched) (S : State) (T : SymbolState) (o : ℕ) (bytes : List ℕ) (i : ℕ)
    → RunsAt P scatter n Q m → Agrees P Q n S T → i < length P.program.sections → is_in (segment_of_section P.program i) T.resident ≡ true
    → AnswerAlike P Q n (stored m S (spot_at P i) o bytes) (stored_by_symbols P Q T i o bytes)
store_alike P scatter n Q m S T o bytes i at agrees inside there =
    by_length (nat_lt (length_of_section P.program i) (o + length bytes)) refl
  where
    held : IsHeld P Q n (segment_of_section P.program i) S
    held = agrees.held (segment_of_section P.program i) there

    touched : list_any (is_touched (spot_at P i) (place P i + o) (length bytes)) S.fields ≡ is_touched_by_symbols P.program i o (length bytes)
    touched = stores_touch_alike P n i o (length bytes) S.fields at.link at.some inside held.fields

    by_touch : (b : Bool) → is_touched_by_symbols P.program i o (length bytes) ≡ b → nat_lt (length_of_section P.program i) (o + length bytes) ≡ false
        → AnswerAlike P Q n (if b then Stops TouchesConstant
        else Goes Stored (record S { storage = with_piece S.storage (list_piece (m.addresses (part_number P (OneSection i)) + o) bytes) }))
        (if b then StopsBySymbols TouchesConstant else GoesBySymbols Stored (record T { storage = with_piece T.storage (list_piece (Q.section i + o) bytes) }))
    by_touch true touches fits = refl
    by_touch false free fits = (
      refl,
      subst (λ a. Agrees P Q n (record S { storage = with_piece S.storage (list_piece (a + o) bytes) }) (record T { storage = with_piece T.storage (list_piece (Q.section i + o) bytes) }))
          (sym (section_address P scatter n Q m i at inside))
          (stores_keep P Q n i o bytes S T at.link at.keeps agrees inside there (ltb-false (length_of_section P.program i) (o + length bytes) fits) free),
    )

    by_length : (b : Bool) → nat_lt (length_of_section P.program i) (o + length bytes) ≡ b
        → AnswerAlike P Q n (if b then Stops OutOfSection
        else (if list_any (is_touched (spot_at P i) (place P i + o) (length bytes)) S.fields then Stops TouchesConstant
        else Goes Stored (record S { storage = with_piece S.storage (list_piece (m.addresses (part_number P (OneSection i)) + o) bytes) })))
        (if b then StopsBySymbols OutOfSection
        else (if is_touched_by_symbols P.program i o (length bytes) then StopsBySymbols TouchesConstant
        else GoesBySymbols Stored (record T { storage = with_piece T.storage (list_piece (Q.section i + o) bytes) })))
    by_length true long = refl
    by_length false fits =
        subst (λ b. AnswerAlike P Q n (if b then Stops TouchesConstant
        else Goes Stored (record S { storage = with_piece S.storage (list_piece (m.addresses (part_number P (OneSection i)) + o) bytes) }))
        (if is_touched_by_symbols P.program i o (length bytes) then StopsBySymbols TouchesConstant
        else GoesBySymbols Stored (record T { storage = with_piece T.storage (list_piece (Q.section i + o) bytes) })))
        (sym touched) (by_touch (is_touched_by_symbols P.program i o (length bytes)) refl fits)

same_list : (M N : Storage) (xs : List ℕ) → SameBytes M N → map M xs ≡ map N xs
same_list M N [] same = refl
same_list M N (x ∷ xs) same = ap (λ b. b ∷ map M xs) (same x) ∙ ap (λ bs. N x ∷ bs) (same_list M N xs same)

dump_alike : (P : Laid) (scatter : Bool) (n : ℕ) (Q : Placement) (m : Fetched) (S : State) (T : SymbolState) (i : ℕ) → RunsAt P scatter n Q m
    → Agrees P Q n S T → i < length P.program.sections → AnswerAlike P Q n (dumped m S (spot_at P i)) (dumped_by_symbols P Q T i)
dump_alike P scatter n Q m S T i at agrees inside = (
  ap (λ a. Dumped a (map S.storage (range_with_len a (length_of_section P.program i)))) (section_address P scatter n Q m i at inside)
      ∙ ap (Dumped (Q.section i)) (same_list S.storage T.storage (range_with_len (Q.section i) (length_of_section P.program i)) agrees.storage),
  agrees,
)

-- ---- each event

pub step_alike : (P : Laid) (scatter : Bool) (n : ℕ) (Q : Placement) (m : Fetched) (S : State) (T : SymbolState) (event : Event)
    → RunsAt P scatter n Q m → Agrees P Q n S T → AnswerAlike P Q n (step m S event) (step_by_symbols P Q T event)
unfolding step step_by_symbols
step_alike P scatter n Q m S T (Call name o) at agrees =
    at_alike P scatter n Q m S T name (λ x. called m S x o (find (is_vcon_at x o) S.fields)) (λ i. called_by_symbols P Q T (find (is_vcon_by_symbols i o) P.program.constants))
    at agrees (λ i inside there. call_alike P scatter n Q m S T o i at agrees inside there)
step_alike P scatter n Q m S T (Store name o bytes) at agrees =
    at_alike P scatter n Q m S T name (λ x. stored m S x o bytes) (λ i. stored_by_symbols P Q T i o bytes)
    at agrees (λ i inside there. store_alike P scatter n Q m S T o bytes i at agrees inside there)
step_alike P scatter n Q m S T Where at agrees = (ap Residents (residents_told P scatter n Q m S T at agrees), agrees)
step_alike P scatter n Q m S T (Dump name) at agrees =
    at_alike P scatter n Q m S T name (dumped m S) (dumped_by_symbols P Q T) at agrees (λ i inside there. dump_alike P scatter n Q m S T i at agrees inside)
