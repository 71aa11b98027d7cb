-- A call of a member of overlay in one block reaches the address of its target: directly, or by the entry that a table of
-- a resident segment has.
use Rattle.std.proofs.Common.{◌≡◌, ◌⊎◌, inl, inr, ℕ, zero, suc, ◌+◌, ◌*◌, ◌%◌, ◌<◌, ◌≤◌, Bool, true, false, not, ◌==◌, if◌then◌else◌, List, [], ◌∷◌, length, Some, None, refl, sym, ap, ◌∙◌, subst, le_refl, arith}
use Rattle.std.specs.Prelude.{nat_le, nat_lt}
use Rattle.std.specs.List.{AllByRecursion as Each}
use Rattle.std.specs.Option.{option_or}
use Rattle.std.proofs.lemmas.Bool.{and_parts, and_from, leb-true, le-leb, lt-ltb}
use Rattle.std.proofs.lemmas.Option.{slice_get_within}
use Rattle.pds_lib.specs.Stow.{main_entry}
use Rattle.sym_mod.specs.Sound.{IsSymbolOf}
use Rattle.sym_mod.specs.declared.program.Target.{Target}
use Rattle.linking_model.specs.Tree.{Tree, IsTree, parent_of, is_in, is_on_path}
use Rattle.linking_model.specs.Places.{Laid, is_overlay, place, table_place, segment_of_section, entries_of, entry_count, entab_length, end_of, module_length}
use Rattle.linking_model.specs.Tables.{is_defined, segment_of, holder, is_direct}
use Rattle.linking_model.specs.Linked.{Placement, block, address_of, branch_address}
use Rattle.linking_model.specs.Run.{State as SymbolState, Goes as GoesBySymbols, Reached, reached, call_into as call_by_symbols}
use Rattle.linking_model.proofs.Bytes.{holders_are_on_paths}
use Rattle.member_model.specs.Fetched.{Fetched}
use Rattle.member_model.specs.Parts.{EntryTable}
use Rattle.member_model.specs.Segments.{is_resident}
use Rattle.member_model.specs.Calling.{State, number_in, is_in_table, table_with, missing, segment_bad, segments_bad, call_into}
use Rattle.member_model.specs.ByteRun.{Goes, Stops, called_at, if_readable}
use Rattle.le_bytes.specs.declared.record_what.EventWhat.TheVariants.{BadEntab}
use Rattle.member_model.specs.Placing.{is_origin}
use Rattle.member_model.specs.Written.{Naming, written_bytes, member_written}
use Rattle.member_laws.specs.Linkable.{IsLinkable, IsFormat}
use Rattle.member_laws.proofs.LoadingTargets.{Found, home, away, is_in_section}
use Rattle.member_laws.proofs.Standing.{stands_well, segments-end}
use Rattle.member_laws.proofs.SymbolsWritten.{place-within}
use Rattle.run_laws.specs.Agreement.{Agrees}
use Rattle.run_laws.specs.Answers.{IsRunnable, AnswerAlike}
use Rattle.run_laws.specs.EntryTables.{ReadsTable, table_range, member_at, ReadsEntry}
use Rattle.run_laws.specs.Residents.{AreResident}
use Rattle.run_laws.specs.Starts.{most_records}
use Rattle.run_laws.proofs.BringingAlike.{bring_alike}
use Rattle.run_laws.proofs.BroughtSegments.{brought_by, missing_are, each_brought}
use Rattle.run_laws.proofs.EntriesBack.{entries_are_read_back}
use Rattle.run_laws.proofs.FetchedMembers.{IsFetched, fetched_in_block}
use Rattle.run_laws.proofs.FoundTables.{one_table, stands_in, home_segment, direct_addresses_are_in_no_table}
use Rattle.run_laws.proofs.ItemsOfConstants.{in_tree}
use Rattle.run_laws.proofs.ListedEntries.{IsCalled, HasEntry, has_entry_for}
use Rattle.run_laws.proofs.ReadAlone.{reads_alone}
use Rattle.run_laws.proofs.ResidentPaths.{IsFurther, last_or_further, resident_within}
use Rattle.run_laws.proofs.SegmentTables.{resident_is}
use Rattle.run_laws.proofs.DirectCalls.{ReachesAlike, Reaches, reached_is, entry_branch, direct_alike, plain_reaches}

-- ---- a member of overlay in one block

-- what is on the path of a resident segment is resident
path_resident : (k : ℕ) (tree : Tree) (resident : List ℕ) (b a : ℕ) → a ≤ k → IsTree tree → AreResident tree resident → is_in a resident ≡ true
    → 1 ≤ a → a ≤ length tree → is_on_path tree b a ≡ true → is_in b resident ≡ true
path_resident zero tree resident b a bound t are there low high on = absurd (omega (arith, bound, low))
path_resident (suc k) tree resident b a bound t are there low high on =
    by_cases (last_or_further tree b a t low high on)
    (λ rest. path_resident k tree resident b (parent_of tree a) (omega (arith, rest.has.earlier, bound)) t are (are.parents a rest.below_root there)
    rest.has.below_root (omega (arith, rest.has.earlier, high)) rest.on)
  where
    by_cases : (b ≡ a) ⊎ IsFurther tree b a → (IsFurther tree b a → is_in b resident ≡ true) → is_in b resident ≡ true
    by_cases (inl same) later = ap (λ s. is_in s resident) same ∙ there
    by_cases (inr rest) later = later rest

room_of : (at l : ℕ) → is_origin l at ≡ true → at + l ≤ 16777215
room_of at l origin = leb-true (at + l) 16777215 (and_parts (at % 8 == 0) (nat_le (at + l) 16777215) origin).1

address_small : (P : Laid) (at : ℕ) (y : Target) → IsLinkable P → is_origin (module_length P) at ≡ true → IsSymbolOf P.program y → is_defined y ≡ true
    → address_of P.program (block P at) y < 16777216
address_small P at y link origin symbol defined =
    let stands : Found P.program.sections (home P.program y) (λ x. away P.program y ≤ x.length) = stands_in P y link symbol defined in
    subst (λ v. v < 16777216) (sym ((is_in_section P y link symbol defined).address (block P at)))
    (below at (place P (home P.program y)) (away P.program y) (module_length P)
    (place-within P (home P.program y) (away P.program y) stands.item link stands.found stands.holds) (room_of at (module_length P) origin))
  where
    below : (at p o l : ℕ) → p + o ≤ l → at + l ≤ 16777215 → at + p + o < 16777216
    below at p o l within room = omega (arith, within, room)

entry_small : (P : Laid) (at b k : ℕ) → is_origin (module_length P) at ≡ true → 1 ≤ b → b ≤ length P.tree → k < entry_count P b
    → (block P at).entab b + 8 + 12 * k < 16777216
entry_small P at b k origin low high listed =
    below at (table_place P b) (entry_count P b) k (end_of P b) (module_length P) listed (stands_well P b (EntryTable b) low (refl, some k (entry_count P b) listed)).ends
    (segments-end P b low high) (room_of at (module_length P) origin)
  where
    some : (k e : ℕ) → k < e → 0 < e
    some k e low = omega (arith, low)

    below : (at p e k x l : ℕ) → k < e → p + (12 * e + 12) ≤ x → x ≤ l → at + l ≤ 16777215 → at + p + 8 + 12 * k < 16777216
    below at p e k x l listed ends within room = omega (arith, listed, ends, within, room)

in_its_table : (P : Laid) (Q : Placement) (b k : ℕ) → k < entry_count P b → is_in_table (Q.entab b + 8 + 12 * k) (table_range P Q b) ≡ true
in_its_table P Q b k listed =
    and_from (nat_le (Q.entab b + 8) (Q.entab b + 8 + 12 * k)) (nat_lt (Q.entab b + 8 + 12 * k) (Q.entab b + entab_length (entry_count P b)))
    (le-leb (Q.entab b + 8) (Q.entab b + 8 + 12 * k) (omega arith))
    (lt-ltb (Q.entab b + 8 + 12 * k) (Q.entab b + entab_length (entry_count P b)) (below (Q.entab b) (entry_count P b) k listed))
  where
    below : (at e k : ℕ) → k < e → at + 8 + 12 * k < at + (12 * e + 12)
    below at e k listed = omega (arith, listed)

none_bad : (m : Fetched) (new : List ℕ) → Each (λ s. segment_bad m s ≡ None) new → segments_bad m new ≡ None
none_bad m [] good = refl
none_bad m (s ∷ new) good = ap (λ o. option_or o (segments_bad m new)) good.0 ∙ none_bad m new good.1

-- a call by an entry
entry_alike : (P : Laid) (scatter : Bool) (n : ℕ) (who : Naming) (at : ℕ) (S : State) (T : SymbolState) (a : ℕ) (y : Target) → IsLinkable P
    → IsFormat P scatter n → is_overlay P.tree ≡ true → length (written_bytes P scatter n) ≤ most_records → is_origin (module_length P) at ≡ true
    → Agrees P (block P at) n S T → is_defined y ≡ true → IsSymbolOf P.program y → is_direct P.program P.tree a y ≡ false → (has : HasEntry P a y)
    → is_in has.table T.resident ≡ true → ReachesAlike P (block P at) n (member_at P scatter n who at) S T a y
entry_alike P scatter n who at S T a y link format over few origin agrees defined symbol direct has there = record {
  small = subst (λ v. v < 16777216) (sym address) (entry_small P at has.table has.place origin bounds.0 bounds.1 listed);
  answer =
      subst (λ v. AnswerAlike P (block P at) n (called_at m S v (table_with m S.storage v)) (reached P (block P at) T y)) (sym address)
      (subst (λ o. AnswerAlike P (block P at) n (called_at m S v o) (reached P (block P at) T y)) (sym found)
      (subst (λ x. AnswerAlike P (block P at) n x (reached P (block P at) T y)) (sym answered)
      (subst (AnswerAlike P (block P at) n (if is_in t T.resident then Goes (Reached target) S else Goes (Reached target) (call_into m S t)))
      (sym (reached_is P (block P at) T y defined)) (by_cases (is_in t T.resident)))));
}
  where
    m : Fetched
    m = member_at P scatter n who at

    is : IsFetched P scatter n (block P at) m
    is = fetched_in_block P scatter n (main_entry (member_written P scatter n who)) at link format (record { attr = refl; length = refl })

    reads : ReadsTable P at T.resident S.storage
    reads = agrees.table over

    bounds : (1 ≤ has.table) × (has.table ≤ length P.tree)
    bounds = resident_within P.tree T.resident has.table agrees.resident there

    listed : has.place < entry_count P has.table
    listed = slice_get_within (entries_of P has.table) has.place y has.listed

    v : ℕ
    v = (block P at).entab has.table + 8 + 12 * has.place

    t : ℕ
    t = segment_of P.program y

    target : ℕ
    target = address_of P.program (block P at) y

    address : branch_address P (block P at) a y ≡ v
    address = entry_branch P (block P at) a y has defined direct

    some : (k e : ℕ) → k < e → 0 < e
    some k e low = omega (arith, low)

    found : table_with m S.storage v ≡ Some (table_range P (block P at) has.table)
    found =
        one_table P scatter n at m T.resident S.storage has.table v link is over agrees.resident reads there (some has.place (entry_count P has.table) listed)
        (in_its_table P (block P at) has.table has.place listed)

    entry : ReadsEntry P (block P at) m has.table y S.storage v
    entry =
        entries_are_read_back P scatter n who at has.table has.place y S.storage link format origin has.listed
        ((agrees.held has.table there).table (some has.place (entry_count P has.table) listed))

    tree_bounds : (1 ≤ t) × (t ≤ length P.tree)
    tree_bounds =
        let within_tree = in_tree P (home P.program y) link (is_in_section P y link symbol defined).inside in
        (subst (λ s. 1 ≤ s) (sym (home_segment P.program y defined)) within_tree.0, subst (λ s. s ≤ length P.tree) (sym (home_segment P.program y defined)) within_tree.1)

    none_is_bad : segments_bad m (missing m S.storage t) ≡ None
    none_is_bad =
        ap (segments_bad m) (missing_are P scatter n (block P at) m T.resident S.storage t link is over reads)
        ∙ none_bad m (brought_by P.tree T.resident t)
        (each_brought (λ s. segment_bad m s ≡ None) P.tree T.resident t
        (λ s low high.
        (reads_alone P scatter n s (main_entry (member_written P scatter n who)) at link format (record { attr = refl; length = refl }) over few low high).good))

    answered : called_at m S v (Some (table_range P (block P at) has.table)) ≡ (if is_in t T.resident then Goes (Reached target) S else Goes (Reached target) (call_into m S t))
    answered =
        ap (λ b. if not b then Stops (BadEntab v)
        else (if is_resident m S.storage (S.storage (v + 8)) then Goes (Reached (number_in S.storage (v + 4) 4)) S
        else if_readable m S (S.storage (v + 8)) (number_in S.storage (v + 4) 4) (segments_bad m (missing m S.storage (S.storage (v + 8)))))) entry.entry
        ∙ ap (λ s. if is_resident m S.storage s then Goes (Reached (number_in S.storage (v + 4) 4)) S
        else if_readable m S s (number_in S.storage (v + 4) 4) (segments_bad m (missing m S.storage s))) entry.segment
        ∙ ap (λ w. if is_resident m S.storage t then Goes (Reached w) S else if_readable m S t w (segments_bad m (missing m S.storage t))) entry.address
        ∙ ap (λ o. if is_resident m S.storage t then Goes (Reached target) S else if_readable m S t target o) none_is_bad
        ∙ ap (λ b. if b then Goes (Reached target) S else Goes (Reached target) (call_into m S t))
        (resident_is P scatter n (block P at) m T.resident S.storage t link is over reads tree_bounds.0 tree_bounds.1)

    by_cases : (b : Bool) → AnswerAlike P (block P at) n (if b then Goes (Reached target) S else Goes (Reached target) (call_into m S t))
        (GoesBySymbols (Reached target) (if b then T else call_by_symbols P (block P at) T t))
    by_cases true = (refl, agrees)
    by_cases false = (refl, bring_alike P scatter n who at t S T link format over few agrees tree_bounds.0 tree_bounds.1)

pub block_reaches : (P : Laid) (scatter : Bool) (n : ℕ) (who : Naming) (at : ℕ) → IsLinkable P → IsRunnable P → IsFormat P scatter n
    → length (written_bytes P scatter n) ≤ most_records → is_origin (module_length P) at ≡ true
    → Reaches P (block P at) n (member_at P scatter n who at)
block_reaches P scatter n who at link runs format few origin = by_overlay (is_overlay P.tree) refl
  where
    m : Fetched
    m = member_at P scatter n who at

    is : IsFetched P scatter n (block P at) m
    is = fetched_in_block P scatter n (main_entry (member_written P scatter n who)) at link format (record { attr = refl; length = refl })

    by_overlay : (b : Bool) → is_overlay P.tree ≡ b → Reaches P (block P at) n m
    by_overlay false plain = plain_reaches P scatter n (block P at) m link is plain (λ y symbol defined. address_small P at y link origin symbol defined)
    by_overlay true over = λ S T i y agrees inside there symbol called. by_direct S T i y agrees inside there symbol called (is_direct P.program P.tree (segment_of_section P.program i) y) refl
      where
        by_direct : (S : State) (T : SymbolState) (i : ℕ) (y : Target) → Agrees P (block P at) n S T → i < length P.program.sections
            → is_in (segment_of_section P.program i) T.resident ≡ true → IsSymbolOf P.program y → IsCalled P (segment_of_section P.program i) y
            → (b : Bool) → is_direct P.program P.tree (segment_of_section P.program i) y ≡ b → ReachesAlike P (block P at) n m S T (segment_of_section P.program i) y
        by_direct S T i y agrees inside there symbol called true direct =
            let bounds = resident_within P.tree T.resident (segment_of_section P.program i) agrees.resident there in
            let resides : is_in (segment_of P.program y) T.resident ≡ true =
            path_resident (segment_of_section P.program i) P.tree T.resident (segment_of P.program y) (segment_of_section P.program i) (le_refl (segment_of_section P.program i))
            link.tree agrees.resident there bounds.0 bounds.1 direct in
            direct_alike P (block P at) n m S T (segment_of_section P.program i) y agrees called.defined direct resides
            (direct_addresses_are_in_no_table P scatter n who at T.resident S.storage y link format over agrees.resident (agrees.table over) symbol called.defined resides)
            (address_small P at y link origin symbol called.defined)
        by_direct S T i y agrees inside there symbol called false direct =
            let bounds = resident_within P.tree T.resident (segment_of_section P.program i) agrees.resident there in
            let has : HasEntry P (segment_of_section P.program i) y =
            has_entry_for P (segment_of_section P.program i) y link runs bounds.0 bounds.1 symbol called direct
            (λ b holds. resident_within P.tree T.resident b agrees.resident (holder_resides T i y agrees there bounds b holds)) in
            entry_alike P scatter n who at S T (segment_of_section P.program i) y link format over few origin agrees called.defined symbol direct has
            (holder_resides T i y agrees there bounds has.table has.holds)
          where
            holder_resides : (T : SymbolState) (i : ℕ) (y : Target) → Agrees P (block P at) n S T → is_in (segment_of_section P.program i) T.resident ≡ true
                → (1 ≤ segment_of_section P.program i) × (segment_of_section P.program i ≤ length P.tree)
                → (b : ℕ) → holder P.program P.tree (segment_of_section P.program i) y ≡ Some b → is_in b T.resident ≡ true
            holder_resides T i y agrees there bounds b holds =
                path_resident (segment_of_section P.program i) P.tree T.resident b (segment_of_section P.program i) (le_refl (segment_of_section P.program i))
                link.tree agrees.resident there bounds.0 bounds.1 (holders_are_on_paths P.program P.tree (segment_of_section P.program i) y b holds)
