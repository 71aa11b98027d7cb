-- A call that goes directly reaches the address of its target, as each call of a member without overlay does.
use Rattle.std.proofs.Common.{◌≡◌, ◌⊎◌, inl, inr, ℕ, ◌+◌, ◌*◌, ◌<◌, ◌≤◌, Bool, true, false, ◌&&◌, if◌then◌else◌, filter_map, map, slice_get, length, Some, None, unwrap_or, position, refl, sym, ap, ◌∙◌, subst, arith}
use Rattle.std.specs.List.{enumerate_from}
use Rattle.std.proofs.lemmas.Bool.{false≢true, ltb-false}
use Rattle.std.proofs.lemmas.Option.{none-some}
use Rattle.sym_mod.specs.Reserved.{entry_table}
use Rattle.sym_mod.specs.Sound.{IsSymbolOf}
use Rattle.sym_mod.specs.declared.program.Target.{Target}
use Rattle.sym_mod.specs.declared.program.Target.TheVariants.{Section as InSection, Label as AtLabel, Unresolved, Register as OfRegister, Total}
use Rattle.load_recs.specs.declared.items.SymbolItem.{SymbolItem}
use Rattle.linking_model.specs.Tree.{is_in}
use Rattle.linking_model.specs.Places.{Laid, is_overlay, segment_of_section, entries_of, entry_count}
use Rattle.linking_model.specs.Tables.{is_defined, segment_of, is_direct, target_eq}
use Rattle.linking_model.specs.Linked.{Placement, address_of, entry_address, branch_address}
use Rattle.linking_model.specs.Run.{Storage, State as SymbolState, Goes as GoesBySymbols, Reached, reached, call_into as call_by_symbols}
use Rattle.member_model.specs.Fetched.{Fetched}
use Rattle.member_model.specs.Symbols.{is_sd_named}
use Rattle.member_model.specs.SymbolList.{symbols_written, part_symbol}
use Rattle.member_model.specs.Parts.{Part, SegmentTable, OneSection, EntryTable, parts, part_segment}
use Rattle.member_model.specs.Calling.{State, Range, is_present, table_of, is_in_table, table_with}
use Rattle.member_model.specs.ByteRun.{Goes, called_at}
use Rattle.member_laws.specs.Linkable.{IsLinkable}
use Rattle.member_laws.proofs.LoadingAlone.{segment_is, all_direct, table_empty}
use Rattle.member_laws.proofs.LoadingSymbols.{after_parts, symbols_are}
use Rattle.member_laws.proofs.LoadingTargets.{home, IsInSection, is_in_section}
use Rattle.member_laws.proofs.Membership.{Has, has-at, has-each}
use Rattle.member_laws.proofs.Numbered.{IsPart, from-part}
use Rattle.run_laws.specs.Agreement.{Agrees}
use Rattle.run_laws.specs.Answers.{AnswerAlike}
use Rattle.run_laws.proofs.FetchedMembers.{IsFetched}
use Rattle.run_laws.proofs.FoundTables.{get_split, Made, made_at, each_enumerated, each_filter_map, find_nothing, none_as, not_named, none_behind, section_within, home_segment}
use Rattle.run_laws.proofs.ListedEntries.{IsCalled, HasEntry}

-- ---- what is asked of a placement

-- a call by a constant in segment a for y goes by a small number, and is answered alike
pub record ReachesAlike (P : Laid) (Q : Placement) (n : ℕ) (m : Fetched) (S : State) (T : SymbolState) (a : ℕ) (y : Target) : Type 0 where
  pub small : branch_address P Q a y < 16777216
  pub answer : AnswerAlike P Q n (called_at m S (branch_address P Q a y) (table_with m S.storage (branch_address P Q a y))) (reached P Q T y)

-- so does each call by a constant in a resident segment
abbrev pub Reaches : Laid → Placement → ℕ → Fetched → Type 0
Reaches P Q n m =
    (S : State) (T : SymbolState) (i : ℕ) (y : Target) → Agrees P Q n S T → i < length P.program.sections
    → is_in (segment_of_section P.program i) T.resident ≡ true → IsSymbolOf P.program y → IsCalled P (segment_of_section P.program i) y
    → ReachesAlike P Q n m S T (segment_of_section P.program i) y

-- ---- addresses

pub reached_is : (P : Laid) (Q : Placement) (T : SymbolState) (y : Target) → is_defined y ≡ true
    → reached P Q T y ≡ GoesBySymbols (Reached (address_of P.program Q y)) (if is_in (segment_of P.program y) T.resident then T else call_by_symbols P Q T (segment_of P.program y))
reached_is P Q T (InSection i) defined = refl
reached_is P Q T (AtLabel i) defined = refl
reached_is P Q T (Unresolved i) defined = absurd (false≢true defined)
reached_is P Q T (OfRegister i) defined = absurd (false≢true defined)
reached_is P Q T Total defined = absurd (false≢true defined)

branch_address_is : (P : Laid) (Q : Placement) (a : ℕ) (y : Target) → is_defined y ≡ true
    → branch_address P Q a y ≡ (if is_direct P.program P.tree a y then address_of P.program Q y else entry_address P Q a y)
branch_address_is P Q a (InSection i) defined = refl
branch_address_is P Q a (AtLabel i) defined = refl
branch_address_is P Q a (Unresolved i) defined = absurd (false≢true defined)
branch_address_is P Q a (OfRegister i) defined = absurd (false≢true defined)
branch_address_is P Q a Total defined = absurd (false≢true defined)

direct_branch : (P : Laid) (Q : Placement) (a : ℕ) (y : Target) → is_defined y ≡ true → is_direct P.program P.tree a y ≡ true
    → branch_address P Q a y ≡ address_of P.program Q y
direct_branch P Q a y defined direct =
    branch_address_is P Q a y defined ∙ ap (λ b. if b then address_of P.program Q y else entry_address P Q a y) direct

pub entry_branch : (P : Laid) (Q : Placement) (a : ℕ) (y : Target) (has : HasEntry P a y) → is_defined y ≡ true → is_direct P.program P.tree a y ≡ false
    → branch_address P Q a y ≡ Q.entab has.table + 8 + 12 * has.place
entry_branch P Q a y has defined direct =
    branch_address_is P Q a y defined ∙ ap (λ b. if b then address_of P.program Q y else entry_address P Q a y) direct
    ∙ ap (λ o. Q.entab (unwrap_or o 0) + 8 + 12 * unwrap_or (position (target_eq y) (entries_of P (unwrap_or o 0))) 0) has.holds
    ∙ ap (λ k. Q.entab has.table + 8 + 12 * k) has.is

-- a call that goes directly to a resident segment is answered alike
pub direct_alike : (P : Laid) (Q : Placement) (n : ℕ) (m : Fetched) (S : State) (T : SymbolState) (a : ℕ) (y : Target) → Agrees P Q n S T
    → is_defined y ≡ true → is_direct P.program P.tree a y ≡ true → is_in (segment_of P.program y) T.resident ≡ true
    → table_with m S.storage (address_of P.program Q y) ≡ None → address_of P.program Q y < 16777216 → ReachesAlike P Q n m S T a y
direct_alike P Q n m S T a y agrees defined direct there none small = record {
  small = subst (λ v. v < 16777216) (sym address) small;
  answer =
      subst (λ v. AnswerAlike P Q n (called_at m S v (table_with m S.storage v)) (reached P Q T y)) (sym address)
      (subst (λ o. AnswerAlike P Q n (called_at m S (address_of P.program Q y) o) (reached P Q T y)) (sym none)
      (subst (AnswerAlike P Q n (Goes (Reached (address_of P.program Q y)) S))
      (sym (reached_is P Q T y defined
      ∙ ap (λ b. GoesBySymbols (Reached (address_of P.program Q y)) (if b then T else call_by_symbols P Q T (segment_of P.program y))) there))
      (refl, agrees)));
}
  where
    address : branch_address P Q a y ≡ address_of P.program Q y
    address = direct_branch P Q a y defined direct

-- ---- a member without overlay

no_tables : (P : Laid) (scatter : Bool) (n : ℕ) (Q : Placement) (m : Fetched) (M : Storage) (v : ℕ) → IsLinkable P → IsFetched P scatter n Q m
    → is_overlay P.tree ≡ false → table_with m M v ≡ None
no_tables P scatter n Q m M v link is plain =
    find_nothing (is_in_table v) (filter_map (table_of m M) (enumerate_from 1 m.facts.symbols))
    (each_filter_map (λ r. is_in_table v r ≡ false) (table_of m M) (enumerate_from 1 m.facts.symbols)
    (each_enumerated (λ x. (r : Range) → table_of m M x ≡ Some r → is_in_table v r ≡ false) 1 m.facts.symbols
    (λ k x there r told.
    by_place k x r told (get_split (map (part_symbol P) (parts P)) (after_parts P) k x (sym (ap (λ l. slice_get l k) (is.symbols ∙ symbols_are P)) ∙ there)))))
  where
    of_part : (k : ℕ) (p : Part) (r : Range) → IsPart P p → table_of m M (1 + k, part_symbol P p) ≡ Some r → is_in_table v r ≡ false
    of_part k SegmentTable r part told = absurd (none-some r told)
    of_part k (OneSection i) r part told =
        absurd (none_as _ _ r (ap (λ b. b && is_present m M (part_segment P (OneSection i))) (not_named P i link (section_within P i part))) told)
    of_part k (EntryTable s) r part told =
        absurd (nothing part.in_segment (entry_count P part.in_segment) (only part.in_segment part.low part.high) part.is.1)
      where
        only : (s : ℕ) → 1 ≤ s → s ≤ length P.tree → entry_count P s ≡ 0
        only s low high = ap (entry_count P) (one s (length P.tree) low high (ltb-false 1 (length P.tree) plain)) ∙ table_empty P link plain
          where
            one : (s n : ℕ) → 1 ≤ s → s ≤ n → n ≤ 1 → s ≡ 1
            one s n low high short = omega (arith, low, high, short)

        nothing : (s e : ℕ) → e ≡ 0 → 0 < e → ⊥
        nothing s e none some = omega (arith, none, some)

    by_place : (k : ℕ) (x : SymbolItem) (r : Range) → table_of m M (1 + k, x) ≡ Some r
        → (slice_get (map (part_symbol P) (parts P)) k ≡ Some x) ⊎ Has (after_parts P) x → is_in_table v r ≡ false
    by_place k x r told (inl there) =
        let made : Made (part_symbol P) (parts P) k x = made_at (part_symbol P) (parts P) k x there in
        of_part k made.source r (from-part P made.source (has-at (parts P) k made.source made.there)) (subst (λ y. table_of m M (1 + k, y) ≡ Some r) (sym made.is) told)
    by_place k x r told (inr behind) =
        absurd (none_as _ _ r (ap (λ b. b && is_present m M x.segment) (has-each (λ x. is_sd_named entry_table x ≡ false) (after_parts P) x (none_behind P) behind)) told)

pub plain_reaches : (P : Laid) (scatter : Bool) (n : ℕ) (Q : Placement) (m : Fetched) → IsLinkable P → IsFetched P scatter n Q m
    → is_overlay P.tree ≡ false → ((y : Target) → IsSymbolOf P.program y → is_defined y ≡ true → address_of P.program Q y < 16777216)
    → Reaches P Q n m
plain_reaches P scatter n Q m link is plain small S T i y agrees inside there symbol called =
    direct_alike P Q n m S T (segment_of_section P.program i) y agrees called.defined (all_direct P i y link plain inside symbol called.defined) resides
    (no_tables P scatter n Q m S.storage (address_of P.program Q y) link is plain) (small y symbol called.defined)
  where
    at : IsInSection P (symbols_written P) y
    at = is_in_section P y link symbol called.defined

    resides : is_in (segment_of P.program y) T.resident ≡ true
    resides = ap (λ s. is_in s T.resident) (home_segment P.program y called.defined ∙ segment_is P (home P.program y) link plain at.inside) ∙ agrees.resident.root
