-- Each entry of a table of a written member is read back, wherever the member stands in one block.
use Rattle.std.proofs.Common.{◌≡◌, ℕ, ◌+◌, ◌^◌, ◌<◌, ◌≤◌, ◌==◌, List, [], length, Option, Some, None, slice_get, refl, sym, subst, arith}
use Rattle.std.specs.Prelude.{nat_le, ◌%◌, ◌-◌}
use Rattle.std.specs.Option.{option_map_or}
use Rattle.std.proofs.lemmas.Bool.{and_parts, leb-true}
use Rattle.std.proofs.lemmas.Option.{slice_get_within}
use Rattle.sym_mod.specs.declared.program.Target.{Target}
use Rattle.pds_lib.specs.Stow.{main_entry}
use Rattle.linking_model.specs.Places.{Laid, place, segment_of_section, entries_of, entry_count, module_length}
use Rattle.linking_model.specs.Tables.{segment_of}
use Rattle.linking_model.specs.Linked.{block, address_of}
use Rattle.member_model.specs.Segments.{count}
use Rattle.member_model.specs.Written.{member_written}
use Rattle.member_laws.specs.Linkable.{IsLinkable}
use Rattle.member_laws.proofs.LoadingTables.{IsKnown, table_known, each_got}
use Rattle.member_laws.proofs.LoadingTargets.{Found, of_all, home, away, IsInSection, is_in_section}
use Rattle.member_laws.proofs.SymbolsWritten.{place-within}
use Rattle.run_laws.specs.EntryTables.{EntriesAreReadBack, member_at}
use Rattle.run_laws.proofs.FetchedMembers.{fetched_in_block, count_is}
use Rattle.run_laws.proofs.FoundTables.{stands_in, home_segment}
use Rattle.run_laws.proofs.ItemsOfConstants.{in_tree}
use Rattle.run_laws.proofs.ReadEntries.{entry_byte, entry_address_read, entry_is_read}

few_entries : (P : Laid) (b : ℕ) → IsLinkable P → entry_count P b ≤ 340
few_entries P b link = by_cases (slice_get P.entries (b - 1)) refl
  where
    by_cases : (o : Option (List Target)) → slice_get P.entries (b - 1) ≡ o → length (option_map_or (λ x. x) o []) ≤ 340
    by_cases None none = omega arith
    by_cases (Some ys) found = of_all (λ (x : List Target). length x ≤ 340) P.entries _ ys link.few_entries found

fits_word : (at a l : ℕ) → at + l ≤ 16777215 → a ≤ at + l → a < 256 ^ 4
fits_word at a l high within = omega (arith, high, within)

pub entries_are_read_back : EntriesAreReadBack
entries_are_read_back P scatter n who at b k y M link format origin found holds =
    let known : IsKnown P.program y = each_got (IsKnown P.program) (entries_of P b) k y (table_known P b link) found in
    let low : k < entry_count P b = slice_get_within (entries_of P b) k y found in
    let in_section : IsInSection P _ y = is_in_section P y link known.symbol known.defined in
    let stands : Found P.program.sections (home P.program y) (λ x. away P.program y ≤ x.length) = stands_in P y link known.symbol known.defined in
    let bounds = in_tree P (home P.program y) link in_section.inside in
    let here : segment_of P.program y ≡ segment_of_section P.program (home P.program y) = home_segment P.program y known.defined in
    let counted : count (member_at P scatter n who at) ≡ length P.tree =
    count_is P scatter n (block P at) _ link (fetched_in_block P scatter n (main_entry (member_written P scatter n who)) at link format (record { attr = refl; length = refl })) in
    let within : place P (home P.program y) + away P.program y ≤ module_length P =
    place-within P (home P.program y) (away P.program y) stands.item link stands.found stands.holds in
    let room : at + module_length P ≤ 16777215 = leb-true (at + module_length P) 16777215 (and_parts (at % 8 == 0) (nat_le (at + module_length P) 16777215) origin).1 in
    let address : address_of P.program (block P at) y ≡ at + place P (home P.program y) + away P.program y = in_section.address (block P at) in
    record {
      entry =
          entry_is_read P (member_at P scatter n who at) (address_of P.program (block P at)) b ((block P at).entab b) k y M holds.bytes found low
          (few_entries P b link) (subst (λ s. 1 ≤ s) (sym here) bounds.0)
          (subst (λ c. segment_of P.program y ≤ c) (sym counted) (subst (λ s. s ≤ length P.tree) (sym here) bounds.1));
      segment = entry_byte P (address_of P.program (block P at)) b ((block P at).entab b) k 8 y M holds.bytes found low (omega arith);
      address =
          entry_address_read P (address_of P.program (block P at)) b ((block P at).entab b) k y M holds.bytes found low
          (fits_word at (address_of P.program (block P at) y) (module_length P) room
          (subst (λ a. a ≤ at + module_length P) (sym address) (inside at (place P (home P.program y)) (away P.program y) (module_length P) within)));
    }
  where
    inside : (at p o l : ℕ) → p + o ≤ l → at + p + o ≤ at + l
    inside at p o l within = omega (arith, within)
