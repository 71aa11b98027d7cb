-- At the start the byte run of a written member agrees with the symbolic run of its program.
use Rattle.std.proofs.Common.{ℕ, ◌+◌, Bool, [], ◌∷◌, flat_map, refl, sym, ◌∙◌, subst, arith}
use Rattle.pds_lib.specs.Stow.{main_entry}
use Rattle.linking_model.specs.Places.{Laid}
use Rattle.linking_model.specs.Linked.{Placement, block}
use Rattle.linking_model.specs.Run.{start as start_linked}
use Rattle.linking_model.proofs.Origins.{only_one}
use Rattle.member_model.specs.Fetched.{Fetched}
use Rattle.member_model.specs.ByteRun.{start}
use Rattle.member_model.specs.Parts.{OneSection, EntryTable, parts_in}
use Rattle.member_model.specs.Written.{member_written}
use Rattle.member_laws.specs.Linkable.{IsLinkable}
use Rattle.member_laws.specs.Gathered.{items_of, fields_in}
use Rattle.member_laws.proofs.Gathering.{tree-some}
use Rattle.member_laws.proofs.Standing.{IsPartOf}
use Rattle.run_laws.specs.Agreement.{IsHeld, Agrees}
use Rattle.run_laws.specs.Bringing.{RunsBeginAlike}
use Rattle.run_laws.specs.Fields.{HoldsFields}
use Rattle.run_laws.specs.Residents.{AreResident}
use Rattle.run_laws.proofs.BroughtFields.{all_of, written_in}
use Rattle.run_laws.proofs.FetchedMembers.{IsFetched, fetched_in_block}
use Rattle.run_laws.proofs.PartBytes.{KeepsApart, block_keeps_apart, part_linked}
use Rattle.run_laws.proofs.ResidentPaths.{root_is_resident}
use Rattle.run_laws.proofs.Starting.{first_reads}
use Rattle.run_laws.proofs.StoredBytes.{section_part}
use Rattle.run_laws.proofs.TouchedConstants.{constant_within}

first_fields : (P : Laid) (n : ℕ) → IsLinkable P → HoldsFields P n 1 (fields_in P n 1)
first_fields P n link = record {
  written = written_in P n 1 (omega arith) (tree-some P.tree link.tree);
  own = all_of 1 1 (flat_map (items_of P n) (parts_in P 1)) refl;
}

pub begin_alike : (P : Laid) (scatter : Bool) (n : ℕ) (Q : Placement) (m : Fetched) → IsLinkable P → KeepsApart P Q → IsFetched P scatter n Q m
    → Agrees P Q n (start m) (start_linked P Q)
begin_alike P scatter n Q m link keeps is = record {
  resident = are;
  storage = is.storage;
  table = λ over. first_reads P scatter n Q m is over;
  held = λ s there. subst (λ k. IsHeld P Q n k (start m)) (sym (only_one s 1 there)) held;
}
  where
    are : AreResident P.tree (1 ∷ [])
    are = root_is_resident P.tree link.tree

    held : IsHeld P Q n 1 (start m)
    held = record {
      constants = record {
        bytes = λ i o inside here some.
            is.storage (Q.section i + o)
            ∙ part_linked P Q (1 ∷ []) 1 (OneSection i) o keeps are refl (subst (λ r. IsPartOf P r (OneSection i)) here (section_part P i inside)) (constant_within P i o link some);
      };
      table = λ entries. record { bytes = λ o low. is.storage (Q.entab 1 + o) ∙ part_linked P Q (1 ∷ []) 1 (EntryTable 1) o keeps are refl (refl, entries) low };
      fields = subst (HoldsFields P n 1) (sym is.fields) (first_fields P n link);
    }

pub runs_begin_alike : RunsBeginAlike
runs_begin_alike P scatter n who at link format =
    begin_alike P scatter n (block P at) _ link (block_keeps_apart P at link)
    (fetched_in_block P scatter n (main_entry (member_written P scatter n who)) at link format (record { attr = refl; length = refl }))
