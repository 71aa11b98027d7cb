-- The laws of starting, for written members in all their placements.
use Rattle.std.proofs.Common.{◌≡◌, ℕ, ◌+◌, ◌≤◌, ◌<◌, Bool, length, refl, sym, ap, ◌∙◌, subst, arith}
use Rattle.std.specs.List.{AllByRecursion as Each}
use Rattle.pds_directory.specs.declared.entry.Entry.{Entry}
use Rattle.pds_lib.specs.Stow.{alias_entry, entries_for}
use Rattle.load_recs.specs.declared.items.NoteItem.{NoteItem}
use Rattle.linking_model.specs.Places.{Laid, module_length}
use Rattle.linking_model.specs.Linked.{block}
use Rattle.member_model.specs.Fetched.{Fetched, fetched}
use Rattle.member_model.specs.Segments.{note}
use Rattle.member_model.specs.Written.{Naming, attribute, alias_of, written_bytes, member_written}
use Rattle.member_laws.specs.Gathered.{records_before}
use Rattle.member_laws.proofs.LoadingLists.{each_always, each_map}
use Rattle.member_laws.proofs.SymbolsFine.{Describes, is-overlay}
use Rattle.run_laws.specs.Starts.{Starts, GrownMembersStart, NotesAreExact}
use Rattle.run_laws.proofs.FetchedMembers.{IsFetched, fetched_in_block, note_is, first_is, first_within}
use Rattle.run_laws.proofs.Starting.{starts, plain_starts}

-- what holds of every entry that tells the attribute and the length of the member
pub each_entry : (Q : Entry → Type 0) (P : Laid) (scatter : Bool) (n : ℕ) (who : Naming) → ((e : Entry) → Describes P scatter e → Q e)
    → Each Q (entries_for (member_written P scatter n who))
each_entry Q P scatter n who holds =
    let m = member_written P scatter n who in (
      holds _ (record { attr = refl; length = refl }),
      each_map Q (alias_entry m) m.aliases
          (each_map (λ a. Q (alias_entry m a)) (alias_of P) who.aliases
          (each_always _ who.aliases (λ z. holds _ (record { attr = refl; length = refl })))),
    )

pub grown_members_start : GrownMembersStart
grown_members_start P scatter n who link grown format few =
    each_entry (Starts P scatter n) P scatter n who (λ e describes. record {
      together = λ at. starts P scatter n (block P at) _ link format grown (fetched_in_block P scatter n e at link format describes) few;
      apart = λ plain addresses. plain_starts _ (is-overlay P scatter e describes ∙ plain);
    })

pub notes_are_exact : NotesAreExact
notes_are_exact P scatter n e at s link format over few low high =
    let first : (note m s).first ≡ records_before P scatter n s + 1 = first_is P scatter n (block P at) m s link format is over few low high in
    record {
      first = first;
      there = subst (λ k. k ≤ length (written_bytes P scatter n)) (sym first) (next _ _ (first_within P scatter n s link format low high));
      origin = ap (λ (x : NoteItem). x.origin) (note_is P scatter n (block P at) m s link format is over low high);
      length = ap (λ (x : NoteItem). x.length) (note_is P scatter n (block P at) m s link format is over low high);
    }
  where
    m : Fetched
    m = fetched (record e { attr = attribute P scatter; length = module_length P }) (written_bytes P scatter n) at

    is : IsFetched P scatter n (block P at) m
    is = fetched_in_block P scatter n _ at link format (record { attr = refl; length = refl })

    next : (a b : ℕ) → a < b → a + 1 ≤ b
    next a b low = omega arith
