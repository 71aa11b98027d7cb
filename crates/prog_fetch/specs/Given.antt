-- What a fetch answers, by the definitions of a fetched member.
use Rattle.std.specs.Prelude.{◌≡◌, ℕ, ◌⊎◌, true, List, length, map, Option, Some, None, Result, Ok, Err}
use Rattle.le_bytes.specs.declared.record_what.RecWhat.{RecWhat}
use Rattle.le_bytes.specs.declared.record_what.RecWhat.TheVariants.{BadScatter}
use Rattle.pds_directory.specs.declared.entry.Entry.{Entry}
use Rattle.member_model.specs.Facts.{no_facts, walked}
use Rattle.member_model.specs.FirstBad.{fetch_bad}
use Rattle.member_model.specs.Fetched.{Fetched as Member, fetched, fetched_over, entry_address, first_storage}
use Rattle.member_model.specs.Placing.{is_origin, may_scatter}
use Rattle.fetch_places.specs.declared.placement.Placement.{Placement}
use Rattle.fetch_places.specs.declared.placement.Placement.TheVariants.{Block, Scattered}
use Rattle.fetch_places.specs.Addresses.{extents_by}
use Rattle.fetch_places.specs.Extents.{Fits}
use Rattle.fetch_storage.specs.Held.{part_in}
use Rattle.fetch_storage.specs.Shifts.{shifts_by}
use Rattle.prog_fetch.specs.declared.fault.FetchFault.{FetchFault}
use Rattle.prog_fetch.specs.declared.fault.FetchFault.TheVariants.{At, ReadFault, Memory}
use Rattle.prog_fetch.specs.declared.fetched.Fetched.{Fetched}
use Rattle.prog_fetch.specs.Sources.{AreOf}

-- the placement is one of the member: a block of its length, or addresses of a member that may be scattered
abbrev pub IsPlacementOf : Entry → Placement → Type 0
IsPlacementOf e (Block at size) = (size ≡ e.length) × (is_origin size at ≡ true)
IsPlacementOf e (Scattered addresses) = may_scatter e ≡ true

-- the member in storage
abbrev pub member_at : Entry → List (List ℕ) → Placement → Member
member_at e records (Block at size) = fetched e records at
member_at e records (Scattered addresses) = fetched_over e records addresses

-- what a fetch of it gives
unfoldable pub given : Entry → List (List ℕ) → Placement → Fetched
given e records p =
    let m = member_at e records p in
    record {
      parts = map (part_in (first_storage m)) (extents_by m.facts.symbols p);
      entry = entry_address m;
      items = m.facts.symbols;
      notes = m.facts.notes;
      shifts = shifts_by m.facts.symbols m.addresses;
      fields = map (λ x. x.item) m.facts.fields;
      records = length records;
    }

-- no record that a fetch reads has a fault, the sections fit, and the member is given
pub record IsFetched (e : Entry) (p : Placement) (records : List (List ℕ)) (f : Fetched) : Type 0 where
  pub good : fetch_bad e records ≡ None
  pub fits : Fits p (walked 1 no_facts records).symbols
  pub value : f ≡ given e records p

-- no record that a fetch reads has a fault, but the sections do not fit
pub record IsMisfit (e : Entry) (p : Placement) (records : List (List ℕ)) (number : ℕ) (what : RecWhat) : Type 0 where
  pub good : fetch_bad e records ≡ None
  pub unfit : Fits p (walked 1 no_facts records).symbols → ⊥
  pub at_none : number ≡ 0
  pub scatter : what ≡ BadScatter

-- the answer is that of the definitions for these records; a failed read and want of memory say nothing of them
abbrev pub Answers : Entry → Placement → List (List ℕ) → Result Fetched FetchFault → Type 0
Answers e p records (Ok f) = IsFetched e p records f
Answers e p records (Err (At number what)) = (fetch_bad e records ≡ Some (number, what)) ⊎ IsMisfit e p records number what
Answers e p records (Err ReadFault) = Unit {0}
Answers e p records (Err Memory) = Unit {0}

-- the answer is that for some records that the source may have, which are its own where it tells them
abbrev pub AnswersSome : Option (List (List ℕ)) → ℕ → Entry → Placement → Result Fetched FetchFault → Type 0
AnswersSome list total e p answer = (records : List (List ℕ)) × AreOf list total records × Answers e p records answer
