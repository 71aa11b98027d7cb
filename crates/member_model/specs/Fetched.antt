-- A member whose sections have addresses, and its storage before any event. That a fetch of an overlay member brings in
-- the root alone follows GC28-6538; all else is this project's profile.
use Rattle.std.specs.Prelude.{ℕ, List}
use Rattle.pds_directory.specs.declared.entry.Entry.{Entry}
use Rattle.linking_model.specs.Run.{Storage}
use Rattle.member_model.specs.Facts.{Facts, no_facts, walked}
use Rattle.member_model.specs.Loaded.{Addresses, in_block, in_places, loaded, moved}

-- the facts are those of the head records and of segment 1; `at` is where the module begins, and counts for an
-- overlay member alone, which stands in one block
pub record Fetched : Type 0 where
  pub entry : Entry
  pub records : List (List ℕ)
  pub facts : Facts
  pub at : ℕ
  pub addresses : Addresses

-- in one block from an address on
abbrev pub fetched : Entry → List (List ℕ) → ℕ → Fetched
fetched e records at =
    let F = walked 1 no_facts records in
    record { entry = e; records = records; facts = F; at = at; addresses = in_block F.symbols at }

-- with its sections, in their order, at these addresses
abbrev pub fetched_over : Entry → List (List ℕ) → List ℕ → Fetched
fetched_over e records addresses =
    let F = walked 1 no_facts records in
    record { entry = e; records = records; facts = F; at = 0; addresses = in_places F.symbols addresses }

-- where it is entered
abbrev pub entry_address : Fetched → ℕ
entry_address m = moved m.facts.symbols m.addresses m.entry.entry_section m.entry.entry

-- what a fetch leaves in storage: segment 1, and 0 elsewhere
abbrev pub first_storage : Fetched → Storage
first_storage m = loaded m.facts m.addresses 1
