-- The entry tables of a written member in one block, read from storage: which table has an address, and what its
-- entries say (this project's profile).
use Rattle.std.specs.Prelude.{◌≡◌, ℕ, ◌+◌, ◌<◌, Bool, true, List, slice_index, Some, None, slice_get, ◌*◌}
use Rattle.pds_lib.specs.Stow.{main_entry}
use Rattle.sym_mod.specs.Sound.{IsSymbolOf}
use Rattle.sym_mod.specs.declared.program.Target.{Target}
use Rattle.linking_model.specs.Tree.{is_in}
use Rattle.linking_model.specs.TableBytes.{segtab_bytes, entab_bytes}
use Rattle.linking_model.specs.Places.{Laid, is_overlay, segtab_length, entab_length, entries_of, entry_count, module_length}
use Rattle.linking_model.specs.Tables.{is_defined, segment_of}
use Rattle.linking_model.specs.Linked.{Placement, block, address_of}
use Rattle.linking_model.specs.Run.{Storage}
use Rattle.member_model.specs.Fetched.{Fetched, fetched}
use Rattle.member_model.specs.Calling.{Range, number_in, is_in_table, table_with, is_entry}
use Rattle.member_model.specs.Placing.{is_origin}
use Rattle.member_model.specs.Written.{Naming, written_bytes, member_written}
use Rattle.member_laws.specs.Linkable.{IsLinkable, IsFormat}
use Rattle.run_laws.specs.Residents.{AreResident}

-- the segment table stands as it is linked, but for the status bytes, which say what is resident
pub record ReadsTable (P : Laid) (at : ℕ) (resident : List ℕ) (M : Storage) : Type 0 where
  pub bytes : (k : ℕ) → k < segtab_length P.tree → M (at + k) ≡ slice_index (segtab_bytes P.tree resident) k

-- the range of the entry table of segment s
abbrev pub table_range : Laid → Placement → ℕ → Range
table_range P Q s = record { at = Q.entab s; length = entab_length (entry_count P s) }

-- the member of the program, by its own name, in one block from an address on
abbrev pub member_at : Laid → Bool → ℕ → Naming → ℕ → Fetched
member_at P scatter n who at = fetched (main_entry (member_written P scatter n who)) (written_bytes P scatter n) at

-- of the addresses in the table of a resident segment that has entries, that table is found: at most one table has an
-- address
abbrev pub OneTableIsFound : Type 0
OneTableIsFound =
    (P : Laid) (scatter : Bool) (n : ℕ) (who : Naming) (at : ℕ) (resident : List ℕ) (M : Storage) (s v : ℕ) → IsLinkable P
    → IsFormat P scatter n → is_overlay P.tree ≡ true → AreResident P.tree resident → ReadsTable P at resident M
    → is_in s resident ≡ true → 0 < entry_count P s → is_in_table v (table_range P (block P at) s) ≡ true
    → table_with (member_at P scatter n who at) M v ≡ Some (table_range P (block P at) s)

-- the address of a section or label in a resident segment is in no table
abbrev pub DirectAddressesAreInNoTable : Type 0
DirectAddressesAreInNoTable =
    (P : Laid) (scatter : Bool) (n : ℕ) (who : Naming) (at : ℕ) (resident : List ℕ) (M : Storage) (y : Target) → IsLinkable P
    → IsFormat P scatter n → is_overlay P.tree ≡ true → AreResident P.tree resident → ReadsTable P at resident M
    → IsSymbolOf P.program y → is_defined y ≡ true → is_in (segment_of P.program y) resident ≡ true
    → table_with (member_at P scatter n who at) M (address_of P.program (block P at) y) ≡ None

-- the entry table of segment b stands as it is linked
pub record HoldsTable (P : Laid) (Q : Placement) (b : ℕ) (M : Storage) : Type 0 where
  pub bytes : (o : ℕ) → o < entab_length (entry_count P b) → M (Q.entab b + o) ≡ slice_index (entab_bytes P (address_of P.program Q) b) o

-- at an address stands an entry of the table of segment b, which tells the segment and the address of its symbol
pub record ReadsEntry (P : Laid) (Q : Placement) (m : Fetched) (b : ℕ) (y : Target) (M : Storage) (v : ℕ) : Type 0 where
  pub entry : is_entry m M v (table_range P Q b) ≡ true
  pub segment : M (v + 8) ≡ segment_of P.program y
  pub address : number_in M (v + 4) 4 ≡ address_of P.program Q y

-- entry k of a table is read back so
abbrev pub EntriesAreReadBack : Type 0
EntriesAreReadBack =
    (P : Laid) (scatter : Bool) (n : ℕ) (who : Naming) (at b k : ℕ) (y : Target) (M : Storage) → IsLinkable P → IsFormat P scatter n
    → is_origin (module_length P) at ≡ true → slice_get (entries_of P b) k ≡ Some y → HoldsTable P (block P at) b M
    → ReadsEntry P (block P at) (member_at P scatter n who at) b y M ((block P at).entab b + 8 + 12 * k)
