-- A member goes into a library of load modules.
use Rattle.std.specs.Prelude.{◌≡◌, ℕ, ◌<◌, ◌^◌, Bool, true, false, not, ◌&&◌, ◌||◌, nat_lt, if◌then◌else◌, List, [], ◌∷◌, length, map, filter, insert, Result, Ok, Err}
use Rattle.std.specs.List.{list_any, AllByRecursion}
use Rattle.le_bytes.specs.declared.name.Name.{Name}
use Rattle.le_bytes.specs.Names.{name_eq}
use Rattle.pds_directory.specs.declared.kinds.LibKind.TheVariants.{Modules}
use Rattle.pds_directory.specs.declared.entry.Entry.{Entry}
use Rattle.pds_lib.specs.declared.member.AliasAt.{AliasAt}
use Rattle.pds_lib.specs.declared.member.Member.{Member}
use Rattle.pds_lib.specs.declared.member.StowFault.{StowFault}
use Rattle.pds_lib.specs.declared.member.StowFault.TheVariants.{Exists, TooManyRecords, Memory}
use Rattle.pds_directory.specs.Header.{most_records}
use Rattle.pds_directory.specs.Order.{place_of}
use Rattle.pds_lib.specs.Contents.{Held, held_name, Contents, record_count}

-- the member's name or one of its alias names
abbrev pub is_named : Member → Name → Bool
is_named m n = name_eq n m.name || list_any (λ (a : AliasAt). name_eq n a.name) m.aliases

-- what a member takes the place of: the main entry of its name with all aliases of that, an alias entry
-- of its name, and alias entries of its alias names
abbrev pub goes : Member → Entry → Bool
goes m e = name_eq e.main m.name || (e.alias && is_named m e.name)

-- without replace every entry stays
abbrev pub stays : Member → Bool → Entry → Bool
stays m replace e = not (replace && goes m e)

-- an alias has the member's attribute and length, and an entry point of its own
abbrev pub entry_with : Member → Name → Bool → ℕ → ℕ → Entry
entry_with m name alias entry section =
    record { name = name; main = m.name; alias = alias; attr = m.attr; length = m.length; entry = entry; entry_section = section }

-- a member's own entry
abbrev pub main_entry : Member → Entry
main_entry m = entry_with m m.name false m.entry m.entry_section

-- the entry of one of its aliases
abbrev pub alias_entry : Member → AliasAt → Entry
alias_entry m a = entry_with m a.name true a.entry a.entry_section

-- the entries of a member: its own, and then its aliases in their order
abbrev pub entries_for : Member → List Entry
entries_for m = main_entry m ∷ map (alias_entry m) m.aliases

-- names are eight bytes, and two bytes count sections
abbrev pub HasWidths : Entry → Type 0
HasWidths e = (length e.name.0 ≡ 8) × (length e.main.0 ≡ 8) × (e.entry_section < 2 ^ 16)

-- one of these has the name
abbrev pub has_name : {X : Type 0} → (X → Name) → List X → Name → Bool
has_name name xs n = list_any (λ x. name_eq (name x) n) xs

-- one more goes in at the place of its name
abbrev pub put_in : {X : Type 0} → (X → Name) → List X → X → List X
put_in name xs x = insert xs (place_of name xs (name x)) x

-- what is made of each entry goes in, unless its name is there
unfoldable pub put_all : {X : Type 0} → (X → Name) → (Entry → X) → List X → List Entry → Result (List X) StowFault
put_all name made xs [] = Ok xs
put_all name made xs (e ∷ es) =
    if has_name name xs e.name then Err (Exists e.name) else put_all name made (put_in name xs (made e)) es

-- an entry of a member
abbrev pub held_for : List (List ℕ) → Entry → Held
held_for records e = record { entry = e; user_data = []; records = records }

-- no more records, with those that end members, than three bytes count
abbrev pub counted : Contents → Result (List Held) StowFault → Result Contents StowFault
counted lib (Err f) = Err f
counted lib (Ok hs) = if nat_lt most_records (record_count hs) then Err (TooManyRecords (record_count hs)) else Ok (record lib { members = hs })

-- the members that stay
abbrev pub kept : Contents → Member → Bool → List Held
kept lib m replace = filter (λ (h : Held). stays m replace h.entry) lib.members

-- the library with the member, or the fault
abbrev pub stowed : Contents → Member → Bool → Result Contents StowFault
stowed lib m replace = counted lib (put_all held_name (held_for m.records) (kept lib m replace) (entries_for m))

-- what a stow answered and left
abbrev pub Stows : Contents → Member → Bool → Result (Unit {0}) StowFault → Contents → Type 0
Stows old m replace (Ok done) new = stowed old m replace ≡ Ok new
Stows old m replace (Err Memory) new = new ≡ old
Stows old m replace (Err (Exists n)) new = (stowed old m replace ≡ Err (Exists n)) × (new ≡ old)
Stows old m replace (Err (TooManyRecords n)) new = (stowed old m replace ≡ Err (TooManyRecords n)) × (new ≡ old)

-- the eight X'FF' that end a directory are no name of a member
abbrev pub last_name : Name
last_name = record { 0 = 255 ∷ 255 ∷ 255 ∷ 255 ∷ 255 ∷ 255 ∷ 255 ∷ 255 ∷ [] }

-- the library is one of load modules, and name, addresses and records of the member can be written
pub record MayStow (lib : Contents) (m : Member) : Type 0 where
  pub kind : lib.kind ≡ Modules
  pub records : AllByRecursion (λ (r : List ℕ). (0 < length r) × (length r < 2 ^ 16)) m.records
  pub not_last : is_named m last_name ≡ false
  pub length : m.length < 2 ^ 24
  pub entry : m.entry < 2 ^ 24
  pub entries : AllByRecursion (λ (a : AliasAt). a.entry < 2 ^ 24) m.aliases
