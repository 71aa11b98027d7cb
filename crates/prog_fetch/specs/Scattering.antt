-- What placing a member over areas answers, by the definitions of placing.
use Rattle.std.specs.Prelude.{◌≡◌, ℕ, ◌≤◌, Bool, true, false, not, List, [], ◌∷◌, ◌++◌, length, take, Option, Some, None, Result, Ok, Err}
use Rattle.std.specs.List.{list_all}
use Rattle.le_io.specs.Counts.{WhereTold, Rose}
use Rattle.pds_directory.specs.declared.entry.Entry.{Entry}
use Rattle.load_recs.specs.declared.items.SymbolItem.{SymbolItem}
use Rattle.member_model.specs.Facts.{facts}
use Rattle.member_model.specs.Placing.{may_scatter, sections_of, homeless, is_of_segment, heads, placing_bad}
use Rattle.member_walk.specs.Walked.{Walked, IsWalked}
use Rattle.fetch_places.specs.declared.placement.Area.{Area}
use Rattle.fetch_places.specs.declared.placement.Placement.{Placement}
use Rattle.fetch_places.specs.Extents.{Fits}
use Rattle.fetch_places.specs.Over.{left_of, IsOver}
use Rattle.prog_fetch.specs.declared.fault.ScatterFault.{ScatterFault}
use Rattle.prog_fetch.specs.declared.fault.ScatterFault.TheVariants.{NotScatter, Record, NoStorage, ReadFault, Memory}
use Rattle.prog_fetch.specs.Sources.{Seen, NothingFailed, AreOf}

-- the symbols before the first control or relocation record
abbrev pub head_symbols : List (List ℕ) → List SymbolItem
head_symbols records = (facts (heads records)).symbols

-- the member may be scattered, and no fault comes before want of storage
pub record IsPlaceable (e : Entry) (records : List (List ℕ)) : Type 0 where
  pub scatter : may_scatter e ≡ true
  pub right : placing_bad e records ≡ None

-- the answer is that of the definitions for these records; a failed read and want of memory say nothing of them
abbrev pub Places : Entry → List Area → List (List ℕ) → Result Placement ScatterFault → Type 0
Places e areas records (Ok p) =
    IsPlaceable e records × IsOver areas (head_symbols records) p × Fits p (head_symbols records)
Places e areas records (Err NotScatter) = may_scatter e ≡ false
Places e areas records (Err (Record number what)) = (may_scatter e ≡ true) × (placing_bad e records ≡ Some (number, what))
Places e areas records (Err (NoStorage name)) =
    IsPlaceable e records × (homeless (left_of areas) (sections_of (head_symbols records)) ≡ Some name)
Places e areas records (Err ReadFault) = Unit {0}
Places e areas records (Err Memory) = Unit {0}

-- the answer is that for some records that the source may have, which are its own where it tells them
abbrev pub PlacesSome : Option (List (List ℕ)) → ℕ → Entry → List Area → Result Placement ScatterFault → Type 0
PlacesSome list total e areas answer = (records : List (List ℕ)) × AreOf list total records × Places e areas records answer

-- a failed read comes only where the faults of the source rose, and any other answer leaves the counts
abbrev pub HasReason : {X : Type 0} → Seen → Seen → Result X ScatterFault → Type 0
HasReason old new (Err ReadFault) = Rose old.faults new.faults
HasReason old new _ = NothingFailed old new

-- ---- how far it has come

-- no record is one of a segment
abbrev pub are_heads : List (List ℕ) → Bool
are_heads records = list_all (λ b. not (is_of_segment b)) records

-- head records were read, the first of the source as far as it tells, and none has a fault
pub record IsHead (e : Entry) (list : Option (List (List ℕ))) (total : ℕ) (w : Walked) (records : List (List ℕ)) : Type 0 where
  pub walked : IsWalked e records w
  pub told : WhereTold list (λ all. records ≡ take (length records) all)
  pub few : length records ≤ total
  pub all_heads : are_heads records ≡ true

-- head records were read
abbrev pub HasHeads : Entry → Option (List (List ℕ)) → ℕ → Walked → Type 0
HasHeads e list total w = (records : List (List ℕ)) × IsHead e list total w records

-- any answer but that it goes on is that for some records that the source may have
abbrev pub PlacesNext : Option (List (List ℕ)) → ℕ → Entry → List Area → Result (Option Placement) ScatterFault → Type 0
PlacesNext list total e areas (Ok None) = Unit {0}
PlacesNext list total e areas (Ok (Some p)) = PlacesSome list total e areas (Ok p)
PlacesNext list total e areas (Err why) = PlacesSome list total e areas (Err why)

-- one more head record without a fault
pub record GoesOn (e : Entry) (bytes : List ℕ) (w w' : Walked) : Type 0 where
  pub head : is_of_segment bytes ≡ false
  pub walked : (records : List (List ℕ)) → IsWalked e records w → IsWalked e (records ++ bytes ∷ []) w'

-- the answer is that of any records which have this one after the head records that were walked
abbrev pub PlacesAt : Entry → List Area → List ℕ → Walked → Result Placement ScatterFault → Type 0
PlacesAt e areas bytes w answer =
    (records rest : List (List ℕ)) → IsWalked e records w → are_heads records ≡ true → Places e areas (records ++ bytes ∷ rest) answer

-- so is any answer but that it goes on
abbrev pub AnswersNext : Entry → List Area → List ℕ → Walked → Result (Option Placement) ScatterFault → Type 0
AnswersNext e areas bytes w (Ok None) = Unit {0}
AnswersNext e areas bytes w (Ok (Some p)) = PlacesAt e areas bytes w (Ok p)
AnswersNext e areas bytes w (Err why) = PlacesAt e areas bytes w (Err why)

-- the symbols are placed over the areas, or the first section that fits in none of them has the name
abbrev pub PlacedOver : List Area → List SymbolItem → Result Placement ScatterFault → Type 0
PlacedOver areas symbols (Ok p) = IsOver areas symbols p × Fits p symbols
PlacedOver areas symbols (Err (NoStorage name)) = homeless (left_of areas) (sections_of symbols) ≡ Some name
PlacedOver areas symbols (Err Memory) = Unit {0}
PlacedOver areas symbols (Err NotScatter) = ⊥
PlacedOver areas symbols (Err (Record number what)) = ⊥
PlacedOver areas symbols (Err ReadFault) = ⊥
