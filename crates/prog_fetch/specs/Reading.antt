-- How far a fetch has come with the records of a source.
use Rattle.std.specs.Prelude.{◌≡◌, ℕ, ◌≤◌, ◌⊎◌, false, List, [], ◌∷◌, ◌++◌, length, take, Option, Some, None, Result, Ok, Err}
use Rattle.le_bytes.specs.declared.record_what.RecWhat.TheVariants.{BadScatter}
use Rattle.le_io.specs.Counts.{WhereTold}
use Rattle.pds_directory.specs.declared.entry.Entry.{Entry}
use Rattle.member_model.specs.Facts.{Facts, facts, no_facts, walked}
use Rattle.member_model.specs.FirstBad.{first_bad_of, root_part, fetch_bad}
use Rattle.member_model.specs.Loaded.{text_storage}
use Rattle.member_walk.specs.Walked.{Walked, IsWalked}
use Rattle.member_walk.specs.Told.{IsFirstFault, is_fetched_on, is_fetched_whole}
use Rattle.member_walk.specs.declared.faults.WalkFault.TheVariants.{At as AtRecord}
use Rattle.fetch_places.specs.declared.placement.Placement.{Placement}
use Rattle.fetch_places.specs.Addresses.{addresses_by}
use Rattle.fetch_places.specs.Extents.{Fits}
use Rattle.fetch_storage.specs.Held.{Sized, holding}
use Rattle.fetch_storage.specs.Kept.{Kept}
use Rattle.prog_fetch.specs.declared.fault.FetchFault.{FetchFault}
use Rattle.prog_fetch.specs.declared.fault.FetchFault.TheVariants.{At, ReadFault, Memory}
use Rattle.prog_fetch.specs.declared.fetched.Fetched.{Fetched}
use Rattle.prog_fetch.specs.Given.{Answers, given}
use Rattle.prog_fetch.specs.Sources.{AreOf}

-- the record shows this fault after the records that were walked
abbrev pub ShowsFault : Entry → Walked → List ℕ → FetchFault → Type 0
ShowsFault e w bytes (At number what) = IsFirstFault e w bytes (AtRecord number what)
ShowsFault e w bytes ReadFault = ⊥
ShowsFault e w bytes Memory = Unit {0}

-- whatever comes after the records, a fetch reads these and no others
pub record IsPart (e : Entry) (records : List (List ℕ)) (w : Walked) : Type 0 where
  pub root : (rest : List (List ℕ)) → root_part no_facts (records ++ rest) ≡ records
  pub bad : (rest : List (List ℕ)) → fetch_bad e (records ++ rest) ≡ first_bad_of e records (is_fetched_whole e w)

-- the walk has read these records, the first of the source as far as it tells, and none has a fault
pub record IsRead (e : Entry) (list : Option (List (List ℕ))) (total : ℕ) (w : Walked) (records : List (List ℕ)) : Type 0 where
  pub walked : IsWalked e records w
  pub told : WhereTold list (λ all. records ≡ take (length records) all)
  pub few : length records ≤ total
  pub root : root_part no_facts records ≡ records
  pub part : is_fetched_on e w ≡ false → IsPart e records w

-- a fetch reads no more records
abbrev pub IsOver : Entry → ℕ → Walked → Type 0
IsOver e total w = (is_fetched_on e w ≡ false) ⊎ (w.number ≡ total)

-- records were read of which none is text
abbrev pub HasHead : Entry → Option (List (List ℕ)) → ℕ → Walked → Type 0
HasHead e list total w = (records : List (List ℕ)) × IsRead e list total w records × ((facts records).texts ≡ [])

-- the parts have all text of these facts, where the sections fit
pub record IsLaid (p : Placement) (F : Facts) (kept : Kept) : Type 0 where
  pub sized : Sized F.symbols p kept
  pub holds : Fits p F.symbols → kept ≡ holding F.symbols p (text_storage F (addresses_by F.symbols p) 1)

-- the records that were walked are those of segment 1 alone, and their text is laid
abbrev pub IsLaidOf : Entry → Placement → Walked → Kept → Type 0
IsLaidOf e p w kept =
    (records : List (List ℕ)) × IsWalked e records w × (root_part no_facts records ≡ records) × IsLaid p (facts records) kept

-- one more record, whose text is laid
abbrev pub LaysNext : Entry → Placement → List ℕ → Walked → Kept → Walked → Kept → Type 0
LaysNext e p bytes w kept w' kept' =
    (records : List (List ℕ)) → IsWalked e records w → root_part no_facts records ≡ records → IsLaid p (facts records) kept
    → IsWalked e (records ++ bytes ∷ []) w' × IsLaid p (facts (records ++ bytes ∷ [])) kept'

-- records were read, and their text is laid; the records of segments have begun
abbrev pub HasText : Entry → Option (List (List ℕ)) → ℕ → Placement → Walked → Kept → Type 0
HasText e list total p w kept =
    (records : List (List ℕ)) × IsRead e list total w records × IsLaid p (facts records) kept × (4 ≤ w.facts.stage)

-- all records that a fetch reads were read, and their text is laid
abbrev pub HasAll : Entry → Option (List (List ℕ)) → ℕ → Placement → Walked → Kept → Type 0
HasAll e list total p w kept =
    (records : List (List ℕ)) × IsRead e list total w records × IsLaid p (facts records) kept × IsOver e total w

-- the records that were walked are all that a fetch reads of these, and give their first fault and their facts
pub record Completes (e : Entry) (w : Walked) (records all : List (List ℕ)) : Type 0 where
  pub bad : fetch_bad e all ≡ first_bad_of e records (is_fetched_whole e w)
  pub walked : walked 1 no_facts all ≡ facts records

-- the answer is that of any records that those which were walked complete
abbrev pub AnswersAll : Entry → Placement → Walked → Kept → ℕ → Result Fetched FetchFault → Type 0
AnswersAll e p w kept count answer =
    (records all : List (List ℕ)) → IsWalked e records w → root_part no_facts records ≡ records → IsLaid p (facts records) kept
    → Completes e w records all → length all ≡ count → Answers e p all answer

-- no fault is left once no record comes any more
abbrev pub IsGood : Entry → Walked → Type 0
IsGood e w = (records : List (List ℕ)) → IsWalked e records w → first_bad_of e records (is_fetched_whole e w) ≡ None

-- the first fault that is left then
abbrev pub EndsWith : {A : Type 0} → Entry → Walked → Result A FetchFault → Type 0
EndsWith e w (Ok _) = IsGood e w
EndsWith e w (Err (At number what)) =
    (records : List (List ℕ)) → IsWalked e records w → first_bad_of e records (is_fetched_whole e w) ≡ Some (number, what)
EndsWith e w (Err ReadFault) = ⊥
EndsWith e w (Err Memory) = ⊥

-- the sections fit where they are placed
abbrev pub SectionsFit : {A : Type 0} → Placement → Walked → Result A FetchFault → Type 0
SectionsFit p w (Ok _) = Fits p w.facts.symbols
SectionsFit p w (Err (At number what)) = (Fits p w.facts.symbols → ⊥) × (number ≡ 0) × (what ≡ BadScatter)
SectionsFit p w (Err ReadFault) = ⊥
SectionsFit p w (Err Memory) = Unit {0}

-- the member that any records give which those that were walked complete
abbrev pub Gives : Entry → Placement → Walked → Kept → ℕ → Fetched → Type 0
Gives e p w kept count f =
    (records all : List (List ℕ)) → IsWalked e records w → root_part no_facts records ≡ records → IsLaid p (facts records) kept
    → Completes e w records all → length all ≡ count → f ≡ given e all p

-- the fault is the first that a fetch meets in some records that the source may have
abbrev pub FindsFault : Option (List (List ℕ)) → ℕ → Entry → FetchFault → Type 0
FindsFault list total e (At number what) =
    (records : List (List ℕ)) × AreOf list total records × (fetch_bad e records ≡ Some (number, what))
FindsFault list total e ReadFault = Unit {0}
FindsFault list total e Memory = Unit {0}
