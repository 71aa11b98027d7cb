-- What a reading of the records of a member answers.
use Rattle.std.specs.Prelude.{◌≡◌, ℕ, List, [], ◌∷◌, ◌++◌, map, Some, Result, Ok, Err}
use Rattle.sym_mod.specs.declared.module.SymModule.{SymModule}
use Rattle.pds_directory.specs.declared.entry.Entry.{Entry}
use Rattle.member_model.specs.Facts.{facts}
use Rattle.member_model.specs.FirstBad.{first_bad, IsGood}
use Rattle.member_model.specs.ReadBack.{module_of}
use Rattle.member_walk.specs.Walked.{Walked, IsWalked}
use Rattle.member_walk.specs.Told.{IsFirstFault}
use Rattle.member_walk.specs.declared.faults.WalkFault.TheVariants.{At as AtRecord}
use Rattle.mod_read.specs.declared.fault.ModFault.{ModFault}
use Rattle.mod_read.specs.declared.fault.ModFault.TheVariants.{At, Memory}
use Rattle.mod_read.specs.declared.fragments.LoadedText.{LoadedText}
use Rattle.mod_read.specs.Gathered.{text_of}
use Rattle.mod_read.specs.Judged.{AreRecords}

-- the records were walked without a fault, and these are their texts
pub record HasRead (e : Entry) (records : List (List ℕ)) (w : Walked) (texts : List LoadedText) : Type 0 where
  pub walked : IsWalked e records w
  pub told : map text_of texts ≡ (facts records).texts
  pub bytes : AreRecords records

-- the record has no fault after those that were walked, and its text is added
abbrev pub ReadsOn : Entry → List ℕ → Walked → List LoadedText → Walked → List LoadedText → Type 0
ReadsOn e bytes w texts next more =
    (records : List (List ℕ)) → HasRead e records w texts → HasRead e (records ++ bytes ∷ []) next more

-- the record shows this fault after the records that were walked
abbrev pub ShowsFault : Entry → Walked → List ℕ → ModFault → Type 0
ShowsFault e w bytes (At number what) = IsFirstFault e w bytes (AtRecord number what)
ShowsFault e w bytes Memory = Unit {0}

-- the fault is the first of the member
abbrev pub FindsFault : Entry → List (List ℕ) → ModFault → Type 0
FindsFault e records (At number what) = first_bad e records ≡ Some (number, what)
FindsFault e records Memory = Unit {0}

-- no fault is left once no record comes any more, or the first that is
abbrev pub EndsWith : {A : Type 0} → Entry → Walked → Result A ModFault → Type 0
EndsWith e w (Ok _) = (records : List (List ℕ)) → IsWalked e records w → IsGood e records
EndsWith e w (Err fault) = (records : List (List ℕ)) → IsWalked e records w → FindsFault e records fault

-- the module of a good member, or the first fault of another
abbrev pub Answers : Entry → List (List ℕ) → Result SymModule ModFault → Type 0
Answers e records (Ok made) = IsGood e records × (made ≡ module_of e records)
Answers e records (Err fault) = FindsFault e records fault
