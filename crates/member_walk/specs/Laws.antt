-- What a user of walks expects of them, for all members.
use Rattle.std.specs.Prelude.{◌≡◌, ℕ, Bool, true, false, List, [], ◌∷◌, ◌++◌, Some}
use Rattle.le_bytes.specs.declared.record_what.RecWhat.{RecWhat}
use Rattle.pds_directory.specs.declared.entry.Entry.{Entry}
use Rattle.member_model.specs.Facts.{facts, no_facts}
use Rattle.member_model.specs.FirstBad.{first_bad_of, first_bad, root_part, fetch_bad}
use Rattle.member_walk.specs.Walked.{Walked, IsWalked}
use Rattle.member_walk.specs.Told.{text_told, texts_of, IsFirstFault, is_fetched_on, is_fetched_whole}
use Rattle.member_walk.specs.declared.faults.WalkFault.TheVariants.{At}

-- a record adds the text that is told of it, and no other record adds text
abbrev pub TextsAreTold : Type 0
TextsAreTold = (e : Entry) (records : List (List ℕ)) (bytes : List ℕ) (w : Walked) → IsWalked e records w
    → (facts (records ++ bytes ∷ [])).texts ≡ (facts records).texts ++ texts_of (text_told w) bytes

-- a member that was walked whole is judged by whether its module has ended
abbrev pub WholeMembersEnd : Type 0
WholeMembersEnd = (e : Entry) (records : List (List ℕ)) (w : Walked) → IsWalked e records w
    → first_bad e records ≡ first_bad_of e records w.facts.ended

-- a fetch reads the records for as long as the walk says
abbrev pub FetchReads : Type 0
FetchReads = (e : Entry) (records rest : List (List ℕ)) (w : Walked) → IsWalked e records w → (w.facts.segment ≡ 1)
    → root_part no_facts (records ++ rest) ≡ records ++ root_part (facts records) rest

-- a fault that the walk meets while a fetch reads on is the first that the fetch meets
abbrev pub FetchMeetsFaults : Type 0
FetchMeetsFaults = (e : Entry) (records rest : List (List ℕ)) (bytes : List ℕ) (w : Walked) (number : ℕ) (what : RecWhat)
    → IsWalked e records w → is_fetched_on e w ≡ true → IsFirstFault e w bytes (At number what)
    → fetch_bad e (records ++ bytes ∷ rest) ≡ Some (number, what)

-- the records run out while a fetch reads on
abbrev pub FetchRunsOut : Type 0
FetchRunsOut = (e : Entry) (records : List (List ℕ)) (w : Walked) → IsWalked e records w → is_fetched_on e w ≡ true
    → fetch_bad e records ≡ first_bad_of e records (is_fetched_whole e w)

-- a record ends segment 1 of an overlay member: a fetch reads no further
abbrev pub FetchEnds : Type 0
FetchEnds = (e : Entry) (records rest : List (List ℕ)) (bytes : List ℕ) (w next : Walked)
    → IsWalked e records w → is_fetched_on e w ≡ true
    → IsWalked e (records ++ bytes ∷ []) next → is_fetched_on e next ≡ false
    → (root_part no_facts (records ++ bytes ∷ rest) ≡ records ++ bytes ∷ [])
    × (fetch_bad e (records ++ bytes ∷ rest) ≡ first_bad_of e (records ++ bytes ∷ []) (is_fetched_whole e next))
