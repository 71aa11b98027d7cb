-- A walk with the texts of its records, one record after the other.
use Rattle.std.proofs.Common.{◌≡◌, ℕ, suc, ◌+◌, Bool, List, [], ◌∷◌, ◌++◌, map, take, drop, slice_get, Result, Ok, Err, OnOk, IfErr, Option, Some, None, refl, sym, ap, subst, ◌∙◌}
use Rattle.std.proofs.lemmas.List.{map_push, append-nil}
use Rattle.sym_mod.specs.declared.module.SymModule.{SymModule}
use Rattle.pds_directory.specs.declared.entry.Entry.{Entry}
use Rattle.member_model.specs.Facts.{facts}
use Rattle.member_model.specs.FirstBad.{Fault, first_bad, first_bad_of}
use Rattle.member_model.specs.ReadBack.{module_of}
use Rattle.member_walk.specs.Walked.{Walked, IsWalked}
use Rattle.member_walk.specs.Told.{text_told, texts_of}
use Rattle.member_walk.specs.declared.parts.TextPlace.{TextPlace}
use Rattle.member_walk.proofs.Fetching.{texts_are_told, whole_members_end}
use Rattle.mod_read.specs.declared.fault.ModFault.{ModFault}
use Rattle.mod_read.specs.declared.fault.ModFault.TheVariants.{At, Memory}
use Rattle.mod_read.specs.declared.fragments.LoadedText.{LoadedText}
use Rattle.mod_read.specs.Answers.{HasRead, ShowsFault, FindsFault}
use Rattle.mod_read.specs.Gathered.{text_of, holding, module_with}
use Rattle.mod_read.specs.Judged.{AreBytes}
use Rattle.mod_read.proofs.JudgedSymbols.{all_more}
use Rattle.mod_read.proofs.Passing.{around, take_next_is}

-- ---- one record

abbrev pub GoesOn : Entry → Walked → List ℕ → Walked → Type 0
GoesOn e w bytes next = (records : List (List ℕ)) → IsWalked e records w → IsWalked e (records ++ bytes ∷ []) next

pub reads_text : (e : Entry) (w next : Walked) (bytes : List ℕ) (texts : List LoadedText) (text : LoadedText) (place : TextPlace) → AreBytes bytes → GoesOn e w bytes next
    → Some place ≡ text_told w → text_of text ≡ record { segment = place.segment; section = place.section; address = place.address; bytes = bytes }
    → (records : List (List ℕ)) → HasRead e records w texts → HasRead e (records ++ bytes ∷ []) next (texts ++ text ∷ [])
reads_text e w next bytes texts text place fits on told is records read = record {
  walked = on records read.walked;
  told = map_push text_of texts text
      ∙ (ap (λ t. map text_of texts ++ t ∷ []) is
      ∙ (ap (λ ts. ts ++ texts_of (Some place) bytes) read.told
      ∙ (ap (λ o. (facts records).texts ++ texts_of o bytes) told
      ∙ sym (texts_are_told e records bytes w read.walked))));
  bytes = all_more AreBytes records (bytes ∷ []) read.bytes (fits, tt);
}

pub reads_other : (e : Entry) (w next : Walked) (bytes : List ℕ) (texts : List LoadedText) → AreBytes bytes → GoesOn e w bytes next → None ≡ text_told w
    → (records : List (List ℕ)) → HasRead e records w texts → HasRead e (records ++ bytes ∷ []) next texts
reads_other e w next bytes texts fits on told records read = record {
  walked = on records read.walked;
  told = read.told
      ∙ (sym (append-nil (facts records).texts)
      ∙ (ap (λ o. (facts records).texts ++ texts_of o bytes) told
      ∙ sym (texts_are_told e records bytes w read.walked)));
  bytes = all_more AreBytes records (bytes ∷ []) read.bytes (fits, tt);
}

pub finds : (e : Entry) (w : Walked) (all : List (List ℕ)) (k : ℕ) (bytes : List ℕ) (texts : List LoadedText) (fault : ModFault) → slice_get all k ≡ Some bytes
    → HasRead e (take k all) w texts → ShowsFault e w bytes fault → FindsFault e all fault
unfolding first_bad
finds e w all k bytes texts (At number what) there read shows =
    ap (λ records. first_bad_of e records (facts all).ended) (around all k bytes there)
    ∙ shows (take k all) (drop (suc k) all) (facts all).ended read.walked
finds e w all k bytes texts Memory there read shows = tt

pub reads_next : (e : Entry) (w next : Walked) (all : List (List ℕ)) (k : ℕ) (bytes : List ℕ) (texts more : List LoadedText) → slice_get all k ≡ Some bytes
    → HasRead e (take k all) w texts → ((records : List (List ℕ)) → HasRead e records w texts → HasRead e (records ++ bytes ∷ []) next more)
    → HasRead e (take (k + 1) all) next more
reads_next e w next all k bytes texts more there read step =
    subst (λ records. HasRead e records next more) (sym (take_next_is all k bytes there)) (step (take k all) read)

pub takes : {A : Type 0} (e : Entry) (w next : Walked) (all : List (List ℕ)) (k : ℕ) (bytes : List ℕ) (texts more : List LoadedText) (answer : Result A ModFault)
    → slice_get all k ≡ Some bytes → HasRead e (take k all) w texts
    → OnOk answer ((records : List (List ℕ)) → HasRead e records w texts → HasRead e (records ++ bytes ∷ []) next more)
    → OnOk answer (HasRead e (take (k + 1) all) next more)
takes e w next all k bytes texts more (Ok x) there read step = reads_next e w next all k bytes texts more there read step
takes e w next all k bytes texts more (Err fault) there read step = tt

pub shown : {A : Type 0} (e : Entry) (w : Walked) (all : List (List ℕ)) (k : ℕ) (bytes : List ℕ) (texts : List LoadedText) (answer : Result A ModFault)
    → slice_get all k ≡ Some bytes → HasRead e (take k all) w texts → IfErr answer (ShowsFault e w bytes) → IfErr answer (FindsFault e all)
shown e w all k bytes texts (Ok x) there read shows = tt
shown e w all k bytes texts (Err fault) there read shows = finds e w all k bytes texts fault there read shows

-- ---- before the first record

pub none_read : (e : Entry) (w : Walked) → IsWalked e [] w → HasRead e [] w []
unfolding facts
none_read e w walked = record { walked = walked; told = refl; bytes = tt }

-- ---- the end

pub ends_with : (e : Entry) (w : Walked) (told : Option Fault) (whole : Bool) → whole ≡ w.facts.ended
    → ((records : List (List ℕ)) → IsWalked e records w → told ≡ first_bad_of e records whole)
    → (records : List (List ℕ)) → IsWalked e records w → first_bad e records ≡ told
ends_with e w told whole same finish records walked =
    whole_members_end e records w walked ∙ (ap (first_bad_of e records) (sym same) ∙ sym (finish records walked))

-- ---- the module

facts_of : (e : Entry) (records : List (List ℕ)) (w : Walked) → IsWalked e records w → (w.facts.symbols ≡ (facts records).symbols) × (w.facts.fields ≡ (facts records).fields)
facts_of e records w walked = (ap (λ v. v.facts.symbols) walked.state, ap (λ v. v.facts.fields) walked.state)

module_is : (e : Entry) (records : List (List ℕ)) → module_with e (holding (facts records).symbols (facts records).texts (facts records).fields) ≡ module_of e records
unfolding module_of
module_is e records = refl

pub made_is : (e : Entry) (records : List (List ℕ)) (w : Walked) (texts : List LoadedText) (made : SymModule) → HasRead e records w texts
    → made ≡ module_with e (holding w.facts.symbols (map text_of texts) w.facts.fields) → made ≡ module_of e records
made_is e records w texts made read is =
    let same = facts_of e records w read.walked in
    is ∙ (ap (λ symbols. module_with e (holding symbols (map text_of texts) w.facts.fields)) same.0
    ∙ (ap (λ ts. module_with e (holding (facts records).symbols ts w.facts.fields)) read.told
    ∙ (ap (λ fields. module_with e (holding (facts records).symbols (facts records).texts fields)) same.1 ∙ module_is e records)))
