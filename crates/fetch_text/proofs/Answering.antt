-- What is printed of a member that was fetched.
use Rattle.std.proofs.Common.{arith, ◌≡◌, ℕ, ◌+◌, ◌^◌, ◌≤◌, inl, inr, Bool, true, false, if◌then◌else◌, List, [], ◌∷◌, ◌++◌, length, map, replicate, All, refl, sym, ◌∙◌, ap, subst, append-nil, Option, Some, None, Result, Ok, Err}
use Rattle.std.specs.List.{range_with_len}
use Rattle.std.proofs.lemmas.Grind.{common_steps}
use Rattle.std.proofs.lemmas.List.Elements.{All-cons}
use Rattle.std.proofs.lemmas.List.FromFn.{length-map-range_with_len}
use Rattle.le_bytes.specs.declared.record_what.RecWhat.{RecWhat}
use Rattle.le_bytes.specs.declared.record_what.PlaceWhat.{PlaceWhat}
use Rattle.le_bytes.specs.declared.record_what.PlaceWhat.TheVariants.{BadOrigin}
use Rattle.le_io.specs.Counts.{WhereTold}
use Rattle.lib_stream.specs.Sources.{AreRecords}
use Rattle.pds_directory.specs.declared.entry.Entry.{Entry}
use Rattle.linking_model.specs.Run.{Storage}
use Rattle.member_model.specs.FirstBad.{fetch_bad}
use Rattle.member_model.specs.Fetched.{Fetched as Member, fetched, entry_address, first_storage}
use Rattle.member_model.specs.Placing.{is_origin}
use Rattle.map_list.specs.Lines.{entry_line}
use Rattle.map_list.specs.Dumps.{dump_text}
use Rattle.fetch_places.specs.declared.placement.Placement.{Placement}
use Rattle.fetch_places.specs.declared.placement.Placement.TheVariants.{Block}
use Rattle.fetch_places.specs.Blocks.{block_placement}
use Rattle.fetch_storage.specs.declared.part.Part.{Part}
use Rattle.fetch_storage.specs.Held.{part_in}
use Rattle.prog_fetch.specs.declared.fault.FetchFault.{FetchFault}
use Rattle.prog_fetch.specs.declared.fault.FetchFault.TheVariants.{At, ReadFault, Memory}
use Rattle.prog_fetch.specs.declared.fetched.Fetched.{Fetched}
use Rattle.prog_fetch.specs.Given.{given, IsFetched, Answers as Fetches, AnswersSome as FetchesSome}
use Rattle.prog_fetch.specs.Sources.{AreOf}
use Rattle.fetch_text.specs.declared.stop.FetchStop.{FetchStop}
use Rattle.fetch_text.specs.declared.stop.FetchStop.TheVariants.{Place, Module}
use Rattle.fetch_text.specs.Parts.{EndsLow, parts_text}
use Rattle.fetch_text.specs.Stops.{stop_of}
use Rattle.fetch_text.specs.Answers.{Answers, AnswersSome}
use Rattle.fetch_text.specs.Told.{fetch_text, unless_bad, fetch_answer}

-- ---- the parts

low_end : (size at : ℕ) → is_origin size at ≡ true → at + size ≤ 2 ^ 24
low_end size at may = grind (arith, may)

one_low : (part : Part) → EndsLow part → All EndsLow (part ∷ [])
one_low part low = All-cons EndsLow part [] low (λ k d within. absurd (omega (arith, within)))

-- the part of a block ends low
pub parts_low : (e : Entry) (records : List (List ℕ)) (at size : ℕ) → is_origin size at ≡ true → All EndsLow (given e records (Block at size)).parts
unfolding given
parts_low e records at size may =
    let M : Storage = first_storage (fetched e records at) in
    let long : length (map M (range_with_len at size)) ≡ size = length-map-range_with_len M at size in
    one_low (part_in M (record { at = at; count = size })) (rw long (low_end size at may))

-- the block is printed as it has to be
text_is : (e : Entry) (records : List (List ℕ)) (origin : ℕ) (f : Fetched) → f ≡ given e records (Block origin e.length)
    → parts_text f.entry f.parts ≡ fetch_text e records origin
unfolding given fetch_text
text_is e records origin f is =
    let m : Member = fetched e records origin in
    let block : List ℕ = dump_text origin (map (first_storage m) (range_with_len origin e.length)) in
    rw is (ap (λ bs. entry_line (entry_address m) ++ bs) (append-nil block))

-- ---- the answer

pub printed : (e : Entry) (records : List (List ℕ)) (origin : ℕ) (f : Fetched) (text : List ℕ) → is_origin e.length origin ≡ true
    → IsFetched e (Block origin e.length) records f → text ≡ parts_text f.entry f.parts → fetch_answer e records origin ≡ Ok text
unfolding fetch_answer
printed e records origin f text may is made =
    rw (may, is.good) (ap Ok (sym (made ∙ text_is e records origin f is.value)))

faulted : (e : Entry) (records : List (List ℕ)) (origin number : ℕ) (what : RecWhat) → is_origin e.length origin ≡ true
    → Fetches e (Block origin e.length) records (Err (At number what)) → fetch_answer e records origin ≡ Err (Module number what)
unfolding fetch_answer
faulted e records origin number what may (inl bad) = rw (may, bad) refl
faulted e records origin number what may (inr misfit) = absurd (misfit.unfit tt)

-- why a member is not fetched is why it is not printed
as_stop : (e : Entry) (records : List (List ℕ)) (origin : ℕ) (fault : FetchFault) → is_origin e.length origin ≡ true
    → Fetches e (Block origin e.length) records (Err fault) → Answers e records origin (Err (stop_of fault))
as_stop e records origin (At number what) may answers = faulted e records origin number what may answers
as_stop e records origin ReadFault may answers = may
as_stop e records origin Memory may answers = may

block_is : (may : Bool) (at size : ℕ) (p : Placement) → Ok p ≡ (if may then Ok (Block at size) else Err BadOrigin) → (may ≡ true) × (p ≡ Block at size)
block_is true at size p is = (refl, cc)
block_is false at size p is = absurd cc

pub stopped : (e : Entry) (records : List (List ℕ)) (origin : ℕ) (p : Placement) (fault : FetchFault) (why : FetchStop)
    → Ok p ≡ block_placement origin e.length → why ≡ stop_of fault → Fetches e p records (Err fault) → Answers e records origin (Err why)
stopped e records origin p fault why block is answers =
    let found : (is_origin e.length origin ≡ true) × (p ≡ Block origin e.length) = block_is (is_origin e.length origin) origin e.length p block in
    subst (λ (w : FetchStop). Answers e records origin (Err w)) (sym is)
    (as_stop e records origin fault found.0 (subst (λ (q : Placement). Fetches e q records (Err fault)) found.1 answers))

pub stopped_some : (list : Option (List (List ℕ))) (total : ℕ) (e : Entry) (origin : ℕ) (p : Placement) (fault : FetchFault) (why : FetchStop)
    → Ok p ≡ block_placement origin e.length → why ≡ stop_of fault → FetchesSome list total e p (Err fault) → AnswersSome list total e origin (Err why)
stopped_some list total e origin p fault why block is answers =
    (answers.0, answers.1, stopped e answers.0 origin p fault why block is answers.2)

-- ---- the records of a source

length-replicate : (n : ℕ) → length (replicate {A = List ℕ} n []) ≡ n
length-replicate n = grind (arith, common_steps)

-- any source may have some records
some_records : (list : Option (List (List ℕ))) (total : ℕ) (lengths : ℕ → ℕ)
    → WhereTold list (λ all. AreRecords all total lengths) → (records : List (List ℕ)) × AreOf list total records
some_records None total lengths agrees = (replicate total [], record { told = λ all is. absurd cc; counted = length-replicate total })
some_records (Some all) total lengths agrees =
    (all, record { told = λ others is. (let same : all ≡ others = cc in same); counted = (agrees all refl).counted })

-- ---- a refused place

refused_as : (may : Bool) (at size : ℕ) (what : PlaceWhat) (text : Result (List ℕ) FetchStop) → Err what ≡ (if may then Ok (Block at size) else Err BadOrigin)
    → (if may then text else Err (Place BadOrigin)) ≡ Err (Place what)
refused_as true at size what text is = absurd cc
refused_as false at size what text is = let same : what ≡ BadOrigin = cc in ap (λ (w : PlaceWhat). Err (Place w)) (sym same)

pub refused : (e : Entry) (records : List (List ℕ)) (origin : ℕ) (what : PlaceWhat) → Err what ≡ block_placement origin e.length
    → fetch_answer e records origin ≡ Err (Place what)
unfolding fetch_answer
refused e records origin what is =
    refused_as (is_origin e.length origin) origin e.length what (unless_bad (fetch_text e records origin) (fetch_bad e records)) is

pub refused_some : (list : Option (List (List ℕ))) (total : ℕ) (lengths : ℕ → ℕ) (e : Entry) (origin : ℕ) (what : PlaceWhat)
    → WhereTold list (λ all. AreRecords all total lengths) → Err what ≡ block_placement origin e.length → AnswersSome list total e origin (Err (Place what))
refused_some list total lengths e origin what agrees is =
    let some : (records : List (List ℕ)) × AreOf list total records = some_records list total lengths agrees in
    (some.0, some.1, refused e some.0 origin what is)
