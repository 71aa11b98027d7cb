-- What `link` answers, prints and puts for its data sets, and what `go` stows before it places the last load module.
use Rattle.std.specs.Prelude.{◌≡◌, ℕ, ◌-◌, Bool, not, ◌||◌, ◌==◌, if◌then◌else◌, List, [], ◌∷◌, length, slice_get, flat_map, Result, Ok, Err}
use Rattle.std.specs.Option.{option_map_or}
use Rattle.std.specs.List.{list_any}
use Rattle.le_bytes.specs.declared.name.Name.{Name}
use Rattle.le_bytes.specs.declared.refusal.Refusal.{Refusal}
use Rattle.le_bytes.specs.declared.refusal.Refusal.TheVariants.{Limit, MemberExists}
use Rattle.le_bytes.specs.declared.refusal.Counted.TheVariants as counted
use Rattle.command_words.specs.Keys.{tempname}
use Rattle.command_words.specs.Meaning.{options_of, module_name_of}
use Rattle.pds_directory.specs.declared.kinds.Version.{Version}
use Rattle.pds_lib.specs.declared.member.StowFault.{StowFault}
use Rattle.pds_lib.specs.declared.member.StowFault.TheVariants.{Exists, TooManyRecords, Memory}
use Rattle.pds_lib.specs.declared.set.Set.{Set}
use Rattle.pds_lib.specs.Contents.{Contents}
use Rattle.pds_lib.specs.Stow.{stowed}
use Rattle.link_core.specs.declared.linked.Linked.{Linked}
use Rattle.link_core.specs.declared.options.Options.{Options}
use Rattle.link_core.specs.Linking.{Linking, LinkedModules, Refuses, StatementAt, linking}
use Rattle.link_core.specs.Sets.{primary_cards}
use Rattle.command_sets.specs.declared.answer.Answer.{Answer}
use Rattle.command_sets.specs.declared.status.Status.{Status}
use Rattle.command_sets.specs.declared.status.Status.TheVariants.{Done, DoneWithUnresolved}
use Rattle.command_sets.specs.Libraries.{output_in, put_answer}
use Rattle.command_sets.specs.Refusing.{refused, unbuilt_card}
use Rattle.command_sets.specs.Sets.{new_version}
use Rattle.command_link.specs.declared.stowing.Stowed.{Stowed}

-- ---- how is linked

-- the options of the words, for a library of this version
abbrev pub linking_options : List (List ℕ) → Version → Options
linking_options words version =
    let o = options_of words in
    record {
      map = o.map;
      xref = o.xref;
      let_on = o.let_on;
      ncal = o.ncal;
      xcal = o.xcal;
      ovly = o.ovly;
      sctr = o.sctr;
      member = module_name_of words;
      version = version;
    }

-- none of the options is on that does nothing yet
abbrev pub are_heeded_options : List (List ℕ) → Bool
are_heeded_options words = let o = options_of words in not (o.map || o.xref || o.xcal || o.ovly)

-- ---- stowing

-- the library after a stow, or what is refused; that memory is wanting is nothing that a stow's rule says
abbrev pub stowed_or : Contents → Result Contents StowFault → Result Contents Refusal
stowed_or old (Ok lib) = Ok lib
stowed_or old (Err (Exists name)) = Err (MemberExists name)
stowed_or old (Err (TooManyRecords n)) = Err (Limit counted.Records n)
stowed_or old (Err Memory) = Ok old

-- the library with one load module
unfoldable pub with_module : Contents → Linked → Result Contents Refusal
with_module lib x = stowed_or lib (stowed lib x.member x.replace)

-- a refusal, or what follows
abbrev pub unless_refused : {A B : Type 0} → Result A Refusal → (A → Result B Refusal) → Result B Refusal
unless_refused (Err refusal) next = Err refusal
unless_refused (Ok x) next = next x

-- the library with each of them in turn
unfoldable pub with_modules : Contents → List Linked → Result Contents Refusal
with_modules lib [] = Ok lib
with_modules lib (x ∷ rest) = unless_refused (with_module lib x) (λ after. with_modules after rest)

-- ---- what was stowed

-- done, with or without names that have to be resolved and are not
abbrev pub status_for : List Linked → Status
status_for modules =
    if list_any (λ (x : Linked). not (length x.unresolved == 0)) modules then DoneWithUnresolved else Done

-- their lines, in order
abbrev pub listings : List Linked → List ℕ
listings modules = flat_map (λ (x : Linked). x.listing) modules

-- the name of the last load module; there always is one
abbrev pub last_name : List Linked → Name
last_name modules = option_map_or (λ (x : Linked). x.member.name) (slice_get modules (length modules - 1)) tempname

-- the library with the load modules, the last of them, and how the command ends; or the refusal of a stow
abbrev pub stowed_of : List Linked → Result Contents Refusal → Result Stowed Answer
stowed_of modules (Ok lib) =
    Ok (record { library = lib; last = last_name modules; status = status_for modules; text = listings modules })
stowed_of modules (Err refusal) = Err (refused refusal)

-- the refusal of a stow, or else that of the linking after it
abbrev pub earlier_refusal : Result Contents Refusal → Refusal → Refusal
earlier_refusal (Err refusal) later = refusal
earlier_refusal (Ok lib) later = later

-- of what linking came to, for this library
abbrev pub stowed_linking : Contents → Linking → Result Stowed Answer
stowed_linking lib (LinkedModules modules) = stowed_of modules (with_modules lib modules)
stowed_linking lib (Refuses refusal before) = Err (refused (earlier_refusal (with_modules lib before) refusal))
stowed_linking lib (StatementAt number) = Err (unbuilt_card number)

-- of the data sets
unfoldable pub stowed_for : List (List ℕ) → List Set → Result Stowed Answer
stowed_for words sets =
    let lib = output_in (new_version words) sets in
    stowed_linking lib (linking (linking_options words lib.version) (primary_cards sets))

-- ---- the answer

-- the library is put
abbrev pub put_stowed : Result Stowed Answer → Answer
put_stowed (Ok s) = put_answer s.status s.text s.library
put_stowed (Err answer) = answer

-- of the data sets
abbrev pub link : List (List ℕ) → List Set → Answer
link words sets = put_stowed (stowed_for words sets)
