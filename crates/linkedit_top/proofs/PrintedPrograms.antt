-- A load module that is fetched from the library into which it went prints as its program.
use Rattle.std.proofs.Common.{arith, ◌≡◌, ℕ, zero, suc, ◌+◌, nat_lt, Bool, true, false, ◌||◌, cond, if◌then◌else◌, List, [], ◌∷◌, ◌++◌, map, take, drop, slice_index, refl, sym, ◌∙◌, ap, subst, Option, Some, None, Ok, Err}
use Rattle.std.specs.Prelude.{find, insert, option_map}
use Rattle.std.specs.Option.{option_map_or}
use Rattle.std.specs.List.{list_any, range_with_len}
use Rattle.std.proofs.lemmas.List.{take-append-drop}
use Rattle.std.proofs.lemmas.List.Folds.{find-append}
use Rattle.le_bytes.specs.declared.name.Name.{Name}
use Rattle.le_bytes.specs.Names.{name_eq}
use Rattle.le_bytes.specs.declared.refusal.Refusal.TheVariants as refusal
use Rattle.le_bytes.specs.declared.record_what.PlaceWhat.TheVariants.{BadOrigin}
use Rattle.map_list.specs.Lines.{entry_line}
use Rattle.map_list.specs.Dumps.{dump_text}
use Rattle.sym_mod.specs.declared.program.Program.{Program}
use Rattle.linking_model.specs.Tree.{path, segments, region_of}
use Rattle.linking_model.specs.Places.{origin, origin_by, region_start, depth, module_length}
use Rattle.linking_model.specs.Linked.{block}
use Rattle.linking_model.specs.Run.{byte_in, pieces, segment_piece}
use Rattle.pds_directory.specs.declared.entry.Entry.{Entry}
use Rattle.pds_directory.specs.Order.{place_of}
use Rattle.pds_lib.specs.declared.member.Member.{Member}
use Rattle.pds_lib.specs.declared.member.AliasAt.{AliasAt}
use Rattle.pds_lib.specs.declared.member.StowFault.{StowFault}
use Rattle.pds_lib.specs.declared.member.StowFault.TheVariants.{Exists}
use Rattle.pds_lib.specs.Contents.{Held, Contents, held_name, find_entry, records_of, record_count}
use Rattle.pds_lib.specs.Stow.{main_entry, alias_entry, entries_for, held_for, has_name, put_in, put_all, counted, kept}
use Rattle.pds_lib.proofs.ReadSound.{same_name}
use Rattle.member_model.specs.FirstBad.{fetch_bad}
use Rattle.member_model.specs.Fetched.{fetched, first_storage, entry_address as fetched_address}
use Rattle.member_model.specs.Placing.{is_origin}
use Rattle.member_model.proofs.Fetching.{good_members_are_fetched}
use Rattle.member_laws.specs.Stands.{StandsPlaced}
use Rattle.block_storage.specs.Storage.{alone, storage}
use Rattle.fetch_text.specs.Told.{fetch_text, fetch_answer, unless_bad}
use Rattle.link_core.specs.declared.linked.Linked.{Linked}
use Rattle.link_core.specs.declared.options.Options.{Options}
use Rattle.link_core.specs.Programs.{entry_address}
use Rattle.link_core.specs.Modules.{naming}
use Rattle.command_link.specs.Link.{stowed_or, with_module}
use Rattle.command_fetch.specs.Fetch.{told_as, entry_text, found_text, member_text}
use Rattle.linkedit_top.specs.ByProgram.{program_text, StowedModulesPrintPrograms}

-- ---- the member found

abbrev named : Name → Held → Bool
named n h = name_eq h.entry.name n

none_of : (p : Held → Bool) (x : Held) (o : Option Held) (b more : Bool) → (b || more) ≡ false → (more ≡ false → o ≡ None) → cond b (Some x) o ≡ None
none_of p x o true more none rest = absurd cc
none_of p x o false more none rest = rest none

not_found : (p : Held → Bool) (hs : List Held) → list_any p hs ≡ false → find p hs ≡ None
not_found p [] none = refl
not_found p (h ∷ hs) none = none_of p h (find p hs) (p h) (list_any p hs) none (not_found p hs)

first_none : (a b : Bool) → (a || b) ≡ false → a ≡ false
first_none true b none = cc
first_none false b none = refl

rest_none : (a b : Bool) → (a || b) ≡ false → b ≡ false
rest_none true b none = absurd cc
rest_none false b none = none

any_front : (p : Held → Bool) (xs ys : List Held) → list_any p (xs ++ ys) ≡ false → list_any p xs ≡ false
any_front p [] ys none = refl
any_front p (x ∷ xs) ys none =
    rw (first_none (p x) (list_any p (xs ++ ys)) none, any_front p xs ys (rest_none (p x) (list_any p (xs ++ ys)) none)) refl

finds_new : (hs : List Held) (k : ℕ) (x : Held) → list_any (named x.entry.name) hs ≡ false → find (named x.entry.name) (insert hs k x) ≡ Some x
finds_new hs k x none =
    let p = named x.entry.name in
    let front : find p (take k hs) ≡ None = not_found p (take k hs) (any_front p (take k hs) (drop k hs) (ap (list_any p) (take-append-drop k hs) ∙ none)) in
    find-append p (take k hs) (x ∷ drop k hs) ∙ rw (front, same_name x.entry.name) refl

entry_step : (n : Name) (h : Held) (b : Bool) (o : Option Entry) (r : Option Held) → o ≡ option_map (λ (x : Held). x.entry) r
    → cond b (Some h.entry) o ≡ option_map (λ (x : Held). x.entry) (cond b (Some h) r)
entry_step n h true o r same = refl
entry_step n h false o r same = same

-- an entry is found where its member is
entry_found : (n : Name) (hs : List Held) → find (λ (e : Entry). name_eq e.name n) (map (λ (h : Held). h.entry) hs) ≡ option_map (λ (x : Held). x.entry) (find (named n) hs)
entry_found n [] = refl
entry_found n (h ∷ hs) = entry_step n h (named n h) (find (λ (e : Entry). name_eq e.name n) (map (λ (h : Held). h.entry) hs)) (find (named n) hs) (entry_found n hs)

-- the library has the member under its name, with its records
pub record IsThere (after : Contents) (m : Member) : Type 0 where
  pub entry : find_entry after m.name ≡ Some (main_entry m)
  pub records : records_of after (main_entry m) ≡ m.records

there : (lib : Contents) (m : Member) (hs : List Held) (k : ℕ) → list_any (named m.name) hs ≡ false
    → IsThere (record lib { members = insert hs k (held_for m.records (main_entry m)) }) m
there lib m hs k none =
    let h : Held = held_for m.records (main_entry m) in
    let is : find (named m.name) (insert hs k h) ≡ Some h = finds_new hs k h none in
    record {
      entry = entry_found m.name (insert hs k h) ∙ ap (option_map (λ (x : Held). x.entry)) is;
      records = ap (λ o. option_map_or (λ (x : Held). x.records) o []) is;
    }

-- one entry goes in, if its name is not there
one_put : (records : List (List ℕ)) (hs : List Held) (e : Entry)
    → put_all held_name (held_for records) hs (e ∷ []) ≡ (if has_name held_name hs e.name then Err (Exists e.name) else Ok (put_in held_name hs (held_for records e)))
unfolding put_all
one_put records hs e = refl

module _ (lib after : Contents) (m : Member) (hs : List Held) where
  small : (b : Bool) (n : ℕ) (new : List Held) → stowed_or lib (if b then Err (StowFault.TooManyRecords n) else Ok (record lib { members = new })) ≡ Ok after → after ≡ record lib { members = new }
  small true n new is = cc
  small false n new is = cc

  put : (b : Bool) → list_any (named m.name) hs ≡ b
      → stowed_or lib (counted lib (if b then Err (Exists m.name) else Ok (put_in held_name hs (held_for m.records (main_entry m))))) ≡ Ok after → IsThere after m
  put true any is = absurd cc
  put false none is =
      let new : List Held = put_in held_name hs (held_for m.records (main_entry m)) in
      subst (λ (l : Contents). IsThere l m) (sym (small (nat_lt 16777215 (record_count new)) (record_count new) new is))
      (there lib m hs (place_of held_name hs m.name) none)

no_aliases : (xs : List AliasAt) → map (λ (a : AliasAt). a.name) xs ≡ [] → xs ≡ []
no_aliases [] none = refl
no_aliases (x ∷ xs) none = absurd cc

stowed_there : (lib after : Contents) (x : Linked) → x.member.aliases ≡ [] → with_module lib x ≡ Ok after → IsThere after x.member
unfolding with_module
stowed_there lib after x none is =
    let m : Member = x.member in
    let hs : List Held = kept lib m x.replace in
    let alone_in : put_all held_name (held_for m.records) hs (entries_for m) ≡ (if has_name held_name hs m.name then Err (Exists m.name) else Ok (put_in held_name hs (held_for m.records (main_entry m)))) =
    ap (λ others. put_all held_name (held_for m.records) hs (main_entry m ∷ map (alias_entry m) others)) none ∙ one_put m.records hs (main_entry m) in
    put lib after m hs (has_name held_name hs m.name) refl (sym (ap (λ r. stowed_or lib (counted lib r)) alone_in) ∙ is)

-- ---- its storage

range_moved : (f g : ℕ → ℕ) (a b n : ℕ) → ((k : ℕ) → f (a + k) ≡ g (b + k)) → map f (range_with_len a n) ≡ map g (range_with_len b n)
range_moved f g a b zero same = refl
range_moved f g a b (suc n) same =
    let first : f a ≡ g b = ap f (omega arith) ∙ (same 0 ∙ ap g (omega arith)) in
    let rest : map f (range_with_len (a + 1) n) ≡ map g (range_with_len (b + 1) n) =
    range_moved f g (a + 1) (b + 1) n (λ k. ap f (omega arith) ∙ (same (1 + k) ∙ ap g (omega arith))) in
    ap (λ y. y ∷ map f (range_with_len (a + 1) n)) first ∙ ap (λ ys. g b ∷ ys) rest

origin_zero : (p : Program) → origin (alone p) 1 ≡ 0
unfolding origin_by region_start depth region_of path segments
origin_zero p = refl

storage_same : (p : Program) (at : ℕ) (M : ℕ → ℕ) → ((a : ℕ) → M a ≡ byte_in (pieces (alone p) (block (alone p) at) 1) a)
    → map M (range_with_len at (module_length (alone p))) ≡ storage (alone p) at
unfolding storage segment_piece
storage_same p at M same =
    range_moved M (λ o. byte_in (pieces (alone p) (block (alone p) at) 1) (at + origin (alone p) 1 + o)) at 0 (module_length (alone p))
    (λ k. same (at + k) ∙ ap (byte_in (pieces (alone p) (block (alone p) at) 1)) (let zero_is : origin (alone p) 1 ≡ 0 = origin_zero p in omega (arith, zero_is)))

-- ---- what is printed

module _ (o : Options) (p : Program) (m : Member) (origin : ℕ) (stands : StandsPlaced (alone p) o.sctr (naming o.member p) m) where
  abbrev e : Entry
  e = main_entry m

  text_same : is_origin (module_length (alone p)) origin ≡ true
      → fetch_text e m.records origin ≡ entry_line (entry_address p origin) ++ dump_text origin (storage (alone p) origin)
  unfolding fetch_text
  text_same may =
      let loads = stands.loads.in_block origin may in
      let entered : fetched_address (fetched e m.records origin) ≡ entry_address p origin = ap (λ xs. slice_index xs 0) loads.entries in
      let bytes : map (first_storage (fetched e m.records origin)) (range_with_len origin m.length) ≡ storage (alone p) origin =
      ap (λ n. map (first_storage (fetched e m.records origin)) (range_with_len origin n)) stands.length
      ∙ storage_same p origin (first_storage (fetched e m.records origin)) loads.storage in
      ap (λ a. entry_line a ++ dump_text origin (map (first_storage (fetched e m.records origin)) (range_with_len origin m.length))) entered
      ∙ ap (λ bs. entry_line (entry_address p origin) ++ dump_text origin bs) bytes

  good : fetch_bad e m.records ≡ None
  good = good_members_are_fetched e m.records stands.good.0

  answer_same : told_as m.name (fetch_answer e m.records origin) ≡ program_text p origin
  unfolding fetch_answer
  answer_same =
      ap (λ n. told_as m.name (if is_origin n origin then unless_bad (fetch_text e m.records origin) (fetch_bad e m.records) else Err (Rattle.fetch_text.specs.declared.stop.FetchStop.TheVariants.Place BadOrigin))) stands.length
      ∙ cases (is_origin (module_length (alone p)) origin) refl
    where
      cases : (b : Bool) → is_origin (module_length (alone p)) origin ≡ b
          → told_as m.name (if b then unless_bad (fetch_text e m.records origin) (fetch_bad e m.records) else Err (Rattle.fetch_text.specs.declared.stop.FetchStop.TheVariants.Place BadOrigin))
          ≡ (if b then Ok (entry_line (entry_address p origin) ++ dump_text origin (storage (alone p) origin)) else Err (refusal.Place BadOrigin))
      cases true may = ap (λ r. told_as m.name (unless_bad (fetch_text e m.records origin) r)) good ∙ ap (λ text. Ok text) (text_same may)
      cases false not = refl

  fetched_there : (after : Contents) → IsThere after m → member_text after m.name origin ≡ program_text p origin
  unfolding member_text entry_text
  fetched_there after found =
      ap (found_text after m.name origin) found.entry
      ∙ (ap (λ records. told_as m.name (fetch_answer e records origin)) found.records ∙ answer_same)

pub stowed_modules_print_programs : StowedModulesPrintPrograms
stowed_modules_print_programs lib after o p x origin stands is =
    fetched_there o p x.member origin stands after (stowed_there lib after x (no_aliases x.member.aliases stands.aliases) is)
