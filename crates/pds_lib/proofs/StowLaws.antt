-- What a stow does to the members of a library, seen from its rows.
use Rattle.std.proofs.Common.{◌≡◌, ℕ, ◌+◌, ◌≤◌, ◌<◌, Bool, true, false, cond, ◌||◌, ltb, List, [], ◌∷◌, ◌++◌, length, get_or, take, drop, map, Result, Ok, Err, refl, sym, ap, ◌∙◌, arith}
use Rattle.std.specs.Prelude.{insert, filter, sum_by, is_ok}
use Rattle.std.specs.List.{list_any, list_all, prefix_len}
use Rattle.std.proofs.lemmas.Bool.{ltb-true}
use Rattle.std.proofs.lemmas.Bool.Decides.{nat_tests}
use Rattle.std.proofs.lemmas.List.{take-append-drop, map-append, take-map, drop-map, get_or_at, get_or_append_left, length_push, drop_more, drop_all}
use Rattle.std.proofs.lemmas.List.Folds.{list_all-append}
use Rattle.std.proofs.lemmas.List.Sums.{sum_by-insert, sum_by-cons}
use Rattle.le_bytes.specs.declared.name.Name.{Name}
use Rattle.le_bytes.specs.Names.{name_eq}
use Rattle.pds_directory.specs.declared.kinds.LibKind.{LibKind}
use Rattle.pds_directory.specs.declared.kinds.Version.{Version}
use Rattle.pds_directory.specs.declared.entry.Entry.{Entry}
use Rattle.pds_directory.specs.declared.entry.Span.{Span}
use Rattle.pds_lib.specs.declared.member.Member.{Member}
use Rattle.pds_lib.specs.declared.member.AliasAt.{AliasAt}
use Rattle.pds_lib.specs.declared.member.StowFault.{StowFault}
use Rattle.pds_lib.specs.declared.member.StowFault.TheVariants.{Exists, TooManyRecords, Memory}
use Rattle.pds_lib.specs.declared.table.Row.{Row}
use Rattle.pds_lib.specs.declared.table.Store.{Store}
use Rattle.pds_lib.specs.declared.table.Store.TheVariants.{Read, Given}
use Rattle.pds_directory.specs.Parts.{is_below, part}
use Rattle.pds_directory.specs.Order.{ascends, ascends_after, place_of}
use Rattle.pds_lib.specs.Contents.{Held, held_name, Contents, entry_count, record_count}
use Rattle.pds_lib.specs.Stored.{row_name, stored, held, is_there, row_is_there, is_few}
use Rattle.pds_lib.specs.Stow.{stays, main_entry, alias_entry, entries_for, has_name, put_in, put_all, held_for, counted, stowed, Stows}
use Rattle.pds_lib.specs.Rows.{row_for, left_of, rows_stowed, total_after, PutsRows, StowsRows}
use Rattle.pds_directory.proofs.Halving.{both_true}
use Rattle.pds_lib.proofs.Halving.{below_trans, ascends_tail}
use Rattle.pds_lib.proofs.Members.{members}

-- ---- what stays

keep_step : {X Y : Type 0} (f : X → Y) (b : Bool) (x : X) (xs : List X) (ys : List Y) → ys ≡ map f xs
    → cond b (f x ∷ ys) ys ≡ map f (cond b (x ∷ xs) xs)
keep_step f true x xs ys e = ap (λ zs. f x ∷ zs) e
keep_step f false x xs ys e = e

pub filter-map : {X Y : Type 0} (p : Y → Bool) (f : X → Y) (xs : List X) → filter p (map f xs) ≡ map f (filter (λ x. p (f x)) xs)
filter-map p f [] = refl
filter-map p f (x ∷ xs) = keep_step f (p (f x)) x (filter (λ y. p (f y)) xs) (filter p (map f xs)) (filter-map p f xs)

all_step : {X : Type 0} (p : X → Bool) (b : Bool) (x : X) (xs : List X) → p x ≡ true → list_all p xs ≡ true → list_all p (cond b (x ∷ xs) xs) ≡ true
all_step p true x xs here rest = rw (here, rest) refl
all_step p false x xs here rest = rest

pub all_filter : {X : Type 0} (p q : X → Bool) (xs : List X) → list_all p xs ≡ true → list_all p (filter q xs) ≡ true
all_filter p q [] all = refl
all_filter p q (x ∷ xs) all =
    let both = both_true (p x) (list_all p xs) all in
    all_step p (q x) x (filter q xs) both.0 (all_filter p q xs both.1)

-- ---- a member more among those that were stowed

more_there : (n : ℕ) (s : Store) → is_there n s ≡ true → is_there (n + 1) s ≡ true
more_there n (Read first count) e = refl
more_there n (Given i) e = let lt = ltb-true i n e in grind (arith, nat_tests)

pub all_more : (n : ℕ) (rows : List Row) → list_all (row_is_there n) rows ≡ true → list_all (row_is_there (n + 1)) rows ≡ true
all_more n [] all = refl
all_more n (r ∷ rows) all =
    let both = both_true (row_is_there n r) (list_all (row_is_there n) rows) all in
    rw (more_there n r.store both.0, all_more n rows both.1) refl

same_stored : (image : List ℕ) (places : List Span) (given : List (List (List ℕ))) (new : List (List ℕ)) (s : Store) → is_there (length given) s ≡ true
    → stored image places given s ≡ stored image places (given ++ new ∷ []) s
same_stored image places given new (Read first count) e = refl
same_stored image places given new (Given i) e = sym (get_or_append_left given (new ∷ []) [] i (ltb-true i (length given) e))

pub same_members : (image : List ℕ) (places : List Span) (given : List (List (List ℕ))) (new : List (List ℕ)) (rows : List Row)
    → list_all (row_is_there (length given)) rows ≡ true → members image places given rows ≡ members image places (given ++ new ∷ []) rows
same_members image places given new [] all = refl
same_members image places given new (r ∷ rows) all =
    let both = both_true (row_is_there (length given) r) (list_all (row_is_there (length given)) rows) all in
    let first : held image places given r ≡ held image places (given ++ new ∷ []) r =
    ap (λ (x : List (List ℕ)). record { entry = r.entry; user_data = part image r.user_data; records = x }) (same_stored image places given new r.store both.0) in
    ap (λ (h : Held). h ∷ members image places given rows) first
    ∙ ap (λ (hs : List Held). held image places (given ++ new ∷ []) r ∷ hs) (same_members image places given new rows both.1)

-- the new row is the member's entry with its records
pub new_held : (image : List ℕ) (places : List Span) (given : List (List (List ℕ))) (new : List (List ℕ)) (e : Entry)
    → held image places (given ++ new ∷ []) (row_for (Given (length given)) e) ≡ held_for new e
new_held image places given new e =
    ap (λ (x : List (List ℕ)). record { entry = e; user_data = []; records = x }) (get_or_at given new [] [] (length given) refl)

-- ---- putting in, in rows and in members

prefix-map : {X Y : Type 0} (p : Y → Bool) (f : X → Y) (xs : List X) → prefix_len p (map f xs) ≡ prefix_len (λ x. p (f x)) xs
prefix-map p f [] = refl
prefix-map p f (x ∷ xs) = ap (λ (n : ℕ). cond (p (f x)) (1 + n) 0) (prefix-map p f xs)

any-map : {X Y : Type 0} (p : Y → Bool) (f : X → Y) (xs : List X) → list_any p (map f xs) ≡ list_any (λ x. p (f x)) xs
any-map p f [] = refl
any-map p f (x ∷ xs) = ap (λ (b : Bool). p (f x) || b) (any-map p f xs)

map-insert : {X Y : Type 0} (f : X → Y) (xs : List X) (k : ℕ) (x : X) → map f (insert xs k x) ≡ insert (map f xs) k (f x)
map-insert f xs k x = rw (map-append f (take k xs) (x ∷ drop k xs), take-map f k xs, drop-map f k xs) refl

abbrev pub map_ok : (Row → Held) → Result (List Row) StowFault → Result (List Held) StowFault
map_ok f (Ok rows) = Ok (map f rows)
map_ok f (Err fault) = Err fault

put_more : (f : Row → Held) (b : Bool) (n : Name) (held_rest : Result (List Held) StowFault) (rows_rest : Result (List Row) StowFault) → held_rest ≡ map_ok f rows_rest
    → cond b (Err (Exists n)) held_rest ≡ map_ok f (cond b (Err (Exists n)) rows_rest)
put_more f true n held_rest rows_rest e = refl
put_more f false n held_rest rows_rest e = e

abbrev pub seen : List ℕ → List Span → List (List (List ℕ)) → List (List ℕ) → Row → Held
seen image places given new = held image places (given ++ new ∷ [])

put_in-map : (image : List ℕ) (places : List Span) (given : List (List (List ℕ))) (new : List (List ℕ)) (rows : List Row) (e : Entry)
    → put_in held_name (map (seen image places given new) rows) (held_for new e)
    ≡ map (seen image places given new) (put_in row_name rows (row_for (Given (length given)) e))
put_in-map image places given new rows e =
    let place : place_of held_name (map (seen image places given new) rows) e.name ≡ place_of row_name rows e.name =
    prefix-map (λ (h : Held). is_below (held_name h) e.name) (seen image places given new) rows in
    ap (λ (k : ℕ). insert (map (seen image places given new) rows) k (held_for new e)) place
    ∙ ap (insert (map (seen image places given new) rows) (place_of row_name rows e.name)) (sym (new_held image places given new e))
    ∙ sym (map-insert (seen image places given new) rows (place_of row_name rows e.name) (row_for (Given (length given)) e))

pub put_all-map : (image : List ℕ) (places : List Span) (given : List (List (List ℕ))) (new : List (List ℕ)) (rows : List Row) (es : List Entry)
    → put_all held_name (held_for new) (map (seen image places given new) rows) es
    ≡ map_ok (seen image places given new) (put_all row_name (row_for (Given (length given))) rows es)
unfolding put_all
put_all-map image places given new rows [] = refl
put_all-map image places given new rows (e ∷ es) =
    ap (λ (b : Bool). cond b (Err (Exists e.name)) (put_all held_name (held_for new) (put_in held_name (map (seen image places given new) rows) (held_for new e)) es))
    (any-map (λ (h : Held). name_eq (held_name h) e.name) (seen image places given new) rows)
    ∙ put_more (seen image places given new) (has_name row_name rows e.name) e.name
    (put_all held_name (held_for new) (put_in held_name (map (seen image places given new) rows) (held_for new e)) es)
    (put_all row_name (row_for (Given (length given))) (put_in row_name rows (row_for (Given (length given)) e)) es)
    (ap (λ (hs : List Held). put_all held_name (held_for new) hs es) (put_in-map image places given new rows e)
    ∙ put_all-map image places given new (put_in row_name rows (row_for (Given (length given)) e)) es)

-- what is kept of a library
pub kept_is : (image : List ℕ) (places : List Span) (given : List (List (List ℕ))) (rows : List Row) (m : Member) (replace : Bool)
    → filter (λ (h : Held). stays m replace h.entry) (members image places given rows)
    ≡ members image places given (filter (λ (r : Row). stays m replace r.entry) rows)
kept_is image places given rows m replace = filter-map (λ (h : Held). stays m replace h.entry) (held image places given) rows

-- the stow of a library is the stow of its rows
pub stow_is : (image : List ℕ) (places : List Span) (given : List (List (List ℕ))) (rows : List Row) (m : Member) (replace : Bool)
    → list_all (row_is_there (length given)) rows ≡ true
    → put_all held_name (held_for m.records) (filter (λ (h : Held). stays m replace h.entry) (members image places given rows)) (entries_for m)
    ≡ map_ok (seen image places given m.records) (put_all row_name (row_for (Given (length given))) (filter (λ (r : Row). stays m replace r.entry) rows) (entries_for m))
stow_is image places given rows m replace there =
    let left = filter (λ (r : Row). stays m replace r.entry) rows in
    let still : list_all (row_is_there (length given)) left ≡ true = all_filter (row_is_there (length given)) (λ (r : Row). stays m replace r.entry) rows there in
    ap (λ (hs : List Held). put_all held_name (held_for m.records) hs (entries_for m))
    (kept_is image places given rows m replace ∙ same_members image places given m.records left still)
    ∙ put_all-map image places given m.records left (entries_for m)

-- ---- how many records

count_step : (b : Bool) (n : Name) (rest : Result (List Held) StowFault) (out : List Held) → cond b (Err (Exists n)) rest ≡ Ok out → rest ≡ Ok out
count_step true n rest out e = absurd cc
count_step false n rest out e = e

pub count_put : (new : List (List ℕ)) (hs out : List Held) (es : List Entry) → put_all held_name (held_for new) hs es ≡ Ok out
    → record_count out ≡ record_count hs + sum_by (λ (e : Entry). entry_count (held_for new e)) es
unfolding put_all
count_put new hs out [] e = let same : hs ≡ out = cc in rw (← same) (omega arith)
count_put new hs out (x ∷ es) e =
    let rest = count_step (has_name held_name hs x.name) x.name (put_all held_name (held_for new) (put_in held_name hs (held_for new x)) es) out e in
    let more = count_put new (put_in held_name hs (held_for new x)) out es rest in
    let one = sum_by-insert entry_count hs (place_of held_name hs x.name) (held_for new x) in
    let step = sum_by-cons (λ (e : Entry). entry_count (held_for new e)) x es in
    omega (arith, more, one, step)

alias_count : (m : Member) (new : List (List ℕ)) (others : List AliasAt) → sum_by (λ (e : Entry). entry_count (held_for new e)) (map (alias_entry m) others) ≡ 0
alias_count m new [] = refl
alias_count m new (a ∷ others) = let rest = alias_count m new others in omega (arith, rest)

pub member_count : (m : Member) (new : List (List ℕ)) → sum_by (λ (e : Entry). entry_count (held_for new e)) (entries_for m) ≡ length new + 1
member_count m new =
    let rest = alias_count m new m.aliases in
    let step = sum_by-cons (λ (e : Entry). entry_count (held_for new e)) (main_entry m) (map (alias_entry m) m.aliases) in
    omega (arith, rest, step)

-- ---- what was stowed is there

there_step : (b : Bool) (n : Name) (rest : Result (List Row) StowFault) (out : List Row) → cond b (Err (Exists n)) rest ≡ Ok out → rest ≡ Ok out
there_step true n rest out e = absurd cc
there_step false n rest out e = e

all_insert : {X : Type 0} (p : X → Bool) (xs : List X) (k : ℕ) (x : X) → list_all p xs ≡ true → p x ≡ true → list_all p (insert xs k x) ≡ true
all_insert p xs k x all here =
    let whole : list_all p (take k xs ++ drop k xs) ≡ true = ap (list_all p) (take-append-drop k xs) ∙ all in
    let both = both_true (list_all p (take k xs)) (list_all p (drop k xs)) (sym (list_all-append p (take k xs) (drop k xs)) ∙ whole) in
    list_all-append p (take k xs) (x ∷ drop k xs) ∙ rw (both.0, here, both.1) refl

at_end : (n : ℕ) → ltb n (n + 1) ≡ true
at_end n = grind (arith, nat_tests)

pub there_put : (n : ℕ) (rows out : List Row) (es : List Entry) → list_all (row_is_there (n + 1)) rows ≡ true
    → put_all row_name (row_for (Given n)) rows es ≡ Ok out → list_all (row_is_there (n + 1)) out ≡ true
unfolding put_all
there_put n rows out [] all e = let same : rows ≡ out = cc in rw (← same) all
there_put n rows out (x ∷ es) all e =
    let rest = there_step (has_name row_name rows x.name) x.name (put_all row_name (row_for (Given n)) (put_in row_name rows (row_for (Given n) x)) es) out e in
    there_put n (put_in row_name rows (row_for (Given n) x)) out es (all_insert (row_is_there (n + 1)) rows (place_of row_name rows x.name) (row_for (Given n) x) all (at_end n)) rest

-- ---- the whole of a stow

abbrev pub lib_of : Version → LibKind → List Held → Contents
lib_of v kind hs = record { version = v; kind = kind; members = hs }

puts_ok : (image : List ℕ) (places : List Span) (given : List (List (List ℕ))) (rows out : List Row) (m : Member) (replace : Bool)
    → list_all (row_is_there (length given)) rows ≡ true → rows_stowed (length given) rows m replace ≡ Ok out
    → put_all held_name (held_for m.records) (filter (λ (h : Held). stays m replace h.entry) (members image places given rows)) (entries_for m)
    ≡ Ok (map (seen image places given m.records) out)
unfolding rows_stowed
puts_ok image places given rows out m replace there put =
    stow_is image places given rows m replace there ∙ ap (map_ok (seen image places given m.records)) put

puts_count : (image : List ℕ) (places : List Span) (given : List (List (List ℕ))) (rows out : List Row) (m : Member) (replace : Bool)
    → list_all (row_is_there (length given)) rows ≡ true → rows_stowed (length given) rows m replace ≡ Ok out
    → record_count (map (seen image places given m.records) out)
    ≡ record_count (members image places given (left_of rows m replace)) + length m.records + 1
puts_count image places given rows out m replace there put =
    let law = count_put m.records (filter (λ (h : Held). stays m replace h.entry) (members image places given rows)) (map (seen image places given m.records) out) (entries_for m)
    (puts_ok image places given rows out m replace there put) in
    let before : record_count (filter (λ (h : Held). stays m replace h.entry) (members image places given rows)) ≡ record_count (members image places given (left_of rows m replace)) =
    ap record_count (kept_is image places given rows m replace) in
    let added = member_count m m.records in
    omega (arith, law, before, added)

counted_at : (lib : Contents) (read : Result (List Held) StowFault) (hs : List Held) (total : ℕ) → read ≡ Ok hs → record_count hs ≡ total
    → counted lib read ≡ cond (ltb 16777215 total) (Err (TooManyRecords total)) (Ok (record lib { members = hs }))
counted_at lib read hs total e n = rw (e, n) refl

pub stow_done : (v : Version) (kind : LibKind) (image : List ℕ) (places : List Span) (given : List (List (List ℕ))) (rows out : List Row) (m : Member) (replace : Bool) (before : ℕ)
    → list_all (row_is_there (length given)) rows ≡ true → rows_stowed (length given) rows m replace ≡ Ok out
    → before ≡ record_count (members image places given (left_of rows m replace)) → before + length m.records + 1 ≤ 16777215
    → stowed (lib_of v kind (members image places given rows)) m replace ≡ Ok (lib_of v kind (map (held image places (given ++ m.records ∷ [])) out))
stow_done v kind image places given rows out m replace before there put e few =
    let total : record_count (map (seen image places given m.records) out) ≡ before + length m.records + 1 =
    let law = puts_count image places given rows out m replace there put in omega (arith, law, e) in
    let below : ltb 16777215 (before + length m.records + 1) ≡ false = grind (arith, nat_tests) in
    counted_at (lib_of v kind (members image places given rows)) _ (map (seen image places given m.records) out) (before + length m.records + 1)
    (puts_ok image places given rows out m replace there put) total
    ∙ rw below refl

pub stow_many : (v : Version) (kind : LibKind) (image : List ℕ) (places : List Span) (given : List (List (List ℕ))) (rows out : List Row) (m : Member) (replace : Bool) (before : ℕ)
    → list_all (row_is_there (length given)) rows ≡ true → rows_stowed (length given) rows m replace ≡ Ok out
    → before ≡ record_count (members image places given (left_of rows m replace)) → 16777215 < before + length m.records + 1
    → stowed (lib_of v kind (members image places given rows)) m replace ≡ Err (TooManyRecords (before + length m.records + 1))
stow_many v kind image places given rows out m replace before there put e many =
    let total : record_count (map (seen image places given m.records) out) ≡ before + length m.records + 1 =
    let law = puts_count image places given rows out m replace there put in omega (arith, law, e) in
    let above : ltb 16777215 (before + length m.records + 1) ≡ true = grind (arith, nat_tests) in
    counted_at (lib_of v kind (members image places given rows)) _ (map (seen image places given m.records) out) (before + length m.records + 1)
    (puts_ok image places given rows out m replace there put) total
    ∙ rw above refl

pub stow_refused : (v : Version) (kind : LibKind) (image : List ℕ) (places : List Span) (given : List (List (List ℕ))) (rows : List Row) (m : Member) (replace : Bool) (f : StowFault)
    → list_all (row_is_there (length given)) rows ≡ true → rows_stowed (length given) rows m replace ≡ Err f
    → stowed (lib_of v kind (members image places given rows)) m replace ≡ Err f
unfolding rows_stowed
stow_refused v kind image places given rows m replace f there put =
    ap (counted (lib_of v kind (members image places given rows))) (stow_is image places given rows m replace there ∙ ap (map_ok (seen image places given m.records)) put)

out_of : (read : Result (List Row) StowFault) → is_ok read ≡ true → (out : List Row) × (read ≡ Ok out)
out_of (Ok out) e = (out, refl)
out_of (Err f) e = absurd cc

-- what stow_rows answered, as an answer of the stow
pub refused_is : (v : Version) (kind : LibKind) (image : List ℕ) (places : List Span) (given : List (List (List ℕ))) (rows : List Row) (m : Member) (replace : Bool) (f : StowFault)
    → list_all (row_is_there (length given)) rows ≡ true
    → StowsRows (Err f) (rows_stowed (length given) rows m replace) (total_after places given rows m replace)
    → Stows (lib_of v kind (members image places given rows)) m replace (Err f) (lib_of v kind (members image places given rows))
refused_is v kind image places given rows m replace Memory there put = refl
refused_is v kind image places given rows m replace (Exists n) there put = (stow_refused v kind image places given rows m replace (Exists n) there put, refl)
refused_is v kind image places given rows m replace (TooManyRecords n) there put =
    let out = out_of (rows_stowed (length given) rows m replace) put.0 in
    let many = stow_many v kind image places given rows out.0 m replace (record_count (members image places given (left_of rows m replace))) there out.1 refl
    (let n-is = put.1 image in let above = put.2 in omega arith) in
    (many ∙ ap (λ (k : ℕ). Err (TooManyRecords k)) (sym (put.1 image)), refl)

-- the invariants hold after it
pub still_there : (given : List (List (List ℕ))) (rows out : List Row) (m : Member) (replace : Bool) → list_all (row_is_there (length given)) rows ≡ true
    → rows_stowed (length given) rows m replace ≡ Ok out → list_all (row_is_there (length (given ++ m.records ∷ []))) out ≡ true
unfolding rows_stowed
still_there given rows out m replace there put =
    let left : list_all (row_is_there (length given)) (left_of rows m replace) ≡ true = all_filter (row_is_there (length given)) (λ (r : Row). stays m replace r.entry) rows there in
    let one : length (given ++ m.records ∷ []) ≡ length given + 1 = length_push given m.records in
    ap (λ (n : ℕ). list_all (row_is_there n) out) one
    ∙ there_put (length given) (left_of rows m replace) out (entries_for m) (all_more (length given) (left_of rows m replace) left) put

pub still_few : (given : List (List (List ℕ))) (new : List (List ℕ)) → list_all is_few given ≡ true → length new < 16777216 → list_all is_few (given ++ new ∷ []) ≡ true
still_few given new all few =
    let here : ltb (length new) 16777216 ≡ true = grind (arith, nat_tests) in
    list_all-append is_few given (new ∷ []) ∙ rw (all, here) refl

-- ---- the order of what stays

lower_after : {X : Type 0} (name : X → Name) (m n : Name) (xs : List X) → is_below m n ≡ true → ascends_after name n xs ≡ true → ascends_after name m xs ≡ true
lower_after name m n [] below up = refl
lower_after name m n (x ∷ xs) below up =
    let both = both_true (is_below n (name x)) (ascends_after name (name x) xs) up in
    rw (below_trans m n (name x) below both.0, both.1) refl

filter_step : {X : Type 0} (name : X → Name) (m : Name) (b : Bool) (x : X) (left : List X) → is_below m (name x) ≡ true
    → ascends_after name (name x) left ≡ true → ascends_after name m (cond b (x ∷ left) left) ≡ true
filter_step name m true x left below up = rw (below, up) refl
filter_step name m false x left below up = lower_after name m (name x) left below up

filter_after : {X : Type 0} (name : X → Name) (m : Name) (p : X → Bool) (xs : List X) → ascends_after name m xs ≡ true → ascends_after name m (filter p xs) ≡ true
filter_after name m p [] up = refl
filter_after name m p (x ∷ xs) up =
    let both = both_true (is_below m (name x)) (ascends_after name (name x) xs) up in
    filter_step name m (p x) x (filter p xs) both.0 (filter_after name (name x) p xs both.1)

first_filter : {X : Type 0} (name : X → Name) (b : Bool) (x : X) (left : List X) → ascends_after name (name x) left ≡ true → ascends name (cond b (x ∷ left) left) ≡ true
first_filter name true x left up = up
first_filter name false x left up = ascends_tail name (name x) left up

pub left_ascends : {X : Type 0} (name : X → Name) (p : X → Bool) (xs : List X) → ascends name xs ≡ true → ascends name (filter p xs) ≡ true
left_ascends name p [] up = refl
left_ascends name p (x ∷ xs) up = first_filter name (p x) x (filter p xs) (filter_after name (name x) p xs up)

-- one entry more is counted
pub count_more : (image : List ℕ) (places : List Span) (given : List (List (List ℕ))) (rows : List Row) (i : ℕ) (d : Row) (total e whole : ℕ) → i < length rows
    → e ≡ entry_count (held image places given (get_or rows i d)) → total + record_count (members image places given (drop i rows)) ≡ whole
    → total + e + record_count (members image places given (drop (i + 1) rows)) ≡ whole
count_more image places given rows i d total e whole lt one so_far =
    let k : record_count (members image places given (drop i rows)) ≡ entry_count (held image places given (get_or rows i d)) + record_count (members image places given (drop (i + 1) rows)) =
    ap (λ (rs : List Row). record_count (members image places given rs)) (drop_more rows i d lt)
    ∙ sum_by-cons entry_count (held image places given (get_or rows i d)) (members image places given (drop (i + 1) rows)) in
    omega (arith, k, one, so_far)

pub none_more : (image : List ℕ) (places : List Span) (given : List (List (List ℕ))) (rows : List Row) (i total whole : ℕ) → length rows ≤ i
    → total + record_count (members image places given (drop i rows)) ≡ whole → total ≡ whole
none_more image places given rows i total whole le so_far =
    let k : record_count (members image places given (drop i rows)) ≡ 0 = ap (λ (rs : List Row). record_count (members image places given rs)) (drop_all i rows le) in
    omega (arith, k, so_far)

-- the rows of a stow, from its steps
pub stowed_by : (n given_count : ℕ) (shown left : List Row) (entries : List Entry) (m : Member) (replace : Bool) (total : Result (List Row) StowFault)
    → left ≡ left_of shown m replace → entries ≡ entries_for m → n ≡ given_count
    → put_all row_name (row_for (Given n)) left entries ≡ total → rows_stowed given_count shown m replace ≡ total
unfolding rows_stowed
stowed_by n given_count shown left entries m replace total a b e put =
    ap (λ (k : ℕ). put_all row_name (row_for (Given k)) (left_of shown m replace) (entries_for m)) (sym e)
    ∙ ap (λ (rs : List Row). put_all row_name (row_for (Given n)) rs (entries_for m)) (sym a)
    ∙ ap (put_all row_name (row_for (Given n)) left) (sym b)
    ∙ put

pub refused_by : (f : StowFault) (n given_count : ℕ) (shown left after : List Row) (entries : List Entry) (m : Member) (replace : Bool) (count : List ℕ → ℕ)
    → left ≡ left_of shown m replace → entries ≡ entries_for m → n ≡ given_count
    → PutsRows (Err f) after (put_all row_name (row_for (Given n)) left entries) → StowsRows (Err f) (rows_stowed given_count shown m replace) count
refused_by Memory n given_count shown left after entries m replace count a b e put = tt
refused_by (Exists k) n given_count shown left after entries m replace count a b e put = stowed_by n given_count shown left entries m replace _ a b e put
refused_by (TooManyRecords k) n given_count shown left after entries m replace count a b e put = absurd put

pub total_by : (image : List ℕ) (places : List Span) (given : List (List (List ℕ))) (shown left sliced : List Row) (m : Member) (replace : Bool) (before added : ℕ)
    → sliced ≡ left → left ≡ left_of shown m replace → added ≡ length m.records → before ≡ record_count (members image places given sliced)
    → before + added + 1 ≡ total_after places given shown m replace image
total_by image places given shown left sliced m replace before added a b e counted =
    let k : record_count (members image places given sliced) ≡ record_count (members image places given (left_of shown m replace)) =
    ap (λ (rs : List Row). record_count (members image places given rs)) (a ∙ b) in
    omega (arith, k, e, counted)

pub stow_ends : (v : Version) (kind : LibKind) (image : List ℕ) (places : List Span) (given given' : List (List (List ℕ))) (rows out rows' : List Row) (m : Member) (replace : Bool)
    → list_all (row_is_there (length given)) rows ≡ true → rows_stowed (length given) rows m replace ≡ Ok out
    → total_after places given rows m replace image ≤ 16777215 → given' ≡ given ++ m.records ∷ [] → rows' ≡ out
    → stowed (lib_of v kind (members image places given rows)) m replace ≡ Ok (lib_of v kind (map (held image places given') rows'))
stow_ends v kind image places given given' rows out rows' m replace there put few a b =
    stow_done v kind image places given rows out m replace (record_count (members image places given (left_of rows m replace))) there put refl few
    ∙ ap (λ (g : List (List (List ℕ))). Ok (lib_of v kind (map (held image places g) out))) (sym a)
    ∙ ap (λ (rs : List Row). Ok (lib_of v kind (map (held image places given') rs))) (sym b)

pub stow_holds : (image : List ℕ) (places : List Span) (given given' : List (List (List ℕ))) (rows out rows' : List Row) (m : Member) (replace : Bool)
    → length places < 16777216 → list_all is_few given ≡ true
    → list_all (row_is_there (length given)) rows ≡ true → rows_stowed (length given) rows m replace ≡ Ok out
    → total_after places given rows m replace image ≤ 16777215 → given' ≡ given ++ m.records ∷ [] → rows' ≡ out
    → (length places < 16777216) × (list_all is_few given' ≡ true) × (list_all (row_is_there (length given')) rows' ≡ true)
stow_holds image places given given' rows out rows' m replace short all there put few a b = (
  short,
  ap (list_all is_few) a ∙ still_few given m.records all (omega (arith, few)),
  ap (λ (g : List (List (List ℕ))). list_all (row_is_there (length g)) rows') a ∙ ap (list_all (row_is_there (length (given ++ m.records ∷ [])))) b
      ∙ still_there given rows out m replace there put,
)
