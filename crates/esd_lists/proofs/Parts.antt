-- The lists of a program are those of its definition.
use Rattle.std.proofs.Common.{◌≡◌, ℕ, max, Bool, true, false, ◌&&◌, cond, List, [], ◌∷◌, ◌++◌, map, fold, slice_get, Option, Some, None, unwrap_or, option_map, is_some, refl, sym, ap, ◌∙◌, arith, append-nil, append_assoc, filter, filter_map}
use Rattle.std.specs.Prelude.{position}
use Rattle.std.specs.List.{cons_option}
use Rattle.std.specs.Option.{option_or, option_and_then, option_map_or}
use Rattle.std.proofs.lemmas.Option.{slice_get-map}
use Rattle.le_bytes.specs.declared.name.Name.{Name}
use Rattle.le_bytes.specs.Names.{name_eq}
use Rattle.sym_mod.specs.declared.program.Label.{Label}
use Rattle.sym_mod.specs.declared.program.Register.{Register}
use Rattle.sym_mod.specs.Kinds.{kind_of, is_sd, is_register}
use Rattle.linking_model.specs.Names.{firsts}
use Rattle.linking_model.specs.Kept.{Read, Sight, Symbol, ByName, Private, symbol_eq, sights, sight_at, is_area_named, kept_sd, areas, kept_as, section_symbol, section_symbols, section_number, kept_in, appearance, rank_of}
use Rattle.linking_model.specs.Merged.{greatest_length, named_section, private_section, section_of, sections, label_at, is_label_named, label_of, labels, register_items, register_of, registers}
use Rattle.esd_index.specs.Contents.{Contents}
use Rattle.esd_index.specs.Steps.{flag_at, named_if}
use Rattle.esd_lists.specs.declared.by_name.Area.{Area}
use Rattle.esd_lists.specs.declared.by_name.Extent.{Extent}
use Rattle.esd_lists.specs.declared.by_name.First.{First}
use Rattle.esd_lists.specs.declared.reading.Reading.{Reading}
use Rattle.esd_lists.specs.Indexed.{content_of, Holds}
use Rattle.esd_lists.specs.Held.{as_read, AreMarked, is_marked_in}
use Rattle.esd_lists.specs.Looked.{rank_by, seen_by, home_by}
use Rattle.esd_lists.specs.Gathered.{first_of, no_area, extent_in, label_by, label_step, area_step, extent_step}
use Rattle.esd_lists.specs.Listed.{pushed, at_name, named_by, private_by, section_by, register_by}
use Rattle.esd_lists.proofs.Sights.{sight_at_is}
use Rattle.esd_lists.proofs.Sections.{kept_as_section}
use Rattle.esd_lists.proofs.Registers.{register_symbols}

-- ---- lists

pub fold_pushed : {A B : Type 0} (f : A → Option B) (l : List B) (ys : List A) → fold (λ xs y. pushed xs (f y)) l ys ≡ l ++ filter_map f ys
fold_pushed f l [] = sym (append-nil l)
fold_pushed f l (y ∷ ys) = pushed_case f l ys (f y) (λ k. fold_pushed f k ys)
  where
    pushed_case : {A B : Type 0} (f : A → Option B) (l : List B) (ys : List A) (o : Option B) → ((k : List B) → fold (λ xs y. pushed xs (f y)) k ys ≡ k ++ filter_map f ys)
        → fold (λ xs y. pushed xs (f y)) (pushed l o) ys ≡ l ++ cons_option o (filter_map f ys)
    pushed_case f l ys None more = more l
    pushed_case f l ys (Some x) more = more (l ++ x ∷ []) ∙ append_assoc l (x ∷ []) (filter_map f ys)

pub filter_map_ext : {A B : Type 0} (f g : A → Option B) → ((y : A) → f y ≡ g y) → (ys : List A) → filter_map f ys ≡ filter_map g ys
filter_map_ext f g same [] = refl
filter_map_ext f g same (y ∷ ys) = rw (same y, filter_map_ext f g same ys) refl

-- a list that is pushed together is the mapped one
pub listed : {A B : Type 0} (f g : A → Option B) → ((y : A) → f y ≡ g y) → (ys : List A) → fold (λ xs y. pushed xs (f y)) [] ys ≡ filter_map g ys
listed f g same ys = fold_pushed f [] ys ∙ filter_map_ext f g same ys

-- ---- homes

kept_found : (rs : List Read) (x : Sight) (o : Option Symbol) → kept_as rs x (kind_of x.item) ≡ o → is_some (option_and_then (section_number rs) o) ≡ true
    → option_and_then (section_number rs) o ≡ option_and_then (section_number rs) (section_symbol x)
kept_found rs x None e some = absurd cc
kept_found rs x (Some y) e some = ap (option_and_then (section_number rs)) (sym (kept_as_section rs x (kind_of x.item) y e))

sight_found : (rs : List Read) (o : Option Sight) → is_some (option_and_then (section_number rs) (option_and_then (λ x. kept_as rs x (kind_of x.item)) o)) ≡ true
    → option_and_then (section_number rs) (option_and_then (λ x. kept_as rs x (kind_of x.item)) o) ≡ option_and_then (section_number rs) (option_and_then section_symbol o)
sight_found rs None some = absurd cc
sight_found rs (Some x) some = kept_found rs x (kept_as rs x (kind_of x.item)) refl some

kept_in_is : (rs : List Read) (k i : ℕ) → is_some (kept_in rs k i) ≡ true → kept_in rs k i ≡ option_and_then (section_number rs) (option_and_then section_symbol (sight_at rs k i))
unfolding kept_in
kept_in_is rs k i some = sight_found rs (sight_at rs k i) some

pub home_chosen : (rs : List Read) (k i : ℕ) (b : Bool) → is_some (kept_in rs k i) ≡ b → cond b (option_and_then (section_number rs) (option_and_then section_symbol (sight_at rs k i))) None ≡ kept_in rs k i
home_chosen rs k i true e = sym (kept_in_is rs k i e)
home_chosen rs k i false e = nothing (kept_in rs k i) e
  where
    nothing : (o : Option ℕ) → is_some o ≡ false → None ≡ o
    nothing None e = refl
    nothing (Some x) e = absurd cc

seen_case : (k i : ℕ) (o : Option Reading) → option_and_then (λ (r : Reading). option_map (λ x. let z : Sight = record { of_module = k; number = i; segment = r.segment; item = x } in z) (slice_get r.read.items i)) o
    ≡ option_and_then (λ (r : Read). option_map (λ x. let z : Sight = record { of_module = k; number = i; segment = r.segment; item = x } in z) (slice_get r.module_.items i)) (option_map as_read o)
seen_case k i None = refl
seen_case k i (Some r) = refl

pub seen_is : (xs : List Reading) (k i : ℕ) → seen_by xs k i ≡ sight_at (map as_read xs) k i
seen_is xs k i =
    seen_case k i (slice_get xs k)
    ∙ ap (option_and_then (λ (r : Read). option_map (λ x. let z : Sight = record { of_module = k; number = i; segment = r.segment; item = x } in z) (slice_get r.module_.items i))) (sym (slice_get-map as_read xs k))
    ∙ sym (sight_at_is (map as_read xs) k i)

marked_case : (xs : List Reading) (k i : ℕ) (o : Option Reading) → slice_get xs k ≡ o → AreMarked (map as_read xs) xs → option_map_or (λ (r : Reading). flag_at r.kept i) o false ≡ is_some (kept_in (map as_read xs) k i)
unfolding kept_in
marked_case xs k i None e marked =
    let none : sight_at (map as_read xs) k i ≡ None = sym (seen_is xs k i) ∙ rw e refl in
    rw none refl
marked_case xs k i (Some r) e marked = marked k r e i

pub number_is : (rs : List Read) (c : Contents) → c ≡ content_of rs → c.sections ≡ section_symbols rs
unfolding content_of
number_is rs c e = rw e refl

pub symbols_is : (rs : List Read) (c : Contents) → c ≡ content_of rs → c.symbols ≡ appearance rs
unfolding content_of
symbols_is rs c e = rw e refl

pub controls_is : (rs : List Read) (c : Contents) → c ≡ content_of rs → c.controls ≡ firsts symbol_eq (filter_map (λ (x : Sight). named_if is_sd x.item) (sights rs))
unfolding content_of
controls_is rs c e = rw e refl

pub home_is : (c : Contents) (xs : List Reading) → Holds c xs → (k i : ℕ) → home_by c xs k i ≡ kept_in (map as_read xs) k i
unfolding home_by
home_is c xs h k i =
    let rs : List Read = map as_read xs in
    let flag : is_marked_in xs k i ≡ is_some (kept_in rs k i) = marked_case xs k i (slice_get xs k) refl h.marked in
    rw (number_is rs c h.indexed, seen_is xs k i) (home_chosen rs k i (is_marked_in xs k i) (sym flag))

-- ---- what is gathered

or_assoc : {A : Type 0} (a b c : Option A) → option_or (option_or a b) c ≡ option_or a (option_or b c)
or_assoc None b c = refl
or_assoc (Some x) b c = refl

first_fold : {A B : Type 0} (f : A → Option B) (o : Option B) (xs : List A) → fold (λ o x. option_or o (f x)) o xs ≡ option_or o (slice_get (filter_map f xs) 0)
first_fold f o [] = or_none o
  where
    or_none : {A : Type 0} (o : Option A) → o ≡ option_or o None
    or_none None = refl
    or_none (Some x) = refl
first_fold f o (x ∷ xs) =
    first_fold f (option_or o (f x)) xs ∙ or_assoc o (f x) (slice_get (filter_map f xs) 0) ∙ ap (option_or o) (head_case f (f x) xs)
  where
    head_case : {A B : Type 0} (f : A → Option B) (p : Option B) (xs : List A) → option_or p (slice_get (filter_map f xs) 0) ≡ slice_get (cons_option p (filter_map f xs)) 0
    head_case f None xs = refl
    head_case f (Some x) xs = refl

filter_chosen : {A B : Type 0} (p : A → Bool) (g : A → Option B) (xs : List A) → filter_map (λ x. cond (p x) (g x) None) xs ≡ filter_map g (filter p xs)
filter_chosen p g [] = refl
filter_chosen p g (x ∷ xs) = chosen p g x xs (p x) (filter_chosen p g xs)
  where
    chosen : {A B : Type 0} (p : A → Bool) (g : A → Option B) (x : A) (xs : List A) (b : Bool) → filter_map (λ x. cond (p x) (g x) None) xs ≡ filter_map g (filter p xs)
        → cons_option (cond b (g x) None) (filter_map (λ x. cond (p x) (g x) None) xs) ≡ filter_map g (cond b (x ∷ filter p xs) (filter p xs))
    chosen p g x xs true more = ap (cons_option (g x)) more
    chosen p g x xs false more = more

fold_filter : {A B : Type 0} (p : A → Bool) (g : B → A → B) (b : B) (xs : List A) → fold (λ b x. cond (p x) (g b x) b) b xs ≡ fold g b (filter p xs)
fold_filter p g b [] = refl
fold_filter p g b (x ∷ xs) = chosen p g b x xs (p x) (λ c. fold_filter p g c xs)
  where
    chosen : {A B : Type 0} (p : A → Bool) (g : B → A → B) (b : B) (x : A) (xs : List A) (t : Bool) → ((c : B) → fold (λ b x. cond (p x) (g b x) b) c xs ≡ fold g c (filter p xs))
        → fold (λ b x. cond (p x) (g b x) b) (cond t (g b x) b) xs ≡ fold g b (cond t (x ∷ filter p xs) (filter p xs))
    chosen p g b x xs true more = more (g b x)
    chosen p g b x xs false more = more b

abbrev with_user : Area → Sight → Area
with_user a x = record { users = a.users ++ x.segment ∷ []; length = max a.length x.item.length }

area_fold : (a : Area) (xs : List Sight) → fold with_user a xs ≡ record { users = a.users ++ map (λ x. x.segment) xs; length = fold (λ n x. max n x.item.length) a.length xs }
area_fold a [] = rw (append-nil a.users) refl
area_fold a (x ∷ xs) = area_fold (with_user a x) xs ∙ rw (append_assoc a.users (x.segment ∷ []) (map (λ x. x.segment) xs)) refl

pub area_is : (y : Name) (xs : List Sight) → fold (area_step y) no_area xs ≡ record { users = map (λ x. x.segment) (filter (is_area_named y) xs); length = greatest_length (filter (is_area_named y) xs) }
unfolding area_step
area_is y xs = fold_filter (is_area_named y) with_user no_area xs ∙ area_fold no_area (filter (is_area_named y) xs)

max_fold : (a : ℕ) (xs : List Sight) → max a (fold (λ n x. max n x.item.length) 0 xs) ≡ fold (λ n x. max n x.item.length) a xs
max_fold a [] = omega arith
max_fold a (x ∷ xs) =
    let here : max (max a x.item.length) (fold (λ n x. max n x.item.length) 0 xs) ≡ fold (λ n x. max n x.item.length) (max a x.item.length) xs = max_fold (max a x.item.length) xs in
    let there : max (max 0 x.item.length) (fold (λ n x. max n x.item.length) 0 xs) ≡ fold (λ n x. max n x.item.length) (max 0 x.item.length) xs = max_fold (max 0 x.item.length) xs in
    omega (arith, here, there)

rank_is : (rs : List Read) (c : Contents) (y : Symbol) → c ≡ content_of rs → rank_by c y ≡ rank_of rs y
rank_is rs c y e = ap (λ (ys : List Symbol). unwrap_or (position (symbol_eq y) ys) 0) (symbols_is rs c e)

named_is : (rs : List Read) (c : Contents) (y : Name) (o : Option Sight) → c ≡ content_of rs
    → named_by c y (option_map first_of o) (record { users = map (λ x. x.segment) (areas rs y); length = greatest_length (areas rs y) }) ≡ named_section rs y o
unfolding named_by
named_is rs c y None e = rw (rank_is rs c (ByName y) e) refl
named_is rs c y (Some first) e =
    let zero_on : max 0 first.item.length ≡ first.item.length = omega arith in
    let most : max first.item.length (greatest_length (areas rs y)) ≡ greatest_length (first ∷ areas rs y) = max_fold first.item.length (areas rs y) ∙ ap (λ (n : ℕ). fold (λ n x. max n x.item.length) n (areas rs y)) (sym zero_on) in
    rw (rank_is rs c (ByName y) e, most) refl

private_is : (rs : List Read) (c : Contents) (y : Symbol) (o : Option Sight) → c ≡ content_of rs → option_map (private_by c y) o ≡ option_map (private_section rs y) o
unfolding private_by
private_is rs c y None e = refl
private_is rs c y (Some x) e = rw (rank_is rs c y e) refl

section_is : (c : Contents) (xs : List Reading) (controls : Name → Option First) (areas_at : Name → Area) → Holds c xs
    → ((y : Name) → controls y ≡ option_map first_of (kept_sd (map as_read xs) y)) → ((y : Name) → areas_at y ≡ fold (area_step y) no_area (sights (map as_read xs)))
    → (y : Symbol) → section_by c xs controls areas_at y ≡ section_of (map as_read xs) y
section_is c xs controls areas_at h first gathered (ByName y) =
    let rs : List Read = map as_read xs in
    let area : areas_at y ≡ record { users = map (λ x. x.segment) (areas rs y); length = greatest_length (areas rs y) } = gathered y ∙ area_is y (sights rs) in
    ap Some (rw (first y, area) (named_is rs c y (kept_sd rs y) h.indexed))
section_is c xs controls areas_at h first gathered (Private k i) =
    ap (option_map (private_by c (Private k i))) (seen_is xs k i) ∙ private_is (map as_read xs) c (Private k i) (sight_at (map as_read xs) k i) h.indexed

pub sections_are : (c : Contents) (xs : List Reading) (controls : Name → Option First) (areas_at : Name → Area) → Holds c xs
    → ((y : Name) → controls y ≡ option_map first_of (kept_sd (map as_read xs) y)) → ((y : Name) → areas_at y ≡ fold (area_step y) no_area (sights (map as_read xs)))
    → fold (λ xs_ y. pushed xs_ (section_by c xs controls areas_at y)) [] c.sections ≡ sections (map as_read xs)
sections_are c xs controls areas_at h first gathered =
    listed (section_by c xs controls areas_at) (section_of (map as_read xs)) (section_is c xs controls areas_at h first gathered) c.sections
    ∙ ap (filter_map (section_of (map as_read xs))) (number_is (map as_read xs) c h.indexed)

-- ---- labels

label_here : (c : Contents) (xs : List Reading) → Holds c xs → (x : Sight) → label_by c xs x ≡ label_at (map as_read xs) x
unfolding label_by
label_here c xs h x = rw (home_is c xs h x.of_module x.item.owner, seen_is xs x.of_module x.item.owner, rank_is (map as_read xs) c (ByName x.item.name) h.indexed) refl

label_first : (c : Contents) (xs : List Reading) → Holds c xs → (y : Name) (ss : List Sight) → fold (label_step c xs y) None ss ≡ slice_get (filter_map (label_at (map as_read xs)) (filter (is_label_named y) ss)) 0
unfolding label_step
label_first c xs h y ss =
    first_fold (λ x. cond (is_label_named y x) (label_by c xs x) None) None ss
    ∙ ap (λ (ls : List Label). slice_get ls 0) (filter_chosen (is_label_named y) (label_by c xs) ss ∙ filter_map_ext (label_by c xs) (label_at (map as_read xs)) (label_here c xs h) (filter (is_label_named y) ss))

label_is : (c : Contents) (xs : List Reading) (at_y : Name → Option Label) → Holds c xs → ((y : Name) → at_y y ≡ fold (label_step c xs y) None (sights (map as_read xs)))
    → (y : Symbol) → at_name at_y y ≡ label_of (map as_read xs) y
label_is c xs at_y h first (ByName y) = first y ∙ label_first c xs h y (sights (map as_read xs))
label_is c xs at_y h first (Private k i) = refl

pub labels_are : (c : Contents) (xs : List Reading) (at_y : Name → Option Label) → Holds c xs → ((y : Name) → at_y y ≡ fold (label_step c xs y) None (sights (map as_read xs)))
    → fold (λ ls y. pushed ls (at_name at_y y)) [] c.symbols ≡ labels (map as_read xs)
labels_are c xs at_y h first =
    listed (at_name at_y) (label_of (map as_read xs)) (label_is c xs at_y h first) c.symbols
    ∙ ap (filter_map (label_of (map as_read xs))) (symbols_is (map as_read xs) c h.indexed)

-- ---- registers

filter_filter : {A : Type 0} (p q : A → Bool) (xs : List A) → filter (λ x. p x && q x) xs ≡ filter q (filter p xs)
filter_filter p q [] = refl
filter_filter p q (x ∷ xs) = chosen p q x xs (p x) (filter_filter p q xs)
  where
    chosen : {A : Type 0} (p q : A → Bool) (x : A) (xs : List A) (b : Bool) → filter (λ x. p x && q x) xs ≡ filter q (filter p xs)
        → cond (b && q x) (x ∷ filter (λ x. p x && q x) xs) (filter (λ x. p x && q x) xs) ≡ filter q (cond b (x ∷ filter p xs) (filter p xs))
    chosen p q x xs true more = rw more refl
    chosen p q x xs false more = more

abbrev with_extent : Extent → Sight → Extent
with_extent e x = record { length = max e.length x.item.length; align = max e.align x.item.align }

extent_fold : (e : Extent) (xs : List Sight) → fold with_extent e xs ≡ record { length = fold (λ n x. max n x.item.length) e.length xs; align = fold (λ n x. max n x.item.align) e.align xs }
extent_fold e [] = refl
extent_fold e (x ∷ xs) = extent_fold (with_extent e x) xs

register_is : (rs : List Read) (y : Name) → register_by y (fold (extent_step y) (extent_in None) (sights rs)) ≡ register_of rs y
unfolding extent_step
register_is rs y =
    let step : fold (extent_step y) (extent_in None) (sights rs) ≡ fold with_extent (extent_in None) (filter (λ x. name_eq x.item.name y) (register_items rs)) =
    fold_filter (λ (x : Sight). is_register x.item.kind && name_eq x.item.name y) with_extent (extent_in None) (sights rs)
    ∙ ap (fold with_extent (extent_in None)) (filter_filter (λ (x : Sight). is_register x.item.kind) (λ x. name_eq x.item.name y) (sights rs)) in
    rw (step, extent_fold (extent_in None) (filter (λ x. name_eq x.item.name y) (register_items rs))) refl

by_names : (f : Name → Register) (ns : List Name) → filter_map (at_name (λ y. Some (f y))) (map ByName ns) ≡ map f ns
by_names f [] = refl
by_names f (n ∷ ns) = ap (λ (zs : List Register). f n ∷ zs) (by_names f ns)

pub registers_is : (rs : List Read) (c : Contents) → c ≡ content_of rs → c.registers ≡ map ByName (firsts name_eq (map (λ x. x.item.name) (register_items rs)))
unfolding content_of
registers_is rs c e = rw e (register_symbols rs)

same_register : (rs : List Read) (extents : Name → Extent) → ((y : Name) → extents y ≡ fold (extent_step y) (extent_in None) (sights rs))
    → (y : Symbol) → at_name (λ y. Some (register_by y (extents y))) y ≡ at_name (λ y. Some (register_of rs y)) y
same_register rs extents gathered (ByName y) = ap Some (rw (gathered y) (register_is rs y))
same_register rs extents gathered (Private k i) = refl

pub registers_are : (c : Contents) (xs : List Reading) (extents : Name → Extent) → Holds c xs → ((y : Name) → extents y ≡ fold (extent_step y) (extent_in None) (sights (map as_read xs)))
    → fold (λ ls y. pushed ls (at_name (λ y. Some (register_by y (extents y))) y)) [] c.registers ≡ registers (map as_read xs)
registers_are c xs extents h gathered =
    let rs : List Read = map as_read xs in
    listed (at_name (λ y. Some (register_by y (extents y)))) (at_name (λ y. Some (register_of rs y))) (same_register rs extents gathered) c.registers
    ∙ ap (filter_map (at_name (λ y. Some (register_of rs y)))) (registers_is rs c h.indexed)
    ∙ by_names (register_of rs) (firsts name_eq (map (λ x. x.item.name) (register_items rs)))
