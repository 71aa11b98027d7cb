-- What is kept beside symbol items, with one item more.
use Rattle.std.proofs.Common.{◌≡◌, ℕ, zero, suc, ◌+◌, ◌-◌, ◌/◌, ◌<◌, ◌≤◌, refl, sym, ap, subst, ◌∙◌, Bool, true, false, not, ◌&&◌, ◌||◌, ◌==◌, nat_lt, if◌then◌else◌, List, [], ◌∷◌, ◌++◌, length, take, drop, map, filter, fold, count_by, Option, Some, None, option_map, unwrap_or, slice_get, arith, rules, length-append, add-one}
use Rattle.std.specs.Option.{option_map_or, option_or}
use Rattle.std.specs.List.{list_all, enumerate_from}
use Rattle.std.proofs.lemmas.List.{take-append-le}
use Rattle.std.proofs.Math.Seq.{take-length}
use Rattle.std.proofs.lemmas.List.Elements.{filter-append}
use Rattle.std.proofs.lemmas.List.Folds.{list_all-append}
use Rattle.std.proofs.lemmas.List.Sums.{sum_by_push, sum_by-cons}
use Rattle.le_bytes.specs.declared.record_what.RecWhat.{RecWhat}
use Rattle.le_bytes.specs.declared.record_what.RecWhat.TheVariants.{BadEsdid, SectionOutside}
use Rattle.pds_directory.specs.declared.entry.Entry.{Entry}
use Rattle.load_recs.specs.Items.{item_at, symbol_of, symbols_of}
use Rattle.load_recs.specs.declared.items.SymbolKind.{SymbolKind}
use Rattle.load_recs.specs.declared.items.SymbolKind.TheVariants.{Sd, Er, Lr, Pc, Cm, Pr, Null, Wx}
use Rattle.load_recs.specs.declared.items.SymbolItem.{SymbolItem}
use Rattle.load_recs.specs.Kinds.{is_section_kind, is_text_kind}
use Rattle.member_model.specs.Symbols.{is_section, end_of, symbol_at, section_as, section_of, section_rank, section_addresses}
use Rattle.member_model.specs.Faults.{last_end, translations, when, label_fault, symbol_fault, symbols_fault}
use Rattle.member_checks.proofs.ItemLists.{item_next}
use Rattle.member_checks.specs.Symbols.{names_text, labels_named, addresses_of, numbers_of, end_in, number_after, section_address, AreKept}

-- ---- items by number

more_there : {A : Type 0} (xs ys : List A) (k : ℕ) (x : A) → slice_get xs k ≡ Some x → slice_get (xs ++ ys) k ≡ Some x
more_there [] ys k x there = cc
more_there (y ∷ xs) ys zero x there = there
more_there (y ∷ xs) ys (suc k) x there = more_there xs ys k x there

last_there : {A : Type 0} (xs : List A) (x : A) → slice_get (xs ++ x ∷ []) (length xs) ≡ Some x
last_there [] x = refl
last_there (y ∷ xs) x = last_there xs x

within : {A : Type 0} (xs : List A) (k : ℕ) (x : A) → slice_get xs k ≡ Some x → k < length xs
within [] k x there = cc
within (y ∷ xs) zero x there = omega arith
within (y ∷ xs) (suc k) x there = let low : k < length xs = within xs k x there in omega arith

-- item n of a list is item n of a longer one
same_item : (symbols more : List SymbolItem) (n : ℕ) (x : SymbolItem) → symbol_at symbols n ≡ Some x → symbol_at (symbols ++ more) n ≡ Some x
same_item symbols more n x there = by_number (n == 0) there
  where
    by_number : (t : Bool) → (if t then None else slice_get symbols (n - 1)) ≡ Some x → (if t then None else slice_get (symbols ++ more) (n - 1)) ≡ Some x
    by_number true h = cc
    by_number false h = more_there symbols more (n - 1) x h

number_within : (symbols : List SymbolItem) (n : ℕ) (x : SymbolItem) → symbol_at symbols n ≡ Some x → (n ≤ length symbols) × ((n == 0) ≡ false)
number_within symbols n x there = by_number (n == 0) refl there
  where
    by_number : (t : Bool) → (n == 0) ≡ t → (if t then None else slice_get symbols (n - 1)) ≡ Some x → (n ≤ length symbols) × ((n == 0) ≡ false)
    by_number true zero_is h = cc
    by_number false other h = let low : n - 1 < length symbols = within symbols (n - 1) x h in (omega arith, other)

last_item : (symbols : List SymbolItem) (x : SymbolItem) → symbol_at (symbols ++ x ∷ []) (length symbols + 1) ≡ Some x
last_item symbols x = by_length (length symbols) refl (last_there symbols x)
  where
    by_length : (n : ℕ) → length symbols ≡ n → slice_get (symbols ++ x ∷ []) (length symbols) ≡ Some x → symbol_at (symbols ++ x ∷ []) (n + 1) ≡ Some x
    by_length n same there = rw (some_number n, one_less n, sym same) there
      where
        some_number : (n : ℕ) → (n + 1 == 0) ≡ false
        some_number n = search (rules)

        one_less : (n : ℕ) → n + 1 - 1 ≡ n
        one_less n = omega arith

-- the place among the sections stays as it is
same_rank : (symbols more : List SymbolItem) (n : ℕ) (x : SymbolItem) → symbol_at symbols n ≡ Some x → section_rank (symbols ++ more) n ≡ section_rank symbols n
same_rank symbols more n x there =
    let inside = number_within symbols n x there in
    rw (same_item symbols more n x there, there, take-append-le n symbols more inside.0) refl

-- ---- labels

-- a label that names a section among the items names it among more
still_named : (symbols more : List SymbolItem) (x : SymbolItem) (kind : SymbolKind) → names_text symbols x kind ≡ true → names_text (symbols ++ more) x kind ≡ true
still_named symbols more x Lr named = by_owner (symbol_at symbols x.length) refl named
  where
    by_owner : (o : Option SymbolItem) → symbol_at symbols x.length ≡ o → option_map_or (λ (owner : SymbolItem). is_text_kind owner.kind) o false ≡ true → names_text (symbols ++ more) x Lr ≡ true
    by_owner None there h = cc
    by_owner (Some owner) there h = rw (same_item symbols more x.length owner there) h
still_named symbols more x Sd named = refl
still_named symbols more x Er named = refl
still_named symbols more x Pc named = refl
still_named symbols more x Cm named = refl
still_named symbols more x Pr named = refl
still_named symbols more x Null named = refl
still_named symbols more x Wx named = refl

all_still_named : (symbols more xs : List SymbolItem) → list_all (λ x. names_text symbols x x.kind) xs ≡ true → list_all (λ x. names_text (symbols ++ more) x x.kind) xs ≡ true
all_still_named symbols more [] named = refl
all_still_named symbols more (x ∷ xs) named = by_first (names_text symbols x x.kind) refl named (λ h. all_still_named symbols more xs h)
  where
    by_first : (t : Bool) → names_text symbols x x.kind ≡ t → (t && list_all (λ y. names_text symbols y y.kind) xs) ≡ true
        → (list_all (λ y. names_text symbols y y.kind) xs ≡ true → list_all (λ y. names_text (symbols ++ more) y y.kind) xs ≡ true)
        → (names_text (symbols ++ more) x x.kind && list_all (λ y. names_text (symbols ++ more) y y.kind) xs) ≡ true
    by_first true here h rest = rw (still_named symbols more x x.kind here) (rest h)
    by_first false here h rest = cc

named_more : (symbols : List SymbolItem) (x : SymbolItem) → labels_named symbols ≡ true → names_text symbols x x.kind ≡ true → labels_named (symbols ++ x ∷ []) ≡ true
unfolding labels_named
named_more symbols x named here =
    rw (list_all-append (λ y. names_text (symbols ++ x ∷ []) y y.kind) symbols (x ∷ []), all_still_named symbols (x ∷ []) symbols named, still_named symbols (x ∷ []) x x.kind here)
    refl

-- ---- scatter numbers

-- a label's number and any other item's stay as they are
same_number : (symbols more : List SymbolItem) (n : ℕ) (x : SymbolItem) (kind : SymbolKind) → symbol_at symbols n ≡ Some x → names_text symbols x kind ≡ true
    → section_rank (symbols ++ more) (section_as n x.length kind) ≡ section_rank symbols (section_as n x.length kind)
same_number symbols more n x Lr there named = by_owner (symbol_at symbols x.length) refl named
  where
    by_owner : (o : Option SymbolItem) → symbol_at symbols x.length ≡ o → option_map_or (λ (owner : SymbolItem). is_text_kind owner.kind) o false ≡ true → section_rank (symbols ++ more) x.length ≡ section_rank symbols x.length
    by_owner None o h = cc
    by_owner (Some owner) o h = same_rank symbols more x.length owner o
same_number symbols more n x Sd there named = same_rank symbols more n x there
same_number symbols more n x Er there named = same_rank symbols more n x there
same_number symbols more n x Pc there named = same_rank symbols more n x there
same_number symbols more n x Cm there named = same_rank symbols more n x there
same_number symbols more n x Pr there named = same_rank symbols more n x there
same_number symbols more n x Null there named = same_rank symbols more n x there
same_number symbols more n x Wx there named = same_rank symbols more n x there

-- what `translations` says of item n
number_in : List SymbolItem → ℕ → ℕ
number_in symbols n = section_rank symbols (section_of symbols n)

numbers_listed : List SymbolItem → ℕ → List SymbolItem → List ℕ
numbers_listed symbols n xs = map (λ (k, x). section_rank symbols (section_of symbols k)) (enumerate_from n xs)

number_there : (symbols : List SymbolItem) (n : ℕ) (x : SymbolItem) → symbol_at symbols n ≡ Some x → number_in symbols n ≡ section_rank symbols (section_as n x.length x.kind)
unfolding number_in
number_there symbols n x there = rw there refl

item_behind : (before ys : List SymbolItem) (y : SymbolItem) → symbol_at (before ++ y ∷ ys) (length before + 1) ≡ Some y
item_behind before ys y = rw (some_number (length before), one_less (length before)) (found before)
  where
    some_number : (n : ℕ) → (n + 1 == 0) ≡ false
    some_number n = search (rules)

    one_less : (n : ℕ) → n + 1 - 1 ≡ n
    one_less n = omega arith

    found : (before : List SymbolItem) → slice_get (before ++ y ∷ ys) (length before) ≡ Some y
    found [] = refl
    found (b ∷ bs) = found bs

listed_more : (symbols before xs : List SymbolItem) (x : SymbolItem) → before ++ xs ≡ symbols → list_all (λ y. names_text symbols y y.kind) xs ≡ true
    → numbers_listed (symbols ++ x ∷ []) (length before + 1) (xs ++ x ∷ []) ≡ numbers_listed symbols (length before + 1) xs ++ number_in (symbols ++ x ∷ []) (length symbols + 1) ∷ []
unfolding numbers_listed number_in
listed_more symbols before [] x whole named =
    ap (λ n. number_in (symbols ++ x ∷ []) (n + 1) ∷ []) (ap length (none_more before ∙ whole))
  where
    none_more : (xs : List SymbolItem) → xs ≡ xs ++ []
    none_more [] = refl
    none_more (y ∷ ys) = ap (λ zs. y ∷ zs) (none_more ys)
listed_more symbols before (y ∷ ys) x whole named =
    heads
    (number_there (symbols ++ x ∷ []) (length before + 1) y (same_item symbols (x ∷ []) (length before + 1) y here)
    ∙ (same_number symbols (x ∷ []) (length before + 1) y y.kind here (first_named (names_text symbols y y.kind) (list_all (λ z. names_text symbols z z.kind) ys) named)
    ∙ sym (number_there symbols (length before + 1) y here)))
    (subst (λ n. numbers_listed (symbols ++ x ∷ []) n (ys ++ x ∷ []) ≡ numbers_listed symbols n ys ++ number_in (symbols ++ x ∷ []) (length symbols + 1) ∷ []) longer
    (listed_more symbols (before ++ y ∷ []) ys x (append_one before ys y ∙ whole) (rest_named (names_text symbols y y.kind) (list_all (λ z. names_text symbols z z.kind) ys) named)))
  where
    here : symbol_at symbols (length before + 1) ≡ Some y
    here = subst (λ xs. symbol_at xs (length before + 1) ≡ Some y) whole (item_behind before ys y)

    longer : length (before ++ y ∷ []) + 1 ≡ length before + 1 + 1
    longer = ap (λ n. n + 1) (length-append before (y ∷ []))

    append_one : (before ys : List SymbolItem) (y : SymbolItem) → (before ++ y ∷ []) ++ ys ≡ before ++ y ∷ ys
    append_one [] ys y = refl
    append_one (b ∷ bs) ys y = ap (λ zs. b ∷ zs) (append_one bs ys y)

    first_named : (s t : Bool) → (s && t) ≡ true → s ≡ true
    first_named true t h = refl
    first_named false t h = h

    rest_named : (s t : Bool) → (s && t) ≡ true → t ≡ true
    rest_named true t h = h
    rest_named false t h = cc

    heads : {a b : ℕ} {xs ys : List ℕ} → a ≡ b → xs ≡ ys → a ∷ xs ≡ b ∷ ys
    heads first rest = cc

numbers_more : (symbols : List SymbolItem) (x : SymbolItem) → labels_named symbols ≡ true → numbers_of (symbols ++ x ∷ []) ≡ numbers_of symbols ++ number_after symbols x ∷ []
unfolding numbers_of labels_named numbers_listed number_after
numbers_more symbols x named =
    listed_more symbols [] symbols x refl named
    ∙ ap (λ n. numbers_listed symbols 1 symbols ++ n ∷ []) (number_there (symbols ++ x ∷ []) (length symbols + 1) x (last_item symbols x))

-- the number of the section that a label names
listed_at : (f : ℕ → ℕ) (n k : ℕ) (xs : List SymbolItem) (x : SymbolItem) → slice_get xs k ≡ Some x → slice_get (map (λ (j, y). f j) (enumerate_from n xs)) k ≡ Some (f (n + k))
listed_at f n k [] x there = cc
listed_at f n zero (y ∷ ys) x there = ap (λ j. Some (f j)) (no_more n)
  where
    no_more : (n : ℕ) → n ≡ n + 0
    no_more n = omega arith
listed_at f n (suc k) (y ∷ ys) x there = listed_at f (n + 1) k ys x there ∙ ap (λ j. Some (f j)) (one_more n k)
  where
    one_more : (n k : ℕ) → n + 1 + k ≡ n + suc k
    one_more n k = omega arith

section_as_text : (n length : ℕ) (kind : SymbolKind) → is_text_kind kind ≡ true → section_as n length kind ≡ n
section_as_text n length Sd text = refl
section_as_text n length Pc text = refl
section_as_text n length Er text = refl
section_as_text n length Lr text = cc
section_as_text n length Cm text = refl
section_as_text n length Pr text = refl
section_as_text n length Null text = refl
section_as_text n length Wx text = refl

pub number_of_section : (symbols : List SymbolItem) (numbers : List ℕ) (n : ℕ) → numbers ≡ numbers_of symbols
    → option_map_or (λ (owner : SymbolItem). is_text_kind owner.kind) (symbol_at symbols n) false ≡ true → unwrap_or (slice_get numbers (n - 1)) 0 ≡ section_rank symbols n
unfolding numbers_of number_in
number_of_section symbols numbers n same text = by_owner (symbol_at symbols n) refl text
  where
    by_owner : (o : Option SymbolItem) → symbol_at symbols n ≡ o → option_map_or (λ (owner : SymbolItem). is_text_kind owner.kind) o false ≡ true → unwrap_or (slice_get numbers (n - 1)) 0 ≡ section_rank symbols n
    by_owner None there h = cc
    by_owner (Some owner) there h =
        let inside = number_within symbols n owner there in
        let at : slice_get symbols (n - 1) ≡ Some owner = by_zero (n == 0) inside.1 there in
        let back : 1 + (n - 1) ≡ n = some_back n inside.1 in
        ap (λ xs. unwrap_or (slice_get xs (n - 1)) 0) same
        ∙ (ap (λ o. unwrap_or o 0) (listed_at (number_in symbols) 1 (n - 1) symbols owner at)
        ∙ (ap (number_in symbols) back ∙ (number_there symbols n owner there ∙ ap (section_rank symbols) (section_as_text n owner.length owner.kind h))))
      where
        by_zero : (t : Bool) → t ≡ false → (if t then None else slice_get symbols (n - 1)) ≡ Some owner → slice_get symbols (n - 1) ≡ Some owner
        by_zero true other h = cc
        by_zero false other h = h

        some_back : (n : ℕ) → (n == 0) ≡ false → 1 + (n - 1) ≡ n
        some_back n other = search (rules)

-- the number of an item that comes next, by its kind
count_more : (p : SymbolItem → Bool) (xs : List SymbolItem) (x : SymbolItem) → p x ≡ true → count_by p (xs ++ x ∷ []) ≡ count_by p xs + 1
count_more p xs x passes = sum_by_push (λ y. if p y then 1 else 0) xs x ∙ ap (λ t. count_by p xs + (if t then 1 else 0)) passes

count_filtered : (p : SymbolItem → Bool) (xs : List SymbolItem) → count_by p xs ≡ length (map (λ x. x.address) (filter p xs))
count_filtered p [] = refl
count_filtered p (y ∷ ys) = sum_by-cons (λ z. if p z then 1 else 0) y ys ∙ by_first (p y) (count_filtered p ys)
  where
    by_first : (t : Bool) → count_by p ys ≡ length (map (λ x. x.address) (filter p ys)) → (if t then 1 else 0) + count_by p ys ≡ length (map (λ (x : SymbolItem). x.address) (if t then y ∷ filter p ys else filter p ys))
    by_first true h = let more : 1 + count_by p ys ≡ suc (length (map (λ x. x.address) (filter p ys))) = omega arith in more
    by_first false h = let same : 0 + count_by p ys ≡ length (map (λ x. x.address) (filter p ys)) = omega arith in same

pub sections_counted : (symbols : List SymbolItem) → length (addresses_of symbols) ≡ count_by is_section symbols
unfolding addresses_of
sections_counted symbols = sym (count_filtered is_section symbols)

whole_taken : (symbols : List SymbolItem) (x : SymbolItem) → take (length symbols + 1) (symbols ++ x ∷ []) ≡ symbols ++ x ∷ []
whole_taken symbols x = ap (λ n. take n (symbols ++ x ∷ [])) (sym (length-append symbols (x ∷ []))) ∙ take-length (symbols ++ x ∷ [])

rank_of_section : (symbols : List SymbolItem) (x : SymbolItem) → is_section x ≡ true → section_rank (symbols ++ x ∷ []) (length symbols + 1) ≡ length (addresses_of symbols) + 1
unfolding addresses_of
rank_of_section symbols x section =
    rw (last_item symbols x, section, whole_taken symbols x) (count_more is_section symbols x section ∙ ap (λ n. n + 1) (count_filtered is_section symbols))

rank_of_other : (symbols : List SymbolItem) (x : SymbolItem) → is_section x ≡ false → section_rank (symbols ++ x ∷ []) (length symbols + 1) ≡ 0
rank_of_other symbols x other = rw (last_item symbols x, other) refl

-- the number of an item that comes next, for the three kinds of numbers
pub after_label : (symbols : List SymbolItem) (x : SymbolItem) → x.kind ≡ Lr → names_text symbols x x.kind ≡ true → number_after symbols x ≡ section_rank symbols x.length
unfolding number_after
after_label symbols x label named =
    ap (λ kind. section_rank (symbols ++ x ∷ []) (section_as (length symbols + 1) x.length kind)) label
    ∙ by_owner (symbol_at symbols x.length) refl (ap (names_text symbols x) (sym label) ∙ named)
  where
    by_owner : (o : Option SymbolItem) → symbol_at symbols x.length ≡ o → option_map_or (λ (owner : SymbolItem). is_text_kind owner.kind) o false ≡ true → section_rank (symbols ++ x ∷ []) x.length ≡ section_rank symbols x.length
    by_owner None there h = cc
    by_owner (Some owner) there h = same_rank symbols (x ∷ []) x.length owner there

own_number : (n length : ℕ) (kind : SymbolKind) → is_section_kind kind ≡ true → section_as n length kind ≡ n
own_number n length Sd section = refl
own_number n length Pc section = refl
own_number n length Cm section = refl
own_number n length Er section = cc
own_number n length Lr section = cc
own_number n length Pr section = cc
own_number n length Null section = cc
own_number n length Wx section = cc

pub after_section : (symbols : List SymbolItem) (x : SymbolItem) → is_section_kind x.kind ≡ true → number_after symbols x ≡ length (addresses_of symbols) + 1
unfolding number_after
after_section symbols x section =
    ap (section_rank (symbols ++ x ∷ [])) (own_number (length symbols + 1) x.length x.kind section) ∙ rank_of_section symbols x section

other_number : (n length : ℕ) (kind : SymbolKind) → (kind ≡ Lr → ⊥) → section_as n length kind ≡ n
other_number n length Sd other = refl
other_number n length Pc other = refl
other_number n length Cm other = refl
other_number n length Er other = refl
other_number n length Lr other = absurd (other refl)
other_number n length Pr other = refl
other_number n length Null other = refl
other_number n length Wx other = refl

pub after_other : (symbols : List SymbolItem) (x : SymbolItem) → (x.kind ≡ Lr → ⊥) → is_section_kind x.kind ≡ false → number_after symbols x ≡ 0
unfolding number_after
after_other symbols x label other =
    ap (section_rank (symbols ++ x ∷ [])) (other_number (length symbols + 1) x.length x.kind label) ∙ rank_of_other symbols x other

-- ---- sections

addresses_more : (symbols : List SymbolItem) (x : SymbolItem) → addresses_of (symbols ++ x ∷ []) ≡ addresses_of symbols ++ section_address x
unfolding addresses_of
addresses_more symbols x = rw (filter-append is_section symbols (x ∷ [])) (by_section (is_section x))
  where
    map_more : (xs ys : List SymbolItem) → map (λ y. y.address) (xs ++ ys) ≡ map (λ y. y.address) xs ++ map (λ y. y.address) ys
    map_more [] ys = refl
    map_more (z ∷ zs) ys = ap (λ l. z.address ∷ l) (map_more zs ys)

    by_section : (t : Bool) → map (λ (y : SymbolItem). y.address) (filter is_section symbols ++ (if t then x ∷ [] else [])) ≡ map (λ (y : SymbolItem). y.address) (filter is_section symbols) ++ (if t then x.address ∷ [] else [])
    by_section true = map_more (filter is_section symbols) (x ∷ [])
    by_section false = map_more (filter is_section symbols) []

ends_more : (symbols : List SymbolItem) (x : SymbolItem) (segment : ℕ) → end_in (symbols ++ x ∷ []) segment ≡ (if is_section x && x.segment == segment then end_of x else end_in symbols segment)
unfolding end_in
ends_more symbols x segment = go symbols 0
  where
    go : (xs : List SymbolItem) (end : ℕ) → fold (λ end y. if is_section y && y.segment == segment then end_of y else end) end (xs ++ x ∷ []) ≡ (if is_section x && x.segment == segment then end_of x else fold (λ end y. if is_section y && y.segment == segment then end_of y else end) end xs)
    go [] end = refl
    go (y ∷ ys) end = go ys (if is_section y && y.segment == segment then end_of y else end)

-- ---- all of it

pub nothing_kept : (ends : ℕ → Option ℕ) → ((segment : ℕ) → ends segment ≡ None) → AreKept [] [] [] ends
unfolding addresses_of numbers_of end_in labels_named
nothing_kept ends none = record {
  addresses_are = refl;
  numbers_are = refl;
  ends_are = λ segment. ap (λ o. unwrap_or o 0) (none segment);
  named = refl;
}

pub kept_more : (symbols : List SymbolItem) (addresses numbers : List ℕ) (ends later : ℕ → Option ℕ) (x : SymbolItem)
    → AreKept symbols addresses numbers ends → names_text symbols x x.kind ≡ true
    → ((segment : ℕ) → later segment ≡ (if is_section x && x.segment == segment then Some (end_of x) else ends segment))
    → AreKept (symbols ++ x ∷ []) (addresses ++ section_address x) (numbers ++ number_after symbols x ∷ []) later
kept_more symbols addresses numbers ends later x kept named rise = record {
  addresses_are = ap (λ xs. xs ++ section_address x) kept.addresses_are ∙ sym (addresses_more symbols x);
  numbers_are = ap (λ xs. xs ++ number_after symbols x ∷ []) kept.numbers_are ∙ sym (numbers_more symbols x kept.named);
  ends_are = λ segment. ap (λ o. unwrap_or o 0) (rise segment) ∙ (by_section segment (is_section x && x.segment == segment) (kept.ends_are segment) ∙ sym (ends_more symbols x segment));
  named = named_more symbols x kept.named named;
}
  where
    by_section : (segment : ℕ) (t : Bool) → unwrap_or (ends segment) 0 ≡ end_in symbols segment → unwrap_or (if t then Some (end_of x) else ends segment) 0 ≡ (if t then end_of x else end_in symbols segment)
    by_section segment true h = refl
    by_section segment false h = h

-- a label that has no fault names a section
pub named_label : (o : Option SymbolItem) (x : SymbolItem) → label_fault x o ≡ None → option_map_or (λ (owner : SymbolItem). is_text_kind owner.kind) o false ≡ true
named_label None x good = cc
named_label (Some owner) x good = by_kind (is_text_kind owner.kind) good
  where
    by_kind : (t : Bool) → (if not t then Some BadEsdid else when (nat_lt x.address owner.address || nat_lt (end_of owner) x.address) SectionOutside) ≡ None → t ≡ true
    by_kind true h = refl
    by_kind false h = cc

pub named_symbol : (e : Entry) (symbols : List SymbolItem) (x : SymbolItem) (kind : SymbolKind) → symbol_fault e symbols x kind ≡ None → names_text symbols x kind ≡ true
named_symbol e symbols x Lr good = named_label (symbol_at symbols x.length) x good
named_symbol e symbols x Sd good = refl
named_symbol e symbols x Er good = refl
named_symbol e symbols x Pc good = refl
named_symbol e symbols x Cm good = refl
named_symbol e symbols x Pr good = refl
named_symbol e symbols x Null good = refl
named_symbol e symbols x Wx good = refl

-- ---- the items of a record one by one

next_symbol : (k : ℕ) (bytes : List ℕ) (x : SymbolItem) → k < length bytes / 16 → x ≡ symbol_of (item_at 16 k bytes) → drop k (symbols_of bytes) ≡ x ∷ drop (k + 1) (symbols_of bytes)
next_symbol k bytes x below is = item_next symbol_of 16 k bytes below ∙ ap (λ y. y ∷ drop (k + 1) (symbols_of bytes)) (sym is)

pub symbols_next : (e : Entry) (symbols later : List SymbolItem) (k : ℕ) (bytes : List ℕ) (x : SymbolItem) → k < length bytes / 16 → x ≡ symbol_of (item_at 16 k bytes)
    → symbol_fault e symbols x x.kind ≡ None → later ≡ symbols ++ x ∷ []
    → symbols_fault e later (drop (k + 1) (symbols_of bytes)) ≡ symbols_fault e symbols (drop k (symbols_of bytes))
symbols_next e symbols later k bytes x below is good same =
    ap (λ before. symbols_fault e before (drop (k + 1) (symbols_of bytes))) same
    ∙ sym (ap (symbols_fault e symbols) (next_symbol k bytes x below is)
    ∙ ap (λ o. option_or o (symbols_fault e (symbols ++ x ∷ []) (drop (k + 1) (symbols_of bytes)))) good)

pub symbols_stop : (e : Entry) (symbols : List SymbolItem) (k : ℕ) (bytes : List ℕ) (x : SymbolItem) (what : RecWhat) → k < length bytes / 16 → x ≡ symbol_of (item_at 16 k bytes)
    → symbol_fault e symbols x x.kind ≡ Some what → symbols_fault e symbols (drop k (symbols_of bytes)) ≡ Some what
symbols_stop e symbols k bytes x what below is found =
    ap (symbols_fault e symbols) (next_symbol k bytes x below is)
    ∙ ap (λ o. option_or o (symbols_fault e (symbols ++ x ∷ []) (drop (k + 1) (symbols_of bytes)))) found
