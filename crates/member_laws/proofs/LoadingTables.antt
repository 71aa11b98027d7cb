-- The bytes of the tables of entries: in the address of an entry and outside of all.
use Rattle.std.proofs.Common.{arith, ◌≡◌, ◌⊎◌, inl, inr, ℕ, zero, suc, ◌+◌, ◌-◌, ◌*◌, ◌<◌, ◌≤◌, Bool, true, false, if◌then◌else◌, List, [], ◌∷◌, ◌++◌, filter_map, flat_map, replicate, length, slice_index, refl, sym, ◌∙◌, ap, subst, append_assoc, length-append, get_or-append-add, Option, Some, None, slice_get}
use Rattle.std.specs.Option.{option_map_or}
use Rattle.std.specs.List.{AllByRecursion as Each, enumerate_from, cons_option}
use Rattle.std.proofs.lemmas.Bool.{cases_lt, cases_eq}
use Rattle.std.proofs.lemmas.Option.{none-some}
use Rattle.std.proofs.lemmas.List.{get_or_append_left}
use Rattle.byteorder.specs.Endian.{big_bytes}
use Rattle.sym_mod.specs.Kinds.{is_private}
use Rattle.sym_mod.specs.Sound.{IsSymbolOf}
use Rattle.sym_mod.specs.declared.program.Program.{Program}
use Rattle.sym_mod.specs.declared.program.Section.{Section}
use Rattle.sym_mod.specs.declared.program.Target.{Target}
use Rattle.sym_mod.specs.declared.program.Target.TheVariants.{Section as InSection, Label as AtLabel}
use Rattle.linking_model.specs.Tree.{Tree, segments}
use Rattle.linking_model.specs.Places.{Laid, entries_of, entry_count, entab_length}
use Rattle.linking_model.specs.Tables.{NamedTarget, named_section, private_section, named_label, named_targets, targets_in_order, has_entry, entries, is_defined, segment_of}
use Rattle.linking_model.specs.TableBytes.{entry_bytes, entab_bytes}
use Rattle.member_laws.specs.Linkable.{IsLinkable}
use Rattle.member_laws.proofs.LoadingLists.{each_always, each_weaker, each_append, each_map, each_filter, each_in_order}

-- ---- which targets have entries

each_filter_map : {X Y : Type 0} (P : Y → Type 0) (h : X → Option Y) (xs : List X) → Each (λ x. (y : Y) → h x ≡ Some y → P y) xs
    → Each P (filter_map h xs)
each_filter_map P h [] all = tt
each_filter_map {Y = Y} P h (x ∷ xs) all = by_cases (h x) refl (each_filter_map P h xs all.1)
  where
    by_cases : (o : Option Y) → h x ≡ o → Each P (filter_map h xs) → Each P (cons_option o (filter_map h xs))
    by_cases None none rest = rest
    by_cases (Some y) some rest = (all.0 y some, rest)

pub each_numbered : {X : Type 0} (P : ℕ × X → Type 0) (a : ℕ) (xs : List X) → ((i : ℕ) (x : X) → a ≤ i → i < a + length xs → P (i, x))
    → Each P (enumerate_from a xs)
each_numbered P a [] holds = tt
each_numbered P a (x ∷ xs) holds = (
  holds a x (omega arith) (omega arith),
  each_numbered P (a + 1) xs (λ i y low high. holds i y (omega (arith, low)) (omega (arith, high))),
)

-- the target is a section or a label of the program
pub record IsKnown (p : Program) (y : Target) : Type 0 where
  pub symbol : IsSymbolOf p y
  pub defined : is_defined y ≡ true

section_known : (p : Program) (i : ℕ) → i < length p.sections → IsKnown p (InSection i)
section_known p i inside = record { symbol = inside; defined = refl }

label_known : (p : Program) (i : ℕ) → i < length p.labels → IsKnown p (AtLabel i)
label_known p i inside = record { symbol = inside; defined = refl }

named_known : (p : Program) (i : ℕ) (x : Section) (y : NamedTarget) → i < length p.sections → named_section (i, x) ≡ Some y → IsKnown p y.target
named_known p i x y inside is = by_cases (is_private x.kind) is
  where
    some : (z y : NamedTarget) → Some z ≡ Some y → z.target ≡ y.target
    some z y same = cc

    by_cases : (b : Bool) → (if b then None else Some (record { name = x.name; target = InSection i })) ≡ Some y → IsKnown p y.target
    by_cases true none = absurd (none-some y none)
    by_cases false same = subst (IsKnown p) (some (record { name = x.name; target = InSection i }) y same) (section_known p i inside)

private_known : (p : Program) (i : ℕ) (x : Section) (y : Target) → i < length p.sections → private_section (i, x) ≡ Some y → IsKnown p y
private_known p i x y inside is = by_cases (is_private x.kind) is
  where
    some : (z y : Target) → Some z ≡ Some y → z ≡ y
    some z y same = cc

    by_cases : (b : Bool) → (if b then Some (InSection i) else None) ≡ Some y → IsKnown p y
    by_cases true same = subst (IsKnown p) (some (InSection i) y same) (section_known p i inside)
    by_cases false none = absurd (none-some y none)

pub targets_known : (p : Program) → Each (IsKnown p) (targets_in_order p)
targets_known p =
    each_append (IsKnown p) _ _
    (each_map (IsKnown p) (λ (x : NamedTarget). x.target) _
    (each_in_order (λ (x : NamedTarget). IsKnown p x.target) _ (named_targets p)
    (each_append (λ (x : NamedTarget). IsKnown p x.target) _ _
    (each_filter_map (λ (x : NamedTarget). IsKnown p x.target) named_section (enumerate_from 0 p.sections)
    (each_numbered _ 0 p.sections (λ i x low high y is. named_known p i x y (omega (arith, high)) is)))
    (each_map (λ (x : NamedTarget). IsKnown p x.target) named_label (enumerate_from 0 p.labels)
    (each_numbered _ 0 p.labels (λ i x low high. label_known p i (omega (arith, high))))))))
    (each_filter_map (IsKnown p) private_section (enumerate_from 0 p.sections)
    (each_numbered _ 0 p.sections (λ i x low high y is. private_known p i x y (omega (arith, high)) is)))

entries_known : (p : Program) (tree : Tree) (b : ℕ) → Each (IsKnown p) (entries p tree b)
unfolding entries
entries_known p tree b =
    each_filter (IsKnown p) (has_entry p tree b) (targets_in_order p)
    (each_weaker (IsKnown p) _ (targets_in_order p) (λ y known passes. known) (targets_known p))

pub each_got : {X : Type 0} (P : X → Type 0) (xs : List X) (k : ℕ) (x : X) → Each P xs → slice_get xs k ≡ Some x → P x
each_got P [] k x all found = absurd (none-some x found)
each_got P (y ∷ ys) zero x all found = subst P (is y x found) all.0
  where
    is : {X : Type 0} (y x : X) → Some y ≡ Some x → y ≡ x
    is y x same = cc
each_got P (y ∷ ys) (suc k) x all found = each_got P ys k x all.1 found

-- all entries of a table are known
pub table_known : (P : Laid) (s : ℕ) → IsLinkable P → Each (IsKnown P.program) (entries_of P s)
table_known P s link = by_cases (slice_get P.entries (s - 1)) refl
  where
    tables : Each (λ ys. Each (IsKnown P.program) ys) P.entries
    tables =
        subst (λ es. Each (λ ys. Each (IsKnown P.program) ys) es) (sym link.entries)
        (each_map (λ ys. Each (IsKnown P.program) ys) (entries P.program P.tree) (segments P.tree)
        (each_always _ (segments P.tree) (entries_known P.program P.tree)))

    by_cases : (o : Option (List Target)) → slice_get P.entries (s - 1) ≡ o → Each (IsKnown P.program) (option_map_or (λ x. x) o [])
    by_cases None none = tt
    by_cases (Some ys) found = each_got (λ ys. Each (IsKnown P.program) ys) P.entries (s - 1) ys tables found

-- ---- bytes of a table

-- what stands before the entries, and behind them
abbrev pub head : ℕ → List ℕ
head e = big_bytes 2 e ++ replicate 6 0

abbrev pub tail : List ℕ
tail = 10 ∷ 45 ∷ 0 ∷ 0 ∷ []

-- the entries from number i on
abbrev pub rows : Program → (Target → ℕ) → ℕ → ℕ → ℕ → List Target → List ℕ
rows p address e b i ys = flat_map (λ (j, y). entry_bytes e j (address y) (segment_of p y) b) (enumerate_from i ys)

pub table_is : (P : Laid) (address : Target → ℕ) (b : ℕ)
    → entab_bytes P address b ≡ head (length (entries_of P b)) ++ (rows P.program address (length (entries_of P b)) b 0 (entries_of P b) ++ tail)
unfolding entab_bytes
table_is P address b =
    append_assoc (head (length (entries_of P b))) (rows P.program address (length (entries_of P b)) b 0 (entries_of P b)) tail

-- an entry before its address, and behind it
abbrev front : ℕ → ℕ → List ℕ
front e i = 71 ∷ 240 ∷ big_bytes 2 (61440 + 12 * (e - i))

abbrev back : ℕ → ℕ → List ℕ
back t b = t ∷ b ∷ 0 ∷ 0 ∷ []

-- a byte of an address
in_middle : (pre m post : List ℕ) (j : ℕ) → j < length m → slice_index (pre ++ (m ++ post)) (length pre + j) ≡ slice_index m j
in_middle pre m post j below = get_or-append-add pre (m ++ post) j 0 ∙ get_or_append_left m post 0 j below

pub address_byte : (p : Program) (address : Target → ℕ) (e b i k j : ℕ) (y : Target) (ys : List Target) → slice_get ys k ≡ Some y → j < 4
    → slice_index (rows p address e b i ys ++ tail) (12 * k + 4 + j) ≡ slice_index (big_bytes 4 (address y)) j
address_byte p address e b i k j y [] found below = absurd (none-some y found)
address_byte p address e b i zero j y (z ∷ ys) found below =
    in_middle (front e i) (big_bytes 4 (address z)) (back (segment_of p z) b ++ (rows p address e b (i + 1) ys ++ tail)) j below
    ∙ ap (λ w. slice_index (big_bytes 4 (address w)) j) (is z y found)
  where
    is : (z y : Target) → Some z ≡ Some y → z ≡ y
    is z y same = cc
address_byte p address e b i (suc k) j y (z ∷ ys) found below =
    ap (slice_index (rows p address e b i (z ∷ ys) ++ tail)) (further k j)
    ∙ (get_or-append-add (entry_bytes e i (address z) (segment_of p z) b) (rows p address e b (i + 1) ys ++ tail) (12 * k + 4 + j) 0
    ∙ address_byte p address e b (i + 1) k j y ys found below)
  where
    further : (k j : ℕ) → 12 * suc k + 4 + j ≡ 12 + (12 * k + 4 + j)
    further k j = omega arith

-- the place is in no address
abbrev pub InNone : ℕ → ℕ → Type 0
InNone n r = (k : ℕ) → k < n → (r < 12 * k + 4) ⊎ (12 * k + 8 ≤ r)

same_behind : (m n post : List ℕ) (r : ℕ) → length m ≡ length n → length m ≤ r → slice_index (m ++ post) r ≡ slice_index (n ++ post) r
same_behind [] [] post r same past = refl
same_behind [] (y ∷ n) post r same past = absurd (omega (arith, same))
same_behind (x ∷ m) [] post r same past = absurd (omega (arith, same))
same_behind (x ∷ m) (y ∷ n) post zero same past = absurd (omega (arith, past))
same_behind (x ∷ m) (y ∷ n) post (suc r) same past = same_behind m n post r (omega (arith, same)) (omega (arith, past))

beside_middle : (pre m n post : List ℕ) (r : ℕ) → length m ≡ length n → (r < length pre) ⊎ (length pre + length m ≤ r)
    → slice_index (pre ++ (m ++ post)) r ≡ slice_index (pre ++ (n ++ post)) r
beside_middle pre m n post r same (inl before) =
    get_or_append_left pre (m ++ post) 0 r before ∙ sym (get_or_append_left pre (n ++ post) 0 r before)
beside_middle pre m n post r same (inr after) =
    ap (slice_index (pre ++ (m ++ post))) (split (length pre) (length m) r after)
    ∙ (get_or-append-add pre (m ++ post) (r - length pre) 0
    ∙ (same_behind m n post (r - length pre) same (rest (length pre) (length m) r after)
    ∙ (sym (get_or-append-add pre (n ++ post) (r - length pre) 0) ∙ ap (slice_index (pre ++ (n ++ post))) (sym (split (length pre) (length m) r after)))))
  where
    split : (a b r : ℕ) → a + b ≤ r → r ≡ a + (r - a)
    split a b r past = omega arith

    rest : (a b r : ℕ) → a + b ≤ r → b ≤ r - a
    rest a b r past = omega arith

pub other_byte : (p : Program) (f g : Target → ℕ) (e b i r : ℕ) (ys : List Target) → InNone (length ys) r
    → slice_index (rows p f e b i ys ++ tail) r ≡ slice_index (rows p g e b i ys ++ tail) r
other_byte p f g e b i r [] none = refl
other_byte p f g e b i r (y ∷ ys) none =
    by_cases (cases_lt r 12)
    (other_byte p f g e b (i + 1) (r - 12) ys)
  where
    entry : (Target → ℕ) → List ℕ
    entry address = entry_bytes e i (address y) (segment_of p y) b

    rest : (Target → ℕ) → List ℕ
    rest address = rows p address e b (i + 1) ys ++ tail

    first : (r < 12 * 0 + 4) ⊎ (12 * 0 + 8 ≤ r) → (r < 4) ⊎ (4 + 4 ≤ r)
    first (inl before) = inl before
    first (inr after) = inr after

    later : 12 ≤ r → InNone (length ys) (r - 12)
    later past k below = one (none (suc k) (omega (arith, below)))
      where
        one : (r < 12 * suc k + 4) ⊎ (12 * suc k + 8 ≤ r) → (r - 12 < 12 * k + 4) ⊎ (12 * k + 8 ≤ r - 12)
        one (inl before) = inl (omega (arith, before, past))
        one (inr after) = inr (omega (arith, after, past))

    split : (r : ℕ) → 12 ≤ r → r ≡ 12 + (r - 12)
    split r past = omega arith

    by_cases : (r < 12) ⊎ (12 ≤ r) → (InNone (length ys) (r - 12) → slice_index (rest f) (r - 12) ≡ slice_index (rest g) (r - 12))
        → slice_index (entry f ++ rest f) r ≡ slice_index (entry g ++ rest g) r
    by_cases (inl inside) others =
        get_or_append_left (entry f) (rest f) 0 r inside
        ∙ (beside_middle (front e i) (big_bytes 4 (f y)) (big_bytes 4 (g y)) (back (segment_of p y) b) r refl (first (none 0 (omega arith)))
        ∙ sym (get_or_append_left (entry g) (rest g) 0 r inside))
    by_cases (inr past) others =
        ap (slice_index (entry f ++ rest f)) (split r past)
        ∙ (get_or-append-add (entry f) (rest f) (r - 12) 0
        ∙ (others (later past)
        ∙ (sym (get_or-append-add (entry g) (rest g) (r - 12) 0) ∙ ap (slice_index (entry g ++ rest g)) (sym (split r past)))))

-- a place is in the address of an entry, or in none
pub which_entry : (n r : ℕ) → ((k : ℕ) × (k < n) × (12 * k + 4 ≤ r) × (r < 12 * k + 8)) ⊎ InNone n r
which_entry zero r = inr (λ k below. absurd (omega (arith, below)))
which_entry (suc n) r = by_cases (which_entry n r) (cases_lt r (12 * n + 4)) (cases_lt r (12 * n + 8))
  where
    with_last : InNone n r → (r < 12 * n + 4) ⊎ (12 * n + 8 ≤ r) → InNone (suc n) r
    with_last none last k below = one (cases_eq k n)
      where
        one : (k ≡ n) ⊎ (k ≡ n → ⊥) → (r < 12 * k + 4) ⊎ (12 * k + 8 ≤ r)
        one (inl same) = subst (λ j. (r < 12 * j + 4) ⊎ (12 * j + 8 ≤ r)) (sym same) last
        one (inr differ) = none k (omega (arith, below, differ))

    by_cases : ((k : ℕ) × (k < n) × (12 * k + 4 ≤ r) × (r < 12 * k + 8)) ⊎ InNone n r → (r < 12 * n + 4) ⊎ (12 * n + 4 ≤ r)
        → (r < 12 * n + 8) ⊎ (12 * n + 8 ≤ r) → ((k : ℕ) × (k < suc n) × (12 * k + 4 ≤ r) × (r < 12 * k + 8)) ⊎ InNone (suc n) r
    by_cases (inl it) low high = inl (it.0, omega (arith, it.1), it.2, it.3)
    by_cases (inr none) (inl before) high = inr (with_last none (inl before))
    by_cases (inr none) (inr from) (inl to) = inl (n, omega arith, from, to)
    by_cases (inr none) (inr from) (inr after) = inr (with_last none (inr after))

length_rows : (p : Program) (address : Target → ℕ) (e b i : ℕ) (ys : List Target) → length (rows p address e b i ys) ≡ 12 * length ys
length_rows p address e b i [] = refl
length_rows p address e b i (y ∷ ys) =
    length-append (entry_bytes e i (address y) (segment_of p y) b) (rows p address e b (i + 1) ys)
    ∙ (ap (λ n. 12 + n) (length_rows p address e b (i + 1) ys) ∙ more (length ys))
  where
    more : (n : ℕ) → 12 + 12 * n ≡ 12 * suc n
    more n = omega arith

-- the length of a table
pub size_of_table : (P : Laid) (address : Target → ℕ) (s : ℕ) → length (entab_bytes P address s) ≡ entab_length (entry_count P s)
size_of_table P address s =
    ap length (table_is P address s)
    ∙ (length-append (head (length (entries_of P s))) (rows P.program address (length (entries_of P s)) s 0 (entries_of P s) ++ tail)
    ∙ (ap (λ n. 8 + n) (length-append (rows P.program address (length (entries_of P s)) s 0 (entries_of P s)) tail
    ∙ ap (λ n. n + 4) (length_rows P.program address (length (entries_of P s)) s 0 (entries_of P s))) ∙ sum (length (entries_of P s))))
  where
    sum : (n : ℕ) → 8 + (12 * n + 4) ≡ 12 * n + 12
    sum n = omega arith
