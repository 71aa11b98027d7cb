-- Symbol items that had no fault, and what stays of them with more items.
use Rattle.std.proofs.Common.{arith, ◌≡◌, ℕ, zero, suc, ◌+◌, ◌-◌, ◌*◌, ◌/◌, ◌<◌, ◌≤◌, Bool, true, false, ◌||◌, ◌==◌, nat_lt, if◌then◌else◌, List, [], ◌∷◌, ◌++◌, map, length, take, drop, get_or, slice_get, Option, Some, None, refl, sym, ap, subst, ◌∙◌}
use Rattle.std.specs.List.{list_any, range_with_len, AllByRecursion}
use Rattle.std.specs.Option.{option_or, option_map_or}
use Rattle.std.proofs.lemmas.List.{append_assoc, append-nil, length-take, length-drop}
use Rattle.pds_directory.specs.declared.entry.Entry.{Entry}
use Rattle.load_recs.specs.declared.items.SymbolKind.{SymbolKind}
use Rattle.load_recs.specs.declared.items.SymbolKind.TheVariants.{Lr}
use Rattle.load_recs.specs.declared.items.SymbolItem.{SymbolItem}
use Rattle.load_recs.specs.declared.items.RldItem.{RldItem}
use Rattle.load_recs.specs.Items.{item_at, symbol_of, symbols_of, is_wrong_symbol, has_wrong_symbol, values_of}
use Rattle.load_recs.specs.ItemBytes.{IsSymbol}
use Rattle.load_recs.proofs.ItemsSpelled.{symbol_spelled}
use Rattle.load_recs.proofs.Spelled as spelled
use Rattle.load_recs.proofs.Spelled.{AreBytes-drop}
use Rattle.member_model.specs.Symbols.{symbol_at, is_address_kind, field_kind, is_register_kind, is_referable_kind}
use Rattle.member_model.specs.Faults.{label_fault, symbol_fault, symbols_fault, fits}
use Rattle.mod_read.specs.Judged.{AreBytes, IsJudgedSymbol, LiesIn, IsJudgedField}
use Rattle.mod_read.proofs.SameFields.{or_left, or_right}

-- ---- lists

pub all_weaker : {X : Type 0} (P Q : X → Type 0) (xs : List X) → ((x : X) → P x → Q x) → AllByRecursion P xs → AllByRecursion Q xs
all_weaker P Q [] f all = tt
all_weaker P Q (x ∷ xs) f all = (f x all.0, all_weaker P Q xs f all.1)

pub all_more : {X : Type 0} (P : X → Type 0) (xs ys : List X) → AllByRecursion P xs → AllByRecursion P ys → AllByRecursion P (xs ++ ys)
all_more P [] ys all more = more
all_more P (x ∷ xs) ys all more = (all.0, all_more P xs ys all.1 more)

pub get_more : {X : Type 0} (xs ys : List X) (k : ℕ) (x : X) → slice_get xs k ≡ Some x → slice_get (xs ++ ys) k ≡ Some x
get_more [] ys k x there = cc
get_more (z ∷ zs) ys zero x there = there
get_more (z ∷ zs) ys (suc k) x there = get_more zs ys k x there

-- ---- item n of more items

pub symbol_more : (symbols more : List SymbolItem) (n : ℕ) (x : SymbolItem) → symbol_at symbols n ≡ Some x → symbol_at (symbols ++ more) n ≡ Some x
symbol_more symbols more n x there = by_number (n == 0) there
  where
    by_number : (t : Bool) → (if t then None else slice_get symbols (n - 1)) ≡ Some x → (if t then None else slice_get (symbols ++ more) (n - 1)) ≡ Some x
    by_number true h = cc
    by_number false h = get_more symbols more (n - 1) x h

label_more : (symbols more : List SymbolItem) (x : SymbolItem) (o : Option SymbolItem) → symbol_at symbols x.length ≡ o → label_fault x o ≡ None → label_fault x (symbol_at (symbols ++ more) x.length) ≡ None
label_more symbols more x None there fine = cc
label_more symbols more x (Some owner) there fine = ap (label_fault x) (symbol_more symbols more x.length owner there) ∙ fine

pub judged_more : (symbols more : List SymbolItem) (x : SymbolItem) → IsJudgedSymbol symbols x → IsJudgedSymbol (symbols ++ more) x
judged_more symbols more x judged = record {
  held = judged.held;
  label = λ is. label_more symbols more x (symbol_at symbols x.length) refl (judged.label is);
}

pub lies_more : (symbols more : List SymbolItem) (number address n : ℕ) → LiesIn symbols number address n → LiesIn (symbols ++ more) number address n
lies_more symbols more number address n lies = record {
  section = lies.section;
  there = symbol_more symbols more number lies.section lies.there;
  text = lies.text;
  from = lies.from;
  to = lies.to;
}

fits_none : (address late : Bool) (o : Option SymbolItem)
    → (if address then false else (late || false)) ≡ true
    → (if address then option_map_or (λ y. is_referable_kind y.kind) o false else (late || option_map_or (λ y. is_register_kind y.kind) o false)) ≡ true
fits_none true late o fine = cc
fits_none false true o fine = refl
fits_none false false o fine = cc

fits_more : (symbols more : List SymbolItem) (x : RldItem) (o : Option SymbolItem) → symbol_at symbols x.r ≡ o → fits x o ≡ true → fits x (symbol_at (symbols ++ more) x.r) ≡ true
fits_more symbols more x None there fine = fits_none (is_address_kind x) (nat_lt 2 (field_kind x)) (symbol_at (symbols ++ more) x.r) fine
fits_more symbols more x (Some y) there fine = ap (fits x) (symbol_more symbols more x.r y there) ∙ fine

pub field_more : (symbols more : List SymbolItem) (x : RldItem) → IsJudgedField symbols x → IsJudgedField (symbols ++ more) x
field_more symbols more x judged = record {
  lies = lies_more symbols more _ _ _ judged.lies;
  symbol = fits_more symbols more x (symbol_at symbols x.r) refl judged.symbol;
  flag = judged.flag;
}

-- ---- the items of a record

byte_at : (b : ℕ) (rest : List ℕ) (i : ℕ) → b < 256 → spelled.AreBytes rest → get_or (b ∷ rest) i 0 < 256
byte_at b rest zero first later = first
byte_at b rest (suc i) first later = later i

pub each_byte : (bytes : List ℕ) → spelled.AreBytes bytes → AreBytes bytes
each_byte [] small = tt
each_byte (b ∷ bytes) small = (small 0, each_byte bytes (λ i. small (suc i)))

pub spelled_bytes : (bytes : List ℕ) → AreBytes bytes → spelled.AreBytes bytes
spelled_bytes [] all = λ i. omega arith
spelled_bytes (b ∷ bytes) all = λ i. byte_at b bytes i all.0 (spelled_bytes bytes all.1)

take_bytes : (n : ℕ) (bytes : List ℕ) → spelled.AreBytes bytes → spelled.AreBytes (take n bytes)
take_bytes zero bytes small = λ i. omega arith
take_bytes (suc n) [] small = λ i. omega arith
take_bytes (suc n) (b ∷ bytes) small = λ i. byte_at b (take n bytes) i (small 0) (take_bytes n bytes (λ j. small (suc j)))

item_length : (k : ℕ) (items : List ℕ) → k < length items / 16 → length (item_at 16 k items) ≡ 16
item_length k items within =
    let size : length (take 16 (drop (16 * k) items)) ≡ _ = length-take 16 (drop (16 * k) items) in
    omega (arith, size, length-drop (16 * k) items)

all_held : (items : List ℕ) → spelled.AreBytes items → (a n : ℕ) → a + n ≤ length items / 16
    → list_any (λ k. is_wrong_symbol (item_at 16 k items)) (range_with_len a n) ≡ false
    → AllByRecursion IsSymbol (map (λ k. symbol_of (item_at 16 k items)) (range_with_len a n))
all_held items fits a zero within fine = tt
all_held items fits a (suc n) within fine = (
  (symbol_spelled (item_at 16 a items) (item_length a items (omega arith)) (take_bytes 16 (drop (16 * a) items) (AreBytes-drop (16 * a) items fits))
      (or_left (is_wrong_symbol (item_at 16 a items)) _ fine)).0,
  all_held items fits (a + 1) n (omega arith) (or_right (is_wrong_symbol (item_at 16 a items)) _ fine),
)

pub symbols_held : (items : List ℕ) → spelled.AreBytes items → has_wrong_symbol items ≡ false → AllByRecursion IsSymbol (symbols_of items)
unfolding values_of
symbols_held items fits fine = all_held items fits 0 (length items / 16) (omega arith) fine

-- ---- one item after the other

pub or_none_left : {X : Type 0} (x y : Option X) → option_or x y ≡ None → x ≡ None
or_none_left None y h = refl
or_none_left (Some f) y h = h

pub or_none_right : {X : Type 0} (x y : Option X) → option_or x y ≡ None → y ≡ None
or_none_right None y h = h
or_none_right (Some f) y h = cc

label_of : (e : Entry) (before : List SymbolItem) (x : SymbolItem) (kind : SymbolKind) → symbol_fault e before x kind ≡ None → kind ≡ Lr → label_fault x (symbol_at before x.length) ≡ None
label_of e before x kind fine is = subst (λ k. symbol_fault e before x k ≡ None) is fine

pub symbols_judged : (e : Entry) (before xs : List SymbolItem) → symbols_fault e before xs ≡ None → AllByRecursion IsSymbol xs
    → AllByRecursion (IsJudgedSymbol before) before → AllByRecursion (IsJudgedSymbol (before ++ xs)) (before ++ xs)
symbols_judged e before [] fine held judged = subst (λ ys. AllByRecursion (IsJudgedSymbol ys) ys) (sym (append-nil before)) judged
symbols_judged e before (x ∷ xs) fine held judged =
    let first : symbol_fault e before x x.kind ≡ None = or_none_left (symbol_fault e before x x.kind) _ fine in
    let later : symbols_fault e (before ++ x ∷ []) xs ≡ None = or_none_right (symbol_fault e before x x.kind) _ fine in
    let one : IsJudgedSymbol before x = record { held = held.0; label = label_of e before x x.kind first } in
    let more : AllByRecursion (IsJudgedSymbol (before ++ x ∷ [])) (before ++ x ∷ []) =
    all_more (IsJudgedSymbol (before ++ x ∷ [])) before (x ∷ [])
    (all_weaker (IsJudgedSymbol before) (IsJudgedSymbol (before ++ x ∷ [])) before (judged_more before (x ∷ [])) judged)
    (judged_more before (x ∷ []) x one, tt) in
    subst (λ ys. AllByRecursion (IsJudgedSymbol ys) ys) (append_assoc before (x ∷ []) xs) (symbols_judged e (before ++ x ∷ []) xs later held.1 more)
