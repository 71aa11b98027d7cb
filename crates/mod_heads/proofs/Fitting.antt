-- Items are such that a record can hold them.
use Rattle.std.proofs.Common.{◌≡◌, ℕ, zero, suc, ◌+◌, ◌-◌, ◌*◌, ◌/◌, ◌%◌, ◌^◌, ◌<◌, ◌≤◌, Bool, false, min, List, [], ◌∷◌, ◌++◌, map, length, take, drop, All, get_or, refl, sym, ap, subst, ◌∙◌, arith, append_assoc}
use Rattle.std.specs.List.{range_with_len, list_any}
use Rattle.std.proofs.lemmas.List.{length-append, length-map, length-take, length-drop, take_at, take_all, take-take, drop-drop, drop-take, drop_more, get_or-map, map-append}
use Rattle.std.proofs.lemmas.List.FromFn.{map-range_with_len_more}
use Rattle.std.proofs.lemmas.List.Elements.{All-map, All-push, All-weaker}
use Rattle.byteorder.specs.Endian.{big_bytes}
use Rattle.load_recs.specs.Items.{item_at, is_wrong_symbol, has_wrong_symbol}
use Rattle.load_recs.specs.ItemBytes.{symbol_bytes, IsSymbol}
use Rattle.load_recs.specs.Records.{AreItems, IsRecord, head_record, rec_bytes}
use Rattle.load_recs.specs.declared.items.SymbolItem.{SymbolItem}
use Rattle.load_recs.proofs.ItemsAgain.{symbol_accepted}
use Rattle.member_model.specs.Cuts.{together}
use Rattle.mod_heads.specs.declared.cutting.Kind.{Kind}
use Rattle.mod_heads.specs.declared.cutting.Kind.TheVariants.{Symbol, Scatter, Translation, Note}
use Rattle.mod_heads.specs.Cut.{record_as, size_of, most_in, cut_record, cut_records, AreProper, AreItemsOf}
use Rattle.mod_segments.specs.Records.{IsStored}
use Rattle.mod_heads.proofs.Cuts.{HaveSize, together-drop, together-long}

-- ---- whole items

remains_none : (kind : Kind) (n l : ℕ) → l ≡ size_of kind * n → l % size_of kind ≡ 0
remains_none Symbol n l is = omega arith
remains_none Scatter n l is = omega arith
remains_none Translation n l is = omega arith
remains_none Note n l is = omega arith

fit_most : (kind : Kind) (n l : ℕ) → l ≡ size_of kind * n → n ≤ 32767 → l ≤ size_of kind * 32767
fit_most Symbol n l is few = omega arith
fit_most Scatter n l is few = omega arith
fit_most Translation n l is few = omega arith
fit_most Note n l is few = omega arith

pub are_items : (kind : Kind) (items : List (List ℕ)) → HaveSize (size_of kind) items → length items ≤ 32767 → AreProper kind (together items)
    → AreItemsOf kind (together items)
are_items kind items sized few proper = record {
  whole = remains_none kind (length items) (length (together items)) (together-long (size_of kind) items sized);
  few = fit_most kind (length items) (length (together items)) (together-long (size_of kind) items sized) few;
  proper = proper;
}

-- ---- symbols

symbol_size : (x : SymbolItem) → IsSymbol x → length (symbol_bytes x) ≡ 16
symbol_size x is = length-append x.name.0 _ ∙ ap (λ n. n + 8) is.name

pub symbols_sized : (items : List SymbolItem) → All IsSymbol items → HaveSize 16 (map symbol_bytes items)
symbols_sized items all =
    All-map (λ y. length y ≡ 16) symbol_bytes items (All-weaker IsSymbol (λ x. length (symbol_bytes x) ≡ 16) symbol_size items all)

symbol_cut : (items : List SymbolItem) (k : ℕ) (d : SymbolItem) → All IsSymbol items → k < length items
    → item_at 16 k (together (map symbol_bytes items)) ≡ symbol_bytes (get_or items k d)
symbol_cut items k d all within =
    let split : drop k (map symbol_bytes items) ≡ symbol_bytes (get_or items k d) ∷ drop (k + 1) (map symbol_bytes items) =
    drop_more (map symbol_bytes items) k (symbol_bytes d) (omega (arith, within, length-map items symbol_bytes))
    ∙ ap (λ y. y ∷ drop (k + 1) (map symbol_bytes items)) (get_or-map symbol_bytes items k d (symbol_bytes d) within) in
    ap (take 16) (sym (together-drop 16 k (map symbol_bytes items) (symbols_sized items all)) ∙ ap together split)
    ∙ take_at (symbol_bytes (get_or items k d)) (together (drop (k + 1) (map symbol_bytes items))) 16 (symbol_size (get_or items k d) (all k d within))

pub symbols_proper : (items : List SymbolItem) → All IsSymbol items → AreProper Symbol (together (map symbol_bytes items))
symbols_proper items all = λ k inside. by_list items refl k inside
  where
    by_list : (xs : List SymbolItem) → xs ≡ items → (k : ℕ) → 16 * k + 16 ≤ length (together (map symbol_bytes items))
        → is_wrong_symbol (item_at 16 k (together (map symbol_bytes items))) ≡ false
    by_list [] is k inside = absurd (omega (arith, inside, together-long 16 (map symbol_bytes items) (symbols_sized items all), length-map items symbol_bytes, ap length is))
    by_list (x ∷ xs) is k inside =
        let within : k < length items = omega (arith, inside, together-long 16 (map symbol_bytes items) (symbols_sized items all), length-map items symbol_bytes) in
        rw (symbol_cut items k x all within) (symbol_accepted (get_or items k x) (all k x within))

-- ---- one record

none_any : (p : ℕ → Bool) (a n : ℕ) → ((j : ℕ) → j < a + n → p j ≡ false) → list_any p (range_with_len a n) ≡ false
none_any p a zero each = refl
none_any p a (suc n) each = rw (each a (omega arith)) (none_any p (a + 1) n (λ j low. each j (omega (arith, low))))

chunk_item : (items : List ℕ) (k j i : ℕ) → 16 * j + 16 ≤ 240 → i ≡ 15 * k + j → item_at 16 j (take 240 (drop (240 * k) items)) ≡ item_at 16 i items
chunk_item items k j i low is =
    let parted : 16 * j + (240 - 16 * j) ≡ 240 = omega arith in
    let place : 240 * k + 16 * j ≡ 16 * i = omega arith in
    ap (λ m. take 16 (drop (16 * j) (take m (drop (240 * k) items)))) (sym parted)
    ∙ (ap (take 16) (drop-take (16 * j) (240 - 16 * j) (drop (240 * k) items))
    ∙ (take-take 16 (240 - 16 * j) (drop (16 * j) (drop (240 * k) items)) (omega (arith, low))
    ∙ (ap (take 16) (drop-drop (16 * j) (240 * k) items) ∙ ap (λ m. take 16 (drop m items)) place)))

chunk_proper : (items : List ℕ) (k : ℕ) → AreProper Symbol items → has_wrong_symbol (take 240 (drop (240 * k) items)) ≡ false
chunk_proper items k proper =
    none_any (λ j. is_wrong_symbol (item_at 16 j (take 240 (drop (240 * k) items)))) 0 (length (take 240 (drop (240 * k) items)) / 16)
    (λ j low.
    let long : length (take 240 (drop (240 * k) items)) ≡ min 240 (length items - 240 * k) = length-take 240 (drop (240 * k) items) ∙ ap (min 240) (length-drop (240 * k) items) in
    let within : 16 * j + 16 ≤ 240 = omega (arith, low, long) in
    let inside : 16 * (15 * k + j) + 16 ≤ length items = omega (arith, low, long) in
    rw (chunk_item items k j (15 * k + j) within refl) (proper (15 * k + j) inside))

chunk_long : (items : List ℕ) (k : ℕ) → length (take 240 (drop (240 * k) items)) ≡ min 240 (length items - 240 * k)
chunk_long items k = length-take 240 (drop (240 * k) items) ∙ ap (min 240) (length-drop (240 * k) items)

chunk_of : (size most n k c : ℕ) → c ≡ min 240 (n - 240 * k) → k < (n + 239) / 240 → n ≤ size * 32767 → k * most + 1 < 2 ^ 16 → c % size ≡ 0
    → (bytes : List ℕ) → length bytes ≡ c → AreItems size (k * most + 1) bytes
chunk_of size most n k c is low few first whole bytes long = record {
  numbered = first;
  some = omega (arith, is, low, long);
  most = omega (arith, is, long);
  whole = ap (λ m. m % size) long ∙ whole;
}

pub chunk_is_record : (kind : Kind) (items : List ℕ) (k : ℕ) → AreItemsOf kind items → k < (length items + 239) / 240
    → IsRecord (record_as kind (k * most_in kind + 1) (take 240 (drop (240 * k) items)))
chunk_is_record Symbol items k are low = (
  chunk_of 16 15 (length items) k _ refl low are.few (omega (arith, low, are.few)) (omega (arith, low, are.whole)) (take 240 (drop (240 * k) items)) (chunk_long items k),
  chunk_proper items k are.proper,
)
chunk_is_record Scatter items k are low =
    chunk_of 4 60 (length items) k _ refl low are.few (omega (arith, low, are.few)) (omega (arith, low, are.whole)) (take 240 (drop (240 * k) items)) (chunk_long items k)
chunk_is_record Translation items k are low =
    chunk_of 2 120 (length items) k _ refl low are.few (omega (arith, low, are.few)) (omega (arith, low, are.whole)) (take 240 (drop (240 * k) items)) (chunk_long items k)
chunk_is_record Note items k are low =
    chunk_of 12 20 (length items) k _ refl low are.few (omega (arith, low, are.few)) (omega (arith, low, are.whole)) (take 240 (drop (240 * k) items)) (chunk_long items k)

-- no items have more bytes than symbols
pub few_bytes : (kind : Kind) (items : List ℕ) → AreItemsOf kind items → length items ≤ 524272
few_bytes Symbol items are = omega (arith, are.few)
few_bytes Scatter items are = omega (arith, are.few)
few_bytes Translation items are = omega (arith, are.few)
few_bytes Note items are = omega (arith, are.few)

head_long : (a b c : ℕ) (items : List ℕ) → length (head_record a b c items) ≡ 8 + length items
head_long a b c items = omega arith

stored : (a b c : ℕ) (items : List ℕ) → length items ≤ 240 → IsStored (head_record a b c items)
stored a b c items most = record { some = omega (arith, head_long a b c items); most = omega (arith, head_long a b c items, most) }

-- a record of items is such that a library can hold it
pub record_stored : (kind : Kind) (first : ℕ) (items : List ℕ) → IsRecord (record_as kind first items) → IsStored (rec_bytes (record_as kind first items))
record_stored Symbol first items is = stored 32 0 first items is.0.most
record_stored Scatter first items is = stored 16 1 first items is.most
record_stored Translation first items is = stored 16 2 first items is.most
record_stored Note first items is = stored 96 0 first items is.most

-- what is left of the bytes is the next record's where it is no more than a record holds
pub cut_short : (items : List ℕ) (from n : ℕ) → length items - from ≤ n → take (length items - from) (drop from items) ≡ take n (drop from items)
cut_short items from n short =
    take_all (length items - from) (drop from items) (omega (arith, length-drop from items))
    ∙ sym (take_all n (drop from items) (omega (arith, length-drop from items, short)))

-- one record more
pub record_more : (kind : Kind) (items : List ℕ) (k : ℕ) (out old new : List (List ℕ)) (r chunk : List ℕ) → chunk ≡ take 240 (drop (240 * k) items)
    → r ≡ rec_bytes (record_as kind (k * most_in kind + 1) chunk)
    → old ≡ out ++ map rec_bytes (map (cut_record kind items) (range_with_len 0 k)) → new ≡ old ++ r ∷ []
    → new ≡ out ++ map rec_bytes (map (cut_record kind items) (range_with_len 0 (k + 1)))
record_more kind items k out old new r chunk cut made was now =
    now ∙ (ap (λ l. l ++ r ∷ []) was
    ∙ (append_assoc out (map rec_bytes (map (cut_record kind items) (range_with_len 0 k))) (r ∷ [])
    ∙ ap (λ l. out ++ l)
    (ap (λ x. map rec_bytes (map (cut_record kind items) (range_with_len 0 k)) ++ x ∷ []) (made ∙ ap (λ l. rec_bytes (record_as kind (k * most_in kind + 1) l)) cut)
    ∙ (sym (map-append rec_bytes (map (cut_record kind items) (range_with_len 0 k)) (cut_record kind items k ∷ []))
    ∙ ap (map rec_bytes) (sym (map-range_with_len_more (cut_record kind items) 0 k k (omega arith)))))))

pub records_all : (kind : Kind) (items : List ℕ) (k : ℕ) (out new : List (List ℕ)) → k ≡ (length items + 239) / 240
    → new ≡ out ++ map rec_bytes (map (cut_record kind items) (range_with_len 0 k)) → new ≡ out ++ map rec_bytes (cut_records kind items)
unfolding cut_records
records_all kind items k out new all was = was ∙ ap (λ n. out ++ map rec_bytes (map (cut_record kind items) (range_with_len 0 n))) all

pub stored_more : (old new : List (List ℕ)) (r : List ℕ) → All IsStored old → IsStored r → new ≡ old ++ r ∷ [] → All IsStored new
stored_more old new r all is now = rw now (All-push IsStored old r all is)
