-- The bytes of items are those of a member's records.
use Rattle.std.proofs.Common.{◌≡◌, ℕ, zero, suc, ◌+◌, ◌/◌, ◌≤◌, Bool, true, false, List, [], ◌∷◌, ◌++◌, map, length, replicate, All, refl, sym, ap, subst, ◌∙◌, arith, append_assoc, append-nil}
use Rattle.std.proofs.lemmas.List.{length-append, length-map, map-append}
use Rattle.std.proofs.lemmas.List.Elements.{All-map}
use Rattle.byteorder.specs.Endian.{big_bytes}
use Rattle.load_recs.specs.ItemBytes.{symbol_bytes, note_bytes, IsSymbol}
use Rattle.load_recs.specs.Records.{Record, rec_bytes}
use Rattle.load_recs.specs.declared.items.SymbolItem.{SymbolItem}
use Rattle.sym_mod.specs.declared.program.Label.{Label}
use Rattle.linking_model.specs.Places.{Laid}
use Rattle.member_model.specs.Cuts.{together}
use Rattle.member_model.specs.Parts.{OneSection, parts, part_place, part_number}
use Rattle.member_model.specs.SymbolList.{head_records, symbols_written, part_symbol, label_symbol, unresolved_symbol, register_symbol, symbol_records, scatter_items, translation_numbers, scatter_records, first_records}
use Rattle.member_model.specs.Written.{note_item, note_items, note_record_count, note_records}
use Rattle.std.specs.List.{enumerate_from}
use Rattle.std.proofs.lemmas.List.FromFn.{length-enumerate_from}
use Rattle.mod_parts.specs.Listed.{CanBeListed}
use Rattle.mod_parts.proofs.Counted.{few_parts, few_items}
use Rattle.mod_heads.specs.declared.cutting.Kind.TheVariants.{Symbol, Scatter, Translation, Note}
use Rattle.mod_heads.specs.Cut.{record_as, cut_records, AreItemsOf}
use Rattle.mod_heads.specs.Noted.{notes_by}
use Rattle.mod_heads.proofs.Cuts.{HaveSize, heads_are}
use Rattle.mod_heads.proofs.Fitting.{are_items, symbols_sized, symbols_proper}
use Rattle.mod_heads.proofs.Summed.{notes_from, notes_counted, notes_long}

-- ---- symbols

three_long : {X : Type 0} (a b c : List X) → length (a ++ b ++ c) ≡ length a + (length b + length c)
three_long a b c = omega (arith, length-append (a ++ b) c, length-append a b)

four_long : {X : Type 0} (a b c d : List X) → length (a ++ b ++ c ++ d) ≡ length a + (length b + (length c + length d))
four_long a b c d = omega (arith, length-append (a ++ b ++ c) d, three_long a b c)

same_three : (a b c k m n : ℕ) → a ≡ k → b ≡ m → c ≡ n → a + (b + c) ≡ k + (m + n)
same_three a b c k m n ak bm cn = omega arith

same_four : (a b c d k l m n : ℕ) → a ≡ k → b ≡ l → c ≡ m → d ≡ n → a + (b + (c + d)) ≡ k + (l + (m + n))
same_four a b c d k l m n ak bl cm dn = omega arith

symbols_counted : (P : Laid) → length (symbols_written P) ≡ length (parts P) + (length P.program.labels + (length P.program.unresolved + length P.program.registers))
unfolding symbols_written
symbols_counted P =
    four_long (map (part_symbol P) (parts P)) (map (label_symbol P) P.program.labels) (map unresolved_symbol P.program.unresolved)
    (map (register_symbol P.program.registers) (enumerate_from 0 P.program.registers))
    ∙ same_four _ _ _ _ _ _ _ _ (length-map (parts P) (part_symbol P)) (length-map P.program.labels (label_symbol P))
    (length-map P.program.unresolved unresolved_symbol)
    (length-map (enumerate_from 0 P.program.registers) (register_symbol P.program.registers) ∙ length-enumerate_from 0 P.program.registers)

few_symbols : (P : Laid) → CanBeListed P → length (symbols_written P) ≤ 32767
few_symbols P can = omega (arith, symbols_counted P, few_items P can)

pub symbols_fit : (P : Laid) (items shown : List SymbolItem) (bytes given : List ℕ) → CanBeListed P → items ≡ symbols_written P → All IsSymbol items → shown ≡ items
    → bytes ≡ together (map symbol_bytes shown) → given ≡ bytes → AreItemsOf Symbol given
symbols_fit P items shown bytes given can written proper show is give =
    let few : length items ≤ 32767 = omega (arith, ap length written, few_symbols P can) in
    subst (AreItemsOf Symbol) (sym (give ∙ (is ∙ ap (λ l. together (map symbol_bytes l)) show)))
    (are_items Symbol (map symbol_bytes items) (symbols_sized items proper) (omega (arith, few, length-map items symbol_bytes)) (symbols_proper items proper))

pub symbols_whole : (P : Laid) (items shown : List SymbolItem) (bytes given : List ℕ) (old new : List (List ℕ)) → items ≡ symbols_written P → All IsSymbol items
    → shown ≡ items → bytes ≡ together (map symbol_bytes shown) → given ≡ bytes → new ≡ old ++ map rec_bytes (cut_records Symbol given)
    → new ≡ old ++ map rec_bytes (symbol_records P)
symbols_whole P items shown bytes given old new written proper show is give now =
    now ∙ ap (λ l. old ++ map rec_bytes l)
    (ap (cut_records Symbol) (give ∙ (is ∙ ap (λ l. together (map symbol_bytes l)) show))
    ∙ (sym (heads_are Symbol (map symbol_bytes items) (symbols_sized items proper)) ∙ ap (λ l. head_records (record_as Symbol) 15 (map symbol_bytes l)) written))

-- ---- scatter and translation items

scatter_sized : (P : Laid) → HaveSize 4 (scatter_items P)
scatter_sized P = All-map (λ y. length y ≡ 4) (λ x. 0 ∷ big_bytes 3 (part_place P x)) (parts P) (λ k d low. refl)

translation_sized : (P : Laid) → HaveSize 2 (map (big_bytes 2) (translation_numbers P))
translation_sized P = All-map (λ y. length y ≡ 2) (big_bytes 2) (translation_numbers P) (λ k d low. refl)

pub scatter_fit : (P : Laid) (bytes given : List ℕ) → CanBeListed P → bytes ≡ together (scatter_items P) → given ≡ bytes → AreItemsOf Scatter given
scatter_fit P bytes given can is give =
    subst (AreItemsOf Scatter) (sym (give ∙ is))
    (are_items Scatter (scatter_items P) (scatter_sized P) (omega (arith, few_parts P can, length-map (parts P) (λ x. 0 ∷ big_bytes 3 (part_place P x)))) tt)

length-zeros : (n : ℕ) → length (replicate {A = ℕ} n 0) ≡ n
length-zeros zero = refl
length-zeros (suc n) = ap (λ k. suc k) (length-zeros n)

translation_counted : (P : Laid) → length (translation_numbers P) ≡ length (parts P) + (length P.program.labels + (length P.program.unresolved + length P.program.registers))
translation_counted P =
    three_long (map (part_number P) (parts P)) (map (λ (x : Label). part_number P (OneSection x.section)) P.program.labels) (replicate (length P.program.unresolved + length P.program.registers) 0)
    ∙ same_three _ _ _ _ _ _ (length-map (parts P) (part_number P)) (length-map P.program.labels (λ (x : Label). part_number P (OneSection x.section)))
    (length-zeros (length P.program.unresolved + length P.program.registers))

pub translation_fit : (P : Laid) (bytes given : List ℕ) → CanBeListed P → bytes ≡ together (map (big_bytes 2) (translation_numbers P)) → given ≡ bytes → AreItemsOf Translation given
translation_fit P bytes given can is give =
    subst (AreItemsOf Translation) (sym (give ∙ is))
    (are_items Translation (map (big_bytes 2) (translation_numbers P)) (translation_sized P)
    (omega (arith, few_items P can, length-map (translation_numbers P) (big_bytes 2), translation_counted P)) tt)

pub scatter_whole : (P : Laid) (a given b shown : List ℕ) (old mid new : List (List ℕ)) → a ≡ together (scatter_items P) → given ≡ a
    → b ≡ together (map (big_bytes 2) (translation_numbers P)) → shown ≡ b → mid ≡ old ++ map rec_bytes (cut_records Scatter given)
    → new ≡ mid ++ map rec_bytes (cut_records Translation shown) → new ≡ old ++ map rec_bytes (scatter_records P)
scatter_whole P a given b shown old mid new is give next show was now =
    let first : cut_records Scatter given ≡ head_records (record_as Scatter) 60 (scatter_items P) =
    ap (cut_records Scatter) (give ∙ is) ∙ sym (heads_are Scatter (scatter_items P) (scatter_sized P)) in
    let second : cut_records Translation shown ≡ head_records (record_as Translation) 120 (map (big_bytes 2) (translation_numbers P)) =
    ap (cut_records Translation) (show ∙ next) ∙ sym (heads_are Translation (map (big_bytes 2) (translation_numbers P)) (translation_sized P)) in
    now ∙ (ap (λ l. l ++ map rec_bytes (cut_records Translation shown)) was
    ∙ (append_assoc old (map rec_bytes (cut_records Scatter given)) (map rec_bytes (cut_records Translation shown))
    ∙ ap (λ l. old ++ l)
    (sym (map-append rec_bytes (cut_records Scatter given) (cut_records Translation shown))
    ∙ (ap (λ l. map rec_bytes (l ++ cut_records Translation shown)) first ∙ ap (λ l. map rec_bytes (head_records (record_as Scatter) 60 (scatter_items P) ++ l)) second))))

-- ---- the records before the note list

pub firsts_plain : (P : Laid) (scatter : Bool) (none records : List (List ℕ)) → scatter ≡ false → none ≡ [] → records ≡ none ++ map rec_bytes (symbol_records P)
    → records ≡ map rec_bytes (first_records P scatter)
unfolding first_records
firsts_plain P scatter none records plain empty is =
    is ∙ (ap (λ l. l ++ map rec_bytes (symbol_records P)) empty
    ∙ (ap (map rec_bytes) (sym (append-nil (symbol_records P))) ∙ ap (λ t. map rec_bytes (first_records P t)) (sym plain)))

pub firsts_scattered : (P : Laid) (scatter : Bool) (none symbols records : List (List ℕ)) → scatter ≡ true → none ≡ [] → symbols ≡ none ++ map rec_bytes (symbol_records P)
    → records ≡ symbols ++ map rec_bytes (scatter_records P) → records ≡ map rec_bytes (first_records P scatter)
unfolding first_records
firsts_scattered P scatter none symbols records scattered empty was is =
    is ∙ (ap (λ l. l ++ map rec_bytes (scatter_records P)) (was ∙ ap (λ l. l ++ map rec_bytes (symbol_records P)) empty)
    ∙ (sym (map-append rec_bytes (symbol_records P) (scatter_records P)) ∙ ap (λ t. map rec_bytes (first_records P t)) (sym scattered)))

-- ---- notes

notes_sized : (P : Laid) (number : ℕ) (counts : List ℕ) → HaveSize 12 (map note_bytes (notes_by P number 1 counts))
notes_sized P number counts = All-map (λ y. length y ≡ 12) note_bytes (notes_by P number 1 counts) (λ k d low. refl)

pub notes_fit : (P : Laid) (number : ℕ) (counts bytes given : List ℕ) → length counts ≤ 255 → bytes ≡ notes_from P number 1 counts → given ≡ bytes → AreItemsOf Note given
notes_fit P number counts bytes given few is give =
    subst (AreItemsOf Note) (sym (give ∙ is))
    (are_items Note (map note_bytes (notes_by P number 1 counts)) (notes_sized P number counts)
    (omega (arith, few, length-map (notes_by P number 1 counts) note_bytes, notes_long P number 1 counts)) tt)

pub notes_whole : (P : Laid) (before : ℕ) (counts bytes given : List ℕ) (none records : List (List ℕ)) → bytes ≡ notes_from P (before + note_record_count P + 1) 1 counts
    → given ≡ bytes → none ≡ [] → records ≡ none ++ map rec_bytes (cut_records Note given)
    → (segs : List (List Record)) → map length segs ≡ counts → records ≡ map rec_bytes (note_records P before segs)
notes_whole P before counts bytes given none records is give empty now segs each =
    now ∙ (ap (λ l. l ++ map rec_bytes (cut_records Note given)) empty
    ∙ (ap (λ b. map rec_bytes (cut_records Note b)) (give ∙ is)
    ∙ (ap (map rec_bytes) (sym (heads_are Note (map note_bytes (notes_by P (before + note_record_count P + 1) 1 counts)) (notes_sized P (before + note_record_count P + 1) counts)))
    ∙ ap (λ l. map rec_bytes (head_records (record_as Note) 20 (map note_bytes l)))
    (sym (notes_counted P (before + note_record_count P + 1) 1 segs ∙ ap (notes_by P (before + note_record_count P + 1) 1) each)))))
