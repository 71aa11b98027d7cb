-- Bytes of items, one item or one list of items after another.
use Rattle.std.proofs.Common.{◌≡◌, ℕ, suc, ◌+◌, ◌/◌, ◌%◌, ◌<◌, ◌≤◌, List, [], ◌∷◌, ◌++◌, map, flat_map, length, take, drop, replicate, get_or, refl, sym, ap, subst, ◌∙◌, arith, append_assoc, append-nil}
use Rattle.std.specs.List.{range_with_len}
use Rattle.std.proofs.lemmas.List.{map-append, map_more, drop_more, drop_all, take_more, take_all}
use Rattle.std.proofs.lemmas.List.Concat.{flat_map-append}
use Rattle.load_recs.specs.Records.{Record}
use Rattle.load_recs.specs.ItemBytes.{note_bytes}
use Rattle.byteorder.specs.Endian.{big_bytes}
use Rattle.sym_mod.specs.declared.program.Label.{Label}
use Rattle.linking_model.specs.Places.{Laid}
use Rattle.member_model.specs.Cuts.{together}
use Rattle.member_model.specs.Parts.{Part as Piece, OneSection, parts, parts_in, part_place, part_number}
use Rattle.member_model.specs.SymbolList.{translation_numbers}
use Rattle.member_model.specs.Written.{note_item, note_items}
use Rattle.mod_parts.specs.declared.part.Part.{Part}
use Rattle.mod_parts.specs.Seen.{seen}
use Rattle.mod_parts.proofs.Bucketed.{flat_range_more}
use Rattle.mod_heads.specs.Noted.{notes_by}

pub together-append : {X : Type 0} (f : X → List ℕ) (xs ys : List X) → together (map f (xs ++ ys)) ≡ together (map f xs) ++ together (map f ys)
together-append f xs ys = ap together (map-append f xs ys) ∙ flat_map-append (λ x. x) (map f xs) (map f ys)

-- one item more
pub item_more : {X : Type 0} (f : X → List ℕ) (xs : List X) (i : ℕ) (d : X) (out old new : List ℕ) → i < length xs
    → old ≡ out ++ together (map f (take i xs)) → new ≡ old ++ f (get_or xs i d) → new ≡ out ++ together (map f (take (i + 1) xs))
item_more f xs i d out old new low was is =
    is ∙ (ap (λ l. l ++ f (get_or xs i d)) was
    ∙ (append_assoc out (together (map f (take i xs))) (f (get_or xs i d))
    ∙ ap (λ l. out ++ l)
    (ap (λ l. together (map f (take i xs)) ++ l) (sym (append-nil (f (get_or xs i d))))
    ∙ (sym (together-append f (take i xs) (get_or xs i d ∷ [])) ∙ ap (λ l. together (map f l)) (sym (take_more xs i d low))))))

pub items_all : {X : Type 0} (f : X → List ℕ) (xs : List X) (i : ℕ) (out new : List ℕ) → length xs ≤ i
    → new ≡ out ++ together (map f (take i xs)) → new ≡ out ++ together (map f xs)
items_all f xs i out new all was = was ∙ ap (λ l. out ++ together (map f l)) (take_all i xs all)

-- ---- parts and labels

-- the bytes of a scatter item
abbrev pub address_bytes : Laid → Piece → List ℕ
address_bytes P x = 0 ∷ big_bytes 3 (part_place P x)

-- the bytes of the translation item of a part
abbrev pub number_bytes : Laid → Piece → List ℕ
number_bytes P x = big_bytes 2 (part_number P x)

-- the bytes of the translation item of a label
abbrev pub label_bytes : Laid → Label → List ℕ
label_bytes P x = big_bytes 2 (part_number P (OneSection x.section))

-- one part more
pub part_more : (f : Piece → List ℕ) (xs : List Part) (i : ℕ) (d : Part) (out old new : List ℕ) → i < length xs
    → old ≡ out ++ together (map f (map seen (take i xs))) → new ≡ old ++ f (seen (get_or xs i d))
    → new ≡ out ++ together (map f (map seen (take (i + 1) xs)))
part_more f xs i d out old new low was is =
    is ∙ (ap (λ l. l ++ f (seen (get_or xs i d))) was
    ∙ (append_assoc out (together (map f (map seen (take i xs)))) (f (seen (get_or xs i d)))
    ∙ ap (λ l. out ++ l)
    (ap (λ l. together (map f (map seen (take i xs))) ++ l) (sym (append-nil (f (seen (get_or xs i d)))))
    ∙ (sym (together-append f (map seen (take i xs)) (seen (get_or xs i d) ∷ [])) ∙ ap (λ l. together (map f l)) (sym (map_more seen xs i d low))))))

pub parts_all : (f : Piece → List ℕ) (xs : List Part) (i : ℕ) (out new : List ℕ) → length xs ≤ i
    → new ≡ out ++ together (map f (map seen (take i xs))) → new ≡ out ++ together (map f (map seen xs))
parts_all f xs i out new all was = was ∙ ap (λ l. out ++ together (map f (map seen l))) (take_all i xs all)

-- one label more
pub label_more : (P : Laid) (shown : List Label) (i : ℕ) (d : Label) (out old new : List ℕ) → shown ≡ P.program.labels → i < length shown
    → old ≡ out ++ together (map (label_bytes P) (take i P.program.labels)) → new ≡ old ++ label_bytes P (get_or shown i d)
    → new ≡ out ++ together (map (label_bytes P) (take (i + 1) P.program.labels))
label_more P shown i d out old new same low was is =
    item_more (label_bytes P) P.program.labels i d out old new (subst (λ (l : List Label). i < length l) same low) was (is ∙ ap (λ l. old ++ label_bytes P (get_or l i d)) same)

-- the parts of one segment more
pub segment_bytes_more : (P : Laid) (f : Piece → List ℕ) (i m : ℕ) (parts : List Piece) (old new : List ℕ) → m ≡ i + 1
    → old ≡ together (map f (flat_map (parts_in P) (range_with_len 1 i))) → parts ≡ parts_in P m → new ≡ old ++ together (map f parts)
    → new ≡ together (map f (flat_map (parts_in P) (range_with_len 1 m)))
segment_bytes_more P f i m parts old new next was are now =
    now ∙ (ap (λ l. l ++ together (map f parts)) was
    ∙ (ap (λ l. together (map f (flat_map (parts_in P) (range_with_len 1 i))) ++ together (map f l)) are
    ∙ (sym (together-append f (flat_map (parts_in P) (range_with_len 1 i)) (parts_in P m))
    ∙ ap (λ l. together (map f l)) (sym (flat_range_more (parts_in P) i m next)))))

mapped : {X : Type 0} (f : ℕ → List ℕ) (g : X → ℕ) (xs : List X) → map f (map g xs) ≡ map (λ x. f (g x)) xs
mapped f g [] = refl
mapped f g (x ∷ xs) = ap (λ l. f (g x) ∷ l) (mapped f g xs)

-- the numbers of parts, of labels, and zeros
pub translated : (P : Laid) (n : ℕ) (parted labelled all : List ℕ) → parted ≡ together (map (number_bytes P) (parts P))
    → labelled ≡ parted ++ together (map (label_bytes P) P.program.labels) → n ≡ length P.program.unresolved + length P.program.registers
    → all ≡ labelled ++ together (map (big_bytes 2) (replicate n 0)) → all ≡ together (map (big_bytes 2) (translation_numbers P))
translated P n parted labelled all was next many now =
    now ∙ (ap (λ l. l ++ together (map (big_bytes 2) (replicate n 0))) (next ∙ ap (λ l. l ++ together (map (label_bytes P) P.program.labels)) was)
    ∙ (append_assoc (together (map (number_bytes P) (parts P))) (together (map (label_bytes P) P.program.labels)) (together (map (big_bytes 2) (replicate n 0)))
    ∙ (ap (λ m. together (map (number_bytes P) (parts P)) ++ (together (map (label_bytes P) P.program.labels) ++ together (map (big_bytes 2) (replicate m 0)))) many
    ∙ sym whole)))
  where
    own : List ℕ
    own = map (part_number P) (parts P)

    of_labels : List ℕ
    of_labels = map (λ (x : Label). part_number P (OneSection x.section)) P.program.labels

    zeros : List ℕ
    zeros = replicate (length P.program.unresolved + length P.program.registers) 0

    whole : together (map (big_bytes 2) (own ++ of_labels ++ zeros))
        ≡ together (map (number_bytes P) (parts P)) ++ (together (map (label_bytes P) P.program.labels) ++ together (map (big_bytes 2) zeros))
    whole =
        ap (λ l. together (map (big_bytes 2) l)) (append_assoc own of_labels zeros)
        ∙ (together-append (big_bytes 2) own (of_labels ++ zeros)
        ∙ (ap (λ l. together l ++ together (map (big_bytes 2) (of_labels ++ zeros))) (mapped (big_bytes 2) (part_number P) (parts P))
        ∙ ap (λ l. together (map (number_bytes P) (parts P)) ++ l)
        (together-append (big_bytes 2) of_labels zeros
        ∙ ap (λ l. together l ++ together (map (big_bytes 2) zeros)) (mapped (big_bytes 2) (λ (x : Label). part_number P (OneSection x.section)) P.program.labels))))

-- ---- notes

twice : (n : ℕ) → n % 16777216 % 16777216 ≡ n % 16777216
twice n = omega arith

pub first_near : (before own : ℕ) → (before % 16777216 + own + 1) % 16777216 ≡ (before + own + 1) % 16777216
first_near before own = omega arith

pub after_near : (number records : ℕ) → (number + records % 16777216) % 16777216 ≡ (number + records) % 16777216
after_near number records = omega arith

-- the number of the first record of segment 1, by the number of segments
pub first_same : (before count segments result : ℕ) → result ≡ (before + (count + 19) / 20 + 1) % 16777216 → count ≡ segments
    → result % 16777216 ≡ (before + (segments + 19) / 20 + 1) % 16777216
first_same before count segments result is same =
    ap (λ n. n % 16777216) is ∙ (twice (before + (count + 19) / 20 + 1) ∙ ap (λ n. (before + (n + 19) / 20 + 1) % 16777216) same)

pub after_same : (number records result : ℕ) → result ≡ (number + records) % 16777216 → result % 16777216 ≡ (number + records) % 16777216
after_same number records result is = ap (λ n. n % 16777216) is ∙ twice (number + records)

pub notes_long : (P : Laid) (number s : ℕ) (counts : List ℕ) → length (notes_by P number s counts) ≡ length counts
unfolding notes_by
notes_long P number s [] = refl
notes_long P number s (n ∷ counts) = ap (λ k. suc k) (notes_long P (number + n) (s + 1) counts)

pub notes_counted : (P : Laid) (number s : ℕ) (segs : List (List Record)) → note_items P number s segs ≡ notes_by P number s (map length segs)
unfolding notes_by
notes_counted P number s [] = refl
notes_counted P number s (x ∷ rest) = ap (λ l. note_item P number s ∷ l) (notes_counted P (number + length x) (s + 1) rest)

same_after : (a b n : ℕ) → a % 16777216 ≡ b % 16777216 → (a + n) % 16777216 ≡ (b + n) % 16777216
same_after a b n same = omega arith

pub notes_shift : (P : Laid) (a b s : ℕ) (counts : List ℕ) → a % 16777216 ≡ b % 16777216 → notes_by P a s counts ≡ notes_by P b s counts
unfolding notes_by
notes_shift P a b s [] same = refl
notes_shift P a b s (n ∷ counts) same =
    ap (λ f. record { first = f; origin = (note_item P a s).origin; length = (note_item P a s).length } ∷ notes_by P (a + n) (s + 1) counts) same
    ∙ ap (λ l. note_item P b s ∷ l) (notes_shift P (a + n) (b + n) (s + 1) counts (same_after a b n same))

abbrev pub notes_from : Laid → ℕ → ℕ → List ℕ → List ℕ
notes_from P number s counts = together (map note_bytes (notes_by P number s counts))

pub notes_begin : (P : Laid) (a b : ℕ) (counts out : List ℕ) → a % 16777216 ≡ b % 16777216 → out ≡ []
    → out ++ notes_from P a 1 counts ≡ notes_from P b 1 counts
notes_begin P a b counts out same none = ap (λ l. l ++ notes_from P a 1 counts) none ∙ ap (λ l. together (map note_bytes l)) (notes_shift P a b 1 counts same)

pub note_more : (P : Laid) (number next i s t : ℕ) (counts out new whole : List ℕ) → i < length counts → s ≡ i + 1 → t ≡ s + 1
    → next % 16777216 ≡ (number + get_or counts i 0) % 16777216 → out ++ notes_from P number s (drop i counts) ≡ whole
    → new ≡ out ++ note_bytes (note_item P number s) → new ++ notes_from P next t (drop (i + 1) counts) ≡ whole
unfolding notes_by
note_more P number next i s t counts out new whole low here there same was is =
    ap (λ l. l ++ notes_from P next t (drop (i + 1) counts)) is
    ∙ (append_assoc out (note_bytes (note_item P number s)) (notes_from P next t (drop (i + 1) counts))
    ∙ (ap (λ l. out ++ (note_bytes (note_item P number s) ++ together (map note_bytes l)))
    (notes_shift P next (number + get_or counts i 0) t (drop (i + 1) counts) same)
    ∙ (ap (λ u. out ++ (note_bytes (note_item P number s) ++ notes_from P (number + get_or counts i 0) u (drop (i + 1) counts))) there
    ∙ (ap (λ l. out ++ notes_from P number s l) (sym (drop_more counts i 0 low)) ∙ was))))

pub notes_end : (P : Laid) (number s i : ℕ) (counts out whole : List ℕ) → length counts ≤ i → out ++ notes_from P number s (drop i counts) ≡ whole → out ≡ whole
unfolding notes_by
notes_end P number s i counts out whole all was =
    sym (append-nil out) ∙ (ap (λ l. out ++ notes_from P number s l) (sym (drop_all i counts all)) ∙ was)
