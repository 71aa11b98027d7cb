-- The pieces of a part, and what the records of a segment add to the facts.
use Rattle.std.proofs.Common.{◌≡◌, ℕ, zero, suc, ◌+◌, ◌-◌, ◌*◌, ◌<◌, ◌≤◌, ◌^◌, Bool, true, false, ◌==◌, min, List, [], ◌∷◌, ◌++◌, map, filter, length, take, drop, None, inl, inr, refl, sym, ap, subst, ◌∙◌, arith}
use Rattle.std.proofs.lemmas.List.{length-drop, length-take, append_assoc}
use Rattle.std.proofs.lemmas.List.Concat.{flat_map-append}
use Rattle.std.specs.List.{AllByRecursion, flat_map, enumerate_from}
use Rattle.sym_mod.specs.declared.program.SecKind.{SecKind}
use Rattle.sym_mod.specs.declared.program.SecKind.TheVariants.{Sd, Pc, Cm}
use Rattle.load_recs.specs.declared.items.RldItem.{RldItem}
use Rattle.load_recs.specs.declared.records.Ends.{Ends}
use Rattle.load_recs.specs.Relocations.{rlds_of}
use Rattle.load_recs.specs.Records.{AreEnds, most_text}
use Rattle.linking_model.specs.Places.{Laid, module_length}
use Rattle.member_model.specs.Cuts.{cuts}
use Rattle.member_model.specs.Parts.{Part, parts_in, part_kind, part_place, part_length, part_bytes, part_number}
use Rattle.member_model.specs.Chunks.{chunks, chunk_bytes, joined, part_items}
use Rattle.member_model.specs.Pieces.{Piece, piece_of, pieces, ends_among, ends_at, records_or_empty}
use Rattle.member_model.specs.Facts.{Facts}
use Rattle.member_model.specs.Written.{pieces_as, part_pieces, segment_records}
use Rattle.member_laws.specs.Linkable.{IsLinkable}
use Rattle.member_laws.specs.Gathered.{pieces_in, texts_in, piece_items, items_as, items_of, fields_in, left_by, with_segment}
use Rattle.member_laws.proofs.Chunked.{chunks-written, chunks_read}
use Rattle.member_laws.proofs.Cutting.{cuts_in, cuts-are, parts_of, Fits, parts-fit, rest-fits, first-some, first-full}
use Rattle.member_laws.proofs.Joined.{IsPlain, ArePlain}
use Rattle.member_laws.proofs.Lists.{each-filter, each-flat_map, each-map, each-weaker}
use Rattle.member_laws.proofs.Membership.{Has, each-of, has-each}
use Rattle.member_laws.proofs.Numbered.{IsPart, number_fits}
use Rattle.member_laws.proofs.PartItems.{FitsPart, part_fits}
use Rattle.member_laws.proofs.Pieces.{IsPiece, items_read, fields_as, segment_walk}
use Rattle.member_laws.proofs.Reading.{Walks, walks-to}
use Rattle.member_laws.proofs.Standing.{IsPartOf, StandsWell, stands_well, parts-stand}
use Rattle.member_laws.proofs.SymbolsWritten.{part-ends}

-- ---- lists

pub flat_map-same : {X Y : Type 0} (f g : X → List Y) (xs : List X) → ((x : X) → Has xs x → f x ≡ g x) → flat_map f xs ≡ flat_map g xs
flat_map-same f g [] same = refl
flat_map-same f g (x ∷ xs) same =
    ap (λ l. l ++ flat_map f xs) (same x (inl refl)) ∙ ap (λ l. g x ++ l) (flat_map-same f g xs (λ z there. same z (inr there)))

pub flat_map-flat : {X Y Z : Type 0} (f : Y → List Z) (g : X → List Y) (xs : List X) → flat_map f (flat_map g xs) ≡ flat_map (λ x. flat_map f (g x)) xs
flat_map-flat f g [] = refl
flat_map-flat f g (x ∷ xs) = flat_map-append f (g x) (flat_map g xs) ∙ ap (λ l. flat_map f (g x) ++ l) (flat_map-flat f g xs)

pub flat_map-of-map : {X Y Z : Type 0} (f : Y → List Z) (g : X → Y) (xs : List X) → flat_map f (map g xs) ≡ flat_map (λ x. f (g x)) xs
flat_map-of-map f g [] = refl
flat_map-of-map f g (x ∷ xs) = ap (λ l. f (g x) ++ l) (flat_map-of-map f g xs)

-- ---- one piece

-- part k of a list in parts of n, which begins at n * k
pub record IsCut (n len : ℕ) (k : ℕ) (bytes : List ℕ) : Type 0 where
  pub within : n * k + length bytes ≤ len
  pub some : 1 ≤ length bytes
  pub most : length bytes ≤ n

next-start : (n j len : ℕ) → n < len → n * (j + 1) + (len - n) ≡ n * j + len
next-start n j len full = let e : n * (j + 1) ≡ n * j + n = grind arith in omega arith

first-cut : (n j c : ℕ) (xs : List ℕ) → 1 ≤ n → Fits n (suc c) (length xs) → IsCut n (n * j + length xs) j (take n xs)
first-cut n j c xs some fits =
    let taken : length (take n xs) ≡ min n (length xs) = length-take n xs in
    let filled : 1 ≤ length xs = first-some n c (length xs) fits in
    record { within = omega arith; some = omega arith; most = omega arith }

cut-at : (n j c : ℕ) (xs : List ℕ) (z : ℕ × List ℕ) → 1 ≤ n → Fits n c (length xs) → Has (enumerate_from j (cuts_in n c xs)) z → IsCut n (n * j + length xs) z.0 z.1
cut-at n j zero xs z some fits there = absurd there
cut-at n j (suc zero) xs z some fits there =
    elim there [
      | inl e ↦ subst (λ (w : ℕ × List ℕ). IsCut n (n * j + length xs) w.0 w.1) e (first-cut n j zero xs some fits)
      | inr later ↦ absurd later
    ]
cut-at n j (suc (suc c)) xs z some fits there =
    elim there [
      | inl e ↦ subst (λ (w : ℕ × List ℕ). IsCut n (n * j + length xs) w.0 w.1) e (first-cut n j (suc c) xs some fits)
      | inr later ↦
          subst (λ len. IsCut n len z.0 z.1)
          (ap (λ len. n * (j + 1) + len) (length-drop n xs) ∙ next-start n j (length xs) (first-full n c (length xs) fits))
          (cut-at n (j + 1) (suc c) (drop n xs) z some (subst (λ len. Fits n (suc c) len) (sym (length-drop n xs)) (rest-fits n (suc c) (length xs) fits)) later)
    ]

pub is-cut : (n : ℕ) (bytes : List ℕ) (z : ℕ × List ℕ) → 1 ≤ n → Has (enumerate_from 0 (cuts n bytes)) z → IsCut n (length bytes) z.0 z.1
is-cut n bytes z some there =
    subst (λ len. IsCut n len z.0 z.1) (start n (length bytes))
    (cut-at n 0 (parts_of n (length bytes)) bytes z some (parts-fit n (length bytes) some) (subst (λ l. Has (enumerate_from 0 l) z) (cuts-are n bytes) there))
  where
    start : (n len : ℕ) → n * 0 + len ≡ len
    start n len = let e : n * 0 ≡ 0 = grind arith in omega arith

-- ---- the pieces of a part

pub part-plain : (P : Laid) (x : Part) → IsLinkable P → IsPart P x → ArePlain (part_items P x)
part-plain P x links part = each-weaker (FitsPart P x) IsPlain (λ item fits. fits.plain) (part_items P x) (part_fits P x links part)

piece-is : (P : Laid) (n : ℕ) (x : Part) (z : ℕ × List ℕ) → IsLinkable P → 1 ≤ n → n ≤ most_text → IsPart P x → Has (enumerate_from 0 (cuts n (part_bytes P x))) z
    → IsPiece (piece_of (part_number P x) (part_place P x) (part_items P x) n z)
piece-is P n x z links some most part there =
    let cut = is-cut n (part_bytes P x) z some there in
    let well = stands_well P part.in_segment x part.low part.is in
    let bytes : length (part_bytes P x) ≡ part_length P x = well.bytes in
    let ends : part_place P x + part_length P x ≤ module_length P = part-ends P x part in
    let fits : module_length P ≤ 4194304 = links.module_fits in
    let within : n * z.0 + length z.1 ≤ length (part_bytes P x) = cut.within in
    let filled : 1 ≤ length z.1 = cut.some in
    let short : length z.1 ≤ n = cut.most in
    record {
      head = record {
        address = small (part_place P x) (n * z.0) (length z.1) (length (part_bytes P x)) (part_length P x) (module_length P) bytes within ends fits;
        some = omega arith;
        most = omega arith;
        section = number_fits P x links part;
      };
      chunks = chunks-written _ (each-filter IsPlain (ends_among (part_place P x + n * z.0) (length z.1)) (part_items P x) (part-plain P x links part));
    }
  where
    small : (place at len bytes part all : ℕ) → bytes ≡ part → at + len ≤ bytes → place + part ≤ all → all ≤ 4194304 → place + at < 2 ^ 24
    small place at len bytes part all e f g h = omega arith

pieces-are : (P : Laid) (n : ℕ) (x : Part) → IsLinkable P → 1 ≤ n → n ≤ most_text → IsPart P x → AllByRecursion IsPiece (pieces n (part_number P x) (part_place P x) (part_items P x) (part_bytes P x))
unfolding pieces
pieces-are P n x links some most part =
    each-map IsPiece (piece_of (part_number P x) (part_place P x) (part_items P x) n) (enumerate_from 0 (cuts n (part_bytes P x)))
    (each-of _ (enumerate_from 0 (cuts n (part_bytes P x))) (λ z there. piece-is P n x z links some most part there))

kept-pieces : (kind : SecKind) (xs : List Piece) → AllByRecursion IsPiece xs → AllByRecursion IsPiece (pieces_as kind xs)
kept-pieces Sd xs all = all
kept-pieces Pc xs all = all
kept-pieces Cm xs all = tt

pub part-pieces-are : (P : Laid) (n : ℕ) (x : Part) → IsLinkable P → 1 ≤ n → n ≤ most_text → IsPart P x → AllByRecursion IsPiece (part_pieces P n x)
part-pieces-are P n x links some most part = kept-pieces (part_kind P x) _ (pieces-are P n x links some most part)

pieces-read : (P : Laid) (n : ℕ) (x : Part) → ArePlain (part_items P x)
    → flat_map items_read (pieces n (part_number P x) (part_place P x) (part_items P x) (part_bytes P x))
    ≡ flat_map (piece_items n (part_place P x) (part_items P x)) (enumerate_from 0 (cuts n (part_bytes P x)))
unfolding pieces
pieces-read P n x plain =
    flat_map-of-map items_read (piece_of (part_number P x) (part_place P x) (part_items P x) n) (enumerate_from 0 (cuts n (part_bytes P x)))
    ∙ flat_map-same _ (piece_items n (part_place P x) (part_items P x)) (enumerate_from 0 (cuts n (part_bytes P x)))
    (λ z there. chunks_read (filter (ends_among (part_place P x + n * z.0) (length z.1)) (part_items P x)) (each-filter IsPlain (ends_among (part_place P x + n * z.0) (length z.1)) (part_items P x) plain))

kept-read : (kind : SecKind) (xs : List Piece) (items : List RldItem) → flat_map items_read xs ≡ items → flat_map items_read (pieces_as kind xs) ≡ items_as kind items
kept-read Sd xs items e = e
kept-read Pc xs items e = e
kept-read Cm xs items e = refl

pub part-read : (P : Laid) (n : ℕ) (x : Part) → IsLinkable P → IsPart P x → flat_map items_read (part_pieces P n x) ≡ items_of P n x
unfolding items_of
part-read P n x links part = kept-read (part_kind P x) _ _ (pieces-read P n x (part-plain P x links part))

-- ---- the records of a segment

pub in-segment : (P : Laid) (s : ℕ) (x : Part) → 1 ≤ s → s ≤ length P.tree → Has (parts_in P s) x → IsPart P x
in-segment P s x low high there = record { in_segment = s; low = low; high = high; is = has-each (IsPartOf P s) (parts_in P s) x (parts-stand P s) there }

pub segment-read : (P : Laid) (n s : ℕ) → IsLinkable P → 1 ≤ s → s ≤ length P.tree → flat_map items_read (pieces_in P n s) ≡ flat_map (items_of P n) (parts_in P s)
segment-read P n s links low high =
    flat_map-flat items_read (part_pieces P n) (parts_in P s)
    ∙ flat_map-same _ (items_of P n) (parts_in P s) (λ x there. part-read P n x links (in-segment P s x low high there))

pub segment-pieces-are : (P : Laid) (n s : ℕ) → IsLinkable P → 1 ≤ n → n ≤ most_text → 1 ≤ s → s ≤ length P.tree → AllByRecursion IsPiece (pieces_in P n s)
segment-pieces-are P n s links some most low high =
    each-flat_map IsPiece (part_pieces P n) (parts_in P s) (each-of _ (parts_in P s) (λ x there. part-pieces-are P n x links some most (in-segment P s x low high there)))

pub ends-right : (count s : ℕ) → AreEnds (ends_at count s)
ends-right count s e = refl

-- the facts after segment t, said of the pieces and their items
abbrev after : Laid → ℕ → Facts → List Piece → List RldItem → ℕ → Facts
after P s F pieces items t =
    record F {
      texts = F.texts ++ map (λ x. record { segment = t; section = x.section; address = x.address; bytes = x.bytes }) pieces;
      fields = F.fields ++ fields_as t items;
      stage = 4;
      segment = t + 1;
      due = None;
      ends = left_by F.ends (ends_at (length P.tree) s) pieces;
      ended = s == length P.tree;
    }

pub segment_walks : (P : Laid) (n s : ℕ) (F : Facts) → IsLinkable P → 1 ≤ n → n ≤ most_text → 1 ≤ s → s ≤ length P.tree → F.segment ≡ s → F.due ≡ None
    → Walks s F (segment_records P n s) (with_segment P n s F)
unfolding segment_records with_segment
segment_walks P n s F links some most low high here none =
    let pieces = pieces_in P n s in
    subst (λ items. Walks s F (records_or_empty (ends_at (length P.tree) s) pieces) (after P s F pieces items s)) (segment-read P n s links low high)
    (subst (λ t. Walks t F (records_or_empty (ends_at (length P.tree) s) pieces) (after P s F pieces (flat_map items_read pieces) t)) here
    (segment_walk F (ends_at (length P.tree) s) pieces (ends-right (length P.tree) s) (segment-pieces-are P n s links some most low high) none))
