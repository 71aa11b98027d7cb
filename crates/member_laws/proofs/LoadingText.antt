-- The text of a segment in storage: each part has its bytes where it stands.
use Rattle.std.proofs.Common.{arith, ◌≡◌, ◌⊎◌, inl, inr, ℕ, zero, suc, ◌+◌, ◌-◌, ◌*◌, ◌/◌, ◌<◌, ◌≤◌, min, true, false, ◌==◌, if◌then◌else◌, List, [], ◌∷◌, fold, length, drop, slice_index, refl, sym, ◌∙◌, ap, get_or-take, get_or-drop}
use Rattle.std.specs.List.{AllByRecursion as Each, range_with_len, enumerate_from}
use Rattle.std.proofs.lemmas.Bool.{cases_lt}
use Rattle.sym_mod.specs.declared.program.SecKind.{SecKind}
use Rattle.sym_mod.specs.declared.program.SecKind.TheVariants.{Sd, Pc, Cm}
use Rattle.load_recs.specs.declared.items.SymbolItem.{SymbolItem}
use Rattle.load_recs.specs.declared.items.RldItem.{RldItem}
use Rattle.linking_model.specs.Numbers.{is_among}
use Rattle.linking_model.specs.Places.{Laid}
use Rattle.linking_model.specs.Run.{Storage, with_piece, list_piece}
use Rattle.member_model.specs.Symbols.{address_in_module}
use Rattle.member_model.specs.Facts.{Facts, Text}
use Rattle.member_model.specs.Cuts.{cuts, cut_at}
use Rattle.member_model.specs.Parts.{Part, part_kind, part_place, part_bytes, part_number, parts_in}
use Rattle.member_model.specs.Chunks.{part_items}
use Rattle.member_model.specs.Pieces.{Piece, piece_of, pieces}
use Rattle.member_model.specs.Written.{pieces_as, part_pieces}
use Rattle.member_model.specs.Loaded.{Addresses, moved, text_storage}
use Rattle.member_laws.specs.Gathered.{pieces_in}
use Rattle.member_laws.specs.Storing.{HoldsSegment}
use Rattle.member_laws.proofs.LoadingLists.{Among, fold_filter, fold_map, fold_flat_map}
use Rattle.member_laws.proofs.LoadingItems.{among_true, among_before, among_after, pieces_reach, enumerate_range, cut_length}

-- ---- one list of bytes in storage

at_piece : (M : Storage) (at a v : ℕ) (bytes : List ℕ) → at ≤ a → a < at + length bytes → slice_index bytes (a - at) ≡ v
    → with_piece M (list_piece at bytes) a ≡ v
at_piece M at a v bytes from to is =
    ap (λ b. if b then slice_index bytes (a - at) else M a) (among_true at (length bytes) a from to) ∙ is

off_piece : (M : Storage) (at a : ℕ) (bytes : List ℕ) → is_among at (length bytes) a ≡ false → with_piece M (list_piece at bytes) a ≡ M a
off_piece M at a bytes outside = ap (λ b. if b then slice_index bytes (a - at) else M a) outside

-- ---- a list of bytes in pieces

-- piece k from an address on
abbrev with_cut : ℕ → ℕ → List ℕ → Storage → ℕ → Storage
with_cut n at B M k = with_piece M (list_piece (at + n * k) (cut_at n B k))

cuts_behind : (n at : ℕ) (B : List ℕ) (a j K : ℕ) (M : Storage) → a < at + n * j → fold (with_cut n at B) M (range_with_len j K) a ≡ M a
cuts_behind n at B a j zero M before = refl
cuts_behind n at B a j (suc K) M before =
    cuts_behind n at B a (j + 1) K (with_cut n at B M j) (further n at a j before)
    ∙ off_piece M (at + n * j) a (cut_at n B j) (among_before (at + n * j) (length (cut_at n B j)) a before)
  where
    further : (n at a j : ℕ) → a < at + n * j → a < at + n * (j + 1)
    further n at a j before = omega arith

cuts_outside : (n at : ℕ) (B : List ℕ) (a j K : ℕ) (M : Storage) → at + length B ≤ a → fold (with_cut n at B) M (range_with_len j K) a ≡ M a
cuts_outside n at B a j zero M after = refl
cuts_outside n at B a j (suc K) M after =
    cuts_outside n at B a (j + 1) K (with_cut n at B M j) after ∙ here (cases_lt a (at + n * j))
  where
    passed : (n at a j l c : ℕ) → c ≡ min n (l - n * j) → at + l ≤ a → at + n * j ≤ a → at + n * j + c ≤ a
    passed n at a j l c size after from = omega arith

    here : (a < at + n * j) ⊎ (at + n * j ≤ a) → with_cut n at B M j a ≡ M a
    here (inl before) = off_piece M (at + n * j) a (cut_at n B j) (among_before (at + n * j) (length (cut_at n B j)) a before)
    here (inr from) =
        off_piece M (at + n * j) a (cut_at n B j)
        (among_after (at + n * j) (length (cut_at n B j)) a
        (passed n at a j (length B) (length (cut_at n B j)) (cut_length n B j) after from))

cuts_from : (n at : ℕ) (B : List ℕ) (a j K : ℕ) (M : Storage) → at + n * j ≤ a → a < at + n * (j + K) → a < at + length B
    → fold (with_cut n at B) M (range_with_len j K) a ≡ slice_index B (a - at)
cuts_from n at B a j zero M from to inside = absurd (none n at a j from to)
  where
    none : (n at a j : ℕ) → at + n * j ≤ a → a < at + n * (j + 0) → ⊥
    none n at a j from to = omega arith
cuts_from n at B a j (suc K) M from to inside =
    by_cases (cases_lt a (at + n * (j + 1)))
    (λ later. cuts_from n at B a (j + 1) K (with_cut n at B M j) later (rest n at a j K to) inside)
  where
    rest : (n at a j K : ℕ) → a < at + n * (j + suc K) → a < at + n * (j + 1 + K)
    rest n at a j K to = omega arith

    reached : (n at a j l c : ℕ) → c ≡ min n (l - n * j) → at + n * j ≤ a → a < at + n * (j + 1) → a < at + l → a < at + n * j + c
    reached n at a j l c size from to inside = omega arith

    low : (n at a j : ℕ) → at + n * j ≤ a → a < at + n * (j + 1) → a - (at + n * j) < n
    low n at a j from to = omega arith

    same : (p at a : ℕ) → at + p ≤ a → p + (a - (at + p)) ≡ a - at
    same p at a from = omega arith

    byte : a < at + n * (j + 1) → slice_index (cut_at n B j) (a - (at + n * j)) ≡ slice_index B (a - at)
    byte here =
        get_or-take n (drop (n * j) B) (a - (at + n * j)) 0 (low n at a j from here)
        ∙ (get_or-drop (n * j) B (a - (at + n * j)) 0 ∙ ap (slice_index B) (same (n * j) at a from))

    by_cases : (a < at + n * (j + 1)) ⊎ (at + n * (j + 1) ≤ a)
        → (at + n * (j + 1) ≤ a → fold (with_cut n at B) (with_cut n at B M j) (range_with_len (j + 1) K) a ≡ slice_index B (a - at))
        → fold (with_cut n at B) (with_cut n at B M j) (range_with_len (j + 1) K) a ≡ slice_index B (a - at)
    by_cases (inl here) others =
        cuts_behind n at B a (j + 1) K (with_cut n at B M j) here
        ∙ at_piece M (at + n * j) a (slice_index B (a - at)) (cut_at n B j) from
        (reached n at a j (length B) (length (cut_at n B j)) (cut_length n B j) from here inside) (byte here)
    by_cases (inr later) others = others later

-- ---- the pieces of a part

-- storage with a piece of text where its section stands
abbrev pub with_text : List SymbolItem → Addresses → Storage → Piece → Storage
with_text symbols q M x = with_piece M (list_piece (moved symbols q x.section x.address) x.bytes)

-- of a part that stands in the module at A, and now at an address
fold_pieces : (symbols : List SymbolItem) (q : Addresses) (n N A : ℕ) (items : List RldItem) (B : List ℕ) (M : Storage)
    → address_in_module symbols N ≡ A
    → fold (with_text symbols q) M (pieces n N A items B) ≡ fold (with_cut n (q N) B) M (range_with_len 0 ((length B + (n - 1)) / n))
unfolding pieces
fold_pieces symbols q n N A items B M is =
    fold_map (with_text symbols q) (piece_of N A items n) M (enumerate_from 0 (cuts n B))
    ∙ (ap (fold (λ N' piece. with_text symbols q N' (piece_of N A items n piece)) M) (enumerate_range (cut_at n B) 0 ((length B + (n - 1)) / n))
    ∙ (fold_map (λ N' piece. with_text symbols q N' (piece_of N A items n piece)) (λ k. (k, cut_at n B k)) M (range_with_len 0 ((length B + (n - 1)) / n))
    ∙ same_steps (range_with_len 0 ((length B + (n - 1)) / n)) M))
  where
    stands : (q' A n k A' : ℕ) → A' ≡ A → q' + (A + n * k - A') ≡ q' + n * k
    stands q' A n k A' is = omega arith

    same_steps : (ks : List ℕ) (M : Storage)
        → fold (λ N' k. with_text symbols q N' (piece_of N A items n (k, cut_at n B k))) M ks ≡ fold (with_cut n (q N) B) M ks
    same_steps [] M = refl
    same_steps (k ∷ ks) M =
        ap (λ at. fold (λ N' k. with_text symbols q N' (piece_of N A items n (k, cut_at n B k))) (with_piece M (list_piece at (cut_at n B k))) ks)
        (stands (q N) A n k (address_in_module symbols N) is)
        ∙ same_steps ks (with_cut n (q N) B M k)

-- ---- the parts of a segment

-- storage with the text of a part
abbrev pub with_part : List SymbolItem → Addresses → Laid → ℕ → Storage → Part → Storage
with_part symbols q P n M x = fold (with_text symbols q) M (part_pieces P n x)

pub part_inside : (symbols : List SymbolItem) (q : Addresses) (P : Laid) (n : ℕ) (x : Part) (a : ℕ) (M : Storage) → 1 ≤ n
    → address_in_module symbols (part_number P x) ≡ part_place P x → (part_kind P x ≡ Cm → ⊥)
    → q (part_number P x) ≤ a → a < q (part_number P x) + length (part_bytes P x)
    → with_part symbols q P n M x a ≡ slice_index (part_bytes P x) (a - q (part_number P x))
part_inside symbols q P n x a M some is text from to = by_cases (part_kind P x) refl
  where
    here : fold (with_text symbols q) M (pieces n (part_number P x) (part_place P x) (part_items P x) (part_bytes P x)) a
        ≡ slice_index (part_bytes P x) (a - q (part_number P x))
    here =
        ap (λ N. N a) (fold_pieces symbols q n (part_number P x) (part_place P x) (part_items P x) (part_bytes P x) M is)
        ∙ cuts_from n (q (part_number P x)) (part_bytes P x) a 0 ((length (part_bytes P x) + (n - 1)) / n) M
        (start n (q (part_number P x)) a from)
        (whole n (q (part_number P x)) a (length (part_bytes P x)) ((length (part_bytes P x) + (n - 1)) / n) to
        (pieces_reach n (length (part_bytes P x)) some)) to
      where
        start : (n A e : ℕ) → A ≤ e → A + n * 0 ≤ e
        start n A e from = omega arith

        whole : (n A e l k : ℕ) → e < A + l → l ≤ n * k → e < A + n * (0 + k)
        whole n A e l k inside reach = omega arith

    by_cases : (kind : SecKind) → part_kind P x ≡ kind
        → fold (with_text symbols q) M (pieces_as kind (pieces n (part_number P x) (part_place P x) (part_items P x) (part_bytes P x))) a
        ≡ slice_index (part_bytes P x) (a - q (part_number P x))
    by_cases Sd kind = here
    by_cases Pc kind = here
    by_cases Cm kind = absurd (text kind)

pub part_outside : (symbols : List SymbolItem) (q : Addresses) (P : Laid) (n : ℕ) (x : Part) (a : ℕ) (M : Storage)
    → address_in_module symbols (part_number P x) ≡ part_place P x
    → is_among (q (part_number P x)) (length (part_bytes P x)) a ≡ false → with_part symbols q P n M x a ≡ M a
part_outside symbols q P n x a M is outside = by_cases (part_kind P x)
  where
    at : ℕ
    at = q (part_number P x)

    size : ℕ
    size = length (part_bytes P x)

    beside : (a < at) ⊎ (at ≤ a) → (a < at + size) ⊎ (at + size ≤ a)
        → fold (with_cut n at (part_bytes P x)) M (range_with_len 0 ((size + (n - 1)) / n)) a ≡ M a
    beside (inl before) other =
        cuts_behind n at (part_bytes P x) a 0 ((size + (n - 1)) / n) M (start n at a before)
      where
        start : (n A e : ℕ) → e < A → e < A + n * 0
        start n A e before = omega arith
    beside (inr from) (inl to) = absurd (no (sym (among_true at size a from to) ∙ outside))
      where
        no : true ≡ false → ⊥
        no same = cc
    beside (inr from) (inr after) = cuts_outside n at (part_bytes P x) a 0 ((size + (n - 1)) / n) M after

    there : fold (with_text symbols q) M (pieces n (part_number P x) (part_place P x) (part_items P x) (part_bytes P x)) a ≡ M a
    there =
        ap (λ N. N a) (fold_pieces symbols q n (part_number P x) (part_place P x) (part_items P x) (part_bytes P x) M is)
        ∙ beside (cases_lt a at) (cases_lt a (at + size))

    by_cases : (kind : SecKind)
        → fold (with_text symbols q) M (pieces_as kind (pieces n (part_number P x) (part_place P x) (part_items P x) (part_bytes P x))) a ≡ M a
    by_cases Sd = there
    by_cases Pc = there
    by_cases Cm = refl

-- ---- the text of a segment

-- the text is that of the parts, one after the other
pub text_by_parts : (P : Laid) (n s : ℕ) (F : Facts) (q : Addresses) → HoldsSegment P n s F
    → text_storage F q s ≡ fold (with_part F.symbols q P n) (λ _. 0) (parts_in P s)
unfolding text_storage
text_by_parts P n s F q holds =
    fold_filter put (λ (t : Text). t.segment == s) (λ _. 0) F.texts
    ∙ (ap (fold put (λ _. 0)) holds.texts
    ∙ (fold_map put (λ (x : Piece). record { segment = s; section = x.section; address = x.address; bytes = x.bytes }) (λ _. 0) (pieces_in P n s)
    ∙ fold_flat_map (with_text F.symbols q) (part_pieces P n) (λ _. 0) (parts_in P s)))
  where
    put : Storage → Text → Storage
    put M t = with_piece M (list_piece (moved F.symbols q t.section t.address) t.bytes)

-- a place that no part but one changes, and that one gives a byte
fold_kept : {X : Type 0} (T : Storage → X → Storage) (a v : ℕ) (x : X) (xs : List X) (M : Storage)
    → ((N : Storage) → T N x a ≡ v) → Each (λ y. (y ≡ x) ⊎ ((N : Storage) → T N y a ≡ N a)) xs → M a ≡ v → fold T M xs a ≡ v
fold_kept T a v x [] M gives others is = is
fold_kept T a v x (y ∷ ys) M gives others is = fold_kept T a v x ys (T M y) gives others.1 (by_cases others.0)
  where
    by_cases : (y ≡ x) ⊎ ((N : Storage) → T N y a ≡ N a) → T M y a ≡ v
    by_cases (inl same) = ap (λ z. T M z a) same ∙ gives M
    by_cases (inr keeps) = keeps M ∙ is

pub fold_one : {X : Type 0} (T : Storage → X → Storage) (a v : ℕ) (x : X) (xs : List X) (M : Storage)
    → ((N : Storage) → T N x a ≡ v) → Each (λ y. (y ≡ x) ⊎ ((N : Storage) → T N y a ≡ N a)) xs → Among x xs → fold T M xs a ≡ v
fold_one T a v x [] M gives others among = absurd among
fold_one T a v x (y ∷ ys) M gives others (inl same) =
    fold_kept T a v x ys (T M y) gives others.1 (ap (λ z. T M z a) same ∙ gives M)
fold_one T a v x (y ∷ ys) M gives others (inr later) = fold_one T a v x ys (T M y) gives others.1 later

pub fold_none : {X : Type 0} (T : Storage → X → Storage) (a : ℕ) (xs : List X) (M : Storage)
    → Each (λ y. (N : Storage) → T N y a ≡ N a) xs → fold T M xs a ≡ M a
fold_none T a [] M keeps = refl
fold_none T a (y ∷ ys) M keeps = fold_none T a ys (T M y) keeps.1 ∙ keeps.0 M
