-- The bytes of an entry, read back from storage: it is an entry, and tells its symbol's segment and address.
use Rattle.std.proofs.Common.{◌≡◌, ℕ, zero, suc, ◌+◌, ◌-◌, ◌*◌, ◌/◌, ◌%◌, ◌^◌, ◌<◌, ◌≤◌, Bool, true, ◌&&◌, ◌==◌, List, [], ◌∷◌, ◌++◌, length, Some, slice_get, slice_index, refl, sym, ap, ◌∙◌, subst, arith, get_or-append-add}
use Rattle.std.specs.Prelude.{nat_lt, nat_le}
use Rattle.std.proofs.lemmas.Bool.{eq-eqb, lt-ltb, le-leb}
use Rattle.std.proofs.lemmas.Option.{none-some}
use Rattle.std.proofs.lemmas.List.{get_or_append_left}
use Rattle.byteorder.specs.Endian.{big_bytes}
use Rattle.sym_mod.specs.declared.program.Program.{Program}
use Rattle.sym_mod.specs.declared.program.Target.{Target}
use Rattle.linking_model.specs.Places.{Laid, entries_of, entry_count, entab_length}
use Rattle.linking_model.specs.TableBytes.{entry_bytes, entab_bytes}
use Rattle.linking_model.specs.Tables.{segment_of}
use Rattle.linking_model.specs.Run.{Storage}
use Rattle.member_model.specs.Calling.{number_in, is_entry}
use Rattle.member_model.specs.Fetched.{Fetched}
use Rattle.member_model.specs.Segments.{count}
use Rattle.member_laws.proofs.LoadingNumbers.{held_number}
use Rattle.member_laws.proofs.LoadingTables.{head, tail, rows, table_is}

-- byte j of entry k
row_byte : (p : Program) (address : Target → ℕ) (e b i k j : ℕ) (y : Target) (ys : List Target) → slice_get ys k ≡ Some y → j < 12
    → slice_index (rows p address e b i ys ++ tail) (12 * k + j) ≡ slice_index (entry_bytes e (i + k) (address y) (segment_of p y) b) j
row_byte p address e b i k j y [] found below = absurd (none-some y found)
row_byte p address e b i zero j y (z ∷ ys) found below =
    ap (slice_index (rows p address e b i (z ∷ ys) ++ tail)) (first j)
    ∙ get_or_append_left (entry_bytes e i (address z) (segment_of p z) b) (rows p address e b (i + 1) ys ++ tail) 0 j below
    ∙ ap (λ k. slice_index (entry_bytes e k (address z) (segment_of p z) b) j) (plain i)
    ∙ ap (λ w. slice_index (entry_bytes e (i + 0) (address w) (segment_of p w) b) j) (is z y found)
  where
    first : (j : ℕ) → 12 * 0 + j ≡ j
    first j = omega arith

    plain : (i : ℕ) → i ≡ i + 0
    plain i = omega arith

    is : (z y : Target) → Some z ≡ Some y → z ≡ y
    is z y found = cc
row_byte p address e b i (suc k) j y (z ∷ ys) found below =
    ap (slice_index (rows p address e b i (z ∷ ys) ++ tail)) (next k j)
    ∙ get_or-append-add (entry_bytes e i (address z) (segment_of p z) b) (rows p address e b (i + 1) ys ++ tail) (12 * k + j) 0
    ∙ row_byte p address e b (i + 1) k j y ys found below
    ∙ ap (λ n. slice_index (entry_bytes e n (address y) (segment_of p y) b) j) (moved i k)
  where
    next : (k j : ℕ) → 12 * suc k + j ≡ 12 + (12 * k + j)
    next k j = omega arith

    moved : (i k : ℕ) → i + 1 + k ≡ i + suc k
    moved i k = omega arith

-- byte j behind the entries
tail_byte : (p : Program) (address : Target → ℕ) (e b i j : ℕ) (ys : List Target) → slice_index (rows p address e b i ys ++ tail) (12 * length ys + j) ≡ slice_index tail j
tail_byte p address e b i j [] = ap (slice_index tail) (first j)
  where
    first : (j : ℕ) → 12 * 0 + j ≡ j
    first j = omega arith
tail_byte p address e b i j (z ∷ ys) =
    ap (slice_index (rows p address e b i (z ∷ ys) ++ tail)) (next (length ys) j)
    ∙ get_or-append-add (entry_bytes e i (address z) (segment_of p z) b) (rows p address e b (i + 1) ys ++ tail) (12 * length ys + j) 0
    ∙ tail_byte p address e b (i + 1) j ys
  where
    next : (k j : ℕ) → 12 * suc k + j ≡ 12 + (12 * k + j)
    next k j = omega arith

-- ---- what is read

-- the table of segment b stands at an address, for symbols at these addresses
abbrev pub Stands : Laid → (Target → ℕ) → ℕ → ℕ → Storage → Type 0
Stands P address b at M = (o : ℕ) → o < entab_length (entry_count P b) → M (at + o) ≡ slice_index (entab_bytes P address b) o

pub entry_byte : (P : Laid) (address : Target → ℕ) (b at k j : ℕ) (y : Target) (M : Storage) → Stands P address b at M
    → slice_get (entries_of P b) k ≡ Some y → k < entry_count P b → j < 12
    → M (at + 8 + 12 * k + j) ≡ slice_index (entry_bytes (entry_count P b) k (address y) (segment_of P.program y) b) j
entry_byte P address b at k j y M stands found low below =
    ap M (grouped at k j) ∙ stands (8 + (12 * k + j)) (inside (entry_count P b) k j low below)
    ∙ ap (λ bytes. slice_index bytes (8 + (12 * k + j))) (table_is P address b)
    ∙ get_or-append-add (head (entry_count P b)) (rows P.program address (entry_count P b) b 0 (entries_of P b) ++ tail) (12 * k + j) 0
    ∙ row_byte P.program address (entry_count P b) b 0 k j y (entries_of P b) found below
    ∙ ap (λ n. slice_index (entry_bytes (entry_count P b) n (address y) (segment_of P.program y) b) j) (plain k)
  where
    grouped : (at k j : ℕ) → at + 8 + 12 * k + j ≡ at + (8 + (12 * k + j))
    grouped at k j = omega arith

    inside : (e k j : ℕ) → k < e → j < 12 → 8 + (12 * k + j) < 12 * e + 12
    inside e k j low below = omega arith

    plain : (k : ℕ) → 0 + k ≡ k
    plain k = omega arith

pub end_byte : (P : Laid) (address : Target → ℕ) (b at j : ℕ) (M : Storage) → Stands P address b at M → j < 4
    → M (at + 8 + 12 * entry_count P b + j) ≡ slice_index tail j
end_byte P address b at j M stands below =
    ap M (grouped at (entry_count P b) j) ∙ stands (8 + (12 * entry_count P b + j)) (inside (entry_count P b) j below)
    ∙ ap (λ bytes. slice_index bytes (8 + (12 * entry_count P b + j))) (table_is P address b)
    ∙ get_or-append-add (head (entry_count P b)) (rows P.program address (entry_count P b) b 0 (entries_of P b) ++ tail) (12 * entry_count P b + j) 0
    ∙ tail_byte P.program address (entry_count P b) b 0 j (entries_of P b)
  where
    grouped : (at k j : ℕ) → at + 8 + 12 * k + j ≡ at + (8 + (12 * k + j))
    grouped at k j = omega arith

    inside : (e j : ℕ) → j < 4 → 8 + (12 * e + j) < 12 * e + 12
    inside e j below = omega arith

-- the address that an entry tells
pub entry_address_read : (P : Laid) (address : Target → ℕ) (b at k : ℕ) (y : Target) (M : Storage) → Stands P address b at M
    → slice_get (entries_of P b) k ≡ Some y → k < entry_count P b → address y < 256 ^ 4 → number_in M (at + 8 + 12 * k + 4) 4 ≡ address y
entry_address_read P address b at k y M stands found low small =
    held_number M (at + 8 + 12 * k + 4) 4 (address y) small
    (λ j below.
    ap M (grouped (at + 8 + 12 * k) j) ∙ entry_byte P address b at k (4 + j) y M stands found low (omega (arith, below))
    ∙ get_or-append-add (71 ∷ 240 ∷ big_bytes 2 (61440 + 12 * (entry_count P b - k))) (big_bytes 4 (address y) ++ segment_of P.program y ∷ b ∷ 0 ∷ 0 ∷ []) j 0
    ∙ get_or_append_left (big_bytes 4 (address y)) (segment_of P.program y ∷ b ∷ 0 ∷ 0 ∷ []) 0 j below)
  where
    grouped : (a j : ℕ) → a + 4 + j ≡ a + (4 + j)
    grouped a j = omega arith

-- ---- it is an entry

all_of_nine : (a b c d e f g h i : Bool) → a ≡ true → b ≡ true → c ≡ true → d ≡ true → e ≡ true → f ≡ true → g ≡ true → h ≡ true → i ≡ true
    → (a && b && c && d && e && f && g && h && i) ≡ true
all_of_nine a b c d e f g h i p q r s t u v w x = rw (p, q, r, s, t, u, v, w, x) refl

high_half : (n : ℕ) → 61440 ≤ n → n < 65536 → n / 256 % 256 / 16 ≡ 15
high_half n low high = omega arith

low_half : (d : ℕ) → d < 4096 → (61440 + d) % 4096 ≡ d
low_half d small = omega arith

pub entry_is_read : (P : Laid) (m : Fetched) (address : Target → ℕ) (b at k : ℕ) (y : Target) (M : Storage) → Stands P address b at M
    → slice_get (entries_of P b) k ≡ Some y → k < entry_count P b → entry_count P b ≤ 340 → 1 ≤ segment_of P.program y
    → segment_of P.program y ≤ count m
    → is_entry m M (at + 8 + 12 * k) (record { at = at; length = entab_length (entry_count P b) }) ≡ true
entry_is_read P m address b at k y M stands found low few some most =
    all_of_nine (nat_le (v + 12) (at + entab_length e)) (M v == 71) (M (v + 1) == 240) (M (v + 2) / 16 == 15)
    (nat_le (v + d + 2) (at + entab_length e)) (M (v + d) == 10) (M (v + d + 1) == 45) (nat_lt 0 (M (v + 8))) (nat_le (M (v + 8)) (count m))
    (le-leb (v + 12) (at + entab_length e) (fits at e k low))
    (eq-eqb (M v) 71 (ap M (plain v) ∙ entry_byte P address b at k 0 y M stands found low (omega arith)))
    (eq-eqb (M (v + 1)) 240 (entry_byte P address b at k 1 y M stands found low (omega arith)))
    (eq-eqb (M (v + 2) / 16) 15
    (ap (λ w. w / 16) (entry_byte P address b at k 2 y M stands found low (omega arith)) ∙ high_half branch (omega arith) (below_word (e - k) (least e k few))))
    (le-leb (v + d + 2) (at + entab_length e) (subst (λ w. v + w + 2 ≤ at + entab_length e) (sym reach) (reaches at e k low)))
    (eq-eqb (M (v + d)) 10 (ap (λ w. M (v + w)) reach ∙ ap M (at_end at e k low) ∙ end_byte P address b at 0 M stands (omega arith)))
    (eq-eqb (M (v + d + 1)) 45 (ap (λ w. M (v + w + 1)) reach ∙ ap M (past_end at e k low) ∙ end_byte P address b at 1 M stands (omega arith)))
    (lt-ltb 0 (M (v + 8)) (subst (λ w. 0 < w) (sym segment) some))
    (le-leb (M (v + 8)) (count m) (subst (λ w. w ≤ count m) (sym segment) most))
  where
    e : ℕ
    e = entry_count P b

    v : ℕ
    v = at + 8 + 12 * k

    d : ℕ
    d = number_in M (v + 2) 2 % 4096

    branch : ℕ
    branch = 61440 + 12 * (e - k)

    least : (e k : ℕ) → e ≤ 340 → e - k ≤ 340
    least e k few = omega (arith, few)

    below_word : (n : ℕ) → n ≤ 340 → 61440 + 12 * n < 65536
    below_word n few = omega (arith, few)

    short : (n : ℕ) → n ≤ 340 → 12 * n < 4096
    short n few = omega (arith, few)

    plain : (v : ℕ) → v ≡ v + 0
    plain v = omega arith

    fits : (at e k : ℕ) → k < e → at + 8 + 12 * k + 12 ≤ at + (12 * e + 12)
    fits at e k low = omega (arith, low)

    reaches : (at e k : ℕ) → k < e → at + 8 + 12 * k + 12 * (e - k) + 2 ≤ at + (12 * e + 12)
    reaches at e k low = omega (arith, low)

    at_end : (at e k : ℕ) → k < e → at + 8 + 12 * k + 12 * (e - k) ≡ at + 8 + 12 * e + 0
    at_end at e k low = omega (arith, low)

    past_end : (at e k : ℕ) → k < e → at + 8 + 12 * k + 12 * (e - k) + 1 ≡ at + 8 + 12 * e + 1
    past_end at e k low = omega (arith, low)

    grouped : (v j : ℕ) → v + 2 + j ≡ v + (2 + j)
    grouped v j = omega arith

    reach : d ≡ 12 * (e - k)
    reach =
        ap (λ n. n % 4096)
        (held_number M (v + 2) 2 branch (below_word (e - k) (least e k few))
        (λ j below.
        ap M (grouped v j) ∙ entry_byte P address b at k (2 + j) y M stands found low (omega (arith, below))
        ∙ get_or-append-add (71 ∷ 240 ∷ []) (big_bytes 2 branch ++ (big_bytes 4 (address y) ++ segment_of P.program y ∷ b ∷ 0 ∷ 0 ∷ [])) j 0
        ∙ get_or_append_left (big_bytes 2 branch) (big_bytes 4 (address y) ++ segment_of P.program y ∷ b ∷ 0 ∷ 0 ∷ []) 0 j below))
        ∙ low_half (12 * (e - k)) (short (e - k) (least e k few))

    segment : M (v + 8) ≡ segment_of P.program y
    segment = entry_byte P address b at k 8 y M stands found low (omega arith)
