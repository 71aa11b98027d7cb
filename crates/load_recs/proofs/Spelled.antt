-- The bytes of a record that was read spell it, but for those that nothing looks at.
use Rattle.std.proofs.Common.{◌≡◌, ℕ, ◌+◌, ◌/◌, ◌%◌, ◌<◌, ◌≤◌, Bool, true, false, not, ◌||◌, ◌&&◌, ◌==◌, nat_lt, List, [], ◌∷◌, ◌++◌, length, get_or, take, drop, Option, Some, None, Result, Ok, Err, ◌⊎◌, inl, inr, refl, sym, ap, subst, ◌∙◌, arith}
use Rattle.std.specs.Prelude.{IfOk, slice_index, if◌then◌else◌}
use Rattle.std.proofs.lemmas.List.{take-append-drop, length-take, length-drop, get_or-drop}
use Rattle.std.proofs.Math.Seq.{take-length}
use Rattle.std.proofs.lemmas.Bool.{eqb-true}
use Rattle.std.proofs.lemmas.Bool.Decides.{nat_tests}
use Rattle.byteorder.specs.Endian.{big_bytes, big_number}
use Rattle.load_recs.specs.declared.records.Ends.{Ends}
use Rattle.load_recs.specs.declared.records.TextHead.{TextHead}
use Rattle.load_recs.specs.declared.records.Expect.{Expect}
use Rattle.load_recs.specs.declared.records.Expect.TheVariants.{Head, Text}
use Rattle.load_recs.specs.declared.records.RecFault.{RecFault}
use Rattle.load_recs.specs.declared.records.RecFault.TheVariants.{BadLength, BadType, BadFlag}
use Rattle.load_recs.specs.declared.forms.Form.{Form}
use Rattle.load_recs.specs.declared.forms.Form.TheVariants.{Symbols, Sections, Notes, Control, Rld, ControlRld, Unknown}
use Rattle.load_recs.specs.Forms.{form_of}
use Rattle.load_recs.specs.Items.{number_at, has_wrong_symbol}
use Rattle.load_recs.specs.Relocations.{is_whole, has_wrong_flag, rlds_of}
use Rattle.load_recs.specs.Records.{Record, record_of, TextRecord, ending, head_record, text_record, rld_record, rec_bytes, most_text, AreItems, IsTextHead, AreEnds, IsRecord}
use Rattle.load_recs.specs.Reading.{form, first_fault, has_wrong_count, section_size, subtype, fault_as, contents_as, unless, reading, rld_count, rld_bytes, text_head, has_wrong_size, has_wrong_text_length, expected}
use Rattle.load_recs.specs.Plain.{plain_as, plain, Spells}
use Rattle.load_recs.specs.declared.records.Rec.{Rec}
use Rattle.load_recs.specs.Gives.{Gives}

-- ---- bytes

abbrev pub AreBytes : List ℕ → Type 0
AreBytes bytes = (i : ℕ) → get_or bytes i 0 < 256

pair_is : (x y a b : ℕ) → x ≡ a → y ≡ b → (let p : List ℕ = x ∷ y ∷ [] in p ≡ a ∷ b ∷ [])
pair_is x y a b p q = rw (p, q) refl

abbrev pub two : ℕ → ℕ → ℕ
two a b = big_number 2 (a ∷ b ∷ [])

pub two_bytes : (a b : ℕ) → a < 256 → b < 256 → big_bytes 2 (two a b) ≡ a ∷ b ∷ []
two_bytes a b p q = pair_is (two a b / 256 % 256) (two a b % 256) a b (omega arith) (omega arith)

triple_is : (x y z a b c : ℕ) → x ≡ a → y ≡ b → z ≡ c → (let p : List ℕ = x ∷ y ∷ z ∷ [] in p ≡ a ∷ b ∷ c ∷ [])
triple_is x y z a b c p q r = rw (p, q, r) refl

abbrev pub three : ℕ → ℕ → ℕ → ℕ
three a b c = big_number 3 (a ∷ b ∷ c ∷ [])

pub three_bytes : (a b c : ℕ) → a < 256 → b < 256 → c < 256 → big_bytes 3 (three a b c) ≡ a ∷ b ∷ c ∷ []
three_bytes a b c p q r =
    triple_is (three a b c / 65536 % 256) (three a b c / 256 % 256) (three a b c % 256) a b c (omega arith) (omega arith) (omega arith)

pub AreBytes-drop : (n : ℕ) (bytes : List ℕ) → AreBytes bytes → AreBytes (drop n bytes)
AreBytes-drop n bytes fits i = rw get_or-drop (fits (n + i))

-- ---- first bytes

abbrev IsFormed : ℕ → Form → Type 0
IsFormed n Symbols = n ≡ 32
IsFormed n Sections = n ≡ 16
IsFormed n Notes = n ≡ 96
IsFormed n (Control ends) = (n ≡ 1 + ending ends) × AreEnds ends
IsFormed n (Rld ends) = (n ≡ 2 + ending ends) × AreEnds ends
IsFormed n (ControlRld ends) = (n ≡ 3 + ending ends) × AreEnds ends
IsFormed n Unknown = Unit {0}

abbrev IsFormedRight : ℕ → Type 0
IsFormedRight n = IsFormed n (form_of n)

pub tested : (b : Bool) → (b ≡ true) ⊎ (b ≡ false)
tested true = inl refl
tested false = inr refl

-- a fact about the form at n, by the fact at the number that a test found
at_number : (k n : ℕ) → IsFormedRight k → (k == n) ≡ true → IsFormedRight n
at_number k n here e = subst IsFormedRight (eqb-true k n e) here

at_number' : (k n : ℕ) → IsFormedRight k → (n == k) ≡ true → IsFormedRight n
at_number' k n here e = subst IsFormedRight (sym (eqb-true n k e)) here

formed_none : (n : ℕ) → (n == 32) ≡ false → (n == 16) ≡ false → (n == 96) ≡ false
    → (1 == n) ≡ false → (5 == n) ≡ false → (13 == n) ≡ false → (2 == n) ≡ false → (6 == n) ≡ false → (14 == n) ≡ false
    → (3 == n) ≡ false → (7 == n) ≡ false → (15 == n) ≡ false → IsFormedRight n
formed_none n a b c d e f g h i j k l = rw (a, b, c, d, e, f, g, h, i, j, k, l) tt

formed : (n : ℕ) → IsFormedRight n
formed n =
    elim (tested (n == 32)) [
      | inl e ↦ at_number' 32 n refl e
      | inr a ↦
          elim (tested (n == 16)) [
            | inl e ↦ at_number' 16 n refl e
            | inr b ↦
                elim (tested (n == 96)) [
                  | inl e ↦ at_number' 96 n refl e
                  | inr c ↦
                      elim (tested (1 == n)) [
                        | inl e ↦ at_number 1 n (refl, λ h. absurd cc) e
                        | inr d ↦
                            elim (tested (5 == n)) [
                              | inl e ↦ at_number 5 n (refl, λ h. refl) e
                              | inr f ↦
                                  elim (tested (13 == n)) [
                                    | inl e ↦ at_number 13 n (refl, λ h. refl) e
                                    | inr g ↦
                                        elim (tested (2 == n)) [
                                          | inl e ↦ at_number 2 n (refl, λ h. absurd cc) e
                                          | inr h ↦
                                              elim (tested (6 == n)) [
                                                | inl e ↦ at_number 6 n (refl, λ h. refl) e
                                                | inr i ↦
                                                    elim (tested (14 == n)) [
                                                      | inl e ↦ at_number 14 n (refl, λ h. refl) e
                                                      | inr j ↦
                                                          elim (tested (3 == n)) [
                                                            | inl e ↦ at_number 3 n (refl, λ h. absurd cc) e
                                                            | inr k ↦
                                                                elim (tested (7 == n)) [
                                                                  | inl e ↦ at_number 7 n (refl, λ h. refl) e
                                                                  | inr l ↦
                                                                      elim (tested (15 == n)) [
                                                                        | inl e ↦ at_number 15 n (refl, λ h. refl) e
                                                                        | inr m ↦
                                                                            formed_none n a b c d f g h i j k l m
                                                                      ]
                                                                ]
                                                          ]
                                                    ]
                                              ]
                                        ]
                                  ]
                            ]
                      ]
                ]
          ]
    ]

-- ---- faults that are not there

fault_skipped : (a : Bool) (f : RecFault) (faults : List (Bool × RecFault)) → first_fault ((a, f) ∷ faults) ≡ None → (a ≡ false) × (first_fault faults ≡ None)
fault_skipped true f faults e = absurd cc
fault_skipped false f faults e = (refl, e)

absent_2 : (a b : Bool) (f g : RecFault) → first_fault ((a, f) ∷ (b, g) ∷ []) ≡ None → (a ≡ false) × (b ≡ false)
absent_2 a b f g none =
    let s0 = fault_skipped a f ((b, g) ∷ []) none in
    let s1 = fault_skipped b g ([]) s0.1 in
    (s0.0, s1.0)

absent_3 : (a b c : Bool) (f g h : RecFault) → first_fault ((a, f) ∷ (b, g) ∷ (c, h) ∷ []) ≡ None → (a ≡ false) × (b ≡ false) × (c ≡ false)
absent_3 a b c f g h none =
    let s0 = fault_skipped a f ((b, g) ∷ (c, h) ∷ []) none in
    let s1 = fault_skipped b g ((c, h) ∷ []) s0.1 in
    let s2 = fault_skipped c h ([]) s1.1 in
    (s0.0, s1.0, s2.0)

absent_4 : (a b c d : Bool) (f g h i : RecFault) → first_fault ((a, f) ∷ (b, g) ∷ (c, h) ∷ (d, i) ∷ []) ≡ None → (a ≡ false) × (b ≡ false) × (c ≡ false) × (d ≡ false)
absent_4 a b c d f g h i none =
    let s0 = fault_skipped a f ((b, g) ∷ (c, h) ∷ (d, i) ∷ []) none in
    let s1 = fault_skipped b g ((c, h) ∷ (d, i) ∷ []) s0.1 in
    let s2 = fault_skipped c h ((d, i) ∷ []) s1.1 in
    let s3 = fault_skipped d i ([]) s2.1 in
    (s0.0, s1.0, s2.0, s3.0)

absent_5 : (a b c d e : Bool) (f g h i j : RecFault) → first_fault ((a, f) ∷ (b, g) ∷ (c, h) ∷ (d, i) ∷ (e, j) ∷ []) ≡ None → (a ≡ false) × (b ≡ false) × (c ≡ false) × (d ≡ false) × (e ≡ false)
absent_5 a b c d e f g h i j none =
    let s0 = fault_skipped a f ((b, g) ∷ (c, h) ∷ (d, i) ∷ (e, j) ∷ []) none in
    let s1 = fault_skipped b g ((c, h) ∷ (d, i) ∷ (e, j) ∷ []) s0.1 in
    let s2 = fault_skipped c h ((d, i) ∷ (e, j) ∷ []) s1.1 in
    let s3 = fault_skipped d i ((e, j) ∷ []) s2.1 in
    let s4 = fault_skipped e j ([]) s3.1 in
    (s0.0, s1.0, s2.0, s3.0, s4.0)

neither_is : (a b : Bool) → (a || b) ≡ false → (a ≡ false) × (b ≡ false)
neither_is true b e = absurd cc
neither_is false b e = (refl, e)

pub true_by_not : (a : Bool) → not a ≡ false → a ≡ true
true_by_not true e = refl
true_by_not false e = absurd cc

above_zero : (n : ℕ) → (n == 0) ≡ false → 0 < n
above_zero n e = grind (arith, nat_tests)

not_above : (n most : ℕ) → nat_lt most n ≡ false → n ≤ most
not_above n most e = grind (arith, nat_tests)

record IsCounted (count size len : ℕ) : Type 0 where
  some : 0 < count
  whole : count % size ≡ 0
  few : count ≤ 240
  all : len ≡ 8 + count

counted : (count size len : ℕ) → (count == 0 || not (count % size == 0) || nat_lt 240 count || not (len == 8 + count)) ≡ false → IsCounted count size len
counted count size len e =
    let a = neither_is (count == 0 || not (count % size == 0) || nat_lt 240 count) (not (len == 8 + count)) e in
    let b = neither_is (count == 0 || not (count % size == 0)) (nat_lt 240 count) a.0 in
    let c = neither_is (count == 0) (not (count % size == 0)) b.0 in
    record {
      some = above_zero count c.0;
      whole = eqb-true (count % size) 0 (true_by_not (count % size == 0) c.1);
      few = not_above count 240 b.1;
      all = eqb-true len (8 + count) (true_by_not (len == 8 + count) a.1);
    }

record IsSized (told tail count len : ℕ) : Type 0 where
  same : told ≡ tail
  few : count ≤ 240
  all : len ≡ 16 + count + tail

sized : (told tail count len : ℕ) → (not (told == tail) || nat_lt 240 count || not (len == 16 + count + tail)) ≡ false → IsSized told tail count len
sized told tail count len e =
    let a = neither_is (not (told == tail) || nat_lt 240 count) (not (len == 16 + count + tail)) e in
    let b = neither_is (not (told == tail)) (nat_lt 240 count) a.0 in
    record {
      same = eqb-true told tail (true_by_not (told == tail) b.0);
      few = not_above count 240 b.1;
      all = eqb-true len (16 + count + tail) (true_by_not (len == 16 + count + tail) a.1);
    }

record IsTold (told again : ℕ) : Type 0 where
  some : 0 < told
  most : told ≤ 13030
  same : again ≡ told

told_well : (told again : ℕ) → (told == 0 || nat_lt most_text told || not (again == told)) ≡ false → IsTold told again
told_well told again e =
    let a = neither_is (told == 0 || nat_lt most_text told) (not (again == told)) e in
    let b = neither_is (told == 0) (nat_lt most_text told) a.0 in
    record {
      some = above_zero told b.0;
      most = not_above told 13030 b.1;
      same = eqb-true again told (true_by_not (again == told) a.1);
    }

-- ---- bytes that are long enough

on_8 : (P : List ℕ → Type 0) → ((a b c d e f g h : ℕ) (rest : List ℕ) → P (a ∷ b ∷ c ∷ d ∷ e ∷ f ∷ g ∷ h ∷ rest)) → (xs : List ℕ) → nat_lt (length xs) 8 ≡ false → P xs
on_8 P each [] n = absurd cc
on_8 P each (a ∷ []) n = absurd cc
on_8 P each (a ∷ b ∷ []) n = absurd cc
on_8 P each (a ∷ b ∷ c ∷ []) n = absurd cc
on_8 P each (a ∷ b ∷ c ∷ d ∷ []) n = absurd cc
on_8 P each (a ∷ b ∷ c ∷ d ∷ e ∷ []) n = absurd cc
on_8 P each (a ∷ b ∷ c ∷ d ∷ e ∷ f ∷ []) n = absurd cc
on_8 P each (a ∷ b ∷ c ∷ d ∷ e ∷ f ∷ g ∷ []) n = absurd cc
on_8 P each (a ∷ b ∷ c ∷ d ∷ e ∷ f ∷ g ∷ h ∷ rest) n = each a b c d e f g h rest

pub on_16 : (P : List ℕ → Type 0) → ((a b c d e f g h i j k l m n o p : ℕ) (rest : List ℕ) → P (a ∷ b ∷ c ∷ d ∷ e ∷ f ∷ g ∷ h ∷ i ∷ j ∷ k ∷ l ∷ m ∷ n ∷ o ∷ p ∷ rest)) → (xs : List ℕ) → nat_lt (length xs) 16 ≡ false → P xs
on_16 P each [] z = absurd cc
on_16 P each (a ∷ []) z = absurd cc
on_16 P each (a ∷ b ∷ []) z = absurd cc
on_16 P each (a ∷ b ∷ c ∷ []) z = absurd cc
on_16 P each (a ∷ b ∷ c ∷ d ∷ []) z = absurd cc
on_16 P each (a ∷ b ∷ c ∷ d ∷ e ∷ []) z = absurd cc
on_16 P each (a ∷ b ∷ c ∷ d ∷ e ∷ f ∷ []) z = absurd cc
on_16 P each (a ∷ b ∷ c ∷ d ∷ e ∷ f ∷ g ∷ []) z = absurd cc
on_16 P each (a ∷ b ∷ c ∷ d ∷ e ∷ f ∷ g ∷ h ∷ []) z = absurd cc
on_16 P each (a ∷ b ∷ c ∷ d ∷ e ∷ f ∷ g ∷ h ∷ i ∷ []) z = absurd cc
on_16 P each (a ∷ b ∷ c ∷ d ∷ e ∷ f ∷ g ∷ h ∷ i ∷ j ∷ []) z = absurd cc
on_16 P each (a ∷ b ∷ c ∷ d ∷ e ∷ f ∷ g ∷ h ∷ i ∷ j ∷ k ∷ []) z = absurd cc
on_16 P each (a ∷ b ∷ c ∷ d ∷ e ∷ f ∷ g ∷ h ∷ i ∷ j ∷ k ∷ l ∷ []) z = absurd cc
on_16 P each (a ∷ b ∷ c ∷ d ∷ e ∷ f ∷ g ∷ h ∷ i ∷ j ∷ k ∷ l ∷ m ∷ []) z = absurd cc
on_16 P each (a ∷ b ∷ c ∷ d ∷ e ∷ f ∷ g ∷ h ∷ i ∷ j ∷ k ∷ l ∷ m ∷ n ∷ []) z = absurd cc
on_16 P each (a ∷ b ∷ c ∷ d ∷ e ∷ f ∷ g ∷ h ∷ i ∷ j ∷ k ∷ l ∷ m ∷ n ∷ o ∷ []) z = absurd cc
on_16 P each (a ∷ b ∷ c ∷ d ∷ e ∷ f ∷ g ∷ h ∷ i ∷ j ∷ k ∷ l ∷ m ∷ n ∷ o ∷ p ∷ rest) z = each a b c d e f g h i j k l m n o p rest

-- ---- symbol, scatter, translation and note records

abbrev head_with : ℕ → ℕ → List ℕ → List ℕ → List ℕ → List ℕ
head_with identifier subtype first count items = (identifier ∷ subtype ∷ 0 ∷ 0 ∷ []) ++ (first ++ (count ++ items))

head_read : (n sub size b c d e f g h : ℕ) (items : List ℕ) → e < 256 → f < 256 → g < 256 → h < 256
    → IsCounted (two g h) size (length (n ∷ b ∷ c ∷ d ∷ e ∷ f ∷ g ∷ h ∷ items))
    → (n ∷ sub ∷ 0 ∷ 0 ∷ e ∷ f ∷ g ∷ h ∷ items ≡ head_record n sub (two e f) items) × AreItems size (two e f) items
head_read n sub size b c d e f g h items fe ff fg fh is =
    let count : length items ≡ two g h = omega (arith, is.all) in
    let first : big_bytes 2 (two e f) ≡ e ∷ f ∷ [] = two_bytes e f fe ff in
    let last : big_bytes 2 (length items) ≡ g ∷ h ∷ [] = ap (big_bytes 2) count ∙ two_bytes g h fg fh in (
      ap (λ x. head_with n sub x (g ∷ h ∷ []) items) (sym first) ∙ ap (λ x. head_with n sub (big_bytes 2 (two e f)) x items) (sym last),
      record { numbered = omega (arith, fe, ff); some = omega (arith, count, is.some); most = omega (arith, count, is.few); whole = ap (λ k. k % size) count ∙ is.whole },
    )

-- a record that is read is no text, has the fields that it may have, and is spelled so
abbrev IsFound : Form → List ℕ → Type 0
IsFound f bytes = (expected (contents_as f bytes) ≡ Head) × IsRecord (contents_as f bytes) × (plain_as f bytes ≡ rec_bytes (contents_as f bytes))

abbrev Finds : Form → List ℕ → Type 0
Finds f bytes = IsFormed (slice_index bytes 0) f → AreBytes bytes → fault_as f bytes ≡ None → IsFound f bytes

symbols_found : (n b c d e f g h : ℕ) (rest : List ℕ) → Finds Symbols (n ∷ b ∷ c ∷ d ∷ e ∷ f ∷ g ∷ h ∷ rest)
symbols_found n b c d e f g h rest formed fits none =
    let bytes : List ℕ = n ∷ b ∷ c ∷ d ∷ e ∷ f ∷ g ∷ h ∷ rest in
    let s = absent_3 (nat_lt (length bytes) 8) (has_wrong_count 16 bytes) (has_wrong_symbol rest) BadLength BadLength BadType none in
    let is = head_read n 0 16 b c d e f g h rest (fits 4) (fits 5) (fits 6) (fits 7) (counted (two g h) 16 (length bytes) s.1) in
    (refl, (is.1, s.2), is.0 ∙ ap (λ x. head_record x 0 (two e f) rest) formed)

notes_found : (n b c d e f g h : ℕ) (rest : List ℕ) → Finds Notes (n ∷ b ∷ c ∷ d ∷ e ∷ f ∷ g ∷ h ∷ rest)
notes_found n b c d e f g h rest formed fits none =
    let bytes : List ℕ = n ∷ b ∷ c ∷ d ∷ e ∷ f ∷ g ∷ h ∷ rest in
    let s = absent_2 (nat_lt (length bytes) 8) (has_wrong_count 12 bytes) BadLength BadLength none in
    let is = head_read n 0 12 b c d e f g h rest (fits 4) (fits 5) (fits 6) (fits 7) (counted (two g h) 12 (length bytes) s.1) in
    (refl, is.1, is.0 ∙ ap (λ x. head_record x 0 (two e f) rest) formed)

-- the subtype decides, and is one of the two
scatter_found : (n c d e f g h : ℕ) (rest : List ℕ) → Finds Sections (n ∷ 1 ∷ c ∷ d ∷ e ∷ f ∷ g ∷ h ∷ rest)
scatter_found n c d e f g h rest formed fits none =
    let bytes : List ℕ = n ∷ 1 ∷ c ∷ d ∷ e ∷ f ∷ g ∷ h ∷ rest in
    let s = absent_3 (nat_lt (length bytes) 8) false (has_wrong_count 4 bytes) BadLength BadType BadLength none in
    let is = head_read n 1 4 1 c d e f g h rest (fits 4) (fits 5) (fits 6) (fits 7) (counted (two g h) 4 (length bytes) s.2) in
    (refl, is.1, is.0 ∙ ap (λ x. head_record x 1 (two e f) rest) formed)

translation_found : (n c d e f g h : ℕ) (rest : List ℕ) → Finds Sections (n ∷ 2 ∷ c ∷ d ∷ e ∷ f ∷ g ∷ h ∷ rest)
translation_found n c d e f g h rest formed fits none =
    let bytes : List ℕ = n ∷ 2 ∷ c ∷ d ∷ e ∷ f ∷ g ∷ h ∷ rest in
    let s = absent_3 (nat_lt (length bytes) 8) false (has_wrong_count 2 bytes) BadLength BadType BadLength none in
    let is = head_read n 2 2 2 c d e f g h rest (fits 4) (fits 5) (fits 6) (fits 7) (counted (two g h) 2 (length bytes) s.2) in
    (refl, is.1, is.0 ∙ ap (λ x. head_record x 2 (two e f) rest) formed)

both_ways : (b : Bool) → b ≡ true → b ≡ false → ⊥
both_ways b p q = let e : true ≡ false = sym p ∙ q in cc

neither_subtype : (b : ℕ) → (b == 1) ≡ false → (b == 2) ≡ false → (not (b == 1) && not (b == 2)) ≡ true
neither_subtype b p q = rw (p, q) refl

sections_found : (n b c d e f g h : ℕ) (rest : List ℕ) → Finds Sections (n ∷ b ∷ c ∷ d ∷ e ∷ f ∷ g ∷ h ∷ rest)
sections_found n b c d e f g h rest formed fits none =
    let bytes : List ℕ = n ∷ b ∷ c ∷ d ∷ e ∷ f ∷ g ∷ h ∷ rest in
    let s = absent_3 (nat_lt (length bytes) 8) (not (b == 1) && not (b == 2)) (has_wrong_count (section_size bytes) bytes) BadLength BadType BadLength none in
    let P : ℕ → Type 0 = λ k. Finds Sections (n ∷ k ∷ c ∷ d ∷ e ∷ f ∷ g ∷ h ∷ rest) in
    elim (tested (b == 1)) [
      | inl p ↦ subst P (sym (eqb-true b 1 p)) (scatter_found n c d e f g h rest) formed fits none
      | inr p ↦ elim (tested (b == 2)) [
        | inl q ↦ subst P (sym (eqb-true b 2 q)) (translation_found n c d e f g h rest) formed fits none
        | inr q ↦ absurd (let wrong : (not (b == 1) && not (b == 2)) ≡ true = neither_subtype b p q in let right : (not (b == 1) && not (b == 2)) ≡ false = s.1 in both_ways _ wrong right)
      ]
    ]

-- ---- relocation records

abbrev rld_with : ℕ → List ℕ → List ℕ → List ℕ → List ℕ
rld_with n count told items = (n ∷ 0 ∷ 0 ∷ 0 ∷ []) ++ (count ++ (told ++ ((0 ∷ 0 ∷ 0 ∷ 0 ∷ 0 ∷ 0 ∷ 0 ∷ 0 ∷ []) ++ items)))

rld_with-is : (n : ℕ) (c c' t t' i i' : List ℕ) → c ≡ c' → t ≡ t' → i ≡ i' → rld_with n c t i ≡ rld_with n c' t' i'
rld_with-is n c c' t t' i i' p q r = rw (p, q, r) refl

rlds_found : (ends : Ends) (n b c d e f g h i j k l m o p q : ℕ) (rest : List ℕ)
    → Finds (Rld ends) (n ∷ b ∷ c ∷ d ∷ e ∷ f ∷ g ∷ h ∷ i ∷ j ∷ k ∷ l ∷ m ∷ o ∷ p ∷ q ∷ rest)
rlds_found ends n b c d e f g h i j k l m o p q rest formed fits none =
    let bytes : List ℕ = n ∷ b ∷ c ∷ d ∷ e ∷ f ∷ g ∷ h ∷ i ∷ j ∷ k ∷ l ∷ m ∷ o ∷ p ∷ q ∷ rest in
    let items = take (two e f) rest in
    let s = absent_4 (nat_lt (length bytes) 16) (has_wrong_size 0 bytes) (not (is_whole items)) (has_wrong_flag (rlds_of items)) BadLength BadLength BadLength BadFlag none in
    let is = sized (two g h) 0 (two e f) (length bytes) s.1 in
    let all : two e f ≡ length rest = omega (arith, is.all) in
    let held : items ≡ rest = ap (λ x. take x rest) all ∙ take-length rest in
    let count : big_bytes 2 (length items) ≡ e ∷ f ∷ [] = ap (λ xs. big_bytes 2 (length xs)) held ∙ ap (big_bytes 2) (sym all) ∙ two_bytes e f (fits 4) (fits 5) in
    let told : (let t : List ℕ = 0 ∷ 0 ∷ [] in t) ≡ g ∷ h ∷ [] = pair_is 0 0 g h (omega (arith, is.same)) (omega (arith, is.same)) in (
      refl,
      (formed.1, record { most = omega (arith, is.few, all, ap length held); whole = true_by_not (is_whole items) s.2; flags = s.3 }),
      rld_with-is n (e ∷ f ∷ []) (big_bytes 2 (length items)) (g ∷ h ∷ []) (0 ∷ 0 ∷ []) rest items (sym count) (sym told) (sym held)
          ∙ ap (λ x. rld_record x items) formed.0,
    )

-- ---- records that tell of a text

end_spelled : (end : List ℕ) (told : ℕ) → length end ≡ 4 → AreBytes end → number_at 2 2 end ≡ told → end ≡ big_bytes 2 (number_at 0 2 end) ++ big_bytes 2 told
end_spelled [] told len fits e = absurd (omega arith)
end_spelled (s ∷ []) told len fits e = absurd (omega arith)
end_spelled (s ∷ t ∷ []) told len fits e = absurd (omega arith)
end_spelled (s ∷ t ∷ u ∷ []) told len fits e = absurd (omega arith)
end_spelled (s ∷ t ∷ u ∷ v ∷ []) told len fits e =
    sym (ap (λ x. x ++ big_bytes 2 told) (two_bytes s t (fits 0) (fits 1)) ∙ ap (λ x. s ∷ t ∷ x) (ap (big_bytes 2) (sym e) ∙ two_bytes u v (fits 2) (fits 3)))
end_spelled (s ∷ t ∷ u ∷ v ∷ w ∷ rest) told len fits e = absurd (omega arith)

abbrev text_with : ℕ → List ℕ → List ℕ → List ℕ → List ℕ → List ℕ → List ℕ
text_with n count told address len rest =
    (n ∷ 0 ∷ 0 ∷ 0 ∷ []) ++ (count ++ (told ++ ((6 ∷ []) ++ (address ++ ((0 ∷ 0 ∷ []) ++ (len ++ rest))))))

text_with-is : (n : ℕ) (c c' t t' a a' l l' r r' : List ℕ) → c ≡ c' → t ≡ t' → a ≡ a' → l ≡ l' → r ≡ r'
    → text_with n c t a l r ≡ text_with n c' t' a' l' r'
text_with-is n c c' t t' a a' l l' r r' p q s u v = rw (p, q, s, u, v) refl

record IsTextRead (n e f g h j k l p q : ℕ) (rest : List ℕ) (text : TextHead) : Type 0 where
  few : length (take (two e f) rest) ≤ 240
  spelled : text_with n (e ∷ f ∷ []) (g ∷ h ∷ []) (j ∷ k ∷ l ∷ []) (p ∷ q ∷ []) rest ≡ text_record n (take (two e f) rest) text
  may_be : IsTextHead text

text_read : (n b c d e f g h i j k l m o p q : ℕ) (rest : List ℕ)
    → (let bytes : List ℕ = n ∷ b ∷ c ∷ d ∷ e ∷ f ∷ g ∷ h ∷ i ∷ j ∷ k ∷ l ∷ m ∷ o ∷ p ∷ q ∷ rest in
    AreBytes bytes → has_wrong_size 4 bytes ≡ false → has_wrong_text_length bytes ≡ false
    → IsTextRead n e f g h j k l p q rest (text_head bytes))
text_read n b c d e f g h i j k l m o p q rest fits size length_fine =
    let bytes : List ℕ = n ∷ b ∷ c ∷ d ∷ e ∷ f ∷ g ∷ h ∷ i ∷ j ∷ k ∷ l ∷ m ∷ o ∷ p ∷ q ∷ rest in
    let items = take (two e f) rest in
    let end = drop (two e f) rest in
    let is = sized (two g h) 4 (two e f) (length bytes) size in
    let well = told_well (two p q) (number_at 2 2 end) length_fine in
    let end_fits : AreBytes end = AreBytes-drop (two e f) rest (AreBytes-drop 16 bytes fits) in
    let held : length items ≡ two e f = omega (arith, is.all, length-take (two e f) rest) in
    let end_is = end_spelled end (two p q) (omega (arith, is.all, length-drop (two e f) rest)) end_fits well.same in
    let count : big_bytes 2 (length items) ≡ e ∷ f ∷ [] = ap (big_bytes 2) held ∙ two_bytes e f (fits 4) (fits 5) in
    let told : (let t : List ℕ = 0 ∷ 4 ∷ [] in t) ≡ g ∷ h ∷ [] = pair_is 0 4 g h (omega (arith, is.same, fits 6, fits 7)) (omega (arith, is.same, fits 6, fits 7)) in
    record {
      few = omega (arith, held, is.few);
      spelled = text_with-is n (e ∷ f ∷ []) (big_bytes 2 (length items)) (g ∷ h ∷ []) (0 ∷ 4 ∷ []) (j ∷ k ∷ l ∷ []) (big_bytes 3 (three j k l))
          (p ∷ q ∷ []) (big_bytes 2 (two p q)) rest (items ++ (big_bytes 2 (number_at 0 2 end) ++ big_bytes 2 (two p q)))
          (sym count) (sym told) (sym (three_bytes j k l (fits 9) (fits 10) (fits 11))) (sym (two_bytes p q (fits 14) (fits 15)))
          (sym (take-append-drop (two e f) rest) ∙ ap (λ x. items ++ x) end_is);
      may_be = record {
        address = omega (arith, fits 9, fits 10, fits 11);
        some = well.some;
        most = well.most;
        section = omega (arith, end_fits 0, end_fits 1);
      };
    }

control_found : (ends : Ends) (n b c d e f g h i j k l m o p q : ℕ) (rest : List ℕ)
    → Finds (Control ends) (n ∷ b ∷ c ∷ d ∷ e ∷ f ∷ g ∷ h ∷ i ∷ j ∷ k ∷ l ∷ m ∷ o ∷ p ∷ q ∷ rest)
control_found ends n b c d e f g h i j k l m o p q rest formed fits none =
    let bytes : List ℕ = n ∷ b ∷ c ∷ d ∷ e ∷ f ∷ g ∷ h ∷ i ∷ j ∷ k ∷ l ∷ m ∷ o ∷ p ∷ q ∷ rest in
    let s = absent_3 (nat_lt (length bytes) 16) (has_wrong_size 4 bytes || not (rld_count bytes == 0)) (has_wrong_text_length bytes) BadLength BadLength BadLength none in
    let sizes = neither_is (has_wrong_size 4 bytes) (not (rld_count bytes == 0)) s.1 in
    let empty : two e f ≡ 0 = eqb-true (two e f) 0 (true_by_not (two e f == 0) sizes.1) in
    let is = text_read n b c d e f g h i j k l m o p q rest fits sizes.0 s.2 in (
      refl,
      (formed.1, is.may_be),
      is.spelled ∙ ap (λ x. text_record n (take x rest) (text_head bytes)) empty ∙ ap (λ x. text_record x [] (text_head bytes)) formed.0,
    )

control_rld_found : (ends : Ends) (n b c d e f g h i j k l m o p q : ℕ) (rest : List ℕ)
    → Finds (ControlRld ends) (n ∷ b ∷ c ∷ d ∷ e ∷ f ∷ g ∷ h ∷ i ∷ j ∷ k ∷ l ∷ m ∷ o ∷ p ∷ q ∷ rest)
control_rld_found ends n b c d e f g h i j k l m o p q rest formed fits none =
    let bytes : List ℕ = n ∷ b ∷ c ∷ d ∷ e ∷ f ∷ g ∷ h ∷ i ∷ j ∷ k ∷ l ∷ m ∷ o ∷ p ∷ q ∷ rest in
    let items = take (two e f) rest in
    let s = absent_5 (nat_lt (length bytes) 16) (has_wrong_size 4 bytes || rld_count bytes == 0) (not (is_whole items)) (has_wrong_text_length bytes) (has_wrong_flag (rlds_of items))
    BadLength BadLength BadLength BadLength BadFlag none in
    let sizes = neither_is (has_wrong_size 4 bytes) (rld_count bytes == 0) s.1 in
    let sized_is = sized (two g h) 4 (two e f) (length bytes) sizes.0 in
    let filled : 0 < two e f = above_zero (two e f) sizes.1 in
    let is = text_read n b c d e f g h i j k l m o p q rest fits sizes.0 s.3 in (
      refl,
      (
        formed.1,
        record { most = is.few; whole = true_by_not (is_whole items) s.2; flags = s.4 },
        omega (arith, filled, sized_is.all, length-take (two e f) rest),
        is.may_be,
      ),
      is.spelled ∙ ap (λ x. text_record x items (text_head bytes)) formed.0,
    )

-- ---- any record

formed_at : (bytes : List ℕ) → IsFormed (slice_index bytes 0) (form bytes)
formed_at [] = tt
formed_at (n ∷ rest) = formed n

found_as : (f : Form) (bytes : List ℕ) → Finds f bytes
found_as Symbols bytes formed fits none =
    let s = absent_3 (nat_lt (length bytes) 8) (has_wrong_count 16 bytes) (has_wrong_symbol (drop 8 bytes)) BadLength BadLength BadType none in
    on_8 (Finds Symbols) symbols_found bytes s.0 formed fits none
found_as Sections bytes formed fits none =
    let s = absent_3 (nat_lt (length bytes) 8) (not (subtype bytes == 1) && not (subtype bytes == 2)) (has_wrong_count (section_size bytes) bytes) BadLength BadType BadLength none in
    on_8 (Finds Sections) sections_found bytes s.0 formed fits none
found_as Notes bytes formed fits none =
    let s = absent_2 (nat_lt (length bytes) 8) (has_wrong_count 12 bytes) BadLength BadLength none in
    on_8 (Finds Notes) notes_found bytes s.0 formed fits none
found_as (Control ends) bytes formed fits none =
    let s = absent_3 (nat_lt (length bytes) 16) (has_wrong_size 4 bytes || not (rld_count bytes == 0)) (has_wrong_text_length bytes) BadLength BadLength BadLength none in
    on_16 (Finds (Control ends)) (control_found ends) bytes s.0 formed fits none
found_as (Rld ends) bytes formed fits none =
    let items = rld_bytes bytes in
    let s = absent_4 (nat_lt (length bytes) 16) (has_wrong_size 0 bytes) (not (is_whole items)) (has_wrong_flag (rlds_of items)) BadLength BadLength BadLength BadFlag none in
    on_16 (Finds (Rld ends)) (rlds_found ends) bytes s.0 formed fits none
found_as (ControlRld ends) bytes formed fits none =
    let items = rld_bytes bytes in
    let s = absent_5 (nat_lt (length bytes) 16) (has_wrong_size 4 bytes || rld_count bytes == 0) (not (is_whole items)) (has_wrong_text_length bytes) (has_wrong_flag (rlds_of items))
    BadLength BadLength BadLength BadLength BadFlag none in
    on_16 (Finds (ControlRld ends)) (control_rld_found ends) bytes s.0 formed fits none
found_as Unknown bytes formed fits none = absurd cc

unless_ok : (o : Option RecFault) (held r : Record) → unless o held ≡ Ok r → (o ≡ None) × (held ≡ r)
unless_ok None held r e = (refl, cc)
unless_ok (Some f) held r e = absurd cc

abbrev text_or_fault : Bool → List ℕ → Result Record RecFault
text_or_fault b bytes = if b then Ok (TextRecord bytes) else Err BadLength

told_ok : (b : Bool) (bytes : List ℕ) (r : Record) → text_or_fault b bytes ≡ Ok r → (b ≡ true) × (r ≡ TextRecord bytes)
told_ok true bytes r e = (refl, cc)
told_ok false bytes r e = absurd cc

-- what was read is spelled by the bytes
pub read_spelled : (after : Expect) (bytes : List ℕ) (r : Record) → AreBytes bytes → reading after bytes ≡ Ok r → Spells after bytes r
read_spelled Head bytes r fits e =
    let is = unless_ok (fault_as (form bytes) bytes) (contents_as (form bytes) bytes) r e in
    subst (λ (x : Record). (expected x ≡ Head) × IsRecord x × (plain bytes ≡ rec_bytes x)) is.1
    (found_as (form bytes) bytes (formed_at bytes) fits is.0)
read_spelled (Text told) bytes r fits e =
    let is = told_ok (length bytes == told) bytes r e in
    (is.1, eqb-true (length bytes) told is.0)

pub answer_spelled : (after : Expect) (bytes : List ℕ) (answer : Result Rec RecFault) → AreBytes bytes → Gives answer (reading after bytes)
    → IfOk answer (λ r. Spells after bytes (record_of r))
answer_spelled after bytes (Ok r) fits given = read_spelled after bytes (record_of r) fits given
answer_spelled after bytes (Err f) fits given = tt
