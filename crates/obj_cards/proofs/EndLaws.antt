-- An END card that was spelled is read again.
use Rattle.std.proofs.Common.{◌≡◌, ℕ, ◌-◌, ◌/◌, ◌%◌, ◌^◌, ◌<◌, ◌≢◌, true, false, not, List, [], ◌∷◌, ◌++◌, length, take, drop, replicate, get_or, Option, Some, None, eqb, inl, inr, refl, sym, ap, subst, ◌∙◌, arith}
use Rattle.std.specs.Prelude.{IfSome}
use Rattle.le_bytes.specs.declared.name.Name.{Name}
use Rattle.le_bytes.specs.Names.{is_blank}
use Rattle.byteorder.specs.Endian.{big_number, big_bytes}
use Rattle.obj_cards.specs.declared.card.EndStart.{EndStart}
use Rattle.obj_cards.specs.declared.card.EndStart.TheVariants.{None as NoStart, At, Named}
use Rattle.obj_cards.specs.declared.card.EndCard.{EndCard}
use Rattle.obj_cards.specs.Columns.{are_blank, blanks, card_with, head, end_type}
use Rattle.obj_cards.specs.End.{start_name, length_bytes, end_text, end_start, end_length, end_card, IsEndStart, IsEndCard}
use Rattle.std.proofs.lemmas.Bool.{cases_Bool, eq-eqb}
use Rattle.std.proofs.lemmas.Bool.Decides.{nat_tests}
use Rattle.std.proofs.lemmas.List.{get_or-drop}
use Rattle.obj_cards.proofs.Laying.{two_back, three_back, four_back, cells, chosen_true, eight, over, over_start}

-- a name and 4 blanks before the length
pub name_then : (name : List ℕ) → length name ≡ 8 → take 12 (name ++ replicate 8 64) ≡ name ++ blanks 4
name_then name len = subst (λ x. take 12 (x ++ replicate 8 64) ≡ x ++ blanks 4) (eight name len) refl

pub name_after : (name : List ℕ) → length name ≡ 8 → drop 12 (name ++ replicate 8 64) ≡ blanks 4
name_after name len = subst (λ x. drop 12 (x ++ replicate 8 64) ≡ blanks 4) (eight name len) refl

-- a name over the front of 16 blanks
pub name_over : (body name text : List ℕ) → body ≡ over 0 text (replicate 16 64) → text ≡ name → length text ≡ 8 → body ≡ name ++ replicate 8 64
name_over body name text laid is len =
    laid ∙ over_start 64 16 text ∙ ap (λ n. text ++ replicate (16 - n) 64) len ∙ ap (λ t. t ++ replicate 8 64) is

pub length_over : (body last name : List ℕ) (o : Option ℕ) → body ≡ name ++ replicate 8 64 → length name ≡ 8 → last ≡ take 12 body ++ length_bytes o → last ≡ name ++ blanks 4 ++ length_bytes o
length_over body last name o laid len is =
    is ∙ ap (λ b. take 12 b ++ length_bytes o) laid ∙ ap (λ t. t ++ length_bytes o) (name_then name len)

pub small_length : (card : List ℕ) (n : ℕ) → n ≡ big_number 4 (drop 28 card) → get_or card 28 0 ≡ 0 → ((k : ℕ) → get_or card k 0 < 256) → n < 2 ^ 24
small_length card n is zero small =
    omega (arith, is, get_or-drop 28 card 0 0, get_or-drop 28 card 1 0, get_or-drop 28 card 2 0, get_or-drop 28 card 3 0, small 29, small 30, small 31)

-- ---- what was spelled is read again

-- three bytes that are all blank spell the number X'404040'
blank_number : (a b c : ℕ) → are_blank (a ∷ b ∷ c ∷ []) ≡ true → big_number 3 (a ∷ b ∷ c ∷ []) ≡ 0x404040
blank_number a b c e = grind (arith, nat_tests)

blank_bytes_number : (address : ℕ) → address < 2 ^ 24 → address ≢ 0x404040 → are_blank (big_bytes 3 address) ≡ false
blank_bytes_number address lt ne =
    elim (cases_Bool (are_blank (big_bytes 3 address))) [
      | inl yes_blank ↦ absurd (ne (sym (three_back address [] lt) ∙ blank_number _ _ _ yes_blank))
      | inr no_blank ↦ no_blank
    ]

-- an END card whose fields are cells
abbrev end_cells : List ℕ → List ℕ → List ℕ → Option ℕ → List ℕ
end_cells address esdid name len = card_with (head end_type address (blanks 2) esdid ++ (name ++ blanks 4 ++ length_bytes len))

small_high : (n : ℕ) → n < 2 ^ 24 → eqb (n / 256 ^ 3 % 256) 0 ≡ true
small_high n lt = eq-eqb _ _ (omega arith)

length_cells : (a b c s t : ℕ) (name : List ℕ) (len : Option ℕ) → IfSome len (λ n. n < 2 ^ 24) → end_length (end_cells (a ∷ b ∷ c ∷ []) (s ∷ t ∷ []) (cells name) len) ≡ len
length_cells a b c s t name None small = refl
length_cells a b c s t name (Some n) small =
    chosen_true (eqb (n / 256 ^ 3 % 256) 0) (Some (big_number 4 (big_bytes 4 n))) None (small_high n small) ∙ ap Some (four_back n [] (omega (arith, small)))

length_again : (a b c s t : ℕ) (name : List ℕ) (len : Option ℕ) → length name ≡ 8 → IfSome len (λ n. n < 2 ^ 24) → end_length (end_cells (a ∷ b ∷ c ∷ []) (s ∷ t ∷ []) name len) ≡ len
length_again a b c s t name len long small = subst (λ x. end_length (end_cells (a ∷ b ∷ c ∷ []) (s ∷ t ∷ []) x len) ≡ len) (eight name long) (length_cells a b c s t name len small)

named_cells : (letters : List ℕ) (len : Option ℕ) → is_blank (record { 0 = cells letters }) ≡ false → end_start (end_cells (blanks 3) (blanks 2) (cells letters) len) ≡ Named (record { 0 = cells letters })
named_cells letters len named = chosen_true (not (are_blank (cells letters))) (Named (record { 0 = cells letters })) NoStart (ap not named)

start_named : (name : Name) (len : Option ℕ) → length name.0 ≡ 8 → is_blank name ≡ false → end_start (end_cells (blanks 3) (blanks 2) name.0 len) ≡ Named name
start_named name len long named =
    subst (λ x. is_blank (record { 0 = x }) ≡ false → end_start (end_cells (blanks 3) (blanks 2) x len) ≡ Named (record { 0 = x })) (eight name.0 long) (named_cells name.0 len) named

start_at : (address esdid : ℕ) (len : Option ℕ) → address < 2 ^ 24 → address ≢ 0x404040 → esdid < 2 ^ 16 → end_start (end_cells (big_bytes 3 address) (big_bytes 2 esdid) (blanks 8) len) ≡ At address esdid
start_at address esdid len lt ne small =
    chosen_true (not (are_blank (big_bytes 3 address))) (At (big_number 3 (big_bytes 3 address)) (big_number 2 (big_bytes 2 esdid))) NoStart (ap not (blank_bytes_number address lt ne))
    ∙ ap (λ x. At x (big_number 2 (big_bytes 2 esdid))) (three_back address [] lt) ∙ ap (At address) (two_back esdid [] small)

abbrev made : EndStart → Option ℕ → EndCard
made start len = record { start = start; length = len }

both : (card : List ℕ) (start : EndStart) (len : Option ℕ) → end_start card ≡ start → end_length card ≡ len → end_card card ≡ made start len
unfolding end_card
both card start len e f = ap (λ s. made s (end_length card)) e ∙ ap (made start) f

again_from : (start : EndStart) (len : Option ℕ) → length (start_name start) ≡ 8 → IsEndStart start → IfSome len (λ n. n < 2 ^ 24) → end_card (card_with (end_text (made start len))) ≡ made start len
again_from NoStart len long fits small = both (end_cells (blanks 3) (blanks 2) (blanks 8) len) NoStart len refl (length_again 64 64 64 64 64 (blanks 8) len refl small)
again_from (At address esdid) len long fits small =
    both (end_cells (big_bytes 3 address) (big_bytes 2 esdid) (blanks 8) len) (At address esdid) len (start_at address esdid len fits.0 fits.1 fits.2) (length_again 0 0 0 0 0 (blanks 8) len refl small)
again_from (Named name) len long fits small =
    both (end_cells (blanks 3) (blanks 2) name.0 len) (Named name) len (start_named name len long fits) (length_again 64 64 64 64 64 name.0 len long small)

pub end_again : (e : EndCard) → length (start_name e.start) ≡ 8 → IsEndCard e → end_card (card_with (end_text e)) ≡ e
end_again e long fits = again_from e.start e.length long fits.start fits.length
