-- A card with an operation and an operand is a whole statement.
use Rattle.std.proofs.Common.{◌≡◌, ℕ, suc, ◌+◌, ◌-◌, ◌<◌, ◌≤◌, Bool, true, false, eqb, not, List, [], ◌∷◌, ◌++◌, length, get_or, take, drop, map, replicate, refl, ap, sym, subst, ◌∙◌, arith, append_assoc, take_at, drop_at, length-append}
use Rattle.std.specs.Prelude.{slice_index, slice_range}
use Rattle.std.specs.List.{list_all, prefix_len, flat_map}
use Rattle.std.proofs.lemmas.List.{length-map, length-replicate, append-nil, get_or_at, replicate-append-replicate}
use Rattle.std.proofs.lemmas.Bool.{and_parts}
use Rattle.ctl_cards.specs.Cards.{is_blank, is_filled, run, after_run, past_blanks, operation_on, operand_on, is_continued, continuation_on, has_margin, joined_operand}
use Rattle.ctl_cards.specs.Grammar.{Spells, IsStatement}
use Rattle.ctl_cards.specs.Statements.{HasFewAliases}
use Rattle.ctl_cards.specs.declared.statement.Statement.{Statement}
use Rattle.list_text.specs.Statements.{code_of, card_of}
use Rattle.list_text.specs.ReadBack.{IsCardOf}

-- ---- a text of two runs

filled_length : (w rest : List ℕ) → list_all is_filled w ≡ true → prefix_len is_filled (w ++ 64 ∷ rest) ≡ length w
filled_length [] rest h = refl
filled_length (b ∷ w) rest h =
    let p = and_parts (is_filled b) (list_all is_filled w) h in
    rw (p.0, filled_length w rest p.1) (omega arith)

run_of : (w rest : List ℕ) → list_all is_filled w ≡ true → run (w ++ 64 ∷ rest) ≡ w
run_of w rest h = take_at w (64 ∷ rest) (prefix_len is_filled (w ++ 64 ∷ rest)) (sym (filled_length w rest h))

after_of : (w rest : List ℕ) → list_all is_filled w ≡ true → after_run (w ++ 64 ∷ rest) ≡ 64 ∷ rest
after_of w rest h = drop_at w (64 ∷ rest) (prefix_len is_filled (w ++ 64 ∷ rest)) (sym (filled_length w rest h))

not_blank : (b : Bool) → not b ≡ true → b ≡ false
not_blank true e = absurd cc
not_blank false e = refl

begins_filled : (w rest : List ℕ) → 1 ≤ length w → list_all is_filled w ≡ true → past_blanks (w ++ rest) ≡ w ++ rest
begins_filled [] rest l h = absurd (omega arith)
begins_filled (b ∷ w) rest l h =
    let p = and_parts (is_filled b) (list_all is_filled w) h in
    let d : eqb b 64 ≡ false = not_blank (eqb b 64) p.0 in
    rw d refl

past_one : (text : List ℕ) → past_blanks (64 ∷ text) ≡ past_blanks text
past_one text =
    let e : 1 + prefix_len is_blank text ≡ suc (prefix_len is_blank text) = omega arith in
    ap (λ (k : ℕ). drop k (64 ∷ text)) e

-- what stands in columns 2 to 71 is an operation and an operand
pub record HasRuns (body op operand : List ℕ) : Type 0 where
  pub operation_is : run (past_blanks body) ≡ op
  pub operand_is : run (past_blanks (after_run (past_blanks body))) ≡ operand

runs_of : (op operand rest : List ℕ) → 1 ≤ length op → 1 ≤ length operand → list_all is_filled op ≡ true → list_all is_filled operand ≡ true
    → HasRuns (op ++ 64 ∷ (operand ++ 64 ∷ rest)) op operand
runs_of op operand rest a b h g =
    let first = begins_filled op (64 ∷ (operand ++ 64 ∷ rest)) a h in
    record {
      operation_is = ap run first ∙ run_of op (operand ++ 64 ∷ rest) h;
      operand_is =
          ap (λ (z : List ℕ). run (past_blanks (after_run z))) first
          ∙ ap (λ (z : List ℕ). run (past_blanks z)) (after_of op (operand ++ 64 ∷ rest) h)
          ∙ ap run (past_one (operand ++ 64 ∷ rest) ∙ begins_filled operand (64 ∷ rest) b g)
          ∙ run_of operand rest g;
    }

-- ---- a card

columns : (body tail : List ℕ) (n : ℕ) → length body ≡ n → take n (drop 1 (64 ∷ (body ++ tail))) ≡ body
columns body tail n e = take_at body tail n e

last_column : (body tail : List ℕ) (n : ℕ) → length body ≡ n → get_or (64 ∷ (body ++ 64 ∷ tail)) (suc n) 0 ≡ 64
last_column body tail n e = get_or_at body 64 tail 0 n e

-- the card of a statement that has no continuation
pub record IsOneCard (card op operand : List ℕ) : Type 0 where
  pub operation_is : operation_on card ≡ op
  pub operand_is : operand_on card ≡ operand
  pub column_is : slice_index card 71 ≡ 64

one_card : (body tail op operand : List ℕ) → length body ≡ 70 → HasRuns body op operand → IsOneCard (64 ∷ (body ++ 64 ∷ tail)) op operand
one_card body tail op operand e h =
    let c : slice_range (64 ∷ (body ++ 64 ∷ tail)) 1 71 ≡ body = columns body (64 ∷ tail) 70 e in
    record {
      operation_is = ap (λ (z : List ℕ). run (past_blanks z)) c ∙ h.operation_is;
      operand_is = ap (λ (z : List ℕ). run (past_blanks (after_run (past_blanks z)))) c ∙ h.operand_is;
      column_is = last_column body tail 70 e;
    }

not_continued : (card : List ℕ) → slice_index card 71 ≡ 64 → is_continued card ≡ false
not_continued card e = rw e refl

-- a card that spells a statement is read as it
spelled_card : (card op operand : List ℕ) (s : Statement) (more : List (List ℕ)) → IsOneCard card op operand
    → Spells op operand s → HasFewAliases s → IsStatement (card ∷ more) s 1
spelled_card card op operand s more one spells few =
    let last : is_continued card ≡ false = not_continued card one.column_is in
    let none : prefix_len is_continued (card ∷ more) ≡ 0 = rw last refl in
    record {
      whole = (subst (λ (k : ℕ). k < 1 + prefix_len has_margin more) (sym none) (omega arith), subst (λ (k : ℕ). k < 32) (sym none) (omega arith));
      taken = ap (λ (k : ℕ). k + 1) (sym none);
      spells = subst (λ (z : List ℕ). Spells z (joined_operand (card ∷ more)) s) (sym one.operation_is)
          (subst (λ (z : List ℕ). Spells op z s)
          (sym (ap (λ (k : ℕ). operand_on card ++ flat_map continuation_on (take k more)) none ∙ append-nil (operand_on card) ∙ one.operand_is))
          spells);
      few_aliases = few;
    }

-- ---- the card of a text

more_of : (n m k a : ℕ) → n ≡ m + k → replicate n a ≡ replicate m a ++ replicate k a
more_of n m k a e = ap (λ (j : ℕ). replicate j a) e ∙ sym (replicate-append-replicate m k a)

text_length : (text op operand : List ℕ) → map code_of text ≡ 64 ∷ (op ++ 64 ∷ operand) → length text ≡ suc (length op + suc (length operand))
text_length text op operand e = sym (length-map text code_of) ∙ ap length e ∙ ap suc (length-append op (64 ∷ operand))

laid : (text op operand : List ℕ) (r : ℕ) → map code_of text ≡ 64 ∷ (op ++ 64 ∷ operand) → length op + length operand + 2 + r ≡ 70
    → card_of text ≡ 64 ∷ ((op ++ 64 ∷ (operand ++ 64 ∷ replicate r 64)) ++ 64 ∷ replicate 8 64)
unfolding card_of
laid text op operand r e size =
    let n : length text ≡ suc (length op + suc (length operand)) = text_length text op operand e in
    let left : 80 - length text ≡ suc r + 9 = omega arith in
    let blanks : replicate (80 - length text) 64 ≡ replicate (suc r) 64 ++ replicate 9 64 = more_of (80 - length text) (suc r) 9 64 left in
    ap (λ (z : List ℕ). z ++ replicate (80 - length text) 64) e
    ∙ ap (λ (z : List ℕ). (64 ∷ (op ++ 64 ∷ operand)) ++ z) blanks
    ∙ simp append_assoc

body_length : (op operand : List ℕ) (r : ℕ) → length op + length operand + 2 + r ≡ 70 → length (op ++ 64 ∷ (operand ++ 64 ∷ replicate r 64)) ≡ 70
body_length op operand r size = simp (length-append, length-replicate) (omega arith)

card_length : (body : List ℕ) → length body ≡ 70 → length (64 ∷ (body ++ 64 ∷ replicate 8 64)) ≡ 80
card_length body e = ap suc (length-append body (64 ∷ replicate 8 64) ∙ ap (λ (k : ℕ). k + 9) e)

laid_card : (text op operand : List ℕ) (s : Statement) (r : ℕ)
    → map code_of text ≡ 64 ∷ (op ++ 64 ∷ operand) → length op + length operand + 2 + r ≡ 70
    → 1 ≤ length op → 1 ≤ length operand → list_all is_filled op ≡ true → list_all is_filled operand ≡ true
    → Spells op operand s → HasFewAliases s → IsCardOf text s
laid_card text op operand s r e size a b h g spells few =
    let body : List ℕ = op ++ 64 ∷ (operand ++ 64 ∷ replicate r 64) in
    let card : card_of text ≡ 64 ∷ (body ++ 64 ∷ replicate 8 64) = laid text op operand r e size in
    let long : length body ≡ 70 = body_length op operand r size in
    record {
      size_is = ap length card ∙ card_length body long;
      statement_is = λ more. subst (λ (z : List ℕ). IsStatement (z ∷ more) s 1) (sym card)
          (spelled_card _ op operand s more (one_card body (replicate 8 64) op operand long (runs_of op operand (replicate r 64) a b h g)) spells few);
    }

-- the card of a text whose codes are a blank, an operation, a blank and an operand
pub text_card : (text op operand : List ℕ) (s : Statement)
    → map code_of text ≡ 64 ∷ (op ++ 64 ∷ operand) → length op + length operand ≤ 60
    → 1 ≤ length op → 1 ≤ length operand → list_all is_filled op ≡ true → list_all is_filled operand ≡ true
    → Spells op operand s → HasFewAliases s → IsCardOf text s
text_card text op operand s e short a b h g spells few =
    laid_card text op operand s (68 - (length op + length operand)) e (omega arith) a b h g spells few
