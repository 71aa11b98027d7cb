-- A piece in the middle of a line.
use Rattle.std.proofs.Common.{◌≡◌, ℕ, ◌+◌, ◌-◌, ◌≤◌, List, ◌++◌, length, take, drop, refl, ap, sym, subst, ◌∙◌, arith, append_assoc, take_at, drop_at, drop-drop, length-append, length-take-le}
use borrow.Rule.Slice.PartMut.{put_mid}
use Rattle.list_text.specs.Pieces.{Puts}

middle : (line text : List ℕ) (at n : ℕ) → length text ≡ n → at + n ≤ length line
    → put_mid at n line text ≡ (take at line ++ text) ++ drop (at + n) line
middle line text at n e h =
    ap (λ (z : List ℕ). take at line ++ (text ++ z)) (drop-drop n at line) ∙ sym (append_assoc (take at line) text (drop (at + n) line))

front_length : (line text : List ℕ) (at n : ℕ) → length text ≡ n → at + n ≤ length line → length (take at line ++ text) ≡ at + n
front_length line text at n e h =
    length-append (take at line) text ∙ rw (length-take-le at line (omega arith), e) refl

past : (front rest line : List ℕ) (m k : ℕ) → length front ≡ m → rest ≡ drop m line → m ≤ k → drop k (front ++ rest) ≡ drop k line
past front rest line m k e r h =
    let far : m + (k - m) ≡ k = omega arith in
    ap (λ (j : ℕ). drop j (front ++ rest)) (sym far) ∙ sym (drop-drop (k - m) m (front ++ rest))
    ∙ ap (λ (z : List ℕ). drop (k - m) z) (drop_at front rest m e ∙ r) ∙ drop-drop (k - m) m line ∙ ap (λ (j : ℕ). drop j line) far

placed : (line text : List ℕ) (at n : ℕ) → length text ≡ n → at + n ≤ length line
    → Puts line at text (put_mid at n line text) (at + n)
placed line text at n e h = record {
  text_is = ap (λ (z : List ℕ). take (at + n) z) (middle line text at n e h)
      ∙ take_at (take at line ++ text) (drop (at + n) line) (at + n) (front_length line text at n e h);
  end_is = ap (λ (k : ℕ). at + k) (sym e);
  rest_is = λ k far. ap (λ (z : List ℕ). drop k z) (middle line text at n e h)
      ∙ past (take at line ++ text) (drop (at + n) line) line (at + n) k (front_length line text at n e h) refl far;
}

-- a piece that is written over so many bytes of a line
pub put_piece : (line text bytes : List ℕ) (at m n : ℕ) → bytes ≡ text → length text ≡ n → m ≡ n → at + n ≤ length line
    → Puts line at text (put_mid at m line bytes) (at + n)
put_piece line text bytes at m n same e more h =
    subst (λ (z : List ℕ). Puts line at text (put_mid at m line z) (at + n)) (sym same)
    (subst (λ (k : ℕ). Puts line at text (put_mid at k line text) (at + n)) (sym more) (placed line text at n e h))
