-- A name's text: its eight characters, and where they end.
use Rattle.std.proofs.Common.{◌≡◌, ℕ, ◌+◌, ◌<◌, Bool, true, false, ◌&&◌, ◌==◌, if◌then◌else◌, List, [], ◌∷◌, ◌++◌, map, length, get_or, take, refl, ap, sym, ◌∙◌, arith}
use Rattle.std.proofs.lemmas.List.{take_more}
use Rattle.std.proofs.lemmas.List.Folds.{list_all-append}
use Rattle.std.proofs.Math.Bool.{and-true, and-false}
use Rattle.std.proofs.lemmas.Bool.{eq-eqb, ne_eqb}
use Rattle.std.specs.List.{list_all}
use Rattle.map_list.specs.Printed.{trimmed}

eight : (f : ℕ → ℕ) (xs : List ℕ) → length xs ≡ 8
    → f (get_or xs 0 0) ∷ f (get_or xs 1 0) ∷ f (get_or xs 2 0) ∷ f (get_or xs 3 0) ∷ f (get_or xs 4 0) ∷ f (get_or xs 5 0) ∷ f (get_or xs 6 0) ∷ f (get_or xs 7 0) ∷ [] ≡ map f xs
eight f [] p = absurd (omega arith)
eight f (a ∷ []) p = absurd (omega arith)
eight f (a ∷ b ∷ []) p = absurd (omega arith)
eight f (a ∷ b ∷ c ∷ []) p = absurd (omega arith)
eight f (a ∷ b ∷ c ∷ d ∷ []) p = absurd (omega arith)
eight f (a ∷ b ∷ c ∷ d ∷ e ∷ []) p = absurd (omega arith)
eight f (a ∷ b ∷ c ∷ d ∷ e ∷ g ∷ []) p = absurd (omega arith)
eight f (a ∷ b ∷ c ∷ d ∷ e ∷ g ∷ h ∷ []) p = absurd (omega arith)
eight f (a ∷ b ∷ c ∷ d ∷ e ∷ g ∷ h ∷ i ∷ []) p = refl
eight f (a ∷ b ∷ c ∷ d ∷ e ∷ g ∷ h ∷ i ∷ j ∷ rest) p = absurd (omega arith)

-- eight elements, each of which is f of the one at its place
pub mapped_eight : (f : ℕ → ℕ) (xs : List ℕ) (a b c d e g h i : ℕ) → length xs ≡ 8
    → a ≡ f (get_or xs 0 0) → b ≡ f (get_or xs 1 0) → c ≡ f (get_or xs 2 0) → d ≡ f (get_or xs 3 0) → e ≡ f (get_or xs 4 0) → g ≡ f (get_or xs 5 0) → h ≡ f (get_or xs 6 0) → i ≡ f (get_or xs 7 0)
    → a ∷ b ∷ c ∷ d ∷ e ∷ g ∷ h ∷ i ∷ [] ≡ map f xs
mapped_eight f xs a b c d e g h i p pa pb pc pd pe pg ph pi = let whole = eight f xs p in cc

abbrev is_space : ℕ → Bool
is_space b = b == 32

-- the text without the blanks at its end, once x stands after it
abbrev more : List ℕ → ℕ → Bool → List ℕ
more xs x b = if b then trimmed xs else xs ++ x ∷ []

trimmed_more : (xs : List ℕ) (x : ℕ) (b : Bool) → is_space x ≡ b → trimmed (xs ++ x ∷ []) ≡ more xs x b
trimmed_more [] x true p = rw p refl
trimmed_more [] x false p = rw p refl
trimmed_more (y ∷ ys) x true p =
    let all : list_all is_space (ys ++ x ∷ []) ≡ list_all is_space ys
    = list_all-append is_space ys (x ∷ []) ∙ ap (λ (b : Bool). list_all is_space ys && (b && true)) p ∙ and-true (list_all is_space ys)
    in rw (all, trimmed_more ys x true p) refl
trimmed_more (y ∷ ys) x false p =
    let all : list_all is_space (ys ++ x ∷ []) ≡ false
    = list_all-append is_space ys (x ∷ []) ∙ ap (λ (b : Bool). list_all is_space ys && (b && true)) p ∙ and-false (list_all is_space ys)
    in rw (all, trimmed_more ys x false p, and-false (y == 32)) refl

-- what is written of the first i characters is written of one more where a blank follows
pub blank_follows : (text : List ℕ) (i written : ℕ) → i < length text → get_or text i 0 ≡ 32
    → take written text ≡ trimmed (take i text) → take written text ≡ trimmed (take (i + 1) text)
blank_follows text i written h p e =
    let more = take_more text i 0 h in
    e ∙ sym (ap trimmed more ∙ trimmed_more (take i text) (get_or text i 0) true (eq-eqb (get_or text i 0) 32 p))

-- where another character follows, all of them are
pub mark_follows : (text : List ℕ) (i : ℕ) → i < length text → (get_or text i 0 ≡ 32 → ⊥)
    → take (i + 1) text ≡ trimmed (take (i + 1) text)
mark_follows text i h p =
    let more = take_more text i 0 h in
    rw more (sym (trimmed_more (take i text) (get_or text i 0) false (ne_eqb (get_or text i 0) 32 p)))
