-- Registers, one after another.
use Rattle.std.proofs.Common.{◌≡◌, ℕ, suc, Bool, false, ◌||◌, inl, inr, le_refl, append-nil, length-drop, get_or-drop, ◌+◌, ◌<◌, ◌≤◌, List, [], ◌∷◌, ◌++◌, length, drop, get_or, refl, sym, ap, ◌∙◌, arith, append_assoc}
use Rattle.std.specs.Prelude.{All, IsTrue}
use Rattle.std.proofs.lemmas.Bool.Decides.{eqb_tells}
use Rattle.std.proofs.lemmas.List.{drop_more, drop_all}
use Rattle.sym_mod.specs.declared.program.Register.{Register}
use Rattle.sym_mod.specs.Sound.{IsSoundRegister, IsAlignment}
use Rattle.linking_model.specs.Points.{next_multiple, displacements, registers_end}

end_cons : (at : ℕ) (x : Register) (xs : List Register) → registers_end at (x ∷ xs) ≡ registers_end (next_multiple at x.align + x.length) xs
unfolding registers_end
end_cons at x xs = refl

end_none : (at : ℕ) → registers_end at [] ≡ at
unfolding registers_end
end_none at = refl

places_cons : (at : ℕ) (x : Register) (xs : List Register) → displacements at (x ∷ xs) ≡ next_multiple at x.align ∷ displacements (next_multiple at x.align + x.length) xs
unfolding displacements
places_cons at x xs = refl

places_none : (at : ℕ) → displacements at [] ≡ []
unfolding displacements
places_none at = refl

-- one register on
pub end_step : (registers : List Register) (i : ℕ) (d : Register) (at place whole : ℕ) → i < length registers → registers_end at (drop i registers) ≡ whole → place ≡ next_multiple at (get_or registers i d).align → registers_end (place + (get_or registers i d).length) (drop (i + 1) registers) ≡ whole
end_step registers i d at place whole low was is =
    ap (λ n. registers_end (n + (get_or registers i d).length) (drop (i + 1) registers)) is
    ∙ sym (end_cons at (get_or registers i d) (drop (i + 1) registers))
    ∙ ap (λ l. registers_end at l) (sym (drop_more registers i d low)) ∙ was

pub end_all : (registers : List Register) (i at whole : ℕ) → length registers ≤ i → registers_end at (drop i registers) ≡ whole → at ≡ whole
end_all registers i at whole high was = sym (end_none at) ∙ ap (λ l. registers_end at l) (sym (drop_all i registers high)) ∙ was

pub places_step : (registers : List Register) (i : ℕ) (d : Register) (at place : ℕ) (out whole : List ℕ) → i < length registers → out ++ displacements at (drop i registers) ≡ whole → place ≡ next_multiple at (get_or registers i d).align → (out ++ place ∷ []) ++ displacements (place + (get_or registers i d).length) (drop (i + 1) registers) ≡ whole
places_step registers i d at place out whole low was is =
    append_assoc out (place ∷ []) (displacements (place + (get_or registers i d).length) (drop (i + 1) registers))
    ∙ ap (λ n. out ++ n ∷ displacements (n + (get_or registers i d).length) (drop (i + 1) registers)) is
    ∙ ap (λ l. out ++ l) (sym (places_cons at (get_or registers i d) (drop (i + 1) registers)))
    ∙ ap (λ l. out ++ displacements at l) (sym (drop_more registers i d low)) ∙ was

pub places_all : (registers : List Register) (i at : ℕ) (out whole : List ℕ) → length registers ≤ i → out ++ displacements at (drop i registers) ≡ whole → out ≡ whole
places_all registers i at out whole high was =
    sym (append-nil out) ∙ ap (λ l. out ++ l) (sym (places_none at)) ∙ ap (λ l. out ++ displacements at l) (sym (drop_all i registers high)) ∙ was

-- ---- none ends before it begins

multiple_low : (n align : ℕ) → IsAlignment align → n ≤ next_multiple n align
multiple_low n align is =
    elim (eqb_tells align 1) as (λ _. n ≤ next_multiple n align) [
      | inl a ↦ rw (a.1) (omega arith)
      | inr a ↦ elim (eqb_tells align 2) as (λ _. n ≤ next_multiple n align) [
        | inl b ↦ rw (b.1) (omega arith)
        | inr b ↦ elim (eqb_tells align 4) as (λ _. n ≤ next_multiple n align) [
          | inl d ↦ rw (d.1) (omega arith)
          | inr d ↦ elim (eqb_tells align 8) as (λ _. n ≤ next_multiple n align) [
            | inl e ↦ rw (e.1) (omega arith)
            | inr e ↦ absurd (none_of a.0 b.0 d.0 e.0 is)
          ]
        ]
      ]
    ]
  where
    none_of : {p q r s : Bool} → p ≡ false → q ≡ false → r ≡ false → s ≡ false → IsTrue (((p || q) || r) || s) → ⊥
    none_of e f g h t = cc

end_above : (at : ℕ) (xs : List Register) → All IsSoundRegister xs → at ≤ registers_end at xs
end_above at [] all = rw (end_none at) (le_refl at)
end_above at (x ∷ xs) all =
    let low : at ≤ next_multiple at x.align = multiple_low at x.align (all 0 x (omega arith)).align in
    let rest : next_multiple at x.align + x.length ≤ registers_end (next_multiple at x.align + x.length) xs = end_above (next_multiple at x.align + x.length) xs (λ k d inside. all (suc k) d (omega arith)) in
    rw (end_cons at x xs) (omega arith)

all_behind : (xs : List Register) (i : ℕ) → All IsSoundRegister xs → All IsSoundRegister (drop i xs)
all_behind xs i all = λ k d inside. all_at k d inside
  where
    all_at : (k : ℕ) (d : Register) → k < length (drop i xs) → IsSoundRegister (get_or (drop i xs) k d)
    all_at k d inside = let within : i + k < length xs = omega (arith, length-drop i xs) in rw (get_or-drop i xs k d) (all (i + k) d within)

pub place_below : (registers : List Register) (i : ℕ) (d : Register) (at place : ℕ) → All IsSoundRegister registers → i < length registers → registers_end at (drop i registers) ≤ 16777215 → place ≡ next_multiple at (get_or registers i d).align → place + (get_or registers i d).length ≤ 16777215
place_below registers i d at place all low fits is =
    let more : registers_end (place + (get_or registers i d).length) (drop (i + 1) registers) ≡ registers_end at (drop i registers) = end_step registers i d at place (registers_end at (drop i registers)) low refl is in
    let above : place + (get_or registers i d).length ≤ registers_end (place + (get_or registers i d).length) (drop (i + 1) registers) = end_above (place + (get_or registers i d).length) (drop (i + 1) registers) (all_behind registers (i + 1) all) in
    omega arith

pub at_below : (registers : List Register) (i at whole : ℕ) → All IsSoundRegister registers → registers_end at (drop i registers) ≡ whole → at ≤ whole
at_below registers i at whole all was = let above : at ≤ registers_end at (drop i registers) = end_above at (drop i registers) (all_behind registers i all) in omega arith
