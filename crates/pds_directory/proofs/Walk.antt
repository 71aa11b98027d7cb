-- Walking from record to record, as a loop does.
use Rattle.std.proofs.Common.{◌≡◌, ℕ, suc, ◌-◌, ◌+◌, ◌≤◌, ◌<◌, Bool, true, false, cond, ◌&&◌, eqb, leb, List, [], ◌∷◌, ◌++◌, length, Some, None, Result, Ok, Err, refl, sym, ◌∙◌, append_assoc, arith}
use Rattle.std.proofs.lemmas.List.{append-nil}
use Rattle.std.proofs.lemmas.Bool.{leb-true}
use Rattle.std.proofs.lemmas.Bool.Decides.{nat_tests}
use Rattle.le_bytes.specs.declared.library_fault.LibFault.{LibFault}
use Rattle.le_bytes.specs.declared.library_fault.LibFault.TheVariants.{BadRecord}
use Rattle.pds_directory.specs.declared.entry.Span.{Span}
use Rattle.pds_directory.specs.declared.header.Head.{Head}
use Rattle.pds_directory.specs.Places.{next_record, records_from, end_at, ends_from, ends_of, rises_from, rises}

abbrev pub Walk : Type 0
Walk = Result (List Span) LibFault

pub record_taken : (left i : ℕ) (h : Head) (image : List ℕ) (at : ℕ) (done : List Span) (s : Span) (total : Walk)
    → i < left → Some s ≡ next_record h image (left - 1 - i) at
    → records_from (left - i) h image (i + 1) at done ≡ total
    → records_from (left - (i + 1)) h image (i + 1 + 1) (s.at + s.len) (done ++ s ∷ []) ≡ total
unfolding records_from
record_taken left i h image at done s total lt here so_far =
    let k : left - i ≡ suc (left - 1 - i) = omega arith in
    let j : left - (i + 1) ≡ left - 1 - i = omega arith in
    let one : records_from (left - i) h image (i + 1) at done ≡ records_from (left - 1 - i) h image (i + 1 + 1) (s.at + s.len) (done ++ s ∷ []) = rw (k, ← here) refl in
    rw j (sym one ∙ so_far)

pub record_wanting : (left i : ℕ) (h : Head) (image : List ℕ) (at : ℕ) (done : List Span) (total : Walk)
    → i < left → None ≡ next_record h image (left - 1 - i) at
    → records_from (left - i) h image (i + 1) at done ≡ total → total ≡ Err (BadRecord (i + 1))
unfolding records_from
record_wanting left i h image at done total lt here so_far =
    let k : left - i ≡ suc (left - 1 - i) = omega arith in
    let one : records_from (left - i) h image (i + 1) at done ≡ Err (BadRecord (i + 1)) = rw (k, ← here) refl in
    sym so_far ∙ one

pub image_ends : (left i : ℕ) (h : Head) (image : List ℕ) (at : ℕ) (done : List Span) (total : Walk)
    → left ≤ i → length image ≡ at
    → records_from (left - i) h image (i + 1) at done ≡ total → total ≡ Ok done
unfolding records_from
image_ends left i h image at done total le here so_far =
    let k : left - i ≡ 0 = omega arith in
    let same : eqb (length image) at ≡ true = grind (arith, nat_tests) in
    let one : records_from (left - i) h image (i + 1) at done ≡ Ok done = rw (k, same) refl in
    sym so_far ∙ one

pub image_goes_on : (left i : ℕ) (h : Head) (image : List ℕ) (at : ℕ) (done : List Span) (total : Walk)
    → left ≤ i → i ≤ left → (length image ≡ at → ⊥)
    → records_from (left - i) h image (i + 1) at done ≡ total → total ≡ Err (BadRecord (left + 1))
unfolding records_from
image_goes_on left i h image at done total le ge here so_far =
    let k : left - i ≡ 0 = omega arith in
    let e : i ≡ left = omega arith in
    let other : eqb (length image) at ≡ false = grind (arith, nat_tests) in
    let one : records_from (left - i) h image (i + 1) at done ≡ Err (BadRecord (i + 1)) = rw (k, other) refl in
    rw (← e) (sym so_far ∙ one)

-- ---- ends

pub end_noted : (k : ℕ) (s : Span) (ss : List Span) (done total : List ℕ)
    → done ++ ends_from k (s ∷ ss) ≡ total → (done ++ end_at k s) ++ ends_from (k + 1) ss ≡ total
unfolding ends_from
end_noted k s ss done total so_far = append_assoc done (end_at k s) (ends_from (k + 1) ss) ∙ so_far

pub no_ends_left : (k : ℕ) (done total : List ℕ) → done ++ ends_from k [] ≡ total → done ≡ total
unfolding ends_from
no_ends_left k done total so_far = sym (append-nil done) ∙ so_far

and_true : (a b : Bool) → (a && b) ≡ true → (a ≡ true) × (b ≡ true)
and_true true b e = (refl, e)
and_true false b e = absurd cc

le_test : (a b : ℕ) → a ≤ b → leb a b ≡ true
le_test a b h = grind (arith, nat_tests)

rises_lower : (low high : ℕ) (es : List ℕ) → low ≤ high → rises_from high es ≡ true → rises_from low es ≡ true
rises_lower low high [] le h = refl
rises_lower low high (e ∷ es) le h =
    let both = and_true (leb high e) (rises_from (e + 1) es) h in
    let up : leb low e ≡ true = let far : high ≤ e = leb-true high e both.0 in le_test low e (omega arith) in
    rw (up, both.1) refl

end_rises : (k : ℕ) (ss : List Span) (b : Bool) → rises_from (k + 1) (ends_from (k + 1) ss) ≡ true
    → rises_from k ((cond b (k ∷ []) []) ++ ends_from (k + 1) ss) ≡ true
end_rises k ss true h = rw (le_test k k (omega arith), h) refl
end_rises k ss false h = rises_lower k (k + 1) (ends_from (k + 1) ss) (omega arith) h

ends_rise_from : (k : ℕ) (ss : List Span) → rises_from k (ends_from k ss) ≡ true
unfolding ends_from
ends_rise_from k [] = refl
ends_rise_from k (s ∷ ss) = end_rises k ss (eqb s.len 0) (ends_rise_from (k + 1) ss)

pub ends_rise : (ss : List Span) → rises (ends_of ss) ≡ true
ends_rise ss = rises_lower 0 1 (ends_of ss) (omega arith) (ends_rise_from 1 ss)
