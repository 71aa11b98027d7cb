-- Head records: items of one kind in records of as many as stand in 240 bytes.
use Rattle.std.proofs.Common.{◌≡◌, ℕ, zero, suc, ◌+◌, ◌-◌, ◌*◌, ◌<◌, ◌≤◌, ◌^◌, ◌==◌, true, false, if◌then◌else◌, List, [], ◌∷◌, ◌++◌, map, length, take, drop, None, refl, sym, ap, subst, ◌∙◌, arith}
use Rattle.std.proofs.lemmas.Bool.{cond-false, ne_eqb}
use Rattle.std.proofs.lemmas.List.{take-map, drop-map, take_all, take-append-drop, length-take-le, length-drop, length-map, nil_from_length}
use Rattle.std.specs.List.{AllByRecursion, enumerate_from}
use Rattle.load_recs.specs.Records.{Record}
use Rattle.member_model.specs.Cuts.{cuts, together}
use Rattle.member_model.specs.SymbolList.{head_records}
use Rattle.member_model.specs.Facts.{Facts}
use Rattle.member_laws.proofs.Cutting.{cuts_in, cuts-are, parts_of, Fits, parts-fit, rest-fits, first-some, first-full, none-fit, last-fits}
use Rattle.member_laws.proofs.Items.{bytes_of}
use Rattle.member_laws.proofs.Lists.{each-take, each-drop}
use Rattle.member_laws.proofs.Reading.{saw, Walks, walks-none, walks-one, walks-cons, walks-to, walks-as}

-- so many records, of which the first has number j
abbrev pub heads_in : (ℕ → List ℕ → Record) → ℕ → ℕ → ℕ → List (List ℕ) → List Record
heads_in make per j zero items = []
heads_in make per j (suc c) items = make (j * per + 1) (together (take per items)) ∷ heads_in make per (j + 1) c (drop per items)

heads-run : (make : ℕ → List ℕ → Record) (per j c : ℕ) (items : List (List ℕ))
    → map (λ (k, some). make (k * per + 1) (together some)) (enumerate_from j (cuts_in per c items)) ≡ heads_in make per j c items
heads-run make per j zero items = refl
heads-run make per j (suc c) items = ap (λ l. make (j * per + 1) (together (take per items)) ∷ l) (heads-run make per (j + 1) c (drop per items))

pub heads-are : (make : ℕ → List ℕ → Record) (per : ℕ) (items : List (List ℕ)) → head_records make per items ≡ heads_in make per 0 (parts_of per (length items)) items
heads-are make per items =
    ap (λ l. map (λ (k, some). make (k * per + 1) (together some)) (enumerate_from 0 l)) (cuts-are per items)
    ∙ heads-run make per 0 (parts_of per (length items)) items

-- a kind of head record, of at most so many items, each with a property, which adds them to the facts
pub record Adds {X : Type 0} (make : ℕ → List ℕ → Record) (per : ℕ) (bytes : X → List ℕ) (Good : X → Type 0) (add : Facts → List X → Facts) : Type 0 where
  pub one : (F : Facts) (k : ℕ) (xs : List X) → F.due ≡ None → k < 2 ^ 16 → 1 ≤ length xs → length xs ≤ per → AllByRecursion Good xs
      → saw F (make k (bytes_of bytes xs)) ≡ add F xs
  pub twice : (F : Facts) (xs ys : List X) → add (add F xs) ys ≡ add F (xs ++ ys)
  pub due : (F : Facts) (xs : List X) → (add F xs).due ≡ F.due
  pub segment : (F : Facts) (xs : List X) → (add F xs).segment ≡ F.segment

number-fits : (j per len : ℕ) → 1 ≤ len → j * per + len < 2 ^ 16 → j * per + 1 < 2 ^ 16
number-fits j per len some few = omega arith

next-number : (j per len : ℕ) → per < len → j * per + len < 2 ^ 16 → (j + 1) * per + (len - per) < 2 ^ 16
next-number j per len full few = let e : (j + 1) * per ≡ j * per + per = grind arith in omega arith

heads-walk : {X : Type 0} (make : ℕ → List ℕ → Record) (per : ℕ) (bytes : X → List ℕ) (Good : X → Type 0) (add : Facts → List X → Facts)
    → Adds make per bytes Good add → 1 ≤ per → (s j c : ℕ) (xs : List X) (F : Facts) → Fits per (suc c) (length xs) → AllByRecursion Good xs
    → j * per + length xs < 2 ^ 16 → F.segment ≡ s → F.due ≡ None → Walks s F (heads_in make per j (suc c) (map bytes xs)) (add F xs)
heads-walk make per bytes Good add adds any s j zero xs F fits good few here none =
    let some : 1 ≤ length xs = first-some per 0 (length xs) fits in
    let short : length xs ≤ per = last-fits per (length xs) fits in
    let taken : take per (map bytes xs) ≡ map bytes xs = take-map bytes per xs ∙ ap (map bytes) (take_all per xs short) in
    walks-one s F (make (j * per + 1) (together (take per (map bytes xs)))) (add F xs) here
    (ap (λ l. saw F (make (j * per + 1) (together l))) taken
    ∙ adds.one F (j * per + 1) xs none (number-fits j per (length xs) some few) some short good)
heads-walk make per bytes Good add adds any s j (suc c) xs F fits good few here none =
    let some : 1 ≤ length xs = first-some per (suc c) (length xs) fits in
    let full : per < length xs = first-full per c (length xs) fits in
    let length_first : length (take per xs) ≡ per = length-take-le per xs (omega arith) in
    let first : saw F (make (j * per + 1) (together (take per (map bytes xs)))) ≡ add F (take per xs) =
    ap (λ l. saw F (make (j * per + 1) (together l))) (take-map bytes per xs)
    ∙ adds.one F (j * per + 1) (take per xs) none (number-fits j per (length xs) some few) (omega arith) (omega arith) (each-take Good per xs good) in
    let rest : Walks s (add F (take per xs)) (heads_in make per (j + 1) (suc c) (map bytes (drop per xs))) (add (add F (take per xs)) (drop per xs)) =
    heads-walk make per bytes Good add adds any s (j + 1) c (drop per xs) (add F (take per xs))
    (subst (λ l. Fits per (suc c) l) (sym (length-drop per xs)) (rest-fits per (suc c) (length xs) fits)) (each-drop Good per xs good)
    (subst (λ l. (j + 1) * per + l < 2 ^ 16) (sym (length-drop per xs)) (next-number j per (length xs) full few))
    (adds.segment F (take per xs) ∙ here) (adds.due F (take per xs) ∙ none) in
    walks-cons s F (make (j * per + 1) (together (take per (map bytes xs)))) (add F (take per xs)) (heads_in make per (j + 1) (suc c) (drop per (map bytes xs))) (add F xs) here first
    (walks-as s (add F (take per xs)) _ (heads_in make per (j + 1) (suc c) (map bytes (drop per xs))) (add F xs) (ap (λ l. heads_in make per (j + 1) (suc c) l) (drop-map bytes per xs))
    (walks-to s (add F (take per xs)) _ (add (add F (take per xs)) (drop per xs)) (add F xs) rest
    (adds.twice F (take per xs) (drop per xs) ∙ ap (add F) (take-append-drop per xs))))

from_zero : (per len : ℕ) → len < 2 ^ 16 → 0 * per + len < 2 ^ 16
from_zero per len few = let e : 0 * per ≡ 0 = grind arith in omega arith

-- the facts with items of a kind, where there is any
abbrev pub with_any : {X : Type 0} → (Facts → List X → Facts) → Facts → List X → Facts
with_any add F xs = if length xs == 0 then F else add F xs

pub heads_walk : {X : Type 0} (make : ℕ → List ℕ → Record) (per : ℕ) (bytes : X → List ℕ) (Good : X → Type 0) (add : Facts → List X → Facts)
    → Adds make per bytes Good add → (s : ℕ) (xs : List X) (F : Facts) → 1 ≤ per → AllByRecursion Good xs → length xs < 2 ^ 16 → F.segment ≡ s → F.due ≡ None
    → Walks s F (head_records make per (map bytes xs)) (with_any add F xs)
heads_walk make per bytes Good add adds s xs F some good few here none =
    walks-as s F _ (heads_in make per 0 (parts_of per (length xs)) (map bytes xs)) (with_any add F xs)
    (heads-are make per (map bytes xs) ∙ ap (λ l. heads_in make per 0 (parts_of per l) (map bytes xs)) (length-map xs bytes))
    (by_count (parts_of per (length xs)) (parts-fit per (length xs) some))
  where
    by_count : (c : ℕ) → Fits per c (length xs) → Walks s F (heads_in make per 0 c (map bytes xs)) (with_any add F xs)
    by_count zero fits = walks-to s F [] F (with_any add F xs) (walks-none s F) (sym (empty (length xs) (none-fit per (length xs) fits)))
      where
        empty : (n : ℕ) → n ≡ 0 → (if n == 0 then F else add F xs) ≡ F
        empty n e = rw e refl
    by_count (suc c) fits =
        walks-to s F _ (add F xs) (with_any add F xs)
        (heads-walk make per bytes Good add adds some s 0 c xs F fits good (from_zero per (length xs) few) here none)
        (sym (filled (length xs) (first-some per c (length xs) fits)))
      where
        filled : (n : ℕ) → 1 ≤ n → (if n == 0 then F else add F xs) ≡ add F xs
        filled n more = cond-false (n == 0) F (add F xs) (ne_eqb n 0 (omega arith))

pub any-segment : {X : Type 0} (make : ℕ → List ℕ → Record) (per : ℕ) (bytes : X → List ℕ) (Good : X → Type 0) (add : Facts → List X → Facts)
    → Adds make per bytes Good add → (F : Facts) (xs : List X) → (with_any add F xs).segment ≡ F.segment
any-segment make per bytes Good add adds F xs =
    elim (length xs == 0) as (λ b. (if b then F else add F xs).segment ≡ F.segment) [ true ↦ refl | false ↦ adds.segment F xs ]

pub any-due : {X : Type 0} (make : ℕ → List ℕ → Record) (per : ℕ) (bytes : X → List ℕ) (Good : X → Type 0) (add : Facts → List X → Facts)
    → Adds make per bytes Good add → (F : Facts) (xs : List X) → (with_any add F xs).due ≡ F.due
any-due make per bytes Good add adds F xs =
    elim (length xs == 0) as (λ b. (if b then F else add F xs).due ≡ F.due) [ true ↦ refl | false ↦ adds.due F xs ]
