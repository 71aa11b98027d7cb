-- What a sink holds while a text is written to it.
use Rattle.std.proofs.Common.{◌≡◌, ℕ, ◌+◌, ◌-◌, ◌<◌, ◌≤◌, List, [], ◌++◌, length, take, drop, Option, Some, sym, ◌∙◌, ap, arith, append_assoc, length-drop}
use Rattle.std.proofs.lemmas.List.{append-nil, take_all}
use Rattle.std.proofs.Math.Seq.{take-add}
use Rattle.le_io.specs.Counts.{Gains}

-- a write that appends nothing
pub gains_nothing : (first now later : Option (List ℕ)) (bytes : List ℕ) → Gains first now bytes → Gains now later [] → Gains first later bytes
gains_nothing first now later bytes gained nothing held is =
    nothing (held ++ bytes) (gained held is) ∙ ap Some (append-nil (held ++ bytes))

rest_of : (text rest : List ℕ) (done : ℕ) → rest ≡ take (length text - done) (drop done text) → rest ≡ drop done text
rest_of text rest done is =
    is ∙ take_all (length text - done) (drop done text) (omega (arith, length-drop done text))

-- a write that appends n bytes of the rest
pub gains_more : (first now later : Option (List ℕ)) (text rest : List ℕ) (done n : ℕ) → rest ≡ take (length text - done) (drop done text) → Gains first now (take done text) → Gains now later (take n rest) → Gains first later (take (done + n) text)
gains_more first now later text rest done n is gained more held told =
    more (held ++ take done text) (gained held told)
    ∙ ap Some
    (append_assoc held (take done text) (take n rest)
    ∙ ap (λ (x : List ℕ). held ++ x)
    (ap (λ (x : List ℕ). take done text ++ take n x) (rest_of text rest done is) ∙ sym (take-add done n text)))

pub fits_in : (text rest : List ℕ) (done n : ℕ) → done < length text → rest ≡ take (length text - done) (drop done text) → n ≤ length rest → done + n ≤ length text
fits_in text rest done n inside is within =
    omega (arith, ap length (rest_of text rest done is), length-drop done text)
