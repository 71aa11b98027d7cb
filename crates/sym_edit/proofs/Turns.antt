-- Edits one after another, as they are taken in turn.
use Rattle.std.proofs.Common.{◌≡◌, ℕ, ◌+◌, ◌<◌, ◌≤◌, ◌==◌, Bool, true, List, [], ◌∷◌, suc, length, drop, get_or, Some, None, Result, Ok, Err, refl, sym, ◌∙◌, arith, add-one, drop-cons}
use Rattle.std.proofs.lemmas.Bool.Decides.{nat_tests}
use Rattle.std.proofs.Math.ListN.{drop_of_length-le}
use Rattle.sym_mod.specs.declared.edits.Edit.{Edit}
use Rattle.sym_mod.specs.declared.module.SymModule.{SymModule}
use Rattle.sym_edit.specs.declared.fault.EditFault.{EditFault}
use Rattle.sym_edit.specs.declared.fault.EditFault.TheVariants.{NotThere, Clash, Memory}
use Rattle.sym_edit.specs.Edited.{fault_of, after_edit, unless_fault, edited_from, edited, IsDue}

turn : (es : List Edit) (i : ℕ) (m : SymModule) (d : Edit) → i < length es → edited_from i m (drop i es) ≡ unless_fault (fault_of i m (get_or es i d)) (edited_from (suc i) (after_edit m (get_or es i d)) (drop (suc i) es))
unfolding edited_from
turn es i m d in' = rw (drop-cons es i d in') (rw (add-one i) refl)

-- an edit that does not apply ends it
pub refused_turn : (es : List Edit) (i : ℕ) (m : SymModule) (d : Edit) (fault : EditFault) (all : Result SymModule EditFault) → i < length es → fault_of i m (get_or es i d) ≡ Some fault → edited_from i m (drop i es) ≡ all → all ≡ Err fault
refused_turn es i m d fault all in' is so = sym so ∙ turn es i m d in' ∙ rw is refl

-- an edit that applies is made
pub made_turn : (es : List Edit) (i : ℕ) (m n : SymModule) (d : Edit) (all : Result SymModule EditFault) → i < length es → fault_of i m (get_or es i d) ≡ None → n ≡ after_edit m (get_or es i d) → edited_from i m (drop i es) ≡ all → edited_from (i + 1) n (drop (i + 1) es) ≡ all
made_turn es i m n d all in' is made so = rw (add-one i, made) (sym (turn es i m d in' ∙ rw is refl) ∙ so)

-- after the last one
pub last_turn : (es : List Edit) (i : ℕ) (m : SymModule) (all : Result SymModule EditFault) → length es ≤ i → edited_from i m (drop i es) ≡ all → all ≡ Ok m
unfolding edited_from
last_turn es i m all end so =
    let none : drop i es ≡ [] = drop_of_length-le es end in
    sym so ∙ rw none refl

pub due : (d r : Result SymModule EditFault) → d ≡ r → IsDue d r
due d (Ok m) is = is
due d (Err Memory) is = tt
due d (Err (NotThere k name)) is = is
due d (Err (Clash k name)) is = is

-- no edits
pub no_turn : (es : List Edit) (m : SymModule) → length es ≡ 0 → edited m es ≡ Ok m
unfolding edited_from
no_turn [] m none = refl
no_turn (e ∷ es) m none = absurd (omega arith)

pub none_test : (n : ℕ) (b : Bool) → b ≡ (n == 0) → b ≡ true → n ≡ 0
none_test n b is so = grind (arith, nat_tests)
