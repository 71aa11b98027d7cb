-- The form of a record, by its first byte.
use Rattle.std.specs.Prelude.{ℕ, Bool, ◌==◌, nat_le, if◌then◌else◌, List, [], ◌∷◌}
use Rattle.std.specs.List.{list_any}
use Rattle.load_recs.specs.declared.records.Ends.{Ends}
use Rattle.load_recs.specs.declared.forms.Form.{Form}
use Rattle.load_recs.specs.declared.forms.Form.TheVariants.{Symbols, Sections, Notes, Control, Rld, ControlRld, Unknown}

abbrev pub is_one_of : List ℕ → ℕ → Bool
is_one_of numbers n = list_any (λ m. m == n) numbers

-- 4 is added to the identifier where the segment ends, and 8 more where the module does
abbrev pub ends_of : ℕ → Ends
ends_of identifier = record { segment = nat_le 4 identifier; «module» = nat_le 8 identifier }

abbrev pub form_of : ℕ → Form
form_of identifier =
    if identifier == 32 then Symbols
    else (if identifier == 16 then Sections
    else (if identifier == 96 then Notes
    else (if is_one_of (1 ∷ 5 ∷ 13 ∷ []) identifier then Control (ends_of identifier)
    else (if is_one_of (2 ∷ 6 ∷ 14 ∷ []) identifier then Rld (ends_of identifier)
    else (if is_one_of (3 ∷ 7 ∷ 15 ∷ []) identifier then ControlRld (ends_of identifier)
    else Unknown)))))
