-- Bytes of a record that nothing looks at, and what reading says about the spelling.
use Rattle.std.specs.Prelude.{◌≡◌, ℕ, List, ◌∷◌, length}
use Rattle.load_recs.specs.Records.{Record, TextRecord, IsRecord, rec_bytes}
use Rattle.load_recs.specs.Reading.{form, expected}
use Rattle.load_recs.specs.declared.forms.Form.{Form}
use Rattle.load_recs.specs.declared.forms.Form.TheVariants.{Symbols, Sections, Notes, Control, Rld, ControlRld}
use Rattle.load_recs.specs.declared.records.Expect.{Expect}
use Rattle.load_recs.specs.declared.records.Expect.TheVariants.{Head, Text}

-- the bytes, with those that nothing looks at as they are written
abbrev pub plain_as : Form → List ℕ → List ℕ
plain_as Symbols (a ∷ _ ∷ _ ∷ _ ∷ rest) = a ∷ 0 ∷ 0 ∷ 0 ∷ rest
plain_as Sections (a ∷ b ∷ _ ∷ _ ∷ rest) = a ∷ b ∷ 0 ∷ 0 ∷ rest
plain_as Notes (a ∷ _ ∷ _ ∷ _ ∷ rest) = a ∷ 0 ∷ 0 ∷ 0 ∷ rest
plain_as (Control ends) (a ∷ _ ∷ _ ∷ _ ∷ b ∷ c ∷ d ∷ e ∷ _ ∷ f ∷ g ∷ h ∷ _ ∷ _ ∷ rest) =
    a ∷ 0 ∷ 0 ∷ 0 ∷ b ∷ c ∷ d ∷ e ∷ 6 ∷ f ∷ g ∷ h ∷ 0 ∷ 0 ∷ rest
plain_as (Rld ends) (a ∷ _ ∷ _ ∷ _ ∷ b ∷ c ∷ d ∷ e ∷ _ ∷ _ ∷ _ ∷ _ ∷ _ ∷ _ ∷ _ ∷ _ ∷ rest) =
    a ∷ 0 ∷ 0 ∷ 0 ∷ b ∷ c ∷ d ∷ e ∷ 0 ∷ 0 ∷ 0 ∷ 0 ∷ 0 ∷ 0 ∷ 0 ∷ 0 ∷ rest
plain_as (ControlRld ends) (a ∷ _ ∷ _ ∷ _ ∷ b ∷ c ∷ d ∷ e ∷ _ ∷ f ∷ g ∷ h ∷ _ ∷ _ ∷ rest) =
    a ∷ 0 ∷ 0 ∷ 0 ∷ b ∷ c ∷ d ∷ e ∷ 6 ∷ f ∷ g ∷ h ∷ 0 ∷ 0 ∷ rest
plain_as _ bytes = bytes

abbrev pub plain : List ℕ → List ℕ
plain bytes = plain_as (form bytes) bytes

-- the bytes spell this record, but for those that nothing looks at
abbrev pub Spells : Expect → List ℕ → Record → Type 0
Spells Head bytes r = (expected r ≡ Head) × IsRecord r × (plain bytes ≡ rec_bytes r)
Spells (Text told) bytes r = (r ≡ TextRecord bytes) × (length bytes ≡ told)
