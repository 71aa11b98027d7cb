-- Bytes that nothing looks at make no difference.
use Rattle.std.proofs.Common.{◌≡◌, ℕ, List, ◌∷◌, Result, Ok, refl, sym, ap, subst, ◌∙◌}
use Rattle.load_recs.specs.Records.{Record, rec_bytes}
use Rattle.load_recs.specs.Reading.{form, fault_as, contents_as, unless, reading}
use Rattle.load_recs.specs.Plain.{plain_as, plain, Spells}
use Rattle.load_recs.proofs.RecordsAgain.{written_again, text_again}
use Rattle.load_recs.specs.declared.records.RecFault.{RecFault}
use Rattle.load_recs.specs.declared.forms.Form.{Form}
use Rattle.load_recs.specs.declared.forms.Form.TheVariants.{Symbols, Sections, Notes, Control, Rld, ControlRld}
use Rattle.load_recs.specs.declared.records.Expect.{Expect}
use Rattle.load_recs.specs.declared.records.Expect.TheVariants.{Head, Text}

plain_form : (f : Form) (bytes : List ℕ) → form (plain_as f bytes) ≡ form bytes
plain_form Symbols (a ∷ b ∷ c ∷ d ∷ rest) = refl
plain_form Sections (a ∷ b ∷ c ∷ d ∷ rest) = refl
plain_form Notes (a ∷ b ∷ c ∷ d ∷ rest) = refl
plain_form (Control ends) (a ∷ b ∷ c ∷ d ∷ e ∷ f ∷ g ∷ h ∷ i ∷ j ∷ k ∷ l ∷ m ∷ n ∷ rest) = refl
plain_form (Rld ends) (a ∷ b ∷ c ∷ d ∷ e ∷ f ∷ g ∷ h ∷ i ∷ j ∷ k ∷ l ∷ m ∷ n ∷ o ∷ p ∷ rest) = refl
plain_form (ControlRld ends) (a ∷ b ∷ c ∷ d ∷ e ∷ f ∷ g ∷ h ∷ i ∷ j ∷ k ∷ l ∷ m ∷ n ∷ rest) = refl
plain_form _ bytes = refl

abbrev read_as : Form → List ℕ → Result Record RecFault
read_as f bytes = unless (fault_as f bytes) (contents_as f bytes)

plain_read : (f : Form) (bytes : List ℕ) → read_as f (plain_as f bytes) ≡ read_as f bytes
plain_read Symbols (a ∷ b ∷ c ∷ d ∷ rest) = refl
plain_read Sections (a ∷ b ∷ c ∷ d ∷ rest) = refl
plain_read Notes (a ∷ b ∷ c ∷ d ∷ rest) = refl
plain_read (Control ends) (a ∷ b ∷ c ∷ d ∷ e ∷ f ∷ g ∷ h ∷ i ∷ j ∷ k ∷ l ∷ m ∷ n ∷ rest) = refl
plain_read (Rld ends) (a ∷ b ∷ c ∷ d ∷ e ∷ f ∷ g ∷ h ∷ i ∷ j ∷ k ∷ l ∷ m ∷ n ∷ o ∷ p ∷ rest) = refl
plain_read (ControlRld ends) (a ∷ b ∷ c ∷ d ∷ e ∷ f ∷ g ∷ h ∷ i ∷ j ∷ k ∷ l ∷ m ∷ n ∷ rest) = refl
plain_read _ bytes = refl

reading_plain : (bytes : List ℕ) → reading Head (plain bytes) ≡ reading Head bytes
reading_plain bytes = ap (λ f. read_as f (plain bytes)) (plain_form (form bytes) bytes) ∙ plain_read (form bytes) bytes

-- what is spelled so is read
pub spelled_read : (after : Expect) (bytes : List ℕ) (r : Record) → Spells after bytes r → reading after bytes ≡ Ok r
spelled_read Head bytes r s =
    sym (reading_plain bytes) ∙ ap (reading Head) s.2 ∙ subst (λ x. reading x (rec_bytes r) ≡ Ok r) s.0 (written_again r s.1)
spelled_read (Text told) bytes r s =
    ap (λ n. reading (Text n) bytes) (sym s.1) ∙ text_again bytes ∙ ap Ok (sym s.0)
