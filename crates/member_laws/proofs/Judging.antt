-- Records as they are written: that none of them has a fault, one after another.
use Rattle.std.proofs.Common.{◌≡◌, ℕ, ◌+◌, ◌<◌, ◌≤◌, Bool, true, false, not, ◌||◌, ◌==◌, nat_lt, List, [], ◌∷◌, ◌++◌, map, fold, length, Option, Some, None, option_map, refl, sym, ap, subst, ◌∙◌, arith}
use Rattle.std.specs.Bool.{⊤}
use Rattle.std.specs.Option.{option_or}
use Rattle.std.proofs.lemmas.Bool.{or_from, not_from_true, eq-eqb, le-ltb}
use Rattle.le_bytes.specs.declared.record_what.RecWhat.{RecWhat}
use Rattle.le_bytes.specs.declared.record_what.RecWhat.TheVariants.{BadOrder, BadLength}
use Rattle.pds_directory.specs.declared.entry.Entry.{Entry}
use Rattle.load_recs.specs.Faults.{what_of}
use Rattle.load_recs.specs.Records.{Record, TextRecord, IsRecord, rec_bytes}
use Rattle.load_recs.specs.Reading.{own_fault, contents, expected}
use Rattle.load_recs.specs.declared.records.Expect.TheVariants.{Head}
use Rattle.load_recs.specs.declared.records.TextHead.{TextHead}
use Rattle.member_model.specs.Facts.{Facts, seen, stage_of}
use Rattle.member_model.specs.Faults.{when, is_asked, kind_fault, place_fault, fault_with, fault}
use Rattle.member_model.specs.FirstBad.{at, faults_from}
use Rattle.member_laws.proofs.Reading.{saw, is_read}

-- ---- one record

-- the fault of a record, as it is written
pub judged : Entry → Facts → Record → Option RecWhat
judged e F r = fault e F (rec_bytes r)

pub judged-record : (e : Entry) (F : Facts) (r : Record) → IsRecord r → expected r ≡ Head → F.due ≡ None → judged e F r ≡ place_fault e F r
unfolding judged fault
judged-record e F r is head none =
    let read = is_read r is head in
    ap (λ d. fault_with e F d (rec_bytes r)) none
    ∙ ap (λ f. option_or (option_map what_of f) (place_fault e F (contents (rec_bytes r)))) read.fine
    ∙ ap (place_fault e F) read.held

pub judged-text : (e : Entry) (F : Facts) (text : TextHead) (bytes : List ℕ) → F.due ≡ Some text → length bytes ≡ text.length → judged e F (TextRecord bytes) ≡ None
unfolding judged fault
judged-text e F text bytes due same =
    ap (λ d. fault_with e F d bytes) due
    ∙ ap (λ b. when b BadLength) (not_from_true (length bytes == text.length) (eq-eqb (length bytes) text.length same))

pub when-not : (bad : Bool) (what : RecWhat) → bad ≡ false → when bad what ≡ None
when-not bad what e = ap (λ b. when b what) e

-- a record that stands in its place has the fault of its kind alone
pub placed : (e : Entry) (F : Facts) (r : Record) → F.ended ≡ false → F.stage ≤ stage_of r → is_asked e r ≡ true → kind_fault e F r ≡ None → place_fault e F r ≡ None
placed e F r goes_on stage asked fine =
    ap (λ o. option_or o (kind_fault e F r))
    (when-not (F.ended || nat_lt (stage_of r) F.stage || not (is_asked e r)) BadOrder
    (or_from (F.ended || nat_lt (stage_of r) F.stage) (not (is_asked e r)) (or_from F.ended (nat_lt (stage_of r) F.stage) goes_on (le-ltb (stage_of r) F.stage stage)) (not_from_true (is_asked e r) asked)))
    ∙ fine

-- ---- one record after another

-- none of the records has a fault
pub Fine : Entry → Facts → List Record → Type 0
Fine e F [] = ⊤
Fine e F (r ∷ rs) = (judged e F r ≡ None) × Fine e (saw F r) rs

pub fine-none : (e : Entry) (F : Facts) → Fine e F []
unfolding Fine
fine-none e F = tt

pub fine-one : (e : Entry) (F : Facts) (r : Record) → judged e F r ≡ None → Fine e F (r ∷ [])
unfolding Fine
fine-one e F r fine = (fine, tt)

pub fine-append : (e : Entry) (F : Facts) (rs : List Record) (G : Facts) (qs : List Record) → fold saw F rs ≡ G → Fine e F rs → Fine e G qs → Fine e F (rs ++ qs)
unfolding Fine
fine-append e F [] G qs leads first then = subst (λ X. Fine e X qs) (sym leads) then
fine-append e F (r ∷ rs) G qs leads first then = (first.0, fine-append e (saw F r) rs G qs leads first.1 then)

pub fine-cons : (e : Entry) (F : Facts) (r : Record) (G : Facts) (qs : List Record) → saw F r ≡ G → judged e F r ≡ None → Fine e G qs → Fine e F (r ∷ qs)
fine-cons e F r G qs leads first then = fine-append e F (r ∷ []) G qs leads (fine-one e F r first) then

none-of : (n : ℕ) (o : Option RecWhat) (rest : Option (ℕ × RecWhat)) → o ≡ None → rest ≡ None → option_or (option_map (at n) o) rest ≡ None
none-of n o rest a b = ap (λ x. option_or (option_map (at n) x) rest) a ∙ b

pub fine_faults : (e : Entry) (F : Facts) (n : ℕ) (rs : List Record) → Fine e F rs → faults_from e F n (map rec_bytes rs) ≡ None
unfolding Fine faults_from judged saw
fine_faults e F n [] fine = refl
fine_faults e F n (r ∷ rs) fine = none-of n (fault e F (rec_bytes r)) _ fine.0 (fine_faults e (seen F (rec_bytes r)) (n + 1) rs fine.1)
