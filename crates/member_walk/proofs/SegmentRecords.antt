-- A record of a segment: the parts of its fault, and the fields that it adds.
use Rattle.std.proofs.Common.{◌≡◌, ℕ, ap, refl, sym, ◌∙◌, ◌&&◌, ◌==◌, List, [], ◌∷◌, ◌++◌, map, length, Option, Some, None, option_and_then, Err}
use Rattle.std.specs.Option.{option_or}
use Rattle.le_bytes.specs.declared.record_what.RecWhat.{RecWhat}
use Rattle.le_bytes.specs.declared.record_what.RecWhat.TheVariants.{BadOrder, BadScatter}
use Rattle.pds_directory.specs.declared.entry.Entry.{Entry}
use Rattle.load_recs.specs.declared.items.RldItem.{RldItem}
use Rattle.load_recs.specs.declared.records.Ends.{Ends}
use Rattle.load_recs.specs.declared.records.TextHead.{TextHead}
use Rattle.member_model.specs.Symbols.{is_scatter_member, is_overlay_member}
use Rattle.member_model.specs.Facts.{Facts, Field, with_fields}
use Rattle.member_model.specs.Faults.{when, is_incomplete, text_fault, segment_fault, fields_fault, ends_wrongly}
use Rattle.member_walk.specs.declared.fields.SegmentField.{SegmentField}
use Rattle.member_checks.specs.Segments.{symbols_in}
use Rattle.member_walk.specs.Fields.{field_of, fields_in, items_of}
use Rattle.member_walk.proofs.FieldLists.{fields_as}
use Rattle.member_walk.specs.Segments.{start_fault}
use Rattle.member_checks.specs.Kept.{Keeps}
use Rattle.member_checks.specs.declared.refused.Refused.{Refused}
use Rattle.member_checks.specs.declared.refused.Refused.TheVariants.{What, Memory}

regroup : (a b c d f : Option RecWhat) → option_or a (option_or b (option_or c (option_or d (option_or f None)))) ≡ option_or (option_or a (option_or b (option_or c None))) (option_or d f)
regroup None None None None None = refl
regroup None None None None (Some w) = refl
regroup None None None (Some w) f = refl
regroup None None (Some w) d f = refl
regroup None (Some w) c d f = refl
regroup (Some w) b c d f = refl

pub segment_parts : (e : Entry) (F : Facts) (ends : Ends) (text : Option TextHead) (items : List RldItem)
    → segment_fault e F ends text items ≡ option_or (start_fault e F text) (option_or (fields_fault F (map (λ x. x.item) F.fields) items) (when (ends_wrongly e F ends) BadOrder))
segment_parts e F ends text items =
    regroup (when (is_scatter_member e && is_incomplete F) BadScatter) (when (is_overlay_member e && length F.notes == 0) BadOrder) (option_and_then (text_fault F) text)
    (fields_fault F (map (λ x. x.item) F.fields) items) (when (ends_wrongly e F ends) BadOrder)

-- fields as facts have them
pub fields_viewed : (fields : List SegmentField) (segment : ℕ) (items : List RldItem)
    → map field_of (fields ++ fields_in segment items) ≡ map field_of fields ++ map (λ (x : RldItem). record { segment = segment; item = x }) items
fields_viewed [] segment [] = refl
fields_viewed [] segment (x ∷ xs) = ap (λ fs. record { segment = segment; item = x } ∷ fs) (fields_viewed [] segment xs)
fields_viewed (f ∷ fs) segment items = ap (λ gs. field_of f ∷ gs) (fields_viewed fs segment items)

pub items_viewed : (fields : List SegmentField) → map (λ (x : Field). x.item) (map field_of fields) ≡ items_of fields
items_viewed [] = refl
items_viewed (f ∷ fs) = ap (λ xs. f.item ∷ xs) (items_viewed fs)

none_more : {A : Type 0} (xs : List A) → xs ++ [] ≡ xs
none_more [] = refl
none_more (x ∷ xs) = ap (λ ys. x ∷ ys) (none_more xs)

-- no relocation items
pub no_fields : (F : Facts) → with_fields [] F ≡ record F { stage = 4 }
no_fields F = rw (none_more F.fields) refl

-- ---- facts and what is kept of them

pub fields_judged : (F : Facts) (fields : List SegmentField) (items : List RldItem) → F.fields ≡ map field_of fields
    → fields_fault F (map (λ x. x.item) F.fields) items ≡ fields_fault (symbols_in F.symbols F.segment) (items_of fields) items
fields_judged F fields items same =
    ap (λ fs. fields_fault F (map (λ (x : Field). x.item) fs) items) same
    ∙ (ap (λ xs. fields_fault F xs items) (items_viewed fields) ∙ sym (fields_as F (items_of fields) items))

pub fields_added : (F : Facts) (fields later : List SegmentField) (items : List RldItem) → F.fields ≡ map field_of fields → later ≡ fields ++ fields_in F.segment items
    → record F { fields = map field_of later; stage = 4 } ≡ with_fields items F
fields_added F fields later items same more =
    let viewed : map field_of later ≡ F.fields ++ map (λ (x : RldItem). record { segment = F.segment; item = x }) items =
    ap (map field_of) more ∙ (fields_viewed fields F.segment items ∙ ap (λ fs. fs ++ map (λ (x : RldItem). record { segment = F.segment; item = x }) items) (sym same)) in
    ap (λ fs. record F { fields = fs; stage = 4 }) viewed

-- a fault that comes before others
pub keeps_first : {A B : Type 0} (f g : Option RecWhat) (value : A) (other : B) (refused : Refused) → Keeps f value (Err refused) → Keeps (option_or f g) other (Err refused)
keeps_first f g value other (What what) kept = ap (λ o. option_or o g) kept
keeps_first f g value other Memory kept = tt
