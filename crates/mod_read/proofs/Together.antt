-- The parts that were made are those of the module.
use Rattle.std.proofs.Common.{◌≡◌, List, [], ◌∷◌, map, refl, sym, ap, ◌∙◌}
use Rattle.std.specs.List.{filter}
use Rattle.sym_mod.specs.declared.module.Item.{Item}
use Rattle.sym_mod.specs.declared.module.Frag.{Frag}
use Rattle.sym_mod.specs.declared.module.SymConst.{SymConst}
use Rattle.sym_mod.specs.declared.module.SymEntry.{SymEntry}
use Rattle.sym_mod.specs.declared.module.SymModule.{SymModule}
use Rattle.pds_directory.specs.declared.entry.Entry.{Entry}
use Rattle.load_recs.specs.declared.items.SymbolItem.{SymbolItem}
use Rattle.load_recs.specs.declared.items.RldItem.{RldItem}
use Rattle.member_model.specs.Facts.{Field}
use Rattle.member_model.specs.ReadBack.{is_kept_at, items_of, fragments_of, entry_of}
use Rattle.member_walk.specs.declared.fields.SegmentField.{SegmentField}
use Rattle.member_walk.specs.Fields as walk
use Rattle.mod_read.specs.declared.fragments.LoadedText.{LoadedText}
use Rattle.mod_read.specs.Gathered.{text_of, holding, constants_in, module_with}

abbrev pub made_of : List Item → List Frag → List SymConst → SymEntry → SymModule
made_of items fragments constants entry = record { items = items; fragments = fragments; constants = constants; entry = entry }

abbrev made_from : Entry → List SymbolItem → List LoadedText → List RldItem → SymModule
made_from e symbols texts items =
    made_of (items_of symbols) (fragments_of (holding symbols (map text_of texts) []))
    (constants_in symbols (filter (λ x. is_kept_at symbols x.p) items)) (entry_of (holding symbols [] []) e)

items_held : (held : List SegmentField) → map (λ x. x.item) (map walk.field_of held) ≡ walk.items_of held
items_held [] = refl
items_held (x ∷ xs) = ap (λ ys. x.item ∷ ys) (items_held xs)

from_facts : (e : Entry) (symbols : List SymbolItem) (texts : List LoadedText) (fields : List Field)
    → made_from e symbols texts (map (λ x. x.item) fields) ≡ module_with e (holding symbols (map text_of texts) fields)
from_facts e symbols texts fields = refl

pub put_together : (e : Entry) (symbols kept : List SymbolItem) (texts taken : List LoadedText) (fields : List Field) (held parts : List SegmentField)
    (items : List Item) (fragments : List Frag) (constants : List SymConst) (entry : SymEntry)
    → kept ≡ symbols → taken ≡ texts → parts ≡ held → map walk.field_of held ≡ fields
    → items ≡ items_of kept → fragments ≡ fragments_of (holding kept (map text_of taken) [])
    → constants ≡ constants_in kept (filter (λ x. is_kept_at kept x.p) (walk.items_of parts)) → entry ≡ entry_of (holding kept [] []) e
    → made_of items fragments constants entry ≡ module_with e (holding symbols (map text_of texts) fields)
put_together e symbols kept texts taken fields held parts items fragments constants entry a b h d i f c n =
    ap (λ x. made_of x fragments constants entry) i
    ∙ ap (λ x. made_of (items_of kept) x constants entry) f
    ∙ ap (λ x. made_of (items_of kept) (fragments_of (holding kept (map text_of taken) [])) x entry) c
    ∙ ap (λ x. made_of (items_of kept) (fragments_of (holding kept (map text_of taken) [])) (constants_in kept (filter (λ x. is_kept_at kept x.p) (walk.items_of parts))) x) n
    ∙ ap (λ x. made_from e x taken (walk.items_of parts)) a
    ∙ ap (λ x. made_from e symbols x (walk.items_of parts)) b
    ∙ ap (λ x. made_from e symbols texts (walk.items_of x)) h
    ∙ ap (λ x. made_from e symbols texts x) (sym (items_held held) ∙ ap (λ fs. map (λ x. x.item) fs) d)
    ∙ from_facts e symbols texts fields
