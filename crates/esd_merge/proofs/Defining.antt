-- What a name means, found by the index.
use Rattle.std.proofs.Common.{◌≡◌, ℕ, ◌+◌, Bool, true, false, ◌&&◌, cond, List, [], ◌∷◌, Option, Some, None, option_map, is_some, refl, sym, ap, ◌∙◌, filter_map}
use Rattle.std.specs.Prelude.{position}
use Rattle.std.specs.List.{find, list_any, cons_option, position_from}
use Rattle.std.specs.Option.{option_map_or}
use Rattle.std.proofs.lemmas.Iterator.Adapters.{position_from-zero}
use Rattle.le_bytes.specs.declared.name.Name.{Name}
use Rattle.le_bytes.specs.Names.{name_eq}
use Rattle.sym_mod.specs.declared.program.Label.{Label}
use Rattle.sym_mod.specs.declared.program.Target.TheVariants.{Section as InSection, Label as AtLabel}
use Rattle.sym_mod.specs.Kinds.{kind_of, is_label}
use Rattle.linking_model.specs.Kept.{Read, Sight, Symbol, ByName, Private, sights, section_number, kept_in, appearance}
use Rattle.linking_model.specs.Merged.{label_at, is_label_named, label_of, labels, definition, is_kept_label}
use Rattle.esd_index.specs.Contents.{Contents}
use Rattle.esd_lists.specs.Indexed.{kept_label, content_of}
use Rattle.esd_lists.specs.Listed.{has}
use Rattle.esd_lists.proofs.Firsts.{name_same, name_sym, any_firsts}
use Rattle.esd_lists.proofs.Sights.{any_find, find_passes, find_among}
use Rattle.esd_lists.proofs.Unknowns.{any_label, kept_label_named, one_answer, head_any, head_some, head_name, some_map, both_true}
use Rattle.esd_merge.specs.Rest.{label_from}

some_test : {A : Type 0} (o : Option A) → option_map_or (λ (x : A). true) o false ≡ is_some o
some_test None = refl
some_test (Some x) = refl

kept_from : (rs : List Read) (y : Name) (z : Sight) (l : Label) → is_label_named y z ≡ true → label_at rs z ≡ Some l → kept_label_named rs y z ≡ true
kept_from rs y z l named at_z =
    let kind = both_true (is_label (kind_of z.item)) (name_eq z.item.name y) named in
    let kept : is_some (kept_in rs z.of_module z.item.owner) ≡ true = sym (some_map _ (kept_in rs z.of_module z.item.owner)) ∙ ap is_some at_z in
    rw (kind.0, kept, name_sym y z.item.name, kind.1) refl

some_kept : (rs : List Read) (y : Name) (o : Option Sight) → find (kept_label_named rs y) (sights rs) ≡ o → is_some o ≡ true → is_some (label_of rs (ByName y)) ≡ true
some_kept rs y None found e = absurd cc
some_kept rs y (Some z) found e =
    let is = both_true (is_kept_label rs z) (name_eq y z.item.name) (find_passes (kept_label_named rs y) (sights rs) z found) in
    let kind = both_true (is_label (kind_of z.item)) (is_some (kept_in rs z.of_module z.item.owner)) is.0 in
    let there : (is_label_named y z && is_some (label_at rs z)) ≡ true = rw (kind.0, name_sym z.item.name y, is.1) (some_map _ (kept_in rs z.of_module z.item.owner) ∙ kind.1) in
    head_some (label_at rs) (is_label_named y) (sights rs) (find_among (kept_label_named rs y) (λ z. is_label_named y z && is_some (label_at rs z)) (sights rs) z found there)

label_has : (rs : List Read) (y : Name) → has (content_of rs).labels y ≡ is_some (label_of rs (ByName y))
unfolding content_of
label_has rs y =
    any_firsts (ByName y) (filter_map (kept_label rs) (sights rs)) ∙ any_label rs y (sights rs)
    ∙ one_answer (list_any (kept_label_named rs y) (sights rs)) (is_some (label_of rs (ByName y)))
    (λ e. some_kept rs y (find (kept_label_named rs y) (sights rs)) refl (sym (any_find (kept_label_named rs y) (sights rs)) ∙ e))
    (λ e. head_any (label_at rs) (is_label_named y) (kept_label_named rs y) (λ (x : Label). true) (λ z l p q r. kept_from rs y z l p q) (sights rs) (some_test (label_of rs (ByName y)) ∙ e))

label_case : (rs : List Read) (y z : Name) (n : ℕ) (ss : List Symbol) (o : Option Label) → label_of rs (ByName z) ≡ o
    → ((m : ℕ) → label_from (content_of rs) y m ss ≡ option_map AtLabel (position_from (λ (x : Label). name_eq x.name y) m (filter_map (label_of rs) ss)))
    → cond (has (content_of rs).labels z) (cond (name_eq z y) (Some (AtLabel n)) (label_from (content_of rs) y (n + 1) ss)) (label_from (content_of rs) y n ss)
    ≡ option_map AtLabel (position_from (λ (x : Label). name_eq x.name y) n (cons_option o (filter_map (label_of rs) ss)))
label_case rs y z n ss None e more =
    let none : has (content_of rs).labels z ≡ false = label_has rs z ∙ ap is_some e in
    rw none (more n)
label_case rs y z n ss (Some l) e more =
    let some : has (content_of rs).labels z ≡ true = label_has rs z ∙ ap is_some e in
    let name : z ≡ l.name = head_name rs z (sights rs) l e in
    rw (some, more (n + 1)) (chosen (name_eq z y) (name_eq l.name y) (ap (λ (w : Name). name_eq w y) name) (position_from (λ (x : Label). name_eq x.name y) (n + 1) (filter_map (label_of rs) ss)))
  where
    chosen : (b c : Bool) → b ≡ c → (p : Option ℕ) → cond b (Some (AtLabel n)) (option_map AtLabel p) ≡ option_map AtLabel (cond c (Some n) p)
    chosen true true h p = refl
    chosen false false h p = refl
    chosen true false h p = absurd (cc h)
    chosen false true h p = absurd (cc h)

labels_from : (rs : List Read) (y : Name) (n : ℕ) (ss : List Symbol) → label_from (content_of rs) y n ss ≡ option_map AtLabel (position_from (λ (x : Label). name_eq x.name y) n (filter_map (label_of rs) ss))
labels_from rs y n [] = refl
labels_from rs y n (ByName z ∷ ss) = label_case rs y z n ss (label_of rs (ByName z)) refl (λ m. labels_from rs y m ss)
labels_from rs y n (Private k i ∷ ss) = labels_from rs y n ss

symbols_are : (rs : List Read) → (content_of rs).symbols ≡ appearance rs
unfolding content_of
symbols_are rs = refl

at_case : (rs : List Read) (y : Name) (o : Option ℕ) → section_number rs (ByName y) ≡ None → position (λ (x : Label). name_eq x.name y) (labels rs) ≡ o → option_map AtLabel o ≡ definition rs y
unfolding definition
at_case rs y None d e = rw (d, e) refl
at_case rs y (Some i) d e = rw (d, e) refl

pub in_section : (rs : List Read) (y : Name) (i : ℕ) → section_number rs (ByName y) ≡ Some i → Some (InSection i) ≡ definition rs y
unfolding definition
in_section rs y i e = rw e refl

pub at_label : (rs : List Read) (c : Contents) (y : Name) → c ≡ content_of rs → section_number rs (ByName y) ≡ None → label_from c y 0 c.symbols ≡ definition rs y
at_label rs c y is none =
    let here : label_from (content_of rs) y 0 (content_of rs).symbols ≡ option_map AtLabel (position (λ (x : Label). name_eq x.name y) (labels rs)) =
    ap (label_from (content_of rs) y 0) (symbols_are rs) ∙ labels_from rs y 0 (appearance rs) ∙ ap (option_map AtLabel) (sym (position_from-zero (λ (x : Label). name_eq x.name y) (labels rs))) in
    rw is (here ∙ at_case rs y (position (λ (x : Label). name_eq x.name y) (labels rs)) none refl)

no_case : (c : Contents) (y z : Name) (n : ℕ) (ss : List Symbol) (b : Bool) → name_eq z y ≡ b → has c.labels y ≡ false → ((m : ℕ) → label_from c y m ss ≡ None)
    → cond (has c.labels z) (cond b (Some (AtLabel n)) (label_from c y (n + 1) ss)) (label_from c y n ss) ≡ None
no_case c y z n ss true d none more =
    let same : z ≡ y = name_same z y d in
    rw (same, none) (more n)
no_case c y z n ss false d none more = both (has c.labels z)
  where
    both : (b : Bool) → cond b (label_from c y (n + 1) ss) (label_from c y n ss) ≡ None
    both true = more (n + 1)
    both false = more n

-- no label has a name that is not among those of labels
pub no_label : (c : Contents) (y : Name) (n : ℕ) (ss : List Symbol) → has c.labels y ≡ false → label_from c y n ss ≡ None
no_label c y n [] none = refl
no_label c y n (ByName z ∷ ss) none = no_case c y z n ss (name_eq z y) refl none (λ m. no_label c y m ss none)
no_label c y n (Private k i ∷ ss) none = no_label c y n ss none
