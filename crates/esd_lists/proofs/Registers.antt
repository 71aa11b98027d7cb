-- The names of registers, as an index has them.
use Rattle.std.proofs.Common.{◌≡◌, Bool, true, false, cond, List, [], ◌∷◌, ◌++◌, length, map, fold, Some, None, refl, sym, ap, ◌∙◌, arith, filter, filter_map}
use Rattle.std.specs.List.{list_any, cons_option}
use Rattle.std.proofs.lemmas.List.{map-append, length-map}
use Rattle.std.proofs.lemmas.Grind.{common_steps}
use Rattle.le_bytes.specs.declared.name.Name.{Name}
use Rattle.le_bytes.specs.Names.{name_eq}
use Rattle.sym_mod.specs.declared.module.Item.{Item}
use Rattle.sym_mod.specs.Kinds.{kind_of, is_register}
use Rattle.linking_model.specs.Names.{with_first, firsts}
use Rattle.linking_model.specs.Kept.{Read, Sight, Symbol, ByName, symbol_eq, sights}
use Rattle.linking_model.specs.Merged.{registers, register_items}
use Rattle.esd_index.specs.Steps.{named_if}
use Rattle.esd_lists.specs.Indexed.{content_of}

names_any : (y : Name) (ns : List Name) → list_any (symbol_eq (ByName y)) (map ByName ns) ≡ list_any (name_eq y) ns
names_any y [] = refl
names_any y (n ∷ ns) = rw (names_any y ns) refl

names_put : (ys : List Name) (y : Name) (b : Bool) → cond b (map ByName ys) (map ByName ys ++ ByName y ∷ []) ≡ map ByName (cond b ys (ys ++ y ∷ []))
names_put ys y true = refl
names_put ys y false = sym (map-append ByName ys (y ∷ []))

names_fold : (ys ns : List Name) → fold (with_first symbol_eq) (map ByName ys) (map ByName ns) ≡ map ByName (fold (with_first name_eq) ys ns)
names_fold ys [] = refl
names_fold ys (n ∷ ns) =
    let put : with_first symbol_eq (map ByName ys) (ByName n) ≡ map ByName (with_first name_eq ys n) =
    ap (λ (b : Bool). cond b (map ByName ys) (map ByName ys ++ ByName n ∷ [])) (names_any n ys) ∙ names_put ys n (list_any (name_eq n) ys) in
    ap (λ (zs : List Symbol). fold (with_first symbol_eq) zs (map ByName ns)) put ∙ names_fold (with_first name_eq ys n) ns

kind_register : (blank : Bool) (x : Item) → is_register (kind_of x) ≡ is_register x.kind
kind_register blank x = grind (arith, common_steps)

register_names : (xs : List Sight) → filter_map (λ (x : Sight). named_if is_register x.item) xs ≡ map ByName (map (λ (x : Sight). x.item.name) (filter (λ (x : Sight). is_register x.item.kind) xs))
register_names [] = refl
register_names (x ∷ xs) = rw (kind_register true x.item) (chosen x xs (is_register x.item.kind) (register_names xs))
  where
    chosen : (x : Sight) (xs : List Sight) (b : Bool) → filter_map (λ (x : Sight). named_if is_register x.item) xs ≡ map ByName (map (λ (x : Sight). x.item.name) (filter (λ (x : Sight). is_register x.item.kind) xs))
        → cons_option (cond b (Some (ByName x.item.name)) None) (filter_map (λ (x : Sight). named_if is_register x.item) xs)
        ≡ map ByName (map (λ (x : Sight). x.item.name) (cond b (x ∷ filter (λ (x : Sight). is_register x.item.kind) xs) (filter (λ (x : Sight). is_register x.item.kind) xs)))
    chosen x xs true more = ap (λ (zs : List Symbol). ByName x.item.name ∷ zs) more
    chosen x xs false more = more

-- the names of registers, as symbols
pub register_symbols : (rs : List Read) → firsts symbol_eq (filter_map (λ (x : Sight). named_if is_register x.item) (sights rs)) ≡ map ByName (firsts name_eq (map (λ (x : Sight). x.item.name) (register_items rs)))
register_symbols rs = ap (firsts symbol_eq) (register_names (sights rs)) ∙ names_fold [] (map (λ (x : Sight). x.item.name) (register_items rs))

-- there are so many registers
pub register_count : (rs : List Read) → length (content_of rs).registers ≡ length (registers rs)
unfolding content_of
register_count rs =
    let names : List Name = firsts name_eq (map (λ (x : Sight). x.item.name) (register_items rs)) in
    let inner : length (content_of rs).registers ≡ length names = ap length (register_symbols rs) ∙ length-map names ByName in
    let outer : length (registers rs) ≡ length names = length-map names _ in
    inner ∙ sym outer
