-- Where an index has few symbols all lists are short.
use Rattle.std.proofs.Common.{◌≡◌, ◌+◌, ◌≤◌, Bool, true, false, ◌||◌, List, [], ◌∷◌, length, Option, Some, None, refl, sym, ◌∙◌, subst, arith, filter_map, flat_map}
use Rattle.std.specs.List.{list_any, cons_option, enumerate_from, IsDistinct}
use Rattle.std.proofs.lemmas.Map.Made.{length-le_from_is_member}
use Rattle.sym_mod.specs.declared.module.ItemKind.{ItemKind}
use Rattle.sym_mod.specs.declared.module.ItemKind.TheVariants.{Sd, Pc, Cm, Label as LabelItem, Er, Wx, Register}
use Rattle.sym_mod.specs.Kinds.{kind_of, is_sd}
use Rattle.linking_model.specs.Kept.{Read, Sight, Symbol, symbol_eq, sights, symbol_for, symbol_of, section_symbol_for, section_symbol, section_symbols, seen_in, appearance}
use Rattle.linking_model.specs.Merged.{label_of, labels, unknown_of, unresolved, registers}
use Rattle.esd_index.specs.Contents.{Contents}
use Rattle.esd_index.specs.Steps.{named_if}
use Rattle.esd_lists.specs.Indexed.{content_of}
use Rattle.esd_lists.specs.Looked.{IsNumbered}
use Rattle.esd_lists.proofs.Firsts.{any_firsts}
use Rattle.esd_lists.proofs.Distinct.{symbols_equal, firsts_distinct}
use Rattle.esd_lists.proofs.Registers.{register_count}
use Rattle.esd_lists.proofs.Parts.{symbols_is}
use Rattle.esd_lists.proofs.Unknowns.{appears}

-- ---- each section appears

section_seen : (x : Sight) (kind : ItemKind) (y : Symbol) → section_symbol_for x kind ≡ Some y → symbol_for x kind ≡ Some y
section_seen x Sd y e = e
section_seen x Pc y e = e
section_seen x Cm y e = e
section_seen x LabelItem y e = absurd cc
section_seen x Er y e = absurd cc
section_seen x Wx y e = absurd cc
section_seen x Register y e = absurd cc

or_true : (b : Bool) → (b || true) ≡ true
or_true true = refl
or_true false = refl

-- a longer mapping has what a shorter one has
mapped_more : {A : Type 0} (f g : A → Option Symbol) (s : Symbol) → ((x : A) (y : Symbol) → f x ≡ Some y → g x ≡ Some y) → (xs : List A) → list_any (symbol_eq s) (filter_map f xs) ≡ true → list_any (symbol_eq s) (filter_map g xs) ≡ true
mapped_more f g s more [] e = absurd cc
mapped_more f g s more (x ∷ xs) e = mapped_case (f x) (g x) (more x) (mapped_more f g s more xs) e
  where
    mapped_case : (o p : Option Symbol) → ((y : Symbol) → o ≡ Some y → p ≡ Some y) → (list_any (symbol_eq s) (filter_map f xs) ≡ true → list_any (symbol_eq s) (filter_map g xs) ≡ true)
        → list_any (symbol_eq s) (cons_option o (filter_map f xs)) ≡ true → list_any (symbol_eq s) (cons_option p (filter_map g xs)) ≡ true
    mapped_case None None gives rest e = rest e
    mapped_case None (Some z) gives rest e = rw (rest e) (or_true (symbol_eq s z))
    mapped_case (Some y) p gives rest e = rw (gives y refl) (first_case (symbol_eq s y) rest e)
      where
        first_case : (b : Bool) → (list_any (symbol_eq s) (filter_map f xs) ≡ true → list_any (symbol_eq s) (filter_map g xs) ≡ true) → (b || list_any (symbol_eq s) (filter_map f xs)) ≡ true → (b || list_any (symbol_eq s) (filter_map g xs)) ≡ true
        first_case true rest e = refl
        first_case false rest e = rest e

pub section_appears : (rs : List Read) (s : Symbol) → list_any (symbol_eq s) (section_symbols rs) ≡ true → list_any (symbol_eq s) (appearance rs) ≡ true
section_appears rs s e =
    appears rs s (mapped_more section_symbol symbol_of s (λ x y h. section_seen x (kind_of x.item) y h) (sights rs) (sym (any_firsts s (filter_map section_symbol (sights rs))) ∙ e))

pub sections_few : (rs : List Read) → length (section_symbols rs) ≤ length (appearance rs)
sections_few rs = length-le_from_is_member symbols_equal (section_symbols rs) (appearance rs) (firsts_distinct (filter_map section_symbol (sights rs))) (section_appears rs)

-- ---- the counts

short_case : {A B : Type 0} (x : A) (xs : List A) (ys : List B) (o : Option B) → length ys ≤ length xs → length (cons_option o ys) ≤ length (x ∷ xs)
short_case x xs ys None h = omega arith
short_case x xs ys (Some y) h = omega arith

pub filter_map_short : {A B : Type 0} (f : A → Option B) (xs : List A) → length (filter_map f xs) ≤ length xs
filter_map_short f [] = omega arith
filter_map_short f (x ∷ xs) = short_case x xs (filter_map f xs) (f x) (filter_map_short f xs)

appearance_distinct : (rs : List Read) → IsDistinct symbol_eq (appearance rs)
unfolding appearance
appearance_distinct rs = firsts_distinct (flat_map (seen_in rs) (enumerate_from 0 rs))

-- where few symbols and registers appear, the index has few
pub numbered_where_few : (rs : List Read) (c : Contents) → length (appearance rs) + length (registers rs) ≤ 32511 → c ≡ content_of rs → IsNumbered c
unfolding content_of
numbered_where_few rs c few is = subst IsNumbered (sym is) (record {
  symbols = omega (arith, few);
  sections = omega (arith, few, sections_few rs);
  registers = omega (arith, few, register_count rs);
  symbols_apart = appearance_distinct rs;
  sections_apart = firsts_distinct (filter_map section_symbol (sights rs));
  controls_apart = firsts_distinct (filter_map (λ x. named_if is_sd x.item) (sights rs));
})

appearance_low : (rs : List Read) (c : Contents) → IsNumbered c → c ≡ content_of rs → length (appearance rs) ≤ 32511
appearance_low rs c small is = subst (λ (ys : List Symbol). length ys ≤ 32511) (symbols_is rs c is) small.symbols

pub labels_few : (rs : List Read) (c : Contents) → IsNumbered c → c ≡ content_of rs → length (labels rs) ≤ 32511
labels_few rs c small is = omega (arith, appearance_low rs c small is, filter_map_short (label_of rs) (appearance rs))

pub unresolved_few : (rs : List Read) (c : Contents) → IsNumbered c → c ≡ content_of rs → length (unresolved rs) ≤ 32511
unfolding unresolved
unresolved_few rs c small is = omega (arith, appearance_low rs c small is, filter_map_short (unknown_of rs) (appearance rs))
