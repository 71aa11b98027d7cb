-- What an index says of the modules that were read.
use Rattle.std.specs.Prelude.{◌≡◌, ℕ, List, map, Option, Some, None, if◌then◌else◌, filter_map, flat_map, option_map}
use Rattle.std.specs.List.{enumerate_from}
use Rattle.sym_mod.specs.Kinds.{is_sd, is_er, is_wx, is_register}
use Rattle.linking_model.specs.Names.{firsts}
use Rattle.linking_model.specs.Kept.{Read, Sight, Symbol, ByName, symbol_eq, sights, section_symbols, appearance, kept_constants, name_in}
use Rattle.linking_model.specs.Merged.{is_kept_label}
use Rattle.esd_index.specs.Contents.{Contents}
use Rattle.esd_index.specs.Steps.{named_if, label_meant}
use Rattle.esd_lists.specs.declared.reading.Reading.{Reading}
use Rattle.esd_lists.specs.Held.{as_read, AreMarked}
use Rattle.esd_lists.specs.Looked.{IsNumbered}

-- the name of a label whose section is kept
abbrev pub kept_label : List Read → Sight → Option Symbol
kept_label rs x = if is_kept_label rs x then Some (ByName x.item.name) else None

-- the names by which kept constants of module m refer, and those of the label items to which they refer
abbrev pub named_in : List Read → ℕ × Read → List Symbol
named_in rs (m, r) = flat_map (λ c. filter_map (λ t. option_map ByName (name_in t.target)) c.terms) (kept_constants rs m r.module_)

-- the names of the label items to which kept constants of module m refer
abbrev pub labelled_in : List Read → ℕ × Read → List Symbol
labelled_in rs (m, r) = flat_map (λ c. filter_map (λ t. label_meant r.module_.items t.target) c.terms) (kept_constants rs m r.module_)

-- all that an index has, by the definitions of linking
unfoldable pub content_of : List Read → Contents
content_of rs = record {
  symbols = appearance rs;
  sections = section_symbols rs;
  registers = firsts symbol_eq (filter_map (λ x. named_if is_register x.item) (sights rs));
  controls = firsts symbol_eq (filter_map (λ x. named_if is_sd x.item) (sights rs));
  labels = firsts symbol_eq (filter_map (kept_label rs) (sights rs));
  strong = firsts symbol_eq (filter_map (λ x. named_if is_er x.item) (sights rs));
  weak = firsts symbol_eq (filter_map (λ x. named_if is_wx x.item) (sights rs));
  named = firsts symbol_eq (flat_map (named_in rs) (enumerate_from 0 rs));
  labelled = firsts symbol_eq (flat_map (labelled_in rs) (enumerate_from 0 rs));
}

-- the index is that of these modules
pub record Holds (c : Contents) (xs : List Reading) : Type 0 where
  pub indexed : c ≡ content_of (map as_read xs)
  pub marked : AreMarked (map as_read xs) xs
  pub small : IsNumbered c
