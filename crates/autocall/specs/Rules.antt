-- What LIBRARY statements say of symbols, and which names were called (GC28-6538; that a name is tried once, and which
-- of several libraries counts, is this project's profile).
use Rattle.std.specs.Prelude.{◌≡◌, Bool, ◌||◌, List, [], ◌++◌, fold, find, Option, option_map, unwrap_or, codes}
use Rattle.std.specs.List.{list_any}
use Rattle.le_bytes.specs.declared.name.Name.{Name}
use Rattle.le_bytes.specs.Names.{name_eq, padded}
use Rattle.linking_model.specs.Names.{with_first}
use Rattle.ctl_cards.specs.declared.statement.LibraryItem.{LibraryItem}
use Rattle.ctl_cards.specs.declared.statement.LibraryItem.TheVariants.{From, NoCall, NeverCall}

-- symbols, each with the data set of the library that it is called from; the names that are not called for this load
-- module; those that are not called for it and all later ones; and those that were called, or looked for, for this one
pub record Rules : Type 0 where
  pub dds : List (Name × Name)
  pub no_call : List Name
  pub never_call : List Name
  pub tried : List Name

-- no statement came, and no name was tried
abbrev pub no_rules : Rules
no_rules = record { dds = []; no_call = []; never_call = []; tried = [] }

-- ---- what statements change

-- the names, and after them each of the others that is not there yet
abbrev pub with_names : List Name → List Name → List Name
with_names names more = fold (with_first name_eq) names more

-- two pairs have one symbol
abbrev pub has_symbol_of : Name × Name → Name × Name → Bool
has_symbol_of p q = name_eq p.0 q.0

-- the pairs, and after them each symbol that has none yet, with this dd
abbrev pub with_dds : Name → List (Name × Name) → List Name → List (Name × Name)
with_dds dd pairs symbols = fold (λ ps n. with_first has_symbol_of ps (n, dd)) pairs symbols

-- after one item of a LIBRARY statement
abbrev pub with_item : Rules → LibraryItem → Rules
with_item r (From dd symbols) = record r { dds = with_dds dd r.dds symbols }
with_item r (NoCall symbols) = record r { no_call = with_names r.no_call symbols }
with_item r (NeverCall symbols) = record r { never_call = with_names r.never_call symbols }

-- after a LIBRARY statement of these items
abbrev pub with_items : Rules → List LibraryItem → Rules
with_items r items = fold with_item r items

-- after a name was tried
abbrev pub with_tried : Rules → Name → Rules
with_tried r n = record r { tried = with_first name_eq r.tried n }

-- when the next load module begins
abbrev pub for_next_module : Rules → Rules
for_next_module r = record no_rules { never_call = r.never_call }

-- ---- what they say of a name

-- a statement stops its call
abbrev pub is_stopped : Rules → Name → Bool
is_stopped r n = list_any (name_eq n) r.no_call || list_any (name_eq n) r.never_call

-- it was tried for this load module
abbrev pub was_tried : Rules → Name → Bool
was_tried r n = list_any (name_eq n) r.tried

-- SYSLIB, from which all other symbols are called
abbrev pub syslib : Name
syslib = record { 0 = padded (codes "SYSLIB") }

-- the data set that a statement gives for it
abbrev pub own_dd : Rules → Name → Option Name
own_dd r n = option_map (λ (p : Name × Name). p.1) (find (λ (p : Name × Name). name_eq n p.0) r.dds)

-- the data set of the library that it is called from: its own, else SYSLIB
abbrev pub dd_of : Rules → Name → Name
dd_of r n = unwrap_or (own_dd r n) syslib

-- ---- rules that only grew

-- a list begins with all of another
abbrev pub BeginsWith : {A : Type 0} → List A → List A → Type 0
BeginsWith {A} new old = (more : List A) × (new ≡ old ++ more)

-- each list of what statements said begins with all that it was, and no other name was tried
pub record Extend (old new : Rules) : Type 0 where
  pub dds : BeginsWith new.dds old.dds
  pub no_call : BeginsWith new.no_call old.no_call
  pub never_call : BeginsWith new.never_call old.never_call
  pub tried : new.tried ≡ old.tried
