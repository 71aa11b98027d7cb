-- Keys and sighted items, as the symbols and sights of the definitions of linking.
use Rattle.linking_model.specs.Kept.{Symbol, ByName, Private, Sight}
use Rattle.esd_index.specs.declared.key.Key.{Key}
use Rattle.esd_index.specs.declared.key.Key.TheVariants.{Named as NamedKey, Private as PrivateKey}
use Rattle.esd_index.specs.declared.key.Sighted.{Sighted}

-- the symbol of a key
abbrev pub as_symbol : Key → Symbol
as_symbol (NamedKey y) = ByName y
as_symbol (PrivateKey m n) = Private m n

-- a sighted item as the definitions of linking speak of it
abbrev pub sight : Sighted → Sight
sight x = record { of_module = x.of_module; number = x.number; segment = x.segment; item = x.item }
