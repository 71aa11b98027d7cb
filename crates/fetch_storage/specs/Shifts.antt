-- How far what an item stands for has moved.
use Rattle.std.specs.Prelude.{ℕ, ◌%◌, ◌^◌, Bool, true, false, if◌then◌else◌, List, length, map, slice_index}
use Rattle.std.specs.List.{range_with_len, enumerate_from}
use Rattle.std.specs.Option.{option_map_or}
use Rattle.load_recs.specs.declared.items.SymbolItem.{SymbolItem}
use Rattle.load_recs.specs.declared.items.SymbolKind.{SymbolKind}
use Rattle.load_recs.specs.declared.items.SymbolKind.TheVariants.{Sd, Pc, Cm, Lr}
use Rattle.linking_model.specs.Linked.{difference}
use Rattle.member_model.specs.Symbols.{symbol_at, section_as, section_of, address_in_module}
use Rattle.member_model.specs.Loaded.{Addresses}
use Rattle.fetch_storage.specs.Homes.{home_at}
use Rattle.fetch_storage.specs.Kept.{Kept}

-- an item of this kind moves: a section, or a label with its section
abbrev pub moves : SymbolKind → Bool
moves Sd = true
moves Pc = true
moves Cm = true
moves Lr = true
moves _ = false

-- item n moves
abbrev pub moves_at : List SymbolItem → ℕ → Bool
moves_at symbols n = option_map_or (λ x. moves x.kind) (symbol_at symbols n) false

-- from an address in the module to one in storage, modulo 2 to the power of 32
abbrev pub shift_between : ℕ → ℕ → ℕ
shift_between to from = difference (2 ^ 32) to from % 2 ^ 32

-- how far item n has moved: a section, and a label with its section; 0 where it does not move
abbrev pub shift_by : List SymbolItem → Addresses → ℕ → ℕ
shift_by symbols q n =
    let s = section_of symbols n in if moves_at symbols n then shift_between (q s) (address_in_module symbols s) else 0

-- that of each item
abbrev pub shifts_by : List SymbolItem → Addresses → List ℕ
shifts_by symbols q = map (shift_by symbols q) (range_with_len 1 (length symbols))

-- ---- by the homes of the parts

-- how far the section of item n has moved: as its part
abbrev pub home_shift : Kept → ℕ → ℕ
home_shift kept s = let home = home_at kept.homes s in shift_between (slice_index kept.origins home.part) home.base

-- the same of item n, of what it is
abbrev pub shift_of : Kept → ℕ → SymbolItem → ℕ
shift_of kept n x = if moves x.kind then home_shift kept (section_as n x.length x.kind) else 0

-- that of each item
abbrev pub shifts_in : Kept → List SymbolItem → List ℕ
shifts_in kept symbols = map (λ (n, x). shift_of kept n x) (enumerate_from 1 symbols)
