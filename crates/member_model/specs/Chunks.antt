-- The relocation items that the writer gives, and how they are cut into chunks of at most 240 bytes. The flag of an
-- item follows GC28-6538; the order and the cuts are this project's profile.
use Rattle.std.specs.Prelude.{ℕ, ◌+◌, ◌-◌, ◌*◌, Bool, ◌&&◌, ◌==◌, nat_lt, if◌then◌else◌, List, [], ◌∷◌, ◌++◌, map, filter, flat_map, None}
use Rattle.std.specs.List.{enumerate_from}
use Rattle.sym_mod.specs.declared.module.Kind.{Kind}
use Rattle.sym_mod.specs.declared.module.Kind.TheVariants.{Address, Branch, Displacement, Total as TotalKind}
use Rattle.sym_mod.specs.declared.program.Constant.{Constant}
use Rattle.sym_mod.specs.declared.program.Term.{Term}
use Rattle.sym_mod.specs.declared.program.Target.{Target}
use Rattle.sym_mod.specs.declared.program.Target.TheVariants.{Unresolved}
use Rattle.load_recs.specs.ItemBytes.{rld_list_bytes}
use Rattle.load_recs.specs.declared.items.RldItem.{RldItem}
use Rattle.linking_model.specs.Names.{in_order}
use Rattle.linking_model.specs.Places.{Laid, entries_of, place, table_place}
use Rattle.member_model.specs.Parts.{Part, SegmentTable, OneSection, EntryTable, part_number, target_number}

-- ---- the items, none of which tells that the next has the same numbers

-- bits 0 to 3 of the flag: the kind
abbrev pub kind_flag : Kind → ℕ
kind_flag Address = 0
kind_flag Branch = 16
kind_flag Displacement = 32
kind_flag TotalKind = 48

-- bit 0 of the flag: the symbol is not defined
abbrev pub outside_flag : Target → ℕ
outside_flag (Unresolved _) = 128
outside_flag _ = 0

-- the item of a term of a constant
abbrev pub term_item : Laid → Constant → Term → RldItem
term_item P c t = record {
  r = target_number P t.target;
  p = part_number P (OneSection c.section);
  flag = outside_flag t.target + kind_flag c.kind + 4 * (c.length - 1) + (if t.minus then 2 else 0);
  address = place P c.section + c.offset;
}

-- ascending by address, and at one address as they were
abbrev pub by_address : List RldItem → List RldItem
by_address items = in_order (λ x y. nat_lt x.address y.address) items

-- the items of section i, by address and then in the order of terms
abbrev pub section_items : Laid → ℕ → List RldItem
section_items P i =
    by_address (flat_map (λ c. map (term_item P c) c.terms) (filter (λ c. c.section == i) P.program.constants))

-- an A-type item of four bytes for each entry, on its symbol
abbrev pub entry_items : Laid → ℕ → List RldItem
entry_items P s =
    map
    (λ (i, y). record { r = target_number P y; p = part_number P (EntryTable s); flag = 12; address = table_place P s + 12 + 12 * i })
    (enumerate_from 0 (entries_of P s))

-- the items of a part; the segment table has none
unfoldable pub part_items : Laid → Part → List RldItem
part_items P SegmentTable = []
part_items P (OneSection i) = section_items P i
part_items P (EntryTable s) = entry_items P s

-- ---- chunks

-- both items have the same numbers of symbol and section
abbrev pub same_pointers : RldItem → RldItem → Bool
same_pointers x y = x.r == y.r && x.p == y.p

-- the bytes that y takes after x
abbrev pub room_after : RldItem → RldItem → ℕ
room_after x y = if same_pointers x y then 4 else 8

-- x is the last item of a chunk that has n bytes, and `before` are its items before x
unfoldable pub chunks_after : List RldItem → RldItem → ℕ → List RldItem → List (List RldItem)
chunks_after before x n [] = (before ++ x ∷ []) ∷ []
chunks_after before x n (y ∷ ys) =
    if nat_lt 240 (n + room_after x y)
    then (before ++ x ∷ []) ∷ chunks_after [] y 8 ys
    else chunks_after (before ++ x ∷ []) y (n + room_after x y) ys

-- as many items in each chunk as stand in 240 bytes
abbrev pub chunks : List RldItem → List (List RldItem)
chunks [] = []
chunks (x ∷ xs) = chunks_after [] x 8 xs

-- each item tells whether the next has the same numbers
abbrev pub joined : List RldItem → List RldItem
joined [] = []
joined (x ∷ []) = x ∷ []
joined (x ∷ y ∷ rest) = (if same_pointers x y then record x { flag = x.flag + 1 } else x) ∷ joined (y ∷ rest)

-- the bytes of a chunk, without the numbers that an item has from the one before
abbrev pub chunk_bytes : List RldItem → List ℕ
chunk_bytes items = rld_list_bytes None (joined items)
