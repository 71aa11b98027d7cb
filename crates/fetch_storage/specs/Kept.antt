-- Parts of storage, and what is done to them.
use Rattle.std.specs.Prelude.{◌≡◌, ℕ, ◌+◌, ◌-◌, ◌%◌, ◌^◌, ◌≤◌, true, if◌then◌else◌, List, [], ◌∷◌, map, fold, take, drop, replicate, slice_index}
use Rattle.std.specs.Global.{Vec}
use Rattle.byteorder.specs.Endian.{big_number, big_bytes}
use Rattle.load_recs.specs.declared.items.SymbolItem.{SymbolItem}
use Rattle.load_recs.specs.declared.items.RldItem.{RldItem}
use Rattle.member_model.specs.Symbols.{field_length, is_minus}
use Rattle.member_model.specs.Loaded.{is_shifted}
use Rattle.fetch_places.specs.declared.placement.Placement.{Placement}
use Rattle.text_store.specs.Content.{section_of, with_bytes, LieInContent}
use Rattle.fetch_storage.specs.declared.homes.Home.{Home}
use Rattle.fetch_storage.specs.declared.part.Part.{Part}
use Rattle.fetch_storage.specs.Homes.{origins_by, sizes_by, homes_by, home_at}

-- where the parts begin, the part of each item, and the bytes of each part
pub record Kept : Type 0 where
  pub origins : List ℕ
  pub homes : List Home
  pub content : List (List ℕ)

-- before any text came
abbrev pub empty_parts : List SymbolItem → Placement → Kept
empty_parts symbols p = record {
  origins = origins_by p;
  homes = homes_by symbols p;
  content = map (λ n. replicate n 0) (sizes_by symbols p);
}

-- n bytes of section s from address a in the module on lie in its part
pub record LieInPart (kept : Kept) (s a n : ℕ) : Type 0 where
  pub from : (home_at kept.homes s).base ≤ a
  pub inside : LieInContent kept.content (home_at kept.homes s).part (a - (home_at kept.homes s).base) n

-- the parts with these bytes of section s from address a in the module on
abbrev pub with_text : Kept → ℕ → ℕ → List ℕ → Kept
with_text kept s a bytes =
    let home = home_at kept.homes s in
    record kept { content = with_bytes kept.content home.part (a - home.base) bytes }

-- the address in storage of address a in the module, which is one of section s
abbrev pub address_in : Kept → ℕ → ℕ → ℕ
address_in kept s a = let home = home_at kept.homes s in slice_index kept.origins home.part + (a - home.base)

-- ---- constants

-- the content with a number added to that in n bytes of a part, from a place on
abbrev pub shifted_in : List (List ℕ) → ℕ → ℕ → ℕ → ℕ → List (List ℕ)
shifted_in content part at n added =
    with_bytes content part at (big_bytes n ((big_number n (take n (drop at (section_of content part))) + added) % 256 ^ n))

-- the shift of the item's symbol, or minus that, modulo 2 to the power of 32
abbrev pub added_by : List ℕ → RldItem → ℕ
added_by shifts x = let shift = slice_index shifts (x.r - 1) in if is_minus x then 2 ^ 32 - shift else shift

-- the parts with the item's shift added to its field
abbrev pub with_shift : List ℕ → Kept → RldItem → Kept
with_shift shifts kept x =
    let home = home_at kept.homes x.p in
    record kept { content = shifted_in kept.content home.part (x.address - home.base) (field_length x) (added_by shifts x) }

-- the same where the item adds a shift
abbrev pub with_field : List SymbolItem → List ℕ → Kept → RldItem → Kept
with_field symbols shifts kept x = if is_shifted symbols x then with_shift shifts kept x else kept

-- the parts with all shifts added
unfoldable pub with_fields : List SymbolItem → List ℕ → Kept → List RldItem → Kept
with_fields symbols shifts kept fields = fold (with_field symbols shifts) kept fields

-- the field of each item that adds a shift lies in its part
abbrev pub FieldsLie : List SymbolItem → Kept → List RldItem → Type 0
FieldsLie symbols kept [] = Unit {0}
FieldsLie symbols kept (x ∷ xs) =
    (is_shifted symbols x ≡ true → LieInPart kept x.p x.address (field_length x)) × FieldsLie symbols kept xs

-- ---- the parts themselves

-- bytes that begin at an origin
abbrev pub part_at : ℕ × Vec ℕ → Part
part_at (at, room) = record { origin = at; bytes = room.items }

-- each begins at its origin
abbrev pub parts_at : List ℕ → List (List ℕ) → List Part
parts_at [] content = []
parts_at (at ∷ origins) [] = []
parts_at (at ∷ origins) (bytes ∷ content) = record { origin = at; bytes = bytes } ∷ parts_at origins content

abbrev pub parts_of : Kept → List Part
parts_of kept = parts_at kept.origins kept.content
