-- What relocation items have to keep to be written in chunks, what their chunks keep, and a chunk that is being filled.
use Rattle.std.specs.Prelude.{◌≡◌, ℕ, ◌+◌, ◌<◌, Bool, false, nat_lt, if◌then◌else◌, List, [], ◌∷◌, ◌++◌, length}
use Rattle.load_recs.specs.Relocations.{is_joined, is_wrong_flag}
use Rattle.load_recs.specs.ItemBytes.{IsRld, rld_item_bytes}
use Rattle.load_recs.specs.Records.{AreRlds}
use Rattle.load_recs.specs.declared.items.RldItem.{RldItem}
use Rattle.member_model.specs.Chunks.{same_pointers, room_after}
use Rattle.mod_segments.specs.declared.chunking.Filling.{Filling}

-- the item's numbers fit, and its flag means something and promises no next item
pub record IsItem (x : RldItem) : Type 0 where
  pub fits : IsRld x
  pub alone : is_joined x.flag ≡ false
  pub known : is_wrong_flag x.flag ≡ false

-- a record can hold the bytes of a chunk
pub record IsChunk (bytes : List ℕ) : Type 0 where
  pub some : 0 < length bytes
  pub items : AreRlds bytes

-- ---- a chunk that is being filled

-- the item tells whether the next has the same numbers
abbrev pub told : Bool → RldItem → RldItem
told joined x = if joined then record x { flag = x.flag + 1 } else x

-- how many bytes the chunk has, with its last item
abbrev pub size : Filling → ℕ
size c = length c.bytes + (if c.short then 4 else 8)

-- a chunk of one item
abbrev pub begun : RldItem → Filling
begun x = record { bytes = []; last = x; short = false }

-- the chunk with one more item
abbrev pub continued : Filling → RldItem → Filling
continued c y =
    let joined = same_pointers c.last y in
    record { bytes = c.bytes ++ rld_item_bytes c.short (told joined c.last); last = y; short = joined }

-- the bytes of the chunk with its last item
abbrev pub closed : Filling → List ℕ
closed c = c.bytes ++ rld_item_bytes c.short c.last

-- the chunks that this one begins, with these items after it
unfoldable pub chunks_from : Filling → List RldItem → List (List ℕ)
chunks_from c [] = closed c ∷ []
chunks_from c (y ∷ ys) =
    if nat_lt 240 (size c + room_after c.last y) then closed c ∷ chunks_from (begun y) ys else chunks_from (continued c y) ys
