-- TXT cards.
use Rattle.std.specs.Prelude.{◌≡◌, ℕ, ◌-◌, ◌^◌, ◌<◌, ◌≤◌, nat_le, if◌then◌else◌, List, ◌++◌, take, drop, replicate, Result, Ok, Err}
use Rattle.byteorder.specs.Endian.{big_bytes}
use Rattle.obj_cards.specs.declared.card.TxtCard.{TxtCard}
use Rattle.obj_cards.specs.declared.fault.CardFault.{CardFault}
use Rattle.obj_cards.specs.declared.fault.CardFault.TheVariants.{BadCount}
use Rattle.obj_cards.specs.Columns.{number_in, filled, head, txt_type}

-- a card with no text in use
abbrev pub unused_txt_card : TxtCard
unused_txt_card = record { address = 0; esdid = 0; count = 0; bytes = replicate 56 0 }

abbrev pub txt_text : TxtCard → List ℕ
txt_text t = head txt_type (big_bytes 3 t.address) (big_bytes 2 t.count) (big_bytes 2 t.esdid) ++ take t.count t.bytes

unfoldable pub txt_card : List ℕ → Result TxtCard CardFault
txt_card card =
    let count = number_in 11 12 card in
    if nat_le count 56
    then Ok (record { address = number_in 6 8 card; esdid = number_in 15 16 card; count = count; bytes = filled 56 0 (take count (drop 16 card)) })
    else Err BadCount

pub record IsTxtCard (t : TxtCard) : Type 0 where
  pub address : t.address < 2 ^ 24
  pub esdid : t.esdid < 2 ^ 16
  pub count : t.count ≤ 56
  pub unused : drop t.count t.bytes ≡ replicate (56 - t.count) 0
