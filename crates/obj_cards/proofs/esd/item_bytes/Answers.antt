use Rattle.std.proofs.Common.{◌∙◌, ◌∷◌, ◌++◌, ap, sym, length}
use Rattle.byteorder.specs.Endian.{big_bytes}
use Rattle.obj_cards.specs.Esd.{kind_code}
use Rattle.obj_cards.proofs.EsdLaws.{item_laid}
use Rattle.obj_cards.proofs.EndLaws.{name_over}
use Rattle.obj_cards.proofs.esd.item_bytes.Goals as goal

pub returns : goal.returns
returns c =
    let i = c.args.item.now in
    let laid = name_over c.place.new.into i.name.0 c.characters.result.now c.place.ensures c.characters.ensures.value c.characters.ensures.len in
    item_laid c.place.new.into c.put24.new.b c.put24-2.new.b i.name.0 c.code.result c.align_byte.result i.address i.length laid (ap length (sym c.characters.ensures.value) ∙ c.characters.ensures.len) c.put24.ensures c.put24-2.ensures
    ∙ ap (λ k. i.name.0 ++ k ∷ big_bytes 3 i.address ++ c.align_byte.result ∷ big_bytes 3 i.length) c.code.ensures
    ∙ ap (λ a. i.name.0 ++ kind_code i.kind ∷ big_bytes 3 i.address ++ a ∷ big_bytes 3 i.length) c.align_byte.ensures
