use Rattle.std.proofs.Common.{rules, ◌≡◌, ◌/◌, ◌∙◌, take, drop, ap, sym, arith, Err, Ok}
use Rattle.std.proofs.lemmas.List.{take_all, length-drop}
use Rattle.std.specs.Option.{option_map}
use Rattle.obj_cards.specs.Columns.{filled}
use Rattle.obj_cards.specs.Faults.{filled_card}
use Rattle.obj_cards.specs.Esd.{esd_items, or_bad_type, unused_esd}
use Rattle.obj_cards.proofs.EsdLaws.{good_size, card_read, card_refused}
use Rattle.obj_cards.proofs.esd.read_esd.Goals as goal

pub returns-in_err-read_items-clause-exact : goal.returns-in_err-read_items-clause-exact
returns-in_err-read_items-clause-exact c =
    let n = c.num16-size.result / 16 in
    let size = good_size c.args.c.now c.num16-size.result c.num16-size.ensures.number (sym c.is_size.ensures ∙ c.if-not-is_size.false) in
    let rest : take 64 (drop 16 c.args.c.now) ≡ drop 16 c.args.c.now = take_all 64 (drop 16 c.args.c.now) (omega (arith, length-drop 16 c.args.c.now, c.told-c)) in
    let read : Err c.in_err-read_items.field-0.0 ≡ or_bad_type (option_map (filled 3 unused_esd) (esd_items n (drop 16 c.args.c.now)))
    = c.in_err-read_items.ensures.exact ∙ ap (λ b. or_bad_type (option_map (filled 3 unused_esd) (esd_items n b))) rest in
    let bad = card_refused n c.args.c.now (esd_items n (drop 16 c.args.c.now)) c.in_err-read_items.field-0.0 read in
    let passed : c.from_residual.result ≡ Err c.in_err-read_items.field-0.0 = search rules in
    ap (λ r. filled_card (record c.args.card.now { items = c.read_items.new.items }) r) passed ∙ bad ∙ sym size

pub returns-clause-exact : goal.returns-clause-exact
returns-clause-exact c =
    let n = c.num16-size.result / 16 in
    let size = good_size c.args.c.now c.num16-size.result c.num16-size.ensures.number (sym c.is_size.ensures ∙ c.if-not-is_size.false) in
    let rest : take 64 (drop 16 c.args.c.now) ≡ drop 16 c.args.c.now = take_all 64 (drop 16 c.args.c.now) (omega (arith, length-drop 16 c.args.c.now, c.told-c)) in
    let read : Ok c.read_items.new.items ≡ or_bad_type (option_map (filled 3 unused_esd) (esd_items n (drop 16 c.args.c.now)))
    = c.in_ok-read_items.ensures.exact ∙ ap (λ b. or_bad_type (option_map (filled 3 unused_esd) (esd_items n b))) rest in
    card_read n c.num16-card.result c.args.c.now (esd_items n (drop 16 c.args.c.now)) c.read_items.new.items c.num16-card.ensures.number read ∙ sym size
