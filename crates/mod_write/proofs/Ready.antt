-- The parts of a program that is ready can be cut into pieces.
use Rattle.std.proofs.Common.{◌≡◌, ℕ, ◌^◌, ◌≤◌, ◌<◌, List, map, All, sym, subst, arith}
use Rattle.std.specs.List.Sorted.{IsNonDecreasingBy}
use Rattle.std.proofs.lemmas.List.Elements.{All-nil}
use Rattle.sym_mod.specs.declared.program.Places.{Places}
use Rattle.sym_mod.specs.declared.program.Program.{Program}
use Rattle.sym_mod.specs.declared.program.Target.{Target}
use Rattle.sym_mod.specs.declared.program.Target.TheVariants.{Section as InSection, Label as AtLabel, Unresolved, Register as OfRegister, Total}
use Rattle.relocate.specs.Ready.{IsDefinedIn}
use Rattle.linking_model.specs.Tree.{segments}
use Rattle.linking_model.specs.Places.{Laid}
use Rattle.linking_model.specs.Tables.{entries}
use Rattle.relocate.proofs.Bounds.{few_entries}
use Rattle.member_model.specs.Parts.{Part, SegmentTable, OneSection, EntryTable, part_number, part_place, part_length}
use Rattle.member_model.specs.Chunks.{part_items}
use Rattle.mod_parts.specs.Listed.{CanBeListed}
use Rattle.mod_parts.specs.Placed.{ArePlacesOf}
use Rattle.mod_parts.specs.Seen.{IsPartOf, IsTargetOf}
use Rattle.mod_parts.proofs.Counted.{few_items}
use Rattle.mod_parts.proofs.Addressed.{part_end, table_near}
use Rattle.mod_segments.specs.Chunks.{IsItem}
use Rattle.mod_segments.specs.Pieces.{IsPart, last_byte}
use Rattle.mod_segments.specs.declared.piece.PlacedPart.{PlacedPart}
use Rattle.mod_write.specs.declared.chains.Chains.{Chains}
use Rattle.mod_write.specs.Ready.{IsSource}
use Rattle.mod_write.proofs.Relocations.{few_symbols, AreNear, number_within, items_are, items_ordered, items_inside}
use Rattle.mod_write.proofs.Entries.{all_defined, entries_are, entries_ordered, entries_inside}

-- the program, its tables and its addresses
pub record IsReady (P : Laid) (a : Places) : Type 0 where
  pub can : CanBeListed P
  pub placed : ArePlacesOf P a
  pub planned : P.entries ≡ map (entries P.program P.tree) (segments P.tree)

pub ready_by : (P : Laid) (a : Places) (content : List (List ℕ)) (chains : Chains) (n : ℕ) → IsSource P a content chains n → IsReady P a
ready_by P a content chains n from = record { can = from.can; placed = from.linked.placed; planned = from.linked.fit.entries }

few : (P : Laid) → CanBeListed P → few_symbols P < 2 ^ 16
few P can = let h = few_items P can in omega (arith, h)

near : (P : Laid) (a : Places) → IsReady P a → AreNear P
near P a ready = record {
  few = few P ready.can;
  ends = λ i there. let h = part_end P a (OneSection i) ready.placed ready.can there in omega (arith, h);
}

each_item : (P : Laid) (a : Places) (x : Part) → IsReady P a → IsPartOf P x → All IsItem (part_items P x)
unfolding part_items
each_item P a SegmentTable ready is = All-nil IsItem
each_item P a (OneSection i) ready is = items_are P i (near P a ready) ready.can.sound
each_item P a (EntryTable s) ready is =
    entries_are P s (few P ready.can) (table_near P a s ready.placed is.0 is.1) (few_entries P.entries s ready.can.few) (all_defined P s ready.planned)

items_in_turn : (P : Laid) (a : Places) (x : Part) → IsReady P a → IsNonDecreasingBy last_byte (part_items P x)
unfolding part_items
items_in_turn P a SegmentTable ready = λ i j d le lt. absurd (omega arith)
items_in_turn P a (OneSection i) ready = items_ordered P i ready.can.sound
items_in_turn P a (EntryTable s) ready = entries_ordered P s

items_within : (P : Laid) (a : Places) (x : Part) → IsReady P a → All (λ item. part_place P x ≤ last_byte item) (part_items P x)
unfolding part_items
items_within P a SegmentTable ready = All-nil (λ item. 0 ≤ last_byte item)
items_within P a (OneSection i) ready = items_inside P i ready.can.sound
items_within P a (EntryTable s) ready = entries_inside P s

-- a part with its number, its address, its length and its items
pub is_part : (P : Laid) (a : Places) (x : Part) (y : PlacedPart) → IsReady P a → IsPartOf P x → y.number ≡ part_number P x → y.address ≡ part_place P x
    → y.length ≡ part_length P x → y.items.now ≡ part_items P x → IsPart y
is_part P a x y ready is number address size items = record {
  number = let h = few P ready.can in let i = number_within P x in omega (arith, h, i, number);
  end = let h = part_end P a x ready.placed ready.can is in omega (arith, h, address, size);
  each = subst (All IsItem) (sym items) (each_item P a x ready is);
  ordered = subst (IsNonDecreasingBy last_byte) (sym items) (items_in_turn P a x ready);
  inside = subst (λ n. All (λ item. n ≤ last_byte item) y.items.now) (sym address)
      (subst (All (λ item. part_place P x ≤ last_byte item)) (sym items) (items_within P a x ready));
}

-- ---- entries

pub defined_target : (p : Program) (y : Target) → IsDefinedIn p y → IsTargetOf p y
defined_target p (InSection i) there = there
defined_target p (AtLabel i) there = there
defined_target p (Unresolved i) there = absurd there
defined_target p (OfRegister i) there = absurd there
defined_target p Total there = absurd there
