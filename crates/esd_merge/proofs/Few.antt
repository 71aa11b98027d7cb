-- Modules without a fault have few symbols.
use Rattle.std.proofs.Common.{◌≡◌, ℕ, ◌+◌, ◌≤◌, Bool, true, false, nat_lt, cond, List, length, Option, Some, None, refl, arith}
use Rattle.std.proofs.lemmas.Bool.Decides.{nat_tests}
use Rattle.le_bytes.specs.declared.name.Name.{Name}
use Rattle.linking_model.specs.Kept.{Read, appearance}
use Rattle.linking_model.specs.Merged.{double_definition, registers, symbol_count}
use Rattle.esd_index.specs.Contents.{Contents}
use Rattle.esd_lists.specs.Indexed.{content_of}
use Rattle.esd_lists.specs.Looked.{IsNumbered}
use Rattle.esd_lists.proofs.Small.{numbered_where_few}
use Rattle.esd_merge.specs.declared.fault.MergeFault.TheVariants.{TooManySymbols}
use Rattle.esd_merge.specs.Added.{merge_fault, IsMerged}

low_case : {A : Type 0} (x : A) (n : ℕ) (b : Bool) → nat_lt 32511 n ≡ b → cond b (Some x) None ≡ None → n ≤ 32511
low_case x n true b h = absurd cc
low_case x n false b h = grind (arith, nat_tests)

count_low : (rs : List Read) (o : Option Name) → double_definition rs ≡ o → merge_fault rs ≡ None → symbol_count rs ≤ 32511
unfolding merge_fault
count_low rs (Some y) e none = absurd (cc (rw e at none))
count_low rs None e none = low_case (TooManySymbols (symbol_count rs)) (symbol_count rs) (nat_lt 32511 (symbol_count rs)) refl (rw e at none)

pub few : (rs : List Read) → IsMerged rs → length (appearance rs) + length (registers rs) ≤ 32511
unfolding symbol_count
few rs m = count_low rs (double_definition rs) refl m.faultless

pub is_small : (rs : List Read) (c : Contents) → IsMerged rs → c ≡ content_of rs → IsNumbered c
is_small rs c m is = numbered_where_few rs c (few rs m) is
