use Rattle.std.proofs.Common.{rules, arith, ◌≡◌, ℕ, ◌<◌, Option, IfSome, subst, sym}
use Rattle.std.proofs.lemmas.Grind.{common_steps}
use Rattle.command_words.specs.Digits.{hex_number}
use Rattle.command_words.proofs.AreaLemmas.{hex_known}
use Rattle.command_words.proofs.digits.hex_number.Goals as goal

pub returns-else-digits-gt6-clause-small : goal.returns-else-digits-gt6-clause-small
unfolding hex_number
returns-else-digits-gt6-clause-small c =
    let same : c.number_in.result ≡ hex_number c.args.text.now = first_of (search rules, grind (arith, common_steps)) in
    subst (λ (o : Option ℕ). IfSome o (λ n. n < 16777216)) (sym same) (hex_known c.args.text.now)
