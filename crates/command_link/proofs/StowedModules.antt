-- Load modules stowed one after the other.
use Rattle.std.proofs.Common.{◌≡◌, ℕ, suc, ◌+◌, ◌<◌, List, [], ◌∷◌, length, drop, get_or, add-one, drop-cons, refl, sym, ◌∙◌, ap, Ok, Err}
use Rattle.le_bytes.specs.declared.refusal.Refusal.{Refusal}
use Rattle.pds_lib.specs.Contents.{Contents}
use Rattle.link_core.specs.declared.linked.Linked.{Linked}
use Rattle.command_link.specs.Link.{unless_refused, with_module, with_modules}

first : (lib : Contents) (x : Linked) (rest : List Linked)
    → with_modules lib (x ∷ rest) ≡ unless_refused (with_module lib x) (λ after. with_modules after rest)
unfolding with_modules
first lib x rest = refl

pub goes_on : (lib after : Contents) (x : Linked) (rest : List Linked) → with_module lib x ≡ Ok after → with_modules lib (x ∷ rest) ≡ with_modules after rest
goes_on lib after x rest stowed = first lib x rest ∙ ap (λ r. unless_refused r (λ lib. with_modules lib rest)) stowed

pub stops : (lib : Contents) (x : Linked) (rest : List Linked) (refusal : Refusal) → with_module lib x ≡ Err refusal → with_modules lib (x ∷ rest) ≡ Err refusal
stops lib x rest refusal stowed = first lib x rest ∙ ap (λ r. unless_refused r (λ lib. with_modules lib rest)) stowed

pub ends : (lib : Contents) → with_modules lib [] ≡ Ok lib
unfolding with_modules
ends lib = refl
