-- A list that was gathered and numbered lists the parts of its program.
use Rattle.std.proofs.Common.{◌≡◌, ℕ, ◌≤◌, List, All, map, length, sym, ap, subst, ◌∙◌, arith}
use Rattle.std.specs.List.{range_with_len}
use Rattle.std.proofs.lemmas.List.{length-map}
use Rattle.linking_model.specs.Places.{Laid}
use Rattle.member_model.specs.Cuts.{together}
use Rattle.member_model.specs.Parts.{Part as Piece, parts, parts_in}
use Rattle.mod_parts.specs.declared.part.Part.{Part}
use Rattle.mod_parts.specs.declared.numbers.Numbers.{Numbers}
use Rattle.mod_parts.specs.Listed.{CanBeListed, ListsParts}
use Rattle.mod_parts.specs.Numbers.{number_in, number_among}
use Rattle.mod_parts.specs.Seen.{seen, IsAmong}
use Rattle.mod_parts.proofs.Bucketed.{segments_listed}
use Rattle.mod_parts.proofs.Counted.{few_parts}
use Rattle.mod_parts.proofs.Numbered.{part_number_is}
use Rattle.mod_parts.proofs.Present.{kept_present, parts_all_present, parts_together}

-- the lists have the parts of each segment
abbrev pub HavePieces : Laid → List (List Part) → Type 0
HavePieces P xss = map (map seen) xss ≡ map (parts_in P) (range_with_len 1 (length P.tree))

together_long : (P : Laid) (xss : List (List Part)) → HavePieces P xss → length (together xss) ≡ length (parts P)
together_long P xss are = sym (length-map (together xss) seen) ∙ ap length (parts_together P xss are)

pub listed_short : (P : Laid) (xss ys : List (List Part)) → CanBeListed P → HavePieces P xss → ys ≡ xss → length (together ys) ≤ 32767
listed_short P xss ys can are same = omega (arith, few_parts P can, together_long P xss are, ap (λ l. length (together l)) same)

pub listed_among : (P : Laid) (xss ys : List (List Part)) (m n : ℕ) → HavePieces P xss → ys ≡ xss → m ≡ length P.program.sections → n ≡ length P.tree
    → All (λ x. IsAmong m n (seen x)) (together ys)
listed_among P xss ys m n are same sections segments =
    rw (same, sections, segments) (kept_present P (together xss) (parts P) (parts_together P xss are) (parts_all_present P))

pub lists_parts : (P : Laid) (xss ys zs : List (List Part)) (count m n : ℕ) (numbers : Numbers) → CanBeListed P → HavePieces P xss → ys ≡ xss → zs ≡ xss
    → count ≡ length (together ys) → m ≡ length P.program.sections → n ≡ length P.tree → length numbers.sections ≡ m → length numbers.tables ≡ n
    → ((x : Piece) → IsAmong m n x → number_in numbers x ≡ number_among 0 (map seen (together zs)) x 0)
    → ListsParts P xss count numbers
lists_parts P xss ys zs count m n numbers can are same again counted sections segments first second each = record {
  can = can;
  segments = are ∙ ap (map (parts_in P)) (sym (segments_listed P.tree));
  count_is = counted ∙ (ap (λ l. length (together l)) same ∙ together_long P xss are);
  sections_counted = first ∙ sections;
  tables_counted = second ∙ segments;
  numbers_are = λ x among.
      each x (subst (λ k. IsAmong k n x) (sym sections) (subst (λ k. IsAmong (length P.program.sections) k x) (sym segments) among))
      ∙ (ap (λ l. number_among 0 (map seen (together l)) x 0) again
      ∙ (ap (λ l. number_among 0 l x 0) (parts_together P xss are) ∙ part_number_is P x));
}
