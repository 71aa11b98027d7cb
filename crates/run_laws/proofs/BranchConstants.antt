-- Constants of one section that share a byte are one, and branch constants by which calls go have one target.
use Rattle.std.proofs.Common.{◌≡◌, ◌⊎◌, inl, inr, ℕ, ◌+◌, ◌<◌, ◌≤◌, true, ◌&&◌, ◌==◌, List, [], ◌∷◌, map, refl, sym, ◌∙◌, subst, arith}
use Rattle.std.specs.Prelude.{nat_le}
use Rattle.std.proofs.lemmas.Bool.{false≢true, eqb-true, eq-eqb, and_parts, and_from, leb-true, le-leb}
use Rattle.sym_mod.specs.declared.module.Kind.{Kind}
use Rattle.sym_mod.specs.declared.module.Kind.TheVariants.{Address, Branch, Displacement, Total as TotalKind}
use Rattle.sym_mod.specs.declared.program.Constant.{Constant}
use Rattle.sym_mod.specs.declared.program.Term.{Term}
use Rattle.sym_mod.specs.Sound.{IsSoundConstant, ConstantsApart, HaveProperSigns, IsSymbolOf, TargetFitsKind}
use Rattle.linking_model.specs.Places.{Laid}
use Rattle.linking_model.specs.Tables.{is_branch, only_target}
use Rattle.linking_model.specs.Run.{is_vcon_at as is_vcon_by_symbols}
use Rattle.member_laws.specs.Linkable.{IsLinkable}
use Rattle.member_laws.proofs.LoadingLists.{Among, Pairs, pairs_from_all, at_one, each_from_all}
use Rattle.member_laws.proofs.LoadingTerms.{kind_code}
use Rattle.run_laws.proofs.ItemsOfConstants.{sound_at}

-- ---- one constant at a place

one_or_other : {X : Type 0} (R : X → X → Type 0) (xs : List X) (x y : X) → Pairs R xs → Among x xs → Among y xs → (x ≡ y) ⊎ (R x y ⊎ R y x)
one_or_other R [] x y pairs one other = absurd one
one_or_other R (z ∷ zs) x y pairs (inl here) (inl there) = inl (sym here ∙ there)
one_or_other R (z ∷ zs) x y pairs (inl here) (inr there) = inr (inl (subst (λ a. R a y) here (at_one (R z) y zs pairs.0 there)))
one_or_other R (z ∷ zs) x y pairs (inr here) (inl there) = inr (inr (subst (λ a. R a x) there (at_one (R z) x zs pairs.0 here)))
one_or_other R (z ∷ zs) x y pairs (inr here) (inr there) = one_or_other R zs x y pairs.1 here there

-- two constants of one section that share a byte are one
pub same_constant : (P : Laid) (c d : Constant) (i k : ℕ) → IsLinkable P → Among c P.program.constants → Among d P.program.constants
    → c.section ≡ i → d.section ≡ i → (c.offset ≤ k) × (k < c.offset + c.length) → (d.offset ≤ k) × (k < d.offset + d.length) → c ≡ d
same_constant P c d i k link one other here there within inside =
    by_cases (one_or_other ConstantsApart P.program.constants c d (pairs_from_all ConstantsApart P.program.constants link.sound.apart) one other)
  where
    clash : (a l b m k : ℕ) → (a ≤ k) × (k < a + l) → (b ≤ k) × (k < b + m) → (a + l ≤ b) ⊎ (b + m ≤ a) → ⊥
    clash a l b m k x y (inl before) = omega (arith, x.0, x.1, y.0, y.1, before)
    clash a l b m k x y (inr after) = omega (arith, x.0, x.1, y.0, y.1, after)

    by_cases : (c ≡ d) ⊎ (ConstantsApart c d ⊎ ConstantsApart d c) → c ≡ d
    by_cases (inl same) = same
    by_cases (inr (inl apart)) = absurd (clash c.offset c.length d.offset d.length k within inside (apart (here ∙ sym there)))
    by_cases (inr (inr apart)) = absurd (clash d.offset d.length c.offset c.length k inside within (apart (there ∙ sym here)))

-- ---- a branch constant

pub branch_of_code : (kind : Kind) → kind_code kind ≡ 1 → is_branch kind ≡ true
branch_of_code Address is = absurd (omega (arith, is))
branch_of_code Branch is = refl
branch_of_code Displacement is = absurd (omega (arith, is))
branch_of_code TotalKind is = absurd (omega (arith, is))

pub branch_is : (kind : Kind) → is_branch kind ≡ true → kind ≡ Branch
branch_is Address is = absurd (false≢true is)
branch_is Branch is = refl
branch_is Displacement is = absurd (false≢true is)
branch_is TotalKind is = absurd (false≢true is)

one_term : (terms : List Term) → HaveProperSigns Branch (map (λ (t : Term). t.minus) terms) → (t : Term) × (terms ≡ t ∷ [])
one_term [] signs = absurd signs
one_term (t ∷ []) signs = (t, refl)
one_term (t ∷ u ∷ terms) signs = absurd signs

-- a branch constant of three or four bytes at offset o of section i
pub record IsCall (P : Laid) (i o : ℕ) (c : Constant) : Type 0 where
  pub among : Among c P.program.constants
  pub kind : is_branch c.kind ≡ true
  pub section : c.section ≡ i
  pub offset : c.offset ≡ o
  pub long : 3 ≤ c.length

pub is_call : (P : Laid) (i o : ℕ) (c : Constant) → Among c P.program.constants → is_vcon_by_symbols i o c ≡ true → IsCall P i o c
is_call P i o c among passes =
    let a = and_parts (is_branch c.kind && c.section == i && c.offset == o) (nat_le 3 c.length) passes in
    let b = and_parts (is_branch c.kind && c.section == i) (c.offset == o) a.0 in
    let d = and_parts (is_branch c.kind) (c.section == i) b.0 in
    record { among = among; kind = d.0; section = eqb-true c.section i d.1; offset = eqb-true c.offset o b.1; long = leb-true 3 c.length a.1 }

pub call_again : (P : Laid) (i o : ℕ) (c : Constant) → IsCall P i o c → is_vcon_by_symbols i o c ≡ true
call_again P i o c is =
    and_from (is_branch c.kind && c.section == i && c.offset == o) (nat_le 3 c.length)
    (and_from (is_branch c.kind && c.section == i) (c.offset == o)
    (and_from (is_branch c.kind) (c.section == i) is.kind (eq-eqb c.section i is.section)) (eq-eqb c.offset o is.offset)) (le-leb 3 c.length is.long)

-- its only term
pub record HasTarget (P : Laid) (c : Constant) : Type 0 where
  pub term : Term
  pub only : c.terms ≡ term ∷ []
  pub symbol : IsSymbolOf P.program (only_target c.terms)

pub has_target : (P : Laid) (c : Constant) → IsLinkable P → Among c P.program.constants → is_branch c.kind ≡ true → HasTarget P c
has_target P c link among branch =
    let sound : IsSoundConstant P.program c = sound_at P c link among in
    let kind : c.kind ≡ Branch = branch_is c.kind branch in
    let one = one_term c.terms (subst (λ k. HaveProperSigns k (map (λ (t : Term). t.minus) c.terms)) kind sound.signs) in
    record {
      term = one.0;
      only = one.1;
      symbol =
          subst (λ ts. IsSymbolOf P.program (only_target ts)) (sym one.1)
          (subst (λ k. TargetFitsKind P.program k one.0.target) kind
          (at_one (λ (t : Term). TargetFitsKind P.program c.kind t.target) one.0 c.terms
          (each_from_all (λ (t : Term). TargetFitsKind P.program c.kind t.target) c.terms sound.targets)
          (subst (Among one.0) (sym one.1) (inl refl))));
    }
