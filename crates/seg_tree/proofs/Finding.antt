-- Segments that are found below a node.
use Rattle.std.proofs.Common.{◌≡◌, ◌≢◌, ℕ, Bool, true, false, ◌||◌, ◌==◌, List, [], ◌∷◌, ◌++◌, Option, Some, None, Result, Ok, Err, Box, Global, option_map, is_some, if◌then◌else◌, refl, sym, ap, ◌∙◌}
use Rattle.std.specs.Prelude.{get_or}
use Rattle.std.specs.Option.{option_or}
use Rattle.std.specs.Prelude.{option_and_then}
use Rattle.std.specs.Box.{with_value}
use Rattle.std.proofs.lemmas.Bool.{ne_eqb}
use Rattle.linking_model.specs.Tree.{is_in}
use Rattle.seg_tree.specs.declared.node.Node.{Node, Node', None', Some', out-Node}
use Rattle.seg_tree.specs.declared.node.Node.TheViews.{roll-Node}
use Rattle.seg_tree.specs.Nodes.{found, found_in, passes, Found, Hangs, HangAnswer, BelowAnswer, beneath, parent_under}

pub parent_beneath : (n above : ℕ) (f : Found) → parent_under above (beneath n f) ≡ parent_under n f
parent_beneath n above f = behind f.up
  where
    behind : (up : List ℕ) → get_or ((up ++ n ∷ []) ++ above ∷ []) 0 0 ≡ get_or (up ++ n ∷ []) 0 0
    behind [] = refl
    behind (u ∷ up) = refl

pub or_assoc : (a b c : Bool) → ((a || b) || c) ≡ (a || (b || c))
or_assoc true b c = refl
or_assoc false b c = refl

in_longer : (a n : ℕ) (up : List ℕ) (p : Bool) → (is_in a (up ++ n ∷ []) || p) ≡ (is_in a up || (n == a || p))
in_longer a n [] p = ap (λ b. b || p) (or_false (n == a))
  where
    or_false : (b : Bool) → (b || false) ≡ b
    or_false true = refl
    or_false false = refl
in_longer a n (u ∷ up) p =
    or_assoc (u == a) (is_in a (up ++ n ∷ [])) p ∙ ap (λ b. u == a || b) (in_longer a n up p)
    ∙ sym (or_assoc (u == a) (is_in a up) (n == a || p))

pub passes_beneath : (a s n : ℕ) (f : Found) (p : Bool) → passes a s p (beneath n f) ≡ passes a s (n == a || p) f
unfolding passes
passes_beneath a s n f p = in_longer a n (s ∷ f.up) p

pub passes_own : (a s region : ℕ) (p : Bool) → passes a s p (record { region = region; up = [] }) ≡ (s == a || p)
unfolding passes
passes_own a s region p = or_assoc (s == a) false p

-- one step of a search
abbrev pub seen : Bool → ℕ → ℕ → Option Found → Option Found → Option Found
seen t n r first next = if t then Some (record { region = r; up = [] }) else option_or (option_map (beneath n) first) next

-- what a node finds: itself, what is below it, or what is beside it
pub row : (node : Node) (s : ℕ) → found node s ≡ seen ((out-Node node).number == s) (out-Node node).number (out-Node node).region (found_in (out-Node node).first s) (found_in (out-Node node).next s)
unfolding out-Node denote.Hole.Carrier.out
row (Node' number region None' None') s = refl
row (Node' number region (Some' p x) None') s = refl
row (Node' number region None' (Some' q y)) s = refl
row (Node' number region (Some' p x) (Some' q y)) s = refl

pub rolled : (n r : ℕ) (first next : Option (Box Node Global)) (s : ℕ) → found (roll-Node (record { number = n; region = r; first = first; next = next })) s ≡ seen (n == s) n r (found_in first s) (found_in next s)
unfolding roll-Node denote.Hole.Carrier.roll
rolled n r None None s = refl
rolled n r (Some b) None s = refl
rolled n r None (Some d) s = refl
rolled n r (Some b) (Some d) s = refl

pub row_first : (node : Node) (b : Box Node Global) (s : ℕ) → (out-Node node).first ≡ Some b → found node s ≡ seen ((out-Node node).number == s) (out-Node node).number (out-Node node).region (found b.value s) (found_in (out-Node node).next s)
row_first node b s is = row node s ∙ ap (λ f. seen ((out-Node node).number == s) (out-Node node).number (out-Node node).region (found_in f s) (found_in (out-Node node).next s)) is

pub row_next : (node : Node) (b : Box Node Global) (s : ℕ) → (out-Node node).next ≡ Some b → found node s ≡ seen ((out-Node node).number == s) (out-Node node).number (out-Node node).region (found_in (out-Node node).first s) (found b.value s)
row_next node b s is = row node s ∙ ap (λ f. seen ((out-Node node).number == s) (out-Node node).number (out-Node node).region (found_in (out-Node node).first s) (found_in f s)) is

-- what is passed on the way to what is found below
pub passed_below : (t : Bool) (n r a s : ℕ) (p q : Bool) (x y o : Option Found) (answer : Bool) → t ≡ false → o ≡ seen t n r x y → q ≡ (n == a || p) → Some answer ≡ option_map (passes a s q) x → Some answer ≡ option_map (passes a s p) o
passed_below true n r a s p q x y o answer e is or h = cc
passed_below false n r a s p q None y o answer e is or h = cc
passed_below false n r a s p q (Some f) y o answer e is or h =
    rw (is, passes_beneath a s n f p, sym or) h

-- ---- a segment that is put below a node

abbrev hung : ℕ → ℕ → Found → Found
hung above in_region f = record { region = in_region; up = above ∷ f.up }

there_first : (t : Bool) (n r : ℕ) (x y : Option Found) → is_some x ≡ true → is_some (seen t n r x y) ≡ true
there_first true n r x y h = refl
there_first false n r (Some f) y h = refl
there_first false n r None y h = cc

there_beside : (t : Bool) (n r : ℕ) (x y : Option Found) → x ≡ None → is_some y ≡ true → is_some (seen t n r x y) ≡ true
there_beside true n r x y e h = refl
there_beside false n r x y e h = rw e h

none_below : (n r : ℕ) (x y : Option Found) → seen false n r x y ≡ None → x ≡ None
none_below n r None y h = refl
none_below n r (Some f) y h = cc

none_beside : (n r : ℕ) (x y : Option Found) → seen false n r x y ≡ None → y ≡ None
none_beside n r None y h = h
none_beside n r (Some f) y h = cc

-- where the parent is found below the node, and the new segment was nowhere
own_first : (t u : Bool) (n r above in_region : ℕ) (x x' y a b : Option Found) → u ≡ false → is_some a ≡ true → (x ≡ None → x' ≡ option_map (hung above in_region) a) → seen t n r x y ≡ None → seen t n r x' y ≡ option_map (hung above in_region) (seen u n r a b)
own_first true u n r above in_region x x' y a b e h below none = cc
own_first false true n r above in_region x x' y a b e h below none = cc
own_first false false n r above in_region x x' y (Some f) b e h below none = rw (below (none_below n r x y none)) refl
own_first false false n r above in_region x x' y None b e h below none = cc

-- where it is found beside the node
own_beside : (t u : Bool) (n r above in_region : ℕ) (x y y' a b : Option Found) → u ≡ false → a ≡ None → (y ≡ None → y' ≡ option_map (hung above in_region) b) → seen t n r x y ≡ None → seen t n r x y' ≡ option_map (hung above in_region) (seen u n r a b)
own_beside true u n r above in_region x y y' a b e h beside none = cc
own_beside false true n r above in_region x y y' a b e h beside none = cc
own_beside false false n r above in_region x y y' a b e h beside none = rw (none_below n r x y none, h) (beside (none_beside n r x y none))

pub first_hung : (o o' f f' x : ℕ → Option Found) (n r above number in_region : ℕ) → ((s : ℕ) → o s ≡ seen (n == s) n r (f s) (x s)) → ((s : ℕ) → o' s ≡ seen (n == s) n r (f' s) (x s)) → (n == above) ≡ false → Hangs f f' above number in_region → Hangs o o' above number in_region
first_hung o o' f f' x n r above number in_region was is apart hangs = record {
  there = rw (was above) (there_first (n == above) n r (f above) (x above) hangs.there);
  others = λ s differ. is s ∙ ap (λ k. seen (n == s) n r k (x s)) (hangs.others s differ) ∙ sym (was s);
  own = λ none.
      is number
      ∙ own_first (n == number) (n == above) n r above in_region (f number) (f' number) (x number) (f above) (x above) apart hangs.there hangs.own (sym (was number) ∙ none)
      ∙ ap (λ k. option_map (hung above in_region) k) (sym (was above));
}

pub next_hung : (o o' f x x' : ℕ → Option Found) (n r above number in_region : ℕ) → ((s : ℕ) → o s ≡ seen (n == s) n r (f s) (x s)) → ((s : ℕ) → o' s ≡ seen (n == s) n r (f s) (x' s)) → (n == above) ≡ false → f above ≡ None → Hangs x x' above number in_region → Hangs o o' above number in_region
next_hung o o' f x x' n r above number in_region was is apart absent hangs = record {
  there = rw (was above) (there_beside (n == above) n r (f above) (x above) absent hangs.there);
  others = λ s differ. is s ∙ ap (λ k. seen (n == s) n r (f s) k) (hangs.others s differ) ∙ sym (was s);
  own = λ none.
      is number
      ∙ own_beside (n == number) (n == above) n r above in_region (f number) (x number) (x' number) (f above) (x above) apart absent hangs.own (sym (was number) ∙ none)
      ∙ ap (λ k. option_map (hung above in_region) k) (sym (was above));
}

-- ---- the same by what is answered

pub below_hung : (node : Node) (b : Box Node Global) (x new : Node) (above number in_region : ℕ) → (out-Node node).number ≢ above → (out-Node node).first ≡ Some b → x ≡ b.value → Hangs (found x) (found new) above number in_region → Hangs (found node) (found (roll-Node (record { number = (out-Node node).number; region = (out-Node node).region; first = Some (with_value b new); next = (out-Node node).next }))) above number in_region
below_hung node b x new above number in_region apart held same hangs =
    first_hung (found node) _ (found b.value) (found new) (found_in (out-Node node).next)
    (out-Node node).number (out-Node node).region above number in_region
    (λ s. row_first node b s held)
    (λ s. rolled (out-Node node).number (out-Node node).region (Some (with_value b new)) (out-Node node).next s)
    (ne_eqb (out-Node node).number above apart) (rw (sym same) hangs)

pub beside_hung : (node : Node) (b : Box Node Global) (x new : Node) (above number in_region : ℕ) → (out-Node node).number ≢ above → found_in (out-Node node).first above ≡ None → (out-Node node).next ≡ Some b → x ≡ b.value → Hangs (found x) (found new) above number in_region → Hangs (found node) (found (roll-Node (record { number = (out-Node node).number; region = (out-Node node).region; first = (out-Node node).first; next = Some (with_value b new) }))) above number in_region
beside_hung node b x new above number in_region apart absent held same hangs =
    next_hung (found node) _ (found_in (out-Node node).first) (found b.value) (found new)
    (out-Node node).number (out-Node node).region above number in_region
    (λ s. row_next node b s held)
    (λ s. rolled (out-Node node).number (out-Node node).region (out-Node node).first (Some (with_value b new)) s)
    (ne_eqb (out-Node node).number above apart) absent (rw (sym same) hangs)

roll_out : (node : Node) → roll-Node (record { number = (out-Node node).number; region = (out-Node node).region; first = (out-Node node).first; next = (out-Node node).next }) ≡ node
unfolding roll-Node denote.Hole.Carrier.roll out-Node denote.Hole.Carrier.out
roll_out (Node' number region None' None') = refl
roll_out (Node' number region (Some' p x) None') = refl
roll_out (Node' number region None' (Some' q y)) = refl
roll_out (Node' number region (Some' p x) (Some' q y)) = refl

same_box : (b : Box Node Global) (x new : Node) → x ≡ b.value → new ≡ x → with_value b new ≡ b
same_box b x new same is = ap (λ v. with_value b v) (is ∙ same)

below_same : (node : Node) (b d : Box Node Global) → (out-Node node).first ≡ Some b → d ≡ b → roll-Node (record { number = (out-Node node).number; region = (out-Node node).region; first = Some d; next = (out-Node node).next }) ≡ node
below_same node b d held same =
    ap (λ f. roll-Node (record { number = (out-Node node).number; region = (out-Node node).region; first = f; next = (out-Node node).next })) (ap (λ x. Some x) same ∙ sym held) ∙ roll_out node

beside_same : (node : Node) (b d : Box Node Global) → (out-Node node).next ≡ Some b → d ≡ b → roll-Node (record { number = (out-Node node).number; region = (out-Node node).region; first = (out-Node node).first; next = Some d }) ≡ node
beside_same node b d held same =
    ap (λ f. roll-Node (record { number = (out-Node node).number; region = (out-Node node).region; first = (out-Node node).first; next = f })) (ap (λ x. Some x) same ∙ sym held) ∙ roll_out node

none_held : (held : Option (Box Node Global)) (b : Box Node Global) (x : Node) (above : ℕ) → held ≡ Some b → x ≡ b.value → found x above ≡ None → found_in held above ≡ None
none_held held b x above is same none = ap (λ h. found_in h above) is ∙ ap (λ v. found v above) (sym same) ∙ none

pub below_answer : {E : Type 0} (node : Node) (b : Box Node Global) (x new : Node) (r : Result Bool E) (above number in_region : ℕ) → (out-Node node).number ≢ above → (out-Node node).first ≡ Some b → x ≡ b.value → HangAnswer x above number in_region r new → BelowAnswer node above number in_region r (roll-Node (record { number = (out-Node node).number; region = (out-Node node).region; first = Some (with_value b new); next = (out-Node node).next }))
below_answer node b x new (Ok true) above number in_region apart held same answer = below_hung node b x new above number in_region apart held same answer
below_answer node b x new (Ok false) above number in_region apart held same answer =
    (below_same node b (with_value b new) held (same_box b x new same answer.0), none_held (out-Node node).first b x above held same answer.1)
below_answer node b x new (Err e) above number in_region apart held same answer = below_same node b (with_value b new) held (same_box b x new same answer)

pub beside_answer : {E : Type 0} (node : Node) (b : Box Node Global) (x new : Node) (r : Result Bool E) (above number in_region : ℕ) → (out-Node node).number ≢ above → found_in (out-Node node).first above ≡ None → (out-Node node).next ≡ Some b → x ≡ b.value → HangAnswer x above number in_region r new → HangAnswer node above number in_region r (roll-Node (record { number = (out-Node node).number; region = (out-Node node).region; first = (out-Node node).first; next = Some (with_value b new) }))
beside_answer node b x new (Ok true) above number in_region apart absent held same answer = beside_hung node b x new above number in_region apart absent held same answer
beside_answer node b x new (Ok false) above number in_region apart absent held same answer =
    (beside_same node b (with_value b new) held (same_box b x new same answer.0), none_seen)
  where
    none_at : (t : Bool) (n r : ℕ) (p q : Option Found) → t ≡ false → p ≡ None → q ≡ None → seen t n r p q ≡ None
    none_at t n r p q e f g = rw (e, f) g

    none_seen : found node above ≡ None
    none_seen =
        row_next node b above held
        ∙ none_at ((out-Node node).number == above) (out-Node node).number (out-Node node).region (found_in (out-Node node).first above) (found b.value above) (ne_eqb (out-Node node).number above apart) absent (ap (λ v. found v above) (sym same) ∙ answer.1)
beside_answer node b x new (Err e) above number in_region apart absent held same answer = beside_same node b (with_value b new) held (same_box b x new same answer)
