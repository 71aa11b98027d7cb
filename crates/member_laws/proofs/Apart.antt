-- No two relocation items of a program share a byte wrongly.
use Rattle.std.proofs.Common.{◌≡◌, ◌≢◌, ℕ, zero, suc, ◌+◌, ◌-◌, ◌*◌, ◌<◌, ◌≤◌, Bool, true, false, not, ◌&&◌, ◌==◌, nat_lt, nat_le, List, [], ◌∷◌, ◌++◌, map, filter, length, Some, slice_get, ◌⊎◌, inl, inr, refl, sym, ap, subst, ◌∙◌, arith}
use Rattle.std.proofs.lemmas.Bool.{and_left, and_right, and_parts, eqb-true, leb-true, ltb-true, le-ltb, lt-leb}
use Rattle.std.proofs.lemmas.Option.{same_Some}
use Rattle.std.specs.List.{AllByRecursion, flat_map, enumerate_from}
use Rattle.sym_mod.specs.Sound.{IsSoundConstant, ConstantsApart, HaveProperSigns, TargetFitsKind}
use Rattle.sym_mod.specs.declared.module.Kind.{Kind}
use Rattle.sym_mod.specs.declared.module.Kind.TheVariants.{Address, Branch, Displacement, Total as TotalKind}
use Rattle.sym_mod.specs.declared.program.SecKind.{SecKind}
use Rattle.sym_mod.specs.declared.program.SecKind.TheVariants.{Sd, Pc, Cm}
use Rattle.sym_mod.specs.declared.program.Constant.{Constant}
use Rattle.sym_mod.specs.declared.program.Term.{Term}
use Rattle.sym_mod.specs.declared.program.Target.{Target}
use Rattle.load_recs.specs.declared.items.RldItem.{RldItem}
use Rattle.linking_model.specs.Places.{Laid, place, table_place, entries_of}
use Rattle.member_model.specs.Cuts.{cuts}
use Rattle.member_model.specs.Parts.{Part, SegmentTable, OneSection, EntryTable, parts, part_kind, part_place, part_bytes, part_number, target_number}
use Rattle.member_model.specs.Symbols.{field_kind, field_length}
use Rattle.member_model.specs.Chunks.{term_item, section_items, entry_items, part_items}
use Rattle.member_model.specs.Pieces.{ends_among}
use Rattle.member_laws.specs.Linkable.{IsLinkable}
use Rattle.member_laws.specs.Gathered.{piece_items, items_as, items_of}
use Rattle.member_laws.proofs.Clear.{Clear, AreTogether, clear-both, clear-stripped, strip, strip_chunks, map-flat}
use Rattle.member_laws.proofs.Distinct.{Distinct, parts-distinct}
use Rattle.member_laws.proofs.Flags.{kind_number, term_flag}
use Rattle.member_laws.proofs.Joined.{ArePlain, IsPlain}
use Rattle.member_laws.proofs.Lists.{each-filter, each-flat_map, each-made, each-weaker}
use Rattle.member_laws.proofs.Membership.{Has, has-each, each-of, has-all, from-map, from-filter, from-flat_map, from-enumerate}
use Rattle.member_laws.proofs.Numbered.{IsPart, from-part, is-numbered}
use Rattle.member_laws.proofs.Pairs.{Pairs, pairs-filter, pairs-map, pairs-flat, pairs-in, pairs-all, pairs-made, pairs-in_order, pairs-told, pairs_from}
use Rattle.member_laws.proofs.PartItems.{FitsPart, part_fits}
use Rattle.member_laws.proofs.PartPieces.{IsCut, is-cut, flat_map-same, part-plain}

-- ---- items of constants

-- the item of a term has the kind and the length of its constant
record IsOf (P : Laid) (c : Constant) (t : Term) : Type 0 where
  size : field_length (term_item P c t) ≡ c.length
  kind : field_kind (term_item P c t) ≡ kind_number c.kind

is-of : (P : Laid) (c : Constant) (t : Term) → IsSoundConstant P.program c → Has c.terms t → IsOf P c t
is-of P c t sound there =
    let target : TargetFitsKind P.program c.kind t.target = has-all (λ x. TargetFitsKind P.program c.kind x.target) c.terms t sound.targets there in
    let flag = term_flag P.program c.kind c.length c.terms t sound.not_empty sound.short sound.signs target there in
    record { size = flag.of_length; kind = flag.of_kind }

-- one constant has items of one place, and more than one only where they are A-type
terms-clear : (P : Laid) (c : Constant) → IsSoundConstant P.program c → Pairs Clear (map (term_item P c) c.terms)
terms-clear P c sound = by_kind c.kind refl sound.signs
  where
    together : c.kind ≡ Address → (t u : Term) → Has c.terms t → Has c.terms u → Clear (term_item P c t) (term_item P c u)
    together address t u a b =
        let first = is-of P c t sound a in
        let second = is-of P c u sound b in
        inr (inr (inr (record {
          address = refl;
          size = first.size ∙ sym second.size;
          first_kind = first.kind ∙ ap kind_number address;
          second_kind = second.kind ∙ ap kind_number address;
        })))

    single : (kind : Kind) (terms : List Term) → (kind ≡ Address → ⊥) → HaveProperSigns kind (map (λ t. t.minus) terms) → Pairs Clear (map (term_item P c) terms)
    single kind [] other signs = tt
    single kind (t ∷ []) other signs = (tt, tt)
    single Address (t ∷ u ∷ terms) other signs = absurd (other refl)
    single Branch (t ∷ u ∷ terms) other signs = absurd signs
    single Displacement (t ∷ u ∷ terms) other signs = absurd signs
    single TotalKind (t ∷ u ∷ terms) other signs = absurd signs

    by_kind : (kind : Kind) → c.kind ≡ kind → HaveProperSigns c.kind (map (λ t. t.minus) c.terms) → Pairs Clear (map (term_item P c) c.terms)
    by_kind Address e signs = pairs-map Clear (term_item P c) c.terms (pairs-all (λ t u. Clear (term_item P c t) (term_item P c u)) c.terms (together e))
    by_kind Branch e signs = single c.kind c.terms (λ a. differ (sym a ∙ e)) signs
      where
        differ : Address ≡ Branch → ⊥
        differ e = cc
    by_kind Displacement e signs = single c.kind c.terms (λ a. differ (sym a ∙ e)) signs
      where
        differ : Address ≡ Displacement → ⊥
        differ e = cc
    by_kind TotalKind e signs = single c.kind c.terms (λ a. differ (sym a ∙ e)) signs
      where
        differ : Address ≡ TotalKind → ⊥
        differ e = cc

constants-clear : (P : Laid) (c d : Constant) (t u : Term) → IsSoundConstant P.program c → IsSoundConstant P.program d → c.section ≡ d.section → ConstantsApart c d → Has c.terms t → Has d.terms u
    → Clear (term_item P c t) (term_item P d u)
constants-clear P c d t u first second same apart a b =
    let fc : field_length (term_item P c t) ≡ c.length = (is-of P c t first a).size in
    let fd : field_length (term_item P d u) ≡ d.length = (is-of P d u second b).size in
    let at : place P c.section ≡ place P d.section = ap (place P) same in
    elim (apart same) [
      | inl before ↦ inr (inl (behind _ _ _ _ _ _ fc at before))
      | inr after ↦ inr (inr (inl (behind _ _ _ _ _ _ fd (sym at) after)))
    ]
  where
    behind : (p q o l n f : ℕ) → f ≡ l → p ≡ q → o + l ≤ n → p + o + f ≤ q + n
    behind p q o l n f e g h = omega arith

section-clear : (P : Laid) (i : ℕ) → IsLinkable P → Pairs Clear (section_items P i)
section-clear P i links =
    let own = filter (λ (c : Constant). c.section == i) P.program.constants in
    let sound : (c : Constant) → Has own c → IsSoundConstant P.program c =
    λ c there. has-all (IsSoundConstant P.program) P.program.constants c links.sound.constants (from-filter (λ (d : Constant). d.section == i) P.program.constants c there).0 in
    let section : (c : Constant) → Has own c → c.section ≡ i = λ c there. eqb-true c.section i (from-filter (λ (d : Constant). d.section == i) P.program.constants c there).1 in
    pairs-in_order Clear (λ x y. nat_lt x.address y.address) (flat_map (λ (c : Constant). map (term_item P c) c.terms) own) clear-both
    (pairs-flat Clear ConstantsApart (λ (c : Constant). map (term_item P c) c.terms) own
    (pairs-filter ConstantsApart (λ (c : Constant). c.section == i) P.program.constants (pairs_from ConstantsApart P.program.constants links.sound.apart))
    (λ c there. terms-clear P c (sound c there))
    (λ c d a b there other apart has_a has_b.
    let t = from-map (term_item P c) c.terms a has_a in
    let u = from-map (term_item P d) d.terms b has_b in
    subst (λ x. Clear x b) t.made (subst (λ y. Clear (term_item P c t.source) y) u.made
    (constants-clear P c d t.source u.source (sound c there) (sound d other) (section c there ∙ sym (section d other)) apart t.there u.there))))

-- ---- entries

-- numbers ascend
pub pairs-numbered : {X : Type 0} (j : ℕ) (xs : List X) → Pairs (λ (z w : ℕ × X). z.0 < w.0) (enumerate_from j xs)
pairs-numbered j [] = tt
pairs-numbered j (x ∷ xs) =
    (each-of _ (enumerate_from (j + 1) xs) (λ w there. let at = from-enumerate (j + 1) xs w there in let e : w.0 ≡ j + 1 + at.0 = at.2 in omega arith), pairs-numbered (j + 1) xs)

table-clear : (P : Laid) (s : ℕ) → Pairs Clear (entry_items P s)
table-clear P s =
    pairs-map Clear (λ ((i, y) : ℕ × Target). record { r = target_number P y; p = part_number P (EntryTable s); flag = 12; address = table_place P s + 12 + 12 * i }) (enumerate_from 0 (entries_of P s))
    (pairs-in (λ (z w : ℕ × Target). z.0 < w.0) _ (enumerate_from 0 (entries_of P s)) (λ z w there low. inr (inl (behind (table_place P s) z.0 w.0 low))) (pairs-numbered 0 (entries_of P s)))
  where
    behind : (p i j : ℕ) → i < j → p + 12 + 12 * i + 4 ≤ p + 12 + 12 * j
    behind p i j low = omega arith

part-clear : (P : Laid) (x : Part) → IsLinkable P → Pairs Clear (part_items P x)
unfolding part_items
part-clear P SegmentTable links = tt
part-clear P (OneSection i) links = section-clear P i links
part-clear P (EntryTable s) links = table-clear P s

-- ---- in pieces

-- the items that come with one piece, as they are
abbrev ended_in : Laid → ℕ → Part → ℕ × List ℕ → List RldItem
ended_in P n x z = filter (ends_among (part_place P x + n * z.0) (length z.1)) (part_items P x)

-- the items of all pieces of a part, as they are
abbrev in_pieces : Laid → ℕ → Part → List RldItem
in_pieces P n x = flat_map (ended_in P n x) (enumerate_from 0 (cuts n (part_bytes P x)))

stripped-as : (kind : SecKind) (xs ys : List RldItem) → map strip xs ≡ ys → map strip (items_as kind xs) ≡ items_as kind ys
stripped-as Sd xs ys e = e
stripped-as Pc xs ys e = e
stripped-as Cm xs ys e = refl

stripped : (P : Laid) (n : ℕ) (x : Part) → IsLinkable P → IsPart P x → map strip (items_of P n x) ≡ items_as (part_kind P x) (in_pieces P n x)
unfolding items_of
stripped P n x links part =
    stripped-as (part_kind P x) (flat_map (piece_items n (part_place P x) (part_items P x)) (enumerate_from 0 (cuts n (part_bytes P x)))) (in_pieces P n x)
    (map-flat strip (piece_items n (part_place P x) (part_items P x)) (enumerate_from 0 (cuts n (part_bytes P x)))
    ∙ flat_map-same _ (ended_in P n x) (enumerate_from 0 (cuts n (part_bytes P x)))
    (λ z there. strip_chunks (ended_in P n x z) (each-filter IsPlain (ends_among (part_place P x + n * z.0) (length z.1)) (part_items P x) (part-plain P x links part))))

-- one piece ends before a later one begins
abbrev EndsBefore : ℕ → ℕ × List ℕ → ℕ × List ℕ → Type 0
EndsBefore n z w = n * z.0 + length z.1 ≤ n * w.0

pieces-apart : (n : ℕ) (bytes : List ℕ) → 1 ≤ n → Pairs (EndsBefore n) (enumerate_from 0 (cuts n bytes))
pieces-apart n bytes some =
    pairs-in (λ (z w : ℕ × List ℕ). z.0 < w.0) (EndsBefore n) (enumerate_from 0 (cuts n bytes))
    (λ z w there low. later n z.0 w.0 (length z.1) (is-cut n bytes z some there).most low) (pairs-numbered 0 (cuts n bytes))
  where
    product : (n j k : ℕ) → j < k → n * j + n ≤ n * k
    product n j k low = grind arith

    later : (n j k len : ℕ) → len ≤ n → j < k → n * j + len ≤ n * k
    later n j k len few low = let e : n * j + n ≤ n * k = product n j k low in omega arith

not-before : (place at len next later last : ℕ) → at + len ≤ next → (nat_le (place + next) last && nat_lt last (place + next + later)) ≡ true → (nat_le (place + at) last && nat_lt last (place + at + len)) ≡ false
not-before place at len next later last apart is =
    let low : place + next ≤ last = leb-true (place + next) last (and_parts (nat_le (place + next) last) (nat_lt last (place + next + later)) is).0 in
    and_right (nat_le (place + at) last) (nat_lt last (place + at + len)) (le-ltb last (place + at + len) (omega arith))

pieces-clear : (P : Laid) (n : ℕ) (x : Part) → IsLinkable P → 1 ≤ n → Pairs Clear (in_pieces P n x)
pieces-clear P n x links some =
    let all = part-clear P x links in
    pairs-flat Clear (EndsBefore n) (ended_in P n x) (enumerate_from 0 (cuts n (part_bytes P x))) (pieces-apart n (part_bytes P x) some)
    (λ z there. pairs-filter Clear (ends_among (part_place P x + n * z.0) (length z.1)) (part_items P x) all)
    (λ z w a b there other apart has_a has_b.
    let first = from-filter (ends_among (part_place P x + n * z.0) (length z.1)) (part_items P x) a has_a in
    let second = from-filter (ends_among (part_place P x + n * w.0) (length w.1)) (part_items P x) b has_b in
    pairs-told Clear (ends_among (part_place P x + n * z.0) (length z.1)) (part_items P x) a b clear-both all first.0 second.0 first.1
    (not-before (part_place P x) (n * z.0) (length z.1) (n * w.0) (length w.1) (b.address + (field_length b - 1)) apart second.1))

as-clear : (kind : SecKind) (items : List RldItem) → Pairs Clear items → Pairs Clear (items_as kind items)
as-clear Sd items all = all
as-clear Pc items all = all
as-clear Cm items all = tt

items-clear : (P : Laid) (n : ℕ) (x : Part) → IsLinkable P → 1 ≤ n → IsPart P x → Pairs Clear (items_of P n x)
items-clear P n x links some part =
    pairs-in (λ a b. Clear (strip a) (strip b)) Clear (items_of P n x) (λ a b there clear. clear-stripped a b clear)
    (pairs-made Clear strip (items_of P n x) (subst (Pairs Clear) (sym (stripped P n x links part)) (as-clear (part_kind P x) (in_pieces P n x) (pieces-clear P n x links some))))

-- ---- the items of all parts

as-each : (Q : RldItem → Type 0) (kind : SecKind) (items : List RldItem) → AllByRecursion Q items → AllByRecursion Q (items_as kind items)
as-each Q Sd items all = all
as-each Q Pc items all = all
as-each Q Cm items all = tt

-- each item, but for what it tells of the next, is one of its part
pub items-fit : (P : Laid) (n : ℕ) (x : Part) → IsLinkable P → IsPart P x → AllByRecursion (λ a. FitsPart P x (strip a)) (items_of P n x)
items-fit P n x links part =
    each-made (FitsPart P x) strip (items_of P n x)
    (subst (AllByRecursion (FitsPart P x)) (sym (stripped P n x links part))
    (as-each (FitsPart P x) (part_kind P x) (in_pieces P n x)
    (each-flat_map (FitsPart P x) (ended_in P n x) (enumerate_from 0 (cuts n (part_bytes P x)))
    (each-of _ (enumerate_from 0 (cuts n (part_bytes P x))) (λ z there. each-filter (FitsPart P x) (ends_among (part_place P x + n * z.0) (length z.1)) (part_items P x) (part_fits P x links part))))))

same-part : (P : Laid) (x y : Part) → IsPart P x → IsPart P y → part_number P x ≡ part_number P y → x ≡ y
same-part P x y first second e =
    let a = is-numbered P x first in
    let b = is-numbered P y second in
    let an : part_number P x ≡ a.place + 1 = a.number in
    let bn : part_number P y ≡ b.place + 1 = b.number in
    let same : a.place ≡ b.place = omega arith in
    same_Some x y (sym a.there ∙ ap (slice_get (parts P)) same ∙ b.there)

distinct-pairs : {X : Type 0} (xs : List X) → Distinct xs → Pairs (λ x y. x ≡ y → ⊥) xs
distinct-pairs [] all = tt
distinct-pairs (x ∷ xs) all = (each-of (λ y. x ≡ y → ⊥) xs (λ y there e. all.0 (subst (Has xs) (sym e) there)), distinct-pairs xs all.1)

-- no two of them share a byte wrongly
pub all_clear : (P : Laid) (n : ℕ) → IsLinkable P → 1 ≤ n → Pairs Clear (flat_map (items_of P n) (parts P))
all_clear P n links some =
    pairs-flat Clear (λ x y. x ≡ y → ⊥) (items_of P n) (parts P) (distinct-pairs (parts P) (parts-distinct P))
    (λ x there. items-clear P n x links some (from-part P x there))
    (λ x y a b there other differ has_a has_b.
    let first = has-each (λ c. FitsPart P x (strip c)) (items_of P n x) a (items-fit P n x links (from-part P x there)) has_a in
    let second = has-each (λ c. FitsPart P y (strip c)) (items_of P n y) b (items-fit P n y links (from-part P y other)) has_b in
    inl (λ e. differ (same-part P x y (from-part P x there) (from-part P y other) (sym first.number ∙ e ∙ second.number))))
