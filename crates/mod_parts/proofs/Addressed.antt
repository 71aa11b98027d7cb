-- Addresses by the lists that are assigned, and their bounds.
use Rattle.std.proofs.Common.{◌≡◌, ℕ, zero, suc, ◌+◌, ◌-◌, ◌*◌, ◌<◌, ◌≤◌, List, [], ◌∷◌, map, length, get_or, slice_index, slice_get, Some, All, refl, sym, ap, subst, ◌∙◌, arith}
use Rattle.std.specs.List.{range_with_len}
use Rattle.std.proofs.lemmas.List.Elements.{All-tail}
use Rattle.std.proofs.lemmas.List.FromFn.{length-map-range_with_len, get_or-map-range_with_len}
use Rattle.std.proofs.lemmas.Option.{slice_get-get_or}
use Rattle.sym_mod.specs.Sound.{IsSoundLabel, IsSoundRegister}
use Rattle.sym_mod.specs.declared.program.Label.{Label}
use Rattle.sym_mod.specs.declared.program.Places.{Places}
use Rattle.sym_mod.specs.declared.program.Register.{Register}
use Rattle.sym_mod.specs.declared.program.Section.{Section}
use Rattle.linking_model.specs.Tree.{segments}
use Rattle.linking_model.specs.Laws.{LiesInSegment}
use Rattle.linking_model.specs.Places.{Laid, place, table_place, origin, end_of, entry_count, length_of_section}
use Rattle.linking_model.specs.Points.{next_multiple, displacements, registers_end}
use Rattle.linking_model.proofs.Extents.{sections_lie_in_segments, tables_end_segments}
use Rattle.addr_assign.specs.Laid.{places_of}
use Rattle.addr_assign.proofs.Assigned.{ends_fit, tables_fit}
use Rattle.addr_assign.proofs.Displaced.{at_below}
use Rattle.relocate.specs.Ready.{StandsInTree}
use Rattle.relocate.proofs.Bounds.{Found, there, of_each}
use Rattle.member_model.specs.Parts.{Part as Piece, SegmentTable as Segtab, OneSection, EntryTable as Entab, part_place, part_length}
use Rattle.mod_parts.specs.Seen.{IsPartOf}
use Rattle.mod_parts.specs.Listed.{CanBeListed}
use Rattle.mod_parts.specs.Placed.{ArePlacesOf}
use Rattle.mod_parts.proofs.Bucketed.{segments_listed}

-- ---- elements of the lists

-- the place is in the list, and has the number
pub record IsAt (xs : List ℕ) (i n : ℕ) : Type 0 where
  pub inside : i < length xs
  pub value : slice_index xs i ≡ n

in_list : (f : ℕ → ℕ) (a n i s : ℕ) (xs : List ℕ) → xs ≡ map f (range_with_len a n) → i < n → a + i ≡ s → IsAt xs i (f s)
in_list f a n i s xs are low is = record {
  inside = omega (arith, low, ap length are, length-map-range_with_len f a n);
  value = ap (λ l. slice_index l i) are ∙ get_or-map-range_with_len f a n i s 0 low is;
}

by_segment : (f : ℕ → ℕ) (P : Laid) (i s : ℕ) (xs : List ℕ) → xs ≡ map f (segments P.tree) → 1 ≤ s → s ≤ length P.tree → i ≡ s - 1 → IsAt xs i (f s)
by_segment f P i s xs are first last is =
    in_list f 1 (length P.tree) i s xs (are ∙ ap (map f) (segments_listed P.tree)) (omega (arith, first, last, is)) (omega (arith, first, is))

pub section_at : (P : Laid) (a : Places) (i : ℕ) → ArePlacesOf P a → i < length P.program.sections → IsAt a.sections i (place P i)
unfolding places_of
section_at P a i placed low =
    in_list (place P) 0 (length P.program.sections) i i a.sections (ap (λ b. b.sections) placed.2) low (omega arith)

pub table_at : (P : Laid) (a : Places) (i s : ℕ) → ArePlacesOf P a → 1 ≤ s → s ≤ length P.tree → i ≡ s - 1 → IsAt a.tables i (table_place P s)
unfolding places_of
table_at P a i s placed first last is = by_segment (table_place P) P i s a.tables (ap (λ b. b.tables) placed.2) first last is

pub origin_at : (P : Laid) (a : Places) (i s : ℕ) → ArePlacesOf P a → 1 ≤ s → s ≤ length P.tree → i ≡ s - 1 → IsAt a.origins i (origin P s)
unfolding places_of
origin_at P a i s placed first last is = by_segment (origin P) P i s a.origins (ap (λ b. b.origins) placed.2) first last is

pub end_at : (P : Laid) (a : Places) (i s : ℕ) → ArePlacesOf P a → 1 ≤ s → s ≤ length P.tree → i ≡ s - 1 → IsAt a.ends i (end_of P s)
unfolding places_of
end_at P a i s placed first last is = by_segment (end_of P) P i s a.ends (ap (λ b. b.ends) placed.2) first last is

-- ---- bounds

bounded_at : (f : ℕ → ℕ) (P : Laid) (s m : ℕ) → All (λ n. n ≤ m) (map f (segments P.tree)) → 1 ≤ s → s ≤ length P.tree → f s ≤ m
bounded_at f P s m all first last =
    let at : IsAt (map f (segments P.tree)) (s - 1) (f s) = by_segment f P (s - 1) s (map f (segments P.tree)) refl first last refl in
    subst (λ n. n ≤ m) at.value (all (s - 1) 0 at.inside)

pub end_near : (P : Laid) (a : Places) (s : ℕ) → ArePlacesOf P a → 1 ≤ s → s ≤ length P.tree → end_of P s ≤ 4194311
end_near P a s placed first last =
    bounded_at (end_of P) P s 4194311 (ends_fit P (map (end_of P) (segments P.tree)) placed.1 refl) first last

pub table_near : (P : Laid) (a : Places) (s : ℕ) → ArePlacesOf P a → 1 ≤ s → s ≤ length P.tree → table_place P s ≤ 4194311
table_near P a s placed first last =
    bounded_at (table_place P) P s 4194311 (tables_fit P (map (table_place P) (segments P.tree)) placed.1 refl) first last

pub section_end_near : (P : Laid) (a : Places) (i : ℕ) (x : Section) → ArePlacesOf P a → CanBeListed P → slice_get P.program.sections i ≡ Some x
    → place P i + x.length ≤ 4194311
section_end_near P a i x placed can found =
    let stands : StandsInTree P.tree x = of_each (StandsInTree P.tree) P.program.sections i x can.in_tree found in
    let lies : LiesInSegment P i x = sections_lie_in_segments P i x found in
    let near : end_of P x.segment ≤ 4194311 = end_near P a x.segment placed stands.first stands.last in
    within (place P i) x.length (end_of P x.segment) lies.ends near
  where
    within : (p l e : ℕ) → p + l ≤ e → e ≤ 4194311 → p + l ≤ 4194311
    within p l e ends near = omega arith

-- a table that is there ends its segment
table_end : (P : Laid) (a : Places) (s n : ℕ) → ArePlacesOf P a → 1 ≤ s → s ≤ length P.tree → n ≡ entry_count P s → table_place P s + (12 * n + 12) ≤ 4194323
table_end P a s zero placed first last is = omega (arith, table_near P a s placed first last)
table_end P a s (suc n) placed first last is =
    let ends : table_place P s + (12 * entry_count P s + 12) ≡ end_of P s = tables_end_segments P s (omega (arith, is)) in
    omega (arith, ends, is, end_near P a s placed first last)

-- ---- parts

pub part_end : (P : Laid) (a : Places) (x : Piece) → ArePlacesOf P a → CanBeListed P → IsPartOf P x → part_place P x + part_length P x ≤ 4194323
part_end P a Segtab placed can is = omega (arith, can.small.few_segments)
part_end P a (OneSection i) placed can is = section_by P.program.sections refl
  where
    section_by : (xs : List Section) → xs ≡ P.program.sections → place P i + length_of_section P.program i ≤ 4194323
    section_by [] same = absurd (omega (arith, is, ap length same))
    section_by (y ∷ ys) same =
        let inside : i < length (y ∷ ys) = omega (arith, is, ap length same) in
        let found : slice_get P.program.sections i ≡ Some (get_or (y ∷ ys) i y) = ap (λ l. slice_get l i) (sym same) ∙ slice_get-get_or (y ∷ ys) i y inside in
        let near : place P i + (get_or (y ∷ ys) i y).length ≤ 4194311 = section_end_near P a i (get_or (y ∷ ys) i y) placed can found in
        rw found (omega (arith, near))
part_end P a (Entab s) placed can is = table_end P a s (entry_count P s) placed is.0 is.1 refl

-- ---- labels

pub label_section : (P : Laid) (x : Label) → IsSoundLabel P.program x → Found P.program.sections x.section (λ s. x.offset ≤ s.length)
label_section P x sound = there P.program.sections x.section (λ s. x.offset ≤ s.length) sound.inside

pub label_near : (P : Laid) (a : Places) (x : Label) → ArePlacesOf P a → CanBeListed P → IsSoundLabel P.program x
    → place P x.section + x.offset ≤ 4194311
label_near P a x placed can sound =
    let at : Found P.program.sections x.section (λ s. x.offset ≤ s.length) = label_section P x sound in
    let end : place P x.section + at.item.length ≤ 4194311 = section_end_near P a x.section at.item placed can at.found in
    omega (arith, end, at.holds)

-- ---- registers

displacements-long : (at : ℕ) (xs : List Register) → length (displacements at xs) ≡ length xs
unfolding displacements
displacements-long at [] = refl
displacements-long at (x ∷ xs) = ap suc (displacements-long (next_multiple at x.align + x.length) xs)

displacement_bound : (xs : List Register) (at i : ℕ) → All IsSoundRegister xs → i < length xs → slice_index (displacements at xs) i ≤ registers_end at xs
unfolding displacements registers_end
displacement_bound [] at i sound low = absurd (omega (arith, low))
displacement_bound (x ∷ xs) at zero sound low =
    let above : next_multiple at x.align + x.length ≤ registers_end (next_multiple at x.align + x.length) xs =
    at_below xs 0 (next_multiple at x.align + x.length) _ (All-tail IsSoundRegister x xs sound) refl in
    omega (arith, above)
displacement_bound (x ∷ xs) at (suc i) sound low =
    displacement_bound xs (next_multiple at x.align + x.length) i (All-tail IsSoundRegister x xs sound) (omega (arith, low))

pub register_at : (P : Laid) (a : Places) (i : ℕ) → ArePlacesOf P a → i < length P.program.registers
    → IsAt a.registers i (slice_index (displacements 0 P.program.registers) i)
unfolding places_of
register_at P a i placed low =
    let are : a.registers ≡ displacements 0 P.program.registers = ap (λ b. b.registers) placed.2 in
    record {
      inside = omega (arith, low, ap length are, displacements-long 0 P.program.registers);
      value = ap (λ l. slice_index l i) are;
    }

pub register_near : (P : Laid) (a : Places) (i : ℕ) → ArePlacesOf P a → CanBeListed P → i < length P.program.registers
    → slice_index (displacements 0 P.program.registers) i ≤ 16777215
register_near P a i placed can low = omega (arith, displacement_bound P.program.registers 0 i can.sound.registers low, placed.0)
