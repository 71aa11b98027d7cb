-- The parts of a segment stand one behind another.
use Rattle.std.proofs.Common.{◌≡◌, ℕ, zero, suc, ◌+◌, ◌*◌, ◌<◌, ◌≤◌, Bool, true, false, cond, ◌&&◌, ◌==◌, if◌then◌else◌, List, [], ◌∷◌, ◌++◌, map, filter, length, take, Some, slice_get, get_or, refl, sym, ap, subst, ◌∙◌, append_assoc, arith}
use Rattle.std.specs.Bool.{⊤}
use Rattle.std.proofs.lemmas.Bool.{eqb-true, eq-eqb, cond-true, cond-false, ne_eqb}
use Rattle.std.proofs.lemmas.List.Sums.{sum_by_more_le}
use Rattle.std.proofs.lemmas.Option.{slice_get_within, get_or_from_slice_get}
use Rattle.std.specs.List.{range_with_len, sum_by}
use Rattle.sym_mod.specs.declared.program.Section.{Section}
use Rattle.linking_model.specs.Numbers.{round8}
use Rattle.linking_model.specs.Places.{Laid, has_segtab, segtab_length, head_room, room_in, entry_count, origin, place, place_after, table_place, segment_of_section, length_of_section}
use Rattle.linking_model.specs.Run.{sections_in}
use Rattle.linking_model.proofs.Sums.{sections_are_apart}
use Rattle.member_model.specs.Parts.{Part, SegmentTable, OneSection, EntryTable, parts_in, part_place, part_length}
use Rattle.member_laws.proofs.Standing.{StandsIn, segment-at, length-at}

-- each part begins at `from` or behind the one before it
abbrev pub Ascends : Laid → ℕ → List Part → Type 0
Ascends P from [] = ⊤
Ascends P from (x ∷ xs) = (from ≤ part_place P x) × Ascends P (part_place P x + part_length P x) xs

-- ---- where sections and tables stand

place-is : (P : Laid) (i s : ℕ) → StandsIn P s i → place P i ≡ origin P s + head_room P.tree s + sum_by (room_in s) (take i P.program.sections)
unfolding place place_after
place-is P i s is =
    ap (λ t. origin P t + head_room P.tree t + sum_by (room_in t) (take i P.program.sections)) (segment-at P i is.section is.there ∙ is.here)

table-is : (P : Laid) (s : ℕ) → table_place P s ≡ origin P s + head_room P.tree s + sum_by (room_in s) P.program.sections
unfolding table_place place_after
table-is P s = refl

room-holds : (s : ℕ) (x : Section) → x.segment ≡ s → x.length ≤ room_in s x
room-holds s x here = subst (λ b. x.length ≤ (if b then round8 x.length else 0)) (sym (eq-eqb x.segment s here)) (rounded x.length)
  where
    rounded : (n : ℕ) → n ≤ round8 n
    rounded n = omega arith

-- a section ends before the table of its segment
before-table : (P : Laid) (i s : ℕ) → StandsIn P s i → place P i + length_of_section P.program i ≤ table_place P s
before-table P i s is =
    let sections = P.program.sections in
    let low : i < length sections = slice_get_within sections i is.section is.there in
    let own : get_or sections i is.section ≡ is.section = get_or_from_slice_get sections i is.section is.section is.there in
    let through : sum_by (room_in s) (take i sections) + room_in s (get_or sections i is.section) ≤ sum_by (room_in s) sections = sum_by_more_le (room_in s) sections i is.section low in
    let room : is.section.length ≤ room_in s is.section = room-holds s is.section is.here in
    bound _ _ _ _ _ _ _ _ _ (place-is P i s is) (table-is P s) (length-at P i is.section is.there) (subst (λ x. sum_by (room_in s) (take i sections) + room_in s x ≤ sum_by (room_in s) sections) own through) room
  where
    bound : (place table o h before all room len own : ℕ) → place ≡ o + h + before → table ≡ o + h + all → len ≡ own → before + room ≤ all → own ≤ room → place + len ≤ table
    bound place table o h before all room len own a b c d e = omega arith

-- what comes after the head of a segment stands behind it
head-before : (P : Laid) (s : ℕ) → has_segtab P.tree s ≡ true → segtab_length P.tree ≤ head_room P.tree s
head-before P s has = subst (λ b. segtab_length P.tree ≤ (if b then round8 (segtab_length P.tree) else 0)) (sym has) (rounded (segtab_length P.tree))
  where
    rounded : (n : ℕ) → n ≤ round8 n
    rounded n = omega arith

-- ---- the parts of a segment

later-apart : (P : Laid) (s i j : ℕ) → StandsIn P s i → StandsIn P s j → i < j → place P i + length_of_section P.program i ≤ place P j
later-apart P s i j a b low =
    let apart : place P i + a.section.length ≤ place P j = sections_are_apart P i j a.section b.section low a.there b.there (a.here ∙ sym b.here) in
    subst (λ n. place P i + n ≤ place P j) (sym (length-at P i a.section a.there)) apart

found-at : (P : Laid) (s a : ℕ) → a < length P.program.sections → (segment_of_section P.program a == s) ≡ true → StandsIn P s a
found-at P s a low here = by_section P.program.sections a low (λ x there. record { section = x; there = there; here = sym (segment-at P a x there) ∙ eqb-true (segment_of_section P.program a) s here })
  where
    by_section : (sections : List Section) (k : ℕ) → k < length sections → ((x : Section) → slice_get sections k ≡ Some x → StandsIn P s a) → StandsIn P s a
    by_section [] k low use' = absurd (omega arith)
    by_section (x ∷ xs) zero low use' = use' x refl
    by_section (x ∷ xs) (suc k) low use' = by_section xs k (omega arith) use'

-- sections with numbers from a on, and what comes after them
sections-ascend : (P : Laid) (s a k from : ℕ) (tail : List Part) → a + k ≡ length P.program.sections → ((i : ℕ) → a ≤ i → StandsIn P s i → from ≤ place P i) → from ≤ table_place P s
    → ((end : ℕ) → end ≤ table_place P s → Ascends P end tail)
    → Ascends P from (map (λ i. OneSection i) (filter (λ i. segment_of_section P.program i == s) (range_with_len a k)) ++ tail)
sections-ascend P s a zero from tail count behind ends last = last from ends
sections-ascend P s a (suc k) from tail count behind ends last =
    elim (segment_of_section P.program a == s) as (λ b. (segment_of_section P.program a == s) ≡ b
    → Ascends P from (map (λ i. OneSection i) (cond b (a ∷ filter (λ i. segment_of_section P.program i == s) (range_with_len (a + 1) k)) (filter (λ i. segment_of_section P.program i == s) (range_with_len (a + 1) k))) ++ tail)) [
      | true ↦ λ e.
          let here : StandsIn P s a = found-at P s a (omega arith) e in (
            behind a (omega arith) here,
            sections-ascend P s (a + 1) k (place P a + length_of_section P.program a) tail (omega arith)
                (λ i low there. later-apart P s a i here there (omega arith)) (before-table P a s here) last,
          )
      | false ↦ λ e. sections-ascend P s (a + 1) k from tail (omega arith) (λ i low there. behind i (omega arith) there) ends last
    ] refl

after-head : (P : Laid) (s from : ℕ) → from ≤ head_room P.tree s
    → Ascends P from (map (λ i. OneSection i) (sections_in P.program s) ++ (if entry_count P s == 0 then [] else EntryTable s ∷ []))
after-head P s from room =
    sections-ascend P s 0 (length P.program.sections) from (if entry_count P s == 0 then [] else EntryTable s ∷ []) (omega arith)
    (λ i low there. let e = place-is P i s there in omega arith) (let e = table-is P s in omega arith)
    (λ end low. table (entry_count P s == 0) end low)
  where
    table : (b : Bool) (end : ℕ) → end ≤ table_place P s → Ascends P end (if b then [] else EntryTable s ∷ [])
    table true end low = tt
    table false end low = (low, tt)

-- the parts of a segment stand one behind another
pub parts_ascend : (P : Laid) (s : ℕ) → Ascends P 0 (parts_in P s)
parts_ascend P s =
    subst (λ l. Ascends P 0 l) (sym (append_assoc (if has_segtab P.tree s then SegmentTable ∷ [] else []) (map (λ i. OneSection i) (sections_in P.program s)) (if entry_count P s == 0 then [] else EntryTable s ∷ [])))
    (head (has_segtab P.tree s) refl)
  where
    head : (b : Bool) → has_segtab P.tree s ≡ b
        → Ascends P 0 ((if b then SegmentTable ∷ [] else []) ++ (map (λ i. OneSection i) (sections_in P.program s) ++ (if entry_count P s == 0 then [] else EntryTable s ∷ [])))
    head true e = (omega arith, after-head P s (0 + segtab_length P.tree) (let h : segtab_length P.tree ≤ head_room P.tree s = head-before P s e in omega arith))
    head false e = after-head P s 0 (omega arith)
