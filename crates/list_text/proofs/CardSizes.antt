-- The cards of a member's statements have 80 bytes.
use Rattle.std.proofs.Common.{◌≡◌, ℕ, ◌+◌, ◌-◌, ◌≤◌, ◌==◌, Bool, true, false, List, [], ◌∷◌, ◌++◌, length, map, replicate, ◌∙◌, arith, length-append}
use Rattle.std.specs.Prelude.{codes, if◌then◌else◌}
use Rattle.std.specs.List.{flat_map, list_all, AllByRecursion}
use Rattle.std.proofs.lemmas.List.{length-map, length-replicate}
use Rattle.le_bytes.specs.Codes.{ascii_of}
use Rattle.le_bytes.specs.declared.name.Name.{Name}
use Rattle.map_list.specs.Printed.{trimmed, printed_name}
use Rattle.list_text.specs.declared.relinking.Relink.{Relink}
use Rattle.list_text.specs.declared.relinking.RelinkSegment.{RelinkSegment}
use Rattle.list_text.specs.Statements.{code_of, card_of, insert_text, alias_text, replace_text, segment_texts, relink_texts}
use Rattle.list_text.specs.ReadBack.{HasNames, HasSegmentNames}

-- the card of the text has 80 bytes
abbrev IsCard : List ℕ → Type 0
IsCard text = length (card_of text) ≡ 80

abbrev IsName : Name → Type 0
IsName n = length n.0 ≡ 8

trimmed_by : (b : Bool) (xs ys : List ℕ) → length xs ≤ length ys → length (if b then [] else xs) ≤ length ys
trimmed_by true xs ys h = omega arith
trimmed_by false xs ys h = h

abbrev is_space : ℕ → Bool
is_space b = b == 32

trimmed_short : (xs : List ℕ) → length (trimmed xs) ≤ length xs
trimmed_short [] = omega arith
trimmed_short (x ∷ xs) =
    let r = trimmed_short xs in
    trimmed_by (list_all is_space (x ∷ xs)) (x ∷ trimmed xs) (x ∷ xs) (omega arith)

printed_short : (n : Name) → IsName n → length (printed_name n) ≤ 8
unfolding printed_name
printed_short n h =
    let t = trimmed_short (map ascii_of n.0) in
    let l : length (map ascii_of n.0) ≡ 8 = length-map n.0 ascii_of ∙ h in
    omega arith

card_size : (text : List ℕ) → length text ≤ 80 → IsCard text
unfolding card_of
card_size text h =
    length-append (map code_of text) (replicate (80 - length text) 64)
    ∙ rw (length-map text code_of, length-replicate {A = ℕ} (80 - length text) 64) (omega arith)

size_of : (before after : List ℕ) (n : Name) → IsName n → length before + length after ≤ 60 → IsCard (before ++ printed_name n ++ after)
size_of before after n h short =
    let p = printed_short n h in
    card_size (before ++ printed_name n ++ after) (simp length-append (omega arith))

overlay_size : (region : Bool) (n : Name) → IsName n
    → IsCard (codes " OVERLAY " ++ printed_name n ++ (if region then codes "(REGION)" else codes ""))
overlay_size true n h = size_of (codes " OVERLAY ") (codes "(REGION)") n h (omega arith)
overlay_size false n h = size_of (codes " OVERLAY ") (codes "") n h (omega arith)

both_parts : (xs ys : List (List ℕ)) → AllByRecursion IsCard xs → AllByRecursion IsCard ys → AllByRecursion IsCard (xs ++ ys)
both_parts [] ys h g = g
both_parts (x ∷ xs) ys h g = (h.0, both_parts xs ys h.1 g)

each_size : (text : Name → List ℕ) → ((n : Name) → IsName n → IsCard (text n)) → (ns : List Name) → AllByRecursion IsName ns
    → AllByRecursion IsCard (map text ns)
each_size text each [] h = tt
each_size text each (n ∷ ns) h = (each n h.0, each_size text each ns h.1)

insert_size : (n : Name) → IsName n → IsCard (insert_text n)
insert_size n h = size_of (codes " INSERT ") (codes "") n h (omega arith)

alias_size : (n : Name) → IsName n → IsCard (alias_text n)
alias_size n h = size_of (codes " ALIAS ") (codes "") n h (omega arith)

segment_sizes : (xs : List RelinkSegment) → AllByRecursion HasSegmentNames xs → AllByRecursion IsCard (flat_map segment_texts xs)
segment_sizes [] h = tt
segment_sizes (x ∷ xs) h =
    let first : HasSegmentNames x = h.0 in
    both_parts (segment_texts x) (flat_map segment_texts xs)
    (overlay_size x.region x.symbol first.symbol_is, each_size insert_text insert_size x.inserts first.inserts_are)
    (segment_sizes xs h.1)

pub cards_have_eighty_bytes : (s : Relink) → HasNames s → AllByRecursion IsCard (relink_texts s)
cards_have_eighty_bytes s h = (
  size_of (codes " INCLUDE SYSLMOD(") (codes ")") s.member h.member_is (omega arith),
  both_parts (flat_map segment_texts s.segments ++ map alias_text s.aliases) (replace_text s.member ∷ [])
      (both_parts (flat_map segment_texts s.segments) (map alias_text s.aliases)
      (segment_sizes s.segments h.segments_are) (each_size alias_text alias_size s.aliases h.aliases_are))
      (size_of (codes " NAME ") (codes "(R)") s.member h.member_is (omega arith), tt),
)
