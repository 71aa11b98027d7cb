-- The cards of a member's statements are read as these statements.
use Rattle.std.proofs.Common.{◌≡◌, ℕ, ◌+◌, ◌≤◌, Bool, true, false, List, [], ◌∷◌, ◌++◌, length, map, refl, ap, sym, subst, ◌∙◌, arith, append_assoc, length-append}
use Rattle.std.specs.Prelude.{codes, if◌then◌else◌}
use Rattle.std.specs.List.{list_all, flat_map, AllByRecursion}
use Rattle.std.proofs.lemmas.List.{append-nil, map-append}
use Rattle.std.proofs.lemmas.List.Folds.{list_all-append}
use Rattle.le_bytes.specs.declared.name.Name.{Name}
use Rattle.ctl_cards.specs.Cards.{is_filled}
use Rattle.ctl_cards.specs.NameTexts.{written, IsWritable}
use Rattle.ctl_cards.specs.Operations.{operation_text, operation_of}
use Rattle.ctl_cards.specs.Statements.{operand_of, IsWellFormed, HasFewAliases}
use Rattle.ctl_cards.specs.declared.statement.Statement.{Statement}
use Rattle.ctl_cards.specs.declared.statement.Statement.TheVariants.{Overlay, NameOf}
use Rattle.ctl_cards.proofs.Lowered.{replace_written, region_written}
use Rattle.map_list.specs.Printed.{printed_name}
use Rattle.list_text.specs.declared.relinking.Relink.{Relink}
use Rattle.list_text.specs.declared.relinking.RelinkSegment.{RelinkSegment}
use Rattle.list_text.specs.Statements.{code_of, include_text, overlay_text, insert_text, alias_text, replace_text, segment_texts, relink_texts}
use Rattle.list_text.specs.ReadBack.{syslmod_name, include_statement, insert_statement, alias_statement, segment_statements, relink_statements, HasWritableSegment, HasWritableNames, IsCardOf, AreCardsOf}
use Rattle.list_text.proofs.WritableNames.{name_codes, written_filled, written_short, written_some}
use Rattle.list_text.proofs.CardReading.{text_card}

-- the codes of a text, a name and a text
named_codes : (before after : List ℕ) (n : Name) → IsWritable n
    → map code_of (before ++ printed_name n ++ after) ≡ map code_of before ++ (written n ++ map code_of after)
named_codes before after n h =
    map-append code_of (before ++ printed_name n) after
    ∙ ap (λ (z : List ℕ). z ++ map code_of after) (map-append code_of before (printed_name n) ∙ ap (λ (z : List ℕ). map code_of before ++ z) (name_codes n h))
    ∙ append_assoc (map code_of before) (written n) (map code_of after)

filled_two : (a b : List ℕ) → list_all is_filled a ≡ true → list_all is_filled b ≡ true → list_all is_filled (a ++ b) ≡ true
filled_two a b h g = rw (list_all-append is_filled a b, h, g) refl

filled_three : (a b c : List ℕ) → list_all is_filled a ≡ true → list_all is_filled b ≡ true → list_all is_filled c ≡ true
    → list_all is_filled (a ++ (b ++ c)) ≡ true
filled_three a b c h g i = filled_two a (b ++ c) h (filled_two b c g i)

length_three : (a b c : List ℕ) → length (a ++ (b ++ c)) ≡ length a + length b + length c
length_three a b c = simp length-append (omega arith)

-- the card of a text with a name, where `front` and `end` are what its operand has beside the name
named_card : (before after op front end : List ℕ) (n : Name) (s : Statement) → IsWritable n
    → map code_of before ≡ 64 ∷ (op ++ 64 ∷ front) → map code_of after ≡ end
    → length op + length front + length end ≤ 50 → 1 ≤ length op
    → list_all is_filled op ≡ true → list_all is_filled front ≡ true → list_all is_filled end ≡ true
    → IsWellFormed s → operation_text (operation_of s) ≡ op → operand_of s ≡ front ++ (written n ++ end)
    → HasFewAliases s
    → IsCardOf (before ++ printed_name n ++ after) s
named_card before after op front end n s w b a short some fo ff fe formed operation operand few =
    let l = length_three front (written n) end in
    let ws = written_short n w in
    let wi = written_some n w in
    text_card (before ++ printed_name n ++ after) op (front ++ (written n ++ end)) s
    (named_codes before after n w ∙ rw (b, a) (ap (λ (z : List ℕ). 64 ∷ z) (append_assoc op (64 ∷ front) (written n ++ end))))
    (omega arith) some (omega arith) fo (filled_three front (written n) end ff (written_filled n w) fe)
    (record { formed = formed; has_operation = operation; has_operand = operand }) few

syslmod_written : written syslmod_name ≡ 226 ∷ 232 ∷ 226 ∷ 211 ∷ 212 ∷ 214 ∷ 196 ∷ []
unfolding written
syslmod_written = refl

syslmod_writable : IsWritable syslmod_name
unfolding IsWritable
syslmod_writable = refl

include_operand : (n : Name) → operand_of (include_statement n) ≡ (226 ∷ 232 ∷ 226 ∷ 211 ∷ 212 ∷ 214 ∷ 196 ∷ 77 ∷ []) ++ (written n ++ 93 ∷ [])
include_operand n =
    append-nil (written syslmod_name ++ 77 ∷ ((written n ++ []) ++ 93 ∷ []))
    ∙ ap (λ (z : List ℕ). z ++ 77 ∷ ((written n ++ []) ++ 93 ∷ [])) syslmod_written
    ∙ ap (λ (z : List ℕ). 226 ∷ 232 ∷ 226 ∷ 211 ∷ 212 ∷ 214 ∷ 196 ∷ 77 ∷ (z ++ 93 ∷ [])) (append-nil (written n))

include_card : (n : Name) → IsWritable n → IsCardOf (include_text n) (include_statement n)
include_card n w =
    named_card (codes " INCLUDE SYSLMOD(") (codes ")") (operation_text (operation_of (include_statement n)))
    (226 ∷ 232 ∷ 226 ∷ 211 ∷ 212 ∷ 214 ∷ 196 ∷ 77 ∷ []) (93 ∷ []) n (include_statement n) w refl refl (omega arith) (omega arith)
    refl refl refl (((syslmod_writable, (w, tt)), tt)) refl
    (include_operand n) tt

insert_card : (n : Name) → IsWritable n → IsCardOf (insert_text n) (insert_statement n)
insert_card n w =
    named_card (codes " INSERT ") (codes "") (operation_text (operation_of (insert_statement n))) [] [] n (insert_statement n) w
    refl refl (omega arith) (omega arith) refl refl refl (w, tt) refl (simp append-nil) tt

alias_card : (n : Name) → IsWritable n → IsCardOf (alias_text n) (alias_statement n)
alias_card n w =
    named_card (codes " ALIAS ") (codes "") (operation_text (operation_of (alias_statement n))) [] [] n (alias_statement n) w
    refl refl (omega arith) (omega arith) refl refl refl (w, tt) refl (simp append-nil) (omega arith)

replace_card : (n : Name) → IsWritable n → IsCardOf (replace_text n) (NameOf n true)
replace_card n w =
    named_card (codes " NAME ") (codes "(R)") (operation_text (operation_of (NameOf n true))) [] (77 ∷ 217 ∷ 93 ∷ []) n (NameOf n true) w
    refl refl (omega arith) (omega arith) refl refl refl w refl (rw replace_written (simp (append_assoc, append-nil))) tt

overlay_card : (n : Name) (region : Bool) (text : List ℕ) → IsWritable n
    → text ≡ codes " OVERLAY " ++ printed_name n ++ (if region then codes "(REGION)" else codes "") → IsCardOf text (Overlay n region)
overlay_card n true text w e = subst (λ (z : List ℕ). IsCardOf z (Overlay n true)) (sym e)
    (named_card (codes " OVERLAY ") (codes "(REGION)") (operation_text (operation_of (Overlay n true))) [] (77 ∷ 217 ∷ 197 ∷ 199 ∷ 201 ∷ 214 ∷ 213 ∷ 93 ∷ []) n (Overlay n true) w
    refl refl (omega arith) (omega arith) refl refl refl w refl (rw region_written (simp (append_assoc, append-nil))) tt)
overlay_card n false text w e = subst (λ (z : List ℕ). IsCardOf z (Overlay n false)) (sym e)
    (named_card (codes " OVERLAY ") (codes "") (operation_text (operation_of (Overlay n false))) [] [] n (Overlay n false) w
    refl refl (omega arith) (omega arith) refl refl refl w refl (simp append-nil) tt)

-- ---- all cards

two_parts : (xs ys : List (List ℕ)) (ss ts : List Statement) → AreCardsOf xs ss → AreCardsOf ys ts → AreCardsOf (xs ++ ys) (ss ++ ts)
two_parts [] ys [] ts h g = g
two_parts [] ys (s ∷ ss) ts h g = absurd h
two_parts (x ∷ xs) ys [] ts h g = absurd h
two_parts (x ∷ xs) ys (s ∷ ss) ts h g = (h.0, two_parts xs ys ss ts h.1 g)

each_card : (text : Name → List ℕ) (statement : Name → Statement) → ((n : Name) → IsWritable n → IsCardOf (text n) (statement n))
    → (ns : List Name) → AllByRecursion IsWritable ns → AreCardsOf (map text ns) (map statement ns)
each_card text statement each [] h = tt
each_card text statement each (n ∷ ns) h = (each n h.0, each_card text statement each ns h.1)

segment_cards : (x : RelinkSegment) → HasWritableSegment x → AreCardsOf (segment_texts x) (segment_statements x)
segment_cards x h =
    (overlay_card x.symbol x.region (overlay_text x) h.symbol_is refl, each_card insert_text insert_statement insert_card x.inserts h.inserts_are)

all_segments : (xs : List RelinkSegment) → AllByRecursion HasWritableSegment xs → AreCardsOf (flat_map segment_texts xs) (flat_map segment_statements xs)
all_segments [] h = tt
all_segments (x ∷ xs) h =
    two_parts (segment_texts x) (flat_map segment_texts xs) (segment_statements x) (flat_map segment_statements xs) (segment_cards x h.0) (all_segments xs h.1)

pub cards_are_read_back : (s : Relink) → HasWritableNames s → AreCardsOf (relink_texts s) (relink_statements s)
cards_are_read_back s h = (
  include_card s.member h.member_is,
  two_parts (flat_map segment_texts s.segments ++ map alias_text s.aliases) (replace_text s.member ∷ [])
      (flat_map segment_statements s.segments ++ map alias_statement s.aliases) (NameOf s.member true ∷ [])
      (two_parts (flat_map segment_texts s.segments) (map alias_text s.aliases) (flat_map segment_statements s.segments) (map alias_statement s.aliases)
      (all_segments s.segments h.segments_are) (each_card alias_text alias_statement alias_card s.aliases h.aliases_are))
      (replace_card s.member h.member_is, tt),
)
