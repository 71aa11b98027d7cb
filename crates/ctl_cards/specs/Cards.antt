-- The cards of one statement, and what stands on them.
use Rattle.std.specs.Prelude.{ℕ, ◌+◌, ◌<◌, ◌==◌, Bool, not, List, [], ◌∷◌, ◌++◌, length, take, drop, slice_index, slice_range}
use Rattle.std.specs.List.{list_all, prefix_len, take_while, flat_map}

abbrev pub is_blank : ℕ → Bool
is_blank b = b == 64

abbrev pub is_filled : ℕ → Bool
is_filled b = not (b == 64)

-- the characters up to the first blank
abbrev pub run : List ℕ → List ℕ
run text = take_while is_filled text

-- what stands from the first blank on
abbrev pub after_run : List ℕ → List ℕ
after_run text = drop (prefix_len is_filled text) text

-- the text without the blanks at its front
abbrev pub past_blanks : List ℕ → List ℕ
past_blanks text = drop (prefix_len is_blank text) text

-- columns 2 to 71: the first run is the operation
abbrev pub operation_on : List ℕ → List ℕ
operation_on card = run (past_blanks (slice_range card 1 71))

-- the second run is the operand
abbrev pub operand_on : List ℕ → List ℕ
operand_on card = run (past_blanks (after_run (past_blanks (slice_range card 1 71))))

-- on a card that continues another, the run that begins in column 16
abbrev pub continuation_on : List ℕ → List ℕ
continuation_on card = run (slice_range card 15 71)

-- column 72 is not blank
abbrev pub is_continued : List ℕ → Bool
is_continued card = not (slice_index card 71 == 64)

-- columns 1 to 15 are blank
abbrev pub has_margin : List ℕ → Bool
has_margin card = list_all is_blank (slice_range card 0 15)

-- how many cards from the first on say that they are continued
abbrev pub continued_count : List (List ℕ) → ℕ
continued_count cards = prefix_len is_continued cards

-- the place, from 0, of the first card after the first that cannot continue another,
-- and the number of cards where each of them can
abbrev pub first_unfit : List (List ℕ) → ℕ
first_unfit [] = 0
first_unfit (card ∷ more) = 1 + prefix_len has_margin more

-- the operand: what the first card has of it, and what each continuation adds
abbrev pub joined_operand : List (List ℕ) → List ℕ
joined_operand [] = []
joined_operand (card ∷ more) = operand_on card ++ flat_map continuation_on (take (prefix_len is_continued (card ∷ more)) more)

abbrev pub operation_of_cards : List (List ℕ) → List ℕ
operation_of_cards [] = []
operation_of_cards (card ∷ more) = operation_on card

-- each card that says it is continued is followed by one that continues it, and there are at most 32
abbrev pub IsWhole : List (List ℕ) → Type 0
IsWhole cards = (continued_count cards < first_unfit cards) × (continued_count cards < 32)
