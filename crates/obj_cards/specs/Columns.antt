-- The columns of a card, counted from 1, and the types of object cards.
use Rattle.std.specs.Prelude.{ℕ, ◌+◌, ◌-◌, Bool, ◌==◌, List, [], ◌∷◌, ◌++◌, length, drop, replicate, slice_range}
use Rattle.std.specs.List.{list_all}
use Rattle.byteorder.specs.Endian.{big_number}

-- the bytes in columns first to last
abbrev pub columns : ℕ → ℕ → List ℕ → List ℕ
columns first last card = slice_range card (first - 1) last

-- the number in columns first to last
abbrev pub number_in : ℕ → ℕ → List ℕ → ℕ
number_in first last card = big_number (last + 1 - first) (drop (first - 1) card)

-- every byte is a blank
abbrev pub are_blank : List ℕ → Bool
are_blank bytes = list_all (λ b. b == 64) bytes

-- the list with x at its end, as often as it takes to have n places
abbrev pub filled : {X : Type 0} → ℕ → X → List X → List X
filled n x xs = xs ++ replicate (n - length xs) x

abbrev pub blanks : ℕ → List ℕ
blanks n = replicate n 64

-- the text with blanks at its end, to 80 columns
abbrev pub card_with : List ℕ → List ℕ
card_with text = filled 80 64 text

-- ESD, TXT, RLD, END and SYM in EBCDIC
abbrev pub esd_type : List ℕ
esd_type = 197 ∷ 226 ∷ 196 ∷ []

abbrev pub txt_type : List ℕ
txt_type = 227 ∷ 231 ∷ 227 ∷ []

abbrev pub rld_type : List ℕ
rld_type = 217 ∷ 211 ∷ 196 ∷ []

abbrev pub end_type : List ℕ
end_type = 197 ∷ 213 ∷ 196 ∷ []

abbrev pub sym_type : List ℕ
sym_type = 226 ∷ 232 ∷ 212 ∷ []

-- columns 1 to 16 of an object card: X'02', the type, and what stands in columns 6 to 8, 11 and 12, 15 and 16
abbrev pub head : List ℕ → List ℕ → List ℕ → List ℕ → List ℕ
head kind address count esdid = 2 ∷ (kind ++ blanks 1 ++ address ++ blanks 2 ++ count ++ blanks 2 ++ esdid)
