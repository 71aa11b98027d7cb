-- Names: what text gives one, and how it is padded.
use Rattle.std.specs.Prelude.{ℕ, Bool, false, not, ◌&&◌, ◌||◌, ◌==◌, nat_lt, if◌then◌else◌, List, [], ◌∷◌, length, map, slice_get, Option, Some, None, unwrap_or}
use Rattle.std.specs.List.{list_all, take_while}
use Rattle.std.specs.Str.{bytes_eq}
use Rattle.std.specs.Option.{option_map_or}
use Rattle.le_bytes.specs.Codes.{is_in, ascii_of, ebcdic_of}
use Rattle.le_bytes.specs.declared.name.Name.{Name}

-- a letter, or `$`, `#`, `@`, `_`
abbrev pub may_begin_name : ℕ → Bool
may_begin_name c = is_in 65 90 c || c == 36 || c == 35 || c == 64 || c == 95

-- one of these, or a digit
abbrev pub may_stand_in_name : ℕ → Bool
may_stand_in_name c = may_begin_name c || is_in 48 57 c

-- the text is 1 to 8 such characters, the first of them no digit
abbrev pub is_name_text : List ℕ → Bool
is_name_text [] = false
is_name_text (c ∷ text) = nat_lt (length text) 8 && (may_begin_name c && list_all may_stand_in_name text)

-- the code of the character at place i, and of the blank past the end
abbrev pub code_at : List ℕ → ℕ → ℕ
code_at text i = option_map_or (λ c. unwrap_or (ebcdic_of c) 64) (slice_get text i) 64

-- the text in EBCDIC, padded with blanks to eight characters
abbrev pub padded : List ℕ → List ℕ
padded text =
    code_at text 0 ∷ code_at text 1 ∷ code_at text 2 ∷ code_at text 3
    ∷ code_at text 4 ∷ code_at text 5 ∷ code_at text 6 ∷ code_at text 7 ∷ []

-- the name that a text gives, none where it gives none
abbrev pub name_of_text : List ℕ → Option Name
name_of_text text = if is_name_text text then Some (record { 0 = padded text }) else None

abbrev pub blank_bytes : List ℕ
blank_bytes = 64 ∷ 64 ∷ 64 ∷ 64 ∷ 64 ∷ 64 ∷ 64 ∷ 64 ∷ []

abbrev pub name_eq : Name → Name → Bool
name_eq m n = bytes_eq m.0 n.0

abbrev pub is_blank : Name → Bool
is_blank n = bytes_eq n.0 blank_bytes

-- `$PRIVATE`, under which private code is printed
abbrev pub private_code_name : Name
private_code_name = record { 0 = 91 ∷ 215 ∷ 217 ∷ 201 ∷ 229 ∷ 193 ∷ 227 ∷ 197 ∷ [] }

-- `$BLNKCOM`, under which blank common is printed
abbrev pub blank_common_name : Name
blank_common_name = record { 0 = 91 ∷ 194 ∷ 211 ∷ 213 ∷ 210 ∷ 195 ∷ 214 ∷ 212 ∷ [] }

-- the characters of a name up to its first blank
abbrev pub text_of : Name → List ℕ
text_of n = map ascii_of (take_while (λ b. not (b == 64)) n.0)

-- some text gives the name, so a statement can write it
abbrev pub is_writable : Name → Bool
is_writable n = option_map_or (λ m. name_eq m n) (name_of_text (text_of n)) false
