-- The characters that linkedit knows and their EBCDIC codes: letters, digits, the blank and fifteen signs.
use Rattle.std.specs.Prelude.{ℕ, ◌+◌, ◌-◌, Bool, ◌&&◌, ◌==◌, nat_le, if◌then◌else◌, Option, Some, None}

-- c is one of the characters from a to b
abbrev pub is_in : ℕ → ℕ → ℕ → Bool
is_in a b c = nat_le a c && nat_le c b

-- the code of `.` `(` `+` `&` `$` `*` `)` `-`
abbrev pub mark_code : ℕ → Option ℕ
mark_code c =
    if c == 46 then Some 75 else if c == 40 then Some 77 else if c == 43 then Some 78 else if c == 38 then Some 80
    else if c == 36 then Some 91 else if c == 42 then Some 92 else if c == 41 then Some 93 else if c == 45 then Some 96
    else None

-- the code of the blank, `/` `,` `_` `#` `@` `'` `=`, or of one of the marks
abbrev pub sign_code : ℕ → Option ℕ
sign_code c =
    if c == 32 then Some 64 else if c == 47 then Some 97 else if c == 44 then Some 107 else if c == 95 then Some 109
    else if c == 35 then Some 123 else if c == 64 then Some 124 else if c == 39 then Some 125 else if c == 61 then Some 126
    else mark_code c

-- the EBCDIC code of an ASCII character, none where it has none here
abbrev pub ebcdic_of : ℕ → Option ℕ
ebcdic_of c =
    if is_in 65 73 c then Some (c + 128)
    else if is_in 74 82 c then Some (c + 135)
    else if is_in 83 90 c then Some (c + 143)
    else if is_in 48 57 c then Some (c + 192)
    else sign_code c

-- the character of a mark's code, `.` for any other code
abbrev pub mark_of : ℕ → ℕ
mark_of b =
    if b == 77 then 40 else if b == 78 then 43 else if b == 80 then 38
    else if b == 91 then 36 else if b == 92 then 42 else if b == 93 then 41 else if b == 96 then 45
    else 46

abbrev pub sign_of : ℕ → ℕ
sign_of b =
    if b == 64 then 32 else if b == 97 then 47 else if b == 107 then 44 else if b == 109 then 95
    else if b == 123 then 35 else if b == 124 then 64 else if b == 125 then 39 else if b == 126 then 61
    else mark_of b

-- the ASCII character of an EBCDIC code, `.` for a code that has none here
abbrev pub ascii_of : ℕ → ℕ
ascii_of b =
    if is_in 193 201 b then b - 128
    else if is_in 209 217 b then b - 135
    else if is_in 226 233 b then b - 143
    else if is_in 240 249 b then b - 192
    else sign_of b
