-- The name that words give a load module is not the one that ends a directory.
use Rattle.std.proofs.Common.{arith, ◌≡◌, ℕ, ◌+◌, ◌<◌, ◌≤◌, ◌==◌, Bool, true, false, List, refl, ap, subst, Option, Some, None, unwrap_or, slice_get, if◌then◌else◌}
use Rattle.std.specs.Option.{option_and_then, option_map_or}
use Rattle.le_bytes.specs.Codes.{ebcdic_of, is_in, sign_code, mark_code}
use Rattle.le_bytes.specs.Names.{code_at, is_name_text, name_eq, name_of_text, padded}
use Rattle.le_bytes.specs.declared.name.Name.{Name}
use Rattle.pds_lib.specs.Stow.{last_name}
use Rattle.command_words.specs.Keys.{member, tempname}
use Rattle.command_words.specs.Meaning.{member_of, module_name_of}
use Rattle.command_words.specs.Word.{value_in}

mark_small : (c : ℕ) → unwrap_or (mark_code c) 64 < 255
mark_small c = grind arith

sign_small : (c : ℕ) → unwrap_or (sign_code c) 64 < 255
sign_small c = grind (arith, mark_small)

-- of two codes the one that a test takes
either : (b : Bool) (x y : Option ℕ) → (b ≡ true → unwrap_or x 64 < 255) → unwrap_or y 64 < 255 → unwrap_or (if b then x else y) 64 < 255
either true x y first second = first refl
either false x y first second = second

in_most : (a b c : ℕ) → is_in a b c ≡ true → c ≤ b
in_most a b c is = grind (arith, is)

code_small : (c : ℕ) → unwrap_or (ebcdic_of c) 64 < 255
code_small c =
    either (is_in 65 73 c) (Some (c + 128)) (if is_in 74 82 c then Some (c + 135) else if is_in 83 90 c then Some (c + 143) else if is_in 48 57 c then Some (c + 192) else sign_code c)
    (λ is. let most : c ≤ 73 = in_most 65 73 c is in omega (arith, most))
    (either (is_in 74 82 c) (Some (c + 135)) (if is_in 83 90 c then Some (c + 143) else if is_in 48 57 c then Some (c + 192) else sign_code c)
    (λ is. let most : c ≤ 82 = in_most 74 82 c is in omega (arith, most))
    (either (is_in 83 90 c) (Some (c + 143)) (if is_in 48 57 c then Some (c + 192) else sign_code c)
    (λ is. let most : c ≤ 90 = in_most 83 90 c is in omega (arith, most))
    (either (is_in 48 57 c) (Some (c + 192)) (sign_code c)
    (λ is. let most : c ≤ 57 = in_most 48 57 c is in omega (arith, most))
    (sign_small c))))

at_small : (o : Option ℕ) → option_map_or (λ c. unwrap_or (ebcdic_of c) 64) o 64 < 255
at_small (Some c) = code_small c
at_small None = omega arith

first_differs : (text : List ℕ) → (255 == code_at text 0) ≡ false
first_differs text = differs (code_at text 0) (at_small (slice_get text 0))
  where
    differs : (n : ℕ) → n < 255 → (255 == n) ≡ false
    differs n small = grind (arith, small)

padded_differs : (text : List ℕ) → name_eq last_name (record { 0 = padded text }) ≡ false
padded_differs text = rw (first_differs text) refl

text_differs : (text : List ℕ) (n : Name) → name_of_text text ≡ Some n → name_eq last_name n ≡ false
text_differs text n is = cases (is_name_text text) is
  where
    cases : (b : Bool) → (if b then Some (record { 0 = padded text }) else None) ≡ Some n → name_eq last_name n ≡ false
    cases true named = subst (λ m. name_eq last_name m ≡ false) (ap (λ o. unwrap_or o n) named) (padded_differs text)
    cases false none = cc

pub not_last : (words : List (List ℕ)) → name_eq last_name (module_name_of words) ≡ false
unfolding member_of
not_last words = cases (value_in member words)
  where
    given : (o : Option Name) → ((n : Name) → o ≡ Some n → name_eq last_name n ≡ false) → name_eq last_name (unwrap_or o tempname) ≡ false
    given None differs = refl
    given (Some n) differs = differs n refl

    cases : (o : Option (List ℕ)) → name_eq last_name (unwrap_or (option_and_then name_of_text o) tempname) ≡ false
    cases None = refl
    cases (Some text) = given (name_of_text text) (λ n is. text_differs text n is)
