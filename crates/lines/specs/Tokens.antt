-- What a field can be, and the number that it writes. Assumes nothing.
use Rattle.std.specs.Prelude.{◌≡◌, ℕ, ◌+◌, ◌-◌, ◌*◌, ◌^◌, Bool, true, false, cond, not, ◌&&◌, List, [], ◌∷◌, length, Some, None, Option, ◌==◌, nat_le, nat_lt}
use Rattle.std.specs.Char.{is_ascii_digit}
use Rattle.std.specs.List.{list_all}
use Rattle.std.specs.Str.{bytes_eq}
use Rattle.lines.specs.declared.tokens.Place.{Place}
use Rattle.lines.specs.declared.tokens.Token.{Token}
use Rattle.lines.specs.declared.tokens.Token.TheVariants.{Word, Number, Dash}

-- the one byte '-'
abbrev pub is_dash : List ℕ → Bool
is_dash t = bytes_eq t (45 ∷ [])

-- digits and nothing else, one at least
abbrev pub is_digits : List ℕ → Bool
is_digits t = not (length t == 0) && list_all is_ascii_digit t

-- the number that digits write, after a number so far
abbrev pub written : ℕ → List ℕ → ℕ
written n [] = n
written n (b ∷ bs) = written (10 * n + (b - 48)) bs

-- a field that can be read as a number: at most 20 digits, up to 2 ^ 64 - 1
abbrev pub is_readable : List ℕ → Bool
is_readable t = is_digits t && (nat_le (length t) 20 && nat_lt (written 0 t) (2 ^ 64))

-- the number of a field
abbrev pub number_of : List ℕ → Option ℕ
number_of t = cond (is_readable t) (Some (written 0 t)) None

-- ---- tokens

abbrev pub text_of : Token → List ℕ
text_of (Word text at) = text.now
text_of (Number text at) = text.now
text_of (Dash text at) = text.now

abbrev pub place_of : Token → Place
place_of (Word text at) = at
place_of (Number text at) = at
place_of (Dash text at) = at

abbrev pub is_dash_token : Token → Bool
is_dash_token (Word text at) = false
is_dash_token (Number text at) = false
is_dash_token (Dash text at) = true

abbrev pub is_number_token : Token → Bool
is_number_token (Word text at) = false
is_number_token (Number text at) = true
is_number_token (Dash text at) = false

-- a token of this text at this place: its case is the text's
pub record TokenOf (text : List ℕ) (at : Place) (t : Token) : Type 0 where
  pub text_is : text_of t ≡ text
  pub place_is : place_of t ≡ at
  pub dash_is : is_dash_token t ≡ is_dash text
  pub number_is : is_number_token t ≡ is_digits text
