-- Digits: testing them, and the number that they write. Assumes nothing.
use Rattle.std.proofs.Common.{◌≡◌, ℕ, ◌^◌, ◌<◌, ◌≤◌, true, leb, List, length, Some, None, Ok, Err, Result, sym, ap, ◌∙◌, ⊎_elim, arith, rules}
use Rattle.std.specs.Char.{is_ascii_digit}
use Rattle.std.specs.List.{list_all}
use Rattle.std.specs.Result.{OkIff, MatchResult, result_ok}
use Rattle.std.specs.Str.{IsUtf8}
use Rattle.std.specs.Str.Parse.{ParsesUnsigned}
use Rattle.std.proofs.lemmas.Bool.{le-leb, lt-ltb, le-ltb, cases_lt, eqb-false, not-true, and_parts, and_from, and_right, cond-true, cond-false}
use Rattle.std.proofs.lemmas.Option.{none-some}
use Rattle.std.proofs.lemmas.Fmt.{IsAscii-from_digits}
use Rattle.std.proofs.lemmas.Str.{IsUtf8-from_ascii}
use Rattle.std.proofs.lemmas.Str.Parse.{IsNumeralModel, numerals_by_fold, parse_digits}
use Rattle.lines.specs.Tokens.{is_digits, is_readable, written, number_of}
use denote.Ref.{Bor}

-- digits, and the number that they write, in std's words
own : IsNumeralModel (λ t. list_all is_ascii_digit t ≡ true) (written 0)
own = numerals_by_fold _ (search rules) written (search rules)

module _ (t : List ℕ) (digits : true ≡ is_digits t) where
  -- digits are text
  pub digits_text : IsUtf8 t
  digits_text = IsUtf8-from_ascii t (IsAscii-from_digits t (own.to t (and_parts _ _ (sym digits)).1))

  too_large : ¬ ((0 < length t) × (written 0 t < 2 ^ 64)) → None ≡ number_of t
  too_large none =
      let ne = eqb-false (length t) 0 (not-true _ (and_parts _ _ (sym digits)).0) in
      let some : 0 < length t = ⊎_elim (λ l. l) (λ z. absurd (ne (omega arith))) (cases_lt 0 (length t)) in
      let large : 2 ^ 64 ≤ written 0 t = ⊎_elim (λ l. absurd (none (some, l))) (λ g. g) (cases_lt (written 0 t) (2 ^ 64)) in
      sym (cond-false (is_readable t) _ _ (and_right (is_digits t) _ (and_right (leb (length t) 20) _ (le-ltb _ _ large))))

  -- and parsing that text reads the number
  pub parsed : {E : Type 0} (r : Result ℕ E) → length t ≤ 20 → ParsesUnsigned 64 10 t r → result_ok r ≡ number_of t
  parsed {E = E} r short h = by r (parse_digits own 64 t r h (and_parts _ _ (sym digits)).1)
    where
      by : (r : Result ℕ E) → OkIff r ((0 < length t) × (written 0 t < 2 ^ 64)) (written 0 t) → result_ok r ≡ number_of t
      by (Ok n) ((some, fits), is) = ap Some is ∙ sym (cond-true (is_readable t) _ _ (and_from _ _ (sym digits) (and_from _ _ (le-leb _ _ short) (lt-ltb _ _ fits))))
      by (Err e) none = too_large none

-- digits are never refused as text
pub text_kept : {E : Type 0} (t : List ℕ) (r : Result (Bor (List ℕ)) E) (P : E → Type 0) → IsUtf8 t → MatchResult r (λ s. (s.now ≡ t) × IsUtf8 t) (λ e. ¬ (IsUtf8 t) × P e) → result_ok r ≡ None → ⊥
text_kept t (Ok s) P u h e = none-some s (sym e)
text_kept t (Err e) P u h none = h.0 u
