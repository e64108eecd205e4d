-- What std's bytes of a number are, and what its number of some bytes is. Assumes nothing.
use Rattle.std.specs.Prelude.{◌≡◌, ℕ, ◌^◌, ◌<◌, [], ◌∷◌}
use Rattle.std.specs.Int.{w16, w32, w64, to_be_bytes, from_be_bytes}
use Rattle.words.specs.Words.{two, four, eight, of16, of32, of64}

-- a number that fits
pub record BytesFacts : Type 0 where
  pub to_two : (n : ℕ) → n < 2 ^ 16 → to_be_bytes w16 n ≡ two n
  pub to_four : (n : ℕ) → n < 2 ^ 32 → to_be_bytes w32 n ≡ four n
  pub to_eight : (n : ℕ) → n < 2 ^ 64 → to_be_bytes w64 n ≡ eight n

-- any bytes
pub record WordsFacts : Type 0 where
  pub from_two : (a b : ℕ) → from_be_bytes w16 (a ∷ (b ∷ [])) ≡ of16 a b
  pub from_four : (a b c d : ℕ) → from_be_bytes w32 (a ∷ (b ∷ (c ∷ (d ∷ [])))) ≡ of32 (of16 a b) (of16 c d)
  pub from_eight : (a b c d e f g h : ℕ) → from_be_bytes w64 (a ∷ (b ∷ (c ∷ (d ∷ (e ∷ (f ∷ (g ∷ (h ∷ [])))))))) ≡ of64 (of32 (of16 a b) (of16 c d)) (of32 (of16 e f) (of16 g h))
