-- Numbers as bytes, the high byte first: a wider number is two narrower ones. Assumes nothing.
use Rattle.std.specs.Prelude.{List, [], ◌∷◌, ◌++◌, ℕ, ◌+◌, ◌*◌, ◌/◌, ◌%◌}

-- n in two, four and eight bytes
abbrev pub two : ℕ → List ℕ
two n = n / 256 ∷ (n % 256 ∷ [])

abbrev pub four : ℕ → List ℕ
four n = two (n / 65536) ++ two (n % 65536)

abbrev pub eight : ℕ → List ℕ
eight n = four (n / 4294967296) ++ four (n % 4294967296)

-- a number of 16, 32 and 64 bits from its halves
abbrev pub of16 : ℕ → ℕ → ℕ
of16 high low = high * 256 + low

abbrev pub of32 : ℕ → ℕ → ℕ
of32 high low = high * 65536 + low

abbrev pub of64 : ℕ → ℕ → ℕ
of64 high low = high * 4294967296 + low
