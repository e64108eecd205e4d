-- How many digits numbers of 16, 32 and 64 bits have. Assumes nothing.
use Rattle.std.proofs.Common.{ℕ, ◌^◌, ◌<◌, ◌≤◌, length, decimal, arith}
use Rattle.std.proofs.lemmas.Fmt.{length-decimal-le}

pub digits16 : (n : ℕ) → n < 2 ^ 16 → length (decimal n) ≤ 5
digits16 n h = length-decimal-le 5 n (omega arith) (omega arith) (omega arith)

pub digits32 : (n : ℕ) → n < 2 ^ 32 → length (decimal n) ≤ 10
digits32 n h = length-decimal-le 10 n (omega arith) (omega arith) (omega arith)

pub digits64 : (n : ℕ) → n < 2 ^ 64 → length (decimal n) ≤ 20
digits64 n h = length-decimal-le 20 n (omega arith) (omega arith) h
