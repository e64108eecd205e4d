-- The bytes that std writes and the numbers that it reads.
use Rattle.std.proofs.Common.{◌≡◌, ℕ, ◌^◌, ◌<◌, ◌/◌, ◌%◌, [], ◌∷◌, ◌++◌, refl, ap, ◌∙◌, arith}
use Rattle.std.specs.Int.{w16, w32, w64, to_be_bytes, from_be_bytes}
use Rattle.words.specs.Words.{two, four, eight, of16, of32, of64}

pub to_two : (n : ℕ) → n < 2 ^ 16 → to_be_bytes w16 n ≡ two n
to_two n h = let a : n / 256 % 256 ≡ n / 256 = omega arith in cc

pub to_four : (n : ℕ) → n < 2 ^ 32 → to_be_bytes w32 n ≡ four n
to_four n h =
    let a : n / 16777216 % 256 ≡ n / 65536 / 256 = omega arith in
    let b : n / 256 % 256 ≡ n % 65536 / 256 = omega arith in
    let c : n % 256 ≡ n % 65536 % 256 = omega arith in
    cc

pub to_eight : (n : ℕ) → n < 2 ^ 64 → to_be_bytes w64 n ≡ eight n
to_eight n h =
    let high = n / 4294967296 in
    let low = n % 4294967296 in
    let e : to_be_bytes w32 high ≡ four high = to_four high (omega arith) in
    let f : to_be_bytes w32 low ≡ four low = to_four low (omega arith) in
    let a : n / 72057594037927936 % 256 ≡ high / 16777216 % 256 = omega arith in
    let b : n / 281474976710656 % 256 ≡ high / 65536 % 256 = omega arith in
    let c : n / 1099511627776 % 256 ≡ high / 256 % 256 = omega arith in
    let d : n / 16777216 % 256 ≡ low / 16777216 % 256 = omega arith in
    let g : n / 65536 % 256 ≡ low / 65536 % 256 = omega arith in
    let i : n / 256 % 256 ≡ low / 256 % 256 = omega arith in
    let j : n % 256 ≡ low % 256 = omega arith in
    let k : to_be_bytes w64 n ≡ to_be_bytes w32 high ++ to_be_bytes w32 low = cc in
    k ∙ (ap (λ t. t ++ to_be_bytes w32 low) e ∙ ap (λ t. four high ++ t) f)

pub from_two : (a b : ℕ) → from_be_bytes w16 (a ∷ (b ∷ [])) ≡ of16 a b
from_two a b = refl

pub from_four : (a b c d : ℕ) → from_be_bytes w32 (a ∷ (b ∷ (c ∷ (d ∷ [])))) ≡ of32 (of16 a b) (of16 c d)
from_four a b c d = omega arith

pub from_eight : (a b c d e f g h : ℕ) → from_be_bytes w64 (a ∷ (b ∷ (c ∷ (d ∷ (e ∷ (f ∷ (g ∷ (h ∷ [])))))))) ≡ of64 (of32 (of16 a b) (of16 c d)) (of32 (of16 e f) (of16 g h))
from_eight a b c d e f g h = omega arith
