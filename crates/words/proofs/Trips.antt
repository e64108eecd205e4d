-- A number comes back from its bytes, and bytes from their number.
use mathlib.Core.Path.{◌≡◌}
use mathlib.Core.List.{[], ◌∷◌}
use Prim.Native.Nat.{ℕ, ◌/◌, ◌%◌, ◌<◌}
use native.Mathlib.Omega.{arith}
use Rattle.words.specs.Words.{two, four, eight, of16, of32, of64}

pub back16 : (n : ℕ) → of16 (n / 256) (n % 256) ≡ n
back16 n = omega arith

pub back32 : (n : ℕ) → of32 (of16 (n / 65536 / 256) (n / 65536 % 256)) (of16 (n % 65536 / 256) (n % 65536 % 256)) ≡ n
back32 n = omega (arith, back16 (n / 65536), back16 (n % 65536))

pub back64 : (n : ℕ) → of64 (of32 (of16 (n / 4294967296 / 65536 / 256) (n / 4294967296 / 65536 % 256)) (of16 (n / 4294967296 % 65536 / 256) (n / 4294967296 % 65536 % 256))) (of32 (of16 (n % 4294967296 / 65536 / 256) (n % 4294967296 / 65536 % 256)) (of16 (n % 4294967296 % 65536 / 256) (n % 4294967296 % 65536 % 256))) ≡ n
back64 n = omega (arith, back32 (n / 4294967296), back32 (n % 4294967296))

pub there16 : (a b : ℕ) → b < 256 → two (of16 a b) ≡ a ∷ (b ∷ [])
there16 a b h =
    let p : of16 a b / 256 ≡ a = omega arith in
    let q : of16 a b % 256 ≡ b = omega arith in
    cc

pub there32 : (a b c d : ℕ) → b < 256 → c < 256 → d < 256 → four (of32 (of16 a b) (of16 c d)) ≡ a ∷ (b ∷ (c ∷ (d ∷ [])))
there32 a b c d h i j =
    let p : of32 (of16 a b) (of16 c d) / 65536 ≡ of16 a b = omega arith in
    let q : of32 (of16 a b) (of16 c d) % 65536 ≡ of16 c d = omega arith in
    let e = there16 a b h in
    let f = there16 c d j in
    cc

pub there64 : (a b c d e f g k : ℕ) → b < 256 → c < 256 → d < 256 → e < 256 → f < 256 → g < 256 → k < 256 → eight (of64 (of32 (of16 a b) (of16 c d)) (of32 (of16 e f) (of16 g k))) ≡ a ∷ (b ∷ (c ∷ (d ∷ (e ∷ (f ∷ (g ∷ (k ∷ [])))))))
there64 a b c d e f g k h i j l m n o =
    let high = of32 (of16 a b) (of16 c d) in
    let low = of32 (of16 e f) (of16 g k) in
    let p : of64 high low / 4294967296 ≡ high = omega arith in
    let q : of64 high low % 4294967296 ≡ low = omega arith in
    let u = there32 a b c d h i j in
    let v = there32 e f g k m n o in
    cc
