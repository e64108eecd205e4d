-- Some bytes, one by one.
use Rattle.std.proofs.Common.{◌≡◌, ℕ, zero, suc, ◌+◌, ◌<◌, ◌≤◌, List, [], ◌∷◌, ◌++◌, length, get_or, take, drop, ap, ◌∙◌, lit<, drop-cons, arith}

-- n of them from i on
abbrev pub spread : ℕ → ℕ → List ℕ → List ℕ
spread i zero bs = []
spread i (suc n) bs = get_or bs i 0 ∷ spread (suc i) n bs

pub spread_out : (i n : ℕ) (bs : List ℕ) → i + n ≤ length bs → drop i bs ≡ spread i n bs ++ drop (i + n) bs
spread_out i zero bs h = let e : i ≡ i + 0 = omega arith in ap (λ k. drop k bs) e
spread_out i (suc n) bs h =
    let l : i < length bs = omega arith in
    let e : suc i + n ≡ i + suc n = omega arith in
    drop-cons bs i 0 l ∙ ap (λ t. get_or bs i 0 ∷ t) (spread_out (suc i) n bs (omega arith) ∙ ap (λ k. spread (suc i) n bs ++ drop k bs) e)

-- a part of them fits where they do
pub small_take : (k : ℕ) (bs : List ℕ) → ((i : ℕ) → get_or bs i 0 < 256) → (i : ℕ) → get_or (take k bs) i 0 < 256
small_take zero bs h i = lit< tt
small_take (suc k) [] h i = lit< tt
small_take (suc k) (b ∷ bs) h zero = h 0
small_take (suc k) (b ∷ bs) h (suc i) = small_take k bs (λ j. h (suc j)) i

pub small_drop : (k : ℕ) (bs : List ℕ) → ((i : ℕ) → get_or bs i 0 < 256) → (i : ℕ) → get_or (drop k bs) i 0 < 256
small_drop zero bs h i = h i
small_drop (suc k) [] h i = lit< tt
small_drop (suc k) (b ∷ bs) h i = small_drop k bs (λ j. h (suc j)) i
