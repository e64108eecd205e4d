-- A list of bytes taken two at a time. Assumes nothing.
use Rattle.std.proofs.Common.{◌≡◌, ℕ, suc, ◌+◌, ◌*◌, ◌/◌, ◌%◌, w16, Bool, true, false, ◌||◌, leb, List, [], ◌∷◌, map, length, refl, ap, ◌∙◌, arith}
use Rattle.std.specs.Int.{from_be_bytes}
use Rattle.std.specs.List.{list_any}
use Rattle.std.specs.Simd.{first_chunks}
use Rattle.questions.specs.Members.{members_of, bad_members}

-- two more bytes are one more pair
one_more : (x y : ℕ) (xs : List ℕ) → length (x ∷ (y ∷ xs)) / 2 ≡ suc (length xs / 2)
one_more x y xs = omega arith

pub members_paired : (xs : List ℕ) → map (from_be_bytes w16) (first_chunks 2 (length xs / 2) xs) ≡ members_of xs
members_paired [] = refl
members_paired (x ∷ []) = refl
members_paired (x ∷ y ∷ xs) =
    ap (λ k. map (from_be_bytes w16) (first_chunks 2 k (x ∷ (y ∷ xs)))) (one_more x y xs) ∙ ap (λ ms. (x * 256 + y) ∷ ms) (members_paired xs)

-- with no byte left over, it is a member that is not below the size
pub even_bad : (n : ℕ) (xs : List ℕ) → length xs % 2 ≡ 0 → list_any (λ p. leb n (from_be_bytes w16 p)) (first_chunks 2 (length xs / 2) xs) ≡ bad_members n xs
even_bad n [] h = refl
even_bad n (x ∷ []) h = absurd (omega arith)
even_bad n (x ∷ y ∷ xs) h =
    ap (λ k. list_any (λ p. leb n (from_be_bytes w16 p)) (first_chunks 2 k (x ∷ (y ∷ xs)))) (one_more x y xs) ∙ ap (λ b. leb n (x * 256 + y) || b) (even_bad n xs (omega arith))

or_true : (b : Bool) → (b || true) ≡ true
or_true true = refl
or_true false = refl

pub odd_bad : (n : ℕ) (xs : List ℕ) → length xs % 2 ≡ 1 → bad_members n xs ≡ true
odd_bad n [] h = absurd (omega arith)
odd_bad n (x ∷ []) h = refl
odd_bad n (x ∷ y ∷ xs) h = ap (λ b. leb n (x * 256 + y) || b) (odd_bad n xs (omega arith)) ∙ or_true (leb n (x * 256 + y))
