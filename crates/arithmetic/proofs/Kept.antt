-- A word that leaves out what a test finds is a filter. Assumes nothing.
use Rattle.std.proofs.Common.{◌≡◌, ℕ, Bool, true, false, cond, not, eqb, List, [], ◌∷◌, filter, refl}
use Rattle.std.proofs.lemmas.List.Recursion.{same_from_clauses}
use Rattle.circle.specs.Owners.{others}

cond_not : {X : Type 0} (t : Bool) (x y : X) → cond (not t) x y ≡ cond t y x
cond_not true x y = refl
cond_not false x y = refl

pub kept_is : {X : Type 0} (F : List X → List X) (t : X → Bool) → F [] ≡ [] → ((x : X) (xs : List X) → F (x ∷ xs) ≡ cond (t x) (F xs) (x ∷ F xs)) → (xs : List X) → F xs ≡ filter (λ x. not (t x)) xs
kept_is F t none more =
    same_from_clauses F (filter (λ x. not (t x))) (λ x ys. cond (t x) ys (x ∷ ys)) none more (λ x xs. cond_not (t x) (x ∷ filter (λ y. not (t y)) xs) (filter (λ y. not (t y)) xs))

pub others_filter : (p : ℕ) (xs : List ℕ) → others p xs ≡ filter (λ q. not (eqb q p)) xs
others_filter p = kept_is (others p) (λ q. eqb q p) refl (λ _ _. refl)
