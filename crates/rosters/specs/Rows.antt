-- Entries in a row, told apart by a key. Assumes nothing.
use Rattle.std.specs.Prelude.{ℕ, Bool, cond, not, List, map, filter, Option, ◌==◌}
use Rattle.std.specs.List.{find}

-- the first entry with key k
abbrev pub first_with : {X : Type 0} → (X → ℕ) → ℕ → List X → Option X
first_with key k xs = find (λ x. key x == k) xs

-- every entry with key k becomes v
abbrev pub in_place : {X : Type 0} → (X → ℕ) → ℕ → X → X → X
in_place key k v x = cond (key x == k) v x

abbrev pub replaced_with : {X : Type 0} → (X → ℕ) → ℕ → X → List X → List X
replaced_with key k v xs = map (in_place key k v) xs

-- every entry with key k goes, and the others keep their order
abbrev pub other_than : {X : Type 0} → (X → ℕ) → ℕ → X → Bool
other_than key k x = not (key x == k)

abbrev pub dropped_with : {X : Type 0} → (X → ℕ) → ℕ → List X → List X
dropped_with key k xs = filter (other_than key k) xs
