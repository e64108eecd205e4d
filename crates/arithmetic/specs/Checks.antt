-- Which numbers the questions refuse. Assumes nothing.
use Rattle.std.specs.Prelude.{ℕ, ◌+◌, Bool, cond, ◌||◌, List, map, replicate, ◌==◌, nat_le, nat_lt}
use Rattle.std.specs.List.{range_with_len}
use Rattle.faults.specs.declared.Fault.{Fault}
use Rattle.faults.specs.declared.Fault.TheVariants.{Identifier, Replica}
use Rattle.circle.specs.Circle.{place, most_copies}

-- an identifier is below the size
abbrev pub identifier_check : ℕ → ℕ → Bool × Fault
identifier_check n i = (nat_le n i, Identifier)

-- a replica is 1 to f
abbrev pub replica_check : ℕ → ℕ → Bool × Fault
replica_check f r = (r == 0 || nat_lt f r, Replica)

-- an item's places in a row, replica 1 first, and 0 beyond the last
abbrev pub place_in_row : ℕ → ℕ → ℕ → ℕ → ℕ
place_in_row n f k j = cond (nat_lt j f) (place n f k (j + 1)) 0

unfoldable pub place_row : ℕ → ℕ → ℕ → List ℕ
place_row n f k = map (place_in_row n f k) (range_with_len 0 most_copies)

-- the row of a number as an item: zeros where it is refused
unfoldable pub places_of : ℕ → ℕ → ℕ → List ℕ
places_of n f k = cond (nat_le n k) (replicate most_copies 0) (place_row n f k)
