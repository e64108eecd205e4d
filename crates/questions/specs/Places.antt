-- The place of an item for a replica, for any four numbers. Assumes nothing.
use Rattle.std.specs.Prelude.{ℕ, [], ◌∷◌, Result}
use Rattle.faults.specs.declared.Fault.{Fault}
use Rattle.faults.specs.Checks.{answered}
use Rattle.circle.specs.Circle.{place}
use Rattle.arithmetic.specs.Settled.{size_check, copies_check}
use Rattle.arithmetic.specs.Checks.{identifier_check, replica_check}

abbrev pub place_answer : ℕ → ℕ → ℕ → ℕ → Result ℕ Fault
place_answer n f k r =
    answered (size_check n ∷ (copies_check n f ∷ (identifier_check n k ∷ (replica_check f r ∷ [])))) (place n f k r)
