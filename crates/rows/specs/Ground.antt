-- What no call changes: where the memory is, its size, and what of it lies beyond that. Assumes nothing.
use Rattle.std.specs.Borrow.{GName}
use Rattle.std.specs.Prelude.{ℕ, List}

pub record Ground : Type 0 where
  pub place : GName
  pub size : ℕ
  pub beyond : List ℕ

abbrev pub ground : GName → ℕ → List ℕ → Ground
ground place size beyond = record { place = place; size = size; beyond = beyond }
