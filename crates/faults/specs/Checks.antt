-- How refusals are listed: each test with the fault that it refuses by, in the order of their numbers. Assumes nothing.
use Rattle.std.specs.Prelude.{Bool, cond, List, [], ◌∷◌, Some, None, Ok, Err, Option, Result}
use Rattle.faults.specs.declared.Fault.{Fault}

-- the first fault that applies
abbrev pub first_fault : List (Bool × Fault) → Option Fault
first_fault [] = None
first_fault (c ∷ cs) = cond c.0 (Some c.1) (first_fault cs)

-- that fault, or the answer where none applies
abbrev pub unless : {X : Type 0} → List (Bool × Fault) → Result X Fault → Result X Fault
unless [] r = r
unless (c ∷ cs) r = cond c.0 (Err c.1) (unless cs r)

abbrev pub answered : {X : Type 0} → List (Bool × Fault) → X → Result X Fault
answered cs x = unless cs (Ok x)
