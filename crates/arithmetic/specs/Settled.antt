-- What settings are made from two numbers. Assumes nothing.
use Rattle.std.specs.Prelude.{◌≡◌, ℕ, ◌%◌, Bool, not, ◌||◌, List, [], ◌∷◌, Some, None, Ok, Err, Result, ◌==◌, nat_lt}
use Rattle.faults.specs.declared.Fault.{Fault}
use Rattle.faults.specs.declared.Fault.TheVariants.{Size, Copies}
use Rattle.faults.specs.Checks.{first_fault}
use Rattle.circle.specs.Circle.{largest_size, most_copies}
use Rattle.arithmetic.specs.declared.settings.Settings.{Settings}

-- the size is 1 to 65,536
abbrev pub size_check : ℕ → Bool × Fault
size_check n = (n == 0 || nat_lt largest_size n, Size)

-- the copies are 1 to 8 and divide it
abbrev pub copies_check : ℕ → ℕ → Bool × Fault
copies_check n f = (f == 0 || (nat_lt most_copies f || not (n % f == 0)), Copies)

abbrev pub settings_checks : ℕ → ℕ → List (Bool × Fault)
settings_checks n f = size_check n ∷ (copies_check n f ∷ [])

-- settings of these numbers, or the first fault
abbrev pub MadeOf : ℕ → ℕ → Result Settings Fault → Type 0
MadeOf n f (Ok s) = (first_fault (settings_checks n f) ≡ None) × (s.size ≡ n) × (s.copies ≡ f)
MadeOf n f (Err e) = first_fault (settings_checks n f) ≡ Some e
