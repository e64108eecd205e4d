-- Worked examples of places, owners, arcs, settings and messages, as one table. Assumes nothing.
use Rattle.std.specs.Prelude.{◌≡◌, ℕ, Bool, true, false, List, [], ◌∷◌, Some, None, Option}
use Rattle.faults.specs.declared.Fault.{Fault}
use Rattle.faults.specs.declared.Fault.TheVariants.{Size, Copies}
use Rattle.faults.specs.Checks.{first_fault}
use Rattle.messages.specs.declared.Message.{Message}
use Rattle.messages.specs.declared.Message.TheVariants.{AddItem}
use Rattle.layouts.specs.Layout.{encoded}
use Rattle.circle.specs.Circle.{in_arc, place}
use Rattle.circle.specs.Owners.{owner}
use Rattle.arithmetic.specs.Settled.{settings_checks}
use Rattle.arithmetic.specs.Checks.{place_row}

pub data Example : Type 0 where
  -- an item's row of places
  places : ℕ → List ℕ → Example
  -- an item, a replica and its place
  place_is : ℕ → ℕ → ℕ → Example
  -- members, a place and its owner
  owner_is : List ℕ → ℕ → ℕ → Example
  -- the ends of an arc, an identifier, and whether the arc has it
  arc : ℕ → ℕ → ℕ → Bool → Example
  -- a size, the copies, and what refuses them
  settings : ℕ → ℕ → Option Fault → Example
  -- a message and its bytes
  bytes : Message → List ℕ → Example

-- on a ring of 16 with 4 copies, where an example gives no size
abbrev pub Holds : Example → Type 0
Holds (places k row) = place_row 16 4 k ≡ row
Holds (place_is k r i) = place 16 4 k r ≡ i
Holds (owner_is members i p) = owner 16 members i ≡ Some p
Holds (arc s e i has) = in_arc 16 s e i ≡ has
Holds (settings n f refused) = first_fault (settings_checks n f) ≡ refused
Holds (bytes m written) = encoded m ≡ written

abbrev pub stations : List ℕ
stations = 3 ∷ 8 ∷ 14 ∷ []

abbrev pub examples : List Example
examples =
    places 5 (5 ∷ 9 ∷ 13 ∷ 1 ∷ 0 ∷ 0 ∷ 0 ∷ 0 ∷ [])
    ∷ place_is 15 2 3
    ∷ owner_is stations 9 14
    ∷ owner_is stations 14 14
    ∷ owner_is stations 15 3
    ∷ arc 14 3 15 true
    ∷ arc 14 3 3 true
    ∷ arc 14 3 14 false
    ∷ arc 14 3 4 false
    ∷ settings 65536 8 None
    ∷ settings 65537 8 (Some Size)
    ∷ settings 16 3 (Some Copies)
    ∷ bytes (AddItem 8 1 5 1 77) (3 ∷ 1 ∷ 0 ∷ 8 ∷ 0 ∷ 0 ∷ 0 ∷ 5 ∷ 0 ∷ 0 ∷ 0 ∷ 0 ∷ 0 ∷ 1 ∷ 0 ∷ 0 ∷ 0 ∷ 0 ∷ 0 ∷ 0 ∷ 0 ∷ 77 ∷ [])
    ∷ []
