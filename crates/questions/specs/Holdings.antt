-- Who holds a copy of an item, and how large its share of the ring is. Assumes nothing.
use Rattle.std.specs.Prelude.{ℕ, List, [], ◌∷◌, Some, None, Ok, Err, Option, Result}
use Rattle.faults.specs.declared.Fault.{Fault}
use Rattle.faults.specs.declared.Fault.TheVariants.{NoMember}
use Rattle.faults.specs.Checks.{unless}
use Rattle.circle.specs.Circle.{place}
use Rattle.circle.specs.Owners.{owner, arc_length}
use Rattle.arithmetic.specs.Checks.{identifier_check, replica_check}
use Rattle.questions.specs.declared.holdings.Holding.{Holding}

-- with the owner of its place
abbrev pub held_by : ℕ → List ℕ → ℕ → ℕ → Option ℕ → Result Holding Fault
held_by n members r i None = Err NoMember
held_by n members r i (Some p) = Ok (record { replica = r; place = i; owner = p; share = arc_length n members p })

abbrev pub holding_of : ℕ → ℕ → List ℕ → ℕ → ℕ → Result Holding Fault
holding_of n f members k r =
    unless (identifier_check n k ∷ (replica_check f r ∷ [])) (held_by n members r (place n f k r) (owner n members (place n f k r)))
