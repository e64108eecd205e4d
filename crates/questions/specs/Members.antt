-- A list of members as bytes: two for each, the high byte first. Assumes nothing.
use Rattle.std.specs.Prelude.{ℕ, ◌+◌, ◌*◌, Bool, true, false, ◌||◌, List, [], ◌∷◌, Some, None, Ok, Err, Option, Result, nat_le}
use Rattle.faults.specs.declared.Fault.{Fault}
use Rattle.faults.specs.declared.Fault.TheVariants.{Bytes, NoMember}
use Rattle.faults.specs.Checks.{unless}
use Rattle.circle.specs.Owners.{owner}
use Rattle.arithmetic.specs.Settled.{size_check}
use Rattle.arithmetic.specs.Checks.{identifier_check}

abbrev pub members_of : List ℕ → List ℕ
members_of [] = []
members_of (high ∷ []) = []
members_of (high ∷ low ∷ rest) = (high * 256 + low) ∷ members_of rest

-- a byte is left over, or a member is not below the size
abbrev pub bad_members : ℕ → List ℕ → Bool
bad_members n [] = false
bad_members n (high ∷ []) = true
bad_members n (high ∷ low ∷ rest) = nat_le n (high * 256 + low) || bad_members n rest

abbrev pub found : Option ℕ → Result ℕ Fault
found None = Err NoMember
found (Some p) = Ok p

-- who owns i among these members
abbrev pub owner_answer : ℕ → ℕ → List ℕ → Result ℕ Fault
owner_answer n i bytes =
    unless (size_check n ∷ (identifier_check n i ∷ ((bad_members n bytes, Bytes) ∷ []))) (found (owner n (members_of bytes) i))
