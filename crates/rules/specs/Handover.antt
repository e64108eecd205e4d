-- A handover: the copies that a peer owes of an arc go to another. Assumes nothing.
use Rattle.std.specs.Prelude.{ℕ, ◌+◌, ◌-◌, Bool, false, cond, List, [], ◌++◌, Some, None, fold, filter, Option, ◌==◌, nat_lt}
use Rattle.copies.specs.declared.Coordinate.{Coordinate}
use Rattle.copies.specs.declared.Entry.{Entry}
use Rattle.copies.specs.declared.CopyRecord.{CopyRecord}
use Rattle.copies.specs.Copies.{find, put, remove, in_range}

abbrev pub spot : ℕ → ℕ → ℕ → Coordinate
spot p r i = record { peer = p; replica = r; place = i }

abbrev pub entry : ℕ → ℕ → Entry
entry stamp value = record { stamp = stamp; value = value }

-- what stands there has a higher stamp
abbrev pub newer : Option Entry → ℕ → Bool
newer None stamp = false
newer (Some e) stamp = nat_lt stamp e.stamp

-- the copies of peer g on the arc from a to e, in arc order and then by replica: up to n - 1 first, where the arc passes 0
unfoldable pub owed : ℕ → ℕ → ℕ → ℕ → List CopyRecord → List CopyRecord
owed n g a e sh =
    cond (nat_lt a e) (filter (in_range g (a + 1) e) sh) (cond (nat_lt e a) (filter (in_range g (a + 1) (n - 1)) sh ++ filter (in_range g 0 e) sh) [])

-- one copy goes to peer x, unless x has a newer one there
unfoldable pub moved : ℕ → List CopyRecord → CopyRecord → List CopyRecord
moved x sh c =
    cond (newer (find sh (spot x c.at.replica c.at.place)) c.held.stamp) (remove sh c.at) (put (remove sh c.at) (spot x c.at.replica c.at.place) c.held)

-- what g hands to x: nothing goes from a peer to itself
unfoldable pub handed : ℕ → ℕ → ℕ → ℕ → ℕ → List CopyRecord → List CopyRecord
handed n x g a e sh = cond (x == g) [] (owed n g a e sh)

-- the shelf after all of it has moved
unfoldable pub handover : ℕ → ℕ → ℕ → ℕ → ℕ → List CopyRecord → List CopyRecord
handover n x g a e sh = fold (moved x) sh (handed n x g a e sh)
