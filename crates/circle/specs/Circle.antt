-- The ring of n identifiers 0 to n - 1: distances, arcs, and the places of an item's copies. Assumes nothing.
use Rattle.std.specs.Prelude.{ℕ, ◌+◌, ◌-◌, ◌*◌, ◌/◌, ◌%◌, ◌<◌, ◌≤◌, Bool, cond, ◌&&◌, nat_le, nat_lt}

-- the largest ring
abbrev pub largest_size : ℕ
largest_size = 65536

-- the most copies that are kept of an item
abbrev pub most_copies : ℕ
most_copies = 8

-- how far it is from s to i, clockwise: (i - s) mod n, for s and i below n
unfoldable pub distance : ℕ → ℕ → ℕ → ℕ
distance n s i = cond (nat_le s i) (i - s) (i + n - s)

-- the arc from s to e: what comes after s, as far as e
abbrev pub InArc : ℕ → ℕ → ℕ → ℕ → Type 0
InArc n s e i = (0 < distance n s i) × (distance n s i ≤ distance n s e)

-- the test for it
unfoldable pub in_arc : ℕ → ℕ → ℕ → ℕ → Bool
in_arc n s e i = nat_lt 0 (distance n s i) && nat_le (distance n s i) (distance n s e)

-- the place of item k for replica r, counted from 1: f copies are spaced evenly
unfoldable pub place : ℕ → ℕ → ℕ → ℕ → ℕ
place n f k r = (k + (r - 1) * (n / f)) % n

-- the item that has its replica r at place i
unfoldable pub item_at : ℕ → ℕ → ℕ → ℕ → ℕ
item_at n f i r = (i + n - (r - 1) * (n / f)) % n
