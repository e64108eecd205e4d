-- What a shelf holds: its copies in the order of peer, then place, then replica, no coordinate twice.
-- Such a list is a finite map from coordinates to entries; `find` reads it. Assumes nothing.
use Rattle.std.specs.Prelude.{◌≡◌, ℕ, suc, Bool, true, cond, not, ◌&&◌, ◌||◌, List, [], ◌∷◌, is_some, Some, None, Option, ◌==◌, nat_le, nat_lt}
use Rattle.std.specs.List.{AllByRecursion}
use Rattle.copies.specs.declared.Coordinate.{Coordinate}
use Rattle.copies.specs.declared.Entry.{Entry}
use Rattle.copies.specs.declared.CopyRecord.{CopyRecord}
use Rattle.copies.specs.declared.Edit.{Edit}
use Rattle.copies.specs.declared.Edit.TheVariants.{Put, Take, Empty}

-- a and b are one coordinate
unfoldable pub same : Coordinate → Coordinate → Bool
same a b = a.peer == b.peer && (a.place == b.place && a.replica == b.replica)

-- a comes before b: by peer, then place, then replica
unfoldable pub before : Coordinate → Coordinate → Bool
before a b =
    nat_lt a.peer b.peer || (a.peer == b.peer && (nat_lt a.place b.place || (a.place == b.place && nat_lt a.replica b.replica)))

abbrev pub copy : Coordinate → Entry → CopyRecord
copy c x = record { at = c; held = x }

-- each copy comes before all that follow it
abbrev pub Ordered : List CopyRecord → Type 0
Ordered [] = Unit {0}
Ordered (x ∷ xs) = AllByRecursion (λ y. before x.at y.at ≡ true) xs × Ordered xs

-- what c maps to
abbrev pub find : List CopyRecord → Coordinate → Option Entry
find [] c = None
find (x ∷ xs) c = cond (same x.at c) (Some x.held) (find xs c)

-- c maps to e, and all else is as it was
abbrev pub put : List CopyRecord → Coordinate → Entry → List CopyRecord
put [] c e = copy c e ∷ []
put (x ∷ xs) c e = cond (before x.at c) (x ∷ put xs c e) (cond (same x.at c) (copy c e ∷ xs) (copy c e ∷ (x ∷ xs)))

-- c maps to nothing, and all else is as it was
abbrev pub remove : List CopyRecord → Coordinate → List CopyRecord
remove [] c = []
remove (x ∷ xs) c = cond (same x.at c) xs (x ∷ remove xs c)

-- a copy of peer p with low ≤ place ≤ high
unfoldable pub in_range : ℕ → ℕ → ℕ → CopyRecord → Bool
in_range p low high x = x.at.peer == p && (nat_le low x.at.place && nat_le x.at.place high)

-- the first of them: that of smallest place, then smallest replica
abbrev pub next : List CopyRecord → ℕ → ℕ → ℕ → Option CopyRecord
next [] p low high = None
next (x ∷ xs) p low high = cond (in_range p low high x) (Some x) (next xs p low high)

-- what one edit makes of it
abbrev pub edited : List CopyRecord → Edit → List CopyRecord
edited xs (Put c e) = put xs c e
edited xs (Take c) = remove xs c
edited xs Empty = []

-- What copies in any order mean, for a shelf that keeps them so: of two copies of one coordinate the first counts.
abbrev pub from_records : List CopyRecord → List CopyRecord
from_records [] = []
from_records (x ∷ xs) = put (from_records xs) x.at x.held

-- no coordinate stands twice
abbrev pub apart : List CopyRecord → Bool
apart [] = true
apart (x ∷ xs) = not (is_some (find xs x.at)) && apart xs

-- where c stands first, or the length where it does not stand
abbrev pub position : List CopyRecord → Coordinate → ℕ
position [] c = 0
position (x ∷ xs) c = cond (same x.at c) 0 (suc (position xs c))

-- the one that comes before the other
abbrev pub nearer : CopyRecord → Option CopyRecord → Option CopyRecord
nearer x None = Some x
nearer x (Some y) = cond (before y.at x.at) (Some y) (Some x)

-- x and the nearest of the others in range
abbrev pub nearer_in_range : ℕ → ℕ → ℕ → CopyRecord → Option CopyRecord → Option CopyRecord
nearer_in_range p low high x best = cond (in_range p low high x) (nearer x best) best

-- the first copy in range, of copies in any order
abbrev pub first_in_range : List CopyRecord → ℕ → ℕ → ℕ → Option CopyRecord
first_in_range [] p low high = None
first_in_range (x ∷ xs) p low high = nearer_in_range p low high x (first_in_range xs p low high)
