-- When a put is refused, and what a position of a post shows. Assumes nothing.
use Rattle.std.specs.Prelude.{ℕ, Bool, not, ◌&&◌, List, length, is_some, nat_le}
use Rattle.copies.specs.declared.Coordinate.{Coordinate}
use Rattle.copies.specs.declared.CopyRecord.{CopyRecord}
use Rattle.copies.specs.Copies.{find}

-- the coordinate is absent, and the shelf is full
abbrev pub no_cell : List CopyRecord → ℕ → Coordinate → Bool
no_cell copies size c = not (is_some (find copies c)) && nat_le size (length copies)

-- the post is full
abbrev pub no_place : {M : Type 0} → List M → ℕ → Bool
no_place messages size = nat_le size (length messages)
