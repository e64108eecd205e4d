-- The records in some bytes. Assumes nothing.
use Rattle.std.specs.Prelude.{ℕ, ◌-◌, ◌*◌, ◌/◌, min, List, ◌++◌, length, drop}
use Rattle.std.specs.List.{flat_map}
use Rattle.copies.specs.declared.Coordinate.{Coordinate}
use Rattle.rows.specs.Bytes.{zeros}
use Rattle.rows.specs.Rows.{rows_in}
use Rattle.logs.specs.declared.lines.Line.{Line}
use Rattle.logs.specs.Lines.{line_bytes, line_form}
use Rattle.logs.specs.Logs.{squeezed}

-- as many as `used` says, and as there are
abbrev pub clipped : List ℕ → ℕ → ℕ
clipped bs used = min used (length bs / 18)

abbrev pub lines_in : List ℕ → ℕ → List Line
lines_in bs used = rows_in line_form (clipped bs used) bs

-- the bytes after the live records of other coordinates than c moved to the front
abbrev pub compacted : List ℕ → ℕ → Coordinate → List ℕ
compacted bs used c =
    flat_map line_bytes (squeezed c (lines_in bs used)) ++ (zeros (18 * (clipped bs used - length (squeezed c (lines_in bs used)))) ++ drop (18 * clipped bs used) bs)
