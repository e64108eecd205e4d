-- How many records a log shelf has memory for, and those in use. Assumes nothing.
use Rattle.std.specs.Prelude.{ℕ, List}
use Rattle.rows.specs.Trays.{Held}
use Rattle.logs.specs.declared.lines.Line.{Line}

abbrev pub places_in : Held Line → ℕ
places_in h = h.ground.size

abbrev pub records_in : Held Line → List Line
records_in h = h.items
