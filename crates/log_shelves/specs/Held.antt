-- What a log shelf's tray holds. Assumes nothing.
use Rattle.std.specs.Prelude.{ℕ}
use Rattle.rows.specs.Trays.{Held, held_in as holding_of}
use Rattle.rows.specs.declared.tray.Tray.{Tray}
use Rattle.logs.specs.declared.lines.Line.{Line}
use Rattle.logs.specs.Lines.{line_form}

abbrev pub held_in : {L : Type 0} {most : ℕ} {b : _} {c : _} → Tray L 18 most b c → Held Line
held_in tray = holding_of line_form tray
