use Rattle.std.proofs.Common.{◌++◌, vec_items}
use Rattle.ring.specs.Views.{viewed, sizes}
use Rattle.lines.specs.Reading.{bytes_left}
use Rattle.sheets.specs.Sheets.{text_left}
use Rattle.sheets.proofs.Turns.{Sofar}
use Rattle.sheets.proofs.sheets.answer_all.Given as goal

abbrev pub invariant-loop-n : goal.invariant-loop-n
invariant-loop-n g l = Sofar (sizes l.initial.ring) (vec_items l.initial.text ++ text_left (sizes l.initial.ring) (viewed l.initial.ring) l.initial.orders) l.orders l.ring (vec_items l.text) l.line

-- each line takes bytes away
abbrev pub decreases-loop-n : goal.decreases-loop-n
decreases-loop-n g l = bytes_left l.orders.lines
