use Rattle.std.proofs.Common.{length}
use Rattle.handovers.proofs.Ranges.{left}
use Rattle.handovers.proofs.Turns.{Sofar}
use Rattle.handovers.proofs.move_range.Given as goal

-- those that were moved, and those that are left, are those of the start
abbrev pub invariant-loop-one : goal.invariant-loop-one
invariant-loop-one g l = Sofar g.S.Shelf g.S.Holder l.filler l.giver l.low l.high l.initial.shelf l.shelf l.count

abbrev pub decreases-loop-one : goal.decreases-loop-one
decreases-loop-one g l = length (left l.giver l.low l.high (g.S.Shelf.meaning l.shelf))
