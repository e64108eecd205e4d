use Rattle.logs.proofs.Moves.{Moved}
use Rattle.logs.proofs.compaction.compact.Given as goal

abbrev pub invariant-loop-n : goal.invariant-loop-n
invariant-loop-n l = Moved l.count l.initial.bytes l.bytes l.at l.n l.moved
