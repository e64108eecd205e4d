use Rattle.runs.proofs.Turns.{Sofar}
use Rattle.runs.proofs.perform_all.Given as goal

-- what is left of the run gives the whole of it
abbrev pub invariant-loop-order : goal.invariant-loop-order
invariant-loop-order g l = Sofar l.initial.order-items l.initial.ring l.order-index l.order-items l.ring
