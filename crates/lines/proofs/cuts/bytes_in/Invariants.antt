use Rattle.lines.proofs.Cutting.{Passed}
use Rattle.lines.proofs.cuts.bytes_in.Given as goal

-- what is left has the fields after those that were cut off
abbrev pub invariant-loop : goal.invariant-loop
invariant-loop l = Passed l.line l.counter l.rest
