use Rattle.std.proofs.Common.{◌≡◌, map, drop}
use Rattle.copies.specs.Copies.{first_in_range}
use Rattle.logs.specs.Lines.{line_in}
use Rattle.logs.specs.Logs.{copies_of}
use Rattle.logs.proofs.searches.next_in.Given as goal

-- the first among the records from here on
abbrev pub invariant-loop-n : goal.invariant-loop-n
invariant-loop-n l = l.best ≡ first_in_range (copies_of (drop l.n (map line_in l.records))) l.peer l.low l.high
