use Rattle.std.proofs.Common.{◌-◌, ◌≤◌, length}
use Rattle.ringsheet.proofs.read_sheet.Given as goal

abbrev pub invariant-loop-read : goal.invariant-loop-read
invariant-loop-read l = l.read ≤ length l.initial.buffer

abbrev pub decreases-loop-read : goal.decreases-loop-read
decreases-loop-read l = length l.initial.buffer - l.read
