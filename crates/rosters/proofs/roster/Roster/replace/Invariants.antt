use Rattle.std.proofs.Common.{◌≡◌, ◌++◌, map, take, drop}
use Rattle.rosters.specs.Rows.{in_place}
use Rattle.rosters.proofs.roster.Roster.replace.Given as goal

-- those before the entry at hand were looked at
abbrev pub invariant-loop-entry : goal.invariant-loop-entry
invariant-loop-entry g l =
    l.entry-items ≡ map (in_place g.T.Keyed.keyed l.wanted l.value) (take l.entry-index l.initial.entry-items) ++ drop l.entry-index l.initial.entry-items
