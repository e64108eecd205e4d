use Rattle.std.proofs.Common.{◌≡◌}
use Rattle.std.proofs.lemmas.List.Filters.{FiltersInPlace}
use Rattle.rosters.specs.Rows.{other_than}
use Rattle.rosters.proofs.roster.Roster.remove.Given as goal

abbrev pub invariant-loop-i : goal.invariant-loop-i
invariant-loop-i g l =
    FiltersInPlace (other_than g.T.Keyed.keyed l.wanted) l.initial.self.entries l.self.entries l.front l.i
    × (l.self.count ≡ l.initial.self.count)
