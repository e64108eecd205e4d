-- What a roster means. Assumes nothing.
use Rattle.std.specs.Prelude.{ℕ, List, take}
use Rattle.rosters.specs.declared.roster.Roster.{Roster}

-- the most entries of a roster
abbrev pub most_entries : ℕ
most_entries = 64

-- its entries, in order of arrival
abbrev pub listed : {X : Type 0} → Roster X → List X
listed r = take r.count r.entries
