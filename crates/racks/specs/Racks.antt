-- The parts of a rack's memory. Assumes nothing.
use Rattle.std.specs.Prelude.{ℕ}
use Rattle.racks.specs.declared.blanks.Blank.{Ghosts}
use Rattle.racks.specs.declared.Rack.{Rack}
use Rattle.racks.specs.Parts.{Parts, cut}

abbrev pub parts_of : {T : Type 0} {MOST : ℕ} {blank : Ghosts T} → Rack T MOST blank → Parts T
parts_of {T} {MOST} {blank} rack = cut rack.records.ghost_name rack.records.now rack.largest rack.count
