use Rattle.std.proofs.Common.{◌∙◌}
use Rattle.std.proofs.lemmas.List.{length-set}
use Rattle.racks.specs.Parts.{overwritten}
use Rattle.racks.specs.Racks.{parts_of}
use Rattle.racks.proofs.Cuts.{cut_overwritten}
use Rattle.racks.proofs.Stays.{stays_overwritten, sound_after}
use Rattle.racks.proofs.Rack.overwrite.Goals as goal

pub invariant_of-self : goal.invariant_of-self
invariant_of-self g c =
    let s = c.args.self.now in
    let p = parts_of s in
    let n = c.args.n in
    let item = c.args.item in
    let over = cut_overwritten s.records.ghost_name s.records.now s.largest s.count n item c.if-n-self.true s.sound.counted in
    record { limited = s.limited; sound = sound_after g.T.Blank.nothing g.row.MOST s.count s.count p _ (overwritten p n item) s.sound (stays_overwritten g.T.Blank.nothing p n item) over (length-set p.used n item ∙ s.sound.counted) }

pub returns-then-n-self : goal.returns-then-n-self
returns-then-n-self g c =
    let s = c.args.self.now in
    cut_overwritten s.records.ghost_name s.records.now s.largest s.count c.args.n c.args.item c.if-n-self.true s.sound.counted
