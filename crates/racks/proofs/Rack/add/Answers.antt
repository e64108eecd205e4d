use Rattle.std.proofs.Common.{◌<◌, min, length, ap, ◌∙◌, arith, ◌+◌}
use Rattle.racks.specs.Parts.{added}
use Rattle.racks.specs.Racks.{parts_of}
use Rattle.racks.proofs.Cuts.{size_cut, not_full_cut, cut_added}
use Rattle.racks.proofs.Stays.{stays_added, length_added, sound_after}
use Rattle.racks.proofs.Rack.add.Goals as goal

pub invariant_of-self : goal.invariant_of-self
invariant_of-self g c =
    let s = c.args.self.now in
    let a = s.records.ghost_name in
    let m = s.records.now in
    let largest = s.largest in
    let item = c.args.item in
    let p = parts_of s in
    let size = size_cut a m largest s.count in
    let room : s.count < min (length m) largest = omega arith in
    let blank = g.T.Blank.nothing in
    record { limited = s.limited; sound = sound_after blank g.row.MOST s.count (s.count + 1) p _ (added p item) s.sound (stays_added blank p item) (cut_added a m largest s.count item room) (length_added p item (not_full_cut a m largest s.count room) ∙ ap (λ n. n + 1) s.sound.counted) }
