use Rattle.std.proofs.Common.{◌-◌, sym, ap, ◌∙◌, arith}
use Rattle.racks.specs.Parts.{closed_up}
use Rattle.racks.specs.Racks.{parts_of}
use Rattle.racks.proofs.Cuts.{cut_removed}
use Rattle.racks.proofs.Stays.{stays_closed_up, length_closed_up, sound_after}
use Rattle.racks.proofs.Rack.remove.Goals as goal

pub invariant_of-self : goal.invariant_of-self
invariant_of-self g c =
    let s = c.args.self.now in
    let p = parts_of s in
    let n = c.args.n in
    let blank = g.T.Blank.nothing in
    let gone = cut_removed s.records.ghost_name s.records.now c.close_up.new.places s.largest s.count n blank c.blank.result c.in_ok-item.item s.sound.counted (sym c.get.ensures ∙ c.in_ok-item.was) c.close_up.ensures c.blank.ensures in
    let fewer = length_closed_up blank p n (omega (arith, gone.0, s.sound.counted)) in
    record { limited = s.limited; sound = sound_after blank g.row.MOST s.count (s.count - 1) p _ (closed_up blank p n) s.sound (stays_closed_up blank p n) gone.1 (fewer ∙ ap (λ k. k - 1) s.sound.counted) }

pub returns-clause-after : goal.returns-clause-after
returns-clause-after g c =
    let s = c.args.self.now in
    (cut_removed s.records.ghost_name s.records.now c.close_up.new.places s.largest s.count c.args.n g.T.Blank.nothing c.blank.result c.in_ok-item.item s.sound.counted (sym c.get.ensures ∙ c.in_ok-item.was) c.close_up.ensures c.blank.ensures).1
