use Rattle.std.proofs.Common.{◌*◌, ap}
use Rattle.rows.proofs.Trays.{kept_emptied}
use Rattle.rows.proofs.tray.Tray.clear.Goals as goal

pub invariant_of-self : goal.invariant_of-self
invariant_of-self g c =
    let m = c.args.self.now.bytes in
    let done = kept_emptied g.L.Layout.form g.row.MOST m.ghost_name m.now (g.row.WIDTH * c.size-end.result) g.met.L.Layout.some (ap (λ n. g.row.WIDTH * n) c.size-end.ensures) in
    rw c.fill.ensures (record { tidy = done.tidy; inside = done.inside })

pub returns : goal.returns
returns g c =
    let m = c.args.self.now.bytes in
    let done = kept_emptied g.L.Layout.form g.row.MOST m.ghost_name m.now (g.row.WIDTH * c.size-end.result) g.met.L.Layout.some (ap (λ n. g.row.WIDTH * n) c.size-end.ensures) in
    rw c.fill.ensures done.is
