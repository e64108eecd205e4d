use Rattle.std.proofs.Common.{◌*◌, ap}
use Rattle.rows.proofs.Trays.{kept_emptied}
use Rattle.rows.proofs.tray.Tray.make.Goals as goal

pub invariant_of-result : goal.invariant_of-result
invariant_of-result g c =
    let m = c.args.memory in
    let done = kept_emptied g.L.Layout.form g.row.MOST m.ghost_name m.now (g.row.WIDTH * c.places-end.result) g.met.L.Layout.some (ap (λ n. g.row.WIDTH * n) c.places-end.ensures) in
    rw c.fill.ensures (record { tidy = done.tidy; inside = done.inside })

pub returns : goal.returns
returns g c =
    let m = c.args.memory in
    let done = kept_emptied g.L.Layout.form g.row.MOST m.ghost_name m.now (g.row.WIDTH * c.places-end.result) g.met.L.Layout.some (ap (λ n. g.row.WIDTH * n) c.places-end.ensures) in
    rw c.fill.ensures done.is
