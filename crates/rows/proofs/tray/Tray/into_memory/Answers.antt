use Rattle.std.proofs.Common.{◌-◌, sym, ap, ◌∙◌}
use Rattle.rows.specs.Rows.{laid, length_rows}
use Rattle.rows.specs.Trays.{held_in}
use Rattle.rows.proofs.tray.Tray.into_memory.Goals as goal

pub returns-clause-value : goal.returns-clause-value
returns-clause-value g c =
    let s = c.args.self in
    let h = held_in g.L.Layout.form s in
    s.tidy ∙ ap (λ n. laid g.L.Layout.form h.items (h.ground.size - n) h.ground.beyond) (sym (length_rows g.L.Layout.form s.count s.bytes.now))
