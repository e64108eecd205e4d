use Rattle.std.proofs.Common.{◌/◌, length, sym, arith}
use Rattle.rows.specs.Trays.{held_in}
use Rattle.rows.specs.Rows.{length_rows}
use Rattle.rows.proofs.Laid.{chunks_at}
use Rattle.rows.proofs.tray.Tray.in_use.Goals as goal

pub returns : goal.returns
returns g c =
    let s = c.args.self.now in
    let form = g.L.Layout.form in
    chunks_at form s.bytes.now (held_in form s).items _ s.count (length s.bytes.now / g.row.WIDTH) _ s.tidy (sym (length_rows form s.count s.bytes.now)) (omega (arith, s.inside)) c.as_chunks.ensures.front
