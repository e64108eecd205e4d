use Rattle.std.proofs.Common.{sym, ◌∙◌, arith}
use Rattle.std.proofs.lemmas.Option.{slice_get_past}
use Rattle.rows.specs.Rows.{rows_in, length_rows}
use Rattle.rows.proofs.Trays.{at_place}
use Rattle.rows.proofs.tray.Tray.get.Goals as goal

pub returns-then-n-self : goal.returns-then-n-self
returns-then-n-self g c =
    let s = c.args.self.now in
    let n = length_rows g.L.Layout.form s.count s.bytes.now in
    sym (slice_get_past (rows_in g.L.Layout.form s.count s.bytes.now) c.args.n (omega arith))

pub returns : goal.returns
returns g c =
    let s = c.args.self.now in
    let there = at_place g.L.Layout.form g.row.MOST s.bytes.now s.count c.args.n g.met.L.Layout.some s.tidy s.inside (omega arith) in
    c.read.ensures there.0 there.1.0 ∙ sym there.1.1
