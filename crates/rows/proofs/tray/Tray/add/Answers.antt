use Rattle.std.proofs.Common.{true, false, length, sym, ◌≡◌, ◌∙◌, arith}
use Rattle.std.proofs.lemmas.Bool.{cond-true, cond-false, le-leb, lt-leb}
use Rattle.rows.specs.Trays.{held_in, is_full}
use Rattle.rows.specs.Rows.{length_rows}
use Rattle.rows.proofs.Trays.{kept_added}
use Rattle.rows.proofs.tray.Tray.add.Goals as goal

pub returns-then-count-size : goal.returns-then-count-size
returns-then-count-size g c =
    let s = c.args.self.now in
    let n = length_rows g.L.Layout.form s.count s.bytes.now in
    let h = held_in g.L.Layout.form s in
    let full : is_full h ≡ true = le-leb h.ground.size (length h.items) (omega arith) in
    record { value = sym (cond-true (is_full h) _ _ full); after = sym (cond-true (is_full h) _ _ full) }

pub invariant_of-self : goal.invariant_of-self
invariant_of-self g c =
    let s = c.args.self.now in
    let done = kept_added g.L.Layout.form g.row.MOST s.bytes.ghost_name s.bytes.now s.count c.args.item g.met.L.Layout.some s.tidy (omega arith) in
    rw (c.write.ensures, c.bytes_of.ensures) (record { tidy = done.tidy; inside = done.inside })

pub returns : goal.returns
returns g c =
    let s = c.args.self.now in
    let n = length_rows g.L.Layout.form s.count s.bytes.now in
    let h = held_in g.L.Layout.form s in
    let free : is_full h ≡ false = lt-leb h.ground.size (length h.items) (omega arith) in
    let done = kept_added g.L.Layout.form g.row.MOST s.bytes.ghost_name s.bytes.now s.count c.args.item g.met.L.Layout.some s.tidy (omega arith) in
    record {
      value = sym (cond-false (is_full h) _ _ free);
      after = rw (c.write.ensures, c.bytes_of.ensures) done.is ∙ sym (cond-false (is_full h) h _ free);
    }
