use Rattle.std.proofs.Common.{◌<◌, sym, ap, ◌∙◌, rules}
use Rattle.rows.specs.Trays.{held_in, holding}
use Rattle.rows.proofs.Trays.{found_within, kept_removed, remove_absent}
use Rattle.rows.proofs.tray.Tray.remove.Goals as goal

pub returns-in_err-item-clause-after : goal.returns-in_err-item-clause-after
returns-in_err-item-clause-after g c =
    let h = held_in g.L.Layout.form c.args.self.now in
    sym (ap (holding h) (remove_absent h.items c.args.n (sym c.get.ensures ∙ c.in_err-item.was)))

pub overflow_mul-n : goal.overflow_mul-n
overflow_mul-n g c =
    let s = c.args.self.now in
    let less : c.args.n < s.count = found_within g.L.Layout.form s.bytes.now s.count c.args.n c.in_ok-item.item (sym c.get.ensures ∙ c.in_ok-item.was) in
    search rules

pub invariant_of-self : goal.invariant_of-self
invariant_of-self g c =
    let s = c.args.self.now in
    let less = found_within g.L.Layout.form s.bytes.now s.count c.args.n c.in_ok-item.item (sym c.get.ensures ∙ c.in_ok-item.was) in
    let done = kept_removed g.L.Layout.form g.row.MOST s.bytes.ghost_name s.bytes.now s.count c.args.n g.met.L.Layout.some s.tidy s.inside less in
    rw c.close_up.ensures (record { tidy = done.tidy; inside = done.inside })

pub returns-clause-after : goal.returns-clause-after
returns-clause-after g c =
    let s = c.args.self.now in
    let less = found_within g.L.Layout.form s.bytes.now s.count c.args.n c.in_ok-item.item (sym c.get.ensures ∙ c.in_ok-item.was) in
    let done = kept_removed g.L.Layout.form g.row.MOST s.bytes.ghost_name s.bytes.now s.count c.args.n g.met.L.Layout.some s.tidy s.inside less in
    rw c.close_up.ensures done.is
