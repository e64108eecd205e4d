use Rattle.std.proofs.Common.{length, ap, sym}
use Rattle.handovers.proofs.Arcs.{left_none}
use Rattle.handovers.proofs.Moving.{moves_none}
use Rattle.handovers.proofs.move_after.Goals as goal

pub returns-then-high-start : goal.returns-then-high-start
returns-then-high-start g c =
    let s = c.args.shelf.now in
    let none = left_none c.args.giver c.args.start c.args.high (g.S.Shelf.meaning s) c.if-high-start.true in
    record { value = ap length (sym none); done = rw none (moves_none g.S.Shelf g.S.Holder c.args.filler s) }
