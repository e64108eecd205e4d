use Rattle.std.proofs.Common.{◌≤◌, length, sym, ◌∙◌, arith}
use Rattle.std.proofs.lemmas.Bool.{cond-false}
use Rattle.handovers.proofs.Moving.{goal as goal', cell_again, moves_taken, moves_put}
use Rattle.handovers.proofs.move_one.Goals as goal

pub returns-then-not-is_newer : goal.returns-then-not-is_newer
returns-then-not-is_newer g c =
    let s = c.args.shelf.now in
    let one = c.args.one in
    let same = c.take.ensures.same in
    let fits : length (g.S.Shelf.meaning s) ≤ g.S.Holder.room s = omega (arith, g.met.S.Shelf.counted s, g.met.S.Holder.within s) in
    let cell = cell_again _ _ one (goal' c.args.filler one) _ _ c.requires c.take.ensures.after fits (g.met.S.Holder.sized _ _ same) in
    moves_put g.S.Shelf g.S.Holder c.args.filler s one c.put.new.self
    (rw c.find-there.ensures at (sym c.if-not-is_newer.ensures))
    (rw c.take.ensures.after at (c.put.ensures.after ∙ cond-false _ _ _ cell))
    (rw c.take.ensures.cells at (c.put.ensures.cells ∙ cond-false _ _ _ cell))
    (c.put.ensures.same ∙ same)

pub returns-else-not-is_newer : goal.returns-else-not-is_newer
returns-else-not-is_newer g c =
    moves_taken g.S.Shelf g.S.Holder c.args.filler c.args.shelf.now c.args.one c.take.new.self
    (rw c.find-there.ensures at (sym c.if-not-is_newer.ensures))
    c.take.ensures.after c.take.ensures.cells c.take.ensures.same
