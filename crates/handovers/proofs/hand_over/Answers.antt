use Rattle.std.proofs.Common.{◌-◌, ◌<◌, [], length, sym, ap, ◌∙◌, arith}
use Rattle.handovers.proofs.Arcs.{handed_none, handed_forward, handed_round, handed_by, round_few, round_moves, round_length}
use Rattle.handovers.proofs.Moving.{moves_none}
use Rattle.handovers.proofs.hand_over.Goals as goal

pub returns-then-count-eq0 : goal.returns-then-count-eq0
returns-then-count-eq0 g c =
    let s = c.args.shelf.now in
    let none = handed_none c.args.settings.size c.args.filler c.args.giver c.args.start c.args.end (g.S.Shelf.meaning s) (rw c.count.ensures at c.then-count-eq0.either) in
    record {
      value = sym (ap length none);
      done = handed_by g.S.Shelf g.S.Holder c.args.settings.size c.args.filler c.args.giver c.args.start c.args.end s s [] none (moves_none g.S.Shelf g.S.Holder c.args.filler s);
    }

pub returns-then-start-end-2 : goal.returns-then-start-end-2
returns-then-start-end-2 g c =
    let s = c.args.shelf.now in
    let all = handed_forward c.args.settings.size c.args.filler c.args.giver c.args.start c.args.end (g.S.Shelf.meaning s) c.if-filler-giver.false c.if-start-end-2.true in
    record {
      value = c.move_after.ensures.value ∙ sym (ap length all);
      done = handed_by g.S.Shelf g.S.Holder c.args.settings.size c.args.filler c.args.giver c.args.start c.args.end s c.move_after.new.shelf _ all c.move_after.ensures.done;
    }

-- what the two ranges have together is on the shelf
pub overflow_add-result : goal.overflow_add-result
overflow_add-result g c =
    let s = c.args.shelf.now in
    let apart = c.if-start-end.false in
    let ahead : c.args.end < c.args.start = omega (arith, c.if-start-end-2.false) in
    let few = round_few g.S.Shelf g.S.Holder c.args.filler c.args.giver c.args.start c.args.end (c.size.result - 1) s c.move_after-up.new.shelf c.if-filler-giver.false ahead c.move_after-up.ensures.done in
    omega (arith, c.move_after-up.ensures.value, c.move_range-on.ensures.value, g.met.S.Shelf.counted s, g.met.S.Holder.within s, g.met.S.Holder.bounded s, g.met.S.Holder.counted)

pub returns : goal.returns
returns g c =
    let s = c.args.shelf.now in
    let t = c.move_after-up.new.shelf in
    let other = c.if-filler-giver.false in
    let apart = c.if-start-end.false in
    let ahead : c.args.end < c.args.start = omega (arith, c.if-start-end-2.false) in
    let up = rw c.size.ensures at c.move_after-up.ensures.done in
    let all = handed_round c.args.settings.size c.args.filler c.args.giver c.args.start c.args.end (g.S.Shelf.meaning s) other ahead in
    record {
      value = rw (c.move_after-up.ensures.value, c.move_range-on.ensures.value, c.size.ensures, all) (round_length g.S.Shelf g.S.Holder c.args.filler c.args.giver c.args.start c.args.end (c.args.settings.size - 1) s t other ahead up);
      done = handed_by g.S.Shelf g.S.Holder c.args.settings.size c.args.filler c.args.giver c.args.start c.args.end s c.move_range-on.new.shelf _ all
          (round_moves g.S.Shelf g.S.Holder c.args.filler c.args.giver c.args.start c.args.end (c.args.settings.size - 1) s t other ahead up c.move_range-on.new.shelf c.move_range-on.ensures.done);
    }
