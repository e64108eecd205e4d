use Rattle.std.proofs.Common.{◌++◌, vec_items}
use Rattle.ring.specs.Views.{viewed, sizes}
use Rattle.sheets.specs.Sheets.{text_left}
use Rattle.sheets.proofs.Turns.{sofar_more}
use Rattle.sheets.proofs.sheets.answer_all.Goals as goal

pub loop-n-preserved : goal.loop-n-preserved
loop-n-preserved g c =
    let was = c.args.ring.now in
    let done = rw c.in-Ok-Some.field-0-is at c.in-Ok-Some.ensures in
    sofar_more (sizes was) (vec_items c.args.text.now ++ text_left (sizes was) (viewed was) c.args.orders) c.loop-n.orders c.answer.new.self c.loop-n.ring c.answer.new.ring (vec_items c.loop-n.text) (vec_items c.extend_from_slice.new.self) c.loop-n.line c.answer.new.memory c.in-Ok-Some.n done.1 done.2 c.in_ok-extend_from_slice.ensures.items c.answer.auto.memory c.loop-n.invariant
