use Rattle.std.proofs.Common.{◌∙◌}
use Rattle.logs.proofs.Loops.{next_turn, next_start, with_near, with_dead, with_far}
use Rattle.logs.proofs.searches.next_in.Goals as goal
use Rattle.logs.proofs.searches.next_in.Goals.{else-in_range-via-then-in_range+else-lasts, else-in_range-via-else-in_range}

pub loop-n-init : goal.loop-n-init
loop-n-init c = next_start c.args.records.now c.args.peer c.args.low c.args.high

pub loop-n-preserved-then-lasts : goal.loop-n-preserved-then-lasts
loop-n-preserved-then-lasts c =
    with_near _ _ _ _ _ _ _ c.if-in_range.ensures c.if-lasts.ensures c.nearer-best.ensures ∙ next_turn _ _ _ _ _ _ _ c.loop-n-test.true c.loop-n.auto.n c.line_of-line.ensures.value c.loop-n.invariant

pub loop-n-preserved : goal.loop-n-preserved
loop-n-preserved c =
    elim c.else-in_range.branch [
      | else-in_range-via-then-in_range+else-lasts w ↦ with_dead _ _ _ _ _ _ w.if-in_range.ensures w.if-lasts.ensures ∙ next_turn _ _ _ _ _ _ _ c.loop-n-test.true c.loop-n.auto.n c.line_of-line.ensures.value c.loop-n.invariant
      | else-in_range-via-else-in_range w ↦ with_far _ _ _ _ _ _ w.if-in_range.ensures ∙ next_turn _ _ _ _ _ _ _ c.loop-n-test.true c.loop-n.auto.n c.line_of-line.ensures.value c.loop-n.invariant
    ]
