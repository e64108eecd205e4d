use Rattle.std.proofs.Common.{◌≡◌, ap, ◌∙◌, arith}
use Rattle.lines.specs.Texts.{field_at}
use Rattle.lines.proofs.Cutting.{passed_none, passed_more, passed_all}
use Rattle.lines.proofs.cuts.bytes_in.Goals as goal

pub loop-init : goal.loop-init
loop-init c = passed_none c.args.line.now

pub loop-preserved : goal.loop-preserved
loop-preserved c = passed_more c.args.line.now c.loop.counter c.loop.rest.now c.cut_at.result.1.now c.cut_at.ensures.back c.loop.invariant

pub returns : goal.returns
returns c =
    let end : c.loop.counter ≡ c.args.column = omega arith in
    c.cut_at-2.ensures.front ∙ passed_all c.args.line.now c.loop.counter c.loop.rest.now c.loop.invariant ∙ ap (field_at c.args.line.now) end
