use Rattle.std.proofs.Common.{sym, refl, ap, ◌∙◌, ◌∷◌, length, arith}
use Rattle.lines.specs.Texts.{lines_of}
use Rattle.lines.proofs.Cutting.{lines_cut_some, after_shorter}
use Rattle.lines.proofs.lines.LinesIterator.next.Goals as goal

pub returns-clause-steps : goal.returns-clause-steps
returns-clause-steps c = (
  lines_cut_some c.args.self.now.rest.now c.if-is_empty.ensures ∙ sym (λ j. c.cut_at.ensures.front j ∷ lines_of (c.cut_at.ensures.back j)),
  refl,
  refl,
  omega (arith, after_shorter c.args.self.now.rest.now c.if-is_empty.ensures, ap length c.cut_at.ensures.back),
)
