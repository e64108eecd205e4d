use Rattle.std.proofs.Common.{take, ap, ◌∙◌}
use Rattle.std.proofs.lemmas.List.{take_min}
use Rattle.lines.specs.Texts.{lines_of, sheet_limit}
use Rattle.lines.proofs.lines.Lines.new.Goals as goal

pub returns-clause-rest : goal.returns-clause-rest
returns-clause-rest c = ap lines_of (ap (λ n. take n c.args.sheet.now) c.min-end.ensures ∙ take_min sheet_limit c.args.sheet.now)
