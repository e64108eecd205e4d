use Rattle.std.proofs.Common.{rules, append_assoc}
use Rattle.answer_lines.specs.AnswerLines.{answer_line}
use Rattle.answer_lines.proofs.text.answer_line.Goals as goal

pub returns : goal.returns
unfolding answer_line
returns c = search (rules, append_assoc)
