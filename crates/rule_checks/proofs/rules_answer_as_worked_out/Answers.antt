use mathlib.Core.Path.{refl}
use Rattle.rule_checks.specs.Worked.{opening}
use Rattle.rule_checks.proofs.rules_answer_as_worked_out.Goals as goal

pub returns : goal.returns
unfolding opening
returns c = record { week = refl; one = refl; two = refl; three = refl }
