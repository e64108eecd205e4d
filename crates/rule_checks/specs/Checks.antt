-- The rules answer each run as it was worked out. Assumes nothing.
use Rattle.std.specs.Prelude.{◌≡◌, List, map}
use Rattle.rule_checks.specs.Worked.{Worked, by_rules}
use Rattle.rule_checks.specs.Week
use Rattle.rule_checks.specs.Runs1
use Rattle.rule_checks.specs.Runs2
use Rattle.rule_checks.specs.Runs3

abbrev pub AsWorkedOut : List Worked → Type 0
AsWorkedOut runs = map by_rules runs ≡ runs

pub record RulesAreAsWorkedOut : Type 0 where
  pub week : AsWorkedOut Week.runs
  pub one : AsWorkedOut Runs1.runs
  pub two : AsWorkedOut Runs2.runs
  pub three : AsWorkedOut Runs3.runs
