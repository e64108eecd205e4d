use Rattle.laws.proofs.Whole.{every_run_keeps_its_laws}
use Rattle.laws.proofs.every_run_keeps_its_laws.Goals as goal

pub returns : goal.returns
returns c = every_run_keeps_its_laws
