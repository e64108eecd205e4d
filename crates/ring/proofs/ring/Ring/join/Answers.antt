use Rattle.std.proofs.Common.{refl}
use Rattle.rules.specs.declared.Call.TheVariants.{Join}
use Rattle.rules.specs.declared.Answer.TheVariants.{Done}
use Rattle.rules.specs.Refusals.{join_checks}
use Rattle.ring.specs.Views.{viewed, sizes, joined_to}
use Rattle.ring.proofs.Performing.{passes, refused_call, accepted_call}
use Rattle.ring.proofs.ring.Ring.join.Goals as goal

pub admit-requires : goal.admit-requires
admit-requires g c = let r = c.args.self.now in passes (join_checks (sizes r) (viewed r)) c.args.peer c.in-Ok.id c.in-Ok.ensures

pub returns-in-Err : goal.returns-in-Err
returns-in-Err g c = refused_call (Join c.args.peer) c.args.self.now c.args.peer c.in-Err.fault c.in-Err.ensures

pub returns-in-Ok : goal.returns-in-Ok
returns-in-Ok g c =
    let r = c.args.self.now in
    accepted_call (Join c.args.peer) r c.admit.new.self Done c.args.peer c.in-Ok.id (joined_to (sizes r) (viewed r)) c.in-Ok.ensures refl refl c.admit.ensures
