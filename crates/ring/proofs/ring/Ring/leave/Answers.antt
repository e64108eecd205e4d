use Rattle.std.proofs.Common.{refl}
use Rattle.rules.specs.declared.Call.TheVariants.{Leave}
use Rattle.rules.specs.declared.Answer.TheVariants.{Done}
use Rattle.rules.specs.Refusals.{leave_checks}
use Rattle.ring.specs.Views.{viewed, sizes, gone_from}
use Rattle.ring.proofs.Performing.{passes, refused_call, accepted_call}
use Rattle.ring.proofs.ring.Ring.leave.Goals as goal

pub dismiss-requires : goal.dismiss-requires
dismiss-requires g c = let r = c.args.self.now in passes (leave_checks (sizes r) (viewed r)) c.args.peer c.in-Ok.id c.in-Ok.ensures

pub returns-in-Err : goal.returns-in-Err
returns-in-Err g c = refused_call (Leave c.args.peer) c.args.self.now c.args.peer c.in-Err.fault c.in-Err.ensures

pub returns-in-Ok : goal.returns-in-Ok
returns-in-Ok g c =
    let r = c.args.self.now in
    accepted_call (Leave c.args.peer) r c.dismiss.new.self Done c.args.peer c.in-Ok.id (gone_from (sizes r) (viewed r)) c.in-Ok.ensures refl refl c.dismiss.ensures
