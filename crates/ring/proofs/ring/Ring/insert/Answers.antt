use Rattle.std.proofs.Common.{refl}
use Rattle.rules.specs.declared.Call.TheVariants.{Insert}
use Rattle.rules.specs.declared.Answer.TheVariants.{Inserted}
use Rattle.rules.specs.Refusals.{insert_checks}
use Rattle.rules.specs.Rules.{inserted}
use Rattle.ring.specs.Views.{viewed, sizes}
use Rattle.ring.proofs.Performing.{passes, refused_call, accepted_call}
use Rattle.ring.proofs.ring.Ring.insert.Goals as goal

pub send_copies-requires : goal.send_copies-requires
send_copies-requires g c = let r = c.args.self.now in passes (insert_checks (sizes r) (viewed r)) c.args.item c.in-Ok.item c.in-Ok.ensures

pub returns-in-Err : goal.returns-in-Err
returns-in-Err g c = refused_call (Insert c.args.item c.args.value) c.args.self.now c.args.item c.in-Err.fault c.in-Err.ensures

pub returns-in-Ok : goal.returns-in-Ok
returns-in-Ok g c =
    let r = c.args.self.now in
    accepted_call (Insert c.args.item c.args.value) r c.send_copies.new.self (Inserted r.stamp) c.args.item c.in-Ok.item (λ n. inserted (sizes r) (viewed r) n c.args.value) c.in-Ok.ensures refl refl c.send_copies.ensures
