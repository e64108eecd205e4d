use Rattle.std.proofs.Common.{ℕ, refl}
use Rattle.rules.specs.declared.Call.TheVariants.{Lookup}
use Rattle.rules.specs.declared.Answer.TheVariants.{Opened}
use Rattle.rules.specs.Refusals.{lookup_checks}
use Rattle.rules.specs.Rules.{opened}
use Rattle.ring.specs.Views.{viewed, sizes}
use Rattle.ring.proofs.Performing.{passes, refused_call, accepted_call}
use Rattle.ring.proofs.ring.Ring.lookup.Goals as goal

pub ask-requires : goal.ask-requires
ask-requires g c =
    let r = c.args.self.now in
    passes (λ (n : ℕ × ℕ). lookup_checks (sizes r) (viewed r) n.0 n.1) (c.args.item, c.args.replica) (c.in-Ok.item, c.in-Ok.replica) c.in-Ok.ensures

pub returns-in-Err : goal.returns-in-Err
returns-in-Err g c = refused_call (Lookup c.args.item c.args.replica) c.args.self.now (c.args.item, c.args.replica) c.in-Err.fault c.in-Err.ensures

pub returns-in-Ok : goal.returns-in-Ok
returns-in-Ok g c =
    let r = c.args.self.now in
    accepted_call (Lookup c.args.item c.args.replica) r c.ask.new.self (Opened r.number) (c.args.item, c.args.replica) (c.in-Ok.item, c.in-Ok.replica) (λ (n : ℕ × ℕ). opened (sizes r) (viewed r) n.0 n.1) c.in-Ok.ensures refl refl c.ask.ensures
