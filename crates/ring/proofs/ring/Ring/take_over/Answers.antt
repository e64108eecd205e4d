use Rattle.std.proofs.Common.{refl, ap, ◌∙◌}
use Rattle.rules.specs.declared.PeerState.TheVariants.{Settled}
use Rattle.rules.specs.declared.Answer.TheVariants.{Moved}
use Rattle.rules.specs.State.{with_state, with_shelf, with_table}
use Rattle.rules.specs.Rules.{handing_over}
use Rattle.ring.specs.Views.{viewed}
use Rattle.ring.proofs.Performing.{leads_shelving}
use Rattle.ring.proofs.ring.Ring.take_over.Goals as goal

pub returns : goal.returns
unfolding handing_over
returns g c =
    let s = viewed c.args.self.now in
    let done = c.hand_over-moved.ensures.done in
    let table = c.set_state.ensures ∙ ap (with_state c.args.filler Settled) c.release.ensures in
    record {
      answered = ap Moved c.hand_over-moved.ensures.value;
      leads = leads_shelving _ _ _ _ (λ j. with_shelf (done.means j) (with_table (table j) s)) done.remembers refl done.framed refl refl;
    }
