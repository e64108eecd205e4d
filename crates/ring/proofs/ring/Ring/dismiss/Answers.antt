use Rattle.std.proofs.Common.{sym, refl, ap, ◌∙◌}
use Rattle.std.proofs.lemmas.Bool.{cond-false}
use Rattle.rules.specs.declared.PeerState.TheVariants.{Filling}
use Rattle.rules.specs.State.{with_state, with_table, with_post}
use Rattle.ring.specs.Views.{viewed, sizes}
use Rattle.ring.proofs.Performing.{leads_posting}
use Rattle.ring.proofs.Memberships.{leave_between, leave_place}
use Rattle.ring.proofs.ring.Ring.dismiss.Goals as goal

pub returns-in-Some : goal.returns-in-Some
returns-in-Some g c =
    let set = sizes c.args.self.now in
    let s = viewed c.args.self.now in
    let p = c.args.id in
    let a = c.in-Some.start in
    let x = c.in-Some.filler in
    let table = c.set_state-in-Some.ensures ∙ ap (with_state x (Filling p a p)) c.set_state.ensures in
    let post = c.put.ensures.after ∙ cond-false _ _ _ (leave_place set s p c.requires) in
    leads_posting _ _ _ ((λ j. with_post (post j) (with_table (table j) s)) ∙ sym (leave_between set s p a x c.in-Some.ensures)) refl refl c.put.ensures.same refl
