use Rattle.std.proofs.Common.{List, ◌∷◌, ◌++◌, sym, refl, ap, ◌∙◌, []}
use Rattle.std.proofs.lemmas.Bool.{cond-false}
use Rattle.circle.specs.Owners.{predecessor, successor}
use Rattle.rules.specs.declared.Peer.{Peer}
use Rattle.rules.specs.declared.PeerState.TheVariants.{Filling, Giving}
use Rattle.rules.specs.State.{members, peer, with_table, with_post}
use Rattle.ring.specs.Views.{viewed, sizes}
use Rattle.ring.proofs.Performing.{leads_within, leads_posting}
use Rattle.ring.proofs.Memberships.{both_some, join_alone, join_between, join_room, join_place, with_state_length}
use Rattle.ring.proofs.ring.Ring.admit.Goals as goal

pub returns-in-None : goal.returns-in-None
returns-in-None g c =
    let set = sizes c.args.self.now in
    let s = viewed c.args.self.now in
    let room = join_room set s c.args.id c.requires in
    leads_within _ _ _ (ap (λ (t : List Peer). with_table t s) (c.push.ensures.after ∙ cond-false _ _ _ room) ∙ sym (join_alone set s c.args.id c.in-None.ensures)) refl refl refl

pub returns-in-Some : goal.returns-in-Some
returns-in-Some g c =
    let set = sizes c.args.self.now in
    let s = viewed c.args.self.now in
    let p = c.args.id in
    let a = c.in-Some.start in
    let x = c.in-Some.giver in
    let between = c.in-Some.ensures in
    let next = (both_some (predecessor set.size (members s.table) p) (successor set.size (members s.table) p) a x between).1 in
    let room = with_state_length x Giving s.table c.set_state.ensures (join_room set s p c.requires) in
    let place = join_place set s p c.requires x next in
    let table = c.push-in-Some.ensures.after ∙ cond-false _ _ _ room ∙ ap (λ (t : List Peer). t ++ peer p (Filling x a p) ∷ []) c.set_state.ensures in
    let post = c.put.ensures.after ∙ cond-false _ _ _ place in
    leads_posting _ _ _ ((λ j. with_post (post j) (with_table (table j) s)) ∙ sym (join_between set s p a x between)) refl refl c.put.ensures.same refl
