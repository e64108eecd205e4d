use Rattle.std.proofs.Common.{◌+◌, List, ◌++◌, refl, ap, ◌∙◌, arith}
use Rattle.messages.specs.declared.Message.{Message}
use Rattle.rules.specs.State.{with_post, with_stamp}
use Rattle.rules.specs.Rules.{inserted}
use Rattle.tables.specs.Tables.{peers_of}
use Rattle.ring.specs.Views.{viewed, sizes}
use Rattle.ring.proofs.Performing.{leads_posting}
use Rattle.ring.proofs.Itemings.{insert_accepted}
use Rattle.ring.proofs.Sending.{additions_same}
use Rattle.ring.proofs.ring.Ring.send_copies.Goals as goal

pub send_additions-requires : goal.send_additions-requires
send_additions-requires g c =
    let r = c.args.self.now in
    (insert_accepted (sizes r) (viewed r) c.args.item r.settings.kept c.requires).enough

pub overflow_add-self : goal.overflow_add-self
overflow_add-self g c =
    let r = c.args.self.now in
    let unspent = (insert_accepted (sizes r) (viewed r) c.args.item r.settings.kept c.requires).unspent in
    omega arith

pub returns : goal.returns
unfolding inserted
returns g c =
    let r = c.args.self.now in
    let set = sizes r in
    let s = viewed r in
    let same = additions_same set.size set.copies 0 0 set.cells set.slots (peers_of r.table) c.args.item r.stamp c.args.value set.copies in
    leads_posting _ _ _ (ap (λ (ps : List Message). with_stamp (s.stamp + 1) (with_post ps s)) (c.send_additions.ensures.after ∙ ap (λ (l : List Message). s.post ++ l) same)) refl refl c.send_additions.ensures.same refl
