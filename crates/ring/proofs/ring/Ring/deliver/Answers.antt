use Rattle.std.proofs.Common.{◌≡◌, List, Some, refl, ap, ◌∙◌}
use Rattle.std.specs.List.{remove}
use Rattle.messages.specs.declared.Message.{Message}
use Rattle.rules.specs.declared.Call.TheVariants.{Deliver}
use Rattle.rules.specs.State.{state_of, addressee, with_post}
use Rattle.rules.specs.Rules.{delivered, delivering}
use Rattle.rules.specs.Edits.{delivery_edits}
use Rattle.ring.specs.Views.{viewed, sizes}
use Rattle.ring.proofs.Performing.{leads_posting, performs_refused, performs_delivery}
use Rattle.ring.proofs.Delivering.{place_again, not_cramped, cramped_taken, edits_taken, slotted}
use Rattle.ring.proofs.ring.Ring.deliver.Goals as goal

pub receive-requires : goal.receive-requires
receive-requires g c =
    let r = c.args.self.now in
    let set = sizes r in
    let s = viewed r in
    let there = c.in-Ok.ensures in
    let same = r.post_sized _ _ c.take.ensures.same in (
      place_again s.post (g.P.Post.waiting c.take.new.self) c.args.n c.in-Ok.message set.slots (g.P.Holder.room c.take.new.self) (g.P.Holder.held r.post.now) there.1 c.take.ensures.after (r.post_counted r.post.now) (g.met.P.Holder.within r.post.now) same,
      cramped_taken set s (g.P.Holder.room c.take.new.self) (g.P.Post.waiting c.take.new.self) c.in-Ok.message ∙ not_cramped set s c.args.n c.in-Ok.message there.1 there.0,
    )

pub returns-in-Err : goal.returns-in-Err
returns-in-Err g c = performs_refused (Deliver c.args.n) c.args.self.now c.in-Err.fault c.in-Err.ensures

pub returns-in-Ok : goal.returns-in-Ok
returns-in-Ok g c =
    let r = c.args.self.now in
    let set = sizes r in
    let s = viewed r in
    let n = c.args.n in
    let m = c.in-Ok.message in
    let there = c.in-Ok.ensures.1 in
    let waiting = g.P.Post.waiting c.take.new.self in
    let slots = g.P.Holder.room c.take.new.self in
    let size = r.post_sized _ _ c.take.ensures.same in
    let taken = with_post (remove s.post n) s in
    let rule = delivered set taken (state_of s.table (addressee m)) m in
    let same : delivered (slotted set slots) (with_post waiting s) (state_of s.table (addressee m)) m ≡ rule = λ j. delivered (slotted set (size j)) (with_post (c.take.ensures.after j) s) (state_of s.table (addressee m)) m in
    let edits = edits_taken set s slots waiting m in
    performs_delivery (Deliver n) r _ c.receive.new.self c.receive.result _ rule _ (delivery_edits set s (Some m)) c.in-Ok.ensures.0 (ap (delivering set s n) there) (ap (delivery_edits set s) there) same edits taken
    (leads_posting _ _ _ (ap (λ (l : List Message). with_post l s) c.take.ensures.after) refl refl c.take.ensures.same refl)
    c.receive.ensures
