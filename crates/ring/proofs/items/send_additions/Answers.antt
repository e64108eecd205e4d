use Rattle.std.proofs.Common.{◌≡◌, ℕ, ◌+◌, ◌-◌, ◌++◌, ap, ◌∙◌, arith}
use Rattle.rules.specs.Rules.{additions}
use Rattle.tables.specs.Tables.{peers_of}
use Rattle.ring.specs.Views.{sized}
use Rattle.ring.proofs.Sending.{addition_is, sent_here}
use Rattle.ring.proofs.items.send_additions.Goals as goal

pub loop-replica-preserved : goal.loop-replica-preserved
loop-replica-preserved g c =
    let set = sized c.args.settings in
    let t = peers_of c.args.table.now in
    let i = c.loop-replica.replica in
    let is = addition_is set t c.args.item c.args.stamp c.args.value i c.unwrap_or-to.result c.place_of-place.result c.owner.result c.place_of-place.ensures c.owner.ensures c.unwrap_or-to.ensures in
    let next : i ≡ i + 1 - 1 = omega arith in (
      sent_here set t c.args.item c.args.stamp c.args.value (g.P.Post.waiting c.args.post.now) _ _ i c.args.settings.copies _ _ _ c.loop-replica.invariant.0 (omega arith) (omega (arith, c.loop-replica-test.true, c.copies-copies.ensures)) c.requires (g.met.P.Holder.sized _ _ c.loop-replica.invariant.1) c.put.ensures.after is
          ∙ ap (λ (n : ℕ). g.P.Post.waiting c.args.post.now ++ additions set t c.args.item c.args.stamp c.args.value n) next,
      c.put.ensures.same ∙ c.loop-replica.invariant.1,
    )

pub returns-2-clause-after : goal.returns-2-clause-after
returns-2-clause-after g c =
    let set = sized c.args.settings in
    let t = peers_of c.args.table.now in
    let i = c.loop-replica.replica in
    let is = addition_is set t c.args.item c.args.stamp c.args.value i c.unwrap_or-to.result c.place_of-place.result c.owner.result c.place_of-place.ensures c.owner.ensures c.unwrap_or-to.ensures in
    let last : i ≡ c.args.settings.copies = omega (arith, c.copies-copies.ensures) in
    sent_here set t c.args.item c.args.stamp c.args.value (g.P.Post.waiting c.args.post.now) _ _ i c.args.settings.copies _ _ _ c.loop-replica.invariant.0 (omega arith) (omega (arith, c.loop-replica-test.true, c.copies-copies.ensures)) c.requires (g.met.P.Holder.sized _ _ c.loop-replica.invariant.1) c.put.ensures.after is
    ∙ ap (λ (n : ℕ). g.P.Post.waiting c.args.post.now ++ additions set t c.args.item c.args.stamp c.args.value n) last
