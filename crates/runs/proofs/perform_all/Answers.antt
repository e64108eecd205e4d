use Rattle.std.proofs.Common.{get_or, refl}
use Rattle.rules.specs.declared.Call.TheVariants.{Join}
use Rattle.rules.specs.declared.Answer.TheVariants.{Done}
use Rattle.runs.specs.declared.Order.{Order}
use Rattle.runs.proofs.Turns.{sofar_none, sofar_more, sofar_all}
use Rattle.runs.proofs.perform_all.Goals as goal

pub loop-order-init : goal.loop-order-init
loop-order-init g c = sofar_none c.args.orders.now c.args.ring.now

pub loop-order-preserved : goal.loop-order-preserved
loop-order-preserved g c =
    let at = c.loop-order in
    let none : Order = record { call = Join 0; answer = Done } in
    sofar_more c.args.orders.now c.args.ring.now at.order-index at.order-items at.ring at.invariant (get_or at.order-items at.order-index none).call c.perform-order.result c.perform-order.new.self c.loop-order-test.true at.auto.order-items none refl c.perform-order.ensures

pub returns : goal.returns
returns g c =
    let at = c.loop-order in
    sofar_all c.args.orders.now c.args.ring.now at.order-index at.order-items at.ring c.loop-order-test.false at.auto.order-items at.invariant
