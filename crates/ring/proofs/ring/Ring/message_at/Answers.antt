use Rattle.std.proofs.Common.{ℕ, ◌-◌, true, false, Some, sym, ap, ◌∙◌}
use Rattle.faults.specs.declared.Fault.TheVariants.{ShelfFull}
use Rattle.ring.specs.Views.{viewed, sizes}
use Rattle.ring.proofs.Delivering.{nothing_there, message_there}
use Rattle.ring.proofs.ring.Ring.message_at.Goals as goal

pub returns-in_default : goal.returns-in_default
returns-in_default g c =
    let r = c.args.self.now in
    nothing_there (sizes r) (viewed r) c.args.n (sym c.in_default.ensures)

pub returns-then-is_cramped : goal.returns-then-is_cramped
returns-then-is_cramped g c =
    let r = c.args.self.now in
    let left = c.room_left.ensures ∙ ap (λ (n : ℕ). g.S.Holder.room r.shelf.now - n) (r.shelf_counted r.shelf.now) in
    message_there (sizes r) (viewed r) c.args.n c.in-Some.message true (sym c.in-Some.ensures) (sym c.if-is_cramped.ensures) ∙ ap (λ (x : ℕ). Some (ShelfFull x)) (sym left)

pub returns : goal.returns
returns g c =
    let r = c.args.self.now in
    let there = sym c.in-Some.ensures in
    (message_there (sizes r) (viewed r) c.args.n c.in-Some.message false there (sym c.if-is_cramped.ensures), there)
