use Rattle.std.proofs.Common.{sym, ◌∙◌}
use Rattle.log_shelves.specs.Held.{held_in}
use Rattle.log_shelves.proofs.Changes.{some_counted, take_some, take_nothing}
use Rattle.log_shelves.proofs.shelving.LogShelfShelf.take.Goals as goal

pub returns-in_err-entry : goal.returns-in_err-entry
returns-in_err-entry c =
    let s = c.args.self.now in
    let done = take_nothing (held_in s.tray) c.args.at s.kept s.counted (sym c.find.ensures ∙ c.in_err-entry.was) in
    record { value = c.from_residual.ensures ∙ (sym c.in_err-entry.was ∙ c.find.ensures); after = done.after; cells = done.cells; same = done.same }

pub overflow_sub-self : goal.overflow_sub-self
overflow_sub-self c =
    let s = c.args.self.now in
    some_counted (held_in s.tray).items c.args.at c.in_ok-entry.entry s.kept s.counted (sym c.find.ensures ∙ c.in_ok-entry.was)

pub invariant_of-self : goal.invariant_of-self
invariant_of-self c =
    let s = c.args.self.now in
    record { counted = (take_some (held_in s.tray) (held_in c.lose.new.records) c.args.at c.in_ok-entry.entry s.kept s.counted (sym c.find.ensures ∙ c.in_ok-entry.was) c.lose.ensures).kept }

pub returns : goal.returns
returns c =
    let s = c.args.self.now in
    let done = take_some (held_in s.tray) (held_in c.lose.new.records) c.args.at c.in_ok-entry.entry s.kept s.counted (sym c.find.ensures ∙ c.in_ok-entry.was) c.lose.ensures in
    record { value = sym c.in_ok-entry.was ∙ c.find.ensures; after = done.after; cells = done.cells; same = done.same }
