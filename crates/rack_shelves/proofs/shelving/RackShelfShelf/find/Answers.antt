use Rattle.std.proofs.Common.{sym, ap, ◌∙◌}
use Rattle.copies.specs.Copies.{find, from_records}
use Rattle.rack_shelves.proofs.Changes.{find_read, find_not_read}
use Rattle.rack_shelves.proofs.shelving.RackShelfShelf.find.Goals as goal

pub returns : goal.returns
returns c =
    let at = c.args.at in
    find_read c.in_use-copies.result.now at c.in_ok-place.place _ (sym c.in_ok-place.was ∙ c.position_of.ensures) ∙ ap (λ u. find (from_records u) at) c.in_use-copies.ensures

pub returns-in_err-place : goal.returns-in_err-place
returns-in_err-place c =
    let at = c.args.at in
    c.from_residual.ensures ∙ (find_not_read c.in_use-copies.result.now at (sym c.in_err-place.was ∙ c.position_of.ensures) ∙ ap (λ u. find (from_records u) at) c.in_use-copies.ensures)
