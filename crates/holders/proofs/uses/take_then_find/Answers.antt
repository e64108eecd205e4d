use Rattle.std.proofs.Common.{ap, ◌∙◌}
use Rattle.copies.specs.Copies.{find}
use Rattle.copies.proofs.Facts.{find_remove}
use Rattle.holders.proofs.uses.take_then_find.Goals as goal

pub returns : goal.returns
returns g c =
    c.find.ensures ∙ (ap (λ m. find m c.args.at) c.take.ensures.after ∙ find_remove _ c.args.at (g.met.S.Shelf.ordered _))
