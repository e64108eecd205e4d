use Rattle.std.proofs.Common.{refl, ap, ◌∙◌, arith}
use Rattle.copies.specs.Copies.{find}
use Rattle.holders.proofs.Refusals.{nothing_kept}
use Rattle.holders.proofs.uses.empty_then_find.Goals as goal

pub returns : goal.returns
returns g c =
    c.find.ensures ∙ ap (λ m. find m c.args.at) (nothing_kept _ _ _ (g.met.S.Shelf.counted _) refl (omega arith))
