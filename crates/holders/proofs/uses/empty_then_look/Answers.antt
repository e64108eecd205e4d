use Rattle.std.proofs.Common.{refl, ap, ◌∙◌, arith}
use Rattle.std.specs.List.{slice_get}
use Rattle.holders.proofs.Refusals.{nothing_kept}
use Rattle.holders.proofs.uses.empty_then_look.Goals as goal

pub returns : goal.returns
returns g c =
    c.look.ensures ∙ ap (λ m. slice_get m c.args.n) (nothing_kept _ _ _ (g.met.P.Post.counted _) refl (omega arith))
