use Rattle.std.proofs.Common.{◌≡◌, ◌-◌, length, take, drop, replicate, ap, ◌∙◌, arith}
use Rattle.std.proofs.lemmas.List.{length-take, length-drop}
use Rattle.slices.proofs.Parts.{filled_is}
use Rattle.slices.proofs.fill.Goals as goal

pub returns-then-to-places : goal.returns-then-to-places
returns-then-to-places g c =
    let xs = c.args.places.now in
    let from = c.args.from in
    let to = c.args.to in
    let n : length (take (to - from) (drop from xs)) ≡ to - from = omega (arith, length-take (to - from) (drop from xs), length-drop from xs) in
    filled_is xs from to c.args.item _ c.if-from-to.true c.if-to-places.true (c.cover.ensures ∙ ap (λ k. replicate k c.args.item) n)
