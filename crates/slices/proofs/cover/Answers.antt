use Rattle.std.proofs.Common.{set, ap, ◌∙◌}
use Rattle.slices.proofs.Parts.{one_more}
use Rattle.slices.proofs.cover.Goals as goal

pub loop-place-preserved : goal.loop-place-preserved
loop-place-preserved g c =
    let i = c.loop-place.place-index in
    ap (λ t. set t i c.args.item) c.loop-place.invariant ∙ one_more c.args.places.now i c.args.item c.loop-place-test.true
