use Rattle.std.proofs.Common.{rules, tests, position, ap, ◌∙◌, arith}
use Rattle.std.specs.List.{slice_get}
use Rattle.std.proofs.lemmas.Iterator.{YieldsList-from_range}
use Rattle.std.proofs.lemmas.Iterator.Consumers.{YieldsList-from_filter_map}
use Rattle.std.proofs.lemmas.Iterator.Search.{position_from_yields_List}
use Rattle.rules.specs.State.{asks}
use Rattle.post_scans.proofs.Positions.{looked_at}
use Rattle.post_scans.proofs.position_of_question.Goals as goal

pub returns : goal.returns
returns g c =
    let ms = g.P.Post.waiting c.args.post.now in
    position_from_yields_List (asks c.args.number) _ _ c.position.result c.position.ensures.ran
    (YieldsList-from_filter_map _ (slice_get ms) (YieldsList-from_range 0 c.count.result c.count.result c.filter_map.ensures.source (omega arith)) c.filter_map.ensures.closure (λ i r q k. search (rules, tests)))
    (λ m b q k. search (rules, tests))
    ∙ ap (position (asks c.args.number)) (looked_at c.count.result ms c.count.ensures)
