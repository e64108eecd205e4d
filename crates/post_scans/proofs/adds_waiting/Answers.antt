use Rattle.std.proofs.Common.{rules, tests, ◌∙◌, arith}
use Rattle.std.specs.List.{slice_get}
use Rattle.std.proofs.lemmas.Iterator.{YieldsList-from_range}
use Rattle.std.proofs.lemmas.Iterator.Consumers.{YieldsList-from_filter, YieldsList-from_filter_map, YieldsList-at, count_from_yields_List}
use Rattle.rules.specs.State.{is_add}
use Rattle.post_scans.proofs.Positions.{adds_looked_at}
use Rattle.post_scans.proofs.adds_waiting.Goals as goal

pub returns : goal.returns
returns g c =
    let ms = g.P.Post.waiting c.args.post.now in
    count_from_yields_List c.filter.result c.count-2.result c.count-2.ensures.ran
    (YieldsList-from_filter _ is_add
    (YieldsList-at c.filter.ensures.source (YieldsList-from_filter_map _ (slice_get ms) (YieldsList-from_range 0 c.count.result c.count.result c.filter_map.ensures.source (omega arith)) c.filter_map.ensures.closure (λ i r q k. search (rules, tests))))
    c.filter.ensures.closure (λ m b q k. search (rules, tests)))
    ∙ adds_looked_at c.count.result ms c.count.ensures
