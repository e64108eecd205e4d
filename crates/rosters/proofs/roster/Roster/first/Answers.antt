use Rattle.std.proofs.Common.{eqb, ◌∙◌, rules, tests}
use Rattle.std.proofs.lemmas.Iterator.{YieldsList-from_slice}
use Rattle.std.proofs.lemmas.Iterator.Search.{find_from_yields_List}
use Rattle.rosters.specs.Rosters.{listed}
use Rattle.rosters.proofs.roster.Roster.first.Goals as goal

pub returns : goal.returns
returns g c =
    c.copied.ensures ∙ find_from_yields_List (λ x. eqb (g.T.Keyed.keyed x) c.args.wanted) _ _ c.find.result c.find.ensures.ran (YieldsList-from_slice (listed c.args.self.now) (cc)) (λ x b q k. search (rules, tests))
