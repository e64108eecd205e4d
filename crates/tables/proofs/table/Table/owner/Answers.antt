use Rattle.std.proofs.Common.{rules, tests}
use Rattle.std.proofs.lemmas.Iterator.{YieldsList-from_slice}
use Rattle.circle.specs.Circle.{distance}
use Rattle.circle.specs.Owners.{owner}
use Rattle.arithmetic.proofs.Nearest.{nearest_is}
use Rattle.tables.specs.Tables.{peers_of}
use Rattle.tables.proofs.Members.{members_in}
use Rattle.tables.proofs.table.Table.owner.Goals as goal

pub returns : goal.returns
unfolding owner
returns c =
    nearest_is _ (distance c.args.settings.size c.args.place) _ (λ x k q h. search rules) c.min_by_key.result c.min_by_key.ensures.ran
    (members_in _ c.filter_map.ensures.source (YieldsList-from_slice (peers_of c.args.self.now) (cc)) c.filter_map.ensures.closure (λ x r q k. search (rules, tests)))
