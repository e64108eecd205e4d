use Rattle.std.proofs.Common.{rules, tests}
use Rattle.std.proofs.lemmas.Iterator.{YieldsList-from_slice}
use Rattle.circle.specs.Circle.{distance}
use Rattle.circle.specs.Owners.{predecessor}
use Rattle.arithmetic.proofs.Nearest.{nearest_is}
use Rattle.tables.specs.Tables.{peers_of}
use Rattle.tables.proofs.Members.{members_in, others_in}
use Rattle.tables.proofs.table.Table.predecessor.Goals as goal

pub returns : goal.returns
unfolding predecessor
returns c =
    nearest_is _ (λ q. distance c.args.settings.size q c.args.id) _ (λ x k q h. search rules) c.min_by_key.result c.min_by_key.ensures.ran
    (others_in _ c.args.id c.filter.ensures.source (members_in _ c.filter_map.ensures.source (YieldsList-from_slice (peers_of c.args.self.now) (cc)) c.filter_map.ensures.closure (λ x r q k. search (rules, tests))) c.filter.ensures.closure (λ x r q k. search (rules, tests)))
