use Rattle.circle.specs.Owners.{owner}
use Rattle.circle.specs.Circle.{distance}
use Rattle.std.proofs.Common.{rules}
use Rattle.std.proofs.lemmas.Iterator.{YieldsList-from_slice}
use Rattle.std.proofs.lemmas.Iterator.Consumers.{YieldsList-from_copied}
use Rattle.arithmetic.proofs.Nearest.{nearest_is}
use Rattle.arithmetic.proofs.settings.Settings.owner.Goals as goal

pub returns : goal.returns
unfolding owner
returns c = nearest_is _ (distance c.args.self.size c.args.place) _ (λ x k q h. search rules) c.min_by_key.result c.min_by_key.ensures.ran (YieldsList-from_copied (YieldsList-from_slice c.args.members.now (cc)))
