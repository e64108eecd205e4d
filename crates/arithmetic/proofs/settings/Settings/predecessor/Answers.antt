use Rattle.circle.specs.Owners.{predecessor, least_from}
use Rattle.circle.specs.Circle.{distance}
use Rattle.std.proofs.Common.{ℕ, None, sym, ap, ◌∙◌, rules, tests}
use Rattle.std.proofs.lemmas.Iterator.{YieldsList-from_slice}
use Rattle.std.proofs.lemmas.Iterator.Consumers.{YieldsList-from_copied, YieldsList-from_filter, YieldsList-at}
use Rattle.arithmetic.proofs.Kept.{others_filter}
use Rattle.arithmetic.proofs.Nearest.{nearest_is}
use Rattle.arithmetic.proofs.settings.Settings.predecessor.Goals as goal

pub returns : goal.returns
unfolding predecessor
returns c =
    let key : ℕ → ℕ = (λ q. distance c.args.self.size q c.args.peer) in
    nearest_is _ key _ (λ x k q h. search rules) c.min_by_key.result c.min_by_key.ensures.ran
    (YieldsList-from_filter _ _ (YieldsList-at c.filter.ensures.source (YieldsList-from_copied (YieldsList-from_slice c.args.members.now (cc)))) c.filter.ensures.closure (λ x r q k. search (rules, tests)))
    ∙ ap (least_from key None) (sym (others_filter c.args.peer c.args.members.now))
