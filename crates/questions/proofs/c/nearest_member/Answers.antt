use Rattle.std.proofs.Common.{ℕ, ◌/◌, w16, length, None, ap, ◌∙◌, rules, tests}
use Rattle.std.specs.Int.{from_be_bytes}
use Rattle.std.specs.Simd.{first_chunks}
use Rattle.std.proofs.lemmas.Iterator.{YieldsList-from_slice, YieldsList-from_map}
use Rattle.std.proofs.lemmas.Iterator.Consumers.{YieldsList-at}
use Rattle.circle.specs.Circle.{distance}
use Rattle.circle.specs.Owners.{owner, least_from}
use Rattle.arithmetic.proofs.Nearest.{nearest_is}
use Rattle.questions.proofs.Pairs.{members_paired}
use Rattle.questions.proofs.c.nearest_member.Goals as goal

pub returns : goal.returns
unfolding owner
returns c =
    let xs = c.args.members.now in
    let key : ℕ → ℕ = distance c.args.settings.size c.args.place in
    nearest_is _ key _ (λ x k q h. search rules) c.min_by_key.result c.min_by_key.ensures.ran
    (YieldsList-from_map _ (from_be_bytes w16) (YieldsList-at c.map.ensures.source (YieldsList-from_slice (first_chunks 2 (length xs / 2) xs) (cc))) c.map.ensures.closure (λ x r q k. search (rules, tests)))
    ∙ ap (least_from key None) (members_paired xs)
