use Rattle.std.proofs.Common.{◌∙◌}
use Rattle.post_scans.proofs.Positions.{taken, none_taken}
use Rattle.post_scans.proofs.withdraw.Goals as goal

pub returns-in-Some-clause-after : goal.returns-in-Some-clause-after
returns-in-Some-clause-after g c = c.take.ensures.after ∙ taken c.args.number (g.P.Post.waiting c.args.post.now) c.in-Some.n c.in-Some.ensures

pub returns-in_default-clause-after : goal.returns-in_default-clause-after
returns-in_default-clause-after g c = none_taken c.args.number (g.P.Post.waiting c.args.post.now) c.in_default.ensures
