use Rattle.std.proofs.Common.{◌≡◌, ◌-◌, ◌++◌}
use Rattle.rules.specs.Rules.{additions}
use Rattle.tables.specs.Tables.{peers_of}
use Rattle.ring.specs.Views.{sized}
use Rattle.ring.proofs.items.send_additions.Given as goal

-- those for the replicas before this one have been sent
abbrev pub invariant-loop-replica : goal.invariant-loop-replica
invariant-loop-replica g l =
    (g.P.Post.waiting l.post ≡ g.P.Post.waiting l.initial.post ++ additions (sized l.settings) (peers_of l.table) l.item l.stamp l.value (l.replica - 1))
    × (g.P.Holder.frame l.post ≡ g.P.Holder.frame l.initial.post)
