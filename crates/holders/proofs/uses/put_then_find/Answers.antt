use Rattle.holders.proofs.Refusals.{accepted, found_again}
use Rattle.holders.proofs.uses.put_then_find.Goals as goal

pub returns : goal.returns
returns g c =
    found_again _ _ _ c.args.at c.args.entry c.find.result _ (accepted _ _ _ _ _ c.put.ensures.value c.in_ok-put.was) c.put.ensures.after c.find.ensures
