use Rattle.layouts.specs.Layout.{same}
use Rattle.layouts.proofs.Forms.{read_same, read_other}
use Rattle.layouts.proofs.MessageTryFromFields.try_from.Goals as goal

pub returns-then-eq : goal.returns-then-eq
unfolding same
returns-then-eq c =
    read_same c.args.fields c.from.result c.message_of.result c.in_ok-message.message c.message_of.ensures c.in_ok-message.ensures.ok_part c.from.ensures c.if-eq.ensures

pub returns-else-eq : goal.returns-else-eq
unfolding same
returns-else-eq c =
    read_other c.args.fields c.from.result c.message_of.result c.in_ok-message.message c.message_of.ensures c.in_ok-message.ensures.ok_part c.from.ensures c.if-eq.ensures
