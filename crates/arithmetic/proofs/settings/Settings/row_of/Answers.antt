use Rattle.std.proofs.Common.{rules, tests}
use Rattle.arithmetic.specs.Checks.{place_in_row, place_row}
use Rattle.circle.specs.Circle.{most_copies}
use Rattle.arithmetic.proofs.Rows.{row_made}
use Rattle.arithmetic.proofs.settings.Settings.row_of.Goals as goal

pub returns : goal.returns
unfolding place_row
returns c =
    row_made _ (place_in_row c.args.self.size c.args.self.copies c.args.item) _ (λ i y q h. search (rules, tests)) c.from_fn.result most_copies c.from_fn.ensures.items
