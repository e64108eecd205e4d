use Rattle.std.proofs.Common.{refl, sym, ◌∙◌, rules, tests}
use Rattle.std.proofs.lemmas.Iterator.{YieldsList-from_range}
use Rattle.std.proofs.lemmas.Iterator.Adapters.{option_map_id}
use Rattle.std.proofs.lemmas.Iterator.Search.{find_from_yields_List}
use Rattle.lines.specs.Reading.{line_of}
use Rattle.orders.specs.Columns.{first_column}
use Rattle.orders.specs.Orders.{unreadable}
use Rattle.orders.proofs.orders.OrderLine.first_unreadable.Goals as goal

pub returns : goal.returns
unfolding first_column
returns c =
    sym (option_map_id c.find.result) ∙ find_from_yields_List (unreadable c.args.self.columns c.args.verb (line_of c.args.self.line)) _ _ c.find.result c.find.ensures.ran (YieldsList-from_range 1 7 6 refl refl) (λ x b q k. search (rules, tests))
