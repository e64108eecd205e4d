use Rattle.std.proofs.Common.{◌∙◌, rules, tests}
use Rattle.std.specs.Option.{is_some}
use Rattle.std.proofs.lemmas.Iterator.{YieldsList-from_slice}
use Rattle.std.proofs.lemmas.Iterator.Search.{any_from_yields_List}
use Rattle.tables.specs.Tables.{peers_of, member_of}
use Rattle.tables.proofs.Ties.{any_member}
use Rattle.tables.proofs.table.Table.has_members.Goals as goal

pub returns : goal.returns
returns c =
    any_from_yields_List (λ q. is_some (member_of q)) _ _ c.any.result c.any.ensures.ran (YieldsList-from_slice (peers_of c.args.self.now) (cc)) (λ x b q k. search (rules, tests))
    ∙ any_member (peers_of c.args.self.now)
