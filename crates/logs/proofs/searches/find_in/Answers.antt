use Rattle.std.proofs.Common.{◌≡◌, sym, ◌∙◌, Some, None, rules}
use Rattle.logs.proofs.Meanings.{last_decides}
use Rattle.logs.proofs.searches.find_in.Goals as goal

pub returns-in_err-last_of : goal.returns-in_err-last_of
returns-in_err-last_of c =
    let none : c.from_residual.result ≡ None = search rules in
    none ∙ last_decides None _ _ (sym c.in_err-last_of.was ∙ c.last_of.ensures)

pub returns : goal.returns
returns c =
    c.says.ensures ∙ last_decides (Some c.in_ok-last_of.field-0) _ _ (sym c.in_ok-last_of.was ∙ c.last_of.ensures)
