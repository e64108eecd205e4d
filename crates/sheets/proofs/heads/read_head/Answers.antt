use Rattle.std.proofs.lemmas.Result.{err_from_is_err_and}
use Rattle.sheets.proofs.Opened.{first_refused, second_refused, third_refused, all_read}
use Rattle.sheets.proofs.heads.read_head.Goals as goal

pub returns-in_err-read_at : goal.returns-in_err-read_at
returns-in_err-read_at c =
    let p = err_from_is_err_and c.from_residual.result c.from_residual.ensures.1 in
    rw (p.1, p.2) (first_refused c.args.lines c.take_line-first.new.lines c.take_line-first.result c.take_line-first.ensures c.read_names.result c.read_names.ensures c.in_err-read_at.field-0.0 c.in_err-read_at.ensures)

pub returns-in_err-settings : goal.returns-in_err-settings
returns-in_err-settings c =
    let p = err_from_is_err_and c.from_residual-in_err-settings.result c.from_residual-in_err-settings.ensures.1 in
    rw (p.1, p.2) (second_refused c.args.lines c.take_line-first.new.lines c.take_line-first.result c.take_line-first.ensures c.read_names.result c.read_names.ensures c.take_line-second.new.lines c.take_line-second.result c.take_line-second.ensures tt c.in_ok-read_at.ensures c.read_settings.result c.read_settings.ensures c.in_err-settings.field-0.0 c.in_err-settings.ensures)

pub returns-in_err-columns : goal.returns-in_err-columns
returns-in_err-columns c =
    let p = err_from_is_err_and c.from_residual-in_err-columns.result c.from_residual-in_err-columns.ensures.1 in
    rw (p.1, p.2) (third_refused c.args.lines c.take_line-first.new.lines c.take_line-first.result c.take_line-first.ensures c.read_names.result c.read_names.ensures c.take_line-second.new.lines c.take_line-second.result c.take_line-second.ensures tt c.in_ok-read_at.ensures c.read_settings.result c.read_settings.ensures c.take_line-third.new.lines c.take_line-third.result c.take_line-third.ensures c.in_ok-settings.settings c.in_ok-settings.ensures c.read_columns.result c.read_columns.ensures c.in_err-columns.field-0.0 c.in_err-columns.ensures)

pub returns : goal.returns
returns c = all_read c.args.lines c.take_line-first.new.lines c.take_line-first.result c.take_line-first.ensures c.read_names.result c.read_names.ensures c.take_line-second.new.lines c.take_line-second.result c.take_line-second.ensures tt c.in_ok-read_at.ensures c.read_settings.result c.read_settings.ensures c.take_line-third.new.lines c.take_line-third.result c.take_line-third.ensures c.in_ok-settings.settings c.in_ok-settings.ensures c.read_columns.result c.read_columns.ensures c.in_ok-columns.columns c.in_ok-columns.ensures
