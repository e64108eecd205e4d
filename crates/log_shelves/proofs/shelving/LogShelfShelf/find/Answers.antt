use Rattle.std.proofs.Common.{map, sym, ap, ◌∙◌}
use Rattle.copies.specs.Copies.{find}
use Rattle.copies.proofs.Records.{find_from_records}
use Rattle.rows.proofs.Laid.{read_again}
use Rattle.logs.specs.Lines.{line_in, line_form}
use Rattle.logs.specs.Logs.{copies_of}
use Rattle.log_shelves.specs.Trays.{records_in}
use Rattle.log_shelves.specs.Held.{held_in}
use Rattle.log_shelves.proofs.shelving.LogShelfShelf.find.Goals as goal

pub returns : goal.returns
returns c =
    let records = records_in (held_in c.args.self.now.tray) in
    c.find_in.ensures ∙ (ap (λ xs. find (copies_of xs) c.args.at) (ap (map line_in) c.in_use.ensures ∙ read_again line_form records) ∙ sym (find_from_records (copies_of records) c.args.at))
