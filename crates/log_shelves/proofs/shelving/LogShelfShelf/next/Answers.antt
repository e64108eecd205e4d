use Rattle.std.proofs.Common.{map, sym, ap, ◌∙◌}
use Rattle.copies.specs.Copies.{first_in_range}
use Rattle.rows.proofs.Laid.{read_again}
use Rattle.logs.specs.Lines.{line_in, line_form}
use Rattle.logs.specs.Logs.{copies_of}
use Rattle.logs.proofs.Meanings.{next_meaning}
use Rattle.log_shelves.specs.Trays.{records_in}
use Rattle.log_shelves.specs.Held.{held_in}
use Rattle.log_shelves.proofs.shelving.LogShelfShelf.next.Goals as goal

pub returns : goal.returns
returns c =
    let records = records_in (held_in c.args.self.now.tray) in
    c.next_in.ensures ∙ (ap (λ xs. first_in_range (copies_of xs) c.args.peer c.args.low c.args.high) (ap (map line_in) c.in_use.ensures ∙ read_again line_form records) ∙ sym (next_meaning records c.args.peer c.args.low c.args.high))
