use Rattle.std.proofs.Common.{None, reverse, sym, ap, ◌∙◌}
use Rattle.std.specs.List.{fold}
use Rattle.copies.specs.Copies.{nearer_in_range}
use Rattle.copies.proofs.Records.{next_from_records}
use Rattle.racks.specs.Racks.{parts_of}
use Rattle.rack_shelves.proofs.Finding.{first_folded}
use Rattle.rack_shelves.proofs.shelving.RackShelfShelf.next.Goals as goal

pub returns : goal.returns
returns c =
    let s = c.args.self.now in
    let peer = c.args.peer in
    let low = c.args.low in
    let high = c.args.high in
    let copies = (parts_of s.rack).used in
    c.first_in_range.ensures ∙ (ap (λ t. fold (λ best x. nearer_in_range peer low high x best) None (reverse t)) c.in_use.ensures ∙ (first_folded copies peer low high ∙ sym (next_from_records copies peer low high s.apart)))
