use Rattle.std.proofs.Common.{refl, rules}
use Rattle.racks.specs.Racks.{parts_of}
use Rattle.rack_shelves.proofs.Changes.{put_over, put_new}
use Rattle.rack_shelves.proofs.shelving.RackShelfShelf.put.Goals as goal

pub invariant_of-self : goal.invariant_of-self
invariant_of-self c =
    let s = c.args.self.now in
    record { apart = (put_over (parts_of s.rack) c.args.at c.args.entry s.apart c.in_use.ensures c.in-Some.ensures c.overwrite.ensures).apart }

pub returns-in-Some : goal.returns-in-Some
returns-in-Some c =
    let s = c.args.self.now in
    let done = put_over (parts_of s.rack) c.args.at c.args.entry s.apart c.in_use.ensures c.in-Some.ensures c.overwrite.ensures in
    record { value = done.value; after = done.after; cells = done.cells; same = done.same }

pub invariant_of-self-in-None : goal.invariant_of-self-in-None
invariant_of-self-in-None c =
    let s = c.args.self.now in
    record { apart = (put_new (parts_of s.rack) c.args.at c.args.entry _ s.apart c.in_use.ensures c.in-None.ensures c.add.ensures.after refl).apart }

pub returns-in-None : goal.returns-in-None
returns-in-None c =
    let s = c.args.self.now in
    let done = put_new (parts_of s.rack) c.args.at c.args.entry c.map_err.result s.apart c.in_use.ensures c.in-None.ensures c.add.ensures.after (search rules) in
    record { value = done.value; after = done.after; cells = done.cells; same = done.same }
