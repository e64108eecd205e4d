use Rattle.log_shelves.proofs.Moves.{moved}
use Rattle.log_shelves.proofs.records.move_up.Goals as goal

pub invariant_of-records : goal.invariant_of-records
invariant_of-records c =
    let s = c.args.records.now in
    let done = moved s.bytes.ghost_name s.bytes.now s.count c.args.at s.tidy s.inside in
    rw (c.compact-records.ensures.after, c.compact-records.ensures.value) (record { tidy = done.tidy; inside = done.inside })

pub returns : goal.returns
returns c =
    let s = c.args.records.now in
    let done = moved s.bytes.ghost_name s.bytes.now s.count c.args.at s.tidy s.inside in
    rw (c.compact-records.ensures.after, c.compact-records.ensures.value) done.is
