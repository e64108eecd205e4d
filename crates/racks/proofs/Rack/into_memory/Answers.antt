use Rattle.std.proofs.Common.{sym, ◌∙◌}
use Rattle.racks.specs.Racks.{parts_of}
use Rattle.racks.proofs.Cuts.{joined_cut}
use Rattle.racks.proofs.Stays.{memory_clean}
use Rattle.racks.proofs.Rack.into_memory.Goals as goal

pub returns-clause-value : goal.returns-clause-value
returns-clause-value g c =
    let s = c.args.self in
    sym (joined_cut s.records.ghost_name s.records.now s.largest s.count) ∙ memory_clean g.T.Blank.nothing (parts_of s) s.sound.clean

pub returns-clause-whole : goal.returns-clause-whole
returns-clause-whole g c =
    let s = c.args.self in
    sym (joined_cut s.records.ghost_name s.records.now s.largest s.count)
