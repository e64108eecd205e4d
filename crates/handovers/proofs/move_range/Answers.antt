use Rattle.std.proofs.Common.{length, sym, ap, arith}
use Rattle.copies.proofs.Facts.{next_found}
use Rattle.handovers.proofs.Turns.{one_less, few_gone, sofar_more, all_gone}
use Rattle.handovers.proofs.move_range.Goals as goal

pub move_one-requires : goal.move_one-requires
move_one-requires g c = next_found _ c.args.giver c.args.low c.args.high c.in-Some.one (g.met.S.Shelf.ordered _) (sym c.in-Some.ensures)

-- what is counted was on the shelf
pub overflow_add-count : goal.overflow_add-count
overflow_add-count g c =
    let s = c.args.shelf.now in
    let few = few_gone c.loop-one.invariant c.requires c.in-Some.ensures c.move_one.new.shelf c.move_one.ensures in
    omega (arith, g.met.S.Shelf.counted s, g.met.S.Holder.within s, g.met.S.Holder.bounded s, g.met.S.Holder.counted)

pub loop-one-smaller : goal.loop-one-smaller
loop-one-smaller g c =
    let turn = ap length (one_less c.loop-one.invariant c.requires c.in-Some.ensures c.move_one.new.shelf c.move_one.ensures) in
    omega arith

pub loop-one-preserved : goal.loop-one-preserved
loop-one-preserved g c = sofar_more c.loop-one.invariant c.requires c.in-Some.ensures c.move_one.new.shelf c.move_one.ensures

pub returns : goal.returns
returns g c =
    let h = c.loop-one.invariant in
    let all = all_gone h c.in_default.ensures in
    record { value = rw all at h.counts; done = rw all at h.moves }
