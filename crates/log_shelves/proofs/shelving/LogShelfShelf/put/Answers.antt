use Rattle.std.proofs.Common.{◌≡◌, true, false, is_some, arith}
use Rattle.copies.specs.Copies.{find}
use Rattle.rows.proofs.Trays.{within}
use Rattle.logs.specs.Lines.{line_form}
use Rattle.logs.specs.Logs.{meaning_of}
use Rattle.log_shelves.specs.Held.{held_in}
use Rattle.log_shelves.proofs.Changes.{put_over, put_new, put_refused}
use Rattle.log_shelves.proofs.shelving.LogShelfShelf.put.Goals as goal

pub invariant_of-self : goal.invariant_of-self
invariant_of-self c =
    let s = c.args.self.now in
    let h = held_in s.tray in
    let there : is_some (find (meaning_of h.items) c.args.at) ≡ true = cc in
    record { counted = (put_over h (held_in c.keep.new.records) c.args.at c.args.entry s.kept (within line_form s.tray) s.counted there c.keep.ensures).kept }

pub returns-then-is_some : goal.returns-then-is_some
returns-then-is_some c =
    let s = c.args.self.now in
    let h = held_in s.tray in
    let there : is_some (find (meaning_of h.items) c.args.at) ≡ true = cc in
    let done = put_over h (held_in c.keep.new.records) c.args.at c.args.entry s.kept (within line_form s.tray) s.counted there c.keep.ensures in
    record { value = done.value; after = done.after; cells = done.cells; same = done.same }

pub returns-then-self-size : goal.returns-then-self-size
returns-then-self-size c =
    let s = c.args.self.now in
    let h = held_in s.tray in
    let absent : is_some (find (meaning_of h.items) c.args.at) ≡ false = cc in
    let done = put_refused h c.args.at c.args.entry s.kept s.counted absent (omega arith) in
    record { value = done.value; after = done.after; cells = done.cells; same = done.same }

pub invariant_of-self-2 : goal.invariant_of-self-2
invariant_of-self-2 c =
    let s = c.args.self.now in
    let h = held_in s.tray in
    let absent : is_some (find (meaning_of h.items) c.args.at) ≡ false = cc in
    record { counted = (put_new h (held_in c.keep-2.new.records) c.args.at c.args.entry s.kept (within line_form s.tray) s.counted absent (omega arith) c.keep-2.ensures).kept }

pub returns : goal.returns
returns c =
    let s = c.args.self.now in
    let h = held_in s.tray in
    let absent : is_some (find (meaning_of h.items) c.args.at) ≡ false = cc in
    let done = put_new h (held_in c.keep-2.new.records) c.args.at c.args.entry s.kept (within line_form s.tray) s.counted absent (omega arith) c.keep-2.ensures in
    record { value = done.value; after = done.after; cells = done.cells; same = done.same }
