use Rattle.std.proofs.Common.{◌≡◌, ◌+◌, ◌-◌, ◌*◌, ◌/◌, ◌<◌, ◌≤◌, take, drop, length, replicate, sym, ap, ◌∙◌, arith}
use Rattle.std.proofs.lemmas.List.{length-take, length-drop}
use Rattle.std.proofs.lemmas.Bool.{not-true, not-false}
use Rattle.copies.specs.Copies.{same}
use Rattle.logs.specs.Lines.{line_bytes}
use Rattle.logs.specs.Logs.{lasts}
use Rattle.logs.proofs.Meanings.{squeezed_own}
use Rattle.logs.proofs.Moves.{moved_past, moved_in, moved_out, moved_all, filled, carried, first_read, later_read, row_read}
use Rattle.logs.proofs.compaction.compact.Goals as goal
use Rattle.logs.proofs.compaction.compact.Goals.{then-ne+then-lasts, else-ne, else-ne-via-then-ne+else-lasts, else-ne-via-else-ne}

pub loop-n-preserved : goal.loop-n-preserved
unfolding same
loop-n-preserved c =
    let n = length c.records-count.result.now in
    let rows = c.records-records.result.now in
    let bs = c.args.bytes.now in
    let now = c.loop-n.bytes in
    let at = c.args.at in
    let i = c.loop-n.n in
    let moved = c.loop-n.moved in
    let r = c.line_of-line.result in
    let fits : n ≤ length now / 18 = omega (arith, c.records-count.ensures.len) in
    let more : i < n = omega arith in
    let is = c.line_of-line.ensures.value ∙ first_read n now rows i fits more c.records-records.ensures.bytes in
    let lasts_so = later_read n now rows (i + 1) fits c.records-records.ensures.lines in
    let form : line_bytes r ≡ take 18 (drop (18 * i) now) = sym (sym (row_read n now rows i fits more c.records-records.ensures.bytes) ∙ c.line_of-line.ensures.form) in
    elim c.if-ne.branch [
      | then-ne+then-lasts w ↦ carried n bs _ _ at (i + 1) _ _ w.bytes-is w.moved-is (moved_in n bs now at i moved r _ c.loop-n.invariant more fits is form (not-true (same r.at at) (sym w.if-ne.ensures)) (ap (lasts r) (sym lasts_so) ∙ sym w.if-lasts.ensures) w.copy_within.ensures.after)
      | else-ne w ↦ carried n bs _ _ at (i + 1) _ _ w.bytes-is w.moved-is (elim w.else-ne.branch [
        | else-ne-via-then-ne+else-lasts v ↦ moved_out n bs now at i moved r c.loop-n.invariant more is (ap (lasts r) (sym lasts_so) ∙ sym v.if-lasts.ensures)
        | else-ne-via-else-ne v ↦ moved_past n bs now at i moved r c.loop-n.invariant more is (squeezed_own at r _ (not-false (same r.at at) (sym v.if-ne.ensures)))
      ])
    ]

pub returns : goal.returns
returns c =
    let n = length c.records-count.result.now in
    let now = c.loop-n.bytes in
    let moved = c.loop-n.moved in
    let few = c.loop-n.invariant.few in
    let fits : n ≤ length now / 18 = omega (arith, c.records-count.ensures.len) in
    let width : length (take (18 * n - 18 * moved) (drop (18 * moved) now)) ≡ 18 * n - 18 * moved = omega (arith, length-take (18 * n - 18 * moved) (drop (18 * moved) now), length-drop (18 * moved) now) in
    let zeroed = filled (18 * moved) (18 * n) now c.fill.new.self (omega arith) (c.fill.ensures.after (λ y h. h) ∙ ap (λ k. replicate k 0) width) in
    let done = moved_all n c.args.bytes.now now c.args.used c.args.at c.loop-n.n moved _ c.loop-n.invariant c.records-count.ensures.len (omega arith) fits zeroed in
    record { value = done.value; after = done.after }
