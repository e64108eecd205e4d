use Rattle.std.proofs.Common.{◌≡◌, ◌-◌, length, take, drop, replicate, ap, ◌∙◌, arith}
use Rattle.std.proofs.lemmas.List.{length-take, length-drop}
use Rattle.slices.proofs.Parts.{closed_is}
use Rattle.slices.proofs.close_up.Goals as goal

pub returns-then-at-end : goal.returns-then-at-end
returns-then-at-end g c =
    let xs = c.args.places.now in
    let width = c.args.width in
    let end = c.args.end in
    let moved = c.copy_within.new.self in
    let same = c.copy_within.ensures.len in
    let n : length (take (end - (end - width)) (drop (end - width) moved)) ≡ width = omega (arith, length-take (end - (end - width)) (drop (end - width) moved), length-drop (end - width) moved) in
    closed_is xs c.args.at width end c.args.item moved _ (omega arith) (omega arith) c.copy_within.ensures.after (c.cover.ensures ∙ ap (λ k. replicate k c.args.item) n)
