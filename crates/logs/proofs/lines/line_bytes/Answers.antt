use Rattle.std.proofs.Common.{◌<◌, ◌^◌, ◌∙◌, rules}
use Rattle.words.proofs.Stds.{to_two, to_four, to_eight}
use Rattle.logs.proofs.Chunks.{line_laid}
use Rattle.logs.proofs.lines.line_bytes.Goals as goal

pub returns : goal.returns
returns c =
    let x = c.args.line in
    let a : x.at.peer < 2 ^ 16 = search rules in
    let b : x.at.place < 2 ^ 16 = search rules in
    let d : x.held.stamp < 2 ^ 32 = search rules in
    let e : x.held.value < 2 ^ 64 = search rules in
    line_laid x _ _ _ _ (c.to_be_bytes.ensures ∙ to_two x.at.peer a) (c.to_be_bytes-2.ensures ∙ to_two x.at.place b) (c.to_be_bytes-3.ensures ∙ to_four x.held.stamp d) (c.to_be_bytes-4.ensures ∙ to_eight x.held.value e)
