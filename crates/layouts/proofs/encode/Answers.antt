use Rattle.std.proofs.Common.{◌≡◌, ◌<◌, ◌^◌, ap, ◌∙◌, rules}
use Rattle.words.proofs.Stds.{to_two, to_four, to_eight}
use Rattle.layouts.specs.Layout.{bytes_of, encoded, decoded}
use Rattle.layouts.proofs.Forms.{laid, laid_out, decoded_back}
use Rattle.layouts.proofs.encode.Goals as goal

pub returns : goal.returns
returns c =
    let f = c.from-kind.result in
    let a : f.to < 2 ^ 16 = search rules in
    let b : f.from < 2 ^ 16 = search rules in
    let d : f.start < 2 ^ 16 = search rules in
    let e : f.end < 2 ^ 16 = search rules in
    let g : f.number < 2 ^ 32 = search rules in
    let h : f.value < 2 ^ 64 = search rules in
    let bytes : laid f.kind f.replica c.to_be_bytes.result c.to_be_bytes-2.result c.to_be_bytes-3.result c.to_be_bytes-4.result c.to_be_bytes-5.result c.to_be_bytes-6.result ≡ encoded c.args.message =
    laid_out f _ _ _ _ _ _ (c.to_be_bytes.ensures ∙ to_two f.to a) (c.to_be_bytes-2.ensures ∙ to_two f.from b) (c.to_be_bytes-3.ensures ∙ to_two f.start d) (c.to_be_bytes-4.ensures ∙ to_two f.end e) (c.to_be_bytes-5.ensures ∙ to_four f.number g) (c.to_be_bytes-6.ensures ∙ to_eight f.value h) ∙ ap bytes_of c.from-kind.ensures in
    record { value = bytes; back = ap decoded bytes ∙ decoded_back c.args.message }
