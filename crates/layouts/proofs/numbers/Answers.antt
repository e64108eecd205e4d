use Rattle.std.proofs.Common.{◌≡◌, length, ◌+◌, ap, ◌∙◌, arith, rules}
use mir.Facts.{Fits-lt-pow}
use Rattle.layouts.proofs.Forms.{twelve_bytes}
use Rattle.layouts.proofs.numbers.Goals as goal

pub returns : goal.returns
returns c =
    let bs = c.args.bytes.now in
    let whole : c.in_ok-value.value ≡ c.in_ok-number.value.now = search rules in
    let eight_long : length c.in_ok-value.value ≡ 8 = search rules in
    let cases = c.in_ok-number.ensures.cases in
    let long : length c.in_ok-number.value.now + 4 ≡ length bs = cases.2 in
    let width = ap length whole in
    twelve_bytes bs c.in_ok-number.number.now c.in_ok-value.value c.from_be_bytes.result c.from_be_bytes-2.result (omega arith) (λ i. Fits-lt-pow (c.type_inv.bytes i)) cases.0 (whole ∙ cases.1) c.from_be_bytes.ensures c.from_be_bytes.type_inv c.from_be_bytes-2.ensures c.from_be_bytes-2.type_inv
