use Rattle.std.proofs.Common.{◌≡◌, ◌++◌, ℕ, ◌<◌, ◌≤◌, ◌-◌, take, drop, length, get_or, rules}
use Rattle.std.proofs.lemmas.Option.{MatchOption-at_some}
use Rattle.words.specs.Words.{four, eight}
use mir.Facts.{Fits-lt-pow}
use Rattle.layouts.proofs.Forms.{formed, formed_bytes}
use Rattle.layouts.proofs.decode.Goals as goal

pub returns : goal.returns
returns c =
    let bs = c.args.bytes.now in
    let long : 10 ≤ length bs = search rules in
    let small : (i : ℕ) → get_or bs i 0 < 256 = λ i. Fits-lt-pow (c.type_inv.bytes i) in
    let rest : take (length bs - 10) (drop 10 bs) ≡ four c.in_ok-number.number ++ eight c.in_ok-number.value = MatchOption-at_some _ _ _ c.in_ok-number.ensures.ok_part c.numbers.ensures in
    let form = formed_bytes bs _ _ _ _ _ _ long rest small c.from_be_bytes.ensures c.from_be_bytes-2.ensures c.from_be_bytes-3.ensures c.from_be_bytes-4.ensures in
    let done = formed bs _ c.try_from.result form c.try_from.ensures in
    record { value = done.value; form = done.form }
