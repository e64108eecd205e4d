use Rattle.std.proofs.Common.{◌+◌, ◌≤◌, length, take, drop, sym, ap, ◌∙◌, rules, tests, arith}
use Rattle.std.specs.List.{position_or_len}
use Rattle.std.proofs.lemmas.List.{take_all, drop_all, take_rest}
use Rattle.std.proofs.lemmas.Iterator.{YieldsList-from_slice}
use Rattle.std.proofs.lemmas.Iterator.Search.{position_from_yields_List}
use Rattle.lines.specs.Texts.{is_byte}
use Rattle.lines.proofs.Cutting.{found_at, none_found}
use Rattle.lines.proofs.cuts.cut_at.Goals as goal

pub returns-in-Some : goal.returns-in-Some
returns-in-Some c =
    let bytes = c.args.bytes.now in
    let at = found_at (is_byte c.args.end) bytes c.in-Some.i (sym c.in-Some.is ∙ position_from_yields_List (is_byte c.args.end) _ _ c.position.result c.position.ensures.ran (YieldsList-from_slice bytes (cc)) (λ x b q k. search (rules, tests))) in
    record { front = ap (λ n. take n bytes) at; back = take_rest bytes (c.in-Some.i + 1) ∙ ap (λ n. drop (n + 1) bytes) at }

pub returns-in-None : goal.returns-in-None
returns-in-None c =
    let bytes = c.args.bytes.now in
    let all = none_found (is_byte c.args.end) bytes (sym c.in-None.is ∙ position_from_yields_List (is_byte c.args.end) _ _ c.position.result c.position.ensures.ran (YieldsList-from_slice bytes (cc)) (λ x b q k. search (rules, tests))) in
    let past : length bytes ≤ position_or_len (is_byte c.args.end) bytes + 1 = omega arith in
    record { front = sym (take_all _ bytes all); back = sym (drop_all _ bytes past) }
