use Rattle.std.proofs.Common.{◌≡◌, ◌/◌, ◌%◌, w16, not, leb, length, sym, ap, ◌∙◌, arith, rules, tests}
use Rattle.std.specs.Int.{from_be_bytes}
use Rattle.std.specs.Simd.{first_chunks}
use Rattle.std.proofs.lemmas.Bool.Decides.{nat_tests}
use Rattle.std.proofs.lemmas.Iterator.{YieldsList-from_slice}
use Rattle.std.proofs.lemmas.Iterator.Search.{any_from_yields_List}
use Rattle.questions.proofs.Pairs.{even_bad, odd_bad}
use Rattle.questions.proofs.c.bad_members.Goals as goal

pub returns-then-not-is_empty : goal.returns-then-not-is_empty
returns-then-not-is_empty c =
    let xs = c.args.members.now in
    let odd : length xs % 2 ≡ 1 = grind (arith, nat_tests) in
    ap not c.if-not-is_empty.true ∙ sym (odd_bad c.args.size xs odd)

pub returns-else-not-is_empty : goal.returns-else-not-is_empty
returns-else-not-is_empty c =
    let xs = c.args.members.now in
    let even : length xs % 2 ≡ 0 = grind (arith, nat_tests) in
    any_from_yields_List (λ p. leb c.args.size (from_be_bytes w16 p)) _ _ c.any.result c.any.ensures.ran (YieldsList-from_slice (first_chunks 2 (length xs / 2) xs) (cc)) (λ x b q k. search (rules, tests))
    ∙ even_bad c.args.size xs even
