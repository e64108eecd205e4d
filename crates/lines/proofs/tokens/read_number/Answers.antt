use Rattle.std.proofs.Common.{◌≡◌, sym, ◌∙◌, subst, rules}
use Rattle.std.specs.Str.Parse.{ParsesUnsigned}
use Rattle.lines.proofs.Digits.{digits_text, parsed, text_kept}
use Rattle.lines.proofs.tokens.read_number.Goals as goal

pub returns-in_err-ok : goal.returns-in_err-ok
returns-in_err-ok c = absurd (text_kept c.args.text.now c.from_utf8.result _ (digits_text c.args.text.now c.if-not-is_digits.ensures) c.from_utf8.ensures.cases (sym c.ok.ensures.value ∙ c.in_err-ok.was))

pub returns : goal.returns
returns c =
    let same : c.in_ok-ok.field-0.now ≡ c.args.text.now = search rules in
    c.ok-2.ensures.value ∙ parsed c.args.text.now c.if-not-is_digits.ensures c.parse.result c.if-text-gt20.false (subst (λ t. ParsesUnsigned 64 10 t c.parse.result) same c.parse.ensures.value.0)
