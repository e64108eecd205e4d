use Rattle.std.proofs.Common.{sym, refl, ap, ◌∙◌, Some}
use Rattle.faults.specs.declared.Fault.TheVariants.{NoQuestion}
use Rattle.rules.specs.declared.Reply.TheVariants.{Waiting, TooEarly, Held, Absent}
use Rattle.rules.specs.declared.Call.TheVariants.{Collect}
use Rattle.rules.specs.declared.Answer.TheVariants.{Found, Nothing, NotYet, Withdrawn}
use Rattle.rules.specs.State.{unasked, with_post, with_questions}
use Rattle.rules.specs.Rules.{closing}
use Rattle.ring.specs.Views.{viewed, sizes}
use Rattle.ring.proofs.Performing.{performs_refused, leads_within, leads_posting}
use Rattle.ring.proofs.Collecting.{collect_refused, performs_closing}
use Rattle.ring.proofs.ring.Ring.collect.Goals as goal

pub returns-in_default : goal.returns-in_default
returns-in_default g c =
    let r = c.args.self.now in
    performs_refused (Collect c.args.number) r NoQuestion (collect_refused (sizes r) (viewed r) c.args.number (sym c.in_default.ensures))

pub returns-in-Waiting : goal.returns-in-Waiting
returns-in-Waiting g c =
    let s = viewed c.args.self.now in
    let q = c.args.number in
    performs_closing c.args.self.now _ q Waiting Withdrawn (with_post (unasked q s.post) (closing q s)) (sym c.in-Some.ensures ∙ ap Some c.in-Waiting.is) refl
    (leads_posting _ _ _ (λ j. with_post (c.withdraw.ensures.after j) (with_questions s.number (c.close.ensures j) s)) refl refl c.withdraw.ensures.same refl)

pub returns-in-TooEarly : goal.returns-in-TooEarly
returns-in-TooEarly g c =
    let s = viewed c.args.self.now in
    let q = c.args.number in
    performs_closing c.args.self.now _ q TooEarly NotYet (closing q s) (sym c.in-Some.ensures ∙ ap Some c.in-TooEarly.is) refl
    (leads_within _ _ _ (λ j. with_questions s.number (c.close.ensures j) s) refl refl refl)

pub returns-in-Held : goal.returns-in-Held
returns-in-Held g c =
    let s = viewed c.args.self.now in
    let q = c.args.number in
    performs_closing c.args.self.now _ q (Held c.in-Held.stamp c.in-Held.value) (Found c.in-Held.stamp c.in-Held.value) (closing q s) (sym c.in-Some.ensures ∙ ap Some c.in-Held.is) refl
    (leads_within _ _ _ (λ j. with_questions s.number (c.close.ensures j) s) refl refl refl)

pub returns-in-Absent : goal.returns-in-Absent
returns-in-Absent g c =
    let s = viewed c.args.self.now in
    let q = c.args.number in
    performs_closing c.args.self.now _ q Absent Nothing (closing q s) (sym c.in-Some.ensures ∙ ap Some c.in-Absent.is) refl
    (leads_within _ _ _ (λ j. with_questions s.number (c.close.ensures j) s) refl refl refl)
