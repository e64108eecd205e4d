use Rattle.std.proofs.Common.{◌≡◌, Bool, cond, List, refl, ap, ◌∙◌}
use Rattle.copies.specs.Copies.{find}
use Rattle.rules.specs.declared.Question.{Question}
use Rattle.rules.specs.declared.Reply.{Reply}
use Rattle.rules.specs.declared.Reply.TheVariants.{TooEarly}
use Rattle.rules.specs.State.{with_reply, with_questions}
use Rattle.rules.specs.Rules.{still_to_come, shown, answering}
use Rattle.ring.specs.Views.{viewed, sized}
use Rattle.ring.proofs.Performing.{leads_within}
use Rattle.ring.proofs.ring.Ring.reply.Goals as goal
use Rattle.ring.proofs.ring.Ring.reply.Goals.{then-still_to_come, else-still_to_come}

pub returns : goal.returns
unfolding answering
returns g c =
    let r = c.args.self.now in
    let s = viewed r in
    let at = c.args.at in
    let later = still_to_come (sized r.settings) c.args.state at.place in
    let reply : c.if-still_to_come.reply ≡ cond later TooEarly (shown (find s.shelf at)) = elim c.if-still_to_come.branch [
      | then-still_to_come w ↦ w.reply-is ∙ ap (λ (t : Bool). cond t TooEarly (shown (find s.shelf at))) w.if-still_to_come.ensures
      | else-still_to_come w ↦ w.reply-is ∙ w.show-reply.ensures ∙ ap shown c.find-there.ensures ∙ ap (λ (t : Bool). cond t TooEarly (shown (find s.shelf at))) w.if-still_to_come.ensures
    ] in
    record {
      answered = refl;
      leads = leads_within _ _ _ (ap (λ (l : List Question). with_questions s.number l s) (c.set_reply.ensures ∙ ap (λ (x : Reply). with_reply c.args.question x s.questions) reply)) refl refl refl;
    }
