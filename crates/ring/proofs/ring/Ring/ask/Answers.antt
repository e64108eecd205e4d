use Rattle.std.proofs.Common.{ℕ, ◌+◌, [], ◌∷◌, ◌++◌, refl, ap, ◌∙◌, arith}
use Rattle.std.proofs.lemmas.Bool.{cond-false}
use Rattle.messages.specs.declared.Message.TheVariants.{GetItem}
use Rattle.rules.specs.State.{owner_else, question, with_post, with_questions}
use Rattle.rules.specs.declared.Reply.TheVariants.{Waiting}
use Rattle.rules.specs.Rules.{opened}
use Rattle.ring.specs.Views.{viewed, sizes}
use Rattle.ring.proofs.Performing.{leads_posting}
use Rattle.ring.proofs.Itemings.{lookup_accepted}
use Rattle.ring.proofs.ring.Ring.ask.Goals as goal

pub overflow_add-self : goal.overflow_add-self
overflow_add-self g c =
    let r = c.args.self.now in
    let unspent = (lookup_accepted (sizes r) (viewed r) c.args.item c.args.replica c.requires).unspent in
    omega arith

pub returns : goal.returns
unfolding opened
returns g c =
    let set = sizes c.args.self.now in
    let s = viewed c.args.self.now in
    let told = lookup_accepted set s c.args.item c.args.replica c.requires in
    let place = c.place_of-place.ensures in
    let to = c.owner_or-to.ensures ∙ ap (λ (i : ℕ). owner_else set s.table i i) place in
    let questions = c.push.ensures.after ∙ cond-false _ _ _ told.more_open in
    let post = c.put.ensures.after ∙ cond-false _ _ _ told.place in
    let open-now = s.questions ++ question s.number Waiting ∷ [] in
    leads_posting _ _ _
    ((λ j. with_post (post j) (with_questions (s.number + 1) (questions j) s)) ∙ (λ j. with_post (s.post ++ GetItem (to j) c.args.replica (place j) s.number ∷ []) (with_questions (s.number + 1) open-now s)))
    refl refl c.put.ensures.same refl
