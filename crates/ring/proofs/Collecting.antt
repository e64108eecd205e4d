-- What a question's reply tells of its collect. Assumes nothing.
use Rattle.std.proofs.Common.{◌≡◌, ℕ, cond, not, [], is_some, Some, None, Option, refl, ap, ◌∙◌}
use Rattle.faults.specs.declared.Fault.TheVariants.{NoQuestion}
use Rattle.rules.specs.declared.Reply.{Reply}
use Rattle.rules.specs.declared.Call.TheVariants.{Collect}
use Rattle.rules.specs.State.{Settings, State, reply_to}
use Rattle.rules.specs.Refusals.{refusal, collect_checks}
use Rattle.rules.specs.Rules.{did, outcome, collecting}
use Rattle.rules.specs.declared.Answer.{Answer}
use Rattle.messages.specs.declared.Message.{Message}
use Rattle.holders.specs.declared.holder.Holder.{Ghosts as Holding}
use Rattle.holders.specs.declared.shelf.Shelf.{Ghosts as Shelving}
use Rattle.holders.specs.declared.post.Post.{Ghosts as Posting}
use Rattle.ring.specs.declared.ring.Ring.{Ring}
use Rattle.ring.specs.Views.{viewed, sizes, Leads, Performs}
use Rattle.ring.proofs.Performing.{performs_accepted}

module _ (set : Settings) (s : State) (q : ℕ) where
  by_reply : (o : Option Reply) → reply_to s.questions q ≡ o → refusal set s (Collect q) ≡ cond (not (is_some o)) (Some NoQuestion) None
  unfolding collect_checks
  by_reply o e = ap (λ (x : Option Reply). cond (not (is_some x)) (Some NoQuestion) None) e

  pub collect_refused : reply_to s.questions q ≡ None → refusal set s (Collect q) ≡ Some NoQuestion
  collect_refused e = by_reply None e

  pub collect_open : (x : Reply) → reply_to s.questions q ≡ Some x → refusal set s (Collect q) ≡ None
  collect_open x e = by_reply (Some x) e

  pub collect_outcome : (x : Reply) → reply_to s.questions q ≡ Some x → outcome set s (Collect q) ≡ collecting q s (Some x)
  collect_outcome x e = ap (collecting q s) e

-- a question that is closed
module _ {S P : Type 0} {shelf : Shelving S} {cells : Holding S} {post : Posting P Message} {slots : Holding P} where
  pub performs_closing : (r p : Ring S P shelf cells post slots) (q : ℕ) (x : Reply) (a : Answer) (t : State) → reply_to (viewed r).questions q ≡ Some x → collecting q (viewed r) (Some x) ≡ did a t → Leads t [] r p → Performs (Collect q) r a p
  performs_closing r p q x a t told is done =
      performs_accepted (Collect q) r p a t [] (collect_open (sizes r) (viewed r) q x told) (collect_outcome (sizes r) (viewed r) q x told ∙ is) refl done
