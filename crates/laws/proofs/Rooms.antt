-- No delivery that names a message is refused: there is room for every ADDITEM.
use Rattle.std.proofs.Common.{◌≡◌, ℕ, ◌<◌, true, false, not, ◌&&◌, leb, length, is_some, Some, None, Option, sym, refl, subst, arith}
use Rattle.std.specs.List.{remove, slice_get}
use Rattle.std.proofs.lemmas.Bool.{cond_both, lt-leb, and_right}
use Rattle.copies.specs.Copies.{find, put}
use Rattle.messages.specs.declared.Message.{Message}
use Rattle.messages.specs.declared.Message.TheVariants.{RetrieveItems, Replicate, AddItem, GetItem}
use Rattle.rules.specs.declared.Call.TheVariants.{Deliver}
use Rattle.rules.specs.declared.Answer.TheVariants.{Kept, Older}
use Rattle.rules.specs.State.{Settings, State, state_of, with_post, with_shelf, owner_else, addressee}
use Rattle.rules.specs.Handover.{spot, entry, newer}
use Rattle.rules.specs.Refusals.{owns, cramped}
use Rattle.rules.specs.Rules.{Did, did, step, decided, delivered, delivering, handing_over, adding, answering, sent_on}
use Rattle.rules.specs.Runs.{accepted}
use Rattle.laws.proofs.Lists.{total_has, taken_mem}
use Rattle.laws.proofs.Errands.{adds_total}
use Rattle.laws.proofs.Invariant.{Invariant, Story}
use Rattle.laws.proofs.Accepted.{deliver_refused_not}

module _ (set : Settings) {M : Type 0} (story : Story M) (s : State) (kept : Invariant set story s) where
  has_room : (n : ℕ) (o : Option Message) → slice_get s.post n ≡ o → cramped set s o ≡ false
  has_room n None e = refl
  has_room n (Some (RetrieveItems to from start end)) e = refl
  has_room n (Some (Replicate to from start end)) e = refl
  has_room n (Some (AddItem to r i a v)) e =
      let waits = total_has Rattle.laws.proofs.Errands.adding (AddItem to r i a v) s.post (taken_mem s.post n (AddItem to r i a v) e) in
      let l : length s.shelf < set.cells = omega (arith, kept.sound.room, adds_total s.post) in
      and_right (owns set s i to) (not (is_some (find s.shelf (spot to r i))) && leb set.cells (length s.shelf)) (and_right (not (is_some (find s.shelf (spot to r i)))) (leb set.cells (length s.shelf)) (lt-leb set.cells (length s.shelf) l))
  has_room n (Some (GetItem to r i q)) e = refl

  abbrev Taken : Did → Type 0
  Taken d = accepted d.answer ≡ true

  taken_add : (s₀ : State) (to r i a v : ℕ) → Taken (adding s₀ to r i a v)
  unfolding adding
  taken_add s₀ to r i a v =
      cond_both (newer (find s₀.shelf (spot to r i)) a) (did Older s₀) (did Kept (with_shelf (put s₀.shelf (spot to r i) (entry a v)) s₀)) Taken (λ t. refl) (λ f. refl)

  taken_message : (s₀ : State) (n : ℕ) (m : Message) → Taken (delivered set s₀ (state_of s.table (addressee m)) m)
  unfolding handing_over answering
  taken_message s₀ n (RetrieveItems to from start end) = refl
  taken_message s₀ n (Replicate to from start end) = refl
  taken_message s₀ n (AddItem to r i a v) =
      cond_both (owns set s₀ i to) (adding s₀ to r i a v) (sent_on (AddItem (owner_else set s₀.table i to) r i a v) s₀) Taken (λ t. taken_add s₀ to r i a v) (λ f. refl)
  taken_message s₀ n (GetItem to r i q) =
      cond_both (owns set s₀ i to) (answering set s₀ (state_of s.table to) to r i q) (sent_on (GetItem (owner_else set s₀.table i to) r i q) s₀) Taken (λ t. refl) (λ f. refl)

  taken_delivered : (n : ℕ) (o : Option Message) → Taken (delivering set s n o)
  taken_delivered n None = refl
  taken_delivered n (Some m) = taken_message (with_post (remove s.post n) s) n m

  pub deliver_taken : (n : ℕ) → n < length s.post → accepted (step set s (Deliver n)).answer ≡ true
  unfolding step
  deliver_taken n l =
      subst (λ o. Taken (decided set s (Deliver n) o)) (sym (deliver_refused_not set s n l (has_room n (slice_get s.post n) refl))) (taken_delivered n (slice_get s.post n))
