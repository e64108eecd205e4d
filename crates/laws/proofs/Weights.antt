-- Deliveries run out: each takes away from what the waiting messages weigh.
use Rattle.std.proofs.Common.{◌≡◌, ℕ, ◌+◌, ◌*◌, ◌<◌, ◌≤◌, Bool, true, false, cond, eqb, List, length, Some, None, Option, sym, refl, ap, ◌∙◌, arith}
use Rattle.std.specs.List.{remove, slice_get}
use Rattle.std.proofs.lemmas.Bool.{cond_both, cond-true, cond-false, both_ways, eq-eqb}
use Rattle.faults.specs.declared.Fault.{Fault}
use Rattle.circle.specs.Owners.{owner}
use Rattle.copies.specs.Copies.{find, put}
use Rattle.messages.specs.declared.Message.{Message}
use Rattle.messages.specs.declared.Message.TheVariants.{RetrieveItems, Replicate, AddItem, GetItem}
use Rattle.rules.specs.declared.Peer.{Peer}
use Rattle.rules.specs.declared.Call.TheVariants.{Deliver}
use Rattle.rules.specs.declared.Answer.{Answer}
use Rattle.rules.specs.declared.Answer.TheVariants.{Asked, Sent, Kept, Older, Answered}
use Rattle.rules.specs.State.{Settings, State, state_of, members, with_post, with_shelf, owner_in, else_the, owner_else, addressee, sending}
use Rattle.rules.specs.Handover.{spot, entry, newer}
use Rattle.rules.specs.Refusals.{refusal, owns}
use Rattle.rules.specs.Rules.{Did, did, step, decided, delivered, delivering, handing_over, adding, answering, sent_on}
use Rattle.rules.specs.Runs.{accepted}
use Rattle.laws.proofs.Lists.{total, total_push, total_like, total_at_most_two, taken_total}
use Rattle.laws.proofs.Invariant.{Invariant, Story}
use Rattle.laws.proofs.Accepted.{deliver_accepted}
use Rattle.laws.proofs.Replicates.{ends}

-- ---- what a message weighs: how often it can still be delivered

abbrev mine : Settings → List Peer → ℕ → ℕ → Bool
mine set t i to = eqb (owner_else set t i to) to

abbrev pub weight : Settings → List Peer → Message → ℕ
weight set t (RetrieveItems to from start end) = 2
weight set t (Replicate to from start end) = 1
weight set t (AddItem to r i a v) = cond (mine set t i to) 1 2
weight set t (GetItem to r i q) = cond (mine set t i to) 1 2

abbrev pub potential : Settings → State → ℕ
potential set s = total (weight set s.table) s.post

one_or_two : (b : Bool) → cond b 1 2 ≤ 2
one_or_two true = omega arith
one_or_two false = omega arith

weight_small : (set : Settings) (t : List Peer) (m : Message) → weight set t m ≤ 2
weight_small set t (RetrieveItems to from start end) = omega arith
weight_small set t (Replicate to from start end) = omega arith
weight_small set t (AddItem to r i a v) = one_or_two (mine set t i to)
weight_small set t (GetItem to r i q) = one_or_two (mine set t i to)

pub potential_small : (set : Settings) (s : State) → potential set s ≤ 2 * length s.post
potential_small set s = total_at_most_two (weight set s.table) s.post (weight_small set s.table)

same_weight : (set : Settings) (t t' : List Peer) → members t' ≡ members t → (m : Message) → weight set t' m ≡ weight set t m
same_weight set t t' e (RetrieveItems to from start end) = refl
same_weight set t t' e (Replicate to from start end) = refl
same_weight set t t' e (AddItem to r i a v) = ap (λ ms. cond (eqb (else_the to (owner set.size ms i)) to) 1 2) e
same_weight set t t' e (GetItem to r i q) = ap (λ ms. cond (eqb (else_the to (owner set.size ms i)) to) 1 2) e

-- sent on to the owner, it is the owner's
sent_mine : (to : ℕ) (o : Option ℕ) → eqb (else_the to o) to ≡ false → eqb (else_the (else_the to o) o) (else_the to o) ≡ true
sent_mine to None h = absurd (both_ways (eqb to to) h (eq-eqb to to refl))
sent_mine to (Some q) h = eq-eqb q q refl

-- ---- a delivery takes from it

module _ (set : Settings) {M : Type 0} (story : Story M) (s : State) (kept : Invariant set story s) where
  abbrev Falls : Did → Type 0
  Falls d = 1 + potential set d.after ≤ potential set s

  module _ (n : ℕ) (m : Message) (at_n : slice_get s.post n ≡ Some m) where
    abbrev rest : List Message
    rest = remove s.post n

    whole : potential set s ≡ weight set s.table m + total (weight set s.table) rest
    whole = taken_total s.post n m at_n (weight set s.table)

    -- another message in its place weighs less
    falls_resend : (m' : Message) (a : Answer) → 1 + weight set s.table m' ≤ weight set s.table m → Falls (did a (sending m' (with_post rest s)))
    falls_resend m' a l = omega (arith, whole, total_push (weight set s.table) rest m')

    falls_taken : (s' : State) (b : Answer) → s'.post ≡ rest → members s'.table ≡ members s.table → 1 ≤ weight set s.table m → Falls (did b s')
    falls_taken s' b e same l =
        let a : potential set s' ≡ total (weight set s.table) rest = total_like (weight set s'.table) (weight set s.table) s'.post (same_weight set s.table s'.table same) ∙ ap (total (weight set s.table)) e in
        omega (arith, whole)

  sent_lighter : (i to : ℕ) → mine set s.table i to ≡ false → 1 + cond (mine set s.table i (owner_else set s.table i to)) 1 2 ≤ cond (mine set s.table i to) 1 2
  sent_lighter i to f =
      let a = cond-false {A = ℕ} (mine set s.table i to) 1 2 f in
      let b = cond-true {A = ℕ} (mine set s.table i (owner_else set s.table i to)) 1 2 (sent_mine to (owner_in set s.table i) f) in
      omega arith

  some_weight : (b : Bool) → 1 ≤ cond b 1 2
  some_weight true = omega arith
  some_weight false = omega arith

  falls_add : (n to r i a v : ℕ) → slice_get s.post n ≡ Some (AddItem to r i a v) → Falls (adding (with_post (remove s.post n) s) to r i a v)
  unfolding adding
  falls_add n to r i a v at_n =
      let s₀ : State = with_post (remove s.post n) s in
      cond_both (newer (find s.shelf (spot to r i)) a) (did Older s₀) (did Kept (with_shelf (put s.shelf (spot to r i) (entry a v)) s₀)) Falls
      (λ t. falls_taken n (AddItem to r i a v) at_n s₀ Older refl refl (some_weight (mine set s.table i to)))
      (λ f. falls_taken n (AddItem to r i a v) at_n (with_shelf (put s.shelf (spot to r i) (entry a v)) s₀) Kept refl refl (some_weight (mine set s.table i to)))

  falls_get : (n to r i q : ℕ) → slice_get s.post n ≡ Some (GetItem to r i q) → Falls (answering set (with_post (remove s.post n) s) (state_of s.table to) to r i q)
  unfolding answering
  falls_get n to r i q at_n =
      falls_taken n (GetItem to r i q) at_n (answering set (with_post (remove s.post n) s) (state_of s.table to) to r i q).after Answered refl refl (some_weight (mine set s.table i to))

  falls_replicate : (n x g a e : ℕ) → slice_get s.post n ≡ Some (Replicate x g a e) → Falls (handing_over set (with_post (remove s.post n) s) x g a e)
  unfolding handing_over
  falls_replicate n x g a e at_n =
      falls_taken n (Replicate x g a e) at_n (handing_over set (with_post (remove s.post n) s) x g a e).after (handing_over set (with_post (remove s.post n) s) x g a e).answer refl (ends set story s n x g a e kept at_n).same_members (omega arith)

  falls_message : (n : ℕ) (m : Message) → slice_get s.post n ≡ Some m → Falls (delivered set (with_post (remove s.post n) s) (state_of s.table (addressee m)) m)
  falls_message n (RetrieveItems to from start end) at_n = falls_resend n (RetrieveItems to from start end) at_n (Replicate from to start end) Asked (omega arith)
  falls_message n (Replicate to from start end) at_n = falls_replicate n to from start end at_n
  falls_message n (AddItem to r i a v) at_n =
      let s₀ : State = with_post (remove s.post n) s in
      let to' : ℕ = owner_else set s.table i to in
      cond_both (owns set s₀ i to) (adding s₀ to r i a v) (sent_on (AddItem to' r i a v) s₀) Falls
      (λ t. falls_add n to r i a v at_n)
      (λ f. falls_resend n (AddItem to r i a v) at_n (AddItem to' r i a v) Sent (sent_lighter i to f))
  falls_message n (GetItem to r i q) at_n =
      let s₀ : State = with_post (remove s.post n) s in
      let to' : ℕ = owner_else set s.table i to in
      cond_both (owns set s₀ i to) (answering set s₀ (state_of s.table to) to r i q) (sent_on (GetItem to' r i q) s₀) Falls
      (λ t. falls_get n to r i q at_n)
      (λ f. falls_resend n (GetItem to r i q) at_n (GetItem to' r i q) Sent (sent_lighter i to f))

  -- ---- accepted or not

  abbrev Spends : Did → Type 0
  Spends d = cond (accepted d.answer) 1 0 + potential set d.after ≤ potential set s

  at_most_one : (b : Bool) → cond b 1 0 ≤ 1
  at_most_one true = omega arith
  at_most_one false = omega arith

  spends_delivered : (n : ℕ) → n < length s.post → (o : Option Message) → slice_get s.post n ≡ o → Spends (delivering set s n o)
  spends_delivered n l None e = absurd (Rattle.copies.proofs.Facts.some_none (sym (Rattle.std.proofs.lemmas.Option.slice_get-get_or s.post n (GetItem 0 0 0 0) l) ∙ e))
  spends_delivered n l (Some m) e =
      let d : Did = delivered set (with_post (remove s.post n) s) (state_of s.table (addressee m)) m in
      omega (arith, falls_message n m e, at_most_one (accepted d.answer))

  spends_decided : (n : ℕ) (o : Option Fault) → refusal set s (Deliver n) ≡ o → Spends (decided set s (Deliver n) o)
  spends_decided n None h = spends_delivered n (deliver_accepted set s n h) (slice_get s.post n) refl
  spends_decided n (Some fault) h = omega arith

  pub deliver_spends : (n : ℕ) → cond (accepted (step set s (Deliver n)).answer) 1 0 + potential set (step set s (Deliver n)).after ≤ potential set s
  unfolding step
  deliver_spends n = spends_decided n (refusal set s (Deliver n)) refl
