-- Every call keeps everything.
use Rattle.std.proofs.Common.{◌≡◌, ℕ, ◌≤◌, true, false, eqb, Some, None, Option, refl, ap, arith}
use Rattle.std.specs.List.{remove, slice_get}
use Rattle.std.proofs.lemmas.Bool.{cond_both, eqb-true}
use Rattle.faults.specs.declared.Fault.{Fault}
use Rattle.copies.specs.Copies.{find, put}
use Rattle.messages.specs.declared.Message.{Message}
use Rattle.messages.specs.declared.Message.TheVariants.{RetrieveItems, Replicate, AddItem, GetItem}
use Rattle.rules.specs.declared.Reply.{Reply}
use Rattle.rules.specs.declared.Reply.TheVariants.{Waiting, TooEarly, Held, Absent}
use Rattle.rules.specs.declared.Call.{Call}
use Rattle.rules.specs.declared.Call.TheVariants.{Join, Leave, Insert, Lookup, Deliver, Collect}
use Rattle.rules.specs.declared.Answer.{Answer}
use Rattle.rules.specs.declared.Answer.TheVariants.{Inserted, Opened, Asked, Sent, Kept, Older, Refused}
use Rattle.rules.specs.State.{Settings, Lawful, State, state_of, with_post, with_shelf, reply_to, owner_in, else_the, owner_else, addressee, sending}
use Rattle.rules.specs.Handover.{spot, entry, newer}
use Rattle.rules.specs.Refusals.{refusal, owns}
use Rattle.rules.specs.Rules.{Did, did, step, decided, outcome, inserted, opened, delivered, delivering, handing_over, adding, answering, sent_on, collecting}
use Rattle.laws.proofs.Invariant.{Invariant, Story}
use Rattle.laws.proofs.Stories.{with_insert, with_arrival, with_lookup}
use Rattle.laws.proofs.Likes.{grown, like_kept, news, nothing_new}
use Rattle.laws.proofs.Accepted.{join_accepted, leave_accepted, insert_accepted, lookup_accepted}
use Rattle.laws.proofs.Joins.{join_kept, owner_laws}
use Rattle.laws.proofs.Leaves.{leave_kept}
use Rattle.laws.proofs.Inserts.{insert_kept}
use Rattle.laws.proofs.Lookups.{lookup_kept}
use Rattle.laws.proofs.Collects.{collect_kept}
use Rattle.laws.proofs.Resends.{resend_kept, populated_now, asked_alike, add_alike, get_alike}
use Rattle.laws.proofs.Replicates.{replicate_kept}
use Rattle.laws.proofs.Arrivals.{older_in, kept_in, arrival_kept}
use Rattle.laws.proofs.Replies.{reply_kept}
use Rattle.laws.proofs.Growths.{word, insert_like, lookup_like, arrival_like}

module _ (set : Settings) (lawful : Lawful set) {M : Type 0} (story : Story M) (m₀ : M) (s : State) (kept : Invariant set story s) where
  -- what a call did keeps everything
  abbrev Good : Call → Did → Type 0
  Good c d = Invariant set (grown story m₀ s c d.answer) d.after

  quietly : (c : Call) (d : Did) → news d.answer ≡ false → Invariant set story d.after → Good c d
  quietly c d old k = like_kept set story (grown story m₀ s c d.answer) d.after (nothing_new story m₀ s c d.answer old) k

  owns_owner : (to : ℕ) (o : Option ℕ) → (o ≡ None → ⊥) → eqb (else_the to o) to ≡ true → o ≡ Some to
  owns_owner to None n h = absurd (n refl)
  owns_owner to (Some q) n h = ap Some (eqb-true q to h)

  owner_to : (n to i : ℕ) (m : Message) → slice_get s.post n ≡ Some m → owns set s i to ≡ true → owner_in set s.table i ≡ Some to
  owner_to n to i m at_n h =
      owns_owner to (owner_in set s.table i) (λ e. populated_now set story s n m m kept at_n ((owner_laws set s.table kept.sound.peers).owner_none i e)) h

  add_good : (n to r i a v : ℕ) → slice_get s.post n ≡ Some (AddItem to r i a v) → owner_in set s.table i ≡ Some to → Good (Deliver n) (adding (with_post (remove s.post n) s) to r i a v)
  unfolding adding
  add_good n to r i a v at_n own =
      let s₀ : State = with_post (remove s.post n) s in
      cond_both (newer (find s.shelf (spot to r i)) a) (did Older s₀) (did Kept (with_shelf (put s.shelf (spot to r i) (entry a v)) s₀)) (Good (Deliver n))
      (λ t. like_kept set (with_arrival story a r) (grown story m₀ s (Deliver n) Older) s₀ (arrival_like story m₀ s n to r i a v Older at_n (λ b e. omega (arith, ap word e)) (λ b e. omega (arith, ap word e))) (arrival_kept set lawful story s n to r i a v s.shelf kept at_n own (older_in s.shelf to r i a v kept.sound.ordered t)))
      (λ f. like_kept set (with_arrival story a r) (grown story m₀ s (Deliver n) Kept) (with_shelf (put s.shelf (spot to r i) (entry a v)) s₀) (arrival_like story m₀ s n to r i a v Kept at_n (λ b e. omega (arith, ap word e)) (λ b e. omega (arith, ap word e))) (arrival_kept set lawful story s n to r i a v (put s.shelf (spot to r i) (entry a v)) kept at_n own (kept_in s.shelf to r i a v kept.sound.ordered f)))

  get_good : (n to r i q : ℕ) → slice_get s.post n ≡ Some (GetItem to r i q) → owner_in set s.table i ≡ Some to → Good (Deliver n) (answering set (with_post (remove s.post n) s) (state_of s.table to) to r i q)
  unfolding answering
  get_good n to r i q at_n own =
      quietly (Deliver n) (answering set (with_post (remove s.post n) s) (state_of s.table to) to r i q) refl (reply_kept set lawful story s n to r i q kept at_n own)

  replicate_good : (n x g a e : ℕ) → slice_get s.post n ≡ Some (Replicate x g a e) → Good (Deliver n) (handing_over set (with_post (remove s.post n) s) x g a e)
  unfolding handing_over
  replicate_good n x g a e at_n =
      quietly (Deliver n) (handing_over set (with_post (remove s.post n) s) x g a e) refl (replicate_kept set story s n x g a e kept at_n)

  resend_good : (n : ℕ) (m m' : Message) (answer : Answer) → news answer ≡ false → slice_get s.post n ≡ Some m → Rattle.laws.proofs.Resends.Alike m m' → Good (Deliver n) (did answer (sending m' (with_post (remove s.post n) s)))
  resend_good n m m' answer old at_n alike = quietly (Deliver n) (did answer (sending m' (with_post (remove s.post n) s))) old (resend_kept set story s n m m' kept at_n alike)

  message_good : (n : ℕ) (m : Message) → slice_get s.post n ≡ Some m → Good (Deliver n) (delivered set (with_post (remove s.post n) s) (state_of s.table (addressee m)) m)
  message_good n (RetrieveItems to from start end) at_n = resend_good n (RetrieveItems to from start end) (Replicate from to start end) Asked refl at_n (asked_alike from to start end)
  message_good n (Replicate to from start end) at_n = replicate_good n to from start end at_n
  message_good n (AddItem to r i a v) at_n =
      let s₀ : State = with_post (remove s.post n) s in
      let to' : ℕ = owner_else set s.table i to in
      cond_both (owns set s₀ i to) (adding s₀ to r i a v) (sent_on (AddItem to' r i a v) s₀) (Good (Deliver n))
      (λ t. add_good n to r i a v at_n (owner_to n to i (AddItem to r i a v) at_n t))
      (λ f. resend_good n (AddItem to r i a v) (AddItem to' r i a v) Sent refl at_n (add_alike to to' r i a v))
  message_good n (GetItem to r i q) at_n =
      let s₀ : State = with_post (remove s.post n) s in
      let to' : ℕ = owner_else set s.table i to in
      cond_both (owns set s₀ i to) (answering set s₀ (state_of s.table to) to r i q) (sent_on (GetItem to' r i q) s₀) (Good (Deliver n))
      (λ t. get_good n to r i q at_n (owner_to n to i (GetItem to r i q) at_n t))
      (λ f. resend_good n (GetItem to r i q) (GetItem to' r i q) Sent refl at_n (get_alike to to' r i q))

  deliver_good : (n : ℕ) (o : Option Message) → slice_get s.post n ≡ o → Good (Deliver n) (delivering set s n o)
  deliver_good n None e = quietly (Deliver n) (did Sent s) refl kept
  deliver_good n (Some m) e = message_good n m e

  collect_good : (q : ℕ) (o : Option Reply) → Good (Collect q) (collecting q s o)
  collect_good q o = quietly (Collect q) (collecting q s o) (old o) (collect_kept set story s q kept o)
    where
      old : (o : Option Reply) → news (collecting q s o).answer ≡ false
      old None = refl
      old (Some Waiting) = refl
      old (Some TooEarly) = refl
      old (Some (Held a v)) = refl
      old (Some Absent) = refl

  -- what had landed by now
  module _ (landed-now : (k a r : ℕ) → story.landed m₀ k a → 1 ≤ r → r ≤ set.copies → story.arrived a r × ((v : ℕ) × story.inserted a k v)) where
    outcome_good : (c : Call) → refusal set s c ≡ None → Good c (outcome set s c)
    outcome_good (Join p) h = quietly (Join p) (outcome set s (Join p)) refl (join_kept set story s p kept (join_accepted set s p h))
    outcome_good (Leave p) h = quietly (Leave p) (outcome set s (Leave p)) refl (leave_kept set story s p kept (leave_accepted set s p h))
    outcome_good (Insert k v) h =
        like_kept set (with_insert story s.stamp k v) (grown story m₀ s (Insert k v) (Inserted s.stamp)) (inserted set s k v) (insert_like story m₀ s k v s.stamp) (insert_kept set story s k v kept (insert_accepted set s k v h))
    outcome_good (Lookup k r) h =
        let l = lookup_accepted set s k r h in
        like_kept set (with_lookup story m₀ s.number k r) (grown story m₀ s (Lookup k r) (Opened s.number)) (opened set s k r) (lookup_like story m₀ s k r s.number) (lookup_kept set story s m₀ k r kept l (λ a x. landed-now k a r x l.some_replica l.replica_in_range))
    outcome_good (Deliver n) h = deliver_good n (slice_get s.post n) refl
    outcome_good (Collect q) h = collect_good q (reply_to s.questions q)

    decided_good : (c : Call) (o : Option Fault) → refusal set s c ≡ o → Good c (decided set s c o)
    decided_good c None h = outcome_good c h
    decided_good c (Some fault) h = quietly c (did (Refused fault) s) refl kept

    pub step_kept : (c : Call) → Invariant set (grown story m₀ s c (step set s c).answer) (step set s c).after
    unfolding step
    step_kept c = decided_good c (refusal set s c) refl
