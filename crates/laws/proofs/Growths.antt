-- The stories of the calls that make them grow.
use Rattle.std.proofs.Common.{◌≡◌, ℕ, Some, sym, ap, ◌∙◌, inl, inr, ⊎_elim, arith}
use Rattle.std.proofs.lemmas.Option.{same_Some}
use Rattle.std.specs.List.{slice_get}
use Rattle.messages.specs.declared.Message.TheVariants.{AddItem}
use Rattle.rules.specs.declared.Call.TheVariants.{Insert, Lookup, Deliver}
use Rattle.rules.specs.declared.Answer.{Answer}
use Rattle.rules.specs.declared.Answer.TheVariants.{Done, Inserted, Opened, Asked, Moved, Sent, Kept, Older, Answered, Found, Nothing, NotYet, Withdrawn, Refused}
use Rattle.rules.specs.State.{State}
use Rattle.laws.proofs.Invariant.{Story}
use Rattle.laws.proofs.Stories.{with_insert, with_arrival, with_lookup}
use Rattle.laws.proofs.Likes.{Arrives, grown, Like}
use Rattle.laws.proofs.Inserts.{same_add}

-- answers by number, to tell them apart
abbrev pub word : Answer → ℕ
word Done = 0
word (Inserted a) = 1
word (Opened q) = 2
word Asked = 3
word (Moved n) = 4
word Sent = 5
word Kept = 6
word Older = 7
word Answered = 8
word (Found a v) = 9
word Nothing = 10
word NotYet = 11
word Withdrawn = 12
word (Refused fault) = 13

pub insert_like : {M : Type 0} (story : Story M) (m : M) (s : State) (k v a : ℕ) → Like (with_insert story a k v) (grown story m s (Insert k v) (Inserted a))
insert_like story m s k v a = record {
  inserted_to = λ b l w h. ⊎_elim (λ x. inl x) (λ x. inr (to_call l w x.1 x.2, ap Inserted (sym x.0))) h;
  inserted_from = λ b l w h. ⊎_elim (λ x. inl x) (λ x. inr (stamp_is b x.1, item_is l w x.0, value_is l w x.0)) h;
  arrived_from = λ b r h. ⊎_elim (λ x. x) (λ x. absurd (⊎_elim (λ e. omega (arith, ap word e)) (λ e. omega (arith, ap word e)) x.taken_in)) h;
  asked_from = λ n q l r h. ⊎_elim (λ x. x) (λ x. absurd (omega (arith, ap word x.2))) h;
  landed_from = λ n l b h. h;
}
  where
    to_call : (l w : ℕ) → l ≡ k → w ≡ v → Insert k v ≡ Insert l w
    to_call l w e f = ap (λ x. Insert x v) (sym e) ∙ ap (λ x. Insert l x) (sym f)

    stamp_is : (b : ℕ) → Inserted a ≡ Inserted b → b ≡ a
    stamp_is b e = cc

    item_is : (l w : ℕ) → Insert k v ≡ Insert l w → l ≡ k
    item_is l w e = cc

    value_is : (l w : ℕ) → Insert k v ≡ Insert l w → w ≡ v
    value_is l w e = cc

pub lookup_like : {M : Type 0} (story : Story M) (m : M) (s : State) (k r q : ℕ) → Like (with_lookup story m q k r) (grown story m s (Lookup k r) (Opened q))
lookup_like story m s k r q = record {
  inserted_to = λ b l w h. inl h;
  inserted_from = λ b l w h. ⊎_elim (λ x. x) (λ x. absurd (omega (arith, ap word x.1))) h;
  arrived_from = λ b t h. ⊎_elim (λ x. x) (λ x. absurd (⊎_elim (λ e. omega (arith, ap word e)) (λ e. omega (arith, ap word e)) x.taken_in)) h;
  asked_from = λ n p l t h. ⊎_elim (λ x. inl x) (λ x. inr (x.0, number_is p x.2, item_is l t x.1, replica_is l t x.1)) h;
  landed_from = λ n l b h. h;
}
  where
    number_is : (p : ℕ) → Opened q ≡ Opened p → p ≡ q
    number_is p e = cc

    item_is : (l t : ℕ) → Lookup k r ≡ Lookup l t → l ≡ k
    item_is l t e = cc

    replica_is : (l t : ℕ) → Lookup k r ≡ Lookup l t → t ≡ r
    replica_is l t e = cc

pub arrival_like : {M : Type 0} (story : Story M) (m : M) (s : State) (n to r i a v : ℕ) (answer : Answer) → slice_get s.post n ≡ Some (AddItem to r i a v) → ((b : ℕ) → answer ≡ Inserted b → ⊥) → ((b : ℕ) → answer ≡ Opened b → ⊥) → Like (with_arrival story a r) (grown story m s (Deliver n) answer)
arrival_like story m s n to r i a v answer at_n not-inserted not_opened = record {
  inserted_to = λ b l w h. inl h;
  inserted_from = λ b l w h. ⊎_elim (λ x. x) (λ x. absurd (not-inserted b x.1)) h;
  arrived_from = λ b t h. ⊎_elim (λ x. inl x) (λ x. inr (same x)) h;
  asked_from = λ p q l t h. ⊎_elim (λ x. x) (λ x. absurd (not_opened q x.2)) h;
  landed_from = λ p l b h. h;
}
  where
    position : (j : ℕ) → Deliver n ≡ Deliver j → n ≡ j
    position j e = cc

    same : {b t : ℕ} → Arrives s (Deliver n) answer b t → (b ≡ a) × (t ≡ r)
    same {b} {t} x =
        let e : AddItem x.to t x.i b x.v ≡ AddItem to r i a v = same_Some (AddItem x.to t x.i b x.v) (AddItem to r i a v) (sym x.message ∙ (ap (slice_get s.post) (sym (position x.n x.call)) ∙ at_n)) in
        let f = same_add x.to t x.i b x.v to r i a v e in
        (f.stamp, f.replica)
