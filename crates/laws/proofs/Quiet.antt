-- Steps by which nothing happens that a law speaks of: copies and messages may move, and none is lost.
use Rattle.std.proofs.Common.{◌≡◌, ℕ, ◌<◌, Some, sym, subst, inl, inr, ⊎_elim}
use Rattle.copies.specs.declared.Entry.{Entry}
use Rattle.copies.specs.Copies.{find}
use Rattle.messages.specs.declared.Message.TheVariants.{AddItem, GetItem}
use Rattle.rules.specs.declared.Question.{Question}
use Rattle.rules.specs.State.{Settings, State}
use Rattle.rules.specs.Handover.{spot}
use Rattle.laws.proofs.Lists.{Mem}
use Rattle.laws.proofs.Invariant.{Faithful, Story, Waits, Covered}

pub record Quiet (s s' : State) : Type 0 where
  pub same_stamp : s'.stamp ≡ s.stamp
  pub same_number : s'.number ≡ s.number
  pub copies_from : (p r i : ℕ) (e : Entry) → find s'.shelf (spot p r i) ≡ Some e → (h : ℕ) × (find s.shelf (spot h r i) ≡ Some e)
  pub covers : (r i stamp : ℕ) → Covered s.shelf r i stamp → Covered s'.shelf r i stamp
  pub adds_from : (to r i stamp v : ℕ) → Mem (AddItem to r i stamp v) s'.post → (h : ℕ) × Mem (AddItem h r i stamp v) s.post
  pub adds_stay : (r i stamp : ℕ) → Waits s.post r i stamp → Waits s'.post r i stamp
  pub gets_from : (to r i q : ℕ) → Mem (GetItem to r i q) s'.post → (h : ℕ) × Mem (GetItem h r i q) s.post
  pub questions_from : (x : Question) → Mem x s'.questions → Mem x s.questions

pub quiet_faithful : (set : Settings) {M : Type 0} (story : Story M) (s s' : State) → Quiet s s' → Faithful set story s → Faithful set story s'
quiet_faithful set story s s' q f = record {
  copies_inserted = λ p r i e h. let c = q.copies_from p r i e h in f.copies_inserted c.0 r i e c.1;
  adds_inserted = λ to r i a v h. let c = q.adds_from to r i a v h in f.adds_inserted c.0 r i a v c.1;
  adds_in_range = λ to r i a v h. let c = q.adds_from to r i a v h in f.adds_in_range c.0 r i a v c.1;
  inserted_below = λ a k v h. let b = f.inserted_below a k v h in (subst (λ n. a < n) (sym q.same_stamp) b.0, b.1);
  stamp_once = f.stamp_once;
  reached = λ a k v r h l u. ⊎_elim (λ w. inl (q.adds_stay _ _ _ w)) (λ c. inr (q.covers _ _ _ c)) (f.reached a k v r h l u);
  arrived_below = λ a r h. subst (λ n. a < n) (sym q.same_stamp) (f.arrived_below a r h);
  arrived_covered = λ a k v r h i. q.covers _ _ _ (f.arrived_covered a k v r h i);
  gets_asked = λ to r i n m k r' h a. let c = q.gets_from to r i n h in f.gets_asked c.0 r i n m k r' c.1 a;
  gets_below = λ to r i n h. let c = q.gets_from to r i n h in subst (λ b. n < b) (sym q.same_number) (f.gets_below c.0 r i n c.1);
  questions_below = λ x h. subst (λ b. x.number < b) (sym q.same_number) (f.questions_below x (q.questions_from x h));
  asked_below = λ m n k r h. let b = f.asked_below m n k r h in (subst (λ c. n < c) (sym q.same_number) b.0, b.1);
  landed_covered = λ m n k r a h l. q.covers _ _ _ (f.landed_covered m n k r a h l);
  found_fresh = λ m n k r a v h. f.found_fresh m n k r a v (q.questions_from _ h);
  absent_fresh = λ m n k r a h. f.absent_fresh m n k r a (q.questions_from _ h);
}
