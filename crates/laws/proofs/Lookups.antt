-- Lookup keeps everything: what has landed by then is covered from then on.
use Rattle.std.proofs.Common.{◌≡◌, ℕ, ◌+◌, ◌<◌, ◌⊎◌, [], ◌∷◌, ◌++◌, sym, ap, ◌∙◌, subst, inl, inr, ⊎_elim, add-zero, arith}
use Rattle.messages.specs.declared.Message.{Message}
use Rattle.messages.specs.declared.Message.TheVariants.{AddItem, GetItem}
use Rattle.rules.specs.declared.Reply.{Reply}
use Rattle.rules.specs.declared.Reply.TheVariants.{Waiting, Held, Absent}
use Rattle.rules.specs.State.{Settings, State, question, owner_else, place_of}
use Rattle.rules.specs.Rules.{opened}
use Rattle.laws.proofs.Lists.{Mem, mem_left, mem_pushed, total, total_push}
use Rattle.laws.proofs.Errands.{carries}
use Rattle.laws.proofs.Invariant.{Invariant, Story, Covered}
use Rattle.laws.proofs.Stories.{with_lookup}
use Rattle.laws.proofs.Sends.{adds_push}
use Rattle.laws.proofs.Accepted.{Lookups}

-- the fields of a GETITEM
pub record SameGet (r i q r' i' q' : ℕ) : Type 0 where
  pub replica : r ≡ r'
  pub place : i ≡ i'
  pub number : q ≡ q'

pub same_get : (to r i q to' r' i' q' : ℕ) → GetItem to r i q ≡ GetItem to' r' i' q' → SameGet r i q r' i' q'
same_get to r i q to' r' i' q' h = record { replica = cc; place = cc; number = cc }

pub add_not_get : (to r i a v to' r' i' q' : ℕ) → AddItem to r i a v ≡ GetItem to' r' i' q' → ⊥
add_not_get to r i a v to' r' i' q' h = let z : ◌≡◌ {A = ℕ} 0 1 = cc in omega arith

held_not_waiting : (a v : ℕ) → Held a v ≡ Waiting → ⊥
held_not_waiting a v h = let z : ◌≡◌ {A = ℕ} 0 1 = cc in omega arith

absent_not_waiting : Absent ≡ Waiting → ⊥
absent_not_waiting h = let z : ◌≡◌ {A = ℕ} 0 1 = cc in omega arith

module _ (set : Settings) {M : Type 0} (story : Story M) (s : State) (m₀ : M) (k r : ℕ) (kept : Invariant set story s) (lookups : Lookups set s k r) (Landed-then : (a : ℕ) → story.landed m₀ k a → story.arrived a r × ((v : ℕ) × story.inserted a k v)) where
  abbrev get : Message
  get = GetItem (owner_else set s.table (place_of set k r) (place_of set k r)) r (place_of set k r) s.number

  abbrev AskedAfter : M → ℕ → ℕ → ℕ → Type 0
  AskedAfter = (with_lookup story m₀ s.number k r).asked

  add_old : (to q i a v : ℕ) → Mem (AddItem to q i a v) (s.post ++ get ∷ []) → Mem (AddItem to q i a v) s.post
  add_old to q i a v h =
      ⊎_elim (λ x. x) (λ e. absurd (add_not_get to q i a v (owner_else set s.table (place_of set k r) (place_of set k r)) r (place_of set k r) s.number e)) (mem_pushed (AddItem to q i a v) get s.post h)

  get_either : (to q i n : ℕ) → Mem (GetItem to q i n) (s.post ++ get ∷ []) → Mem (GetItem to q i n) s.post ⊎ SameGet q i n r (place_of set k r) s.number
  get_either to q i n h =
      ⊎_elim (λ x. inl x) (λ e. inr (same_get to q i n (owner_else set s.table (place_of set k r) (place_of set k r)) r (place_of set k r) s.number e)) (mem_pushed (GetItem to q i n) get s.post h)

  asked_so : (q i n : ℕ) (m : M) (l r' to : ℕ) → Mem (GetItem to q i n) s.post ⊎ SameGet q i n r (place_of set k r) s.number → AskedAfter m n l r' → (q ≡ r') × (place_of set l r' ≡ i)
  asked_so q i n m l r' to (inl x) (inl y) = kept.faithful.gets_asked to q i n m l r' x y
  asked_so q i n m l r' to (inl x) (inr y) = absurd (omega (arith, kept.faithful.gets_below to q i n x, y.1))
  asked_so q i n m l r' to (inr x) (inl y) = absurd (omega (arith, (kept.faithful.asked_below m n l r' y).0, x.number))
  asked_so q i n m l r' to (inr x) (inr y) =
      (x.replica ∙ sym y.3, ap (λ b. place_of set b r') y.2 ∙ (ap (place_of set k) y.3 ∙ sym x.place))

  question_old : (q : ℕ) (reply : Reply) → (reply ≡ Waiting → ⊥) → Mem (question q reply) (s.questions ++ question s.number Waiting ∷ []) → Mem (question q reply) s.questions
  question_old q reply n h =
      ⊎_elim (λ x. x) (λ e. absurd (n (ap (λ x. x.reply) e))) (mem_pushed (question q reply) (question s.number Waiting) s.questions h)

  asked_old : (m : M) (q l r' : ℕ) (reply : Reply) → Mem (question q reply) s.questions → AskedAfter m q l r' → story.asked m q l r'
  asked_old m q l r' reply h (inl x) = x
  asked_old m q l r' reply h (inr x) = absurd (omega (arith, kept.faithful.questions_below (question q reply) h, x.1))

  below_after : (m : M) (q l r' : ℕ) → AskedAfter m q l r' → (q < s.number + 1) × (l < set.size)
  below_after m q l r' (inl x) = let b = kept.faithful.asked_below m q l r' x in (omega (arith, b.0), b.1)
  below_after m q l r' (inr x) = (omega (arith, x.1), subst (λ b. b < set.size) (sym x.2) lookups.below)

  covered_after : (m : M) (q l r' a : ℕ) → AskedAfter m q l r' → story.landed m l a → Covered s.shelf r' (place_of set l r') a
  covered_after m q l r' a (inl x) h = kept.faithful.landed_covered m q l r' a x h
  covered_after m q l r' a (inr x) h =
      let here : story.landed m₀ k a = subst (λ b. story.landed m₀ b a) x.2 (subst (λ n. story.landed n l a) x.0 h) in
      let then = Landed-then a here in
      let c : Covered s.shelf r (place_of set k r) a = kept.faithful.arrived_covered a k then.1.0 r then.0 then.1.1 in
      subst (λ b. Covered s.shelf b (place_of set l b) a) (sym x.3) (subst (λ b. Covered s.shelf r (place_of set b r) a) (sym x.2) c)

  pub lookup_kept : Invariant set (with_lookup story m₀ s.number k r) (opened set s k r)
  unfolding opened
  lookup_kept = record {
    sound = record {
      peers = kept.sound.peers;
      ordered = kept.sound.ordered;
      placed = kept.sound.placed;
      errands = λ x g a e. total_push (carries x g a e) s.post get ∙ (add-zero (total (carries x g a e) s.post) ∙ kept.sound.errands x g a e);
      populated = λ h. absurd (lookups.some_member h);
      room = omega (arith, adds_push s.post get, kept.sound.room);
    };
    faithful = record {
      copies_inserted = kept.faithful.copies_inserted;
      adds_inserted = λ to q i a v h. kept.faithful.adds_inserted to q i a v (add_old to q i a v h);
      adds_in_range = λ to q i a v h. kept.faithful.adds_in_range to q i a v (add_old to q i a v h);
      inserted_below = kept.faithful.inserted_below;
      stamp_once = kept.faithful.stamp_once;
      reached = λ a l v q h lo hi. ⊎_elim (λ w. inl (record { to = w.to; value = w.value; waits = mem_left (AddItem w.to q (place_of set l q) a w.value) s.post (get ∷ []) w.waits })) (λ c. inr c) (kept.faithful.reached a l v q h lo hi);
      arrived_below = kept.faithful.arrived_below;
      arrived_covered = kept.faithful.arrived_covered;
      gets_asked = λ to q i n m l r' h x. asked_so q i n m l r' to (get_either to q i n h) x;
      gets_below = λ to q i n h. ⊎_elim (λ x. omega (arith, kept.faithful.gets_below to q i n x)) (λ e. omega (arith, e.number)) (get_either to q i n h);
      questions_below = λ x h. ⊎_elim (λ y. omega (arith, kept.faithful.questions_below x y)) (λ e. omega (arith, ap (λ y. y.number) e)) (mem_pushed x (question s.number Waiting) s.questions h);
      asked_below = below_after;
      landed_covered = covered_after;
      found_fresh = λ m q l r' a v h x. let old = question_old q (Held a v) (held_not_waiting a v) h in kept.faithful.found_fresh m q l r' a v old (asked_old m q l r' (Held a v) old x);
      absent_fresh = λ m q l r' a h x. let old = question_old q Absent absent_not_waiting h in kept.faithful.absent_fresh m q l r' a old (asked_old m q l r' Absent old x);
    };
  }
