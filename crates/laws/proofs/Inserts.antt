-- Insert keeps everything: its messages wait from now on.
use Rattle.std.proofs.Common.{◌≡◌, ℕ, zero, suc, ◌+◌, ◌<◌, ◌≤◌, ◌⊎◌, List, [], ◌∷◌, ◌++◌, sym, refl, ap, ◌∙◌, subst, inl, inr, ⊎_elim, arith}
use Rattle.std.proofs.lemmas.Bool.{cases_eq}
use Rattle.messages.specs.declared.Message.{Message}
use Rattle.messages.specs.declared.Message.TheVariants.{AddItem, GetItem}
use Rattle.rules.specs.declared.Peer.{Peer}
use Rattle.rules.specs.State.{Settings, State, state_of, adds, owner_else, place_of}
use Rattle.rules.specs.Rules.{additions, inserted}
use Rattle.laws.proofs.Lists.{Mem, mem_left, mem_right, mem_push, mem_either, mem_pushed, total, total_append, total_push}
use Rattle.laws.proofs.Errands.{fills, carries, adding, adds_total}
use Rattle.laws.proofs.Invariant.{Invariant, Story, Source, Waits, Covered}
use Rattle.laws.proofs.Stories.{with_insert}
use Rattle.laws.proofs.Accepted.{Inserts}

-- ---- the messages of an insert

-- m is the ADDITEM of this insert for some replica up to n
pub record Of (set : Settings) (k stamp v n : ℕ) (m : Message) : Type 0 where
  pub to : ℕ
  pub replica : ℕ
  pub some_replica : 1 ≤ replica
  pub replica_in_range : replica ≤ n
  pub is : m ≡ AddItem to replica (place_of set k replica) stamp v

abbrev new : Settings → List Peer → ℕ → ℕ → ℕ → ℕ → Message
new set t k stamp v r = AddItem (owner_else set t (place_of set k r) (place_of set k r)) r (place_of set k r) stamp v

widen : (set : Settings) (k stamp v n : ℕ) (m : Message) → Of set k stamp v n m → Of set k stamp v (suc n) m
widen set k stamp v n m o = record { to = o.to; replica = o.replica; some_replica = o.some_replica; replica_in_range = omega (arith, o.replica_in_range); is = o.is }

pub additions_are : (set : Settings) (t : List Peer) (k stamp v n : ℕ) (m : Message) → Mem m (additions set t k stamp v n) → Of set k stamp v n m
additions_are set t k stamp v zero m h = absurd h
additions_are set t k stamp v (suc n) m h =
    ⊎_elim
    (λ l. widen set k stamp v n m (additions_are set t k stamp v n m l))
    (λ e. record { to = owner_else set t (place_of set k (suc n)) (place_of set k (suc n)); replica = suc n; some_replica = omega arith; replica_in_range = omega arith; is = e })
    (mem_pushed m (new set t k stamp v (suc n)) (additions set t k stamp v n) h)

pub additions_wait : (set : Settings) (t : List Peer) (k stamp v n r : ℕ) → 1 ≤ r → r ≤ n → Waits (additions set t k stamp v n) r (place_of set k r) stamp
additions_wait set t k stamp v zero r a b = absurd (omega arith)
additions_wait set t k stamp v (suc n) r a b =
    ⊎_elim
    (λ e. subst (λ q. Waits (additions set t k stamp v n ++ new set t k stamp v (suc n) ∷ []) q (place_of set k q) stamp) (sym e) (record { to = owner_else set t (place_of set k (suc n)) (place_of set k (suc n)); value = v; waits = mem_push (new set t k stamp v (suc n)) (additions set t k stamp v n) }))
    (λ ne.
    let w = additions_wait set t k stamp v n r a (omega arith) in
    record { to = w.to; value = w.value; waits = mem_left (AddItem w.to r (place_of set k r) stamp w.value) (additions set t k stamp v n) (new set t k stamp v (suc n) ∷ []) w.waits })
    (cases_eq r (suc n))

pub additions_count : (set : Settings) (t : List Peer) (k stamp v n : ℕ) → total adding (additions set t k stamp v n) ≡ n
additions_count set t k stamp v zero = refl
additions_count set t k stamp v (suc n) = omega (arith, total_push adding (additions set t k stamp v n) (new set t k stamp v (suc n)), additions_count set t k stamp v n)

pub additions_carry : (set : Settings) (t : List Peer) (k stamp v n x g a e : ℕ) → total (carries x g a e) (additions set t k stamp v n) ≡ 0
additions_carry set t k stamp v zero x g a e = refl
additions_carry set t k stamp v (suc n) x g a e = omega (arith, total_push (carries x g a e) (additions set t k stamp v n) (new set t k stamp v (suc n)), additions_carry set t k stamp v n x g a e)

-- the fields of an ADDITEM
pub record SameAdd (r i a v r' i' a' v' : ℕ) : Type 0 where
  pub replica : r ≡ r'
  pub place : i ≡ i'
  pub stamp : a ≡ a'
  pub value : v ≡ v'

pub same_add : (to r i a v to' r' i' a' v' : ℕ) → AddItem to r i a v ≡ AddItem to' r' i' a' v' → SameAdd r i a v r' i' a' v'
same_add to r i a v to' r' i' a' v' h = record { replica = cc; place = cc; stamp = cc; value = cc }

pub get_not_add : (to r i q to' r' i' a' v' : ℕ) → GetItem to r i q ≡ AddItem to' r' i' a' v' → ⊥
get_not_add to r i q to' r' i' a' v' h = let z : ◌≡◌ {A = ℕ} 0 1 = cc in omega arith

-- ---- the call

module _ (set : Settings) {M : Type 0} (story : Story M) (s : State) (k v : ℕ) (kept : Invariant set story s) (inserts : Inserts set s k) where
  abbrev more : List Message
  more = additions set s.table k s.stamp v set.copies

  source_old : (r i a w : ℕ) → Source set story.inserted r i a w → Source set (with_insert story s.stamp k v).inserted r i a w
  source_old r i a w o = record { item = o.item; was = inl o.was; at = o.at }

  source_new : (to r i a w : ℕ) → Of set k s.stamp v set.copies (AddItem to r i a w) → Source set (with_insert story s.stamp k v).inserted r i a w
  source_new to r i a w o =
      let e = same_add to r i a w o.to o.replica (place_of set k o.replica) s.stamp v o.is in
      record { item = k; was = inr (e.stamp, refl, e.value); at = ap (place_of set k) e.replica ∙ sym e.place }

  range_new : (to r i a w : ℕ) → Of set k s.stamp v set.copies (AddItem to r i a w) → (1 ≤ r) × (r ≤ set.copies)
  range_new to r i a w o =
      let e = same_add to r i a w o.to o.replica (place_of set k o.replica) s.stamp v o.is in
      (omega (arith, e.replica, o.some_replica), omega (arith, e.replica, o.replica_in_range))

  either_add : (m : Message) → Mem m (s.post ++ more) → Mem m s.post ⊎ Of set k s.stamp v set.copies m
  either_add m h = ⊎_elim (λ a. inl a) (λ b. inr (additions_are set s.table k s.stamp v set.copies m b)) (mem_either m s.post more h)

  get_old : (to r i q : ℕ) → Mem (GetItem to r i q) (s.post ++ more) → Mem (GetItem to r i q) s.post
  get_old to r i q h =
      ⊎_elim (λ a. a) (λ o. absurd (get_not_add to r i q o.to o.replica (place_of set k o.replica) s.stamp v o.is)) (either_add (GetItem to r i q) h)

  once_after : (a l w l' w' : ℕ) → (with_insert story s.stamp k v).inserted a l w → (with_insert story s.stamp k v).inserted a l' w' → (l ≡ l') × (w ≡ w')
  once_after a l w l' w' (inl x) (inl y) = kept.faithful.stamp_once a l w l' w' x y
  once_after a l w l' w' (inl x) (inr y) = absurd (omega (arith, (kept.faithful.inserted_below a l w x).0, y.0))
  once_after a l w l' w' (inr x) (inl y) = absurd (omega (arith, (kept.faithful.inserted_below a l' w' y).0, x.0))
  once_after a l w l' w' (inr x) (inr y) = (x.1 ∙ sym y.1, x.2 ∙ sym y.2)

  below_after : (a l w : ℕ) → (with_insert story s.stamp k v).inserted a l w → (a < s.stamp + 1) × (l < set.size)
  below_after a l w (inl x) = let b = kept.faithful.inserted_below a l w x in (omega (arith, b.0), b.1)
  below_after a l w (inr x) = (omega (arith, x.0), subst (λ n. n < set.size) (sym x.1) inserts.below)

  reached_after : (a l w r : ℕ) → (with_insert story s.stamp k v).inserted a l w → 1 ≤ r → r ≤ set.copies → Waits (s.post ++ more) r (place_of set l r) a ⊎ Covered s.shelf r (place_of set l r) a
  reached_after a l w r (inl x) lo hi =
      ⊎_elim (λ y. inl (record { to = y.to; value = y.value; waits = mem_left (AddItem y.to r (place_of set l r) a y.value) s.post more y.waits })) (λ c. inr c) (kept.faithful.reached a l w r x lo hi)
  reached_after a l w r (inr x) lo hi = inl (subst (λ b. Waits (s.post ++ more) r (place_of set l r) b) (sym x.0) (subst (λ b. Waits (s.post ++ more) r (place_of set b r) s.stamp) (sym x.1) here))
    where
      here : Waits (s.post ++ more) r (place_of set k r) s.stamp
      here =
          let y = additions_wait set s.table k s.stamp v set.copies r lo hi in
          record { to = y.to; value = y.value; waits = mem_right (AddItem y.to r (place_of set k r) s.stamp y.value) s.post more y.waits }

  arrived_after : (a l w r : ℕ) → story.arrived a r → (with_insert story s.stamp k v).inserted a l w → Covered s.shelf r (place_of set l r) a
  arrived_after a l w r x (inl y) = kept.faithful.arrived_covered a l w r x y
  arrived_after a l w r x (inr y) = absurd (omega (arith, kept.faithful.arrived_below a r x, y.0))

  adds_after : adds (s.post ++ more) ≡ adds s.post + set.copies
  adds_after =
      adds_total (s.post ++ more)
      ∙ (total_append adding s.post more
      ∙ (ap (λ n. n + total adding more) (sym (adds_total s.post))
      ∙ ap (λ n. adds s.post + n) (additions_count set s.table k s.stamp v set.copies)))

  errands_after : (x g a e : ℕ) → total (carries x g a e) (s.post ++ more) ≡ fills (state_of s.table x) g a e
  errands_after x g a e =
      omega (arith, total_append (carries x g a e) s.post more, additions_carry set s.table k s.stamp v set.copies x g a e, kept.sound.errands x g a e)

  pub insert_kept : Invariant set (with_insert story s.stamp k v) (inserted set s k v)
  unfolding inserted
  insert_kept = record {
    sound = record {
      peers = kept.sound.peers;
      ordered = kept.sound.ordered;
      placed = kept.sound.placed;
      errands = errands_after;
      populated = λ h. absurd (inserts.some_member h);
      room = omega (arith, adds_after, inserts.room, kept.sound.room);
    };
    faithful = record {
      copies_inserted = λ p r i e h. source_old r i e.stamp e.value (kept.faithful.copies_inserted p r i e h);
      adds_inserted = λ to r i a w h. ⊎_elim (λ x. source_old r i a w (kept.faithful.adds_inserted to r i a w x)) (λ o. source_new to r i a w o) (either_add (AddItem to r i a w) h);
      adds_in_range = λ to r i a w h. ⊎_elim (λ x. kept.faithful.adds_in_range to r i a w x) (λ o. range_new to r i a w o) (either_add (AddItem to r i a w) h);
      inserted_below = below_after;
      stamp_once = once_after;
      reached = reached_after;
      arrived_below = λ a r h. omega (arith, kept.faithful.arrived_below a r h);
      arrived_covered = arrived_after;
      gets_asked = λ to r i q m l r' h. kept.faithful.gets_asked to r i q m l r' (get_old to r i q h);
      gets_below = λ to r i q h. kept.faithful.gets_below to r i q (get_old to r i q h);
      questions_below = kept.faithful.questions_below;
      asked_below = kept.faithful.asked_below;
      landed_covered = kept.faithful.landed_covered;
      found_fresh = λ m q l r a w h x. let f = kept.faithful.found_fresh m q l r a w h x in (inl f.0, f.1);
      absent_fresh = kept.faithful.absent_fresh;
    };
  }
