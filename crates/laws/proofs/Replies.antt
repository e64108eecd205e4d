-- The delivery of a GETITEM to the owner keeps everything: what it shows is as new as all that had landed.
use Rattle.std.proofs.Common.{◌≡◌, ℕ, ◌<◌, ◌≤◌, Bool, true, false, cond, eqb, ◌⊎◌, List, [], ◌∷◌, Some, None, Option, sym, refl, ap, ◌∙◌, subst, inl, inr, ⊎_elim, arith}
use Rattle.std.proofs.lemmas.Option.{same_Some}
use Rattle.std.specs.List.{remove, slice_get}
use Rattle.std.proofs.lemmas.Bool.{cases_Bool, cond-true, cond-false, both_ways}
use Rattle.copies.specs.declared.Entry.{Entry}
use Rattle.copies.specs.Copies.{find}
use Rattle.copies.proofs.Facts.{some_none}
use Rattle.messages.specs.declared.Message.{Message}
use Rattle.messages.specs.declared.Message.TheVariants.{AddItem, GetItem}
use Rattle.rules.specs.declared.PeerState.TheVariants.{Filling}
use Rattle.rules.specs.declared.Reply.{Reply}
use Rattle.rules.specs.declared.Reply.TheVariants.{TooEarly, Held, Absent}
use Rattle.rules.specs.declared.Question.{Question}
use Rattle.rules.specs.State.{Settings, Lawful, State, state_of, with_post, question, with_reply, owner_in, place_of}
use Rattle.rules.specs.Handover.{spot, entry}
use Rattle.rules.specs.Rules.{still_to_come, shown, answering}
use Rattle.laws.proofs.Lists.{Mem, taken_mem, taken_from, taken_or, taken_total}
use Rattle.laws.proofs.Errands.{carries, adding, adds_total}
use Rattle.laws.proofs.Invariant.{Invariant, Story, Awaited}
use Rattle.laws.proofs.Promises.{same_item}
use Rattle.laws.proofs.Lookups.{add_not_get}
use Rattle.laws.proofs.Resends.{populated_now}

-- ---- questions and replies

reply_from : (q : ℕ) (reply : Reply) (x : Question) (xs : List Question) → Mem x (with_reply q reply xs) → Mem x xs ⊎ (x ≡ question q reply)
reply_from q reply x [] h = absurd h
reply_from q reply x (y ∷ ys) h =
    ⊎_elim
    (λ e. ⊎_elim (λ t. inr (e ∙ cond-true (eqb y.number q) (question q reply) y t)) (λ f. inl (inl (e ∙ cond-false (eqb y.number q) (question q reply) y f))) (cases_Bool (eqb y.number q)))
    (λ k. ⊎_elim (λ a. inl (inr a)) (λ b. inr b) (reply_from q reply x ys k))
    h

-- what is shown, and when
shown_held : (early : Bool) (o : Option Entry) (a v : ℕ) → Held a v ≡ cond early TooEarly (shown o) → (early ≡ false) × (o ≡ Some (entry a v))
shown_held true o a v h = absurd (let z : ◌≡◌ {A = ℕ} 0 1 = cc in omega arith)
shown_held false None a v h = absurd (let z : ◌≡◌ {A = ℕ} 0 1 = cc in omega arith)
shown_held false (Some e) a v h =
    let p : a ≡ e.stamp = cc in
    let q : v ≡ e.value = cc in
    (refl, ap Some (ap (λ b. entry b e.value) (sym p) ∙ ap (λ w. entry a w) (sym q)))

shown_absent : (early : Bool) (o : Option Entry) → Absent ≡ cond early TooEarly (shown o) → (early ≡ false) × (o ≡ None)
shown_absent true o h = absurd (let z : ◌≡◌ {A = ℕ} 0 1 = cc in omega arith)
shown_absent false None h = (refl, refl)
shown_absent false (Some e) h = absurd (let z : ◌≡◌ {A = ℕ} 0 1 = cc in omega arith)

module _ (set : Settings) (lawful : Lawful set) {M : Type 0} (story : Story M) (s : State) (n to r i q : ℕ) (kept : Invariant set story s) (at_n : slice_get s.post n ≡ Some (GetItem to r i q)) (owner_to : owner_in set s.table i ≡ Some to) where
  abbrev get : Message
  get = GetItem to r i q

  abbrev reply : Reply
  reply = cond (still_to_come set (state_of s.table to) i) TooEarly (shown (find s.shelf (spot to r i)))

  waited : Mem get s.post
  waited = taken_mem s.post n get at_n

  -- every copy of the place is at its owner, unless it is still to come
  all_here : still_to_come set (state_of s.table to) i ≡ false → (h : ℕ) (c : Entry) → find s.shelf (spot h r i) ≡ Some c → find s.shelf (spot to r i) ≡ Some c
  all_here came h c f =
      ⊎_elim
      (λ o. subst (λ k. find s.shelf (spot k r i) ≡ Some c) (same_Some h to (sym o ∙ owner_to)) f)
      (λ w. absurd (awaited w))
      (kept.sound.placed h r i c f).holder
    where
      awaited : Awaited set s.table h i → ⊥
      awaited w =
          let who : w.filler ≡ to = same_Some w.filler to (sym w.owner ∙ owner_to) in
          let st : state_of s.table to ≡ Some (Filling h w.start w.end) = ap (state_of s.table) (sym who) ∙ w.filling in
          both_ways (still_to_come set (state_of s.table to) i) came (ap (λ o. still_to_come set o i) st ∙ w.on)

  -- what had landed is covered by what the owner holds
  landed_here : (m : M) (k r' b : ℕ) → still_to_come set (state_of s.table to) i ≡ false → story.asked m q k r' → story.landed m k b → (c : Entry) × (find s.shelf (spot to r i) ≡ Some c) × (b ≤ c.stamp)
  landed_here m k r' b came asked landed =
      let e = kept.faithful.gets_asked to r i q m k r' waited asked in
      let c = kept.faithful.landed_covered m q k r' b asked landed in
      let has_i : find s.shelf (spot c.holder r' i) ≡ Some c.entry = subst (λ j. find s.shelf (spot c.holder r' j) ≡ Some c.entry) e.1 c.has in
      let has : find s.shelf (spot c.holder r i) ≡ Some c.entry = subst (λ t. find s.shelf (spot c.holder t i) ≡ Some c.entry) (sym e.0) has_i in
      (c.entry, all_here came c.holder c.entry has, c.as_new)

  found_now : (m : M) (k r' a v : ℕ) → Held a v ≡ reply → story.asked m q k r' → story.inserted a k v × ((b : ℕ) → story.landed m k b → b ≤ a)
  found_now m k r' a v h asked =
      let sh = shown_held (still_to_come set (state_of s.table to) i) (find s.shelf (spot to r i)) a v h in
      let e = kept.faithful.gets_asked to r i q m k r' waited asked in
      let src = kept.faithful.copies_inserted to r i (entry a v) sh.1 in
      let pl = kept.sound.placed to r i (entry a v) sh.1 in
      let same_place : place_of set src.item r ≡ place_of set k r = src.at ∙ (sym e.1 ∙ ap (place_of set k) (sym e.0)) in
      let item : src.item ≡ k = same_item set lawful src.item k r (kept.faithful.inserted_below a src.item v src.was).1 (kept.faithful.asked_below m q k r' asked).1 pl.replica_in_range same_place in
      (subst (λ l. story.inserted a l v) item src.was, λ b landed. fresh sh.0 sh.1 b landed)
    where
      fresh : still_to_come set (state_of s.table to) i ≡ false → find s.shelf (spot to r i) ≡ Some (entry a v) → (b : ℕ) → story.landed m k b → b ≤ a
      fresh came has b landed =
          let c = landed_here m k r' b came asked landed in
          let same-entry : c.0 ≡ entry a v = same_Some c.0 (entry a v) (sym c.1 ∙ has) in
          omega (arith, c.2, ap (λ x. x.stamp) same-entry)

  absent_now : (m : M) (k r' b : ℕ) → Absent ≡ reply → story.asked m q k r' → story.landed m k b → ⊥
  absent_now m k r' b h asked landed =
      let sh = shown_absent (still_to_come set (state_of s.table to) i) (find s.shelf (spot to r i)) h in
      let c = landed_here m k r' b sh.0 asked landed in
      some_none (sym c.1 ∙ sh.1)

  add_waits : (t j b w h : ℕ) → Mem (AddItem h t j b w) s.post → Mem (AddItem h t j b w) (remove s.post n)
  add_waits t j b w h x = ⊎_elim (λ e. absurd (add_not_get h t j b w to r i q e)) (λ y. y) (taken_or s.post n get at_n (AddItem h t j b w) x)

  pub reply_kept : Invariant set story (answering set (with_post (remove s.post n) s) (state_of s.table to) to r i q).after
  unfolding answering
  reply_kept = record {
    sound = record {
      peers = kept.sound.peers;
      ordered = kept.sound.ordered;
      placed = kept.sound.placed;
      errands = λ x g b e. omega (arith, taken_total s.post n get at_n (carries x g b e), kept.sound.errands x g b e);
      populated = λ h. absurd (populated_now set story s n get get kept at_n h);
      room = omega (arith, kept.sound.room, adds_total s.post, adds_total (remove s.post n), taken_total s.post n get at_n adding);
    };
    faithful = record {
      copies_inserted = kept.faithful.copies_inserted;
      adds_inserted = λ h t j b w x. kept.faithful.adds_inserted h t j b w (taken_from s.post n get at_n (AddItem h t j b w) x);
      adds_in_range = λ h t j b w x. kept.faithful.adds_in_range h t j b w (taken_from s.post n get at_n (AddItem h t j b w) x);
      inserted_below = kept.faithful.inserted_below;
      stamp_once = kept.faithful.stamp_once;
      reached = λ b k w t ins lo hi. ⊎_elim (λ y. inl (record { to = y.to; value = y.value; waits = add_waits t (place_of set k t) b y.value y.to y.waits })) (λ c. inr c) (kept.faithful.reached b k w t ins lo hi);
      arrived_below = kept.faithful.arrived_below;
      arrived_covered = kept.faithful.arrived_covered;
      gets_asked = λ h t j l m k t' x. kept.faithful.gets_asked h t j l m k t' (taken_from s.post n get at_n (GetItem h t j l) x);
      gets_below = λ h t j l x. kept.faithful.gets_below h t j l (taken_from s.post n get at_n (GetItem h t j l) x);
      questions_below = λ x h. ⊎_elim (λ y. kept.faithful.questions_below x y) (λ e. subst (λ l. l < s.number) (sym (ap (λ y. y.number) e)) (kept.faithful.gets_below to r i q waited)) (reply_from q reply x s.questions h);
      asked_below = kept.faithful.asked_below;
      landed_covered = kept.faithful.landed_covered;
      found_fresh = λ m l k t a v h asked. ⊎_elim (λ y. kept.faithful.found_fresh m l k t a v y asked) (λ e. found_now m k t a v (ap (λ y. y.reply) e) (subst (λ p. story.asked m p k t) (ap (λ y. y.number) e) asked)) (reply_from q reply (question l (Held a v)) s.questions h);
      absent_fresh = λ m l k t b h asked landed. ⊎_elim (λ y. kept.faithful.absent_fresh m l k t b y asked landed) (λ e. absent_now m k t b (ap (λ y. y.reply) e) (subst (λ p. story.asked m p k t) (ap (λ y. y.number) e) asked) landed) (reply_from q reply (question l Absent) s.questions h);
    };
  }
