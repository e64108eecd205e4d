-- The laws on copies and lookups, from what holds after every call.
use Rattle.std.proofs.Common.{◌≡◌, ℕ, ◌<◌, ◌≤◌, [], Some, sym, ap, ◌∙◌, subst, ⊎_elim, arith}
use Rattle.std.proofs.lemmas.Option.{same_Some}
use Rattle.circle.proofs.Places.{place_laws}
use Rattle.copies.specs.declared.Entry.{Entry}
use Rattle.copies.specs.Copies.{find}
use Rattle.rules.specs.declared.PeerState.TheVariants.{Filling}
use Rattle.rules.specs.State.{Settings, Lawful, State, state_of, owner_in, place_of}
use Rattle.rules.specs.Handover.{spot, entry}
use Rattle.laws.proofs.Lists.{Mem, total}
use Rattle.laws.proofs.Errands.{fills, match_itself}
use Rattle.laws.proofs.Invariant.{Sound, Faithful, Story, Covered}

module _ (set : Settings) (lawful : Lawful set) where
  pub place_below : (k r : ℕ) → place_of set k r < set.size
  place_below k r = (place_laws set.size set.copies lawful.some_size lawful.some_copies lawful.divides).below k r

  -- two items with one place for a replica are one
  pub same_item : (k l r : ℕ) → k < set.size → l < set.size → r ≤ set.copies → place_of set k r ≡ place_of set l r → k ≡ l
  same_item k l r a b c e =
      let laws = place_laws set.size set.copies lawful.some_size lawful.some_copies lawful.divides in
      sym (laws.item_back k r a c) ∙ (ap (λ i. Rattle.circle.specs.Circle.item_at set.size set.copies i r) e ∙ laws.item_back l r b c)

-- ---- when no message waits

module _ (set : Settings) (lawful : Lawful set) {M : Type 0} (story : Story M) (s : State) (sound : Sound set s) (faithful : Faithful set story s) (quiet : s.post ≡ []) where
  nobody_fills : (x g a e : ℕ) → state_of s.table x ≡ Some (Filling g a e) → ⊥
  nobody_fills x g a e f =
      let one : fills (state_of s.table x) g a e ≡ 1 = ap (λ o. fills o g a e) f ∙ match_itself g a e in
      let z : fills (state_of s.table x) g a e ≡ 0 = sym (sound.errands x g a e) ∙ ap (total (Rattle.laws.proofs.Errands.carries x g a e)) quiet in
      omega arith

  at_owner : (p r i : ℕ) (e : Entry) → find s.shelf (spot p r i) ≡ Some e → owner_in set s.table i ≡ Some p
  at_owner p r i e f =
      ⊎_elim (λ o. o) (λ w. absurd (nobody_fills w.filler p w.start w.end w.filling)) (sound.placed p r i e f).holder

  -- a copy that stands there covers every insert of its item
  covers_all : (p r i : ℕ) (e : Entry) (k a v : ℕ) → find s.shelf (spot p r i) ≡ Some e → place_of set k r ≡ i → story.inserted a k v → a ≤ e.stamp
  covers_all p r i e k a v f here ins =
      let pl = sound.placed p r i e f in
      ⊎_elim (λ w. absurd (subst (Mem _) quiet w.waits)) (λ c. via c) (faithful.reached a k v r ins pl.some_replica pl.replica_in_range)
    where
      via : Covered s.shelf r (place_of set k r) a → a ≤ e.stamp
      via c =
          let has : find s.shelf (spot c.holder r i) ≡ Some c.entry = subst (λ j. find s.shelf (spot c.holder r j) ≡ Some c.entry) here c.has in
          let who : c.holder ≡ p = same_Some c.holder p (sym (at_owner c.holder r i c.entry has) ∙ at_owner p r i e f) in
          let it : c.entry ≡ e = same_Some c.entry e (sym has ∙ (ap (λ h. find s.shelf (spot h r i)) who ∙ f)) in
          omega (arith, c.as_new, ap (λ x. x.stamp) it)

  pub record Kept (k r a v : ℕ) : Type 0 where
    pub owner : ℕ
    pub owns : owner_in set s.table (place_of set k r) ≡ Some owner
    pub has : find s.shelf (spot owner r (place_of set k r)) ≡ Some (entry a v)

  -- the last insert of an item is what the owner of each of its places holds
  pub kept_there : (k a v r : ℕ) → story.inserted a k v → ((a' v' : ℕ) → story.inserted a' k v' → a' ≤ a) → 1 ≤ r → r ≤ set.copies → Kept k r a v
  kept_there k a v r ins last r₁ r₂ =
      ⊎_elim (λ w. absurd (subst (Mem _) quiet w.waits)) (λ c. via c) (faithful.reached a k v r ins r₁ r₂)
    where
      via : Covered s.shelf r (place_of set k r) a → Kept k r a v
      via c =
          let src = faithful.copies_inserted c.holder r (place_of set k r) c.entry c.has in
          let item : src.item ≡ k = same_item set lawful src.item k r (faithful.inserted_below _ _ _ src.was).1 (faithful.inserted_below a k v ins).1 r₂ src.at in
          let was : story.inserted c.entry.stamp k c.entry.value = subst (λ l. story.inserted c.entry.stamp l c.entry.value) item src.was in
          let same_stamp : c.entry.stamp ≡ a = omega (arith, c.as_new, last c.entry.stamp c.entry.value was) in
          let was-a : story.inserted a k c.entry.value = subst (λ b. story.inserted b k c.entry.value) same_stamp was in
          let same-value : c.entry.value ≡ v = (faithful.stamp_once a k c.entry.value k v was-a ins).1 in
          let it : c.entry ≡ entry a v = ap (λ b. entry b c.entry.value) same_stamp ∙ ap (λ w. entry a w) same-value in
          record { owner = c.holder; owns = at_owner c.holder r (place_of set k r) c.entry c.has; has = c.has ∙ ap Some it }

  pub record Belongs (p r i a v : ℕ) : Type 0 where
    pub item : ℕ
    pub was : story.inserted a item v
    pub last : (a' v' : ℕ) → story.inserted a' item v' → a' ≤ a
    pub some_replica : 1 ≤ r
    pub replica_in_range : r ≤ set.copies
    pub here : i ≡ place_of set item r
    pub owns : owner_in set s.table i ≡ Some p

  -- and there is no other copy
  pub kept_only : (p r i a v : ℕ) → find s.shelf (spot p r i) ≡ Some (entry a v) → Belongs p r i a v
  kept_only p r i a v f =
      let src = faithful.copies_inserted p r i (entry a v) f in
      let pl = sound.placed p r i (entry a v) f in
      record {
        item = src.item;
        was = src.was;
        last = λ a' v' ins. covers_all p r i (entry a v) src.item a' v' f src.at ins;
        some_replica = pl.some_replica;
        replica_in_range = pl.replica_in_range;
        here = sym src.at;
        owns = at_owner p r i (entry a v) f;
      }
