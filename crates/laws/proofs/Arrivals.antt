-- The delivery of an ADDITEM to the owner keeps everything: kept or older, the insert has arrived.
use Rattle.std.proofs.Common.{◌≡◌, ℕ, ◌+◌, ◌<◌, ◌≤◌, true, false, ◌⊎◌, List, length, Some, None, Option, sym, refl, ap, ◌∙◌, subst, inl, inr, ⊎_elim, arith}
use Rattle.std.proofs.lemmas.Option.{same_Some}
use Rattle.std.specs.List.{remove, slice_get}
use Rattle.std.proofs.lemmas.Bool.{ltb-true, ltb-false, both_ways}
use Rattle.copies.specs.declared.Entry.{Entry}
use Rattle.copies.specs.declared.CopyRecord.{CopyRecord}
use Rattle.copies.specs.Copies.{Ordered, find, put}
use Rattle.copies.proofs.Facts.{some_none, find_put, find_put_other, by_same, ordered_put, length_put_absent, length_put_present}
use Rattle.messages.specs.declared.Message.{Message}
use Rattle.messages.specs.declared.Message.TheVariants.{AddItem, GetItem}
use Rattle.rules.specs.State.{Settings, Lawful, State, with_post, with_shelf, owner_in, place_of}
use Rattle.rules.specs.Handover.{spot, entry, newer}
use Rattle.laws.proofs.Lists.{Mem, taken_mem, taken_from, taken_or, taken_total}
use Rattle.laws.proofs.Errands.{carries, adding, adds_total}
use Rattle.laws.proofs.Invariant.{Invariant, Story, Source, Waits, Covered, Placed}
use Rattle.laws.proofs.Promises.{place_below}
use Rattle.laws.proofs.Stories.{with_arrival}
use Rattle.laws.proofs.Inserts.{same_add}
use Rattle.laws.proofs.Resends.{populated_now}

-- the copy was taken in at the owner: put, or there was a newer one
pub record TakenIn (sh sh' : List CopyRecord) (to r i a v : ℕ) : Type 0 where
  pub ordered : Ordered sh'
  pub covers : (q j b : ℕ) → Covered sh q j b → Covered sh' q j b
  pub here : Covered sh' r i a
  pub copies_from : (p q j : ℕ) (c : Entry) → find sh' (spot p q j) ≡ Some c → (find sh (spot p q j) ≡ Some c) ⊎ ((spot p q j ≡ spot to r i) × (c ≡ entry a v))
  pub cells : length sh' ≤ length sh + 1

module _ (sh : List CopyRecord) (to r i a v : ℕ) (o : Ordered sh) where
  pub older_in : newer (find sh (spot to r i)) a ≡ true → TakenIn sh sh to r i a v
  older_in n = record { ordered = o; covers = λ q j b c. c; here = go (find sh (spot to r i)) refl n; copies_from = λ p q j c f. inl f; cells = omega arith }
    where
      go : (w : Option Entry) → find sh (spot to r i) ≡ w → newer w a ≡ true → Covered sh r i a
      go None e t = absurd (both_ways false refl t)
      go (Some c) e t = record { holder = to; entry = c; has = e; as_new = omega (arith, ltb-true a c.stamp t) }

  pub kept_in : newer (find sh (spot to r i)) a ≡ false → TakenIn sh (put sh (spot to r i) (entry a v)) to r i a v
  kept_in n = record {
    ordered = ordered_put sh (spot to r i) (entry a v) o;
    covers = still;
    here = record { holder = to; entry = entry a v; has = find_put sh (spot to r i) (entry a v); as_new = omega arith };
    copies_from = λ p q j c f. by_same (spot to r i) (spot p q j) (λ e. inr (sym e, same_Some c (entry a v) (sym f ∙ (ap (find (put sh (spot to r i) (entry a v))) (sym e) ∙ find_put sh (spot to r i) (entry a v))))) (λ m. inl (sym (find_put_other sh (spot to r i) (entry a v) (spot p q j) m) ∙ f));
    cells = count (find sh (spot to r i)) refl;
  }
    where
      not_newer : (w : Option Entry) (c : Entry) → newer w a ≡ false → w ≡ Some c → c.stamp ≤ a
      not_newer None c f e = absurd (some_none (sym e))
      not_newer (Some d) c f e = omega (arith, ltb-false a d.stamp f, ap (λ x. x.stamp) (same_Some d c e))

      still : (q j b : ℕ) → Covered sh q j b → Covered (put sh (spot to r i) (entry a v)) q j b
      still q j b c =
          by_same (spot to r i) (spot c.holder q j)
          (λ e. record { holder = c.holder; entry = entry a v; has = ap (find (put sh (spot to r i) (entry a v))) (sym e) ∙ find_put sh (spot to r i) (entry a v); as_new = omega (arith, c.as_new, not_newer (find sh (spot to r i)) c.entry n (ap (find sh) e ∙ c.has)) })
          (λ m. record { holder = c.holder; entry = c.entry; has = find_put_other sh (spot to r i) (entry a v) (spot c.holder q j) m ∙ c.has; as_new = c.as_new })

      count : (w : Option Entry) → find sh (spot to r i) ≡ w → length (put sh (spot to r i) (entry a v)) ≤ length sh + 1
      count None e = omega (arith, length_put_absent sh (spot to r i) (entry a v) e)
      count (Some c) e = omega (arith, length_put_present sh (spot to r i) (entry a v) c o e)

module _ (set : Settings) (lawful : Lawful set) {M : Type 0} (story : Story M) (s : State) (n to r i a v : ℕ) (sh' : List CopyRecord) (kept : Invariant set story s) (at_n : slice_get s.post n ≡ Some (AddItem to r i a v)) (owner_to : owner_in set s.table i ≡ Some to) (taken : TakenIn s.shelf sh' to r i a v) where
  abbrev add : Message
  add = AddItem to r i a v

  waited : Mem add s.post
  waited = taken_mem s.post n add at_n

  source : Source set story.inserted r i a v
  source = kept.faithful.adds_inserted to r i a v waited

  is_in_range : (1 ≤ r) × (r ≤ set.copies)
  is_in_range = kept.faithful.adds_in_range to r i a v waited

  copy_inserted : (p q j : ℕ) (c : Entry) → find sh' (spot p q j) ≡ Some c → Source set story.inserted q j c.stamp c.value
  copy_inserted p q j c f = ⊎_elim (λ old. kept.faithful.copies_inserted p q j c old) new (taken.copies_from p q j c f)
    where
      new : (spot p q j ≡ spot to r i) × (c ≡ entry a v) → Source set story.inserted q j c.stamp c.value
      new e =
          subst (λ d. Source set story.inserted q j d.stamp d.value) (sym e.1)
          (subst (λ d. Source set story.inserted d.replica d.place a v) (sym e.0) source)

  placed_new : Placed set s.table to r i
  placed_new = record { place_below = subst (λ j. j < set.size) source.at (place_below set lawful source.item r); some_replica = is_in_range.0; replica_in_range = is_in_range.1; holder = inl owner_to }

  placed_after : (p q j : ℕ) (c : Entry) → find sh' (spot p q j) ≡ Some c → Placed set s.table p q j
  placed_after p q j c f =
      ⊎_elim (λ old. kept.sound.placed p q j c old) (λ e. subst (λ d. Placed set s.table d.peer d.replica d.place) (sym e.0) placed_new) (taken.copies_from p q j c f)

  reached_after : (b k w q : ℕ) → story.inserted b k w → 1 ≤ q → q ≤ set.copies → Waits (remove s.post n) q (place_of set k q) b ⊎ Covered sh' q (place_of set k q) b
  reached_after b k w q ins lo hi = ⊎_elim waits (λ c. inr (taken.covers q (place_of set k q) b c)) (kept.faithful.reached b k w q ins lo hi)
    where
      waits : Waits s.post q (place_of set k q) b → Waits (remove s.post n) q (place_of set k q) b ⊎ Covered sh' q (place_of set k q) b
      waits y =
          ⊎_elim
          (λ e.
          let f = same_add y.to q (place_of set k q) b y.value to r i a v e in
          inr (subst (λ x. Covered sh' q (place_of set k q) x) (sym f.stamp) (subst (λ x. Covered sh' q x a) (sym f.place) (subst (λ x. Covered sh' x i a) (sym f.replica) taken.here))))
          (λ x. inl (record { to = y.to; value = y.value; waits = x }))
          (taken_or s.post n add at_n (AddItem y.to q (place_of set k q) b y.value) y.waits)

  arrived_after : (b k w q : ℕ) → (with_arrival story a r).arrived b q → story.inserted b k w → Covered sh' q (place_of set k q) b
  arrived_after b k w q (inl x) ins = taken.covers q (place_of set k q) b (kept.faithful.arrived_covered b k w q x ins)
  arrived_after b k w q (inr x) ins =
      let ins-a : story.inserted a k w = subst (λ c. story.inserted c k w) x.0 ins in
      let item : k ≡ source.item = (kept.faithful.stamp_once a k w source.item v ins-a source.was).0 in
      let there : place_of set k q ≡ i = ap (λ l. place_of set l q) item ∙ (ap (place_of set source.item) x.1 ∙ source.at) in
      subst (λ c. Covered sh' q (place_of set k q) c) (sym x.0) (subst (λ j. Covered sh' q j a) (sym there) (subst (λ p. Covered sh' p i a) (sym x.1) taken.here))

  below_after : (b q : ℕ) → (with_arrival story a r).arrived b q → b < s.stamp
  below_after b q (inl x) = kept.faithful.arrived_below b q x
  below_after b q (inr x) = omega (arith, x.0, (kept.faithful.inserted_below a source.item v source.was).0)

  pub arrival_kept : Invariant set (with_arrival story a r) (with_shelf sh' (with_post (remove s.post n) s))
  arrival_kept = record {
    sound = record {
      peers = kept.sound.peers;
      ordered = taken.ordered;
      placed = placed_after;
      errands = λ x g b e. omega (arith, taken_total s.post n add at_n (carries x g b e), kept.sound.errands x g b e);
      populated = λ h. absurd (populated_now set story s n add add kept at_n h);
      room = omega (arith, kept.sound.room, taken.cells, adds_total s.post, adds_total (remove s.post n), taken_total s.post n add at_n adding);
    };
    faithful = record {
      copies_inserted = copy_inserted;
      adds_inserted = λ h q j b w x. kept.faithful.adds_inserted h q j b w (taken_from s.post n add at_n (AddItem h q j b w) x);
      adds_in_range = λ h q j b w x. kept.faithful.adds_in_range h q j b w (taken_from s.post n add at_n (AddItem h q j b w) x);
      inserted_below = kept.faithful.inserted_below;
      stamp_once = kept.faithful.stamp_once;
      reached = reached_after;
      arrived_below = below_after;
      arrived_covered = arrived_after;
      gets_asked = λ h q j l m k q' x. kept.faithful.gets_asked h q j l m k q' (taken_from s.post n add at_n (GetItem h q j l) x);
      gets_below = λ h q j l x. kept.faithful.gets_below h q j l (taken_from s.post n add at_n (GetItem h q j l) x);
      questions_below = kept.faithful.questions_below;
      asked_below = kept.faithful.asked_below;
      landed_covered = λ m l k q b x y. taken.covers q (place_of set k q) b (kept.faithful.landed_covered m l k q b x y);
      found_fresh = kept.faithful.found_fresh;
      absent_fresh = kept.faithful.absent_fresh;
    };
  }
