-- What a handover does to copies: each is still somewhere or is covered by a newer one, and stands where it may.
use Rattle.std.proofs.Common.{◌≡◌, ℕ, ◌<◌, ◌≤◌, Bool, true, false, ltb, ◌⊎◌, List, Some, None, Option, sym, refl, ap, ◌∙◌, subst, inl, inr, ⊎_elim, arith}
use Rattle.std.proofs.lemmas.Bool.{cases_Bool, cond-true, cond-false, ltb-true, ltb-false, both_ways}
use Rattle.circle.specs.Circle.{in_arc}
use Rattle.copies.specs.declared.Entry.{Entry}
use Rattle.copies.specs.declared.CopyRecord.{CopyRecord}
use Rattle.copies.specs.Copies.{find}
use Rattle.copies.proofs.Facts.{some_none}
use Rattle.rules.specs.declared.PeerState.TheVariants.{Filling}
use Rattle.rules.specs.declared.Peer.{Peer}
use Rattle.rules.specs.State.{Settings, state_of, owner_in}
use Rattle.rules.specs.Handover.{spot, newer}
use Rattle.laws.proofs.Table.{by_equal}
use Rattle.laws.proofs.Moves.{merged, Handed}
use Rattle.laws.proofs.Handovers.{on_arc, on_arc_lem}
use Rattle.laws.proofs.Invariant.{Peers, Awaited, Placed, AllPlaced, Covered}
use Rattle.laws.proofs.Starts.{parts, owing_not}
use Rattle.laws.proofs.Ends.{Ends, same_owners, only_filler, filler_owes_not}

-- ---- the newer of two

merged_from : (o there : Option Entry) (c : Entry) → merged o there ≡ Some c → (o ≡ Some c) ⊎ (there ≡ Some c)
merged_from None there c h = inr h
merged_from (Some e) there c h =
    ⊎_elim
    (λ t. inr (sym (cond-true (newer there e.stamp) there (Some e) t) ∙ h))
    (λ f. inl (sym (cond-false (newer there e.stamp) there (Some e) f) ∙ h))
    (cases_Bool (newer there e.stamp))

-- an entry that is as new as this stamp
pub record AsNew (o : Option Entry) (a : ℕ) : Type 0 where
  pub entry : Entry
  pub is : o ≡ Some entry
  pub as_new : a ≤ entry.stamp

merged_left : (e : Entry) (there : Option Entry) → AsNew (merged (Some e) there) e.stamp
merged_left e None = record { entry = e; is = refl; as_new = omega arith }
merged_left e (Some c) =
    ⊎_elim
    (λ t. record { entry = c; is = cond-true (ltb e.stamp c.stamp) (Some c) (Some e) t; as_new = omega (arith, ltb-true e.stamp c.stamp t) })
    (λ f. record { entry = e; is = cond-false (ltb e.stamp c.stamp) (Some c) (Some e) f; as_new = omega arith })
    (cases_Bool (ltb e.stamp c.stamp))

merged_right : (o : Option Entry) (c : Entry) → AsNew (merged o (Some c)) c.stamp
merged_right None c = record { entry = c; is = refl; as_new = omega arith }
merged_right (Some e) c =
    ⊎_elim
    (λ t. record { entry = c; is = cond-true (ltb e.stamp c.stamp) (Some c) (Some e) t; as_new = omega arith })
    (λ f. record { entry = e; is = cond-false (ltb e.stamp c.stamp) (Some c) (Some e) f; as_new = omega (arith, ltb-false e.stamp c.stamp f) })
    (cases_Bool (ltb e.stamp c.stamp))

-- ---- where copies came from, and what still covers what

module _ (sh sh' : List CopyRecord) (x g : ℕ) (P : ℕ → ℕ → Bool) (handed : Handed sh sh' x g P) where
  pub hands_from : (p r i : ℕ) (c : Entry) → find sh' (spot p r i) ≡ Some c → (h : ℕ) × (find sh (spot h r i) ≡ Some c)
  hands_from p r i c f = by_equal p g (λ q. at_giver (subst (λ k. find sh' (spot k r i) ≡ Some c) q f)) (λ n. by_equal p x (λ q. at_filler (subst (λ k. find sh' (spot k r i) ≡ Some c) q f)) (λ m. (p, sym (handed.others_keep p r i n m) ∙ f)))
    where
      at_giver : find sh' (spot g r i) ≡ Some c → (h : ℕ) × (find sh (spot h r i) ≡ Some c)
      at_giver k = ⊎_elim (λ t. absurd (some_none (sym k ∙ handed.given r i t))) (λ u. (g, sym (handed.giver_keeps r i u) ∙ k)) (cases_Bool (P r i))

      at_filler : find sh' (spot x r i) ≡ Some c → (h : ℕ) × (find sh (spot h r i) ≡ Some c)
      at_filler k =
          ⊎_elim
          (λ t. ⊎_elim (λ o. (g, o)) (λ o. (x, o)) (merged_from (find sh (spot g r i)) (find sh (spot x r i)) c (sym (handed.got r i t) ∙ k)))
          (λ u. (x, sym (handed.filler_keeps r i u) ∙ k))
          (cases_Bool (P r i))

  covered_at : (h r i a : ℕ) (o : Option Entry) → find sh' (spot h r i) ≡ o → (w : AsNew o a) → Covered sh' r i a
  covered_at h r i a o e w = record { holder = h; entry = w.entry; has = e ∙ w.is; as_new = w.as_new }

  newer_still : (o : Option Entry) (a b : ℕ) → a ≤ b → AsNew o b → AsNew o a
  newer_still o a b l w = record { entry = w.entry; is = w.is; as_new = omega (arith, w.as_new) }

  pub hands_cover : (r i a : ℕ) → Covered sh r i a → Covered sh' r i a
  hands_cover r i a c = by_equal c.holder g (λ q. at_giver (subst (λ k. find sh (spot k r i) ≡ Some c.entry) q c.has)) (λ n. by_equal c.holder x (λ q. at_filler (subst (λ k. find sh (spot k r i) ≡ Some c.entry) q c.has)) (λ m. elsewhere n m))
    where
      stays_at : (h : ℕ) → find sh' (spot h r i) ≡ Some c.entry → Covered sh' r i a
      stays_at h e = record { holder = h; entry = c.entry; has = e; as_new = c.as_new }

      elsewhere : (c.holder ≡ g → ⊥) → (c.holder ≡ x → ⊥) → Covered sh' r i a
      elsewhere n m = stays_at c.holder (handed.others_keep c.holder r i n m ∙ c.has)

      at_giver : find sh (spot g r i) ≡ Some c.entry → Covered sh' r i a
      at_giver k =
          ⊎_elim
          (λ t. covered_at x r i a (merged (Some c.entry) (find sh (spot x r i))) (handed.got r i t ∙ ap (λ o. merged o (find sh (spot x r i))) k) (newer_still (merged (Some c.entry) (find sh (spot x r i))) a c.entry.stamp c.as_new (merged_left c.entry (find sh (spot x r i)))))
          (λ u. stays_at g (handed.giver_keeps r i u ∙ k))
          (cases_Bool (P r i))

      at_filler : find sh (spot x r i) ≡ Some c.entry → Covered sh' r i a
      at_filler k =
          ⊎_elim
          (λ t. covered_at x r i a (merged (find sh (spot g r i)) (Some c.entry)) (handed.got r i t ∙ ap (λ o. merged (find sh (spot g r i)) o) k) (newer_still (merged (find sh (spot g r i)) (Some c.entry)) a c.entry.stamp c.as_new (merged_right (find sh (spot g r i)) c.entry)))
          (λ u. stays_at x (handed.filler_keeps r i u ∙ k))
          (cases_Bool (P r i))

-- ---- where copies stand

module _ (set : Settings) (t t' : List Peer) (sh sh' : List CopyRecord) (x g a e : ℕ) (peers : Peers set t) (filling : state_of t x ≡ Some (Filling g a e)) (ends : Ends t t' x g) (handed : Handed sh sh' x g (on_arc set.size a e)) (placed : AllPlaced set t sh) where
  on_is : (r i : ℕ) → i < set.size → on_arc set.size a e r i ≡ in_arc set.size a e i
  on_is r i i< = let b = peers.arc_below x g a e filling in on_arc_lem set.size a e r i b.0 b.1 i<

  -- a place and a replica as before, with an owner as now
  standing : (p h r i : ℕ) → Placed set t h r i → (owner_in set t' i ≡ Some p) ⊎ Awaited set t' p i → Placed set t' p r i
  standing p h r i k o = record { place_below = k.place_below; some_replica = k.some_replica; replica_in_range = k.replica_in_range; holder = o }

  owner_stays : (p i : ℕ) → owner_in set t i ≡ Some p → owner_in set t' i ≡ Some p
  owner_stays p i o = same_owners set t t' x g a e peers filling ends i ∙ o

  at_giver : (r i : ℕ) (c : Entry) → find sh (spot g r i) ≡ Some c → on_arc set.size a e r i ≡ false → Placed set t' g r i
  at_giver r i c f off = standing g g r i k (⊎_elim (λ o. inl (owner_stays g i o)) (λ w. absurd (not_on w)) k.holder)
    where
      k : Placed set t g r i
      k = placed g r i c f

      not_on : Awaited set t g i → ⊥
      not_on w =
          let who : w.filler ≡ x = only_filler set t t' x g a e peers filling ends w.filler w.start w.end w.filling in
          let same-arc = parts g w.start w.end g a e (sym w.filling ∙ (ap (state_of t) who ∙ filling)) in
          let on : in_arc set.size a e i ≡ true = ap (λ b. in_arc set.size b e i) (sym same-arc.start) ∙ (ap (λ b. in_arc set.size w.start b i) (sym same-arc.end) ∙ w.on) in
          both_ways (on_arc set.size a e r i) off (on_is r i k.place_below ∙ on)

  at_filler_new : (h r i : ℕ) (c : Entry) → find sh (spot h r i) ≡ Some c → on_arc set.size a e r i ≡ true → Placed set t' x r i
  at_filler_new h r i c f on =
      let k = placed h r i c f in
      standing x h r i k (inl (owner_stays x i (peers.arc_owned x g a e i filling k.place_below (sym (on_is r i k.place_below) ∙ on))))

  at_filler_old : (r i : ℕ) (c : Entry) → find sh (spot x r i) ≡ Some c → Placed set t' x r i
  at_filler_old r i c f =
      let k = placed x r i c f in
      standing x x r i k (⊎_elim (λ o. inl (owner_stays x i o)) (λ w. absurd (filler_owes_not set t t' x g a e peers filling ends w.filler w.start w.end w.filling)) k.holder)

  at_other : (p r i : ℕ) (c : Entry) → (p ≡ g → ⊥) → find sh (spot p r i) ≡ Some c → Placed set t' p r i
  at_other p r i c n f =
      let k = placed p r i c f in
      standing p p r i k (⊎_elim (λ o. inl (owner_stays p i o)) (λ w. inr (still w)) k.holder)
    where
      still : Awaited set t p i → Awaited set t' p i
      still w =
          let not-x : w.filler ≡ x → ⊥ = λ q. n (parts p w.start w.end g a e (sym w.filling ∙ (ap (state_of t) q ∙ filling))).giver in
          let not-g : w.filler ≡ g → ⊥ = λ q. owing_not t g (Filling p w.start w.end) (λ z. z) (ap (state_of t) (sym q) ∙ w.filling) (peers.giver_there x g a e filling) in
          record { filler = w.filler; start = w.start; end = w.end; owner = owner_stays w.filler i w.owner; filling = ends.others w.filler not-x not-g ∙ w.filling; on = w.on }

  pub hands_placed : AllPlaced set t' sh'
  hands_placed p r i c f = by_equal p g (λ q. subst (λ k. Placed set t' k r i) (sym q) (giver (subst (λ k. find sh' (spot k r i) ≡ Some c) q f))) (λ n. by_equal p x (λ q. subst (λ k. Placed set t' k r i) (sym q) (filler (subst (λ k. find sh' (spot k r i) ≡ Some c) q f))) (λ m. at_other p r i c n (sym (handed.others_keep p r i n m) ∙ f)))
    where
      giver : find sh' (spot g r i) ≡ Some c → Placed set t' g r i
      giver k = ⊎_elim (λ on. absurd (some_none (sym k ∙ handed.given r i on))) (λ off. at_giver r i c (sym (handed.giver_keeps r i off) ∙ k) off) (cases_Bool (on_arc set.size a e r i))

      filler : find sh' (spot x r i) ≡ Some c → Placed set t' x r i
      filler k =
          ⊎_elim
          (λ on. ⊎_elim (λ o. at_filler_new g r i c o on) (λ o. at_filler_old r i c o) (merged_from (find sh (spot g r i)) (find sh (spot x r i)) c (sym (handed.got r i on) ∙ k)))
          (λ off. at_filler_old r i c (sym (handed.filler_keeps r i off) ∙ k))
          (cases_Bool (on_arc set.size a e r i))
