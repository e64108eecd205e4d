-- A peer starts to fill an arc: what join and leave both do. What held of peers and copies holds after it.
use Rattle.std.proofs.Common.{◌≡◌, ℕ, ◌<◌, true, false, ◌⊎◌, List, Some, Option, sym, ap, ◌∙◌, subst, inl, inr, ⊎_elim, arith}
use Rattle.std.proofs.lemmas.Option.{same_Some}
use Rattle.std.proofs.lemmas.Bool.{cases_Bool}
use Rattle.circle.specs.Circle.{in_arc}
use Rattle.copies.specs.declared.CopyRecord.{CopyRecord}
use Rattle.rules.specs.declared.PeerState.{PeerState}
use Rattle.rules.specs.declared.PeerState.TheVariants.{Settled, Filling}
use Rattle.rules.specs.declared.Peer.{Peer}
use Rattle.rules.specs.State.{Settings, state_of, owner_in}
use Rattle.laws.proofs.Table.{Distinct, by_equal}
use Rattle.laws.proofs.Invariant.{Handing, Owing, Peers, Awaited, AllPlaced}

-- x starts to fill the arc from a to e from g
pub record Starts (set : Settings) (t t' : List Peer) (x g a e : ℕ) : Type 0 where
  -- g owned the arc before, x owns it now, and elsewhere owners stay
  pub was : (i : ℕ) → i < set.size → in_arc set.size a e i ≡ true → owner_in set t i ≡ Some g
  pub now : (i : ℕ) → i < set.size → in_arc set.size a e i ≡ true → owner_in set t' i ≡ Some x
  pub elsewhere : (i : ℕ) → i < set.size → in_arc set.size a e i ≡ false → owner_in set t' i ≡ owner_in set t i
  -- only x and g change, which were settled, or x was not there
  pub filling : state_of t' x ≡ Some (Filling g a e)
  pub owing : Owing t' g
  pub giver_was : state_of t g ≡ Some Settled
  pub filler_was : (st : PeerState) → state_of t x ≡ Some st → st ≡ Settled
  pub others : (q : ℕ) → (q ≡ x → ⊥) → (q ≡ g → ⊥) → state_of t' q ≡ state_of t q
  pub distinct : Distinct t'
  pub filler_below : x < set.size
  pub start_below : a < set.size
  pub end_below : e < set.size

pub filling_not_settled : (g a e : ℕ) → ◌≡◌ {A = PeerState} (Filling g a e) Settled → ⊥
filling_not_settled g a e h = let z : ◌≡◌ {A = ℕ} 0 1 = cc in omega arith

pub owing_not : (t : List Peer) (g : ℕ) (st : PeerState) → (Handing st → ⊥) → state_of t g ≡ Some st → Owing t g → ⊥
owing_not t g st never h o = never (subst Handing (same_Some o.state st (sym o.is ∙ h)) o.owes)

pub record Parts (g a e h b d : ℕ) : Type 0 where
  pub giver : g ≡ h
  pub start : a ≡ b
  pub end : e ≡ d

pub parts : (g a e h b d : ℕ) → ◌≡◌ {A = Option PeerState} (Some (Filling g a e)) (Some (Filling h b d)) → Parts g a e h b d
parts g a e h b d q = record { giver = cc; start = cc; end = cc }

module _ (set : Settings) (t t' : List Peer) (x g a e : ℕ) (peers : Peers set t) (starts : Starts set t t' x g a e) where
  giver_not_filling : (h b d : ℕ) → state_of t g ≡ Some (Filling h b d) → ⊥
  giver_not_filling h b d f = filling_not_settled h b d (same_Some (Filling h b d) Settled (sym f ∙ starts.giver_was))

  filler_not_filling : (h b d : ℕ) → state_of t x ≡ Some (Filling h b d) → ⊥
  filler_not_filling h b d f = filling_not_settled h b d (starts.filler_was (Filling h b d) f)

  giver_now_not_filling : (h b d : ℕ) → state_of t' g ≡ Some (Filling h b d) → ⊥
  giver_now_not_filling h b d f = owing_not t' g (Filling h b d) (λ z. z) f starts.owing

  -- who fills now is x, or filled before
  pub who : (y h b d : ℕ) → state_of t' y ≡ Some (Filling h b d) → ((y ≡ x) × Parts g a e h b d) ⊎ ((y ≡ x → ⊥) × (state_of t y ≡ Some (Filling h b d)))
  who y h b d f =
      by_equal y x
      (λ q. inl (q, parts g a e h b d (sym starts.filling ∙ (ap (state_of t') (sym q) ∙ f))))
      (λ n. by_equal y g
      (λ q. absurd (giver_now_not_filling h b d (subst (λ k. state_of t' k ≡ Some (Filling h b d)) q f)))
      (λ m. inr (n, sym (starts.others y n m) ∙ f)))

  -- an old giver is neither
  old_giver : (y h b d : ℕ) → state_of t y ≡ Some (Filling h b d) → state_of t' h ≡ state_of t h
  old_giver y h b d f =
      let o = peers.giver_there y h b d f in
      starts.others h
      (λ q. owing_not t h Settled (λ z. z) (o.is ∙ ap Some (starts.filler_was o.state (ap (state_of t) (sym q) ∙ o.is))) o)
      (λ q. owing_not t h Settled (λ z. z) (ap (state_of t) q ∙ starts.giver_was) o)

  nobody_from_g : (y b d : ℕ) → state_of t y ≡ Some (Filling g b d) → ⊥
  nobody_from_g y b d f = owing_not t g Settled (λ z. z) starts.giver_was (peers.giver_there y g b d f)

  owing_after : (y h b d : ℕ) → state_of t' y ≡ Some (Filling h b d) → Owing t' h
  owing_after y h b d f = ⊎_elim new old (who y h b d f)
    where
      new : (y ≡ x) × Parts g a e h b d → Owing t' h
      new k = subst (Owing t') k.1.giver starts.owing

      old : (y ≡ x → ⊥) × (state_of t y ≡ Some (Filling h b d)) → Owing t' h
      old k = let o = peers.giver_there y h b d k.1 in record { state = o.state; is = old_giver y h b d k.1 ∙ o.is; owes = o.owes }

  once_after : (y z h b d b' d' : ℕ) → state_of t' y ≡ Some (Filling h b d) → state_of t' z ≡ Some (Filling h b' d') → y ≡ z
  once_after y z h b d b' d' f f' =
      ⊎_elim
      (λ k. ⊎_elim (λ l. k.0 ∙ sym l.0) (λ l. absurd (nobody_from_g z b' d' (subst (λ j. state_of t z ≡ Some (Filling j b' d')) (sym k.1.giver) l.1))) (who z h b' d' f'))
      (λ k. ⊎_elim (λ l. absurd (nobody_from_g y b d (subst (λ j. state_of t y ≡ Some (Filling j b d)) (sym l.1.giver) k.1))) (λ l. peers.giver_once y z h b d b' d' k.1 l.1) (who z h b' d' f'))
      (who y h b d f)

  -- a place that somebody filled before is not on the new arc
  old_arc : (y h b d i : ℕ) → i < set.size → state_of t y ≡ Some (Filling h b d) → owner_in set t i ≡ Some y → owner_in set t' i ≡ Some y
  old_arc y h b d i i< f o =
      ⊎_elim
      (λ on. absurd (giver_not_filling h b d (subst (λ k. state_of t k ≡ Some (Filling h b d)) (same_Some y g (sym o ∙ starts.was i i< on)) f)))
      (λ off. starts.elsewhere i i< off ∙ o)
      (cases_Bool (in_arc set.size a e i))

  owned_after : (y h b d i : ℕ) → state_of t' y ≡ Some (Filling h b d) → i < set.size → in_arc set.size b d i ≡ true → owner_in set t' i ≡ Some y
  owned_after y h b d i f i< on = ⊎_elim new old (who y h b d f)
    where
      new : (y ≡ x) × Parts g a e h b d → owner_in set t' i ≡ Some y
      new k =
          let on-new : in_arc set.size a e i ≡ true = ap (λ l. in_arc set.size l e i) k.1.start ∙ (ap (λ l. in_arc set.size b l i) k.1.end ∙ on) in
          starts.now i i< on-new ∙ ap Some (sym k.0)

      old : (y ≡ x → ⊥) × (state_of t y ≡ Some (Filling h b d)) → owner_in set t' i ≡ Some y
      old k = old_arc y h b d i i< k.1 (peers.arc_owned y h b d i k.1 i< on)

  below_after : (p : ℕ) (st : PeerState) → state_of t' p ≡ Some st → p < set.size
  below_after p st f =
      by_equal p x
      (λ q. subst (λ k. k < set.size) (sym q) starts.filler_below)
      (λ n. by_equal p g
      (λ q. subst (λ k. k < set.size) (sym q) (peers.below g Settled starts.giver_was))
      (λ m. peers.below p st (sym (starts.others p n m) ∙ f)))

  arc_below_after : (y h b d : ℕ) → state_of t' y ≡ Some (Filling h b d) → (b < set.size) × (d < set.size)
  arc_below_after y h b d f =
      ⊎_elim
      (λ k. (subst (λ l. l < set.size) k.1.start starts.start_below, subst (λ l. l < set.size) k.1.end starts.end_below))
      (λ k. peers.arc_below y h b d k.1)
      (who y h b d f)

  pub starts_peers : Peers set t'
  starts_peers = record {
    distinct = starts.distinct;
    below = below_after;
    giver_there = owing_after;
    giver_once = once_after;
    arc_below = arc_below_after;
    arc_owned = owned_after;
  }

  holds_after : (p i : ℕ) → i < set.size → (owner_in set t i ≡ Some p) ⊎ Awaited set t p i → (owner_in set t' i ≡ Some p) ⊎ Awaited set t' p i
  holds_after p i i< (inl o) =
      ⊎_elim
      (λ on. inr (record { filler = x; start = a; end = e; owner = starts.now i i< on; filling = starts.filling ∙ ap (λ k. Some (Filling k a e)) (same_Some g p (sym (starts.was i i< on) ∙ o)); on = on }))
      (λ off. inl (starts.elsewhere i i< off ∙ o))
      (cases_Bool (in_arc set.size a e i))
  holds_after p i i< (inr w) =
      let y : ℕ = w.filler in
      let not-x : y ≡ x → ⊥ = λ q. filler_not_filling p w.start w.end (subst (λ k. state_of t k ≡ Some (Filling p w.start w.end)) q w.filling) in
      let not-g : y ≡ g → ⊥ = λ q. giver_not_filling p w.start w.end (subst (λ k. state_of t k ≡ Some (Filling p w.start w.end)) q w.filling) in
      inr (record {
        filler = y;
        start = w.start;
        end = w.end;
        owner = old_arc y p w.start w.end i i< w.filling w.owner;
        filling = starts.others y not-x not-g ∙ w.filling;
        on = w.on;
      })

  pub starts_placed : (sh : List CopyRecord) → AllPlaced set t sh → AllPlaced set t' sh
  starts_placed sh placed p r i c f =
      let k = placed p r i c f in
      record { place_below = k.place_below; some_replica = k.some_replica; replica_in_range = k.replica_in_range; holder = holds_after p i k.place_below k.holder }
