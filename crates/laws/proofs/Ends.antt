-- A handover ends: filler and giver are settled, or the giver is off the table. What held of the peers holds after it.
use Rattle.std.proofs.Common.{◌≡◌, ℕ, ◌<◌, List, Some, None, Option, sym, refl, ap, ◌∙◌, subst}
use Rattle.std.proofs.lemmas.Option.{same_Some}
use Rattle.circle.specs.Owners.{owner}
use Rattle.copies.proofs.Facts.{some_none}
use Rattle.rules.specs.declared.PeerState.{PeerState}
use Rattle.rules.specs.declared.PeerState.TheVariants.{Settled, Filling, Giving, Leaving}
use Rattle.rules.specs.declared.Peer.{Peer}
use Rattle.rules.specs.State.{Settings, members, state_of, with_state, without, owner_in}
use Rattle.rules.specs.Rules.{released}
use Rattle.laws.proofs.Table.{Distinct, by_equal, set_other, set_same, without_same, without_other, distinct_set, distinct_without}
use Rattle.laws.proofs.Members.{members_set, members_without}
use Rattle.laws.proofs.Errands.{fills}
use Rattle.laws.proofs.Invariant.{Handing, Owing, Peers}
use Rattle.laws.proofs.Starts.{filling_not_settled, owing_not}

-- x no longer fills, g no longer owes, and nothing else changes
pub record Ends (t t' : List Peer) (x g : ℕ) : Type 0 where
  pub same_members : members t' ≡ members t
  pub filler_now : state_of t' x ≡ Some Settled
  pub giver_now : (st : PeerState) → state_of t' g ≡ Some st → st ≡ Settled
  pub others : (q : ℕ) → (q ≡ x → ⊥) → (q ≡ g → ⊥) → state_of t' q ≡ state_of t q
  pub distinct : Distinct t'

module _ (t : List Peer) (x g a e : ℕ) (distinct : Distinct t) (filling : state_of t x ≡ Some (Filling g a e)) where
  not_giver : (st : PeerState) → Handing st → state_of t g ≡ Some st → x ≡ g → ⊥
  not_giver st h is q = subst Handing (same_Some st (Filling g a e) (sym is ∙ (ap (state_of t) (sym q) ∙ filling))) h

  -- after the giver's own change, t₁
  settling : (t₁ : List Peer) → members t₁ ≡ members t → Distinct t₁ → ((q : ℕ) → (q ≡ g → ⊥) → state_of t₁ q ≡ state_of t q) → ((st : PeerState) → state_of t₁ g ≡ Some st → st ≡ Settled) → (x ≡ g → ⊥) → Ends t (with_state x Settled t₁) x g
  settling t₁ ms d os gs ne =
      let here : state_of t₁ x ≡ Some (Filling g a e) = os x ne ∙ filling in
      record {
        same_members = members_set t₁ x Settled (Filling g a e) d here refl refl ∙ ms;
        filler_now = set_same t₁ x Settled (Filling g a e) here;
        giver_now = λ st h. gs st (sym (set_other t₁ x Settled g ne) ∙ h);
        others = λ q n m. set_other t₁ x Settled q (λ k. n (sym k)) ∙ os q m;
        distinct = distinct_set t₁ x Settled d;
      }

  by_state : (st : PeerState) → Handing st → state_of t g ≡ Some st → Ends t (with_state x Settled (released (Some st) g t)) x g
  by_state Settled h is = absurd h
  by_state (Filling k b d) h is = absurd h
  by_state Giving h is =
      settling (with_state g Settled t) (members_set t g Settled Giving distinct is refl refl) (distinct_set t g Settled distinct) (λ q n. set_other t g Settled q (λ k. n (sym k))) (λ st k. same_Some st Settled (sym k ∙ set_same t g Settled Giving is)) (not_giver Giving tt is)
  by_state Leaving h is =
      settling (without g t) (members_without t g distinct is) (distinct_without t g distinct) (λ q n. without_other t g q (λ k. n (sym k))) (λ st k. absurd (some_none (sym k ∙ without_same t g))) (not_giver Leaving tt is)

  pub handover_ends : Owing t g → Ends t (with_state x Settled (released (state_of t g) g t)) x g
  handover_ends o = subst (λ w. Ends t (with_state x Settled (released w g t)) x g) (sym o.is) (by_state o.state o.owes o.is)

  pub apart : Owing t g → x ≡ g → ⊥
  apart o = not_giver o.state o.owes o.is

-- ---- the peers after it

module _ (set : Settings) (t t' : List Peer) (x g a e : ℕ) (peers : Peers set t) (filling : state_of t x ≡ Some (Filling g a e)) (ends : Ends t t' x g) where
  pub same_owners : (i : ℕ) → owner_in set t' i ≡ owner_in set t i
  same_owners i = ap (λ ms. owner set.size ms i) ends.same_members

  -- who fills now is neither, and filled before
  pub who : (y h b d : ℕ) → state_of t' y ≡ Some (Filling h b d) → (y ≡ x → ⊥) × (y ≡ g → ⊥) × (state_of t y ≡ Some (Filling h b d))
  who y h b d f =
      let not-x : y ≡ x → ⊥ = λ q. filling_not_settled h b d (same_Some (Filling h b d) Settled (sym f ∙ (ap (state_of t') q ∙ ends.filler_now))) in
      let not-g : y ≡ g → ⊥ = λ q. filling_not_settled h b d (ends.giver_now (Filling h b d) (ap (state_of t') (sym q) ∙ f)) in
      (not-x, not-g, sym (ends.others y not-x not-g) ∙ f)

  -- nobody else is owed by g, and nobody is owed by x
  pub only_filler : (y b d : ℕ) → state_of t y ≡ Some (Filling g b d) → y ≡ x
  only_filler y b d f = peers.giver_once y x g b d a e f filling

  pub filler_owes_not : (y b d : ℕ) → state_of t y ≡ Some (Filling x b d) → ⊥
  filler_owes_not y b d f = owing_not t x (Filling g a e) (λ z. z) filling (peers.giver_there y x b d f)

  giver_after : (y h b d : ℕ) → state_of t' y ≡ Some (Filling h b d) → Owing t' h
  giver_after y h b d f =
      let w = who y h b d f in
      let o = peers.giver_there y h b d w.2 in
      let not-x : h ≡ x → ⊥ = λ q. filler_owes_not y b d (subst (λ k. state_of t y ≡ Some (Filling k b d)) q w.2) in
      let not-g : h ≡ g → ⊥ = λ q. w.0 (only_filler y b d (subst (λ k. state_of t y ≡ Some (Filling k b d)) q w.2)) in
      record { state = o.state; is = ends.others h not-x not-g ∙ o.is; owes = o.owes }

  below_after : (p : ℕ) (st : PeerState) → state_of t' p ≡ Some st → p < set.size
  below_after p st f =
      by_equal p x
      (λ q. subst (λ k. k < set.size) (sym q) (peers.below x (Filling g a e) filling))
      (λ n. by_equal p g
      (λ q. let o = peers.giver_there x g a e filling in subst (λ k. k < set.size) (sym q) (peers.below g o.state o.is))
      (λ m. peers.below p st (sym (ends.others p n m) ∙ f)))

  pub ends_peers : Peers set t'
  ends_peers = record {
    distinct = ends.distinct;
    below = below_after;
    giver_there = giver_after;
    giver_once = λ y z h b d b' d' f f'. peers.giver_once y z h b d b' d' (who y h b d f).2 (who z h b' d' f').2;
    arc_below = λ y h b d f. peers.arc_below y h b d (who y h b d f).2;
    arc_owned = λ y h b d i f i< on. same_owners i ∙ peers.arc_owned y h b d i (who y h b d f).2 i< on;
  }

  -- ---- what is still awaited

  none_filled : (o : Option PeerState) (h b d : ℕ) → ((st : PeerState) → o ≡ Some st → st ≡ Settled) → fills o h b d ≡ 0
  none_filled None h b d n = refl
  none_filled (Some st) h b d n = ap (λ k. fills (Some k) h b d) (n st refl)

  owing_none : (st : PeerState) (h b d : ℕ) → Handing st → fills (Some st) h b d ≡ 0
  owing_none Settled h b d z = absurd z
  owing_none (Filling k l m) h b d z = absurd z
  owing_none Giving h b d z = refl
  owing_none Leaving h b d z = refl

  pub ends_fills_filler : (h b d : ℕ) → fills (state_of t' x) h b d ≡ 0
  ends_fills_filler h b d = ap (λ o. fills o h b d) ends.filler_now

  pub ends_fills_other : (y h b d : ℕ) → (y ≡ x → ⊥) → fills (state_of t' y) h b d ≡ fills (state_of t y) h b d
  ends_fills_other y h b d n =
      by_equal y g
      (λ q.
      let o = peers.giver_there x g a e filling in
      let now : fills (state_of t' y) h b d ≡ 0 = ap (λ k. fills (state_of t' k) h b d) q ∙ none_filled (state_of t' g) h b d ends.giver_now in
      let then : fills (state_of t y) h b d ≡ 0 = ap (λ k. fills (state_of t k) h b d) q ∙ (ap (λ w. fills w h b d) o.is ∙ owing_none o.state h b d o.owes) in
      now ∙ sym then)
      (λ m. ap (λ o. fills o h b d) (ends.others y n m))
