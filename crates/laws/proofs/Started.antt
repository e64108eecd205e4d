-- The errand of an arc that a peer starts to fill.
use Rattle.std.proofs.Common.{◌≡◌, ℕ, ◌+◌, cond, eqb, List, Some, None, Option, sym, refl, ap, ◌∙◌, arith}
use Rattle.std.proofs.lemmas.Bool.{cond-true, cond-false, eq-eqb, ne_eqb}
use Rattle.rules.specs.declared.PeerState.{PeerState}
use Rattle.rules.specs.declared.PeerState.TheVariants.{Settled, Filling, Giving, Leaving}
use Rattle.rules.specs.declared.Peer.{Peer}
use Rattle.rules.specs.State.{Settings, state_of}
use Rattle.laws.proofs.Table.{by_equal}
use Rattle.laws.proofs.Errands.{match, fills}
use Rattle.laws.proofs.Invariant.{Handing, Peers}
use Rattle.laws.proofs.Starts.{Starts}

module _ (set : Settings) (t t' : List Peer) (x g a e : ℕ) (peers : Peers set t) (starts : Starts set t t' x g a e) where
  filler_none : (h b d : ℕ) → fills (state_of t x) h b d ≡ 0
  filler_none h b d = go (state_of t x) refl
    where
      go : (o : Option PeerState) → state_of t x ≡ o → fills o h b d ≡ 0
      go None q = refl
      go (Some st) q = ap (λ k. fills (Some k) h b d) (starts.filler_was st q)

  giver_none : (h b d : ℕ) → fills (state_of t' g) h b d ≡ 0
  giver_none h b d = ap (λ o. fills o h b d) starts.owing.is ∙ go starts.owing.state starts.owing.owes
    where
      go : (st : PeerState) → Handing st → fills (Some st) h b d ≡ 0
      go Settled z = absurd z
      go (Filling k l m) z = absurd z
      go Giving z = refl
      go Leaving z = refl

  pub starts_fills : (y h b d : ℕ) → fills (state_of t' y) h b d ≡ fills (state_of t y) h b d + cond (eqb x y) (match g a e h b d) 0
  starts_fills y h b d =
      by_equal x y
      (λ q.
      let one : cond (eqb x y) (match g a e h b d) 0 ≡ match g a e h b d = cond-true (eqb x y) (match g a e h b d) 0 (eq-eqb x y q) in
      let two : fills (state_of t' y) h b d ≡ match g a e h b d = ap (λ k. fills (state_of t' k) h b d) (sym q) ∙ ap (λ o. fills o h b d) starts.filling in
      let three : fills (state_of t y) h b d ≡ 0 = ap (λ k. fills (state_of t k) h b d) (sym q) ∙ filler_none h b d in
      omega arith)
      (λ n.
      let one : cond (eqb x y) (match g a e h b d) 0 ≡ 0 = cond-false (eqb x y) (match g a e h b d) 0 (ne_eqb x y n) in
      let same : fills (state_of t' y) h b d ≡ fills (state_of t y) h b d = rest n in
      omega arith)
    where
      rest : (x ≡ y → ⊥) → fills (state_of t' y) h b d ≡ fills (state_of t y) h b d
      rest n =
          by_equal y g
          (λ q. ap (λ k. fills (state_of t' k) h b d) q ∙ (giver_none h b d ∙ sym (ap (λ k. fills (state_of t k) h b d) q ∙ ap (λ o. fills o h b d) starts.giver_was)))
          (λ m. ap (λ o. fills o h b d) (starts.others y (λ q. n (sym q)) m))
