-- The table as a function from identifiers to states: what a new entry, a changed state and a removal do to it, and to the members.
use Rattle.std.proofs.Common.{◌≡◌, ℕ, cond, eqb, List, [], ◌∷◌, ◌++◌, Some, None, sym, refl, ap, ◌∙◌, subst, ⊎_elim}
use Rattle.std.proofs.lemmas.Bool.{cases_Bool, cond-true, cond-false, eqb-true, eqb-false, eq-eqb, ne_eqb}
use Rattle.copies.proofs.Facts.{some_none}
use Rattle.rules.specs.declared.PeerState.{PeerState}
use Rattle.rules.specs.declared.Peer.{Peer}
use Rattle.rules.specs.State.{peer, state_of, with_state, without}

-- ---- one entry in front

pub state_here : (q : Peer) (t : List Peer) (p : ℕ) → q.id ≡ p → state_of (q ∷ t) p ≡ Some q.state
state_here q t p e = cond-true (eqb q.id p) (Some q.state) (state_of t p) (eq-eqb q.id p e)

pub state_there : (q : Peer) (t : List Peer) (p : ℕ) → (q.id ≡ p → ⊥) → state_of (q ∷ t) p ≡ state_of t p
state_there q t p e = cond-false (eqb q.id p) (Some q.state) (state_of t p) (ne_eqb q.id p e)

pub by_equal : (a b : ℕ) {X : Type 0} → (a ≡ b → X) → ((a ≡ b → ⊥) → X) → X
by_equal a b f g = ⊎_elim (λ h. f (eqb-true a b h)) (λ h. g (eqb-false a b h)) (cases_Bool (eqb a b))

-- ---- one more peer

pub push_other : (t : List Peer) (p : ℕ) (st : PeerState) (q : ℕ) → (p ≡ q → ⊥) → state_of (t ++ peer p st ∷ []) q ≡ state_of t q
push_other [] p st q n = state_there (peer p st) [] q n
push_other (x ∷ t) p st q n = ap (λ o. cond (eqb x.id q) (Some x.state) o) (push_other t p st q n)

pub push_new : (t : List Peer) (p : ℕ) (st : PeerState) → state_of t p ≡ None → state_of (t ++ peer p st ∷ []) p ≡ Some st
push_new [] p st h = state_here (peer p st) [] p refl
push_new (x ∷ t) p st h =
    by_equal x.id p
    (λ e. absurd (some_none (sym (state_here x t p e) ∙ h)))
    (λ n. state_there x (t ++ peer p st ∷ []) p n ∙ push_new t p st (sym (state_there x t p n) ∙ h))

-- ---- a changed state

entry_with : (x : Peer) (p : ℕ) (st : PeerState) → (x.id ≡ p) → cond (eqb x.id p) (peer p st) x ≡ peer p st
entry_with x p st e = cond-true (eqb x.id p) (peer p st) x (eq-eqb x.id p e)

entry_kept : (x : Peer) (p : ℕ) (st : PeerState) → (x.id ≡ p → ⊥) → cond (eqb x.id p) (peer p st) x ≡ x
entry_kept x p st n = cond-false (eqb x.id p) (peer p st) x (ne_eqb x.id p n)

pub set_here : (x : Peer) (t : List Peer) (p : ℕ) (st : PeerState) → x.id ≡ p → with_state p st (x ∷ t) ≡ peer p st ∷ with_state p st t
set_here x t p st e = ap (λ y. y ∷ with_state p st t) (entry_with x p st e)

pub set_there : (x : Peer) (t : List Peer) (p : ℕ) (st : PeerState) → (x.id ≡ p → ⊥) → with_state p st (x ∷ t) ≡ x ∷ with_state p st t
set_there x t p st n = ap (λ y. y ∷ with_state p st t) (entry_kept x p st n)

pub set_other : (t : List Peer) (p : ℕ) (st : PeerState) (q : ℕ) → (p ≡ q → ⊥) → state_of (with_state p st t) q ≡ state_of t q
set_other [] p st q n = refl
set_other (x ∷ t) p st q n =
    by_equal x.id p
    (λ e. ap (λ u. state_of u q) (set_here x t p st e) ∙ (state_there (peer p st) (with_state p st t) q n ∙ (set_other t p st q n ∙ sym (state_there x t q (λ k. n (sym e ∙ k))))))
    (λ m. ap (λ u. state_of u q) (set_there x t p st m) ∙ ap (λ o. cond (eqb x.id q) (Some x.state) o) (set_other t p st q n))

pub set_same : (t : List Peer) (p : ℕ) (st old : PeerState) → state_of t p ≡ Some old → state_of (with_state p st t) p ≡ Some st
set_same [] p st old h = absurd (some_none (sym h))
set_same (x ∷ t) p st old h =
    by_equal x.id p
    (λ e. ap (λ u. state_of u p) (set_here x t p st e) ∙ state_here (peer p st) (with_state p st t) p refl)
    (λ n. ap (λ u. state_of u p) (set_there x t p st n) ∙ (state_there x (with_state p st t) p n ∙ set_same t p st old (sym (state_there x t p n) ∙ h)))

pub set_none : (t : List Peer) (p : ℕ) (st : PeerState) → state_of t p ≡ None → state_of (with_state p st t) p ≡ None
set_none [] p st h = refl
set_none (x ∷ t) p st h =
    by_equal x.id p
    (λ e. absurd (some_none (sym (state_here x t p e) ∙ h)))
    (λ n. ap (λ u. state_of u p) (set_there x t p st n) ∙ (state_there x (with_state p st t) p n ∙ set_none t p st (sym (state_there x t p n) ∙ h)))

-- ---- a peer off the table

pub drop_here : (x : Peer) (t : List Peer) (p : ℕ) → x.id ≡ p → without p (x ∷ t) ≡ without p t
drop_here x t p e = cond-true (eqb x.id p) (without p t) (x ∷ without p t) (eq-eqb x.id p e)

pub drop_there : (x : Peer) (t : List Peer) (p : ℕ) → (x.id ≡ p → ⊥) → without p (x ∷ t) ≡ x ∷ without p t
drop_there x t p n = cond-false (eqb x.id p) (without p t) (x ∷ without p t) (ne_eqb x.id p n)

pub without_same : (t : List Peer) (p : ℕ) → state_of (without p t) p ≡ None
without_same [] p = refl
without_same (x ∷ t) p =
    by_equal x.id p
    (λ e. ap (λ u. state_of u p) (drop_here x t p e) ∙ without_same t p)
    (λ n. ap (λ u. state_of u p) (drop_there x t p n) ∙ (state_there x (without p t) p n ∙ without_same t p))

pub without_other : (t : List Peer) (p q : ℕ) → (p ≡ q → ⊥) → state_of (without p t) q ≡ state_of t q
without_other [] p q n = refl
without_other (x ∷ t) p q n =
    by_equal x.id p
    (λ e. ap (λ u. state_of u q) (drop_here x t p e) ∙ (without_other t p q n ∙ sym (state_there x t q (λ k. n (sym e ∙ k)))))
    (λ m. ap (λ u. state_of u q) (drop_there x t p m) ∙ ap (λ o. cond (eqb x.id q) (Some x.state) o) (without_other t p q n))

-- ---- no identifier twice

abbrev pub Distinct : List Peer → Type 0
Distinct [] = Unit {0}
Distinct (x ∷ t) = (state_of t x.id ≡ None) × Distinct t

pub distinct_push : (t : List Peer) (p : ℕ) (st : PeerState) → state_of t p ≡ None → Distinct t → Distinct (t ++ peer p st ∷ [])
distinct_push [] p st h d = (refl, tt)
distinct_push (x ∷ t) p st h d =
    let n : x.id ≡ p → ⊥ = λ e. some_none (sym (state_here x t p e) ∙ h) in
    (push_other t p st x.id (λ e. n (sym e)) ∙ d.0, distinct_push t p st (sym (state_there x t p n) ∙ h) d.1)

pub distinct_set : (t : List Peer) (p : ℕ) (st : PeerState) → Distinct t → Distinct (with_state p st t)
distinct_set [] p st d = tt
distinct_set (x ∷ t) p st d =
    by_equal x.id p
    (λ e. subst⁻ (set_here x t p st e) (set_none t p st (subst (λ k. state_of t k ≡ None) e d.0), distinct_set t p st d.1))
    (λ n. subst⁻ (set_there x t p st n) (set_other t p st x.id (λ k. n (sym k)) ∙ d.0, distinct_set t p st d.1))
  where
    subst⁻ : {u w : List Peer} → u ≡ w → Distinct w → Distinct u
    subst⁻ e d = subst Distinct (sym e) d

without_none : (t : List Peer) (p q : ℕ) → state_of t q ≡ None → state_of (without p t) q ≡ None
without_none t p q h =
    by_equal p q (λ e. subst (λ k. state_of (without p t) k ≡ None) e (without_same t p)) (λ n. without_other t p q n ∙ h)

pub distinct_without : (t : List Peer) (p : ℕ) → Distinct t → Distinct (without p t)
distinct_without [] p d = tt
distinct_without (x ∷ t) p d =
    by_equal x.id p
    (λ e. subst Distinct (sym (drop_here x t p e)) (distinct_without t p d.1))
    (λ n. subst Distinct (sym (drop_there x t p n)) (without_none t p x.id d.0, distinct_without t p d.1))
