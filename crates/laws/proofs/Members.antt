-- The members of a table after each change of it, and what a member's state can be.
use Rattle.std.proofs.Common.{◌≡◌, ℕ, true, false, cond, eqb, List, [], ◌∷◌, ◌++◌, Some, None, sym, refl, ap, ◌∙◌, subst, inl, inr, ⊎_elim}
use Rattle.std.proofs.lemmas.Option.{same_Some}
use Rattle.std.proofs.lemmas.Bool.{cases_Bool, cond-true, cond-false, eq-eqb, ne_eqb}
use Rattle.circle.specs.Owners.{Member, others}
use Rattle.copies.proofs.Facts.{some_none}
use Rattle.rules.specs.declared.PeerState.{PeerState}
use Rattle.rules.specs.declared.PeerState.TheVariants.{Leaving}
use Rattle.rules.specs.declared.Peer.{Peer}
use Rattle.rules.specs.State.{peer, is_leaving, members, state_of, with_state, without}
use Rattle.laws.proofs.Table.{Distinct, by_equal, state_here, state_there, set_here, set_there, drop_here, drop_there}

pub members_in : (x : Peer) (t : List Peer) → is_leaving x.state ≡ false → members (x ∷ t) ≡ x.id ∷ members t
members_in x t h = cond-false (is_leaving x.state) (members t) (x.id ∷ members t) h

pub members_out : (x : Peer) (t : List Peer) → is_leaving x.state ≡ true → members (x ∷ t) ≡ members t
members_out x t h = cond-true (is_leaving x.state) (members t) (x.id ∷ members t) h

others_here : (q p : ℕ) (ms : List ℕ) → q ≡ p → others p (q ∷ ms) ≡ others p ms
others_here q p ms e = cond-true (eqb q p) (others p ms) (q ∷ others p ms) (eq-eqb q p e)

others_there : (q p : ℕ) (ms : List ℕ) → (q ≡ p → ⊥) → others p (q ∷ ms) ≡ q ∷ others p ms
others_there q p ms n = cond-false (eqb q p) (others p ms) (q ∷ others p ms) (ne_eqb q p n)

-- ---- one more

pub members_push : (t : List Peer) (p : ℕ) (st : PeerState) → is_leaving st ≡ false → members (t ++ peer p st ∷ []) ≡ members t ++ p ∷ []
members_push [] p st h = members_in (peer p st) [] h
members_push (x ∷ t) p st h =
    ⊎_elim
    (λ l. members_out x (t ++ peer p st ∷ []) l ∙ (members_push t p st h ∙ ap (λ ms. ms ++ p ∷ []) (sym (members_out x t l))))
    (λ l. members_in x (t ++ peer p st ∷ []) l ∙ (ap (λ ms. x.id ∷ ms) (members_push t p st h) ∙ ap (λ ms. ms ++ p ∷ []) (sym (members_in x t l))))
    (cases_Bool (is_leaving x.state))

-- ---- one that leaves

leave_one : (x : Peer) (t : List Peer) (p : ℕ) → x.id ≡ p → others p (members (x ∷ t)) ≡ others p (members t)
leave_one x t p e =
    ⊎_elim (λ l. ap (others p) (members_out x t l)) (λ l. ap (others p) (members_in x t l) ∙ others_here x.id p (members t) e) (cases_Bool (is_leaving x.state))

leave_other : (x : Peer) (t u : List Peer) (p : ℕ) → (x.id ≡ p → ⊥) → members u ≡ others p (members t) → members (x ∷ u) ≡ others p (members (x ∷ t))
leave_other x t u p n ih =
    ⊎_elim
    (λ l. members_out x u l ∙ (ih ∙ ap (others p) (sym (members_out x t l))))
    (λ l. members_in x u l ∙ (ap (λ ms. x.id ∷ ms) ih ∙ (sym (others_there x.id p (members t) n) ∙ ap (others p) (sym (members_in x t l)))))
    (cases_Bool (is_leaving x.state))

pub members_leave : (t : List Peer) (p : ℕ) → members (with_state p Leaving t) ≡ others p (members t)
members_leave [] p = refl
members_leave (x ∷ t) p =
    by_equal x.id p
    (λ e. ap members (set_here x t p Leaving e) ∙ (members_leave t p ∙ sym (leave_one x t p e)))
    (λ n. ap members (set_there x t p Leaving n) ∙ leave_other x t (with_state p Leaving t) p n (members_leave t p))

-- ---- one that stays a member, or goes after it was one

step_same : (x : Peer) (t u : List Peer) → members u ≡ members t → members (x ∷ u) ≡ members (x ∷ t)
step_same x t u ih = ap (λ ms. cond (is_leaving x.state) ms (x.id ∷ ms)) ih

pub set_absent : (t : List Peer) (p : ℕ) (st : PeerState) → state_of t p ≡ None → members (with_state p st t) ≡ members t
set_absent [] p st h = refl
set_absent (x ∷ t) p st h =
    by_equal x.id p
    (λ e. absurd (some_none (sym (state_here x t p e) ∙ h)))
    (λ n. ap members (set_there x t p st n) ∙ step_same x t (with_state p st t) (set_absent t p st (sym (state_there x t p n) ∙ h)))

pub members_set : (t : List Peer) (p : ℕ) (st old : PeerState) → Distinct t → state_of t p ≡ Some old → is_leaving old ≡ false → is_leaving st ≡ false → members (with_state p st t) ≡ members t
members_set [] p st old d h a b = refl
members_set (x ∷ t) p st old d h a b =
    by_equal x.id p
    (λ e.
    let s : x.state ≡ old = same_Some x.state old (sym (state_here x t p e) ∙ h) in
    let none : state_of t p ≡ None = subst (λ k. state_of t k ≡ None) e d.0 in
    ap members (set_here x t p st e)
    ∙ (members_in (peer p st) (with_state p st t) b
    ∙ (ap (λ ms. p ∷ ms) (set_absent t p st none)
    ∙ (ap (λ k. k ∷ members t) (sym e) ∙ sym (members_in x t (ap is_leaving s ∙ a))))))
    (λ n. ap members (set_there x t p st n) ∙ step_same x t (with_state p st t) (members_set t p st old d.1 (sym (state_there x t p n) ∙ h) a b))

drop_absent : (t : List Peer) (p : ℕ) → state_of t p ≡ None → members (without p t) ≡ members t
drop_absent [] p h = refl
drop_absent (x ∷ t) p h =
    by_equal x.id p
    (λ e. absurd (some_none (sym (state_here x t p e) ∙ h)))
    (λ n. ap members (drop_there x t p n) ∙ step_same x t (without p t) (drop_absent t p (sym (state_there x t p n) ∙ h)))

pub members_without : (t : List Peer) (p : ℕ) → Distinct t → state_of t p ≡ Some Leaving → members (without p t) ≡ members t
members_without [] p d h = refl
members_without (x ∷ t) p d h =
    by_equal x.id p
    (λ e.
    let s : x.state ≡ Leaving = same_Some x.state Leaving (sym (state_here x t p e) ∙ h) in
    let none : state_of t p ≡ None = subst (λ k. state_of t k ≡ None) e d.0 in
    ap members (drop_here x t p e) ∙ (drop_absent t p none ∙ sym (members_out x t (ap is_leaving s))))
    (λ n. ap members (drop_there x t p n) ∙ step_same x t (without p t) (members_without t p d.1 (sym (state_there x t p n) ∙ h)))

-- ---- members and states

pub state_member : (t : List Peer) (p : ℕ) (st : PeerState) → state_of t p ≡ Some st → is_leaving st ≡ false → Member p (members t)
state_member [] p st h l = absurd (some_none (sym h))
state_member (x ∷ t) p st h l =
    by_equal x.id p
    (λ e.
    let s : x.state ≡ st = same_Some x.state st (sym (state_here x t p e) ∙ h) in
    subst (Member p) (sym (members_in x t (ap is_leaving s ∙ l))) (inl (sym e)))
    (λ n.
    let k = state_member t p st (sym (state_there x t p n) ∙ h) l in
    ⊎_elim (λ b. subst (Member p) (sym (members_out x t b)) k) (λ b. subst (Member p) (sym (members_in x t b)) (inr k)) (cases_Bool (is_leaving x.state)))

-- p is on the table, and not leaving
pub record Present (t : List Peer) (p : ℕ) : Type 0 where
  pub state : PeerState
  pub is : state_of t p ≡ Some state
  pub stays : is_leaving state ≡ false

present_there : (x : Peer) (t : List Peer) (p : ℕ) → (x.id ≡ p → ⊥) → Present t p → Present (x ∷ t) p
present_there x t p n h = record { state = h.state; is = state_there x t p n ∙ h.is; stays = h.stays }

present_later : (x : Peer) (t : List Peer) (p : ℕ) → state_of t x.id ≡ None → Present t p → Present (x ∷ t) p
present_later x t p d h =
    by_equal x.id p (λ e. absurd (some_none (sym h.is ∙ subst (λ k. state_of t k ≡ None) e d))) (λ n. present_there x t p n h)

pub member_state : (t : List Peer) (p : ℕ) → Distinct t → Member p (members t) → Present t p
member_state [] p d m = absurd m
member_state (x ∷ t) p d m =
    ⊎_elim
    (λ l. present_later x t p d.0 (member_state t p d.1 (subst (Member p) (members_out x t l) m)))
    (λ l. let here : p ≡ x.id → Present (x ∷ t) p = λ e. record { state = x.state; is = state_here x t p (sym e); stays = l } in
    ⊎_elim here (λ k. present_later x t p d.0 (member_state t p d.1 k)) (subst (Member p) (members_in x t l) m))
    (cases_Bool (is_leaving x.state))
