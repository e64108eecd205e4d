-- The laws of owners among any set of members. Assumes nothing.
use Rattle.std.proofs.Common.{◌≡◌, ℕ, ◌+◌, ◌<◌, ◌≤◌, true, refl, ap, subst, inl, inr, arith}
use Rattle.circle.specs.Circle.{distance, InArc}
use Rattle.circle.specs.Owners.{Other, With, Owner, Successor, Predecessor}
use Rattle.circle.specs.Laws.{OwnerLaws, OwnerLawsHold}
use Rattle.circle.proofs.Distances.{distance_same_zero, distance_injective, arc_first, arc_through, first_arc, outside_arc}

module _ (n : ℕ) (among : ℕ → Type 0) (below : (q : ℕ) → among q → q < n) where
  unique : (i p q : ℕ) → i < n → Owner n among i p → Owner n among i q → p ≡ q
  unique i p q i< a b =
      let one = a.least q b.member in
      let two = b.least p a.member in
      distance_injective n i p q i< (below p a.member) (below q b.member) (omega arith)

  own_place : (p : ℕ) → among p → Owner n among p p
  own_place p m = record { member = m; least = λ q _. omega (arith, distance_same_zero n p) }

  -- the predecessor a of p, and what it tells of every other member
  module _ (p a i : ℕ) (i< : i < n) (p< : p < n) (before : Predecessor n among p a) where
    a< : a < n
    a< = below a before.member.0

    first : InArc n a p i → (q : ℕ) → among q → (q ≡ p → ⊥) → distance n i p ≤ distance n i q
    first here q m other = arc_first n a p i a< p< i< q (below q m) here (before.least q (m, other))

    first_of_all : InArc n a p i → (q : ℕ) → among q → distance n i p ≤ distance n i q
    first_of_all here q m = grind (arith, first here q m)

    through : InArc n a p i → (q : ℕ) → among q → (q ≡ p → ⊥) → distance n i q ≡ distance n i p + distance n p q
    through here q m other = arc_through n a p i a< p< i< q (below q m) other here (before.least q (m, other))

    owns_arc : among p → InArc n a p i → Owner n among i p
    owns_arc m here = record { member = m; least = first_of_all here }

    arc_owned : Owner n among i p → InArc n a p i
    arc_owned own = first_arc n a p i a< p< i< before.member.1 (own.least a before.member.0)

    join_in : InArc n a p i → Owner n (With among p) i p
    join_in here = record {
      member = inr refl;
      least = λ q m. grind (arith, first_of_all here q);
    }

    leave_in : (c : ℕ) → Successor n among p c → InArc n a p i → Owner n (Other among p) i c
    leave_in c after here = record {
      member = after.member;
      least = λ q (m, other). omega (arith, through here c after.member.0 after.member.1, through here q m other, after.least q (m, other));
    }

    join_was : (c : ℕ) → (among p → ⊥) → Successor n among p c → InArc n a p i → Owner n among i c
    join_was c absent after here = record {
      member = after.member.0;
      least = λ q m. (leave_in c after here).least q (m, λ e. absurd (absent (subst among e m)));
    }

    -- outside the arc p owns nothing
    outside : (InArc n a p i → ⊥) → distance n i a < distance n i p
    outside out = outside_arc n a p i a< p< i< before.member.1 out

    join_out : (q : ℕ) → (InArc n a p i → ⊥) → Owner n among i q → Owner n (With among p) i q
    join_out q out own = record {
      member = inl own.member;
      least = λ m h. grind (arith, own.least m, outside out, own.least a before.member.0);
    }

    leave_out : (q : ℕ) → (InArc n a p i → ⊥) → Owner n among i q → Owner n (Other among p) i q
    leave_out q out own = record {
      member = (own.member, λ (e : q ≡ p). let far = outside out in let near = own.least a before.member.0 in omega (arith, ap (distance n i) e));
      least = λ m (is, _). own.least m is;
    }

  pub owner_laws_at : OwnerLaws n among
  owner_laws_at = record {
    unique = unique;
    own_place = own_place;
    owns_arc = λ p a i i< m before. owns_arc p a i i< (below p m) before m;
    arc_owned = λ p a i i< m before. arc_owned p a i i< (below p m) before;
    join_in = join_in;
    join_was = λ p a c i i< p< absent before after. join_was p a i i< p< before c absent after;
    join_out = λ p a i q i< p< absent before. join_out p a i i< p< before q;
    leave_in = λ p a c i i< p< before. leave_in p a i i< p< before c;
    leave_out = λ p a i q i< m before. leave_out p a i i< (below p m) before q;
  }

pub owner_laws : OwnerLawsHold
owner_laws n among below = owner_laws_at n (λ q. among q ≡ true) below
