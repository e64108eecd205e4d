-- The laws of distances on a ring. Assumes nothing.
use Rattle.std.proofs.Common.{◌≡◌, ℕ, ◌+◌, ◌-◌, ◌%◌, ◌<◌, ◌≤◌, ◌⊎◌, mod-eq_of_lt, arith}
use native.Mathlib.Nat.{mod-eq-sub-mod}
use Rattle.std.proofs.lemmas.Bool.Decides.{nat_tests}
use Rattle.circle.specs.Circle.{distance, InArc}
use Rattle.circle.specs.Laws.{DistanceLawsHold}

-- the two cases of a distance
pub distance_cases : (n s i : ℕ) → ((s ≤ i) × (distance n s i ≡ i - s)) ⊎ ((i < s) × (distance n s i ≡ i + n - s))
unfolding distance
distance_cases n s i = grind (arith, nat_tests)

pub distance_below : (n s i : ℕ) → s < n → i < n → distance n s i < n
distance_below n s i a b = grind (arith, distance_cases n s i)

pub distance_same_zero : (n s : ℕ) → distance n s s ≡ 0
distance_same_zero n s = grind (arith, distance_cases n s s)

pub distance_zero_same : (n s i : ℕ) → s < n → i < n → distance n s i ≡ 0 → s ≡ i
distance_zero_same n s i a b e = grind (arith, distance_cases n s i)

pub distance_along : (n s m i : ℕ) → s < n → m < n → i < n → (distance n s m + distance n m i ≡ distance n s i) ⊎ (distance n s m + distance n m i ≡ distance n s i + n)
distance_along n s m i a b c = grind (arith, distance_cases n s m, distance_cases n m i, distance_cases n s i)

pub distance_there_and_back : (n s i : ℕ) → s < n → i < n → (s ≡ i → ⊥) → distance n s i + distance n i s ≡ n
distance_there_and_back n s i a b e = grind (arith, distance_cases n s i, distance_cases n i s)

pub distance_is_mod : (n s i : ℕ) → s < n → i < n → distance n s i ≡ (i + n - s) % n
distance_is_mod n s i a b = grind (arith, distance_cases n s i, mod-eq-sub-mod, mod-eq_of_lt)

pub distance_laws : DistanceLawsHold
distance_laws n _ = record {
  is_mod = distance_is_mod n;
  below = distance_below n;
  same_zero = distance_same_zero n;
  zero_same = distance_zero_same n;
  along = distance_along n;
  there_and_back = distance_there_and_back n;
}

-- ---- the arithmetic behind owners: p owns i exactly in the arc from its predecessor a

module _ (n a p i : ℕ) (a< : a < n) (p< : p < n) (i< : i < n) where
  -- in the arc from a to p, a member q that is not nearer to p from behind than a is not met before p
  pub arc_first : (q : ℕ) → q < n → InArc n a p i → distance n a p ≤ distance n q p → distance n i p ≤ distance n i q
  arc_first q q< (some, most) far =
      grind (arith, distance_cases n a i, distance_cases n a p, distance_cases n q p, distance_cases n i p, distance_cases n i q)

  -- there p comes on the way from i to any other such member
  pub arc_through : (q : ℕ) → q < n → (q ≡ p → ⊥) → InArc n a p i → distance n a p ≤ distance n q p → distance n i q ≡ distance n i p + distance n p q
  arc_through q q< other (some, most) far =
      grind (arith, distance_cases n a i, distance_cases n a p, distance_cases n q p, distance_cases n i p, distance_cases n i q, distance_cases n p q)

  -- where p comes before a, i is in the arc
  pub first_arc : (a ≡ p → ⊥) → distance n i p ≤ distance n i a → InArc n a p i
  first_arc other near = (
    grind (arith, distance_cases n a i, distance_cases n a p, distance_cases n i p, distance_cases n i a),
    grind (arith, distance_cases n a i, distance_cases n a p, distance_cases n i p, distance_cases n i a),
  )

  -- outside the arc a comes before p
  pub outside_arc : (a ≡ p → ⊥) → (InArc n a p i → ⊥) → distance n i a < distance n i p
  outside_arc other out = grind (arith, first_arc)

-- two identifiers at one distance are one
pub distance_injective : (n i p q : ℕ) → i < n → p < n → q < n → distance n i p ≡ distance n i q → p ≡ q
distance_injective n i p q a b c e = grind (arith, distance_cases n i p, distance_cases n i q)
