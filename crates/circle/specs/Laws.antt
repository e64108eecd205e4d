-- What holds of distances, places and owners, for later layers to cite. Assumes nothing.
use Rattle.std.specs.Prelude.{◌≡◌, ℕ, ◌+◌, ◌-◌, ◌/◌, ◌%◌, ◌<◌, ◌≤◌, Bool, true, cond, ◌⊎◌, List, [], ◌∷◌, ◌++◌, Some, None, ◌≢◌}
use Rattle.circle.specs.Circle.{distance, InArc, in_arc, place, item_at}
use Rattle.circle.specs.Owners.{Member, others, Other, With, Owner, Successor, Predecessor, owner, successor, predecessor}

-- distances on a ring of n identifiers
pub record DistanceLaws (n : ℕ) : Type 0 where
  pub is_mod : (s i : ℕ) → s < n → i < n → distance n s i ≡ (i + n - s) % n
  pub below : (s i : ℕ) → s < n → i < n → distance n s i < n
  pub same_zero : (s : ℕ) → distance n s s ≡ 0
  pub zero_same : (s i : ℕ) → s < n → i < n → distance n s i ≡ 0 → s ≡ i
  -- on from m is the whole way, or once round more
  pub along : (s m i : ℕ) → s < n → m < n → i < n → (distance n s m + distance n m i ≡ distance n s i) ⊎ (distance n s m + distance n m i ≡ distance n s i + n)
  pub there_and_back : (s i : ℕ) → s < n → i < n → (s ≢ i) → distance n s i + distance n i s ≡ n

-- the places of f copies, where f divides n
pub record PlaceLaws (n f : ℕ) : Type 0 where
  pub below : (k r : ℕ) → place n f k r < n
  pub first : (k : ℕ) → k < n → place n f k 1 ≡ k
  -- each replica stands n / f further on than the one before
  pub spaced : (k r : ℕ) → 1 ≤ r → place n f k (r + 1) ≡ (place n f k r + n / f) % n
  -- no two of an item's copies stand at one place, and after the last comes the first
  pub apart : (k r q : ℕ) → 1 ≤ r → r < q → q ≤ f → place n f k r ≢ place n f k q
  pub around : (k : ℕ) → place n f k (f + 1) ≡ place n f k 1
  -- a place and its replica give the item back
  pub item_back : (k r : ℕ) → k < n → r ≤ f → item_at n f (place n f k r) r ≡ k
  pub place_back : (i r : ℕ) → i < n → r ≤ f → place n f (item_at n f i r) r ≡ i

-- owners among any set of members below n
pub record OwnerLaws (n : ℕ) (among : ℕ → Type 0) : Type 0 where
  pub unique : (i p q : ℕ) → i < n → Owner n among i p → Owner n among i q → p ≡ q
  pub own_place : (p : ℕ) → among p → Owner n among p p
  -- a member owns the arc from its predecessor to itself, and nothing else
  pub owns_arc : (p a i : ℕ) → i < n → among p → Predecessor n among p a → InArc n a p i → Owner n among i p
  pub arc_owned : (p a i : ℕ) → i < n → among p → Predecessor n among p a → Owner n among i p → InArc n a p i
  -- p comes: it takes that arc from its successor, and elsewhere owners stay
  pub join_in : (p a i : ℕ) → i < n → p < n → Predecessor n among p a → InArc n a p i → Owner n (With among p) i p
  pub join_was : (p a c i : ℕ) → i < n → p < n → (among p → ⊥) → Predecessor n among p a → Successor n among p c → InArc n a p i → Owner n among i c
  pub join_out : (p a i q : ℕ) → i < n → p < n → (among p → ⊥) → Predecessor n among p a → (InArc n a p i → ⊥) → Owner n among i q → Owner n (With among p) i q
  -- p goes: its successor has the arc, and elsewhere owners stay
  pub leave_in : (p a c i : ℕ) → i < n → p < n → Predecessor n among p a → Successor n among p c → InArc n a p i → Owner n (Other among p) i c
  pub leave_out : (p a i q : ℕ) → i < n → among p → Predecessor n among p a → (InArc n a p i → ⊥) → Owner n among i q → Owner n (Other among p) i q

-- the functions of a list of members below n find just these
pub record ListLaws (n : ℕ) (members : List ℕ) : Type 0 where
  pub owner_is : (i p : ℕ) → owner n members i ≡ Some p → Owner n (λ q. Member q members) i p
  pub is_owner : (i p : ℕ) → i < n → Owner n (λ q. Member q members) i p → owner n members i ≡ Some p
  pub owner_none : (i : ℕ) → owner n members i ≡ None → members ≡ []
  pub successor_is : (p c : ℕ) → successor n members p ≡ Some c → Successor n (λ q. Member q members) p c
  pub successor_none : (p : ℕ) → successor n members p ≡ None → others p members ≡ []
  pub predecessor_is : (p a : ℕ) → predecessor n members p ≡ Some a → Predecessor n (λ q. Member q members) p a
  pub predecessor_none : (p : ℕ) → predecessor n members p ≡ None → others p members ≡ []
  pub owned_is_arc : (p a i : ℕ) → i < n → Member p members → predecessor n members p ≡ Some a → owner n members i ≡ Some p → in_arc n a p i ≡ true
  pub arc_is_owned : (p a i : ℕ) → i < n → Member p members → predecessor n members p ≡ Some a → in_arc n a p i ≡ true → owner n members i ≡ Some p
  -- with one more member the owner changes on just its arc, which was its successor's
  pub joined : (p a i : ℕ) → i < n → p < n → (Member p members → ⊥) → predecessor n members p ≡ Some a → owner n (members ++ p ∷ []) i ≡ cond (in_arc n a p i) (Some p) (owner n members i)
  pub joined_was : (p a c i : ℕ) → i < n → p < n → (Member p members → ⊥) → predecessor n members p ≡ Some a → successor n members p ≡ Some c → in_arc n a p i ≡ true → owner n members i ≡ Some c
  -- without a member it changes on just its arc, which goes to its successor
  pub left : (p a c i : ℕ) → i < n → Member p members → predecessor n members p ≡ Some a → successor n members p ≡ Some c → owner n (others p members) i ≡ cond (in_arc n a p i) (Some c) (owner n members i)

-- each law for every ring that it speaks of
abbrev pub DistanceLawsHold : Type 0
DistanceLawsHold = (n : ℕ) → 0 < n → DistanceLaws n

abbrev pub PlaceLawsHold : Type 0
PlaceLawsHold = (n f : ℕ) → 0 < n → 0 < f → n % f ≡ 0 → PlaceLaws n f

-- (a contract holds no statement about all predicates, so the set is given by a test)
abbrev pub OwnerLawsHold : Type 0
OwnerLawsHold = (n : ℕ) (among : ℕ → Bool) → ((q : ℕ) → among q ≡ true → q < n) → OwnerLaws n (λ q. among q ≡ true)

abbrev pub ListLawsHold : Type 0
ListLawsHold = (n : ℕ) (members : List ℕ) → ((q : ℕ) → Member q members → q < n) → ListLaws n members
