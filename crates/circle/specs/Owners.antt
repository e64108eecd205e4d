-- Who owns a place, and who comes next on the ring, among a list of members. Assumes nothing.
use Rattle.std.specs.Prelude.{◌≡◌, ℕ, ◌≤◌, cond, ◌⊎◌, List, [], ◌∷◌, Some, None, Option, ◌==◌, ◌≢◌, nat_lt}
use Rattle.circle.specs.Circle.{distance}

-- p stands in the list
abbrev pub Member : ℕ → List ℕ → Type 0
Member p [] = ⊥
Member p (q ∷ qs) = (p ≡ q) ⊎ Member p qs

-- the list without p
abbrev pub others : ℕ → List ℕ → List ℕ
others p [] = []
others p (q ∷ qs) = cond (q == p) (others p qs) (q ∷ others p qs)

-- ---- what each word means, over any set of members

-- p is in the set, and nothing in it has a smaller key
pub record Least (key : ℕ → ℕ) (among : ℕ → Type 0) (p : ℕ) : Type 0 where
  pub member : among p
  pub least : (q : ℕ) → among q → key p ≤ key q

-- the members other than p
abbrev pub Other : (ℕ → Type 0) → ℕ → ℕ → Type 0
Other among p q = among q × (q ≢ p)

-- the members and p
abbrev pub With : (ℕ → Type 0) → ℕ → ℕ → Type 0
With among p q = among q ⊎ (q ≡ p)

-- the owner of a place is the first member from it on, clockwise
abbrev pub Owner : ℕ → (ℕ → Type 0) → ℕ → ℕ → Type 0
Owner n among i p = Least (λ q. distance n i q) among p

-- c is the first other member after p
abbrev pub Successor : ℕ → (ℕ → Type 0) → ℕ → ℕ → Type 0
Successor n among p c = Least (λ q. distance n p q) (Other among p) c

-- a is the first other member before p
abbrev pub Predecessor : ℕ → (ℕ → Type 0) → ℕ → ℕ → Type 0
Predecessor n among p a = Least (λ q. distance n q p) (Other among p) a

-- ---- the same as functions of a list

-- the better of the best so far and x: the one of smaller key, and the earlier of equal ones
abbrev pub better : (ℕ → ℕ) → Option ℕ → ℕ → Option ℕ
better key None x = Some x
better key (Some b) x = Some (cond (nat_lt (key x) (key b)) x b)

abbrev pub least_from : (ℕ → ℕ) → Option ℕ → List ℕ → Option ℕ
least_from key best [] = best
least_from key best (x ∷ xs) = least_from key (better key best x) xs

unfoldable pub owner : ℕ → List ℕ → ℕ → Option ℕ
owner n members i = least_from (λ q. distance n i q) None members

unfoldable pub successor : ℕ → List ℕ → ℕ → Option ℕ
successor n members p = least_from (λ q. distance n p q) None (others p members)

unfoldable pub predecessor : ℕ → List ℕ → ℕ → Option ℕ
predecessor n members p = least_from (λ q. distance n q p) None (others p members)

-- the share of the ring that p has beside its predecessor, 0 where there is none
abbrev pub share_after : ℕ → ℕ → Option ℕ → ℕ
share_after n p None = 0
share_after n p (Some a) = distance n a p

unfoldable pub arc_length : ℕ → List ℕ → ℕ → ℕ
arc_length n members p = share_after n p (predecessor n members p)
