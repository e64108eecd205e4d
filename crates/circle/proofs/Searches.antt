-- The search for the nearest member finds the one that is nearest. Assumes nothing.
use Rattle.std.proofs.Common.{◌≡◌, ℕ, ◌<◌, ◌≤◌, Bool, true, false, cond, ltb, List, [], ◌∷◌, ◌++◌, Some, None, sym, refl, ap, ◌∙◌, inl, inr, ⊎_elim, arith}
use Rattle.std.proofs.lemmas.Bool.{cases_lt, lt-ltb, le-ltb, both_ways}
use Rattle.std.proofs.lemmas.Bool.Decides.{nat_tests}
use Rattle.circle.specs.Circle.{distance, InArc, in_arc}
use Rattle.circle.specs.Owners.{Member, others, Least, Other, With, Owner, Successor, Predecessor, least_from, owner, successor, predecessor}
use Rattle.circle.specs.Laws.{OwnerLaws, ListLaws, ListLawsHold}
use Rattle.circle.proofs.Distances.{distance_injective}
use Rattle.circle.proofs.Owners.{owner_laws_at}

-- the members of a list, as a set
abbrev pub InList : List ℕ → ℕ → Type 0
InList members q = Member q members

-- ---- the search over a list

-- b is the least of itself and the list
some_least : (key : ℕ → ℕ) (b : ℕ) (xs : List ℕ) (p : ℕ) → least_from key (Some b) xs ≡ Some p → Least key (InList (b ∷ xs)) p
some_least key b [] p e =
    let is : b ≡ p = cc in record { member = inl (sym is); least = λ q m. grind (arith, ap key is) }
some_least key b (x ∷ xs) p e = ⊎_elim
    (λ (less : key x < key b).
    let rest = some_least key x xs p (ap (λ (t : Bool). least_from key (Some (cond t x b)) xs) (sym (lt-ltb (key x) (key b) less)) ∙ e) in
    record { member = inr rest.member; least = λ q m. grind (arith, rest.least q, rest.least x (inl refl)) })
    (λ (more : key b ≤ key x).
    let rest = some_least key b xs p (ap (λ (t : Bool). least_from key (Some (cond t x b)) xs) (sym (le-ltb (key x) (key b) more)) ∙ e) in
    record { member = grind (arith, rest.member); least = λ q m. grind (arith, rest.least q, rest.least b (inl refl)) })
    (cases_lt (key x) (key b))

pub search_least : (key : ℕ → ℕ) (xs : List ℕ) (p : ℕ) → least_from key None xs ≡ Some p → Least key (InList xs) p
search_least key [] p e = cc
search_least key (x ∷ xs) p e = some_least key x xs p e

-- with anything in the list something is found
some_found : (key : ℕ → ℕ) (b : ℕ) (xs : List ℕ) → (p : ℕ) × (least_from key (Some b) xs ≡ Some p)
some_found key b [] = (b, refl)
some_found key b (x ∷ xs) = some_found key (cond (ltb (key x) (key b)) x b) xs

pub search_none : (key : ℕ → ℕ) (xs : List ℕ) → least_from key None xs ≡ None → xs ≡ []
search_none key [] e = refl
search_none key (x ∷ xs) e = let found = some_found key x xs in cc (found.1, e)

-- what is least and has a key of its own is found
pub search_finds : (key : ℕ → ℕ) (xs : List ℕ) (p : ℕ) → ((q : ℕ) → Member q xs → key q ≡ key p → q ≡ p) → Least key (InList xs) p → least_from key None xs ≡ Some p
search_finds key [] p own h = absurd h.member
search_finds key (x ∷ xs) p own h =
    let found = some_found key x xs in
    let is = some_least key x xs found.0 found.1 in
    found.1 ∙ ap Some (own found.0 is.member (omega (arith, is.least p h.member, h.least found.0 is.member)))

-- ---- the list without p

pub others_in : (p q : ℕ) (xs : List ℕ) → Member q (others p xs) → Other (InList xs) p q
others_in p q [] m = absurd m
others_in p q (x ∷ xs) m = grind (arith, nat_tests, others_in p q xs)

pub in_others : (p q : ℕ) (xs : List ℕ) → Other (InList xs) p q → Member q (others p xs)
in_others p q [] m = absurd m.0
in_others p q (x ∷ xs) m = grind (arith, nat_tests, in_others p q xs)

-- ---- the list with p at its end

pub push_in : (p q : ℕ) (xs : List ℕ) → Member q (xs ++ p ∷ []) → With (InList xs) p q
push_in p q [] m = ⊎_elim inr (λ none. absurd none) m
push_in p q (x ∷ xs) m = grind (arith, push_in p q xs)

pub in_push : (p q : ℕ) (xs : List ℕ) → With (InList xs) p q → Member q (xs ++ p ∷ [])
in_push p q [] m = ⊎_elim (λ none. absurd none) inl m
in_push p q (x ∷ xs) m = grind (arith, in_push p q xs)

-- a set may be told by another with the same members
pub least_same : (key : ℕ → ℕ) (A B : ℕ → Type 0) (p : ℕ) → ((q : ℕ) → A q → B q) → ((q : ℕ) → B q → A q) → Least key A p → Least key B p
least_same key A B p to from h = record { member = to p h.member; least = λ q m. h.least q (from q m) }

-- ---- the test for an arc

pub in_arc_true : (n s e i : ℕ) → in_arc n s e i ≡ true → InArc n s e i
unfolding in_arc
in_arc_true n s e i h = grind (arith, nat_tests)

pub true_in_arc : (n s e i : ℕ) → InArc n s e i → in_arc n s e i ≡ true
unfolding in_arc
true_in_arc n s e i (some, most) = grind (arith, nat_tests)

pub in_arc_false : (n s e i : ℕ) → in_arc n s e i ≡ false → InArc n s e i → ⊥
in_arc_false n s e i h here = both_ways (in_arc n s e i) h (true_in_arc n s e i here)

-- ---- owners in a list

pub owner_is : (n : ℕ) (members : List ℕ) (i p : ℕ) → owner n members i ≡ Some p → Owner n (InList members) i p
unfolding owner
owner_is n members i p e = search_least (λ q. distance n i q) members p e

pub owner_none : (n : ℕ) (members : List ℕ) (i : ℕ) → owner n members i ≡ None → members ≡ []
unfolding owner
owner_none n members i e = search_none (λ q. distance n i q) members e

pub is_owner : (n : ℕ) (members : List ℕ) → ((q : ℕ) → Member q members → q < n) → (i p : ℕ) → i < n → Owner n (InList members) i p → owner n members i ≡ Some p
unfolding owner
is_owner n members below i p i< h =
    search_finds (λ q. distance n i q) members p (λ q m e. distance_injective n i q p i< (below q m) (below p h.member) e) h

-- where there is a member there is an owner
pub owner_some : (n : ℕ) (members : List ℕ) (i m : ℕ) → Member m members → (q : ℕ) × (owner n members i ≡ Some q)
unfolding owner
owner_some n [] i m h = absurd h
owner_some n (x ∷ xs) i m h = some_found (λ q. distance n i q) x xs

pub successor_is : (n : ℕ) (members : List ℕ) (p c : ℕ) → successor n members p ≡ Some c → Successor n (InList members) p c
unfolding successor
successor_is n members p c e =
    least_same (λ q. distance n p q) (InList (others p members)) (Other (InList members) p) c (λ q. others_in p q members) (λ q. in_others p q members) (search_least (λ q. distance n p q) (others p members) c e)

pub predecessor_is : (n : ℕ) (members : List ℕ) (p a : ℕ) → predecessor n members p ≡ Some a → Predecessor n (InList members) p a
unfolding predecessor
predecessor_is n members p a e =
    least_same (λ q. distance n q p) (InList (others p members)) (Other (InList members) p) a (λ q. others_in p q members) (λ q. in_others p q members) (search_least (λ q. distance n q p) (others p members) a e)

pub successor_none : (n : ℕ) (members : List ℕ) (p : ℕ) → successor n members p ≡ None → others p members ≡ []
unfolding successor
successor_none n members p e = search_none (λ q. distance n p q) (others p members) e

pub predecessor_none : (n : ℕ) (members : List ℕ) (p : ℕ) → predecessor n members p ≡ None → others p members ≡ []
unfolding predecessor
predecessor_none n members p e = search_none (λ q. distance n q p) (others p members) e

module _ (n : ℕ) (members : List ℕ) (below : (q : ℕ) → Member q members → q < n) where
  laws : OwnerLaws n (InList members)
  laws = owner_laws_at n (InList members) below

  pushed_below : (p : ℕ) → p < n → (q : ℕ) → Member q (members ++ p ∷ []) → q < n
  pushed_below p p< q m = grind (arith, below q, push_in p q members)

  others_below : (p q : ℕ) → Member q (others p members) → q < n
  others_below p q m = below q (others_in p q members m).0

  pushed_owner : (p i q : ℕ) → i < n → p < n → Owner n (With (InList members) p) i q → owner n (members ++ p ∷ []) i ≡ Some q
  pushed_owner p i q i< p< h =
      is_owner n (members ++ p ∷ []) (pushed_below p p<) i q i<
      (least_same (λ m. distance n i m) (With (InList members) p) (InList (members ++ p ∷ [])) q (λ m. in_push p m members) (λ m. push_in p m members) h)

  others_owner : (p i q : ℕ) → i < n → Owner n (Other (InList members) p) i q → owner n (others p members) i ≡ Some q
  others_owner p i q i< h =
      is_owner n (others p members) (others_below p) i q i<
      (least_same (λ m. distance n i m) (Other (InList members) p) (InList (others p members)) q (λ m. in_others p m members) (λ m. others_in p m members) h)

  joined : (p a i : ℕ) → i < n → p < n → (Member p members → ⊥) → predecessor n members p ≡ Some a → (t : Bool) → in_arc n a p i ≡ t → owner n (members ++ p ∷ []) i ≡ cond t (Some p) (owner n members i)
  joined p a i i< p< absent e true h =
      pushed_owner p i p i< p< (laws.join_in p a i i< p< (predecessor_is n members p a e) (in_arc_true n a p i h))
  joined p a i i< p< absent e false h =
      let before = predecessor_is n members p a e in
      let some = owner_some n members i a before.member.0 in
      pushed_owner p i some.0 i< p<
      (laws.join_out p a i some.0 i< p< absent before (in_arc_false n a p i h) (owner_is n members i some.0 some.1))
      ∙ sym some.1

  left : (p a c i : ℕ) → i < n → Member p members → predecessor n members p ≡ Some a → successor n members p ≡ Some c → (t : Bool) → in_arc n a p i ≡ t → owner n (others p members) i ≡ cond t (Some c) (owner n members i)
  left p a c i i< m ea ec true h =
      others_owner p i c i< (laws.leave_in p a c i i< (below p m) (predecessor_is n members p a ea) (successor_is n members p c ec) (in_arc_true n a p i h))
  left p a c i i< m ea ec false h =
      let before = predecessor_is n members p a ea in
      let some = owner_some n members i a before.member.0 in
      others_owner p i some.0 i< (laws.leave_out p a i some.0 i< m before (in_arc_false n a p i h) (owner_is n members i some.0 some.1))
      ∙ sym some.1

  pub list_laws_at : ListLaws n members
  list_laws_at = record {
    owner_is = owner_is n members;
    is_owner = is_owner n members below;
    owner_none = owner_none n members;
    successor_is = successor_is n members;
    successor_none = successor_none n members;
    predecessor_is = predecessor_is n members;
    predecessor_none = predecessor_none n members;
    owned_is_arc = λ p a i i< m e own. true_in_arc n a p i (laws.arc_owned p a i i< m (predecessor_is n members p a e) (owner_is n members i p own));
    arc_is_owned = λ p a i i< m e here. is_owner n members below i p i< (laws.owns_arc p a i i< m (predecessor_is n members p a e) (in_arc_true n a p i here));
    joined = λ p a i i< p< absent e. joined p a i i< p< absent e (in_arc n a p i) refl;
    joined_was = λ p a c i i< p< absent ea ec here. is_owner n members below i c i< (laws.join_was p a c i i< p< absent (predecessor_is n members p a ea) (successor_is n members p c ec) (in_arc_true n a p i here));
    left = λ p a c i i< m ea ec. left p a c i i< m ea ec (in_arc n a p i) refl;
  }

pub list_laws : ListLawsHold
list_laws n members below = list_laws_at n members below
