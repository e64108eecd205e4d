-- What it tells that no check of a call applies.
use Rattle.std.proofs.Common.{◌≡◌, ℕ, ◌-◌, ◌<◌, ◌≤◌, Bool, true, false, not, ltb, leb, List, [], ◌∷◌, length, is_some, Some, None, Option, sym, refl, ap, ◌∙◌, ⊎_elim}
use Rattle.std.specs.List.{slice_get}
use Rattle.std.proofs.lemmas.Bool.{cases_Bool, cond-true, cond-false, both_ways, leb-false, ltb-false, not-false, or_parts}
use Rattle.faults.specs.declared.Fault.{Fault}
use Rattle.faults.specs.Checks.{first_fault}
use Rattle.copies.proofs.Facts.{some_none}
use Rattle.rules.specs.declared.PeerState.{PeerState}
use Rattle.rules.specs.declared.PeerState.TheVariants.{Settled, Filling, Giving, Leaving}
use Rattle.rules.specs.declared.Call.TheVariants.{Join, Leave, Insert, Lookup, Deliver, Collect}
use Rattle.rules.specs.State.{Settings, State, members, state_of, is_settled, adds, reply_to}
use Rattle.rules.specs.Refusals.{refusal, cells_left, is_empty, busy, successor_in, cramped, join_checks, leave_checks, insert_checks, lookup_checks, deliver_checks, collect_checks}

-- every check passes
abbrev Pass : List (Bool × Fault) → Type 0
Pass [] = Unit {0}
Pass (c ∷ cs) = (c.0 ≡ false) × Pass cs

all_pass : (cs : List (Bool × Fault)) → first_fault cs ≡ None → Pass cs
all_pass [] h = tt
all_pass (c ∷ cs) h =
    ⊎_elim
    (λ t. absurd (some_none (sym (cond-true c.0 (Some c.1) (first_fault cs) t) ∙ h)))
    (λ f. (f, all_pass cs (sym (cond-false c.0 (Some c.1) (first_fault cs) f) ∙ h)))
    (cases_Bool c.0)

pub not_some : {X : Type 0} (o : Option X) → is_some o ≡ false → o ≡ None
not_some None h = refl
not_some (Some x) h = absurd (both_ways true h refl)

pub is_settled_lem : (o : Option PeerState) → is_settled o ≡ true → o ≡ Some Settled
is_settled_lem None h = absurd (both_ways false refl h)
is_settled_lem (Some Settled) h = refl
is_settled_lem (Some (Filling g a e)) h = absurd (both_ways false refl h)
is_settled_lem (Some Giving) h = absurd (both_ways false refl h)
is_settled_lem (Some Leaving) h = absurd (both_ways false refl h)

pub record Joins (set : Settings) (s : State) (p : ℕ) : Type 0 where
  pub below : p < set.size
  pub absent : state_of s.table p ≡ None
  pub not_busy : busy s.table (successor_in set s p) ≡ false

pub join_accepted : (set : Settings) (s : State) (p : ℕ) → refusal set s (Join p) ≡ None → Joins set s p
unfolding join_checks
join_accepted set s p h =
    let a = all_pass (join_checks set s p) h in
    record { below = leb-false set.size p a.0; absent = not_some (state_of s.table p) a.1.0; not_busy = a.1.1.1.0 }

pub record Leaves (set : Settings) (s : State) (p : ℕ) : Type 0 where
  pub below : p < set.size
  pub settled : state_of s.table p ≡ Some Settled
  pub not_busy : busy s.table (successor_in set s p) ≡ false

pub leave_accepted : (set : Settings) (s : State) (p : ℕ) → refusal set s (Leave p) ≡ None → Leaves set s p
unfolding leave_checks
leave_accepted set s p h =
    let a = all_pass (leave_checks set s p) h in
    let e = or_parts (not (is_settled (state_of s.table p))) (busy s.table (successor_in set s p)) a.1.1.1.0 in
    record { below = leb-false set.size p a.0; settled = is_settled_lem (state_of s.table p) (not-false (is_settled (state_of s.table p)) e.0); not_busy = e.1 }

pub some_members : (ms : List ℕ) → is_empty ms ≡ false → ms ≡ [] → ⊥
some_members ms h e = both_ways (is_empty ms) h (ap is_empty e)

pub record Inserts (set : Settings) (s : State) (k : ℕ) : Type 0 where
  pub below : k < set.size
  pub some_member : members s.table ≡ [] → ⊥
  pub room : set.copies ≤ set.cells - length s.shelf - adds s.post

pub insert_accepted : (set : Settings) (s : State) (k v : ℕ) → refusal set s (Insert k v) ≡ None → Inserts set s k
unfolding insert_checks
insert_accepted set s k v h =
    let a = all_pass (insert_checks set s k) h in
    record { below = leb-false set.size k a.0; some_member = some_members (members s.table) a.1.0; room = ltb-false (cells_left set s) set.copies a.1.1.1.0 }

pub record Lookups (set : Settings) (s : State) (k r : ℕ) : Type 0 where
  pub below : k < set.size
  pub some_replica : 1 ≤ r
  pub replica_in_range : r ≤ set.copies
  pub some_member : members s.table ≡ [] → ⊥

pub lookup_accepted : (set : Settings) (s : State) (k r : ℕ) → refusal set s (Lookup k r) ≡ None → Lookups set s k r
unfolding lookup_checks
lookup_accepted set s k r h =
    let a = all_pass (lookup_checks set s k r) h in
    let e = or_parts (ltb r 1) (ltb set.copies r) a.1.0 in
    record { below = leb-false set.size k a.0; some_replica = ltb-false r 1 e.0; replica_in_range = ltb-false set.copies r e.1; some_member = some_members (members s.table) a.1.1.0 }

pub deliver_accepted : (set : Settings) (s : State) (n : ℕ) → refusal set s (Deliver n) ≡ None → n < length s.post
unfolding deliver_checks
deliver_accepted set s n h =
    let a = all_pass (deliver_checks set s n) h in
    leb-false (length s.post) n a.1.0

-- a delivery is refused only where no message is, or where an ADDITEM finds no room
pub deliver_refused_not : (set : Settings) (s : State) (n : ℕ) → n < length s.post → cramped set s (slice_get s.post n) ≡ false → refusal set s (Deliver n) ≡ None
unfolding deliver_checks
deliver_refused_not set s n l c =
    let b : leb (length s.post) n ≡ false = Rattle.std.proofs.lemmas.Bool.lt-leb (length s.post) n l in
    rw (c, b) refl

pub collect_accepted : (set : Settings) (s : State) (q : ℕ) → refusal set s (Collect q) ≡ None → reply_to s.questions q ≡ None → ⊥
unfolding collect_checks
collect_accepted set s q h none_open =
    let a = all_pass (collect_checks s q) h in
    both_ways (not (is_some (reply_to s.questions q))) a.0 (ap (λ o. not (is_some o)) none_open)
