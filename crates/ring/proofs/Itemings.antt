-- What it tells that an insert or a lookup is accepted. Assumes nothing.
use Rattle.std.proofs.Common.{◌≡◌, ℕ, ◌+◌, ◌≤◌, false, leb, length, None, arith}
use Rattle.std.proofs.lemmas.Bool.{ltb-false}
use Rattle.faults.specs.Checks.{first_fault}
use Rattle.rules.specs.State.{Settings, State}
use Rattle.rules.specs.Refusals.{most_open, most_numbers, free_places, insert_checks, lookup_checks}
use Rattle.holders.specs.Holders.{no_place}
use Rattle.ring.proofs.Performing.{all_passed}
use Rattle.ring.proofs.Memberships.{has_place}

module _ (set : Settings) (s : State) (k : ℕ) where
  pub record Inserts : Type 0 where
    pub unspent : s.stamp ≤ most_numbers
    pub enough : length s.post + set.copies ≤ set.slots

  pub insert_accepted : 1 ≤ set.copies → first_fault (insert_checks set s k) ≡ None → Inserts
  unfolding insert_checks
  insert_accepted some h =
      let a = all_passed (insert_checks set s k) h in
      let places = ltb-false (free_places set s) set.copies a.1.1.1.1.0 in
      record { unspent = ltb-false most_numbers s.stamp a.1.1.0; enough = omega arith }

  pub record Lookups (r : ℕ) : Type 0 where
    pub unspent : s.number ≤ most_numbers
    pub more_open : leb most_open (length s.questions) ≡ false
    pub place : no_place s.post set.slots ≡ false

  pub lookup_accepted : (r : ℕ) → first_fault (lookup_checks set s k r) ≡ None → Lookups r
  unfolding lookup_checks
  lookup_accepted r h =
      let a = all_passed (lookup_checks set s k r) h in
      record {
        unspent = ltb-false most_numbers s.number a.1.1.1.0;
        more_open = a.1.1.1.1.0;
        place = has_place set.slots (length s.post) 1 (omega arith) a.1.1.1.1.1.0;
      }
