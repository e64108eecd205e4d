-- What an accepted join or leave makes of the table and the post. Assumes nothing.
use Rattle.std.proofs.Common.{◌≡◌, ℕ, suc, ◌-◌, ◌≤◌, false, ◌&&◌, ltb, leb, List, [], ◌∷◌, length, is_some, Some, None, Option, sym, refl, ap, ◌∙◌, arith}
use Rattle.std.proofs.lemmas.Bool.{ltb-false, lt-leb}
use Rattle.faults.specs.Checks.{first_fault}
use Rattle.rules.specs.declared.Peer.{Peer}
use Rattle.rules.specs.declared.PeerState.{PeerState}
use Rattle.rules.specs.State.{Settings, State, members, with_state}
use Rattle.rules.specs.Refusals.{most_peers, free_places, join_checks, leave_checks}
use Rattle.rules.specs.Rules.{joined, gone}
use Rattle.circle.specs.Owners.{predecessor, successor}
use Rattle.holders.specs.Holders.{no_place}
use Rattle.ring.specs.Views.{both, joined_to, gone_from}
use Rattle.ring.proofs.Performing.{all_passed}

-- ---- a post with enough free places takes a message

pub has_place : (slots waiting more : ℕ) → 1 ≤ more → ltb (slots - waiting) more ≡ false → leb slots waiting ≡ false
has_place slots waiting more some h = let free = ltb-false (slots - waiting) more h in lt-leb slots waiting (omega arith)

-- ---- neighbours

both_none : (a c : Option ℕ) → None ≡ both a c → (p : ℕ) (s : State) → joined p s a c ≡ joined p s None None
both_none None c e p s = refl
both_none (Some a) None e p s = refl
both_none (Some a) (Some c) e p s = absurd (let z : ◌≡◌ {A = ℕ} 0 1 = cc in omega arith)

pub both_some : (o q : Option ℕ) (a c : ℕ) → Some (a, c) ≡ both o q → (o ≡ Some a) × (q ≡ Some c)
both_some None q a c e = absurd (let z : ◌≡◌ {A = ℕ} 0 1 = cc in omega arith)
both_some (Some x) None a c e = absurd (let z : ◌≡◌ {A = ℕ} 0 1 = cc in omega arith)
both_some (Some x) (Some y) a c e = let pair : (a, c) ≡ (x, y) = cc in (ap (λ (t : ℕ × ℕ). Some t.0) (sym pair), ap (λ (t : ℕ × ℕ). Some t.1) (sym pair))

module _ (set : Settings) (s : State) (p : ℕ) where
  before : Option ℕ
  before = predecessor set.size (members s.table) p

  pub join_alone : None ≡ both (predecessor set.size (members s.table) p) (successor set.size (members s.table) p) → joined_to set s p ≡ joined p s None None
  join_alone e = both_none (predecessor set.size (members s.table) p) (successor set.size (members s.table) p) e p s

  pub join_between : (a c : ℕ) → Some (a, c) ≡ both (predecessor set.size (members s.table) p) (successor set.size (members s.table) p) → joined_to set s p ≡ joined p s (Some a) (Some c)
  join_between a c e = let is = both_some (predecessor set.size (members s.table) p) (successor set.size (members s.table) p) a c e in (λ j. joined p s (is.0 j) (is.1 j))

  pub leave_between : (a c : ℕ) → Some (a, c) ≡ both (predecessor set.size (members s.table) p) (successor set.size (members s.table) p) → gone_from set s p ≡ gone p s (Some a) (Some c)
  leave_between a c e = let is = both_some (predecessor set.size (members s.table) p) (successor set.size (members s.table) p) a c e in (λ j. gone p s (is.0 j) (is.1 j))

  -- ---- what acceptance tells

  -- the table has room
  pub join_room : first_fault (join_checks set s p) ≡ None → leb most_peers (length s.table) ≡ false
  unfolding join_checks
  join_room h = (all_passed (join_checks set s p) h).1.1.0

  -- so has the post, where there is a successor
  pub join_place : first_fault (join_checks set s p) ≡ None → (c : ℕ) → successor set.size (members s.table) p ≡ Some c → no_place s.post set.slots ≡ false
  unfolding join_checks
  join_place h c is =
      let last = (all_passed (join_checks set s p) h).1.1.1.1.0 in
      has_place set.slots (length s.post) 1 (omega arith) (ap (λ (o : Option ℕ). is_some o && ltb (free_places set s) 1) (sym is) ∙ last)

  pub leave_place : first_fault (leave_checks set s p) ≡ None → no_place s.post set.slots ≡ false
  unfolding leave_checks
  leave_place h = has_place set.slots (length s.post) 1 (omega arith) (all_passed (leave_checks set s p) h).1.1.1.1.0

-- a change of state leaves the table as long as it was
pub with_state_length : (p : ℕ) (st : PeerState) (t : List Peer) {u : List Peer} → u ≡ with_state p st t → leb most_peers (length t) ≡ false → leb most_peers (length u) ≡ false
with_state_length p st t e h = ap (λ (l : List Peer). leb most_peers (length l)) e ∙ ap (leb most_peers) (long t) ∙ h
  where
    long : (l : List Peer) → length (with_state p st l) ≡ length l
    long [] = refl
    long (q ∷ qs) = ap suc (long qs)
