-- What every call on a rack keeps: where its memory is, its size, what lies beyond, and that places not in use hold the blank.
-- Assumes nothing.
use Rattle.std.specs.Borrow.{GName}
use Rattle.std.specs.Prelude.{◌≡◌, ℕ, List}
use Rattle.racks.specs.Parts.{Parts, cut, joined_up, blanks_after, Clean, added, overwritten, closed_up, emptied, ground_of}

pub record Stays {T : Type 0} (b : T) (p q : Parts T) : Type 0 where
  pub ground : ground_of q ≡ ground_of p
  pub clean : Clean b p → Clean b q

pub record RackFacts (T : Type 0) : Type 0 where
  pub stays_added : (b : T) (p : Parts T) (x : T) → Stays b p (added p x)
  pub stays_overwritten : (b : T) (p : Parts T) (n : ℕ) (x : T) → Stays b p (overwritten p n x)
  pub stays_closed_up : (b : T) (p : Parts T) (n : ℕ) → Stays b p (closed_up b p n)
  pub stays_emptied : (b : T) (p : Parts T) → Stays b p (emptied b p)
  pub clean_emptied : (b : T) (p : Parts T) → Clean b (emptied b p)
  -- the parts are the whole memory: the records in use, blanks up to the size, and what lies beyond
  pub joined_cut : (a : GName) (m : List T) (l u : ℕ) → joined_up (cut a m l u) ≡ m
  pub memory_clean : (b : T) (p : Parts T) → Clean b p → joined_up p ≡ blanks_after b p
