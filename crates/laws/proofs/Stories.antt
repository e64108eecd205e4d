-- How the story grows: by an insert, an arrival, a lookup.
use Rattle.std.proofs.Common.{◌≡◌, ℕ, ◌⊎◌}
use Rattle.laws.proofs.Invariant.{Story}

abbrev pub with_insert : {M : Type 0} → Story M → ℕ → ℕ → ℕ → Story M
with_insert story stamp k v = record {
  inserted = λ a l w. story.inserted a l w ⊎ ((a ≡ stamp) × (l ≡ k) × (w ≡ v));
  arrived = story.arrived;
  asked = story.asked;
  landed = story.landed;
}

abbrev pub with_arrival : {M : Type 0} → Story M → ℕ → ℕ → Story M
with_arrival story stamp r = record {
  inserted = story.inserted;
  arrived = λ a q. story.arrived a q ⊎ ((a ≡ stamp) × (q ≡ r));
  asked = story.asked;
  landed = story.landed;
}

abbrev pub with_lookup : {M : Type 0} → Story M → M → ℕ → ℕ → ℕ → Story M
with_lookup story m q k r = record {
  inserted = story.inserted;
  arrived = story.arrived;
  asked = λ n p l t. story.asked n p l t ⊎ ((n ≡ m) × (p ≡ q) × (l ≡ k) × (t ≡ r));
  landed = story.landed;
}
