-- The three laws that every run of calls keeps. Assumes nothing.
use Rattle.std.specs.Prelude.{◌≡◌, ℕ, ◌*◌, ◌<◌, ◌≤◌, true, List, [], ◌++◌, map, length}
use Rattle.rules.specs.declared.Call.{Call}
use Rattle.rules.specs.declared.Call.TheVariants.{Deliver, Collect}
use Rattle.rules.specs.declared.Answer.TheVariants.{Found, Nothing}
use Rattle.rules.specs.State.{Settings, Lawful, place_of}
use Rattle.rules.specs.Runs.{answer, waiting, accepted, accepted_of, Inserted, InsertLanded, Last, LookedUp, Replica, Owns, Holds}

-- Replicated: the owner of each of an item's places holds what was inserted last ..
-- .. and there is no other copy
pub record Replicated (set : Settings) (run : List Call) : Type 0 where
  pub there : (k stamp v r : ℕ) → Last set run k stamp v → Replica set r
      → (p : ℕ) × Owns set run p (place_of set k r) × Holds set run p r (place_of set k r) stamp v
  pub only : (p r i stamp v : ℕ) → Holds set run p r i stamp v
      → (k : ℕ) × Last set run k stamp v × Replica set r × (i ≡ place_of set k r) × Owns set run p i

-- Fresh: what a lookup of item k shows in the end was inserted for k, and is as new as what had landed before the lookup ..
-- .. and if it shows nothing, nothing had landed
pub record Fresh (set : Settings) (run : List Call) : Type 0 where
  pub found : (first : List Call) (k r q stamp v : ℕ) → LookedUp set run first k r q → answer set run (Collect q) ≡ Found stamp v
      → Inserted set run stamp k v × ((before : ℕ) → InsertLanded set first k before → before ≤ stamp)
  pub nothing : (first : List Call) (k r q : ℕ) → LookedUp set run first k r q → answer set run (Collect q) ≡ Nothing
      → (before : ℕ) → InsertLanded set first k before → ⊥

-- Drains: with W messages waiting, at most 2 × W deliveries more are accepted, whichever they name ..
-- .. and after any of them, each that names a waiting message is
pub record Drains (set : Settings) (run : List Call) : Type 0 where
  pub few : (ns : List ℕ) → accepted_of set run ns ≤ 2 * length (waiting set run)
  pub each : (ns : List ℕ) (n : ℕ) → n < length (waiting set (run ++ map Deliver ns))
      → accepted (answer set (run ++ map Deliver ns) (Deliver n)) ≡ true

pub record Laws (set : Settings) (run : List Call) : Type 0 where
  pub replicated : waiting set run ≡ [] → Replicated set run
  pub fresh : Fresh set run
  pub drains : Drains set run

-- every run of calls, of any numbers and refused ones among them, on a ring of any lawful settings
abbrev pub EveryRunKeepsItsLaws : Type 0
EveryRunKeepsItsLaws = (set : Settings) → Lawful set → (run : List Call) → Laws set run
