-- Runs: any list of calls made on an empty ring. What was inserted, and what has landed, are read off the calls and their answers. Assumes nothing.
use Rattle.std.specs.Prelude.{◌≡◌, ℕ, ◌+◌, ◌≤◌, Bool, true, false, cond, ◌⊎◌, List, [], ◌∷◌, ◌++◌, Some}
use Rattle.std.specs.List.{slice_get}
use Rattle.copies.specs.Copies.{find}
use Rattle.messages.specs.declared.Message.{Message}
use Rattle.messages.specs.declared.Message.TheVariants.{AddItem}
use Rattle.rules.specs.declared.Call.{Call}
use Rattle.rules.specs.declared.Call.TheVariants.{Insert, Lookup, Deliver}
use Rattle.rules.specs.declared.Answer.{Answer}
use Rattle.rules.specs.declared.Answer.TheVariants.{Done, Inserted as Stamped, Opened, Asked, Moved, Sent, Kept, Older, Answered, Found, Nothing, NotYet, Withdrawn, Refused}
use Rattle.rules.specs.State.{Settings, State, empty, owner_in}
use Rattle.rules.specs.Handover.{spot, entry}
use Rattle.rules.specs.Rules.{step}

-- the ring after some calls
abbrev pub from : Settings → State → List Call → State
from set s [] = s
from set s (c ∷ cs) = from set (step set s c).after cs

abbrev pub after : Settings → List Call → State
after set run = from set empty run

-- what a call is answered after a run
abbrev pub answer : Settings → List Call → Call → Answer
answer set run c = (step set (after set run) c).answer

-- the messages that wait after a run
abbrev pub waiting : Settings → List Call → List Message
waiting set run = (after set run).post

abbrev pub accepted : Answer → Bool
accepted Done = true
accepted (Stamped s) = true
accepted (Opened q) = true
accepted Asked = true
accepted (Moved n) = true
accepted Sent = true
accepted Kept = true
accepted Older = true
accepted Answered = true
accepted (Found s v) = true
accepted Nothing = true
accepted NotYet = true
accepted Withdrawn = true
accepted (Refused fault) = false

-- somewhere in the run, item k was inserted with value v, and the insert was accepted with this stamp
pub record Inserted (set : Settings) (run : List Call) (stamp k v : ℕ) : Type 0 where
  pub before : List Call
  pub later : List Call
  pub split : run ≡ before ++ Insert k v ∷ later
  pub stamped_so : answer set before (Insert k v) ≡ Stamped stamp

-- somewhere in the run, the ADDITEM of this insert for replica r was delivered as kept or older
pub record Arrived (set : Settings) (run : List Call) (stamp r : ℕ) : Type 0 where
  pub before : List Call
  pub later : List Call
  pub n : ℕ
  pub split : run ≡ before ++ Deliver n ∷ later
  pub delivered_it : (to : ℕ) × (i : ℕ) × (v : ℕ) × (slice_get (waiting set before) n ≡ Some (AddItem to r i stamp v))
  pub taken_in : (answer set before (Deliver n) ≡ Kept) ⊎ (answer set before (Deliver n) ≡ Older)

-- the replicas are numbered from 1
abbrev pub Replica : Settings → ℕ → Type 0
Replica set r = (1 ≤ r) × (r ≤ set.copies)

-- the insert of this stamp has landed: every copy of it has arrived
abbrev pub Landed : Settings → List Call → ℕ → Type 0
Landed set run stamp = (r : ℕ) → Replica set r → Arrived set run stamp r

-- an insert of item k has landed, and had this stamp
pub record InsertLanded (set : Settings) (run : List Call) (k stamp : ℕ) : Type 0 where
  pub v : ℕ
  pub inserted : Inserted set run stamp k v
  pub landed : Landed set run stamp

-- the last accepted insert of item k had this stamp and this value
pub record Last (set : Settings) (run : List Call) (k stamp v : ℕ) : Type 0 where
  pub inserted : Inserted set run stamp k v
  pub highest : (stamp' v' : ℕ) → Inserted set run stamp' k v' → stamp' ≤ stamp

-- the run has a lookup of item k and replica r after `first`, which was accepted and opened question q
pub record LookedUp (set : Settings) (run first : List Call) (k r q : ℕ) : Type 0 where
  pub later : List Call
  pub split : run ≡ first ++ Lookup k r ∷ later
  pub opened_so : answer set first (Lookup k r) ≡ Opened q

-- ---- what stands on the shelf after a run

-- p is the owner of place i
abbrev pub Owns : Settings → List Call → ℕ → ℕ → Type 0
Owns set run p i = owner_in set (after set run).table i ≡ Some p

-- p holds a copy of replica r at place i, with this stamp and this value
abbrev pub Holds : Settings → List Call → ℕ → ℕ → ℕ → ℕ → ℕ → Type 0
Holds set run p r i stamp v = find (after set run).shelf (spot p r i) ≡ Some (entry stamp v)

-- ---- how deliveries go on after a run

-- how many of these deliveries, made after a run, are accepted
abbrev pub accepted_of : Settings → List Call → List ℕ → ℕ
accepted_of set run [] = 0
accepted_of set run (n ∷ ns) = cond (accepted (answer set run (Deliver n))) 1 0 + accepted_of set (run ++ Deliver n ∷ []) ns
