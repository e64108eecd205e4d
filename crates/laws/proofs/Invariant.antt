-- What holds of the ring after every call: of its peers, its copies, its messages, and of these beside what has happened.
use Rattle.std.proofs.Common.{◌≡◌, ℕ, ◌+◌, ◌<◌, ◌≤◌, true, ◌⊎◌, List, [], length, Some}
use Rattle.circle.specs.Circle.{in_arc}
use Rattle.copies.specs.declared.Entry.{Entry}
use Rattle.copies.specs.declared.CopyRecord.{CopyRecord}
use Rattle.copies.specs.Copies.{Ordered, find}
use Rattle.messages.specs.declared.Message.{Message}
use Rattle.messages.specs.declared.Message.TheVariants.{AddItem, GetItem}
use Rattle.rules.specs.declared.PeerState.{PeerState}
use Rattle.rules.specs.declared.PeerState.TheVariants.{Settled, Filling, Giving, Leaving}
use Rattle.rules.specs.declared.Peer.{Peer}
use Rattle.rules.specs.declared.Reply.TheVariants.{Held, Absent}
use Rattle.rules.specs.declared.Question.{Question}
use Rattle.rules.specs.State.{Settings, State, members, state_of, adds, question, owner_in, place_of}
use Rattle.rules.specs.Handover.{spot}
use Rattle.laws.proofs.Lists.{Mem, total}
use Rattle.laws.proofs.Table.{Distinct}
use Rattle.laws.proofs.Errands.{fills, carries}

-- ---- the peers

-- it owes copies
abbrev pub Handing : PeerState → Type 0
Handing Settled = ⊥
Handing (Filling g a e) = ⊥
Handing Giving = Unit {0}
Handing Leaving = Unit {0}

pub record Owing (t : List Peer) (g : ℕ) : Type 0 where
  pub state : PeerState
  pub is : state_of t g ≡ Some state
  pub owes : Handing state

pub record Peers (set : Settings) (t : List Peer) : Type 0 where
  pub distinct : Distinct t
  pub below : (p : ℕ) (st : PeerState) → state_of t p ≡ Some st → p < set.size
  -- who fills is owed by a peer on the table, which owes nobody else
  pub giver_there : (x g a e : ℕ) → state_of t x ≡ Some (Filling g a e) → Owing t g
  pub giver_once : (x y g a e b d : ℕ) → state_of t x ≡ Some (Filling g a e) → state_of t y ≡ Some (Filling g b d) → x ≡ y
  pub arc_below : (x g a e : ℕ) → state_of t x ≡ Some (Filling g a e) → (a < set.size) × (e < set.size)
  -- who fills an arc owns it
  pub arc_owned : (x g a e i : ℕ) → state_of t x ≡ Some (Filling g a e) → i < set.size → in_arc set.size a e i ≡ true → owner_in set t i ≡ Some x

-- ---- the copies

-- the owner of the place is owed its copies by p
pub record Awaited (set : Settings) (t : List Peer) (p i : ℕ) : Type 0 where
  pub filler : ℕ
  pub start : ℕ
  pub end : ℕ
  pub owner : owner_in set t i ≡ Some filler
  pub filling : state_of t filler ≡ Some (Filling p start end)
  pub on : in_arc set.size start end i ≡ true

-- a copy of replica r at place i may stand at p
pub record Placed (set : Settings) (t : List Peer) (p r i : ℕ) : Type 0 where
  pub place_below : i < set.size
  pub some_replica : 1 ≤ r
  pub replica_in_range : r ≤ set.copies
  pub holder : (owner_in set t i ≡ Some p) ⊎ Awaited set t p i

abbrev pub AllPlaced : Settings → List Peer → List CopyRecord → Type 0
AllPlaced set t sh = (p r i : ℕ) (e : Entry) → find sh (spot p r i) ≡ Some e → Placed set t p r i

-- ---- peers, copies and messages

pub record Sound (set : Settings) (s : State) : Type 0 where
  pub peers : Peers set s.table
  pub ordered : Ordered s.shelf
  pub placed : AllPlaced set s.table s.shelf
  -- one message waits for each arc that is filled, and no other of its kind
  pub errands : (x g a e : ℕ) → total (carries x g a e) s.post ≡ fills (state_of s.table x) g a e
  pub populated : members s.table ≡ [] → s.post ≡ []
  pub room : length s.shelf + adds s.post ≤ set.cells

-- ---- what has happened

-- inserts (stamp, item, value), arrivals (stamp, replica), and the moments of the lookups (question, item, replica), with what had landed then (item, stamp)
pub record Story (M : Type 0) : Type 1 where
  pub inserted : ℕ → ℕ → ℕ → Type 0
  pub arrived : ℕ → ℕ → Type 0
  pub asked : M → ℕ → ℕ → ℕ → Type 0
  pub landed : M → ℕ → ℕ → Type 0

-- an insert had this stamp and value, and its item has replica r at place i
pub record Source (set : Settings) (inserted : ℕ → ℕ → ℕ → Type 0) (r i stamp v : ℕ) : Type 0 where
  pub item : ℕ
  pub was : inserted stamp item v
  pub at : place_of set item r ≡ i

-- the ADDITEM of this stamp for this replica and place waits
pub record Waits (post : List Message) (r i stamp : ℕ) : Type 0 where
  pub to : ℕ
  pub value : ℕ
  pub waits : Mem (AddItem to r i stamp value) post

-- somebody has a copy of this replica and place that is as new
pub record Covered (sh : List CopyRecord) (r i stamp : ℕ) : Type 0 where
  pub holder : ℕ
  pub entry : Entry
  pub has : find sh (spot holder r i) ≡ Some entry
  pub as_new : stamp ≤ entry.stamp

pub record Faithful (set : Settings) {M : Type 0} (story : Story M) (s : State) : Type 0 where
  pub copies_inserted : (p r i : ℕ) (e : Entry) → find s.shelf (spot p r i) ≡ Some e → Source set story.inserted r i e.stamp e.value
  pub adds_inserted : (to r i stamp v : ℕ) → Mem (AddItem to r i stamp v) s.post → Source set story.inserted r i stamp v
  pub adds_in_range : (to r i stamp v : ℕ) → Mem (AddItem to r i stamp v) s.post → (1 ≤ r) × (r ≤ set.copies)
  pub inserted_below : (stamp k v : ℕ) → story.inserted stamp k v → (stamp < s.stamp) × (k < set.size)
  pub stamp_once : (stamp k v k' v' : ℕ) → story.inserted stamp k v → story.inserted stamp k' v' → (k ≡ k') × (v ≡ v')
  -- each copy of an insert is on its way, or somebody has it or a newer one
  pub reached : (stamp k v r : ℕ) → story.inserted stamp k v → 1 ≤ r → r ≤ set.copies → Waits s.post r (place_of set k r) stamp ⊎ Covered s.shelf r (place_of set k r) stamp
  pub arrived_below : (stamp r : ℕ) → story.arrived stamp r → stamp < s.stamp
  pub arrived_covered : (stamp k v r : ℕ) → story.arrived stamp r → story.inserted stamp k v → Covered s.shelf r (place_of set k r) stamp
  -- the GETITEM of a question asks for what its lookup named
  pub gets_asked : (to r i q : ℕ) (m : M) (k r' : ℕ) → Mem (GetItem to r i q) s.post → story.asked m q k r' → (r ≡ r') × (place_of set k r' ≡ i)
  pub gets_below : (to r i q : ℕ) → Mem (GetItem to r i q) s.post → q < s.number
  pub questions_below : (x : Question) → Mem x s.questions → x.number < s.number
  pub asked_below : (m : M) (q k r : ℕ) → story.asked m q k r → (q < s.number) × (k < set.size)
  pub landed_covered : (m : M) (q k r stamp : ℕ) → story.asked m q k r → story.landed m k stamp → Covered s.shelf r (place_of set k r) stamp
  pub found_fresh : (m : M) (q k r stamp v : ℕ) → Mem (question q (Held stamp v)) s.questions → story.asked m q k r → story.inserted stamp k v × ((stamp' : ℕ) → story.landed m k stamp' → stamp' ≤ stamp)
  pub absent_fresh : (m : M) (q k r stamp : ℕ) → Mem (question q Absent) s.questions → story.asked m q k r → story.landed m k stamp → ⊥

-- everything that holds after every call
pub record Invariant (set : Settings) {M : Type 0} (story : Story M) (s : State) : Type 0 where
  pub sound : Sound set s
  pub faithful : Faithful set story s
