-- When each call is refused: its checks in the order of the refusals' numbers; the first that applies is the answer. Assumes nothing.
use Rattle.std.specs.Prelude.{ℕ, ◌-◌, Bool, true, false, not, ◌&&◌, ◌||◌, List, [], ◌∷◌, length, is_some, Some, None, Option, ◌==◌, nat_le, nat_lt}
use Rattle.std.specs.List.{slice_get}
use Rattle.faults.specs.declared.Fault.{Fault}
use Rattle.faults.specs.declared.Fault.TheVariants.{Identifier, Replica, OnTable, TableFull, NotMember, NoMember, OnlyMember, NotSettled, NumbersSpent, QuestionsOpen, ShelfFull, PostFull, NoMessage, NoQuestion}
use Rattle.faults.specs.Checks.{first_fault}
use Rattle.circle.specs.Owners.{successor}
use Rattle.copies.specs.Copies.{find}
use Rattle.messages.specs.declared.Message.{Message}
use Rattle.messages.specs.declared.Message.TheVariants.{RetrieveItems, Replicate, AddItem, GetItem}
use Rattle.rules.specs.declared.PeerState.{PeerState}
use Rattle.rules.specs.declared.Peer.{Peer}
use Rattle.rules.specs.declared.Call.{Call}
use Rattle.rules.specs.declared.Call.TheVariants.{Join, Leave, Insert, Lookup, Deliver, Collect}
use Rattle.rules.specs.State.{Settings, State, is_settled, is_leaving, members, state_of, adds, reply_to, owner_else}
use Rattle.rules.specs.Handover.{spot}

-- the largest table, the most open questions, and how many numbers of a kind are given
abbrev pub most_peers : ℕ
most_peers = 64

abbrev pub most_open : ℕ
most_open = 64

abbrev pub most_numbers : ℕ
most_numbers = 1000000

-- the places free in the post
abbrev pub free_places : Settings → State → ℕ
free_places set s = set.slots - length s.post

-- the cells left of those kept and those that ADDITEM messages wait for
abbrev pub cells_left : Settings → State → ℕ
cells_left set s = set.cells - length s.shelf - adds s.post

abbrev pub is_empty : {X : Type 0} → List X → Bool
is_empty [] = true
is_empty (x ∷ xs) = false

abbrev pub is_member : Option PeerState → Bool
is_member None = false
is_member (Some st) = not (is_leaving st)

-- there is such a peer, and it is not settled
abbrev pub busy : List Peer → Option ℕ → Bool
busy t None = false
busy t (Some c) = not (is_settled (state_of t c))

abbrev pub successor_in : Settings → State → ℕ → Option ℕ
successor_in set s p = successor set.size (members s.table) p

-- its addressee owns the place
abbrev pub owns : Settings → State → ℕ → ℕ → Bool
owns set s i to = (owner_else set s.table i to) == to

-- an ADDITEM at the owner that would need a cell, and there is none
abbrev pub cramped : Settings → State → Option Message → Bool
cramped set s None = false
cramped set s (Some (RetrieveItems to from start end)) = false
cramped set s (Some (Replicate to from start end)) = false
cramped set s (Some (AddItem to r i stamp v)) = owns set s i to && (not (is_some (find s.shelf (spot to r i))) && nat_le set.cells (length s.shelf))
cramped set s (Some (GetItem to r i q)) = false

unfoldable pub join_checks : Settings → State → ℕ → List (Bool × Fault)
join_checks set s p =
    (nat_le set.size p, Identifier)
    ∷ (is_some (state_of s.table p), OnTable)
    ∷ (nat_le most_peers (length s.table), TableFull)
    ∷ (busy s.table (successor_in set s p), NotSettled)
    ∷ (is_some (successor_in set s p) && nat_lt (free_places set s) 1, PostFull (free_places set s))
    ∷ []

unfoldable pub leave_checks : Settings → State → ℕ → List (Bool × Fault)
leave_checks set s p =
    (nat_le set.size p, Identifier)
    ∷ (not (is_member (state_of s.table p)), NotMember)
    ∷ (not (is_some (successor_in set s p)), OnlyMember)
    ∷ (not (is_settled (state_of s.table p)) || busy s.table (successor_in set s p), NotSettled)
    ∷ (nat_lt (free_places set s) 1, PostFull (free_places set s))
    ∷ []

unfoldable pub insert_checks : Settings → State → ℕ → List (Bool × Fault)
insert_checks set s k =
    (nat_le set.size k, Identifier)
    ∷ (is_empty (members s.table), NoMember)
    ∷ (nat_lt most_numbers s.stamp, NumbersSpent)
    ∷ (nat_lt (cells_left set s) set.copies, ShelfFull (cells_left set s))
    ∷ (nat_lt (free_places set s) set.copies, PostFull (free_places set s))
    ∷ []

unfoldable pub lookup_checks : Settings → State → ℕ → ℕ → List (Bool × Fault)
lookup_checks set s k r =
    (nat_le set.size k, Identifier)
    ∷ (nat_lt r 1 || nat_lt set.copies r, Replica)
    ∷ (is_empty (members s.table), NoMember)
    ∷ (nat_lt most_numbers s.number, NumbersSpent)
    ∷ (nat_le most_open (length s.questions), QuestionsOpen)
    ∷ (nat_lt (free_places set s) 1, PostFull (free_places set s))
    ∷ []

unfoldable pub deliver_checks : Settings → State → ℕ → List (Bool × Fault)
deliver_checks set s n =
    (cramped set s (slice_get s.post n), ShelfFull (set.cells - length s.shelf))
    ∷ (nat_le (length s.post) n, NoMessage)
    ∷ []

unfoldable pub collect_checks : State → ℕ → List (Bool × Fault)
collect_checks s q = (not (is_some (reply_to s.questions q)), NoQuestion) ∷ []

abbrev pub checks : Settings → State → Call → List (Bool × Fault)
checks set s (Join p) = join_checks set s p
checks set s (Leave p) = leave_checks set s p
checks set s (Insert k v) = insert_checks set s k
checks set s (Lookup k r) = lookup_checks set s k r
checks set s (Deliver n) = deliver_checks set s n
checks set s (Collect q) = collect_checks s q

-- why a call is refused, if it is
abbrev pub refusal : Settings → State → Call → Option Fault
refusal set s c = first_fault (checks set s c)
