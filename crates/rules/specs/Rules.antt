-- The rules: what each call is answered, and what it makes of the ring. Assumes nothing.
use Rattle.std.specs.Prelude.{ℕ, zero, suc, ◌+◌, Bool, false, cond, List, [], ◌∷◌, ◌++◌, length, Some, None, Option}
use Rattle.std.specs.List.{remove, slice_get}
use Rattle.faults.specs.declared.Fault.{Fault}
use Rattle.circle.specs.Circle.{in_arc}
use Rattle.circle.specs.Owners.{successor, predecessor}
use Rattle.copies.specs.declared.Entry.{Entry}
use Rattle.copies.specs.Copies.{find, put}
use Rattle.messages.specs.declared.Message.{Message}
use Rattle.messages.specs.declared.Message.TheVariants.{RetrieveItems, Replicate, AddItem, GetItem}
use Rattle.rules.specs.declared.PeerState.{PeerState}
use Rattle.rules.specs.declared.PeerState.TheVariants.{Settled, Filling, Giving, Leaving}
use Rattle.rules.specs.declared.Peer.{Peer}
use Rattle.rules.specs.declared.Reply.{Reply}
use Rattle.rules.specs.declared.Reply.TheVariants.{Waiting, TooEarly, Held, Absent}
use Rattle.rules.specs.declared.Call.{Call}
use Rattle.rules.specs.declared.Call.TheVariants.{Join, Leave, Insert, Lookup, Deliver, Collect}
use Rattle.rules.specs.declared.Answer.{Answer}
use Rattle.rules.specs.declared.Answer.TheVariants.{Done, Inserted, Opened, Asked, Moved, Sent, Kept, Older, Answered, Found, Nothing, NotYet, Withdrawn, Refused}
use Rattle.rules.specs.State.{Settings, State, peer, members, state_of, with_state, without, addressee, unasked, question, reply_to, with_reply, closed, with_table, with_shelf, with_post, with_stamp, with_questions, sending, place_of, owner_else}
use Rattle.rules.specs.Handover.{spot, entry, newer, handed, handover}
use Rattle.rules.specs.Refusals.{owns, refusal}

-- an answer, and the ring after it
pub record Did : Type 0 where
  pub answer : Answer
  pub after : State

abbrev pub did : Answer → State → Did
did a s = record { answer = a; after = s }

-- ---- join and leave

-- p comes between its predecessor and its successor, or alone
abbrev pub joined : ℕ → State → Option ℕ → Option ℕ → State
joined p s None c = with_table (s.table ++ peer p Settled ∷ []) s
joined p s (Some a) None = with_table (s.table ++ peer p Settled ∷ []) s
joined p s (Some a) (Some c) = sending (RetrieveItems c p a p) (with_table (with_state c Giving s.table ++ peer p (Filling c a p) ∷ []) s)

-- p goes from between them; alone it would stay
abbrev pub gone : ℕ → State → Option ℕ → Option ℕ → State
gone p s None c = s
gone p s (Some a) None = s
gone p s (Some a) (Some c) = sending (Replicate c p a p) (with_table (with_state c (Filling p a p) (with_state p Leaving s.table)) s)

-- ---- insert and lookup

-- ADDITEM for the replicas 1 to r, each to the owner of its place
abbrev pub additions : Settings → List Peer → ℕ → ℕ → ℕ → ℕ → List Message
additions set t k stamp v zero = []
additions set t k stamp v (suc r) =
    let i = place_of set k (suc r) in
    additions set t k stamp v r ++ AddItem (owner_else set t i i) (suc r) i stamp v ∷ []

unfoldable pub inserted : Settings → State → ℕ → ℕ → State
inserted set s k v =
    with_stamp (s.stamp + 1) (with_post (s.post ++ additions set s.table k s.stamp v set.copies) s)

unfoldable pub opened : Settings → State → ℕ → ℕ → State
opened set s k r =
    let i = place_of set k r in
    sending (GetItem (owner_else set s.table i i) r i s.number) (with_questions (s.number + 1) (s.questions ++ question s.number Waiting ∷ []) s)

-- ---- deliver: in each of these the message has been taken

-- the giver is done: it stays or goes
abbrev pub released : Option PeerState → ℕ → List Peer → List Peer
released None g t = t
released (Some Settled) g t = t
released (Some (Filling h a e)) g t = t
released (Some Giving) g t = with_state g Settled t
released (Some Leaving) g t = without g t

-- g hands x its copies of the arc from a to e
unfoldable pub handing_over : Settings → State → ℕ → ℕ → ℕ → ℕ → Did
handing_over set s x g a e =
    did (Moved (length (handed set.size x g a e s.shelf))) (with_shelf (handover set.size x g a e s.shelf) (with_table (with_state x Settled (released (state_of s.table g) g s.table)) s))

unfoldable pub adding : State → ℕ → ℕ → ℕ → ℕ → ℕ → Did
adding s to r i stamp v =
    cond (newer (find s.shelf (spot to r i)) stamp) (did Older s) (did Kept (with_shelf (put s.shelf (spot to r i) (entry stamp v)) s))

-- the place is one that its owner has still to be given the copies of
abbrev pub still_to_come : Settings → Option PeerState → ℕ → Bool
still_to_come set None i = false
still_to_come set (Some Settled) i = false
still_to_come set (Some (Filling g a e)) i = in_arc set.size a e i
still_to_come set (Some Giving) i = false
still_to_come set (Some Leaving) i = false

abbrev pub shown : Option Entry → Reply
shown None = Absent
shown (Some e) = Held e.stamp e.value

unfoldable pub answering : Settings → State → Option PeerState → ℕ → ℕ → ℕ → ℕ → Did
answering set s st to r i q =
    did Answered (with_questions s.number (with_reply q (cond (still_to_come set st i) TooEarly (shown (find s.shelf (spot to r i)))) s.questions) s)

-- the message m is put again, to the owner
abbrev pub sent_on : Message → State → Did
sent_on m s = did Sent (sending m s)

-- by the state of the addressee and the message
abbrev pub delivered : Settings → State → Option PeerState → Message → Did
delivered set s st (RetrieveItems to from start end) = did Asked (sending (Replicate from to start end) s)
delivered set s st (Replicate to from start end) = handing_over set s to from start end
delivered set s st (AddItem to r i stamp v) =
    cond (owns set s i to) (adding s to r i stamp v) (sent_on (AddItem (owner_else set s.table i to) r i stamp v) s)
delivered set s st (GetItem to r i q) =
    cond (owns set s i to) (answering set s st to r i q) (sent_on (GetItem (owner_else set s.table i to) r i q) s)

abbrev pub delivering : Settings → State → ℕ → Option Message → Did
delivering set s n None = did Sent s
delivering set s n (Some m) = delivered set (with_post (remove s.post n) s) (state_of s.table (addressee m)) m

-- ---- collect

-- the question is closed
abbrev pub closing : ℕ → State → State
closing q s = with_questions s.number (closed q s.questions) s

abbrev pub collecting : ℕ → State → Option Reply → Did
collecting q s None = did Nothing s
collecting q s (Some Waiting) = did Withdrawn (with_post (unasked q s.post) (closing q s))
collecting q s (Some TooEarly) = did NotYet (closing q s)
collecting q s (Some (Held stamp v)) = did (Found stamp v) (closing q s)
collecting q s (Some Absent) = did Nothing (closing q s)

-- ---- one call

-- what a call does that is not refused
abbrev pub outcome : Settings → State → Call → Did
outcome set s (Join p) =
    did Done (joined p s (predecessor set.size (members s.table) p) (successor set.size (members s.table) p))
outcome set s (Leave p) =
    did Done (gone p s (predecessor set.size (members s.table) p) (successor set.size (members s.table) p))
outcome set s (Insert k v) = did (Inserted s.stamp) (inserted set s k v)
outcome set s (Lookup k r) = did (Opened s.number) (opened set s k r)
outcome set s (Deliver n) = delivering set s n (slice_get s.post n)
outcome set s (Collect q) = collecting q s (reply_to s.questions q)

-- a refused call changes nothing
abbrev pub decided : Settings → State → Call → Option Fault → Did
decided set s c None = outcome set s c
decided set s c (Some fault) = did (Refused fault) s

unfoldable pub step : Settings → State → Call → Did
step set s c = decided set s c (refusal set s c)
