-- What a ring is at one moment, and the words for reading and changing it. Assumes nothing.
use Rattle.std.specs.Prelude.{◌≡◌, ℕ, ◌+◌, ◌%◌, ◌≤◌, Bool, true, false, cond, List, [], ◌∷◌, ◌++◌, Some, None, Option, ◌==◌}
use Rattle.circle.specs.Circle.{largest_size, most_copies, place}
use Rattle.circle.specs.Owners.{owner}
use Rattle.copies.specs.declared.CopyRecord.{CopyRecord}
use Rattle.messages.specs.declared.Message.{Message}
use Rattle.messages.specs.declared.Message.TheVariants.{RetrieveItems, Replicate, AddItem, GetItem}
use Rattle.rules.specs.declared.PeerState.{PeerState}
use Rattle.rules.specs.declared.PeerState.TheVariants.{Settled, Filling, Giving, Leaving}
use Rattle.rules.specs.declared.Peer.{Peer}
use Rattle.rules.specs.declared.Reply.{Reply}
use Rattle.rules.specs.declared.Question.{Question}

-- what stays the same through a run: how many identifiers and copies, and how much the shelf and the post can hold
pub record Settings : Type 0 where
  pub size : ℕ
  pub copies : ℕ
  pub cells : ℕ
  pub slots : ℕ

-- shelf and post may have any size
pub record Lawful (set : Settings) : Type 0 where
  pub some_size : 1 ≤ set.size
  pub size_in_range : set.size ≤ largest_size
  pub some_copies : 1 ≤ set.copies
  pub copies_in_range : set.copies ≤ most_copies
  pub divides : set.size % set.copies ≡ 0

-- what changes: the peers in order of joining, what shelf and post mean, the numbers to give next, the open questions
pub record State : Type 0 where
  pub table : List Peer
  pub shelf : List CopyRecord
  pub post : List Message
  pub stamp : ℕ
  pub number : ℕ
  pub questions : List Question

abbrev pub empty : State
empty = record { table = []; shelf = []; post = []; stamp = 1; number = 1; questions = [] }

-- ---- the table

abbrev pub peer : ℕ → PeerState → Peer
peer p st = record { id = p; state = st }

abbrev pub is_leaving : PeerState → Bool
is_leaving Settled = false
is_leaving (Filling g a e) = false
is_leaving Giving = false
is_leaving Leaving = true

abbrev pub is_settled : Option PeerState → Bool
is_settled None = false
is_settled (Some Settled) = true
is_settled (Some (Filling g a e)) = false
is_settled (Some Giving) = false
is_settled (Some Leaving) = false

-- all peers but the leaving
abbrev pub members : List Peer → List ℕ
members [] = []
members (p ∷ ps) = cond (is_leaving p.state) (members ps) (p.id ∷ members ps)

abbrev pub state_of : List Peer → ℕ → Option PeerState
state_of [] p = None
state_of (q ∷ qs) p = cond (q.id == p) (Some q.state) (state_of qs p)

abbrev pub with_state : ℕ → PeerState → List Peer → List Peer
with_state p st [] = []
with_state p st (q ∷ qs) = cond (q.id == p) (peer p st) q ∷ with_state p st qs

abbrev pub without : ℕ → List Peer → List Peer
without p [] = []
without p (q ∷ qs) = cond (q.id == p) (without p qs) (q ∷ without p qs)

-- ---- the post

abbrev pub addressee : Message → ℕ
addressee (RetrieveItems to from start end) = to
addressee (Replicate to from start end) = to
addressee (AddItem to r i s v) = to
addressee (GetItem to r i q) = to

abbrev pub is_add : Message → Bool
is_add (RetrieveItems to from start end) = false
is_add (Replicate to from start end) = false
is_add (AddItem to r i s v) = true
is_add (GetItem to r i q) = false

-- the GETITEM of question q
abbrev pub asks : ℕ → Message → Bool
asks q (RetrieveItems to from start end) = false
asks q (Replicate to from start end) = false
asks q (AddItem to r i s v) = false
asks q (GetItem to r i number) = number == q

abbrev pub adds : List Message → ℕ
adds [] = 0
adds (m ∷ ms) = cond (is_add m) 1 0 + adds ms

-- without the first GETITEM of question q
abbrev pub unasked : ℕ → List Message → List Message
unasked q [] = []
unasked q (m ∷ ms) = cond (asks q m) ms (m ∷ unasked q ms)

-- ---- the open questions

abbrev pub question : ℕ → Reply → Question
question q reply = record { number = q; reply = reply }

abbrev pub reply_to : List Question → ℕ → Option Reply
reply_to [] q = None
reply_to (x ∷ xs) q = cond (x.number == q) (Some x.reply) (reply_to xs q)

abbrev pub with_reply : ℕ → Reply → List Question → List Question
with_reply q reply [] = []
with_reply q reply (x ∷ xs) = cond (x.number == q) (question q reply) x ∷ with_reply q reply xs

abbrev pub closed : ℕ → List Question → List Question
closed q [] = []
closed q (x ∷ xs) = cond (x.number == q) (closed q xs) (x ∷ closed q xs)

-- ---- one part of a state changed

abbrev pub with_table : List Peer → State → State
with_table t s = record { table = t; shelf = s.shelf; post = s.post; stamp = s.stamp; number = s.number; questions = s.questions }

abbrev pub with_shelf : List CopyRecord → State → State
with_shelf sh s = record { table = s.table; shelf = sh; post = s.post; stamp = s.stamp; number = s.number; questions = s.questions }

abbrev pub with_post : List Message → State → State
with_post ms s = record { table = s.table; shelf = s.shelf; post = ms; stamp = s.stamp; number = s.number; questions = s.questions }

abbrev pub with_stamp : ℕ → State → State
with_stamp n s = record { table = s.table; shelf = s.shelf; post = s.post; stamp = n; number = s.number; questions = s.questions }

abbrev pub with_questions : ℕ → List Question → State → State
with_questions n qs s = record { table = s.table; shelf = s.shelf; post = s.post; stamp = s.stamp; number = n; questions = qs }

-- one more message waits
abbrev pub sending : Message → State → State
sending m s = with_post (s.post ++ m ∷ []) s

-- ---- places, and owners as the table stands

-- the place of item k for replica r
abbrev pub place_of : Settings → ℕ → ℕ → ℕ
place_of set k r = place set.size set.copies k r

abbrev pub owner_in : Settings → List Peer → ℕ → Option ℕ
owner_in set t i = owner set.size (members t) i

abbrev pub else_the : ℕ → Option ℕ → ℕ
else_the p None = p
else_the p (Some q) = q

-- the owner of a place; without members it is p itself
abbrev pub owner_else : Settings → List Peer → ℕ → ℕ → ℕ
owner_else set t i p = else_the p (owner_in set t i)
