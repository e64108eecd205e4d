-- What a table and the open questions mean, and who is searched. Assumes nothing.
use Rattle.std.specs.Prelude.{ℕ, cond, List, Some, None, Option}
use Rattle.rules.specs.declared.Peer.{Peer}
use Rattle.rules.specs.declared.Question.{Question}
use Rattle.rules.specs.State.{is_leaving}
use Rattle.rosters.specs.Rosters.{listed}
use Rattle.tables.specs.declared.table.Table.{Table}
use Rattle.tables.specs.declared.questions.Questions.{Questions}

-- the peers, and the questions, in order of arrival
abbrev pub peers_of : Table → List Peer
peers_of t = listed t.peers

abbrev pub questions_of : Questions → List Question
questions_of q = listed q.asked

-- a peer as a member
abbrev pub member_of : Peer → Option ℕ
member_of q = cond (is_leaving q.state) None (Some q.id)
