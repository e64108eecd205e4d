-- A run that was worked out elsewhere: its calls, their answers, and what table, shelf and post hold at the end. Assumes nothing.
use Rattle.std.specs.Prelude.{List, [], ◌∷◌, ℕ}
use Rattle.circle.specs.Circle.{distance, in_arc, place}
use Rattle.circle.specs.Owners.{owner, successor, predecessor}
use Rattle.copies.specs.declared.CopyRecord.{CopyRecord}
use Rattle.copies.specs.Copies.{copy, same, before, in_range}
use Rattle.messages.specs.declared.Message.{Message}
use Rattle.rules.specs.declared.Peer.{Peer}
use Rattle.rules.specs.declared.Call.{Call}
use Rattle.rules.specs.declared.Answer.{Answer}
use Rattle.rules.specs.State.{Settings, State, empty}
use Rattle.rules.specs.Handover.{spot, entry, owed, moved, handed, handover}
use Rattle.rules.specs.Refusals.{join_checks, leave_checks, insert_checks, lookup_checks, deliver_checks, collect_checks}
use Rattle.rules.specs.Rules.{step, inserted, opened, handing_over, adding, answering}

pub record Worked : Type 0 where
  pub set : Settings
  pub calls : List Call
  pub answers : List Answer
  pub table : List Peer
  pub shelf : List CopyRecord
  pub post : List Message

abbrev pub worked : Settings → List Call → List Answer → List Peer → List CopyRecord → List Message → Worked
worked set calls answers table shelf post = record { set = set; calls = calls; answers = answers; table = table; shelf = shelf; post = post }

abbrev pub settings : ℕ → ℕ → ℕ → ℕ → Settings
settings n f cells slots = record { size = n; copies = f; cells = cells; slots = slots }

abbrev pub kept : ℕ → ℕ → ℕ → ℕ → ℕ → CopyRecord
kept p r i stamp v = copy (spot p r i) (entry stamp v)

-- the same run by the rules
abbrev pub answered : Settings → State → List Call → List Answer
answered set s [] = []
answered set s (c ∷ cs) = let d = step set s c in d.answer ∷ answered set d.after cs

abbrev pub left : Settings → State → List Call → State
left set s [] = s
left set s (c ∷ cs) = left set (step set s c).after cs

abbrev pub by_rules : Worked → Worked
by_rules w =
    let s = left w.set empty w.calls in
    worked w.set w.calls (answered w.set empty w.calls) s.table s.shelf s.post

-- opens every definition that a run computes with
unfoldable pub opening : ℕ
unfolding distance in_arc place owner successor predecessor same before in_range owed moved handed handover join_checks leave_checks insert_checks lookup_checks deliver_checks collect_checks step inserted opened handing_over adding answering
opening = 0
