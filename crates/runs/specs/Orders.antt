-- A list of orders, run on a ring: what its answers are, and what becomes of the ring and of the shelf's memory. Assumes nothing.
use Rattle.std.specs.Prelude.{◌≡◌, ℕ, List, [], ◌∷◌, ◌++◌, map}
use Rattle.copies.specs.declared.Edit.{Edit}
use Rattle.messages.specs.declared.Message.{Message}
use Rattle.rules.specs.declared.Call.{Call}
use Rattle.rules.specs.declared.Answer.{Answer}
use Rattle.rules.specs.State.{Settings, State}
use Rattle.rules.specs.Rules.{step}
use Rattle.rules.specs.Runs.{from}
use Rattle.rules.specs.Edits.{call_edits}
use Rattle.holders.specs.declared.holder.Holder.{Ghosts as Holding}
use Rattle.holders.specs.declared.shelf.Shelf.{Ghosts as Shelving}
use Rattle.holders.specs.declared.post.Post.{Ghosts as Posting}
use Rattle.ring.specs.declared.ring.Ring.{Ring}
use Rattle.ring.specs.Views.{viewed, sizes, Leads}
use Rattle.runs.specs.declared.Order.{Order}

abbrev pub call_of : Order → Call
call_of o = o.call

abbrev pub answer_of : Order → Answer
answer_of o = o.answer

-- the answers to some calls, one after the other
abbrev pub answers_from : Settings → State → List Call → List Answer
answers_from set s [] = []
answers_from set s (c ∷ cs) = (step set s c).answer ∷ answers_from set (step set s c).after cs

-- their edits of the shelf
abbrev pub edits_from : Settings → State → List Call → List Edit
edits_from set s [] = []
edits_from set s (c ∷ cs) = call_edits set s c ++ edits_from set (step set s c).after cs

module _ {S P : Type 0} {shelf : Shelving S} {cells : Holding S} {post : Posting P Message} {slots : Holding P} where
  -- orders run on a ring: the calls stay, each answer and the ring after them all are the rules', and so are the edits of the shelf
  pub record Runs (before : List Order) (ring : Ring S P shelf cells post slots) (after : List Order) (ring' : Ring S P shelf cells post slots) : Type 0 where
    pub calls : map call_of after ≡ map call_of before
    pub answers : map answer_of after ≡ answers_from (sizes ring) (viewed ring) (map call_of before)
    pub leads : Leads (from (sizes ring) (viewed ring) (map call_of before)) (edits_from (sizes ring) (viewed ring) (map call_of before)) ring ring'
