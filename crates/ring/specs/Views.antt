-- What a ring is to the rules: its sizes and its state, by what its shelf and its post mean. Assumes nothing.
use Rattle.std.specs.Prelude.{◌≡◌, ℕ, List, Some, None, Ok, Err, fold, Option, Result}
use Rattle.std.specs.List.{slice_get}
use Rattle.faults.specs.declared.Fault.{Fault}
use Rattle.faults.specs.Checks.{first_fault}
use Rattle.rules.specs.Refusals.{deliver_checks}
use Rattle.copies.specs.declared.Edit.{Edit}
use Rattle.messages.specs.declared.Message.{Message}
use Rattle.arithmetic.specs.declared.settings.Settings.{Settings as Code}
use Rattle.rules.specs.declared.Call.{Call}
use Rattle.rules.specs.declared.Answer.{Answer}
use Rattle.circle.specs.Owners.{predecessor, successor}
use Rattle.rules.specs.State.{Settings, State, members}
use Rattle.rules.specs.Rules.{Did, step, joined, gone}
use Rattle.rules.specs.Edits.{call_edits}
use Rattle.tables.specs.Tables.{peers_of, questions_of}
use Rattle.holders.specs.declared.holder.Holder.{Ghosts as Holding}
use Rattle.holders.specs.declared.shelf.Shelf.{Ghosts as Shelving}
use Rattle.holders.specs.declared.post.Post.{Ghosts as Posting}
use Rattle.ring.specs.declared.ring.Ring.{Ring}

-- settings with the sizes of a shelf and a post
abbrev pub settled : Code → ℕ → ℕ → Settings
settled s cells slots = record { size = s.size; copies = s.copies; cells = cells; slots = slots }

-- settings with no shelf and no post, for what needs none
abbrev pub sized : Code → Settings
sized s = record { size = s.size; copies = s.copies; cells = 0; slots = 0 }

-- Of a ring over any shelf and any post, whose members are known by the ring's type.
module _ {S P : Type 0} {shelf : Shelving S} {cells : Holding S} {post : Posting P Message} {slots : Holding P} where
  -- its state: its table, its counters and its questions, and what its shelf and its post mean
  abbrev pub viewed : Ring S P shelf cells post slots → State
  viewed r = record {
    table = peers_of r.table;
    shelf = shelf.meaning r.shelf.now;
    post = post.waiting r.post.now;
    stamp = r.stamp;
    number = r.number;
    questions = questions_of r.questions;
  }

  -- its settings, with the sizes of its shelf and its post
  abbrev pub sizes : Ring S P shelf cells post slots → Settings
  sizes r = settled r.settings (cells.room r.shelf.now) (slots.room r.post.now)

  -- the ring after something was done to it: its state is `target`, the shelf's memory has had these edits in order, and nothing else
  -- of what the ring was lent has changed
  pub record Leads (target : State) (edits : List Edit) (before after : Ring S P shelf cells post slots) : Type 0 where
    pub became : viewed after ≡ target
    pub remembers : shelf.cells after.shelf.now ≡ fold shelf.after (shelf.cells before.shelf.now) edits
    pub same_sizes : sizes after ≡ sizes before
    pub framed : cells.frame after.shelf.now ≡ cells.frame before.shelf.now
    pub backed : slots.frame after.post.now ≡ slots.frame before.post.now
    pub shelf_lent : after.shelf.ghost_name ≡ before.shelf.ghost_name
    pub post_lent : after.post.ghost_name ≡ before.post.ghost_name

  -- a call: its answer and the ring after it are the rules', and so are its edits of the shelf
  pub record Performs (call : Call) (before : Ring S P shelf cells post slots) (answer : Answer) (after : Ring S P shelf cells post slots) : Type 0 where
    pub answered : answer ≡ (step (sizes before) (viewed before) call).answer
    pub leads : Leads (step (sizes before) (viewed before) call).after (call_edits (sizes before) (viewed before) call) before after

  -- something that is done with an answer, as the rules say it
  pub record Acts (rule : Did) (edits : List Edit) (before : Ring S P shelf cells post slots) (answer : Answer) (after : Ring S P shelf cells post slots) : Type 0 where
    pub answered : answer ≡ rule.answer
    pub leads : Leads rule.after edits before after

-- two that are both there
abbrev pub both : Option ℕ → Option ℕ → Option (ℕ × ℕ)
both None c = None
both (Some a) None = None
both (Some a) (Some c) = Some (a, c)

-- the state after an accepted join, and after an accepted leave
abbrev pub joined_to : Settings → State → ℕ → State
joined_to set s p = joined p s (predecessor set.size (members s.table) p) (successor set.size (members s.table) p)

abbrev pub gone_from : Settings → State → ℕ → State
gone_from set s p = gone p s (predecessor set.size (members s.table) p) (successor set.size (members s.table) p)

-- the message that waits at position n, or why its delivery is refused
abbrev pub MessageAt : Settings → State → ℕ → Result Message Fault → Type 0
MessageAt set s n (Ok m) = (first_fault (deliver_checks set s n) ≡ None) × (slice_get s.post n ≡ Some m)
MessageAt set s n (Err e) = first_fault (deliver_checks set s n) ≡ Some e
