-- What is promised of a whole run, from an empty ring on. Assumes nothing.
use Rattle.std.specs.Prelude.{◌≡◌, ℕ, List, ◌∷◌, ◌++◌, map, length, Some, fold}
use Rattle.std.specs.List.{slice_get}
use Rattle.copies.specs.declared.Edit.TheVariants.{Empty}
use Rattle.messages.specs.declared.Message.{Message}
use Rattle.rules.specs.declared.Call.{Call}
use Rattle.rules.specs.State.{Settings, empty}
use Rattle.rules.specs.Runs.{after, answer}
use Rattle.rules.specs.Laws.{Laws}
use Rattle.holders.specs.declared.holder.Holder.{Ghosts as Holding}
use Rattle.holders.specs.declared.shelf.Shelf.{Ghosts as Shelving}
use Rattle.holders.specs.declared.post.Post.{Ghosts as Posting}
use Rattle.ring.specs.declared.ring.Ring.{Ring}
use Rattle.ring.specs.Views.{viewed, sizes}
use Rattle.runs.specs.declared.Order.{Order}
use Rattle.runs.specs.Orders.{call_of, answer_of, edits_from}

module _ {S P : Type 0} {shelf : Shelving S} {cells : Holding S} {post : Posting P Message} {slots : Holding P} where
  -- the orders keep their calls; each answer, and the ring at the end, are what the rules give; the shelf's memory was emptied and then had the
  -- run's edits in order; and the run keeps the three laws: replicated, fresh, drains
  pub record Promise (set : Settings) (memory₀ : shelf.Cells) (given answered : List Order) (ring : Ring S P shelf cells post slots) : Type 0 where
    pub calls : map call_of answered ≡ map call_of given
    pub answers : (before later : List Call) (c : Call) → map call_of given ≡ before ++ c ∷ later → slice_get (map answer_of answered) (length before) ≡ Some (answer set before c)
    pub state : viewed ring ≡ after set (map call_of given)
    pub size : sizes ring ≡ set
    pub remembers : shelf.cells ring.shelf.now ≡ fold shelf.after (shelf.after memory₀ Empty) (edits_from set empty (map call_of given))
    pub laws : Laws set (map call_of given)
