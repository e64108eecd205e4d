-- The edits of the shelf that a call makes, in order. Assumes nothing.
use Rattle.std.specs.Prelude.{ℕ, cond, List, [], ◌∷◌, ◌++◌, Some, None, Option}
use Rattle.copies.specs.declared.CopyRecord.{CopyRecord}
use Rattle.copies.specs.declared.Edit.{Edit}
use Rattle.copies.specs.declared.Edit.TheVariants.{Put, Take}
use Rattle.copies.specs.Copies.{find}
use Rattle.messages.specs.declared.Message.{Message}
use Rattle.messages.specs.declared.Message.TheVariants.{RetrieveItems, Replicate, AddItem, GetItem}
use Rattle.faults.specs.declared.Fault.{Fault}
use Rattle.std.specs.List.{slice_get}
use Rattle.rules.specs.declared.Call.{Call}
use Rattle.rules.specs.declared.Call.TheVariants.{Join, Leave, Insert, Lookup, Deliver, Collect}
use Rattle.rules.specs.State.{Settings, State}
use Rattle.rules.specs.Handover.{spot, entry, newer, moved, handed}
use Rattle.rules.specs.Refusals.{owns, refusal}

-- one copy goes to peer x: it is taken, and put unless x has a newer one there
abbrev pub move_edits : ℕ → List CopyRecord → CopyRecord → List Edit
move_edits x sh c =
    Take c.at ∷ cond (newer (find sh (spot x c.at.replica c.at.place)) c.held.stamp) [] (Put (spot x c.at.replica c.at.place) c.held ∷ [])

abbrev pub moves_edits : ℕ → List CopyRecord → List CopyRecord → List Edit
moves_edits x sh [] = []
moves_edits x sh (c ∷ cs) = move_edits x sh c ++ moves_edits x (moved x sh c) cs

-- the edits of a handover
unfoldable pub handover_edits : ℕ → ℕ → ℕ → ℕ → ℕ → List CopyRecord → List Edit
handover_edits n x g a e sh = moves_edits x sh (handed n x g a e sh)

-- the edits of a delivery
abbrev pub delivery_edits : Settings → State → Option Message → List Edit
delivery_edits set s None = []
delivery_edits set s (Some (RetrieveItems to from start end)) = []
delivery_edits set s (Some (Replicate to from start end)) = handover_edits set.size to from start end s.shelf
delivery_edits set s (Some (AddItem to r i stamp v)) =
    cond (owns set s i to) (cond (newer (find s.shelf (spot to r i)) stamp) [] (Put (spot to r i) (entry stamp v) ∷ [])) []
delivery_edits set s (Some (GetItem to r i q)) = []

-- the edits of a call that is not refused: only a delivery makes any
abbrev pub outcome_edits : Settings → State → Call → List Edit
outcome_edits set s (Join p) = []
outcome_edits set s (Leave p) = []
outcome_edits set s (Insert k v) = []
outcome_edits set s (Lookup k r) = []
outcome_edits set s (Deliver n) = delivery_edits set s (slice_get s.post n)
outcome_edits set s (Collect q) = []

abbrev pub decided_edits : Settings → State → Call → Option Fault → List Edit
decided_edits set s c None = outcome_edits set s c
decided_edits set s c (Some fault) = []

-- the edits of any call: a refused one makes none
unfoldable pub call_edits : Settings → State → Call → List Edit
call_edits set s c = decided_edits set s c (refusal set s c)
