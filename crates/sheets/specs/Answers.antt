-- Opening a sheet and answering its orders one by one. Assumes nothing.
use Rattle.std.specs.Prelude.{◌≡◌, ℕ, ◌+◌, ◌<◌, ◌≤◌, List, [], ◌∷◌, length, Some, None, Ok, Err, Option, Result}
use Rattle.faults.specs.declared.Fault.{Fault}
use Rattle.faults.specs.declared.Fault.TheVariants.{AnswerMemory}
use Rattle.messages.specs.declared.Message.{Message}
use Rattle.rules.specs.declared.Call.{Call}
use Rattle.rules.specs.declared.Answer.{Answer}
use Rattle.rules.specs.declared.Answer.TheVariants.{Refused}
use Rattle.holders.specs.declared.holder.Holder.{Ghosts as Holding}
use Rattle.holders.specs.declared.shelf.Shelf.{Ghosts as Shelving}
use Rattle.holders.specs.declared.post.Post.{Ghosts as Posting}
use Rattle.ring.specs.declared.ring.Ring.{Ring}
use Rattle.ring.specs.Views.{Performs}
use Rattle.lines.specs.Reading.{left_of, bytes_left}
use Rattle.orders.specs.Orders.{read_order}
use Rattle.answer_lines.specs.AnswerLines.{answer_line, fronted, least_memory}
use Rattle.sheets.specs.declared.order_lines.OrderLines.{OrderLines}
use Rattle.sheets.specs.declared.heads.Opening.{Opening}
use Rattle.sheets.specs.declared.heads.Opening.TheVariants.{Ready, Closed}
use Rattle.sheets.specs.Heads.{Head, Opens, Refuses, head_in}
use Rattle.sheets.specs.Sheets.{lines_read, order_lines}

-- ---- opening

-- memory that has taken an answer line, and the length that is told of it
pub record Written (line : ℕ) (answer : Answer) (memory memory' : List ℕ) (n : ℕ) : Type 0 where
  pub length_is : n ≡ length (answer_line line answer)
  pub after : memory' ≡ fronted memory (answer_line line answer)

-- by what the first three lines come to: the settings, with the order lines still to read; or an answer line
abbrev pub OpenedAs : List (List ℕ) → List ℕ → List ℕ → Head → Result Opening Fault → Type 0
OpenedAs ls memory memory' (Opens size copies cols) (Ok (Ready settings orders)) =
    (settings.size ≡ size) × (settings.copies ≡ copies) × (orders.columns ≡ cols) × (left_of orders.lines ≡ ls) × (orders.lines.number ≡ 3) × (memory' ≡ memory)
OpenedAs ls memory memory' (Opens size copies cols) (Ok (Closed n)) = ⊥
OpenedAs ls memory memory' (Opens size copies cols) (Err fault) = ⊥
OpenedAs ls memory memory' (Refuses line fault) (Ok (Ready settings orders)) = ⊥
OpenedAs ls memory memory' (Refuses line fault) (Ok (Closed n)) = Written line (Refused fault) memory memory' n
OpenedAs ls memory memory' (Refuses line fault) (Err e) = ⊥

pub record OpensSheet (sheet memory memory' : List ℕ) (r : Result Opening Fault) : Type 0 where
  pub refused : length memory < least_memory → (r ≡ Err AnswerMemory) × (memory' ≡ memory)
  pub opened : least_memory ≤ length memory → OpenedAs (order_lines sheet) memory memory' (head_in (lines_read sheet)) r

-- ---- one order

module _ {S P : Type 0} {shelf : Shelving S} {cells : Holding S} {post : Posting P Message} {slots : Holding P} where
  -- a line was read: as a call that the ring has performed, or as one that ends the sheet
  abbrev pub Takes : OrderLines → Ring S P shelf cells post slots → List ℕ → Result Call Fault → List (List ℕ) → OrderLines → Ring S P shelf cells post slots → List ℕ → ℕ → Type 0
  Takes orders ring memory (Ok call) later orders' ring' memory' n =
      (answer : Answer) × Performs call ring answer ring' × Written (orders.lines.number + 1) answer memory memory' n × (left_of orders'.lines ≡ later) × (orders'.lines.number ≡ orders.lines.number + 1)
  Takes orders ring memory (Err fault) later orders' ring' memory' n =
      (ring' ≡ ring) × Written (orders.lines.number + 1) (Refused fault) memory memory' n × (left_of orders'.lines ≡ [])

  -- the next line is answered, or there is none and nothing changes
  abbrev pub AnswersNext : OrderLines → Ring S P shelf cells post slots → List ℕ → List (List ℕ) → Option ℕ → OrderLines → Ring S P shelf cells post slots → List ℕ → Type 0
  AnswersNext orders ring memory [] None orders' ring' memory' = (left_of orders'.lines ≡ []) × (ring' ≡ ring) × (memory' ≡ memory)
  AnswersNext orders ring memory [] (Some n) orders' ring' memory' = ⊥
  AnswersNext orders ring memory (l ∷ ls) None orders' ring' memory' = ⊥
  AnswersNext orders ring memory (l ∷ ls) (Some n) orders' ring' memory' =
      Takes orders ring memory (read_order orders.columns l) ls orders' ring' memory' n × (bytes_left orders'.lines < bytes_left orders.lines)

  -- too little memory refuses, and then nothing changes
  abbrev pub AnswersOne : OrderLines → Ring S P shelf cells post slots → List ℕ → Result (Option ℕ) Fault → OrderLines → Ring S P shelf cells post slots → List ℕ → Type 0
  AnswersOne orders ring memory (Err fault) orders' ring' memory' =
      (length memory < least_memory) × (fault ≡ AnswerMemory) × (orders' ≡ orders) × (ring' ≡ ring) × (memory' ≡ memory)
  AnswersOne orders ring memory (Ok answered) orders' ring' memory' =
      (least_memory ≤ length memory) × (orders'.columns ≡ orders.columns) × AnswersNext orders ring memory (left_of orders.lines) answered orders' ring' memory'
