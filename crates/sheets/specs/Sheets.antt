-- What is answered to a whole sheet, from its bytes. Assumes nothing.
use Rattle.std.specs.Prelude.{◌≡◌, ℕ, ◌+◌, List, [], ◌∷◌, ◌++◌, take, drop, Ok, Err, codes, Result}
use Rattle.faults.specs.declared.Fault.{Fault}
use Rattle.rules.specs.declared.Call.{Call}
use Rattle.rules.specs.declared.Answer.{Answer}
use Rattle.rules.specs.declared.Answer.TheVariants.{Refused}
use Rattle.rules.specs.State.{Settings, State, empty}
use Rattle.rules.specs.Laws.{Laws}
use Rattle.runs.specs.Orders.{answers_from}
use Rattle.lines.specs.Texts.{lines_of, sheet_limit}
use Rattle.lines.specs.Reading.{left_of}
use Rattle.orders.specs.declared.columns.Columns.{Columns}
use Rattle.orders.specs.Orders.{read_order}
use Rattle.answer_lines.specs.AnswerLines.{answer_line}
use Rattle.sheets.specs.declared.order_lines.OrderLines.{OrderLines}
use Rattle.sheets.specs.Heads.{Head, Opens, Refuses, head_in}

-- the lines of a sheet, as far as it is read
abbrev pub lines_read : List ℕ → List (List ℕ)
lines_read sheet = lines_of (take sheet_limit sheet)

-- ---- orders

abbrev pub call_then : Result Call Fault → List Call → List Call
call_then (Err fault) later = []
call_then (Ok call) later = call ∷ later

-- the calls that lines ask for, up to the first line that is no order
abbrev pub calls_in : Columns → List (List ℕ) → List Call
calls_in cols [] = []
calls_in cols (l ∷ ls) = call_then (read_order cols l) (calls_in cols ls)

abbrev pub end_then : ℕ → Result Call Fault → List ℕ → List ℕ
end_then n (Err fault) later = answer_line n (Refused fault)
end_then n (Ok call) later = later

-- the answer to that line, which ends the sheet; n is the number of the first line
abbrev pub end_in : Columns → ℕ → List (List ℕ) → List ℕ
end_in cols n [] = []
end_in cols n (l ∷ ls) = end_then n (read_order cols l) (end_in cols (n + 1) ls)

-- answers, each on a line, the first with number n
abbrev pub answer_lines : ℕ → List Answer → List ℕ
answer_lines n [] = []
answer_lines n (a ∷ as') = answer_line n a ++ answer_lines (n + 1) as'

-- what is answered to lines of orders by a ring in state s
abbrev pub orders_text : Settings → State → Columns → ℕ → List (List ℕ) → List ℕ
orders_text set s cols n ls = answer_lines n (answers_from set s (calls_in cols ls)) ++ end_in cols n ls

-- what a ring in state s still has to answer
abbrev pub text_left : Settings → State → OrderLines → List ℕ
text_left set s orders = orders_text set s orders.columns (orders.lines.number + 1) (left_of orders.lines)

-- ---- whole sheets

abbrev pub sized : ℕ → ℕ → ℕ → ℕ → Settings
sized cells slots size copies = record { size = size; copies = copies; cells = cells; slots = slots }

-- the lines after the first three
abbrev pub order_lines : List ℕ → List (List ℕ)
order_lines sheet = drop 3 (lines_read sheet)

abbrev pub text_after : ℕ → ℕ → List (List ℕ) → Head → List ℕ
text_after cells slots ls (Opens size copies cols) = orders_text (sized cells slots size copies) empty cols 4 ls
text_after cells slots ls (Refuses line fault) = answer_line line (Refused fault)

-- the names of the answer's columns, and LF
abbrev pub answer_names : List ℕ
answer_names = codes "line,result,figure,value\n"

-- the answers to a sheet, on a ring over a shelf of so many cells and a post of so many slots
unfoldable pub sheet_text : ℕ → ℕ → List ℕ → List ℕ
sheet_text cells slots sheet = answer_names ++ text_after cells slots (order_lines sheet) (head_in (lines_read sheet))

-- a sheet was answered: with this text, and the run of its calls keeps the three laws
pub record Answered (cells slots : ℕ) (sheet text : List ℕ) : Type 0 where
  pub text_is : text ≡ sheet_text cells slots sheet
  pub laws : (size copies : ℕ) (cols : Columns) → head_in (lines_read sheet) ≡ Opens size copies cols → Laws (sized cells slots size copies) (calls_in cols (order_lines sheet))
