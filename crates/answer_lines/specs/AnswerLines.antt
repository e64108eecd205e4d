-- The line of text that tells a call's answer. Assumes nothing.
use Rattle.std.specs.Prelude.{ℕ, List, [], ◌∷◌, ◌++◌, length, drop, Some, None, codes, decimal, Option}
use Rattle.faults.specs.Faults.{number_of, figure_of as fault_figure}
use Rattle.rules.specs.declared.Answer.{Answer}
use Rattle.rules.specs.declared.Answer.TheVariants.{Done, Inserted, Opened, Asked, Moved, Sent, Kept, Older, Answered, Found, Nothing, NotYet, Withdrawn, Refused}

-- the memory that an answer line asks for
abbrev pub least_memory : ℕ
least_memory = 48

abbrev pub result_of : Answer → List ℕ
result_of Done = codes "ok"
result_of (Inserted stamp) = codes "ok"
result_of (Opened number) = codes "ok"
result_of Asked = codes "asked"
result_of (Moved count) = codes "moved"
result_of Sent = codes "sent"
result_of Kept = codes "kept"
result_of Older = codes "older"
result_of Answered = codes "answered"
result_of (Found stamp value) = codes "found"
result_of Nothing = codes "none"
result_of NotYet = codes "notyet"
result_of Withdrawn = codes "withdrawn"
result_of (Refused fault) = codes "refused"

-- an insert's or a found stamp, a question, how many copies moved, a refusal's number
abbrev pub figure_of : Answer → Option ℕ
figure_of Done = None
figure_of (Inserted stamp) = Some stamp
figure_of (Opened number) = Some number
figure_of Asked = None
figure_of (Moved count) = Some count
figure_of Sent = None
figure_of Kept = None
figure_of Older = None
figure_of Answered = None
figure_of (Found stamp value) = Some stamp
figure_of Nothing = None
figure_of NotYet = None
figure_of Withdrawn = None
figure_of (Refused fault) = Some (number_of fault)

-- what was found, or a refusal's figure
abbrev pub value_of : Answer → Option ℕ
value_of Done = None
value_of (Inserted stamp) = None
value_of (Opened number) = None
value_of Asked = None
value_of (Moved count) = None
value_of Sent = None
value_of Kept = None
value_of Older = None
value_of Answered = None
value_of (Found stamp value) = Some value
value_of Nothing = None
value_of NotYet = None
value_of Withdrawn = None
value_of (Refused fault) = Some (fault_figure fault)

-- a number, or a dash for none
abbrev pub shown : Option ℕ → List ℕ
shown None = 45 ∷ []
shown (Some n) = decimal n

-- line, result, figure and value, parted by commas, and LF
unfoldable pub answer_line : ℕ → Answer → List ℕ
answer_line line a = decimal line ++ (44 ∷ result_of a) ++ (44 ∷ shown (figure_of a)) ++ (44 ∷ shown (value_of a)) ++ 10 ∷ []

-- memory whose front is a text: the rest is as it was
abbrev pub fronted : List ℕ → List ℕ → List ℕ
fronted memory text = text ++ drop (length text) memory
