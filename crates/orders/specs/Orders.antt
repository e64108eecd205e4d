-- What a line orders. Assumes nothing.
use Rattle.std.specs.Prelude.{ℕ, Bool, cond, not, ◌||◌, List, length, is_some, Some, None, Ok, Err, codes, Option, Result, ◌==◌}
use Rattle.std.specs.Option.{unwrap_or}
use Rattle.std.specs.Str.{bytes_eq}
use Rattle.faults.specs.declared.Fault.{Fault}
use Rattle.faults.specs.declared.Fault.TheVariants.{Unreadable}
use Rattle.rules.specs.declared.Call.{Call}
use Rattle.rules.specs.declared.Call.TheVariants.{Join as JoinCall, Leave as LeaveCall, Insert as InsertCall, Lookup as LookupCall, Deliver as DeliverCall, Collect as CollectCall}
use Rattle.lines.specs.Texts.{fields_of}
use Rattle.lines.specs.Tokens.{is_dash, is_readable, number_of}
use Rattle.orders.specs.declared.columns.Columns.{Columns}
use Rattle.orders.specs.declared.orders.Verb.{Verb}
use Rattle.orders.specs.declared.orders.Verb.TheVariants.{Join, Leave, Insert, Lookup, Deliver, Collect}
use Rattle.orders.specs.Columns.{text_in, first_column, wrong, six_columns}

-- the order that a word gives
abbrev pub verb_of : List ℕ → Option Verb
verb_of t =
    cond (bytes_eq t (codes "join")) (Some Join) (cond (bytes_eq t (codes "leave")) (Some Leave) (cond (bytes_eq t (codes "insert")) (Some Insert) (cond (bytes_eq t (codes "lookup")) (Some Lookup) (cond (bytes_eq t (codes "deliver")) (Some Deliver) (cond (bytes_eq t (codes "collect")) (Some Collect) None)))))

-- an order has its numbers in these columns, and dashes in the others
abbrev pub uses : Columns → Verb → ℕ → Bool
uses cols Join c = c == cols.peer
uses cols Leave c = c == cols.peer
uses cols Insert c = c == cols.item || c == cols.value
uses cols Lookup c = c == cols.item || c == cols.replica
uses cols Deliver c = c == cols.number
uses cols Collect c = c == cols.number

-- a field beside the order word can be read; where the word is unknown, as a number or a dash
abbrev pub fits : Columns → Option Verb → ℕ → List ℕ → Bool
fits cols None c t = is_dash t || is_readable t
fits cols (Some verb) c t = cond (uses cols verb c) (is_readable t) (is_dash t)

-- the field in a column cannot be read
abbrev pub unreadable : Columns → Option Verb → List ℕ → ℕ → Bool
unreadable cols verb line c = not (cond (c == cols.order) (is_some verb) (fits cols verb c (text_in line c)))

abbrev pub number_in : List ℕ → ℕ → ℕ
number_in line c = unwrap_or (number_of (text_in line c)) 0

abbrev pub call_of : Columns → List ℕ → Verb → Call
call_of cols line Join = JoinCall (number_in line cols.peer)
call_of cols line Leave = LeaveCall (number_in line cols.peer)
call_of cols line Insert = InsertCall (number_in line cols.item) (number_in line cols.value)
call_of cols line Lookup = LookupCall (number_in line cols.item) (number_in line cols.replica)
call_of cols line Deliver = DeliverCall (number_in line cols.number)
call_of cols line Collect = CollectCall (number_in line cols.number)

-- the call, or the first column that cannot be read; the word itself where no other is to blame
abbrev pub ordered : Columns → List ℕ → Option Verb → Option ℕ → Result Call Fault
ordered cols line verb (Some c) = Err (Unreadable c)
ordered cols line None None = Err (Unreadable cols.order)
ordered cols line (Some verb) None = Ok (call_of cols line verb)

abbrev pub first_unreadable : Columns → Option Verb → List ℕ → Option ℕ
first_unreadable cols verb line = first_column (unreadable cols verb line)

abbrev pub order_of : Columns → List ℕ → Option Verb → Result Call Fault
order_of cols line verb = ordered cols line verb (first_unreadable cols verb line)

-- a line as an order: the call that it asks for, or why it is refused
abbrev pub read_order : Columns → List ℕ → Result Call Fault
read_order cols line = cond (length (fields_of line) == six_columns) (order_of cols line (verb_of (text_in line cols.order))) (Err (wrong line))
