-- Which column of a sheet has which name. Assumes nothing.
use Rattle.std.specs.Prelude.{ℕ, ◌-◌, Bool, cond, List, length, Some, None, Err, codes, Option, Result, ◌==◌}
use Rattle.std.specs.List.{find, range_with_len}
use Rattle.std.specs.Option.{ok_or}
use Rattle.std.specs.Str.{bytes_eq}
use Rattle.faults.specs.declared.Fault.{Fault}
use Rattle.faults.specs.declared.Fault.TheVariants.{WrongFields}
use Rattle.lines.specs.Texts.{fields_of, field_at}
use Rattle.orders.specs.declared.columns.Columns.{Columns}

-- the bytes in a column, counted from 1
abbrev pub text_in : List ℕ → ℕ → List ℕ
text_in line c = field_at line (c - 1)

-- the line has another number of fields, or other names, than it should
abbrev pub wrong : List ℕ → Fault
wrong line = WrongFields (length (fields_of line))

abbrev pub six_columns : ℕ
six_columns = 6

abbrev pub has_name : List ℕ → List ℕ → ℕ → Bool
has_name line name c = bytes_eq (text_in line c) name

-- the first column that passes a test
unfoldable pub first_column : (ℕ → Bool) → Option ℕ
first_column test = find test (range_with_len 1 six_columns)

-- the column with a name
abbrev pub column_of : List ℕ → List ℕ → Option ℕ
column_of line name = first_column (has_name line name)

abbrev pub columns : ℕ → ℕ → ℕ → ℕ → ℕ → ℕ → Columns
columns order peer item replica value number =
    record { order = order; peer = peer; item = item; replica = replica; value = value; number = number }

abbrev pub given : {X Y : Type 0} → Option X → (X → Option Y) → Option Y
given None f = None
given (Some x) f = f x

-- all six, if each is there
abbrev pub all_six : Option ℕ → Option ℕ → Option ℕ → Option ℕ → Option ℕ → Option ℕ → Option Columns
all_six order peer item replica value number =
    given order (λ o. given peer (λ p. given item (λ i. given replica (λ r. given value (λ v. given number (λ n. Some (columns o p i r v n)))))))

abbrev pub named_columns : List ℕ → Option Columns
named_columns line =
    all_six (column_of line (codes "order")) (column_of line (codes "peer")) (column_of line (codes "item")) (column_of line (codes "replica")) (column_of line (codes "value")) (column_of line (codes "number"))

-- the line has six fields, and they are the six names
abbrev pub columns_of : List ℕ → Result Columns Fault
columns_of line = cond (length (fields_of line) == six_columns) (ok_or (named_columns line) (wrong line)) (Err (wrong line))
