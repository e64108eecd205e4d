-- What the first three lines of a sheet make of it. Assumes nothing.
use Rattle.std.specs.Prelude.{◌≡◌, ℕ, ◌+◌, List, [], drop, Some, None, Ok, Err, Option, Result, slice_index_or}
use Rattle.faults.specs.declared.Fault.{Fault}
use Rattle.faults.specs.Checks.{first_fault}
use Rattle.arithmetic.specs.declared.settings.Settings.{Settings}
use Rattle.arithmetic.specs.Settled.{settings_checks}
use Rattle.lines.specs.declared.line.Line.{Line}
use Rattle.lines.specs.declared.lines.Lines.{Lines}
use Rattle.lines.specs.Reading.{line_of, left_of}
use Rattle.orders.specs.declared.columns.Columns.{Columns}
use Rattle.orders.specs.Columns.{columns_of}
use Rattle.orders.specs.Heads.{names_of, numbers_of}
use Rattle.sheets.specs.declared.order_lines.OrderLines.{OrderLines}
use Rattle.sheets.specs.declared.heads.Refusal.{Refusal}

-- the settings of the ring and the columns of the orders; or the line that is refused, and why
pub data Head : Type 0 where
  Opens : (size copies : ℕ) → Columns → Head
  Refuses : (line : ℕ) → Fault → Head

-- ---- line 2

abbrev pub unless_fault : Option Fault → ℕ × ℕ → Result (ℕ × ℕ) Fault
unless_fault (Some fault) numbers = Err fault
unless_fault None numbers = Ok numbers

abbrev pub lawful : Result (ℕ × ℕ) Fault → Result (ℕ × ℕ) Fault
lawful (Err fault) = Err fault
lawful (Ok numbers) = unless_fault (first_fault (settings_checks numbers.0 numbers.1)) numbers

-- the size and the copies of lawful settings
abbrev pub settings_of : List ℕ → Result (ℕ × ℕ) Fault
settings_of line = lawful (numbers_of line)

abbrev pub sizes_of : Result Settings Fault → Result (ℕ × ℕ) Fault
sizes_of (Err fault) = Err fault
sizes_of (Ok settings) = Ok (settings.size, settings.copies)

-- ---- all three

abbrev pub with_columns : ℕ × ℕ → Result Columns Fault → Head
with_columns numbers (Err fault) = Refuses 3 fault
with_columns numbers (Ok cols) = Opens numbers.0 numbers.1 cols

abbrev pub with_settings : Result (ℕ × ℕ) Fault → Result Columns Fault → Head
with_settings (Err fault) third = Refuses 2 fault
with_settings (Ok numbers) third = with_columns numbers third

abbrev pub with_names : Result (Unit {0}) Fault → Result (ℕ × ℕ) Fault → Result Columns Fault → Head
with_names (Err fault) second third = Refuses 1 fault
with_names (Ok names) second third = with_settings second third

-- a line that is missing has no fields
unfoldable pub head_in : List (List ℕ) → Head
head_in ls = with_names (names_of (slice_index_or ls 0 [])) (settings_of (slice_index_or ls 1 [])) (columns_of (slice_index_or ls 2 []))

-- one line was taken off; a line that is missing has no bytes and is not counted
pub record TakesLine (l : Lines) (line : Line) (l' : Lines) : Type 0 where
  pub line_is : line_of line ≡ slice_index_or (left_of l) 0 []
  pub left_is : left_of l' ≡ drop 1 (left_of l)
  pub counted : (line_of line ≡ [] → ⊥) → l'.number ≡ l.number + 1

-- what was read of a line, or that the line is refused
abbrev pub read_at : {X : Type 0} → ℕ → Result X Fault → Result X Refusal
read_at line (Ok x) = Ok x
read_at line (Err fault) = Err (record { line = line; fault = fault })

-- the first three lines were read
abbrev pub ReadsHead : Lines → Result (Settings × OrderLines) Refusal → Type 0
ReadsHead l (Ok (settings, orders)) = (head_in (left_of l) ≡ Opens settings.size settings.copies orders.columns) × (left_of orders.lines ≡ drop 3 (left_of l)) × (orders.lines.number ≡ l.number + 3)
ReadsHead l (Err e) = head_in (left_of l) ≡ Refuses e.line e.fault
