-- The first three lines of a sheet. Assumes nothing.
use Rattle.std.specs.Prelude.{ℕ, Bool, cond, ◌&&◌, List, length, Some, None, Ok, Err, codes, Option, Result, ◌==◌}
use Rattle.std.specs.Str.{bytes_eq}
use Rattle.faults.specs.declared.Fault.{Fault}
use Rattle.faults.specs.declared.Fault.TheVariants.{Unreadable}
use Rattle.lines.specs.Texts.{fields_of}
use Rattle.lines.specs.Tokens.{number_of}
use Rattle.orders.specs.Columns.{text_in, wrong}

-- line 1 has the names of the settings
abbrev pub names_settings : List ℕ → Bool
names_settings line = length (fields_of line) == 2 && (bytes_eq (text_in line 1) (codes "size") && bytes_eq (text_in line 2) (codes "copies"))

abbrev pub names_of : List ℕ → Result (Unit {0}) Fault
names_of line = cond (names_settings line) (Ok tt) (Err (wrong line))

-- line 2 has their numbers
abbrev pub both_read : Option ℕ → Option ℕ → Result (ℕ × ℕ) Fault
both_read None copies = Err (Unreadable 1)
both_read (Some size) None = Err (Unreadable 2)
both_read (Some size) (Some copies) = Ok (size, copies)

abbrev pub numbers_of : List ℕ → Result (ℕ × ℕ) Fault
numbers_of line = cond (length (fields_of line) == 2) (both_read (number_of (text_in line 1)) (number_of (text_in line 2))) (Err (wrong line))
