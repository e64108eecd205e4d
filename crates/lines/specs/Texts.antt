-- Bytes cut into lines and fields. Assumes nothing.
use Rattle.std.specs.Prelude.{ℕ, Bool, cond, List, [], ◌∷◌, ◌==◌, slice_index_or}
use Rattle.std.specs.List.{onto_first, slice_split}

-- how much of a sheet is read
abbrev pub sheet_limit : ℕ
sheet_limit = 16384

-- LF
abbrev pub line_end : ℕ
line_end = 10

abbrev pub comma : ℕ
comma = 44

abbrev pub is_byte : ℕ → ℕ → Bool
is_byte wanted b = b == wanted

abbrev pub is_line_end : ℕ → Bool
is_line_end = is_byte line_end

abbrev pub is_comma : ℕ → Bool
is_comma = is_byte comma

-- the lines of a text: the last may lack its end
abbrev pub lines_of : List ℕ → List (List ℕ)
lines_of [] = []
lines_of (b ∷ bs) = cond (is_line_end b) ([] ∷ lines_of bs) (onto_first b (lines_of bs))

-- the fields of a line, parted by commas: an empty line has none
abbrev pub fields_of : List ℕ → List (List ℕ)
fields_of [] = []
fields_of (b ∷ bs) = slice_split is_comma (b ∷ bs)

-- the field in a column, counted from 0; empty where there is none
abbrev pub field_at : List ℕ → ℕ → List ℕ
field_at line column = slice_index_or (fields_of line) column []
