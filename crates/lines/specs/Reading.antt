-- Reading a sheet line by line. Assumes nothing.
use Rattle.std.specs.Prelude.{◌≡◌, ℕ, ◌+◌, ◌<◌, List, [], ◌∷◌, length, Some, None, Option}
use Rattle.lines.specs.declared.line.Line.{Line}
use Rattle.lines.specs.declared.lines.Lines.{Lines}
use Rattle.lines.specs.Texts.{lines_of}

-- the bytes of a line
abbrev pub line_of : Line → List ℕ
line_of l = l.text.now

-- the lines that are left
abbrev pub left_of : Lines → List (List ℕ)
left_of l = lines_of l.rest.now

-- how many bytes are left: they grow fewer with every line
abbrev pub bytes_left : Lines → ℕ
bytes_left l = length l.rest.now

-- the next line is read, or there is none
abbrev pub Advances : Lines → Option Line → Lines → Type 0
Advances l (Some line) l' = (left_of l ≡ line_of line ∷ left_of l') × (line.number ≡ l.number + 1) × (l'.number ≡ l.number + 1) × (bytes_left l' < bytes_left l)
Advances l None l' = (left_of l ≡ []) × (l' ≡ l)
