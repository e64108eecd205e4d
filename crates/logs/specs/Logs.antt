-- A log of records: the last record of a coordinate decides. Assumes nothing.
use Rattle.std.specs.Prelude.{ℕ, Bool, cond, not, ◌&&◌, List, [], ◌∷◌, map, Some, None, Option, ◌==◌}
use Rattle.std.specs.List.{list_any}
use Rattle.copies.specs.declared.Coordinate.{Coordinate}
use Rattle.copies.specs.declared.Entry.{Entry}
use Rattle.copies.specs.declared.CopyRecord.{CopyRecord}
use Rattle.copies.specs.Copies.{same, copy, from_records}
use Rattle.logs.specs.declared.lines.Line.{Line}

-- a record of this kind stands for what its coordinate maps to: 1 is kept, 2 is gone
abbrev pub live_kind : ℕ → Bool
live_kind kind = kind == 1

abbrev pub kept : Coordinate → Entry → Line
kept c e = record { kind = 1; at = c; held = e }

abbrev pub gone : Coordinate → Line
gone c = record { kind = 2; at = c; held = record { stamp = 0; value = 0 } }

-- one of the records is of c
abbrev pub named : List Line → Coordinate → Bool
named xs c = list_any (λ x. same x.at c) xs

-- a record is live when its kind is, and no later record is of its coordinate
unfoldable pub lasts : Line → List Line → Bool
lasts x later = live_kind x.kind && not (named later x.at)

-- the live records, in order
abbrev pub lasting : List Line → List Line
lasting [] = []
lasting (x ∷ xs) = cond (lasts x xs) (x ∷ lasting xs) (lasting xs)

-- those of other coordinates than c
abbrev pub others : Coordinate → List Line → List Line
others c [] = []
others c (x ∷ xs) = cond (same x.at c) (others c xs) (x ∷ others c xs)

-- what is left when the live records of other coordinates move together
abbrev pub squeezed : Coordinate → List Line → List Line
squeezed c xs = others c (lasting xs)

abbrev pub copy_of : Line → CopyRecord
copy_of x = copy x.at x.held

abbrev pub copies_of : List Line → List CopyRecord
copies_of xs = map copy_of (lasting xs)

-- what a log means
abbrev pub meaning_of : List Line → List CopyRecord
meaning_of xs = from_records (copies_of xs)

-- what a record says of its own coordinate
abbrev pub said_by : Line → Option Entry
said_by x = cond (live_kind x.kind) (Some x.held) None
