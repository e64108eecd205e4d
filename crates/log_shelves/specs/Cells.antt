-- A log shelf's records, and what one edit makes of them. Assumes nothing.
use Rattle.std.specs.Prelude.{ℕ, cond, List, [], ◌∷◌, ◌++◌, length, is_some, nat_lt}
use Rattle.copies.specs.declared.Coordinate.{Coordinate}
use Rattle.copies.specs.declared.Entry.{Entry}
use Rattle.copies.specs.declared.Edit.{Edit}
use Rattle.copies.specs.declared.Edit.TheVariants.{Put, Take, Empty}
use Rattle.copies.specs.Copies.{find}
use Rattle.logs.specs.declared.lines.Line.{Line}
use Rattle.logs.specs.Logs.{kept, gone, squeezed, copies_of}
use Rattle.rows.specs.Trays.{Held, holding, added}
use Rattle.log_shelves.specs.Trays.{places_in, records_in}

-- how many records there is memory for, and those in use
pub record Cells : Type 0 where
  pub size : ℕ
  pub records : List Line

abbrev pub cells : ℕ → List Line → Cells
cells size records = record { size = size; records = records }

abbrev pub cells_of : Held Line → Cells
cells_of h = cells (places_in h) (records_in h)

-- with no free record the live records of other coordinates than c move together
abbrev pub roomy : ℕ → Coordinate → List Line → List Line
roomy size c xs = cond (nat_lt (length xs) size) xs (squeezed c xs)

-- they move first, and then the record is added, where there is a free one
abbrev pub keeping : Held Line → Coordinate → Entry → Held Line
keeping h c e = added (holding h (roomy (places_in h) c (records_in h))) (kept c e)

abbrev pub after_put : ℕ → Coordinate → Entry → List Line → List Line
after_put size c e xs = cond (nat_lt (length (roomy size c xs)) size) (roomy size c xs ++ kept c e ∷ []) xs

-- a gone record is written only where there is a free one
abbrev pub without : ℕ → Coordinate → List Line → List Line
without size c xs = cond (nat_lt (length xs) size) (xs ++ gone c ∷ []) (squeezed c xs)

abbrev pub after_take : ℕ → Coordinate → List Line → List Line
after_take size c xs = cond (is_some (find (copies_of xs) c)) (without size c xs) xs

abbrev pub edited : Cells → Edit → Cells
edited k (Put c e) = cells k.size (after_put k.size c e k.records)
edited k (Take c) = cells k.size (after_take k.size c k.records)
edited k Empty = cells k.size []
