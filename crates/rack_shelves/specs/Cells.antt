-- What one edit makes of a rack shelf's memory. Assumes nothing.
use Rattle.std.specs.Prelude.{cond, is_some}
use Rattle.copies.specs.declared.CopyRecord.{CopyRecord}
use Rattle.copies.specs.declared.Edit.{Edit}
use Rattle.copies.specs.declared.Edit.TheVariants.{Put, Take, Empty}
use Rattle.copies.specs.Copies.{copy, find, position}
use Rattle.racks.specs.Blanks.{blank_copy}
use Rattle.racks.specs.Parts.{Parts, added, overwritten, closed_up, emptied}

-- a put over a present coordinate overwrites it where it is, and any other adds at the end
abbrev pub edited : Parts CopyRecord → Edit → Parts CopyRecord
edited p (Put c e) =
    cond (is_some (find p.used c)) (overwritten p (position p.used c) (copy c e)) (added p (copy c e))
edited p (Take c) = closed_up blank_copy p (position p.used c)
edited p Empty = emptied blank_copy p
