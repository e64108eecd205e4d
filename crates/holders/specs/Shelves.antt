-- What is done to a shelf. Assumes nothing.
use Rattle.std.specs.Prelude.{◌≡◌, List, fold}
use Rattle.copies.specs.declared.CopyRecord.{CopyRecord}
use Rattle.copies.specs.declared.Edit.{Edit}
use Rattle.holders.specs.declared.holder.Holder.{Ghosts as Holding}
use Rattle.holders.specs.declared.shelf.Shelf.{Ghosts as Shelving}

-- a shelf that was edited: what it has come to mean, its memory has had these edits in order, and its frame is as it was
pub record Edited {S : Type 0} (shelf : Shelving S) (holder : Holding S) (copies : List CopyRecord) (edits : List Edit) (before after : S) : Type 0 where
  pub means : shelf.meaning after ≡ copies
  pub remembers : shelf.cells after ≡ fold shelf.after (shelf.cells before) edits
  pub framed : holder.frame after ≡ holder.frame before
