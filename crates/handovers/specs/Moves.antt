-- Copies that go to another peer. Assumes nothing.
use Rattle.std.specs.Prelude.{ℕ, List, fold}
use Rattle.copies.specs.declared.CopyRecord.{CopyRecord}
use Rattle.holders.specs.declared.holder.Holder.{Ghosts as Holding}
use Rattle.holders.specs.declared.shelf.Shelf.{Ghosts as Shelving}
use Rattle.holders.specs.Shelves.{Edited}
use Rattle.rules.specs.Handover.{moved}
use Rattle.rules.specs.Edits.{moves_edits}

-- these copies of a shelf have gone to peer x, one after the other
abbrev pub Moves : {S : Type 0} → Shelving S → Holding S → ℕ → List CopyRecord → S → S → Type 0
Moves shelf holder x copies before after =
    Edited shelf holder (fold (moved x) (shelf.meaning before) copies) (moves_edits x (shelf.meaning before) copies) before after
