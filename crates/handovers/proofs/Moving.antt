-- What moving copies to another peer makes of a shelf: one copy, and some copies after others. Assumes nothing.
use Rattle.std.proofs.Common.{◌≡◌, ℕ, ◌+◌, ◌<◌, ◌≤◌, true, false, not, leb, List, [], ◌∷◌, ◌++◌, length, is_some, Some, fold, sym, refl, ap, ◌∙◌, append_assoc, arith}
use Rattle.std.proofs.lemmas.Bool.{and_right, lt-leb}
use Rattle.std.proofs.lemmas.List.Sums.{fold-append}
use Rattle.copies.specs.declared.Coordinate.{Coordinate}
use Rattle.copies.specs.declared.CopyRecord.{CopyRecord}
use Rattle.copies.specs.declared.Edit.TheVariants.{Put, Take}
use Rattle.copies.specs.Copies.{find, put, remove}
use Rattle.copies.proofs.Facts.{length_remove_present}
use Rattle.holders.specs.declared.holder.Holder.{Ghosts as Holding}
use Rattle.holders.specs.declared.shelf.Shelf.{Ghosts as Shelving}
use Rattle.holders.specs.Holders.{no_cell}
use Rattle.rules.specs.Handover.{spot, newer, moved}
use Rattle.rules.specs.Edits.{move_edits, moves_edits}
use Rattle.handovers.specs.Moves.{Moves}

abbrev pub goal : ℕ → CopyRecord → Coordinate
goal x one = spot x one.at.replica one.at.place

-- after a copy was taken there is a cell for it
pub cell_again : (sh after : List CopyRecord) (one : CopyRecord) (c : Coordinate) (size size' : ℕ) → find sh one.at ≡ Some one.held → after ≡ remove sh one.at → length sh ≤ size → size' ≡ size → no_cell after size' c ≡ false
cell_again sh after one c size size' there took within same_size =
    let gone = length_remove_present sh one.at one.held there in
    let fewer : length after + 1 ≡ length sh = ap (λ l. length l + 1) took ∙ gone in
    let less : length after < size' = omega arith in
    and_right (not (is_some (find after c))) (leb size' (length after)) (lt-leb size' (length after) less)

moves_append : (x : ℕ) (sh cs ds : List CopyRecord) → moves_edits x sh (cs ++ ds) ≡ moves_edits x sh cs ++ moves_edits x (fold (moved x) sh cs) ds
moves_append x sh [] ds = refl
moves_append x sh (c ∷ cs) ds =
    ap (λ l. move_edits x sh c ++ l) (moves_append x (moved x sh c) cs ds) ∙ sym (append_assoc (move_edits x sh c) (moves_edits x (moved x sh c) cs) (moves_edits x (fold (moved x) (moved x sh c) cs) ds))

module _ {S : Type 0} (shelf : Shelving S) (holder : Holding S) (x : ℕ) (s : S) where
  -- no copy
  pub moves_none : Moves shelf holder x [] s s
  moves_none = record { means = refl; remembers = refl; framed = refl }

  -- one copy was taken: the filler's is newer and stays, or the copy is put
  pub moves_taken : (one : CopyRecord) (t : S) → newer (find (shelf.meaning s) (goal x one)) one.held.stamp ≡ true → shelf.meaning t ≡ remove (shelf.meaning s) one.at → shelf.cells t ≡ shelf.after (shelf.cells s) (Take one.at) → holder.frame t ≡ holder.frame s → Moves shelf holder x (one ∷ []) s t
  unfolding moved
  moves_taken one t is m c f = record { means = rw is m; remembers = rw is c; framed = f }

  pub moves_put : (one : CopyRecord) (t : S) → newer (find (shelf.meaning s) (goal x one)) one.held.stamp ≡ false → shelf.meaning t ≡ put (remove (shelf.meaning s) one.at) (goal x one) one.held → shelf.cells t ≡ shelf.after (shelf.after (shelf.cells s) (Take one.at)) (Put (goal x one) one.held) → holder.frame t ≡ holder.frame s → Moves shelf holder x (one ∷ []) s t
  unfolding moved
  moves_put one t is m c f = record { means = rw is m; remembers = rw is c; framed = f }

  -- some copies, and then others
  pub moves_then : (cs ds : List CopyRecord) (t u : S) → Moves shelf holder x cs s t → Moves shelf holder x ds t u → Moves shelf holder x (cs ++ ds) s u
  moves_then cs ds t u p q = record {
    means = rw (fold-append (moved x) (shelf.meaning s) cs ds) (rw (p.means) at q.means);
    remembers = rw (moves_append x (shelf.meaning s) cs ds, fold-append shelf.after (shelf.cells s)) (rw (p.means, p.remembers) at q.remembers);
    framed = q.framed ∙ p.framed;
  }
