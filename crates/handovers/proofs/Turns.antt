-- The loop that moves a range: those that were moved, and those that are left, are those of the start. Assumes nothing.
use Rattle.std.proofs.Common.{◌≡◌, ℕ, ◌+◌, ◌<◌, ◌≤◌, List, [], ◌∷◌, ◌++◌, length, Some, None, sym, refl, ap, ◌∙◌, append_assoc, arith, length-append}
use Rattle.std.proofs.lemmas.List.{append-nil}
use Rattle.std.proofs.lemmas.List.Sums.{length-filter, count_by-le-length}
use Rattle.copies.specs.declared.CopyRecord.{CopyRecord}
use Rattle.copies.specs.Copies.{in_range, next}
use Rattle.holders.specs.declared.holder.Holder.{Ghosts as Holding}
use Rattle.holders.specs.declared.shelf.Shelf.{Ghosts as Shelving}
use Rattle.handovers.specs.Moves.{Moves}
use Rattle.handovers.proofs.Ranges.{left, moved_left, next_none_left}
use Rattle.handovers.proofs.Moving.{moves_none, moves_then}

pub record Sofar {S : Type 0} (shelf : Shelving S) (holder : Holding S) (x g low high : ℕ) (s₀ s : S) (count : ℕ) : Type 0 where
  pub gone : List CopyRecord
  pub split : left g low high (shelf.meaning s₀) ≡ gone ++ left g low high (shelf.meaning s)
  pub counts : count ≡ length gone
  pub moves : Moves shelf holder x gone s₀ s

pub sofar_none : {S : Type 0} (shelf : Shelving S) (holder : Holding S) (x g low high : ℕ) (s : S) → Sofar shelf holder x g low high s s 0
sofar_none shelf holder x g low high s = record { gone = []; split = refl; counts = refl; moves = moves_none shelf holder x s }

left_few : (g low high : ℕ) (sh : List CopyRecord) → length (left g low high sh) ≤ length sh
left_few g low high sh = rw length-filter (count_by-le-length (in_range g low high) sh)

module _ {S : Type 0} {shelf : Shelving S} {holder : Holding S} {x g low high : ℕ} {s₀ s : S} {count : ℕ} (h : Sofar shelf holder x g low high s₀ s count) where
  pub all_gone : None ≡ next (shelf.meaning s) g low high → h.gone ≡ left g low high (shelf.meaning s₀)
  all_gone is = sym (rw (next_none_left g low high (shelf.meaning s) (sym is), append-nil) at h.split)

  -- the next copy moves, and the others are left
  module _ (other : x ≡ g → ⊥) {one : CopyRecord} (is : Some one ≡ next (shelf.meaning s) g low high) (t : S) (m : Moves shelf holder x (one ∷ []) s t) where
    pub one_less : left g low high (shelf.meaning s) ≡ one ∷ left g low high (shelf.meaning t)
    one_less = moved_left g low high x (shelf.meaning s) one other (sym is) ∙ ap (λ l. one ∷ left g low high l) (sym m.means)

    pub few_gone : count < length (shelf.meaning s₀)
    few_gone =
        let turn = ap length one_less in
        let split = ap length h.split ∙ length-append h.gone (left g low high (shelf.meaning s)) in
        let few = left_few g low high (shelf.meaning s₀) in
        let counts = h.counts in
        omega arith

    pub sofar_more : Sofar shelf holder x g low high s₀ t (count + 1)
    sofar_more = record {
      gone = h.gone ++ one ∷ [];
      split = h.split ∙ (ap (λ l. h.gone ++ l) one_less ∙ sym (append_assoc h.gone (one ∷ []) (left g low high (shelf.meaning t))));
      counts = rw length-append (ap (λ n. n + 1) h.counts);
      moves = moves_then shelf holder x s₀ h.gone (one ∷ []) s t h.moves m;
    }
