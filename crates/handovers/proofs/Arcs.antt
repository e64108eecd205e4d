-- An arc is one range of places, or two where it passes 0. Assumes nothing.
use Rattle.std.proofs.Common.{◌≡◌, ℕ, ◌+◌, ◌-◌, ◌<◌, ◌≤◌, Bool, true, false, cond, ◌&&◌, ◌⊎◌, inl, inr, eqb, ltb, leb, List, [], ◌∷◌, ◌++◌, length, fold, refl, ap, ◌∙◌, arith, length-append}
use Rattle.std.specs.List.{AllByRecursion}
use Rattle.std.proofs.ByRecursion.{All-weaker, kept_by_passes}
use Rattle.std.proofs.lemmas.Bool.{eq-eqb, ne_eqb, lt-ltb, le-ltb, and_right, and_parts, lt-leb, leb-true, both_ways}
use Rattle.std.proofs.lemmas.Bool.Decides.{nat_tests}
use Rattle.std.proofs.lemmas.List.{nil_from_length}
use Rattle.copies.specs.declared.CopyRecord.{CopyRecord}
use Rattle.copies.specs.Copies.{in_range}
use Rattle.holders.specs.declared.holder.Holder.{Ghosts as Holding}
use Rattle.holders.specs.declared.shelf.Shelf.{Ghosts as Shelving}
use Rattle.holders.specs.Shelves.{Edited}
use Rattle.rules.specs.Handover.{moved, owed, handed, handover}
use Rattle.rules.specs.Edits.{handover_edits}
use Rattle.handovers.specs.Moves.{Moves}
use Rattle.handovers.proofs.Moving.{moves_then}
use Rattle.handovers.proofs.Ranges.{left, in_range_by_place, in_range_other, kept_by_remove, kept_by_moved}

-- ---- which copies are handed over

handed_empty : (n x g a e : ℕ) → handed n x g a e [] ≡ []
unfolding handed owed
handed_empty n x g a e = at (eqb x g) (ltb a e) (ltb e a)
  where
    at : (t u v : Bool) → ◌≡◌ {A = List CopyRecord} (cond t [] (cond u [] (cond v [] []))) []
    at true u v = refl
    at false true v = refl
    at false false true = refl
    at false false false = refl

module _ (n x g a e : ℕ) (sh : List CopyRecord) where
  pub handed_none : (length sh ≡ 0) ⊎ (((length sh ≡ 0 → ⊥) × (x ≡ g)) ⊎ ((length sh ≡ 0 → ⊥) × (x ≡ g → ⊥) × (a ≡ e))) → handed n x g a e sh ≡ []
  unfolding handed owed
  handed_none (inl empty) = ap (handed n x g a e) (nil_from_length sh empty) ∙ handed_empty n x g a e
  handed_none (inr (inl (some, is))) = simp (eq-eqb x g is)
  handed_none (inr (inr (some, other, is))) =
      let ahead : e ≤ a = omega (arith, is) in
      let behind : a ≤ e = omega (arith, is) in
      simp (ne_eqb x g other, le-ltb a e ahead, le-ltb e a behind)

  pub handed_forward : (x ≡ g → ⊥) → a < e → handed n x g a e sh ≡ left g (a + 1) e sh
  unfolding handed owed
  handed_forward other less = simp (ne_eqb x g other, lt-ltb a e less)

  pub handed_round : (x ≡ g → ⊥) → e < a → handed n x g a e sh ≡ left g (a + 1) (n - 1) sh ++ left g 0 e sh
  unfolding handed owed
  handed_round other less =
      let not-forward : e ≤ a = omega arith in
      simp (ne_eqb x g other, le-ltb a e not-forward, lt-ltb e a less)

module _ {S : Type 0} (shelf : Shelving S) (holder : Holding S) (n x g a e : ℕ) (s t : S) where
  pub handed_by : (cs : List CopyRecord) → handed n x g a e (shelf.meaning s) ≡ cs → Moves shelf holder x cs s t → Edited shelf holder (handover n x g a e (shelf.meaning s)) (handover_edits n x g a e (shelf.meaning s)) s t
  unfolding handover handover_edits
  handed_by cs is m = rw is m

-- ---- the two ranges do not meet

out_of_none : (g a high : ℕ) (x : CopyRecord) → high ≤ a → in_range g (a + 1) high x ≡ false
unfolding in_range
out_of_none g a high x h = and_right (eqb x.at.peer g) (leb (a + 1) x.at.place && leb x.at.place high) (grind (arith, nat_tests))

-- a range that ends before it begins has nothing
pub left_none : (g a high : ℕ) (sh : List CopyRecord) → high ≤ a → left g (a + 1) high sh ≡ []
left_none g a high [] h = refl
left_none g a high (x ∷ xs) h = rw (out_of_none g a high x h) (left_none g a high xs h)

apart : (g low high e : ℕ) (x : CopyRecord) → e < low → in_range g low high x ≡ true → in_range g 0 e x ≡ false
unfolding in_range
apart g low high e x less in' =
    let parts = and_parts (eqb x.at.peer g) (leb low x.at.place && leb x.at.place high) in' in
    let first = leb-true low x.at.place (and_parts (leb low x.at.place) (leb x.at.place high) parts.1).0 in
    let past : e < x.at.place = omega arith in
    and_right (eqb x.at.peer g) (leb 0 x.at.place && leb x.at.place e) (and_right (leb 0 x.at.place) (leb x.at.place e) (lt-leb x.at.place e past))

-- moving copies that are out of a range to another peer leaves what is in it
left_moved : (x g e : ℕ) (other : x ≡ g → ⊥) (sh cs : List CopyRecord) → AllByRecursion (λ c. in_range g 0 e c ≡ false) cs → left g 0 e (fold (moved x) sh cs) ≡ left g 0 e sh
left_moved x g e other sh [] out = refl
left_moved x g e other sh (c ∷ cs) out =
    left_moved x g e other (moved x sh c) cs out.1
    ∙ (kept_by_moved (in_range g 0 e) (in_range_by_place g 0 e) x sh c (in_range_other g 0 e x c.at.replica c.at.place c.held other)
    ∙ kept_by_remove (in_range g 0 e) (in_range_by_place g 0 e) sh c.at c.held out.0)

left_after : (x g low high e : ℕ) (sh : List CopyRecord) → (x ≡ g → ⊥) → e < low → left g 0 e (fold (moved x) sh (left g low high sh)) ≡ left g 0 e sh
left_after x g low high e sh other less =
    left_moved x g e other sh (left g low high sh)
    (All-weaker (λ c. in_range g low high c ≡ true) (λ c. in_range g 0 e c ≡ false) (λ c in'. apart g low high e c less in') (left g low high sh) (kept_by_passes (in_range g low high) sh))

-- together they have no more than the shelf
left_both : (g low high e : ℕ) (sh : List CopyRecord) → e < low → length (left g low high sh) + length (left g 0 e sh) ≤ length sh
left_both g low high e [] less = omega arith
left_both g low high e (x ∷ xs) less = at (in_range g low high x) (in_range g 0 e x) refl refl (left_both g low high e xs less)
  where
    at : (t u : Bool) → in_range g low high x ≡ t → in_range g 0 e x ≡ u → length (left g low high xs) + length (left g 0 e xs) ≤ length xs → length (cond t (x ∷ left g low high xs) (left g low high xs)) + length (cond u (x ∷ left g 0 e xs) (left g 0 e xs)) ≤ length (x ∷ xs)
    at true true p q h = absurd (both_ways (in_range g 0 e x) (apart g low high e x less p) q)
    at true false p q h = omega arith
    at false true p q h = omega arith
    at false false p q h = omega arith

-- ---- one range after the other: first the places after the arc's start, then those up to its end

module _ {S : Type 0} (shelf : Shelving S) (holder : Holding S) (x g a e high : ℕ) (s t : S) (other : x ≡ g → ⊥) (less : e < a) (up : Moves shelf holder x (left g (a + 1) high (shelf.meaning s)) s t) where
  pub round_left : left g 0 e (shelf.meaning t) ≡ left g 0 e (shelf.meaning s)
  round_left = ap (left g 0 e) up.means ∙ left_after x g (a + 1) high e (shelf.meaning s) other (omega arith)

  pub round_few : length (left g (a + 1) high (shelf.meaning s)) + length (left g 0 e (shelf.meaning t)) ≤ length (shelf.meaning s)
  round_few = rw round_left (left_both g (a + 1) high e (shelf.meaning s) (omega arith))

  pub round_moves : (u : S) → Moves shelf holder x (left g 0 e (shelf.meaning t)) t u → Moves shelf holder x (left g (a + 1) high (shelf.meaning s) ++ left g 0 e (shelf.meaning s)) s u
  round_moves u on = moves_then shelf holder x s (left g (a + 1) high (shelf.meaning s)) (left g 0 e (shelf.meaning s)) t u up (rw round_left at on)

  pub round_length : length (left g (a + 1) high (shelf.meaning s)) + length (left g 0 e (shelf.meaning t)) ≡ length (left g (a + 1) high (shelf.meaning s) ++ left g 0 e (shelf.meaning s))
  round_length = rw (round_left, length-append)
