-- What moving one copy leaves of the copies in a range. Assumes nothing.
use Rattle.std.proofs.Common.{◌≡◌, ℕ, Bool, true, false, cond, ◌&&◌, eqb, leb, List, [], ◌∷◌, Some, None, filter, sym, refl, ap, ◌∙◌}
use Rattle.std.proofs.lemmas.Option.{same_Some}
use Rattle.std.proofs.lemmas.Bool.{ne_eqb, and_left, both_ways}
use Rattle.copies.specs.declared.Coordinate.{Coordinate}
use Rattle.copies.specs.declared.Entry.{Entry}
use Rattle.copies.specs.declared.CopyRecord.{CopyRecord}
use Rattle.copies.specs.Copies.{same, before, copy, find, put, remove, in_range, next}
use Rattle.copies.proofs.Facts.{some_none, next_in_range}
use Rattle.copies.proofs.Coordinates.{equal_from_same, same_itself}
use Rattle.rules.specs.Handover.{spot, newer, moved}

-- ---- a test that reads only the coordinate

abbrev pub ByPlace : (CopyRecord → Bool) → Type 0
ByPlace p = (x y : CopyRecord) → x.at ≡ y.at → p x ≡ p y

pub in_range_by_place : (g low high : ℕ) → ByPlace (in_range g low high)
unfolding in_range
in_range_by_place g low high x y e = ap (λ (c : Coordinate). eqb c.peer g && (leb low c.place && leb c.place high)) e

-- copies of another peer are in no range of g
pub in_range_other : (g low high x r i : ℕ) (e : Entry) → (x ≡ g → ⊥) → in_range g low high (copy (spot x r i) e) ≡ false
unfolding in_range
in_range_other g low high x r i e other = and_left (eqb x g) (leb low i && leb i high) (ne_eqb x g other)

module _ (p : CopyRecord → Bool) (by_place : ByPlace p) where
  kept_head : (x : CopyRecord) (xs : List CopyRecord) → p x ≡ false → filter p (x ∷ xs) ≡ filter p xs
  kept_head x xs out = rw out

  kept_both : (x : CopyRecord) (xs ys : List CopyRecord) → filter p xs ≡ filter p ys → filter p (x ∷ xs) ≡ filter p (x ∷ ys)
  kept_both x xs ys e = rw e

  -- a record at a coordinate that fails the test fails it
  out_there : (x : CopyRecord) (c : Coordinate) (e : Entry) → p (copy c e) ≡ false → same x.at c ≡ true → p x ≡ false
  out_there x c e out is = by_place x (copy c e) (equal_from_same x.at c is) ∙ out

  -- what fails the test may come and go
  pub kept_by_remove : (sh : List CopyRecord) (c : Coordinate) (e : Entry) → p (copy c e) ≡ false → filter p (remove sh c) ≡ filter p sh
  kept_by_remove [] c e out = refl
  kept_by_remove (x ∷ xs) c e out = at (same x.at c) refl (kept_by_remove xs c e out)
    where
      at : (t : Bool) → same x.at c ≡ t → filter p (remove xs c) ≡ filter p xs → filter p (cond t xs (x ∷ remove xs c)) ≡ filter p (x ∷ xs)
      at true is rest = sym (kept_head x xs (out_there x c e out is))
      at false is rest = kept_both x (remove xs c) xs rest

  pub kept_by_put : (sh : List CopyRecord) (c : Coordinate) (e : Entry) → p (copy c e) ≡ false → filter p (put sh c e) ≡ filter p sh
  kept_by_put [] c e out = kept_head (copy c e) [] out
  kept_by_put (x ∷ xs) c e out = at (before x.at c) (same x.at c) refl (kept_by_put xs c e out)
    where
      at : (t u : Bool) → same x.at c ≡ u → filter p (put xs c e) ≡ filter p xs → filter p (cond t (x ∷ put xs c e) (cond u (copy c e ∷ xs) (copy c e ∷ (x ∷ xs)))) ≡ filter p (x ∷ xs)
      at true u is rest = kept_both x (put xs c e) xs rest
      at false true is rest = kept_head (copy c e) xs out ∙ sym (kept_head x xs (out_there x c e out is))
      at false false is rest = kept_head (copy c e) (x ∷ xs) out

  -- so may a copy that is moved to where the test fails
  pub kept_by_moved : (x : ℕ) (sh : List CopyRecord) (c : CopyRecord) → p (copy (spot x c.at.replica c.at.place) c.held) ≡ false → filter p (moved x sh c) ≡ filter p (remove sh c.at)
  unfolding moved
  kept_by_moved x sh c out = at (newer (find sh (spot x c.at.replica c.at.place)) c.held.stamp)
    where
      at : (t : Bool) → filter p (cond t (remove sh c.at) (put (remove sh c.at) (spot x c.at.replica c.at.place) c.held)) ≡ filter p (remove sh c.at)
      at true = refl
      at false = kept_by_put (remove sh c.at) (spot x c.at.replica c.at.place) c.held out

-- ---- the copies of g with low ≤ place ≤ high

module _ (g low high : ℕ) where
  abbrev pub left : List CopyRecord → List CopyRecord
  left sh = filter (in_range g low high) sh

  next_first : (x : CopyRecord) (xs : List CopyRecord) (c : CopyRecord) → x ≡ c → x ∷ left xs ≡ c ∷ left (remove (x ∷ xs) c.at)
  next_first x xs c is =
      (λ j. is j ∷ left xs) ∙ ap (λ (t : Bool). c ∷ left (cond t xs (x ∷ remove xs c.at))) (sym (ap (λ (y : CopyRecord). same y.at c.at) is ∙ same_itself c.at))

  next_later : (x : CopyRecord) (xs : List CopyRecord) (c : CopyRecord) → in_range g low high x ≡ false → in_range g low high c ≡ true → (t : Bool) → same x.at c.at ≡ t → left xs ≡ c ∷ left (remove xs c.at) → left xs ≡ c ∷ left (cond t xs (x ∷ remove xs c.at))
  next_later x xs c out in' true is rest =
      absurd (both_ways (in_range g low high x) out (in_range_by_place g low high x c (equal_from_same x.at c.at is) ∙ in'))
  next_later x xs c out in' false is rest =
      rest ∙ ap (λ l. c ∷ l) (sym (ap (λ (t : Bool). cond t (x ∷ left (remove xs c.at)) (left (remove xs c.at))) out))

  -- next is the first of them, and without it the others are left
  pub next_left : (sh : List CopyRecord) (c : CopyRecord) → next sh g low high ≡ Some c → left sh ≡ c ∷ left (remove sh c.at)
  next_left [] c e = absurd (some_none (sym e))
  next_left (x ∷ xs) c e = at (in_range g low high x) refl e (λ is. next_left xs c is)
    where
      at : (t : Bool) → in_range g low high x ≡ t → cond t (Some x) (next xs g low high) ≡ Some c → (next xs g low high ≡ Some c → left xs ≡ c ∷ left (remove xs c.at)) → cond t (x ∷ left xs) (left xs) ≡ c ∷ left (remove (x ∷ xs) c.at)
      at true in' is rest = next_first x xs c (same_Some x c is)
      at false out is rest = next_later x xs c out (next_in_range xs g low high c is) (same x.at c.at) refl (rest is)

  pub next_none_left : (sh : List CopyRecord) → next sh g low high ≡ None → left sh ≡ []
  next_none_left [] e = refl
  next_none_left (x ∷ xs) e = at (in_range g low high x) e (λ is. next_none_left xs is)
    where
      at : (t : Bool) → cond t (Some x) (next xs g low high) ≡ None → (next xs g low high ≡ None → left xs ≡ []) → cond t (x ∷ left xs) (left xs) ≡ []
      at true is rest = absurd (some_none is)
      at false is rest = rest is

  -- moving the first of them to another peer leaves the others
  pub moved_left : (x : ℕ) (sh : List CopyRecord) (c : CopyRecord) → (x ≡ g → ⊥) → next sh g low high ≡ Some c → left sh ≡ c ∷ left (moved x sh c)
  moved_left x sh c other e =
      next_left sh c e ∙ ap (λ l. c ∷ l) (sym (kept_by_moved (in_range g low high) (in_range_by_place g low high) x sh c (in_range_other g low high x c.at.replica c.at.place c.held other)))
