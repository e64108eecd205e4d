-- What the shelf's changes make of the memory and of its meaning.
use Rattle.std.proofs.Common.{◌≡◌, ℕ, true, false, cond, not, ◌&&◌, ltb, leb, List, [], ◌∷◌, ◌++◌, length, get_or, is_some, Some, None, Ok, Err, Option, Result, sym, refl, ap, ◌∙◌, subst, ⊎_elim, arith}
use Rattle.std.specs.List.{remove as removed, slice_get, position as first_index}
use Rattle.std.specs.Option.{option_map}
use Rattle.std.proofs.lemmas.Option.{slice_get-get_or}
use Rattle.std.proofs.lemmas.Bool.{cond-true, cond-false, cases_Bool, and_left, lt-ltb, le-ltb}
use Rattle.faults.specs.declared.Fault.{Fault}
use Rattle.faults.specs.declared.Fault.TheVariants.{ShelfFull}
use Rattle.copies.specs.declared.Coordinate.{Coordinate}
use Rattle.copies.specs.declared.Entry.{Entry}
use Rattle.copies.specs.declared.CopyRecord.{CopyRecord}
use Rattle.copies.specs.declared.Edit.TheVariants.{Put, Take}
use Rattle.copies.specs.Copies.{same, copy, find, put, remove, from_records, apart, position}
use Rattle.copies.proofs.Facts.{remove_absent}
use Rattle.copies.proofs.Records.{find_from_records, length_from_records, position_absent, position_within, position_held, from_records_push, from_records_set, from_records_removed, apart_push, apart_set, apart_removed}
use Rattle.holders.specs.Holders.{no_cell}
use Rattle.racks.specs.Blanks.{blank_copy}
use Rattle.racks.specs.Parts.{Parts, size_of, full, added, overwritten, closed_up, ground_of}
use Rattle.racks.proofs.Stays.{stays_added, stays_overwritten, stays_closed_up}
use Rattle.rack_shelves.specs.Cells.{edited}
use Rattle.rack_shelves.proofs.Finding.{placed, unplaced}

-- ---- find

pub find_read : (u : List CopyRecord) (c : Coordinate) (i : ℕ) (d : CopyRecord) → Some i ≡ first_index (λ x. same x.at c) u → Some (get_or u i d).held ≡ find (from_records u) c
find_read u c i d h =
    let s = placed u c i h in
    ap Some (ap (λ n. (get_or u n d).held) s.0 ∙ position_held u c s.1.0 d s.1.1) ∙ (sym s.1.1 ∙ sym (find_from_records u c))

pub find_not_read : (u : List CopyRecord) (c : Coordinate) → None ≡ first_index (λ x. same x.at c) u → None ≡ find (from_records u) c
find_not_read u c h = sym (unplaced u c h) ∙ sym (find_from_records u c)

-- ---- when a put is refused

has_cell : (u : List CopyRecord) (n : ℕ) (c : Coordinate) (v : Entry) → find u c ≡ Some v → no_cell (from_records u) n c ≡ false
has_cell u n c v h =
    and_left (not (is_some (find (from_records u) c))) (leb n (length (from_records u))) (ap (λ o. not (is_some o)) (find_from_records u c ∙ h))

wants_cell : (u : List CopyRecord) (n : ℕ) (c : Coordinate) → apart u ≡ true → find u c ≡ None → no_cell (from_records u) n c ≡ leb n (length u)
wants_cell u n c a h =
    ap (λ o. not (is_some o) && leb n (length (from_records u))) (find_from_records u c ∙ h) ∙ ap (leb n) (length_from_records u a)

-- ---- put, at the position that a search over the copies in use finds

pub record PutDone (p q : Parts CopyRecord) (c : Coordinate) (e : Entry) (r : Result (Unit {0}) Fault) : Type 0 where
  pub value : r ≡ cond (no_cell (from_records p.used) (size_of p) c) (Err (ShelfFull 0)) (Ok tt)
  pub after : from_records q.used ≡ cond (no_cell (from_records p.used) (size_of p) c) (from_records p.used) (put (from_records p.used) c e)
  pub cells : q ≡ cond (no_cell (from_records p.used) (size_of p) c) p (edited p (Put c e))
  pub same : ground_of q ≡ ground_of p
  pub apart : apart q.used ≡ true

-- by the refusal's test: refused, and nothing changes; or accepted
refused_done : (p : Parts CopyRecord) (c : Coordinate) (e : Entry) → apart p.used ≡ true → no_cell (from_records p.used) (size_of p) c ≡ true → PutDone p p c e (Err (ShelfFull 0))
refused_done p c e a t =
    let test = no_cell (from_records p.used) (size_of p) c in
    record {
      value = sym (cond-true test _ _ t);
      after = sym (cond-true test _ _ t);
      cells = sym (cond-true test p (edited p (Put c e)) t);
      same = refl;
      apart = a;
    }

accepted_done : (p q : Parts CopyRecord) (c : Coordinate) (e : Entry) → no_cell (from_records p.used) (size_of p) c ≡ false → from_records q.used ≡ put (from_records p.used) c e → q ≡ edited p (Put c e) → ground_of q ≡ ground_of p → apart q.used ≡ true → PutDone p q c e (Ok tt)
accepted_done p q c e t m d g a =
    let test = no_cell (from_records p.used) (size_of p) c in
    record {
      value = sym (cond-false test _ _ t);
      after = m ∙ sym (cond-false test _ _ t);
      cells = d ∙ sym (cond-false test p (edited p (Put c e)) t);
      same = g;
      apart = a;
    }

pub put_over : {q : Parts CopyRecord} {u : List CopyRecord} {i : ℕ} (p : Parts CopyRecord) (c : Coordinate) (e : Entry) → apart p.used ≡ true → u ≡ p.used → Some i ≡ first_index (λ x. same x.at c) u → q ≡ overwritten p i (copy c e) → PutDone p q c e (Ok tt)
put_over {q} {u} {i} p c e a used h k =
    let s = placed p.used c i (h ∙ ap (first_index (λ x. same x.at c)) used) in
    let v = s.1.0 in
    let n = position p.used c in
    let r = overwritten p n (copy c e) in
    subst (λ t. PutDone p t c e (Ok tt)) (sym (k ∙ ap (λ j. overwritten p j (copy c e)) s.0))
    (accepted_done p r c e (has_cell p.used (size_of p) c v s.1.1) (from_records_set p.used c e v s.1.1) (sym (cond-true (is_some (find p.used c)) r (added p (copy c e)) (ap is_some s.1.1))) (stays_overwritten blank_copy p n (copy c e)).ground (apart_set p.used c e v a s.1.1))

-- a new copy, unless the rack is full
pub put_new : {q : Parts CopyRecord} {u : List CopyRecord} (p : Parts CopyRecord) (c : Coordinate) (e : Entry) (r : Result (Unit {0}) Fault) → apart p.used ≡ true → u ≡ p.used → None ≡ first_index (λ x. same x.at c) u → q ≡ added p (copy c e) → r ≡ cond (full p) (Err (ShelfFull 0)) (Ok tt) → PutDone p q c e r
put_new {q} {u} p c e r a used h k v =
    let n = unplaced p.used c (h ∙ ap (first_index (λ x. same x.at c)) used) in
    let ground = (stays_added blank_copy p (copy c e)).ground in
    ⊎_elim
    (λ f. subst (λ t. PutDone p t c e r) (sym (k ∙ cond-true (full p) p _ f)) (subst (PutDone p p c e) (sym (v ∙ cond-true (full p) _ _ f)) (refused_done p c e a (wants_cell p.used (size_of p) c a n ∙ f))))
    (λ f. let w : q.used ≡ p.used ++ copy c e ∷ [] = ap (λ t. t.used) (k ∙ cond-false (full p) p _ f) in
    subst (PutDone p q c e) (sym (v ∙ cond-false (full p) _ _ f))
    (accepted_done p q c e
    (wants_cell p.used (size_of p) c a n ∙ f)
    (ap from_records w ∙ from_records_push p.used c e n)
    (k ∙ sym (cond-false (is_some (find p.used c)) (overwritten p (position p.used c) (copy c e)) (added p (copy c e)) (ap is_some n)))
    (ap ground_of k ∙ ground)
    (ap apart w ∙ apart_push p.used c e a n)))
    (cases_Bool (full p))

-- ---- take, likewise

pub record TakeDone (p q : Parts CopyRecord) (c : Coordinate) (r : Option Entry) : Type 0 where
  pub value : r ≡ find (from_records p.used) c
  pub after : from_records q.used ≡ remove (from_records p.used) c
  pub cells : q ≡ edited p (Take c)
  pub same : ground_of q ≡ ground_of p
  pub apart : apart q.used ≡ true

pub take_done : {q : Parts CopyRecord} {w : List CopyRecord} {i : ℕ} (p : Parts CopyRecord) (c : Coordinate) → apart p.used ≡ true → w ≡ p.used → Some i ≡ first_index (λ y. same y.at c) w → q ≡ closed_up blank_copy p i → TakeDone p q c (option_map (λ x. x.held) (slice_get p.used i))
take_done {q} {w} {i} p c a used h k =
    let u = p.used in
    let s = placed u c i (h ∙ ap (first_index (λ y. same y.at c)) used) in
    let n = position u c in
    let v = s.1.0 in
    let there = position_within u c v s.1.1 in
    let d = copy c v in
    let e : q ≡ closed_up blank_copy p n = k ∙ ap (closed_up blank_copy p) s.0 in
    let gone : q.used ≡ removed u n = ap (λ t. t.used) (e ∙ cond-true (ltb n (length u)) _ p (lt-ltb n (length u) there)) in
    record {
      value = ap (λ j. option_map (λ x. x.held) (slice_get u j)) s.0 ∙ (ap (option_map (λ x. x.held)) (slice_get-get_or u n d there) ∙ (ap Some (position_held u c v d s.1.1) ∙ (sym s.1.1 ∙ sym (find_from_records u c))));
      after = ap from_records gone ∙ from_records_removed u c v a s.1.1;
      cells = e;
      same = ap ground_of e ∙ (stays_closed_up blank_copy p n).ground;
      apart = ap apart gone ∙ apart_removed u c v a s.1.1;
    }

pub take_none : {w : List CopyRecord} (p : Parts CopyRecord) (c : Coordinate) → apart p.used ≡ true → w ≡ p.used → None ≡ first_index (λ x. same x.at c) w → TakeDone p p c None
take_none {w} p c a used h =
    let u = p.used in
    let none = unplaced u c (h ∙ ap (first_index (λ x. same x.at c)) used) in
    record {
      value = sym none ∙ sym (find_from_records u c);
      after = sym (remove_absent (from_records u) c (find_from_records u c ∙ none));
      cells = sym (cond-false (ltb (position u c) (length u)) _ p (le-ltb (position u c) (length u) (omega (arith, position_absent u c none))));
      same = refl;
      apart = a;
    }
