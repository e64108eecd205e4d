-- What a put and a take make of the records, the meaning and the count.
use Rattle.std.proofs.Common.{◌≡◌, ℕ, ◌+◌, ◌-◌, ◌<◌, ◌≤◌, true, false, cond, not, ◌&&◌, ltb, leb, List, [], ◌∷◌, ◌++◌, length, is_some, Some, None, Ok, Err, Option, Result, sym, refl, ap, ◌∙◌, ⊎_elim, arith}
use Rattle.std.proofs.lemmas.Bool.{cond-true, cond-false, cond_both, lt-ltb, ltb-true, lt-leb, le-leb, leb-false, both_ways}
use Rattle.faults.specs.declared.Fault.{Fault}
use Rattle.faults.specs.declared.Fault.TheVariants.{ShelfFull}
use Rattle.copies.specs.declared.Edit.TheVariants.{Put, Take}
use Rattle.copies.specs.declared.Coordinate.{Coordinate}
use Rattle.copies.specs.declared.Entry.{Entry}
use Rattle.copies.specs.Copies.{find, put, remove}
use Rattle.copies.proofs.Facts.{length_put_absent, length_put_present, length_remove_absent, length_remove_present, remove_absent}
use Rattle.copies.proofs.Records.{ordered_from_records, find_from_records, find_cases}
use Rattle.holders.specs.Holders.{no_cell}
use Rattle.rows.specs.Trays.{Held, holding}
use Rattle.logs.specs.declared.lines.Line.{Line}
use Rattle.logs.specs.Logs.{kept, gone, squeezed, copies_of, meaning_of}
use Rattle.logs.proofs.Meanings.{meaning_kept, meaning_gone, meaning_squeezed, meaning_squeezed_kept, meaning_within, length_squeezed}
use Rattle.log_shelves.specs.Cells.{cells_of, roomy, keeping, after_put, without, edited}

-- a record is free once the others have moved, unless the shelf is full
pub free_for : (xs : List Line) (size : ℕ) (c : Coordinate) → length xs ≤ size → no_cell (meaning_of xs) size c ≡ false → ltb (length (roomy size c xs)) size ≡ true
free_for xs size c le ok =
    let m = meaning_of xs in
    let n = length_squeezed xs c in
    let s = meaning_within xs in
    cond_both (ltb (length xs) size) xs (squeezed c xs) (λ ys. ltb (length ys) size ≡ true)
    (λ free. free)
    (λ full. lt-ltb (length (squeezed c xs)) size (⊎_elim
    (λ none. let less : length m < size = leb-false size (length m) (sym (ap (λ o. not (is_some o) && leb size (length m)) none) ∙ ok) in omega (arith, length_remove_absent m c none))
    (λ some. omega (arith, length_remove_present m c some.0 some.1))
    (find_cases m c)))

pub meaning_put : (xs : List Line) (size : ℕ) (c : Coordinate) (e : Entry) → ltb (length (roomy size c xs)) size ≡ true → meaning_of (after_put size c e xs) ≡ put (meaning_of xs) c e
meaning_put xs size c e free =
    ap meaning_of (cond-true (ltb (length (roomy size c xs)) size) (roomy size c xs ++ kept c e ∷ []) xs free) ∙ cond_both (ltb (length xs) size) xs (squeezed c xs) (λ ys. meaning_of (ys ++ kept c e ∷ []) ≡ put (meaning_of xs) c e) (λ t. meaning_kept xs c e) (λ t. meaning_squeezed_kept xs c e)

pub meaning_without : (xs : List Line) (size : ℕ) (c : Coordinate) → meaning_of (without size c xs) ≡ remove (meaning_of xs) c
meaning_without xs size c =
    cond_both (ltb (length xs) size) (xs ++ gone c ∷ []) (squeezed c xs) (λ ys. meaning_of ys ≡ remove (meaning_of xs) c) (λ t. meaning_gone xs c) (λ t. meaning_squeezed xs c)

some_from : (o : Option Entry) → is_some o ≡ true → (v : Entry) × (o ≡ Some v)
some_from None h = absurd (both_ways false refl h)
some_from (Some v) h = (v, refl)

none_from : (o : Option Entry) → is_some o ≡ false → o ≡ None
none_from None h = refl
none_from (Some v) h = absurd (both_ways true h refl)

-- ---- put

pub record PutAnswer (h g : Held Line) (c : Coordinate) (e : Entry) (n : ℕ) (r : Result (Unit {0}) Fault) : Type 0 where
  pub value : r ≡ cond (no_cell (meaning_of h.items) h.ground.size c) (Err (ShelfFull 0)) (Ok tt)
  pub after : meaning_of g.items ≡ cond (no_cell (meaning_of h.items) h.ground.size c) (meaning_of h.items) (put (meaning_of h.items) c e)
  pub cells : cells_of g ≡ cond (no_cell (meaning_of h.items) h.ground.size c) (cells_of h) (edited (cells_of h) (Put c e))
  pub same : g.ground ≡ h.ground
  pub kept : n ≡ length (meaning_of g.items)

-- what `keep` leaves, where a record is free
kept_free : (h : Held Line) (c : Coordinate) (e : Entry) → ltb (length (roomy h.ground.size c h.items)) h.ground.size ≡ true → keeping h c e ≡ holding h (after_put h.ground.size c e h.items)
kept_free h c e free =
    let xs = roomy h.ground.size c h.items in
    let pushed = xs ++ kept c e ∷ [] in
    cond-false (leb h.ground.size (length xs)) (holding h xs) (holding h pushed) (lt-leb h.ground.size (length xs) (ltb-true (length xs) h.ground.size free)) ∙ ap (holding h) (sym (cond-true (ltb (length xs) h.ground.size) pushed h.items free))

accepted : (h g : Held Line) (c : Coordinate) (e : Entry) (n : ℕ) → length h.items ≤ h.ground.size → no_cell (meaning_of h.items) h.ground.size c ≡ false → n ≡ length (put (meaning_of h.items) c e) → g ≡ keeping h c e → PutAnswer h g c e n (Ok tt)
accepted h g c e n le ok l k =
    let b = no_cell (meaning_of h.items) h.ground.size c in
    let free = free_for h.items h.ground.size c le ok in
    let is = k ∙ kept_free h c e free in
    let after : meaning_of g.items ≡ put (meaning_of h.items) c e = ap (λ t. meaning_of t.items) is ∙ meaning_put h.items h.ground.size c e free in
    record {
      value = sym (cond-false b _ _ ok);
      after = after ∙ sym (cond-false b _ _ ok);
      cells = ap cells_of is ∙ sym (cond-false b (cells_of h) (edited (cells_of h) (Put c e)) ok);
      same = ap (λ t. t.ground) is;
      kept = l ∙ ap length (sym after);
    }

pub put_over : (h g : Held Line) (c : Coordinate) (e : Entry) (n : ℕ) → length h.items ≤ h.ground.size → n ≡ length (meaning_of h.items) → is_some (find (meaning_of h.items) c) ≡ true → g ≡ keeping h c e → PutAnswer h g c e n (Ok tt)
put_over h g c e n le l there k =
    let m = meaning_of h.items in
    let s = some_from (find m c) there in
    accepted h g c e n le (ap (λ b. not b && leb h.ground.size (length m)) there) (l ∙ sym (length_put_present m c e s.0 (ordered_from_records (copies_of h.items)) s.1)) k

pub put_new : (h g : Held Line) (c : Coordinate) (e : Entry) (n : ℕ) → length h.items ≤ h.ground.size → n ≡ length (meaning_of h.items) → is_some (find (meaning_of h.items) c) ≡ false → n < h.ground.size → g ≡ keeping h c e → PutAnswer h g c e (n + 1) (Ok tt)
put_new h g c e n le l absent less k =
    let m = meaning_of h.items in
    accepted h g c e (n + 1) le (ap (λ b. not b && leb h.ground.size (length m)) absent ∙ lt-leb h.ground.size (length m) (omega arith)) (omega (arith, length_put_absent m c e (none_from (find m c) absent))) k

pub put_refused : (h : Held Line) (c : Coordinate) (e : Entry) (n : ℕ) → n ≡ length (meaning_of h.items) → is_some (find (meaning_of h.items) c) ≡ false → h.ground.size ≤ n → PutAnswer h h c e n (Err (ShelfFull 0))
put_refused h c e n l absent full =
    let m = meaning_of h.items in
    let b = no_cell m h.ground.size c in
    let no : b ≡ true = ap (λ x. not x && leb h.ground.size (length m)) absent ∙ le-leb h.ground.size (length m) (omega arith) in
    record {
      value = sym (cond-true b _ _ no);
      after = sym (cond-true b _ _ no);
      cells = sym (cond-true b (cells_of h) (edited (cells_of h) (Put c e)) no);
      same = refl;
      kept = l;
    }

-- ---- take

pub record TakeAnswer (h g : Held Line) (c : Coordinate) (n : ℕ) : Type 0 where
  pub after : meaning_of g.items ≡ remove (meaning_of h.items) c
  pub cells : cells_of g ≡ edited (cells_of h) (Take c)
  pub same : g.ground ≡ h.ground
  pub kept : n ≡ length (meaning_of g.items)

-- what is there is counted
pub some_counted : (xs : List Line) (c : Coordinate) (v : Entry) (n : ℕ) → n ≡ length (meaning_of xs) → find (meaning_of xs) c ≡ Some v → 1 ≤ n
some_counted xs c v n l some = omega (arith, length_remove_present (meaning_of xs) c v some)

pub take_some : (h g : Held Line) (c : Coordinate) (v : Entry) (n : ℕ) → n ≡ length (meaning_of h.items) → find (meaning_of h.items) c ≡ Some v → g ≡ holding h (without h.ground.size c h.items) → TakeAnswer h g c (n - 1)
take_some h g c v n l some is =
    let xs = h.items in
    let named : is_some (find (copies_of xs) c) ≡ true = ap is_some (sym (find_from_records (copies_of xs) c) ∙ some) in
    let after : meaning_of g.items ≡ remove (meaning_of xs) c = ap (λ t. meaning_of t.items) is ∙ meaning_without xs h.ground.size c in
    record {
      after = after;
      cells = ap cells_of is ∙ ap (λ ys. cells_of (holding h ys)) (sym (cond-true (is_some (find (copies_of xs) c)) (without h.ground.size c xs) xs named));
      same = ap (λ t. t.ground) is;
      kept = omega (arith, length_remove_present (meaning_of xs) c v some, ap length after);
    }

pub take_nothing : (h : Held Line) (c : Coordinate) (n : ℕ) → n ≡ length (meaning_of h.items) → find (meaning_of h.items) c ≡ None → TakeAnswer h h c n
take_nothing h c n l none =
    let xs = h.items in
    let unnamed : is_some (find (copies_of xs) c) ≡ false = ap is_some (sym (find_from_records (copies_of xs) c) ∙ none) in
    record {
      after = sym (remove_absent (meaning_of xs) c none);
      cells = ap (λ ys. cells_of (holding h ys)) (sym (cond-false (is_some (find (copies_of xs) c)) (without h.ground.size c xs) xs unnamed));
      same = refl;
      kept = l;
    }
