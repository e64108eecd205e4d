-- What may be said of every shelf's meaning. Assumes nothing.
use Rattle.std.specs.Prelude.{◌≡◌, ℕ, ◌+◌, true, false, List, [], ◌∷◌, ◌++◌, length, Some, None, slice_set}
use Rattle.std.specs.List.{remove as removed}
use Rattle.copies.specs.declared.Coordinate.{Coordinate}
use Rattle.copies.specs.declared.Entry.{Entry}
use Rattle.copies.specs.declared.CopyRecord.{CopyRecord}
use Rattle.copies.specs.Copies.{same, before, copy, Ordered, find, put, remove, in_range, next, from_records, apart, position, first_in_range}

-- find after put and after remove, at the coordinate and elsewhere; order; counting; find tells all
pub record FindFacts : Type 0 where
  pub find_put : (xs : List CopyRecord) (c : Coordinate) (e : Entry) → find (put xs c e) c ≡ Some e
  pub find_put_other : (xs : List CopyRecord) (c : Coordinate) (e : Entry) (d : Coordinate) → same c d ≡ false → find (put xs c e) d ≡ find xs d
  pub find_remove : (xs : List CopyRecord) (c : Coordinate) → Ordered xs → find (remove xs c) c ≡ None
  pub find_remove_other : (xs : List CopyRecord) (c d : Coordinate) → same c d ≡ false → find (remove xs c) d ≡ find xs d
  pub ordered_put : (xs : List CopyRecord) (c : Coordinate) (e : Entry) → Ordered xs → Ordered (put xs c e)
  pub ordered_remove : (xs : List CopyRecord) (c : Coordinate) → Ordered xs → Ordered (remove xs c)
  pub length_put_absent : (xs : List CopyRecord) (c : Coordinate) (e : Entry) → find xs c ≡ None → length (put xs c e) ≡ length xs + 1
  pub length_put_present : (xs : List CopyRecord) (c : Coordinate) (e v : Entry) → Ordered xs → find xs c ≡ Some v → length (put xs c e) ≡ length xs
  pub length_remove_absent : (xs : List CopyRecord) (c : Coordinate) → find xs c ≡ None → length (remove xs c) ≡ length xs
  pub length_remove_present : (xs : List CopyRecord) (c : Coordinate) (v : Entry) → find xs c ≡ Some v → length (remove xs c) + 1 ≡ length xs
  pub equal_from_same : (c d : Coordinate) → same c d ≡ true → c ≡ d
  pub equal_from_find : (xs ys : List CopyRecord) → Ordered xs → Ordered ys → ((c : Coordinate) → find xs c ≡ find ys c) → xs ≡ ys

-- next is a copy in range, and no copy in range comes before it; none says that no copy is in range
pub record NextFacts : Type 0 where
  pub next_in_range : (xs : List CopyRecord) (p low high : ℕ) (y : CopyRecord) → next xs p low high ≡ Some y → in_range p low high y ≡ true
  pub next_found : (xs : List CopyRecord) (p low high : ℕ) (y : CopyRecord) → Ordered xs → next xs p low high ≡ Some y → find xs y.at ≡ Some y.held
  pub next_first : (xs : List CopyRecord) (p low high : ℕ) (y : CopyRecord) (d : Coordinate) (e : Entry) → Ordered xs → next xs p low high ≡ Some y → find xs d ≡ Some e → in_range p low high (copy d e) ≡ true → before d y.at ≡ false
  pub next_none : (xs : List CopyRecord) (p low high : ℕ) (d : Coordinate) (e : Entry) → next xs p low high ≡ None → find xs d ≡ Some e → in_range p low high (copy d e) ≡ false

-- a shelf may keep its copies in any order: what its meaning then is, and what becomes of it
pub record RecordsFacts : Type 0 where
  pub ordered_from_records : (rs : List CopyRecord) → Ordered (from_records rs)
  pub find_from_records : (rs : List CopyRecord) (c : Coordinate) → find (from_records rs) c ≡ find rs c
  pub length_from_records : (rs : List CopyRecord) → apart rs ≡ true → length (from_records rs) ≡ length rs
  pub next_from_records : (rs : List CopyRecord) (p low high : ℕ) → apart rs ≡ true → next (from_records rs) p low high ≡ first_in_range rs p low high
  pub from_records_push : (rs : List CopyRecord) (c : Coordinate) (e : Entry) → find rs c ≡ None → from_records (rs ++ copy c e ∷ []) ≡ put (from_records rs) c e
  pub from_records_set : (rs : List CopyRecord) (c : Coordinate) (e v : Entry) → find rs c ≡ Some v → from_records (slice_set rs (position rs c) (copy c e)) ≡ put (from_records rs) c e
  pub from_records_removed : (rs : List CopyRecord) (c : Coordinate) (v : Entry) → apart rs ≡ true → find rs c ≡ Some v → from_records (removed rs (position rs c)) ≡ remove (from_records rs) c
