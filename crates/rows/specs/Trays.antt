-- What a tray holds: the ground, and the records in order. Assumes nothing.
use Rattle.std.specs.Borrow.{GName}
use Rattle.std.specs.Prelude.{ℕ, ◌-◌, Bool, List, [], ◌∷◌, ◌++◌, length, cond, nat_le}
use Rattle.rows.specs.Ground.{Ground, ground}
use Rattle.rows.specs.Rows.{Form, size_in, beyond_in, rows_in, laid}
use Rattle.rows.specs.declared.tray.Tray.{Tray}

pub record Held (R : Type 0) : Type 0 where
  pub ground : Ground
  pub items : List R

-- in memory of this name, when the first `count` records are in use
abbrev pub held_by : {R : Type 0} {width : ℕ} → Form R width → ℕ → GName → List ℕ → ℕ → Held R
held_by {R} {width} form most place bs count =
    record { ground = ground place (size_in width most bs) (beyond_in width most bs); items = rows_in form count bs }

abbrev pub held_in : {R L : Type 0} {width most : ℕ} {b : _} {c : _} → Form R width → Tray L width most b c → Held R
held_in {R} {L} {width} {most} form tray = held_by form most tray.bytes.ghost_name tray.bytes.now tray.count

-- nothing yet, in memory of this name that begins as these bytes
abbrev pub blank : {R : Type 0} → ℕ → ℕ → GName → List ℕ → Held R
blank width most place bs =
    record { ground = ground place (size_in width most bs) (beyond_in width most bs); items = [] }

-- other records in the same places
abbrev pub holding : {R : Type 0} → Held R → List R → Held R
holding h items = record { ground = h.ground; items = items }

abbrev pub is_full : {R : Type 0} → Held R → Bool
is_full h = nat_le h.ground.size (length h.items)

-- one record more, where there is a place for it
abbrev pub added : {R : Type 0} → Held R → R → Held R
added h r = cond (is_full h) h (holding h (h.items ++ r ∷ []))

-- the memory: the records in order, zeros up to the last place, and what lies beyond
abbrev pub memory_of : {R : Type 0} {width : ℕ} → Form R width → Held R → List ℕ
memory_of form h = laid form h.items (h.ground.size - length h.items) h.ground.beyond
