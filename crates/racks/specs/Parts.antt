-- A rack's memory in three parts, and what each call makes of them. Assumes nothing.
use Rattle.std.specs.Borrow.{GName}
use Rattle.std.specs.Prelude.{◌≡◌, ℕ, ◌+◌, ◌-◌, ◌≤◌, Bool, cond, List, [], ◌∷◌, ◌++◌, length, take, drop, replicate, nat_le, nat_lt, slice_set}
use Rattle.std.specs.List.{remove}

-- the records in use, the places not in use, what lies beyond the rack's size, and where the memory is
pub record Parts (T : Type 0) : Type 0 where
  pub used : List T
  pub spare : List T
  pub beyond : List T
  pub place : GName

abbrev pub cut : {T : Type 0} → GName → List T → ℕ → ℕ → Parts T
cut place memory largest count =
    record { used = take count (take largest memory); spare = drop count (take largest memory); beyond = drop largest memory; place = place }

-- the whole memory
abbrev pub joined_up : {T : Type 0} → Parts T → List T
joined_up p = p.used ++ (p.spare ++ p.beyond)

abbrev pub size_of : {T : Type 0} → Parts T → ℕ
size_of p = length p.used + length p.spare

abbrev pub full : {T : Type 0} → Parts T → Bool
full p = nat_le (size_of p) (length p.used)

-- places not in use hold the blank
abbrev pub Clean : {T : Type 0} → T → Parts T → Type 0
Clean blank p = p.spare ≡ replicate (length p.spare) blank

-- what is true of a rack: how many records are in use, how large it may be, and what places not in use hold
pub record Sound {T : Type 0} (blank : T) (most count : ℕ) (p : Parts T) : Type 0 where
  pub counted : length p.used ≡ count
  pub bounded : size_of p ≤ most
  pub clean : Clean blank p

-- the whole memory, where places not in use hold the blank
abbrev pub blanks_after : {T : Type 0} → T → Parts T → List T
blanks_after blank p = p.used ++ (replicate (size_of p - length p.used) blank ++ p.beyond)

abbrev pub added : {T : Type 0} → Parts T → T → Parts T
added p x =
    cond (full p) p (record { used = p.used ++ x ∷ []; spare = drop 1 p.spare; beyond = p.beyond; place = p.place })

abbrev pub overwritten : {T : Type 0} → Parts T → ℕ → T → Parts T
overwritten p n x = record { used = slice_set p.used n x; spare = p.spare; beyond = p.beyond; place = p.place }

-- the record at n is taken out, and the place that is freed gets the blank
abbrev pub closed_up : {T : Type 0} → T → Parts T → ℕ → Parts T
closed_up blank p n =
    cond (nat_lt n (length p.used)) (record { used = remove p.used n; spare = blank ∷ p.spare; beyond = p.beyond; place = p.place }) p

abbrev pub emptied : {T : Type 0} → T → Parts T → Parts T
emptied blank p =
    record { used = []; spare = replicate (size_of p) blank; beyond = p.beyond; place = p.place }

-- what no call changes: where the memory is, the rack's size, and what lies beyond that
pub record Ground (T : Type 0) : Type 0 where
  pub place : GName
  pub size : ℕ
  pub beyond : List T

abbrev pub ground_of : {T : Type 0} → Parts T → Ground T
ground_of p = record { place = p.place; size = size_of p; beyond = p.beyond }
