-- Records of one width, one after another in some bytes. Assumes nothing.
use Rattle.std.specs.Prelude.{◌≡◌, ℕ, zero, suc, ◌-◌, ◌*◌, ◌/◌, min, List, [], ◌∷◌, ◌++◌, length, drop}
use Rattle.std.specs.List.{flat_map}
use Rattle.std.proofs.Common.{ap, refl}
use Rattle.rows.specs.Bytes.{zeros}

-- the bytes of a record, and the record that some bytes begin with
pub record Form (T : Type 0) (width : ℕ) : Type 0 where
  pub bytes : T → List ℕ
  pub first : List ℕ → T
  pub wide : (t : T) → length (bytes t) ≡ width
  pub back : (t : T) (rest : List ℕ) → first (bytes t ++ rest) ≡ t

-- how many whole records there are places for, at most `most`
abbrev pub size_in : ℕ → ℕ → List ℕ → ℕ
size_in width most bs = min (length bs / width) most

-- what lies beyond the last of them
abbrev pub beyond_in : ℕ → ℕ → List ℕ → List ℕ
beyond_in width most bs = drop (width * size_in width most bs) bs

-- the first n records
abbrev pub rows_in : {T : Type 0} {width : ℕ} → Form T width → ℕ → List ℕ → List T
rows_in form zero bs = []
rows_in {T} {width} form (suc n) bs = form.first bs ∷ rows_in form n (drop width bs)

-- as many as are asked for
pub length_rows : {T : Type 0} {w : ℕ} (form : Form T w) (n : ℕ) (bs : List ℕ) → length (rows_in form n bs) ≡ n
length_rows form zero bs = refl
length_rows {T} {w} form (suc n) bs = ap suc (length_rows form n (drop w bs))

-- records, places with zeros, and what lies beyond
abbrev pub laid : {T : Type 0} {width : ℕ} → Form T width → List T → ℕ → List ℕ → List ℕ
laid {T} {width} form items spare rest = flat_map form.bytes items ++ (zeros (width * spare) ++ rest)

-- the first `count` records are in use, and places not in use hold zeros
abbrev pub Whole : {T : Type 0} {width : ℕ} → Form T width → ℕ → List ℕ → ℕ → Type 0
Whole {T} {width} form most bs count =
    bs ≡ laid form (rows_in form count bs) (size_in width most bs - count) (beyond_in width most bs)
