-- What each write leaves of a tray: its invariants, and what it holds.
use base.Fml.{GName}
use Rattle.std.proofs.Common.{◌≡◌, ℕ, zero, suc, ◌+◌, ◌-◌, ◌*◌, ◌<◌, ◌≤◌, List, [], ◌∷◌, ◌++◌, length, Some, None, sym, ap, ◌∙◌, subst, refl, arith}
use Rattle.std.specs.List.{slice_get, remove, between}
use Rattle.std.proofs.lemmas.List.{length_push}
use Rattle.std.proofs.lemmas.List.Edits.{length-remove}
use Rattle.std.proofs.lemmas.Option.{none-some, slice_get_within}
use Rattle.slices.specs.Writes.{written, filled, closed_up}
use Rattle.rows.specs.Rows.{Form, size_in, beyond_in, rows_in, Whole, length_rows}
use Rattle.rows.specs.Ground.{ground}
use Rattle.rows.specs.declared.tray.Tray.{Tray}
use Rattle.rows.specs.Trays.{Held, held_by, held_in, blank, holding}
use Rattle.rows.proofs.Laid.{Laid, from_whole, read_laid, laid_written, laid_closed, laid_cleared, row_at}

pub record Kept {R : Type 0} {w : ℕ} (form : Form R w) (most : ℕ) (place : GName) (bs : List ℕ) (count : ℕ) (h : Held R) : Type 0 where
  pub tidy : Whole form most bs count
  pub inside : count ≤ size_in w most bs
  pub is : held_by form most place bs count ≡ h

same_held : {R : Type 0} (place : GName) (m n : ℕ) (bs cs : List ℕ) (xs ys : List R) → m ≡ n → bs ≡ cs → xs ≡ ys → ◌≡◌ {A = Held R} (record { ground = ground place m bs; items = xs }) (record { ground = ground place n cs; items = ys })
same_held place m n bs cs xs ys a b c = cc

-- what is laid in the same places is held there
pub kept : {R : Type 0} {w : ℕ} (form : Form R w) (most : ℕ) (h : Held R) (bs : List ℕ) (count : ℕ) (items : List R) (spare : ℕ) → 0 < w → Laid form most bs items spare h.ground.beyond → count ≡ length items → h.ground.size ≡ length items + spare → Kept form most h.ground.place bs count (holding h items)
kept {R} {w} form most h bs count items spare pos l c s =
    let r = read_laid form most bs count items spare h.ground.beyond pos l c in
    record {
      tidy = r.whole;
      inside = r.inside;
      is = same_held h.ground.place (size_in w most bs) h.ground.size (beyond_in w most bs) h.ground.beyond (rows_in form count bs) items (r.size ∙ sym s) r.beyond r.rows;
    }

pub kept_emptied : {R : Type 0} {w : ℕ} (form : Form R w) (most : ℕ) (place : GName) (bs : List ℕ) (end : ℕ) → 0 < w → end ≡ w * size_in w most bs → Kept form most place (filled bs 0 end 0) 0 (blank w most place bs)
kept_emptied {R} {w} form most place bs end pos e =
    kept form most (blank w most place bs) (filled bs 0 end 0) 0 [] (size_in w most bs) pos (laid_cleared form most bs end pos e) refl (omega arith)

pub kept_added : {R : Type 0} {w : ℕ} (form : Form R w) (most : ℕ) (place : GName) (bs : List ℕ) (count : ℕ) (item : R) → 0 < w → Whole form most bs count → count < size_in w most bs → Kept form most place (written bs (w * count) (form.bytes item)) (count + 1) (holding (held_by form most place bs count) (rows_in form count bs ++ item ∷ []))
kept_added {R} {w} form most place bs count item pos whole less =
    let items = rows_in form count bs in
    let k = size_in w most bs - count - 1 in
    let n = length_rows form count bs in
    let spare : size_in w most bs - count ≡ suc k = omega arith in
    let room = subst (λ s. Laid form most bs items s (beyond_in w most bs)) spare (from_whole form most bs count pos whole (omega arith)) in
    let l = laid_written form most bs items k (beyond_in w most bs) item (w * count) room (ap (λ c. w * c) (sym n)) in
    let pushed = length_push items item in
    kept form most (held_by form most place bs count) (written bs (w * count) (form.bytes item)) (count + 1) (items ++ item ∷ []) k pos l (omega arith) (omega arith)

pub kept_removed : {R : Type 0} {w : ℕ} (form : Form R w) (most : ℕ) (place : GName) (bs : List ℕ) (count n : ℕ) → 0 < w → Whole form most bs count → count ≤ size_in w most bs → n < count → Kept form most place (closed_up bs (w * n) w (w * count) 0) (count - 1) (holding (held_by form most place bs count) (remove (rows_in form count bs) n))
kept_removed {R} {w} form most place bs count n pos whole le less =
    let items = rows_in form count bs in
    let k = size_in w most bs - count in
    let c = length_rows form count bs in
    let l = laid_closed form most bs items k (beyond_in w most bs) n (w * n) (w * count) (from_whole form most bs count pos whole le) (omega arith) refl (ap (λ x. w * x) (sym c)) in
    let fewer = length-remove items n (omega arith) in
    kept form most (held_by form most place bs count) (closed_up bs (w * n) w (w * count) 0) (count - 1) (remove items n) (suc k) pos l (omega arith) (omega arith)

-- the bytes at a place are those of the record there
pub at_place : {R : Type 0} {w : ℕ} (form : Form R w) (most : ℕ) (bs : List ℕ) (count n : ℕ) → 0 < w → Whole form most bs count → count ≤ size_in w most bs → n < count → (y : R) × ((between (w * n) (w * n + w) bs ≡ form.bytes y) × (slice_get (rows_in form count bs) n ≡ Some y))
at_place {R} {w} form most bs count n pos whole le less =
    let c = length_rows form count bs in
    let row = row_at form bs (rows_in form count bs) _ n (from_whole form most bs count pos whole le).bytes (omega arith) in
    (row.0, (row.1.here, row.1.is))

-- a record that is found is in use
pub found_within : {R : Type 0} {w : ℕ} (form : Form R w) (bs : List ℕ) (count n : ℕ) (y : R) → slice_get (rows_in form count bs) n ≡ Some y → n < count
found_within form bs count n y h =
    omega (arith, slice_get_within (rows_in form count bs) n y h, length_rows form count bs)

pub remove_absent : {T : Type 0} (xs : List T) (n : ℕ) → slice_get xs n ≡ None → remove xs n ≡ xs
remove_absent [] zero h = refl
remove_absent [] (suc n) h = refl
remove_absent (x ∷ xs) zero h = absurd (none-some x (sym h))
remove_absent (x ∷ xs) (suc n) h = ap (λ t. x ∷ t) (remove_absent xs n h)

pub within : {R L : Type 0} {w most : ℕ} {b : _} {c : _} (form : Form R w) (tray : Tray L w most b c) → length (held_in form tray).items ≤ (held_in form tray).ground.size
within form tray = rw (length_rows form tray.count tray.bytes.now) tray.inside
