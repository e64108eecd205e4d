-- What the code reads as the log, and what moving its live records together leaves of the tray.
use base.Fml.{GName}
use Rattle.std.proofs.Common.{◌≡◌, ℕ, ◌-◌, ◌*◌, ◌≤◌, List, ◌++◌, length, drop, sym, ap, ◌∙◌, append_assoc, arith, lit<}
use Rattle.std.specs.List.{flat_map}
use Rattle.std.proofs.lemmas.List.{drop_at, replicate-append-replicate}
use Rattle.copies.specs.declared.Coordinate.{Coordinate}
use Rattle.rows.specs.Bytes.{zeros}
use Rattle.rows.specs.Rows.{size_in, beyond_in, rows_in, laid, Whole, length_rows}
use Rattle.rows.specs.Trays.{held_by, holding}
use Rattle.rows.proofs.Laid.{from_whole, length_joined}
use Rattle.rows.proofs.Trays.{Kept, kept}
use Rattle.logs.specs.Lines.{line_bytes, line_form}
use Rattle.logs.specs.Logs.{squeezed}
use Rattle.logs.specs.Reads.{clipped, lines_in, compacted}
use Rattle.logs.proofs.Meanings.{squeezed_within}

-- the code clips what it is told to read, which changes nothing
clip_none : (bs : List ℕ) (count : ℕ) → count ≤ size_in 18 4096 bs → clipped bs count ≡ count
clip_none bs count i = omega arith

lines_are : (bs : List ℕ) (count : ℕ) → count ≤ size_in 18 4096 bs → lines_in bs count ≡ rows_in line_form count bs
lines_are bs count i = ap (λ n. rows_in line_form n bs) (clip_none bs count i)

pub moved : (place : GName) (bs : List ℕ) (count : ℕ) (c : Coordinate) → Whole line_form 4096 bs count → count ≤ size_in 18 4096 bs → Kept line_form 4096 place (compacted bs count c) (length (squeezed c (lines_in bs count))) (holding (held_by line_form 4096 place bs count) (squeezed c (rows_in line_form count bs)))
moved place bs count c whole i =
    let items = rows_in line_form count bs in
    let sq = squeezed c items in
    let size = size_in 18 4096 bs in
    let rest = beyond_in 18 4096 bs in
    let n = length_rows line_form count bs in
    let few = squeezed_within c items in
    let l = from_whole line_form 4096 bs count (lit< tt) whole i in
    let past : drop (18 * count) bs ≡ zeros (18 * (size - count)) ++ rest = ap (drop (18 * count)) l.bytes ∙ drop_at (flat_map line_bytes items) (zeros (18 * (size - count)) ++ rest) (18 * count) (length_joined line_form items ∙ ap (λ k. 18 * k) n) in
    let free : zeros (18 * (count - length sq)) ++ (zeros (18 * (size - count)) ++ rest) ≡ zeros (18 * (size - length sq)) ++ rest = sym (append_assoc (zeros (18 * (count - length sq))) (zeros (18 * (size - count))) rest) ∙ ap (λ z. z ++ rest) (replicate-append-replicate (18 * (count - length sq)) (18 * (size - count)) 0 ∙ ap zeros (omega arith)) in
    let bytes : compacted bs count c ≡ laid line_form sq (size - length sq) rest = ap (λ k. flat_map line_bytes (squeezed c (rows_in line_form k bs)) ++ (zeros (18 * (k - length (squeezed c (rows_in line_form k bs)))) ++ drop (18 * k) bs)) (clip_none bs count i) ∙ ap (λ t. flat_map line_bytes sq ++ t) (ap (λ t. zeros (18 * (count - length sq)) ++ t) past ∙ free) in
    kept line_form 4096 (held_by line_form 4096 place bs count) (compacted bs count c) (length (squeezed c (lines_in bs count))) sq (size - length sq) (lit< tt)
    (record { bytes = bytes; within = omega (arith, l.within); short = λ lt. l.short (omega arith) })
    (ap (λ xs. length (squeezed c xs)) (lines_are bs count i))
    (omega arith)
