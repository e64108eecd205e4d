-- A record's 18 bytes: kind, replica, peer (2), place (2), stamp (4), value (8), high byte first. Assumes nothing.
use Rattle.std.specs.Prelude.{◌≡◌, ℕ, List, ◌∷◌, ◌++◌, slice_index, refl}
use Rattle.std.proofs.Common.{ap, ◌∙◌}
use Rattle.words.specs.Words.{two, four, eight, of16, of32, of64}
use Rattle.words.proofs.Trips.{back16, back32, back64}
use Rattle.rows.specs.Rows.{Form}
use Rattle.logs.specs.declared.lines.Line.{Line}

abbrev pub line : ℕ → ℕ → ℕ → ℕ → ℕ → ℕ → Line
line kind replica peer place stamp value =
    record { kind = kind; at = record { peer = peer; replica = replica; place = place }; held = record { stamp = stamp; value = value } }

abbrev pub line_bytes : Line → List ℕ
line_bytes x =
    x.kind ∷ (x.at.replica ∷ (two x.at.peer ++ (two x.at.place ++ (four x.held.stamp ++ eight x.held.value))))

-- the first 18 bytes as a record
abbrev pub line_in : List ℕ → Line
line_in bs =
    line (slice_index bs 0) (slice_index bs 1) (of16 (slice_index bs 2) (slice_index bs 3)) (of16 (slice_index bs 4) (slice_index bs 5)) (of32 (of16 (slice_index bs 6) (slice_index bs 7)) (of16 (slice_index bs 8) (slice_index bs 9))) (of64 (of32 (of16 (slice_index bs 10) (slice_index bs 11)) (of16 (slice_index bs 12) (slice_index bs 13))) (of32 (of16 (slice_index bs 14) (slice_index bs 15)) (of16 (slice_index bs 16) (slice_index bs 17))))

-- a record comes back from its bytes
pub line_back : (x : Line) (rest : List ℕ) → line_in (line_bytes x ++ rest) ≡ x
line_back x rest =
    let k = x.kind in
    let r = x.at.replica in
    let p = x.at.peer in
    let q = x.at.place in
    let s = x.held.stamp in
    let v = (line_in (line_bytes x ++ rest)).held.value in
    let t = (line_in (line_bytes x ++ rest)).held.stamp in
    let u = (line_in (line_bytes x ++ rest)).at.place in
    ap (λ n. line k r n u t v) (back16 p) ∙ (ap (λ n. line k r p n t v) (back16 q) ∙ (ap (λ n. line k r p q n v) (back32 s) ∙ ap (λ n. line k r p q s n) (back64 x.held.value)))

abbrev pub line_form : Form Line 18
line_form = record { bytes = line_bytes; first = line_in; wide = λ x. refl; back = line_back }
