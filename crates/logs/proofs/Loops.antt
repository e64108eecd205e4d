-- A turn of a loop over the records.
use Rattle.std.proofs.Common.{◌≡◌, ℕ, ◌+◌, ◌-◌, ◌<◌, ◌≤◌, Bool, true, false, cond, List, [], ◌∷◌, map, length, get_or, take, drop, None, Option, sym, refl, ap, ◌∙◌, arith}
use Rattle.std.proofs.lemmas.List.{drop_more, drop_all, drop-map, take_rest, length-map}
use Rattle.std.proofs.Math.ListN.{get_or-map}
use Rattle.copies.specs.declared.CopyRecord.{CopyRecord}
use Rattle.copies.specs.Copies.{in_range, nearer, nearer_in_range, first_in_range}
use Rattle.logs.specs.declared.lines.Line.{Line}
use Rattle.logs.specs.Lines.{line_in}
use Rattle.logs.specs.Logs.{lasts, copy_of, copies_of}
use Rattle.logs.proofs.Meanings.{first_more}

-- the records from i on, as the code takes them, and the first of them
pub later_lines : (rows : List (List ℕ)) (i : ℕ) → map line_in (take (length rows - i) (drop i rows)) ≡ drop i (map line_in rows)
later_lines rows i = ap (map line_in) (take_rest rows i) ∙ sym (drop-map line_in i rows)

pub here : (rows : List (List ℕ)) (i : ℕ) → i < length rows → drop i (map line_in rows) ≡ line_in (get_or rows i []) ∷ drop (i + 1) (map line_in rows)
here rows i h =
    drop_more (map line_in rows) i (line_in []) (omega (arith, length-map rows line_in)) ∙ ap (λ t. t ∷ drop (i + 1) (map line_in rows)) (get_or-map line_in rows i [])

-- ---- the first in range

-- what the record adds to the best of the later ones
abbrev pub with_record : Line → List Line → ℕ → ℕ → ℕ → Option CopyRecord → Option CopyRecord
with_record r after p low high best =
    cond (in_range p low high (copy_of r)) (cond (lasts r after) (nearer (copy_of r) best) best) best

pub with_near : (r : Line) (after : List Line) (p low high : ℕ) (best new : Option CopyRecord) → true ≡ in_range p low high (copy_of r) → true ≡ lasts r after → new ≡ nearer (copy_of r) best → new ≡ with_record r after p low high best
with_near r after p low high best new k l m = cc

pub with_dead : (r : Line) (after : List Line) (p low high : ℕ) (best : Option CopyRecord) → true ≡ in_range p low high (copy_of r) → false ≡ lasts r after → best ≡ with_record r after p low high best
with_dead r after p low high best k l = cc

pub with_far : (r : Line) (after : List Line) (p low high : ℕ) (best : Option CopyRecord) → false ≡ in_range p low high (copy_of r) → best ≡ with_record r after p low high best
with_far r after p low high best k = cc

pub next_turn : (rows : List (List ℕ)) (n : ℕ) (r : Line) (p low high : ℕ) (best : Option CopyRecord) → 0 < n → n ≤ length rows → r ≡ line_in (get_or rows (n - 1) []) → best ≡ first_in_range (copies_of (drop n (map line_in rows))) p low high → with_record r (map line_in (take (length rows - (n - 1 + 1)) (drop (n - 1 + 1) rows))) p low high best ≡ first_in_range (copies_of (drop (n - 1) (map line_in rows))) p low high
next_turn rows n r p low high best o l e f =
    let i = n - 1 in
    let k : i + 1 ≡ n = omega arith in
    let after = drop (i + 1) (map line_in rows) in
    let g : best ≡ first_in_range (copies_of after) p low high = f ∙ ap (λ j. first_in_range (copies_of (drop j (map line_in rows))) p low high) (sym k) in
    ap (λ t. with_record r t p low high best) (later_lines rows (i + 1)) ∙ (swap (in_range p low high (copy_of r)) (lasts r after) (nearer (copy_of r) best) best ∙ (ap (λ b. cond (lasts r after) (nearer_in_range p low high (copy_of r) b) b) g ∙ (sym (first_more r after p low high) ∙ ap (λ t. first_in_range (copies_of t) p low high) (sym (here rows i (omega arith) ∙ ap (λ t. t ∷ after) (sym e))))))
  where
    swap : {X : Type 0} (a b : Bool) (x y : X) → cond a (cond b x y) y ≡ cond b (cond a x y) y
    swap true b x y = refl
    swap false true x y = refl
    swap false false x y = refl

pub next_start : (rows : List (List ℕ)) (p low high : ℕ) → None ≡ first_in_range (copies_of (drop (length rows) (map line_in rows))) p low high
next_start rows p low high =
    ap (λ t. first_in_range (copies_of t) p low high) (sym (drop_all (length rows) (map line_in rows) (omega (arith, length-map rows line_in))))
