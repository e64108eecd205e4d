-- Compaction in place: what moved to the front, and what is not read yet.
use Rattle.std.proofs.Common.{◌≡◌, ℕ, zero, suc, ◌+◌, ◌-◌, ◌*◌, ◌/◌, ◌<◌, ◌≤◌, true, false, List, [], ◌∷◌, ◌++◌, map, length, get_or, take, drop, sym, refl, ap, ◌∙◌, subst, append_assoc, arith}
use Rattle.std.specs.List.{flat_map, copy_within}
use lib.Seq.{paste}
use borrow.Rule.Slice.PartMut.{put_mid}
use Rattle.std.proofs.lemmas.Slice.{put_mid-paste}
use Rattle.std.proofs.lemmas.List.Edits.{paste_all}
use Rattle.std.proofs.lemmas.List.{append-nil, drop_more, drop_all, drop-drop, length-replicate, take_at, drop_at, length-take-le, length-append}
use Rattle.copies.specs.declared.Coordinate.{Coordinate}
use Rattle.copies.specs.Copies.{same}
use Rattle.rows.specs.Bytes.{zeros}
use Rattle.rows.specs.Rows.{rows_in, length_rows}
use Rattle.rows.proofs.Laid.{length_joined, rows_at}
use Rattle.logs.specs.declared.lines.Line.{Line}
use Rattle.logs.specs.Lines.{line_bytes, line_in, line_form}
use Rattle.logs.specs.Logs.{lasts, squeezed}
use Rattle.logs.specs.Reads.{clipped, lines_in}
use Rattle.logs.proofs.Chunks.{line_first, chunk_at}
use Rattle.logs.proofs.Loops.{later_lines}
use Rattle.std.specs.Simd.{first_chunks}
use Rattle.logs.proofs.Meanings.{squeezed_in, squeezed_out}

-- the record at i, and the lack of one
here : (n : ℕ) (bs : List ℕ) (i : ℕ) (r : Line) → i < n → r ≡ line_in (drop (18 * i) bs) → drop i (rows_in line_form n bs) ≡ r ∷ drop (i + 1) (rows_in line_form n bs)
here n bs i r h e =
    let rows = rows_in line_form n bs in
    let l : i < length rows = omega (arith, length_rows line_form n bs) in
    drop_more rows i r l ∙ ap (λ t. t ∷ drop (i + 1) rows) (rows_at line_form n bs i r h ∙ sym e)

none_left : (n : ℕ) (bs : List ℕ) (i : ℕ) → n ≤ i → drop i (rows_in line_form n bs) ≡ []
none_left n bs i h = drop_all i (rows_in line_form n bs) (omega (arith, length_rows line_form n bs))

-- of n records in bs, i are read and `moved` of them stand at the front
pub record Moved (n : ℕ) (bs now : List ℕ) (at : Coordinate) (i moved : ℕ) : Type 0 where
  pub few : moved ≤ i
  pub unread : drop (18 * moved) now ≡ drop (18 * moved) bs
  pub front : take (18 * moved) now ++ flat_map line_bytes (squeezed at (drop i (rows_in line_form n bs))) ≡ flat_map line_bytes (squeezed at (rows_in line_form n bs))

pub moved_start : (n : ℕ) (bs : List ℕ) (at : Coordinate) → Moved n bs bs at 0 0
moved_start n bs at = record { few = omega arith; unread = refl; front = refl }

-- what comes later was not written over
later : (now bs : List ℕ) (a b : ℕ) → a ≤ b → drop a now ≡ drop a bs → drop b now ≡ drop b bs
later now bs a b h e =
    let k : a + (b - a) ≡ b = omega arith in
    ap (λ j. drop j now) (sym k) ∙ (sym (drop-drop (b - a) a now) ∙ (ap (drop (b - a)) e ∙ (drop-drop (b - a) a bs ∙ ap (λ j. drop j bs) k)))

rows_drop : (n : ℕ) (bs : List ℕ) (i : ℕ) → drop i (rows_in line_form n bs) ≡ rows_in line_form (n - i) (drop (18 * i) bs)
rows_drop n bs zero = let e : n ≡ n - 0 = omega arith in ap (λ k. rows_in line_form k bs) e
rows_drop zero bs (suc i) = let e : 0 ≡ 0 - suc i = omega arith in ap (λ k. rows_in line_form k (drop (18 * suc i) bs)) e
rows_drop (suc n) bs (suc i) =
    let e : n - i ≡ suc n - suc i = omega arith in
    let f : 18 + 18 * i ≡ 18 * suc i = omega arith in
    rows_drop n (drop 18 bs) i ∙ (ap (λ k. rows_in line_form k (drop (18 * i) (drop 18 bs))) e ∙ ap (λ t. rows_in line_form (suc n - suc i) t) (drop-drop (18 * i) 18 bs ∙ ap (λ k. drop k bs) f))

-- so the records not read yet are what they were
pub read_here : (n : ℕ) (bs now : List ℕ) (at : Coordinate) (i moved : ℕ) (r : Line) → Moved n bs now at i moved → r ≡ line_in (drop (18 * i) now) → r ≡ line_in (drop (18 * i) bs)
read_here n bs now at i moved r m e =
    let few = m.few in
    e ∙ ap line_in (later now bs (18 * moved) (18 * i) (omega arith) m.unread)

pub read_later : (n : ℕ) (bs now : List ℕ) (at : Coordinate) (i moved : ℕ) → Moved n bs now at i moved → drop (i + 1) (rows_in line_form n now) ≡ drop (i + 1) (rows_in line_form n bs)
read_later n bs now at i moved m =
    let few = m.few in
    rows_drop n now (i + 1) ∙ (ap (rows_in line_form (n - (i + 1))) (later now bs (18 * moved) (18 * (i + 1)) (omega arith) m.unread) ∙ sym (rows_drop n bs (i + 1)))

squeezed_here : (n : ℕ) (bs : List ℕ) (at : Coordinate) (i : ℕ) (r : Line) (rest : List Line) → i < n → r ≡ line_in (drop (18 * i) bs) → squeezed at (r ∷ drop (i + 1) (rows_in line_form n bs)) ≡ rest → squeezed at (drop i (rows_in line_form n bs)) ≡ rest
squeezed_here n bs at i r rest h e k = ap (squeezed at) (here n bs i r h e) ∙ k

-- a record that stays behind
pub moved_past : (n : ℕ) (bs now : List ℕ) (at : Coordinate) (i moved : ℕ) (r : Line) → Moved n bs now at i moved → i < n → r ≡ line_in (drop (18 * i) now) → squeezed at (r ∷ drop (i + 1) (rows_in line_form n bs)) ≡ squeezed at (drop (i + 1) (rows_in line_form n bs)) → Moved n bs now at (i + 1) moved
moved_past n bs now at i moved r m h e k =
    let few = m.few in
    record {
      few = omega arith;
      unread = m.unread;
      front = ap (λ t. take (18 * moved) now ++ flat_map line_bytes t) (sym (squeezed_here n bs at i r _ h (read_here n bs now at i moved r m e) k)) ∙ m.front;
    }

-- a record that moves: its bytes are copied to the front
pub moved_in : (n : ℕ) (bs now : List ℕ) (at : Coordinate) (i moved : ℕ) (r : Line) (after : List ℕ) → Moved n bs now at i moved → i < n → n ≤ length now / 18 → r ≡ line_in (drop (18 * i) now) → line_bytes r ≡ take 18 (drop (18 * i) now) → same r.at at ≡ false → lasts r (drop (i + 1) (rows_in line_form n now)) ≡ true → after ≡ copy_within now (18 * i) (18 * (i + 1)) (18 * moved) → Moved n bs after at (i + 1) (moved + 1)
moved_in n bs now at i moved r after m h fits e form other lives w =
    let few = m.few in
    let row = line_bytes r in
    let width : 18 * (i + 1) - 18 * i ≡ 18 = omega arith in
    let rest = drop (i + 1) (rows_in line_form n bs) in
    let front = take (18 * moved) now in
    let tail = drop (18 * (moved + 1)) now in
    let fl : length front ≡ 18 * moved = length-take-le (18 * moved) now (omega arith) in
    let next : 18 * moved + 18 ≡ 18 * (moved + 1) = omega arith in
    let both : after ≡ (front ++ row) ++ tail = w ∙ (ap (λ k. paste now (18 * moved) (drop (18 * i) now) k) width ∙ (ap (λ k. (front ++ take 18 (drop (18 * i) now)) ++ drop k now) next ∙ ap (λ t. (front ++ t) ++ tail) (sym form))) in
    let gap : length (front ++ row) ≡ 18 * (moved + 1) = length-append front row ∙ omega arith in
    let live : lasts r rest ≡ true = ap (lasts r) (sym (read_later n bs now at i moved m)) ∙ lives in
    let more = squeezed at rest in
    let sq = squeezed_here n bs at i r (r ∷ more) h (read_here n bs now at i moved r m e) (squeezed_in at r rest live other) in
    record {
      few = omega arith;
      unread = ap (drop (18 * (moved + 1))) both ∙ (drop_at (front ++ row) tail (18 * (moved + 1)) gap ∙ later now bs (18 * moved) (18 * (moved + 1)) (omega arith) m.unread);
      front = ap (λ t. t ++ flat_map line_bytes more) (ap (take (18 * (moved + 1))) both ∙ take_at (front ++ row) tail (18 * (moved + 1)) gap) ∙ (append_assoc front row (flat_map line_bytes more) ∙ (ap (λ t. front ++ flat_map line_bytes t) (sym sq) ∙ m.front));
    }

-- all are read
pub record Done (n : ℕ) (bs left : List ℕ) (at : Coordinate) (moved : ℕ) : Type 0 where
  pub value : moved ≡ length (squeezed at (rows_in line_form n bs))
  pub after : left ≡ flat_map line_bytes (squeezed at (rows_in line_form n bs)) ++ (zeros (18 * (n - length (squeezed at (rows_in line_form n bs)))) ++ drop (18 * n) bs)

moved_end : (n : ℕ) (bs now : List ℕ) (at : Coordinate) (i moved : ℕ) (after : List ℕ) → Moved n bs now at i moved → i ≡ n → n ≤ length now / 18 → after ≡ take (18 * moved) now ++ (zeros (18 * n - 18 * moved) ++ drop (18 * n) now) → Done n bs after at moved
moved_end n bs now at i moved after m all fits w =
    let few = m.few in
    let rows = rows_in line_form n bs in
    let sq = squeezed at rows in
    let front : take (18 * moved) now ≡ flat_map line_bytes sq = sym (append-nil (take (18 * moved) now)) ∙ (ap (λ t. take (18 * moved) now ++ flat_map line_bytes (squeezed at t)) (sym (none_left n bs i (omega arith))) ∙ m.front) in
    let fl : length (take (18 * moved) now) ≡ 18 * moved = length-take-le (18 * moved) now (omega arith) in
    let jl : length (flat_map line_bytes sq) ≡ 18 * length sq = length_joined line_form sq in
    let same_length = ap length front in
    let count : moved ≡ length sq = omega arith in
    let left : 18 * n - 18 * moved ≡ 18 * (n - length sq) = omega arith in
    record {
      value = count;
      after = w ∙ (ap (λ t. t ++ (zeros (18 * n - 18 * moved) ++ drop (18 * n) now)) front ∙ (ap (λ k. flat_map line_bytes sq ++ (zeros k ++ drop (18 * n) now)) left ∙ ap (λ t. flat_map line_bytes sq ++ (zeros (18 * (n - length sq)) ++ t)) (later now bs (18 * moved) (18 * n) (omega arith) m.unread)));
    }

pub moved_all : (n : ℕ) (bs now : List ℕ) (used : ℕ) (at : Coordinate) (i moved : ℕ) (after : List ℕ) → Moved n bs now at i moved → n ≡ clipped bs used → i ≡ n → n ≤ length now / 18 → after ≡ take (18 * moved) now ++ (zeros (18 * n - 18 * moved) ++ drop (18 * n) now) → Done (clipped bs used) bs after at moved
moved_all n bs now used at i moved after m clip all fits w = subst (λ k. Done k bs after at moved) clip (moved_end n bs now at i moved after m all fits w)

-- the zeros that `fill` writes
pub filled : (a e : ℕ) (xs ys : List ℕ) → a ≤ e → ys ≡ zeros (e - a) → put_mid a (e - a) xs ys ≡ take a xs ++ (zeros (e - a) ++ drop e xs)
filled a e xs ys h f =
    let l : length (zeros (e - a)) ≡ e - a = length-replicate (e - a) 0 in
    let k : a + (e - a) ≡ e = omega arith in
    put_mid-paste a (e - a) xs ys (zeros (e - a)) (e - a) f refl (sym l) ∙ (paste_all xs a (zeros (e - a)) (e - a) (sym l) ∙ ap (λ n. take a xs ++ (zeros (e - a) ++ drop n xs)) k)

-- a record whose coordinate does not live any more, as the code tells it
pub moved_out : (n : ℕ) (bs now : List ℕ) (at : Coordinate) (i moved : ℕ) (r : Line) → Moved n bs now at i moved → i < n → r ≡ line_in (drop (18 * i) now) → lasts r (drop (i + 1) (rows_in line_form n now)) ≡ false → Moved n bs now at (i + 1) moved
moved_out n bs now at i moved r m h e dead =
    moved_past n bs now at i moved r m h e (squeezed_out at r _ (ap (lasts r) (sym (read_later n bs now at i moved m)) ∙ dead))

pub carried : (n : ℕ) (bs now now' : List ℕ) (at : Coordinate) (i moved moved' : ℕ) → now' ≡ now → moved' ≡ moved → Moved n bs now at i moved → Moved n bs now' at i moved'
carried n bs now now' at i moved moved' e f m =
    subst (λ t. Moved n bs t at i moved') (sym e) (subst (λ k. Moved n bs now at i k) (sym f) m)

-- ---- what the code reads

whole_clip : (n : ℕ) (now : List ℕ) → n ≤ length now / 18 → clipped now n ≡ n
whole_clip n now h = omega arith

pub row_read : (n : ℕ) (now : List ℕ) (rows : List (List ℕ)) (i : ℕ) → n ≤ length now / 18 → i < n → rows ≡ first_chunks 18 (clipped now n) now → get_or rows i [] ≡ take 18 (drop (18 * i) now)
row_read n now rows i fits h e =
    ap (λ t. get_or t i []) (e ∙ ap (λ k. first_chunks 18 k now) (whole_clip n now fits)) ∙ chunk_at n now i h

pub first_read : (n : ℕ) (now : List ℕ) (rows : List (List ℕ)) (i : ℕ) → n ≤ length now / 18 → i < n → rows ≡ first_chunks 18 (clipped now n) now → line_in (get_or rows i []) ≡ line_in (drop (18 * i) now)
first_read n now rows i fits h e = ap line_in (row_read n now rows i fits h e) ∙ line_first (drop (18 * i) now)

pub later_read : (n : ℕ) (now : List ℕ) (rows : List (List ℕ)) (i : ℕ) → n ≤ length now / 18 → map line_in rows ≡ lines_in now n → map line_in (take (length rows - i) (drop i rows)) ≡ drop i (rows_in line_form n now)
later_read n now rows i fits e =
    later_lines rows i ∙ ap (drop i) (e ∙ ap (λ k. rows_in line_form k now) (whole_clip n now fits))
