-- Records laid one after another: what is read from them, and what each write makes of them. One text for every width.
use Rattle.std.proofs.Common.{◌≡◌, ℕ, zero, suc, ◌+◌, ◌-◌, ◌*◌, ◌/◌, ◌<◌, ◌≤◌, ◌&&◌, leb, List, [], ◌∷◌, ◌++◌, length, map, get_or, take, drop, Some, sym, refl, ap, ◌∙◌, ⊎_elim, append_assoc, mod-lt, mul-le-mul_left, mul-zero, mul-suc, mul-add, arith}
use native.Mathlib.Nat.{mul-add-div, div-eq_of_lt, div-add-mod}
use Rattle.std.specs.Simd.{first_chunks}
use Rattle.std.specs.List.{slice_get, flat_map, remove, between}
use Rattle.std.proofs.lemmas.List.{append-nil, length-append, length-replicate, length-drop, length-take-le, take_at, drop_at, drop-drop, flat_map_more, replicate-append-replicate, length_push}
use Rattle.std.proofs.lemmas.List.Edits.{length-remove}
use Rattle.std.proofs.lemmas.Grind.{flat_map-append}
use Rattle.std.proofs.lemmas.Bool.{cond-true, and_from, le-leb, cases_order}
use Rattle.slices.specs.Writes.{written, filled, closed_up}
use Rattle.rows.specs.Bytes.{zeros}
use Rattle.rows.specs.Rows.{Form, size_in, beyond_in, rows_in, laid, Whole, length_rows}

-- ---- lists of records

pub length_joined : {T : Type 0} {w : ℕ} (form : Form T w) (items : List T) → length (flat_map form.bytes items) ≡ w * length items
length_joined {T} {w} form [] = sym (mul-zero w)
length_joined {T} {w} form (x ∷ xs) =
    length-append (form.bytes x) (flat_map form.bytes xs) ∙ omega (arith, form.wide x, length_joined form xs, mul-suc w (length xs))

-- one of the records
pub rows_at : {T : Type 0} {w : ℕ} (form : Form T w) (n : ℕ) (bs : List ℕ) (i : ℕ) (d : T) → i < n → get_or (rows_in form n bs) i d ≡ form.first (drop (w * i) bs)
rows_at form zero bs i d h = absurd (omega arith)
rows_at {T} {w} form (suc n) bs zero d h = ap (λ k. form.first (drop k bs)) (sym (mul-zero w))
rows_at {T} {w} form (suc n) bs (suc i) d h =
    let e : w + w * i ≡ w * suc i = omega (arith, mul-suc w i) in
    rows_at form n (drop w bs) i d (omega arith) ∙ ap form.first (drop-drop (w * i) w bs ∙ ap (λ k. drop k bs) e)

-- what was laid is read again
pub rows_laid : {T : Type 0} {w : ℕ} (form : Form T w) (items : List T) (more : List ℕ) → rows_in form (length items) (flat_map form.bytes items ++ more) ≡ items
rows_laid form [] more = refl
rows_laid {T} {w} form (x ∷ xs) more =
    let later = flat_map form.bytes xs ++ more in
    let whole = append_assoc (form.bytes x) (flat_map form.bytes xs) more in
    ap (λ t. form.first t ∷ rows_in form (length xs) (drop w t)) whole ∙ (ap (λ t. t ∷ rows_in form (length xs) (drop w (form.bytes x ++ later))) (form.back x later) ∙ ap (λ t. x ∷ t) (ap (rows_in form (length xs)) (drop_at (form.bytes x) later w (form.wide x)) ∙ rows_laid form xs more))

-- the first of the pieces that bytes are cut into
pub take_chunks : (w n m : ℕ) (bs : List ℕ) → n ≤ m → take n (first_chunks w m bs) ≡ first_chunks w n bs
take_chunks w zero m bs h = refl
take_chunks w (suc n) zero bs h = absurd (omega arith)
take_chunks w (suc n) (suc m) bs h = ap (λ t. take w bs ∷ t) (take_chunks w n m (drop w bs) (omega arith))

-- what was laid is taken apart again
chunks_laid : {T : Type 0} {w : ℕ} (form : Form T w) (items : List T) (more : List ℕ) → first_chunks w (length items) (flat_map form.bytes items ++ more) ≡ map form.bytes items
chunks_laid form [] more = refl
chunks_laid {T} {w} form (x ∷ xs) more =
    let later = flat_map form.bytes xs ++ more in
    let whole = append_assoc (form.bytes x) (flat_map form.bytes xs) more in
    ap (λ t. take w t ∷ first_chunks w (length xs) (drop w t)) whole ∙ (ap (λ t. t ∷ first_chunks w (length xs) (drop w (form.bytes x ++ later))) (take_at (form.bytes x) later w (form.wide x)) ∙ ap (λ t. form.bytes x ∷ t) (ap (first_chunks w (length xs)) (drop_at (form.bytes x) later w (form.wide x)) ∙ chunks_laid form xs more))

-- those in use are the pieces that the bytes begin with
pub chunks_at : {T : Type 0} {w : ℕ} (form : Form T w) (bs : List ℕ) (items : List T) (more : List ℕ) (n m : ℕ) (chunks : List (List ℕ)) → bs ≡ flat_map form.bytes items ++ more → n ≡ length items → n ≤ m → chunks ≡ first_chunks w m bs → take n chunks ≡ map form.bytes items
chunks_at {T} {w} form bs items more n m chunks h e le f =
    ap (take n) f ∙ (take_chunks w n m bs le ∙ (ap (λ k. first_chunks w k bs) e ∙ (ap (first_chunks w (length items)) h ∙ chunks_laid form items more)))

-- each of them is read again
pub read_again : {T : Type 0} {w : ℕ} (form : Form T w) (items : List T) → map form.first (map form.bytes items) ≡ items
read_again form [] = refl
read_again form (x ∷ xs) =
    ap (λ t. form.first t ∷ map form.first (map form.bytes xs)) (sym (append-nil (form.bytes x))) ∙ (ap (λ t. t ∷ map form.first (map form.bytes xs)) (form.back x []) ∙ ap (λ t. x ∷ t) (read_again form xs))

length_zeros : (n : ℕ) → length (zeros n) ≡ n
length_zeros n = length-replicate n 0

zeros_more : (w k : ℕ) → zeros (w * suc k) ≡ zeros w ++ zeros (w * k)
zeros_more w k =
    let e : w * suc k ≡ w + w * k = omega (arith, mul-suc w k) in
    ap zeros e ∙ sym (replicate-append-replicate w (w * k) 0)

-- ---- bytes that are laid

-- `spare` places follow the records, and no whole record lies beyond, unless there are as many as may be
pub record Laid {T : Type 0} {w : ℕ} (form : Form T w) (most : ℕ) (bs : List ℕ) (items : List T) (spare : ℕ) (rest : List ℕ) : Type 0 where
  pub bytes : bs ≡ laid form items spare rest
  pub within : length items + spare ≤ most
  pub short : length items + spare < most → length rest < w

pub length_laid : {T : Type 0} {w : ℕ} (form : Form T w) (items : List T) (spare : ℕ) (rest : List ℕ) → length (laid form items spare rest) ≡ w * (length items + spare) + length rest
length_laid {T} {w} form items spare rest =
    length-append (flat_map form.bytes items) (zeros (w * spare) ++ rest) ∙ omega (arith, length_joined form items, length-append (zeros (w * spare)) rest, length_zeros (w * spare), mul-add w (length items) spare)

-- ---- what a value with whole records gives, and what gives whole records

pub from_whole : {T : Type 0} {w : ℕ} (form : Form T w) (most : ℕ) (bs : List ℕ) (count : ℕ) → 0 < w → Whole form most bs count → count ≤ size_in w most bs → Laid form most bs (rows_in form count bs) (size_in w most bs - count) (beyond_in w most bs)
from_whole {T} {w} form most bs count pos whole le =
    let n = length_rows form count bs in
    let size = size_in w most bs in
    let d = div-add-mod (length bs) w in
    let m = mod-lt (length bs) pos in
    record {
      bytes = whole;
      within = omega arith;
      short = λ lt. let q : size ≡ length bs / w = omega arith in let e : w * size ≡ w * (length bs / w) = ap (λ t. w * t) q in omega (arith, length-drop (w * size) bs);
    }

pub record Read {T : Type 0} {w : ℕ} (form : Form T w) (most : ℕ) (bs : List ℕ) (count : ℕ) (items : List T) (spare : ℕ) (rest : List ℕ) : Type 0 where
  pub rows : rows_in form count bs ≡ items
  pub size : size_in w most bs ≡ length items + spare
  pub beyond : beyond_in w most bs ≡ rest
  pub whole : Whole form most bs count
  pub inside : count ≤ size_in w most bs

pub read_laid : {T : Type 0} {w : ℕ} (form : Form T w) (most : ℕ) (bs : List ℕ) (count : ℕ) (items : List T) (spare : ℕ) (rest : List ℕ) → 0 < w → Laid form most bs items spare rest → count ≡ length items → Read form most bs count items spare rest
read_laid {T} {w} form most bs count items spare rest pos h e =
    let n = length items + spare in
    let long : length bs ≡ w * n + length rest = ap length h.bytes ∙ length_laid form items spare rest in
    let quotient : length bs / w ≡ n + length rest / w = ap (λ k. k / w) long ∙ mul-add-div pos n (length rest) in
    let size : size_in w most bs ≡ n = ⊎_elim
    (λ all. omega (arith, h.within))
    (λ lt. ⊎_elim (λ less. let z : length rest / w ≡ 0 = div-eq_of_lt (h.short less) in omega arith) (λ more. absurd (omega (arith, h.within))) lt)
    (cases_order n most) in
    let front = flat_map form.bytes items ++ zeros (w * spare) in
    let front_long : length front ≡ w * n = length-append (flat_map form.bytes items) (zeros (w * spare)) ∙ omega (arith, length_joined form items, length_zeros (w * spare), mul-add w (length items) spare) in
    let beyond : beyond_in w most bs ≡ rest = ap (λ k. drop (w * k) bs) size ∙ (ap (drop (w * n)) (h.bytes ∙ sym (append_assoc (flat_map form.bytes items) (zeros (w * spare)) rest)) ∙ drop_at front rest (w * n) front_long) in
    let rows : rows_in form count bs ≡ items = ap (λ k. rows_in form k bs) e ∙ (ap (rows_in form (length items)) h.bytes ∙ rows_laid form items (zeros (w * spare) ++ rest)) in
    let left : spare ≡ size_in w most bs - count = omega arith in
    record {
      rows = rows;
      size = size;
      beyond = beyond;
      whole = h.bytes ∙ (ap (λ t. laid form t spare rest) (sym rows) ∙ (ap (λ k. laid form (rows_in form count bs) k rest) left ∙ ap (λ t. laid form (rows_in form count bs) (size_in w most bs - count) t) (sym beyond)));
      inside = omega arith;
    }

-- ---- writes

-- one more record, where there is a place for it
pub laid_written : {T : Type 0} {w : ℕ} (form : Form T w) (most : ℕ) (bs : List ℕ) (items : List T) (k : ℕ) (rest : List ℕ) (t : T) (at : ℕ) → Laid form most bs items (suc k) rest → at ≡ w * length items → Laid form most (written bs at (form.bytes t)) (items ++ t ∷ []) k rest
laid_written {T} {w} form most bs items k rest t at h a =
    let front = flat_map form.bytes items in
    let new = form.bytes t in
    let wide = form.wide t in
    let after = zeros (w * k) ++ rest in
    let n = length items in
    let fl : length front ≡ at = length_joined form items ∙ sym a in
    let more : bs ≡ front ++ (zeros w ++ after) = h.bytes ∙ (ap (λ z. front ++ (z ++ rest)) (zeros_more w k) ∙ ap (λ z. front ++ z) (append_assoc (zeros w) (zeros (w * k)) rest)) in
    let zl = length_zeros w in
    let gap : length (front ++ zeros w) ≡ at + length new = length-append front (zeros w) ∙ omega arith in
    let bl = ap length more ∙ length-append front (zeros w ++ after) in
    let al = length-append (zeros w) after in
    let fits : at + length new ≤ length bs = omega arith in
    let one : take at bs ≡ front = ap (take at) more ∙ take_at front (zeros w ++ after) at fl in
    let two : drop (at + length new) bs ≡ after = ap (drop (at + length new)) (more ∙ sym (append_assoc front (zeros w) after)) ∙ drop_at (front ++ zeros w) after (at + length new) gap in
    let last : front ++ new ≡ flat_map form.bytes (items ++ t ∷ []) = flat_map_more form.bytes [] items t in
    let pl = length_push items t in
    record {
      bytes = cond-true (leb (at + length new) (length bs)) (take at bs ++ (new ++ drop (at + length new) bs)) bs (le-leb (at + length new) (length bs) fits) ∙ (ap (λ z. z ++ (new ++ drop (at + length new) bs)) one ∙ (ap (λ z. front ++ (new ++ z)) two ∙ (sym (append_assoc front new after) ∙ ap (λ z. z ++ after) last)));
      within = omega (arith, h.within);
      short = λ lt. h.short (omega arith);
    }

-- a list at one of its places
pub split_at : {T : Type 0} (items : List T) (n : ℕ) → n < length items → (y : T) × ((items ≡ take n items ++ y ∷ drop (suc n) items) × (slice_get items n ≡ Some y))
split_at [] n h = absurd (omega arith)
split_at (x ∷ xs) zero h = (x, (refl, refl))
split_at (x ∷ xs) (suc n) h = let s = split_at xs n (omega arith) in (s.0, (ap (λ t. x ∷ t) s.1.0, s.1.1))

-- the record at n, and what stands before and after it
pub record Row {T : Type 0} {w : ℕ} (form : Form T w) (bs : List ℕ) (items : List T) (more : List ℕ) (n : ℕ) (y : T) : Type 0 where
  pub before : take (w * n) bs ≡ flat_map form.bytes (take n items)
  pub here : between (w * n) (w * n + w) bs ≡ form.bytes y
  pub after : drop (w * n + w) bs ≡ flat_map form.bytes (drop (suc n) items) ++ more
  pub is : slice_get items n ≡ Some y

pub row_at : {T : Type 0} {w : ℕ} (form : Form T w) (bs : List ℕ) (items : List T) (more : List ℕ) (n : ℕ) → bs ≡ flat_map form.bytes items ++ more → n < length items → (y : T) × Row form bs items more n y
row_at {T} {w} form bs items more n h l =
    let s = split_at items n l in
    let y = s.0 in
    let f = form.bytes in
    let front = flat_map f (take n items) in
    let later = flat_map f (drop (suc n) items) in
    let fl : length front ≡ w * n = length_joined form (take n items) ∙ ap (λ k. w * k) (length-take-le n items (omega arith)) in
    let wide = form.wide y in
    let parts : flat_map f items ≡ front ++ (f y ++ later) = ap (flat_map f) s.1.0 ∙ flat_map-append f (take n items) (y ∷ drop (suc n) items) in
    let whole : bs ≡ front ++ (f y ++ (later ++ more)) = h ∙ (ap (λ t. t ++ more) parts ∙ (append_assoc front (f y ++ later) more ∙ ap (λ t. front ++ t) (append_assoc (f y) later more))) in
    let gap : length (front ++ f y) ≡ w * n + w = length-append front (f y) ∙ omega arith in
    let width : w * n + w - w * n ≡ w = omega arith in (
      y,
      record {
        before = ap (take (w * n)) whole ∙ take_at front (f y ++ (later ++ more)) (w * n) fl;
        here = ap (between (w * n) (w * n + w)) whole ∙ (ap (take (w * n + w - w * n)) (drop_at front (f y ++ (later ++ more)) (w * n) fl) ∙ take_at (f y) (later ++ more) (w * n + w - w * n) (wide ∙ sym width));
        after = ap (drop (w * n + w)) (whole ∙ sym (append_assoc front (f y) (later ++ more))) ∙ drop_at (front ++ f y) (later ++ more) (w * n + w) gap;
        is = s.1.1;
      },
    )

-- the record at n taken out
pub laid_closed : {T : Type 0} {w : ℕ} (form : Form T w) (most : ℕ) (bs : List ℕ) (items : List T) (k : ℕ) (rest : List ℕ) (n at end : ℕ) → Laid form most bs items k rest → n < length items → at ≡ w * n → end ≡ w * length items → Laid form most (closed_up bs at w end 0) (remove items n) (suc k) rest
laid_closed {T} {w} form most bs items k rest n at end h l a e =
    let f = form.bytes in
    let more = zeros (w * k) ++ rest in
    let row = row_at form bs items more n h.bytes l in
    let r = row.1 in
    let front = flat_map f (take n items) in
    let later = flat_map f (drop (suc n) items) in
    let ll : length later ≡ w * (length items - suc n) = length_joined form (drop (suc n) items) ∙ ap (λ i. w * i) (length-drop (suc n) items) in
    let m : w * length items ≡ w * suc n + w * (length items - suc n) = ap (λ i. w * i) (omega arith) ∙ mul-add w (suc n) (length items - suc n) in
    let s = mul-suc w n in
    let all = length_joined form items in
    let bl = ap length h.bytes ∙ length-append (flat_map f items) more in
    let fits : at + w ≤ end = omega arith in
    let ends : end ≤ length bs = omega arith in
    let after : drop (at + w) bs ≡ later ++ more = ap (λ i. drop (i + w) bs) a ∙ r.after in
    let size : length later ≡ end - (at + w) = omega arith in
    let moved : between (at + w) end bs ≡ later = ap (take (end - (at + w))) after ∙ take_at later more (end - (at + w)) size in
    let past : drop end bs ≡ more = ap (drop end) h.bytes ∙ drop_at (flat_map f items) more end (all ∙ sym e) in
    let before : take at bs ≡ front = ap (λ i. take i bs) a ∙ r.before in
    let fewer = length-remove items n l in
    record {
      bytes = cond-true (leb (at + w) end && leb end (length bs)) _ bs (and_from (leb (at + w) end) (leb end (length bs)) (le-leb (at + w) end fits) (le-leb end (length bs) ends)) ∙ (ap (λ t. t ++ (between (at + w) end bs ++ (zeros w ++ drop end bs))) before ∙ (ap (λ t. front ++ (t ++ (zeros w ++ drop end bs))) moved ∙ (ap (λ t. front ++ (later ++ (zeros w ++ t))) past ∙ (ap (λ t. front ++ (later ++ t)) (sym (append_assoc (zeros w) (zeros (w * k)) rest) ∙ ap (λ z. z ++ rest) (sym (zeros_more w k))) ∙ (sym (append_assoc front later (zeros (w * suc k) ++ rest)) ∙ ap (λ t. t ++ (zeros (w * suc k) ++ rest)) (sym (flat_map-append f (take n items) (drop (suc n) items))))))));
      within = omega (arith, h.within);
      short = λ lt. h.short (omega arith);
    }

-- zeros everywhere within the size
pub laid_cleared : {T : Type 0} {w : ℕ} (form : Form T w) (most : ℕ) (bs : List ℕ) (end : ℕ) → 0 < w → end ≡ w * size_in w most bs → Laid form most (filled bs 0 end 0) [] (size_in w most bs) (beyond_in w most bs)
laid_cleared {T} {w} form most bs end pos e =
    let size = size_in w most bs in
    let d = div-add-mod (length bs) w in
    let m = mod-lt (length bs) pos in
    let le : w * size ≤ w * (length bs / w) = mul-le-mul_left w (omega arith) in
    let fits : end ≤ length bs = omega arith in
    record {
      bytes = cond-true (leb 0 end && leb end (length bs)) _ bs (and_from (leb 0 end) (leb end (length bs)) (le-leb 0 end (omega arith)) (le-leb end (length bs) fits)) ∙ (ap (λ n. zeros n ++ drop end bs) (omega arith) ∙ ap (λ n. zeros n ++ drop n bs) e);
      within = omega arith;
      short = λ lt. let q : size ≡ length bs / w = omega arith in let g : w * size ≡ w * (length bs / w) = ap (λ t. w * t) q in omega (arith, length-drop (w * size) bs);
    }
