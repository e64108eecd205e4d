-- A part written over, as the three writes leave it, and a front of one item that grows.
use Rattle.std.proofs.Common.{◌≡◌, ℕ, ◌+◌, ◌-◌, ◌<◌, ◌≤◌, ◌&&◌, leb, List, [], ◌∷◌, ◌++◌, length, get_or, take, drop, replicate, set, sym, ap, ◌∙◌, append_assoc, arith}
use lib.Seq.{paste}
use borrow.Rule.Slice.PartMut.{put_mid}
use Rattle.std.specs.List.{between}
use Rattle.std.proofs.lemmas.List.{drop-drop, drop_more, length-drop, length-replicate, replicate_more, set_at}
use Rattle.std.proofs.lemmas.List.Edits.{take-paste, drop-paste}
use Rattle.std.proofs.lemmas.Bool.{cond-true, and_from, le-leb}
use Rattle.slices.specs.Writes.{written, filled, closed_up}

mid : {T : Type 0} (a k e : ℕ) (xs ys zs : List T) → a + k ≡ e → ys ≡ zs → put_mid a k xs ys ≡ take a xs ++ (zs ++ drop e xs)
mid a k e xs ys zs h f =
    ap (λ t. take a xs ++ (t ++ drop k (drop a xs))) f ∙ ap (λ t. take a xs ++ (zs ++ t)) (drop-drop k a xs ∙ ap (λ n. drop n xs) h)

pub written_is : {T : Type 0} (xs : List T) (at : ℕ) (items ys : List T) (k : ℕ) → at + length items ≤ length xs → k ≡ length items → ys ≡ items → put_mid at k xs ys ≡ written xs at items
written_is xs at items ys k h n e =
    mid at k (at + length items) xs ys items (ap (λ m. at + m) n) e ∙ sym (cond-true (leb (at + length items) (length xs)) _ xs (le-leb (at + length items) (length xs) h))

pub filled_is : {T : Type 0} (xs : List T) (from to : ℕ) (item : T) (ys : List T) → from ≤ to → to ≤ length xs → ys ≡ replicate (to - from) item → put_mid from (to - from) xs ys ≡ filled xs from to item
filled_is xs from to item ys h l e =
    mid from (to - from) to xs ys (replicate (to - from) item) (omega arith) e ∙ sym (cond-true (leb from to && leb to (length xs)) _ xs (and_from (leb from to) (leb to (length xs)) (le-leb from to h) (le-leb to (length xs) l)))

pub closed_is : {T : Type 0} (xs : List T) (at width end : ℕ) (item : T) (ys zs : List T) → at + width ≤ end → end ≤ length xs → ys ≡ paste xs at (drop (at + width) xs) (end - (at + width)) → zs ≡ replicate width item → put_mid (end - width) (end - (end - width)) ys zs ≡ closed_up xs at width end item
closed_is xs at width end item ys zs h l e f =
    let n = end - (at + width) in
    let later = drop (at + width) xs in
    let pasted = paste xs at later n in
    let there : at + n ≡ end - width = omega arith in
    let long : n ≤ length later = omega (arith, length-drop (at + width) xs) in
    let front : take (end - width) pasted ≡ take at xs ++ between (at + width) end xs = ap (λ k. take k pasted) (sym there) ∙ take-paste xs at later n (omega arith) long in
    let back : drop end pasted ≡ drop end xs =
    ap (λ k. drop k pasted) (sym (omega arith)) ∙ (sym (drop-drop width (at + n) pasted) ∙ (ap (drop width) (drop-paste xs at later n (omega arith) long) ∙ (drop-drop width (at + n) xs ∙ ap (λ k. drop k xs) (omega arith)))) in
    mid (end - width) (end - (end - width)) end ys zs (replicate width item) (omega arith) f ∙ (ap (λ t. take (end - width) t ++ (replicate width item ++ drop end t)) e ∙ (ap (λ t. t ++ (replicate width item ++ drop end pasted)) front ∙ (ap (λ t. (take at xs ++ between (at + width) end xs) ++ (replicate width item ++ t)) back ∙ (append_assoc (take at xs) (between (at + width) end xs) (replicate width item ++ drop end xs) ∙ sym (cond-true (leb (at + width) end && leb end (length xs)) _ xs (and_from (leb (at + width) end) (leb end (length xs)) (le-leb (at + width) end h) (le-leb end (length xs) l)))))))

pub one_more : {T : Type 0} (xs : List T) (i : ℕ) (item : T) → i < length xs → set (replicate i item ++ drop i xs) i item ≡ replicate (i + 1) item ++ drop (i + 1) xs
one_more xs i item l =
    ap (λ t. set (replicate i item ++ t) i item) (drop_more xs i item l) ∙ (set_at (replicate i item) (get_or xs i item) (drop (i + 1) xs) item i (length-replicate i item) ∙ (sym (append_assoc (replicate i item) (item ∷ []) (drop (i + 1) xs)) ∙ ap (λ t. t ++ drop (i + 1) xs) (replicate_more i item)))
