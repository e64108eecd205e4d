-- Copies in any order, no coordinate twice: what adding at the end, overwriting and removing make of their meaning.
use Rattle.std.proofs.Common.{◌≡◌, ℕ, suc, ◌<◌, true, false, cond, not, ◌⊎◌, List, [], ◌∷◌, ◌++◌, length, get_or, set, is_some, Some, None, Option, sym, refl, ap, ◌∙◌, subst, inl, inr, add-one, arith}
use Rattle.std.proofs.lemmas.Option.{same_Some}
use Rattle.std.specs.List.{remove as removed}
use Rattle.std.proofs.lemmas.Bool.{cond-true, cond-false, cond_both, both_ways, and_parts, and_from}
use Rattle.copies.specs.declared.Coordinate.{Coordinate}
use Rattle.copies.specs.declared.Entry.{Entry}
use Rattle.copies.specs.declared.CopyRecord.{CopyRecord}
use Rattle.copies.specs.Copies.{same, copy, Ordered, find, put, remove, next, from_records, apart, position, nearer_in_range, first_in_range}
use Rattle.copies.proofs.Coordinates.{equal_from_same, same_flip}
use Rattle.copies.proofs.Facts.{some_none, find_here, find_there, absent_parts, find_after_put, find_after_remove, ordered_put, ordered_remove, length_put_absent, equal_from_find, next_put_absent}

-- ---- tests of presence

pub none_from_absent : {X : Type 0} (o : Option X) → not (is_some o) ≡ true → o ≡ None
none_from_absent None h = refl
none_from_absent (Some x) h = absurd (both_ways false refl h)

pub absent_from_none : {X : Type 0} (o : Option X) → o ≡ None → not (is_some o) ≡ true
absent_from_none None h = refl
absent_from_none (Some x) h = absurd (some_none h)

-- a coordinate is absent or maps to something
pub find_cases : (xs : List CopyRecord) (c : Coordinate) → (find xs c ≡ None) ⊎ ((v : Entry) × (find xs c ≡ Some v))
find_cases xs c = cases (find xs c)
  where
    cases : (o : Option Entry) → (o ≡ None) ⊎ ((v : Entry) × (o ≡ Some v))
    cases None = inl refl
    cases (Some v) = inr (v, refl)

pub apart_parts : (x : CopyRecord) (xs : List CopyRecord) → apart (x ∷ xs) ≡ true → (find xs x.at ≡ None) × (apart xs ≡ true)
apart_parts x xs h =
    let parts = and_parts (not (is_some (find xs x.at))) (apart xs) h in
    (none_from_absent (find xs x.at) parts.0, parts.1)

apart_from : (x : CopyRecord) (xs : List CopyRecord) → find xs x.at ≡ None → apart xs ≡ true → apart (x ∷ xs) ≡ true
apart_from x xs h k =
    and_from (not (is_some (find xs x.at))) (apart xs) (absent_from_none (find xs x.at) h) k

-- ---- the meaning of copies in any order

pub find_from_records : (rs : List CopyRecord) (c : Coordinate) → find (from_records rs) c ≡ find rs c
find_from_records [] c = refl
find_from_records (x ∷ xs) c =
    find_after_put (from_records xs) x.at x.held c ∙ ap (λ o. cond (same x.at c) (Some x.held) o) (find_from_records xs c)

pub ordered_from_records : (rs : List CopyRecord) → Ordered (from_records rs)
ordered_from_records [] = tt
ordered_from_records (x ∷ xs) = ordered_put (from_records xs) x.at x.held (ordered_from_records xs)

pub length_from_records : (rs : List CopyRecord) → apart rs ≡ true → length (from_records rs) ≡ length rs
length_from_records [] h = refl
length_from_records (x ∷ xs) h =
    let parts = apart_parts x xs h in
    length_put_absent (from_records xs) x.at x.held (find_from_records xs x.at ∙ parts.0) ∙ (add-one (length (from_records xs)) ∙ ap suc (length_from_records xs parts.1))

pub next_from_records : (rs : List CopyRecord) (p low high : ℕ) → apart rs ≡ true → next (from_records rs) p low high ≡ first_in_range rs p low high
next_from_records [] p low high h = refl
next_from_records (x ∷ xs) p low high h =
    let parts = apart_parts x xs h in
    next_put_absent (from_records xs) x.at x.held p low high (ordered_from_records xs) (find_from_records xs x.at ∙ parts.0) ∙ ap (nearer_in_range p low high x) (next_from_records xs p low high parts.1)

-- two lists of copies mean one thing where find answers alike
same_meaning : (rs : List CopyRecord) (m : List CopyRecord) → Ordered m → ((c : Coordinate) → find rs c ≡ find m c) → from_records rs ≡ m
same_meaning rs m o h =
    equal_from_find (from_records rs) m (ordered_from_records rs) o (λ c. find_from_records rs c ∙ h c)

-- ---- where a coordinate stands

by_position : (x : CopyRecord) (xs : List CopyRecord) (c : Coordinate) (P : ℕ → Type 0) → (same x.at c ≡ true → P 0) → (same x.at c ≡ false → P (suc (position xs c))) → P (position (x ∷ xs) c)
by_position x xs c P f g = cond_both (same x.at c) 0 (suc (position xs c)) P f g

pub position_absent : (rs : List CopyRecord) (c : Coordinate) → find rs c ≡ None → position rs c ≡ length rs
position_absent [] c h = refl
position_absent (x ∷ xs) c h =
    let parts = absent_parts x xs c h in
    by_position x xs c (λ n. n ≡ length (x ∷ xs)) (λ s. absurd (both_ways (same x.at c) parts.0 s)) (λ _. ap suc (position_absent xs c parts.1))

pub position_within : (rs : List CopyRecord) (c : Coordinate) (v : Entry) → find rs c ≡ Some v → position rs c < length rs
position_within [] c v h = absurd (some_none (sym h))
position_within (x ∷ xs) c v h =
    by_position x xs c (λ n. n < length (x ∷ xs)) (λ _. omega arith) (λ n. omega (arith, position_within xs c v (sym (find_there x xs c n) ∙ h)))

pub position_held : (rs : List CopyRecord) (c : Coordinate) (v : Entry) (d : CopyRecord) → find rs c ≡ Some v → (get_or rs (position rs c) d).held ≡ v
position_held [] c v d h = absurd (some_none (sym h))
position_held (x ∷ xs) c v d h =
    by_position x xs c (λ n. (get_or (x ∷ xs) n d).held ≡ v)
    (λ s. same_Some x.held v (sym (find_here x xs c s) ∙ h))
    (λ n. position_held xs c v d (sym (find_there x xs c n) ∙ h))

-- ---- the three changes, as find sees them

-- the tests for two coordinates that differ may change places
swap_tests : (a c d : Coordinate) (u v w : Option Entry) → same a c ≡ false → cond (same a d) u (cond (same c d) v w) ≡ cond (same c d) v (cond (same a d) u w)
swap_tests a c d u v w n =
    cond_both (same c d) v (cond (same a d) u w) (λ o. cond (same a d) u (cond (same c d) v w) ≡ o)
    (λ s. cond-false (same a d) u (cond (same c d) v w) (subst (λ b. same a b ≡ false) (equal_from_same c d s) n) ∙ cond-true (same c d) v w s)
    (λ m. ap (λ o. cond (same a d) u o) (cond-false (same c d) v w m))

-- a test for a coordinate that was passed already does not matter
skip_test : (a c d : Coordinate) (u v w : Option Entry) → same a c ≡ true → cond (same c d) u (cond (same a d) v w) ≡ cond (same c d) u w
skip_test a c d u v w s =
    let e : a ≡ c = equal_from_same a c s in
    subst (λ b. cond (same c d) u (cond (same b d) v w) ≡ cond (same c d) u w) (sym e) (cond_both (same c d) u w (λ o. cond (same c d) u (cond (same c d) v w) ≡ o) (λ t. cond-true (same c d) u (cond (same c d) v w) t) (λ t. cond-false (same c d) u (cond (same c d) v w) t ∙ cond-false (same c d) v w t))

pub find_push : (rs : List CopyRecord) (c : Coordinate) (e : Entry) (d : Coordinate) → find rs c ≡ None → find (rs ++ copy c e ∷ []) d ≡ cond (same c d) (Some e) (find rs d)
find_push [] c e d h = refl
find_push (x ∷ xs) c e d h =
    let parts = absent_parts x xs c h in
    ap (λ o. cond (same x.at d) (Some x.held) o) (find_push xs c e d parts.1) ∙ swap_tests x.at c d (Some x.held) (Some e) (find xs d) parts.0

pub find_set_position : (rs : List CopyRecord) (c : Coordinate) (e : Entry) (v : Entry) (d : Coordinate) → find rs c ≡ Some v → find (set rs (position rs c) (copy c e)) d ≡ cond (same c d) (Some e) (find rs d)
find_set_position [] c e v d h = absurd (some_none (sym h))
find_set_position (x ∷ xs) c e v d h =
    by_position x xs c (λ n. find (set (x ∷ xs) n (copy c e)) d ≡ cond (same c d) (Some e) (find (x ∷ xs) d))
    (λ s. sym (skip_test x.at c d (Some e) (Some x.held) (find xs d) s))
    (λ n. ap (λ o. cond (same x.at d) (Some x.held) o) (find_set_position xs c e v d (sym (find_there x xs c n) ∙ h)) ∙ swap_tests x.at c d (Some x.held) (Some e) (find xs d) n)

pub find_removed_position : (rs : List CopyRecord) (c : Coordinate) (v : Entry) (d : Coordinate) → apart rs ≡ true → find rs c ≡ Some v → find (removed rs (position rs c)) d ≡ cond (same c d) None (find rs d)
find_removed_position [] c v d a h = absurd (some_none (sym h))
find_removed_position (x ∷ xs) c v d a h =
    let parts = apart_parts x xs a in
    by_position x xs c (λ n. find (removed (x ∷ xs) n) d ≡ cond (same c d) None (find (x ∷ xs) d))
    (λ s. cond_both (same c d) None (find xs d) (λ o. find xs d ≡ o) (λ t. subst (λ b. find xs b ≡ None) (equal_from_same x.at c s ∙ equal_from_same c d t) parts.0) (λ _. refl) ∙ sym (skip_test x.at c d None (Some x.held) (find xs d) s))
    (λ n. ap (λ o. cond (same x.at d) (Some x.held) o) (find_removed_position xs c v d parts.1 (sym (find_there x xs c n) ∙ h)) ∙ swap_tests x.at c d (Some x.held) None (find xs d) n)

-- ---- the three changes, as the meaning sees them

pub from_records_push : (rs : List CopyRecord) (c : Coordinate) (e : Entry) → find rs c ≡ None → from_records (rs ++ copy c e ∷ []) ≡ put (from_records rs) c e
from_records_push rs c e h =
    same_meaning (rs ++ copy c e ∷ []) (put (from_records rs) c e) (ordered_put (from_records rs) c e (ordered_from_records rs))
    (λ d. find_push rs c e d h ∙ (ap (λ o. cond (same c d) (Some e) o) (sym (find_from_records rs d)) ∙ sym (find_after_put (from_records rs) c e d)))

pub from_records_set : (rs : List CopyRecord) (c : Coordinate) (e v : Entry) → find rs c ≡ Some v → from_records (set rs (position rs c) (copy c e)) ≡ put (from_records rs) c e
from_records_set rs c e v h =
    same_meaning (set rs (position rs c) (copy c e)) (put (from_records rs) c e) (ordered_put (from_records rs) c e (ordered_from_records rs))
    (λ d. find_set_position rs c e v d h ∙ (ap (λ o. cond (same c d) (Some e) o) (sym (find_from_records rs d)) ∙ sym (find_after_put (from_records rs) c e d)))

pub from_records_removed : (rs : List CopyRecord) (c : Coordinate) (v : Entry) → apart rs ≡ true → find rs c ≡ Some v → from_records (removed rs (position rs c)) ≡ remove (from_records rs) c
from_records_removed rs c v a h =
    same_meaning (removed rs (position rs c)) (remove (from_records rs) c) (ordered_remove (from_records rs) c (ordered_from_records rs))
    (λ d. find_removed_position rs c v d a h ∙ (ap (λ o. cond (same c d) None o) (sym (find_from_records rs d)) ∙ sym (find_after_remove (from_records rs) c d (ordered_from_records rs))))

-- ---- no coordinate comes to stand twice

other_flip : (x : CopyRecord) (c : Coordinate) → same x.at c ≡ false → same c x.at ≡ false
other_flip x c n = same_flip c x.at ∙ n

pub apart_push : (rs : List CopyRecord) (c : Coordinate) (e : Entry) → apart rs ≡ true → find rs c ≡ None → apart (rs ++ copy c e ∷ []) ≡ true
apart_push [] c e a h = refl
apart_push (x ∷ xs) c e a h =
    let parts = apart_parts x xs a in
    let others = absent_parts x xs c h in
    apart_from x (xs ++ copy c e ∷ []) (find_push xs c e x.at others.1 ∙ (cond-false (same c x.at) (Some e) (find xs x.at) (other_flip x c others.0) ∙ parts.0)) (apart_push xs c e parts.1 others.1)

pub apart_set : (rs : List CopyRecord) (c : Coordinate) (e v : Entry) → apart rs ≡ true → find rs c ≡ Some v → apart (set rs (position rs c) (copy c e)) ≡ true
apart_set [] c e v a h = refl
apart_set (x ∷ xs) c e v a h =
    let parts = apart_parts x xs a in
    by_position x xs c (λ n. apart (set (x ∷ xs) n (copy c e)) ≡ true)
    (λ s. apart_from (copy c e) xs (subst (λ b. find xs b ≡ None) (equal_from_same x.at c s) parts.0) parts.1)
    (λ n. let there : find xs c ≡ Some v = sym (find_there x xs c n) ∙ h in apart_from x (set xs (position xs c) (copy c e)) (find_set_position xs c e v x.at there ∙ (cond-false (same c x.at) (Some e) (find xs x.at) (other_flip x c n) ∙ parts.0)) (apart_set xs c e v parts.1 there))

pub apart_removed : (rs : List CopyRecord) (c : Coordinate) (v : Entry) → apart rs ≡ true → find rs c ≡ Some v → apart (removed rs (position rs c)) ≡ true
apart_removed [] c v a h = absurd (some_none (sym h))
apart_removed (x ∷ xs) c v a h =
    let parts = apart_parts x xs a in
    by_position x xs c (λ n. apart (removed (x ∷ xs) n) ≡ true)
    (λ _. parts.1)
    (λ n. let there : find xs c ≡ Some v = sym (find_there x xs c n) ∙ h in apart_from x (removed xs (position xs c)) (find_removed_position xs c v x.at parts.1 there ∙ (cond-false (same c x.at) None (find xs x.at) (other_flip x c n) ∙ parts.0)) (apart_removed xs c v parts.1 there))
