-- Facts about what a shelf holds: find after put and remove, order, counting, next, and that find tells all.
use Rattle.std.proofs.Common.{◌≡◌, ℕ, suc, ◌+◌, true, false, cond, List, [], ◌∷◌, length, Some, None, Option, sym, refl, ap, ◌∙◌, subst, ⊎_elim, add-one, arith}
use Rattle.std.proofs.lemmas.Option.{same_Some}
use Rattle.std.specs.List.{AllByRecursion}
use Rattle.std.proofs.ByRecursion.{All-weaker}
use Rattle.std.proofs.lemmas.Bool.{cond-true, cond-false, cond_both, cases_Bool, both_ways}
use Rattle.copies.specs.declared.Coordinate.{Coordinate}
use Rattle.copies.specs.declared.Entry.{Entry}
use Rattle.copies.specs.declared.CopyRecord.{CopyRecord}
use Rattle.copies.specs.Copies.{same, before, copy, Ordered, find, put, remove, in_range, next, nearer, nearer_in_range}
use Rattle.copies.proofs.Coordinates.{same_itself, equal_from_same, same_flip, apart_from_before, before_flip, before_through, before_other}

-- an entry is not none
pub some_none : {X : Type 0} {v : X} → ◌≡◌ {A = Option X} (Some v) None → ⊥
some_none h = let z : ◌≡◌ {A = ℕ} 0 1 = cc in omega arith

-- ---- by cases of the tests that find, put, remove and next make

pub find_here : (x : CopyRecord) (xs : List CopyRecord) (c : Coordinate) → same x.at c ≡ true → find (x ∷ xs) c ≡ Some x.held
find_here x xs c h = cond-true (same x.at c) (Some x.held) (find xs c) h

pub find_there : (x : CopyRecord) (xs : List CopyRecord) (c : Coordinate) → same x.at c ≡ false → find (x ∷ xs) c ≡ find xs c
find_there x xs c h = cond-false (same x.at c) (Some x.held) (find xs c) h

by_put : (x : CopyRecord) (xs : List CopyRecord) (c : Coordinate) (e : Entry) (P : List CopyRecord → Type 0) → (before x.at c ≡ true → P (x ∷ put xs c e)) → (before x.at c ≡ false → same x.at c ≡ true → P (copy c e ∷ xs)) → (before x.at c ≡ false → same x.at c ≡ false → P (copy c e ∷ (x ∷ xs))) → P (put (x ∷ xs) c e)
by_put x xs c e P f g h =
    cond_both (before x.at c) (x ∷ put xs c e) (cond (same x.at c) (copy c e ∷ xs) (copy c e ∷ (x ∷ xs))) P f (λ b. cond_both (same x.at c) (copy c e ∷ xs) (copy c e ∷ (x ∷ xs)) P (g b) (h b))

by_remove : (x : CopyRecord) (xs : List CopyRecord) (c : Coordinate) (P : List CopyRecord → Type 0) → (same x.at c ≡ true → P xs) → (same x.at c ≡ false → P (x ∷ remove xs c)) → P (remove (x ∷ xs) c)
by_remove x xs c P f g = cond_both (same x.at c) xs (x ∷ remove xs c) P f g

pub by_same : (c d : Coordinate) {X : Type 0} → (c ≡ d → X) → (same c d ≡ false → X) → X
by_same c d f g = ⊎_elim (λ h. f (equal_from_same c d h)) g (cases_Bool (same c d))

-- a coordinate that is absent from a list is that of no copy in it
pub absent_parts : (x : CopyRecord) (xs : List CopyRecord) (c : Coordinate) → find (x ∷ xs) c ≡ None → (same x.at c ≡ false) × (find xs c ≡ None)
absent_parts x xs c h =
    ⊎_elim (λ s. absurd (some_none (sym (find_here x xs c s) ∙ h))) (λ n. (n, sym (find_there x xs c n) ∙ h)) (cases_Bool (same x.at c))

-- what comes before all copies is absent
pub absent_before : (xs : List CopyRecord) (c : Coordinate) → AllByRecursion (λ y. before c y.at ≡ true) xs → find xs c ≡ None
absent_before [] c h = refl
absent_before (x ∷ xs) c h =
    find_there x xs c (same_flip x.at c ∙ apart_from_before c x.at h.0) ∙ absent_before xs c h.1

all_after : (c : Coordinate) (x : CopyRecord) (xs : List CopyRecord) → before c x.at ≡ true → AllByRecursion (λ y. before x.at y.at ≡ true) xs → AllByRecursion (λ y. before c y.at ≡ true) (x ∷ xs)
all_after c x xs h a =
    (h, All-weaker (λ y. before x.at y.at ≡ true) (λ y. before c y.at ≡ true) (λ y k. before_through c x.at y.at h k) xs a)

-- ---- find after put

pub find_put : (xs : List CopyRecord) (c : Coordinate) (e : Entry) → find (put xs c e) c ≡ Some e
find_put [] c e = find_here (copy c e) [] c (same_itself c)
find_put (x ∷ xs) c e =
    by_put x xs c e (λ ys. find ys c ≡ Some e)
    (λ b. find_there x (put xs c e) c (apart_from_before x.at c b) ∙ find_put xs c e)
    (λ _ _. find_here (copy c e) xs c (same_itself c))
    (λ _ _. find_here (copy c e) (x ∷ xs) c (same_itself c))

pub find_put_other : (xs : List CopyRecord) (c : Coordinate) (e : Entry) (d : Coordinate) → same c d ≡ false → find (put xs c e) d ≡ find xs d
find_put_other [] c e d n = find_there (copy c e) [] d n
find_put_other (x ∷ xs) c e d n =
    by_put x xs c e (λ ys. find ys d ≡ find (x ∷ xs) d)
    (λ _. ap (λ o. cond (same x.at d) (Some x.held) o) (find_put_other xs c e d n))
    (λ _ s. find_there (copy c e) xs d n ∙ sym (find_there x xs d (ap (λ a. same a d) (equal_from_same x.at c s) ∙ n)))
    (λ _ _. find_there (copy c e) (x ∷ xs) d n)

-- both in one
pub find_after_put : (xs : List CopyRecord) (c : Coordinate) (e : Entry) (d : Coordinate) → find (put xs c e) d ≡ cond (same c d) (Some e) (find xs d)
find_after_put xs c e d =
    cond_both (same c d) (Some e) (find xs d) (λ o. find (put xs c e) d ≡ o)
    (λ s. subst (λ a. find (put xs c e) a ≡ Some e) (equal_from_same c d s) (find_put xs c e))
    (λ n. find_put_other xs c e d n)

-- ---- find after remove

pub find_remove : (xs : List CopyRecord) (c : Coordinate) → Ordered xs → find (remove xs c) c ≡ None
find_remove [] c o = refl
find_remove (x ∷ xs) c o =
    by_remove x xs c (λ ys. find ys c ≡ None)
    (λ s. subst (λ a. find xs a ≡ None) (equal_from_same x.at c s) (absent_before xs x.at o.0))
    (λ n. find_there x (remove xs c) c n ∙ find_remove xs c o.1)

pub find_remove_other : (xs : List CopyRecord) (c d : Coordinate) → same c d ≡ false → find (remove xs c) d ≡ find xs d
find_remove_other [] c d n = refl
find_remove_other (x ∷ xs) c d n =
    by_remove x xs c (λ ys. find ys d ≡ find (x ∷ xs) d)
    (λ s. sym (find_there x xs d (ap (λ a. same a d) (equal_from_same x.at c s) ∙ n)))
    (λ _. ap (λ o. cond (same x.at d) (Some x.held) o) (find_remove_other xs c d n))

pub find_after_remove : (xs : List CopyRecord) (c d : Coordinate) → Ordered xs → find (remove xs c) d ≡ cond (same c d) None (find xs d)
find_after_remove xs c d o =
    cond_both (same c d) None (find xs d) (λ r. find (remove xs c) d ≡ r)
    (λ s. subst (λ a. find (remove xs c) a ≡ None) (equal_from_same c d s) (find_remove xs c o))
    (λ n. find_remove_other xs c d n)

-- ---- order

pub all_put : (P : CopyRecord → Type 0) (xs : List CopyRecord) (c : Coordinate) (e : Entry) → AllByRecursion P xs → P (copy c e) → AllByRecursion P (put xs c e)
all_put P [] c e h p = (p, tt)
all_put P (x ∷ xs) c e h p =
    by_put x xs c e (λ ys. AllByRecursion P ys) (λ _. (h.0, all_put P xs c e h.1 p)) (λ _ _. (p, h.1)) (λ _ _. (p, h))

pub all_remove : (P : CopyRecord → Type 0) (xs : List CopyRecord) (c : Coordinate) → AllByRecursion P xs → AllByRecursion P (remove xs c)
all_remove P [] c h = tt
all_remove P (x ∷ xs) c h = by_remove x xs c (λ ys. AllByRecursion P ys) (λ _. h.1) (λ _. (h.0, all_remove P xs c h.1))

pub ordered_put : (xs : List CopyRecord) (c : Coordinate) (e : Entry) → Ordered xs → Ordered (put xs c e)
ordered_put [] c e o = (tt, tt)
ordered_put (x ∷ xs) c e o =
    by_put x xs c e Ordered
    (λ b. (all_put (λ y. before x.at y.at ≡ true) xs c e o.0 b, ordered_put xs c e o.1))
    (λ _ s. (subst (λ a. AllByRecursion (λ y. before a y.at ≡ true) xs) (equal_from_same x.at c s) o.0, o.1))
    (λ b s. (all_after c x xs (before_other x.at c b s) o.0, o))

pub ordered_remove : (xs : List CopyRecord) (c : Coordinate) → Ordered xs → Ordered (remove xs c)
ordered_remove [] c o = tt
ordered_remove (x ∷ xs) c o =
    by_remove x xs c Ordered (λ _. o.1) (λ _. (all_remove (λ y. before x.at y.at ≡ true) xs c o.0, ordered_remove xs c o.1))

-- ---- counting

pub length_put_absent : (xs : List CopyRecord) (c : Coordinate) (e : Entry) → find xs c ≡ None → length (put xs c e) ≡ length xs + 1
length_put_absent [] c e h = refl
length_put_absent (x ∷ xs) c e h =
    let parts = absent_parts x xs c h in
    by_put x xs c e (λ ys. length ys ≡ length (x ∷ xs) + 1)
    (λ _. omega (arith, length_put_absent xs c e parts.1))
    (λ _ s. absurd (both_ways (same x.at c) parts.0 s))
    (λ _ _. omega arith)

pub length_put_present : (xs : List CopyRecord) (c : Coordinate) (e v : Entry) → Ordered xs → find xs c ≡ Some v → length (put xs c e) ≡ length xs
length_put_present [] c e v o h = absurd (some_none (sym h))
length_put_present (x ∷ xs) c e v o h =
    by_put x xs c e (λ ys. length ys ≡ length (x ∷ xs))
    (λ b. ap suc (length_put_present xs c e v o.1 (sym (find_there x xs c (apart_from_before x.at c b)) ∙ h)))
    (λ _ _. refl)
    (λ b s. absurd (some_none (sym h ∙ absent_before (x ∷ xs) c (all_after c x xs (before_other x.at c b s) o.0))))

pub length_remove_present : (xs : List CopyRecord) (c : Coordinate) (v : Entry) → find xs c ≡ Some v → length (remove xs c) + 1 ≡ length xs
length_remove_present [] c v h = absurd (some_none (sym h))
length_remove_present (x ∷ xs) c v h =
    by_remove x xs c (λ ys. length ys + 1 ≡ length (x ∷ xs))
    (λ _. add-one (length xs))
    (λ n. omega (arith, length_remove_present xs c v (sym (find_there x xs c n) ∙ h)))

pub remove_absent : (xs : List CopyRecord) (c : Coordinate) → find xs c ≡ None → remove xs c ≡ xs
remove_absent [] c h = refl
remove_absent (x ∷ xs) c h =
    let parts = absent_parts x xs c h in
    by_remove x xs c (λ ys. ys ≡ x ∷ xs)
    (λ s. absurd (both_ways (same x.at c) parts.0 s))
    (λ _. ap (λ ys. x ∷ ys) (remove_absent xs c parts.1))

pub length_remove_absent : (xs : List CopyRecord) (c : Coordinate) → find xs c ≡ None → length (remove xs c) ≡ length xs
length_remove_absent xs c h = ap length (remove_absent xs c h)

-- ---- two lists in order with the same answers are one list

tails_agree : (x y : CopyRecord) (xs ys : List CopyRecord) → x.at ≡ y.at → Ordered (x ∷ xs) → Ordered (y ∷ ys) → ((c : Coordinate) → find (x ∷ xs) c ≡ find (y ∷ ys) c) → (c : Coordinate) → find xs c ≡ find ys c
tails_agree x y xs ys e o q h c =
    by_same x.at c
    (λ s. subst (λ a. find xs a ≡ None) s (absent_before xs x.at o.0) ∙ sym (subst (λ a. find ys a ≡ None) (sym e ∙ s) (absent_before ys y.at q.0)))
    (λ n. sym (find_there x xs c n) ∙ (h c ∙ find_there y ys c (ap (λ a. same a c) (sym e) ∙ n)))

first_agrees : (x y : CopyRecord) (xs ys : List CopyRecord) → x.at ≡ y.at → ((c : Coordinate) → find (x ∷ xs) c ≡ find (y ∷ ys) c) → x ≡ y
first_agrees x y xs ys e h =
    let held : x.held ≡ y.held = same_Some x.held y.held (sym (find_here x xs x.at (same_itself x.at)) ∙ (h x.at ∙ find_here y ys x.at (subst (λ a. same a x.at ≡ true) e (same_itself x.at)))) in
    ap (λ a. copy a x.held) e ∙ ap (λ v. copy y.at v) held

-- the first of one list cannot come before all of the other
not_first : (x : CopyRecord) (xs ys : List CopyRecord) → ((c : Coordinate) → find (x ∷ xs) c ≡ find ys c) → AllByRecursion (λ y. before x.at y.at ≡ true) ys → ⊥
not_first x xs ys h a =
    some_none (sym (find_here x xs x.at (same_itself x.at)) ∙ (h x.at ∙ absent_before ys x.at a))

pub equal_from_find : (xs ys : List CopyRecord) → Ordered xs → Ordered ys → ((c : Coordinate) → find xs c ≡ find ys c) → xs ≡ ys
equal_from_find [] [] o q h = refl
equal_from_find [] (y ∷ ys) o q h = absurd (not_first y ys [] (λ c. sym (h c)) tt)
equal_from_find (x ∷ xs) [] o q h = absurd (not_first x xs [] h tt)
equal_from_find (x ∷ xs) (y ∷ ys) o q h =
    by_same x.at y.at
    (λ e. ap (λ z. z ∷ xs) (first_agrees x y xs ys e h) ∙ ap (λ zs. y ∷ zs) (equal_from_find xs ys o.1 q.1 (tails_agree x y xs ys e o q h)))
    (λ n. absurd (⊎_elim (λ b. not_first x xs (y ∷ ys) h (all_after x.at y ys b q.0)) (λ b. not_first y ys (x ∷ xs) (λ c. sym (h c)) (all_after y.at x xs (before_other x.at y.at b n) o.0)) (cases_Bool (before x.at y.at))))

-- ---- next

by_next : (x : CopyRecord) (xs : List CopyRecord) (p low high : ℕ) (P : Option CopyRecord → Type 0) → (in_range p low high x ≡ true → P (Some x)) → (in_range p low high x ≡ false → P (next xs p low high)) → P (next (x ∷ xs) p low high)
by_next x xs p low high P f g = cond_both (in_range p low high x) (Some x) (next xs p low high) P f g

next_here : (x : CopyRecord) (xs : List CopyRecord) (p low high : ℕ) → in_range p low high x ≡ true → next (x ∷ xs) p low high ≡ Some x
next_here x xs p low high h = cond-true (in_range p low high x) (Some x) (next xs p low high) h

next_there : (x : CopyRecord) (xs : List CopyRecord) (p low high : ℕ) → in_range p low high x ≡ false → next (x ∷ xs) p low high ≡ next xs p low high
next_there x xs p low high h = cond-false (in_range p low high x) (Some x) (next xs p low high) h

-- what holds of every copy holds of the next one
pub next_all : (P : CopyRecord → Type 0) (xs : List CopyRecord) (p low high : ℕ) (y : CopyRecord) → AllByRecursion P xs → next xs p low high ≡ Some y → P y
next_all P [] p low high y a h = absurd (some_none (sym h))
next_all P (x ∷ xs) p low high y a h =
    ⊎_elim
    (λ r. subst P (same_Some x y (sym (next_here x xs p low high r) ∙ h)) a.0)
    (λ r. next_all P xs p low high y a.1 (sym (next_there x xs p low high r) ∙ h))
    (cases_Bool (in_range p low high x))

pub next_in_range : (xs : List CopyRecord) (p low high : ℕ) (y : CopyRecord) → next xs p low high ≡ Some y → in_range p low high y ≡ true
next_in_range [] p low high y h = absurd (some_none (sym h))
next_in_range (x ∷ xs) p low high y h =
    ⊎_elim
    (λ r. subst (λ z. in_range p low high z ≡ true) (same_Some x y (sym (next_here x xs p low high r) ∙ h)) r)
    (λ r. next_in_range xs p low high y (sym (next_there x xs p low high r) ∙ h))
    (cases_Bool (in_range p low high x))

pub next_found : (xs : List CopyRecord) (p low high : ℕ) (y : CopyRecord) → Ordered xs → next xs p low high ≡ Some y → find xs y.at ≡ Some y.held
next_found [] p low high y o h = absurd (some_none (sym h))
next_found (x ∷ xs) p low high y o h =
    ⊎_elim
    (λ r. let e : x ≡ y = same_Some x y (sym (next_here x xs p low high r) ∙ h) in subst (λ z. find (x ∷ xs) z.at ≡ Some z.held) e (find_here x xs x.at (same_itself x.at)))
    (λ r. let e : next xs p low high ≡ Some y = sym (next_there x xs p low high r) ∙ h in find_there x xs y.at (apart_from_before x.at y.at (next_all (λ z. before x.at z.at ≡ true) xs p low high y o.0 e)) ∙ next_found xs p low high y o.1 e)
    (cases_Bool (in_range p low high x))

-- a range speaks of coordinates alone
in_range_at : (p low high : ℕ) (x : CopyRecord) (d : Coordinate) (e : Entry) → x.at ≡ d → in_range p low high (copy d e) ≡ in_range p low high x
unfolding in_range
in_range_at p low high x d e h = ap (λ a. in_range p low high (copy a e)) (sym h)

-- a copy that is there and is in range does not come before the next one
pub next_first : (xs : List CopyRecord) (p low high : ℕ) (y : CopyRecord) (d : Coordinate) (e : Entry) → Ordered xs → next xs p low high ≡ Some y → find xs d ≡ Some e → in_range p low high (copy d e) ≡ true → before d y.at ≡ false
next_first [] p low high y d e o h f r = absurd (some_none (sym h))
next_first (x ∷ xs) p low high y d e o h f r =
    by_same x.at d
    (λ s. let i : in_range p low high x ≡ true = sym (in_range_at p low high x d e s) ∙ r in subst (λ z. before d z.at ≡ false) (same_Some x y (sym (next_here x xs p low high i) ∙ h)) (subst (λ a. before a x.at ≡ false) s (not_before_itself x.at)))
    (λ n. let g : find xs d ≡ Some e = sym (find_there x xs d n) ∙ f in ⊎_elim
    (λ i. subst (λ z. before d z.at ≡ false) (same_Some x y (sym (next_here x xs p low high i) ∙ h)) (⊎_elim (λ b. absurd (some_none (sym g ∙ absent_before xs d (all_before x d xs b o.0)))) (λ b. b) (cases_Bool (before d x.at))))
    (λ i. next_first xs p low high y d e o.1 (sym (next_there x xs p low high i) ∙ h) g r)
    (cases_Bool (in_range p low high x)))
  where
    not_before_itself : (a : Coordinate) → before a a ≡ false
    not_before_itself a = ⊎_elim (λ b. before_flip a a b) (λ b. b) (cases_Bool (before a a))

    all_before : (x : CopyRecord) (d : Coordinate) (xs : List CopyRecord) → before d x.at ≡ true → AllByRecursion (λ y. before x.at y.at ≡ true) xs → AllByRecursion (λ y. before d y.at ≡ true) xs
    all_before x d xs b a = (all_after d x xs b a).1

pub next_none : (xs : List CopyRecord) (p low high : ℕ) (d : Coordinate) (e : Entry) → next xs p low high ≡ None → find xs d ≡ Some e → in_range p low high (copy d e) ≡ false
next_none [] p low high d e h f = absurd (some_none (sym f))
next_none (x ∷ xs) p low high d e h f =
    ⊎_elim
    (λ i. absurd (some_none (sym (next_here x xs p low high i) ∙ h)))
    (λ i. by_same x.at d (λ s. in_range_at p low high x d e s ∙ i) (λ n. next_none xs p low high d e (sym (next_there x xs p low high i) ∙ h) (sym (find_there x xs d n) ∙ f)))
    (cases_Bool (in_range p low high x))

-- the next of a list with one more copy: that copy or the next of the list, whichever comes first
nearer_kept : (c : CopyRecord) (z : Option CopyRecord) → ((y : CopyRecord) → z ≡ Some y → before y.at c.at ≡ false) → nearer c z ≡ Some c
nearer_kept c None h = refl
nearer_kept c (Some y) h = cond-false (before y.at c.at) (Some y) (Some c) (h y refl)

nearer_other : (c y : CopyRecord) → before y.at c.at ≡ true → nearer c (Some y) ≡ Some y
nearer_other c y h = cond-true (before y.at c.at) (Some y) (Some c) h

by_range : (p low high : ℕ) (c : CopyRecord) (best w : Option CopyRecord) → (in_range p low high c ≡ true → w ≡ nearer c best) → (in_range p low high c ≡ false → w ≡ best) → w ≡ nearer_in_range p low high c best
by_range p low high c best w f g = cond_both (in_range p low high c) (nearer c best) best (λ o. w ≡ o) f g

pub next_put_absent : (xs : List CopyRecord) (c : Coordinate) (e : Entry) (p low high : ℕ) → Ordered xs → find xs c ≡ None → next (put xs c e) p low high ≡ nearer_in_range p low high (copy c e) (next xs p low high)
next_put_absent [] c e p low high o h = refl
next_put_absent (x ∷ xs) c e p low high o h =
    let parts = absent_parts x xs c h in
    by_put x xs c e (λ ys. next ys p low high ≡ nearer_in_range p low high (copy c e) (next (x ∷ xs) p low high))
    (λ b. ⊎_elim
    (λ i. next_here x (put xs c e) p low high i ∙ by_range p low high (copy c e) (next (x ∷ xs) p low high) (Some x) (λ _. sym (nearer_other (copy c e) x b) ∙ ap (nearer (copy c e)) (sym (next_here x xs p low high i))) (λ _. sym (next_here x xs p low high i)))
    (λ i. next_there x (put xs c e) p low high i ∙ (next_put_absent xs c e p low high o.1 parts.1 ∙ ap (nearer_in_range p low high (copy c e)) (sym (next_there x xs p low high i))))
    (cases_Bool (in_range p low high x)))
    (λ _ s. absurd (both_ways (same x.at c) parts.0 s))
    (λ b n. let later : AllByRecursion (λ y. before c y.at ≡ true) (x ∷ xs) = all_after c x xs (before_other x.at c b n) o.0 in
    by_range p low high (copy c e) (next (x ∷ xs) p low high) (next (copy c e ∷ (x ∷ xs)) p low high)
    (λ i. next_here (copy c e) (x ∷ xs) p low high i ∙ sym (nearer_kept (copy c e) (next (x ∷ xs) p low high) (λ y f. before_flip c y.at (next_all (λ z. before c z.at ≡ true) (x ∷ xs) p low high y later f))))
    (λ i. next_there (copy c e) (x ∷ xs) p low high i))
