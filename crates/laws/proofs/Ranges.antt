-- What the copies of a range of places do that all move.
use Rattle.std.proofs.Common.{◌≡◌, ℕ, Bool, true, false, ◌&&◌, ◌||◌, eqb, leb, List, [], ◌∷◌, Some, None, fold, filter, sym, refl, ap, ◌∙◌, subst, ⊎_elim}
use Rattle.std.specs.List.{AllByRecursion}
use Rattle.std.proofs.ByRecursion.{All-weaker, all_kept_by, kept_by_passes}
use Rattle.std.proofs.lemmas.Bool.{cases_Bool, cond-true, cond-false, eqb-true, eq-eqb, both_ways, and_parts, and_from, or_cases, or_parts}
use Rattle.copies.specs.declared.Coordinate.{Coordinate}
use Rattle.copies.specs.declared.Entry.{Entry}
use Rattle.copies.specs.declared.CopyRecord.{CopyRecord}
use Rattle.copies.specs.Copies.{same, before, Ordered, find, in_range}
use Rattle.copies.proofs.Coordinates.{same_itself, equal_from_same, apart_from_before}
use Rattle.copies.proofs.Facts.{find_here, find_there}
use Rattle.rules.specs.Handover.{spot, moved}
use Rattle.laws.proofs.Moves.{Handed, just}
use Rattle.laws.proofs.Composed.{handed_like}
use Rattle.laws.proofs.Queues.{any_of, Of, all_moved}

abbrev pub within : ℕ → ℕ → ℕ → ℕ → Bool
within low high r i = leb low i && leb i high

in_range_parts : (g low high : ℕ) (y : CopyRecord) → in_range g low high y ≡ true → (y.at.peer ≡ g) × (within low high y.at.replica y.at.place ≡ true)
unfolding in_range
in_range_parts g low high y h =
    let p = and_parts (eqb y.at.peer g) (leb low y.at.place && leb y.at.place high) h in
    (eqb-true y.at.peer g p.0, p.1)

range_from : (g low high r i : ℕ) (e : Entry) → within low high r i ≡ true → in_range g low high (record { at = spot g r i; held = e }) ≡ true
unfolding in_range
range_from g low high r i e w = and_from (eqb g g) (leb low i && leb i high) (eq-eqb g g refl) w

ordered_kept : (test : CopyRecord → Bool) (xs : List CopyRecord) → Ordered xs → Ordered (filter test xs)
ordered_kept test [] o = tt
ordered_kept test (x ∷ xs) o =
    ⊎_elim
    (λ t. subst Ordered (sym (cond-true (test x) (x ∷ filter test xs) (filter test xs) t)) (all_kept_by test (λ y. before x.at y.at ≡ true) xs o.0, ordered_kept test xs o.1))
    (λ f. subst Ordered (sym (cond-false (test x) (x ∷ filter test xs) (filter test xs) f)) (ordered_kept test xs o.1))
    (cases_Bool (test x))

-- every copy of an ordered list is found in it
self_found : (xs : List CopyRecord) → Ordered xs → AllByRecursion (λ y. find xs y.at ≡ Some y.held) xs
self_found [] o = tt
self_found (x ∷ xs) o =
    (find_here x xs x.at (same_itself x.at), later xs o.0 (self_found xs o.1))
  where
    later : (ys : List CopyRecord) → AllByRecursion (λ y. before x.at y.at ≡ true) ys → AllByRecursion (λ y. find xs y.at ≡ Some y.held) ys → AllByRecursion (λ y. find (x ∷ xs) y.at ≡ Some y.held) ys
    later [] l a = tt
    later (y ∷ ys) l a = (find_there x xs y.at (apart_from_before x.at y.at l.0) ∙ a.0, later ys l.1 a.1)

any_in : (P : ℕ → ℕ → Bool) (cs : List CopyRecord) (r i : ℕ) → AllByRecursion (λ y. P y.at.replica y.at.place ≡ true) cs → any_of cs r i ≡ true → P r i ≡ true
any_in P [] r i a t = absurd (both_ways false refl t)
any_in P (c ∷ cs) r i a t =
    ⊎_elim
    (λ h.
    let p = and_parts (eqb c.at.replica r) (eqb c.at.place i) h in
    subst (λ k. P r k ≡ true) (eqb-true c.at.place i p.1) (subst (λ k. P k c.at.place ≡ true) (eqb-true c.at.replica r p.0) a.0))
    (λ h. any_in P cs r i a.1 h)
    (or_cases (just c.at.replica c.at.place r i) (any_of cs r i) t)

-- what is in the range and not among its copies is not there
any_not : (xs : List CopyRecord) (g low high r i : ℕ) → within low high r i ≡ true → any_of (filter (in_range g low high) xs) r i ≡ false → find xs (spot g r i) ≡ None
any_not [] g low high r i w f = refl
any_not (x ∷ xs) g low high r i w f =
    ⊎_elim (λ s. absurd (is_not s)) (λ s. find_there x xs (spot g r i) s ∙ any_not xs g low high r i w (tail (in_range g low high x) refl)) (cases_Bool (same x.at (spot g r i)))
  where
    kept_here : in_range g low high x ≡ true → (just x.at.replica x.at.place r i || any_of (filter (in_range g low high) xs) r i) ≡ false
    kept_here e = subst (λ l. any_of l r i ≡ false) (cond-true (in_range g low high x) (x ∷ filter (in_range g low high) xs) (filter (in_range g low high) xs) e) f

    tail : (b : Bool) → in_range g low high x ≡ b → any_of (filter (in_range g low high) xs) r i ≡ false
    tail true e = (or_parts (just x.at.replica x.at.place r i) (any_of (filter (in_range g low high) xs) r i) (kept_here e)).1
    tail false e = subst (λ l. any_of l r i ≡ false) (cond-false (in_range g low high x) (x ∷ filter (in_range g low high) xs) (filter (in_range g low high) xs) e) f

    in_it : (c : Coordinate) (e : Entry) → c ≡ spot g r i → in_range g low high (record { at = c; held = e }) ≡ true
    in_it c e q = subst (λ d. in_range g low high (record { at = d; held = e }) ≡ true) (sym q) (range_from g low high r i e w)

    is_not : same x.at (spot g r i) ≡ true → ⊥
    is_not s =
        let q = equal_from_same x.at (spot g r i) s in
        let j : just x.at.replica x.at.place r i ≡ true = and_from (eqb x.at.replica r) (eqb x.at.place i) (eq-eqb x.at.replica r (ap (λ c. c.replica) q)) (eq-eqb x.at.place i (ap (λ c. c.place) q)) in
        both_ways (just x.at.replica x.at.place r i) (or_parts (just x.at.replica x.at.place r i) (any_of (filter (in_range g low high) xs) r i) (kept_here (in_it x.at x.held q))).0 j

-- the copies of g in the range, as another shelf had them, that this one has too
pub range_moved : (base sh : List CopyRecord) (x g low high : ℕ) → Ordered base → Ordered sh → (g ≡ x → ⊥) → ((r i : ℕ) → within low high r i ≡ true → find sh (spot g r i) ≡ find base (spot g r i)) → Handed sh (fold (moved x) sh (filter (in_range g low high) base)) x g (within low high)
range_moved base sh x g low high ob o n like =
    handed_like sh (fold (moved x) sh cs) x g (any_of cs) (within low high)
    (λ r i t. any_in (within low high) cs r i (All-weaker (λ y. in_range g low high y ≡ true) (λ y. within low high y.at.replica y.at.place ≡ true) (λ y k. (in_range_parts g low high y k).1) cs passes) t)
    (λ r i w f. like r i w ∙ any_not base g low high r i w f)
    (all_moved sh x g cs o (ordered_kept (in_range g low high) base ob) n (found cs passes (all_kept_by (in_range g low high) (λ y. find base y.at ≡ Some y.held) base (self_found base ob))))
  where
    cs : List CopyRecord
    cs = filter (in_range g low high) base

    passes : AllByRecursion (λ y. in_range g low high y ≡ true) (filter (in_range g low high) base)
    passes = kept_by_passes (in_range g low high) base

    found : (ys : List CopyRecord) → AllByRecursion (λ y. in_range g low high y ≡ true) ys → AllByRecursion (λ y. find base y.at ≡ Some y.held) ys → AllByRecursion (Of g sh) ys
    found [] a b = tt
    found (y ∷ ys) a b =
        let p = in_range_parts g low high y a.0 in
        let e : y.at ≡ spot g y.at.replica y.at.place = ap (λ k. spot k y.at.replica y.at.place) p.0 in
        ((p.0, ap (find sh) e ∙ (like y.at.replica y.at.place p.1 ∙ (ap (find base) (sym e) ∙ b.0))), found ys a.1 b.1)
