-- A whole handover: the copies of an arc, which is one range of places or two.
use Rattle.std.proofs.Common.{◌≡◌, ℕ, ◌+◌, ◌-◌, ◌<◌, Bool, true, false, cond, ◌||◌, eqb, ltb, List, [], ◌∷◌, ◌++◌, fold, filter, sym, refl, subst, arith}
use Rattle.std.proofs.lemmas.Bool.{cond-false, ne_eqb}
use Rattle.std.proofs.lemmas.Bool.Decides.{nat_tests}
use Rattle.circle.specs.Circle.{distance, in_arc}
use Rattle.copies.specs.declared.CopyRecord.{CopyRecord}
use Rattle.copies.specs.Copies.{Ordered, in_range}
use Rattle.rules.specs.Handover.{moved, owed, handed, handover}
use Rattle.laws.proofs.Moves.{Handed}
use Rattle.laws.proofs.Composed.{none_handed, both_handed}
use Rattle.laws.proofs.Ranges.{within, range_moved}

-- the ranges of places that make the arc
abbrev pub on_arc : ℕ → ℕ → ℕ → ℕ → ℕ → Bool
on_arc n a e r i = cond (ltb a e) (within (a + 1) e r i) (cond (ltb e a) (within (a + 1) (n - 1) r i || within 0 e r i) false)

pub on_arc_lem : (n a e r i : ℕ) → a < n → e < n → i < n → on_arc n a e r i ≡ in_arc n a e i
unfolding in_arc distance
on_arc_lem n a e r i a< e< i< = grind (arith, nat_tests)

folded_append : {A B : Type 0} (f : B → A → B) (b : B) (xs ys : List A) → fold f b (xs ++ ys) ≡ fold f (fold f b xs) ys
folded_append f b [] ys = refl
folded_append f b (x ∷ xs) ys = folded_append f (f b x) xs ys

pub handover_hands : (n x g a e : ℕ) (sh : List CopyRecord) → Ordered sh → (g ≡ x → ⊥) → Handed sh (handover n x g a e sh) x g (on_arc n a e)
unfolding handover handed owed
handover_hands n x g a e sh o ne =
    let H : List CopyRecord → Type 0 = λ cs. Handed sh (fold (moved x) sh cs) x g (on_arc n a e) in
    subst H (sym (cond-false (eqb x g) [] (owed n g a e sh) (ne_eqb x g (λ k. ne (sym k))))) (by_arc (ltb a e) refl (ltb e a) refl)
  where
    one : List CopyRecord
    one = filter (in_range g (a + 1) e) sh

    upper : List CopyRecord
    upper = filter (in_range g (a + 1) (n - 1)) sh

    lower : List CopyRecord
    lower = filter (in_range g 0 e) sh

    by_arc : (b : Bool) → ltb a e ≡ b → (d : Bool) → ltb e a ≡ d → Handed sh (fold (moved x) sh (cond (ltb a e) one (cond (ltb e a) (upper ++ lower) []))) x g (λ r i. cond (ltb a e) (within (a + 1) e r i) (cond (ltb e a) (within (a + 1) (n - 1) r i || within 0 e r i) false))
    by_arc true s d t = rw s (range_moved sh sh x g (a + 1) e o o ne (λ r i w. refl))
    by_arc false s true t =
        let first = range_moved sh sh x g (a + 1) (n - 1) o o ne (λ r i w. refl) in
        let sh₂ : List CopyRecord = fold (moved x) sh upper in
        let apart-ranges : (r i : ℕ) → within 0 e r i ≡ true → within (a + 1) (n - 1) r i ≡ false = λ r i w. grind (arith, nat_tests) in
        let second = range_moved sh sh₂ x g 0 e o first.ordered ne (λ r i w. first.giver_keeps r i (apart-ranges r i w)) in
        rw (s, t, folded_append (moved x) sh upper lower) (both_handed sh sh₂ (fold (moved x) sh₂ lower) x g (within (a + 1) (n - 1)) (within 0 e) first second)
    by_arc false s false t = rw (s, t) (none_handed sh x g o)
