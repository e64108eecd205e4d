-- What `min_by_key` finds among identifiers is what the search over their list finds. Assumes nothing.
use Rattle.std.proofs.Common.{◌≡◌, ℕ, cond, ltb, List, [], ◌∷◌, Some, None, Option, sym, refl, ap, ◌∙◌, subst, arith}
use Rattle.std.proofs.lemmas.Bool.Decides.{nat_tests}
use Rattle.std.proofs.lemmas.Iterator.{YieldsList}
use Rattle.std.proofs.lemmas.Iterator.Consumers.{YieldsList-end}
use Rattle.std.proofs.lemmas.List.{map-id}
use Rattle.std.specs.Fn.{CalledAt}
use Rattle.std.specs.Iterator.{Drains, KeyTurn, PicksMinByKey}
use Rattle.std.specs.List.{FoldsTo}
use Rattle.std.specs.Ordering.{nat_cmp, min_by_ordering}
use Rattle.std.specs.declared.cmp.Ordering.{Ordering}
use Rattle.std.specs.declared.cmp.Ordering.TheVariants.{Less, Equal, Greater}
use denote.Param.Members.{Mut}
use denote.Ref.{Bor}
use Rattle.circle.specs.Owners.{least_from}

-- the later one is taken only if its key is smaller
picked : (j k b x : ℕ) → min_by_ordering (nat_cmp j k) b x ≡ cond (ltb k j) x b
picked j k b x = grind (arith, nat_tests)

drained : {S : Type 0} {steps : S → Option ℕ → S → Type 0} {s : S} {all : List ℕ} (xs : List ℕ) → Drains steps s xs → YieldsList steps (λ x. x) s all → xs ≡ all
drained xs ran road = sym (map-id xs) ∙ (YieldsList-end road xs ran.1.0 ran.1.1 None ran.0 refl ran.1.2).0

module _ {F : Type 0} (g : Mut F (Bor ℕ × Unit {0}) ℕ) (key : ℕ → ℕ) (f : F) (call : (x k : ℕ) (q : F) → CalledAt g f x k q → (q ≡ f) × (k ≡ key x)) where
  moved : (o : Ordering) (b x : ℕ) → min_by_ordering o (key b) (key x) ≡ key (min_by_ordering o b x)
  moved Less b x = refl
  moved Equal b x = refl
  moved Greater b x = refl

  turns : (xs : List ℕ) (b k : ℕ) (h : F) (q : F × ℕ) (y : ℕ) → h ≡ f → k ≡ key b → FoldsTo {P = (F × ℕ) × ℕ} (KeyTurn min_by_ordering min_by_ordering g nat_cmp) ((h, k), b) xs (q, y) → Some y ≡ least_from key (Some b) xs
  turns [] b k h q y same is m = ap (λ p. Some p.1) (sym m)
  turns (x ∷ xs) b k h q y same is m =
      let j = m.0 in
      let t = m.1 in
      let said = call x t.0 j.0.0 (subst (λ v. CalledAt g v x t.0 j.0.0) same t.2) in
      let best : j.1 ≡ cond (ltb (key x) (key b)) x b = t.5 ∙ ap (λ o. min_by_ordering o b x) (sym t.3) ∙ picked k t.0 b x ∙ ap (λ m. cond (ltb t.0 m) x b) is ∙ ap (λ m. cond (ltb m (key b)) x b) said.1 in
      let keyed : j.0.1 ≡ key j.1 = t.4 ∙ ap (λ m. min_by_ordering t.1 m t.0) is ∙ ap (min_by_ordering t.1 (key b)) said.1 ∙ moved t.1 b x ∙ ap key (sym t.5) in
      turns xs j.1 j.0.1 j.0.0 q y said.0 keyed m.2 ∙ ap (λ c. least_from key (Some c) xs) best

  pub nearest_is : {S : Type 0} {steps : S → Option ℕ → S → Type 0} {s : S} {all : List ℕ} (r : Option ℕ) → PicksMinByKey steps g nat_cmp s f r → YieldsList steps (λ x. x) s all → r ≡ least_from key None all
  nearest_is None ran road = ap (least_from key None) (drained [] ran road)
  nearest_is (Some y) ran road =
      let first = call ran.0 ran.2 ran.3 ran.6 in
      turns ran.1 ran.0 ran.2 ran.3 ran.4 y first.0 first.1 ran.7 ∙ ap (least_from key None) (drained (ran.0 ∷ ran.1) ran.5 road)
