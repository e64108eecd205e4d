-- What `array::from_fn` makes of a closure that computes a function is that function's row. Assumes nothing.
use Rattle.std.proofs.Common.{◌≡◌, ℕ, zero, suc, ◌+◌, ◌<◌, ◌≤◌, List, map, get_or, sym, refl, ap, ◌∙◌, subst, ⊎_elim, arith}
use Rattle.std.proofs.lemmas.Bool.{cases_eq}
use Rattle.std.proofs.lemmas.List.FromFn.{fill_by_all}
use Rattle.std.specs.Array.{IsFromFnResult, IsFromFnResultFrom}
use Rattle.std.specs.Fn.{Called}
use Rattle.std.specs.List.{range_with_len}
use denote.Param.Members.{Mut}

module _ {F : Type 0} (g : Mut F (ℕ × Unit {0}) ℕ) (h : ℕ → ℕ) (f : F) (call : (i y : ℕ) (q : F) → Called g f (i, tt) y q → (q ≡ f) × (y ≡ h i)) where
  made_at : (ys : List ℕ) (n i : ℕ) (p : F) → p ≡ f → IsFromFnResultFrom g p ys i n → (k : ℕ) → i ≤ k → k < i + n → get_or ys k 0 ≡ h k
  made_at ys zero i p same m k low high = absurd (omega arith)
  made_at ys (suc n) i p same m k low high =
      let said = call i m.1 m.0 (subst (λ v. Called g v (i, tt) m.1 m.0) same m.3) in
      ⊎_elim
      (λ (e : k ≡ i). ap (λ j. get_or ys j 0) e ∙ m.2.1 0 ∙ said.1 ∙ ap h (sym e))
      (λ (other : k ≡ i → ⊥). made_at ys n (i + 1) m.0 said.0 m.4 k (omega arith) (omega arith))
      (cases_eq k i)

  pub row_made : (ys : List ℕ) (n : ℕ) → IsFromFnResult g f ys n → ys ≡ map h (range_with_len 0 n)
  row_made ys n m = fill_by_all h ys n 0 m.long (λ k less. made_at ys n 0 f refl m.each k (omega arith) (omega arith))
