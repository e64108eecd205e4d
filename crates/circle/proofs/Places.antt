-- The laws of an item's places. Assumes nothing.
use Rattle.std.proofs.Common.{◌≡◌, ℕ, ◌+◌, ◌-◌, ◌*◌, ◌/◌, ◌%◌, ◌<◌, ◌≤◌, ◌⊎◌, sym, ap, ◌∙◌, add-zero, add_assoc, mul-le-mul_right, mod-lt, mod-eq_of_lt, add-mul, one-mul, mul-zero, zero-mul, arith}
use native.Mathlib.Nat.{mod-eq-sub-mod, mod-add-mod, add-mod_right, div-add-mod}
use Rattle.circle.specs.Circle.{place, item_at}
use Rattle.circle.specs.Laws.{PlaceLaws, PlaceLawsHold}

-- less than twice round is either as it is or once round
pub mod_cases : (n x : ℕ) → x < n + n → ((x < n) × (x % n ≡ x)) ⊎ ((n ≤ x) × (x % n ≡ x - n))
mod_cases n x h = grind (arith, mod-eq-sub-mod, mod-eq_of_lt)

-- a step of t forward and the same step back, either way round
back_from : (n k t : ℕ) → k < n → t ≤ n → ((k + t) % n + n - t) % n ≡ k
back_from n k t k< t≤ = grind (arith, mod-eq-sub-mod, mod-eq_of_lt)

on_from : (n i t : ℕ) → i < n → t ≤ n → ((i + n - t) % n + t) % n ≡ i
on_from n i t i< t≤ =
    mod-add-mod (i + n - t) n t ∙ (let e : i + n - t + t ≡ i + n = omega arith in ap (λ x. x % n) e) ∙ add-mod_right i n ∙ mod-eq_of_lt i<

module _ (n f : ℕ) (n> : 0 < n) (f> : 0 < f) (divides : n % f ≡ 0) where
  -- f steps of n / f go round once
  round : f * (n / f) ≡ n
  round = omega (arith, div-add-mod n f)

  step_some : 0 < n / f
  step_some = grind (arith, round, mul-zero f)

  -- r - 1 steps go at most once round
  reach : (r : ℕ) → r ≤ f → (r - 1) * (n / f) ≤ n
  reach r h = let less : r - 1 ≤ f = omega arith in omega (arith, mul-le-mul_right (n / f) less, round)

  -- from replica r on to q there are q - r steps
  steps : (r q : ℕ) → 1 ≤ r → r ≤ q → (q - 1) * (n / f) ≡ (r - 1) * (n / f) + (q - r) * (n / f)
  steps r q a b = let e : q - 1 ≡ (r - 1) + (q - r) = omega arith in ap (λ x. x * (n / f)) e ∙ add-mul (r - 1) (q - r) (n / f)

  one_step : (r : ℕ) → 1 ≤ r → (r + 1 - 1) * (n / f) ≡ (r - 1) * (n / f) + n / f
  one_step r h =
      steps r (r + 1) h (omega arith) ∙ (let e : r + 1 - r ≡ 1 = omega arith in ap (λ x. (r - 1) * (n / f) + x * (n / f)) e) ∙ ap (λ x. (r - 1) * (n / f) + x) (one-mul (n / f))

  -- some steps of n / f, fewer than go round, lead elsewhere
  elsewhere : (m b : ℕ) → m < n → 0 < b → b < n → m ≡ (m + b) % n → ⊥
  elsewhere m b m< some less e = grind (arith, mod_cases n (m + b))

  between : (r q : ℕ) → r < q → q - r < f → (0 < (q - r) * (n / f)) × ((q - r) * (n / f) < n)
  between r q less most =
      let one : 1 ≤ q - r = omega arith in
      let last : (q - r) + 1 ≤ f = omega arith in
      let low = mul-le-mul_right (n / f) one in
      let high = mul-le-mul_right (n / f) last in
      (omega (arith, low, one-mul (n / f), step_some), omega (arith, high, add-mul (q - r) 1 (n / f), one-mul (n / f), step_some, round))

  apart : (k r q : ℕ) → 1 ≤ r → r < q → q ≤ f → (k + (r - 1) * (n / f)) % n ≡ (k + (q - 1) * (n / f)) % n → ⊥
  apart k r q r≥ less most e =
      let far = between r q less (omega arith) in
      let sum : k + (q - 1) * (n / f) ≡ k + (r - 1) * (n / f) + (q - r) * (n / f) = omega (arith, steps r q r≥ (omega arith)) in
      elsewhere ((k + (r - 1) * (n / f)) % n) ((q - r) * (n / f)) (mod-lt (k + (r - 1) * (n / f)) n>) far.0 far.1
      (e ∙ ap (λ x. x % n) sum ∙ sym (mod-add-mod (k + (r - 1) * (n / f)) n ((q - r) * (n / f))))

  around : (k : ℕ) → (k + (f + 1 - 1) * (n / f)) % n ≡ (k + (1 - 1) * (n / f)) % n
  around k =
      let all : f + 1 - 1 ≡ f = omega arith in
      ap (λ x. (k + x * (n / f)) % n) all ∙ ap (λ x. (k + x) % n) round ∙ add-mod_right k n ∙ ap (λ x. x % n) (sym (add-zero k)) ∙ ap (λ x. (k + x) % n) (sym (zero-mul (n / f)))

  pub place_laws_at : PlaceLaws n f
  unfolding place item_at
  place_laws_at = record {
    below = λ k r. mod-lt (k + (r - 1) * (n / f)) n>;
    first = λ k k<. ap (λ x. (k + x) % n) (zero-mul (n / f)) ∙ ap (λ x. x % n) (add-zero k) ∙ mod-eq_of_lt k<;
    spaced = λ k r r≥. ap (λ x. (k + x) % n) (one_step r r≥) ∙ ap (λ x. x % n) (sym (add_assoc k ((r - 1) * (n / f)) (n / f))) ∙ sym (mod-add-mod (k + (r - 1) * (n / f)) n (n / f));
    apart = apart;
    around = around;
    item_back = λ k r k< r≤. back_from n k ((r - 1) * (n / f)) k< (reach r r≤);
    place_back = λ i r i< r≤. on_from n i ((r - 1) * (n / f)) i< (reach r r≤);
  }

pub place_laws : PlaceLawsHold
place_laws n f n> f> divides = place_laws_at n f n> f> divides
