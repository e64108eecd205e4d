-- Membership and totals of lists, and what taking the element at a position does to them.
use Rattle.std.proofs.Common.{◌≡◌, ℕ, zero, suc, ◌+◌, ◌*◌, ◌≤◌, ◌⊎◌, List, [], ◌∷◌, ◌++◌, length, Some, sym, refl, ap, ◌∙◌, inl, inr, ⊎_elim, add_assoc, zero-add, arith}
use Rattle.std.proofs.lemmas.Option.{same_Some}
use Rattle.std.specs.List.{remove, slice_get}
use Rattle.copies.proofs.Facts.{some_none}

abbrev pub Mem : {X : Type 0} → X → List X → Type 0
Mem x [] = ⊥
Mem x (y ∷ ys) = (x ≡ y) ⊎ Mem x ys

pub mem_left : {X : Type 0} (x : X) (xs ys : List X) → Mem x xs → Mem x (xs ++ ys)
mem_left x [] ys m = absurd m
mem_left x (y ∷ xs) ys m = ⊎_elim (λ e. inl e) (λ k. inr (mem_left x xs ys k)) m

pub mem_right : {X : Type 0} (x : X) (xs ys : List X) → Mem x ys → Mem x (xs ++ ys)
mem_right x [] ys m = m
mem_right x (y ∷ xs) ys m = inr (mem_right x xs ys m)

pub mem_either : {X : Type 0} (x : X) (xs ys : List X) → Mem x (xs ++ ys) → Mem x xs ⊎ Mem x ys
mem_either x [] ys m = inr m
mem_either x (y ∷ xs) ys m =
    ⊎_elim (λ e. inl (inl e)) (λ k. ⊎_elim (λ a. inl (inr a)) (λ b. inr b) (mem_either x xs ys k)) m

pub mem_push : {X : Type 0} (x : X) (xs : List X) → Mem x (xs ++ x ∷ [])
mem_push x xs = mem_right x xs (x ∷ []) (inl refl)

pub mem_pushed : {X : Type 0} (x y : X) (xs : List X) → Mem x (xs ++ y ∷ []) → Mem x xs ⊎ (x ≡ y)
mem_pushed x y xs m = ⊎_elim (λ a. inl a) (λ b. ⊎_elim (λ e. inr e) (λ z. absurd z) b) (mem_either x xs (y ∷ []) m)

abbrev pub total : {X : Type 0} → (X → ℕ) → List X → ℕ
total f [] = 0
total f (x ∷ xs) = f x + total f xs

pub total_append : {X : Type 0} (f : X → ℕ) (xs ys : List X) → total f (xs ++ ys) ≡ total f xs + total f ys
total_append f [] ys = sym (zero-add (total f ys))
total_append f (x ∷ xs) ys = ap (λ k. f x + k) (total_append f xs ys) ∙ sym (add_assoc (f x) (total f xs) (total f ys))

pub total_push : {X : Type 0} (f : X → ℕ) (xs : List X) (y : X) → total f (xs ++ y ∷ []) ≡ total f xs + f y
total_push f xs y = omega (arith, total_append f xs (y ∷ []))

-- a member's share is within the total
pub total_has : {X : Type 0} (f : X → ℕ) (x : X) (xs : List X) → Mem x xs → f x ≤ total f xs
total_has f x [] m = absurd m
total_has f x (y ∷ xs) m = ⊎_elim (λ e. omega (arith, ap f e)) (λ k. omega (arith, total_has f x xs k)) m

pub total_zero : {X : Type 0} (f : X → ℕ) (xs : List X) → ((x : X) → Mem x xs → f x ≡ 0) → total f xs ≡ 0
total_zero f [] h = refl
total_zero f (x ∷ xs) h = omega (arith, h x (inl refl), total_zero f xs (λ y m. h y (inr m)))

pub total_like : {X : Type 0} (f g : X → ℕ) (xs : List X) → ((x : X) → f x ≡ g x) → total f xs ≡ total g xs
total_like f g [] h = refl
total_like f g (x ∷ xs) h = omega (arith, h x, total_like f g xs h)

pub total_at_most_two : {X : Type 0} (f : X → ℕ) (xs : List X) → ((x : X) → f x ≤ 2) → total f xs ≤ 2 * length xs
total_at_most_two f [] h = omega arith
total_at_most_two f (x ∷ xs) h = omega (arith, h x, total_at_most_two f xs h)

-- the list about the position n
pub record Around {X : Type 0} (xs : List X) (n : ℕ) (y : X) : Type 0 where
  pub front : List X
  pub back : List X
  pub whole : xs ≡ front ++ y ∷ back
  pub rest : remove xs n ≡ front ++ back

pub around : {X : Type 0} (xs : List X) (n : ℕ) (y : X) → slice_get xs n ≡ Some y → Around xs n y
around [] n y e = absurd (some_none (sym e))
around (x ∷ xs) zero y e =
    record { front = []; back = xs; whole = ap (λ z. z ∷ xs) (same_Some x y e); rest = refl }
around (x ∷ xs) (suc n) y e =
    let r = around xs n y e in
    record { front = x ∷ r.front; back = r.back; whole = ap (λ z. x ∷ z) r.whole; rest = ap (λ z. x ∷ z) r.rest }

module _ {X : Type 0} (xs : List X) (n : ℕ) (y : X) (at_n : slice_get xs n ≡ Some y) where
  pub taken_mem : Mem y xs
  taken_mem = let r = around xs n y at_n in rw r.whole (mem_right y r.front (y ∷ r.back) (inl refl))

  pub taken_from : (x : X) → Mem x (remove xs n) → Mem x xs
  taken_from x m =
      let r = around xs n y at_n in
      let k : Mem x (r.front ++ r.back) = rw r.rest at m in
      rw r.whole (⊎_elim (λ a. mem_left x r.front (y ∷ r.back) a) (λ b. mem_right x r.front (y ∷ r.back) (inr b)) (mem_either x r.front r.back k))

  pub taken_or : (x : X) → Mem x xs → (x ≡ y) ⊎ Mem x (remove xs n)
  taken_or x m =
      let r = around xs n y at_n in
      let k : Mem x (r.front ++ y ∷ r.back) = rw r.whole at m in
      let P : Type 0 = (x ≡ y) ⊎ Mem x (r.front ++ r.back) in
      let h : P = ⊎_elim (λ a. inr (mem_left x r.front r.back a)) (λ b. ⊎_elim (λ e. inl e) (λ c. inr (mem_right x r.front r.back c)) b) (mem_either x r.front (y ∷ r.back) k) in
      rw r.rest h

  pub taken_total : (f : X → ℕ) → total f xs ≡ f y + total f (remove xs n)
  taken_total f =
      let r = around xs n y at_n in
      let a : total f xs ≡ total f r.front + (f y + total f r.back) = ap (total f) r.whole ∙ total_append f r.front (y ∷ r.back) in
      let b : total f (remove xs n) ≡ total f r.front + total f r.back = ap (total f) r.rest ∙ total_append f r.front r.back in
      omega arith
