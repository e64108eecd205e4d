-- A look at each position of a post in turn gives its messages; what they come to, and what is left without a question's. Assumes nothing.
use Rattle.std.proofs.Common.{◌≡◌, ℕ, suc, ◌+◌, true, false, cond, not, List, [], ◌∷◌, length, Some, None, Option, sym, refl, ap, ◌∙◌, ◌≤◌, arith, one-add}
use Rattle.std.specs.List.{slice_get, filter, filter_map, range_with_len, count_by, position, position_or_len, remove}
use Rattle.std.proofs.lemmas.Grind.{common_steps}
use Rattle.std.proofs.lemmas.List.{take_all, drop_all, append-nil}
use Rattle.std.proofs.lemmas.List.Sums.{length-filter}
use Rattle.std.proofs.lemmas.List.Recursion.{is_count_by}
use Rattle.messages.specs.declared.Message.{Message}
use Rattle.rules.specs.State.{is_add, asks, adds, unasked}

looked_from : (f : ℕ → Option Message) (i : ℕ) (ms : List Message) → ((k : ℕ) → f (i + k) ≡ slice_get ms k) → filter_map f (range_with_len i (length ms)) ≡ ms
looked_from f i [] h = refl
looked_from f i (m ∷ ms) h =
    let here : f i ≡ Some m = ap f (omega arith) ∙ h 0 in
    let rest = looked_from f (i + 1) ms (λ k. ap f (omega arith) ∙ h (suc k)) in
    rw (here, rest)

pub looked_at : (n : ℕ) (ms : List Message) → n ≡ length ms → filter_map (slice_get ms) (range_with_len 0 n) ≡ ms
looked_at n ms e = rw e (looked_from (slice_get ms) 0 ms (λ k. ap (slice_get ms) (omega arith)))

adds_counted : (ms : List Message) → count_by is_add ms ≡ adds ms
adds_counted ms = sym (is_count_by adds is_add refl (λ m ms. search arith) ms)

pub adds_looked_at : (n : ℕ) (ms : List Message) → n ≡ length ms → length (filter is_add (filter_map (slice_get ms) (range_with_len 0 n))) ≡ adds ms
adds_looked_at n ms e = rw (looked_at n ms e) (length-filter is_add ms ∙ adds_counted ms)

-- ---- without the first message that asks

left : (q : ℕ) (ms : List Message) → remove ms (position_or_len (asks q) ms) ≡ unasked q ms
left q [] = refl
left q (m ∷ ms) =
    elim (asks q m) as (λ b. remove (m ∷ ms) (cond (not b) (1 + position_or_len (asks q) ms) 0) ≡ cond b ms (m ∷ unasked q ms)) [
      | true ↦ refl
      | false ↦ rw one-add (ap (λ l. m ∷ l) (left q ms))
    ]

pub taken : (q : ℕ) (ms : List Message) (n : ℕ) → Some n ≡ position (asks q) ms → remove ms n ≡ unasked q ms
taken q ms n e =
    let at : n ≡ position_or_len (asks q) ms = grind (arith, common_steps) in
    ap (remove ms) at ∙ left q ms

pub none_taken : (q : ℕ) (ms : List Message) → None ≡ position (asks q) ms → ms ≡ unasked q ms
none_taken q ms e =
    let at = position_or_len (asks q) ms in
    let past : length ms ≤ at = grind (arith, common_steps) in
    sym (rw (take_all at ms past, drop_all (suc at) ms (omega arith)) (append-nil ms)) ∙ left q ms
