-- The order of coordinates: one of `before a b`, `same a b` and `before b a` holds, and `before` goes through.
use Rattle.std.proofs.Common.{◌≡◌, ℕ, true, false, ap, ◌∙◌, arith}
use Rattle.std.proofs.lemmas.Bool.Decides.{nat_tests}
use Rattle.copies.specs.declared.Coordinate.{Coordinate}
use Rattle.copies.specs.Copies.{same, before}

pub same_itself : (a : Coordinate) → same a a ≡ true
unfolding same
same_itself a = grind (arith, nat_tests)

made : ℕ → ℕ → ℕ → Coordinate
made p r q = record { peer = p; replica = r; place = q }

pub equal_from_same : (a b : Coordinate) → same a b ≡ true → a ≡ b
unfolding same made
equal_from_same a b h =
    let p : a.peer ≡ b.peer = grind (arith, nat_tests) in
    let q : a.place ≡ b.place = grind (arith, nat_tests) in
    let r : a.replica ≡ b.replica = grind (arith, nat_tests) in
    ap (λ x. made x a.replica a.place) p ∙ (ap (λ x. made b.peer x a.place) r ∙ ap (λ x. made b.peer b.replica x) q)

pub same_flip : (a b : Coordinate) → same a b ≡ same b a
unfolding same
same_flip a b = grind (arith, nat_tests)

pub apart_from_before : (a b : Coordinate) → before a b ≡ true → same a b ≡ false
unfolding same before
apart_from_before a b h = grind (arith, nat_tests)

pub before_flip : (a b : Coordinate) → before a b ≡ true → before b a ≡ false
unfolding before
before_flip a b h = grind (arith, nat_tests)

pub before_through : (a b c : Coordinate) → before a b ≡ true → before b c ≡ true → before a c ≡ true
unfolding before
before_through a b c h k = grind (arith, nat_tests)

pub before_other : (a b : Coordinate) → before a b ≡ false → same a b ≡ false → before b a ≡ true
unfolding same before
before_other a b h k = grind (arith, nat_tests)
