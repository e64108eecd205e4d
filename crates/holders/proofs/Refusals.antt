-- What an answer says of the refusal's test, and what holds of a holder that keeps nothing.
use Rattle.std.proofs.Common.{◌≡◌, ℕ, Bool, true, false, cond, List, [], length, Some, Ok, Err, Option, Result, sym, refl, ap, ◌∙◌, arith}
use Rattle.std.proofs.lemmas.List.{nil_from_length}
use Rattle.std.proofs.lemmas.Bool.{both_ways}
use Rattle.copies.specs.declared.Coordinate.{Coordinate}
use Rattle.copies.specs.declared.Entry.{Entry}
use Rattle.copies.specs.declared.CopyRecord.{CopyRecord}
use Rattle.copies.specs.Copies.{find, put}
use Rattle.copies.proofs.Facts.{find_put}

pub accepted : {X E : Type 0} (b : Bool) (r : Result X E) (e : E) (x y : X) → r ≡ cond b (Err e) (Ok x) → r ≡ Ok y → b ≡ false
accepted true r e x y h k = let z : ◌≡◌ {A = ℕ} 0 1 = cc in absurd (omega arith)
accepted false r e x y h k = refl

pub refused : {X E : Type 0} (b : Bool) (r : Result X E) (e f : E) (x : X) → r ≡ cond b (Err e) (Ok x) → r ≡ Err f → (b ≡ true) × (f ≡ e)
refused true r e f x h k = (refl, cc)
refused false r e f x h k = let z : ◌≡◌ {A = ℕ} 0 1 = cc in absurd (omega arith)

-- an emptied holder's meaning is empty
pub nothing_kept : {X : Type 0} (xs : List X) (n m : ℕ) → n ≡ length xs → n ≡ m → m ≡ 0 → xs ≡ []
nothing_kept xs n m h k z = nil_from_length xs (sym h ∙ (k ∙ z))

-- what was put is found, unless it was refused
pub found_again : {E : Type 0} (b : Bool) (m after : List CopyRecord) (c : Coordinate) (v : Entry) (r : Option Entry) (e : E) → b ≡ false → after ≡ cond b m (put m c v) → r ≡ find after c → ◌≡◌ {A = Result (Option Entry) E} (Ok r) (cond b (Err e) (Ok (Some v)))
found_again true m after c v r e h p q = let z : ◌≡◌ {A = Bool} false true = cc in absurd (both_ways false refl (z))
found_again false m after c v r e h p q = ap Ok (q ∙ (ap (λ n. find n c) p ∙ find_put m c v))
