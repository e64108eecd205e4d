-- An answer that is no refusal is the nearest member. Assumes nothing.
use Rattle.std.proofs.Common.{◌≡◌, ℕ, ◌<◌, Bool, true, false, cond, List, [], ◌∷◌, Some, None, Err, Option, Result, sym, refl, ap, ◌∙◌, subst, arith}
use Rattle.faults.specs.declared.Fault.{Fault}
use Rattle.faults.specs.Checks.{unless}
use Rattle.circle.specs.Owners.{Member, Owner, owner}
use Rattle.circle.proofs.Searches.{owner_is}
use Rattle.questions.specs.Coded.{coded, refusal_base}
use Rattle.questions.specs.Members.{found}

-- below the refusals, every check was passed
passed : (cs : List (Bool × Fault)) (r : Result ℕ Fault) → coded (unless cs r) < refusal_base → unless cs r ≡ r
passed [] r h = refl
passed (c ∷ cs) r h = one c.0 c.1 (unless cs r) h (passed cs r)
  where
    one : (t : Bool) (e : Fault) (s : Result ℕ Fault) → coded (cond t (Err e) s) < refusal_base → (coded s < refusal_base → s ≡ r) → cond t (Err e) s ≡ r
    one true e s less _ = absurd (omega arith)
    one false e s less rest = rest less

found_below : (o : Option ℕ) (x : ℕ) → coded (found o) ≡ x → x < refusal_base → o ≡ Some x
found_below None x e h = absurd (omega arith)
found_below (Some p) x e h = ap Some e

pub nearest_below : (n i : ℕ) (members : List ℕ) (cs : List (Bool × Fault)) (x : ℕ) → x ≡ coded (unless cs (found (owner n members i))) → x < refusal_base → Owner n (λ q. Member q members) i x
nearest_below n i members cs x e h =
    let all = passed cs (found (owner n members i)) (subst (λ y. y < refusal_base) e h) in
    owner_is n members i x (found_below (owner n members i) x (sym (e ∙ ap coded all)) h)
