-- What the owner's answer is once the settings and the identifier were accepted. Assumes nothing.
use Rattle.std.proofs.Common.{◌≡◌, ℕ, Bool, true, false, cond, List, [], ◌∷◌, Some, None, Ok, Err, Option, refl, ap, ◌∙◌}
use Rattle.std.specs.Option.{ok_or}
use Rattle.faults.specs.declared.Fault.{Fault}
use Rattle.faults.specs.declared.Fault.TheVariants.{Size, Identifier, Bytes, NoMember}
use Rattle.faults.specs.Checks.{first_fault, answered}
use Rattle.circle.specs.Owners.{owner}
use Rattle.arithmetic.specs.Settled.{size_check, settings_checks}
use Rattle.arithmetic.specs.Checks.{identifier_check}
use Rattle.questions.specs.Members.{members_of, bad_members, found, owner_answer}

size_passed : (b : Bool) (e : Fault) (o : Option Fault) → cond b (Some e) o ≡ None → b ≡ false
size_passed true e o h = cc
size_passed false e o h = refl

identifier_passed : (b : Bool) (e : Fault) (p i : ℕ) → Ok p ≡ cond b (Err e) (Ok i) → (b ≡ false) × (p ≡ i)
identifier_passed true e p i h = cc
identifier_passed false e p i h = (refl, cc)

pub found_is : (o : Option ℕ) → ok_or o NoMember ≡ found o
found_is None = refl
found_is (Some p) = refl

module _ (n i m p : ℕ) (bytes : List ℕ) (made : first_fault (settings_checks n 1) ≡ None) (same : m ≡ n) (kept : Ok p ≡ answered (identifier_check m i ∷ []) i) where
  identifier_kept : ((identifier_check n i).0 ≡ false) × (p ≡ i)
  identifier_kept =
      identifier_passed (identifier_check n i).0 Identifier p i (kept ∙ ap (λ k. answered (identifier_check k i ∷ []) i) same)

  pub owner_passed : owner_answer n i bytes ≡ cond (bad_members n bytes) (Err Bytes) (found (owner n (members_of bytes) i))
  owner_passed =
      let rest = cond (bad_members n bytes) (Err Bytes) (found (owner n (members_of bytes) i)) in
      ap (λ b. cond b (Err Size) (cond (identifier_check n i).0 (Err Identifier) rest)) (size_passed (size_check n).0 Size _ made)
      ∙ ap (λ b. cond b (Err Identifier) rest) identifier_kept.0

  pub place_kept : p ≡ i
  place_kept = identifier_kept.1
