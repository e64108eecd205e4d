-- What the two searches over copies in any order find.
use Rattle.std.proofs.Common.{◌≡◌, ℕ, ◌+◌, suc, not, ltb, List, [], ◌∷◌, length, None, Some, reverse, sym, refl, ap, ◌∙◌, ⊎_elim, arith}
use Rattle.std.proofs.lemmas.Option.{same_Some}
use Rattle.std.specs.List.{fold, position_or_len, position as first_index}
use Rattle.std.proofs.lemmas.List.{reverse-append}
use Rattle.std.proofs.lemmas.List.Sums.{fold-append}
use Rattle.std.proofs.lemmas.Bool.{cond-true, cond-false, cases_Bool, lt-ltb, ltb-true}
use Rattle.copies.specs.declared.Coordinate.{Coordinate}
use Rattle.copies.specs.declared.Entry.{Entry}
use Rattle.copies.specs.declared.CopyRecord.{CopyRecord}
use Rattle.copies.specs.Copies.{same, find, position, nearer_in_range, first_in_range}
use Rattle.copies.proofs.Facts.{some_none}
use Rattle.copies.proofs.Records.{find_cases, position_absent, position_within}

pub first_folded : (xs : List CopyRecord) (p low high : ℕ) → fold (λ best x. nearer_in_range p low high x best) None (reverse xs) ≡ first_in_range xs p low high
first_folded [] p low high = refl
first_folded (x ∷ xs) p low high =
    ap (fold (λ best y. nearer_in_range p low high y best) None) (reverse-append (x ∷ []) xs) ∙ (fold-append (λ best y. nearer_in_range p low high y best) None (reverse xs) (x ∷ []) ∙ ap (nearer_in_range p low high x) (first_folded xs p low high))

-- the two ways to say where a coordinate stands
one_place : (xs : List CopyRecord) (c : Coordinate) → position_or_len (λ x. same x.at c) xs ≡ position xs c
one_place [] c = refl
one_place (x ∷ xs) c =
    ⊎_elim
    (λ s. cond-false (not (same x.at c)) (1 + position_or_len (λ y. same y.at c) xs) 0 (ap not s) ∙ sym (cond-true (same x.at c) 0 (suc (position xs c)) s))
    (λ n. cond-true (not (same x.at c)) (1 + position_or_len (λ y. same y.at c) xs) 0 (ap not n) ∙ (omega (arith, one_place xs c) ∙ sym (cond-false (same x.at c) 0 (suc (position xs c)) n)))
    (cases_Bool (same x.at c))

-- a coordinate that was found stands there
pub placed : (xs : List CopyRecord) (c : Coordinate) (i : ℕ) → Some i ≡ first_index (λ x. same x.at c) xs → (i ≡ position xs c) × ((v : Entry) × (find xs c ≡ Some v))
placed xs c i h =
    let n = position_or_len (λ x. same x.at c) xs in
    let one = one_place xs c in
    ⊎_elim
    (λ t. (same_Some i n (h ∙ cond-true (ltb n (length xs)) (Some n) None t) ∙ one, ⊎_elim (λ a. absurd (omega (arith, ltb-true n (length xs) t, position_absent xs c a))) (λ v. v) (find_cases xs c)))
    (λ f. absurd (some_none (h ∙ cond-false (ltb n (length xs)) (Some n) None f)))
    (cases_Bool (ltb n (length xs)))

-- and one that was not stands nowhere
pub unplaced : (xs : List CopyRecord) (c : Coordinate) → None ≡ first_index (λ x. same x.at c) xs → find xs c ≡ None
unplaced xs c h =
    let n = position_or_len (λ x. same x.at c) xs in
    let one = one_place xs c in
    ⊎_elim
    (λ a. a)
    (λ v. absurd (some_none (sym (h ∙ cond-true (ltb n (length xs)) (Some n) None (lt-ltb n (length xs) (omega (arith, position_within xs c v.0 v.1)))))))
    (find_cases xs c)
