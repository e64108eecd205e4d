-- What a list of copies does that all move from one peer to another.
use Rattle.std.proofs.Common.{◌≡◌, ℕ, Bool, true, false, ◌||◌, eqb, List, [], ◌∷◌, Some, fold, sym, ap, ◌∙◌, ⊎_elim}
use Rattle.std.specs.List.{AllByRecursion}
use Rattle.std.proofs.lemmas.Bool.{cases_Bool, eqb-true, both_ways, and_parts}
use Rattle.copies.specs.declared.CopyRecord.{CopyRecord}
use Rattle.copies.specs.Copies.{same, before, Ordered, find}
use Rattle.copies.proofs.Coordinates.{same_itself, apart_from_before}
use Rattle.rules.specs.Handover.{spot, moved}
use Rattle.laws.proofs.Moves.{Handed, just, moved_one}
use Rattle.laws.proofs.Composed.{none_handed, both_handed}

abbrev pub any_of : List CopyRecord → ℕ → ℕ → Bool
any_of [] r i = false
any_of (c ∷ cs) r i = just c.at.replica c.at.place r i || any_of cs r i

-- each is a copy of g that the shelf has
abbrev pub Of : ℕ → List CopyRecord → CopyRecord → Type 0
Of g sh y = (y.at.peer ≡ g) × (find sh y.at ≡ Some y.held)

-- they all move, in order
pub all_moved : (sh : List CopyRecord) (x g : ℕ) (cs : List CopyRecord) → Ordered sh → Ordered cs → (g ≡ x → ⊥) → AllByRecursion (Of g sh) cs → Handed sh (fold (moved x) sh cs) x g (any_of cs)
all_moved sh x g [] o oc n all = none_handed sh x g o
all_moved sh x g (c ∷ cs) o oc n all =
    let first = moved_one sh x g c o n all.0.0 all.0.1 in
    let still : AllByRecursion (Of g (moved x sh c)) cs = stays_found cs oc.0 all.1 first in
    both_handed sh (moved x sh c) (fold (moved x) (moved x sh c) cs) x g (just c.at.replica c.at.place) (any_of cs) first (all_moved (moved x sh c) x g cs first.ordered oc.1 n still)
  where
    at_g : (y : CopyRecord) → y.at.peer ≡ g → y.at ≡ spot g y.at.replica y.at.place
    at_g y p = ap (λ k. spot k y.at.replica y.at.place) p

    not_it : (y : CopyRecord) → c.at.peer ≡ g → y.at.peer ≡ g → before c.at y.at ≡ true → just c.at.replica c.at.place y.at.replica y.at.place ≡ false
    not_it y a b l =
        ⊎_elim
        (λ t.
        let p = and_parts (eqb c.at.replica y.at.replica) (eqb c.at.place y.at.place) t in
        let same_at : c.at ≡ y.at = at_g c a ∙ (ap (λ k. spot g k c.at.place) (eqb-true c.at.replica y.at.replica p.0) ∙ (ap (λ k. spot g y.at.replica k) (eqb-true c.at.place y.at.place p.1) ∙ sym (at_g y b))) in
        absurd (both_ways (same c.at y.at) (apart_from_before c.at y.at l) (ap (λ d. same c.at d) (sym same_at) ∙ same_itself c.at)))
        (λ f. f)
        (cases_Bool (just c.at.replica c.at.place y.at.replica y.at.place))

    stays_found : (ys : List CopyRecord) → AllByRecursion (λ y. before c.at y.at ≡ true) ys → AllByRecursion (Of g sh) ys → Handed sh (moved x sh c) x g (just c.at.replica c.at.place) → AllByRecursion (Of g (moved x sh c)) ys
    stays_found [] l a h = tt
    stays_found (y ∷ ys) l a h = (
      (a.0.0, ap (find (moved x sh c)) (at_g y a.0.0) ∙ (h.giver_keeps y.at.replica y.at.place (not_it y all.0.0 a.0.0 l.0) ∙ (ap (find sh) (sym (at_g y a.0.0)) ∙ a.0.1))),
      stays_found ys l.1 a.1 h,
    )
