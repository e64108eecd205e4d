-- Handovers one after another, and of nothing.
use Rattle.std.proofs.Common.{◌≡◌, ℕ, Bool, true, false, ◌||◌, List, None, sym, refl, ap, ◌∙◌, ⊎_elim, arith}
use Rattle.std.proofs.lemmas.Bool.{cases_Bool, both_ways, or_parts}
use Rattle.copies.specs.declared.CopyRecord.{CopyRecord}
use Rattle.copies.specs.Copies.{Ordered, find}
use Rattle.rules.specs.Handover.{spot}
use Rattle.laws.proofs.Moves.{merged, Handed}

pub none_handed : (sh : List CopyRecord) (x g : ℕ) → Ordered sh → Handed sh sh x g (λ r i. false)
none_handed sh x g o = record {
  given = λ r i p. absurd (both_ways false refl p);
  got = λ r i p. absurd (both_ways false refl p);
  giver_keeps = λ r i p. refl;
  filler_keeps = λ r i p. refl;
  others_keep = λ h r i p q. refl;
  ordered = o;
  not_more = omega arith;
}

abbrev pub either : (ℕ → ℕ → Bool) → (ℕ → ℕ → Bool) → ℕ → ℕ → Bool
either P Q r i = P r i || Q r i

module _ (sh₁ sh₂ sh₃ : List CopyRecord) (x g : ℕ) (P Q : ℕ → ℕ → Bool) (h : Handed sh₁ sh₂ x g P) (k : Handed sh₂ sh₃ x g Q) where
  gives : (r i : ℕ) (p q : Bool) → P r i ≡ p → Q r i ≡ q → (p || q) ≡ true → find sh₃ (spot g r i) ≡ None
  gives r i p true a b t = k.given r i b
  gives r i true false a b t = k.giver_keeps r i b ∙ h.given r i a
  gives r i false false a b t = absurd (both_ways false refl t)

  gets : (r i : ℕ) (p q : Bool) → P r i ≡ p → Q r i ≡ q → (p || q) ≡ true → find sh₃ (spot x r i) ≡ merged (find sh₁ (spot g r i)) (find sh₁ (spot x r i))
  gets r i true true a b t =
      k.got r i b ∙ (ap (λ w. merged w (find sh₂ (spot x r i))) (h.given r i a) ∙ h.got r i a)
  gets r i false true a b t =
      k.got r i b ∙ (ap (λ w. merged w (find sh₂ (spot x r i))) (h.giver_keeps r i a) ∙ ap (λ w. merged (find sh₁ (spot g r i)) w) (h.filler_keeps r i a))
  gets r i true false a b t = k.filler_keeps r i b ∙ h.got r i a
  gets r i false false a b t = absurd (both_ways false refl t)

  pub both_handed : Handed sh₁ sh₃ x g (either P Q)
  both_handed = record {
    given = λ r i t. gives r i (P r i) (Q r i) refl refl t;
    got = λ r i t. gets r i (P r i) (Q r i) refl refl t;
    giver_keeps = λ r i f. let p = or_parts (P r i) (Q r i) f in k.giver_keeps r i p.1 ∙ h.giver_keeps r i p.0;
    filler_keeps = λ r i f. let p = or_parts (P r i) (Q r i) f in k.filler_keeps r i p.1 ∙ h.filler_keeps r i p.0;
    others_keep = λ o r i a b. k.others_keep o r i a b ∙ h.others_keep o r i a b;
    ordered = k.ordered;
    not_more = omega (arith, h.not_more, k.not_more);
  }

-- the same where Q names more than P, and g has nothing there
pub handed_like : (sh sh' : List CopyRecord) (x g : ℕ) (P Q : ℕ → ℕ → Bool) → ((r i : ℕ) → P r i ≡ true → Q r i ≡ true) → ((r i : ℕ) → Q r i ≡ true → P r i ≡ false → find sh (spot g r i) ≡ None) → Handed sh sh' x g P → Handed sh sh' x g Q
handed_like sh sh' x g P Q up absent h = record {
  given = λ r i q. ⊎_elim (λ p. h.given r i p) (λ p. h.giver_keeps r i p ∙ absent r i q p) (cases_Bool (P r i));
  got = λ r i q. ⊎_elim (λ p. h.got r i p) (λ p. h.filler_keeps r i p ∙ ap (λ w. merged w (find sh (spot x r i))) (sym (absent r i q p))) (cases_Bool (P r i));
  giver_keeps = λ r i q. h.giver_keeps r i (not_in r i q);
  filler_keeps = λ r i q. h.filler_keeps r i (not_in r i q);
  others_keep = h.others_keep;
  ordered = h.ordered;
  not_more = h.not_more;
}
  where
    not_in : (r i : ℕ) → Q r i ≡ false → P r i ≡ false
    not_in r i q = ⊎_elim (λ p. absurd (both_ways (Q r i) q (up r i p))) (λ p. p) (cases_Bool (P r i))
