-- What one copy that moves does to a shelf, and what a list of them does.
use Rattle.std.proofs.Common.{◌≡◌, ℕ, ◌+◌, ◌≤◌, Bool, true, false, cond, ◌&&◌, eqb, List, length, Some, None, Option, sym, refl, ap, ◌∙◌, subst, ⊎_elim, arith}
use Rattle.std.proofs.lemmas.Bool.{cases_Bool, cond-true, cond-false, eqb-true, eq-eqb, both_ways, and_parts, and_from}
use Rattle.copies.specs.declared.Coordinate.{Coordinate}
use Rattle.copies.specs.declared.Entry.{Entry}
use Rattle.copies.specs.declared.CopyRecord.{CopyRecord}
use Rattle.copies.specs.Copies.{same, Ordered, find, put, remove}
use Rattle.copies.proofs.Coordinates.{equal_from_same}
use Rattle.copies.proofs.Facts.{find_put, find_put_other, find_remove, find_remove_other, ordered_put, ordered_remove, length_put_absent, length_put_present, length_remove_present}
use Rattle.rules.specs.Handover.{spot, newer, moved}

-- the newer of what is handed over and what is there
abbrev pub merged : Option Entry → Option Entry → Option Entry
merged None there = there
merged (Some e) there = cond (newer there e.stamp) there (Some e)

-- g has handed x its copies of the replicas and places that P names
pub record Handed (sh sh' : List CopyRecord) (x g : ℕ) (P : ℕ → ℕ → Bool) : Type 0 where
  pub given : (r i : ℕ) → P r i ≡ true → find sh' (spot g r i) ≡ None
  pub got : (r i : ℕ) → P r i ≡ true → find sh' (spot x r i) ≡ merged (find sh (spot g r i)) (find sh (spot x r i))
  pub giver_keeps : (r i : ℕ) → P r i ≡ false → find sh' (spot g r i) ≡ find sh (spot g r i)
  pub filler_keeps : (r i : ℕ) → P r i ≡ false → find sh' (spot x r i) ≡ find sh (spot x r i)
  pub others_keep : (h r i : ℕ) → (h ≡ g → ⊥) → (h ≡ x → ⊥) → find sh' (spot h r i) ≡ find sh (spot h r i)
  pub ordered : Ordered sh'
  pub not_more : length sh' ≤ length sh

pub apart : (c d : Coordinate) → (c ≡ d → ⊥) → same c d ≡ false
apart c d n = ⊎_elim (λ h. absurd (n (equal_from_same c d h))) (λ h. h) (cases_Bool (same c d))

pub apart_peer : (h r i k s j : ℕ) → (h ≡ k → ⊥) → same (spot h r i) (spot k s j) ≡ false
apart_peer h r i k s j n = apart (spot h r i) (spot k s j) (λ e. n (ap (λ c. c.peer) e))

-- ---- one copy

-- just the replica and the place of one copy
abbrev pub just : ℕ → ℕ → ℕ → ℕ → Bool
just r i s j = eqb r s && eqb i j

just_not : (h r i s j : ℕ) → just r i s j ≡ false → same (spot h r i) (spot h s j) ≡ false
just_not h r i s j f =
    apart (spot h r i) (spot h s j) (λ e. both_ways (just r i s j) f (and_from (eqb r s) (eqb i j) (eq-eqb r s (ap (λ c. c.replica) e)) (eq-eqb i j (ap (λ c. c.place) e))))

just_is : (h r i s j : ℕ) → just r i s j ≡ true → spot h r i ≡ spot h s j
just_is h r i s j t =
    let p = and_parts (eqb r s) (eqb i j) t in
    let a = eqb-true r s p.0 in
    let b = eqb-true i j p.1 in
    ap (λ k. spot h k i) a ∙ ap (λ k. spot h s k) b

module _ (sh : List CopyRecord) (x g r i : ℕ) (e : Entry) (o : Ordered sh) (apart-g : g ≡ x → ⊥) (here : find sh (spot g r i) ≡ Some e) where
  find_x : find (remove sh (spot g r i)) (spot x r i) ≡ find sh (spot x r i)
  find_x = find_remove_other sh (spot g r i) (spot x r i) (apart_peer g r i x r i apart-g)

  fewer : length (remove sh (spot g r i)) + 1 ≡ length sh
  fewer = length_remove_present sh (spot g r i) e here

  -- the filler's copy is newer: only the giver's goes
  stays : newer (find sh (spot x r i)) e.stamp ≡ true → Handed sh (remove sh (spot g r i)) x g (just r i)
  stays n = record {
    given = λ s j p. subst (λ c. find (remove sh (spot g r i)) c ≡ None) (just_is g r i s j p) (find_remove sh (spot g r i) o);
    got = λ s j p. got s j p;
    giver_keeps = λ s j p. find_remove_other sh (spot g r i) (spot g s j) (just_not g r i s j p);
    filler_keeps = λ s j p. find_remove_other sh (spot g r i) (spot x s j) (apart_peer g r i x s j apart-g);
    others_keep = λ h s j p q. find_remove_other sh (spot g r i) (spot h s j) (apart_peer g r i h s j (λ k. p (sym k)));
    ordered = ordered_remove sh (spot g r i) o;
    not_more = omega (arith, fewer);
  }
    where
      at_it : find (remove sh (spot g r i)) (spot x r i) ≡ merged (find sh (spot g r i)) (find sh (spot x r i))
      at_it =
          find_x
          ∙ (sym (cond-true (newer (find sh (spot x r i)) e.stamp) (find sh (spot x r i)) (Some e) n)
          ∙ ap (λ w. merged w (find sh (spot x r i))) (sym here))

      got : (s j : ℕ) → just r i s j ≡ true → find (remove sh (spot g r i)) (spot x s j) ≡ merged (find sh (spot g s j)) (find sh (spot x s j))
      got s j p =
          let p' = and_parts (eqb r s) (eqb i j) p in
          let F : ℕ → ℕ → Type 0 = λ a b. find (remove sh (spot g r i)) (spot x a b) ≡ merged (find sh (spot g a b)) (find sh (spot x a b)) in
          subst (λ b. F s b) (eqb-true i j p'.1) (subst (λ a. F a i) (eqb-true r s p'.0) at_it)

  -- it is put at the filler
  put_not_more : length (put (remove sh (spot g r i)) (spot x r i) e) ≤ length sh
  put_not_more = go (find (remove sh (spot g r i)) (spot x r i)) refl
    where
      go : (w : Option Entry) → find (remove sh (spot g r i)) (spot x r i) ≡ w → length (put (remove sh (spot g r i)) (spot x r i) e) ≤ length sh
      go None a = omega (arith, fewer, length_put_absent (remove sh (spot g r i)) (spot x r i) e a)
      go (Some v) a = omega (arith, fewer, length_put_present (remove sh (spot g r i)) (spot x r i) e v (ordered_remove sh (spot g r i) o) a)

  goes : newer (find sh (spot x r i)) e.stamp ≡ false → Handed sh (put (remove sh (spot g r i)) (spot x r i) e) x g (just r i)
  goes n = record {
    given = λ s j p. put_other (spot g s j) (apart_peer x r i g s j (λ k. apart-g (sym k))) ∙ subst (λ c. find (remove sh (spot g r i)) c ≡ None) (just_is g r i s j p) (find_remove sh (spot g r i) o);
    got = λ s j p. got s j p;
    giver_keeps = λ s j p. put_other (spot g s j) (apart_peer x r i g s j (λ k. apart-g (sym k))) ∙ find_remove_other sh (spot g r i) (spot g s j) (just_not g r i s j p);
    filler_keeps = λ s j p. put_other (spot x s j) (just_not x r i s j p) ∙ find_remove_other sh (spot g r i) (spot x s j) (apart_peer g r i x s j apart-g);
    others_keep = λ h s j p q. put_other (spot h s j) (apart_peer x r i h s j (λ k. q (sym k))) ∙ find_remove_other sh (spot g r i) (spot h s j) (apart_peer g r i h s j (λ k. p (sym k)));
    ordered = ordered_put (remove sh (spot g r i)) (spot x r i) e (ordered_remove sh (spot g r i) o);
    not_more = put_not_more;
  }
    where
      put_other : (d : Coordinate) → same (spot x r i) d ≡ false → find (put (remove sh (spot g r i)) (spot x r i) e) d ≡ find (remove sh (spot g r i)) d
      put_other d f = find_put_other (remove sh (spot g r i)) (spot x r i) e d f

      at_it : find (put (remove sh (spot g r i)) (spot x r i) e) (spot x r i) ≡ merged (find sh (spot g r i)) (find sh (spot x r i))
      at_it =
          find_put (remove sh (spot g r i)) (spot x r i) e
          ∙ (sym (cond-false (newer (find sh (spot x r i)) e.stamp) (find sh (spot x r i)) (Some e) n)
          ∙ ap (λ w. merged w (find sh (spot x r i))) (sym here))

      got : (s j : ℕ) → just r i s j ≡ true → find (put (remove sh (spot g r i)) (spot x r i) e) (spot x s j) ≡ merged (find sh (spot g s j)) (find sh (spot x s j))
      got s j p =
          let p' = and_parts (eqb r s) (eqb i j) p in
          let F : ℕ → ℕ → Type 0 = λ a b. find (put (remove sh (spot g r i)) (spot x r i) e) (spot x a b) ≡ merged (find sh (spot g a b)) (find sh (spot x a b)) in
          subst (λ b. F s b) (eqb-true i j p'.1) (subst (λ a. F a i) (eqb-true r s p'.0) at_it)

-- the copy c of peer g goes to x
pub moved_one : (sh : List CopyRecord) (x g : ℕ) (c : CopyRecord) → Ordered sh → (g ≡ x → ⊥) → c.at.peer ≡ g → find sh c.at ≡ Some c.held → Handed sh (moved x sh c) x g (just c.at.replica c.at.place)
unfolding moved
moved_one sh x g c o n p f =
    let r : ℕ = c.at.replica in
    let i : ℕ = c.at.place in
    let at_g : c.at ≡ spot g r i = ap (λ k. spot k r i) p in
    let here : find sh (spot g r i) ≡ Some c.held = ap (find sh) (sym at_g) ∙ f in
    let target : Option Entry = find sh (spot x r i) in
    let H : List CopyRecord → Type 0 = λ sh'. Handed sh sh' x g (just r i) in
    let F : Coordinate → List CopyRecord = λ d. cond (newer (find sh (spot x r i)) c.held.stamp) (remove sh d) (put (remove sh d) (spot x r i) c.held) in
    subst (λ d. H (F d)) (sym at_g)
    (⊎_elim
    (λ t. subst H (sym (cond-true (newer (find sh (spot x r i)) c.held.stamp) (remove sh (spot g r i)) (put (remove sh (spot g r i)) (spot x r i) c.held) t)) (stays sh x g r i c.held o n here t))
    (λ t. subst H (sym (cond-false (newer (find sh (spot x r i)) c.held.stamp) (remove sh (spot g r i)) (put (remove sh (spot g r i)) (spot x r i) c.held) t)) (goes sh x g r i c.held o n here t))
    (cases_Bool (newer (find sh (spot x r i)) c.held.stamp)))
