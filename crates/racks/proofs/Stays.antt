-- What every call on a rack keeps: where its memory is, its size, what lies beyond, and that places not in use hold the blank.
use base.Fml.{GName}
use Rattle.std.proofs.Common.{◌≡◌, ℕ, ◌+◌, ◌-◌, ◌<◌, false, ltb, List, [], ◌∷◌, ◌++◌, length, drop, replicate, sym, refl, ap, ◌∙◌, subst, arith}
use Rattle.std.specs.List.{remove}
use Rattle.std.proofs.lemmas.List.{length-drop, length-replicate, length_push, length-set, drop-replicate}
use Rattle.std.proofs.lemmas.List.Edits.{length-remove}
use Rattle.std.proofs.lemmas.Bool.{cond-true, cond-false, cond_both, leb-false, lt-ltb, ltb-true}
use Rattle.racks.specs.Parts.{Parts, Ground, Sound, joined_up, blanks_after, size_of, full, Clean, added, overwritten, closed_up, emptied, ground_of}
use Rattle.racks.specs.Laws.{Stays}

ground : {T : Type 0} → GName → ℕ → List T → Ground T
ground a n b = record { place = a; size = n; beyond = b }

-- the ground stays where the size does, and the rest of it is as it was
still : {T : Type 0} (p q : Parts T) → q.place ≡ p.place → size_of q ≡ size_of p → q.beyond ≡ p.beyond → ground_of q ≡ ground_of p
unfolding ground
still p q a n b =
    ap (λ t. ground t (size_of q) q.beyond) a ∙ (ap (λ t. ground p.place t q.beyond) n ∙ ap (ground p.place (size_of p)) b)

stays_same : {T : Type 0} (b : T) (p : Parts T) → Stays b p p
stays_same b p = record { ground = refl; clean = λ h. h }

pub stays_added : {T : Type 0} (b : T) (p : Parts T) (x : T) → Stays b p (added p x)
stays_added {T} b p x =
    let r : Parts T = record { used = p.used ++ x ∷ []; spare = drop 1 p.spare; beyond = p.beyond; place = p.place } in
    cond_both (full p) p r (λ t. Stays b p t)
    (λ _. stays_same b p)
    (λ f. record {
      ground = let lt = leb-false (size_of p) (length p.used) f in still p r refl (omega (arith, length_push p.used x, length-drop 1 p.spare)) refl;
      clean = λ h. ap (drop 1) h ∙ (drop-replicate 1 (length p.spare) b ∙ ap (λ n. replicate n b) (sym (length-drop 1 p.spare)));
    })

pub stays_overwritten : {T : Type 0} (b : T) (p : Parts T) (n : ℕ) (x : T) → Stays b p (overwritten p n x)
stays_overwritten b p n x =
    record { ground = still p (overwritten p n x) refl (ap (λ k. k + length p.spare) (length-set p.used n x)) refl; clean = λ h. h }

pub stays_closed_up : {T : Type 0} (b : T) (p : Parts T) (n : ℕ) → Stays b p (closed_up b p n)
stays_closed_up {T} b p n =
    let r : Parts T = record { used = remove p.used n; spare = b ∷ p.spare; beyond = p.beyond; place = p.place } in
    cond_both (ltb n (length p.used)) r p (λ t. Stays b p t)
    (λ f. record {
      ground = still p r refl (omega (arith, length-remove p.used n (ltb-true n (length p.used) f))) refl;
      clean = λ h. ap (λ t. b ∷ t) h;
    })
    (λ _. stays_same b p)

pub clean_emptied : {T : Type 0} (b : T) (p : Parts T) → Clean b (emptied b p)
clean_emptied b p = ap (λ n. replicate n b) (sym (length-replicate (size_of p) b))

pub stays_emptied : {T : Type 0} (b : T) (p : Parts T) → Stays b p (emptied b p)
stays_emptied b p =
    record { ground = still p (emptied b p) refl (omega (arith, length-replicate (size_of p) b)) refl; clean = λ _. clean_emptied b p }

-- the whole memory: the records in use, blanks up to the size, and what lies beyond
pub memory_clean : {T : Type 0} (b : T) (p : Parts T) → Clean b p → joined_up p ≡ blanks_after b p
memory_clean b p h =
    let n : length p.spare ≡ size_of p - length p.used = omega arith in
    ap (λ t. p.used ++ (t ++ p.beyond)) (h ∙ ap (λ k. replicate k b) n)

-- what was true of a rack is true after a call that keeps it
pub sound_after : {T : Type 0} (b : T) (most count n : ℕ) (p q r : Parts T) → Sound b most count p → Stays b p r → q ≡ r → length r.used ≡ n → Sound b most n q
sound_after b most count n p q r s k e l =
    subst (Sound b most n) (sym e) (record { counted = l; bounded = omega (arith, s.bounded, ap (λ t. t.size) k.ground); clean = k.clean s.clean })

-- ---- the records in use

pub length_added : {T : Type 0} (p : Parts T) (x : T) → full p ≡ false → length (added p x).used ≡ length p.used + 1
length_added p x f = ap (λ t. length t.used) (cond-false (full p) p _ f) ∙ length_push p.used x

pub length_closed_up : {T : Type 0} (b : T) (p : Parts T) (n : ℕ) → n < length p.used → length (closed_up b p n).used ≡ length p.used - 1
length_closed_up b p n h =
    ap (λ t. length t.used) (cond-true (ltb n (length p.used)) _ p (lt-ltb n (length p.used) h)) ∙ omega (arith, length-remove p.used n h)
