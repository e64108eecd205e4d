-- A memory cut in three: lengths, and what writing to it makes of the parts.
use base.Fml.{GName}
use Rattle.std.proofs.Common.{◌≡◌, ℕ, zero, suc, ◌+◌, ◌-◌, ◌<◌, ◌≤◌, ◌&&◌, min, true, false, ltb, leb, List, [], ◌∷◌, ◌++◌, length, take, drop, set, Some, sym, refl, ap, ◌∙◌, ⊎_elim, add-one, arith}
use Rattle.std.specs.List.{remove, between, slice_get}
use Rattle.std.proofs.lemmas.List.{append_assoc, append-nil, length-append, length-take, length-drop, take-append-drop, take_at, drop_at, take_all, drop_all, take_more_set, drop-set-lt, drop-drop, take-take, drop-take}
use Rattle.std.proofs.lemmas.List.Edits.{length-remove}
use Rattle.std.proofs.lemmas.Option.{slice_get_within}
use Rattle.std.proofs.lemmas.Bool.{cond-true, cond-false, cases_lt, and_from, le-leb, lt-leb, lt-ltb}
use Rattle.racks.specs.Parts.{Parts, cut, joined_up, size_of, full, added, overwritten, closed_up}
use Rattle.slices.specs.Writes.{closed_up as shifted}

-- ---- parts are equal where each part is

four : {T : Type 0} → List T → List T → List T → GName → Parts T
four a b c d = record { used = a; spare = b; beyond = c; place = d }

same_parts : {T : Type 0} (p q : Parts T) → p.used ≡ q.used → p.spare ≡ q.spare → p.beyond ≡ q.beyond → p.place ≡ q.place → p ≡ q
unfolding four
same_parts p q a b c d =
    ap (λ x. four x p.spare p.beyond p.place) a ∙ (ap (λ x. four q.used x p.beyond p.place) b ∙ (ap (λ x. four q.used q.spare x p.place) c ∙ ap (λ x. four q.used q.spare q.beyond x) d))

-- ---- lengths

pub length_used : {T : Type 0} (a : GName) (m : List T) (l u : ℕ) → length (cut a m l u).used ≡ min u (min (length m) l)
length_used a m l u =
    let n = length-take u (take l m) in
    let k = length-take l m in
    omega arith

pub size_cut : {T : Type 0} (a : GName) (m : List T) (l u : ℕ) → size_of (cut a m l u) ≡ min (length m) l
size_cut a m l u =
    let n = length-take u (take l m) in
    let k = length-take l m in
    let d = length-drop u (take l m) in
    omega arith

-- ---- cutting and joining

pub joined_cut : {T : Type 0} (a : GName) (m : List T) (l u : ℕ) → joined_up (cut a m l u) ≡ m
joined_cut a m l u =
    sym (append_assoc (take u (take l m)) (drop u (take l m)) (drop l m)) ∙ (ap (λ t. t ++ drop l m) (take-append-drop u (take l m)) ∙ take-append-drop l m)

-- parts that a cut at l can give
Lies : {T : Type 0} → ℕ → Parts T → Type 0
Lies l p = (size_of p ≤ l) × (size_of p < l → p.beyond ≡ [])

cut_lies : {T : Type 0} (a : GName) (m : List T) (l u : ℕ) → Lies l (cut a m l u)
unfolding Lies
cut_lies a m l u =
    let n = size_cut a m l u in
    ((omega arith), λ h. drop_all l m (omega arith))

cut_joined : {T : Type 0} (p : Parts T) (l n : ℕ) → Lies l p → length p.used ≡ n → cut p.place (joined_up p) l n ≡ p
unfolding Lies
cut_joined p l n h e =
    let front = p.used ++ p.spare in
    let size : length front ≡ size_of p = length-append p.used p.spare in
    let whole : joined_up p ≡ front ++ p.beyond = sym (append_assoc p.used p.spare p.beyond) in
    let ends : (take l (front ++ p.beyond) ≡ front) × (drop l (front ++ p.beyond) ≡ p.beyond) =
    ⊎_elim
    (λ lt. (ap (λ t. take l (front ++ t)) (h.1 lt) ∙ (ap (take l) (append-nil front) ∙ take_all l front (omega arith)), ap (λ t. drop l (front ++ t)) (h.1 lt) ∙ (ap (drop l) (append-nil front) ∙ (drop_all l front (omega arith) ∙ sym (h.1 lt)))))
    (λ le. (take_at front p.beyond l (omega (arith, h.0)), drop_at front p.beyond l (omega (arith, h.0))))
    (cases_lt (size_of p) l) in
    let within : take l (joined_up p) ≡ front = ap (take l) whole ∙ ends.0 in
    same_parts (cut p.place (joined_up p) l n) p
    (ap (take n) within ∙ take_at p.used p.spare n e)
    (ap (drop n) within ∙ drop_at p.used p.spare n e)
    (ap (drop l) whole ∙ ends.1)
    refl

-- ---- writing

take_of_set : {T : Type 0} (l : ℕ) (m : List T) (i : ℕ) (x : T) → take l (set m i x) ≡ set (take l m) i x
take_of_set zero m i x = refl
take_of_set (suc l) [] i x = refl
take_of_set (suc l) (y ∷ m) zero x = refl
take_of_set (suc l) (y ∷ m) (suc i) x = ap (λ t. y ∷ t) (take_of_set l m i x)

pub not_full_cut : {T : Type 0} (a : GName) (m : List T) (l u : ℕ) → u < min (length m) l → full (cut a m l u) ≡ false
not_full_cut a m l u h =
    let n = length_used a m l u in
    let k = size_cut a m l u in
    lt-leb (size_of (cut a m l u)) (length (cut a m l u).used) (omega arith)

pub cut_added : {T : Type 0} (a : GName) (m : List T) (l u : ℕ) (x : T) → u < min (length m) l → cut a (set m u x) l (u + 1) ≡ added (cut a m l u) x
cut_added a m l u x h =
    let w = take l m in
    let n = length-take l m in
    let p = cut a m l u in
    same_parts (cut a (set m u x) l (u + 1)) (record { used = p.used ++ x ∷ []; spare = drop 1 p.spare; beyond = p.beyond; place = p.place })
    (ap (take (u + 1)) (take_of_set l m u x) ∙ take_more_set w u x (omega arith))
    (ap (drop (u + 1)) (take_of_set l m u x) ∙ (drop-set-lt (u + 1) w u x (omega arith) ∙ sym (drop-drop 1 u w)))
    (drop-set-lt l m u x (omega arith))
    refl
    ∙ sym (cond-false (full p) p _ (not_full_cut a m l u h))

pub cut_overwritten : {T : Type 0} (a : GName) (m : List T) (l u n : ℕ) (x : T) → n < u → length (cut a m l u).used ≡ u → cut a (set m n x) l u ≡ overwritten (cut a m l u) n x
cut_overwritten a m l u n x h c =
    let k = length_used a m l u in
    same_parts (cut a (set m n x) l u) (overwritten (cut a m l u) n x)
    (ap (take u) (take_of_set l m n x) ∙ take_of_set u (take l m) n x)
    (ap (drop u) (take_of_set l m n x) ∙ drop-set-lt u (take l m) n x (omega arith))
    (drop-set-lt l m n x (omega arith))
    refl

-- the memory after its first u places
after_used : {T : Type 0} (a : GName) (m : List T) (l u : ℕ) → length (cut a m l u).used ≡ u → (take u m ≡ (cut a m l u).used) × (drop u m ≡ (cut a m l u).spare ++ (cut a m l u).beyond)
after_used a m l u n =
    let p = cut a m l u in
    (ap (take u) (sym (joined_cut a m l u)) ∙ take_at p.used (p.spare ++ p.beyond) u n, ap (drop u) (sym (joined_cut a m l u)) ∙ drop_at p.used (p.spare ++ p.beyond) u n)

-- the first u places, without that at n
without : {T : Type 0} (m : List T) (n u : ℕ) → n < u → take n m ++ between (n + 1) u m ≡ remove (take u m) n
without m n u h =
    let k : (n + 1) + (u - (n + 1)) ≡ u = omega arith in
    let later : drop (suc n) (take u m) ≡ between (n + 1) u m =
    ap (λ i. drop i (take u m)) (sym (add-one n)) ∙ (ap (λ i. drop (n + 1) (take i m)) (sym k) ∙ drop-take (n + 1) (u - (n + 1)) m) in
    ap (λ t. t ++ between (n + 1) u m) (sym (take-take n u m (omega arith))) ∙ ap (λ t. take n (take u m) ++ t) (sym later)

cut_closed : {T : Type 0} (a : GName) (m : List T) (l u n : ℕ) (b : T) → n < u → length (cut a m l u).used ≡ u → cut a (shifted m n 1 u b) l (u - 1) ≡ closed_up b (cut a m l u) n
unfolding Lies
cut_closed a m l u n b h k =
    let p = cut a m l u in
    let most = length_used a m l u in
    let q : Parts _ = record { used = remove p.used n; spare = b ∷ p.spare; beyond = p.beyond; place = a } in
    let fewer : length (remove p.used n) + 1 ≡ length p.used = length-remove p.used n (omega arith) in
    let lies = cut_lies a m l u in
    let parts = after_used a m l u k in
    let fits : (leb (n + 1) u && leb u (length m)) ≡ true = and_from (leb (n + 1) u) (leb u (length m)) (le-leb (n + 1) u (omega arith)) (le-leb u (length m) (omega arith)) in
    let memory : shifted m n 1 u b ≡ joined_up q = cond-true (leb (n + 1) u && leb u (length m)) _ m fits ∙ (sym (append_assoc (take n m) (between (n + 1) u m) (b ∷ drop u m)) ∙ (ap (λ t. t ++ b ∷ drop u m) (without m n u h) ∙ (ap (λ t. remove t n ++ b ∷ drop u m) parts.0 ∙ ap (λ t. remove p.used n ++ b ∷ t) parts.1))) in
    ap (λ t. cut a t l (u - 1)) memory ∙ (cut_joined q l (u - 1) ((omega (arith, lies.0)), λ lt. lies.1 (omega arith)) (omega arith) ∙ sym (cond-true (ltb n (length p.used)) q p (lt-ltb n (length p.used) (omega arith))))

-- the same, as a call that found the record at n leaves it
pub cut_removed : {T : Type 0} (a : GName) (m ys : List T) (l u n : ℕ) (b d x : T) → length (cut a m l u).used ≡ u → slice_get (cut a m l u).used n ≡ Some x → ys ≡ shifted m n 1 u d → d ≡ b → (n < u) × (cut a ys l (u - 1) ≡ closed_up b (cut a m l u) n)
cut_removed a m ys l u n b d x c f e k =
    let h : n < u = omega (arith, slice_get_within (cut a m l u).used n x f) in
    (h, ap (λ t. cut a t l (u - 1)) (e ∙ ap (shifted m n 1 u) k) ∙ cut_closed a m l u n b h c)
