-- Which records of a log live: after one more record, after squeezing, and that no coordinate lives twice.
use Rattle.std.proofs.Common.{◌≡◌, ◌≤◌, Bool, true, false, cond, not, ◌||◌, ◌⊎◌, List, [], ◌∷◌, ◌++◌, map, length, Some, None, sym, refl, ap, ◌∙◌, inl, inr, ⊎_elim, arith}
use Rattle.std.proofs.lemmas.Bool.{cond-true, cond-false, cond_both, cases_Bool, both_ways, and_parts, and_from, and_cases, or_parts, or_from, or_left, or_right, not-true, not-false, not_from_false}
use Rattle.copies.specs.declared.Coordinate.{Coordinate}
use Rattle.copies.specs.Copies.{same, find, apart}
use Rattle.copies.proofs.Coordinates.{equal_from_same, same_flip}
use Rattle.copies.proofs.Facts.{find_here, find_there}
use Rattle.copies.proofs.Records.{absent_from_none}
use Rattle.logs.specs.declared.lines.Line.{Line}
use Rattle.logs.specs.Logs.{live_kind, named, lasts, lasting, others, squeezed, copy_of}

-- ---- what it says that a record lasts

pub lasts_parts : (x : Line) (xs : List Line) → lasts x xs ≡ true → (live_kind x.kind ≡ true) × (named xs x.at ≡ false)
unfolding lasts
lasts_parts x xs h =
    let p = and_parts (live_kind x.kind) (not (named xs x.at)) h in
    (p.0, not-true (named xs x.at) p.1)

pub lasts_from : (x : Line) (xs : List Line) → live_kind x.kind ≡ true → named xs x.at ≡ false → lasts x xs ≡ true
unfolding lasts
lasts_from x xs h k = and_from (live_kind x.kind) (not (named xs x.at)) h (not_from_false (named xs x.at) k)

pub not_lasts : (x : Line) (xs : List Line) → lasts x xs ≡ false → (live_kind x.kind ≡ false) ⊎ (named xs x.at ≡ true)
unfolding lasts
not_lasts x xs h =
    ⊎_elim (λ l. inl l) (λ n. inr (not-false (named xs x.at) n)) (and_cases (live_kind x.kind) (not (named xs x.at)) h)

-- ---- names

pub named_push : (xs : List Line) (r : Line) (d : Coordinate) → named (xs ++ r ∷ []) d ≡ (same r.at d || named xs d)
named_push [] r d = refl
named_push (x ∷ xs) r d = ap (λ t. same x.at d || t) (named_push xs r d) ∙ swap (same x.at d) (same r.at d) (named xs d)
  where
    swap : (a b c : Bool) → (a || (b || c)) ≡ (b || (a || c))
    swap true true c = refl
    swap true false c = refl
    swap false b c = refl

named_others : (c : Coordinate) (xs : List Line) (d : Coordinate) → named xs d ≡ false → named (others c xs) d ≡ false
named_others c [] d h = refl
named_others c (x ∷ xs) d h =
    let p = or_parts (same x.at d) (named xs d) h in
    cond_both (same x.at c) (others c xs) (x ∷ others c xs) (λ t. named t d ≡ false)
    (λ _. named_others c xs d p.1)
    (λ _. or_from (same x.at d) (named (others c xs) d) p.0 (named_others c xs d p.1))

named_lasting : (xs : List Line) (d : Coordinate) → named xs d ≡ false → named (lasting xs) d ≡ false
named_lasting [] d h = refl
named_lasting (x ∷ xs) d h =
    let p = or_parts (same x.at d) (named xs d) h in
    cond_both (lasts x xs) (x ∷ lasting xs) (lasting xs) (λ t. named t d ≡ false)
    (λ _. or_from (same x.at d) (named (lasting xs) d) p.0 (named_lasting xs d p.1))
    (λ _. named_lasting xs d p.1)

-- ---- lists in which every record lasts

abbrev pub Settled : List Line → Type 0
Settled [] = Unit {0}
Settled (x ∷ xs) = (lasts x xs ≡ true) × Settled xs

pub settled_lasting : (xs : List Line) → Settled (lasting xs)
settled_lasting [] = tt
settled_lasting (x ∷ xs) =
    cond_both (lasts x xs) (x ∷ lasting xs) (lasting xs) Settled
    (λ l. let p = lasts_parts x xs l in (lasts_from x (lasting xs) p.0 (named_lasting xs x.at p.1), settled_lasting xs))
    (λ _. settled_lasting xs)

pub settled_others : (c : Coordinate) (xs : List Line) → Settled xs → Settled (others c xs)
settled_others c [] s = tt
settled_others c (x ∷ xs) s =
    cond_both (same x.at c) (others c xs) (x ∷ others c xs) Settled
    (λ _. settled_others c xs s.1)
    (λ _. let p = lasts_parts x xs s.0 in (lasts_from x (others c xs) p.0 (named_others c xs x.at p.1), settled_others c xs s.1))

pub lasting_settled : (xs : List Line) → Settled xs → lasting xs ≡ xs
lasting_settled [] s = refl
lasting_settled (x ∷ xs) s = cond-true (lasts x xs) (x ∷ lasting xs) (lasting xs) s.0 ∙ ap (λ t. x ∷ t) (lasting_settled xs s.1)

pub lasting_squeezed : (c : Coordinate) (xs : List Line) → lasting (squeezed c xs) ≡ squeezed c xs
lasting_squeezed c xs = lasting_settled (squeezed c xs) (settled_others c (lasting xs) (settled_lasting xs))

-- ---- finding among them

unnamed : (xs : List Line) (d : Coordinate) → named xs d ≡ false → find (map copy_of xs) d ≡ None
unnamed [] d h = refl
unnamed (x ∷ xs) d h =
    let p = or_parts (same x.at d) (named xs d) h in
    find_there (copy_of x) (map copy_of xs) d p.0 ∙ unnamed xs d p.1

pub apart_settled : (xs : List Line) → Settled xs → apart (map copy_of xs) ≡ true
apart_settled [] s = refl
apart_settled (x ∷ xs) s =
    and_from _ (apart (map copy_of xs)) (absent_from_none (find (map copy_of xs) x.at) (unnamed xs x.at (lasts_parts x xs s.0).1)) (apart_settled xs s.1)

pub find_others : (c : Coordinate) (xs : List Line) (d : Coordinate) → find (map copy_of (others c xs)) d ≡ cond (same c d) None (find (map copy_of xs) d)
find_others c [] d = cond_both (same c d) None None (λ t. None ≡ t) (λ _. refl) (λ _. refl)
find_others c (x ∷ xs) d =
    cond_both (same x.at c) (others c xs) (x ∷ others c xs) (λ t. find (map copy_of t) d ≡ cond (same c d) None (find (copy_of x ∷ map copy_of xs) d))
    (λ own. find_others c xs d ∙ cond_both (same c d) None (find (map copy_of xs) d) (λ t. t ≡ cond (same c d) None (find (copy_of x ∷ map copy_of xs) d))
    (λ s. sym (cond-true (same c d) None _ s))
    (λ n. sym (cond-false (same c d) None _ n ∙ find_there (copy_of x) (map copy_of xs) d (ap (λ a. same a d) (equal_from_same x.at c own) ∙ n))))
    (λ other. cond_both (same x.at d) (Some x.held) (find (map copy_of (others c xs)) d) (λ t. t ≡ cond (same c d) None (find (copy_of x ∷ map copy_of xs) d))
    (λ s. sym (cond-false (same c d) None _ (same_flip c d ∙ (ap (λ a. same a c) (sym (equal_from_same x.at d s)) ∙ other)) ∙ find_here (copy_of x) (map copy_of xs) d s))
    (λ n. find_others c xs d ∙ ap (cond (same c d) None) (sym (find_there (copy_of x) (map copy_of xs) d n))))

-- ---- one more record

pub lasting_push : (xs : List Line) (r : Line) → lasting (xs ++ r ∷ []) ≡ others r.at (lasting xs) ++ cond (live_kind r.kind) (r ∷ []) []
lasting_push [] r =
    ⊎_elim
    (λ l. cond-true (lasts r []) (r ∷ []) [] (lasts_from r [] l refl) ∙ sym (cond-true (live_kind r.kind) (r ∷ []) [] l))
    (λ n. cond-false (lasts r []) (r ∷ []) [] (not_live n) ∙ sym (cond-false (live_kind r.kind) (r ∷ []) [] n))
    (cases_Bool (live_kind r.kind))
  where
    not_live : live_kind r.kind ≡ false → lasts r [] ≡ false
    not_live n = ⊎_elim (λ t. absurd (both_ways (live_kind r.kind) n (lasts_parts r [] t).0)) (λ f. f) (cases_Bool (lasts r []))
lasting_push (x ∷ xs) r =
    let more = cond (live_kind r.kind) (r ∷ []) [] in
    let later = lasting (xs ++ r ∷ []) in
    let ih = lasting_push xs r in
    let names = named_push xs r x.at in
    cond_both (lasts x xs) (x ∷ lasting xs) (lasting xs) (λ t. lasting (x ∷ (xs ++ r ∷ [])) ≡ others r.at t ++ more)
    (λ l. let p = lasts_parts x xs l in
    cond_both (same x.at r.at) (others r.at (lasting xs)) (x ∷ others r.at (lasting xs)) (λ t. lasting (x ∷ (xs ++ r ∷ [])) ≡ t ++ more)
    (λ s. cond-false (lasts x (xs ++ r ∷ [])) (x ∷ later) later (fails x (xs ++ r ∷ []) (names ∙ or_left (same r.at x.at) (named xs x.at) (same_flip r.at x.at ∙ s))) ∙ ih)
    (λ n. cond-true (lasts x (xs ++ r ∷ [])) (x ∷ later) later (lasts_from x (xs ++ r ∷ []) p.0 (names ∙ or_from (same r.at x.at) (named xs x.at) (same_flip r.at x.at ∙ n) p.1)) ∙ ap (λ t. x ∷ t) ih))
    (λ f. cond-false (lasts x (xs ++ r ∷ [])) (x ∷ later) later (still x xs r f) ∙ ih)
  where
    fails : (x : Line) (ys : List Line) → named ys x.at ≡ true → lasts x ys ≡ false
    fails x ys n = ⊎_elim (λ t. absurd (both_ways (named ys x.at) (lasts_parts x ys t).1 n)) (λ f. f) (cases_Bool (lasts x ys))

    still : (x : Line) (xs : List Line) (r : Line) → lasts x xs ≡ false → lasts x (xs ++ r ∷ []) ≡ false
    still x xs r f =
        ⊎_elim
        (λ t. let p = lasts_parts x (xs ++ r ∷ []) t in
        ⊎_elim
        (λ dead. absurd (both_ways (live_kind x.kind) dead p.0))
        (λ n. absurd (both_ways (named (xs ++ r ∷ []) x.at) p.1 (named_push xs r x.at ∙ or_right (same r.at x.at) (named xs x.at) n)))
        (not_lasts x xs f))
        (λ g. g)
        (cases_Bool (lasts x (xs ++ r ∷ [])))

pub length_lasting : (xs : List Line) → length (lasting xs) ≤ length xs
length_lasting [] = omega arith
length_lasting (x ∷ xs) =
    let ih = length_lasting xs in
    cond_both (lasts x xs) (x ∷ lasting xs) (lasting xs) (λ t. length t ≤ length (x ∷ xs)) (λ _. omega arith) (λ _. omega arith)
