-- What becomes of a log's meaning: after a kept record, a gone one, and squeezing.
use Rattle.std.proofs.Common.{◌≡◌, ℕ, ◌≤◌, Bool, true, false, cond, List, [], ◌∷◌, ◌++◌, map, length, reverse, Some, None, Option, sym, refl, ap, ◌∙◌, ⊎_elim, arith}
use Rattle.std.proofs.lemmas.List.{append-nil, map_push, length-map, reverse-append, reverse-reverse}
use Rattle.std.specs.List.{find as first_of}
use Rattle.std.specs.Option.{option_and_then}
use Rattle.std.proofs.lemmas.Bool.{cond-true, cond-false, cond_both, cases_Bool}
use Rattle.copies.specs.declared.Coordinate.{Coordinate}
use Rattle.copies.specs.declared.Entry.{Entry}
use Rattle.copies.specs.declared.CopyRecord.{CopyRecord}
use Rattle.copies.specs.Copies.{same, Ordered, find, put, remove, next, from_records, nearer_in_range, first_in_range}
use Rattle.copies.proofs.Coordinates.{same_itself}
use Rattle.copies.proofs.Facts.{find_after_put, find_after_remove, ordered_put, ordered_remove, equal_from_find}
use Rattle.copies.proofs.Records.{ordered_from_records, find_from_records, length_from_records, next_from_records, find_push, from_records_push}
use Rattle.logs.specs.declared.lines.Line.{Line}
use Rattle.logs.specs.Lines.{line_in}
use Rattle.logs.specs.Logs.{live_kind, kept, gone, lasts, lasting, others, squeezed, copy_of, copies_of, meaning_of, said_by}
use Rattle.logs.proofs.Settled.{settled_lasting, lasting_squeezed, apart_settled, find_others, lasting_push, length_lasting}

-- a test asked twice answers once
twice : {X : Type 0} (b : Bool) (x y z : X) → cond b x (cond b y z) ≡ cond b x z
twice true x y z = refl
twice false x y z = refl

-- ---- the meaning of some live records

remove_others : (c : Coordinate) (xs : List Line) → from_records (map copy_of (others c xs)) ≡ remove (from_records (map copy_of xs)) c
remove_others c xs =
    let m = from_records (map copy_of xs) in
    let o = ordered_from_records (map copy_of xs) in
    equal_from_find (from_records (map copy_of (others c xs))) (remove m c) (ordered_from_records (map copy_of (others c xs))) (ordered_remove m c o)
    (λ d. find_from_records (map copy_of (others c xs)) d ∙ (find_others c xs d ∙ (ap (cond (same c d) None) (sym (find_from_records (map copy_of xs) d)) ∙ sym (find_after_remove m c d o))))

pub put_remove : (m : List CopyRecord) (c : Coordinate) (e : Entry) → Ordered m → put (remove m c) c e ≡ put m c e
put_remove m c e o =
    equal_from_find (put (remove m c) c e) (put m c e) (ordered_put (remove m c) c e (ordered_remove m c o)) (ordered_put m c e o)
    (λ d. find_after_put (remove m c) c e d ∙ (ap (cond (same c d) (Some e)) (find_after_remove m c d o) ∙ (twice (same c d) (Some e) None (find m d) ∙ sym (find_after_put m c e d))))

ordered_meaning : (xs : List Line) → Ordered (meaning_of xs)
ordered_meaning xs = ordered_from_records (copies_of xs)

absent : (c : Coordinate) (xs : List Line) → find (map copy_of (others c xs)) c ≡ None
absent c xs = find_others c xs c ∙ cond-true (same c c) None (find (map copy_of xs) c) (same_itself c)

-- ---- one more record

pub meaning_kept : (xs : List Line) (c : Coordinate) (e : Entry) → meaning_of (xs ++ kept c e ∷ []) ≡ put (meaning_of xs) c e
meaning_kept xs c e =
    let live = lasting xs in
    ap (λ t. from_records (map copy_of t)) (lasting_push xs (kept c e)) ∙ (ap from_records (map_push copy_of (others c live) (kept c e)) ∙ (from_records_push (map copy_of (others c live)) c e (absent c live) ∙ (ap (λ m. put m c e) (remove_others c live) ∙ put_remove (meaning_of xs) c e (ordered_meaning xs))))

pub meaning_gone : (xs : List Line) (c : Coordinate) → meaning_of (xs ++ gone c ∷ []) ≡ remove (meaning_of xs) c
meaning_gone xs c =
    ap (λ t. from_records (map copy_of t)) (lasting_push xs (gone c) ∙ append-nil (others c (lasting xs))) ∙ remove_others c (lasting xs)

pub meaning_squeezed : (xs : List Line) (c : Coordinate) → meaning_of (squeezed c xs) ≡ remove (meaning_of xs) c
meaning_squeezed xs c = ap (λ t. from_records (map copy_of t)) (lasting_squeezed c xs) ∙ remove_others c (lasting xs)

pub meaning_squeezed_kept : (xs : List Line) (c : Coordinate) (e : Entry) → meaning_of (squeezed c xs ++ kept c e ∷ []) ≡ put (meaning_of xs) c e
meaning_squeezed_kept xs c e =
    meaning_kept (squeezed c xs) c e ∙ (ap (λ m. put m c e) (meaning_squeezed xs c) ∙ put_remove (meaning_of xs) c e (ordered_meaning xs))

-- ---- counting

pub length_meaning : (xs : List Line) → length (meaning_of xs) ≡ length (lasting xs)
length_meaning xs = length_from_records (copies_of xs) (apart_settled (lasting xs) (settled_lasting xs)) ∙ length-map (lasting xs) copy_of

pub meaning_within : (xs : List Line) → length (meaning_of xs) ≤ length xs
meaning_within xs = omega (arith, length_meaning xs, length_lasting xs)

pub length_squeezed : (xs : List Line) (c : Coordinate) → length (squeezed c xs) ≡ length (remove (meaning_of xs) c)
length_squeezed xs c =
    sym (length_meaning (squeezed c xs) ∙ ap length (lasting_squeezed c xs)) ∙ ap length (meaning_squeezed xs c)

-- ---- searching

-- one record more decides for its own coordinate
pub find_line_push : (xs : List Line) (r : Line) (d : Coordinate) → find (copies_of (xs ++ r ∷ [])) d ≡ cond (same r.at d) (said_by r) (find (copies_of xs) d)
find_line_push xs r d =
    let c = r.at in
    let live = lasting xs in
    let rest = map copy_of (others c live) in
    ⊎_elim
    (λ l. ap (λ t. find (map copy_of t) d) (lasting_push xs r ∙ ap (λ t. others c live ++ t) (cond-true (live_kind r.kind) (r ∷ []) [] l)) ∙ (ap (λ t. find t d) (map_push copy_of (others c live) r) ∙ (find_push rest c r.held d (absent c live) ∙ (ap (cond (same c d) (Some r.held)) (find_others c live d) ∙ (twice (same c d) (Some r.held) None (find (map copy_of live) d) ∙ ap (λ t. cond (same c d) t (find (map copy_of live) d)) (sym (cond-true (live_kind r.kind) (Some r.held) None l)))))))
    (λ n. ap (λ t. find (map copy_of t) d) (lasting_push xs r ∙ (ap (λ t. others c live ++ t) (cond-false (live_kind r.kind) (r ∷ []) [] n) ∙ append-nil (others c live))) ∙ (find_others c live d ∙ ap (λ t. cond (same c d) t (find (map copy_of live) d)) (sym (cond-false (live_kind r.kind) (Some r.held) None n))))
    (cases_Bool (live_kind r.kind))

-- so the last of the records of a coordinate decides
pub last_decides : (o : Option Line) (rows : List (List ℕ)) (c : Coordinate) → o ≡ first_of (λ x. same x.at c) (map line_in (reverse rows)) → option_and_then said_by o ≡ find (copies_of (map line_in rows)) c
last_decides o rows c h =
    ap (option_and_then said_by) h ∙ (backward (reverse rows) ∙ ap (λ t. find (copies_of (map line_in t)) c) (reverse-reverse rows))
  where
    says_or : (b : Bool) (x : Line) (o : Option Line) → option_and_then said_by (cond b (Some x) o) ≡ cond b (said_by x) (option_and_then said_by o)
    says_or true x o = refl
    says_or false x o = refl

    backward : (ys : List (List ℕ)) → option_and_then said_by (first_of (λ x. same x.at c) (map line_in ys)) ≡ find (copies_of (map line_in (reverse ys))) c
    backward [] = refl
    backward (y ∷ ys) =
        let r = line_in y in
        says_or (same r.at c) r (first_of (λ x. same x.at c) (map line_in ys)) ∙ (ap (cond (same r.at c) (said_by r)) (backward ys) ∙ (sym (find_line_push (map line_in (reverse ys)) r c) ∙ ap (λ t. find (copies_of t) c) (sym (map_push line_in (reverse ys) y) ∙ ap (map line_in) (sym (reverse-append (y ∷ []) ys)))))

pub next_meaning : (xs : List Line) (p low high : ℕ) → next (meaning_of xs) p low high ≡ first_in_range (copies_of xs) p low high
next_meaning xs p low high = next_from_records (copies_of xs) p low high (apart_settled (lasting xs) (settled_lasting xs))

-- a record before the others
pub first_more : (x : Line) (xs : List Line) (p low high : ℕ) → first_in_range (copies_of (x ∷ xs)) p low high ≡ cond (lasts x xs) (nearer_in_range p low high (copy_of x) (first_in_range (copies_of xs) p low high)) (first_in_range (copies_of xs) p low high)
first_more x xs p low high =
    cond_both (lasts x xs) (x ∷ lasting xs) (lasting xs) (λ t. first_in_range (map copy_of t) p low high ≡ cond (lasts x xs) (nearer_in_range p low high (copy_of x) (first_in_range (copies_of xs) p low high)) (first_in_range (copies_of xs) p low high))
    (λ l. sym (cond-true (lasts x xs) _ _ l))
    (λ n. sym (cond-false (lasts x xs) _ _ n))

-- ---- squeezing, record by record

pub squeezed_in : (c : Coordinate) (x : Line) (xs : List Line) → lasts x xs ≡ true → same x.at c ≡ false → squeezed c (x ∷ xs) ≡ x ∷ squeezed c xs
squeezed_in c x xs l n =
    ap (others c) (cond-true (lasts x xs) (x ∷ lasting xs) (lasting xs) l) ∙ cond-false (same x.at c) (others c (lasting xs)) (x ∷ others c (lasting xs)) n

pub squeezed_own : (c : Coordinate) (x : Line) (xs : List Line) → same x.at c ≡ true → squeezed c (x ∷ xs) ≡ squeezed c xs
squeezed_own c x xs s =
    cond_both (lasts x xs) (x ∷ lasting xs) (lasting xs) (λ t. others c t ≡ squeezed c xs)
    (λ _. cond-true (same x.at c) (others c (lasting xs)) (x ∷ others c (lasting xs)) s)
    (λ _. refl)

pub squeezed_out : (c : Coordinate) (x : Line) (xs : List Line) → lasts x xs ≡ false → squeezed c (x ∷ xs) ≡ squeezed c xs
squeezed_out c x xs n = ap (others c) (cond-false (lasts x xs) (x ∷ lasting xs) (lasting xs) n)

pub squeezed_within : (c : Coordinate) (xs : List Line) → length (squeezed c xs) ≤ length xs
squeezed_within c xs = omega (arith, others_within c (lasting xs), length_lasting xs)
  where
    others_within : (c : Coordinate) (xs : List Line) → length (others c xs) ≤ length xs
    others_within c [] = omega arith
    others_within c (x ∷ xs) =
        let ih = others_within c xs in
        cond_both (same x.at c) (others c xs) (x ∷ others c xs) (λ t. length t ≤ length (x ∷ xs)) (λ _. omega arith) (λ _. omega arith)
