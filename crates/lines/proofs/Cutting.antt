-- Lines and fields by their cuts. Assumes nothing.
use Rattle.std.proofs.Common.{◌≡◌, ℕ, zero, suc, ◌+◌, ◌<◌, ◌≤◌, Bool, true, false, cond, eqb, ltb, not, List, [], ◌∷◌, length, length-drop, get_or, take, drop, zero-add, Some, None, Option, sym, refl, ap, ◌∙◌, arith}
use Rattle.std.specs.List.{onto_first, slice_split, position, position_or_len, before_first, after_first}
use Rattle.std.proofs.lemmas.Bool.{cond_both, ltb-false}
use Rattle.std.proofs.lemmas.Option.{cond_some, none-some}
use Rattle.std.specs.Option.{unwrap_or, option_map}
use Rattle.std.proofs.lemmas.List.Splits.{length-slice_split}
use Rattle.std.specs.List.{count_by}
use native.Mathlib.Numerals.{unary_clauses}
use denote.Ref.{Bor}
use Rattle.lines.specs.Texts.{lines_of, fields_of, field_at, is_line_end, is_comma}

-- the first line is what stands before the first line end, and the others are the lines of the rest
pub lines_cut : (b : ℕ) (bs : List ℕ) → lines_of (b ∷ bs) ≡ before_first is_line_end (b ∷ bs) ∷ lines_of (after_first is_line_end (b ∷ bs))
lines_cut b [] = by (is_line_end b)
  where
    by : (t : Bool) → cond t ([] ∷ []) (onto_first b []) ≡ take (cond (not t) 1 0) (b ∷ []) ∷ lines_of (drop (cond (not t) 1 0 + 1) (b ∷ []))
    by true = refl
    by false = refl
lines_cut b (x ∷ xs) = by (is_line_end b) (position_or_len is_line_end (x ∷ xs)) (lines_cut x xs)
  where
    by : (t : Bool) (n : ℕ) → lines_of (x ∷ xs) ≡ take n (x ∷ xs) ∷ lines_of (drop (n + 1) (x ∷ xs)) → cond t ([] ∷ lines_of (x ∷ xs)) (onto_first b (lines_of (x ∷ xs))) ≡ take (cond (not t) (1 + n) 0) (b ∷ x ∷ xs) ∷ lines_of (drop (cond (not t) (1 + n) 0 + 1) (b ∷ x ∷ xs))
    by true n h = refl
    by false n h = let e : 1 + n ≡ suc n = omega arith in rw e (simp unary_clauses (ap (onto_first b) (simp unary_clauses at h)))

pub lines_cut_some : (bs : List ℕ) → false ≡ eqb (length bs) 0 → lines_of bs ≡ before_first is_line_end bs ∷ lines_of (after_first is_line_end bs)
lines_cut_some [] h = cc
lines_cut_some (b ∷ bs) h = lines_cut b bs

-- and that takes at least one byte away
pub after_shorter : (bs : List ℕ) → false ≡ eqb (length bs) 0 → length (after_first is_line_end bs) < length bs
after_shorter [] h = cc
after_shorter (b ∷ bs) h = omega (arith, length-drop (position_or_len is_line_end (b ∷ bs) + 1) (b ∷ bs))

-- where a search for the first byte that passes ended
module _ (p : ℕ → Bool) (bs : List ℕ) where
  pub found_at : (i : ℕ) → Some i ≡ position p bs → i ≡ position_or_len p bs
  found_at i e = sym (cond_some (ltb (position_or_len p bs) (length bs)) _ i (sym e)).1

  pub none_found : None ≡ position p bs → length bs ≤ position_or_len p bs
  none_found e = cond_both (ltb (position_or_len p bs) (length bs)) (Some (position_or_len p bs)) None (λ o. None ≡ o → length bs ≤ position_or_len p bs) (λ t h. absurd (none-some _ h)) (λ t h. ltb-false _ _ t) e

-- a part that may be missing
pub unwrapped : (o : Option (Bor (List ℕ))) (d : Bor (List ℕ)) → (unwrap_or o d).now ≡ unwrap_or (option_map (λ x. x.now) o) d.now
unwrapped None d = refl
unwrapped (Some x) d = refl

-- a line with bytes has its parts as fields, and one without has no field with bytes
pub fields_some : (line : List ℕ) → false ≡ eqb (length line) 0 → fields_of line ≡ slice_split is_comma line
fields_some [] h = cc
fields_some (b ∷ bs) h = refl

-- a line with bytes has one field more than commas
pub fields_counted : (line : List ℕ) → false ≡ eqb (length line) 0 → length (fields_of line) ≡ count_by is_comma line + 1
fields_counted line h = ap length (fields_some line h) ∙ length-slice_split is_comma line

pub field_parted : (line : List ℕ) (k : ℕ) → get_or (slice_split is_comma line) k [] ≡ field_at line k
field_parted [] zero = refl
field_parted [] (suc k) = refl
field_parted (b ∷ bs) k = refl

-- ---- the fields of a line, cut by cut

-- the first part is what stands before the first comma
parted_first : (bs : List ℕ) → get_or (slice_split is_comma bs) 0 [] ≡ before_first is_comma bs
parted_first [] = refl
parted_first (b ∷ bs) = by (is_comma b) (position_or_len is_comma bs) (slice_split is_comma bs) (parted_first bs)
  where
    by : (t : Bool) (n : ℕ) (fs : List (List ℕ)) → get_or fs 0 [] ≡ take n bs → get_or (cond t ([] ∷ fs) (onto_first b fs)) 0 [] ≡ take (cond (not t) (1 + n) 0) (b ∷ bs)
    by true n fs h = refl
    by false n [] h = let e : 1 + n ≡ suc n = omega arith in rw e (ap (λ l. b ∷ l) h)
    by false n (f ∷ fs) h = let e : 1 + n ≡ suc n = omega arith in rw e (ap (λ l. b ∷ l) h)

onto_past : (b : ℕ) (fs : List (List ℕ)) (k : ℕ) → get_or (onto_first b fs) (suc k) [] ≡ get_or fs (suc k) []
onto_past b [] k = refl
onto_past b (f ∷ fs) k = refl

-- and the others are the parts of what stands after it
parted_past : (bs : List ℕ) (k : ℕ) → get_or (slice_split is_comma (after_first is_comma bs)) k [] ≡ get_or (slice_split is_comma bs) (suc k) []
parted_past [] zero = refl
parted_past [] (suc k) = refl
parted_past (b ∷ bs) k = by (is_comma b) (position_or_len is_comma bs) (parted_past bs k)
  where
    by : (t : Bool) (n : ℕ) → get_or (slice_split is_comma (drop (n + 1) bs)) k [] ≡ get_or (slice_split is_comma bs) (suc k) [] → get_or (slice_split is_comma (drop (cond (not t) (1 + n) 0 + 1) (b ∷ bs))) k [] ≡ get_or (cond t ([] ∷ slice_split is_comma bs) (onto_first b (slice_split is_comma bs))) (suc k) []
    by true n h = refl
    by false n h = let e : 1 + n + 1 ≡ suc (n + 1) = omega arith in rw e (h ∙ sym (onto_past b (slice_split is_comma bs) k))

-- after i cuts, what is left has the other fields
abbrev pub Passed : List ℕ → ℕ → List ℕ → Type 0
Passed line i rest = (k : ℕ) → get_or (slice_split is_comma rest) k [] ≡ field_at line (i + k)

pub passed_none : (line : List ℕ) → Passed line 0 line
passed_none line k = field_parted line k ∙ ap (field_at line) (sym (zero-add k))

pub passed_more : (line : List ℕ) (i : ℕ) (rest rest' : List ℕ) → rest' ≡ after_first is_comma rest → Passed line i rest → Passed line (i + 1) rest'
passed_more line i rest rest' e h k =
    let same : i + suc k ≡ (i + 1) + k = omega arith in
    ap (λ r. get_or (slice_split is_comma r) k []) e ∙ parted_past rest k ∙ h (suc k) ∙ ap (field_at line) same

pub passed_all : (line : List ℕ) (i : ℕ) (rest : List ℕ) → Passed line i rest → before_first is_comma rest ≡ field_at line i
passed_all line i rest h =
    let same : i + 0 ≡ i = omega arith in
    sym (parted_first rest) ∙ h 0 ∙ ap (field_at line) same
