-- The records of a log, each in 18 bytes of its own.
use Rattle.std.proofs.Common.{◌≡◌, ℕ, zero, suc, ◌+◌, ◌*◌, ◌/◌, ◌<◌, List, [], ◌∷◌, ◌++◌, map, length, take, drop, min, get_or, sym, refl, ap, ◌∙◌, lit<, arith}
use Rattle.std.proofs.lemmas.List.{get_or-take, drop-drop, drop_all}
use Rattle.std.specs.Simd.{first_chunks}
use Rattle.words.specs.Words.{two, four, eight}
use Rattle.words.proofs.Bytes.{spread, spread_out}
use Rattle.words.proofs.Trips.{there16, there32, there64}
use Rattle.rows.specs.Rows.{rows_in}
use Rattle.rows.proofs.Laid.{take_chunks}
use Rattle.logs.specs.declared.lines.Line.{Line}
use Rattle.logs.specs.Lines.{line_bytes, line_in, line_form}
use Rattle.logs.specs.Reads.{clipped, lines_in}

pub line_first : (bs : List ℕ) → line_in (take 18 bs) ≡ line_in bs
line_first bs =
    let g : (i : ℕ) → i < 18 → get_or (take 18 bs) i 0 ≡ get_or bs i 0 = λ i h. get_or-take 18 bs i 0 h in
    cc (g 0 (lit< tt), g 1 (lit< tt), g 2 (lit< tt), g 3 (lit< tt), g 4 (lit< tt), g 5 (lit< tt), g 6 (lit< tt), g 7 (lit< tt), g 8 (lit< tt), g 9 (lit< tt), g 10 (lit< tt), g 11 (lit< tt), g 12 (lit< tt), g 13 (lit< tt), g 14 (lit< tt), g 15 (lit< tt), g 16 (lit< tt), g 17 (lit< tt))

pub chunk_at : (n : ℕ) (bs : List ℕ) (i : ℕ) → i < n → get_or (first_chunks 18 n bs) i [] ≡ take 18 (drop (18 * i) bs)
chunk_at zero bs i h = absurd (omega arith)
chunk_at (suc n) bs zero h = refl
chunk_at (suc n) bs (suc i) h =
    let e : 18 + 18 * i ≡ 18 * suc i = omega arith in
    chunk_at n (drop 18 bs) i (omega arith) ∙ ap (take 18) (drop-drop (18 * i) 18 bs ∙ ap (λ k. drop k bs) e)

lines_read : (n : ℕ) (bs : List ℕ) → map line_in (first_chunks 18 n bs) ≡ rows_in line_form n bs
lines_read zero bs = refl
lines_read (suc n) bs = ap (λ x. x ∷ map line_in (first_chunks 18 n (drop 18 bs))) (line_first bs) ∙ ap (λ t. line_in bs ∷ t) (lines_read n (drop 18 bs))

length_chunks : (n : ℕ) (bs : List ℕ) → length (first_chunks 18 n bs) ≡ n
length_chunks zero bs = refl
length_chunks (suc n) bs = ap suc (length_chunks n (drop 18 bs))

-- what the code takes of the bytes
pub record Taken (bs : List ℕ) (used : ℕ) (rows : List (List ℕ)) : Type 0 where
  pub bytes : rows ≡ first_chunks 18 (clipped bs used) bs
  pub lines : map line_in rows ≡ lines_in bs used
  pub len : length rows ≡ clipped bs used

pub taken : (bs : List ℕ) (used k : ℕ) (chunks : List (List ℕ)) → k ≡ min used (length chunks) → chunks ≡ first_chunks 18 (length bs / 18) bs → length chunks ≡ length bs / 18 → Taken bs used (take k chunks)
taken bs used k chunks e f l =
    let n = clipped bs used in
    let m : k ≡ n = e ∙ ap (min used) l in
    let is : take k chunks ≡ first_chunks 18 n bs = ap (take k) f ∙ (ap (λ j. take j (first_chunks 18 (length bs / 18) bs)) m ∙ take_chunks 18 n (length bs / 18) bs (omega arith)) in
    record {
      bytes = is;
      lines = ap (map line_in) is ∙ lines_read n bs;
      len = ap length is ∙ length_chunks n bs;
    }

-- what stands in an array is the bytes of the record
pub line_laid : (x : Line) (a b c d : List ℕ) → a ≡ two x.at.peer → b ≡ two x.at.place → c ≡ four x.held.stamp → d ≡ eight x.held.value → x.kind ∷ (x.at.replica ∷ (spread 0 2 a ++ (spread 0 2 b ++ (spread 0 4 c ++ spread 0 8 d)))) ≡ line_bytes x
line_laid x a b c d j k l m = cc

abbrev laid : ℕ → ℕ → List ℕ → List ℕ → List ℕ → List ℕ → List ℕ
laid k r a b c d = k ∷ (r ∷ (a ++ (b ++ (c ++ d))))

same_laid : (k r : ℕ) (a a' b b' c c' d d' : List ℕ) → a ≡ a' → b ≡ b' → c ≡ c' → d ≡ d' → laid k r a b c d ≡ laid k r a' b' c' d'
same_laid k r a a' b b' c c' d d' f g h i = cc

-- a record's bytes are those that it was read from
bytes_back : (bs : List ℕ) → length bs ≡ 18 → ((i : ℕ) → get_or bs i 0 < 256) → line_bytes (line_in bs) ≡ bs
bytes_back bs h small =
    let b : ℕ → ℕ = λ i. get_or bs i 0 in
    let p = there16 (b 2) (b 3) (small 3) in
    let q = there16 (b 4) (b 5) (small 5) in
    let x = there32 (b 6) (b 7) (b 8) (b 9) (small 7) (small 8) (small 9) in
    let y = there64 (b 10) (b 11) (b 12) (b 13) (b 14) (b 15) (b 16) (b 17) (small 11) (small 12) (small 13) (small 14) (small 15) (small 16) (small 17) in
    let none : drop 18 bs ≡ [] = drop_all 18 bs (omega arith) in
    let whole : bs ≡ spread 0 18 bs = spread_out 0 18 bs (omega arith) ∙ ap (λ t. spread 0 18 bs ++ t) none in
    same_laid (b 0) (b 1) _ _ _ _ _ _ _ _ p q x y ∙ sym whole

pub form_of : (bs : List ℕ) (x : Line) → length bs ≡ 18 → ((i : ℕ) → get_or bs i 0 < 256) → x ≡ line_in bs → bs ≡ line_bytes x
form_of bs x h small e = sym (ap line_bytes e ∙ bytes_back bs h small)
