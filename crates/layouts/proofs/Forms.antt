-- Fields come back from their bytes, messages from their fields, and bytes that decode are the form of what they decode to.
use Rattle.std.proofs.Common.{◌≡◌, ℕ, suc, ◌-◌, ◌^◌, ◌<◌, ◌≤◌, true, false, List, [], ◌∷◌, ◌++◌, length, get_or, take, drop, Some, None, Ok, Err, Option, Result, sym, refl, ap, ◌∙◌, ⊎_elim, arith}
use Rattle.std.proofs.lemmas.Bool.Decides.{nat_tests}
use Rattle.std.proofs.lemmas.Bool.{cond-true, cond-false, cases_Bool}
use Rattle.std.proofs.lemmas.List.{append-nil, take_rest, take-append-drop, length-take-le, length-drop}
use Rattle.std.proofs.lemmas.Nat.{be_bytes_4, be_bytes_8}
use Rattle.std.specs.Int.{w32, w64, from_be_bytes}
use Rattle.faults.specs.declared.Fault.{Fault}
use Rattle.faults.specs.declared.Fault.TheVariants.{Bytes}
use Rattle.messages.specs.declared.Message.{Message}
use Rattle.messages.specs.declared.Message.TheVariants.{RetrieveItems, Replicate, AddItem, GetItem}
use Rattle.words.specs.Words.{two, four, eight, of16}
use Rattle.words.proofs.Trips.{back16, back32, back64, there16}
use Rattle.words.proofs.Stds.{to_four, to_eight}
use Rattle.words.proofs.Bytes.{spread, spread_out, small_take, small_drop}
use Rattle.layouts.specs.declared.Fields.{Fields}
use Rattle.layouts.specs.Layout.{fields, fields_of, message_of, same, bytes_of, encoded, fields_in, exactly, read, decoded}

-- ---- fields

pub same_itself : (f : Fields) → same f f ≡ true
unfolding same
same_itself f = grind (arith, nat_tests)

equal_fields : (f g : Fields) → f.kind ≡ g.kind → f.replica ≡ g.replica → f.to ≡ g.to → f.from ≡ g.from → f.start ≡ g.start → f.end ≡ g.end → f.number ≡ g.number → f.value ≡ g.value → f ≡ g
equal_fields f g a b c d e h i j =
    let k : fields f.kind f.replica f.to f.from f.start f.end f.number f.value ≡ fields g.kind g.replica g.to g.from g.start g.end g.number g.value = cc in k

pub equal_from_same : (f g : Fields) → same f g ≡ true → f ≡ g
unfolding same
equal_from_same f g h =
    equal_fields f g (grind (arith, nat_tests)) (grind (arith, nat_tests)) (grind (arith, nat_tests)) (grind (arith, nat_tests)) (grind (arith, nat_tests)) (grind (arith, nat_tests)) (grind (arith, nat_tests)) (grind (arith, nat_tests))

pub fields_back : (f : Fields) (rest : List ℕ) → fields_in (bytes_of f ++ rest) ≡ f
fields_back f rest =
    equal_fields (fields_in (bytes_of f ++ rest)) f refl refl (back16 f.to) (back16 f.from) (back16 f.start) (back16 f.end) (back32 f.number) (back64 f.value)

-- ---- messages

pub message_back : (m : Message) → message_of (fields_of m) ≡ Some m
message_back (RetrieveItems to from start end) = refl
message_back (Replicate to from start end) = refl
message_back (AddItem to replica place stamp value) = refl
message_back (GetItem to replica place question) = refl

pub read_back : (m : Message) → read (fields_of m) ≡ Ok m
read_back m =
    ap (exactly (fields_of m)) (message_back m) ∙ cond-true (same (fields_of m) (fields_of m)) (Ok m) (Err Bytes) (same_itself (fields_of m))

-- fields that hold what their message writes, and others
pub read_same : (f g : Fields) (o : Option Message) (m : Message) → o ≡ message_of f → o ≡ Some m → g ≡ fields_of m → true ≡ same g f → Ok m ≡ read f
read_same f g o m e h k t =
    sym (ap (exactly f) (sym e ∙ h) ∙ cond-true (same (fields_of m) f) (Ok m) (Err Bytes) (ap (λ x. same x f) (sym k) ∙ sym t))

pub read_other : (f g : Fields) (o : Option Message) (m : Message) → o ≡ message_of f → o ≡ Some m → g ≡ fields_of m → false ≡ same g f → Err Bytes ≡ read f
read_other f g o m e h k t =
    sym (ap (exactly f) (sym e ∙ h) ∙ cond-false (same (fields_of m) f) (Ok m) (Err Bytes) (ap (λ x. same x f) (sym k) ∙ sym t))

-- the first of many bytes
pub read_first : (m : Message) (rest : List ℕ) → read (fields_in (encoded m ++ rest)) ≡ Ok m
read_first m rest = ap read (fields_back (fields_of m) rest) ∙ read_back m

pub decoded_fields : (f : Fields) → decoded (bytes_of f) ≡ read f
decoded_fields f = ap (λ t. read (fields_in t)) (sym (append-nil (bytes_of f))) ∙ ap read (fields_back f [])

pub decoded_back : (m : Message) → decoded (encoded m) ≡ Ok m
decoded_back m = decoded_fields (fields_of m) ∙ read_back m

exactly_form : (f : Fields) (o : Option Message) (m : Message) → exactly f o ≡ Ok m → fields_of m ≡ f
exactly_form f None m h = cc
exactly_form f (Some n) m h =
    ⊎_elim
    (λ t. let e = equal_from_same (fields_of n) f t in let k = cond-true (same (fields_of n) f) (Ok n) (Err Bytes) t in cc)
    (λ t. let k = cond-false (same (fields_of n) f) (Ok n) (Err Bytes) t in cc)
    (cases_Bool (same (fields_of n) f))

-- ---- bytes

-- what a decoder answers, and what that says of the bytes
pub record Formed (bs : List ℕ) (r : Result Message Fault) : Type 0 where
  pub value : r ≡ decoded bs
  pub form : (m : Message) → r ≡ Ok m → bs ≡ encoded m

pub formed : (bs : List ℕ) (f : Fields) (r : Result Message Fault) → bs ≡ bytes_of f → r ≡ read f → Formed bs r
formed bs f r h e =
    record {
      value = e ∙ sym (ap decoded h ∙ decoded_fields f);
      form = λ m k. h ∙ ap bytes_of (sym (exactly_form f (message_of f) m (sym e ∙ k)));
    }

-- the first ten bytes and the rest, as the fields that they are
pub formed_bytes : (bs : List ℕ) (to from start end number value : ℕ) → 10 ≤ length bs → take (length bs - 10) (drop 10 bs) ≡ four number ++ eight value → ((i : ℕ) → get_or bs i 0 < 256) → to ≡ of16 (get_or bs 2 0) (get_or bs 3 0) → from ≡ of16 (get_or bs 4 0) (get_or bs 5 0) → start ≡ of16 (get_or bs 6 0) (get_or bs 7 0) → end ≡ of16 (get_or bs 8 0) (get_or bs 9 0) → bs ≡ bytes_of (fields (get_or bs 0 0) (get_or bs 1 0) to from start end number value)
formed_bytes bs to from start end number value h e small p q r s =
    let b : ℕ → ℕ = λ i. get_or bs i 0 in
    let later : drop 10 bs ≡ four number ++ eight value = sym (take_rest bs 10) ∙ e in
    let tail = four number ++ eight value in
    let word : (n i : ℕ) → n ≡ of16 (b i) (b (suc i)) → b i ∷ (b (suc i) ∷ []) ≡ two n = λ n i k. sym (ap two k ∙ there16 (b i) (b (suc i)) (small (suc i))) in
    let t = word to 2 p in
    let u = word from 4 q in
    let v = word start 6 r in
    let w = word end 8 s in
    spread_out 0 10 bs h ∙ cc

-- the six words one after another, byte by byte
abbrev pub laid : ℕ → ℕ → List ℕ → List ℕ → List ℕ → List ℕ → List ℕ → List ℕ → List ℕ
laid k r a b c d e g = k ∷ (r ∷ (spread 0 2 a ++ (spread 0 2 b ++ (spread 0 2 c ++ (spread 0 2 d ++ (spread 0 4 e ++ spread 0 8 g))))))

pub laid_out : (f : Fields) (a b c d e g : List ℕ) → a ≡ two f.to → b ≡ two f.from → c ≡ two f.start → d ≡ two f.end → e ≡ four f.number → g ≡ eight f.value → laid f.kind f.replica a b c d e g ≡ bytes_of f
laid_out f a b c d e g h i j k l m = cc

-- the last twelve bytes are those of the number and the value that std reads from them
pub twelve_bytes : (bs front back : List ℕ) (number value : ℕ) → length bs ≡ 12 → ((i : ℕ) → get_or bs i 0 < 256) → front ≡ take 4 bs → back ≡ drop 4 bs → number ≡ from_be_bytes w32 front → number < 2 ^ 32 → value ≡ from_be_bytes w64 back → value < 2 ^ 64 → bs ≡ four number ++ eight value
twelve_bytes bs front back number value h small e f p i q j =
    let l : length (take 4 bs) ≡ 4 = length-take-le 4 bs (omega arith) in
    let m : length (drop 4 bs) ≡ 8 = omega (arith, length-drop 4 bs) in
    let a = be_bytes_4 (take 4 bs) number l (small_take 4 bs small) (p ∙ ap (from_be_bytes w32) e) in
    let b = be_bytes_8 (drop 4 bs) value m (small_drop 4 bs small) (q ∙ ap (from_be_bytes w64) f) in
    sym (take-append-drop 4 bs) ∙ (ap (λ t. t ++ drop 4 bs) (sym a ∙ to_four number i) ∙ ap (λ t. four number ++ t) (sym b ∙ to_eight value j))
