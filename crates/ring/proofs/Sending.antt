-- The copies of an insert, sent one after the other. Assumes nothing.
use Rattle.std.proofs.Common.{◌≡◌, ℕ, zero, suc, ◌+◌, ◌-◌, ◌<◌, ◌≤◌, false, cond, List, [], ◌∷◌, ◌++◌, length, Some, None, Option, sym, refl, ap, ◌∙◌, subst, append_assoc, add-one, arith, length-append}
use Rattle.std.specs.Option.{unwrap_or}
use Rattle.std.proofs.lemmas.List.{length_push}
use Rattle.std.proofs.lemmas.Bool.{lt-leb, cond-false}
use Rattle.messages.specs.declared.Message.{Message}
use Rattle.messages.specs.declared.Message.TheVariants.{AddItem}
use Rattle.rules.specs.declared.Peer.{Peer}
use Rattle.circle.specs.Owners.{owner}
use Rattle.rules.specs.State.{Settings, members, place_of, else_the, owner_else}
use Rattle.rules.specs.Rules.{additions}
use Rattle.holders.specs.Holders.{no_place}

module _ (set : Settings) (t : List Peer) (k stamp v : ℕ) where
  -- the message for replica r
  abbrev pub addition : ℕ → Message
  addition r = AddItem (owner_else set t (place_of set k r) (place_of set k r)) r (place_of set k r) stamp v

  -- the message that is put
  pub addition_is : (i to place : ℕ) (o : Option ℕ) → place ≡ place_of set k i → o ≡ owner set.size (members t) place → to ≡ unwrap_or o place → AddItem to i place stamp v ≡ addition i
  addition_is i to place o here owned is =
      (λ j. AddItem ((is ∙ other o place ∙ ap (else_the place) owned) j) i place stamp v)
      ∙ ap (λ (p : ℕ). AddItem (owner_else set t p p) i p stamp v) here
    where
      other : (o : Option ℕ) (d : ℕ) → unwrap_or o d ≡ else_the d o
      other None d = refl
      other (Some n) d = refl

  pub additions_more : (n : ℕ) → additions set t k stamp v (n + 1) ≡ additions set t k stamp v n ++ addition (n + 1) ∷ []
  additions_more n =
      let P : ℕ → Type 0 = λ m. additions set t k stamp v m ≡ additions set t k stamp v n ++ addition m ∷ [] in
      subst P (sym (add-one n)) refl

  additions_length : (n : ℕ) → length (additions set t k stamp v n) ≡ n
  additions_length zero = refl
  additions_length (suc n) = length_push (additions set t k stamp v n) (addition (suc n)) ∙ (ap (λ m. m + 1) (additions_length n) ∙ add-one n)

  -- a post with room for all of them has room for the next
  pub place_for_next : (waiting now : List Message) (n copies room room' : ℕ) → now ≡ waiting ++ additions set t k stamp v n → n < copies → length waiting + copies ≤ room → room' ≡ room → no_place now room' ≡ false
  place_for_next waiting now n copies room room' e less enough same =
      let long = ap length e ∙ length-append waiting (additions set t k stamp v n) in
      let sent = additions_length n in
      let free : length now < room' = omega arith in
      lt-leb room' (length now) free

  -- one more is sent
  pub sent_more : (waiting now after : List Message) (n : ℕ) (m : Message) → now ≡ waiting ++ additions set t k stamp v n → after ≡ now ++ m ∷ [] → m ≡ addition (n + 1) → after ≡ waiting ++ additions set t k stamp v (n + 1)
  sent_more waiting now after n m e put is =
      put
      ∙ (λ j. e j ++ is j ∷ [])
      ∙ append_assoc waiting (additions set t k stamp v n) (addition (n + 1) ∷ [])
      ∙ ap (λ l. waiting ++ l) (sym (additions_more n))

  -- the copy of replica i, put into a post that has room for all of them
  pub sent_here : (waiting now after : List Message) (i copies room room' : ℕ) (m : Message) → now ≡ waiting ++ additions set t k stamp v (i - 1) → 1 ≤ i → i ≤ copies → length waiting + copies ≤ room → room' ≡ room → after ≡ cond (no_place now room') now (now ++ m ∷ []) → m ≡ addition i → after ≡ waiting ++ additions set t k stamp v i
  sent_here waiting now after i copies room room' m e some few enough same put is =
      let one : i - 1 + 1 ≡ i = omega arith in
      let place = place_for_next waiting now (i - 1) copies room room' e (omega arith) enough same in
      sent_more waiting now after (i - 1) m e (put ∙ cond-false (no_place now room') _ _ place) (is ∙ ap addition (sym one))
      ∙ ap (λ (n : ℕ). waiting ++ additions set t k stamp v n) one

-- neither the shelf's nor the post's size tells where copies go
pub additions_same : (n f a b c d : ℕ) (t : List Peer) (k stamp v r : ℕ) → additions (record { size = n; copies = f; cells = a; slots = b }) t k stamp v r ≡ additions (record { size = n; copies = f; cells = c; slots = d }) t k stamp v r
additions_same n f a b c d t k stamp v zero = refl
additions_same n f a b c d t k stamp v (suc r) =
    ap (λ (l : List Message). l ++ addition (record { size = n; copies = f; cells = a; slots = b }) t k stamp v (suc r) ∷ []) (additions_same n f a b c d t k stamp v r)
