-- What a position of the post tells of its delivery. Assumes nothing.
use Rattle.std.proofs.Common.{◌≡◌, ℕ, zero, suc, ◌+◌, ◌-◌, ◌<◌, ◌≤◌, Bool, true, false, cond, leb, List, [], ◌∷◌, length, Some, None, Option, refl, ap, ◌∙◌, arith}
use Rattle.std.specs.List.{slice_get, remove}
use Rattle.std.proofs.lemmas.Bool.{le-leb, lt-leb}
use Rattle.faults.specs.declared.Fault.{Fault}
use Rattle.faults.specs.declared.Fault.TheVariants.{ShelfFull, NoMessage}
use Rattle.faults.specs.Checks.{first_fault}
use Rattle.messages.specs.declared.Message.{Message}
use Rattle.messages.specs.declared.Message.TheVariants.{RetrieveItems, Replicate, AddItem, GetItem}
use Rattle.rules.specs.State.{Settings, State, with_post}
use Rattle.rules.specs.Refusals.{cramped, deliver_checks}
use Rattle.rules.specs.Edits.{delivery_edits}
use Rattle.holders.specs.Holders.{no_place}

nth_past : (xs : List Message) (n : ℕ) → slice_get xs n ≡ None → length xs ≤ n
nth_past [] n e = omega arith
nth_past (x ∷ xs) zero e = absurd (let z : ◌≡◌ {A = ℕ} 0 1 = cc in omega arith)
nth_past (x ∷ xs) (suc n) e = let h = nth_past xs n e in omega arith

pub nth_within : (xs : List Message) (n : ℕ) (m : Message) → slice_get xs n ≡ Some m → n < length xs
nth_within [] n m e = absurd (let z : ◌≡◌ {A = ℕ} 0 1 = cc in omega arith)
nth_within (x ∷ xs) zero m e = omega arith
nth_within (x ∷ xs) (suc n) m e = let h = nth_within xs n m e in omega arith

removed_length : (xs : List Message) (n : ℕ) → n < length xs → length (remove xs n) + 1 ≡ length xs
removed_length [] n h = absurd (omega arith)
removed_length (x ∷ xs) zero h = omega arith
removed_length (x ∷ xs) (suc n) h = let less : n < length xs = omega arith in let e = removed_length xs n less in omega arith

-- after a message was taken there is a place for one
pub place_again : (post after : List Message) (n : ℕ) (m : Message) (slots slots' kept : ℕ) → slice_get post n ≡ Some m → after ≡ remove post n → kept ≡ length post → kept ≤ slots → slots' ≡ slots → no_place after slots' ≡ false
place_again post after n m slots slots' kept there took counts within same =
    let gone = removed_length post n (nth_within post n m there) in
    let fewer : length after + 1 ≡ length post = ap (λ l. length l + 1) took ∙ gone in
    lt-leb slots' (length after) (omega arith)

module _ (set : Settings) (s : State) (n : ℕ) where
  full : Fault
  full = ShelfFull (set.cells - length s.shelf)

  pub nothing_there : slice_get s.post n ≡ None → first_fault (deliver_checks set s n) ≡ Some NoMessage
  unfolding deliver_checks full
  nothing_there e =
      ap (λ (o : Option Message). cond (cramped set s o) (Some full) (cond (leb (length s.post) n) (Some NoMessage) None)) e
      ∙ ap (λ (t : Bool). cond t (Some NoMessage) None) (le-leb (length s.post) n (nth_past s.post n e))

  pub message_there : (m : Message) (t : Bool) → slice_get s.post n ≡ Some m → cramped set s (Some m) ≡ t → first_fault (deliver_checks set s n) ≡ cond t (Some (ShelfFull (set.cells - length s.shelf))) None
  unfolding deliver_checks
  message_there m t e h =
      ap (λ (o : Option Message). cond (cramped set s o) (Some (ShelfFull (set.cells - length s.shelf))) (cond (leb (length s.post) n) (Some NoMessage) None)) e
      ∙ (λ j. cond (h j) (Some (ShelfFull (set.cells - length s.shelf))) (cond (lt-leb (length s.post) n (nth_within s.post n m e) j) (Some NoMessage) None))

  -- no fault: the message finds room
  pub not_cramped : (m : Message) → slice_get s.post n ≡ Some m → first_fault (deliver_checks set s n) ≡ None → cramped set s (Some m) ≡ false
  not_cramped m e h = at (cramped set s (Some m)) (message_there m (cramped set s (Some m)) e refl)
    where
      at : (t : Bool) → first_fault (deliver_checks set s n) ≡ cond t (Some (ShelfFull (set.cells - length s.shelf))) None → t ≡ false
      at true is = absurd (let z : ◌≡◌ {A = ℕ} 0 1 = cc in omega arith)
      at false is = refl

-- the same settings with another size of the post
abbrev pub slotted : Settings → ℕ → Settings
slotted set slots = record { size = set.size; copies = set.copies; cells = set.cells; slots = slots }

-- ---- neither the post nor its size tells what a message needs of the shelf, or what it edits

module _ (set : Settings) (s : State) where
  pub cramped_taken : (slots : ℕ) (post : List Message) (m : Message) → cramped (slotted set slots) (with_post post s) (Some m) ≡ cramped set s (Some m)
  cramped_taken slots post (RetrieveItems to from start end) = refl
  cramped_taken slots post (Replicate to from start end) = refl
  cramped_taken slots post (AddItem to r i stamp v) = refl
  cramped_taken slots post (GetItem to r i q) = refl

  pub edits_taken : (slots : ℕ) (post : List Message) (m : Message) → delivery_edits (slotted set slots) (with_post post s) (Some m) ≡ delivery_edits set s (Some m)
  edits_taken slots post (RetrieveItems to from start end) = refl
  edits_taken slots post (Replicate to from start end) = refl
  edits_taken slots post (AddItem to r i stamp v) = refl
  edits_taken slots post (GetItem to r i q) = refl
