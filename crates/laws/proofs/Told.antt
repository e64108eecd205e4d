-- The story of a run, as the run's calls and answers tell it, and how it grows by a call.
use Rattle.std.proofs.Common.{◌≡◌, ℕ, ◌⊎◌, List, [], ◌∷◌, ◌++◌, length, sym, refl, ap, ◌∙◌, inl, inr, ⊎_elim, append_assoc, arith}
use Rattle.std.specs.List.{slice_get}
use Rattle.rules.specs.declared.Call.{Call}
use Rattle.rules.specs.declared.Call.TheVariants.{Insert, Lookup, Deliver}
use Rattle.rules.specs.State.{Settings, State, empty}
use Rattle.rules.specs.Rules.{step}
use Rattle.rules.specs.Runs.{from, after, answer, waiting, Inserted, Arrived, InsertLanded, LookedUp}
use Rattle.laws.proofs.Invariant.{Story}
use Rattle.laws.proofs.Likes.{Arrives, grown, Like}

-- the moments are the calls made before
abbrev pub told : Settings → List Call → Story (List Call)
told set run = record {
  inserted = λ stamp k v. Inserted set run stamp k v;
  arrived = λ stamp r. Arrived set run stamp r;
  asked = λ first q k r. LookedUp set run first k r q;
  landed = λ first k stamp. InsertLanded set first k stamp;
}

-- ---- one more call

from_push : (set : Settings) (s : State) (run : List Call) (c : Call) → from set s (run ++ c ∷ []) ≡ (step set (from set s run) c).after
from_push set s [] c = refl
from_push set s (d ∷ run) c = from_push set (step set s d).after run c

pub after_push : (set : Settings) (run : List Call) (c : Call) → after set (run ++ c ∷ []) ≡ (step set (after set run) c).after
after_push set run c = from_push set empty run c

heads : (x y : Call) (xs ys : List Call) → x ∷ xs ≡ y ∷ ys → x ≡ y
heads x y xs ys e = cc

tails : (x y : Call) (xs ys : List Call) → x ∷ xs ≡ y ∷ ys → xs ≡ ys
tails x y xs ys e = cc

pub not_nil : (xs : List Call) (x : Call) (ys : List Call) → [] ≡ xs ++ x ∷ ys → ⊥
not_nil [] x ys e = let h = ap length e in omega arith
not_nil (z ∷ xs) x ys e = let h = ap length e in omega arith

-- a split of one more call: it is the last, or the split is one of the calls before
pub split_push : (run : List Call) (c : Call) (before : List Call) (x : Call) (later : List Call) → run ++ c ∷ [] ≡ before ++ x ∷ later → ((run ≡ before) × (c ≡ x)) ⊎ ((rest : List Call) × (run ≡ before ++ x ∷ rest))
split_push [] c [] x later e = inl (refl, heads c x [] later e)
split_push [] c (b ∷ before) x later e = absurd (not_nil before x later (tails c b [] (before ++ x ∷ later) e))
split_push (y ∷ run) c [] x later e = inr (run, ap (λ z. z ∷ run) (heads y x (run ++ c ∷ []) later e))
split_push (y ∷ run) c (b ∷ before) x later e =
    let h = heads y b (run ++ c ∷ []) (before ++ x ∷ later) e in
    ⊎_elim
    (λ k. inl (ap (λ z. z ∷ run) h ∙ ap (λ l. b ∷ l) k.0, k.1))
    (λ k. inr (k.0, ap (λ z. z ∷ run) h ∙ ap (λ l. b ∷ l) k.1))
    (split_push run c before x later (tails y b (run ++ c ∷ []) (before ++ x ∷ later) e))

push_split : (run : List Call) (c : Call) (before : List Call) (x : Call) (later : List Call) → run ≡ before ++ x ∷ later → run ++ c ∷ [] ≡ before ++ x ∷ (later ++ c ∷ [])
push_split run c before x later e = ap (λ l. l ++ c ∷ []) e ∙ append_assoc before (x ∷ later) (c ∷ [])

module _ (set : Settings) (run : List Call) (c : Call) where
  abbrev more : Story (List Call)
  more = grown (told set run) run (after set run) c (answer set run c)

  inserted_to : (a k v : ℕ) → more.inserted a k v → Inserted set (run ++ c ∷ []) a k v
  inserted_to a k v (inl x) =
      record { before = x.before; later = x.later ++ c ∷ []; split = push_split run c x.before (Insert k v) x.later x.split; stamped_so = x.stamped_so }
  inserted_to a k v (inr x) =
      record { before = run; later = []; split = ap (λ d. run ++ d ∷ []) x.0; stamped_so = ap (answer set run) (sym x.0) ∙ x.1 }

  inserted_from : (a k v : ℕ) → Inserted set (run ++ c ∷ []) a k v → more.inserted a k v
  inserted_from a k v x =
      ⊎_elim
      (λ e. inr (e.1, ap (answer set run) e.1 ∙ (ap (λ b. answer set b (Insert k v)) e.0 ∙ x.stamped_so)))
      (λ e. inl (record { before = x.before; later = e.0; split = e.1; stamped_so = x.stamped_so }))
      (split_push run c x.before (Insert k v) x.later x.split)

  arrived_from : (a r : ℕ) → Arrived set (run ++ c ∷ []) a r → more.arrived a r
  arrived_from a r x =
      ⊎_elim
      (λ e. inr (last e.0 e.1))
      (λ e. inl (record { before = x.before; later = e.0; n = x.n; split = e.1; delivered_it = x.delivered_it; taken_in = x.taken_in }))
      (split_push run c x.before (Deliver x.n) x.later x.split)
    where
      last : run ≡ x.before → c ≡ Deliver x.n → Arrives (after set run) c (answer set run c) a r
      last b d =
          let same : answer set run c ≡ answer set x.before (Deliver x.n) = ap (answer set run) d ∙ ap (λ l. answer set l (Deliver x.n)) b in
          record {
            n = x.n;
            to = x.delivered_it.0;
            i = x.delivered_it.1;
            v = x.delivered_it.2;
            call = d;
            message = ap (λ l. slice_get (waiting set l) x.n) b ∙ x.delivered_it.3;
            taken_in = ⊎_elim (λ y. inl (same ∙ y)) (λ y. inr (same ∙ y)) x.taken_in;
          }

  asked_from : (m : List Call) (q k r : ℕ) → (told set (run ++ c ∷ [])).asked m q k r → more.asked m q k r
  asked_from m q k r x =
      ⊎_elim
      (λ e. inr (sym e.0, e.1, ap (answer set run) e.1 ∙ (ap (λ l. answer set l (Lookup k r)) e.0 ∙ x.opened_so)))
      (λ e. inl (record { later = e.0; split = e.1; opened_so = x.opened_so }))
      (split_push run c m (Lookup k r) x.later x.split)

  pub told_push : Like more (told set (run ++ c ∷ []))
  told_push = record {
    inserted_to = inserted_to;
    inserted_from = inserted_from;
    arrived_from = arrived_from;
    asked_from = asked_from;
    landed_from = λ m k a h. h;
  }
