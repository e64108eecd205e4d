-- Every run keeps everything, and so keeps the three laws.
use Rattle.std.proofs.Common.{◌≡◌, ℕ, ◌≤◌, List, [], ◌∷◌, ◌++◌, map, Some, None, Option, sym, refl, ap, ◌∙◌, subst, append_assoc, append-nil, arith}
use Rattle.faults.specs.declared.Fault.{Fault}
use Rattle.copies.proofs.Facts.{some_none}
use Rattle.rules.specs.declared.Reply.{Reply}
use Rattle.rules.specs.declared.Reply.TheVariants.{Waiting, TooEarly, Held, Absent}
use Rattle.rules.specs.declared.Call.{Call}
use Rattle.rules.specs.declared.Call.TheVariants.{Deliver, Collect}
use Rattle.rules.specs.declared.Answer.TheVariants.{Found, Nothing}
use Rattle.rules.specs.State.{Settings, Lawful, State, empty, reply_to}
use Rattle.rules.specs.Refusals.{refusal}
use Rattle.rules.specs.Rules.{step, decided, collecting}
use Rattle.rules.specs.Runs.{after, waiting, accepted_of}
use Rattle.rules.specs.Laws.{Replicated, Fresh, Drains, Laws, EveryRunKeepsItsLaws}
use Rattle.laws.proofs.Invariant.{Invariant}
use Rattle.laws.proofs.Promises.{kept_there, kept_only}
use Rattle.laws.proofs.Accepted.{collect_accepted}
use Rattle.laws.proofs.Likes.{grown, like_kept}
use Rattle.laws.proofs.Steps.{step_kept}
use Rattle.laws.proofs.Weights.{potential, potential_small, deliver_spends}
use Rattle.laws.proofs.Rooms.{deliver_taken}
use Rattle.laws.proofs.Collects.{reply_open}
use Rattle.laws.proofs.Told.{told, told_push, after_push, not_nil}

-- ---- every run keeps everything

module _ (set : Settings) (lawful : Lawful set) where
  at_first : Invariant set (told set []) empty
  at_first = record {
    sound = record {
      peers = record {
        distinct = tt;
        below = λ p st h. absurd (some_none (sym h));
        giver_there = λ x g a e h. absurd (some_none (sym h));
        giver_once = λ x y g a e b d h k. absurd (some_none (sym h));
        arc_below = λ x g a e h. absurd (some_none (sym h));
        arc_owned = λ x g a e i h j k. absurd (some_none (sym h));
      };
      ordered = tt;
      placed = λ p r i e h. absurd (some_none (sym h));
      errands = λ x g a e. refl;
      populated = λ h. refl;
      room = omega arith;
    };
    faithful = record {
      copies_inserted = λ p r i e h. absurd (some_none (sym h));
      adds_inserted = λ to r i a v h. absurd h;
      adds_in_range = λ to r i a v h. absurd h;
      inserted_below = λ a k v h. absurd (not_nil _ _ _ h.split);
      stamp_once = λ a k v k' v' h j. absurd (not_nil _ _ _ h.split);
      reached = λ a k v r h lo hi. absurd (not_nil _ _ _ h.split);
      arrived_below = λ a r h. absurd (not_nil _ _ _ h.split);
      arrived_covered = λ a k v r h j. absurd (not_nil _ _ _ h.split);
      gets_asked = λ to r i q m k r' h. absurd h;
      gets_below = λ to r i q h. absurd h;
      questions_below = λ x h. absurd h;
      asked_below = λ m q k r h. absurd (not_nil _ _ _ h.split);
      landed_covered = λ m q k r a h. absurd (not_nil _ _ _ h.split);
      found_fresh = λ m q k r a v h. absurd h;
      absent_fresh = λ m q k r a h. absurd h;
    };
  }

  one_more : (run : List Call) (c : Call) → Invariant set (told set run) (after set run) → Invariant set (told set (run ++ c ∷ [])) (after set (run ++ c ∷ []))
  one_more run c kept =
      let s : State = after set run in
      let grew : Invariant set (grown (told set run) run s c (step set s c).answer) (step set s c).after = step_kept set lawful (told set run) run s kept (λ k a r h lo hi. (h.landed r (lo, hi), (h.v, h.inserted))) c in
      subst (λ w. Invariant set (told set (run ++ c ∷ [])) w) (sym (after_push set run c)) (like_kept set (grown (told set run) run s c (step set s c).answer) (told set (run ++ c ∷ [])) (step set s c).after (told_push set run c) grew)

  keeps_on : (done rest : List Call) → Invariant set (told set done) (after set done) → Invariant set (told set (done ++ rest)) (after set (done ++ rest))
  keeps_on done [] kept = subst (λ run. Invariant set (told set run) (after set run)) (sym (append-nil done)) kept
  keeps_on done (c ∷ rest) kept =
      subst (λ run. Invariant set (told set run) (after set run)) (append_assoc done (c ∷ []) rest) (keeps_on (done ++ c ∷ []) rest (one_more done c kept))

  pub run_kept : (run : List Call) → Invariant set (told set run) (after set run)
  run_kept run = keeps_on [] run at_first

  -- ---- replicated

  replicated : (run : List Call) → waiting set run ≡ [] → Replicated set run
  replicated run quiet =
      let k = run_kept run in
      record {
        there = λ item a v r last range. let h = kept_there set lawful (told set run) (after set run) k.sound k.faithful quiet item a v r last.inserted last.highest range.0 range.1 in (h.owner, h.owns, h.has);
        only = λ p r i a v f. let b = kept_only set lawful (told set run) (after set run) k.sound k.faithful quiet p r i a v f in (b.item, record { inserted = b.was; highest = b.last }, (b.some_replica, b.replica_in_range), b.here, b.owns);
      }

  -- ---- fresh

  shows_found : (s : State) (q a v : ℕ) (o : Option Reply) → (collecting q s o).answer ≡ Found a v → o ≡ Some (Held a v)
  shows_found s q a v None h = absurd (let z : ◌≡◌ {A = ℕ} 0 1 = cc in omega arith)
  shows_found s q a v (Some Waiting) h = absurd (let z : ◌≡◌ {A = ℕ} 0 1 = cc in omega arith)
  shows_found s q a v (Some TooEarly) h = absurd (let z : ◌≡◌ {A = ℕ} 0 1 = cc in omega arith)
  shows_found s q a v (Some (Held b w)) h =
      let e : b ≡ a = cc in
      let f : w ≡ v = cc in
      ap (λ x. Some (Held x w)) e ∙ ap (λ x. Some (Held a x)) f
  shows_found s q a v (Some Absent) h = absurd (let z : ◌≡◌ {A = ℕ} 0 1 = cc in omega arith)

  shows_nothing : (s : State) (q : ℕ) (o : Option Reply) → (o ≡ None → ⊥) → (collecting q s o).answer ≡ Nothing → o ≡ Some Absent
  shows_nothing s q None n h = absurd (n refl)
  shows_nothing s q (Some Waiting) n h = absurd (let z : ◌≡◌ {A = ℕ} 0 1 = cc in omega arith)
  shows_nothing s q (Some TooEarly) n h = absurd (let z : ◌≡◌ {A = ℕ} 0 1 = cc in omega arith)
  shows_nothing s q (Some (Held b w)) n h = absurd (let z : ◌≡◌ {A = ℕ} 0 1 = cc in omega arith)
  shows_nothing s q (Some Absent) n h = refl

  -- what a collect shows stood among the open questions
  found_open : (s : State) (q a v : ℕ) → (step set s (Collect q)).answer ≡ Found a v → reply_to s.questions q ≡ Some (Held a v)
  unfolding step
  found_open s q a v h = go (refusal set s (Collect q)) refl h
    where
      go : (o : Option Fault) → refusal set s (Collect q) ≡ o → (decided set s (Collect q) o).answer ≡ Found a v → reply_to s.questions q ≡ Some (Held a v)
      go None r e = shows_found s q a v (reply_to s.questions q) e
      go (Some fault) r e = absurd (let z : ◌≡◌ {A = ℕ} 0 1 = cc in omega arith)

  nothing_open : (s : State) (q : ℕ) → (step set s (Collect q)).answer ≡ Nothing → reply_to s.questions q ≡ Some Absent
  unfolding step
  nothing_open s q h = go (refusal set s (Collect q)) refl h
    where
      go : (o : Option Fault) → refusal set s (Collect q) ≡ o → (decided set s (Collect q) o).answer ≡ Nothing → reply_to s.questions q ≡ Some Absent
      go None r e = shows_nothing s q (reply_to s.questions q) (collect_accepted set s q r) e
      go (Some fault) r e = absurd (let z : ◌≡◌ {A = ℕ} 0 1 = cc in omega arith)

  fresh : (run : List Call) → Fresh set run
  fresh run =
      let k = run_kept run in
      let s : State = after set run in
      record {
        found = λ first item r q a v asked shown. k.faithful.found_fresh first q item r a v (reply_open s.questions q (Held a v) (found_open s q a v shown)) asked;
        nothing = λ first item r q asked shown b. k.faithful.absent_fresh first q item r b (reply_open s.questions q Absent (nothing_open s q shown)) asked;
      }

  -- ---- drains

  spent : (run : List Call) (ns : List ℕ) → accepted_of set run ns ≤ potential set (after set run)
  spent run [] = omega arith
  spent run (n ∷ ns) =
      let s : State = after set run in
      let here = deliver_spends set (told set run) s (run_kept run) n in
      let on : accepted_of set (run ++ Deliver n ∷ []) ns ≤ potential set (step set s (Deliver n)).after = subst (λ w. accepted_of set (run ++ Deliver n ∷ []) ns ≤ potential set w) (after_push set run (Deliver n)) (spent (run ++ Deliver n ∷ []) ns) in
      omega arith

  drains : (run : List Call) → Drains set run
  drains run = record {
    few = λ ns. omega (arith, spent run ns, potential_small set (after set run));
    each = λ ns n l. deliver_taken set (told set (run ++ map Deliver ns)) (after set (run ++ map Deliver ns)) (run_kept (run ++ map Deliver ns)) n l;
  }

  laws : (run : List Call) → Laws set run
  laws run = record { replicated = replicated run; fresh = fresh run; drains = drains run }

pub every_run_keeps_its_laws : EveryRunKeepsItsLaws
every_run_keeps_its_laws set lawful run = laws set lawful run
