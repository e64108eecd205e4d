-- How one call makes the story grow, and stories that say the same.
use Rattle.std.proofs.Common.{◌≡◌, ℕ, Bool, true, false, ◌⊎◌, Some, ap, inl, ⊎_elim}
use Rattle.std.specs.List.{slice_get}
use Rattle.std.proofs.lemmas.Bool.{both_ways}
use Rattle.messages.specs.declared.Message.TheVariants.{AddItem}
use Rattle.rules.specs.declared.Call.{Call}
use Rattle.rules.specs.declared.Call.TheVariants.{Insert, Lookup, Deliver}
use Rattle.rules.specs.declared.Answer.{Answer}
use Rattle.rules.specs.declared.Answer.TheVariants.{Done, Inserted, Opened, Asked, Moved, Sent, Kept, Older, Answered, Found, Nothing, NotYet, Withdrawn, Refused}
use Rattle.rules.specs.State.{Settings, State}
use Rattle.laws.proofs.Invariant.{Invariant, Story, Source}

-- call c, answered so in state s, delivered the ADDITEM of this stamp and replica as kept or older
pub record Arrives (s : State) (c : Call) (answer : Answer) (stamp r : ℕ) : Type 0 where
  pub n : ℕ
  pub to : ℕ
  pub i : ℕ
  pub v : ℕ
  pub call : c ≡ Deliver n
  pub message : slice_get s.post n ≡ Some (AddItem to r i stamp v)
  pub taken_in : (answer ≡ Kept) ⊎ (answer ≡ Older)

-- the story after call c, made at moment m in state s and answered so
abbrev pub grown : {M : Type 0} → Story M → M → State → Call → Answer → Story M
grown story m s c answer = record {
  inserted = λ stamp k v. story.inserted stamp k v ⊎ ((c ≡ Insert k v) × (answer ≡ Inserted stamp));
  arrived = λ stamp r. story.arrived stamp r ⊎ Arrives s c answer stamp r;
  asked = λ n q k r. story.asked n q k r ⊎ ((n ≡ m) × (c ≡ Lookup k r) × (answer ≡ Opened q));
  landed = story.landed;
}

-- the second says nothing that the first does not, and has the same inserts
pub record Like {M : Type 0} (one two : Story M) : Type 0 where
  pub inserted_to : (a k v : ℕ) → one.inserted a k v → two.inserted a k v
  pub inserted_from : (a k v : ℕ) → two.inserted a k v → one.inserted a k v
  pub arrived_from : (a r : ℕ) → two.arrived a r → one.arrived a r
  pub asked_from : (m : M) (q k r : ℕ) → two.asked m q k r → one.asked m q k r
  pub landed_from : (m : M) (k a : ℕ) → two.landed m k a → one.landed m k a

like_source : (set : Settings) {M : Type 0} (one two : Story M) → Like one two → (r i a v : ℕ) → Source set one.inserted r i a v → Source set two.inserted r i a v
like_source set one two like r i a v o = record { item = o.item; was = like.inserted_to a o.item v o.was; at = o.at }

pub like_kept : (set : Settings) {M : Type 0} (one two : Story M) (s : State) → Like one two → Invariant set one s → Invariant set two s
like_kept set one two s like kept =
    let f = kept.faithful in
    record {
      sound = kept.sound;
      faithful = record {
        copies_inserted = λ p r i e h. like_source set one two like r i e.stamp e.value (f.copies_inserted p r i e h);
        adds_inserted = λ to r i a v h. like_source set one two like r i a v (f.adds_inserted to r i a v h);
        adds_in_range = f.adds_in_range;
        inserted_below = λ a k v h. f.inserted_below a k v (like.inserted_from a k v h);
        stamp_once = λ a k v k' v' h h'. f.stamp_once a k v k' v' (like.inserted_from a k v h) (like.inserted_from a k' v' h');
        reached = λ a k v r h. f.reached a k v r (like.inserted_from a k v h);
        arrived_below = λ a r h. f.arrived_below a r (like.arrived_from a r h);
        arrived_covered = λ a k v r h h'. f.arrived_covered a k v r (like.arrived_from a r h) (like.inserted_from a k v h');
        gets_asked = λ to r i q m k r' h h'. f.gets_asked to r i q m k r' h (like.asked_from m q k r' h');
        gets_below = f.gets_below;
        questions_below = f.questions_below;
        asked_below = λ m q k r h. f.asked_below m q k r (like.asked_from m q k r h);
        landed_covered = λ m q k r a h h'. f.landed_covered m q k r a (like.asked_from m q k r h) (like.landed_from m k a h');
        found_fresh = λ m q k r a v h h'. let g = f.found_fresh m q k r a v h (like.asked_from m q k r h') in (like.inserted_to a k v g.0, λ b l. g.1 b (like.landed_from m k b l));
        absent_fresh = λ m q k r a h h' l. f.absent_fresh m q k r a h (like.asked_from m q k r h') (like.landed_from m k a l);
      };
    }

-- answers that make the story grow
abbrev pub news : Answer → Bool
news Done = false
news (Inserted a) = true
news (Opened q) = true
news Asked = false
news (Moved n) = false
news Sent = false
news Kept = true
news Older = true
news Answered = false
news (Found a v) = false
news Nothing = false
news NotYet = false
news Withdrawn = false
news (Refused fault) = false

-- after any other answer it is as it was
pub nothing_new : {M : Type 0} (story : Story M) (m : M) (s : State) (c : Call) (answer : Answer) → news answer ≡ false → Like story (grown story m s c answer)
nothing_new story m s c answer old = record {
  inserted_to = λ a k v h. inl h;
  inserted_from = λ a k v h. ⊎_elim (λ x. x) (λ x. absurd (both_ways (news answer) old (ap news x.1))) h;
  arrived_from = λ a r h. ⊎_elim (λ x. x) (λ x. absurd (⊎_elim (λ e. both_ways (news answer) old (ap news e)) (λ e. both_ways (news answer) old (ap news e)) x.taken_in)) h;
  asked_from = λ n q k r h. ⊎_elim (λ x. x) (λ x. absurd (both_ways (news answer) old (ap news x.2))) h;
  landed_from = λ n k a h. h;
}
