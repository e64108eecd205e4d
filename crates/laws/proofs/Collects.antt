-- Collect keeps everything: a question goes, and perhaps its GETITEM.
use Rattle.std.proofs.Common.{◌≡◌, ℕ, ◌+◌, true, false, eqb, List, [], ◌∷◌, Some, None, Option, sym, refl, ap, ◌∙◌, subst, inl, inr, ⊎_elim, arith}
use Rattle.std.proofs.lemmas.Option.{same_Some}
use Rattle.std.proofs.lemmas.Bool.{cases_Bool, cond-true, cond-false, cond_both, both_ways, eqb-true}
use Rattle.copies.proofs.Facts.{some_none}
use Rattle.messages.specs.declared.Message.{Message}
use Rattle.messages.specs.declared.Message.TheVariants.{RetrieveItems, Replicate, AddItem, GetItem}
use Rattle.rules.specs.declared.Reply.{Reply}
use Rattle.rules.specs.declared.Reply.TheVariants.{Waiting, TooEarly, Held, Absent}
use Rattle.rules.specs.declared.Question.{Question}
use Rattle.rules.specs.State.{Settings, State, asks, unasked, question, reply_to, closed, with_post}
use Rattle.rules.specs.Rules.{closing, collecting}
use Rattle.laws.proofs.Lists.{Mem, total}
use Rattle.laws.proofs.Errands.{carries, adding, adds_total}
use Rattle.laws.proofs.Invariant.{Invariant, Story}
use Rattle.laws.proofs.Quiet.{quiet_faithful}

-- ---- questions

pub closed_from : (q : ℕ) (x : Question) (xs : List Question) → Mem x (closed q xs) → Mem x xs
closed_from q x [] h = h
closed_from q x (y ∷ ys) h =
    ⊎_elim
    (λ t. inr (closed_from q x ys (subst (Mem x) (cond-true (eqb y.number q) (closed q ys) (y ∷ closed q ys) t) h)))
    (λ f. ⊎_elim (λ e. inl e) (λ k. inr (closed_from q x ys k)) (subst (Mem x) (cond-false (eqb y.number q) (closed q ys) (y ∷ closed q ys) f) h))
    (cases_Bool (eqb y.number q))

-- the reply to a question stands among the open ones
pub reply_open : (xs : List Question) (q : ℕ) (reply : Reply) → reply_to xs q ≡ Some reply → Mem (question q reply) xs
reply_open [] q reply h = absurd (some_none (sym h))
reply_open (x ∷ xs) q reply h =
    ⊎_elim
    (λ t.
    let same-reply : x.reply ≡ reply = same_Some x.reply reply (sym (cond-true (eqb x.number q) (Some x.reply) (reply_to xs q) t) ∙ h) in
    inl (ap (λ w. question q w) (sym same-reply) ∙ ap (λ n. question n x.reply) (sym (eqb-true x.number q t))))
    (λ f. inr (reply_open xs q reply (sym (cond-false (eqb x.number q) (Some x.reply) (reply_to xs q) f) ∙ h)))
    (cases_Bool (eqb x.number q))

-- ---- messages

unasked_from : (q : ℕ) (m : Message) (ms : List Message) → Mem m (unasked q ms) → Mem m ms
unasked_from q m [] h = h
unasked_from q m (y ∷ ys) h =
    ⊎_elim
    (λ t. inr (subst (Mem m) (cond-true (asks q y) ys (y ∷ unasked q ys) t) h))
    (λ f. ⊎_elim (λ e. inl e) (λ k. inr (unasked_from q m ys k)) (subst (Mem m) (cond-false (asks q y) ys (y ∷ unasked q ys) f) h))
    (cases_Bool (asks q y))

-- what is no GETITEM stays
unasked_stays : (q : ℕ) (m : Message) (ms : List Message) → asks q m ≡ false → Mem m ms → Mem m (unasked q ms)
unasked_stays q m [] n h = h
unasked_stays q m (y ∷ ys) n h =
    cond_both (asks q y) ys (y ∷ unasked q ys) (Mem m)
    (λ t. ⊎_elim (λ e. absurd (both_ways (asks q m) n (ap (asks q) e ∙ t))) (λ k. k) h)
    (λ f. ⊎_elim (λ e. inl e) (λ k. inr (unasked_stays q m ys n k)) h)

weightless : (f : Message → ℕ) → ((to r i n : ℕ) → f (GetItem to r i n) ≡ 0) → (q : ℕ) (m : Message) → asks q m ≡ true → f m ≡ 0
weightless f z q (RetrieveItems to from start end) h = absurd (both_ways false refl h)
weightless f z q (Replicate to from start end) h = absurd (both_ways false refl h)
weightless f z q (AddItem to r i a v) h = absurd (both_ways false refl h)
weightless f z q (GetItem to r i n) h = z to r i n

unasked_total : (f : Message → ℕ) → ((to r i n : ℕ) → f (GetItem to r i n) ≡ 0) → (q : ℕ) (ms : List Message) → total f (unasked q ms) ≡ total f ms
unasked_total f z q [] = refl
unasked_total f z q (y ∷ ys) =
    cond_both (asks q y) ys (y ∷ unasked q ys) (λ l. total f l ≡ f y + total f ys)
    (λ t. omega (arith, weightless f z q y t))
    (λ n. ap (λ k. f y + k) (unasked_total f z q ys))

-- ---- the call

module _ (set : Settings) {M : Type 0} (story : Story M) (s : State) (q : ℕ) (kept : Invariant set story s) where
  close_kept : Invariant set story (closing q s)
  close_kept = record {
    sound = record { peers = kept.sound.peers; ordered = kept.sound.ordered; placed = kept.sound.placed; errands = kept.sound.errands; populated = kept.sound.populated; room = kept.sound.room };
    faithful = quiet_faithful set story s (closing q s) (record {
      same_stamp = refl;
      same_number = refl;
      copies_from = λ p r i e h. (p, h);
      covers = λ r i a c. c;
      adds_from = λ to r i a v h. (to, h);
      adds_stay = λ r i a w. w;
      gets_from = λ to r i n h. (to, h);
      questions_from = λ x h. closed_from q x s.questions h;
    }) kept.faithful;
  }

  withdraw_kept : Invariant set story (with_post (unasked q s.post) (closing q s))
  withdraw_kept = record {
    sound = record {
      peers = kept.sound.peers;
      ordered = kept.sound.ordered;
      placed = kept.sound.placed;
      errands = λ x g a e. unasked_total (carries x g a e) (λ to r i n. refl) q s.post ∙ kept.sound.errands x g a e;
      populated = λ h. ap (unasked q) (kept.sound.populated h);
      room = omega (arith, kept.sound.room, adds_total s.post, adds_total (unasked q s.post), unasked_total adding (λ to r i n. refl) q s.post);
    };
    faithful = quiet_faithful set story s (with_post (unasked q s.post) (closing q s)) (record {
      same_stamp = refl;
      same_number = refl;
      copies_from = λ p r i e h. (p, h);
      covers = λ r i a c. c;
      adds_from = λ to r i a v h. (to, unasked_from q (AddItem to r i a v) s.post h);
      adds_stay = λ r i a w. record { to = w.to; value = w.value; waits = unasked_stays q (AddItem w.to r i a w.value) s.post refl w.waits };
      gets_from = λ to r i n h. (to, unasked_from q (GetItem to r i n) s.post h);
      questions_from = λ x h. closed_from q x s.questions h;
    }) kept.faithful;
  }

  pub collect_kept : (o : Option Reply) → Invariant set story (collecting q s o).after
  collect_kept None = kept
  collect_kept (Some Waiting) = withdraw_kept
  collect_kept (Some TooEarly) = close_kept
  collect_kept (Some (Held a v)) = close_kept
  collect_kept (Some Absent) = close_kept
