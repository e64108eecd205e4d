-- A delivery that sends a message in place of the one it took: asked, and sent on.
use Rattle.std.proofs.Common.{◌≡◌, ℕ, List, [], ◌∷◌, ◌++◌, Some, sym, refl, ◌∙◌, subst, ⊎_elim, arith}
use Rattle.std.specs.List.{remove, slice_get}
use Rattle.messages.specs.declared.Message.{Message}
use Rattle.messages.specs.declared.Message.TheVariants.{RetrieveItems, Replicate, AddItem, GetItem}
use Rattle.rules.specs.State.{Settings, State, members, with_post, sending}
use Rattle.laws.proofs.Lists.{Mem, mem_left, mem_push, mem_pushed, total, total_push, taken_mem, taken_from, taken_or, taken_total}
use Rattle.laws.proofs.Errands.{carries, adding, adds_total}
use Rattle.laws.proofs.Invariant.{Invariant, Story, Waits}
use Rattle.laws.proofs.Quiet.{Quiet, quiet_faithful}
use Rattle.laws.proofs.Sends.{retrieve_errand, replicate_errand}
use Rattle.laws.proofs.Inserts.{same_add, get_not_add}
use Rattle.laws.proofs.Lookups.{same_get, add_not_get}

-- m' says what m says, perhaps to another peer
pub record Alike (m m' : Message) : Type 0 where
  pub add_was : (to r i a v : ℕ) → AddItem to r i a v ≡ m' → (h : ℕ) × (AddItem h r i a v ≡ m)
  pub add_is : (to r i a v : ℕ) → AddItem to r i a v ≡ m → (h : ℕ) × (AddItem h r i a v ≡ m')
  pub get_was : (to r i q : ℕ) → GetItem to r i q ≡ m' → (h : ℕ) × (GetItem h r i q ≡ m)
  pub same_errand : (x g a e : ℕ) → carries x g a e m' ≡ carries x g a e m
  pub same_cells : adding m' ≡ adding m

pub asked_alike : (x g a e : ℕ) → Alike (RetrieveItems g x a e) (Replicate x g a e)
asked_alike x g a e = record {
  add_was = λ to r i b v h. absurd ((replicate_errand x g a e).no_add to r i b v h);
  add_is = λ to r i b v h. absurd ((retrieve_errand g x a e).no_add to r i b v h);
  get_was = λ to r i q h. absurd ((replicate_errand x g a e).no_get to r i q h);
  same_errand = λ y h b d. refl;
  same_cells = refl;
}

pub add_alike : (to to' r i a v : ℕ) → Alike (AddItem to r i a v) (AddItem to' r i a v)
add_alike to to' r i a v = record {
  add_was = λ h q j b w e. (to, again to to' h q j b w e);
  add_is = λ h q j b w e. (to', again to' to h q j b w e);
  get_was = λ h q j n e. absurd (get_not_add h q j n to' r i a v e);
  same_errand = λ y h b d. refl;
  same_cells = refl;
}
  where
    again : (one other h q j b w : ℕ) → AddItem h q j b w ≡ AddItem other r i a v → AddItem one q j b w ≡ AddItem one r i a v
    again one other h q j b w e =
        let f = same_add h q j b w other r i a v e in
        let er = f.replica in
        let ei = f.place in
        let ea = f.stamp in
        let ev = f.value in
        cc

pub get_alike : (to to' r i n : ℕ) → Alike (GetItem to r i n) (GetItem to' r i n)
get_alike to to' r i n = record {
  add_was = λ h q j b w e. absurd (add_not_get h q j b w to' r i n e);
  add_is = λ h q j b w e. absurd (add_not_get h q j b w to r i n e);
  get_was = λ h q j l e. (to, again h q j l e);
  same_errand = λ y h b d. refl;
  same_cells = refl;
}
  where
    again : (h q j l : ℕ) → GetItem h q j l ≡ GetItem to' r i n → GetItem to q j l ≡ GetItem to r i n
    again h q j l e =
        let f = same_get h q j l to' r i n e in
        let er = f.replica in
        let ei = f.place in
        let en = f.number in
        cc

module _ (set : Settings) {M : Type 0} (story : Story M) (s : State) (n : ℕ) (m m' : Message) (kept : Invariant set story s) (at_n : slice_get s.post n ≡ Some m) where
  -- where a message waits there are members
  pub populated_now : members s.table ≡ [] → ⊥
  populated_now h = subst (Mem m) (kept.sound.populated h) (taken_mem s.post n m at_n)

  module _ (alike : Alike m m') where
    abbrev rest : List Message
    rest = remove s.post n

    adds_from : (to r i a v : ℕ) → Mem (AddItem to r i a v) (rest ++ m' ∷ []) → (h : ℕ) × Mem (AddItem h r i a v) s.post
    adds_from to r i a v h =
        ⊎_elim
        (λ x. (to, taken_from s.post n m at_n (AddItem to r i a v) x))
        (λ e. let o = alike.add_was to r i a v e in (o.0, subst (λ k. Mem k s.post) (sym o.1) (taken_mem s.post n m at_n)))
        (mem_pushed (AddItem to r i a v) m' rest h)

    gets_from : (to r i q : ℕ) → Mem (GetItem to r i q) (rest ++ m' ∷ []) → (h : ℕ) × Mem (GetItem h r i q) s.post
    gets_from to r i q h =
        ⊎_elim
        (λ x. (to, taken_from s.post n m at_n (GetItem to r i q) x))
        (λ e. let o = alike.get_was to r i q e in (o.0, subst (λ k. Mem k s.post) (sym o.1) (taken_mem s.post n m at_n)))
        (mem_pushed (GetItem to r i q) m' rest h)

    adds_stay : (r i a : ℕ) → Waits s.post r i a → Waits (rest ++ m' ∷ []) r i a
    adds_stay r i a w =
        ⊎_elim
        (λ e. let o = alike.add_is w.to r i a w.value e in record { to = o.0; value = w.value; waits = subst (λ k. Mem k (rest ++ m' ∷ [])) (sym o.1) (mem_push m' rest) })
        (λ x. record { to = w.to; value = w.value; waits = mem_left (AddItem w.to r i a w.value) rest (m' ∷ []) x })
        (taken_or s.post n m at_n (AddItem w.to r i a w.value) w.waits)

    resend_quiet : Quiet s (sending m' (with_post (remove s.post n) s))
    resend_quiet = record {
      same_stamp = refl;
      same_number = refl;
      copies_from = λ p r i e h. (p, h);
      covers = λ r i a c. c;
      adds_from = adds_from;
      adds_stay = adds_stay;
      gets_from = gets_from;
      questions_from = λ x h. h;
    }

    same_total : (f : Message → ℕ) → f m' ≡ f m → total f (rest ++ m' ∷ []) ≡ total f s.post
    same_total f e = omega (arith, total_push f rest m', taken_total s.post n m at_n f)

    pub resend_kept : Invariant set story (sending m' (with_post (remove s.post n) s))
    resend_kept = record {
      sound = record {
        peers = kept.sound.peers;
        ordered = kept.sound.ordered;
        placed = kept.sound.placed;
        errands = λ x g a e. same_total (carries x g a e) (alike.same_errand x g a e) ∙ kept.sound.errands x g a e;
        populated = λ h. absurd (populated_now h);
        room = omega (arith, kept.sound.room, adds_total s.post, adds_total (rest ++ m' ∷ []), same_total adding alike.same_cells);
      };
      faithful = quiet_faithful set story s (sending m' (with_post (remove s.post n) s)) resend_quiet kept.faithful;
    }
