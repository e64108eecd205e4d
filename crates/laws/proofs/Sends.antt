-- A message of a handover is sent: what is kept through it.
use Rattle.std.proofs.Common.{◌≡◌, ℕ, ◌+◌, cond, eqb, List, [], ◌∷◌, ◌++◌, sym, refl, ap, ◌∙◌, subst, ⊎_elim, arith}
use Rattle.circle.specs.Owners.{Member}
use Rattle.messages.specs.declared.Message.{Message}
use Rattle.messages.specs.declared.Message.TheVariants.{RetrieveItems, Replicate, AddItem, GetItem}
use Rattle.rules.specs.declared.PeerState.TheVariants.{Filling}
use Rattle.rules.specs.declared.Peer.{Peer}
use Rattle.rules.specs.State.{Settings, State, state_of, adds, with_table, sending}
use Rattle.laws.proofs.Lists.{mem_left, mem_pushed, total, total_push}
use Rattle.laws.proofs.Members.{state_member}
use Rattle.laws.proofs.Errands.{match, fills, carries, adding, adds_total}
use Rattle.laws.proofs.Invariant.{Invariant, Story}
use Rattle.laws.proofs.Starts.{Starts, starts_peers, starts_placed}
use Rattle.laws.proofs.Started.{starts_fills}
use Rattle.laws.proofs.Quiet.{Quiet, quiet_faithful}

pub add_not_retrieve : (to r i a v x g b e : ℕ) → AddItem to r i a v ≡ RetrieveItems x g b e → ⊥
add_not_retrieve to r i a v x g b e h = let z : ◌≡◌ {A = ℕ} 0 1 = cc in omega arith

pub get_not_retrieve : (to r i q x g b e : ℕ) → GetItem to r i q ≡ RetrieveItems x g b e → ⊥
get_not_retrieve to r i q x g b e h = let z : ◌≡◌ {A = ℕ} 0 1 = cc in omega arith

pub add_not_replicate : (to r i a v x g b e : ℕ) → AddItem to r i a v ≡ Replicate x g b e → ⊥
add_not_replicate to r i a v x g b e h = let z : ◌≡◌ {A = ℕ} 0 1 = cc in omega arith

pub get_not_replicate : (to r i q x g b e : ℕ) → GetItem to r i q ≡ Replicate x g b e → ⊥
get_not_replicate to r i q x g b e h = let z : ◌≡◌ {A = ℕ} 0 1 = cc in omega arith

-- a message that starts or goes on with a handover
pub record Errand (m : Message) : Type 0 where
  pub no_add : (to r i a v : ℕ) → AddItem to r i a v ≡ m → ⊥
  pub no_get : (to r i q : ℕ) → GetItem to r i q ≡ m → ⊥
  pub no_cell : adding m ≡ 0

pub retrieve_errand : (x g b e : ℕ) → Errand (RetrieveItems x g b e)
retrieve_errand x g b e = record { no_add = λ to r i a v. add_not_retrieve to r i a v x g b e; no_get = λ to r i q. get_not_retrieve to r i q x g b e; no_cell = refl }

pub replicate_errand : (x g b e : ℕ) → Errand (Replicate x g b e)
replicate_errand x g b e = record { no_add = λ to r i a v. add_not_replicate to r i a v x g b e; no_get = λ to r i q. get_not_replicate to r i q x g b e; no_cell = refl }

pub adds_push : (ms : List Message) (m : Message) → adds (ms ++ m ∷ []) ≡ adds ms + adding m
adds_push ms m = adds_total (ms ++ m ∷ []) ∙ (total_push adding ms m ∙ ap (λ k. k + adding m) (sym (adds_total ms)))

pub quiet_send : (s : State) (t' : List Peer) (m : Message) → Errand m → Quiet s (sending m (with_table t' s))
quiet_send s t' m no_item = record {
  same_stamp = refl;
  same_number = refl;
  copies_from = λ p r i e h. (p, h);
  covers = λ r i a c. c;
  adds_from = λ to r i a v h. (to, ⊎_elim (λ k. k) (λ q. absurd (no_item.no_add to r i a v q)) (mem_pushed (AddItem to r i a v) m s.post h));
  adds_stay = λ r i a w. record { to = w.to; value = w.value; waits = mem_left (AddItem w.to r i a w.value) s.post (m ∷ []) w.waits };
  gets_from = λ to r i q h. (to, ⊎_elim (λ k. k) (λ e. absurd (no_item.no_get to r i q e)) (mem_pushed (GetItem to r i q) m s.post h));
  questions_from = λ x h. h;
}

-- x starts to fill an arc from g, and a message for it is sent
pub starting_kept : (set : Settings) {M : Type 0} (story : Story M) (s : State) (t' : List Peer) (x g a e : ℕ) (m : Message) → Invariant set story s → Starts set s.table t' x g a e → Errand m → ((y h b d : ℕ) → carries y h b d m ≡ cond (eqb x y) (match g a e h b d) 0) → Invariant set story (sending m (with_table t' s))
starting_kept set story s t' x g a e m kept starts errand carried = record {
  sound = record {
    peers = starts_peers set s.table t' x g a e kept.sound.peers starts;
    ordered = kept.sound.ordered;
    placed = starts_placed set s.table t' x g a e kept.sound.peers starts s.shelf kept.sound.placed;
    errands = λ y h b d. one_more y h b d;
    populated = λ none. absurd (subst (Member x) none (state_member t' x (Filling g a e) starts.filling refl));
    room = omega (arith, kept.sound.room, adds_push s.post m, errand.no_cell);
  };
  faithful = quiet_faithful set story s (sending m (with_table t' s)) (quiet_send s t' m errand) kept.faithful;
}
  where
    one_more : (y h b d : ℕ) → total (carries y h b d) (s.post ++ m ∷ []) ≡ fills (state_of t' y) h b d
    one_more y h b d =
        total_push (carries y h b d) s.post m
        ∙ (ap (λ k. k + carries y h b d m) (kept.sound.errands y h b d)
        ∙ (ap (λ k. fills (state_of s.table y) h b d + k) (carried y h b d)
        ∙ sym (starts_fills set s.table t' x g a e kept.sound.peers starts y h b d)))
