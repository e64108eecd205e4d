-- Join keeps everything.
use Rattle.std.proofs.Common.{◌≡◌, ℕ, ◌<◌, false, cond, eqb, List, [], ◌∷◌, ◌++◌, Some, None, Option, sym, refl, ap, ◌∙◌, subst, inl, inr, ⊎_elim}
use Rattle.std.proofs.lemmas.Option.{same_Some}
use Rattle.std.proofs.lemmas.Bool.{cond-true, cond-false, ne_eqb, not-false}
use Rattle.circle.specs.Circle.{in_arc}
use Rattle.circle.specs.Owners.{Member, others, owner, successor, predecessor}
use Rattle.circle.specs.Laws.{ListLaws}
use Rattle.circle.proofs.Searches.{list_laws}
use Rattle.copies.proofs.Facts.{some_none}
use Rattle.messages.specs.declared.Message.TheVariants.{RetrieveItems}
use Rattle.rules.specs.declared.PeerState.{PeerState}
use Rattle.rules.specs.declared.PeerState.TheVariants.{Settled, Filling, Giving}
use Rattle.rules.specs.declared.Peer.{Peer}
use Rattle.rules.specs.State.{Settings, State, peer, members, state_of, with_state, is_settled, with_table, owner_in, sending}
use Rattle.rules.specs.Refusals.{busy}
use Rattle.rules.specs.Rules.{joined}
use Rattle.laws.proofs.Table.{by_equal, push_other, push_new, set_other, set_same, distinct_push, distinct_set}
use Rattle.laws.proofs.Members.{member_state, state_member, members_push, members_set}
use Rattle.laws.proofs.Errands.{fills}
use Rattle.laws.proofs.Invariant.{Invariant, Peers, Story}
use Rattle.laws.proofs.Starts.{Starts, filling_not_settled}
use Rattle.laws.proofs.Quiet.{Quiet, quiet_faithful}
use Rattle.laws.proofs.Sends.{retrieve_errand, starting_kept}
use Rattle.laws.proofs.Accepted.{Joins, is_settled_lem}

-- the laws of owners hold of every table with identifiers below the size
pub members_below : (set : Settings) (t : List Peer) → Peers set t → (q : ℕ) → Member q (members t) → q < set.size
members_below set t peers q m = let p = member_state t q peers.distinct m in peers.below q p.state p.is

pub owner_laws : (set : Settings) (t : List Peer) → Peers set t → ListLaws set.size (members t)
owner_laws set t peers = list_laws set.size (members t) (members_below set t peers)

pub others_absent : (p : ℕ) (ms : List ℕ) → (Member p ms → ⊥) → others p ms ≡ ms
others_absent p [] n = refl
others_absent p (q ∷ ms) n =
    cond-false (eqb q p) (others p ms) (q ∷ others p ms) (ne_eqb q p (λ e. n (inl (sym e)))) ∙ ap (λ l. q ∷ l) (others_absent p ms (λ m. n (inr m)))

-- a peer that is not busy is settled
pub free_settled : (t : List Peer) (c : ℕ) → busy t (Some c) ≡ false → state_of t c ≡ Some Settled
free_settled t c h = is_settled_lem (state_of t c) (not-false (is_settled (state_of t c)) h)

pub quiet_table : (s : State) (t' : List Peer) → Quiet s (with_table t' s)
quiet_table s t' = record {
  same_stamp = refl;
  same_number = refl;
  copies_from = λ p r i e h. (p, h);
  covers = λ r i a c. c;
  adds_from = λ to r i a v h. (to, h);
  adds_stay = λ r i a w. w;
  gets_from = λ to r i q h. (to, h);
  questions_from = λ x h. h;
}

module _ (set : Settings) {M : Type 0} (story : Story M) (s : State) (p : ℕ) (kept : Invariant set story s) (joins : Joins set s p) where
  not_member : Member p (members s.table) → ⊥
  not_member m = let q = member_state s.table p kept.sound.peers.distinct m in some_none (sym q.is ∙ joins.absent)

  -- ---- alone

  alone_kept : others p (members s.table) ≡ [] → Invariant set story (with_table (s.table ++ peer p Settled ∷ []) s)
  alone_kept e = record {
    sound = record {
      peers = record {
        distinct = distinct_push s.table p Settled joins.absent kept.sound.peers.distinct;
        below = below;
        giver_there = λ y g a b f. absurd (nobody_fills y g a b f);
        giver_once = λ y z g a b c d f _. absurd (nobody_fills y g a b f);
        arc_below = λ y g a b f. absurd (nobody_fills y g a b f);
        arc_owned = λ y g a b i f _ _. absurd (nobody_fills y g a b f);
      };
      ordered = kept.sound.ordered;
      placed = λ h r i c f. absurd (⊎_elim (λ o. no_owner i h o) (λ w. no_owner i w.filler w.owner) (kept.sound.placed h r i c f).holder);
      errands = λ y g a b. kept.sound.errands y g a b ∙ fills_same y g a b;
      populated = λ _. kept.sound.populated empty;
      room = kept.sound.room;
    };
    faithful = quiet_faithful set story s (with_table (s.table ++ peer p Settled ∷ []) s) (quiet_table s (s.table ++ peer p Settled ∷ [])) kept.faithful;
  }
    where
      empty : members s.table ≡ []
      empty = sym (others_absent p (members s.table) not_member) ∙ e

      no_owner : (i q : ℕ) → owner_in set s.table i ≡ Some q → ⊥
      no_owner i q o = subst (Member q) empty ((owner_laws set s.table kept.sound.peers).owner_is i q o).member

      nobody_fills : (y g a b : ℕ) → state_of (s.table ++ peer p Settled ∷ []) y ≡ Some (Filling g a b) → ⊥
      nobody_fills y g a b f =
          by_equal p y
          (λ q. filling_not_settled g a b (same_Some (Filling g a b) Settled (sym f ∙ (ap (state_of (s.table ++ peer p Settled ∷ [])) (sym q) ∙ push_new s.table p Settled joins.absent))))
          (λ n. subst (Member y) empty (state_member s.table y (Filling g a b) (sym (push_other s.table p Settled y n) ∙ f) refl))

      below : (y : ℕ) (st : PeerState) → state_of (s.table ++ peer p Settled ∷ []) y ≡ Some st → y < set.size
      below y st f =
          by_equal p y
          (λ q. subst (λ k. k < set.size) q joins.below)
          (λ n. kept.sound.peers.below y st (sym (push_other s.table p Settled y n) ∙ f))

      fills_same : (y g a b : ℕ) → fills (state_of s.table y) g a b ≡ fills (state_of (s.table ++ peer p Settled ∷ []) y) g a b
      fills_same y g a b =
          by_equal p y
          (λ q. ap (λ k. fills (state_of s.table k) g a b) (sym q) ∙ (ap (λ o. fills o g a b) joins.absent ∙ (sym (ap (λ o. fills o g a b) (push_new s.table p Settled joins.absent)) ∙ ap (λ k. fills (state_of (s.table ++ peer p Settled ∷ []) k) g a b) q)))
          (λ n. ap (λ o. fills o g a b) (sym (push_other s.table p Settled y n)))

  -- ---- between two

  module _ (a c : ℕ) (ea : predecessor set.size (members s.table) p ≡ Some a) (ec : successor set.size (members s.table) p ≡ Some c) where
    settled : state_of s.table c ≡ Some Settled
    settled = free_settled s.table c (ap (busy s.table) (sym ec) ∙ joins.not_busy)

    apart : c ≡ p → ⊥
    apart = ((owner_laws set s.table kept.sound.peers).successor_is p c ec).member.1

    members_after : members (with_state c Giving s.table ++ peer p (Filling c a p) ∷ []) ≡ members s.table ++ p ∷ []
    members_after =
        members_push (with_state c Giving s.table) p (Filling c a p) refl
        ∙ ap (λ ms. ms ++ p ∷ []) (members_set s.table c Giving Settled kept.sound.peers.distinct settled refl refl)

    still_absent : state_of (with_state c Giving s.table) p ≡ None
    still_absent = set_other s.table c Giving p apart ∙ joins.absent

    owners_after : (i : ℕ) → i < set.size → owner_in set (with_state c Giving s.table ++ peer p (Filling c a p) ∷ []) i ≡ cond (in_arc set.size a p i) (Some p) (owner_in set s.table i)
    owners_after i i< =
        ap (λ ms. owner set.size ms i) members_after ∙ (owner_laws set s.table kept.sound.peers).joined p a i i< joins.below not_member ea

    join_starts : Starts set s.table (with_state c Giving s.table ++ peer p (Filling c a p) ∷ []) p c a p
    join_starts = record {
      was = λ i i< on. (owner_laws set s.table kept.sound.peers).joined_was p a c i i< joins.below not_member ea ec on;
      now = λ i i< on. owners_after i i< ∙ cond-true (in_arc set.size a p i) (Some p) (owner_in set s.table i) on;
      elsewhere = λ i i< off. owners_after i i< ∙ cond-false (in_arc set.size a p i) (Some p) (owner_in set s.table i) off;
      filling = push_new (with_state c Giving s.table) p (Filling c a p) still_absent;
      owing = record { state = Giving; is = push_other (with_state c Giving s.table) p (Filling c a p) c (λ q. apart (sym q)) ∙ set_same s.table c Giving Settled settled; owes = tt };
      giver_was = settled;
      filler_was = λ st h. absurd (some_none (sym h ∙ joins.absent));
      others = λ q n m. push_other (with_state c Giving s.table) p (Filling c a p) q (λ k. n (sym k)) ∙ set_other s.table c Giving q (λ k. m (sym k));
      distinct = distinct_push (with_state c Giving s.table) p (Filling c a p) still_absent (distinct_set s.table c Giving kept.sound.peers.distinct);
      filler_below = joins.below;
      start_below = members_below set s.table kept.sound.peers a ((owner_laws set s.table kept.sound.peers).predecessor_is p a ea).member.0;
      end_below = joins.below;
    }

    between_kept : Invariant set story (sending (RetrieveItems c p a p) (with_table (with_state c Giving s.table ++ peer p (Filling c a p) ∷ []) s))
    between_kept =
        starting_kept set story s (with_state c Giving s.table ++ peer p (Filling c a p) ∷ []) p c a p (RetrieveItems c p a p) kept join_starts (retrieve_errand c p a p) (λ y h b d. refl)

  pub join_kept : Invariant set story (joined p s (predecessor set.size (members s.table) p) (successor set.size (members s.table) p))
  join_kept = go (predecessor set.size (members s.table) p) refl (successor set.size (members s.table) p) refl
    where
      go : (a : Option ℕ) → predecessor set.size (members s.table) p ≡ a → (c : Option ℕ) → successor set.size (members s.table) p ≡ c → Invariant set story (joined p s a c)
      go None ea c ec = alone_kept ((owner_laws set s.table kept.sound.peers).predecessor_none p ea)
      go (Some a) ea None ec = alone_kept ((owner_laws set s.table kept.sound.peers).successor_none p ec)
      go (Some a) ea (Some c) ec = between_kept a c ea ec
