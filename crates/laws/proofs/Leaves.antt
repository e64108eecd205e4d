-- Leave keeps everything.
use Rattle.std.proofs.Common.{◌≡◌, ℕ, ◌<◌, cond, Some, None, Option, sym, refl, ap, ◌∙◌}
use Rattle.std.proofs.lemmas.Option.{same_Some}
use Rattle.std.proofs.lemmas.Bool.{cond-true, cond-false}
use Rattle.circle.specs.Circle.{in_arc}
use Rattle.circle.specs.Owners.{Member, others, owner, successor, predecessor}
use Rattle.messages.specs.declared.Message.TheVariants.{Replicate}
use Rattle.rules.specs.declared.PeerState.TheVariants.{Settled, Filling, Leaving}
use Rattle.rules.specs.State.{Settings, State, members, state_of, with_state, with_table, owner_in, sending}
use Rattle.rules.specs.Refusals.{busy}
use Rattle.rules.specs.Rules.{gone}
use Rattle.laws.proofs.Table.{set_other, set_same, distinct_set}
use Rattle.laws.proofs.Members.{state_member, members_leave, members_set}
use Rattle.laws.proofs.Invariant.{Invariant, Story}
use Rattle.laws.proofs.Starts.{Starts}
use Rattle.laws.proofs.Sends.{replicate_errand, starting_kept}
use Rattle.laws.proofs.Accepted.{Leaves}
use Rattle.laws.proofs.Joins.{members_below, owner_laws, free_settled}

module _ (set : Settings) {M : Type 0} (story : Story M) (s : State) (p : ℕ) (kept : Invariant set story s) (leaves : Leaves set s p) where
  member : Member p (members s.table)
  member = state_member s.table p Settled leaves.settled refl

  module _ (a c : ℕ) (ea : predecessor set.size (members s.table) p ≡ Some a) (ec : successor set.size (members s.table) p ≡ Some c) where
    settled : state_of s.table c ≡ Some Settled
    settled = free_settled s.table c (ap (busy s.table) (sym ec) ∙ leaves.not_busy)

    apart : c ≡ p → ⊥
    apart = ((owner_laws set s.table kept.sound.peers).successor_is p c ec).member.1

    still_settled : state_of (with_state p Leaving s.table) c ≡ Some Settled
    still_settled = set_other s.table p Leaving c (λ q. apart (sym q)) ∙ settled

    members_after : members (with_state c (Filling p a p) (with_state p Leaving s.table)) ≡ others p (members s.table)
    members_after =
        members_set (with_state p Leaving s.table) c (Filling p a p) Settled (distinct_set s.table p Leaving kept.sound.peers.distinct) still_settled refl refl
        ∙ members_leave s.table p

    owners_after : (i : ℕ) → i < set.size → owner_in set (with_state c (Filling p a p) (with_state p Leaving s.table)) i ≡ cond (in_arc set.size a p i) (Some c) (owner_in set s.table i)
    owners_after i i< =
        ap (λ ms. owner set.size ms i) members_after ∙ (owner_laws set s.table kept.sound.peers).left p a c i i< member ea ec

    leave_starts : Starts set s.table (with_state c (Filling p a p) (with_state p Leaving s.table)) c p a p
    leave_starts = record {
      was = λ i i< on. (owner_laws set s.table kept.sound.peers).arc_is_owned p a i i< member ea on;
      now = λ i i< on. owners_after i i< ∙ cond-true (in_arc set.size a p i) (Some c) (owner_in set s.table i) on;
      elsewhere = λ i i< off. owners_after i i< ∙ cond-false (in_arc set.size a p i) (Some c) (owner_in set s.table i) off;
      filling = set_same (with_state p Leaving s.table) c (Filling p a p) Settled still_settled;
      owing = record { state = Leaving; is = set_other (with_state p Leaving s.table) c (Filling p a p) p apart ∙ set_same s.table p Leaving Settled leaves.settled; owes = tt };
      giver_was = leaves.settled;
      filler_was = λ st h. same_Some st Settled (sym h ∙ settled);
      others = λ q n m. set_other (with_state p Leaving s.table) c (Filling p a p) q (λ k. n (sym k)) ∙ set_other s.table p Leaving q (λ k. m (sym k));
      distinct = distinct_set (with_state p Leaving s.table) c (Filling p a p) (distinct_set s.table p Leaving kept.sound.peers.distinct);
      filler_below = kept.sound.peers.below c Settled settled;
      start_below = members_below set s.table kept.sound.peers a ((owner_laws set s.table kept.sound.peers).predecessor_is p a ea).member.0;
      end_below = leaves.below;
    }

    between_kept : Invariant set story (sending (Replicate c p a p) (with_table (with_state c (Filling p a p) (with_state p Leaving s.table)) s))
    between_kept =
        starting_kept set story s (with_state c (Filling p a p) (with_state p Leaving s.table)) c p a p (Replicate c p a p) kept leave_starts (replicate_errand c p a p) (λ y h b d. refl)

  pub leave_kept : Invariant set story (gone p s (predecessor set.size (members s.table) p) (successor set.size (members s.table) p))
  leave_kept = go (predecessor set.size (members s.table) p) refl (successor set.size (members s.table) p) refl
    where
      go : (a : Option ℕ) → predecessor set.size (members s.table) p ≡ a → (c : Option ℕ) → successor set.size (members s.table) p ≡ c → Invariant set story (gone p s a c)
      go None ea c ec = kept
      go (Some a) ea None ec = kept
      go (Some a) ea (Some c) ec = between_kept a c ea ec
