-- The delivery of a REPLICATE keeps everything.
use Rattle.std.proofs.Common.{◌≡◌, ℕ, eqb, List, Some, sym, refl, ap, ◌∙◌, subst, ⊎_elim, arith}
use Rattle.std.specs.List.{remove, slice_get}
use Rattle.std.proofs.lemmas.Bool.{cond-true, cond-false, eq-eqb, ne_eqb}
use Rattle.copies.specs.declared.CopyRecord.{CopyRecord}
use Rattle.messages.specs.declared.Message.TheVariants.{Replicate, AddItem, GetItem}
use Rattle.rules.specs.declared.PeerState.TheVariants.{Settled, Filling}
use Rattle.rules.specs.declared.Peer.{Peer}
use Rattle.rules.specs.State.{Settings, State, state_of, with_state, with_post}
use Rattle.rules.specs.Handover.{handover}
use Rattle.rules.specs.Rules.{released, handing_over}
use Rattle.laws.proofs.Lists.{Mem, total, taken_mem, taken_from, taken_or, taken_total}
use Rattle.laws.proofs.Table.{by_equal}
use Rattle.laws.proofs.Moves.{Handed}
use Rattle.laws.proofs.Handovers.{on_arc, handover_hands}
use Rattle.laws.proofs.Errands.{match, match_itself, fills, fills_some, carries, adding, adds_total}
use Rattle.laws.proofs.Invariant.{Invariant, Owing, Story}
use Rattle.laws.proofs.Quiet.{Quiet, quiet_faithful}
use Rattle.laws.proofs.Sends.{add_not_replicate}
use Rattle.laws.proofs.Ends.{Ends, apart, handover_ends, ends_peers, ends_fills_filler, ends_fills_other}
use Rattle.laws.proofs.Hands.{hands_from, hands_cover, hands_placed}

module _ (set : Settings) {M : Type 0} (story : Story M) (s : State) (n x g a e : ℕ) (kept : Invariant set story s) (at_n : slice_get s.post n ≡ Some (Replicate x g a e)) where
  carried : carries x g a e (Replicate x g a e) ≡ 1
  carried = cond-true (eqb x x) (match g a e g a e) 0 (eq-eqb x x refl) ∙ match_itself g a e

  -- the addressee is filling that arc from the sender
  pub filling : state_of s.table x ≡ Some (Filling g a e)
  filling =
      fills_some (state_of s.table x) g a e (omega (arith, kept.sound.errands x g a e, taken_total s.post n (Replicate x g a e) at_n (carries x g a e), carried))

  owing : Owing s.table g
  owing = kept.sound.peers.giver_there x g a e filling

  abbrev table_after : List Peer
  table_after = with_state x Settled (released (state_of s.table g) g s.table)

  pub ends : Ends s.table table_after x g
  ends = handover_ends s.table x g a e kept.sound.peers.distinct filling owing

  abbrev shelf_after : List CopyRecord
  shelf_after = handover set.size x g a e s.shelf

  hands : Handed s.shelf shelf_after x g (on_arc set.size a e)
  hands = handover_hands set.size x g a e s.shelf kept.sound.ordered (λ q. apart s.table x g a e kept.sound.peers.distinct filling owing (sym q))

  errands_after : (y h b d : ℕ) → total (carries y h b d) (remove s.post n) ≡ fills (state_of table_after y) h b d
  errands_after y h b d =
      let all = taken_total s.post n (Replicate x g a e) at_n (carries y h b d) in
      let was = kept.sound.errands y h b d in
      by_equal x y
      (λ q.
      let its : carries y h b d (Replicate x g a e) ≡ match g a e h b d = cond-true (eqb x y) (match g a e h b d) 0 (eq-eqb x y q) in
      let old : fills (state_of s.table y) h b d ≡ match g a e h b d = ap (λ k. fills (state_of s.table k) h b d) (sym q) ∙ ap (λ o. fills o h b d) filling in
      let now : fills (state_of table_after y) h b d ≡ 0 = ap (λ k. fills (state_of table_after k) h b d) (sym q) ∙ ends_fills_filler set s.table table_after x g a e kept.sound.peers filling ends h b d in
      omega (arith, all, was))
      (λ ne.
      let its : carries y h b d (Replicate x g a e) ≡ 0 = cond-false (eqb x y) (match g a e h b d) 0 (ne_eqb x y ne) in
      let same : fills (state_of table_after y) h b d ≡ fills (state_of s.table y) h b d = ends_fills_other set s.table table_after x g a e kept.sound.peers filling ends y h b d (λ q. ne (sym q)) in
      omega (arith, all, was))

  quiet : Quiet s (handing_over set (with_post (remove s.post n) s) x g a e).after
  unfolding handing_over
  quiet = record {
    same_stamp = refl;
    same_number = refl;
    copies_from = hands_from s.shelf shelf_after x g (on_arc set.size a e) hands;
    covers = hands_cover s.shelf shelf_after x g (on_arc set.size a e) hands;
    adds_from = λ to r i b v h. (to, taken_from s.post n (Replicate x g a e) at_n (AddItem to r i b v) h);
    adds_stay = λ r i b w. record { to = w.to; value = w.value; waits = ⊎_elim (λ q. absurd (add_not_replicate w.to r i b w.value x g a e q)) (λ k. k) (taken_or s.post n (Replicate x g a e) at_n (AddItem w.to r i b w.value) w.waits) };
    gets_from = λ to r i q h. (to, taken_from s.post n (Replicate x g a e) at_n (GetItem to r i q) h);
    questions_from = λ y h. h;
  }

  pub replicate_kept : Invariant set story (handing_over set (with_post (remove s.post n) s) x g a e).after
  unfolding handing_over
  replicate_kept = record {
    sound = record {
      peers = ends_peers set s.table table_after x g a e kept.sound.peers filling ends;
      ordered = hands.ordered;
      placed = hands_placed set s.table table_after s.shelf shelf_after x g a e kept.sound.peers filling ends hands kept.sound.placed;
      errands = errands_after;
      populated = λ h. absurd (subst (Mem (Replicate x g a e)) (kept.sound.populated (sym ends.same_members ∙ h)) (taken_mem s.post n (Replicate x g a e) at_n));
      room = omega (arith, kept.sound.room, hands.not_more, adds_total s.post, adds_total (remove s.post n), taken_total s.post n (Replicate x g a e) at_n adding);
    };
    faithful = quiet_faithful set story s (handing_over set (with_post (remove s.post n) s) x g a e).after quiet kept.faithful;
  }
