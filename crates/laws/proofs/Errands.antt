-- The messages that a handover waits for, counted: RETRIEVEITEMS to the giver, or REPLICATE to the filler.
use Rattle.std.proofs.Common.{◌≡◌, ℕ, ◌+◌, ◌≤◌, Bool, true, false, cond, ◌&&◌, eqb, List, [], ◌∷◌, Some, None, Option, refl, ap, ⊎_elim, arith}
use Rattle.std.proofs.lemmas.Bool.{cases_Bool, cond-true, cond-false, eqb-true, eq-eqb, and_parts, and_from}
use Rattle.messages.specs.declared.Message.{Message}
use Rattle.messages.specs.declared.Message.TheVariants.{RetrieveItems, Replicate, AddItem, GetItem}
use Rattle.rules.specs.declared.PeerState.{PeerState}
use Rattle.rules.specs.declared.PeerState.TheVariants.{Settled, Filling, Giving, Leaving}
use Rattle.rules.specs.State.{is_add, adds}
use Rattle.laws.proofs.Lists.{total}

-- 1 where a giver and an arc are these, else 0
abbrev pub match : ℕ → ℕ → ℕ → ℕ → ℕ → ℕ → ℕ
match g a e h b d = cond (eqb g h && (eqb a b && eqb e d)) 1 0

pub match_itself : (g a e : ℕ) → match g a e g a e ≡ 1
match_itself g a e =
    cond-true (eqb g g && (eqb a a && eqb e e)) 1 0 (and_from (eqb g g) (eqb a a && eqb e e) (eq-eqb g g refl) (and_from (eqb a a) (eqb e e) (eq-eqb a a refl) (eq-eqb e e refl)))

-- 1 where a peer in this state is owed this arc by h, else 0
abbrev pub fills : Option PeerState → ℕ → ℕ → ℕ → ℕ
fills None h b d = 0
fills (Some Settled) h b d = 0
fills (Some (Filling g a e)) h b d = match g a e h b d
fills (Some Giving) h b d = 0
fills (Some Leaving) h b d = 0

-- 1 where a message is for x to be handed this arc by h, else 0
abbrev pub carries : ℕ → ℕ → ℕ → ℕ → Message → ℕ
carries x h b d (RetrieveItems to from start end) = cond (eqb from x) (match to start end h b d) 0
carries x h b d (Replicate to from start end) = cond (eqb to x) (match from start end h b d) 0
carries x h b d (AddItem to r i s v) = 0
carries x h b d (GetItem to r i q) = 0

abbrev pub adding : Message → ℕ
adding m = cond (is_add m) 1 0

pub adds_total : (ms : List Message) → adds ms ≡ total adding ms
adds_total [] = refl
adds_total (m ∷ ms) = ap (λ k. cond (is_add m) 1 0 + k) (adds_total ms)

pub cond_zero : (b : Bool) → ◌≡◌ {A = ℕ} (cond b 0 0) 0
cond_zero true = refl
cond_zero false = refl

-- who waits for this arc is filling it
pub fills_some : (o : Option PeerState) (h b d : ℕ) → 1 ≤ fills o h b d → o ≡ Some (Filling h b d)
fills_some None h b d l = absurd (omega arith)
fills_some (Some Settled) h b d l = absurd (omega arith)
fills_some (Some (Filling g a e)) h b d l =
    ⊎_elim
    (λ t.
    let p = and_parts (eqb g h) (eqb a b && eqb e d) t in
    let q = and_parts (eqb a b) (eqb e d) p.1 in
    let eg = eqb-true g h p.0 in
    let ea = eqb-true a b q.0 in
    let ee = eqb-true e d q.1 in
    cc)
    (λ f. absurd (omega (arith, cond-false {A = ℕ} (eqb g h && (eqb a b && eqb e d)) 1 0 f)))
    (cases_Bool (eqb g h && (eqb a b && eqb e d)))
fills_some (Some Giving) h b d l = absurd (omega arith)
fills_some (Some Leaving) h b d l = absurd (omega arith)
