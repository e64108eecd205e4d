-- The words of the rules are std's words for lists, at the key of a peer or a question. Assumes nothing.
use Rattle.std.proofs.Common.{◌≡◌, ℕ, Bool, true, false, cond, not, ◌||◌, eqb, List, [], ◌∷◌, Some, None, Option, refl}
use Rattle.std.specs.List.{find, filter_map, cons_option, list_any}
use Rattle.std.specs.Option.{option_map, is_some}
use Rattle.std.proofs.lemmas.List.Recursion.{same_from_clauses}
use Rattle.arithmetic.proofs.Kept.{kept_is}
use Rattle.rules.specs.declared.Peer.{Peer}
use Rattle.rules.specs.declared.Question.{Question}
use Rattle.rules.specs.State.{is_leaving, members, state_of, without, reply_to, closed}
use Rattle.rules.specs.Refusals.{is_empty}
use Rattle.rosters.specs.Rows.{first_with, dropped_with}
use Rattle.tables.specs.Tables.{member_of}

map_cond : {X Y : Type 0} (f : X → Y) (t : Bool) (x y : X) → f (cond t x y) ≡ cond t (f x) (f y)
map_cond f true x y = refl
map_cond f false x y = refl

-- a look-up by a key is a part of the first entry with that key
first_is : {X Y : Type 0} (F : List X → Option Y) (t : X → Bool) (g : X → Y) → F [] ≡ None → ((x : X) (xs : List X) → F (x ∷ xs) ≡ cond (t x) (Some (g x)) (F xs)) → (xs : List X) → F xs ≡ option_map g (find t xs)
first_is F t g none more =
    same_from_clauses F (λ xs. option_map g (find t xs)) (λ x r. cond (t x) (Some (g x)) r) none more (λ x xs. map_cond (option_map g) (t x) (Some x) (find t xs))

pub state_first : (p : ℕ) (t : List Peer) → state_of t p ≡ option_map (λ q. q.state) (first_with (λ q. q.id) p t)
state_first p = first_is (λ t. state_of t p) (λ q. eqb q.id p) (λ q. q.state) refl (λ _ _. refl)

pub reply_first : (q : ℕ) (xs : List Question) → reply_to xs q ≡ option_map (λ x. x.reply) (first_with (λ x. x.number) q xs)
reply_first q = first_is (λ xs. reply_to xs q) (λ x. eqb x.number q) (λ x. x.reply) refl (λ _ _. refl)

pub without_dropped : (p : ℕ) (t : List Peer) → without p t ≡ dropped_with (λ q. q.id) p t
without_dropped p = kept_is (without p) (λ q. eqb q.id p) refl (λ _ _. refl)

pub closed_dropped : (q : ℕ) (xs : List Question) → closed q xs ≡ dropped_with (λ x. x.number) q xs
closed_dropped q = kept_is (closed q) (λ x. eqb x.number q) refl (λ _ _. refl)

pub members_kept : (t : List Peer) → members t ≡ filter_map member_of t
members_kept =
    same_from_clauses members (filter_map member_of) (λ q ms. cond (is_leaving q.state) ms (q.id ∷ ms)) refl (λ _ _. refl) (λ q qs. map_cond (λ o. cons_option o (filter_map member_of qs)) (is_leaving q.state) None (Some q.id))

some_member : (b : Bool) (p : ℕ) (ms : List ℕ) → not (is_empty (cond b ms (p ∷ ms))) ≡ (is_some (cond b None (Some p)) || not (is_empty ms))
some_member true p ms = refl
some_member false p ms = refl

pub any_member : (t : List Peer) → list_any (λ q. is_some (member_of q)) t ≡ not (is_empty (members t))
any_member =
    same_from_clauses (list_any (λ q. is_some (member_of q))) (λ t. not (is_empty (members t))) (λ q r. is_some (member_of q) || r) refl (λ _ _. refl) (λ q qs. some_member (is_leaving q.state) q.id (members qs))
