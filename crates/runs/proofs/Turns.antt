-- One order more: what is left of a run gives the whole of it. Assumes nothing.
use Rattle.std.proofs.Common.{◌≡◌, ℕ, ◌+◌, ◌<◌, ◌≤◌, List, [], ◌∷◌, ◌++◌, map, length, get_or, take, drop, set, Some, fold, sym, refl, ap, ◌∙◌, append_assoc, append-nil, arith}
use lib.ListN.{length-map}
use Rattle.std.specs.List.{slice_get}
use Rattle.std.proofs.lemmas.List.{at_drop_more, at_drop_all, take_more_set, get_or-map, map-set, set-get_or, take_all}
use Rattle.messages.specs.declared.Message.{Message}
use Rattle.rules.specs.declared.Call.{Call}
use Rattle.rules.specs.declared.Answer.{Answer}
use Rattle.rules.specs.State.{Settings, State}
use Rattle.rules.specs.Rules.{Did, step}
use Rattle.rules.specs.Runs.{from}
use Rattle.rules.specs.Edits.{call_edits}
use Rattle.std.proofs.lemmas.List.Sums.{fold-append}
use Rattle.holders.specs.declared.holder.Holder.{Ghosts as Holding}
use Rattle.holders.specs.declared.shelf.Shelf.{Ghosts as Shelving}
use Rattle.holders.specs.declared.post.Post.{Ghosts as Posting}
use Rattle.ring.specs.declared.ring.Ring.{Ring}
use Rattle.ring.specs.Views.{viewed, sizes, Performs}
use Rattle.runs.specs.declared.Order.{Order}
use Rattle.runs.specs.Orders.{call_of, answer_of, answers_from, edits_from, Runs}

module _ {S P : Type 0} {shelf : Shelving S} {cells : Holding S} {post : Posting P Message} {slots : Holding P} (orders₀ : List Order) (ring₀ : Ring S P shelf cells post slots) where
  abbrev calls : List Call
  calls = map call_of orders₀

  abbrev sets : Settings
  sets = sizes ring₀

  abbrev seen : Ring S P shelf cells post slots → State
  seen r = viewed r

  -- after i orders
  pub record Sofar (i : ℕ) (orders : List Order) (ring : Ring S P shelf cells post slots) : Type 0 where
    pub calls_stay : map call_of orders ≡ map call_of orders₀
    pub answers : take i (map answer_of orders) ++ answers_from (sizes ring₀) (viewed ring) (drop i (map call_of orders₀)) ≡ answers_from (sizes ring₀) (viewed ring₀) (map call_of orders₀)
    pub became : from (sizes ring₀) (viewed ring) (drop i (map call_of orders₀)) ≡ from (sizes ring₀) (viewed ring₀) (map call_of orders₀)
    pub remembers : fold shelf.after (shelf.cells ring.shelf.now) (edits_from (sizes ring₀) (viewed ring) (drop i (map call_of orders₀))) ≡ fold shelf.after (shelf.cells ring₀.shelf.now) (edits_from (sizes ring₀) (viewed ring₀) (map call_of orders₀))
    pub same_sizes : sizes ring ≡ sizes ring₀
    pub framed : cells.frame ring.shelf.now ≡ cells.frame ring₀.shelf.now
    pub backed : slots.frame ring.post.now ≡ slots.frame ring₀.post.now
    pub shelf_lent : ring.shelf.ghost_name ≡ ring₀.shelf.ghost_name
    pub post_lent : ring.post.ghost_name ≡ ring₀.post.ghost_name

  pub sofar_none : Sofar 0 orders₀ ring₀
  sofar_none = record { calls_stay = refl; answers = refl; became = refl; remembers = refl; same_sizes = refl; framed = refl; backed = refl; shelf_lent = refl; post_lent = refl }

  pub sofar_all : (i : ℕ) (orders : List Order) (ring : Ring S P shelf cells post slots) → length orders₀ ≤ i → length orders ≡ length orders₀ → Sofar i orders ring → Runs orders₀ ring₀ orders ring
  sofar_all i orders ring past long h =
      let end : length (map call_of orders₀) ≤ i = omega (arith, length-map orders₀ call_of) in
      let all : length (map answer_of orders) ≤ i = omega (arith, length-map orders answer_of) in
      record {
        calls = h.calls_stay;
        answers = sym (ap (λ l. l ++ answers_from sets (seen ring) (drop i calls)) (take_all i (map answer_of orders) all) ∙ ap (λ l. map answer_of orders ++ l) (at_drop_all (answers_from sets (seen ring)) calls i end) ∙ append-nil (map answer_of orders)) ∙ h.answers;
        leads = record {
          became = sym (at_drop_all (from sets (seen ring)) calls i end) ∙ h.became;
          remembers = sym (at_drop_all (λ cs. fold shelf.after (shelf.cells ring.shelf.now) (edits_from sets (seen ring) cs)) calls i end) ∙ h.remembers;
          same_sizes = h.same_sizes;
          framed = h.framed;
          backed = h.backed;
          shelf_lent = h.shelf_lent;
          post_lent = h.post_lent;
        };
      }

  -- one more order
  module _ (i : ℕ) (orders : List Order) (ring : Ring S P shelf cells post slots) (h : Sofar i orders ring) (call : Call) (answer : Answer) (ring' : Ring S P shelf cells post slots) (within : i < length orders₀) (long : length orders ≡ length orders₀) (d : Order) (is : call ≡ call_of (get_or orders i d)) (done : Performs call ring answer ring') where
    made : Order
    made = record { call = call; answer = answer }

    here : i < length (map call_of orders₀)
    here = omega (arith, length-map orders₀ call_of)

    -- the call is the one that was ordered
    call_is : get_or (map call_of orders₀) i call ≡ call
    call_is =
        ap (λ l. get_or l i call) (sym h.calls_stay)
        ∙ get_or-map call_of orders i d call (omega arith)
        ∙ sym is

    rest : List Call
    rest = drop (i + 1) (map call_of orders₀)

    -- what the rest gives of any function of the calls that are left
    left_is : {Y : Type 0} (f : List Call → Y) → f (drop i (map call_of orders₀)) ≡ f (call ∷ drop (i + 1) (map call_of orders₀))
    left_is f = at_drop_more f (map call_of orders₀) i call here ∙ ap (λ c. f (c ∷ drop (i + 1) (map call_of orders₀))) call_is

    -- the ring's own sizes are those at the start
    step_is : step (sizes ring) (seen ring) call ≡ step sets (seen ring) call
    step_is = ap (λ z. step z (seen ring) call) h.same_sizes

    next_is : seen ring' ≡ (step sets (seen ring) call).after
    next_is = done.leads.became ∙ ap (λ (x : Did). x.after) step_is

    pub sofar_more : Sofar (i + 1) (set orders i (record { call = call; answer = answer })) ring'
    sofar_more = record {
      calls_stay = map-set call_of orders i (record { call = call; answer = answer }) ∙ (ap (set (map call_of orders) i) (is ∙ sym (get_or-map call_of orders i d call (omega arith))) ∙ set-get_or (map call_of orders) i call) ∙ h.calls_stay;
      answers =
          ap (λ l. take (i + 1) l ++ answers_from sets (seen ring') (drop (i + 1) (map call_of orders₀))) (map-set answer_of orders i (record { call = call; answer = answer }))
          ∙ ap (λ l. l ++ answers_from sets (seen ring') (drop (i + 1) (map call_of orders₀))) (take_more_set (map answer_of orders) i answer (omega (arith, length-map orders answer_of)))
          ∙ append_assoc (take i (map answer_of orders)) (answer ∷ []) (answers_from sets (seen ring') (drop (i + 1) (map call_of orders₀)))
          ∙ ap (λ l. take i (map answer_of orders) ++ l) ((λ j. (done.answered ∙ ap (λ (x : Did). x.answer) step_is) j ∷ answers_from sets (next_is j) (drop (i + 1) (map call_of orders₀))) ∙ sym (left_is (answers_from sets (seen ring))))
          ∙ h.answers;
      became = ap (λ t. from sets t (drop (i + 1) (map call_of orders₀))) next_is ∙ sym (left_is (from sets (seen ring))) ∙ h.became;
      remembers =
          (λ j. fold shelf.after ((done.leads.remembers ∙ ap (λ z. fold shelf.after (shelf.cells ring.shelf.now) (call_edits z (seen ring) call)) h.same_sizes) j) (edits_from sets (next_is j) (drop (i + 1) (map call_of orders₀))))
          ∙ sym (fold-append shelf.after (shelf.cells ring.shelf.now) (call_edits sets (seen ring) call) (edits_from sets (step sets (seen ring) call).after (drop (i + 1) (map call_of orders₀))))
          ∙ sym (left_is (λ cs. fold shelf.after (shelf.cells ring.shelf.now) (edits_from sets (seen ring) cs)))
          ∙ h.remembers;
      same_sizes = done.leads.same_sizes ∙ h.same_sizes;
      framed = done.leads.framed ∙ h.framed;
      backed = done.leads.backed ∙ h.backed;
      shelf_lent = done.leads.shelf_lent ∙ h.shelf_lent;
      post_lent = done.leads.post_lent ∙ h.post_lent;
    }

-- ---- the answer at a place of the list is the one that the calls before it lead to

pub answer_at : (z : Settings) (s : State) (before later : List Call) (c : Call) → slice_get (answers_from z s (before ++ c ∷ later)) (length before) ≡ Some (step z (from z s before) c).answer
answer_at z s [] later c = refl
answer_at z s (b ∷ bs) later c = answer_at z (step z s b).after bs later c
