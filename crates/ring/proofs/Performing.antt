-- A call that is refused leaves the ring as it was; one that is not does what the rules say. Assumes nothing.
use Rattle.std.proofs.Common.{◌≡◌, ℕ, Bool, true, false, cond, List, [], ◌∷◌, Some, None, Ok, Err, fold, sym, refl, ap, ◌∙◌, subst, arith}
use Rattle.faults.specs.declared.Fault.{Fault}
use Rattle.faults.specs.Checks.{first_fault, answered}
use Rattle.copies.specs.declared.Edit.{Edit}
use Rattle.messages.specs.declared.Message.{Message}
use Rattle.rules.specs.declared.Call.{Call}
use Rattle.rules.specs.declared.Answer.{Answer}
use Rattle.rules.specs.declared.Answer.TheVariants.{Refused}
use Rattle.rules.specs.State.{Settings, State}
use Rattle.rules.specs.Refusals.{checks, refusal}
use Rattle.rules.specs.Rules.{Did, did, decided, outcome, step}
use Rattle.rules.specs.Edits.{outcome_edits, decided_edits, call_edits}
use Rattle.holders.specs.declared.holder.Holder.{Ghosts as Holding}
use Rattle.holders.specs.declared.shelf.Shelf.{Ghosts as Shelving}
use Rattle.holders.specs.declared.post.Post.{Ghosts as Posting}
use Rattle.ring.specs.declared.ring.Ring.{Ring}
use Rattle.ring.specs.Views.{viewed, sizes, settled, Leads, Acts, Performs}

-- ---- what a list of checks tells

-- every check is passed
abbrev pub Passed : List (Bool × Fault) → Type 0
Passed [] = Unit {0}
Passed (c ∷ cs) = (c.0 ≡ false) × Passed cs

pub all_passed : (cs : List (Bool × Fault)) → first_fault cs ≡ None → Passed cs
all_passed [] h = tt
all_passed (c ∷ cs) h = at c.0 c.1 h (all_passed cs)
  where
    at : (t : Bool) (e : Fault) → cond t (Some e) (first_fault cs) ≡ None → (first_fault cs ≡ None → Passed cs) → (t ≡ false) × Passed cs
    at true e is rest = absurd (let z : ◌≡◌ {A = ℕ} 0 1 = cc in omega arith)
    at false e is rest = (refl, rest is)

-- a value that a list of checks lets pass
pub accepted_by : {X : Type 0} (cs : List (Bool × Fault)) (x y : X) → Ok y ≡ answered cs x → (first_fault cs ≡ None) × (y ≡ x)
accepted_by [] x y h = (refl, cc)
accepted_by (c ∷ cs) x y h = at c.0 h (accepted_by cs x y)
  where
    at : (t : Bool) → Ok y ≡ cond t (Err c.1) (answered cs x) → (Ok y ≡ answered cs x → (first_fault cs ≡ None) × (y ≡ x)) → (cond t (Some c.1) (first_fault cs) ≡ None) × (y ≡ x)
    at true is rest = absurd (let z : ◌≡◌ {A = ℕ} 0 1 = cc in omega arith)
    at false is rest = rest is

-- and one that it refuses
pub refused_by : {X : Type 0} (cs : List (Bool × Fault)) (x : X) (f : Fault) → Err f ≡ answered cs x → first_fault cs ≡ Some f
refused_by [] x f h = absurd (let z : ◌≡◌ {A = ℕ} 0 1 = cc in omega arith)
refused_by (c ∷ cs) x f h = at c.0 h (refused_by cs x f)
  where
    at : (t : Bool) → Err f ≡ cond t (Err c.1) (answered cs x) → (Err f ≡ answered cs x → first_fault cs ≡ Some f) → cond t (Some c.1) (first_fault cs) ≡ Some f
    at true is rest = let same : f ≡ c.1 = cc in ap Some (sym same)
    at false is rest = rest is

-- checks that let a value pass as what it is let that pass too
pub passes : {X : Type 0} (cs : X → List (Bool × Fault)) (x y : X) → Ok y ≡ answered (cs x) x → first_fault (cs y) ≡ None
passes cs x y h = let ok = accepted_by (cs x) x y h in subst (λ n. first_fault (cs n) ≡ None) (sym ok.1) ok.0

-- ---- a step by its refusal

module _ (set : Settings) (s : State) (c : Call) where
  step_refused : (f : Fault) → refusal set s c ≡ Some f → step set s c ≡ did (Refused f) s
  unfolding step
  step_refused f h = ap (decided set s c) h

  step_accepted : refusal set s c ≡ None → step set s c ≡ outcome set s c
  unfolding step
  step_accepted h = ap (decided set s c) h

  edits_refused : (f : Fault) → refusal set s c ≡ Some f → call_edits set s c ≡ []
  unfolding call_edits
  edits_refused f h = ap (decided_edits set s c) h

  edits_accepted : refusal set s c ≡ None → call_edits set s c ≡ outcome_edits set s c
  unfolding call_edits
  edits_accepted h = ap (decided_edits set s c) h

-- ---- a call on a ring

module _ {S P : Type 0} {shelf : Shelving S} {cells : Holding S} {post : Posting P Message} {slots : Holding P} where
  -- what the ring has of its own has changed
  pub leads_within : (t : State) (r q : Ring S P shelf cells post slots) → viewed q ≡ t → q.settings ≡ r.settings → q.shelf ≡ r.shelf → q.post ≡ r.post → Leads t [] r q
  leads_within t r q is settings same_shelf same_post = record {
    became = is;
    remembers = ap (λ b. shelf.cells b.now) same_shelf;
    same_sizes = λ j. settled (settings j) (cells.room (same_shelf j).now) (slots.room (same_post j).now);
    framed = ap (λ b. cells.frame b.now) same_shelf;
    backed = ap (λ b. slots.frame b.now) same_post;
    shelf_lent = ap (λ b. b.ghost_name) same_shelf;
    post_lent = ap (λ b. b.ghost_name) same_post;
  }

  -- nothing was done
  pub leads_nowhere : (r : Ring S P shelf cells post slots) → Leads (viewed r) [] r r
  leads_nowhere r = leads_within (viewed r) r r refl refl refl refl

  -- that, and the post
  pub leads_posting : (t : State) (r q : Ring S P shelf cells post slots) → viewed q ≡ t → q.settings ≡ r.settings → q.shelf ≡ r.shelf → slots.frame q.post.now ≡ slots.frame r.post.now → q.post.ghost_name ≡ r.post.ghost_name → Leads t [] r q
  leads_posting t r q is settings same_shelf backed lent = record {
    became = is;
    remembers = ap (λ b. shelf.cells b.now) same_shelf;
    same_sizes = λ j. settled (settings j) (cells.room (same_shelf j).now) (r.post_sized q.post.now r.post.now backed j);
    framed = ap (λ b. cells.frame b.now) same_shelf;
    backed = backed;
    shelf_lent = ap (λ b. b.ghost_name) same_shelf;
    post_lent = lent;
  }

  -- that, and the shelf by some edits
  pub leads_shelving : (t : State) (es : List Edit) (r q : Ring S P shelf cells post slots) → viewed q ≡ t → shelf.cells q.shelf.now ≡ fold shelf.after (shelf.cells r.shelf.now) es → q.settings ≡ r.settings → cells.frame q.shelf.now ≡ cells.frame r.shelf.now → q.shelf.ghost_name ≡ r.shelf.ghost_name → q.post ≡ r.post → Leads t es r q
  leads_shelving t es r q is remembers settings framed lent same_post = record {
    became = is;
    remembers = remembers;
    same_sizes = λ j. settled (settings j) (r.shelf_sized q.shelf.now r.shelf.now framed j) (slots.room (same_post j).now);
    framed = framed;
    backed = ap (λ b. slots.frame b.now) same_post;
    shelf_lent = lent;
    post_lent = ap (λ b. b.ghost_name) same_post;
  }

  -- a state and edits that are the same are as good
  pub leads_same : (t u : State) (es fs : List Edit) (r q : Ring S P shelf cells post slots) → t ≡ u → es ≡ fs → Leads t es r q → Leads u fs r q
  leads_same t u es fs r q e f h = record {
    became = h.became ∙ e;
    remembers = h.remembers ∙ ap (fold shelf.after (shelf.cells r.shelf.now)) f;
    same_sizes = h.same_sizes;
    framed = h.framed;
    backed = h.backed;
    shelf_lent = h.shelf_lent;
    post_lent = h.post_lent;
  }

  pub performs_refused : (c : Call) (r : Ring S P shelf cells post slots) (f : Fault) → refusal (sizes r) (viewed r) c ≡ Some f → Performs c r (Refused f) r
  performs_refused c r f h =
      let set = sizes r in
      let s = viewed r in
      record {
        answered = sym (ap (λ (d : Did). d.answer) (step_refused set s c f h));
        leads = leads_same s (step set s c).after [] (call_edits set s c) r r (sym (ap (λ (d : Did). d.after) (step_refused set s c f h))) (sym (edits_refused set s c f h)) (leads_nowhere r);
      }

  pub performs_accepted : (c : Call) (r q : Ring S P shelf cells post slots) (a : Answer) (t : State) (es : List Edit) → refusal (sizes r) (viewed r) c ≡ None → outcome (sizes r) (viewed r) c ≡ did a t → outcome_edits (sizes r) (viewed r) c ≡ es → Leads t es r q → Performs c r a q
  performs_accepted c r q a t es h is edits done =
      let set = sizes r in
      let s = viewed r in
      let all = step_accepted set s c h ∙ is in
      record {
        answered = sym (ap (λ (d : Did). d.answer) all);
        leads = leads_same t (step set s c).after es (call_edits set s c) r q (sym (ap (λ (d : Did). d.after) all)) (sym (edits_accepted set s c h ∙ edits)) done;
      }

  -- a call whose numbers were refused, and one whose numbers passed and that made no edits
  pub refused_call : {X : Type 0} (c : Call) (r : Ring S P shelf cells post slots) (x : X) (f : Fault) → Err f ≡ answered (checks (sizes r) (viewed r) c) x → Performs c r (Refused f) r
  refused_call c r x f h = performs_refused c r f (refused_by (checks (sizes r) (viewed r) c) x f h)

  pub accepted_call : {X : Type 0} (c : Call) (r q : Ring S P shelf cells post slots) (a : Answer) (x y : X) (t : X → State) → Ok y ≡ answered (checks (sizes r) (viewed r) c) x → outcome (sizes r) (viewed r) c ≡ did a (t x) → outcome_edits (sizes r) (viewed r) c ≡ [] → Leads (t y) [] r q → Performs c r a q
  accepted_call c r q a x y t h is edits done =
      let ok = accepted_by (checks (sizes r) (viewed r) c) x y h in
      performs_accepted c r q a (t x) [] ok.0 is edits (subst (λ n. Leads (t n) [] r q) ok.1 done)

  -- a rule that is the same, with the same edits, is as good
  pub acts_same : (d e : Did) (es fs : List Edit) (r q : Ring S P shelf cells post slots) (a : Answer) → d ≡ e → es ≡ fs → Acts d es r a q → Acts e fs r a q
  acts_same d e es fs r q a is edits h = record {
    answered = h.answered ∙ ap (λ (x : Did). x.answer) is;
    leads = leads_same d.after e.after es fs r q (ap (λ (x : Did). x.after) is) edits h.leads;
  }

  -- what was done to a ring after something that made no edits
  pub leads_on : (t u : State) (es : List Edit) (r q p : Ring S P shelf cells post slots) → Leads t [] r q → Leads u es q p → Leads u es r p
  leads_on t u es r q p first then = record {
    became = then.became;
    remembers = then.remembers ∙ ap (λ m. fold shelf.after m es) first.remembers;
    same_sizes = then.same_sizes ∙ first.same_sizes;
    framed = then.framed ∙ first.framed;
    backed = then.backed ∙ first.backed;
    shelf_lent = then.shelf_lent ∙ first.shelf_lent;
    post_lent = then.post_lent ∙ first.post_lent;
  }

  -- a delivery: the post has changed, and then a rule was followed
  pub performs_delivery : (c : Call) (r q p : Ring S P shelf cells post slots) (a : Answer) (d e : Did) (es fs : List Edit) → refusal (sizes r) (viewed r) c ≡ None → outcome (sizes r) (viewed r) c ≡ e → outcome_edits (sizes r) (viewed r) c ≡ fs → d ≡ e → es ≡ fs → (t : State) → Leads t [] r q → Acts d es q a p → Performs c r a p
  performs_delivery c r q p a d e es fs h is edits same same-edits t first done =
      let then = acts_same d e es fs q p a same same-edits done in
      performs_accepted c r p a e.after fs h (is ∙ (λ j. did (sym then.answered j) e.after)) edits (leads_on t e.after fs r q p first then.leads)
