-- What a table's searches go through: its members, and all but one of them. Assumes nothing.
use Rattle.std.proofs.Common.{◌≡◌, ℕ, Bool, not, eqb, List, Option, sym, subst}
use Rattle.std.proofs.lemmas.Iterator.{YieldsList}
use Rattle.std.proofs.lemmas.Iterator.Consumers.{YieldsList-from_filter_map, YieldsList-from_filter, YieldsList-at}
use Rattle.std.specs.Fn.{Called, CalledAt}
use Rattle.std.specs.Iterator.Adapters.{filter_source, filter_callee, filter_steps, filter_map_source, filter_map_callee, filter_map_steps}
use Rattle.std.specs.declared.iter.Filter.{Filter}
use Rattle.std.specs.declared.iter.FilterMap.{FilterMap}
use denote.Param.Members.{Mut}
use denote.Ref.{Bor}
use Rattle.circle.specs.Owners.{others}
use Rattle.arithmetic.proofs.Kept.{others_filter}
use Rattle.rules.specs.declared.Peer.{Peer}
use Rattle.rules.specs.State.{members}
use Rattle.tables.specs.Tables.{member_of}
use Rattle.tables.proofs.Ties.{members_kept}

pub members_in : {S F : Type 0} {steps : S → Option (Bor Peer) → S → Type 0} {s : FilterMap S F} {t : S} {peers : List Peer} (g : Mut F (Bor Peer × Unit {0}) (Option ℕ)) {f : F} → filter_map_source s ≡ t → YieldsList steps (λ y. y.now) t peers → filter_map_callee s ≡ f → ((x : Bor Peer) (r : Option ℕ) (q : F) → Called g f (x, tt) r q → (q ≡ f) × (r ≡ member_of x.now)) → YieldsList (filter_map_steps steps g) (λ x. x) s (members peers)
members_in {S} {F} {steps} {s} {t} {peers} g source road callee call =
    subst (YieldsList (filter_map_steps steps g) (λ x. x) s) (sym (members_kept peers)) (YieldsList-from_filter_map g member_of (YieldsList-at source road) callee call)

pub others_in : {S F : Type 0} {steps : S → Option ℕ → S → Type 0} {s : Filter S F} {t : S} {ms : List ℕ} (g : Mut F (Bor ℕ × Unit {0}) Bool) (p : ℕ) {f : F} → filter_source s ≡ t → YieldsList steps (λ x. x) t ms → filter_callee s ≡ f → ((x : ℕ) (b : Bool) (q : F) → CalledAt g f x b q → (q ≡ f) × (b ≡ not (eqb x p))) → YieldsList (filter_steps steps g) (λ x. x) s (others p ms)
others_in {S} {F} {steps} {s} {t} {ms} g p source road callee call =
    subst (YieldsList (filter_steps steps g) (λ x. x) s) (sym (others_filter p ms)) (YieldsList-from_filter g (λ q. not (eqb q p)) (YieldsList-at source road) callee call)
