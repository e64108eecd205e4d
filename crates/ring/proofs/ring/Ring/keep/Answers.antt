use Rattle.std.proofs.Common.{◌≡◌, Bool, true, false, cond, List, [], ◌∷◌, sym, refl, ap, ◌∙◌}
use Rattle.copies.specs.declared.CopyRecord.{CopyRecord}
use Rattle.copies.specs.declared.Edit.TheVariants.{Put}
use Rattle.copies.specs.Copies.{find, put}
use Rattle.rules.specs.declared.Answer.TheVariants.{Kept, Older}
use Rattle.rules.specs.Handover.{spot, entry, newer}
use Rattle.rules.specs.State.{with_shelf}
use Rattle.rules.specs.Rules.{did, adding}
use Rattle.ring.specs.Views.{viewed}
use Rattle.ring.proofs.Performing.{leads_within, leads_shelving, acts_same}
use Rattle.ring.proofs.ring.Ring.keep.Goals as goal

pub returns-then-is_newer : goal.returns-then-is_newer
unfolding adding
returns-then-is_newer g c =
    let r = c.args.self.now in
    let s = viewed r in
    let at = spot c.args.at.peer c.args.at.replica c.args.at.place in
    let e = entry c.args.entry.stamp c.args.entry.value in
    let later : newer (find s.shelf at) e.stamp ≡ true = ap (λ o. newer o e.stamp) (sym c.find.ensures) ∙ sym c.if-is_newer.ensures in
    acts_same (did Older s) _ [] _ r _ Older
    (sym (ap (λ (t : Bool). cond t (did Older s) (did Kept (with_shelf (put s.shelf at e) s))) later))
    (sym (ap (λ (t : Bool). cond t [] (Put at e ∷ [])) later))
    (record { answered = refl; leads = leads_within _ _ _ refl refl refl refl })

pub returns : goal.returns
unfolding adding
returns g c =
    let r = c.args.self.now in
    let s = viewed r in
    let at = spot c.args.at.peer c.args.at.replica c.args.at.place in
    let e = entry c.args.entry.stamp c.args.entry.value in
    let older : newer (find s.shelf at) e.stamp ≡ false = ap (λ o. newer o e.stamp) (sym c.find.ensures) ∙ sym c.if-is_newer.ensures in
    acts_same (did Kept (with_shelf (put s.shelf at e) s)) _ (Put at e ∷ []) _ r _ Kept
    (sym (ap (λ (t : Bool). cond t (did Older s) (did Kept (with_shelf (put s.shelf at e) s))) older))
    (sym (ap (λ (t : Bool). cond t [] (Put at e ∷ [])) older))
    (record {
      answered = refl;
      leads = leads_shelving _ _ _ _ (ap (λ (l : List CopyRecord). with_shelf l s) c.store.ensures.means) c.store.ensures.remembers refl c.store.ensures.framed refl refl;
    })
