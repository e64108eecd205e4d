use Rattle.std.proofs.Common.{◌≡◌, cond, Err, sym, ap, ◌∙◌}
use Rattle.faults.specs.declared.Fault.TheVariants.{Bytes}
use Rattle.circle.specs.Owners.{owner}
use Rattle.questions.specs.Members.{members_of, bad_members, found}
use Rattle.questions.proofs.Passed.{owner_passed, place_kept, found_is}
use Rattle.questions.proofs.c.owner_answer.Goals as goal

pub returns-then-bad_members : goal.returns-then-bad_members
returns-then-bad_members c =
    let s = c.in_ok-settings.ensures in
    let n = c.args.size in
    let bytes = c.args.members.now in
    let bad = ap (λ k. bad_members k bytes) (sym (c.size.ensures ∙ s.1)) ∙ sym c.bad_members.ensures ∙ c.if-bad_members.true in
    sym (owner_passed n c.args.identifier c.in_ok-settings.settings.size c.in_ok-place.place bytes s.0 s.1 c.in_ok-place.ensures
    ∙ ap (λ b. cond b (Err Bytes) (found (owner n (members_of bytes) c.args.identifier))) bad)

pub returns : goal.returns
returns c =
    let s = c.in_ok-settings.ensures in
    let n = c.args.size in
    let i = c.args.identifier in
    let bytes = c.args.members.now in
    let bad = ap (λ k. bad_members k bytes) (sym (c.size.ensures ∙ s.1)) ∙ sym c.bad_members.ensures ∙ c.if-bad_members.false in
    let done = owner_passed n i c.in_ok-settings.settings.size c.in_ok-place.place bytes s.0 s.1 c.in_ok-place.ensures
    ∙ ap (λ b. cond b (Err Bytes) (found (owner n (members_of bytes) i))) bad in
    let place = place_kept n i c.in_ok-settings.settings.size c.in_ok-place.place bytes s.0 s.1 c.in_ok-place.ensures in
    let near : c.nearest_member.result ≡ owner n (members_of bytes) i =
    c.nearest_member.ensures ∙ ap (λ k. owner k (members_of bytes) c.in_ok-place.place) s.1 ∙ ap (owner n (members_of bytes)) place in
    c.ok_or.ensures.value ∙ found_is c.nearest_member.result ∙ ap found near ∙ sym done
