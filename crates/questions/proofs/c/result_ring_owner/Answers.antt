use Rattle.std.proofs.Common.{[], ◌∷◌, ap, ◌∙◌}
use Rattle.faults.specs.declared.Fault.TheVariants.{Bytes}
use Rattle.arithmetic.specs.Settled.{size_check}
use Rattle.arithmetic.specs.Checks.{identifier_check}
use Rattle.questions.specs.Coded.{coded}
use Rattle.questions.specs.Members.{members_of, bad_members}
use Rattle.questions.proofs.Nearest.{nearest_below}
use Rattle.questions.proofs.c.result_ring_owner.Goals as goal

pub returns : goal.returns
returns c =
    let n = c.args.size in
    let i = c.args.identifier in
    let bytes = c.args.members.now in
    let value = c.code.ensures ∙ ap coded c.owner_answer.ensures in
    record {
      value = value;
      nearest = nearest_below n i (members_of bytes) (size_check n ∷ (identifier_check n i ∷ ((bad_members n bytes, Bytes) ∷ []))) c.code.result value;
    }
