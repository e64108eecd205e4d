use Rattle.words.proofs.Stds.{to_two, to_four, to_eight, from_two, from_four, from_eight}
use Rattle.words.proofs.facts_stand.Goals as goal

pub returns : goal.returns
returns c = record {
  bytes = record { to_two = to_two; to_four = to_four; to_eight = to_eight };
  words = record { from_two = from_two; from_four = from_four; from_eight = from_eight };
}
