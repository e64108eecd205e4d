use Rattle.std.proofs.Common.{refl}
use Rattle.circle.specs.Circle.{distance, in_arc, place}
use Rattle.circle.specs.Owners.{owner}
use Rattle.arithmetic.specs.Checks.{place_row}
use Rattle.examples.proofs.example_count.Goals as goal

-- every example is computed
pub returns : goal.returns
unfolding distance in_arc place owner place_row
returns c = record {
  count = refl;
  hold = (refl, (refl, (refl, (refl, (refl, (refl, (refl, (refl, (refl, (refl, (refl, (refl, (refl, tt)))))))))))));
}
