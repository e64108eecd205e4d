use Rattle.racks.proofs.Cuts as cuts
use Rattle.racks.proofs.Stays as stays
use Rattle.racks.proofs.facts_stand.Goals as goal

pub returns : goal.returns
returns g c =
    record {
      stays_added = stays.stays_added;
      stays_overwritten = stays.stays_overwritten;
      stays_closed_up = stays.stays_closed_up;
      stays_emptied = stays.stays_emptied;
      clean_emptied = stays.clean_emptied;
      joined_cut = cuts.joined_cut;
      memory_clean = stays.memory_clean;
    }
