use Rattle.copies.proofs.Coordinates as order
use Rattle.copies.proofs.Facts as facts
use Rattle.copies.proofs.Records as records
use Rattle.copies.proofs.facts_stand.Goals as goal

pub returns : goal.returns
returns c =
    record {
      find = record {
        find_put = facts.find_put;
        find_put_other = facts.find_put_other;
        find_remove = facts.find_remove;
        find_remove_other = facts.find_remove_other;
        ordered_put = facts.ordered_put;
        ordered_remove = facts.ordered_remove;
        length_put_absent = facts.length_put_absent;
        length_put_present = facts.length_put_present;
        length_remove_absent = facts.length_remove_absent;
        length_remove_present = facts.length_remove_present;
        equal_from_same = order.equal_from_same;
        equal_from_find = facts.equal_from_find;
      };
      next = record {
        next_in_range = facts.next_in_range;
        next_found = facts.next_found;
        next_first = facts.next_first;
        next_none = facts.next_none;
      };
      records = record {
        ordered_from_records = records.ordered_from_records;
        find_from_records = records.find_from_records;
        length_from_records = records.length_from_records;
        next_from_records = records.next_from_records;
        from_records_push = records.from_records_push;
        from_records_set = records.from_records_set;
        from_records_removed = records.from_records_removed;
      };
    }
