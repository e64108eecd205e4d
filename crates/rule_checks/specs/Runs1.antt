-- Random runs of calls, with their answers and what is left. Made by scripts/model.py; not to be edited.
use Rattle.std.specs.Prelude.{List, [], ◌∷◌}
use Rattle.faults.specs.declared.Fault.TheVariants.{Identifier, Replica, OnTable, NotMember, NoMember, OnlyMember, NotSettled, ShelfFull, PostFull, NoMessage, NoQuestion}
use Rattle.messages.specs.declared.Message.TheVariants.{RetrieveItems, Replicate, AddItem, GetItem}
use Rattle.rules.specs.declared.PeerState.TheVariants.{Settled, Filling, Giving, Leaving}
use Rattle.rules.specs.declared.Call.TheVariants.{Join, Leave, Insert, Lookup, Deliver, Collect}
use Rattle.rules.specs.declared.Answer.TheVariants.{Done, Inserted, Opened, Asked, Moved, Sent, Kept, Older, Answered, Found, Nothing, NotYet, Withdrawn, Refused}
use Rattle.rules.specs.State.{peer}
use Rattle.rule_checks.specs.Worked.{Worked, worked, settings, kept}

abbrev pub run_1 : Worked
run_1 =
    worked (settings 6 3 40 30)
    ((Join 2) ∷ (Join 4) ∷ (Collect 1) ∷ (Deliver 0) ∷ (Deliver 0) ∷ (Lookup 1 1) ∷ (Insert 1 954) ∷ (Deliver 2) ∷ (Join 3) ∷ (Insert 0 218) ∷ (Insert 7 384) ∷ (Collect 1) ∷ (Deliver 0) ∷ (Collect 1) ∷ (Insert 4 476) ∷ (Deliver 3) ∷ (Collect 3) ∷ (Insert 4 0) ∷ (Insert 4 906) ∷ (Join 0) ∷ (Join 5) ∷ (Deliver 9) ∷ (Deliver 7) ∷ (Leave 0) ∷ (Leave 4) ∷ (Deliver 3) ∷ (Deliver 6) ∷ (Join 1) ∷ (Deliver 9) ∷ (Lookup 1 0) ∷ (Insert 1 629) ∷ (Join 1) ∷ (Insert 4 47) ∷ (Leave 0) ∷ (Insert 1 672) ∷ (Deliver 0) ∷ (Lookup 1 0) ∷ (Deliver 10) ∷ (Leave 2) ∷ (Deliver 10) ∷ (Insert 4 892) ∷ (Deliver 18) ∷ (Join 1) ∷ (Join 5) ∷ (Insert 7 451) ∷ (Lookup 1 1) ∷ (Insert 4 235) ∷ (Deliver 15) ∷ (Insert 1 146) ∷ (Deliver 10) ∷ (Deliver 21) ∷ (Insert 4 901) ∷ (Insert 1 214) ∷ (Leave 3) ∷ (Deliver 6) ∷ (Deliver 10) ∷ (Deliver 2) ∷ (Deliver 22) ∷ (Insert 1 810) ∷ (Lookup 1 1) ∷ [])
    (Done ∷ Done ∷ (Refused NoQuestion) ∷ Asked ∷ (Moved 0) ∷ (Opened 1) ∷ (Inserted 1) ∷ Kept ∷ Done ∷ (Inserted 2) ∷ (Refused Identifier) ∷ Withdrawn ∷ Kept ∷ (Refused NoQuestion) ∷ (Inserted 3) ∷ Kept ∷ (Refused NoQuestion) ∷ (Inserted 4) ∷ (Inserted 5) ∷ Done ∷ (Refused NotSettled) ∷ Kept ∷ Kept ∷ (Refused NotSettled) ∷ (Refused NotSettled) ∷ Kept ∷ Sent ∷ (Refused NotSettled) ∷ Asked ∷ (Refused Replica) ∷ (Inserted 6) ∷ (Refused NotSettled) ∷ (Inserted 7) ∷ (Refused NotSettled) ∷ (Inserted 8) ∷ Sent ∷ (Refused Replica) ∷ Kept ∷ (Refused NotSettled) ∷ Kept ∷ (Inserted 9) ∷ Kept ∷ (Refused NotSettled) ∷ (Refused NotSettled) ∷ (Refused Identifier) ∷ (Opened 2) ∷ (Inserted 10) ∷ Kept ∷ (Inserted 11) ∷ Kept ∷ Kept ∷ (Inserted 12) ∷ (Inserted 13) ∷ (Refused NotSettled) ∷ Sent ∷ Kept ∷ Older ∷ Kept ∷ (Inserted 14) ∷ (Refused (PostFull 0)) ∷ [])
    ((peer 2 Giving) ∷ (peer 4 Giving) ∷ (peer 3 (Filling 4 2 3)) ∷ (peer 0 (Filling 2 4 0)) ∷ [])
    ((kept 0 2 0 12 901) ∷ (kept 0 3 5 6 629) ∷ (kept 2 1 1 6 629) ∷ (kept 2 2 2 2 218) ∷ (kept 2 3 2 10 235) ∷ (kept 3 2 3 8 672) ∷ (kept 4 2 3 1 954) ∷ (kept 4 1 4 9 892) ∷ (kept 4 3 4 2 218) ∷ [])
    ((RetrieveItems 4 3 2 3) ∷ (AddItem 2 1 0 2 218) ∷ (AddItem 2 2 0 3 476) ∷ (AddItem 2 3 2 3 476) ∷ (AddItem 4 1 4 5 906) ∷ (AddItem 2 3 2 5 906) ∷ (AddItem 0 2 0 4 0) ∷ (Replicate 0 2 4 0) ∷ (AddItem 4 1 4 7 47) ∷ (AddItem 2 3 2 7 47) ∷ (AddItem 2 1 1 8 672) ∷ (AddItem 0 3 5 8 672) ∷ (AddItem 0 3 5 1 954) ∷ (AddItem 0 2 0 9 892) ∷ (AddItem 2 3 2 9 892) ∷ (GetItem 2 1 1 2) ∷ (AddItem 4 1 4 10 235) ∷ (AddItem 0 2 0 10 235) ∷ (AddItem 2 1 1 11 146) ∷ (AddItem 3 2 3 11 146) ∷ (AddItem 0 3 5 11 146) ∷ (AddItem 4 1 4 12 901) ∷ (AddItem 2 3 2 12 901) ∷ (AddItem 2 1 1 13 214) ∷ (AddItem 3 2 3 13 214) ∷ (AddItem 0 3 5 13 214) ∷ (AddItem 0 2 0 5 906) ∷ (AddItem 2 1 1 14 810) ∷ (AddItem 3 2 3 14 810) ∷ (AddItem 0 3 5 14 810) ∷ [])

abbrev pub run_2 : Worked
run_2 =
    worked (settings 16 4 12 10)
    ((Join 6) ∷ (Insert 14 547) ∷ (Deliver 1) ∷ (Lookup 3 4) ∷ (Join 10) ∷ (Deliver 1) ∷ (Leave 3) ∷ (Insert 3 317) ∷ (Deliver 0) ∷ (Lookup 14 4) ∷ (Deliver 1) ∷ (Lookup 3 2) ∷ (Deliver 7) ∷ (Collect 1) ∷ (Lookup 3 2) ∷ (Deliver 6) ∷ (Collect 2) ∷ (Collect 4) ∷ (Deliver 4) ∷ (Collect 3) ∷ (Deliver 3) ∷ (Lookup 12 4) ∷ (Deliver 0) ∷ (Insert 14 132) ∷ (Deliver 3) ∷ [])
    (Done ∷ (Inserted 1) ∷ Kept ∷ (Opened 1) ∷ Done ∷ Kept ∷ (Refused NotMember) ∷ (Inserted 2) ∷ Kept ∷ (Opened 2) ∷ Answered ∷ (Opened 3) ∷ Answered ∷ Nothing ∷ (Opened 4) ∷ Answered ∷ NotYet ∷ Withdrawn ∷ Kept ∷ NotYet ∷ Kept ∷ (Opened 5) ∷ Sent ∷ (Inserted 3) ∷ Answered ∷ [])
    ((peer 6 Giving) ∷ (peer 10 (Filling 6 6 10)) ∷ [])
    ((kept 6 2 2 1 547) ∷ (kept 6 3 6 1 547) ∷ (kept 6 3 11 2 317) ∷ (kept 6 1 14 1 547) ∷ (kept 10 2 7 2 317) ∷ [])
    ((RetrieveItems 6 10 6 10) ∷ (AddItem 6 1 3 2 317) ∷ (AddItem 6 4 15 2 317) ∷ (AddItem 10 4 10 1 547) ∷ (AddItem 6 1 14 3 132) ∷ (AddItem 6 2 2 3 132) ∷ (AddItem 6 3 6 3 132) ∷ (AddItem 10 4 10 3 132) ∷ [])

abbrev pub run_3 : Worked
run_3 =
    worked (settings 1 1 40 30)
    ((Join 0) ∷ (Deliver 1) ∷ (Insert 0 546) ∷ (Deliver 0) ∷ (Insert 0 924) ∷ (Insert 0 223) ∷ (Deliver 0) ∷ (Insert 0 99) ∷ (Lookup 2 1) ∷ (Insert 0 98) ∷ (Insert 0 118) ∷ (Deliver 1) ∷ (Deliver 2) ∷ (Deliver 0) ∷ (Insert 0 289) ∷ (Collect 1) ∷ (Collect 2) ∷ (Lookup 0 1) ∷ (Join 0) ∷ (Lookup 0 1) ∷ (Deliver 0) ∷ (Deliver 2) ∷ (Deliver 1) ∷ (Insert 0 796) ∷ (Insert 0 918) ∷ (Insert 0 785) ∷ (Lookup 0 1) ∷ (Deliver 2) ∷ (Collect 3) ∷ (Insert 0 583) ∷ (Insert 0 509) ∷ (Deliver 5) ∷ (Insert 0 262) ∷ (Lookup 0 1) ∷ (Insert 0 563) ∷ (Deliver 1) ∷ (Deliver 5) ∷ (Deliver 1) ∷ (Deliver 3) ∷ (Lookup 0 1) ∷ [])
    (Done ∷ (Refused NoMessage) ∷ (Inserted 1) ∷ Kept ∷ (Inserted 2) ∷ (Inserted 3) ∷ Kept ∷ (Inserted 4) ∷ (Refused Identifier) ∷ (Inserted 5) ∷ (Inserted 6) ∷ Kept ∷ Kept ∷ Older ∷ (Inserted 7) ∷ (Refused NoQuestion) ∷ (Refused NoQuestion) ∷ (Opened 1) ∷ (Refused OnTable) ∷ (Opened 2) ∷ Older ∷ Answered ∷ Answered ∷ (Inserted 8) ∷ (Inserted 9) ∷ (Inserted 10) ∷ (Opened 3) ∷ Kept ∷ Withdrawn ∷ (Inserted 11) ∷ (Inserted 12) ∷ (Refused NoMessage) ∷ (Inserted 13) ∷ (Opened 4) ∷ (Inserted 14) ∷ Older ∷ Answered ∷ Kept ∷ Kept ∷ (Opened 5) ∷ [])
    ((peer 0 Settled) ∷ [])
    ((kept 0 1 0 13 262) ∷ [])
    ((AddItem 0 1 0 7 289) ∷ (AddItem 0 1 0 11 583) ∷ (AddItem 0 1 0 12 509) ∷ (AddItem 0 1 0 14 563) ∷ (GetItem 0 1 0 5) ∷ [])

abbrev pub run_4 : Worked
run_4 =
    worked (settings 6 3 40 30)
    ((Join 2) ∷ (Insert 5 75) ∷ (Deliver 0) ∷ (Join 1) ∷ (Deliver 0) ∷ (Insert 1 158) ∷ (Insert 1 426) ∷ (Lookup 1 2) ∷ (Deliver 10) ∷ (Insert 0 803) ∷ (Deliver 10) ∷ (Deliver 3) ∷ (Insert 1 937) ∷ (Insert 1 62) ∷ (Join 0) ∷ (Insert 0 934) ∷ (Deliver 21) ∷ (Lookup 0 1) ∷ (Deliver 19) ∷ (Deliver 8) ∷ (Lookup 0 3) ∷ (Insert 1 845) ∷ (Collect 2) ∷ (Collect 3) ∷ (Deliver 6) ∷ (Collect 1) ∷ (Insert 0 673) ∷ (Deliver 14) ∷ (Deliver 9) ∷ (Lookup 1 1) ∷ (Insert 0 372) ∷ (Deliver 11) ∷ (Deliver 5) ∷ (Insert 0 831) ∷ (Join 4) ∷ (Collect 4) ∷ (Deliver 3) ∷ (Collect 6) ∷ (Insert 1 432) ∷ (Insert 1 346) ∷ [])
    (Done ∷ (Inserted 1) ∷ Kept ∷ Done ∷ Sent ∷ (Inserted 2) ∷ (Inserted 3) ∷ (Opened 1) ∷ (Refused NoMessage) ∷ (Inserted 4) ∷ Kept ∷ Kept ∷ (Inserted 5) ∷ (Inserted 6) ∷ (Refused NotSettled) ∷ (Inserted 7) ∷ (Refused NoMessage) ∷ (Opened 2) ∷ Kept ∷ Answered ∷ (Opened 3) ∷ (Inserted 8) ∷ Withdrawn ∷ Withdrawn ∷ Kept ∷ NotYet ∷ (Inserted 9) ∷ Kept ∷ Kept ∷ (Opened 4) ∷ (Inserted 10) ∷ Kept ∷ Older ∷ (Inserted 11) ∷ (Refused NotSettled) ∷ Withdrawn ∷ Older ∷ (Refused NoQuestion) ∷ (Inserted 12) ∷ (Inserted 13) ∷ [])
    ((peer 2 Giving) ∷ (peer 1 (Filling 2 2 1)) ∷ [])
    ((kept 1 1 0 4 803) ∷ (kept 1 1 1 6 62) ∷ (kept 1 2 3 3 426) ∷ (kept 1 3 4 7 934) ∷ (kept 1 3 5 6 62) ∷ (kept 2 1 5 1 75) ∷ [])
    ((AddItem 2 3 3 1 75) ∷ (RetrieveItems 2 1 2 1) ∷ (AddItem 1 2 1 1 75) ∷ (AddItem 1 3 5 2 158) ∷ (AddItem 1 3 5 3 426) ∷ (AddItem 2 2 2 4 803) ∷ (AddItem 1 3 4 4 803) ∷ (AddItem 1 2 3 5 937) ∷ (AddItem 1 3 5 5 937) ∷ (AddItem 1 2 3 6 62) ∷ (AddItem 1 1 0 7 934) ∷ (AddItem 2 2 2 7 934) ∷ (AddItem 1 1 1 8 845) ∷ (AddItem 1 2 3 8 845) ∷ (AddItem 1 3 5 8 845) ∷ (AddItem 1 1 0 9 673) ∷ (AddItem 2 2 2 9 673) ∷ (AddItem 1 3 4 9 673) ∷ (AddItem 1 1 0 10 372) ∷ (AddItem 2 2 2 10 372) ∷ (AddItem 1 3 4 10 372) ∷ (AddItem 1 1 0 11 831) ∷ (AddItem 2 2 2 11 831) ∷ (AddItem 1 3 4 11 831) ∷ (AddItem 1 1 1 12 432) ∷ (AddItem 1 2 3 12 432) ∷ (AddItem 1 3 5 12 432) ∷ (AddItem 1 1 1 13 346) ∷ (AddItem 1 2 3 13 346) ∷ (AddItem 1 3 5 13 346) ∷ [])

abbrev pub run_5 : Worked
run_5 =
    worked (settings 16 4 40 30)
    ((Lookup 15 4) ∷ (Insert 4 853) ∷ (Join 0) ∷ (Insert 10 251) ∷ (Deliver 2) ∷ (Insert 4 280) ∷ (Collect 1) ∷ (Insert 10 934) ∷ (Join 4) ∷ (Insert 10 614) ∷ (Deliver 8) ∷ (Lookup 9 4) ∷ (Deliver 10) ∷ (Deliver 7) ∷ (Lookup 10 4) ∷ (Collect 1) ∷ (Deliver 14) ∷ (Lookup 15 2) ∷ (Lookup 10 2) ∷ (Deliver 1) ∷ (Insert 10 209) ∷ (Deliver 8) ∷ (Deliver 2) ∷ (Collect 2) ∷ (Lookup 2 4) ∷ (Insert 15 506) ∷ (Insert 4 323) ∷ (Insert 4 478) ∷ (Deliver 3) ∷ (Deliver 26) ∷ (Deliver 15) ∷ (Insert 4 790) ∷ (Join 4) ∷ (Insert 15 767) ∷ (Insert 4 568) ∷ (Deliver 3) ∷ (Insert 15 741) ∷ (Deliver 4) ∷ (Deliver 5) ∷ (Insert 4 606) ∷ [])
    ((Refused NoMember) ∷ (Refused NoMember) ∷ Done ∷ (Inserted 1) ∷ Kept ∷ (Inserted 2) ∷ (Refused NoQuestion) ∷ (Inserted 3) ∷ Done ∷ (Inserted 4) ∷ Kept ∷ (Opened 1) ∷ Asked ∷ Kept ∷ (Opened 2) ∷ Withdrawn ∷ Answered ∷ (Opened 3) ∷ (Opened 4) ∷ Older ∷ (Inserted 5) ∷ Kept ∷ Sent ∷ Nothing ∷ (Opened 5) ∷ (Inserted 6) ∷ (Inserted 7) ∷ (Refused (PostFull 3)) ∷ Kept ∷ (Refused NoMessage) ∷ Kept ∷ (Inserted 8) ∷ (Refused OnTable) ∷ (Refused (PostFull 1)) ∷ (Refused (PostFull 1)) ∷ Kept ∷ (Refused (PostFull 2)) ∷ Older ∷ Kept ∷ (Inserted 9) ∷ [])
    ((peer 0 Giving) ∷ (peer 4 (Filling 0 0 4)) ∷ [])
    ((kept 0 4 0 2 280) ∷ (kept 0 3 2 1 251) ∷ (kept 0 4 6 5 209) ∷ (kept 0 1 10 4 614) ∷ (kept 0 3 12 2 280) ∷ (kept 0 2 14 3 934) ∷ (kept 4 3 2 4 614) ∷ [])
    ((AddItem 0 1 10 1 251) ∷ (AddItem 0 4 6 1 251) ∷ (AddItem 0 2 8 2 280) ∷ (AddItem 0 3 2 3 934) ∷ (AddItem 0 2 14 4 614) ∷ (AddItem 0 4 6 4 614) ∷ (Replicate 4 0 0 4) ∷ (GetItem 4 2 3 3) ∷ (GetItem 0 2 14 4) ∷ (AddItem 0 1 10 5 209) ∷ (AddItem 0 2 14 5 209) ∷ (AddItem 4 3 2 5 209) ∷ (AddItem 4 1 4 2 280) ∷ (GetItem 0 4 14 5) ∷ (AddItem 0 1 15 6 506) ∷ (AddItem 4 2 3 6 506) ∷ (AddItem 0 3 7 6 506) ∷ (AddItem 0 4 11 6 506) ∷ (AddItem 4 1 4 7 323) ∷ (AddItem 0 2 8 7 323) ∷ (AddItem 0 3 12 7 323) ∷ (AddItem 0 4 0 7 323) ∷ (AddItem 4 1 4 8 790) ∷ (AddItem 0 2 8 8 790) ∷ (AddItem 0 3 12 8 790) ∷ (AddItem 0 4 0 8 790) ∷ (AddItem 4 1 4 9 606) ∷ (AddItem 0 2 8 9 606) ∷ (AddItem 0 3 12 9 606) ∷ (AddItem 0 4 0 9 606) ∷ [])

abbrev pub run_6 : Worked
run_6 =
    worked (settings 12 3 0 3)
    ((Join 2) ∷ (Insert 1 494) ∷ (Lookup 2 3) ∷ (Deliver 0) ∷ (Insert 1 666) ∷ (Lookup 2 2) ∷ (Deliver 0) ∷ (Insert 2 587) ∷ (Deliver 0) ∷ (Insert 2 139) ∷ (Insert 6 341) ∷ (Lookup 5 1) ∷ (Deliver 0) ∷ (Insert 13 342) ∷ (Insert 1 701) ∷ (Collect 1) ∷ (Insert 2 465) ∷ (Join 11) ∷ (Deliver 0) ∷ (Insert 2 146) ∷ (Deliver 0) ∷ (Insert 1 54) ∷ (Insert 2 412) ∷ (Collect 3) ∷ (Insert 13 927) ∷ [])
    (Done ∷ (Refused (ShelfFull 0)) ∷ (Opened 1) ∷ Answered ∷ (Refused (ShelfFull 0)) ∷ (Opened 2) ∷ Answered ∷ (Refused (ShelfFull 0)) ∷ (Refused NoMessage) ∷ (Refused (ShelfFull 0)) ∷ (Refused (ShelfFull 0)) ∷ (Opened 3) ∷ Answered ∷ (Refused Identifier) ∷ (Refused (ShelfFull 0)) ∷ Nothing ∷ (Refused (ShelfFull 0)) ∷ Done ∷ Asked ∷ (Refused (ShelfFull 0)) ∷ (Moved 0) ∷ (Refused (ShelfFull 0)) ∷ (Refused (ShelfFull 0)) ∷ Nothing ∷ (Refused Identifier) ∷ [])
    ((peer 2 Settled) ∷ (peer 11 Settled) ∷ [])
    ([])
    ([])

abbrev pub run_7 : Worked
run_7 =
    worked (settings 12 3 40 30)
    ((Join 4) ∷ (Deliver 1) ∷ (Insert 1 250) ∷ (Join 7) ∷ (Deliver 3) ∷ (Deliver 5) ∷ (Deliver 3) ∷ (Lookup 1 1) ∷ (Leave 4) ∷ (Deliver 3) ∷ (Deliver 1) ∷ (Join 9) ∷ [])
    (Done ∷ (Refused NoMessage) ∷ (Inserted 1) ∷ Done ∷ Asked ∷ (Refused NoMessage) ∷ (Moved 0) ∷ (Opened 1) ∷ Done ∷ Sent ∷ Sent ∷ (Refused NotSettled) ∷ [])
    ((peer 4 Leaving) ∷ (peer 7 (Filling 4 7 4)) ∷ [])
    ([])
    ((AddItem 4 1 1 1 250) ∷ (AddItem 4 3 9 1 250) ∷ (Replicate 7 4 7 4) ∷ (GetItem 7 1 1 1) ∷ (AddItem 7 2 5 1 250) ∷ [])

abbrev pub run_8 : Worked
run_8 =
    worked (settings 2 2 40 6)
    ((Join 0) ∷ (Insert 0 665) ∷ (Insert 0 984) ∷ (Collect 1) ∷ (Lookup 3 1) ∷ (Insert 1 707) ∷ (Insert 0 513) ∷ (Deliver 4) ∷ (Collect 2) ∷ (Collect 2) ∷ (Insert 0 78) ∷ (Lookup 1 1) ∷ (Deliver 4) ∷ (Insert 0 251) ∷ (Insert 0 190) ∷ (Deliver 4) ∷ (Lookup 3 1) ∷ (Deliver 3) ∷ (Deliver 2) ∷ (Deliver 0) ∷ (Insert 1 451) ∷ (Deliver 0) ∷ (Insert 1 617) ∷ (Lookup 1 0) ∷ (Deliver 0) ∷ [])
    (Done ∷ (Inserted 1) ∷ (Inserted 2) ∷ (Refused NoQuestion) ∷ (Refused Identifier) ∷ (Inserted 3) ∷ (Refused (PostFull 0)) ∷ Kept ∷ (Refused NoQuestion) ∷ (Refused NoQuestion) ∷ (Refused (PostFull 1)) ∷ (Opened 1) ∷ Kept ∷ (Refused (PostFull 1)) ∷ (Refused (PostFull 1)) ∷ Answered ∷ (Refused Identifier) ∷ Kept ∷ Kept ∷ Older ∷ (Inserted 4) ∷ Older ∷ (Inserted 5) ∷ (Refused Replica) ∷ Kept ∷ [])
    ((peer 0 Settled) ∷ [])
    ((kept 0 1 0 2 984) ∷ (kept 0 2 0 3 707) ∷ (kept 0 1 1 4 451) ∷ (kept 0 2 1 2 984) ∷ [])
    ((AddItem 0 2 0 4 451) ∷ (AddItem 0 1 1 5 617) ∷ (AddItem 0 2 0 5 617) ∷ [])

abbrev pub run_9 : Worked
run_9 =
    worked (settings 8 4 40 30)
    ((Join 2) ∷ (Join 7) ∷ (Insert 0 665) ∷ (Deliver 3) ∷ (Deliver 3) ∷ (Lookup 1 0) ∷ (Insert 1 137) ∷ (Insert 1 40) ∷ (Join 4) ∷ (Deliver 11) ∷ (Insert 0 428) ∷ (Lookup 5 2) ∷ (Join 5) ∷ (Deliver 5) ∷ (Lookup 0 1) ∷ (Insert 0 812) ∷ (Deliver 19) ∷ (Lookup 1 2) ∷ (Deliver 1) ∷ (Deliver 16) ∷ (Insert 1 580) ∷ (Collect 1) ∷ (Insert 5 140) ∷ (Deliver 10) ∷ (Deliver 16) ∷ (Deliver 1) ∷ (Insert 0 32) ∷ (Insert 1 557) ∷ (Deliver 23) ∷ (Lookup 0 4) ∷ (Lookup 1 3) ∷ (Lookup 0 1) ∷ (Deliver 23) ∷ (Insert 0 571) ∷ (Deliver 20) ∷ (Insert 0 401) ∷ (Lookup 1 3) ∷ (Insert 3 486) ∷ (Deliver 2) ∷ (Deliver 8) ∷ (Deliver 12) ∷ (Insert 6 278) ∷ (Leave 7) ∷ (Collect 4) ∷ (Deliver 20) ∷ (Lookup 1 2) ∷ (Deliver 19) ∷ (Lookup 1 4) ∷ (Collect 5) ∷ (Insert 0 153) ∷ (Deliver 7) ∷ (Deliver 17) ∷ (Lookup 1 3) ∷ (Insert 0 320) ∷ (Deliver 6) ∷ (Deliver 25) ∷ (Deliver 21) ∷ (Deliver 22) ∷ (Insert 0 898) ∷ (Leave 7) ∷ [])
    (Done ∷ Done ∷ (Inserted 1) ∷ Kept ∷ Kept ∷ (Refused Replica) ∷ (Inserted 2) ∷ (Inserted 3) ∷ (Refused NotSettled) ∷ (Refused NoMessage) ∷ (Inserted 4) ∷ (Opened 1) ∷ (Refused NotSettled) ∷ Kept ∷ (Opened 2) ∷ (Inserted 5) ∷ Kept ∷ (Opened 3) ∷ Kept ∷ Kept ∷ (Inserted 6) ∷ Withdrawn ∷ (Inserted 7) ∷ Older ∷ Kept ∷ Older ∷ (Inserted 8) ∷ (Inserted 9) ∷ Kept ∷ (Opened 4) ∷ (Refused (PostFull 0)) ∷ (Refused (PostFull 0)) ∷ Kept ∷ (Refused (PostFull 1)) ∷ Kept ∷ (Refused (PostFull 2)) ∷ (Opened 5) ∷ (Refused (PostFull 1)) ∷ Kept ∷ Older ∷ Answered ∷ (Inserted 10) ∷ (Refused NotSettled) ∷ Withdrawn ∷ Kept ∷ (Opened 6) ∷ Kept ∷ (Opened 7) ∷ Withdrawn ∷ (Refused (PostFull 2)) ∷ Kept ∷ Kept ∷ (Opened 8) ∷ (Refused (PostFull 3)) ∷ Kept ∷ Answered ∷ Kept ∷ Answered ∷ (Inserted 11) ∷ (Refused NotSettled) ∷ [])
    ((peer 2 Giving) ∷ (peer 7 (Filling 2 2 7)) ∷ [])
    ((kept 2 1 0 8 32) ∷ (kept 2 1 1 9 557) ∷ (kept 2 3 1 7 140) ∷ (kept 2 2 2 8 32) ∷ (kept 2 3 2 10 278) ∷ (kept 7 2 3 2 137) ∷ (kept 7 3 4 8 32) ∷ (kept 7 3 5 2 137) ∷ (kept 7 4 6 8 32) ∷ (kept 7 4 7 3 40) ∷ [])
    ((RetrieveItems 2 7 2 7) ∷ (AddItem 2 1 1 2 137) ∷ (AddItem 7 4 7 2 137) ∷ (AddItem 2 1 1 3 40) ∷ (AddItem 7 2 3 3 40) ∷ (AddItem 7 3 5 3 40) ∷ (AddItem 7 4 6 4 428) ∷ (GetItem 2 1 0 2) ∷ (AddItem 2 1 0 5 812) ∷ (AddItem 7 3 4 5 812) ∷ (AddItem 7 2 3 6 580) ∷ (AddItem 7 3 5 6 580) ∷ (AddItem 7 4 7 6 580) ∷ (AddItem 7 1 5 7 140) ∷ (AddItem 7 2 7 7 140) ∷ (AddItem 7 4 3 7 140) ∷ (AddItem 7 2 3 9 557) ∷ (AddItem 7 3 5 9 557) ∷ (AddItem 7 4 7 9 557) ∷ (AddItem 7 1 6 10 278) ∷ (AddItem 2 2 0 10 278) ∷ (AddItem 7 4 4 10 278) ∷ (GetItem 7 4 7 7) ∷ (AddItem 2 1 0 11 898) ∷ (AddItem 2 2 2 11 898) ∷ (AddItem 7 3 4 11 898) ∷ (AddItem 7 4 6 11 898) ∷ [])

abbrev pub run_10 : Worked
run_10 =
    worked (settings 2 1 40 30)
    ((Join 1) ∷ (Lookup 0 1) ∷ (Deliver 1) ∷ (Deliver 0) ∷ (Insert 0 483) ∷ (Deliver 0) ∷ (Lookup 1 1) ∷ (Join 0) ∷ (Insert 0 414) ∷ (Lookup 1 1) ∷ (Lookup 1 1) ∷ (Deliver 6) ∷ (Deliver 1) ∷ (Lookup 1 2) ∷ (Deliver 0) ∷ (Insert 1 640) ∷ (Lookup 0 1) ∷ (Deliver 2) ∷ (Deliver 1) ∷ (Collect 5) ∷ (Lookup 1 1) ∷ (Insert 1 824) ∷ (Lookup 1 1) ∷ (Collect 3) ∷ (Join 2) ∷ (Deliver 6) ∷ (Deliver 5) ∷ (Deliver 0) ∷ (Collect 7) ∷ (Join 1) ∷ (Lookup 1 1) ∷ (Deliver 2) ∷ (Deliver 1) ∷ (Join 2) ∷ (Insert 0 146) ∷ (Lookup 0 1) ∷ (Lookup 1 1) ∷ (Join 2) ∷ (Leave 1) ∷ (Deliver 0) ∷ (Deliver 2) ∷ (Deliver 3) ∷ (Collect 6) ∷ (Deliver 3) ∷ (Leave 0) ∷ (Lookup 0 1) ∷ (Deliver 2) ∷ (Deliver 3) ∷ (Lookup 1 1) ∷ (Collect 12) ∷ (Join 0) ∷ (Deliver 0) ∷ (Deliver 2) ∷ (Join 1) ∷ (Collect 11) ∷ (Deliver 0) ∷ (Deliver 0) ∷ (Insert 1 978) ∷ (Deliver 0) ∷ (Join 0) ∷ [])
    (Done ∷ (Opened 1) ∷ (Refused NoMessage) ∷ Answered ∷ (Inserted 1) ∷ Kept ∷ (Opened 2) ∷ Done ∷ (Inserted 2) ∷ (Opened 3) ∷ (Opened 4) ∷ (Refused NoMessage) ∷ Asked ∷ (Refused Replica) ∷ Answered ∷ (Inserted 3) ∷ (Opened 5) ∷ Answered ∷ Answered ∷ Withdrawn ∷ (Opened 6) ∷ (Inserted 4) ∷ (Opened 7) ∷ Nothing ∷ (Refused Identifier) ∷ (Refused NoMessage) ∷ Answered ∷ Kept ∷ Nothing ∷ (Refused OnTable) ∷ (Opened 8) ∷ Answered ∷ Kept ∷ (Refused Identifier) ∷ (Inserted 5) ∷ (Opened 9) ∷ (Opened 10) ∷ (Refused Identifier) ∷ (Refused NotSettled) ∷ (Moved 1) ∷ Kept ∷ Answered ∷ Nothing ∷ (Refused NoMessage) ∷ Done ∷ (Opened 11) ∷ Sent ∷ Answered ∷ (Opened 12) ∷ Withdrawn ∷ (Refused OnTable) ∷ Kept ∷ Answered ∷ (Refused OnTable) ∷ NotYet ∷ Answered ∷ (Moved 1) ∷ (Inserted 6) ∷ Kept ∷ Done ∷ [])
    ((peer 1 Giving) ∷ (peer 0 (Filling 1 1 0)) ∷ [])
    ((kept 1 1 0 5 146) ∷ (kept 1 1 1 6 978) ∷ [])
    ((RetrieveItems 1 0 1 0) ∷ [])

abbrev pub run_11 : Worked
run_11 =
    worked (settings 2 1 40 4)
    ((Join 0) ∷ (Insert 0 594) ∷ (Lookup 1 1) ∷ (Deliver 0) ∷ (Deliver 0) ∷ (Join 1) ∷ (Insert 1 964) ∷ (Join 0) ∷ (Deliver 1) ∷ (Collect 1) ∷ (Lookup 0 1) ∷ (Insert 0 451) ∷ (Deliver 2) ∷ (Deliver 1) ∷ (Lookup 1 1) ∷ (Deliver 1) ∷ (Join 2) ∷ (Deliver 0) ∷ (Lookup 1 1) ∷ (Deliver 3) ∷ (Lookup 0 1) ∷ (Join 2) ∷ (Collect 4) ∷ (Deliver 0) ∷ (Join 2) ∷ (Deliver 0) ∷ (Join 0) ∷ (Insert 0 997) ∷ (Leave 2) ∷ (Leave 1) ∷ (Insert 1 604) ∷ (Lookup 1 1) ∷ (Deliver 1) ∷ (Join 1) ∷ (Lookup 1 1) ∷ (Deliver 0) ∷ (Lookup 0 1) ∷ (Lookup 1 1) ∷ (Deliver 1) ∷ (Deliver 2) ∷ [])
    (Done ∷ (Inserted 1) ∷ (Opened 1) ∷ Kept ∷ Answered ∷ Done ∷ (Inserted 2) ∷ (Refused OnTable) ∷ Kept ∷ Nothing ∷ (Opened 2) ∷ (Inserted 3) ∷ Kept ∷ Answered ∷ (Opened 3) ∷ Answered ∷ (Refused Identifier) ∷ Asked ∷ (Opened 4) ∷ (Refused NoMessage) ∷ (Opened 5) ∷ (Refused Identifier) ∷ Withdrawn ∷ (Moved 0) ∷ (Refused Identifier) ∷ Answered ∷ (Refused OnTable) ∷ (Inserted 4) ∷ (Refused Identifier) ∷ Done ∷ (Inserted 5) ∷ (Opened 6) ∷ (Moved 1) ∷ Done ∷ (Refused (PostFull 0)) ∷ Kept ∷ (Opened 7) ∷ (Refused (PostFull 0)) ∷ Sent ∷ Answered ∷ [])
    ((peer 0 Giving) ∷ (peer 1 (Filling 0 0 1)) ∷ [])
    ((kept 0 1 0 4 997) ∷ (kept 0 1 1 2 964) ∷ [])
    ((AddItem 0 1 1 5 604) ∷ (RetrieveItems 0 1 0 1) ∷ (GetItem 1 1 1 6) ∷ [])

abbrev pub run_12 : Worked
run_12 =
    worked (settings 4 2 40 30)
    ((Join 0) ∷ (Insert 3 409) ∷ (Deliver 1) ∷ (Lookup 4 2) ∷ (Deliver 1) ∷ (Deliver 0) ∷ (Insert 0 322) ∷ (Insert 3 54) ∷ (Deliver 3) ∷ (Deliver 2) ∷ (Insert 0 851) ∷ (Insert 0 839) ∷ (Insert 3 58) ∷ (Collect 1) ∷ (Deliver 3) ∷ (Deliver 2) ∷ (Deliver 0) ∷ (Lookup 3 2) ∷ (Deliver 0) ∷ (Collect 1) ∷ (Lookup 3 1) ∷ (Insert 0 859) ∷ (Collect 2) ∷ (Collect 4) ∷ (Lookup 3 2) ∷ [])
    (Done ∷ (Inserted 1) ∷ Kept ∷ (Refused Identifier) ∷ (Refused NoMessage) ∷ Kept ∷ (Inserted 2) ∷ (Inserted 3) ∷ Kept ∷ Kept ∷ (Inserted 4) ∷ (Inserted 5) ∷ (Inserted 6) ∷ (Refused NoQuestion) ∷ Kept ∷ Kept ∷ Older ∷ (Opened 1) ∷ Older ∷ Withdrawn ∷ (Opened 2) ∷ (Inserted 7) ∷ Withdrawn ∷ (Refused NoQuestion) ∷ (Opened 3) ∷ [])
    ((peer 0 Settled) ∷ [])
    ((kept 0 1 0 4 851) ∷ (kept 0 2 1 3 54) ∷ (kept 0 2 2 4 851) ∷ (kept 0 1 3 3 54) ∷ [])
    ((AddItem 0 1 0 5 839) ∷ (AddItem 0 2 2 5 839) ∷ (AddItem 0 1 3 6 58) ∷ (AddItem 0 2 1 6 58) ∷ (AddItem 0 1 0 7 859) ∷ (AddItem 0 2 2 7 859) ∷ (GetItem 0 2 1 3) ∷ [])

abbrev pub run_13 : Worked
run_13 =
    worked (settings 2 1 40 2)
    ((Join 1) ∷ (Insert 1 720) ∷ (Collect 2) ∷ (Join 0) ∷ (Deliver 1) ∷ (Deliver 3) ∷ (Lookup 0 1) ∷ (Deliver 1) ∷ (Deliver 0) ∷ (Collect 1) ∷ (Leave 0) ∷ (Leave 0) ∷ (Join 2) ∷ (Deliver 0) ∷ (Join 0) ∷ (Leave 1) ∷ (Insert 0 155) ∷ (Deliver 0) ∷ (Deliver 1) ∷ (Insert 1 667) ∷ (Deliver 1) ∷ (Deliver 0) ∷ (Insert 0 963) ∷ (Collect 1) ∷ (Join 0) ∷ (Collect 1) ∷ (Collect 1) ∷ (Lookup 0 0) ∷ (Lookup 0 1) ∷ (Deliver 1) ∷ (Leave 1) ∷ (Join 1) ∷ (Collect 1) ∷ (Deliver 1) ∷ (Collect 1) ∷ (Collect 2) ∷ (Deliver 0) ∷ (Insert 0 785) ∷ (Deliver 0) ∷ (Collect 2) ∷ [])
    (Done ∷ (Inserted 1) ∷ (Refused NoQuestion) ∷ Done ∷ Asked ∷ (Refused NoMessage) ∷ (Refused (PostFull 0)) ∷ (Moved 0) ∷ Kept ∷ (Refused NoQuestion) ∷ Done ∷ (Refused NotMember) ∷ (Refused Identifier) ∷ (Moved 0) ∷ Done ∷ (Refused NotSettled) ∷ (Inserted 2) ∷ Asked ∷ (Moved 0) ∷ (Inserted 3) ∷ Kept ∷ Kept ∷ (Inserted 4) ∷ (Refused NoQuestion) ∷ (Refused OnTable) ∷ (Refused NoQuestion) ∷ (Refused NoQuestion) ∷ (Refused Replica) ∷ (Opened 1) ∷ Answered ∷ Done ∷ (Refused OnTable) ∷ (Found 2 155) ∷ (Moved 1) ∷ (Refused NoQuestion) ∷ (Refused NoQuestion) ∷ Kept ∷ (Inserted 5) ∷ Kept ∷ (Refused NoQuestion) ∷ [])
    ((peer 0 Settled) ∷ [])
    ((kept 0 1 0 5 785) ∷ (kept 0 1 1 3 667) ∷ [])
    ([])

abbrev pub run_14 : Worked
run_14 =
    worked (settings 4 4 8 30)
    ((Join 1) ∷ (Collect 1) ∷ (Insert 1 802) ∷ (Collect 2) ∷ (Deliver 1) ∷ (Lookup 0 2) ∷ (Deliver 1) ∷ (Lookup 0 5) ∷ (Deliver 4) ∷ (Collect 1) ∷ (Collect 3) ∷ (Deliver 2) ∷ (Join 0) ∷ (Leave 2) ∷ (Lookup 1 3) ∷ (Collect 2) ∷ (Deliver 1) ∷ (Deliver 0) ∷ (Collect 1) ∷ (Leave 0) ∷ (Deliver 0) ∷ (Join 2) ∷ (Collect 3) ∷ (Deliver 1) ∷ (Deliver 1) ∷ (Lookup 0 2) ∷ (Join 0) ∷ (Insert 2 626) ∷ (Deliver 1) ∷ (Lookup 2 3) ∷ (Deliver 2) ∷ (Leave 0) ∷ (Insert 3 238) ∷ (Deliver 4) ∷ (Deliver 2) ∷ (Insert 1 718) ∷ (Collect 3) ∷ (Lookup 2 4) ∷ (Deliver 4) ∷ (Deliver 3) ∷ (Deliver 6) ∷ (Deliver 1) ∷ (Deliver 4) ∷ (Join 2) ∷ (Insert 0 515) ∷ (Deliver 3) ∷ (Deliver 2) ∷ (Deliver 1) ∷ (Lookup 1 5) ∷ (Deliver 0) ∷ (Collect 7) ∷ (Lookup 0 3) ∷ (Collect 6) ∷ (Join 0) ∷ (Deliver 0) ∷ (Lookup 1 4) ∷ (Deliver 0) ∷ (Deliver 0) ∷ (Join 0) ∷ (Collect 5) ∷ [])
    (Done ∷ (Refused NoQuestion) ∷ (Inserted 1) ∷ (Refused NoQuestion) ∷ Kept ∷ (Opened 1) ∷ Kept ∷ (Refused Replica) ∷ (Refused NoMessage) ∷ Withdrawn ∷ (Refused NoQuestion) ∷ (Refused NoMessage) ∷ Done ∷ (Refused NotMember) ∷ (Opened 2) ∷ Withdrawn ∷ Sent ∷ Kept ∷ (Refused NoQuestion) ∷ (Refused NotSettled) ∷ Asked ∷ (Refused NotSettled) ∷ (Refused NoQuestion) ∷ (Moved 2) ∷ (Refused NoMessage) ∷ (Opened 3) ∷ (Refused OnTable) ∷ (Inserted 2) ∷ Answered ∷ (Opened 4) ∷ Kept ∷ Done ∷ (Refused (ShelfFull 0)) ∷ Sent ∷ Sent ∷ (Refused (ShelfFull 0)) ∷ Nothing ∷ (Opened 5) ∷ Answered ∷ (Moved 3) ∷ (Refused NoMessage) ∷ Sent ∷ Kept ∷ Done ∷ (Refused (ShelfFull 0)) ∷ Answered ∷ Kept ∷ Kept ∷ (Refused Replica) ∷ Sent ∷ (Refused NoQuestion) ∷ (Opened 6) ∷ Withdrawn ∷ (Refused NotSettled) ∷ Asked ∷ (Opened 7) ∷ Kept ∷ (Moved 2) ∷ Done ∷ Nothing ∷ [])
    ((peer 1 Giving) ∷ (peer 2 Settled) ∷ (peer 0 (Filling 1 2 0)) ∷ [])
    ((kept 1 3 0 2 626) ∷ (kept 1 4 0 1 802) ∷ (kept 1 1 1 1 802) ∷ (kept 1 4 1 2 626) ∷ (kept 1 2 3 2 626) ∷ (kept 1 3 3 1 802) ∷ (kept 2 1 2 2 626) ∷ (kept 2 2 2 1 802) ∷ [])
    ((GetItem 1 4 0 7) ∷ (RetrieveItems 1 0 2 0) ∷ [])

abbrev pub run_15 : Worked
run_15 =
    worked (settings 16 4 0 30)
    ((Join 7) ∷ (Insert 11 247) ∷ (Lookup 15 3) ∷ (Insert 2 544) ∷ (Lookup 6 1) ∷ (Insert 2 425) ∷ (Deliver 1) ∷ (Deliver 0) ∷ (Insert 4 188) ∷ (Insert 2 957) ∷ (Insert 2 42) ∷ (Insert 6 974) ∷ [])
    (Done ∷ (Refused (ShelfFull 0)) ∷ (Opened 1) ∷ (Refused (ShelfFull 0)) ∷ (Opened 2) ∷ (Refused (ShelfFull 0)) ∷ Answered ∷ Answered ∷ (Refused (ShelfFull 0)) ∷ (Refused (ShelfFull 0)) ∷ (Refused (ShelfFull 0)) ∷ (Refused (ShelfFull 0)) ∷ [])
    ((peer 7 Settled) ∷ [])
    ([])
    ([])

abbrev pub run_16 : Worked
run_16 =
    worked (settings 6 3 6 30)
    ((Join 5) ∷ (Insert 0 697) ∷ (Deliver 0) ∷ (Insert 0 17) ∷ (Insert 2 479) ∷ (Deliver 3) ∷ (Collect 1) ∷ (Insert 2 521) ∷ (Lookup 0 1) ∷ (Deliver 1) ∷ (Insert 2 23) ∷ (Insert 0 466) ∷ [])
    (Done ∷ (Inserted 1) ∷ Kept ∷ (Inserted 2) ∷ (Refused (ShelfFull 0)) ∷ Kept ∷ (Refused NoQuestion) ∷ (Refused (ShelfFull 0)) ∷ (Opened 1) ∷ Kept ∷ (Refused (ShelfFull 0)) ∷ (Refused (ShelfFull 0)) ∷ [])
    ((peer 5 Settled) ∷ [])
    ((kept 5 1 0 1 697) ∷ (kept 5 2 2 2 17) ∷ (kept 5 3 4 1 697) ∷ [])
    ((AddItem 5 2 2 1 697) ∷ (AddItem 5 1 0 2 17) ∷ (AddItem 5 3 4 2 17) ∷ (GetItem 5 1 0 1) ∷ [])

abbrev pub run_17 : Worked
run_17 =
    worked (settings 12 3 40 30)
    ((Join 9) ∷ (Insert 6 305) ∷ (Insert 6 600) ∷ (Collect 2) ∷ (Join 10) ∷ (Lookup 8 0) ∷ (Deliver 6) ∷ (Insert 10 604) ∷ (Collect 2) ∷ (Deliver 6) ∷ (Deliver 5) ∷ (Deliver 5) ∷ (Deliver 6) ∷ (Deliver 3) ∷ (Deliver 4) ∷ (Deliver 5) ∷ (Deliver 1) ∷ (Deliver 1) ∷ (Lookup 10 2) ∷ (Deliver 1) ∷ (Insert 10 652) ∷ (Deliver 0) ∷ (Deliver 1) ∷ (Deliver 1) ∷ (Deliver 2) ∷ (Deliver 2) ∷ (Deliver 1) ∷ (Insert 6 693) ∷ (Deliver 1) ∷ (Deliver 0) ∷ (Insert 10 870) ∷ (Deliver 4) ∷ (Join 7) ∷ (Deliver 3) ∷ (Join 0) ∷ (Deliver 2) ∷ (Insert 10 368) ∷ (Join 0) ∷ (Lookup 10 1) ∷ (Leave 10) ∷ (Deliver 7) ∷ (Deliver 2) ∷ (Deliver 6) ∷ (Deliver 2) ∷ (Lookup 10 2) ∷ (Deliver 5) ∷ (Lookup 1 3) ∷ (Insert 6 939) ∷ (Deliver 5) ∷ (Deliver 4) ∷ (Deliver 0) ∷ (Join 1) ∷ (Deliver 4) ∷ (Deliver 5) ∷ (Deliver 5) ∷ (Deliver 4) ∷ (Join 9) ∷ (Leave 9) ∷ (Collect 2) ∷ (Deliver 1) ∷ [])
    (Done ∷ (Inserted 1) ∷ (Inserted 2) ∷ (Refused NoQuestion) ∷ Done ∷ (Refused Replica) ∷ Asked ∷ (Inserted 3) ∷ (Refused NoQuestion) ∷ (Moved 0) ∷ Kept ∷ Kept ∷ Kept ∷ Kept ∷ Kept ∷ (Refused NoMessage) ∷ Sent ∷ Older ∷ (Opened 1) ∷ Sent ∷ (Inserted 4) ∷ Older ∷ Answered ∷ Kept ∷ Kept ∷ Kept ∷ Kept ∷ (Inserted 5) ∷ Kept ∷ Older ∷ (Inserted 6) ∷ Kept ∷ Done ∷ Sent ∷ (Refused NotSettled) ∷ Kept ∷ (Inserted 7) ∷ (Refused NotSettled) ∷ (Opened 2) ∷ (Refused NotSettled) ∷ Answered ∷ Asked ∷ (Moved 4) ∷ Kept ∷ (Opened 3) ∷ Answered ∷ (Opened 4) ∷ (Inserted 8) ∷ Answered ∷ Kept ∷ Kept ∷ Done ∷ Kept ∷ Asked ∷ (Moved 0) ∷ Kept ∷ (Refused OnTable) ∷ Done ∷ (Found 6 870) ∷ Kept ∷ [])
    ((peer 9 Leaving) ∷ (peer 10 (Filling 9 7 9)) ∷ (peer 7 Settled) ∷ (peer 1 Settled) ∷ [])
    ((kept 7 2 2 6 870) ∷ (kept 7 3 2 8 939) ∷ (kept 7 1 6 5 693) ∷ (kept 7 3 6 7 368) ∷ (kept 10 1 10 7 368) ∷ (kept 10 2 10 8 939) ∷ [])
    ((AddItem 9 3 2 5 693) ∷ (AddItem 7 2 2 7 368) ∷ (AddItem 7 1 6 8 939) ∷ (Replicate 10 9 7 9) ∷ [])

abbrev pub run_18 : Worked
run_18 =
    worked (settings 16 4 8 0)
    ((Join 9) ∷ (Lookup 8 2) ∷ (Insert 5 285) ∷ (Insert 10 67) ∷ (Insert 8 296) ∷ (Collect 2) ∷ (Collect 1) ∷ (Insert 8 49) ∷ (Join 2) ∷ (Collect 1) ∷ (Insert 5 784) ∷ (Insert 8 742) ∷ (Join 6) ∷ (Deliver 0) ∷ (Insert 10 151) ∷ (Insert 10 247) ∷ (Insert 10 142) ∷ (Insert 1 606) ∷ (Join 1) ∷ (Insert 5 810) ∷ (Lookup 5 1) ∷ (Lookup 10 0) ∷ (Insert 10 432) ∷ (Insert 5 292) ∷ (Collect 2) ∷ [])
    (Done ∷ (Refused (PostFull 0)) ∷ (Refused (PostFull 0)) ∷ (Refused (PostFull 0)) ∷ (Refused (PostFull 0)) ∷ (Refused NoQuestion) ∷ (Refused NoQuestion) ∷ (Refused (PostFull 0)) ∷ (Refused (PostFull 0)) ∷ (Refused NoQuestion) ∷ (Refused (PostFull 0)) ∷ (Refused (PostFull 0)) ∷ (Refused (PostFull 0)) ∷ (Refused NoMessage) ∷ (Refused (PostFull 0)) ∷ (Refused (PostFull 0)) ∷ (Refused (PostFull 0)) ∷ (Refused (PostFull 0)) ∷ (Refused (PostFull 0)) ∷ (Refused (PostFull 0)) ∷ (Refused (PostFull 0)) ∷ (Refused Replica) ∷ (Refused (PostFull 0)) ∷ (Refused (PostFull 0)) ∷ (Refused NoQuestion) ∷ [])
    ((peer 9 Settled) ∷ [])
    ([])
    ([])

abbrev pub run_19 : Worked
run_19 =
    worked (settings 12 3 0 0)
    ((Insert 2 643) ∷ (Lookup 4 1) ∷ (Insert 3 919) ∷ (Collect 2) ∷ (Insert 3 92) ∷ (Insert 3 592) ∷ (Join 10) ∷ (Deliver 0) ∷ (Insert 3 347) ∷ (Insert 3 336) ∷ (Insert 4 66) ∷ (Lookup 12 3) ∷ (Lookup 3 2) ∷ (Insert 4 551) ∷ (Insert 4 128) ∷ (Insert 4 864) ∷ (Insert 3 689) ∷ (Deliver 0) ∷ (Insert 4 700) ∷ (Insert 4 963) ∷ (Insert 4 487) ∷ (Insert 4 873) ∷ (Join 5) ∷ (Collect 2) ∷ (Collect 1) ∷ (Insert 4 454) ∷ (Insert 4 451) ∷ (Lookup 3 1) ∷ (Insert 3 374) ∷ (Deliver 0) ∷ (Lookup 4 3) ∷ (Lookup 4 1) ∷ (Collect 1) ∷ (Collect 1) ∷ (Insert 4 455) ∷ (Insert 4 745) ∷ (Join 2) ∷ (Insert 3 751) ∷ (Join 0) ∷ (Insert 3 147) ∷ [])
    ((Refused NoMember) ∷ (Refused NoMember) ∷ (Refused NoMember) ∷ (Refused NoQuestion) ∷ (Refused NoMember) ∷ (Refused NoMember) ∷ Done ∷ (Refused NoMessage) ∷ (Refused (ShelfFull 0)) ∷ (Refused (ShelfFull 0)) ∷ (Refused (ShelfFull 0)) ∷ (Refused Identifier) ∷ (Refused (PostFull 0)) ∷ (Refused (ShelfFull 0)) ∷ (Refused (ShelfFull 0)) ∷ (Refused (ShelfFull 0)) ∷ (Refused (ShelfFull 0)) ∷ (Refused NoMessage) ∷ (Refused (ShelfFull 0)) ∷ (Refused (ShelfFull 0)) ∷ (Refused (ShelfFull 0)) ∷ (Refused (ShelfFull 0)) ∷ (Refused (PostFull 0)) ∷ (Refused NoQuestion) ∷ (Refused NoQuestion) ∷ (Refused (ShelfFull 0)) ∷ (Refused (ShelfFull 0)) ∷ (Refused (PostFull 0)) ∷ (Refused (ShelfFull 0)) ∷ (Refused NoMessage) ∷ (Refused (PostFull 0)) ∷ (Refused (PostFull 0)) ∷ (Refused NoQuestion) ∷ (Refused NoQuestion) ∷ (Refused (ShelfFull 0)) ∷ (Refused (ShelfFull 0)) ∷ (Refused (PostFull 0)) ∷ (Refused (ShelfFull 0)) ∷ (Refused (PostFull 0)) ∷ (Refused (ShelfFull 0)) ∷ [])
    ((peer 10 Settled) ∷ [])
    ([])
    ([])

abbrev pub run_20 : Worked
run_20 =
    worked (settings 6 2 0 2)
    ((Insert 3 938) ∷ (Lookup 6 2) ∷ (Join 1) ∷ (Insert 1 885) ∷ (Insert 1 325) ∷ (Insert 3 344) ∷ (Deliver 1) ∷ (Join 3) ∷ (Deliver 0) ∷ (Insert 3 131) ∷ (Insert 1 627) ∷ (Collect 2) ∷ [])
    ((Refused NoMember) ∷ (Refused Identifier) ∷ Done ∷ (Refused (ShelfFull 0)) ∷ (Refused (ShelfFull 0)) ∷ (Refused (ShelfFull 0)) ∷ (Refused NoMessage) ∷ Done ∷ Asked ∷ (Refused (ShelfFull 0)) ∷ (Refused (ShelfFull 0)) ∷ (Refused NoQuestion) ∷ [])
    ((peer 1 Giving) ∷ (peer 3 (Filling 1 1 3)) ∷ [])
    ([])
    ((Replicate 3 1 1 3) ∷ [])

abbrev pub run_21 : Worked
run_21 =
    worked (settings 3 3 40 30)
    ((Join 1) ∷ (Lookup 2 3) ∷ (Insert 2 605) ∷ (Lookup 0 0) ∷ (Deliver 0) ∷ (Lookup 0 2) ∷ (Deliver 2) ∷ (Lookup 2 3) ∷ (Deliver 3) ∷ (Insert 2 448) ∷ (Lookup 2 3) ∷ (Deliver 4) ∷ (Deliver 1) ∷ (Insert 2 918) ∷ (Insert 2 661) ∷ (Join 0) ∷ (Deliver 11) ∷ (Deliver 2) ∷ (Deliver 2) ∷ (Lookup 2 3) ∷ (Insert 2 1) ∷ (Lookup 0 2) ∷ (Deliver 10) ∷ (Deliver 0) ∷ (Deliver 9) ∷ (Deliver 14) ∷ (Deliver 10) ∷ (Collect 4) ∷ (Deliver 1) ∷ (Collect 2) ∷ (Insert 1 550) ∷ (Deliver 12) ∷ (Lookup 1 4) ∷ (Collect 6) ∷ (Deliver 6) ∷ (Deliver 5) ∷ (Insert 0 60) ∷ (Deliver 2) ∷ (Insert 0 190) ∷ (Deliver 12) ∷ (Insert 1 861) ∷ (Insert 2 91) ∷ (Lookup 2 0) ∷ (Collect 3) ∷ (Deliver 9) ∷ (Collect 1) ∷ (Insert 1 34) ∷ (Leave 0) ∷ (Collect 5) ∷ (Lookup 2 1) ∷ (Deliver 12) ∷ (Collect 7) ∷ (Lookup 2 3) ∷ (Join 2) ∷ (Deliver 14) ∷ (Deliver 17) ∷ (Deliver 16) ∷ (Lookup 1 2) ∷ (Collect 8) ∷ (Deliver 1) ∷ [])
    (Done ∷ (Opened 1) ∷ (Inserted 1) ∷ (Refused Replica) ∷ Answered ∷ (Opened 2) ∷ Kept ∷ (Opened 3) ∷ Answered ∷ (Inserted 2) ∷ (Opened 4) ∷ Kept ∷ Older ∷ (Inserted 3) ∷ (Inserted 4) ∷ Done ∷ Asked ∷ Sent ∷ Kept ∷ (Opened 5) ∷ (Inserted 5) ∷ (Opened 6) ∷ Kept ∷ Sent ∷ Answered ∷ (Refused NoMessage) ∷ Kept ∷ Withdrawn ∷ Sent ∷ Withdrawn ∷ (Inserted 6) ∷ Kept ∷ (Refused Replica) ∷ Withdrawn ∷ Kept ∷ (Moved 1) ∷ (Inserted 7) ∷ Sent ∷ (Inserted 8) ∷ Older ∷ (Inserted 9) ∷ (Inserted 10) ∷ (Refused Replica) ∷ (Found 1 605) ∷ Kept ∷ Nothing ∷ (Inserted 11) ∷ Done ∷ (Found 2 448) ∷ (Opened 7) ∷ Kept ∷ Withdrawn ∷ (Opened 8) ∷ (Refused NotSettled) ∷ Sent ∷ Kept ∷ Sent ∷ (Opened 9) ∷ Withdrawn ∷ Older ∷ [])
    ((peer 1 (Filling 0 1 0)) ∷ (peer 0 Leaving) ∷ [])
    ((kept 0 1 0 7 60) ∷ (kept 0 2 0 5 1) ∷ (kept 0 1 2 5 1) ∷ (kept 0 2 2 6 550) ∷ (kept 1 2 1 8 190) ∷ (kept 1 3 1 10 91) ∷ [])
    ((AddItem 1 2 0 3 918) ∷ (AddItem 1 2 0 4 661) ∷ (AddItem 1 3 1 4 661) ∷ (AddItem 1 3 1 5 1) ∷ (AddItem 0 1 2 1 605) ∷ (AddItem 0 1 2 3 918) ∷ (AddItem 1 1 1 6 550) ∷ (AddItem 0 3 0 6 550) ∷ (AddItem 1 2 1 7 60) ∷ (AddItem 0 3 2 7 60) ∷ (AddItem 0 1 0 8 190) ∷ (AddItem 0 3 2 8 190) ∷ (AddItem 1 1 1 9 861) ∷ (AddItem 0 3 0 9 861) ∷ (AddItem 0 1 2 10 91) ∷ (AddItem 1 1 1 11 34) ∷ (AddItem 0 2 2 11 34) ∷ (AddItem 0 3 0 11 34) ∷ (Replicate 1 0 1 0) ∷ (AddItem 1 2 2 9 861) ∷ (AddItem 1 2 0 10 91) ∷ (GetItem 1 2 2 9) ∷ [])

abbrev pub run_22 : Worked
run_22 =
    worked (settings 8 4 40 5)
    ((Collect 2) ∷ (Join 4) ∷ (Collect 1) ∷ (Insert 4 491) ∷ (Insert 2 906) ∷ (Lookup 4 1) ∷ (Insert 2 484) ∷ (Deliver 4) ∷ (Insert 4 935) ∷ (Deliver 2) ∷ (Lookup 2 0) ∷ (Deliver 1) ∷ (Deliver 3) ∷ (Join 5) ∷ (Deliver 3) ∷ (Insert 2 972) ∷ (Join 5) ∷ (Deliver 2) ∷ (Deliver 1) ∷ (Join 7) ∷ (Insert 4 376) ∷ (Join 3) ∷ (Deliver 0) ∷ (Insert 3 855) ∷ (Insert 4 839) ∷ (Deliver 4) ∷ (Insert 2 362) ∷ (Leave 4) ∷ (Deliver 3) ∷ (Deliver 0) ∷ (Deliver 1) ∷ (Lookup 4 4) ∷ (Deliver 3) ∷ (Collect 2) ∷ (Collect 1) ∷ (Join 3) ∷ (Deliver 0) ∷ (Lookup 3 3) ∷ (Insert 4 426) ∷ (Collect 5) ∷ (Insert 2 417) ∷ (Lookup 2 0) ∷ (Deliver 0) ∷ (Deliver 0) ∷ (Deliver 0) ∷ (Lookup 4 4) ∷ (Lookup 2 1) ∷ (Insert 2 437) ∷ (Lookup 2 5) ∷ (Collect 3) ∷ (Deliver 2) ∷ (Deliver 1) ∷ (Deliver 0) ∷ (Insert 2 336) ∷ (Deliver 1) ∷ (Lookup 4 3) ∷ (Lookup 4 1) ∷ (Leave 5) ∷ (Insert 2 342) ∷ (Deliver 0) ∷ [])
    ((Refused NoQuestion) ∷ Done ∷ (Refused NoQuestion) ∷ (Inserted 1) ∷ (Refused (PostFull 1)) ∷ (Opened 1) ∷ (Refused (PostFull 0)) ∷ Answered ∷ (Refused (PostFull 1)) ∷ Kept ∷ (Refused Replica) ∷ Kept ∷ (Refused NoMessage) ∷ Done ∷ (Refused NoMessage) ∷ (Refused (PostFull 2)) ∷ (Refused OnTable) ∷ Asked ∷ Kept ∷ (Refused NotSettled) ∷ (Refused (PostFull 3)) ∷ (Refused NotSettled) ∷ Kept ∷ (Inserted 2) ∷ (Refused (PostFull 0)) ∷ Kept ∷ (Refused (PostFull 1)) ∷ (Refused NotSettled) ∷ Kept ∷ (Moved 0) ∷ Kept ∷ (Opened 2) ∷ (Refused NoMessage) ∷ Withdrawn ∷ Nothing ∷ Done ∷ Sent ∷ (Opened 3) ∷ (Refused (PostFull 2)) ∷ (Refused NoQuestion) ∷ (Refused (PostFull 2)) ∷ (Refused Replica) ∷ Asked ∷ Kept ∷ Answered ∷ (Opened 4) ∷ (Opened 5) ∷ (Refused (PostFull 2)) ∷ (Refused Replica) ∷ NotYet ∷ Answered ∷ Answered ∷ (Moved 5) ∷ (Inserted 3) ∷ Kept ∷ (Opened 6) ∷ (Opened 7) ∷ (Refused (PostFull 0)) ∷ (Refused (PostFull 0)) ∷ Kept ∷ [])
    ((peer 4 Settled) ∷ (peer 5 Settled) ∷ (peer 3 Settled) ∷ [])
    ((kept 3 3 0 1 491) ∷ (kept 3 4 1 2 855) ∷ (kept 3 1 2 3 336) ∷ (kept 3 4 2 1 491) ∷ (kept 3 1 3 2 855) ∷ (kept 3 2 6 1 491) ∷ (kept 3 3 7 2 855) ∷ (kept 4 1 4 1 491) ∷ (kept 4 2 4 3 336) ∷ (kept 5 2 5 2 855) ∷ [])
    ((AddItem 3 3 6 3 336) ∷ (AddItem 3 4 0 3 336) ∷ (GetItem 3 3 0 6) ∷ (GetItem 4 1 4 7) ∷ [])

abbrev pub run_23 : Worked
run_23 =
    worked (settings 3 3 0 4)
    ((Join 3) ∷ (Join 2) ∷ (Join 1) ∷ (Leave 3) ∷ (Join 0) ∷ (Deliver 0) ∷ (Join 0) ∷ (Join 0) ∷ (Deliver 0) ∷ (Insert 2 549) ∷ (Leave 2) ∷ (Collect 1) ∷ [])
    ((Refused Identifier) ∷ Done ∷ Done ∷ (Refused Identifier) ∷ (Refused NotSettled) ∷ Asked ∷ (Refused NotSettled) ∷ (Refused NotSettled) ∷ (Moved 0) ∷ (Refused (ShelfFull 0)) ∷ Done ∷ (Refused NoQuestion) ∷ [])
    ((peer 2 Leaving) ∷ (peer 1 (Filling 2 1 2)) ∷ [])
    ([])
    ((Replicate 1 2 1 2) ∷ [])

abbrev pub run_24 : Worked
run_24 =
    worked (settings 8 2 0 30)
    ((Collect 1) ∷ (Insert 3 4) ∷ (Join 6) ∷ (Join 2) ∷ (Deliver 0) ∷ (Deliver 0) ∷ (Deliver 1) ∷ (Deliver 0) ∷ (Join 1) ∷ (Insert 1 775) ∷ (Insert 1 309) ∷ (Deliver 0) ∷ (Deliver 0) ∷ (Insert 0 873) ∷ (Lookup 0 0) ∷ (Insert 1 737) ∷ (Join 0) ∷ (Leave 0) ∷ (Deliver 0) ∷ (Join 2) ∷ (Deliver 0) ∷ (Deliver 0) ∷ (Join 3) ∷ (Lookup 0 2) ∷ (Deliver 1) ∷ (Deliver 0) ∷ (Insert 0 263) ∷ (Deliver 0) ∷ (Insert 0 795) ∷ (Deliver 1) ∷ (Insert 0 177) ∷ (Deliver 1) ∷ (Leave 0) ∷ (Deliver 0) ∷ (Lookup 0 1) ∷ (Deliver 0) ∷ (Leave 4) ∷ (Join 0) ∷ (Deliver 0) ∷ (Insert 0 658) ∷ [])
    ((Refused NoQuestion) ∷ (Refused NoMember) ∷ Done ∷ Done ∷ Asked ∷ (Moved 0) ∷ (Refused NoMessage) ∷ (Refused NoMessage) ∷ Done ∷ (Refused (ShelfFull 0)) ∷ (Refused (ShelfFull 0)) ∷ Asked ∷ (Moved 0) ∷ (Refused (ShelfFull 0)) ∷ (Refused Replica) ∷ (Refused (ShelfFull 0)) ∷ Done ∷ (Refused NotSettled) ∷ Asked ∷ (Refused OnTable) ∷ (Moved 0) ∷ (Refused NoMessage) ∷ Done ∷ (Opened 1) ∷ Answered ∷ Asked ∷ (Refused (ShelfFull 0)) ∷ (Moved 0) ∷ (Refused (ShelfFull 0)) ∷ (Refused NoMessage) ∷ (Refused (ShelfFull 0)) ∷ (Refused NoMessage) ∷ Done ∷ (Moved 0) ∷ (Opened 2) ∷ Answered ∷ (Refused NotMember) ∷ Done ∷ Asked ∷ (Refused (ShelfFull 0)) ∷ [])
    ((peer 6 Settled) ∷ (peer 2 Settled) ∷ (peer 1 Giving) ∷ (peer 3 Settled) ∷ (peer 0 (Filling 1 6 0)) ∷ [])
    ([])
    ((Replicate 0 1 6 0) ∷ [])

abbrev pub run_25 : Worked
run_25 =
    worked (settings 8 8 40 30)
    ((Join 4) ∷ (Insert 4 315) ∷ (Insert 7 912) ∷ (Deliver 17) ∷ (Lookup 2 2) ∷ (Join 7) ∷ (Insert 7 857) ∷ (Deliver 8) ∷ (Leave 7) ∷ (Collect 1) ∷ (Insert 2 181) ∷ (Deliver 9) ∷ (Leave 4) ∷ (Deliver 5) ∷ (Deliver 3) ∷ (Deliver 18) ∷ (Deliver 10) ∷ (Lookup 2 4) ∷ (Lookup 2 4) ∷ (Insert 7 909) ∷ (Insert 4 650) ∷ (Deliver 21) ∷ (Lookup 4 7) ∷ (Lookup 9 5) ∷ (Insert 6 410) ∷ (Insert 7 445) ∷ (Lookup 3 2) ∷ (Join 2) ∷ (Deliver 5) ∷ (Insert 4 322) ∷ (Lookup 7 4) ∷ (Deliver 11) ∷ (Insert 4 946) ∷ (Insert 2 503) ∷ (Deliver 2) ∷ (Deliver 22) ∷ (Leave 4) ∷ (Insert 7 200) ∷ (Lookup 2 2) ∷ (Deliver 6) ∷ (Deliver 4) ∷ (Lookup 7 8) ∷ (Deliver 7) ∷ (Join 1) ∷ (Leave 7) ∷ (Insert 7 463) ∷ (Insert 4 270) ∷ (Leave 7) ∷ (Join 2) ∷ (Join 7) ∷ (Deliver 10) ∷ (Deliver 16) ∷ (Deliver 19) ∷ (Insert 7 491) ∷ (Join 0) ∷ (Insert 7 25) ∷ (Leave 4) ∷ (Deliver 24) ∷ (Lookup 2 4) ∷ (Lookup 7 3) ∷ [])
    (Done ∷ (Inserted 1) ∷ (Inserted 2) ∷ (Refused NoMessage) ∷ (Opened 1) ∷ Done ∷ (Inserted 3) ∷ Sent ∷ (Refused NotSettled) ∷ Withdrawn ∷ (Refused (PostFull 5)) ∷ Kept ∷ (Refused NotSettled) ∷ Kept ∷ Sent ∷ Kept ∷ Sent ∷ (Opened 2) ∷ (Opened 3) ∷ (Refused (PostFull 6)) ∷ (Refused (PostFull 6)) ∷ Kept ∷ (Opened 4) ∷ (Refused Identifier) ∷ (Refused (PostFull 6)) ∷ (Refused (PostFull 6)) ∷ (Opened 5) ∷ (Refused NotSettled) ∷ Kept ∷ (Refused (PostFull 6)) ∷ (Opened 6) ∷ Kept ∷ (Refused (PostFull 6)) ∷ (Refused (PostFull 6)) ∷ Sent ∷ Answered ∷ (Refused NotSettled) ∷ (Refused (PostFull 7)) ∷ (Opened 7) ∷ Kept ∷ Kept ∷ (Opened 8) ∷ Asked ∷ (Refused NotSettled) ∷ (Refused NotSettled) ∷ (Refused (PostFull 7)) ∷ (Refused (PostFull 7)) ∷ (Refused NotSettled) ∷ (Refused NotSettled) ∷ (Refused OnTable) ∷ Kept ∷ Answered ∷ Answered ∷ (Inserted 4) ∷ (Refused NotSettled) ∷ (Refused (PostFull 2)) ∷ (Refused NotSettled) ∷ Kept ∷ (Opened 9) ∷ (Opened 10) ∷ [])
    ((peer 4 Giving) ∷ (peer 7 (Filling 4 4 7)) ∷ [])
    ((kept 4 2 0 2 912) ∷ (kept 4 3 1 2 912) ∷ (kept 4 6 1 1 315) ∷ (kept 4 5 3 4 491) ∷ (kept 4 8 3 1 315) ∷ (kept 4 6 4 3 857) ∷ (kept 7 7 5 2 912) ∷ (kept 7 1 7 3 857) ∷ [])
    ((AddItem 4 1 4 1 315) ∷ (AddItem 4 2 5 1 315) ∷ (AddItem 4 5 0 1 315) ∷ (AddItem 4 7 2 1 315) ∷ (AddItem 4 4 2 2 912) ∷ (AddItem 4 6 4 2 912) ∷ (AddItem 4 8 6 2 912) ∷ (AddItem 4 2 0 3 857) ∷ (AddItem 4 3 1 3 857) ∷ (AddItem 4 4 2 3 857) ∷ (AddItem 7 7 5 3 857) ∷ (AddItem 7 8 6 3 857) ∷ (AddItem 7 1 7 2 912) ∷ (AddItem 7 4 7 1 315) ∷ (GetItem 7 4 5 2) ∷ (GetItem 7 4 5 3) ∷ (GetItem 4 2 4 5) ∷ (AddItem 7 3 6 1 315) ∷ (GetItem 4 2 3 7) ∷ (Replicate 7 4 4 7) ∷ (AddItem 7 1 7 4 491) ∷ (AddItem 4 2 0 4 491) ∷ (AddItem 4 3 1 4 491) ∷ (AddItem 4 4 2 4 491) ∷ (AddItem 4 6 4 4 491) ∷ (AddItem 7 7 5 4 491) ∷ (AddItem 7 8 6 4 491) ∷ (GetItem 7 4 5 9) ∷ (GetItem 4 3 1 10) ∷ [])

abbrev pub run_26 : Worked
run_26 =
    worked (settings 3 3 0 8)
    ((Join 2) ∷ (Insert 2 847) ∷ (Deliver 0) ∷ (Insert 1 627) ∷ (Join 0) ∷ (Deliver 0) ∷ (Insert 2 786) ∷ (Lookup 1 4) ∷ (Deliver 0) ∷ (Insert 1 439) ∷ (Insert 1 668) ∷ (Lookup 1 1) ∷ (Deliver 0) ∷ (Join 1) ∷ (Deliver 0) ∷ (Deliver 0) ∷ (Insert 1 616) ∷ (Insert 1 739) ∷ (Join 2) ∷ (Insert 1 695) ∷ (Lookup 2 1) ∷ (Deliver 0) ∷ (Insert 1 44) ∷ (Insert 2 766) ∷ (Insert 2 655) ∷ (Lookup 1 1) ∷ (Deliver 0) ∷ (Insert 1 699) ∷ (Insert 2 159) ∷ (Insert 2 342) ∷ (Insert 2 409) ∷ (Insert 1 729) ∷ (Leave 1) ∷ (Lookup 1 4) ∷ (Leave 0) ∷ (Insert 1 76) ∷ (Deliver 0) ∷ (Leave 2) ∷ (Insert 3 248) ∷ (Insert 1 356) ∷ [])
    (Done ∷ (Refused (ShelfFull 0)) ∷ (Refused NoMessage) ∷ (Refused (ShelfFull 0)) ∷ Done ∷ Asked ∷ (Refused (ShelfFull 0)) ∷ (Refused Replica) ∷ (Moved 0) ∷ (Refused (ShelfFull 0)) ∷ (Refused (ShelfFull 0)) ∷ (Opened 1) ∷ Answered ∷ Done ∷ Asked ∷ (Moved 0) ∷ (Refused (ShelfFull 0)) ∷ (Refused (ShelfFull 0)) ∷ (Refused OnTable) ∷ (Refused (ShelfFull 0)) ∷ (Opened 2) ∷ Answered ∷ (Refused (ShelfFull 0)) ∷ (Refused (ShelfFull 0)) ∷ (Refused (ShelfFull 0)) ∷ (Opened 3) ∷ Answered ∷ (Refused (ShelfFull 0)) ∷ (Refused (ShelfFull 0)) ∷ (Refused (ShelfFull 0)) ∷ (Refused (ShelfFull 0)) ∷ (Refused (ShelfFull 0)) ∷ Done ∷ (Refused Replica) ∷ (Refused NotSettled) ∷ (Refused (ShelfFull 0)) ∷ (Moved 0) ∷ Done ∷ (Refused Identifier) ∷ (Refused (ShelfFull 0)) ∷ [])
    ((peer 2 Leaving) ∷ (peer 0 (Filling 2 0 2)) ∷ [])
    ([])
    ((Replicate 0 2 0 2) ∷ [])

abbrev pub run_27 : Worked
run_27 =
    worked (settings 4 4 8 0)
    ((Join 0) ∷ (Lookup 3 4) ∷ (Join 3) ∷ (Insert 3 705) ∷ (Insert 3 670) ∷ (Lookup 3 4) ∷ (Collect 1) ∷ (Insert 3 961) ∷ (Insert 3 7) ∷ (Insert 0 490) ∷ (Insert 0 533) ∷ (Insert 0 61) ∷ [])
    (Done ∷ (Refused (PostFull 0)) ∷ (Refused (PostFull 0)) ∷ (Refused (PostFull 0)) ∷ (Refused (PostFull 0)) ∷ (Refused (PostFull 0)) ∷ (Refused NoQuestion) ∷ (Refused (PostFull 0)) ∷ (Refused (PostFull 0)) ∷ (Refused (PostFull 0)) ∷ (Refused (PostFull 0)) ∷ (Refused (PostFull 0)) ∷ [])
    ((peer 0 Settled) ∷ [])
    ([])
    ([])

abbrev pub run_28 : Worked
run_28 =
    worked (settings 12 3 0 30)
    ((Join 10) ∷ (Insert 8 501) ∷ (Insert 0 721) ∷ (Insert 0 998) ∷ (Lookup 9 3) ∷ (Deliver 0) ∷ (Join 11) ∷ (Deliver 0) ∷ (Join 4) ∷ (Lookup 0 2) ∷ (Lookup 10 2) ∷ (Deliver 2) ∷ (Leave 10) ∷ (Deliver 0) ∷ (Insert 6 949) ∷ (Insert 10 555) ∷ (Lookup 10 1) ∷ (Insert 10 614) ∷ (Join 9) ∷ (Leave 9) ∷ (Leave 9) ∷ (Deliver 1) ∷ (Deliver 0) ∷ (Deliver 0) ∷ (Insert 8 274) ∷ (Leave 1) ∷ (Lookup 10 3) ∷ (Deliver 0) ∷ (Lookup 10 4) ∷ (Deliver 1) ∷ (Deliver 0) ∷ (Deliver 0) ∷ (Leave 4) ∷ (Collect 3) ∷ (Deliver 0) ∷ (Deliver 0) ∷ (Insert 0 29) ∷ (Insert 0 501) ∷ (Lookup 8 3) ∷ (Leave 9) ∷ [])
    (Done ∷ (Refused (ShelfFull 0)) ∷ (Refused (ShelfFull 0)) ∷ (Refused (ShelfFull 0)) ∷ (Opened 1) ∷ Answered ∷ Done ∷ Asked ∷ (Refused NotSettled) ∷ (Opened 2) ∷ (Opened 3) ∷ Answered ∷ (Refused NotSettled) ∷ (Moved 0) ∷ (Refused (ShelfFull 0)) ∷ (Refused (ShelfFull 0)) ∷ (Opened 4) ∷ (Refused (ShelfFull 0)) ∷ Done ∷ (Refused NotSettled) ∷ (Refused NotSettled) ∷ Answered ∷ Sent ∷ Asked ∷ (Refused (ShelfFull 0)) ∷ (Refused NotMember) ∷ (Opened 5) ∷ Answered ∷ (Refused Replica) ∷ Answered ∷ (Moved 0) ∷ (Refused NoMessage) ∷ (Refused NotMember) ∷ Nothing ∷ (Refused NoMessage) ∷ (Refused NoMessage) ∷ (Refused (ShelfFull 0)) ∷ (Refused (ShelfFull 0)) ∷ (Opened 6) ∷ Done ∷ [])
    ((peer 10 (Filling 9 11 9)) ∷ (peer 11 Settled) ∷ (peer 9 Leaving) ∷ [])
    ([])
    ((GetItem 9 3 4 6) ∷ (Replicate 10 9 11 9) ∷ [])

abbrev pub run_29 : Worked
run_29 =
    worked (settings 4 2 4 30)
    ((Join 1) ∷ (Collect 2) ∷ (Lookup 1 2) ∷ (Deliver 0) ∷ (Lookup 3 1) ∷ (Insert 3 25) ∷ (Collect 1) ∷ (Deliver 2) ∷ (Collect 2) ∷ (Deliver 0) ∷ (Insert 3 295) ∷ (Deliver 0) ∷ (Join 3) ∷ (Insert 1 572) ∷ (Deliver 0) ∷ (Insert 1 954) ∷ (Deliver 0) ∷ (Deliver 2) ∷ (Deliver 1) ∷ (Lookup 3 2) ∷ (Insert 2 37) ∷ (Insert 1 713) ∷ (Lookup 3 1) ∷ (Lookup 2 1) ∷ (Deliver 0) ∷ (Deliver 0) ∷ (Deliver 1) ∷ (Deliver 0) ∷ (Leave 1) ∷ (Collect 3) ∷ (Lookup 1 1) ∷ (Deliver 1) ∷ (Insert 3 907) ∷ (Insert 3 361) ∷ (Collect 6) ∷ (Insert 3 437) ∷ (Insert 3 489) ∷ (Lookup 2 1) ∷ (Deliver 1) ∷ (Collect 8) ∷ [])
    (Done ∷ (Refused NoQuestion) ∷ (Opened 1) ∷ Answered ∷ (Opened 2) ∷ (Inserted 1) ∷ Nothing ∷ Kept ∷ Withdrawn ∷ Kept ∷ (Inserted 2) ∷ Kept ∷ Done ∷ (Refused (ShelfFull 1)) ∷ Kept ∷ (Inserted 3) ∷ Asked ∷ (Moved 1) ∷ Kept ∷ (Opened 3) ∷ (Refused (ShelfFull 0)) ∷ (Refused (ShelfFull 0)) ∷ (Opened 4) ∷ (Opened 5) ∷ Kept ∷ Answered ∷ Answered ∷ Answered ∷ Done ∷ (Found 2 295) ∷ (Opened 6) ∷ Answered ∷ (Refused (ShelfFull 0)) ∷ (Refused (ShelfFull 0)) ∷ NotYet ∷ (Refused (ShelfFull 0)) ∷ (Refused (ShelfFull 0)) ∷ (Opened 7) ∷ Answered ∷ (Refused NoQuestion) ∷ [])
    ((peer 1 Leaving) ∷ (peer 3 (Filling 1 3 1)) ∷ [])
    ((kept 1 1 1 3 954) ∷ (kept 1 2 1 2 295) ∷ (kept 3 1 3 2 295) ∷ (kept 3 2 3 3 954) ∷ [])
    ((Replicate 3 1 3 1) ∷ [])

abbrev pub run_30 : Worked
run_30 =
    worked (settings 8 2 6 30)
    ((Join 6) ∷ (Insert 4 399) ∷ (Collect 2) ∷ (Deliver 1) ∷ (Collect 2) ∷ (Deliver 1) ∷ (Leave 6) ∷ (Deliver 0) ∷ (Join 7) ∷ (Deliver 0) ∷ (Collect 2) ∷ (Deliver 0) ∷ (Insert 4 330) ∷ (Insert 0 701) ∷ (Lookup 4 2) ∷ (Insert 3 24) ∷ (Deliver 2) ∷ (Leave 6) ∷ (Deliver 3) ∷ (Join 0) ∷ (Deliver 0) ∷ (Deliver 2) ∷ (Deliver 1) ∷ (Deliver 1) ∷ (Collect 1) ∷ (Join 4) ∷ (Leave 7) ∷ (Deliver 5) ∷ (Leave 4) ∷ (Deliver 2) ∷ (Deliver 0) ∷ (Leave 7) ∷ (Lookup 0 2) ∷ (Deliver 0) ∷ (Insert 3 352) ∷ (Deliver 1) ∷ (Deliver 1) ∷ (Join 1) ∷ (Join 2) ∷ (Join 5) ∷ [])
    (Done ∷ (Inserted 1) ∷ (Refused NoQuestion) ∷ Kept ∷ (Refused NoQuestion) ∷ (Refused NoMessage) ∷ (Refused OnlyMember) ∷ Kept ∷ Done ∷ Asked ∷ (Refused NoQuestion) ∷ (Moved 0) ∷ (Inserted 2) ∷ (Inserted 3) ∷ (Opened 1) ∷ (Refused (ShelfFull 0)) ∷ Kept ∷ Done ∷ Sent ∷ (Refused NotSettled) ∷ Sent ∷ (Moved 3) ∷ Sent ∷ Answered ∷ (Found 1 399) ∷ Done ∷ (Refused NotSettled) ∷ (Refused NoMessage) ∷ (Refused NotSettled) ∷ Sent ∷ Sent ∷ (Refused NotSettled) ∷ (Opened 2) ∷ Sent ∷ (Refused (ShelfFull 0)) ∷ Kept ∷ Kept ∷ (Refused NotSettled) ∷ (Refused NotSettled) ∷ (Refused NotSettled) ∷ [])
    ((peer 7 Giving) ∷ (peer 4 (Filling 7 7 4)) ∷ [])
    ((kept 4 2 0 2 330) ∷ (kept 4 2 4 3 701) ∷ (kept 7 1 0 3 701) ∷ (kept 7 2 0 1 399) ∷ (kept 7 1 4 1 399) ∷ [])
    ((RetrieveItems 7 4 7 4) ∷ (GetItem 4 2 4 2) ∷ (AddItem 4 1 4 2 330) ∷ [])

abbrev pub run_31 : Worked
run_31 =
    worked (settings 3 3 40 30)
    ((Join 2) ∷ (Insert 4 650) ∷ (Insert 2 498) ∷ (Insert 0 836) ∷ (Deliver 0) ∷ (Deliver 0) ∷ (Collect 2) ∷ (Deliver 3) ∷ (Deliver 2) ∷ (Join 1) ∷ (Deliver 4) ∷ (Deliver 2) ∷ [])
    (Done ∷ (Refused Identifier) ∷ (Inserted 1) ∷ (Inserted 2) ∷ Kept ∷ Kept ∷ (Refused NoQuestion) ∷ Kept ∷ Kept ∷ Done ∷ (Refused NoMessage) ∷ Asked ∷ [])
    ((peer 2 Giving) ∷ (peer 1 (Filling 2 2 1)) ∷ [])
    ((kept 2 2 0 1 498) ∷ (kept 2 2 1 2 836) ∷ (kept 2 1 2 1 498) ∷ (kept 2 3 2 2 836) ∷ [])
    ((AddItem 2 3 1 1 498) ∷ (AddItem 2 1 0 2 836) ∷ (Replicate 1 2 2 1) ∷ [])

abbrev pub run_32 : Worked
run_32 =
    worked (settings 6 2 40 30)
    ((Join 1) ∷ (Insert 7 809) ∷ (Deliver 1) ∷ (Lookup 2 0) ∷ (Collect 1) ∷ (Join 3) ∷ (Deliver 0) ∷ (Deliver 0) ∷ (Insert 5 658) ∷ (Deliver 1) ∷ (Deliver 0) ∷ (Insert 5 97) ∷ (Insert 4 210) ∷ (Lookup 2 1) ∷ (Deliver 3) ∷ (Insert 5 928) ∷ (Deliver 2) ∷ (Deliver 0) ∷ (Insert 5 692) ∷ (Deliver 1) ∷ (Lookup 4 1) ∷ (Lookup 4 1) ∷ (Collect 2) ∷ (Deliver 2) ∷ (Deliver 2) ∷ (Deliver 4) ∷ (Insert 4 368) ∷ (Deliver 4) ∷ (Leave 1) ∷ (Deliver 2) ∷ (Deliver 0) ∷ (Collect 1) ∷ (Deliver 2) ∷ (Deliver 0) ∷ (Deliver 3) ∷ (Insert 2 817) ∷ (Deliver 0) ∷ (Lookup 2 1) ∷ (Leave 1) ∷ (Deliver 3) ∷ (Collect 4) ∷ (Deliver 3) ∷ (Deliver 2) ∷ (Deliver 0) ∷ (Deliver 0) ∷ (Deliver 1) ∷ (Insert 2 814) ∷ (Deliver 1) ∷ (Deliver 0) ∷ (Insert 4 720) ∷ (Deliver 0) ∷ (Collect 3) ∷ (Join 3) ∷ (Deliver 0) ∷ (Insert 2 454) ∷ (Deliver 0) ∷ (Deliver 0) ∷ (Lookup 5 2) ∷ (Deliver 0) ∷ (Insert 2 353) ∷ [])
    (Done ∷ (Refused Identifier) ∷ (Refused NoMessage) ∷ (Refused Replica) ∷ (Refused NoQuestion) ∷ Done ∷ Asked ∷ (Moved 0) ∷ (Inserted 1) ∷ Kept ∷ Kept ∷ (Inserted 2) ∷ (Inserted 3) ∷ (Opened 1) ∷ Kept ∷ (Inserted 4) ∷ Kept ∷ Kept ∷ (Inserted 5) ∷ Answered ∷ (Opened 2) ∷ (Opened 3) ∷ Withdrawn ∷ Kept ∷ Kept ∷ (Refused NoMessage) ∷ (Inserted 6) ∷ Kept ∷ Done ∷ Kept ∷ Older ∷ Nothing ∷ Sent ∷ Sent ∷ Kept ∷ (Inserted 7) ∷ Sent ∷ (Opened 4) ∷ (Refused NotMember) ∷ Kept ∷ Withdrawn ∷ Answered ∷ Kept ∷ (Moved 3) ∷ Kept ∷ (Refused NoMessage) ∷ (Inserted 8) ∷ Kept ∷ Kept ∷ (Inserted 9) ∷ Kept ∷ NotYet ∷ (Refused OnTable) ∷ Kept ∷ (Inserted 10) ∷ Kept ∷ Kept ∷ (Opened 5) ∷ Answered ∷ (Inserted 11) ∷ [])
    ((peer 3 Settled) ∷ [])
    ((kept 3 2 1 9 720) ∷ (kept 3 1 2 10 454) ∷ (kept 3 2 2 5 692) ∷ (kept 3 1 4 9 720) ∷ (kept 3 1 5 5 692) ∷ (kept 3 2 5 10 454) ∷ [])
    ((AddItem 3 1 2 11 353) ∷ (AddItem 3 2 5 11 353) ∷ [])

abbrev pub run_33 : Worked
run_33 =
    worked (settings 1 1 40 30)
    ((Join 0) ∷ (Join 1) ∷ (Insert 0 697) ∷ (Lookup 0 1) ∷ (Deliver 1) ∷ (Join 0) ∷ (Deliver 0) ∷ (Insert 0 267) ∷ (Deliver 0) ∷ (Join 0) ∷ (Insert 2 92) ∷ (Join 1) ∷ [])
    (Done ∷ (Refused Identifier) ∷ (Inserted 1) ∷ (Opened 1) ∷ Answered ∷ (Refused OnTable) ∷ Kept ∷ (Inserted 2) ∷ Kept ∷ (Refused OnTable) ∷ (Refused Identifier) ∷ (Refused Identifier) ∷ [])
    ((peer 0 Settled) ∷ [])
    ((kept 0 1 0 2 267) ∷ [])
    ([])

abbrev pub run_34 : Worked
run_34 =
    worked (settings 6 3 40 30)
    ((Join 4) ∷ (Collect 2) ∷ (Lookup 1 3) ∷ (Insert 0 0) ∷ (Deliver 3) ∷ (Lookup 0 3) ∷ (Lookup 0 3) ∷ (Deliver 1) ∷ (Insert 1 932) ∷ (Join 5) ∷ (Deliver 5) ∷ (Lookup 5 2) ∷ (Insert 0 790) ∷ (Deliver 4) ∷ (Insert 1 547) ∷ (Deliver 6) ∷ (Join 2) ∷ (Insert 1 305) ∷ (Deliver 13) ∷ (Insert 1 779) ∷ (Leave 4) ∷ (Deliver 16) ∷ (Insert 1 449) ∷ (Insert 1 810) ∷ (Lookup 1 2) ∷ (Deliver 16) ∷ (Lookup 0 1) ∷ (Insert 0 829) ∷ (Collect 4) ∷ (Leave 4) ∷ (Insert 1 452) ∷ (Insert 1 958) ∷ (Insert 1 67) ∷ (Join 3) ∷ (Deliver 12) ∷ (Insert 0 183) ∷ (Insert 0 208) ∷ (Insert 0 51) ∷ (Leave 1) ∷ (Deliver 3) ∷ [])
    (Done ∷ (Refused NoQuestion) ∷ (Opened 1) ∷ (Inserted 1) ∷ Kept ∷ (Opened 2) ∷ (Opened 3) ∷ Kept ∷ (Inserted 2) ∷ Done ∷ Kept ∷ (Opened 4) ∷ (Inserted 3) ∷ Kept ∷ (Inserted 4) ∷ Answered ∷ (Refused NotSettled) ∷ (Inserted 5) ∷ Kept ∷ (Inserted 6) ∷ (Refused NotSettled) ∷ Kept ∷ (Inserted 7) ∷ (Inserted 8) ∷ (Opened 5) ∷ Kept ∷ (Opened 6) ∷ (Inserted 9) ∷ Nothing ∷ (Refused NotSettled) ∷ (Inserted 10) ∷ (Refused (PostFull 1)) ∷ (Refused (PostFull 1)) ∷ (Refused NotSettled) ∷ Older ∷ (Refused (PostFull 2)) ∷ (Refused (PostFull 2)) ∷ (Refused (PostFull 2)) ∷ (Refused NotMember) ∷ Answered ∷ [])
    ((peer 4 Giving) ∷ (peer 5 (Filling 4 4 5)) ∷ [])
    ((kept 4 1 0 1 0) ∷ (kept 4 1 1 7 449) ∷ (kept 4 2 3 5 305) ∷ (kept 4 3 4 1 0) ∷ (kept 5 3 5 6 779) ∷ [])
    ((GetItem 4 3 5 1) ∷ (AddItem 4 2 2 1 0) ∷ (GetItem 4 3 4 2) ∷ (AddItem 4 3 5 2 932) ∷ (RetrieveItems 4 5 4 5) ∷ (AddItem 4 1 0 3 790) ∷ (AddItem 4 2 2 3 790) ∷ (AddItem 4 3 4 3 790) ∷ (AddItem 4 1 1 4 547) ∷ (AddItem 4 2 3 4 547) ∷ (AddItem 5 3 5 4 547) ∷ (AddItem 5 3 5 5 305) ∷ (AddItem 4 1 1 6 779) ∷ (AddItem 4 2 3 6 779) ∷ (AddItem 4 2 3 7 449) ∷ (AddItem 5 3 5 7 449) ∷ (AddItem 4 1 1 8 810) ∷ (AddItem 4 2 3 8 810) ∷ (AddItem 5 3 5 8 810) ∷ (GetItem 4 2 3 5) ∷ (GetItem 4 1 0 6) ∷ (AddItem 4 1 0 9 829) ∷ (AddItem 4 2 2 9 829) ∷ (AddItem 4 3 4 9 829) ∷ (AddItem 4 1 1 10 452) ∷ (AddItem 4 2 3 10 452) ∷ (AddItem 5 3 5 10 452) ∷ [])

abbrev pub run_35 : Worked
run_35 =
    worked (settings 6 2 6 30)
    ((Join 1) ∷ (Join 0) ∷ (Deliver 0) ∷ (Join 2) ∷ (Deliver 0) ∷ (Insert 1 913) ∷ (Deliver 1) ∷ (Collect 2) ∷ (Deliver 0) ∷ (Insert 4 334) ∷ (Deliver 1) ∷ (Insert 1 949) ∷ (Deliver 0) ∷ (Lookup 4 1) ∷ (Join 4) ∷ (Leave 0) ∷ (Deliver 1) ∷ (Lookup 1 2) ∷ (Insert 4 663) ∷ (Leave 1) ∷ (Leave 4) ∷ (Deliver 3) ∷ (Deliver 0) ∷ (Insert 1 160) ∷ (Deliver 0) ∷ (Deliver 2) ∷ (Deliver 1) ∷ (Deliver 0) ∷ (Insert 4 393) ∷ (Join 5) ∷ (Deliver 0) ∷ (Insert 1 704) ∷ (Leave 1) ∷ (Insert 4 224) ∷ (Deliver 0) ∷ (Deliver 1) ∷ (Deliver 1) ∷ (Deliver 0) ∷ (Collect 1) ∷ (Insert 5 899) ∷ (Collect 2) ∷ (Join 2) ∷ (Deliver 3) ∷ (Deliver 2) ∷ (Leave 2) ∷ (Deliver 1) ∷ (Lookup 4 1) ∷ (Insert 5 182) ∷ (Lookup 4 1) ∷ (Insert 1 258) ∷ (Collect 3) ∷ (Lookup 1 1) ∷ (Deliver 3) ∷ (Deliver 2) ∷ (Lookup 1 2) ∷ (Join 5) ∷ (Join 1) ∷ (Insert 4 374) ∷ (Insert 1 889) ∷ (Deliver 3) ∷ [])
    (Done ∷ Done ∷ Asked ∷ (Refused NotSettled) ∷ (Moved 0) ∷ (Inserted 1) ∷ Kept ∷ (Refused NoQuestion) ∷ Kept ∷ (Inserted 2) ∷ Kept ∷ (Inserted 3) ∷ Kept ∷ (Opened 1) ∷ Done ∷ (Refused NotSettled) ∷ Sent ∷ (Opened 2) ∷ (Refused (ShelfFull 0)) ∷ (Refused NotSettled) ∷ (Refused NotSettled) ∷ Kept ∷ Kept ∷ (Refused (ShelfFull 1)) ∷ Sent ∷ Answered ∷ Answered ∷ Asked ∷ (Refused (ShelfFull 1)) ∷ (Refused NotSettled) ∷ (Moved 2) ∷ (Inserted 4) ∷ Done ∷ (Refused (ShelfFull 0)) ∷ Sent ∷ (Moved 2) ∷ Kept ∷ Kept ∷ NotYet ∷ (Inserted 5) ∷ NotYet ∷ Done ∷ (Refused NoMessage) ∷ Asked ∷ (Refused NotSettled) ∷ Sent ∷ (Opened 3) ∷ (Refused (ShelfFull 0)) ∷ (Opened 4) ∷ (Refused (ShelfFull 0)) ∷ Withdrawn ∷ (Opened 5) ∷ Answered ∷ Kept ∷ (Opened 6) ∷ Done ∷ (Refused NotSettled) ∷ (Refused (ShelfFull 0)) ∷ (Refused (ShelfFull 0)) ∷ Answered ∷ [])
    ((peer 0 Giving) ∷ (peer 4 Giving) ∷ (peer 2 (Filling 4 0 2)) ∷ (peer 5 (Filling 0 4 5)) ∷ [])
    ((kept 2 2 2 5 899) ∷ (kept 4 1 1 4 704) ∷ (kept 4 2 1 2 334) ∷ (kept 4 1 4 2 334) ∷ (kept 4 2 4 4 704) ∷ [])
    ((AddItem 0 1 5 5 899) ∷ (Replicate 2 4 0 2) ∷ (GetItem 2 1 1 5) ∷ (RetrieveItems 0 5 4 5) ∷ [])

abbrev pub run_36 : Worked
run_36 =
    worked (settings 4 4 40 30)
    ((Join 3) ∷ (Insert 3 93) ∷ (Collect 2) ∷ (Lookup 1 2) ∷ (Deliver 1) ∷ (Deliver 0) ∷ (Deliver 0) ∷ (Deliver 1) ∷ (Deliver 0) ∷ (Collect 1) ∷ (Deliver 0) ∷ (Insert 3 941) ∷ (Collect 3) ∷ (Join 1) ∷ (Leave 3) ∷ (Insert 1 414) ∷ (Deliver 3) ∷ (Insert 1 891) ∷ (Deliver 10) ∷ (Insert 1 511) ∷ (Deliver 11) ∷ (Insert 3 957) ∷ (Leave 3) ∷ (Collect 3) ∷ (Deliver 14) ∷ (Insert 1 439) ∷ (Deliver 20) ∷ (Deliver 10) ∷ (Deliver 3) ∷ (Lookup 3 3) ∷ (Deliver 5) ∷ (Deliver 3) ∷ (Deliver 18) ∷ (Leave 3) ∷ (Lookup 3 2) ∷ (Insert 4 382) ∷ (Insert 3 347) ∷ (Lookup 2 2) ∷ (Deliver 16) ∷ (Deliver 14) ∷ (Collect 4) ∷ (Leave 3) ∷ (Insert 2 218) ∷ (Collect 1) ∷ (Insert 1 311) ∷ (Insert 3 368) ∷ (Insert 1 184) ∷ (Deliver 29) ∷ (Deliver 16) ∷ (Deliver 12) ∷ (Collect 2) ∷ (Insert 1 446) ∷ (Deliver 8) ∷ (Deliver 8) ∷ (Deliver 21) ∷ (Lookup 1 2) ∷ (Insert 3 156) ∷ (Deliver 5) ∷ (Collect 3) ∷ (Deliver 4) ∷ [])
    (Done ∷ (Inserted 1) ∷ (Refused NoQuestion) ∷ (Opened 1) ∷ Kept ∷ Kept ∷ Kept ∷ Answered ∷ Kept ∷ Nothing ∷ (Refused NoMessage) ∷ (Inserted 2) ∷ (Refused NoQuestion) ∷ Done ∷ (Refused NotSettled) ∷ (Inserted 3) ∷ Kept ∷ (Inserted 4) ∷ Kept ∷ (Inserted 5) ∷ Kept ∷ (Inserted 6) ∷ (Refused NotSettled) ∷ (Refused NoQuestion) ∷ Kept ∷ (Inserted 7) ∷ Kept ∷ Older ∷ Asked ∷ (Opened 2) ∷ Older ∷ Older ∷ (Refused NoMessage) ∷ (Refused NotSettled) ∷ (Opened 3) ∷ (Refused Identifier) ∷ (Inserted 8) ∷ (Opened 4) ∷ (Moved 2) ∷ Kept ∷ Withdrawn ∷ Done ∷ (Inserted 9) ∷ (Refused NoQuestion) ∷ (Inserted 10) ∷ (Refused (PostFull 0)) ∷ (Refused (PostFull 0)) ∷ Kept ∷ Answered ∷ Sent ∷ Withdrawn ∷ (Refused (PostFull 3)) ∷ Sent ∷ Older ∷ Kept ∷ (Opened 5) ∷ (Inserted 11) ∷ Older ∷ (Found 1 93) ∷ Older ∷ [])
    ((peer 3 Leaving) ∷ (peer 1 (Filling 3 1 3)) ∷ [])
    ((kept 1 2 0 1 93) ∷ (kept 1 4 0 10 311) ∷ (kept 1 1 1 10 311) ∷ (kept 1 3 1 1 93) ∷ (kept 3 2 2 7 439) ∷ (kept 3 4 2 2 941) ∷ (kept 3 1 3 6 957) ∷ (kept 3 3 3 4 891) ∷ [])
    ((AddItem 3 1 3 2 941) ∷ (AddItem 3 2 0 2 941) ∷ (AddItem 3 3 1 2 941) ∷ (AddItem 3 2 2 3 414) ∷ (AddItem 3 2 2 4 891) ∷ (AddItem 3 2 2 5 511) ∷ (AddItem 1 2 0 6 957) ∷ (AddItem 1 3 1 6 957) ∷ (AddItem 1 1 1 7 439) ∷ (AddItem 3 3 3 7 439) ∷ (AddItem 3 1 3 8 347) ∷ (AddItem 1 2 0 8 347) ∷ (AddItem 1 3 1 8 347) ∷ (AddItem 3 4 2 8 347) ∷ (Replicate 1 3 1 3) ∷ (AddItem 1 1 2 9 218) ∷ (AddItem 1 2 3 9 218) ∷ (AddItem 1 3 0 9 218) ∷ (AddItem 1 4 1 9 218) ∷ (AddItem 1 2 2 10 311) ∷ (AddItem 1 3 3 10 311) ∷ (AddItem 1 4 2 6 957) ∷ (AddItem 1 3 3 5 511) ∷ (GetItem 1 2 2 5) ∷ (AddItem 1 1 3 11 156) ∷ (AddItem 1 2 0 11 156) ∷ (AddItem 1 3 1 11 156) ∷ (AddItem 1 4 2 11 156) ∷ [])

abbrev pub run_37 : Worked
run_37 =
    worked (settings 1 1 2 0)
    ((Join 0) ∷ (Insert 0 873) ∷ (Insert 0 549) ∷ (Insert 0 646) ∷ (Collect 1) ∷ (Insert 0 559) ∷ (Collect 1) ∷ (Collect 1) ∷ (Join 1) ∷ (Insert 0 906) ∷ (Collect 1) ∷ (Collect 1) ∷ (Lookup 0 1) ∷ (Insert 0 575) ∷ (Insert 0 767) ∷ (Lookup 1 1) ∷ (Collect 2) ∷ (Collect 2) ∷ (Lookup 1 1) ∷ (Insert 0 866) ∷ (Insert 0 849) ∷ (Insert 0 265) ∷ (Insert 0 177) ∷ (Join 0) ∷ (Insert 2 863) ∷ [])
    (Done ∷ (Refused (PostFull 0)) ∷ (Refused (PostFull 0)) ∷ (Refused (PostFull 0)) ∷ (Refused NoQuestion) ∷ (Refused (PostFull 0)) ∷ (Refused NoQuestion) ∷ (Refused NoQuestion) ∷ (Refused Identifier) ∷ (Refused (PostFull 0)) ∷ (Refused NoQuestion) ∷ (Refused NoQuestion) ∷ (Refused (PostFull 0)) ∷ (Refused (PostFull 0)) ∷ (Refused (PostFull 0)) ∷ (Refused Identifier) ∷ (Refused NoQuestion) ∷ (Refused NoQuestion) ∷ (Refused Identifier) ∷ (Refused (PostFull 0)) ∷ (Refused (PostFull 0)) ∷ (Refused (PostFull 0)) ∷ (Refused (PostFull 0)) ∷ (Refused OnTable) ∷ (Refused Identifier) ∷ [])
    ((peer 0 Settled) ∷ [])
    ([])
    ([])

abbrev pub runs : List Worked
runs = (run_1 ∷ run_2 ∷ run_3 ∷ run_4 ∷ run_5 ∷ run_6 ∷ run_7 ∷ run_8 ∷ run_9 ∷ run_10 ∷ run_11 ∷ run_12 ∷ run_13 ∷ run_14 ∷ run_15 ∷ run_16 ∷ run_17 ∷ run_18 ∷ run_19 ∷ run_20 ∷ run_21 ∷ run_22 ∷ run_23 ∷ run_24 ∷ run_25 ∷ run_26 ∷ run_27 ∷ run_28 ∷ run_29 ∷ run_30 ∷ run_31 ∷ run_32 ∷ run_33 ∷ run_34 ∷ run_35 ∷ run_36 ∷ run_37 ∷ [])
