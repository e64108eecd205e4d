-- Random runs of calls, with their answers and what is left. Made by scripts/model.py; not to be edited.
use Rattle.std.specs.Prelude.{List, [], ◌∷◌}
use Rattle.faults.specs.declared.Fault.TheVariants.{Identifier, Replica, OnTable, NotMember, NoMember, OnlyMember, NotSettled, ShelfFull, PostFull, NoMessage, NoQuestion}
use Rattle.messages.specs.declared.Message.TheVariants.{RetrieveItems, Replicate, AddItem, GetItem}
use Rattle.rules.specs.declared.PeerState.TheVariants.{Settled, Filling, Giving}
use Rattle.rules.specs.declared.Call.TheVariants.{Join, Leave, Insert, Lookup, Deliver, Collect}
use Rattle.rules.specs.declared.Answer.TheVariants.{Done, Inserted, Opened, Asked, Moved, Sent, Kept, Older, Answered, Found, Nothing, NotYet, Withdrawn, Refused}
use Rattle.rules.specs.State.{peer}
use Rattle.rule_checks.specs.Worked.{Worked, worked, settings, kept}

abbrev pub run_38 : Worked
run_38 =
    worked (settings 2 1 40 30)
    ((Join 1) ∷ (Insert 0 442) ∷ (Join 0) ∷ (Leave 0) ∷ (Deliver 1) ∷ (Lookup 0 1) ∷ (Insert 0 165) ∷ (Lookup 0 1) ∷ (Deliver 2) ∷ (Insert 1 563) ∷ (Insert 1 781) ∷ (Join 1) ∷ (Deliver 1) ∷ (Lookup 0 1) ∷ (Insert 1 680) ∷ (Join 0) ∷ (Deliver 6) ∷ (Deliver 4) ∷ (Deliver 0) ∷ (Deliver 3) ∷ (Collect 3) ∷ (Collect 2) ∷ (Join 1) ∷ (Deliver 0) ∷ (Insert 1 89) ∷ (Lookup 0 1) ∷ (Leave 0) ∷ (Lookup 0 1) ∷ (Deliver 2) ∷ (Deliver 3) ∷ (Deliver 0) ∷ (Deliver 1) ∷ (Deliver 2) ∷ (Collect 5) ∷ (Insert 2 329) ∷ (Lookup 0 1) ∷ (Collect 4) ∷ (Deliver 0) ∷ (Deliver 0) ∷ (Lookup 0 1) ∷ [])
    (Done ∷ (Inserted 1) ∷ Done ∷ (Refused NotSettled) ∷ Asked ∷ (Opened 1) ∷ (Inserted 2) ∷ (Opened 2) ∷ Answered ∷ (Inserted 3) ∷ (Inserted 4) ∷ (Refused OnTable) ∷ (Moved 0) ∷ (Opened 3) ∷ (Inserted 5) ∷ (Refused OnTable) ∷ Kept ∷ Older ∷ Sent ∷ Answered ∷ Nothing ∷ Withdrawn ∷ (Refused OnTable) ∷ Kept ∷ (Inserted 6) ∷ (Opened 4) ∷ Done ∷ (Opened 5) ∷ Kept ∷ (Moved 1) ∷ Older ∷ Sent ∷ Answered ∷ Withdrawn ∷ (Refused Identifier) ∷ (Opened 6) ∷ (Found 2 165) ∷ Sent ∷ Answered ∷ (Opened 7) ∷ [])
    ((peer 1 Settled) ∷ [])
    ((kept 1 1 0 2 165) ∷ (kept 1 1 1 6 89) ∷ [])
    ((AddItem 1 1 0 1 442) ∷ (GetItem 1 1 0 7) ∷ [])

abbrev pub run_39 : Worked
run_39 =
    worked (settings 3 3 6 30)
    ((Join 0) ∷ (Insert 0 566) ∷ (Insert 2 743) ∷ (Insert 0 164) ∷ (Leave 0) ∷ (Collect 1) ∷ (Insert 0 466) ∷ (Join 1) ∷ (Insert 0 917) ∷ (Leave 1) ∷ (Collect 2) ∷ (Deliver 2) ∷ [])
    (Done ∷ (Inserted 1) ∷ (Inserted 2) ∷ (Refused (ShelfFull 0)) ∷ (Refused OnlyMember) ∷ (Refused NoQuestion) ∷ (Refused (ShelfFull 0)) ∷ Done ∷ (Refused (ShelfFull 0)) ∷ (Refused NotSettled) ∷ (Refused NoQuestion) ∷ Kept ∷ [])
    ((peer 0 Giving) ∷ (peer 1 (Filling 0 0 1)) ∷ [])
    ((kept 0 3 2 1 566) ∷ [])
    ((AddItem 0 1 0 1 566) ∷ (AddItem 0 2 1 1 566) ∷ (AddItem 0 1 2 2 743) ∷ (AddItem 0 2 0 2 743) ∷ (AddItem 0 3 1 2 743) ∷ (RetrieveItems 0 1 0 1) ∷ [])

abbrev pub run_40 : Worked
run_40 =
    worked (settings 6 3 0 8)
    ((Join 0) ∷ (Insert 0 543) ∷ (Join 5) ∷ (Leave 0) ∷ (Collect 1) ∷ (Lookup 0 3) ∷ (Insert 0 175) ∷ (Deliver 1) ∷ (Insert 3 812) ∷ (Deliver 0) ∷ (Lookup 3 1) ∷ (Deliver 0) ∷ (Leave 5) ∷ (Insert 3 45) ∷ (Lookup 3 2) ∷ (Deliver 1) ∷ (Join 4) ∷ (Join 5) ∷ (Deliver 1) ∷ (Leave 4) ∷ (Deliver 1) ∷ (Collect 1) ∷ (Deliver 0) ∷ (Deliver 1) ∷ (Collect 1) ∷ (Deliver 0) ∷ (Insert 5 513) ∷ (Leave 0) ∷ (Deliver 0) ∷ (Insert 3 450) ∷ (Insert 0 491) ∷ (Collect 3) ∷ (Insert 0 227) ∷ (Join 4) ∷ (Join 1) ∷ (Lookup 0 4) ∷ (Leave 1) ∷ (Deliver 0) ∷ (Lookup 0 3) ∷ (Deliver 0) ∷ (Join 5) ∷ (Deliver 0) ∷ (Join 3) ∷ (Deliver 1) ∷ (Deliver 0) ∷ (Deliver 1) ∷ (Insert 3 856) ∷ (Join 0) ∷ (Join 2) ∷ (Deliver 1) ∷ (Insert 0 428) ∷ (Leave 2) ∷ (Insert 0 222) ∷ (Leave 4) ∷ (Collect 2) ∷ (Deliver 0) ∷ (Lookup 0 2) ∷ (Deliver 0) ∷ (Deliver 0) ∷ (Insert 3 685) ∷ [])
    (Done ∷ (Refused (ShelfFull 0)) ∷ Done ∷ (Refused NotSettled) ∷ (Refused NoQuestion) ∷ (Opened 1) ∷ (Refused (ShelfFull 0)) ∷ Answered ∷ (Refused (ShelfFull 0)) ∷ Asked ∷ (Opened 2) ∷ (Moved 0) ∷ Done ∷ (Refused (ShelfFull 0)) ∷ (Opened 3) ∷ (Moved 0) ∷ Done ∷ (Refused NotSettled) ∷ Answered ∷ (Refused NotSettled) ∷ Asked ∷ NotYet ∷ Sent ∷ Answered ∷ (Refused NoQuestion) ∷ (Moved 0) ∷ (Refused (ShelfFull 0)) ∷ Done ∷ (Moved 0) ∷ (Refused (ShelfFull 0)) ∷ (Refused (ShelfFull 0)) ∷ Nothing ∷ (Refused (ShelfFull 0)) ∷ (Refused OnTable) ∷ Done ∷ (Refused Replica) ∷ (Refused NotSettled) ∷ Asked ∷ (Opened 4) ∷ (Moved 0) ∷ Done ∷ Answered ∷ Done ∷ Asked ∷ Asked ∷ (Moved 0) ∷ (Refused (ShelfFull 0)) ∷ Done ∷ (Refused NotSettled) ∷ Asked ∷ (Refused (ShelfFull 0)) ∷ (Refused NotMember) ∷ (Refused (ShelfFull 0)) ∷ (Refused NotSettled) ∷ NotYet ∷ (Moved 0) ∷ (Opened 5) ∷ (Moved 0) ∷ Answered ∷ (Refused (ShelfFull 0)) ∷ [])
    ((peer 4 Settled) ∷ (peer 1 Settled) ∷ (peer 5 Settled) ∷ (peer 3 Settled) ∷ (peer 0 Settled) ∷ [])
    ([])
    ([])

abbrev pub run_41 : Worked
run_41 =
    worked (settings 3 3 6 30)
    ((Join 1) ∷ (Insert 0 126) ∷ (Insert 0 40) ∷ (Insert 0 954) ∷ (Lookup 1 2) ∷ (Insert 1 13) ∷ (Insert 0 258) ∷ (Deliver 2) ∷ (Join 2) ∷ (Deliver 0) ∷ (Collect 1) ∷ (Deliver 4) ∷ (Insert 1 209) ∷ (Deliver 4) ∷ (Deliver 3) ∷ (Lookup 2 0) ∷ (Deliver 0) ∷ (Deliver 1) ∷ (Insert 0 709) ∷ (Insert 1 687) ∷ (Lookup 1 3) ∷ (Deliver 1) ∷ (Deliver 1) ∷ (Deliver 0) ∷ (Insert 0 919) ∷ (Collect 2) ∷ (Deliver 2) ∷ (Deliver 0) ∷ (Lookup 0 1) ∷ (Deliver 1) ∷ (Lookup 1 4) ∷ (Deliver 0) ∷ (Insert 0 53) ∷ (Deliver 2) ∷ (Deliver 0) ∷ (Collect 3) ∷ (Collect 2) ∷ (Join 0) ∷ (Deliver 0) ∷ (Join 2) ∷ [])
    (Done ∷ (Inserted 1) ∷ (Inserted 2) ∷ (Refused (ShelfFull 0)) ∷ (Opened 1) ∷ (Refused (ShelfFull 0)) ∷ (Refused (ShelfFull 0)) ∷ Kept ∷ Done ∷ Kept ∷ Withdrawn ∷ Asked ∷ (Refused (ShelfFull 0)) ∷ (Moved 1) ∷ Sent ∷ (Refused Replica) ∷ Kept ∷ Kept ∷ (Refused (ShelfFull 1)) ∷ (Refused (ShelfFull 1)) ∷ (Opened 2) ∷ Kept ∷ Answered ∷ Kept ∷ (Inserted 3) ∷ Nothing ∷ Kept ∷ Kept ∷ (Opened 3) ∷ Answered ∷ (Refused Replica) ∷ Kept ∷ (Inserted 4) ∷ Kept ∷ Kept ∷ (Found 3 919) ∷ (Refused NoQuestion) ∷ Done ∷ Kept ∷ (Refused OnTable) ∷ [])
    ((peer 1 Giving) ∷ (peer 2 Settled) ∷ (peer 0 (Filling 1 2 0)) ∷ [])
    ((kept 1 1 0 4 53) ∷ (kept 1 2 1 4 53) ∷ (kept 2 3 2 4 53) ∷ [])
    ((RetrieveItems 1 0 2 0) ∷ [])

abbrev pub run_42 : Worked
run_42 =
    worked (settings 16 4 40 30)
    ((Deliver 1) ∷ (Insert 14 999) ∷ (Lookup 14 3) ∷ (Insert 12 580) ∷ (Join 3) ∷ (Insert 12 80) ∷ (Insert 12 181) ∷ (Lookup 14 5) ∷ (Lookup 3 4) ∷ (Lookup 14 1) ∷ (Deliver 0) ∷ (Insert 1 650) ∷ (Lookup 3 2) ∷ (Insert 14 477) ∷ (Deliver 17) ∷ (Collect 1) ∷ (Insert 12 284) ∷ (Deliver 0) ∷ (Deliver 3) ∷ (Deliver 11) ∷ (Deliver 11) ∷ (Collect 3) ∷ (Join 14) ∷ (Join 8) ∷ (Leave 3) ∷ (Join 11) ∷ (Deliver 8) ∷ (Lookup 12 5) ∷ (Deliver 9) ∷ (Insert 12 776) ∷ (Lookup 12 2) ∷ (Join 5) ∷ (Deliver 17) ∷ (Leave 3) ∷ (Collect 2) ∷ (Leave 14) ∷ (Deliver 18) ∷ (Deliver 7) ∷ (Leave 14) ∷ (Insert 14 216) ∷ (Deliver 19) ∷ (Deliver 0) ∷ (Insert 14 784) ∷ (Deliver 5) ∷ (Deliver 12) ∷ (Deliver 2) ∷ (Lookup 3 1) ∷ (Insert 12 655) ∷ (Lookup 14 2) ∷ (Insert 3 552) ∷ (Deliver 2) ∷ (Collect 5) ∷ (Insert 12 398) ∷ (Collect 6) ∷ (Leave 3) ∷ (Deliver 10) ∷ (Deliver 24) ∷ (Deliver 3) ∷ (Deliver 11) ∷ (Leave 3) ∷ [])
    ((Refused NoMessage) ∷ (Refused NoMember) ∷ (Refused NoMember) ∷ (Refused NoMember) ∷ Done ∷ (Inserted 1) ∷ (Inserted 2) ∷ (Refused Replica) ∷ (Opened 1) ∷ (Opened 2) ∷ Kept ∷ (Inserted 3) ∷ (Opened 3) ∷ (Inserted 4) ∷ Kept ∷ Withdrawn ∷ (Inserted 5) ∷ Kept ∷ Kept ∷ Kept ∷ Kept ∷ Withdrawn ∷ Done ∷ (Refused NotSettled) ∷ (Refused NotSettled) ∷ (Refused NotSettled) ∷ Sent ∷ (Refused Replica) ∷ Sent ∷ (Inserted 6) ∷ (Opened 4) ∷ (Refused NotSettled) ∷ Kept ∷ (Refused NotSettled) ∷ Withdrawn ∷ (Refused NotSettled) ∷ Answered ∷ Sent ∷ (Refused NotSettled) ∷ (Inserted 7) ∷ Kept ∷ Sent ∷ (Inserted 8) ∷ Sent ∷ Kept ∷ Sent ∷ (Opened 5) ∷ (Inserted 9) ∷ (Opened 6) ∷ (Refused (PostFull 0)) ∷ Sent ∷ Withdrawn ∷ (Refused (PostFull 1)) ∷ Withdrawn ∷ (Refused NotSettled) ∷ Kept ∷ Kept ∷ Sent ∷ Kept ∷ (Refused NotSettled) ∷ [])
    ((peer 3 Giving) ∷ (peer 14 (Filling 3 3 14)) ∷ [])
    ((kept 3 2 0 6 776) ∷ (kept 3 2 2 7 216) ∷ (kept 3 4 10 4 477) ∷ (kept 3 1 12 1 80) ∷ (kept 3 1 14 4 477) ∷ (kept 14 3 4 9 655) ∷ (kept 14 1 12 6 776) ∷ (kept 14 1 14 7 216) ∷ [])
    ((AddItem 3 4 8 1 80) ∷ (AddItem 3 1 12 2 181) ∷ (AddItem 3 1 1 3 650) ∷ (AddItem 3 2 0 5 284) ∷ (AddItem 3 3 4 5 284) ∷ (AddItem 3 4 8 5 284) ∷ (RetrieveItems 3 14 3 14) ∷ (AddItem 14 3 9 3 650) ∷ (AddItem 14 3 6 4 477) ∷ (AddItem 14 4 8 6 776) ∷ (AddItem 14 4 13 3 650) ∷ (AddItem 14 3 6 7 216) ∷ (AddItem 14 4 10 7 216) ∷ (AddItem 14 3 4 1 80) ∷ (AddItem 14 1 14 8 784) ∷ (AddItem 3 2 2 8 784) ∷ (AddItem 14 3 6 8 784) ∷ (AddItem 14 4 10 8 784) ∷ (AddItem 14 2 5 3 650) ∷ (AddItem 14 3 4 2 181) ∷ (AddItem 14 1 12 9 655) ∷ (AddItem 3 2 0 9 655) ∷ (AddItem 14 4 8 9 655) ∷ (AddItem 14 4 8 2 181) ∷ (AddItem 14 1 12 5 284) ∷ [])

abbrev pub run_43 : Worked
run_43 =
    worked (settings 2 2 6 6)
    ((Join 1) ∷ (Deliver 1) ∷ (Insert 0 684) ∷ (Deliver 0) ∷ (Deliver 0) ∷ (Join 0) ∷ (Insert 1 705) ∷ (Insert 1 296) ∷ (Insert 1 364) ∷ (Deliver 3) ∷ (Deliver 3) ∷ (Deliver 0) ∷ (Leave 0) ∷ (Deliver 1) ∷ (Deliver 0) ∷ (Deliver 0) ∷ (Leave 0) ∷ (Lookup 0 1) ∷ (Deliver 1) ∷ (Deliver 0) ∷ (Insert 1 576) ∷ (Deliver 0) ∷ (Lookup 1 2) ∷ (Join 0) ∷ (Deliver 2) ∷ (Deliver 0) ∷ (Deliver 0) ∷ (Lookup 0 2) ∷ (Insert 1 60) ∷ (Lookup 0 3) ∷ (Insert 0 326) ∷ (Leave 1) ∷ (Deliver 2) ∷ (Deliver 3) ∷ (Deliver 2) ∷ (Join 2) ∷ (Collect 2) ∷ (Leave 0) ∷ (Deliver 1) ∷ (Leave 1) ∷ (Join 2) ∷ (Join 1) ∷ (Insert 1 790) ∷ (Collect 2) ∷ (Join 0) ∷ (Deliver 0) ∷ (Insert 0 201) ∷ (Lookup 1 0) ∷ (Insert 1 984) ∷ (Leave 1) ∷ (Deliver 0) ∷ (Join 2) ∷ (Collect 4) ∷ (Deliver 1) ∷ (Deliver 0) ∷ (Insert 1 993) ∷ (Collect 3) ∷ (Insert 1 794) ∷ (Join 1) ∷ (Deliver 0) ∷ [])
    (Done ∷ (Refused NoMessage) ∷ (Inserted 1) ∷ Kept ∷ Kept ∷ Done ∷ (Inserted 2) ∷ (Inserted 3) ∷ (Refused (ShelfFull 0)) ∷ Kept ∷ Kept ∷ Asked ∷ (Refused NotSettled) ∷ Older ∷ Older ∷ (Moved 1) ∷ Done ∷ (Opened 1) ∷ Answered ∷ (Moved 2) ∷ (Inserted 4) ∷ Kept ∷ (Opened 2) ∷ Done ∷ Asked ∷ Sent ∷ Sent ∷ (Opened 3) ∷ (Refused (ShelfFull 1)) ∷ (Refused Replica) ∷ (Refused (ShelfFull 1)) ∷ (Refused NotSettled) ∷ Answered ∷ (Refused NoMessage) ∷ Answered ∷ (Refused Identifier) ∷ NotYet ∷ (Refused NotSettled) ∷ Kept ∷ (Refused NotSettled) ∷ (Refused Identifier) ∷ (Refused OnTable) ∷ (Refused (ShelfFull 1)) ∷ (Refused NoQuestion) ∷ (Refused OnTable) ∷ (Moved 2) ∷ (Inserted 5) ∷ (Refused Replica) ∷ (Refused (ShelfFull 0)) ∷ Done ∷ Kept ∷ (Refused Identifier) ∷ (Refused NoQuestion) ∷ (Moved 2) ∷ Sent ∷ (Refused (ShelfFull 1)) ∷ (Found 1 684) ∷ (Refused (ShelfFull 1)) ∷ Done ∷ Sent ∷ [])
    ((peer 0 Giving) ∷ (peer 1 (Filling 0 0 1)) ∷ [])
    ((kept 0 1 0 5 201) ∷ (kept 0 2 0 4 576) ∷ (kept 0 1 1 4 576) ∷ (kept 0 2 1 1 684) ∷ [])
    ((RetrieveItems 0 1 0 1) ∷ (AddItem 1 2 1 5 201) ∷ [])

abbrev pub run_44 : Worked
run_44 =
    worked (settings 2 2 4 30)
    ((Join 0) ∷ (Insert 1 344) ∷ (Insert 0 460) ∷ (Insert 1 382) ∷ (Deliver 2) ∷ (Collect 1) ∷ (Deliver 0) ∷ (Deliver 1) ∷ (Deliver 1) ∷ (Join 1) ∷ (Deliver 1) ∷ (Collect 2) ∷ (Deliver 1) ∷ (Deliver 0) ∷ (Leave 1) ∷ (Join 1) ∷ (Deliver 0) ∷ (Insert 1 995) ∷ (Insert 1 132) ∷ (Join 1) ∷ (Deliver 0) ∷ (Deliver 0) ∷ (Join 0) ∷ (Deliver 0) ∷ (Join 1) ∷ (Insert 1 343) ∷ (Leave 1) ∷ (Join 0) ∷ (Insert 0 56) ∷ (Lookup 0 2) ∷ (Deliver 1) ∷ (Collect 1) ∷ (Join 2) ∷ (Deliver 0) ∷ (Deliver 1) ∷ (Deliver 0) ∷ (Insert 1 620) ∷ (Insert 1 284) ∷ (Insert 1 62) ∷ (Collect 3) ∷ [])
    (Done ∷ (Inserted 1) ∷ (Inserted 2) ∷ (Refused (ShelfFull 0)) ∷ Kept ∷ (Refused NoQuestion) ∷ Kept ∷ Kept ∷ (Refused NoMessage) ∷ Done ∷ Asked ∷ (Refused NoQuestion) ∷ (Moved 2) ∷ Kept ∷ Done ∷ (Refused OnTable) ∷ (Moved 2) ∷ (Refused (ShelfFull 0)) ∷ (Refused (ShelfFull 0)) ∷ Done ∷ Asked ∷ (Moved 2) ∷ (Refused OnTable) ∷ (Refused NoMessage) ∷ (Refused OnTable) ∷ (Refused (ShelfFull 0)) ∷ Done ∷ (Refused OnTable) ∷ (Refused (ShelfFull 0)) ∷ (Opened 1) ∷ Answered ∷ NotYet ∷ (Refused Identifier) ∷ (Moved 2) ∷ (Refused NoMessage) ∷ (Refused NoMessage) ∷ (Refused (ShelfFull 0)) ∷ (Refused (ShelfFull 0)) ∷ (Refused (ShelfFull 0)) ∷ (Refused NoQuestion) ∷ [])
    ((peer 0 Settled) ∷ [])
    ((kept 0 1 0 2 460) ∷ (kept 0 2 0 1 344) ∷ (kept 0 1 1 1 344) ∷ (kept 0 2 1 2 460) ∷ [])
    ([])

abbrev pub run_45 : Worked
run_45 =
    worked (settings 8 4 40 30)
    ((Join 2) ∷ (Insert 3 991) ∷ (Deliver 0) ∷ (Deliver 1) ∷ (Leave 2) ∷ (Deliver 1) ∷ (Deliver 0) ∷ (Join 6) ∷ (Deliver 0) ∷ (Collect 1) ∷ (Deliver 0) ∷ (Insert 3 122) ∷ (Deliver 3) ∷ (Deliver 1) ∷ (Insert 3 452) ∷ (Deliver 0) ∷ (Deliver 4) ∷ (Deliver 3) ∷ (Leave 6) ∷ (Deliver 2) ∷ (Deliver 1) ∷ (Deliver 0) ∷ (Deliver 1) ∷ (Lookup 5 1) ∷ (Deliver 2) ∷ (Deliver 0) ∷ (Lookup 3 3) ∷ (Deliver 0) ∷ (Lookup 5 2) ∷ (Collect 3) ∷ (Deliver 0) ∷ (Insert 4 550) ∷ (Deliver 2) ∷ (Deliver 1) ∷ (Deliver 0) ∷ (Deliver 0) ∷ (Lookup 4 1) ∷ (Deliver 0) ∷ (Insert 4 824) ∷ (Insert 4 161) ∷ (Join 7) ∷ (Deliver 7) ∷ (Deliver 0) ∷ (Join 1) ∷ (Insert 3 775) ∷ (Deliver 4) ∷ (Deliver 5) ∷ (Deliver 9) ∷ (Deliver 12) ∷ (Leave 2) ∷ (Deliver 0) ∷ (Deliver 8) ∷ (Insert 4 344) ∷ (Deliver 7) ∷ (Insert 5 316) ∷ (Collect 4) ∷ (Deliver 11) ∷ (Deliver 12) ∷ (Insert 4 504) ∷ (Join 3) ∷ [])
    (Done ∷ (Inserted 1) ∷ Kept ∷ Kept ∷ (Refused OnlyMember) ∷ Kept ∷ Kept ∷ Done ∷ Asked ∷ (Refused NoQuestion) ∷ (Moved 2) ∷ (Inserted 2) ∷ Kept ∷ Kept ∷ (Inserted 3) ∷ Kept ∷ Kept ∷ Kept ∷ Done ∷ Sent ∷ Sent ∷ Older ∷ Kept ∷ (Opened 1) ∷ Answered ∷ (Moved 2) ∷ (Opened 2) ∷ Kept ∷ (Opened 3) ∷ Withdrawn ∷ Answered ∷ (Inserted 4) ∷ Kept ∷ Kept ∷ Kept ∷ Kept ∷ (Opened 4) ∷ Answered ∷ (Inserted 5) ∷ (Inserted 6) ∷ Done ∷ Kept ∷ Sent ∷ (Refused NotSettled) ∷ (Inserted 7) ∷ Sent ∷ Asked ∷ Kept ∷ (Refused NoMessage) ∷ (Refused NotSettled) ∷ Sent ∷ Kept ∷ (Inserted 8) ∷ Kept ∷ (Inserted 9) ∷ (Found 4 550) ∷ Kept ∷ Kept ∷ (Inserted 10) ∷ (Refused NotSettled) ∷ [])
    ((peer 2 Giving) ∷ (peer 7 (Filling 2 2 7)) ∷ [])
    ((kept 2 3 0 8 344) ∷ (kept 2 4 1 7 775) ∷ (kept 2 4 2 6 161) ∷ (kept 2 1 3 3 452) ∷ (kept 2 1 4 4 550) ∷ (kept 2 2 5 3 452) ∷ (kept 2 2 6 4 550) ∷ (kept 2 3 7 3 452) ∷ (kept 7 1 5 9 316) ∷ (kept 7 2 6 6 161) ∷ (kept 7 3 7 7 775) ∷ [])
    ((AddItem 2 3 0 5 824) ∷ (AddItem 2 4 2 5 824) ∷ (AddItem 2 1 4 6 161) ∷ (AddItem 2 3 0 6 161) ∷ (AddItem 7 1 4 5 824) ∷ (AddItem 7 1 3 7 775) ∷ (AddItem 7 2 5 7 775) ∷ (Replicate 7 2 2 7) ∷ (AddItem 7 2 6 5 824) ∷ (AddItem 7 1 4 8 344) ∷ (AddItem 7 2 6 8 344) ∷ (AddItem 2 4 2 8 344) ∷ (AddItem 7 2 7 9 316) ∷ (AddItem 2 3 1 9 316) ∷ (AddItem 7 4 3 9 316) ∷ (AddItem 7 1 4 10 504) ∷ (AddItem 7 2 6 10 504) ∷ (AddItem 2 3 0 10 504) ∷ (AddItem 2 4 2 10 504) ∷ [])

abbrev pub run_46 : Worked
run_46 =
    worked (settings 6 3 6 30)
    ((Join 2) ∷ (Lookup 0 1) ∷ (Deliver 0) ∷ (Lookup 5 3) ∷ (Collect 2) ∷ (Insert 0 122) ∷ (Lookup 5 3) ∷ (Collect 1) ∷ (Insert 2 133) ∷ (Deliver 3) ∷ (Collect 3) ∷ (Deliver 0) ∷ (Lookup 7 1) ∷ (Deliver 2) ∷ (Insert 0 53) ∷ (Lookup 2 3) ∷ (Collect 4) ∷ (Deliver 0) ∷ (Insert 0 789) ∷ (Insert 0 111) ∷ (Deliver 1) ∷ (Deliver 1) ∷ (Deliver 0) ∷ (Collect 4) ∷ (Lookup 5 2) ∷ (Insert 2 359) ∷ (Deliver 0) ∷ (Insert 5 326) ∷ (Deliver 1) ∷ (Insert 2 947) ∷ (Lookup 2 3) ∷ (Insert 0 803) ∷ (Deliver 0) ∷ (Collect 8) ∷ (Insert 5 52) ∷ (Lookup 5 1) ∷ (Collect 6) ∷ (Deliver 0) ∷ (Insert 0 85) ∷ (Deliver 1) ∷ [])
    (Done ∷ (Opened 1) ∷ Answered ∷ (Opened 2) ∷ Withdrawn ∷ (Inserted 1) ∷ (Opened 3) ∷ Nothing ∷ (Inserted 2) ∷ Answered ∷ Nothing ∷ Kept ∷ (Refused Identifier) ∷ Kept ∷ (Refused (ShelfFull 0)) ∷ (Opened 4) ∷ Withdrawn ∷ Kept ∷ (Refused (ShelfFull 0)) ∷ (Refused (ShelfFull 0)) ∷ Kept ∷ Kept ∷ Kept ∷ (Refused NoQuestion) ∷ (Opened 5) ∷ (Refused (ShelfFull 0)) ∷ Answered ∷ (Refused (ShelfFull 0)) ∷ (Refused NoMessage) ∷ (Refused (ShelfFull 0)) ∷ (Opened 6) ∷ (Refused (ShelfFull 0)) ∷ Answered ∷ (Refused NoQuestion) ∷ (Refused (ShelfFull 0)) ∷ (Opened 7) ∷ (Found 2 133) ∷ Answered ∷ (Refused (ShelfFull 0)) ∷ (Refused NoMessage) ∷ [])
    ((peer 2 Settled) ∷ [])
    ((kept 2 1 0 1 122) ∷ (kept 2 3 0 2 133) ∷ (kept 2 1 2 2 133) ∷ (kept 2 2 2 1 122) ∷ (kept 2 2 4 2 133) ∷ (kept 2 3 4 1 122) ∷ [])
    ([])

abbrev pub run_47 : Worked
run_47 =
    worked (settings 4 2 40 6)
    ((Join 1) ∷ (Lookup 1 2) ∷ (Insert 0 466) ∷ (Deliver 1) ∷ (Deliver 1) ∷ (Insert 0 285) ∷ (Lookup 2 1) ∷ (Insert 0 523) ∷ (Collect 2) ∷ (Deliver 0) ∷ (Lookup 0 1) ∷ (Deliver 3) ∷ [])
    (Done ∷ (Opened 1) ∷ (Inserted 1) ∷ Kept ∷ Kept ∷ (Inserted 2) ∷ (Opened 2) ∷ (Inserted 3) ∷ Withdrawn ∷ Answered ∷ (Opened 3) ∷ Kept ∷ [])
    ((peer 1 Settled) ∷ [])
    ((kept 1 1 0 1 466) ∷ (kept 1 2 2 3 523) ∷ [])
    ((AddItem 1 1 0 2 285) ∷ (AddItem 1 2 2 2 285) ∷ (AddItem 1 1 0 3 523) ∷ (GetItem 1 1 0 3) ∷ [])

abbrev pub run_48 : Worked
run_48 =
    worked (settings 8 2 4 6)
    ((Join 3) ∷ (Join 6) ∷ (Deliver 0) ∷ (Leave 6) ∷ (Deliver 0) ∷ (Deliver 0) ∷ (Leave 6) ∷ (Deliver 0) ∷ (Join 5) ∷ (Deliver 0) ∷ (Deliver 0) ∷ (Leave 3) ∷ (Join 7) ∷ (Deliver 0) ∷ (Insert 3 564) ∷ (Join 4) ∷ (Collect 1) ∷ (Deliver 0) ∷ (Lookup 3 1) ∷ (Join 7) ∷ (Insert 5 435) ∷ (Insert 3 883) ∷ (Leave 4) ∷ (Lookup 3 2) ∷ (Deliver 5) ∷ [])
    (Done ∷ Done ∷ Asked ∷ (Refused NotSettled) ∷ (Moved 0) ∷ (Refused NoMessage) ∷ Done ∷ (Moved 0) ∷ Done ∷ Asked ∷ (Moved 0) ∷ Done ∷ (Refused NotSettled) ∷ (Moved 0) ∷ (Inserted 1) ∷ Done ∷ (Refused NoQuestion) ∷ Sent ∷ (Opened 1) ∷ (Refused NotSettled) ∷ (Inserted 2) ∷ (Refused (ShelfFull 0)) ∷ (Refused NotSettled) ∷ (Refused (PostFull 0)) ∷ Kept ∷ [])
    ((peer 5 Giving) ∷ (peer 4 (Filling 5 5 4)) ∷ [])
    ((kept 4 2 1 2 435) ∷ [])
    ((AddItem 5 2 7 1 564) ∷ (RetrieveItems 5 4 5 4) ∷ (AddItem 4 1 3 1 564) ∷ (GetItem 4 1 3 1) ∷ (AddItem 5 1 5 2 435) ∷ [])

abbrev pub run_49 : Worked
run_49 =
    worked (settings 8 4 0 30)
    ((Insert 4 43) ∷ (Join 7) ∷ (Deliver 1) ∷ (Lookup 3 4) ∷ (Leave 7) ∷ (Join 4) ∷ (Insert 1 739) ∷ (Deliver 1) ∷ (Deliver 1) ∷ (Insert 4 462) ∷ (Collect 1) ∷ (Collect 1) ∷ [])
    ((Refused NoMember) ∷ Done ∷ (Refused NoMessage) ∷ (Opened 1) ∷ (Refused OnlyMember) ∷ Done ∷ (Refused (ShelfFull 0)) ∷ Asked ∷ (Moved 0) ∷ (Refused (ShelfFull 0)) ∷ Withdrawn ∷ (Refused NoQuestion) ∷ [])
    ((peer 7 Settled) ∷ (peer 4 Settled) ∷ [])
    ([])
    ([])

abbrev pub run_50 : Worked
run_50 =
    worked (settings 2 2 0 6)
    ((Join 0) ∷ (Insert 1 862) ∷ (Insert 1 264) ∷ (Insert 1 525) ∷ (Join 1) ∷ (Deliver 0) ∷ (Deliver 0) ∷ (Insert 1 275) ∷ (Join 0) ∷ (Join 2) ∷ (Join 0) ∷ (Insert 0 452) ∷ [])
    (Done ∷ (Refused (ShelfFull 0)) ∷ (Refused (ShelfFull 0)) ∷ (Refused (ShelfFull 0)) ∷ Done ∷ Asked ∷ (Moved 0) ∷ (Refused (ShelfFull 0)) ∷ (Refused OnTable) ∷ (Refused Identifier) ∷ (Refused OnTable) ∷ (Refused (ShelfFull 0)) ∷ [])
    ((peer 0 Settled) ∷ (peer 1 Settled) ∷ [])
    ([])
    ([])

abbrev pub run_51 : Worked
run_51 =
    worked (settings 16 4 40 30)
    ((Join 3) ∷ (Insert 12 456) ∷ (Leave 3) ∷ (Deliver 0) ∷ (Insert 11 506) ∷ (Lookup 5 0) ∷ (Deliver 0) ∷ (Deliver 1) ∷ (Deliver 2) ∷ (Deliver 4) ∷ (Collect 2) ∷ (Deliver 0) ∷ (Deliver 0) ∷ (Join 0) ∷ (Deliver 1) ∷ (Leave 3) ∷ (Deliver 0) ∷ (Deliver 0) ∷ (Deliver 0) ∷ (Deliver 0) ∷ (Insert 1 525) ∷ (Join 14) ∷ (Deliver 6) ∷ (Deliver 3) ∷ (Deliver 0) ∷ [])
    (Done ∷ (Inserted 1) ∷ (Refused OnlyMember) ∷ Kept ∷ (Inserted 2) ∷ (Refused Replica) ∷ Kept ∷ Kept ∷ Kept ∷ (Refused NoMessage) ∷ (Refused NoQuestion) ∷ Kept ∷ Kept ∷ Done ∷ Sent ∷ (Refused NotSettled) ∷ Kept ∷ Asked ∷ Kept ∷ (Moved 6) ∷ (Inserted 3) ∷ Done ∷ (Refused NoMessage) ∷ Sent ∷ Kept ∷ [])
    ((peer 3 Settled) ∷ (peer 0 Giving) ∷ (peer 14 (Filling 0 3 14)) ∷ [])
    ((kept 0 2 0 1 456) ∷ (kept 0 3 4 1 456) ∷ (kept 0 4 7 2 506) ∷ (kept 0 4 8 1 456) ∷ (kept 0 1 11 2 506) ∷ (kept 0 1 12 1 456) ∷ (kept 0 2 15 2 506) ∷ (kept 3 1 1 3 525) ∷ (kept 3 3 3 2 506) ∷ [])
    ((AddItem 0 2 5 3 525) ∷ (AddItem 0 3 9 3 525) ∷ (RetrieveItems 0 14 3 14) ∷ (AddItem 14 4 13 3 525) ∷ [])

abbrev pub run_52 : Worked
run_52 =
    worked (settings 2 1 40 4)
    ((Join 1) ∷ (Collect 2) ∷ (Insert 0 187) ∷ (Insert 1 103) ∷ (Lookup 2 0) ∷ (Deliver 1) ∷ (Deliver 0) ∷ (Collect 2) ∷ (Insert 0 290) ∷ (Lookup 0 1) ∷ (Insert 0 315) ∷ (Insert 0 466) ∷ (Insert 1 181) ∷ (Insert 0 65) ∷ (Deliver 0) ∷ (Lookup 1 1) ∷ (Deliver 2) ∷ (Insert 0 48) ∷ (Deliver 3) ∷ (Collect 1) ∷ (Collect 2) ∷ (Insert 1 395) ∷ (Deliver 0) ∷ (Collect 4) ∷ (Insert 0 153) ∷ (Lookup 1 1) ∷ (Lookup 0 1) ∷ (Insert 1 690) ∷ (Join 0) ∷ (Insert 1 581) ∷ (Insert 1 410) ∷ (Collect 2) ∷ (Deliver 2) ∷ (Insert 0 756) ∷ (Join 0) ∷ (Collect 3) ∷ (Insert 0 877) ∷ (Deliver 0) ∷ (Deliver 1) ∷ (Collect 1) ∷ (Collect 4) ∷ (Insert 0 797) ∷ (Deliver 1) ∷ (Insert 0 289) ∷ (Insert 0 394) ∷ (Deliver 5) ∷ (Deliver 3) ∷ (Insert 0 240) ∷ (Deliver 0) ∷ (Insert 0 244) ∷ (Deliver 3) ∷ (Lookup 0 1) ∷ (Insert 0 781) ∷ (Insert 0 318) ∷ (Collect 5) ∷ (Insert 2 787) ∷ (Join 2) ∷ (Join 2) ∷ (Lookup 0 1) ∷ (Deliver 1) ∷ [])
    (Done ∷ (Refused NoQuestion) ∷ (Inserted 1) ∷ (Inserted 2) ∷ (Refused Identifier) ∷ Kept ∷ Kept ∷ (Refused NoQuestion) ∷ (Inserted 3) ∷ (Opened 1) ∷ (Inserted 4) ∷ (Inserted 5) ∷ (Refused (PostFull 0)) ∷ (Refused (PostFull 0)) ∷ Kept ∷ (Opened 2) ∷ Kept ∷ (Inserted 6) ∷ Kept ∷ Withdrawn ∷ Withdrawn ∷ (Inserted 7) ∷ Older ∷ (Refused NoQuestion) ∷ (Inserted 8) ∷ (Opened 3) ∷ (Opened 4) ∷ (Refused (PostFull 0)) ∷ (Refused (PostFull 0)) ∷ (Refused (PostFull 0)) ∷ (Refused (PostFull 0)) ∷ (Refused NoQuestion) ∷ Answered ∷ (Inserted 9) ∷ (Refused (PostFull 0)) ∷ (Found 2 103) ∷ (Refused (PostFull 0)) ∷ Kept ∷ Answered ∷ (Refused NoQuestion) ∷ (Found 6 48) ∷ (Inserted 10) ∷ Kept ∷ (Inserted 11) ∷ (Inserted 12) ∷ (Refused NoMessage) ∷ Kept ∷ (Inserted 13) ∷ Older ∷ (Inserted 14) ∷ Kept ∷ (Opened 5) ∷ (Refused (PostFull 0)) ∷ (Refused (PostFull 0)) ∷ Withdrawn ∷ (Refused Identifier) ∷ (Refused Identifier) ∷ (Refused Identifier) ∷ (Opened 6) ∷ Older ∷ [])
    ((peer 1 Settled) ∷ [])
    ((kept 1 1 0 14 244) ∷ (kept 1 1 1 7 395) ∷ [])
    ((AddItem 1 1 0 10 797) ∷ (AddItem 1 1 0 13 240) ∷ (GetItem 1 1 0 6) ∷ [])

abbrev pub run_53 : Worked
run_53 =
    worked (settings 1 1 3 0)
    ((Join 0) ∷ (Lookup 0 1) ∷ (Lookup 0 1) ∷ (Insert 0 153) ∷ (Deliver 1) ∷ (Insert 0 902) ∷ (Insert 0 277) ∷ (Insert 0 790) ∷ (Insert 0 971) ∷ (Insert 0 726) ∷ (Insert 0 167) ∷ (Deliver 1) ∷ (Insert 0 189) ∷ (Insert 0 998) ∷ (Insert 0 975) ∷ (Lookup 0 1) ∷ (Insert 0 166) ∷ (Insert 0 346) ∷ (Deliver 1) ∷ (Join 0) ∷ (Insert 0 816) ∷ (Deliver 0) ∷ (Collect 2) ∷ (Insert 0 36) ∷ (Join 1) ∷ (Join 0) ∷ (Insert 0 394) ∷ (Insert 0 65) ∷ (Join 0) ∷ (Insert 0 840) ∷ (Deliver 1) ∷ (Insert 0 963) ∷ (Join 0) ∷ (Deliver 0) ∷ (Insert 0 355) ∷ (Insert 0 150) ∷ (Deliver 0) ∷ (Insert 0 942) ∷ (Join 0) ∷ (Insert 0 381) ∷ (Collect 2) ∷ (Insert 0 669) ∷ (Insert 0 57) ∷ (Insert 0 239) ∷ (Collect 2) ∷ (Insert 0 991) ∷ (Insert 0 291) ∷ (Join 0) ∷ (Insert 0 844) ∷ (Insert 0 982) ∷ (Insert 0 842) ∷ (Insert 1 605) ∷ (Insert 0 674) ∷ (Insert 0 918) ∷ (Insert 0 711) ∷ (Insert 0 234) ∷ (Insert 0 746) ∷ (Join 0) ∷ (Insert 0 815) ∷ (Insert 0 42) ∷ [])
    (Done ∷ (Refused (PostFull 0)) ∷ (Refused (PostFull 0)) ∷ (Refused (PostFull 0)) ∷ (Refused NoMessage) ∷ (Refused (PostFull 0)) ∷ (Refused (PostFull 0)) ∷ (Refused (PostFull 0)) ∷ (Refused (PostFull 0)) ∷ (Refused (PostFull 0)) ∷ (Refused (PostFull 0)) ∷ (Refused NoMessage) ∷ (Refused (PostFull 0)) ∷ (Refused (PostFull 0)) ∷ (Refused (PostFull 0)) ∷ (Refused (PostFull 0)) ∷ (Refused (PostFull 0)) ∷ (Refused (PostFull 0)) ∷ (Refused NoMessage) ∷ (Refused OnTable) ∷ (Refused (PostFull 0)) ∷ (Refused NoMessage) ∷ (Refused NoQuestion) ∷ (Refused (PostFull 0)) ∷ (Refused Identifier) ∷ (Refused OnTable) ∷ (Refused (PostFull 0)) ∷ (Refused (PostFull 0)) ∷ (Refused OnTable) ∷ (Refused (PostFull 0)) ∷ (Refused NoMessage) ∷ (Refused (PostFull 0)) ∷ (Refused OnTable) ∷ (Refused NoMessage) ∷ (Refused (PostFull 0)) ∷ (Refused (PostFull 0)) ∷ (Refused NoMessage) ∷ (Refused (PostFull 0)) ∷ (Refused OnTable) ∷ (Refused (PostFull 0)) ∷ (Refused NoQuestion) ∷ (Refused (PostFull 0)) ∷ (Refused (PostFull 0)) ∷ (Refused (PostFull 0)) ∷ (Refused NoQuestion) ∷ (Refused (PostFull 0)) ∷ (Refused (PostFull 0)) ∷ (Refused OnTable) ∷ (Refused (PostFull 0)) ∷ (Refused (PostFull 0)) ∷ (Refused (PostFull 0)) ∷ (Refused Identifier) ∷ (Refused (PostFull 0)) ∷ (Refused (PostFull 0)) ∷ (Refused (PostFull 0)) ∷ (Refused (PostFull 0)) ∷ (Refused (PostFull 0)) ∷ (Refused OnTable) ∷ (Refused (PostFull 0)) ∷ (Refused (PostFull 0)) ∷ [])
    ((peer 0 Settled) ∷ [])
    ([])
    ([])

abbrev pub run_54 : Worked
run_54 =
    worked (settings 8 4 40 10)
    ((Join 1) ∷ (Insert 3 538) ∷ (Lookup 0 2) ∷ (Lookup 0 1) ∷ (Deliver 2) ∷ (Deliver 0) ∷ (Deliver 2) ∷ (Join 3) ∷ (Insert 6 169) ∷ (Collect 1) ∷ (Deliver 1) ∷ (Deliver 4) ∷ (Deliver 0) ∷ (Deliver 3) ∷ (Lookup 6 4) ∷ (Collect 2) ∷ (Deliver 0) ∷ (Deliver 2) ∷ (Deliver 2) ∷ (Deliver 0) ∷ (Join 6) ∷ (Insert 6 832) ∷ (Deliver 5) ∷ (Deliver 0) ∷ (Deliver 4) ∷ [])
    (Done ∷ (Inserted 1) ∷ (Opened 1) ∷ (Opened 2) ∷ Kept ∷ Kept ∷ Answered ∷ Done ∷ (Inserted 2) ∷ Nothing ∷ Kept ∷ Kept ∷ Kept ∷ Kept ∷ (Opened 3) ∷ Withdrawn ∷ Asked ∷ Answered ∷ (Moved 1) ∷ Kept ∷ Done ∷ (Inserted 3) ∷ Kept ∷ Sent ∷ Older ∷ [])
    ((peer 1 Giving) ∷ (peer 3 Settled) ∷ (peer 6 (Filling 1 3 6)) ∷ [])
    ((kept 1 2 0 2 169) ∷ (kept 1 4 1 1 538) ∷ (kept 1 2 5 1 538) ∷ (kept 1 1 6 2 169) ∷ (kept 1 3 7 1 538) ∷ (kept 3 3 2 2 169) ∷ (kept 3 1 3 1 538) ∷ (kept 6 4 4 3 832) ∷ [])
    ((RetrieveItems 1 6 3 6) ∷ (AddItem 6 1 6 3 832) ∷ (AddItem 1 2 0 3 832) ∷ (AddItem 3 3 2 3 832) ∷ [])

abbrev pub run_55 : Worked
run_55 =
    worked (settings 4 2 40 30)
    ((Leave 1) ∷ (Join 2) ∷ (Join 0) ∷ (Join 1) ∷ (Lookup 0 2) ∷ (Join 1) ∷ (Join 3) ∷ (Deliver 0) ∷ (Insert 0 147) ∷ (Deliver 0) ∷ (Deliver 2) ∷ (Insert 0 790) ∷ (Join 1) ∷ (Join 3) ∷ (Lookup 2 1) ∷ (Insert 1 142) ∷ (Deliver 6) ∷ (Insert 2 480) ∷ (Deliver 2) ∷ (Deliver 1) ∷ (Join 1) ∷ (Lookup 0 1) ∷ (Deliver 1) ∷ (Insert 0 971) ∷ (Deliver 7) ∷ [])
    ((Refused NotMember) ∷ Done ∷ Done ∷ (Refused NotSettled) ∷ (Opened 1) ∷ (Refused NotSettled) ∷ (Refused NotSettled) ∷ Asked ∷ (Inserted 1) ∷ Answered ∷ Kept ∷ (Inserted 2) ∷ (Refused NotSettled) ∷ (Refused NotSettled) ∷ (Opened 2) ∷ (Inserted 3) ∷ Kept ∷ (Inserted 4) ∷ Kept ∷ Older ∷ (Refused NotSettled) ∷ (Opened 3) ∷ Kept ∷ (Inserted 5) ∷ Kept ∷ [])
    ((peer 2 Giving) ∷ (peer 0 (Filling 2 2 0)) ∷ [])
    ((kept 0 1 0 2 790) ∷ (kept 0 2 3 3 142) ∷ (kept 2 2 2 5 971) ∷ [])
    ((Replicate 0 2 2 0) ∷ (GetItem 2 1 2 2) ∷ (AddItem 2 1 1 3 142) ∷ (AddItem 2 1 2 4 480) ∷ (AddItem 0 2 0 4 480) ∷ (GetItem 0 1 0 3) ∷ (AddItem 0 1 0 5 971) ∷ [])

abbrev pub run_56 : Worked
run_56 =
    worked (settings 2 1 3 2)
    ((Join 0) ∷ (Lookup 1 1) ∷ (Join 1) ∷ (Deliver 0) ∷ (Lookup 0 1) ∷ (Lookup 2 1) ∷ (Deliver 0) ∷ (Insert 0 106) ∷ (Insert 0 861) ∷ (Collect 1) ∷ (Deliver 0) ∷ (Join 0) ∷ (Leave 1) ∷ (Deliver 0) ∷ (Lookup 1 1) ∷ (Deliver 0) ∷ (Insert 0 16) ∷ (Join 1) ∷ (Join 1) ∷ (Leave 0) ∷ (Deliver 0) ∷ (Insert 0 731) ∷ (Leave 0) ∷ (Join 1) ∷ (Insert 0 170) ∷ [])
    (Done ∷ (Opened 1) ∷ Done ∷ Sent ∷ (Refused (PostFull 0)) ∷ (Refused Identifier) ∷ Asked ∷ (Refused (PostFull 0)) ∷ (Refused (PostFull 0)) ∷ Withdrawn ∷ (Moved 0) ∷ (Refused OnTable) ∷ Done ∷ (Moved 0) ∷ (Opened 2) ∷ Answered ∷ (Inserted 1) ∷ Done ∷ (Refused OnTable) ∷ (Refused NotSettled) ∷ Kept ∷ (Inserted 2) ∷ (Refused NotSettled) ∷ (Refused OnTable) ∷ (Refused (PostFull 0)) ∷ [])
    ((peer 0 Giving) ∷ (peer 1 (Filling 0 0 1)) ∷ [])
    ((kept 0 1 0 1 16) ∷ [])
    ((RetrieveItems 0 1 0 1) ∷ (AddItem 0 1 0 2 731) ∷ [])

abbrev pub run_57 : Worked
run_57 =
    worked (settings 4 2 40 30)
    ((Join 1) ∷ (Collect 2) ∷ (Join 2) ∷ (Deliver 0) ∷ (Deliver 0) ∷ (Insert 3 339) ∷ (Leave 1) ∷ (Deliver 1) ∷ (Deliver 0) ∷ (Deliver 2) ∷ (Deliver 0) ∷ (Deliver 0) ∷ (Insert 3 361) ∷ (Deliver 3) ∷ (Insert 2 749) ∷ (Lookup 3 1) ∷ (Join 0) ∷ (Leave 0) ∷ (Leave 0) ∷ (Deliver 4) ∷ (Deliver 2) ∷ (Insert 3 243) ∷ (Leave 2) ∷ (Deliver 4) ∷ (Lookup 3 1) ∷ (Insert 3 548) ∷ (Deliver 4) ∷ (Deliver 2) ∷ (Deliver 5) ∷ (Deliver 5) ∷ (Insert 2 322) ∷ (Deliver 2) ∷ (Deliver 2) ∷ (Deliver 6) ∷ (Insert 3 470) ∷ (Insert 3 722) ∷ (Deliver 2) ∷ (Deliver 7) ∷ (Insert 2 311) ∷ (Collect 2) ∷ [])
    (Done ∷ (Refused NoQuestion) ∷ Done ∷ Asked ∷ (Moved 0) ∷ (Inserted 1) ∷ Done ∷ Sent ∷ Sent ∷ Kept ∷ (Moved 0) ∷ Kept ∷ (Inserted 2) ∷ (Refused NoMessage) ∷ (Inserted 3) ∷ (Opened 1) ∷ Done ∷ (Refused NotSettled) ∷ (Refused NotSettled) ∷ Sent ∷ Kept ∷ (Inserted 4) ∷ (Refused NotSettled) ∷ Answered ∷ (Opened 2) ∷ (Inserted 5) ∷ Kept ∷ Sent ∷ Kept ∷ Kept ∷ (Inserted 6) ∷ Asked ∷ Older ∷ (Moved 1) ∷ (Inserted 7) ∷ (Inserted 8) ∷ Answered ∷ Kept ∷ (Inserted 9) ∷ (Found 5 548) ∷ [])
    ((peer 2 Settled) ∷ (peer 0 Settled) ∷ [])
    ((kept 0 1 3 8 722) ∷ (kept 2 2 1 5 548) ∷ (kept 2 1 2 3 749) ∷ [])
    ((AddItem 2 1 3 2 361) ∷ (AddItem 2 2 1 2 361) ∷ (AddItem 0 2 0 3 749) ∷ (AddItem 2 1 2 6 322) ∷ (AddItem 0 2 0 6 322) ∷ (AddItem 0 1 3 7 470) ∷ (AddItem 2 2 1 7 470) ∷ (AddItem 2 2 1 8 722) ∷ (AddItem 2 1 2 9 311) ∷ (AddItem 0 2 0 9 311) ∷ [])

abbrev pub run_58 : Worked
run_58 =
    worked (settings 1 1 0 30)
    ((Join 0) ∷ (Deliver 0) ∷ (Lookup 2 2) ∷ (Insert 0 155) ∷ (Insert 0 587) ∷ (Lookup 0 1) ∷ (Deliver 0) ∷ (Deliver 1) ∷ (Insert 0 339) ∷ (Insert 0 553) ∷ (Insert 0 711) ∷ (Insert 1 474) ∷ [])
    (Done ∷ (Refused NoMessage) ∷ (Refused Identifier) ∷ (Refused (ShelfFull 0)) ∷ (Refused (ShelfFull 0)) ∷ (Opened 1) ∷ Answered ∷ (Refused NoMessage) ∷ (Refused (ShelfFull 0)) ∷ (Refused (ShelfFull 0)) ∷ (Refused (ShelfFull 0)) ∷ (Refused Identifier) ∷ [])
    ((peer 0 Settled) ∷ [])
    ([])
    ([])

abbrev pub run_59 : Worked
run_59 =
    worked (settings 6 3 6 4)
    ((Join 6) ∷ (Join 2) ∷ (Lookup 4 3) ∷ (Deliver 0) ∷ (Insert 2 650) ∷ (Insert 2 587) ∷ (Lookup 2 3) ∷ (Insert 2 11) ∷ (Deliver 0) ∷ (Deliver 2) ∷ (Collect 1) ∷ (Collect 2) ∷ (Insert 2 428) ∷ (Insert 2 612) ∷ (Insert 0 106) ∷ (Collect 3) ∷ (Insert 2 680) ∷ (Deliver 0) ∷ (Join 6) ∷ (Deliver 0) ∷ (Insert 2 453) ∷ (Deliver 2) ∷ (Insert 2 76) ∷ (Collect 4) ∷ (Deliver 0) ∷ (Insert 4 177) ∷ (Lookup 2 1) ∷ (Collect 3) ∷ (Collect 1) ∷ (Lookup 2 2) ∷ (Collect 4) ∷ (Lookup 4 1) ∷ (Insert 4 995) ∷ (Insert 2 361) ∷ (Collect 5) ∷ (Lookup 2 2) ∷ (Collect 6) ∷ (Deliver 0) ∷ (Insert 2 431) ∷ (Insert 2 603) ∷ [])
    ((Refused Identifier) ∷ Done ∷ (Opened 1) ∷ Answered ∷ (Inserted 1) ∷ (Refused (PostFull 1)) ∷ (Opened 2) ∷ (Refused (PostFull 0)) ∷ Kept ∷ Answered ∷ Nothing ∷ Nothing ∷ (Refused (PostFull 2)) ∷ (Refused (PostFull 2)) ∷ (Refused (PostFull 2)) ∷ (Refused NoQuestion) ∷ (Refused (PostFull 2)) ∷ Kept ∷ (Refused Identifier) ∷ Kept ∷ (Inserted 2) ∷ Kept ∷ (Refused (ShelfFull 1)) ∷ (Refused NoQuestion) ∷ Kept ∷ (Refused (ShelfFull 2)) ∷ (Opened 3) ∷ Withdrawn ∷ (Refused NoQuestion) ∷ (Opened 4) ∷ Withdrawn ∷ (Opened 5) ∷ (Refused (ShelfFull 2)) ∷ (Refused (ShelfFull 2)) ∷ Withdrawn ∷ (Opened 6) ∷ Withdrawn ∷ Kept ∷ (Inserted 3) ∷ (Refused (ShelfFull 0)) ∷ [])
    ((peer 2 Settled) ∷ [])
    ((kept 2 3 0 2 453) ∷ (kept 2 1 2 2 453) ∷ (kept 2 2 4 2 453) ∷ [])
    ((AddItem 2 1 2 3 431) ∷ (AddItem 2 2 4 3 431) ∷ (AddItem 2 3 0 3 431) ∷ [])

abbrev pub run_60 : Worked
run_60 =
    worked (settings 1 1 40 1)
    ((Join 0) ∷ (Insert 0 381) ∷ (Lookup 0 1) ∷ (Join 0) ∷ (Collect 2) ∷ (Collect 1) ∷ (Deliver 0) ∷ (Deliver 1) ∷ (Lookup 0 0) ∷ (Join 1) ∷ (Insert 0 511) ∷ (Join 0) ∷ (Collect 1) ∷ (Collect 2) ∷ (Deliver 0) ∷ (Insert 0 662) ∷ (Lookup 0 1) ∷ (Deliver 0) ∷ (Collect 1) ∷ (Leave 0) ∷ (Insert 0 499) ∷ (Join 0) ∷ (Insert 0 493) ∷ (Join 1) ∷ (Join 1) ∷ [])
    (Done ∷ (Inserted 1) ∷ (Refused (PostFull 0)) ∷ (Refused OnTable) ∷ (Refused NoQuestion) ∷ (Refused NoQuestion) ∷ Kept ∷ (Refused NoMessage) ∷ (Refused Replica) ∷ (Refused Identifier) ∷ (Inserted 2) ∷ (Refused OnTable) ∷ (Refused NoQuestion) ∷ (Refused NoQuestion) ∷ Kept ∷ (Inserted 3) ∷ (Refused (PostFull 0)) ∷ Kept ∷ (Refused NoQuestion) ∷ (Refused OnlyMember) ∷ (Inserted 4) ∷ (Refused OnTable) ∷ (Refused (PostFull 0)) ∷ (Refused Identifier) ∷ (Refused Identifier) ∷ [])
    ((peer 0 Settled) ∷ [])
    ((kept 0 1 0 3 662) ∷ [])
    ((AddItem 0 1 0 4 499) ∷ [])

abbrev pub run_61 : Worked
run_61 =
    worked (settings 16 4 8 0)
    ((Join 0) ∷ (Collect 1) ∷ (Deliver 1) ∷ (Deliver 1) ∷ (Deliver 1) ∷ (Insert 13 2) ∷ (Collect 2) ∷ (Insert 13 103) ∷ (Insert 14 371) ∷ (Join 10) ∷ (Insert 14 88) ∷ (Insert 13 152) ∷ (Join 13) ∷ (Insert 0 355) ∷ (Insert 13 132) ∷ (Insert 14 847) ∷ (Lookup 14 3) ∷ (Insert 3 994) ∷ (Join 6) ∷ (Insert 9 394) ∷ (Leave 0) ∷ (Insert 14 218) ∷ (Insert 14 230) ∷ (Join 6) ∷ (Insert 13 752) ∷ [])
    (Done ∷ (Refused NoQuestion) ∷ (Refused NoMessage) ∷ (Refused NoMessage) ∷ (Refused NoMessage) ∷ (Refused (PostFull 0)) ∷ (Refused NoQuestion) ∷ (Refused (PostFull 0)) ∷ (Refused (PostFull 0)) ∷ (Refused (PostFull 0)) ∷ (Refused (PostFull 0)) ∷ (Refused (PostFull 0)) ∷ (Refused (PostFull 0)) ∷ (Refused (PostFull 0)) ∷ (Refused (PostFull 0)) ∷ (Refused (PostFull 0)) ∷ (Refused (PostFull 0)) ∷ (Refused (PostFull 0)) ∷ (Refused (PostFull 0)) ∷ (Refused (PostFull 0)) ∷ (Refused OnlyMember) ∷ (Refused (PostFull 0)) ∷ (Refused (PostFull 0)) ∷ (Refused (PostFull 0)) ∷ (Refused (PostFull 0)) ∷ [])
    ((peer 0 Settled) ∷ [])
    ([])
    ([])

abbrev pub run_62 : Worked
run_62 =
    worked (settings 8 4 40 30)
    ((Join 2) ∷ (Insert 6 894) ∷ (Deliver 4) ∷ (Join 0) ∷ (Leave 2) ∷ (Insert 1 927) ∷ (Lookup 0 1) ∷ (Deliver 3) ∷ (Collect 1) ∷ (Leave 0) ∷ (Leave 2) ∷ (Leave 0) ∷ (Collect 2) ∷ (Join 7) ∷ (Collect 3) ∷ (Lookup 1 1) ∷ (Deliver 6) ∷ (Leave 0) ∷ (Collect 2) ∷ (Leave 2) ∷ (Deliver 7) ∷ (Collect 1) ∷ (Collect 4) ∷ (Deliver 5) ∷ (Insert 3 750) ∷ (Deliver 2) ∷ (Leave 0) ∷ (Deliver 6) ∷ (Insert 1 995) ∷ (Deliver 6) ∷ (Deliver 5) ∷ (Insert 0 42) ∷ (Insert 0 660) ∷ (Deliver 6) ∷ (Deliver 7) ∷ (Insert 1 811) ∷ (Leave 0) ∷ (Collect 1) ∷ (Join 7) ∷ (Deliver 19) ∷ [])
    (Done ∷ (Inserted 1) ∷ (Refused NoMessage) ∷ Done ∷ (Refused NotSettled) ∷ (Inserted 2) ∷ (Opened 1) ∷ Sent ∷ Withdrawn ∷ (Refused NotSettled) ∷ (Refused NotSettled) ∷ (Refused NotSettled) ∷ (Refused NoQuestion) ∷ (Refused NotSettled) ∷ (Refused NoQuestion) ∷ (Opened 2) ∷ Kept ∷ (Refused NotSettled) ∷ Withdrawn ∷ (Refused NotSettled) ∷ Kept ∷ (Refused NoQuestion) ∷ (Refused NoQuestion) ∷ Kept ∷ (Inserted 3) ∷ Kept ∷ (Refused NotSettled) ∷ Kept ∷ (Inserted 4) ∷ Kept ∷ Kept ∷ (Inserted 5) ∷ (Inserted 6) ∷ Kept ∷ Kept ∷ (Inserted 7) ∷ (Refused NotSettled) ∷ (Refused NoQuestion) ∷ (Refused NotSettled) ∷ Kept ∷ [])
    ((peer 2 Giving) ∷ (peer 0 (Filling 2 2 0)) ∷ [])
    ((kept 0 1 3 3 750) ∷ (kept 0 2 3 2 927) ∷ (kept 0 4 4 1 894) ∷ (kept 0 2 5 3 750) ∷ (kept 0 3 5 4 995) ∷ (kept 0 3 7 3 750) ∷ (kept 0 4 7 7 811) ∷ (kept 2 1 1 4 995) ∷ (kept 2 3 2 1 894) ∷ [])
    ((AddItem 2 1 6 1 894) ∷ (AddItem 2 2 0 1 894) ∷ (RetrieveItems 2 0 2 0) ∷ (AddItem 2 1 1 2 927) ∷ (AddItem 0 4 7 2 927) ∷ (AddItem 2 4 1 3 750) ∷ (AddItem 0 2 3 4 995) ∷ (AddItem 0 4 7 4 995) ∷ (AddItem 0 1 0 5 42) ∷ (AddItem 2 2 2 5 42) ∷ (AddItem 0 3 4 5 42) ∷ (AddItem 0 4 6 5 42) ∷ (AddItem 0 1 0 6 660) ∷ (AddItem 2 2 2 6 660) ∷ (AddItem 0 3 4 6 660) ∷ (AddItem 0 4 6 6 660) ∷ (AddItem 2 1 1 7 811) ∷ (AddItem 0 2 3 7 811) ∷ (AddItem 0 3 5 7 811) ∷ [])

abbrev pub run_63 : Worked
run_63 =
    worked (settings 2 2 4 2)
    ((Join 0) ∷ (Insert 2 997) ∷ (Insert 1 487) ∷ (Deliver 2) ∷ (Lookup 1 2) ∷ (Deliver 0) ∷ (Deliver 0) ∷ (Insert 1 368) ∷ (Deliver 1) ∷ (Insert 3 291) ∷ (Deliver 0) ∷ (Deliver 1) ∷ (Collect 1) ∷ (Insert 0 394) ∷ (Deliver 1) ∷ (Insert 1 222) ∷ (Leave 0) ∷ (Deliver 0) ∷ (Insert 1 346) ∷ (Join 1) ∷ (Deliver 0) ∷ (Leave 0) ∷ (Join 1) ∷ (Deliver 0) ∷ (Join 2) ∷ (Insert 3 865) ∷ (Leave 1) ∷ (Deliver 0) ∷ (Join 1) ∷ (Lookup 0 2) ∷ (Lookup 1 2) ∷ (Collect 1) ∷ (Insert 1 510) ∷ (Lookup 1 1) ∷ (Deliver 0) ∷ (Deliver 0) ∷ (Insert 1 581) ∷ (Lookup 0 1) ∷ (Deliver 0) ∷ (Deliver 0) ∷ (Insert 1 380) ∷ (Leave 0) ∷ (Deliver 0) ∷ (Insert 0 905) ∷ (Insert 1 601) ∷ (Insert 0 448) ∷ (Insert 1 46) ∷ (Insert 1 851) ∷ (Insert 0 143) ∷ (Insert 0 292) ∷ (Join 0) ∷ (Deliver 0) ∷ (Insert 0 948) ∷ (Lookup 1 1) ∷ (Join 2) ∷ (Deliver 1) ∷ (Deliver 0) ∷ (Insert 0 147) ∷ (Insert 1 762) ∷ (Insert 2 374) ∷ [])
    (Done ∷ (Refused Identifier) ∷ (Inserted 1) ∷ (Refused NoMessage) ∷ (Refused (PostFull 0)) ∷ Kept ∷ Kept ∷ (Inserted 2) ∷ Kept ∷ (Refused Identifier) ∷ Kept ∷ (Refused NoMessage) ∷ (Refused NoQuestion) ∷ (Inserted 3) ∷ Kept ∷ (Refused (ShelfFull 0)) ∷ (Refused OnlyMember) ∷ Kept ∷ (Refused (ShelfFull 0)) ∷ Done ∷ Asked ∷ (Refused NotSettled) ∷ (Refused OnTable) ∷ (Moved 2) ∷ (Refused Identifier) ∷ (Refused Identifier) ∷ Done ∷ (Moved 2) ∷ Done ∷ (Opened 1) ∷ (Refused (PostFull 0)) ∷ Withdrawn ∷ (Refused (ShelfFull 0)) ∷ (Opened 2) ∷ Asked ∷ Answered ∷ (Refused (ShelfFull 0)) ∷ (Opened 3) ∷ (Moved 2) ∷ Answered ∷ (Refused (ShelfFull 0)) ∷ Done ∷ (Moved 2) ∷ (Refused (ShelfFull 0)) ∷ (Refused (ShelfFull 0)) ∷ (Refused (ShelfFull 0)) ∷ (Refused (ShelfFull 0)) ∷ (Refused (ShelfFull 0)) ∷ (Refused (ShelfFull 0)) ∷ (Refused (ShelfFull 0)) ∷ Done ∷ Asked ∷ (Refused (ShelfFull 0)) ∷ (Opened 4) ∷ (Refused Identifier) ∷ Answered ∷ (Moved 2) ∷ (Refused (ShelfFull 0)) ∷ (Refused (ShelfFull 0)) ∷ (Refused Identifier) ∷ [])
    ((peer 1 Settled) ∷ (peer 0 Settled) ∷ [])
    ((kept 0 1 0 3 394) ∷ (kept 0 2 0 2 368) ∷ (kept 1 1 1 2 368) ∷ (kept 1 2 1 3 394) ∷ [])
    ([])

abbrev pub run_64 : Worked
run_64 =
    worked (settings 8 2 40 0)
    ((Join 1) ∷ (Lookup 1 2) ∷ (Leave 1) ∷ (Insert 7 985) ∷ (Insert 7 27) ∷ (Insert 9 401) ∷ (Collect 1) ∷ (Collect 1) ∷ (Insert 6 385) ∷ (Join 6) ∷ (Join 0) ∷ (Deliver 0) ∷ (Deliver 1) ∷ (Insert 7 414) ∷ (Insert 6 312) ∷ (Insert 6 863) ∷ (Lookup 6 2) ∷ (Insert 1 448) ∷ (Insert 1 268) ∷ (Deliver 0) ∷ (Leave 1) ∷ (Insert 1 102) ∷ (Insert 7 105) ∷ (Insert 4 122) ∷ (Join 3) ∷ (Insert 6 368) ∷ (Join 3) ∷ (Deliver 0) ∷ (Insert 1 576) ∷ (Insert 7 887) ∷ (Join 3) ∷ (Insert 7 776) ∷ (Join 8) ∷ (Insert 6 106) ∷ (Join 2) ∷ (Deliver 0) ∷ (Join 2) ∷ (Insert 7 781) ∷ (Lookup 6 0) ∷ (Insert 1 309) ∷ [])
    (Done ∷ (Refused (PostFull 0)) ∷ (Refused OnlyMember) ∷ (Refused (PostFull 0)) ∷ (Refused (PostFull 0)) ∷ (Refused Identifier) ∷ (Refused NoQuestion) ∷ (Refused NoQuestion) ∷ (Refused (PostFull 0)) ∷ (Refused (PostFull 0)) ∷ (Refused (PostFull 0)) ∷ (Refused NoMessage) ∷ (Refused NoMessage) ∷ (Refused (PostFull 0)) ∷ (Refused (PostFull 0)) ∷ (Refused (PostFull 0)) ∷ (Refused (PostFull 0)) ∷ (Refused (PostFull 0)) ∷ (Refused (PostFull 0)) ∷ (Refused NoMessage) ∷ (Refused OnlyMember) ∷ (Refused (PostFull 0)) ∷ (Refused (PostFull 0)) ∷ (Refused (PostFull 0)) ∷ (Refused (PostFull 0)) ∷ (Refused (PostFull 0)) ∷ (Refused (PostFull 0)) ∷ (Refused NoMessage) ∷ (Refused (PostFull 0)) ∷ (Refused (PostFull 0)) ∷ (Refused (PostFull 0)) ∷ (Refused (PostFull 0)) ∷ (Refused Identifier) ∷ (Refused (PostFull 0)) ∷ (Refused (PostFull 0)) ∷ (Refused NoMessage) ∷ (Refused (PostFull 0)) ∷ (Refused (PostFull 0)) ∷ (Refused Replica) ∷ (Refused (PostFull 0)) ∷ [])
    ((peer 1 Settled) ∷ [])
    ([])
    ([])

abbrev pub run_65 : Worked
run_65 =
    worked (settings 2 1 40 4)
    ((Join 0) ∷ (Join 1) ∷ (Leave 1) ∷ (Leave 1) ∷ (Leave 0) ∷ (Deliver 1) ∷ (Collect 1) ∷ (Deliver 0) ∷ (Lookup 0 1) ∷ (Deliver 1) ∷ (Leave 0) ∷ (Deliver 0) ∷ [])
    (Done ∷ Done ∷ (Refused NotSettled) ∷ (Refused NotSettled) ∷ (Refused NotSettled) ∷ (Refused NoMessage) ∷ (Refused NoQuestion) ∷ Asked ∷ (Opened 1) ∷ Answered ∷ (Refused NotSettled) ∷ (Moved 0) ∷ [])
    ((peer 0 Settled) ∷ (peer 1 Settled) ∷ [])
    ([])
    ([])

abbrev pub run_66 : Worked
run_66 =
    worked (settings 2 1 40 30)
    ((Join 0) ∷ (Insert 0 356) ∷ (Deliver 0) ∷ (Lookup 0 1) ∷ (Deliver 0) ∷ (Lookup 0 1) ∷ (Deliver 1) ∷ (Insert 0 177) ∷ (Join 2) ∷ (Leave 0) ∷ (Insert 1 170) ∷ (Insert 0 556) ∷ (Deliver 0) ∷ (Deliver 2) ∷ (Lookup 0 1) ∷ (Insert 2 732) ∷ (Deliver 2) ∷ (Deliver 1) ∷ (Insert 0 325) ∷ (Deliver 1) ∷ (Insert 1 112) ∷ (Insert 0 722) ∷ (Insert 0 597) ∷ (Lookup 0 1) ∷ (Deliver 2) ∷ [])
    (Done ∷ (Inserted 1) ∷ Kept ∷ (Opened 1) ∷ Answered ∷ (Opened 2) ∷ (Refused NoMessage) ∷ (Inserted 2) ∷ (Refused Identifier) ∷ (Refused OnlyMember) ∷ (Inserted 3) ∷ (Inserted 4) ∷ Answered ∷ Kept ∷ (Opened 3) ∷ (Refused Identifier) ∷ Answered ∷ Kept ∷ (Inserted 5) ∷ Kept ∷ (Inserted 6) ∷ (Inserted 7) ∷ (Inserted 8) ∷ (Opened 4) ∷ Kept ∷ [])
    ((peer 0 Settled) ∷ [])
    ((kept 0 1 0 7 722) ∷ (kept 0 1 1 3 170) ∷ [])
    ((AddItem 0 1 0 2 177) ∷ (AddItem 0 1 1 6 112) ∷ (AddItem 0 1 0 8 597) ∷ (GetItem 0 1 0 4) ∷ [])

abbrev pub run_67 : Worked
run_67 =
    worked (settings 1 1 40 30)
    ((Collect 1) ∷ (Join 0) ∷ (Collect 2) ∷ (Insert 0 735) ∷ (Collect 2) ∷ (Insert 0 946) ∷ (Lookup 0 1) ∷ (Join 1) ∷ (Lookup 0 1) ∷ (Leave 0) ∷ (Deliver 5) ∷ (Lookup 0 1) ∷ (Join 0) ∷ (Deliver 4) ∷ (Deliver 3) ∷ (Join 1) ∷ (Join 0) ∷ (Collect 2) ∷ (Deliver 0) ∷ (Insert 0 600) ∷ (Deliver 2) ∷ (Join 1) ∷ (Collect 1) ∷ (Join 0) ∷ (Leave 0) ∷ (Insert 0 167) ∷ (Deliver 0) ∷ (Deliver 0) ∷ (Insert 0 935) ∷ (Lookup 0 1) ∷ (Collect 3) ∷ (Collect 4) ∷ (Join 0) ∷ (Join 1) ∷ (Lookup 0 1) ∷ (Collect 5) ∷ (Insert 0 752) ∷ (Collect 3) ∷ (Insert 0 538) ∷ (Join 1) ∷ [])
    ((Refused NoQuestion) ∷ Done ∷ (Refused NoQuestion) ∷ (Inserted 1) ∷ (Refused NoQuestion) ∷ (Inserted 2) ∷ (Opened 1) ∷ (Refused Identifier) ∷ (Opened 2) ∷ (Refused OnlyMember) ∷ (Refused NoMessage) ∷ (Opened 3) ∷ (Refused OnTable) ∷ Answered ∷ Answered ∷ (Refused Identifier) ∷ (Refused OnTable) ∷ Nothing ∷ Kept ∷ (Inserted 3) ∷ Kept ∷ (Refused Identifier) ∷ Withdrawn ∷ (Refused OnTable) ∷ (Refused OnlyMember) ∷ (Inserted 4) ∷ Older ∷ Kept ∷ (Inserted 5) ∷ (Opened 4) ∷ Nothing ∷ Withdrawn ∷ (Refused OnTable) ∷ (Refused Identifier) ∷ (Opened 5) ∷ Withdrawn ∷ (Inserted 6) ∷ (Refused NoQuestion) ∷ (Inserted 7) ∷ (Refused Identifier) ∷ [])
    ((peer 0 Settled) ∷ [])
    ((kept 0 1 0 4 167) ∷ [])
    ((AddItem 0 1 0 5 935) ∷ (AddItem 0 1 0 6 752) ∷ (AddItem 0 1 0 7 538) ∷ [])

abbrev pub run_68 : Worked
run_68 =
    worked (settings 16 4 12 30)
    ((Join 5) ∷ (Join 10) ∷ (Leave 5) ∷ (Leave 5) ∷ (Deliver 0) ∷ (Deliver 1) ∷ (Deliver 0) ∷ (Join 13) ∷ (Insert 1 875) ∷ (Deliver 6) ∷ (Deliver 3) ∷ (Lookup 15 4) ∷ (Deliver 1) ∷ (Collect 2) ∷ (Join 4) ∷ (Collect 1) ∷ (Lookup 9 1) ∷ (Insert 1 874) ∷ (Deliver 6) ∷ (Deliver 6) ∷ (Deliver 3) ∷ (Deliver 4) ∷ (Insert 15 904) ∷ (Leave 16) ∷ (Deliver 0) ∷ (Collect 2) ∷ (Lookup 15 1) ∷ (Insert 1 886) ∷ (Deliver 7) ∷ (Join 0) ∷ (Deliver 0) ∷ (Deliver 3) ∷ (Deliver 3) ∷ (Deliver 0) ∷ (Deliver 0) ∷ (Insert 9 531) ∷ (Lookup 9 2) ∷ (Deliver 5) ∷ (Collect 4) ∷ (Lookup 15 2) ∷ (Deliver 4) ∷ (Deliver 5) ∷ (Deliver 1) ∷ (Deliver 1) ∷ (Insert 1 232) ∷ (Collect 5) ∷ (Join 4) ∷ (Leave 5) ∷ (Deliver 0) ∷ (Deliver 0) ∷ (Deliver 2) ∷ (Collect 3) ∷ (Deliver 1) ∷ (Deliver 0) ∷ (Deliver 0) ∷ (Insert 9 897) ∷ (Deliver 0) ∷ (Lookup 9 3) ∷ (Lookup 9 3) ∷ (Deliver 0) ∷ [])
    (Done ∷ Done ∷ (Refused NotSettled) ∷ (Refused NotSettled) ∷ Asked ∷ (Refused NoMessage) ∷ (Moved 0) ∷ Done ∷ (Inserted 1) ∷ (Refused NoMessage) ∷ Kept ∷ (Opened 1) ∷ Kept ∷ (Refused NoQuestion) ∷ (Refused NotSettled) ∷ Withdrawn ∷ (Opened 2) ∷ (Inserted 2) ∷ Kept ∷ Kept ∷ Answered ∷ Kept ∷ (Inserted 3) ∷ (Refused Identifier) ∷ Asked ∷ Nothing ∷ (Opened 3) ∷ (Refused (ShelfFull 1)) ∷ (Moved 0) ∷ Done ∷ Older ∷ Kept ∷ Kept ∷ Older ∷ Kept ∷ (Inserted 4) ∷ (Opened 4) ∷ Kept ∷ Withdrawn ∷ (Opened 5) ∷ Kept ∷ Kept ∷ Kept ∷ Sent ∷ (Refused (ShelfFull 0)) ∷ Withdrawn ∷ (Refused NotSettled) ∷ (Refused NotSettled) ∷ Sent ∷ Asked ∷ Kept ∷ Withdrawn ∷ (Moved 0) ∷ Kept ∷ (Refused NoMessage) ∷ (Refused (ShelfFull 0)) ∷ (Refused NoMessage) ∷ (Opened 6) ∷ (Opened 7) ∷ Answered ∷ [])
    ((peer 5 Settled) ∷ (peer 10 Settled) ∷ (peer 13 Settled) ∷ (peer 0 Settled) ∷ [])
    ((kept 0 1 15 3 904) ∷ (kept 5 1 1 2 874) ∷ (kept 5 3 1 4 531) ∷ (kept 5 2 3 3 904) ∷ (kept 5 2 5 2 874) ∷ (kept 5 4 5 4 531) ∷ (kept 10 3 7 3 904) ∷ (kept 10 1 9 4 531) ∷ (kept 10 3 9 2 874) ∷ (kept 13 4 11 3 904) ∷ (kept 13 2 13 4 531) ∷ (kept 13 4 13 2 874) ∷ [])
    ((GetItem 5 3 1 7) ∷ [])

abbrev pub run_69 : Worked
run_69 =
    worked (settings 8 2 40 2)
    ((Join 3) ∷ (Insert 4 61) ∷ (Collect 2) ∷ (Deliver 1) ∷ (Join 0) ∷ (Collect 2) ∷ (Insert 3 969) ∷ (Insert 2 173) ∷ (Leave 0) ∷ (Deliver 0) ∷ (Insert 1 708) ∷ (Leave 6) ∷ [])
    (Done ∷ (Inserted 1) ∷ (Refused NoQuestion) ∷ Kept ∷ Done ∷ (Refused NoQuestion) ∷ (Refused (PostFull 0)) ∷ (Refused (PostFull 0)) ∷ (Refused NotSettled) ∷ Sent ∷ (Refused (PostFull 0)) ∷ (Refused NotMember) ∷ [])
    ((peer 3 Giving) ∷ (peer 0 (Filling 3 3 0)) ∷ [])
    ((kept 3 2 0 1 61) ∷ [])
    ((RetrieveItems 3 0 3 0) ∷ (AddItem 0 1 4 1 61) ∷ [])

abbrev pub run_70 : Worked
run_70 =
    worked (settings 2 2 40 30)
    ((Join 0) ∷ (Leave 0) ∷ (Insert 3 345) ∷ (Insert 1 725) ∷ (Deliver 1) ∷ (Deliver 0) ∷ (Insert 0 306) ∷ (Join 1) ∷ (Collect 1) ∷ (Leave 0) ∷ (Insert 0 758) ∷ (Leave 1) ∷ (Lookup 0 1) ∷ (Insert 1 827) ∷ (Lookup 3 1) ∷ (Deliver 1) ∷ (Leave 1) ∷ (Deliver 7) ∷ (Lookup 1 2) ∷ (Insert 0 312) ∷ (Collect 1) ∷ (Deliver 10) ∷ (Deliver 4) ∷ (Insert 1 377) ∷ (Join 2) ∷ [])
    (Done ∷ (Refused OnlyMember) ∷ (Refused Identifier) ∷ (Inserted 1) ∷ Kept ∷ Kept ∷ (Inserted 2) ∷ Done ∷ (Refused NoQuestion) ∷ (Refused NotSettled) ∷ (Inserted 3) ∷ (Refused NotSettled) ∷ (Opened 1) ∷ (Inserted 4) ∷ (Refused Identifier) ∷ Sent ∷ (Refused NotSettled) ∷ Kept ∷ (Opened 2) ∷ (Inserted 5) ∷ Withdrawn ∷ (Refused NoMessage) ∷ Kept ∷ (Inserted 6) ∷ (Refused Identifier) ∷ [])
    ((peer 0 Giving) ∷ (peer 1 (Filling 0 0 1)) ∷ [])
    ((kept 0 2 0 1 725) ∷ (kept 0 1 1 1 725) ∷ (kept 1 1 1 4 827) ∷ (kept 1 2 1 2 306) ∷ [])
    ((AddItem 0 1 0 2 306) ∷ (RetrieveItems 0 1 0 1) ∷ (AddItem 0 1 0 3 758) ∷ (AddItem 1 2 1 3 758) ∷ (AddItem 0 2 0 4 827) ∷ (GetItem 0 2 0 2) ∷ (AddItem 0 1 0 5 312) ∷ (AddItem 1 2 1 5 312) ∷ (AddItem 1 1 1 6 377) ∷ (AddItem 0 2 0 6 377) ∷ [])

abbrev pub run_71 : Worked
run_71 =
    worked (settings 2 1 40 30)
    ((Join 0) ∷ (Insert 0 470) ∷ (Deliver 0) ∷ (Insert 0 470) ∷ (Deliver 0) ∷ (Insert 1 428) ∷ (Deliver 0) ∷ (Insert 1 17) ∷ (Deliver 0) ∷ (Lookup 0 1) ∷ (Deliver 0) ∷ (Insert 0 383) ∷ (Leave 0) ∷ (Join 2) ∷ (Leave 0) ∷ (Lookup 1 1) ∷ (Lookup 1 1) ∷ (Join 1) ∷ (Insert 1 898) ∷ (Deliver 0) ∷ (Leave 0) ∷ (Deliver 2) ∷ (Deliver 1) ∷ (Deliver 3) ∷ (Deliver 1) ∷ [])
    (Done ∷ (Inserted 1) ∷ Kept ∷ (Inserted 2) ∷ Kept ∷ (Inserted 3) ∷ Kept ∷ (Inserted 4) ∷ Kept ∷ (Opened 1) ∷ Answered ∷ (Inserted 5) ∷ (Refused OnlyMember) ∷ (Refused Identifier) ∷ (Refused OnlyMember) ∷ (Opened 2) ∷ (Opened 3) ∷ Done ∷ (Inserted 6) ∷ Kept ∷ (Refused NotSettled) ∷ Asked ∷ Sent ∷ Answered ∷ Kept ∷ [])
    ((peer 0 Giving) ∷ (peer 1 (Filling 0 0 1)) ∷ [])
    ((kept 0 1 0 5 383) ∷ (kept 0 1 1 4 17) ∷ (kept 1 1 1 6 898) ∷ [])
    ((GetItem 0 1 1 2) ∷ (Replicate 1 0 0 1) ∷ [])

abbrev pub run_72 : Worked
run_72 =
    worked (settings 8 2 4 30)
    ((Join 0) ∷ (Insert 3 190) ∷ (Deliver 1) ∷ (Join 4) ∷ (Join 6) ∷ (Insert 6 605) ∷ (Deliver 2) ∷ (Collect 1) ∷ (Insert 3 634) ∷ (Insert 3 230) ∷ (Deliver 0) ∷ (Leave 0) ∷ (Lookup 6 1) ∷ (Insert 3 442) ∷ (Collect 1) ∷ (Deliver 0) ∷ (Deliver 1) ∷ (Deliver 1) ∷ (Deliver 0) ∷ (Leave 0) ∷ (Deliver 0) ∷ (Lookup 6 2) ∷ (Lookup 6 1) ∷ (Lookup 6 0) ∷ (Collect 2) ∷ [])
    (Done ∷ (Inserted 1) ∷ Kept ∷ Done ∷ (Refused NotSettled) ∷ (Inserted 2) ∷ Kept ∷ (Refused NoQuestion) ∷ (Refused (ShelfFull 0)) ∷ (Refused (ShelfFull 0)) ∷ Sent ∷ (Refused NotSettled) ∷ (Opened 1) ∷ (Refused (ShelfFull 0)) ∷ Withdrawn ∷ Asked ∷ Kept ∷ (Moved 0) ∷ Kept ∷ Done ∷ (Moved 2) ∷ (Opened 2) ∷ (Opened 3) ∷ (Refused Replica) ∷ Withdrawn ∷ [])
    ((peer 4 Settled) ∷ [])
    ((kept 4 2 2 2 605) ∷ (kept 4 1 3 1 190) ∷ (kept 4 1 6 2 605) ∷ (kept 4 2 7 1 190) ∷ [])
    ((GetItem 4 1 6 3) ∷ [])

abbrev pub run_73 : Worked
run_73 =
    worked (settings 8 4 12 4)
    ((Insert 6 298) ∷ (Join 7) ∷ (Insert 3 811) ∷ (Insert 7 257) ∷ (Join 0) ∷ (Join 4) ∷ (Deliver 1) ∷ (Lookup 6 1) ∷ (Leave 7) ∷ (Deliver 1) ∷ (Collect 1) ∷ (Deliver 1) ∷ [])
    ((Refused NoMember) ∷ Done ∷ (Inserted 1) ∷ (Refused (PostFull 0)) ∷ (Refused (PostFull 0)) ∷ (Refused (PostFull 0)) ∷ Kept ∷ (Opened 1) ∷ (Refused OnlyMember) ∷ Kept ∷ Withdrawn ∷ Kept ∷ [])
    ((peer 7 Settled) ∷ [])
    ((kept 7 4 1 1 811) ∷ (kept 7 2 5 1 811) ∷ (kept 7 3 7 1 811) ∷ [])
    ((AddItem 7 1 3 1 811) ∷ [])

abbrev pub run_74 : Worked
run_74 =
    worked (settings 4 4 0 30)
    ((Join 2) ∷ (Insert 2 530) ∷ (Insert 3 946) ∷ (Insert 2 270) ∷ (Lookup 3 2) ∷ (Deliver 0) ∷ (Insert 2 297) ∷ (Join 3) ∷ (Deliver 0) ∷ (Insert 2 648) ∷ (Deliver 2) ∷ (Lookup 3 2) ∷ (Deliver 1) ∷ (Deliver 0) ∷ (Deliver 0) ∷ (Insert 0 696) ∷ (Insert 2 665) ∷ (Insert 3 906) ∷ (Lookup 2 4) ∷ (Deliver 0) ∷ (Collect 1) ∷ (Leave 2) ∷ (Deliver 0) ∷ (Lookup 3 1) ∷ (Deliver 0) ∷ (Lookup 3 4) ∷ (Insert 0 184) ∷ (Deliver 0) ∷ (Insert 0 979) ∷ (Insert 0 585) ∷ (Deliver 1) ∷ (Join 1) ∷ (Deliver 0) ∷ (Lookup 2 1) ∷ (Deliver 1) ∷ (Insert 0 125) ∷ (Deliver 0) ∷ (Lookup 2 2) ∷ (Deliver 0) ∷ (Collect 4) ∷ [])
    (Done ∷ (Refused (ShelfFull 0)) ∷ (Refused (ShelfFull 0)) ∷ (Refused (ShelfFull 0)) ∷ (Opened 1) ∷ Answered ∷ (Refused (ShelfFull 0)) ∷ Done ∷ Asked ∷ (Refused (ShelfFull 0)) ∷ (Refused NoMessage) ∷ (Opened 2) ∷ Answered ∷ (Moved 0) ∷ (Refused NoMessage) ∷ (Refused (ShelfFull 0)) ∷ (Refused (ShelfFull 0)) ∷ (Refused (ShelfFull 0)) ∷ (Opened 3) ∷ Answered ∷ Nothing ∷ Done ∷ (Moved 0) ∷ (Opened 4) ∷ Answered ∷ (Opened 5) ∷ (Refused (ShelfFull 0)) ∷ Answered ∷ (Refused (ShelfFull 0)) ∷ (Refused (ShelfFull 0)) ∷ (Refused NoMessage) ∷ Done ∷ Asked ∷ (Opened 6) ∷ Answered ∷ (Refused (ShelfFull 0)) ∷ (Moved 0) ∷ (Opened 7) ∷ Answered ∷ Nothing ∷ [])
    ((peer 3 Settled) ∷ (peer 1 Settled) ∷ [])
    ([])
    ([])

abbrev pub runs : List Worked
runs = (run_38 ∷ run_39 ∷ run_40 ∷ run_41 ∷ run_42 ∷ run_43 ∷ run_44 ∷ run_45 ∷ run_46 ∷ run_47 ∷ run_48 ∷ run_49 ∷ run_50 ∷ run_51 ∷ run_52 ∷ run_53 ∷ run_54 ∷ run_55 ∷ run_56 ∷ run_57 ∷ run_58 ∷ run_59 ∷ run_60 ∷ run_61 ∷ run_62 ∷ run_63 ∷ run_64 ∷ run_65 ∷ run_66 ∷ run_67 ∷ run_68 ∷ run_69 ∷ run_70 ∷ run_71 ∷ run_72 ∷ run_73 ∷ run_74 ∷ [])
