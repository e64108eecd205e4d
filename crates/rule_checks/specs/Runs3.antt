-- Random runs of calls, with their answers and what is left. Made by scripts/model.py; not to be edited.
use Rattle.std.specs.Prelude.{List, [], ◌∷◌}
use Rattle.faults.specs.declared.Fault.TheVariants.{Identifier, Replica, OnTable, NotMember, NoMember, OnlyMember, NotSettled, ShelfFull, PostFull, NoMessage, NoQuestion}
use Rattle.messages.specs.declared.Message.TheVariants.{RetrieveItems, Replicate, AddItem, GetItem}
use Rattle.rules.specs.declared.PeerState.TheVariants.{Settled, Filling, Giving, Leaving}
use Rattle.rules.specs.declared.Call.TheVariants.{Join, Leave, Insert, Lookup, Deliver, Collect}
use Rattle.rules.specs.declared.Answer.TheVariants.{Done, Inserted, Opened, Asked, Moved, Sent, Kept, Older, Answered, Found, Nothing, NotYet, Withdrawn, Refused}
use Rattle.rules.specs.State.{peer}
use Rattle.rule_checks.specs.Worked.{Worked, worked, settings, kept}

abbrev pub run_75 : Worked
run_75 =
    worked (settings 6 2 0 30)
    ((Join 1) ∷ (Insert 4 405) ∷ (Insert 3 11) ∷ (Collect 2) ∷ (Collect 2) ∷ (Join 2) ∷ (Join 0) ∷ (Deliver 0) ∷ (Leave 1) ∷ (Join 5) ∷ (Deliver 0) ∷ (Leave 2) ∷ (Deliver 0) ∷ (Insert 4 766) ∷ (Deliver 0) ∷ (Insert 4 848) ∷ (Join 0) ∷ (Deliver 0) ∷ (Deliver 0) ∷ (Leave 1) ∷ (Deliver 0) ∷ (Lookup 4 2) ∷ (Join 4) ∷ (Deliver 1) ∷ (Deliver 0) ∷ [])
    (Done ∷ (Refused (ShelfFull 0)) ∷ (Refused (ShelfFull 0)) ∷ (Refused NoQuestion) ∷ (Refused NoQuestion) ∷ Done ∷ (Refused NotSettled) ∷ Asked ∷ (Refused NotSettled) ∷ (Refused NotSettled) ∷ (Moved 0) ∷ Done ∷ (Moved 0) ∷ (Refused (ShelfFull 0)) ∷ (Refused NoMessage) ∷ (Refused (ShelfFull 0)) ∷ Done ∷ Asked ∷ (Moved 0) ∷ Done ∷ (Moved 0) ∷ (Opened 1) ∷ Done ∷ Asked ∷ Sent ∷ [])
    ((peer 0 Giving) ∷ (peer 4 (Filling 0 0 4)) ∷ [])
    ([])
    ((Replicate 4 0 0 4) ∷ (GetItem 4 2 1 1) ∷ [])

abbrev pub run_76 : Worked
run_76 =
    worked (settings 6 3 9 30)
    ((Join 4) ∷ (Insert 3 950) ∷ (Deliver 1) ∷ (Deliver 0) ∷ (Deliver 0) ∷ (Insert 3 102) ∷ (Deliver 2) ∷ (Deliver 0) ∷ (Insert 3 873) ∷ (Deliver 1) ∷ (Deliver 2) ∷ (Lookup 4 3) ∷ [])
    (Done ∷ (Inserted 1) ∷ Kept ∷ Kept ∷ Kept ∷ (Inserted 2) ∷ Kept ∷ Kept ∷ (Inserted 3) ∷ Kept ∷ Kept ∷ (Opened 1) ∷ [])
    ((peer 4 Settled) ∷ [])
    ((kept 4 3 1 3 873) ∷ (kept 4 1 3 3 873) ∷ (kept 4 2 5 1 950) ∷ [])
    ((AddItem 4 2 5 2 102) ∷ (AddItem 4 2 5 3 873) ∷ (GetItem 4 3 2 1) ∷ [])

abbrev pub run_77 : Worked
run_77 =
    worked (settings 6 2 6 3)
    ((Join 3) ∷ (Lookup 3 3) ∷ (Join 1) ∷ (Deliver 0) ∷ (Deliver 0) ∷ (Deliver 0) ∷ (Lookup 3 1) ∷ (Leave 1) ∷ (Deliver 1) ∷ (Deliver 0) ∷ (Deliver 1) ∷ (Collect 1) ∷ (Insert 0 843) ∷ (Collect 3) ∷ (Deliver 0) ∷ (Deliver 0) ∷ (Insert 3 512) ∷ (Lookup 1 2) ∷ (Deliver 0) ∷ (Lookup 1 2) ∷ (Leave 3) ∷ (Deliver 1) ∷ (Join 4) ∷ (Deliver 2) ∷ (Leave 4) ∷ (Deliver 2) ∷ (Deliver 1) ∷ (Lookup 3 1) ∷ (Deliver 1) ∷ (Deliver 2) ∷ (Deliver 0) ∷ (Deliver 0) ∷ (Insert 3 998) ∷ (Deliver 1) ∷ (Collect 3) ∷ (Deliver 0) ∷ (Deliver 0) ∷ (Lookup 0 1) ∷ (Lookup 3 1) ∷ (Lookup 0 0) ∷ [])
    (Done ∷ (Refused Replica) ∷ Done ∷ Asked ∷ (Moved 0) ∷ (Refused NoMessage) ∷ (Opened 1) ∷ Done ∷ (Moved 0) ∷ Answered ∷ (Refused NoMessage) ∷ Nothing ∷ (Inserted 1) ∷ (Refused NoQuestion) ∷ Kept ∷ Kept ∷ (Inserted 2) ∷ (Opened 2) ∷ Kept ∷ (Opened 3) ∷ (Refused OnlyMember) ∷ Answered ∷ Done ∷ Asked ∷ (Refused NotSettled) ∷ (Moved 0) ∷ Sent ∷ (Opened 4) ∷ Answered ∷ (Refused NoMessage) ∷ Kept ∷ Answered ∷ (Inserted 3) ∷ Kept ∷ Nothing ∷ Kept ∷ (Refused NoMessage) ∷ (Opened 5) ∷ (Opened 6) ∷ (Refused Replica) ∷ [])
    ((peer 3 Settled) ∷ (peer 4 Settled) ∷ [])
    ((kept 3 1 0 1 843) ∷ (kept 3 2 0 3 998) ∷ (kept 3 1 3 3 998) ∷ (kept 3 2 3 1 843) ∷ [])
    ((GetItem 3 1 0 5) ∷ (GetItem 3 1 3 6) ∷ [])

abbrev pub run_78 : Worked
run_78 =
    worked (settings 4 4 0 0)
    ((Join 3) ∷ (Deliver 1) ∷ (Deliver 1) ∷ (Insert 3 497) ∷ (Insert 0 180) ∷ (Lookup 0 4) ∷ (Join 4) ∷ (Join 2) ∷ (Insert 3 445) ∷ (Join 0) ∷ (Join 2) ∷ (Insert 3 870) ∷ (Deliver 0) ∷ (Insert 0 760) ∷ (Join 2) ∷ (Insert 0 238) ∷ (Deliver 0) ∷ (Insert 0 171) ∷ (Insert 0 42) ∷ (Join 2) ∷ (Lookup 0 1) ∷ (Insert 0 414) ∷ (Collect 2) ∷ (Lookup 0 3) ∷ (Insert 0 844) ∷ (Insert 3 702) ∷ (Join 2) ∷ (Insert 3 414) ∷ (Insert 0 452) ∷ (Join 0) ∷ (Lookup 0 4) ∷ (Lookup 0 4) ∷ (Join 0) ∷ (Collect 1) ∷ (Insert 1 711) ∷ (Join 1) ∷ (Insert 3 625) ∷ (Collect 1) ∷ (Lookup 0 0) ∷ (Insert 0 450) ∷ [])
    (Done ∷ (Refused NoMessage) ∷ (Refused NoMessage) ∷ (Refused (ShelfFull 0)) ∷ (Refused (ShelfFull 0)) ∷ (Refused (PostFull 0)) ∷ (Refused Identifier) ∷ (Refused (PostFull 0)) ∷ (Refused (ShelfFull 0)) ∷ (Refused (PostFull 0)) ∷ (Refused (PostFull 0)) ∷ (Refused (ShelfFull 0)) ∷ (Refused NoMessage) ∷ (Refused (ShelfFull 0)) ∷ (Refused (PostFull 0)) ∷ (Refused (ShelfFull 0)) ∷ (Refused NoMessage) ∷ (Refused (ShelfFull 0)) ∷ (Refused (ShelfFull 0)) ∷ (Refused (PostFull 0)) ∷ (Refused (PostFull 0)) ∷ (Refused (ShelfFull 0)) ∷ (Refused NoQuestion) ∷ (Refused (PostFull 0)) ∷ (Refused (ShelfFull 0)) ∷ (Refused (ShelfFull 0)) ∷ (Refused (PostFull 0)) ∷ (Refused (ShelfFull 0)) ∷ (Refused (ShelfFull 0)) ∷ (Refused (PostFull 0)) ∷ (Refused (PostFull 0)) ∷ (Refused (PostFull 0)) ∷ (Refused (PostFull 0)) ∷ (Refused NoQuestion) ∷ (Refused (ShelfFull 0)) ∷ (Refused (PostFull 0)) ∷ (Refused (ShelfFull 0)) ∷ (Refused NoQuestion) ∷ (Refused Replica) ∷ (Refused (ShelfFull 0)) ∷ [])
    ((peer 3 Settled) ∷ [])
    ([])
    ([])

abbrev pub run_79 : Worked
run_79 =
    worked (settings 4 4 40 30)
    ((Join 1) ∷ (Deliver 1) ∷ (Insert 2 177) ∷ (Insert 5 892) ∷ (Lookup 2 3) ∷ (Join 2) ∷ (Lookup 2 2) ∷ (Deliver 6) ∷ (Insert 2 10) ∷ (Deliver 2) ∷ (Leave 1) ∷ (Leave 2) ∷ [])
    (Done ∷ (Refused NoMessage) ∷ (Inserted 1) ∷ (Refused Identifier) ∷ (Opened 1) ∷ Done ∷ (Opened 2) ∷ Answered ∷ (Inserted 2) ∷ Kept ∷ (Refused NotSettled) ∷ (Refused NotSettled) ∷ [])
    ((peer 1 Giving) ∷ (peer 2 (Filling 1 1 2)) ∷ [])
    ((kept 1 3 0 1 177) ∷ [])
    ((AddItem 1 1 2 1 177) ∷ (AddItem 1 2 3 1 177) ∷ (AddItem 1 4 1 1 177) ∷ (GetItem 1 3 0 1) ∷ (RetrieveItems 1 2 1 2) ∷ (AddItem 2 1 2 2 10) ∷ (AddItem 1 2 3 2 10) ∷ (AddItem 1 3 0 2 10) ∷ (AddItem 1 4 1 2 10) ∷ [])

abbrev pub run_80 : Worked
run_80 =
    worked (settings 8 2 40 30)
    ((Join 6) ∷ (Insert 2 94) ∷ (Insert 5 346) ∷ (Insert 2 667) ∷ (Insert 5 313) ∷ (Deliver 2) ∷ (Join 7) ∷ (Insert 5 51) ∷ (Leave 7) ∷ (Deliver 9) ∷ (Lookup 5 0) ∷ (Collect 2) ∷ (Lookup 4 1) ∷ (Deliver 3) ∷ (Insert 4 29) ∷ (Insert 5 676) ∷ (Lookup 6 1) ∷ (Lookup 2 2) ∷ (Join 0) ∷ (Deliver 0) ∷ (Collect 3) ∷ (Leave 7) ∷ (Insert 5 943) ∷ (Insert 5 822) ∷ (Deliver 1) ∷ (Deliver 0) ∷ (Insert 2 408) ∷ (Deliver 6) ∷ (Lookup 2 2) ∷ (Deliver 5) ∷ (Collect 4) ∷ (Collect 1) ∷ (Deliver 7) ∷ (Deliver 10) ∷ (Lookup 5 1) ∷ (Insert 4 974) ∷ (Collect 2) ∷ (Deliver 3) ∷ (Lookup 5 1) ∷ (Deliver 5) ∷ (Deliver 6) ∷ (Deliver 6) ∷ (Insert 5 44) ∷ (Leave 6) ∷ (Insert 2 168) ∷ (Collect 5) ∷ (Deliver 7) ∷ (Deliver 3) ∷ (Collect 1) ∷ (Insert 4 85) ∷ (Insert 4 150) ∷ (Insert 5 737) ∷ (Deliver 17) ∷ (Insert 4 445) ∷ (Deliver 1) ∷ (Leave 6) ∷ (Deliver 10) ∷ (Insert 5 976) ∷ (Deliver 16) ∷ (Insert 4 46) ∷ [])
    (Done ∷ (Inserted 1) ∷ (Inserted 2) ∷ (Inserted 3) ∷ (Inserted 4) ∷ Kept ∷ Done ∷ (Inserted 5) ∷ (Refused NotSettled) ∷ Kept ∷ (Refused Replica) ∷ (Refused NoQuestion) ∷ (Opened 1) ∷ Kept ∷ (Inserted 6) ∷ (Inserted 7) ∷ (Opened 2) ∷ (Opened 3) ∷ (Refused NotSettled) ∷ Older ∷ Withdrawn ∷ (Refused NotSettled) ∷ (Inserted 8) ∷ (Inserted 9) ∷ Older ∷ Kept ∷ (Inserted 10) ∷ Kept ∷ (Opened 4) ∷ Answered ∷ Withdrawn ∷ (Found 6 29) ∷ Kept ∷ Kept ∷ (Opened 5) ∷ (Inserted 11) ∷ Withdrawn ∷ Asked ∷ (Opened 6) ∷ Older ∷ Kept ∷ Kept ∷ (Inserted 12) ∷ (Refused NotSettled) ∷ (Inserted 13) ∷ Withdrawn ∷ Kept ∷ Older ∷ (Refused NoQuestion) ∷ (Inserted 14) ∷ (Inserted 15) ∷ (Inserted 16) ∷ Kept ∷ (Inserted 17) ∷ Older ∷ (Refused NotSettled) ∷ Kept ∷ (Inserted 18) ∷ Kept ∷ (Inserted 19) ∷ [])
    ((peer 6 Giving) ∷ (peer 7 (Filling 6 6 7)) ∷ [])
    ((kept 6 2 0 15 150) ∷ (kept 6 2 1 16 737) ∷ (kept 6 1 2 3 667) ∷ (kept 6 1 4 6 29) ∷ (kept 6 1 5 9 822) ∷ (kept 6 2 6 10 408) ∷ [])
    ((AddItem 6 2 6 3 667) ∷ (AddItem 6 2 1 4 313) ∷ (AddItem 6 2 0 6 29) ∷ (AddItem 6 1 5 8 943) ∷ (AddItem 6 1 2 10 408) ∷ (AddItem 6 1 4 11 974) ∷ (AddItem 6 2 0 11 974) ∷ (Replicate 7 6 6 7) ∷ (GetItem 6 1 5 6) ∷ (AddItem 6 1 5 12 44) ∷ (AddItem 6 1 2 13 168) ∷ (AddItem 6 2 6 13 168) ∷ (AddItem 6 1 4 14 85) ∷ (AddItem 6 2 0 14 85) ∷ (AddItem 6 1 4 15 150) ∷ (AddItem 6 1 5 16 737) ∷ (AddItem 6 1 4 17 445) ∷ (AddItem 6 2 0 17 445) ∷ (AddItem 6 1 5 18 976) ∷ (AddItem 6 2 1 18 976) ∷ (AddItem 6 1 4 19 46) ∷ (AddItem 6 2 0 19 46) ∷ [])

abbrev pub run_81 : Worked
run_81 =
    worked (settings 3 3 6 30)
    ((Insert 0 502) ∷ (Leave 3) ∷ (Join 0) ∷ (Insert 0 666) ∷ (Deliver 1) ∷ (Collect 2) ∷ (Deliver 0) ∷ (Deliver 0) ∷ (Insert 0 959) ∷ (Lookup 2 3) ∷ (Deliver 1) ∷ (Deliver 2) ∷ (Deliver 1) ∷ (Insert 2 532) ∷ (Deliver 0) ∷ (Insert 0 8) ∷ (Leave 0) ∷ (Join 2) ∷ (Insert 2 577) ∷ (Insert 0 950) ∷ (Deliver 0) ∷ (Leave 2) ∷ (Collect 1) ∷ (Lookup 0 2) ∷ (Deliver 3) ∷ (Leave 2) ∷ (Deliver 1) ∷ (Deliver 0) ∷ (Insert 0 339) ∷ (Deliver 1) ∷ (Deliver 0) ∷ (Lookup 2 1) ∷ (Deliver 1) ∷ (Lookup 0 1) ∷ (Leave 0) ∷ (Deliver 1) ∷ (Deliver 0) ∷ (Deliver 1) ∷ (Deliver 0) ∷ (Deliver 2) ∷ (Insert 0 994) ∷ (Insert 0 403) ∷ (Join 1) ∷ (Deliver 2) ∷ (Deliver 0) ∷ (Insert 0 312) ∷ (Lookup 4 0) ∷ (Deliver 3) ∷ (Deliver 3) ∷ (Leave 2) ∷ (Deliver 2) ∷ (Leave 1) ∷ (Deliver 0) ∷ (Insert 0 172) ∷ (Insert 0 745) ∷ (Deliver 0) ∷ (Insert 2 316) ∷ (Deliver 0) ∷ (Join 0) ∷ (Insert 3 418) ∷ [])
    ((Refused NoMember) ∷ (Refused Identifier) ∷ Done ∷ (Inserted 1) ∷ Kept ∷ (Refused NoQuestion) ∷ Kept ∷ Kept ∷ (Inserted 2) ∷ (Opened 1) ∷ Kept ∷ Answered ∷ Kept ∷ (Refused (ShelfFull 2)) ∷ Kept ∷ (Inserted 3) ∷ (Refused OnlyMember) ∷ Done ∷ (Refused (ShelfFull 0)) ∷ (Refused (ShelfFull 0)) ∷ Kept ∷ (Refused NotSettled) ∷ Nothing ∷ (Opened 2) ∷ Answered ∷ (Refused NotSettled) ∷ Sent ∷ Sent ∷ (Refused (ShelfFull 1)) ∷ Kept ∷ Asked ∷ (Opened 3) ∷ (Moved 2) ∷ (Opened 4) ∷ Done ∷ Answered ∷ Kept ∷ (Moved 1) ∷ Sent ∷ (Refused NoMessage) ∷ (Inserted 4) ∷ (Refused (ShelfFull 0)) ∷ Done ∷ Sent ∷ Sent ∷ (Refused (ShelfFull 0)) ∷ (Refused Identifier) ∷ Kept ∷ Answered ∷ (Refused NotSettled) ∷ Asked ∷ (Refused NotSettled) ∷ Sent ∷ (Refused (ShelfFull 0)) ∷ (Refused (ShelfFull 0)) ∷ Kept ∷ (Refused (ShelfFull 1)) ∷ (Moved 2) ∷ Done ∷ (Refused Identifier) ∷ [])
    ((peer 2 Settled) ∷ (peer 1 Giving) ∷ (peer 0 (Filling 1 2 0)) ∷ [])
    ((kept 1 1 0 3 8) ∷ (kept 1 2 1 4 994) ∷ (kept 2 3 2 4 994) ∷ [])
    ((AddItem 1 1 0 4 994) ∷ (RetrieveItems 1 0 2 0) ∷ [])

abbrev pub run_82 : Worked
run_82 =
    worked (settings 8 2 40 30)
    ((Join 4) ∷ (Insert 0 389) ∷ (Join 6) ∷ (Deliver 0) ∷ (Lookup 6 2) ∷ (Deliver 1) ∷ (Lookup 0 1) ∷ (Insert 7 507) ∷ (Deliver 5) ∷ (Deliver 1) ∷ (Deliver 1) ∷ (Join 0) ∷ (Lookup 7 1) ∷ (Deliver 0) ∷ (Lookup 0 1) ∷ (Leave 4) ∷ (Join 2) ∷ (Deliver 5) ∷ (Lookup 0 2) ∷ (Collect 1) ∷ (Insert 0 172) ∷ (Deliver 5) ∷ (Deliver 5) ∷ (Deliver 1) ∷ (Insert 1 55) ∷ [])
    (Done ∷ (Inserted 1) ∷ Done ∷ Kept ∷ (Opened 1) ∷ Asked ∷ (Opened 2) ∷ (Inserted 2) ∷ Kept ∷ Answered ∷ (Moved 0) ∷ Done ∷ (Opened 3) ∷ Kept ∷ (Opened 4) ∷ (Refused NotSettled) ∷ (Refused NotSettled) ∷ (Refused NoMessage) ∷ (Opened 5) ∷ Nothing ∷ (Inserted 3) ∷ Answered ∷ Kept ∷ Sent ∷ (Inserted 4) ∷ [])
    ((peer 4 Giving) ∷ (peer 6 Settled) ∷ (peer 0 (Filling 4 6 0)) ∷ [])
    ((kept 0 1 0 3 172) ∷ (kept 4 1 0 1 389) ∷ (kept 4 2 3 2 507) ∷ (kept 4 2 4 1 389) ∷ [])
    ((GetItem 4 1 0 2) ∷ (RetrieveItems 4 0 6 0) ∷ (GetItem 0 1 7 3) ∷ (GetItem 0 1 0 4) ∷ (AddItem 4 2 4 3 172) ∷ (AddItem 0 1 7 2 507) ∷ (AddItem 4 1 1 4 55) ∷ (AddItem 6 2 5 4 55) ∷ [])

abbrev pub run_83 : Worked
run_83 =
    worked (settings 2 1 40 0)
    ((Insert 0 441) ∷ (Join 0) ∷ (Insert 0 827) ∷ (Leave 0) ∷ (Join 1) ∷ (Lookup 1 1) ∷ (Insert 0 912) ∷ (Insert 0 500) ∷ (Insert 1 734) ∷ (Deliver 0) ∷ (Join 2) ∷ (Insert 3 458) ∷ [])
    ((Refused NoMember) ∷ Done ∷ (Refused (PostFull 0)) ∷ (Refused OnlyMember) ∷ (Refused (PostFull 0)) ∷ (Refused (PostFull 0)) ∷ (Refused (PostFull 0)) ∷ (Refused (PostFull 0)) ∷ (Refused (PostFull 0)) ∷ (Refused NoMessage) ∷ (Refused Identifier) ∷ (Refused Identifier) ∷ [])
    ((peer 0 Settled) ∷ [])
    ([])
    ([])

abbrev pub run_84 : Worked
run_84 =
    worked (settings 8 2 6 6)
    ((Join 5) ∷ (Collect 1) ∷ (Insert 0 19) ∷ (Insert 0 473) ∷ (Deliver 1) ∷ (Lookup 0 2) ∷ (Deliver 3) ∷ (Collect 1) ∷ (Lookup 0 1) ∷ (Deliver 1) ∷ (Collect 2) ∷ (Deliver 1) ∷ [])
    (Done ∷ (Refused NoQuestion) ∷ (Inserted 1) ∷ (Inserted 2) ∷ Kept ∷ (Opened 1) ∷ Answered ∷ (Found 1 19) ∷ (Opened 2) ∷ Kept ∷ Withdrawn ∷ Kept ∷ [])
    ((peer 5 Settled) ∷ [])
    ((kept 5 1 0 2 473) ∷ (kept 5 2 4 2 473) ∷ [])
    ((AddItem 5 1 0 1 19) ∷ [])

abbrev pub run_85 : Worked
run_85 =
    worked (settings 6 3 40 8)
    ((Collect 1) ∷ (Join 1) ∷ (Lookup 2 1) ∷ (Insert 2 42) ∷ (Join 5) ∷ (Deliver 2) ∷ (Insert 3 235) ∷ (Leave 1) ∷ (Leave 1) ∷ (Deliver 5) ∷ (Deliver 3) ∷ (Deliver 4) ∷ (Deliver 2) ∷ (Deliver 1) ∷ (Insert 3 132) ∷ (Deliver 7) ∷ (Join 0) ∷ (Deliver 1) ∷ (Deliver 0) ∷ (Deliver 0) ∷ (Deliver 1) ∷ (Collect 1) ∷ (Leave 2) ∷ (Join 4) ∷ (Deliver 4) ∷ (Deliver 2) ∷ (Deliver 0) ∷ (Join 2) ∷ (Lookup 0 1) ∷ (Join 4) ∷ (Deliver 1) ∷ (Leave 2) ∷ (Insert 2 877) ∷ (Deliver 5) ∷ (Deliver 2) ∷ (Deliver 0) ∷ (Insert 3 80) ∷ (Collect 2) ∷ (Deliver 1) ∷ (Deliver 3) ∷ [])
    ((Refused NoQuestion) ∷ Done ∷ (Opened 1) ∷ (Inserted 1) ∷ Done ∷ Sent ∷ (Inserted 2) ∷ (Refused NotSettled) ∷ (Refused NotSettled) ∷ Kept ∷ Asked ∷ Kept ∷ Kept ∷ Sent ∷ (Inserted 3) ∷ Kept ∷ (Refused NotSettled) ∷ Kept ∷ Sent ∷ Older ∷ Kept ∷ Withdrawn ∷ (Refused NotMember) ∷ (Refused NotSettled) ∷ (Refused NoMessage) ∷ Kept ∷ (Moved 0) ∷ Done ∷ (Opened 2) ∷ (Refused NotSettled) ∷ Asked ∷ (Refused NotSettled) ∷ (Inserted 4) ∷ Kept ∷ (Moved 1) ∷ Kept ∷ (Inserted 5) ∷ Withdrawn ∷ Kept ∷ Kept ∷ [])
    ((peer 1 Settled) ∷ (peer 5 Settled) ∷ (peer 2 Settled) ∷ [])
    ((kept 1 3 0 4 877) ∷ (kept 1 3 1 5 80) ∷ (kept 2 1 2 1 42) ∷ (kept 5 1 3 3 132) ∷ (kept 5 2 4 4 877) ∷ (kept 5 2 5 3 132) ∷ [])
    ((AddItem 2 1 2 4 877) ∷ (AddItem 5 1 3 5 80) ∷ (AddItem 5 2 5 5 80) ∷ [])

abbrev pub run_86 : Worked
run_86 =
    worked (settings 16 4 12 0)
    ((Leave 13) ∷ (Join 6) ∷ (Lookup 6 4) ∷ (Deliver 0) ∷ (Insert 8 409) ∷ (Insert 5 159) ∷ (Insert 12 789) ∷ (Lookup 5 4) ∷ (Insert 5 691) ∷ (Lookup 5 1) ∷ (Leave 6) ∷ (Insert 9 872) ∷ (Deliver 0) ∷ (Insert 9 113) ∷ (Lookup 6 4) ∷ (Insert 5 525) ∷ (Lookup 5 1) ∷ (Insert 6 63) ∷ (Insert 5 54) ∷ (Insert 9 83) ∷ (Insert 6 828) ∷ (Collect 2) ∷ (Collect 2) ∷ (Insert 5 917) ∷ (Join 1) ∷ (Insert 5 102) ∷ (Insert 9 238) ∷ (Join 1) ∷ (Insert 6 377) ∷ (Insert 9 531) ∷ (Insert 5 972) ∷ (Insert 5 942) ∷ (Insert 6 168) ∷ (Deliver 1) ∷ (Insert 5 833) ∷ (Lookup 6 2) ∷ (Insert 9 830) ∷ (Leave 6) ∷ (Join 2) ∷ (Deliver 0) ∷ (Insert 9 930) ∷ (Insert 9 416) ∷ (Insert 9 20) ∷ (Insert 15 705) ∷ (Deliver 1) ∷ (Collect 1) ∷ (Insert 9 526) ∷ (Insert 5 61) ∷ (Join 9) ∷ (Lookup 9 2) ∷ (Join 2) ∷ (Insert 9 855) ∷ (Insert 9 581) ∷ (Join 7) ∷ (Insert 5 532) ∷ (Join 14) ∷ (Deliver 0) ∷ (Insert 5 897) ∷ (Insert 6 319) ∷ (Deliver 1) ∷ [])
    ((Refused NotMember) ∷ Done ∷ (Refused (PostFull 0)) ∷ (Refused NoMessage) ∷ (Refused (PostFull 0)) ∷ (Refused (PostFull 0)) ∷ (Refused (PostFull 0)) ∷ (Refused (PostFull 0)) ∷ (Refused (PostFull 0)) ∷ (Refused (PostFull 0)) ∷ (Refused OnlyMember) ∷ (Refused (PostFull 0)) ∷ (Refused NoMessage) ∷ (Refused (PostFull 0)) ∷ (Refused (PostFull 0)) ∷ (Refused (PostFull 0)) ∷ (Refused (PostFull 0)) ∷ (Refused (PostFull 0)) ∷ (Refused (PostFull 0)) ∷ (Refused (PostFull 0)) ∷ (Refused (PostFull 0)) ∷ (Refused NoQuestion) ∷ (Refused NoQuestion) ∷ (Refused (PostFull 0)) ∷ (Refused (PostFull 0)) ∷ (Refused (PostFull 0)) ∷ (Refused (PostFull 0)) ∷ (Refused (PostFull 0)) ∷ (Refused (PostFull 0)) ∷ (Refused (PostFull 0)) ∷ (Refused (PostFull 0)) ∷ (Refused (PostFull 0)) ∷ (Refused (PostFull 0)) ∷ (Refused NoMessage) ∷ (Refused (PostFull 0)) ∷ (Refused (PostFull 0)) ∷ (Refused (PostFull 0)) ∷ (Refused OnlyMember) ∷ (Refused (PostFull 0)) ∷ (Refused NoMessage) ∷ (Refused (PostFull 0)) ∷ (Refused (PostFull 0)) ∷ (Refused (PostFull 0)) ∷ (Refused (PostFull 0)) ∷ (Refused NoMessage) ∷ (Refused NoQuestion) ∷ (Refused (PostFull 0)) ∷ (Refused (PostFull 0)) ∷ (Refused (PostFull 0)) ∷ (Refused (PostFull 0)) ∷ (Refused (PostFull 0)) ∷ (Refused (PostFull 0)) ∷ (Refused (PostFull 0)) ∷ (Refused (PostFull 0)) ∷ (Refused (PostFull 0)) ∷ (Refused (PostFull 0)) ∷ (Refused NoMessage) ∷ (Refused (PostFull 0)) ∷ (Refused (PostFull 0)) ∷ (Refused NoMessage) ∷ [])
    ((peer 6 Settled) ∷ [])
    ([])
    ([])

abbrev pub run_87 : Worked
run_87 =
    worked (settings 8 4 40 30)
    ((Join 3) ∷ (Deliver 1) ∷ (Collect 2) ∷ (Leave 3) ∷ (Lookup 7 4) ∷ (Deliver 0) ∷ (Insert 7 341) ∷ (Deliver 3) ∷ (Lookup 0 4) ∷ (Deliver 2) ∷ (Join 1) ∷ (Deliver 3) ∷ (Lookup 0 2) ∷ (Insert 1 59) ∷ (Insert 4 495) ∷ (Insert 4 420) ∷ (Insert 0 844) ∷ (Deliver 3) ∷ (Deliver 7) ∷ (Collect 2) ∷ (Collect 3) ∷ (Insert 4 807) ∷ (Lookup 4 0) ∷ (Deliver 5) ∷ (Collect 1) ∷ (Deliver 15) ∷ (Collect 4) ∷ (Collect 3) ∷ (Leave 1) ∷ (Deliver 2) ∷ (Deliver 12) ∷ (Insert 4 897) ∷ (Insert 7 50) ∷ (Deliver 18) ∷ (Insert 0 16) ∷ (Deliver 27) ∷ (Lookup 0 3) ∷ (Join 5) ∷ (Collect 4) ∷ (Deliver 30) ∷ [])
    (Done ∷ (Refused NoMessage) ∷ (Refused NoQuestion) ∷ (Refused OnlyMember) ∷ (Opened 1) ∷ Answered ∷ (Inserted 1) ∷ Kept ∷ (Opened 2) ∷ Kept ∷ Done ∷ Asked ∷ (Opened 3) ∷ (Inserted 2) ∷ (Inserted 3) ∷ (Inserted 4) ∷ (Inserted 5) ∷ (Moved 1) ∷ Kept ∷ Withdrawn ∷ Withdrawn ∷ (Inserted 6) ∷ (Refused Replica) ∷ Kept ∷ Nothing ∷ Kept ∷ (Refused NoQuestion) ∷ (Refused NoQuestion) ∷ Done ∷ Sent ∷ Kept ∷ (Inserted 7) ∷ (Inserted 8) ∷ Kept ∷ (Inserted 9) ∷ Kept ∷ (Opened 4) ∷ (Refused NotSettled) ∷ Withdrawn ∷ (Refused NoMessage) ∷ [])
    ((peer 3 (Filling 1 3 1)) ∷ (peer 1 Leaving) ∷ [])
    ((kept 1 1 4 3 495) ∷ (kept 1 4 5 1 341) ∷ (kept 1 4 6 5 844) ∷ (kept 1 4 7 2 59) ∷ (kept 3 1 1 2 59) ∷ (kept 3 2 2 9 16) ∷ (kept 3 3 3 1 341) ∷ [])
    ((AddItem 3 1 7 1 341) ∷ (AddItem 3 2 1 1 341) ∷ (AddItem 3 2 3 2 59) ∷ (AddItem 1 3 5 2 59) ∷ (AddItem 1 2 6 3 495) ∷ (AddItem 1 3 0 3 495) ∷ (AddItem 3 4 2 3 495) ∷ (AddItem 1 1 4 4 420) ∷ (AddItem 1 2 6 4 420) ∷ (AddItem 1 3 0 4 420) ∷ (AddItem 3 4 2 4 420) ∷ (AddItem 1 1 0 5 844) ∷ (AddItem 1 3 4 5 844) ∷ (AddItem 1 1 4 6 807) ∷ (AddItem 1 2 6 6 807) ∷ (AddItem 1 3 0 6 807) ∷ (AddItem 3 4 2 6 807) ∷ (Replicate 3 1 3 1) ∷ (AddItem 3 1 4 7 897) ∷ (AddItem 3 2 6 7 897) ∷ (AddItem 3 3 0 7 897) ∷ (AddItem 3 4 2 7 897) ∷ (AddItem 3 1 7 8 50) ∷ (AddItem 3 2 1 8 50) ∷ (AddItem 3 3 3 8 50) ∷ (AddItem 3 4 5 8 50) ∷ (AddItem 3 1 0 9 16) ∷ (AddItem 3 3 4 9 16) ∷ (AddItem 3 4 6 9 16) ∷ [])

abbrev pub run_88 : Worked
run_88 =
    worked (settings 2 1 40 0)
    ((Insert 1 517) ∷ (Insert 1 44) ∷ (Join 1) ∷ (Join 1) ∷ (Insert 1 141) ∷ (Insert 0 645) ∷ (Deliver 1) ∷ (Insert 1 475) ∷ (Insert 1 375) ∷ (Deliver 1) ∷ (Deliver 1) ∷ (Insert 1 377) ∷ (Insert 0 215) ∷ (Insert 0 311) ∷ (Insert 1 345) ∷ (Insert 1 646) ∷ (Leave 1) ∷ (Deliver 1) ∷ (Insert 1 7) ∷ (Deliver 0) ∷ (Deliver 1) ∷ (Deliver 1) ∷ (Leave 1) ∷ (Insert 1 919) ∷ (Insert 1 316) ∷ (Insert 1 943) ∷ (Lookup 1 1) ∷ (Leave 1) ∷ (Insert 1 26) ∷ (Insert 1 848) ∷ (Deliver 1) ∷ (Insert 1 421) ∷ (Join 0) ∷ (Collect 1) ∷ (Insert 0 817) ∷ (Join 0) ∷ (Deliver 1) ∷ (Collect 1) ∷ (Lookup 0 1) ∷ (Insert 1 579) ∷ [])
    ((Refused NoMember) ∷ (Refused NoMember) ∷ Done ∷ (Refused OnTable) ∷ (Refused (PostFull 0)) ∷ (Refused (PostFull 0)) ∷ (Refused NoMessage) ∷ (Refused (PostFull 0)) ∷ (Refused (PostFull 0)) ∷ (Refused NoMessage) ∷ (Refused NoMessage) ∷ (Refused (PostFull 0)) ∷ (Refused (PostFull 0)) ∷ (Refused (PostFull 0)) ∷ (Refused (PostFull 0)) ∷ (Refused (PostFull 0)) ∷ (Refused OnlyMember) ∷ (Refused NoMessage) ∷ (Refused (PostFull 0)) ∷ (Refused NoMessage) ∷ (Refused NoMessage) ∷ (Refused NoMessage) ∷ (Refused OnlyMember) ∷ (Refused (PostFull 0)) ∷ (Refused (PostFull 0)) ∷ (Refused (PostFull 0)) ∷ (Refused (PostFull 0)) ∷ (Refused OnlyMember) ∷ (Refused (PostFull 0)) ∷ (Refused (PostFull 0)) ∷ (Refused NoMessage) ∷ (Refused (PostFull 0)) ∷ (Refused (PostFull 0)) ∷ (Refused NoQuestion) ∷ (Refused (PostFull 0)) ∷ (Refused (PostFull 0)) ∷ (Refused NoMessage) ∷ (Refused NoQuestion) ∷ (Refused (PostFull 0)) ∷ (Refused (PostFull 0)) ∷ [])
    ((peer 1 Settled) ∷ [])
    ([])
    ([])

abbrev pub run_89 : Worked
run_89 =
    worked (settings 1 1 40 30)
    ((Join 0) ∷ (Insert 0 115) ∷ (Join 1) ∷ (Lookup 0 1) ∷ (Insert 0 607) ∷ (Insert 0 323) ∷ (Deliver 3) ∷ (Join 0) ∷ (Deliver 2) ∷ (Deliver 1) ∷ (Insert 0 368) ∷ (Deliver 1) ∷ (Deliver 0) ∷ (Insert 0 990) ∷ (Leave 0) ∷ (Join 1) ∷ (Deliver 0) ∷ (Leave 0) ∷ (Insert 0 233) ∷ (Deliver 0) ∷ (Insert 0 732) ∷ (Insert 0 291) ∷ (Insert 0 763) ∷ (Join 0) ∷ (Join 0) ∷ [])
    (Done ∷ (Inserted 1) ∷ (Refused Identifier) ∷ (Opened 1) ∷ (Inserted 2) ∷ (Inserted 3) ∷ Kept ∷ (Refused OnTable) ∷ Older ∷ Answered ∷ (Inserted 4) ∷ Kept ∷ Older ∷ (Inserted 5) ∷ (Refused OnlyMember) ∷ (Refused Identifier) ∷ Kept ∷ (Refused OnlyMember) ∷ (Inserted 6) ∷ Kept ∷ (Inserted 7) ∷ (Inserted 8) ∷ (Inserted 9) ∷ (Refused OnTable) ∷ (Refused OnTable) ∷ [])
    ((peer 0 Settled) ∷ [])
    ((kept 0 1 0 6 233) ∷ [])
    ((AddItem 0 1 0 7 732) ∷ (AddItem 0 1 0 8 291) ∷ (AddItem 0 1 0 9 763) ∷ [])

abbrev pub run_90 : Worked
run_90 =
    worked (settings 6 2 40 6)
    ((Join 4) ∷ (Insert 4 731) ∷ (Insert 6 938) ∷ (Lookup 4 2) ∷ (Deliver 0) ∷ (Deliver 3) ∷ (Deliver 0) ∷ (Insert 4 56) ∷ (Join 5) ∷ (Deliver 2) ∷ (Insert 4 19) ∷ (Insert 4 236) ∷ (Leave 4) ∷ (Deliver 4) ∷ (Collect 1) ∷ (Leave 5) ∷ (Deliver 1) ∷ (Lookup 4 1) ∷ (Insert 4 839) ∷ (Lookup 4 1) ∷ (Deliver 1) ∷ (Leave 5) ∷ (Join 6) ∷ (Leave 5) ∷ (Leave 5) ∷ (Insert 4 969) ∷ (Insert 4 835) ∷ (Deliver 1) ∷ (Lookup 6 2) ∷ (Collect 2) ∷ (Insert 4 736) ∷ (Insert 4 739) ∷ (Insert 4 842) ∷ (Leave 5) ∷ (Lookup 4 2) ∷ (Deliver 2) ∷ (Lookup 4 1) ∷ (Join 1) ∷ (Insert 4 177) ∷ (Insert 4 915) ∷ [])
    (Done ∷ (Inserted 1) ∷ (Refused Identifier) ∷ (Opened 1) ∷ Kept ∷ (Refused NoMessage) ∷ Kept ∷ (Inserted 2) ∷ Done ∷ Kept ∷ (Inserted 3) ∷ (Refused (PostFull 1)) ∷ (Refused NotSettled) ∷ Kept ∷ Withdrawn ∷ (Refused NotSettled) ∷ Asked ∷ (Opened 2) ∷ (Inserted 4) ∷ (Refused (PostFull 0)) ∷ Kept ∷ (Refused NotSettled) ∷ (Refused Identifier) ∷ (Refused NotSettled) ∷ (Refused NotSettled) ∷ (Refused (PostFull 1)) ∷ (Refused (PostFull 1)) ∷ (Moved 0) ∷ (Refused Identifier) ∷ Withdrawn ∷ (Inserted 5) ∷ (Refused (PostFull 1)) ∷ (Refused (PostFull 1)) ∷ Done ∷ (Refused (PostFull 0)) ∷ Kept ∷ (Opened 3) ∷ (Refused NotSettled) ∷ (Refused (PostFull 0)) ∷ (Refused (PostFull 0)) ∷ [])
    ((peer 4 (Filling 5 4 5)) ∷ (peer 5 Leaving) ∷ [])
    ((kept 4 2 1 4 839) ∷ (kept 4 1 4 3 19) ∷ [])
    ((AddItem 4 1 4 2 56) ∷ (AddItem 4 1 4 4 839) ∷ (AddItem 4 1 4 5 736) ∷ (AddItem 4 2 1 5 736) ∷ (Replicate 4 5 4 5) ∷ (GetItem 4 1 4 3) ∷ [])

abbrev pub run_91 : Worked
run_91 =
    worked (settings 6 3 0 8)
    ((Join 0) ∷ (Insert 4 351) ∷ (Lookup 3 3) ∷ (Deliver 0) ∷ (Insert 4 462) ∷ (Insert 4 498) ∷ (Lookup 0 1) ∷ (Deliver 1) ∷ (Insert 5 600) ∷ (Deliver 0) ∷ (Insert 5 769) ∷ (Insert 6 301) ∷ (Insert 4 199) ∷ (Join 2) ∷ (Deliver 0) ∷ (Lookup 0 2) ∷ (Collect 3) ∷ (Deliver 0) ∷ (Join 5) ∷ (Lookup 6 0) ∷ (Deliver 0) ∷ (Deliver 0) ∷ (Deliver 0) ∷ (Deliver 1) ∷ (Insert 5 68) ∷ [])
    (Done ∷ (Refused (ShelfFull 0)) ∷ (Opened 1) ∷ Answered ∷ (Refused (ShelfFull 0)) ∷ (Refused (ShelfFull 0)) ∷ (Opened 2) ∷ (Refused NoMessage) ∷ (Refused (ShelfFull 0)) ∷ Answered ∷ (Refused (ShelfFull 0)) ∷ (Refused Identifier) ∷ (Refused (ShelfFull 0)) ∷ Done ∷ Asked ∷ (Opened 3) ∷ Withdrawn ∷ (Moved 0) ∷ Done ∷ (Refused Identifier) ∷ Asked ∷ (Moved 0) ∷ (Refused NoMessage) ∷ (Refused NoMessage) ∷ (Refused (ShelfFull 0)) ∷ [])
    ((peer 0 Settled) ∷ (peer 2 Settled) ∷ (peer 5 Settled) ∷ [])
    ([])
    ([])

abbrev pub run_92 : Worked
run_92 =
    worked (settings 4 4 8 10)
    ((Lookup 3 2) ∷ (Lookup 3 4) ∷ (Join 2) ∷ (Insert 3 940) ∷ (Deliver 2) ∷ (Insert 3 63) ∷ (Deliver 7) ∷ (Deliver 7) ∷ (Deliver 3) ∷ (Deliver 5) ∷ (Lookup 3 4) ∷ (Join 2) ∷ (Insert 3 252) ∷ (Lookup 3 3) ∷ (Insert 3 390) ∷ (Insert 3 839) ∷ (Deliver 2) ∷ (Collect 2) ∷ (Deliver 4) ∷ (Insert 3 315) ∷ (Deliver 2) ∷ (Join 3) ∷ (Deliver 3) ∷ (Deliver 0) ∷ (Deliver 1) ∷ (Collect 1) ∷ (Collect 3) ∷ (Collect 1) ∷ (Deliver 3) ∷ (Lookup 3 1) ∷ (Lookup 3 3) ∷ (Insert 3 697) ∷ (Collect 4) ∷ (Collect 3) ∷ (Insert 3 652) ∷ (Deliver 0) ∷ (Insert 3 593) ∷ (Deliver 0) ∷ (Insert 3 128) ∷ (Insert 3 688) ∷ [])
    ((Refused NoMember) ∷ (Refused NoMember) ∷ Done ∷ (Inserted 1) ∷ Kept ∷ (Inserted 2) ∷ (Refused NoMessage) ∷ (Refused NoMessage) ∷ Kept ∷ Kept ∷ (Opened 1) ∷ (Refused OnTable) ∷ (Refused (ShelfFull 0)) ∷ (Opened 2) ∷ (Refused (ShelfFull 0)) ∷ (Refused (ShelfFull 0)) ∷ Older ∷ Withdrawn ∷ Answered ∷ (Refused (ShelfFull 1)) ∷ Kept ∷ Done ∷ Asked ∷ Sent ∷ Kept ∷ (Found 2 63) ∷ (Refused NoQuestion) ∷ (Refused NoQuestion) ∷ (Refused NoMessage) ∷ (Opened 3) ∷ (Opened 4) ∷ (Refused (ShelfFull 2)) ∷ Withdrawn ∷ Withdrawn ∷ (Refused (ShelfFull 2)) ∷ Older ∷ (Refused (ShelfFull 3)) ∷ (Moved 1) ∷ (Refused (ShelfFull 3)) ∷ (Refused (ShelfFull 3)) ∷ [])
    ((peer 2 Settled) ∷ (peer 3 Settled) ∷ [])
    ((kept 2 2 0 2 63) ∷ (kept 2 3 1 2 63) ∷ (kept 2 4 2 2 63) ∷ (kept 3 1 3 2 63) ∷ [])
    ((AddItem 3 1 3 1 940) ∷ [])

abbrev pub run_93 : Worked
run_93 =
    worked (settings 8 8 40 30)
    ((Join 1) ∷ (Collect 1) ∷ (Insert 3 745) ∷ (Deliver 0) ∷ (Insert 1 949) ∷ (Join 4) ∷ (Collect 1) ∷ (Insert 7 165) ∷ (Leave 4) ∷ (Insert 3 421) ∷ (Deliver 7) ∷ (Join 7) ∷ [])
    (Done ∷ (Refused NoQuestion) ∷ (Inserted 1) ∷ Kept ∷ (Inserted 2) ∷ Done ∷ (Refused NoQuestion) ∷ (Inserted 3) ∷ (Refused NotSettled) ∷ (Refused (PostFull 6)) ∷ Kept ∷ (Refused NotSettled) ∷ [])
    ((peer 1 Giving) ∷ (peer 4 (Filling 1 1 4)) ∷ [])
    ((kept 1 1 1 2 949) ∷ (kept 1 1 3 1 745) ∷ [])
    ((AddItem 1 2 4 1 745) ∷ (AddItem 1 3 5 1 745) ∷ (AddItem 1 4 6 1 745) ∷ (AddItem 1 5 7 1 745) ∷ (AddItem 1 6 0 1 745) ∷ (AddItem 1 7 1 1 745) ∷ (AddItem 1 8 2 1 745) ∷ (AddItem 1 2 2 2 949) ∷ (AddItem 1 3 3 2 949) ∷ (AddItem 1 4 4 2 949) ∷ (AddItem 1 5 5 2 949) ∷ (AddItem 1 6 6 2 949) ∷ (AddItem 1 7 7 2 949) ∷ (AddItem 1 8 0 2 949) ∷ (RetrieveItems 1 4 1 4) ∷ (AddItem 1 1 7 3 165) ∷ (AddItem 1 2 0 3 165) ∷ (AddItem 1 3 1 3 165) ∷ (AddItem 4 4 2 3 165) ∷ (AddItem 4 5 3 3 165) ∷ (AddItem 4 6 4 3 165) ∷ (AddItem 1 7 5 3 165) ∷ (AddItem 1 8 6 3 165) ∷ [])

abbrev pub run_94 : Worked
run_94 =
    worked (settings 4 2 40 2)
    ((Join 2) ∷ (Insert 2 834) ∷ (Deliver 1) ∷ (Deliver 0) ∷ (Join 0) ∷ (Insert 5 572) ∷ (Deliver 0) ∷ (Deliver 0) ∷ (Insert 2 143) ∷ (Collect 1) ∷ (Deliver 0) ∷ (Deliver 0) ∷ (Leave 0) ∷ (Join 3) ∷ (Lookup 2 2) ∷ (Deliver 1) ∷ (Deliver 0) ∷ (Insert 0 274) ∷ (Collect 1) ∷ (Join 1) ∷ (Insert 2 208) ∷ (Insert 0 335) ∷ (Join 1) ∷ (Deliver 0) ∷ (Deliver 0) ∷ (Leave 1) ∷ (Collect 3) ∷ (Lookup 2 2) ∷ (Deliver 2) ∷ (Insert 0 9) ∷ (Deliver 0) ∷ (Deliver 0) ∷ (Lookup 0 2) ∷ (Deliver 2) ∷ (Deliver 0) ∷ (Insert 2 389) ∷ (Deliver 0) ∷ (Lookup 0 2) ∷ (Insert 2 187) ∷ (Deliver 0) ∷ [])
    (Done ∷ (Inserted 1) ∷ Kept ∷ Kept ∷ Done ∷ (Refused Identifier) ∷ Asked ∷ (Moved 1) ∷ (Inserted 2) ∷ (Refused NoQuestion) ∷ Kept ∷ Kept ∷ Done ∷ (Refused NotSettled) ∷ (Opened 1) ∷ Answered ∷ (Moved 1) ∷ (Inserted 3) ∷ NotYet ∷ (Refused (PostFull 0)) ∷ (Refused (PostFull 0)) ∷ (Refused (PostFull 0)) ∷ (Refused (PostFull 0)) ∷ Kept ∷ Kept ∷ (Refused NotMember) ∷ (Refused NoQuestion) ∷ (Opened 2) ∷ (Refused NoMessage) ∷ (Refused (PostFull 1)) ∷ Answered ∷ (Refused NoMessage) ∷ (Opened 3) ∷ (Refused NoMessage) ∷ Answered ∷ (Inserted 4) ∷ Kept ∷ (Opened 4) ∷ (Refused (PostFull 0)) ∷ Kept ∷ [])
    ((peer 2 Settled) ∷ [])
    ((kept 2 1 0 3 274) ∷ (kept 2 2 0 4 389) ∷ (kept 2 1 2 4 389) ∷ (kept 2 2 2 3 274) ∷ [])
    ((GetItem 2 2 2 4) ∷ [])

abbrev pub run_95 : Worked
run_95 =
    worked (settings 3 3 40 30)
    ((Insert 0 481) ∷ (Insert 1 134) ∷ (Join 2) ∷ (Insert 0 926) ∷ (Insert 1 914) ∷ (Join 1) ∷ (Join 0) ∷ (Deliver 4) ∷ (Lookup 0 2) ∷ (Lookup 0 3) ∷ (Deliver 1) ∷ (Insert 1 915) ∷ (Leave 1) ∷ (Insert 0 428) ∷ (Lookup 1 4) ∷ (Deliver 1) ∷ (Insert 0 705) ∷ (Deliver 9) ∷ (Insert 0 230) ∷ (Leave 2) ∷ (Deliver 11) ∷ (Collect 4) ∷ (Insert 1 311) ∷ (Deliver 0) ∷ (Deliver 10) ∷ (Insert 0 160) ∷ (Insert 1 595) ∷ (Collect 2) ∷ (Collect 3) ∷ (Lookup 1 3) ∷ (Lookup 0 2) ∷ (Deliver 9) ∷ (Collect 3) ∷ (Collect 4) ∷ (Deliver 22) ∷ (Deliver 14) ∷ (Lookup 0 1) ∷ (Join 0) ∷ (Deliver 7) ∷ (Deliver 12) ∷ [])
    ((Refused NoMember) ∷ (Refused NoMember) ∷ Done ∷ (Inserted 1) ∷ (Inserted 2) ∷ Done ∷ (Refused NotSettled) ∷ Kept ∷ (Opened 1) ∷ (Opened 2) ∷ Sent ∷ (Inserted 3) ∷ (Refused NotSettled) ∷ (Inserted 4) ∷ (Refused Replica) ∷ Kept ∷ (Inserted 5) ∷ Kept ∷ (Inserted 6) ∷ (Refused NotSettled) ∷ Kept ∷ (Refused NoQuestion) ∷ (Inserted 7) ∷ Sent ∷ Kept ∷ (Inserted 8) ∷ (Inserted 9) ∷ Withdrawn ∷ (Refused NoQuestion) ∷ (Opened 3) ∷ (Opened 4) ∷ Kept ∷ Withdrawn ∷ Withdrawn ∷ Kept ∷ Kept ∷ (Opened 5) ∷ (Refused NotSettled) ∷ Older ∷ Kept ∷ [])
    ((peer 2 Giving) ∷ (peer 1 (Filling 2 2 1)) ∷ [])
    ((kept 1 1 0 5 705) ∷ (kept 1 3 0 9 595) ∷ (kept 1 1 1 7 311) ∷ (kept 1 2 1 5 705) ∷ (kept 2 2 2 7 311) ∷ (kept 2 3 2 4 428) ∷ [])
    ((AddItem 2 1 1 2 914) ∷ (AddItem 2 3 0 2 914) ∷ (RetrieveItems 2 1 2 1) ∷ (GetItem 1 2 1 1) ∷ (AddItem 1 2 1 1 926) ∷ (AddItem 1 1 1 3 915) ∷ (AddItem 2 2 2 3 915) ∷ (AddItem 1 2 1 4 428) ∷ (AddItem 2 3 2 5 705) ∷ (AddItem 1 1 0 6 230) ∷ (AddItem 1 2 1 6 230) ∷ (AddItem 2 3 2 6 230) ∷ (AddItem 1 3 0 7 311) ∷ (AddItem 1 1 0 1 926) ∷ (AddItem 1 1 0 8 160) ∷ (AddItem 1 2 1 8 160) ∷ (AddItem 2 3 2 8 160) ∷ (AddItem 1 1 1 9 595) ∷ (AddItem 2 2 2 9 595) ∷ (GetItem 1 1 0 5) ∷ [])

abbrev pub run_96 : Worked
run_96 =
    worked (settings 12 3 9 30)
    ((Collect 1) ∷ (Join 0) ∷ (Insert 3 340) ∷ (Deliver 1) ∷ (Leave 0) ∷ (Deliver 1) ∷ (Lookup 3 3) ∷ (Deliver 1) ∷ (Deliver 0) ∷ (Collect 1) ∷ (Join 1) ∷ (Insert 4 440) ∷ (Insert 3 506) ∷ (Collect 3) ∷ (Insert 4 333) ∷ (Insert 4 796) ∷ (Join 6) ∷ (Leave 0) ∷ (Insert 3 307) ∷ (Deliver 6) ∷ (Deliver 0) ∷ (Collect 2) ∷ (Insert 4 989) ∷ (Leave 1) ∷ (Join 9) ∷ (Deliver 4) ∷ (Join 7) ∷ (Insert 1 337) ∷ (Deliver 0) ∷ (Deliver 1) ∷ (Collect 2) ∷ (Deliver 2) ∷ (Deliver 0) ∷ (Join 10) ∷ (Deliver 1) ∷ (Leave 10) ∷ (Deliver 1) ∷ (Insert 4 280) ∷ (Deliver 0) ∷ (Deliver 0) ∷ (Insert 4 250) ∷ (Deliver 1) ∷ (Collect 1) ∷ (Deliver 1) ∷ (Insert 3 873) ∷ (Deliver 0) ∷ (Insert 4 34) ∷ (Deliver 4) ∷ (Leave 0) ∷ (Deliver 1) ∷ (Insert 3 603) ∷ (Leave 1) ∷ (Deliver 3) ∷ (Deliver 1) ∷ (Insert 4 157) ∷ (Lookup 4 2) ∷ (Lookup 4 4) ∷ (Collect 2) ∷ (Deliver 1) ∷ (Deliver 0) ∷ [])
    ((Refused NoQuestion) ∷ Done ∷ (Inserted 1) ∷ Kept ∷ (Refused OnlyMember) ∷ Kept ∷ (Opened 1) ∷ Answered ∷ Kept ∷ (Found 1 340) ∷ Done ∷ (Inserted 2) ∷ (Inserted 3) ∷ (Refused NoQuestion) ∷ (Refused (ShelfFull 0)) ∷ (Refused (ShelfFull 0)) ∷ (Refused NotSettled) ∷ (Refused NotSettled) ∷ (Refused (ShelfFull 0)) ∷ Kept ∷ Asked ∷ (Refused NoQuestion) ∷ (Refused (ShelfFull 1)) ∷ (Refused NotSettled) ∷ (Refused NotSettled) ∷ Kept ∷ (Refused NotSettled) ∷ (Refused (ShelfFull 2)) ∷ Kept ∷ Kept ∷ (Refused NoQuestion) ∷ (Moved 0) ∷ Kept ∷ Done ∷ Asked ∷ (Refused NotSettled) ∷ (Moved 4) ∷ (Refused (ShelfFull 2)) ∷ Sent ∷ Kept ∷ (Inserted 4) ∷ Kept ∷ (Refused NoQuestion) ∷ Kept ∷ (Refused (ShelfFull 2)) ∷ Kept ∷ (Inserted 5) ∷ (Refused NoMessage) ∷ Done ∷ Kept ∷ (Refused (ShelfFull 1)) ∷ (Refused NotSettled) ∷ (Refused NoMessage) ∷ Sent ∷ (Refused (ShelfFull 1)) ∷ (Opened 2) ∷ (Refused Replica) ∷ Withdrawn ∷ (Moved 2) ∷ Kept ∷ [])
    ((peer 1 Settled) ∷ (peer 10 Settled) ∷ [])
    ((kept 1 3 0 4 250) ∷ (kept 1 3 11 3 506) ∷ (kept 10 1 3 3 506) ∷ (kept 10 1 4 5 34) ∷ (kept 10 2 7 3 506) ∷ (kept 10 2 8 5 34) ∷ [])
    ((AddItem 1 3 0 5 34) ∷ [])

abbrev pub run_97 : Worked
run_97 =
    worked (settings 8 8 40 8)
    ((Join 4) ∷ (Join 2) ∷ (Deliver 0) ∷ (Join 0) ∷ (Deliver 0) ∷ (Leave 2) ∷ (Deliver 0) ∷ (Join 4) ∷ (Lookup 0 0) ∷ (Lookup 2 2) ∷ (Insert 7 401) ∷ (Deliver 0) ∷ (Deliver 0) ∷ (Join 0) ∷ (Leave 4) ∷ (Leave 4) ∷ (Leave 0) ∷ (Join 6) ∷ (Deliver 0) ∷ (Deliver 0) ∷ (Collect 1) ∷ (Insert 7 867) ∷ (Deliver 6) ∷ (Lookup 7 3) ∷ (Leave 4) ∷ [])
    (Done ∷ Done ∷ Asked ∷ (Refused NotSettled) ∷ (Moved 0) ∷ Done ∷ (Moved 0) ∷ (Refused OnTable) ∷ (Refused Replica) ∷ (Opened 1) ∷ (Refused (PostFull 7)) ∷ Answered ∷ (Refused NoMessage) ∷ Done ∷ (Refused NotSettled) ∷ (Refused NotSettled) ∷ (Refused NotSettled) ∷ (Refused NotSettled) ∷ Asked ∷ (Moved 0) ∷ Nothing ∷ (Inserted 1) ∷ Kept ∷ (Opened 2) ∷ (Refused (PostFull 0)) ∷ [])
    ((peer 4 Settled) ∷ (peer 0 Settled) ∷ [])
    ((kept 0 7 5 1 867) ∷ [])
    ((AddItem 0 1 7 1 867) ∷ (AddItem 0 2 0 1 867) ∷ (AddItem 4 3 1 1 867) ∷ (AddItem 4 4 2 1 867) ∷ (AddItem 4 5 3 1 867) ∷ (AddItem 4 6 4 1 867) ∷ (AddItem 0 8 6 1 867) ∷ (GetItem 4 3 1 2) ∷ [])

abbrev pub run_98 : Worked
run_98 =
    worked (settings 6 2 40 30)
    ((Join 5) ∷ (Collect 2) ∷ (Lookup 2 2) ∷ (Deliver 0) ∷ (Insert 0 387) ∷ (Join 2) ∷ (Deliver 2) ∷ (Deliver 2) ∷ (Lookup 0 1) ∷ (Deliver 1) ∷ (Deliver 0) ∷ (Deliver 1) ∷ [])
    (Done ∷ (Refused NoQuestion) ∷ (Opened 1) ∷ Answered ∷ (Inserted 1) ∷ Done ∷ Asked ∷ (Moved 0) ∷ (Opened 2) ∷ Kept ∷ Sent ∷ Kept ∷ [])
    ((peer 5 Settled) ∷ (peer 2 Settled) ∷ [])
    ((kept 2 1 0 1 387) ∷ (kept 5 2 3 1 387) ∷ [])
    ((GetItem 2 1 0 2) ∷ [])

abbrev pub run_99 : Worked
run_99 =
    worked (settings 1 1 40 30)
    ((Join 0) ∷ (Lookup 2 0) ∷ (Insert 0 161) ∷ (Deliver 0) ∷ (Join 1) ∷ (Insert 0 819) ∷ (Deliver 0) ∷ (Join 0) ∷ (Insert 0 746) ∷ (Deliver 2) ∷ (Collect 1) ∷ (Deliver 0) ∷ (Insert 0 740) ∷ (Deliver 0) ∷ (Insert 0 47) ∷ (Deliver 0) ∷ (Insert 0 865) ∷ (Join 0) ∷ (Deliver 0) ∷ (Collect 2) ∷ (Insert 0 407) ∷ (Join 1) ∷ (Deliver 0) ∷ (Join 0) ∷ (Insert 0 367) ∷ [])
    (Done ∷ (Refused Identifier) ∷ (Inserted 1) ∷ Kept ∷ (Refused Identifier) ∷ (Inserted 2) ∷ Kept ∷ (Refused OnTable) ∷ (Inserted 3) ∷ (Refused NoMessage) ∷ (Refused NoQuestion) ∷ Kept ∷ (Inserted 4) ∷ Kept ∷ (Inserted 5) ∷ Kept ∷ (Inserted 6) ∷ (Refused OnTable) ∷ Kept ∷ (Refused NoQuestion) ∷ (Inserted 7) ∷ (Refused Identifier) ∷ Kept ∷ (Refused OnTable) ∷ (Inserted 8) ∷ [])
    ((peer 0 Settled) ∷ [])
    ((kept 0 1 0 7 407) ∷ [])
    ((AddItem 0 1 0 8 367) ∷ [])

abbrev pub run_100 : Worked
run_100 =
    worked (settings 6 2 4 30)
    ((Join 1) ∷ (Insert 3 128) ∷ (Collect 1) ∷ (Deliver 0) ∷ (Insert 5 878) ∷ (Lookup 5 2) ∷ (Lookup 1 2) ∷ (Join 3) ∷ (Insert 1 741) ∷ (Deliver 3) ∷ (Deliver 0) ∷ (Insert 5 893) ∷ (Lookup 3 1) ∷ (Insert 3 51) ∷ (Insert 1 363) ∷ (Collect 1) ∷ (Join 2) ∷ (Deliver 0) ∷ (Lookup 5 2) ∷ (Collect 4) ∷ (Collect 3) ∷ (Insert 5 766) ∷ (Join 1) ∷ (Insert 1 378) ∷ (Deliver 2) ∷ (Deliver 1) ∷ (Deliver 1) ∷ (Deliver 0) ∷ (Deliver 0) ∷ (Insert 1 588) ∷ (Collect 2) ∷ (Lookup 5 2) ∷ (Deliver 0) ∷ (Lookup 1 1) ∷ (Insert 5 144) ∷ (Deliver 0) ∷ (Insert 3 66) ∷ (Leave 1) ∷ (Lookup 5 2) ∷ (Deliver 1) ∷ (Lookup 2 1) ∷ (Insert 3 682) ∷ (Lookup 3 1) ∷ (Lookup 3 1) ∷ (Lookup 5 2) ∷ (Collect 11) ∷ (Deliver 2) ∷ (Join 2) ∷ (Leave 1) ∷ (Deliver 2) ∷ (Deliver 0) ∷ (Deliver 0) ∷ (Insert 3 275) ∷ (Insert 0 317) ∷ (Insert 3 173) ∷ (Insert 1 360) ∷ (Lookup 5 1) ∷ (Deliver 0) ∷ (Collect 9) ∷ (Insert 5 86) ∷ [])
    (Done ∷ (Inserted 1) ∷ (Refused NoQuestion) ∷ Kept ∷ (Inserted 2) ∷ (Opened 1) ∷ (Opened 2) ∷ Done ∷ (Refused (ShelfFull 0)) ∷ Sent ∷ Kept ∷ (Refused (ShelfFull 0)) ∷ (Opened 3) ∷ (Refused (ShelfFull 0)) ∷ (Refused (ShelfFull 0)) ∷ Withdrawn ∷ (Refused NotSettled) ∷ Kept ∷ (Opened 4) ∷ Withdrawn ∷ Withdrawn ∷ (Refused (ShelfFull 0)) ∷ (Refused OnTable) ∷ (Refused (ShelfFull 0)) ∷ Asked ∷ Answered ∷ (Moved 1) ∷ Sent ∷ Kept ∷ (Refused (ShelfFull 0)) ∷ Nothing ∷ (Opened 5) ∷ Answered ∷ (Opened 6) ∷ (Refused (ShelfFull 0)) ∷ Answered ∷ (Refused (ShelfFull 0)) ∷ Done ∷ (Opened 7) ∷ Answered ∷ (Opened 8) ∷ (Refused (ShelfFull 0)) ∷ (Opened 9) ∷ (Opened 10) ∷ (Opened 11) ∷ Withdrawn ∷ Answered ∷ (Refused NotSettled) ∷ (Refused NotMember) ∷ Answered ∷ (Moved 2) ∷ Answered ∷ (Refused (ShelfFull 0)) ∷ (Refused (ShelfFull 0)) ∷ (Refused (ShelfFull 0)) ∷ (Refused (ShelfFull 0)) ∷ (Opened 12) ∷ Answered ∷ (Found 1 128) ∷ (Refused (ShelfFull 0)) ∷ [])
    ((peer 3 Settled) ∷ [])
    ((kept 3 2 0 1 128) ∷ (kept 3 2 2 2 878) ∷ (kept 3 1 3 1 128) ∷ (kept 3 1 5 2 878) ∷ [])
    ([])

abbrev pub run_101 : Worked
run_101 =
    worked (settings 12 3 40 8)
    ((Join 6) ∷ (Insert 5 166) ∷ (Deliver 1) ∷ (Deliver 0) ∷ (Join 4) ∷ (Join 0) ∷ (Deliver 1) ∷ (Collect 2) ∷ (Lookup 9 2) ∷ (Leave 4) ∷ (Join 0) ∷ (Lookup 7 0) ∷ (Insert 9 518) ∷ (Deliver 0) ∷ (Deliver 2) ∷ (Deliver 3) ∷ (Deliver 3) ∷ (Insert 9 493) ∷ (Join 8) ∷ (Deliver 3) ∷ (Collect 1) ∷ (Deliver 5) ∷ (Deliver 0) ∷ (Insert 5 480) ∷ (Insert 9 819) ∷ (Leave 6) ∷ (Deliver 4) ∷ (Deliver 4) ∷ (Deliver 2) ∷ (Deliver 2) ∷ (Lookup 9 1) ∷ (Deliver 4) ∷ (Lookup 5 3) ∷ (Deliver 5) ∷ (Deliver 4) ∷ (Join 2) ∷ (Lookup 5 2) ∷ (Insert 9 596) ∷ (Join 5) ∷ (Insert 9 963) ∷ [])
    (Done ∷ (Inserted 1) ∷ Kept ∷ Kept ∷ Done ∷ (Refused NotSettled) ∷ Asked ∷ (Refused NoQuestion) ∷ (Opened 1) ∷ (Refused NotSettled) ∷ (Refused NotSettled) ∷ (Refused Replica) ∷ (Inserted 2) ∷ Sent ∷ Kept ∷ Kept ∷ Kept ∷ (Inserted 3) ∷ (Refused NotSettled) ∷ Kept ∷ Withdrawn ∷ (Refused NoMessage) ∷ (Moved 1) ∷ (Inserted 4) ∷ (Refused (PostFull 2)) ∷ Done ∷ Kept ∷ Kept ∷ Sent ∷ Sent ∷ (Opened 2) ∷ Kept ∷ (Opened 3) ∷ Answered ∷ Answered ∷ (Refused NotSettled) ∷ (Opened 4) ∷ (Inserted 5) ∷ (Refused NotSettled) ∷ (Refused (PostFull 0)) ∷ [])
    ((peer 6 Leaving) ∷ (peer 4 (Filling 6 4 6)) ∷ [])
    ((kept 4 3 1 4 480) ∷ (kept 4 1 5 4 480) ∷ (kept 4 1 9 3 493) ∷ (kept 4 2 9 4 480) ∷ (kept 6 1 5 1 166) ∷ (kept 6 3 5 2 518) ∷ [])
    ((AddItem 4 2 1 2 518) ∷ (AddItem 4 2 1 3 493) ∷ (Replicate 4 6 4 6) ∷ (AddItem 4 3 5 3 493) ∷ (GetItem 4 2 9 4) ∷ (AddItem 4 1 9 5 596) ∷ (AddItem 4 2 1 5 596) ∷ (AddItem 4 3 5 5 596) ∷ [])

abbrev pub run_102 : Worked
run_102 =
    worked (settings 2 1 0 30)
    ((Join 2) ∷ (Join 1) ∷ (Collect 2) ∷ (Collect 1) ∷ (Insert 1 349) ∷ (Lookup 2 1) ∷ (Deliver 1) ∷ (Insert 1 494) ∷ (Join 0) ∷ (Deliver 0) ∷ (Lookup 0 1) ∷ (Lookup 0 2) ∷ (Collect 1) ∷ (Deliver 0) ∷ (Insert 1 202) ∷ (Join 1) ∷ (Lookup 1 1) ∷ (Deliver 0) ∷ (Insert 0 949) ∷ (Leave 1) ∷ (Deliver 1) ∷ (Deliver 0) ∷ (Insert 0 197) ∷ (Insert 3 703) ∷ (Deliver 0) ∷ (Join 1) ∷ (Deliver 0) ∷ (Leave 1) ∷ (Leave 0) ∷ (Leave 0) ∷ (Deliver 0) ∷ (Insert 3 670) ∷ (Join 2) ∷ (Leave 1) ∷ (Deliver 0) ∷ (Join 1) ∷ (Deliver 0) ∷ (Deliver 0) ∷ (Insert 0 878) ∷ (Insert 1 154) ∷ [])
    ((Refused Identifier) ∷ Done ∷ (Refused NoQuestion) ∷ (Refused NoQuestion) ∷ (Refused (ShelfFull 0)) ∷ (Refused Identifier) ∷ (Refused NoMessage) ∷ (Refused (ShelfFull 0)) ∷ Done ∷ Asked ∷ (Opened 1) ∷ (Refused Replica) ∷ Withdrawn ∷ (Moved 0) ∷ (Refused (ShelfFull 0)) ∷ (Refused OnTable) ∷ (Opened 2) ∷ Answered ∷ (Refused (ShelfFull 0)) ∷ Done ∷ (Refused NoMessage) ∷ (Moved 0) ∷ (Refused (ShelfFull 0)) ∷ (Refused Identifier) ∷ (Refused NoMessage) ∷ Done ∷ Asked ∷ (Refused NotSettled) ∷ (Refused NotSettled) ∷ (Refused NotSettled) ∷ (Moved 0) ∷ (Refused Identifier) ∷ (Refused Identifier) ∷ Done ∷ (Moved 0) ∷ Done ∷ Asked ∷ (Moved 0) ∷ (Refused (ShelfFull 0)) ∷ (Refused (ShelfFull 0)) ∷ [])
    ((peer 0 Settled) ∷ (peer 1 Settled) ∷ [])
    ([])
    ([])

abbrev pub run_103 : Worked
run_103 =
    worked (settings 8 8 40 30)
    ((Join 4) ∷ (Join 7) ∷ (Lookup 5 2) ∷ (Join 5) ∷ (Deliver 1) ∷ (Leave 4) ∷ (Deliver 0) ∷ (Leave 4) ∷ (Deliver 0) ∷ (Insert 0 231) ∷ (Deliver 2) ∷ (Deliver 0) ∷ [])
    (Done ∷ Done ∷ (Opened 1) ∷ (Refused NotSettled) ∷ Answered ∷ (Refused NotSettled) ∷ Asked ∷ (Refused NotSettled) ∷ (Moved 0) ∷ (Inserted 1) ∷ Kept ∷ Kept ∷ [])
    ((peer 4 Settled) ∷ (peer 7 Settled) ∷ [])
    ((kept 4 1 0 1 231) ∷ (kept 4 3 2 1 231) ∷ [])
    ((AddItem 4 2 1 1 231) ∷ (AddItem 4 4 3 1 231) ∷ (AddItem 4 5 4 1 231) ∷ (AddItem 7 6 5 1 231) ∷ (AddItem 7 7 6 1 231) ∷ (AddItem 7 8 7 1 231) ∷ [])

abbrev pub run_104 : Worked
run_104 =
    worked (settings 16 4 40 30)
    ((Join 3) ∷ (Insert 5 324) ∷ (Lookup 13 4) ∷ (Lookup 4 2) ∷ (Deliver 2) ∷ (Lookup 13 3) ∷ (Deliver 6) ∷ (Deliver 5) ∷ (Deliver 0) ∷ (Deliver 2) ∷ (Deliver 2) ∷ (Collect 2) ∷ (Lookup 5 4) ∷ (Lookup 13 3) ∷ (Deliver 2) ∷ (Insert 5 516) ∷ (Deliver 6) ∷ (Lookup 5 1) ∷ (Lookup 5 2) ∷ (Lookup 4 4) ∷ (Deliver 3) ∷ (Deliver 6) ∷ (Insert 13 984) ∷ (Lookup 5 1) ∷ (Deliver 1) ∷ [])
    (Done ∷ (Inserted 1) ∷ (Opened 1) ∷ (Opened 2) ∷ Kept ∷ (Opened 3) ∷ (Refused NoMessage) ∷ Answered ∷ Kept ∷ Answered ∷ Answered ∷ Nothing ∷ (Opened 4) ∷ (Opened 5) ∷ Answered ∷ (Inserted 2) ∷ Kept ∷ (Opened 6) ∷ (Opened 7) ∷ (Opened 8) ∷ Kept ∷ Answered ∷ (Inserted 3) ∷ (Opened 9) ∷ Older ∷ [])
    ((peer 3 Settled) ∷ [])
    ((kept 3 4 1 2 516) ∷ (kept 3 1 5 2 516) ∷ (kept 3 3 13 1 324) ∷ [])
    ((AddItem 3 2 9 1 324) ∷ (GetItem 3 3 5 5) ∷ (AddItem 3 2 9 2 516) ∷ (AddItem 3 3 13 2 516) ∷ (GetItem 3 1 5 6) ∷ (GetItem 3 4 0 8) ∷ (AddItem 3 1 13 3 984) ∷ (AddItem 3 2 1 3 984) ∷ (AddItem 3 3 5 3 984) ∷ (AddItem 3 4 9 3 984) ∷ (GetItem 3 1 5 9) ∷ [])

abbrev pub run_105 : Worked
run_105 =
    worked (settings 4 4 8 10)
    ((Join 1) ∷ (Insert 2 807) ∷ (Deliver 0) ∷ (Deliver 2) ∷ (Deliver 0) ∷ (Deliver 0) ∷ (Deliver 0) ∷ (Lookup 1 4) ∷ (Join 2) ∷ (Deliver 1) ∷ (Leave 2) ∷ (Collect 1) ∷ [])
    (Done ∷ (Inserted 1) ∷ Kept ∷ Kept ∷ Kept ∷ Kept ∷ (Refused NoMessage) ∷ (Opened 1) ∷ Done ∷ Asked ∷ (Refused NotSettled) ∷ Withdrawn ∷ [])
    ((peer 1 Giving) ∷ (peer 2 (Filling 1 1 2)) ∷ [])
    ((kept 1 3 0 1 807) ∷ (kept 1 4 1 1 807) ∷ (kept 1 1 2 1 807) ∷ (kept 1 2 3 1 807) ∷ [])
    ((Replicate 2 1 1 2) ∷ [])

abbrev pub run_106 : Worked
run_106 =
    worked (settings 2 1 3 0)
    ((Join 0) ∷ (Lookup 1 1) ∷ (Collect 1) ∷ (Join 0) ∷ (Insert 3 201) ∷ (Insert 1 716) ∷ (Insert 1 477) ∷ (Collect 2) ∷ (Join 1) ∷ (Collect 2) ∷ (Join 1) ∷ (Join 1) ∷ [])
    (Done ∷ (Refused (PostFull 0)) ∷ (Refused NoQuestion) ∷ (Refused OnTable) ∷ (Refused Identifier) ∷ (Refused (PostFull 0)) ∷ (Refused (PostFull 0)) ∷ (Refused NoQuestion) ∷ (Refused (PostFull 0)) ∷ (Refused NoQuestion) ∷ (Refused (PostFull 0)) ∷ (Refused (PostFull 0)) ∷ [])
    ((peer 0 Settled) ∷ [])
    ([])
    ([])

abbrev pub run_107 : Worked
run_107 =
    worked (settings 4 4 12 30)
    ((Insert 1 421) ∷ (Join 3) ∷ (Insert 1 534) ∷ (Insert 2 611) ∷ (Deliver 1) ∷ (Join 2) ∷ (Insert 1 98) ∷ (Leave 2) ∷ (Deliver 1) ∷ (Deliver 5) ∷ (Deliver 4) ∷ (Lookup 0 1) ∷ (Join 0) ∷ (Leave 3) ∷ (Join 1) ∷ (Deliver 6) ∷ (Deliver 3) ∷ (Lookup 2 3) ∷ (Deliver 7) ∷ (Leave 3) ∷ (Leave 2) ∷ (Deliver 0) ∷ (Leave 3) ∷ (Insert 0 868) ∷ (Deliver 2) ∷ [])
    ((Refused NoMember) ∷ Done ∷ (Inserted 1) ∷ (Inserted 2) ∷ Kept ∷ Done ∷ (Inserted 3) ∷ (Refused NotSettled) ∷ Kept ∷ Sent ∷ Sent ∷ (Opened 1) ∷ (Refused NotSettled) ∷ (Refused NotSettled) ∷ (Refused NotSettled) ∷ Kept ∷ Kept ∷ (Opened 2) ∷ Kept ∷ (Refused NotSettled) ∷ (Refused NotSettled) ∷ Sent ∷ (Refused NotSettled) ∷ (Refused (ShelfFull 0)) ∷ Asked ∷ [])
    ((peer 3 Giving) ∷ (peer 2 (Filling 3 3 2)) ∷ [])
    ((kept 2 4 1 2 611) ∷ (kept 2 2 2 3 98) ∷ (kept 3 2 2 1 534) ∷ (kept 3 2 3 2 611) ∷ (kept 3 3 3 1 534) ∷ [])
    ((AddItem 3 4 0 1 534) ∷ (AddItem 3 1 2 2 611) ∷ (AddItem 2 1 1 3 98) ∷ (AddItem 3 3 3 3 98) ∷ (AddItem 2 4 0 3 98) ∷ (AddItem 2 3 0 2 611) ∷ (GetItem 2 1 0 1) ∷ (GetItem 2 3 0 2) ∷ (AddItem 2 1 1 1 534) ∷ (Replicate 2 3 3 2) ∷ [])

abbrev pub run_108 : Worked
run_108 =
    worked (settings 6 3 9 30)
    ((Insert 0 0) ∷ (Join 4) ∷ (Lookup 0 2) ∷ (Deliver 0) ∷ (Collect 1) ∷ (Insert 0 237) ∷ (Insert 0 413) ∷ (Insert 0 636) ∷ (Insert 0 945) ∷ (Lookup 0 3) ∷ (Deliver 7) ∷ (Insert 0 214) ∷ [])
    ((Refused NoMember) ∷ Done ∷ (Opened 1) ∷ Answered ∷ Nothing ∷ (Inserted 1) ∷ (Inserted 2) ∷ (Inserted 3) ∷ (Refused (ShelfFull 0)) ∷ (Opened 2) ∷ Kept ∷ (Refused (ShelfFull 0)) ∷ [])
    ((peer 4 Settled) ∷ [])
    ((kept 4 2 2 3 636) ∷ [])
    ((AddItem 4 1 0 1 237) ∷ (AddItem 4 2 2 1 237) ∷ (AddItem 4 3 4 1 237) ∷ (AddItem 4 1 0 2 413) ∷ (AddItem 4 2 2 2 413) ∷ (AddItem 4 3 4 2 413) ∷ (AddItem 4 1 0 3 636) ∷ (AddItem 4 3 4 3 636) ∷ (GetItem 4 3 4 2) ∷ [])

abbrev pub run_109 : Worked
run_109 =
    worked (settings 16 4 40 30)
    ((Join 7) ∷ (Insert 12 272) ∷ (Join 11) ∷ (Collect 2) ∷ (Join 2) ∷ (Insert 4 37) ∷ (Deliver 3) ∷ (Leave 7) ∷ (Deliver 1) ∷ (Collect 1) ∷ (Leave 7) ∷ (Insert 15 122) ∷ [])
    (Done ∷ (Inserted 1) ∷ Done ∷ (Refused NoQuestion) ∷ (Refused NotSettled) ∷ (Inserted 2) ∷ Sent ∷ (Refused NotSettled) ∷ Kept ∷ (Refused NoQuestion) ∷ (Refused NotSettled) ∷ (Inserted 3) ∷ [])
    ((peer 7 Giving) ∷ (peer 11 (Filling 7 7 11)) ∷ [])
    ((kept 7 2 0 1 272) ∷ [])
    ((AddItem 7 1 12 1 272) ∷ (AddItem 7 3 4 1 272) ∷ (RetrieveItems 7 11 7 11) ∷ (AddItem 7 1 4 2 37) ∷ (AddItem 11 2 8 2 37) ∷ (AddItem 7 3 12 2 37) ∷ (AddItem 7 4 0 2 37) ∷ (AddItem 11 4 8 1 272) ∷ (AddItem 7 1 15 3 122) ∷ (AddItem 7 2 3 3 122) ∷ (AddItem 7 3 7 3 122) ∷ (AddItem 11 4 11 3 122) ∷ [])

abbrev pub run_110 : Worked
run_110 =
    worked (settings 4 2 4 2)
    ((Leave 2) ∷ (Join 2) ∷ (Collect 1) ∷ (Insert 1 574) ∷ (Deliver 0) ∷ (Insert 0 919) ∷ (Deliver 0) ∷ (Insert 1 155) ∷ (Lookup 0 1) ∷ (Insert 1 238) ∷ (Deliver 0) ∷ (Deliver 0) ∷ (Insert 3 323) ∷ (Insert 1 696) ∷ (Deliver 1) ∷ (Leave 2) ∷ (Deliver 0) ∷ (Join 3) ∷ (Leave 3) ∷ (Join 0) ∷ (Insert 1 807) ∷ (Insert 3 670) ∷ (Deliver 0) ∷ (Deliver 0) ∷ (Lookup 5 2) ∷ (Insert 0 569) ∷ (Insert 3 589) ∷ (Join 0) ∷ (Lookup 3 1) ∷ (Deliver 1) ∷ (Collect 1) ∷ (Join 1) ∷ (Deliver 0) ∷ (Leave 0) ∷ (Deliver 0) ∷ (Insert 0 327) ∷ (Insert 1 776) ∷ (Insert 0 770) ∷ (Deliver 0) ∷ (Join 3) ∷ (Deliver 1) ∷ (Lookup 1 1) ∷ (Insert 1 348) ∷ (Lookup 1 2) ∷ (Deliver 1) ∷ (Deliver 1) ∷ (Deliver 0) ∷ (Insert 0 781) ∷ (Insert 2 407) ∷ (Insert 5 772) ∷ (Insert 5 226) ∷ (Insert 3 473) ∷ (Insert 3 245) ∷ (Leave 3) ∷ (Lookup 0 1) ∷ (Leave 3) ∷ (Leave 3) ∷ (Leave 0) ∷ (Deliver 1) ∷ (Join 4) ∷ [])
    ((Refused NotMember) ∷ Done ∷ (Refused NoQuestion) ∷ (Inserted 1) ∷ Kept ∷ (Refused (PostFull 1)) ∷ Kept ∷ (Inserted 2) ∷ (Refused (PostFull 0)) ∷ (Refused (ShelfFull 0)) ∷ Kept ∷ Kept ∷ (Inserted 3) ∷ (Refused (ShelfFull 0)) ∷ Kept ∷ (Refused OnlyMember) ∷ Kept ∷ Done ∷ (Refused NotSettled) ∷ (Refused NotSettled) ∷ (Refused (ShelfFull 0)) ∷ (Refused (ShelfFull 0)) ∷ Asked ∷ (Moved 2) ∷ (Refused Identifier) ∷ (Refused (ShelfFull 0)) ∷ (Refused (ShelfFull 0)) ∷ Done ∷ (Opened 1) ∷ Answered ∷ (Found 3 323) ∷ (Refused NotSettled) ∷ Asked ∷ (Refused NotSettled) ∷ (Moved 0) ∷ (Refused (ShelfFull 0)) ∷ (Refused (ShelfFull 0)) ∷ (Refused (ShelfFull 0)) ∷ (Refused NoMessage) ∷ (Refused OnTable) ∷ (Refused NoMessage) ∷ (Opened 2) ∷ (Refused (ShelfFull 0)) ∷ (Opened 3) ∷ Answered ∷ (Refused NoMessage) ∷ Answered ∷ (Refused (ShelfFull 0)) ∷ (Refused (ShelfFull 0)) ∷ (Refused Identifier) ∷ (Refused Identifier) ∷ (Refused (ShelfFull 0)) ∷ (Refused (ShelfFull 0)) ∷ Done ∷ (Opened 4) ∷ (Refused NotMember) ∷ (Refused NotMember) ∷ (Refused NotSettled) ∷ Answered ∷ (Refused Identifier) ∷ [])
    ((peer 2 Settled) ∷ (peer 3 Leaving) ∷ (peer 0 (Filling 3 2 3)) ∷ [])
    ((kept 2 1 1 2 155) ∷ (kept 2 2 1 3 323) ∷ (kept 3 1 3 3 323) ∷ (kept 3 2 3 2 155) ∷ [])
    ((Replicate 0 3 2 3) ∷ [])

abbrev pub runs : List Worked
runs = (run_75 ∷ run_76 ∷ run_77 ∷ run_78 ∷ run_79 ∷ run_80 ∷ run_81 ∷ run_82 ∷ run_83 ∷ run_84 ∷ run_85 ∷ run_86 ∷ run_87 ∷ run_88 ∷ run_89 ∷ run_90 ∷ run_91 ∷ run_92 ∷ run_93 ∷ run_94 ∷ run_95 ∷ run_96 ∷ run_97 ∷ run_98 ∷ run_99 ∷ run_100 ∷ run_101 ∷ run_102 ∷ run_103 ∷ run_104 ∷ run_105 ∷ run_106 ∷ run_107 ∷ run_108 ∷ run_109 ∷ run_110 ∷ [])
