-- A worked week, a full table and the most open questions. Made by scripts/model.py; not to be edited.
use Rattle.std.specs.Prelude.{List, [], ◌∷◌}
use Rattle.faults.specs.declared.Fault.TheVariants.{Identifier, Replica, TableFull, NotMember, OnlyMember, NotSettled, QuestionsOpen, NoMessage, NoQuestion}
use Rattle.messages.specs.declared.Message.TheVariants.{GetItem}
use Rattle.rules.specs.declared.PeerState.TheVariants.{Settled}
use Rattle.rules.specs.declared.Call.TheVariants.{Join, Leave, Insert, Lookup, Deliver, Collect}
use Rattle.rules.specs.declared.Answer.TheVariants.{Done, Inserted, Opened, Asked, Moved, Sent, Kept, Answered, Found, Nothing, NotYet, Withdrawn, Refused}
use Rattle.rules.specs.State.{peer}
use Rattle.rule_checks.specs.Worked.{Worked, worked, settings, kept}

abbrev pub week : Worked
week =
    worked (settings 16 4 64 16)
    ((Join 3) ∷ (Join 8) ∷ (Insert 5 77) ∷ (Leave 3) ∷ (Lookup 5 1) ∷ (Deliver 5) ∷ (Collect 1) ∷ (Deliver 0) ∷ (Deliver 0) ∷ (Deliver 0) ∷ (Deliver 0) ∷ (Deliver 0) ∷ (Deliver 0) ∷ (Lookup 5 2) ∷ (Deliver 0) ∷ (Collect 2) ∷ (Insert 5 78) ∷ (Lookup 5 1) ∷ (Deliver 4) ∷ (Collect 3) ∷ (Join 14) ∷ (Join 1) ∷ (Deliver 0) ∷ (Deliver 0) ∷ (Deliver 0) ∷ (Deliver 0) ∷ (Deliver 0) ∷ (Deliver 0) ∷ (Deliver 0) ∷ (Deliver 0) ∷ (Deliver 0) ∷ (Deliver 0) ∷ (Lookup 5 1) ∷ (Lookup 5 2) ∷ (Lookup 5 3) ∷ (Lookup 5 4) ∷ (Lookup 5 5) ∷ (Deliver 0) ∷ (Deliver 0) ∷ (Deliver 0) ∷ (Deliver 0) ∷ (Collect 4) ∷ (Collect 5) ∷ (Collect 6) ∷ (Collect 7) ∷ (Collect 8) ∷ (Insert 15 9) ∷ (Leave 8) ∷ (Deliver 4) ∷ (Deliver 0) ∷ (Deliver 0) ∷ (Deliver 0) ∷ (Deliver 0) ∷ (Lookup 15 2) ∷ (Collect 8) ∷ (Insert 16 1) ∷ (Leave 3) ∷ (Deliver 0) ∷ (Leave 14) ∷ (Deliver 0) ∷ (Leave 1) ∷ (Lookup 15 4) ∷ (Lookup 0 1) ∷ (Deliver 1) ∷ (Deliver 0) ∷ (Collect 9) ∷ (Collect 10) ∷ (Collect 11) ∷ [])
    (Done ∷ Done ∷ (Inserted 1) ∷ (Refused NotSettled) ∷ (Opened 1) ∷ Answered ∷ NotYet ∷ Asked ∷ Kept ∷ Kept ∷ Kept ∷ Kept ∷ (Moved 0) ∷ (Opened 2) ∷ Answered ∷ (Found 1 77) ∷ (Inserted 2) ∷ (Opened 3) ∷ Answered ∷ (Found 1 77) ∷ Done ∷ (Refused NotSettled) ∷ Kept ∷ Sent ∷ Sent ∷ Kept ∷ Asked ∷ Kept ∷ Kept ∷ (Moved 2) ∷ (Refused NoMessage) ∷ (Refused NoMessage) ∷ (Opened 4) ∷ (Opened 5) ∷ (Opened 6) ∷ (Opened 7) ∷ (Refused Replica) ∷ Answered ∷ Answered ∷ Answered ∷ Answered ∷ (Found 2 78) ∷ (Found 2 78) ∷ (Found 2 78) ∷ (Found 2 78) ∷ (Refused NoQuestion) ∷ (Inserted 3) ∷ Done ∷ (Moved 1) ∷ Kept ∷ Kept ∷ Sent ∷ Kept ∷ (Opened 8) ∷ Withdrawn ∷ (Refused Identifier) ∷ Done ∷ Kept ∷ (Refused OnlyMember) ∷ (Moved 3) ∷ (Refused NotMember) ∷ (Opened 9) ∷ (Opened 10) ∷ Answered ∷ Answered ∷ (Found 3 9) ∷ Nothing ∷ (Refused NoQuestion) ∷ [])
    ((peer 14 Settled) ∷ [])
    ((kept 14 4 1 2 78) ∷ (kept 14 2 3 3 9) ∷ (kept 14 1 5 2 78) ∷ (kept 14 3 7 3 9) ∷ (kept 14 2 9 2 78) ∷ (kept 14 4 11 3 9) ∷ (kept 14 3 13 2 78) ∷ (kept 14 1 15 3 9) ∷ [])
    ([])

abbrev pub full_table : Worked
full_table =
    worked (settings 70 1 4 4)
    ((Join 0) ∷ (Join 1) ∷ (Deliver 0) ∷ (Deliver 0) ∷ (Join 2) ∷ (Deliver 0) ∷ (Deliver 0) ∷ (Join 3) ∷ (Deliver 0) ∷ (Deliver 0) ∷ (Join 4) ∷ (Deliver 0) ∷ (Deliver 0) ∷ (Join 5) ∷ (Deliver 0) ∷ (Deliver 0) ∷ (Join 6) ∷ (Deliver 0) ∷ (Deliver 0) ∷ (Join 7) ∷ (Deliver 0) ∷ (Deliver 0) ∷ (Join 8) ∷ (Deliver 0) ∷ (Deliver 0) ∷ (Join 9) ∷ (Deliver 0) ∷ (Deliver 0) ∷ (Join 10) ∷ (Deliver 0) ∷ (Deliver 0) ∷ (Join 11) ∷ (Deliver 0) ∷ (Deliver 0) ∷ (Join 12) ∷ (Deliver 0) ∷ (Deliver 0) ∷ (Join 13) ∷ (Deliver 0) ∷ (Deliver 0) ∷ (Join 14) ∷ (Deliver 0) ∷ (Deliver 0) ∷ (Join 15) ∷ (Deliver 0) ∷ (Deliver 0) ∷ (Join 16) ∷ (Deliver 0) ∷ (Deliver 0) ∷ (Join 17) ∷ (Deliver 0) ∷ (Deliver 0) ∷ (Join 18) ∷ (Deliver 0) ∷ (Deliver 0) ∷ (Join 19) ∷ (Deliver 0) ∷ (Deliver 0) ∷ (Join 20) ∷ (Deliver 0) ∷ (Deliver 0) ∷ (Join 21) ∷ (Deliver 0) ∷ (Deliver 0) ∷ (Join 22) ∷ (Deliver 0) ∷ (Deliver 0) ∷ (Join 23) ∷ (Deliver 0) ∷ (Deliver 0) ∷ (Join 24) ∷ (Deliver 0) ∷ (Deliver 0) ∷ (Join 25) ∷ (Deliver 0) ∷ (Deliver 0) ∷ (Join 26) ∷ (Deliver 0) ∷ (Deliver 0) ∷ (Join 27) ∷ (Deliver 0) ∷ (Deliver 0) ∷ (Join 28) ∷ (Deliver 0) ∷ (Deliver 0) ∷ (Join 29) ∷ (Deliver 0) ∷ (Deliver 0) ∷ (Join 30) ∷ (Deliver 0) ∷ (Deliver 0) ∷ (Join 31) ∷ (Deliver 0) ∷ (Deliver 0) ∷ (Join 32) ∷ (Deliver 0) ∷ (Deliver 0) ∷ (Join 33) ∷ (Deliver 0) ∷ (Deliver 0) ∷ (Join 34) ∷ (Deliver 0) ∷ (Deliver 0) ∷ (Join 35) ∷ (Deliver 0) ∷ (Deliver 0) ∷ (Join 36) ∷ (Deliver 0) ∷ (Deliver 0) ∷ (Join 37) ∷ (Deliver 0) ∷ (Deliver 0) ∷ (Join 38) ∷ (Deliver 0) ∷ (Deliver 0) ∷ (Join 39) ∷ (Deliver 0) ∷ (Deliver 0) ∷ (Join 40) ∷ (Deliver 0) ∷ (Deliver 0) ∷ (Join 41) ∷ (Deliver 0) ∷ (Deliver 0) ∷ (Join 42) ∷ (Deliver 0) ∷ (Deliver 0) ∷ (Join 43) ∷ (Deliver 0) ∷ (Deliver 0) ∷ (Join 44) ∷ (Deliver 0) ∷ (Deliver 0) ∷ (Join 45) ∷ (Deliver 0) ∷ (Deliver 0) ∷ (Join 46) ∷ (Deliver 0) ∷ (Deliver 0) ∷ (Join 47) ∷ (Deliver 0) ∷ (Deliver 0) ∷ (Join 48) ∷ (Deliver 0) ∷ (Deliver 0) ∷ (Join 49) ∷ (Deliver 0) ∷ (Deliver 0) ∷ (Join 50) ∷ (Deliver 0) ∷ (Deliver 0) ∷ (Join 51) ∷ (Deliver 0) ∷ (Deliver 0) ∷ (Join 52) ∷ (Deliver 0) ∷ (Deliver 0) ∷ (Join 53) ∷ (Deliver 0) ∷ (Deliver 0) ∷ (Join 54) ∷ (Deliver 0) ∷ (Deliver 0) ∷ (Join 55) ∷ (Deliver 0) ∷ (Deliver 0) ∷ (Join 56) ∷ (Deliver 0) ∷ (Deliver 0) ∷ (Join 57) ∷ (Deliver 0) ∷ (Deliver 0) ∷ (Join 58) ∷ (Deliver 0) ∷ (Deliver 0) ∷ (Join 59) ∷ (Deliver 0) ∷ (Deliver 0) ∷ (Join 60) ∷ (Deliver 0) ∷ (Deliver 0) ∷ (Join 61) ∷ (Deliver 0) ∷ (Deliver 0) ∷ (Join 62) ∷ (Deliver 0) ∷ (Deliver 0) ∷ (Join 63) ∷ (Deliver 0) ∷ (Deliver 0) ∷ (Join 64) ∷ (Join 65) ∷ [])
    (Done ∷ Done ∷ Asked ∷ (Moved 0) ∷ Done ∷ Asked ∷ (Moved 0) ∷ Done ∷ Asked ∷ (Moved 0) ∷ Done ∷ Asked ∷ (Moved 0) ∷ Done ∷ Asked ∷ (Moved 0) ∷ Done ∷ Asked ∷ (Moved 0) ∷ Done ∷ Asked ∷ (Moved 0) ∷ Done ∷ Asked ∷ (Moved 0) ∷ Done ∷ Asked ∷ (Moved 0) ∷ Done ∷ Asked ∷ (Moved 0) ∷ Done ∷ Asked ∷ (Moved 0) ∷ Done ∷ Asked ∷ (Moved 0) ∷ Done ∷ Asked ∷ (Moved 0) ∷ Done ∷ Asked ∷ (Moved 0) ∷ Done ∷ Asked ∷ (Moved 0) ∷ Done ∷ Asked ∷ (Moved 0) ∷ Done ∷ Asked ∷ (Moved 0) ∷ Done ∷ Asked ∷ (Moved 0) ∷ Done ∷ Asked ∷ (Moved 0) ∷ Done ∷ Asked ∷ (Moved 0) ∷ Done ∷ Asked ∷ (Moved 0) ∷ Done ∷ Asked ∷ (Moved 0) ∷ Done ∷ Asked ∷ (Moved 0) ∷ Done ∷ Asked ∷ (Moved 0) ∷ Done ∷ Asked ∷ (Moved 0) ∷ Done ∷ Asked ∷ (Moved 0) ∷ Done ∷ Asked ∷ (Moved 0) ∷ Done ∷ Asked ∷ (Moved 0) ∷ Done ∷ Asked ∷ (Moved 0) ∷ Done ∷ Asked ∷ (Moved 0) ∷ Done ∷ Asked ∷ (Moved 0) ∷ Done ∷ Asked ∷ (Moved 0) ∷ Done ∷ Asked ∷ (Moved 0) ∷ Done ∷ Asked ∷ (Moved 0) ∷ Done ∷ Asked ∷ (Moved 0) ∷ Done ∷ Asked ∷ (Moved 0) ∷ Done ∷ Asked ∷ (Moved 0) ∷ Done ∷ Asked ∷ (Moved 0) ∷ Done ∷ Asked ∷ (Moved 0) ∷ Done ∷ Asked ∷ (Moved 0) ∷ Done ∷ Asked ∷ (Moved 0) ∷ Done ∷ Asked ∷ (Moved 0) ∷ Done ∷ Asked ∷ (Moved 0) ∷ Done ∷ Asked ∷ (Moved 0) ∷ Done ∷ Asked ∷ (Moved 0) ∷ Done ∷ Asked ∷ (Moved 0) ∷ Done ∷ Asked ∷ (Moved 0) ∷ Done ∷ Asked ∷ (Moved 0) ∷ Done ∷ Asked ∷ (Moved 0) ∷ Done ∷ Asked ∷ (Moved 0) ∷ Done ∷ Asked ∷ (Moved 0) ∷ Done ∷ Asked ∷ (Moved 0) ∷ Done ∷ Asked ∷ (Moved 0) ∷ Done ∷ Asked ∷ (Moved 0) ∷ Done ∷ Asked ∷ (Moved 0) ∷ Done ∷ Asked ∷ (Moved 0) ∷ Done ∷ Asked ∷ (Moved 0) ∷ Done ∷ Asked ∷ (Moved 0) ∷ Done ∷ Asked ∷ (Moved 0) ∷ Done ∷ Asked ∷ (Moved 0) ∷ Done ∷ Asked ∷ (Moved 0) ∷ Done ∷ Asked ∷ (Moved 0) ∷ Done ∷ Asked ∷ (Moved 0) ∷ (Refused TableFull) ∷ (Refused TableFull) ∷ [])
    ((peer 0 Settled) ∷ (peer 1 Settled) ∷ (peer 2 Settled) ∷ (peer 3 Settled) ∷ (peer 4 Settled) ∷ (peer 5 Settled) ∷ (peer 6 Settled) ∷ (peer 7 Settled) ∷ (peer 8 Settled) ∷ (peer 9 Settled) ∷ (peer 10 Settled) ∷ (peer 11 Settled) ∷ (peer 12 Settled) ∷ (peer 13 Settled) ∷ (peer 14 Settled) ∷ (peer 15 Settled) ∷ (peer 16 Settled) ∷ (peer 17 Settled) ∷ (peer 18 Settled) ∷ (peer 19 Settled) ∷ (peer 20 Settled) ∷ (peer 21 Settled) ∷ (peer 22 Settled) ∷ (peer 23 Settled) ∷ (peer 24 Settled) ∷ (peer 25 Settled) ∷ (peer 26 Settled) ∷ (peer 27 Settled) ∷ (peer 28 Settled) ∷ (peer 29 Settled) ∷ (peer 30 Settled) ∷ (peer 31 Settled) ∷ (peer 32 Settled) ∷ (peer 33 Settled) ∷ (peer 34 Settled) ∷ (peer 35 Settled) ∷ (peer 36 Settled) ∷ (peer 37 Settled) ∷ (peer 38 Settled) ∷ (peer 39 Settled) ∷ (peer 40 Settled) ∷ (peer 41 Settled) ∷ (peer 42 Settled) ∷ (peer 43 Settled) ∷ (peer 44 Settled) ∷ (peer 45 Settled) ∷ (peer 46 Settled) ∷ (peer 47 Settled) ∷ (peer 48 Settled) ∷ (peer 49 Settled) ∷ (peer 50 Settled) ∷ (peer 51 Settled) ∷ (peer 52 Settled) ∷ (peer 53 Settled) ∷ (peer 54 Settled) ∷ (peer 55 Settled) ∷ (peer 56 Settled) ∷ (peer 57 Settled) ∷ (peer 58 Settled) ∷ (peer 59 Settled) ∷ (peer 60 Settled) ∷ (peer 61 Settled) ∷ (peer 62 Settled) ∷ (peer 63 Settled) ∷ [])
    ([])
    ([])

abbrev pub full_questions : Worked
full_questions =
    worked (settings 1 1 1 2)
    ((Join 0) ∷ (Lookup 0 1) ∷ (Deliver 0) ∷ (Lookup 0 1) ∷ (Deliver 0) ∷ (Lookup 0 1) ∷ (Deliver 0) ∷ (Lookup 0 1) ∷ (Deliver 0) ∷ (Lookup 0 1) ∷ (Deliver 0) ∷ (Lookup 0 1) ∷ (Deliver 0) ∷ (Lookup 0 1) ∷ (Deliver 0) ∷ (Lookup 0 1) ∷ (Deliver 0) ∷ (Lookup 0 1) ∷ (Deliver 0) ∷ (Lookup 0 1) ∷ (Deliver 0) ∷ (Lookup 0 1) ∷ (Deliver 0) ∷ (Lookup 0 1) ∷ (Deliver 0) ∷ (Lookup 0 1) ∷ (Deliver 0) ∷ (Lookup 0 1) ∷ (Deliver 0) ∷ (Lookup 0 1) ∷ (Deliver 0) ∷ (Lookup 0 1) ∷ (Deliver 0) ∷ (Lookup 0 1) ∷ (Deliver 0) ∷ (Lookup 0 1) ∷ (Deliver 0) ∷ (Lookup 0 1) ∷ (Deliver 0) ∷ (Lookup 0 1) ∷ (Deliver 0) ∷ (Lookup 0 1) ∷ (Deliver 0) ∷ (Lookup 0 1) ∷ (Deliver 0) ∷ (Lookup 0 1) ∷ (Deliver 0) ∷ (Lookup 0 1) ∷ (Deliver 0) ∷ (Lookup 0 1) ∷ (Deliver 0) ∷ (Lookup 0 1) ∷ (Deliver 0) ∷ (Lookup 0 1) ∷ (Deliver 0) ∷ (Lookup 0 1) ∷ (Deliver 0) ∷ (Lookup 0 1) ∷ (Deliver 0) ∷ (Lookup 0 1) ∷ (Deliver 0) ∷ (Lookup 0 1) ∷ (Deliver 0) ∷ (Lookup 0 1) ∷ (Deliver 0) ∷ (Lookup 0 1) ∷ (Deliver 0) ∷ (Lookup 0 1) ∷ (Deliver 0) ∷ (Lookup 0 1) ∷ (Deliver 0) ∷ (Lookup 0 1) ∷ (Deliver 0) ∷ (Lookup 0 1) ∷ (Deliver 0) ∷ (Lookup 0 1) ∷ (Deliver 0) ∷ (Lookup 0 1) ∷ (Deliver 0) ∷ (Lookup 0 1) ∷ (Deliver 0) ∷ (Lookup 0 1) ∷ (Deliver 0) ∷ (Lookup 0 1) ∷ (Deliver 0) ∷ (Lookup 0 1) ∷ (Deliver 0) ∷ (Lookup 0 1) ∷ (Deliver 0) ∷ (Lookup 0 1) ∷ (Deliver 0) ∷ (Lookup 0 1) ∷ (Deliver 0) ∷ (Lookup 0 1) ∷ (Deliver 0) ∷ (Lookup 0 1) ∷ (Deliver 0) ∷ (Lookup 0 1) ∷ (Deliver 0) ∷ (Lookup 0 1) ∷ (Deliver 0) ∷ (Lookup 0 1) ∷ (Deliver 0) ∷ (Lookup 0 1) ∷ (Deliver 0) ∷ (Lookup 0 1) ∷ (Deliver 0) ∷ (Lookup 0 1) ∷ (Deliver 0) ∷ (Lookup 0 1) ∷ (Deliver 0) ∷ (Lookup 0 1) ∷ (Deliver 0) ∷ (Lookup 0 1) ∷ (Deliver 0) ∷ (Lookup 0 1) ∷ (Deliver 0) ∷ (Lookup 0 1) ∷ (Deliver 0) ∷ (Lookup 0 1) ∷ (Deliver 0) ∷ (Lookup 0 1) ∷ (Deliver 0) ∷ (Lookup 0 1) ∷ (Deliver 0) ∷ (Lookup 0 1) ∷ (Deliver 0) ∷ (Lookup 0 1) ∷ (Deliver 0) ∷ (Lookup 0 1) ∷ (Deliver 0) ∷ (Lookup 0 1) ∷ (Deliver 0) ∷ (Collect 9) ∷ (Lookup 0 1) ∷ [])
    (Done ∷ (Opened 1) ∷ Answered ∷ (Opened 2) ∷ Answered ∷ (Opened 3) ∷ Answered ∷ (Opened 4) ∷ Answered ∷ (Opened 5) ∷ Answered ∷ (Opened 6) ∷ Answered ∷ (Opened 7) ∷ Answered ∷ (Opened 8) ∷ Answered ∷ (Opened 9) ∷ Answered ∷ (Opened 10) ∷ Answered ∷ (Opened 11) ∷ Answered ∷ (Opened 12) ∷ Answered ∷ (Opened 13) ∷ Answered ∷ (Opened 14) ∷ Answered ∷ (Opened 15) ∷ Answered ∷ (Opened 16) ∷ Answered ∷ (Opened 17) ∷ Answered ∷ (Opened 18) ∷ Answered ∷ (Opened 19) ∷ Answered ∷ (Opened 20) ∷ Answered ∷ (Opened 21) ∷ Answered ∷ (Opened 22) ∷ Answered ∷ (Opened 23) ∷ Answered ∷ (Opened 24) ∷ Answered ∷ (Opened 25) ∷ Answered ∷ (Opened 26) ∷ Answered ∷ (Opened 27) ∷ Answered ∷ (Opened 28) ∷ Answered ∷ (Opened 29) ∷ Answered ∷ (Opened 30) ∷ Answered ∷ (Opened 31) ∷ Answered ∷ (Opened 32) ∷ Answered ∷ (Opened 33) ∷ Answered ∷ (Opened 34) ∷ Answered ∷ (Opened 35) ∷ Answered ∷ (Opened 36) ∷ Answered ∷ (Opened 37) ∷ Answered ∷ (Opened 38) ∷ Answered ∷ (Opened 39) ∷ Answered ∷ (Opened 40) ∷ Answered ∷ (Opened 41) ∷ Answered ∷ (Opened 42) ∷ Answered ∷ (Opened 43) ∷ Answered ∷ (Opened 44) ∷ Answered ∷ (Opened 45) ∷ Answered ∷ (Opened 46) ∷ Answered ∷ (Opened 47) ∷ Answered ∷ (Opened 48) ∷ Answered ∷ (Opened 49) ∷ Answered ∷ (Opened 50) ∷ Answered ∷ (Opened 51) ∷ Answered ∷ (Opened 52) ∷ Answered ∷ (Opened 53) ∷ Answered ∷ (Opened 54) ∷ Answered ∷ (Opened 55) ∷ Answered ∷ (Opened 56) ∷ Answered ∷ (Opened 57) ∷ Answered ∷ (Opened 58) ∷ Answered ∷ (Opened 59) ∷ Answered ∷ (Opened 60) ∷ Answered ∷ (Opened 61) ∷ Answered ∷ (Opened 62) ∷ Answered ∷ (Opened 63) ∷ Answered ∷ (Opened 64) ∷ Answered ∷ (Refused QuestionsOpen) ∷ (Refused NoMessage) ∷ (Refused QuestionsOpen) ∷ (Refused NoMessage) ∷ Nothing ∷ (Opened 65) ∷ [])
    ((peer 0 Settled) ∷ [])
    ([])
    ((GetItem 0 1 0 65) ∷ [])

abbrev pub runs : List Worked
runs = (week ∷ full_table ∷ full_questions ∷ [])
