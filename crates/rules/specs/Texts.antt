-- How a call and an answer are told to a person. Assumes nothing.
use Rattle.std.specs.Prelude.{ℕ, List, ◌++◌, Some, None, codes, decimal, Option}
use Rattle.rules.specs.declared.Call.{Call}
use Rattle.rules.specs.declared.Call.TheVariants.{Join, Leave, Insert, Lookup, Deliver, Collect}
use Rattle.rules.specs.declared.Answer.{Answer}
use Rattle.rules.specs.declared.Answer.TheVariants.{Done, Inserted, Opened, Asked, Moved, Sent, Kept, Older, Answered, Found, Nothing, NotYet, Withdrawn, Refused}

abbrev pub call_text : Call → List ℕ
call_text (Join p) = codes "join " ++ decimal p
call_text (Leave p) = codes "leave " ++ decimal p
call_text (Insert k v) = codes "insert " ++ (decimal k ++ (codes " with " ++ decimal v))
call_text (Lookup k r) = codes "look up " ++ (decimal k ++ (codes " by replica " ++ decimal r))
call_text (Deliver n) = codes "deliver " ++ decimal n
call_text (Collect q) = codes "collect " ++ decimal q

-- of a refusal nothing is said here: it ends in what its fault prints
abbrev pub answer_text : Answer → Option (List ℕ)
answer_text Done = Some (codes "ok")
answer_text (Inserted stamp) = Some (codes "ok, stamp " ++ decimal stamp)
answer_text (Opened number) = Some (codes "ok, question " ++ decimal number)
answer_text Asked = Some (codes "asked")
answer_text (Moved count) = Some (codes "moved " ++ decimal count)
answer_text Sent = Some (codes "sent")
answer_text Kept = Some (codes "kept")
answer_text Older = Some (codes "older")
answer_text Answered = Some (codes "answered")
answer_text (Found stamp value) = Some (codes "found " ++ (decimal value ++ (codes ", stamp " ++ decimal stamp)))
answer_text Nothing = Some (codes "none")
answer_text NotYet = Some (codes "not yet")
answer_text Withdrawn = Some (codes "withdrawn")
answer_text (Refused fault) = None
