use Rattle.rules.proofs.texts.CallDisplay.fmt.Goals as goal

-- more letters than a search goes through
pub returns-in-Lookup-clause-writes : goal.returns-in-Lookup-clause-writes
returns-in-Lookup-clause-writes g c = rw c.in-Lookup.is c.write-in-Lookup.ensures.writes
