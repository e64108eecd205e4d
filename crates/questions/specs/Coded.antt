-- How an answer is one number, for callers that know no other. Assumes nothing.
use Rattle.std.specs.Prelude.{ℕ, ◌+◌, Ok, Err, Result}
use Rattle.faults.specs.declared.Fault.{Fault}
use Rattle.faults.specs.Faults.{number_of}

-- a refusal is this much more than its number, so that no answer is taken for one
abbrev pub refusal_base : ℕ
refusal_base = 100000

abbrev pub coded : Result ℕ Fault → ℕ
coded (Ok x) = x
coded (Err e) = refusal_base + number_of e
