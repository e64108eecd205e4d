-- Bytes that are not in use. Assumes nothing.
use Rattle.std.specs.Prelude.{ℕ, List, replicate}

abbrev pub zeros : ℕ → List ℕ
zeros n = replicate n 0
