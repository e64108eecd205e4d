-- A log shelf never keeps more than its size. Assumes nothing.
use Rattle.std.specs.Prelude.{◌≡◌, ℕ, ◌≤◌, length}
use Rattle.std.proofs.Common.{sym, subst, le_trans}
use Rattle.rows.specs.Trays.{Held}
use Rattle.logs.specs.declared.lines.Line.{Line}
use Rattle.logs.specs.Logs.{meaning_of}
use Rattle.logs.proofs.Meanings.{meaning_within}
use Rattle.log_shelves.specs.Trays.{places_in, records_in}

pub kept_fits : (h : Held Line) (kept : ℕ) → length (records_in h) ≤ places_in h → kept ≡ length (meaning_of (records_in h)) → kept ≤ places_in h
kept_fits h kept within e = subst (λ n. n ≤ places_in h) (sym e) (le_trans (meaning_within (records_in h)) within)
