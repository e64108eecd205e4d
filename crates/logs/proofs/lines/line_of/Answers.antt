use Rattle.std.proofs.Common.{◌≡◌, get_or, rules}
use Rattle.logs.specs.Lines.{line, line_in}
use Rattle.logs.proofs.Chunks.{form_of}
use Rattle.logs.proofs.lines.line_of.Goals as goal

pub returns : goal.returns
returns c =
    let bs = c.args.bytes.now in
    let value : line (get_or bs 0 0) (get_or bs 1 0) c.from_be_bytes.result c.from_be_bytes-2.result c.from_be_bytes-3.result c.from_be_bytes-4.result ≡ line_in bs = search rules in
    record { value = value; form = form_of bs _ c.told-bytes c.fits-bytes value }
