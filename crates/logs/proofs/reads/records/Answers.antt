use Rattle.logs.proofs.Chunks.{taken}
use Rattle.logs.proofs.reads.records.Goals as goal

pub returns : goal.returns
returns c =
    let t = taken c.args.bytes.now c.args.used c.min.result _ c.min.ensures c.as_chunks.ensures.front c.as_chunks.ensures.front_len in
    record { bytes = t.bytes; lines = t.lines; len = t.len }
