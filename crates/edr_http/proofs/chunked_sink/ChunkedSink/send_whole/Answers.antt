use Rattle.std.proofs.Common.{◌≤◌, length, rules}
use Rattle.edr_http.proofs.ChunkSteps.{front_of, whole_of}
use Rattle.edr_http.proofs.chunked_sink.ChunkedSink.send_whole.Goals as goal

pub returns-clause-bytes : goal.returns-clause-bytes
returns-clause-bytes g c =
    let l : length c.args.text.now ≤ c.loop-sent.sent = search rules in
    let e = c.loop-sent.invariant.bytes in
    record { whole = whole_of _ _ _ c.loop-sent.sent l e; front = front_of _ _ _ c.loop-sent.sent e }
