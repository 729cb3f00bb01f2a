use Rattle.std.proofs.Common.{◌≡◌, length, arith}
use Rattle.edr_http.proofs.ChunkEnds.{sink_ends}
use Rattle.edr_http.proofs.chunked_sink.ChunkedSink.end.Goals as goal

pub returns-clause-bytes : goal.returns-clause-bytes
returns-clause-bytes g c f =
    let s = c.args.self.now in
    let l : length s.frame ≡ 4109 = omega arith in
    sink_ends s.ended _ s.pieces s.sent s.used s.frame _ _ _ f s.room s.kept s.within s.whole l c.last_text-start.ensures.text c.send_part.ensures.bytes
