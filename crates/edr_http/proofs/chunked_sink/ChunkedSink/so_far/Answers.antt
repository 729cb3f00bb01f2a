use Rattle.std.proofs.Common.{◌≡◌, length, arith}
use Rattle.edr_http.proofs.ChunkEnds.{sink_begins}
use Rattle.edr_http.proofs.chunked_sink.ChunkedSink.so_far.Goals as goal

pub returns : goal.returns
returns g c more =
    let s = c.args.self.now in
    let l : length s.frame ≡ 4109 = omega arith in
    sink_begins s.ended s.pieces s.sent s.used s.frame _ c.requires s.room s.kept s.within s.whole l more
