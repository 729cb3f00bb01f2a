use Rattle.std.proofs.Common.{◌≡◌, length, arith}
use Rattle.std.proofs.lemmas.Result.{err_from_is_err_and}
use Rattle.edr_http.specs.ChunkedSinkLaws.{body_done, body_stopped}
use Rattle.edr_http.proofs.ChunkEnds.{ok_of, sink_begins}
use Rattle.edr_http.proofs.chunked_sink.ChunkedSink.end_after.Goals as goal

pub returns-clause-bytes : goal.returns-clause-bytes
returns-clause-bytes g c text below start going bottom begins wrote =
    body_done _ text below _ start _ _ bottom begins (ok_of c.args.outcome _ _ c.in_ok-outcome.was wrote.whole) (c.end.ensures.bytes going)

pub returns-in_err-outcome-clause-bytes : goal.returns-in_err-outcome-clause-bytes
returns-in_err-outcome-clause-bytes g c text below start going bottom begins wrote =
    let s = c.args.self.now in
    let l : length s.frame ≡ 4109 = omega arith in
    let p = err_from_is_err_and c.from_residual.result c.from_residual.ensures.1 in
    rw p.1 (body_stopped _ p.0 text below _ start _ _ bottom begins wrote.front (sink_begins s.ended s.pieces s.sent s.used s.frame _ going s.room s.kept s.within s.whole l))
