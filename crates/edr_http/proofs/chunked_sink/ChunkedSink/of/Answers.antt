use Rattle.std.proofs.Common.{rules}
use Rattle.edr_http.proofs.ChunkEnds.{new_room, new_kept}
use Rattle.edr_http.proofs.chunked_sink.ChunkedSink.of.Goals as goal

pub invariant_of-result : goal.invariant_of-result
invariant_of-result g c =
    record {
      within = search rules;
      whole = search rules;
      framed = λ going. c.new_frame.ensures;
      room = new_room (g.K.Sink.written c.args.sink);
      kept = new_kept (g.K.Sink.written c.args.sink);
    }
