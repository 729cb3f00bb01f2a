use Rattle.std.proofs.Common.{◌∙◌, ap, take}
use Rattle.std.specs.Io.KnownBytes.{append_known}
use Rattle.edr_base.specs.KnownBytes.{append_nothing}
use Rattle.edr_http.proofs.chunked_sink.ChunkedSinkSink.write.Goals as goal

pub returns-then-is_empty-clause-bytes : goal.returns-then-is_empty-clause-bytes
returns-then-is_empty-clause-bytes g c = append_nothing _

pub returns-clause-bytes : goal.returns-clause-bytes
returns-clause-bytes g c =
    c.take_in.ensures.body ∙ ap (λ w. append_known w (take c.take_in.result c.args.piece.now)) c.make_room.ensures.body
