use Rattle.std.proofs.Common.{ℕ, List, subst}
use Rattle.edr_base.specs.Calls.{Writes}
use Rattle.edr_base.specs.KnownBytes.{writes_on}
use Rattle.covjson_write.specs.Pieces.{values_from, range_end}
use Rattle.covjson_write.specs.Writers.{WriterValue}
use Rattle.edr_send.specs.SentReplies.{range_at}
use Rattle.edr_send.proofs.documents.fill_range.Goals as goal

pub returns-clause-bytes : goal.returns-clause-bytes
returns-clause-bytes g c =
    let w : WriterValue = c.args.writer.now in
    let written = g.K.Sink.written in
    let text : List ℕ = values_from 0 (range_at (g.C.Coverages.sent c.args.coverages.now c.args.store.now.subject.held) c.args.place.coverage c.args.place.range).values in
    writes_on c.range_end.result (written c.args.sink.now) (written c.send_values.new.sink) (written c.range_end.new.sink) text (range_end w.head w.ranges) c.in_ok-send_values.ensures.bytes.whole
    (subst (λ (s : WriterValue). Writes c.range_end.result (range_end s.head s.ranges) (written c.send_values.new.sink) (written c.range_end.new.sink)) c.in_ok-send_values.ensures.writer c.range_end.ensures.bytes)
