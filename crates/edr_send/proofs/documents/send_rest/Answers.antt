use Rattle.std.proofs.Common.{◌≡◌, ◌∙◌, ap}
use Rattle.covjson_write.specs.Pieces.{coverages_from, document_end}
use Rattle.edr_send.specs.SentReplies.{SentReply}
use Rattle.edr_send.proofs.TextSteps.{writes_next}
use Rattle.edr_send.proofs.documents.send_rest.Goals as goal

pub returns-clause-bytes : goal.returns-clause-bytes
returns-clause-bytes g c =
    let sent : SentReply = g.C.Coverages.sent c.args.coverages.now c.args.store.now.subject.held in
    let written = g.K.Sink.written in
    let many : c.send_coverages.new.writer.many ≡ sent.many = c.in_ok-send_coverages.ensures.many ∙ c.requires.many in
    writes_next c.finish.result (written c.args.sink.now) (written c.send_coverages.new.sink) (written c.finish.new.sink) (coverages_from 0 sent.coverages) (document_end c.send_coverages.new.writer.many) (document_end sent.many)
    c.in_ok-send_coverages.ensures.bytes.whole (ap document_end many) c.finish.ensures.bytes
