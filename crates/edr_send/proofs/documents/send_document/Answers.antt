use Rattle.std.proofs.Common.{rules, ◌≡◌, ◌++◌, sym, refl, subst, List, ℕ, Bool}
use Rattle.std.specs.Io.KnownBytes.{append_known}
use Rattle.edr_base.specs.Calls.{Front, Writes}
use Rattle.edr_base.specs.KnownBytes.{front_more}
use Rattle.covjson_write.specs.Pieces.{coverages_from, document_begin, document_end}
use Rattle.edr_select.specs.Selections.{needed}
use Rattle.edr_select.specs.Documents.{document}
use Rattle.edr_send.specs.SentReplies.{SentReply, all_chunks}
use Rattle.edr_send.proofs.Additions.{adds_none}
use Rattle.edr_send.proofs.SentSteps.{opens_on, can_be_sent, sent_text}
use Rattle.edr_send.proofs.TextSteps.{writes_next, writes_fault}
use Rattle.edr_send.proofs.documents.send_document.Goals as goal

pub send_rest-requires-clause-valid : goal.send_rest-requires-clause-valid
send_rest-requires-clause-valid g c =
    let subject = c.args.store.now.subject in
    let query = c.args.plan.now.query in
    can_be_sent (g.C.Coverages.sent c.args.coverages.now subject.held) c.args.store.now.numbers (document subject query) (needed subject query) c.requires.reply

pub returns-clause-text : goal.returns-clause-text
returns-clause-text g c =
    let subject = c.args.store.now.subject in
    let query = c.args.plan.now.query in
    let sent : SentReply = g.C.Coverages.sent c.args.coverages.now subject.held in
    let written = g.K.Sink.written in
    let many : c.are_many.result ≡ sent.many = sym (c.are_many.ensures subject.held) in
    let begun : written c.begin.new.sink ≡ append_known (written c.args.sink.now) (document_begin sent.many) =
    subst (λ (m : Bool). written c.begin.new.sink ≡ append_known (written c.args.sink.now) (document_begin m)) many c.in_ok-writer.ensures.bytes.whole in
    let rest : List ℕ = coverages_from 0 sent.coverages ++ document_end sent.many in
    subst (λ (text : List ℕ). Writes c.send_rest.result text (written c.args.sink.now) (written c.send_rest.new.sink))
    (sent_text sent c.args.store.now.numbers (document subject query) (needed subject query) c.requires.reply c.document_of_pieces.ensures)
    (writes_next c.send_rest.result (written c.args.sink.now) (written c.begin.new.sink) (written c.send_rest.new.sink) (document_begin sent.many) rest rest begun refl c.send_rest.ensures.bytes)

pub returns-in_err-writer-clause-text : goal.returns-in_err-writer-clause-text
returns-in_err-writer-clause-text g c =
    let subject = c.args.store.now.subject in
    let query = c.args.plan.now.query in
    let sent : SentReply = g.C.Coverages.sent c.args.coverages.now subject.held in
    let written = g.K.Sink.written in
    let rest : List ℕ = coverages_from 0 sent.coverages ++ document_end sent.many in
    let front : Front (document_begin sent.many) (written c.args.sink.now) (written c.begin.new.sink) =
    subst (λ (m : Bool). Front (document_begin m) (written c.args.sink.now) (written c.begin.new.sink)) (sym (c.are_many.ensures subject.held)) c.begin.ensures.bytes.front in
    subst (λ (text : List ℕ). Writes c.from_residual.result text (written c.args.sink.now) (written c.begin.new.sink))
    (sent_text sent c.args.store.now.numbers (document subject query) (needed subject query) c.requires.reply c.document_of_pieces.ensures)
    (writes_fault c.from_residual.result (document_begin sent.many ++ rest) (written c.args.sink.now) (written c.begin.new.sink) (search rules) (front_more (written c.args.sink.now) (written c.begin.new.sink) (document_begin sent.many) rest front))

pub returns-in_err-writer-clause-reads : goal.returns-in_err-writer-clause-reads
returns-in_err-writer-clause-reads g c =
    let subject = c.args.store.now.subject in
    let sent : SentReply = g.C.Coverages.sent c.args.coverages.now subject.held in
    let old : List ℕ = c.args.store.now.numbers in
    opens_on c.from_residual.result (all_chunks sent) (needed subject c.args.plan.now.query) old old c.requires.reply.chunks (adds_none c.from_residual.result (all_chunks sent) old old (search rules) refl)

pub returns-clause-reads : goal.returns-clause-reads
returns-clause-reads g c =
    let subject = c.args.store.now.subject in
    let sent : SentReply = g.C.Coverages.sent c.args.coverages.now subject.held in
    opens_on c.send_rest.result (all_chunks sent) (needed subject c.args.plan.now.query) c.args.store.now.numbers c.send_rest.new.store.numbers c.requires.reply.chunks c.send_rest.ensures.reads
