use Rattle.std.proofs.Common.{◌≡◌, drop}
use Rattle.std.specs.List.{flat_map}
use Rattle.edr_base.specs.Calls.{SinkLent}
use Rattle.covjson_write.specs.declared.stages.Stage.TheVariants.{Ready}
use Rattle.covjson_write.specs.Pieces.{is_later, coverages_from}
use Rattle.edr_send.specs.Gathered.{AllBut}
use Rattle.edr_send.specs.SentReplies.{in_a_row, all_chunks, AddedBut}
use Rattle.edr_send.proofs.documents.send_coverages.Given as goal

abbrev pub invariant-loop-number : goal.invariant-loop-number
invariant-loop-number g l = record {
  many : l.writer.many ≡ l.fn.writer.many;
  begun : l.writer.begun ≡ is_later l.number;
  stage : l.writer.stage ≡ Ready;
  subject : l.store.subject ≡ l.fn.store.subject;
  text : AllBut (coverages_from l.number (drop l.number (g.C.Coverages.sent l.coverages l.fn.store.subject.held).coverages))
      (coverages_from 0 (g.C.Coverages.sent l.coverages l.fn.store.subject.held).coverages) (g.K.Sink.written l.fn.sink) (g.K.Sink.written l.sink);
  reads : AddedBut (flat_map in_a_row (drop l.number (g.C.Coverages.sent l.coverages l.fn.store.subject.held).chunks))
      (all_chunks (g.C.Coverages.sent l.coverages l.fn.store.subject.held)) l.fn.store.numbers l.store.numbers;
  lent : SinkLent (g.K.Sink.beside l.fn.sink) (g.K.Sink.beside l.sink) (g.K.Faults.faults l.fn.sink) (g.K.Faults.faults l.sink);
}
