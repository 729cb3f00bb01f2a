use Rattle.std.proofs.Common.{◌≡◌, ◌<◌, drop}
use Rattle.edr_base.specs.Calls.{SinkLent}
use Rattle.covjson_write.specs.declared.stages.Stage.TheVariants.{Ready, Within}
use Rattle.covjson_write.specs.Pieces.{ranges_from}
use Rattle.edr_send.specs.Gathered.{AllBut}
use Rattle.edr_send.specs.SentReplies.{ranges_at, chunks_of, in_a_row, AddedBut}
use Rattle.edr_send.proofs.documents.send_ranges.Given as goal

abbrev pub invariant-loop-range : goal.invariant-loop-range
invariant-loop-range g l = record {
  many : l.writer.many ≡ l.fn.writer.many;
  begun : l.writer.begun ≡ l.fn.writer.begun;
  head : l.writer.head ≡ l.fn.writer.head;
  ranges : l.writer.ranges ≡ l.range;
  within : l.range < l.count → l.writer.stage ≡ Within;
  ready : l.range ≡ l.count → l.writer.stage ≡ Ready;
  subject : l.store.subject ≡ l.fn.store.subject;
  text : AllBut (ranges_from l.fn.writer.head l.range (drop l.range (ranges_at (g.C.Coverages.sent l.coverages l.fn.store.subject.held) l.number)))
      (ranges_from l.fn.writer.head 0 (ranges_at (g.C.Coverages.sent l.coverages l.fn.store.subject.held) l.number)) (g.K.Sink.written l.fn.sink) (g.K.Sink.written l.sink);
  reads : AddedBut (in_a_row (drop l.range (chunks_of (g.C.Coverages.sent l.coverages l.fn.store.subject.held) l.number)))
      (in_a_row (chunks_of (g.C.Coverages.sent l.coverages l.fn.store.subject.held) l.number)) l.fn.store.numbers l.store.numbers;
  lent : SinkLent (g.K.Sink.beside l.fn.sink) (g.K.Sink.beside l.sink) (g.K.Faults.faults l.fn.sink) (g.K.Faults.faults l.sink);
}
