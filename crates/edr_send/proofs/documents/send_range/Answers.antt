use Rattle.std.proofs.Common.{rules, ◌++◌, ℕ, List, subst, sym, refl}
use Rattle.edr_base.specs.Calls.{Writes}
use Rattle.edr_base.specs.KnownBytes.{writes_on}
use Rattle.covjson_write.specs.Pieces.{values_from, range_begin, range_end}
use Rattle.covjson_write.specs.Writers.{WriterValue}
use Rattle.edr_send.specs.SentReplies.{range_at}
use Rattle.edr_send.proofs.Additions.{adds_none}
use Rattle.edr_send.proofs.documents.send_range.Goals as goal

pub returns-clause-bytes : goal.returns-clause-bytes
returns-clause-bytes g c =
    let w : WriterValue = c.args.writer.now in
    let written = g.K.Sink.written in
    let n : ℕ = c.args.place.range in
    let text : List ℕ = values_from 0 (range_at (g.C.Coverages.sent c.args.coverages.now c.args.store.now.subject.held) c.args.place.coverage n).values in
    writes_on c.fill_range.result (written c.args.sink.now) (written c.range_begin.new.sink) (written c.fill_range.new.sink) (range_begin w.head n) (text ++ range_end w.head n) c.in_ok-range_begin.ensures.bytes.whole
    (subst (λ (k : ℕ). Writes c.fill_range.result (text ++ range_end w.head k) (written c.range_begin.new.sink) (written c.fill_range.new.sink)) (sym c.requires.next)
    (subst (λ (s : WriterValue). Writes c.fill_range.result (text ++ range_end s.head s.ranges) (written c.range_begin.new.sink) (written c.fill_range.new.sink)) c.in_ok-range_begin.ensures.writer c.fill_range.ensures.bytes))

pub returns-in_err-range_begin-clause-reads : goal.returns-in_err-range_begin-clause-reads
returns-in_err-range_begin-clause-reads g c = adds_none c.from_residual.result _ _ _ (search rules) refl
