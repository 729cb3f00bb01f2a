use Rattle.std.proofs.Common.{rules, ◌≡◌, ◌++◌, ◌+◌, ◌<◌, ◌≤◌, ℕ, List, [], length, drop, subst, ap, sym, ◌∙◌, refl, arith}
use Rattle.std.specs.Prelude.{Ok}
use Rattle.std.specs.Io.KnownBytes.{append_known}
use Rattle.std.proofs.lemmas.List.{drop_all}
use Rattle.edr_base.specs.Calls.{Front}
use Rattle.covjson_value.specs.declared.coverages.NdArray.{NdArray}
use Rattle.covjson_write.specs.declared.range_heads.RangeHead.{RangeHead}
use Rattle.covjson_write.specs.Pieces.{range_piece, ranges_from}
use Rattle.covjson_write.specs.Writers.{WriterValue}
use Rattle.edr_edition.specs.Stores.{Subject}
use Rattle.edr_send.specs.Filling.{Added}
use Rattle.edr_send.specs.SentReplies.{SentReply, ranges_at, range_at, chunks_of, chunks_at, in_a_row, HasRange}
use Rattle.edr_send.proofs.Cuts.{stage_within, stage_ready}
use Rattle.edr_send.proofs.SentSteps.{added_but_all, added_but_on, added_but_same, added_but_none, added_but_fault, row_next, ranges_next, range_of}
use Rattle.edr_send.proofs.TextSteps.{all_but_same, all_but_on, all_but_front, all_but_all, all_but_none, writes_fault}
use Rattle.edr_send.proofs.WriterSteps.{lent_on}
use Rattle.edr_send.proofs.documents.send_ranges.Goals as goal

pub loop-range-init : goal.loop-range-init
loop-range-init g c =
    let sent : SentReply = g.C.Coverages.sent c.args.coverages.now c.args.store.now.subject.held in
    record {
      many = refl;
      begun = refl;
      head = refl;
      ranges = c.requires.none;
      within = λ more. c.requires.within;
      ready = λ all. absurd (omega (arith, c.requires.some, all));
      subject = refl;
      text = all_but_all (ranges_from c.args.writer.now.head 0 (ranges_at sent c.args.number)) (g.K.Sink.written c.args.sink.now);
      reads = added_but_all (in_a_row (chunks_of sent c.args.number)) c.args.store.now.numbers;
      lent = search rules;
    }

pub send_range-requires-clause-over : goal.send_range-requires-clause-over
send_range-requires-clause-over g c =
    subst (λ (s : Subject). g.C.Coverages.over c.args.coverages.now s.held) (sym c.loop-range.invariant.subject) c.requires.over

pub send_range-requires-clause-range : goal.send_range-requires-clause-range
send_range-requires-clause-range g c =
    let sent : SentReply = g.C.Coverages.sent c.args.coverages.now c.args.store.now.subject.held in
    subst (λ (s : Subject). HasRange (g.C.Coverages.sent c.args.coverages.now s.held) c.args.number c.loop-range.range c.loop-range.writer.head.count) (sym c.loop-range.invariant.subject)
    (subst (λ (h : RangeHead). HasRange sent c.args.number c.loop-range.range h.count) (sym c.loop-range.invariant.head)
    (range_of sent c.args.number c.loop-range.range c.args.count c.args.writer.now.head.count c.requires.ranges c.loop-range-test.true))

pub loop-range-preserved : goal.loop-range-preserved
loop-range-preserved g c =
    let coverages = c.args.coverages.now in
    let head : RangeHead = c.args.writer.now.head in
    let subject : Subject = c.args.store.now.subject in
    let sent : SentReply = g.C.Coverages.sent coverages subject.held in
    let n : ℕ = c.args.number in
    let i : ℕ = c.loop-range.range in
    let ranges : List NdArray = ranges_at sent n in
    let chunks : List (List ℕ) = chunks_of sent n in
    let inside : i < length ranges = omega (arith, c.requires.ranges.ranges, c.loop-range-test.true) in
    let written = g.K.Sink.written in
    let whole = ranges_from head 0 ranges in
    let piece = range_piece head i (range_at sent n i).values in
    let rest = ranges_from head (i + 1) (drop (i + 1) ranges) in
    let wrote : written c.send_range.new.sink ≡ append_known (written c.loop-range.sink) piece =
    subst (λ (h : RangeHead). written c.send_range.new.sink ≡ append_known (written c.loop-range.sink) (range_piece h i (range_at sent n i).values)) c.loop-range.invariant.head
    (subst (λ (s : Subject). written c.send_range.new.sink ≡ append_known (written c.loop-range.sink) (range_piece c.loop-range.writer.head i (range_at (g.C.Coverages.sent coverages s.held) n i).values)) c.loop-range.invariant.subject c.in_ok-send_range.ensures.bytes.whole) in
    let read : c.send_range.new.store.numbers ≡ c.loop-range.store.numbers ++ chunks_at sent n i =
    subst (λ (s : Subject). c.send_range.new.store.numbers ≡ c.loop-range.store.numbers ++ chunks_at (g.C.Coverages.sent coverages s.held) n i) c.loop-range.invariant.subject c.in_ok-send_range.ensures.reads.all in
    let keys : length c.loop-range.writer.head.keys ≡ c.args.count = ap (λ (h : RangeHead). length h.keys) c.loop-range.invariant.head ∙ c.requires.each in
    record {
      many = ap (λ (w : WriterValue). w.many) c.in_ok-send_range.ensures.writer ∙ c.loop-range.invariant.many;
      begun = ap (λ (w : WriterValue). w.begun) c.in_ok-send_range.ensures.writer ∙ c.loop-range.invariant.begun;
      head = ap (λ (w : WriterValue). w.head) c.in_ok-send_range.ensures.writer ∙ c.loop-range.invariant.head;
      ranges = ap (λ (w : WriterValue). w.ranges) c.in_ok-send_range.ensures.writer ∙ ap (λ (k : ℕ). k + 1) c.loop-range.invariant.ranges;
      within = λ more. ap (λ (w : WriterValue). w.stage) c.in_ok-send_range.ensures.writer ∙ stage_within (c.loop-range.writer.ranges + 1) (length c.loop-range.writer.head.keys) (omega (arith, keys, c.loop-range.invariant.ranges, more));
      ready = λ all. ap (λ (w : WriterValue). w.stage) c.in_ok-send_range.ensures.writer ∙ stage_ready (c.loop-range.writer.ranges + 1) (length c.loop-range.writer.head.keys) (omega (arith, keys, c.loop-range.invariant.ranges, all));
      subject = c.send_range.ensures.subject ∙ c.loop-range.invariant.subject;
      text = all_but_on piece rest whole (written c.args.sink.now) (written c.loop-range.sink) (written c.send_range.new.sink)
          (all_but_same (ranges_from head i (drop i ranges)) (piece ++ rest) whole (written c.args.sink.now) (written c.loop-range.sink) (ranges_next head ranges i (record { values = [] }) inside) c.loop-range.invariant.text)
          wrote;
      reads = added_but_on (chunks_at sent n i) (in_a_row (drop (i + 1) chunks)) (in_a_row chunks) c.args.store.now.numbers c.loop-range.store.numbers c.send_range.new.store.numbers
          (added_but_same (in_a_row (drop i chunks)) (chunks_at sent n i ++ in_a_row (drop (i + 1) chunks)) (in_a_row chunks) c.args.store.now.numbers c.loop-range.store.numbers
          (row_next (λ (l : List ℕ). l) [] refl chunks i) c.loop-range.invariant.reads)
          read;
      lent = lent_on c.loop-range.invariant.lent c.send_range.ensures.lent;
    }

pub returns-in_err-send_range-clause-bytes : goal.returns-in_err-send_range-clause-bytes
returns-in_err-send_range-clause-bytes g c =
    let coverages = c.args.coverages.now in
    let head : RangeHead = c.args.writer.now.head in
    let subject : Subject = c.args.store.now.subject in
    let sent : SentReply = g.C.Coverages.sent coverages subject.held in
    let n : ℕ = c.args.number in
    let i : ℕ = c.loop-range.range in
    let ranges : List NdArray = ranges_at sent n in
    let inside : i < length ranges = omega (arith, c.requires.ranges.ranges, c.loop-range-test.true) in
    let written = g.K.Sink.written in
    let whole = ranges_from head 0 ranges in
    let piece = range_piece head i (range_at sent n i).values in
    let rest = ranges_from head (i + 1) (drop (i + 1) ranges) in
    let front : Front piece (written c.loop-range.sink) (written c.send_range.new.sink) =
    subst (λ (h : RangeHead). Front (range_piece h i (range_at sent n i).values) (written c.loop-range.sink) (written c.send_range.new.sink)) c.loop-range.invariant.head
    (subst (λ (s : Subject). Front (range_piece c.loop-range.writer.head i (range_at (g.C.Coverages.sent coverages s.held) n i).values) (written c.loop-range.sink) (written c.send_range.new.sink)) c.loop-range.invariant.subject c.send_range.ensures.bytes.front) in
    writes_fault c.from_residual.result whole (written c.args.sink.now) (written c.send_range.new.sink) (search rules)
    (all_but_front piece rest whole (written c.args.sink.now) (written c.loop-range.sink) (written c.send_range.new.sink)
    (all_but_same (ranges_from head i (drop i ranges)) (piece ++ rest) whole (written c.args.sink.now) (written c.loop-range.sink) (ranges_next head ranges i (record { values = [] }) inside) c.loop-range.invariant.text)
    front)

pub returns-in_err-send_range-clause-reads : goal.returns-in_err-send_range-clause-reads
returns-in_err-send_range-clause-reads g c =
    let coverages = c.args.coverages.now in
    let sent : SentReply = g.C.Coverages.sent coverages c.args.store.now.subject.held in
    let n : ℕ = c.args.number in
    let i : ℕ = c.loop-range.range in
    let chunks : List (List ℕ) = chunks_of sent n in
    let added : Added (chunks_at sent n i) c.loop-range.store.numbers c.send_range.new.store.numbers =
    subst (λ (s : Subject). Added (chunks_at (g.C.Coverages.sent coverages s.held) n i) c.loop-range.store.numbers c.send_range.new.store.numbers) c.loop-range.invariant.subject c.send_range.ensures.reads.begun in
    added_but_fault c.from_residual.result (chunks_at sent n i) (in_a_row (drop (i + 1) chunks)) (in_a_row chunks) c.args.store.now.numbers c.loop-range.store.numbers c.send_range.new.store.numbers (search rules)
    (added_but_same (in_a_row (drop i chunks)) (chunks_at sent n i ++ in_a_row (drop (i + 1) chunks)) (in_a_row chunks) c.args.store.now.numbers c.loop-range.store.numbers
    (row_next (λ (l : List ℕ). l) [] refl chunks i) c.loop-range.invariant.reads)
    added

-- behind the last range
pub returns-clause-bytes : goal.returns-clause-bytes
returns-clause-bytes g c =
    let sent : SentReply = g.C.Coverages.sent c.args.coverages.now c.args.store.now.subject.held in
    let head : RangeHead = c.args.writer.now.head in
    let ranges : List NdArray = ranges_at sent c.args.number in
    let past : length ranges ≤ c.loop-range.range = omega (arith, c.requires.ranges.ranges, c.loop-range-test.false) in
    all_but_none (Ok tt) (ranges_from head 0 ranges) (g.K.Sink.written c.args.sink.now) (g.K.Sink.written c.loop-range.sink)
    (all_but_same (ranges_from head c.loop-range.range (drop c.loop-range.range ranges)) [] (ranges_from head 0 ranges) (g.K.Sink.written c.args.sink.now) (g.K.Sink.written c.loop-range.sink)
    (ap (ranges_from head c.loop-range.range) (drop_all c.loop-range.range ranges past)) c.loop-range.invariant.text)

pub returns-clause-reads : goal.returns-clause-reads
returns-clause-reads g c =
    let chunks : List (List ℕ) = chunks_of (g.C.Coverages.sent c.args.coverages.now c.args.store.now.subject.held) c.args.number in
    let i : ℕ = c.loop-range.range in
    let past : length chunks ≤ i = omega (arith, c.requires.ranges.chunks, c.loop-range-test.false) in
    added_but_none (Ok tt) (in_a_row (drop i chunks)) (in_a_row chunks) c.args.store.now.numbers c.loop-range.store.numbers (ap in_a_row (drop_all i chunks past)) c.loop-range.invariant.reads
