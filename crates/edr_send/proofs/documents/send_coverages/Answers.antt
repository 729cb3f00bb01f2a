use Rattle.std.proofs.Common.{rules, ◌≡◌, ◌++◌, ◌+◌, ◌≤◌, ℕ, [], length, drop, subst, ap, sym, ◌∙◌, refl, arith}
use Rattle.std.specs.Prelude.{Ok}
use Rattle.std.specs.List.{flat_map}
use Rattle.std.specs.Io.KnownBytes.{append_known}
use Rattle.std.proofs.lemmas.List.{drop_all}
use Rattle.edr_base.specs.Calls.{Front}
use Rattle.covjson_write.specs.Pieces.{coverages_from}
use Rattle.edr_edition.specs.Stores.{Subject}
use Rattle.edr_send.specs.Filling.{Added}
use Rattle.edr_send.specs.SentReplies.{SentReply, chunks_of, in_a_row, all_chunks, text_at, CanBeSent}
use Rattle.edr_send.proofs.Cuts.{later_next}
use Rattle.edr_send.proofs.SentSteps.{added_but_all, added_but_on, added_but_same, added_but_none, added_but_fault, row_next, coverages_next, not_begun, some_begun}
use Rattle.edr_send.proofs.TextSteps.{all_but_same, all_but_on, all_but_front, all_but_all, all_but_none, writes_fault}
use Rattle.edr_send.proofs.WriterSteps.{lent_on}
use Rattle.edr_send.proofs.documents.send_coverages.Goals as goal

pub loop-number-init : goal.loop-number-init
loop-number-init g c =
    let sent : SentReply = g.C.Coverages.sent c.args.coverages.now c.args.store.now.subject.held in
    record {
      many = refl;
      begun = c.requires.none;
      stage = c.requires.ready;
      subject = refl;
      text = all_but_all (coverages_from 0 sent.coverages) (g.K.Sink.written c.args.sink.now);
      reads = added_but_all (all_chunks sent) c.args.store.now.numbers;
      lent = search rules;
    }

pub send_coverage-requires-clause-over : goal.send_coverage-requires-clause-over
send_coverage-requires-clause-over g c =
    subst (λ (s : Subject). g.C.Coverages.over c.args.coverages.now s.held) (sym c.loop-number.invariant.subject) c.requires.over

pub send_coverage-requires-clause-valid : goal.send_coverage-requires-clause-valid
send_coverage-requires-clause-valid g c =
    subst (λ (s : Subject). CanBeSent (g.C.Coverages.sent c.args.coverages.now s.held)) (sym c.loop-number.invariant.subject) c.requires.valid

pub send_coverage-requires-clause-one : goal.send_coverage-requires-clause-one
send_coverage-requires-clause-one g c = λ one.
    let sent : SentReply = g.C.Coverages.sent c.args.coverages.now c.args.store.now.subject.held in
    let long : length sent.coverages ≡ c.count-number-end.result = c.count-number-end.ensures.sent c.args.store.now.subject.held in
    c.loop-number.invariant.begun ∙ not_begun c.loop-number.number c.count-number-end.result
    (sym long ∙ c.requires.valid.alone (sym c.requires.many ∙ sym c.loop-number.invariant.many ∙ one)) c.loop-number-test.true

pub loop-number-preserved : goal.loop-number-preserved
loop-number-preserved g c =
    let coverages = c.args.coverages.now in
    let subject : Subject = c.args.store.now.subject in
    let sent : SentReply = g.C.Coverages.sent coverages subject.held in
    let i : ℕ = c.loop-number.number in
    let written = g.K.Sink.written in
    let whole = coverages_from 0 sent.coverages in
    let rest = coverages_from (i + 1) (drop (i + 1) sent.coverages) in
    let wrote : written c.send_coverage.new.sink ≡ append_known (written c.loop-number.sink) (text_at sent i) =
    subst (λ (s : Subject). written c.send_coverage.new.sink ≡ append_known (written c.loop-number.sink) (text_at (g.C.Coverages.sent coverages s.held) i)) c.loop-number.invariant.subject c.in_ok-send_coverage.ensures.bytes.whole in
    let read : c.send_coverage.new.store.numbers ≡ c.loop-number.store.numbers ++ in_a_row (chunks_of sent i) =
    subst (λ (s : Subject). c.send_coverage.new.store.numbers ≡ c.loop-number.store.numbers ++ in_a_row (chunks_of (g.C.Coverages.sent coverages s.held) i)) c.loop-number.invariant.subject c.in_ok-send_coverage.ensures.reads.all in
    record {
      many = c.in_ok-send_coverage.ensures.many ∙ c.loop-number.invariant.many;
      begun = c.in_ok-send_coverage.ensures.begun ∙ sym (later_next i);
      stage = c.in_ok-send_coverage.ensures.stage;
      subject = c.send_coverage.ensures.subject ∙ c.loop-number.invariant.subject;
      text = all_but_on (text_at sent i) rest whole (written c.args.sink.now) (written c.loop-number.sink) (written c.send_coverage.new.sink)
          (all_but_same (coverages_from i (drop i sent.coverages)) (text_at sent i ++ rest) whole (written c.args.sink.now) (written c.loop-number.sink) (coverages_next sent i) c.loop-number.invariant.text)
          wrote;
      reads = added_but_on (in_a_row (chunks_of sent i)) (flat_map in_a_row (drop (i + 1) sent.chunks)) (all_chunks sent) c.args.store.now.numbers c.loop-number.store.numbers c.send_coverage.new.store.numbers
          (added_but_same (flat_map in_a_row (drop i sent.chunks)) (in_a_row (chunks_of sent i) ++ flat_map in_a_row (drop (i + 1) sent.chunks)) (all_chunks sent) c.args.store.now.numbers c.loop-number.store.numbers
          (row_next in_a_row [] refl sent.chunks i) c.loop-number.invariant.reads)
          read;
      lent = lent_on c.loop-number.invariant.lent c.send_coverage.ensures.lent;
    }

pub returns-in_err-send_coverage-clause-bytes : goal.returns-in_err-send_coverage-clause-bytes
returns-in_err-send_coverage-clause-bytes g c =
    let coverages = c.args.coverages.now in
    let sent : SentReply = g.C.Coverages.sent coverages c.args.store.now.subject.held in
    let i : ℕ = c.loop-number.number in
    let written = g.K.Sink.written in
    let whole = coverages_from 0 sent.coverages in
    let rest = coverages_from (i + 1) (drop (i + 1) sent.coverages) in
    let front : Front (text_at sent i) (written c.loop-number.sink) (written c.send_coverage.new.sink) =
    subst (λ (s : Subject). Front (text_at (g.C.Coverages.sent coverages s.held) i) (written c.loop-number.sink) (written c.send_coverage.new.sink)) c.loop-number.invariant.subject c.send_coverage.ensures.bytes.front in
    writes_fault c.from_residual.result whole (written c.args.sink.now) (written c.send_coverage.new.sink) (search rules)
    (all_but_front (text_at sent i) rest whole (written c.args.sink.now) (written c.loop-number.sink) (written c.send_coverage.new.sink)
    (all_but_same (coverages_from i (drop i sent.coverages)) (text_at sent i ++ rest) whole (written c.args.sink.now) (written c.loop-number.sink) (coverages_next sent i) c.loop-number.invariant.text)
    front)

pub returns-in_err-send_coverage-clause-reads : goal.returns-in_err-send_coverage-clause-reads
returns-in_err-send_coverage-clause-reads g c =
    let coverages = c.args.coverages.now in
    let sent : SentReply = g.C.Coverages.sent coverages c.args.store.now.subject.held in
    let i : ℕ = c.loop-number.number in
    let added : Added (in_a_row (chunks_of sent i)) c.loop-number.store.numbers c.send_coverage.new.store.numbers =
    subst (λ (s : Subject). Added (in_a_row (chunks_of (g.C.Coverages.sent coverages s.held) i)) c.loop-number.store.numbers c.send_coverage.new.store.numbers) c.loop-number.invariant.subject c.send_coverage.ensures.reads.begun in
    added_but_fault c.from_residual.result (in_a_row (chunks_of sent i)) (flat_map in_a_row (drop (i + 1) sent.chunks)) (all_chunks sent) c.args.store.now.numbers c.loop-number.store.numbers c.send_coverage.new.store.numbers (search rules)
    (added_but_same (flat_map in_a_row (drop i sent.chunks)) (in_a_row (chunks_of sent i) ++ flat_map in_a_row (drop (i + 1) sent.chunks)) (all_chunks sent) c.args.store.now.numbers c.loop-number.store.numbers
    (row_next in_a_row [] refl sent.chunks i) c.loop-number.invariant.reads)
    added

-- behind the last coverage
pub returns-clause-bytes : goal.returns-clause-bytes
returns-clause-bytes g c =
    let sent : SentReply = g.C.Coverages.sent c.args.coverages.now c.args.store.now.subject.held in
    let i : ℕ = c.loop-number.number in
    let past : length sent.coverages ≤ i = omega (arith, c.count-number-end.ensures.sent c.args.store.now.subject.held, c.loop-number-test.false) in
    all_but_none (Ok tt) (coverages_from 0 sent.coverages) (g.K.Sink.written c.args.sink.now) (g.K.Sink.written c.loop-number.sink)
    (all_but_same (coverages_from i (drop i sent.coverages)) [] (coverages_from 0 sent.coverages) (g.K.Sink.written c.args.sink.now) (g.K.Sink.written c.loop-number.sink)
    (ap (coverages_from i) (drop_all i sent.coverages past)) c.loop-number.invariant.text)

pub returns-clause-reads : goal.returns-clause-reads
returns-clause-reads g c =
    let sent : SentReply = g.C.Coverages.sent c.args.coverages.now c.args.store.now.subject.held in
    let i : ℕ = c.loop-number.number in
    let past : length sent.chunks ≤ i = omega (arith, c.count-number-end.ensures.sent c.args.store.now.subject.held, c.loop-number-test.false, c.requires.valid.told.coverages) in
    added_but_none (Ok tt) (flat_map in_a_row (drop i sent.chunks)) (all_chunks sent) c.args.store.now.numbers c.loop-number.store.numbers (ap (flat_map in_a_row) (drop_all i sent.chunks past)) c.loop-number.invariant.reads

pub returns-clause-begun : goal.returns-clause-begun
returns-clause-begun g c = λ one.
    let sent : SentReply = g.C.Coverages.sent c.args.coverages.now c.args.store.now.subject.held in
    let long : length sent.coverages ≡ c.count-number-end.result = c.count-number-end.ensures.sent c.args.store.now.subject.held in
    c.loop-number.invariant.begun ∙ some_begun c.loop-number.number c.count-number-end.result (sym long ∙ c.requires.valid.alone (sym c.requires.many ∙ one)) c.loop-number-test.false
