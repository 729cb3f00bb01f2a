use Rattle.std.proofs.Common.{rules, ◌≡◌, ◌++◌, ap, sym, subst, refl, List, ℕ, Bool, length}
use Rattle.std.specs.Io.KnownBytes.{append_known}
use Rattle.edr_base.specs.Calls.{Front, Writes}
use Rattle.serde_json.specs.Written.{comma_if}
use Rattle.covjson_value.specs.declared.coverages.NdArray.{NdArray}
use Rattle.covjson_value.specs.declared.coverages.Coverage.{Coverage}
use Rattle.covjson_write.specs.Pieces.{is_later, coverage_begin, head_of, ranges_from}
use Rattle.covjson_write.specs.Writers.{WriterValue, with_coverage}
use Rattle.edr_send.specs.SentReplies.{SentReply, ranges_at, HasRanges}
use Rattle.edr_send.proofs.Additions.{adds_none}
use Rattle.edr_send.proofs.SentSteps.{head_is, head_ranges, some_ranges, text_is}
use Rattle.edr_send.proofs.TextSteps.{writes_third, writes_two}
use Rattle.edr_send.proofs.documents.send_coverage.Goals as goal

pub coverage-requires-clause-head : goal.coverage-requires-clause-head
coverage-requires-clause-head g c =
    let held = c.args.store.now.subject.held in
    head_is c.head-head.result.now (g.C.Coverages.sent c.args.coverages.now held) c.args.number (c.head-head.ensures held) c.requires.valid

pub send_ranges-requires-clause-ranges : goal.send_ranges-requires-clause-ranges
send_ranges-requires-clause-ranges g c =
    let held = c.args.store.now.subject.held in
    let h : Coverage = c.head-head.result.now in
    let sent : SentReply = g.C.Coverages.sent c.args.coverages.now held in
    let stands : c.coverage.new.self ≡ with_coverage c.args.writer.now h = c.in_ok-coverage.ensures.writer in
    subst (λ (s : WriterValue). HasRanges sent c.args.number (length c.items-count.result.now) s.head.count) (sym stands)
    (head_ranges h sent c.args.number (c.head-head.ensures held) c.requires.valid (length c.items-count.result.now) (head_of h).count (search rules) refl)

pub returns-clause-bytes : goal.returns-clause-bytes
returns-clause-bytes g c =
    let held = c.args.store.now.subject.held in
    let w : WriterValue = c.args.writer.now in
    let h : Coverage = c.head-head.result.now in
    let n : ℕ = c.args.number in
    let sent : SentReply = g.C.Coverages.sent c.args.coverages.now held in
    let written = g.K.Sink.written in
    let ranges : List NdArray = ranges_at sent n in
    let begun : written c.coverage.new.sink ≡ append_known (written c.args.sink.now) (comma_if w.begun ++ coverage_begin h) = c.in_ok-coverage.ensures.bytes.whole in
    let stands : c.coverage.new.self ≡ with_coverage w h = c.in_ok-coverage.ensures.writer in
    subst (λ (text : List ℕ). Writes c.send_ranges.result text (written c.args.sink.now) (written c.send_ranges.new.sink)) (sym (text_is h sent n (c.head-head.ensures held)))
    (writes_third c.send_ranges.result (written c.args.sink.now) (written c.coverage.new.sink) (written c.send_ranges.new.sink) (comma_if (is_later n)) (coverage_begin h)
    (ranges_from c.coverage.new.self.head 0 ranges) (ranges_from (head_of h) 0 ranges)
    (subst (λ (b : Bool). written c.coverage.new.sink ≡ append_known (written c.args.sink.now) (comma_if b ++ coverage_begin h)) c.requires.begun begun)
    (ap (λ (s : WriterValue). ranges_from s.head 0 ranges) stands)
    c.send_ranges.ensures.bytes)

pub returns-in_err-coverage-clause-bytes : goal.returns-in_err-coverage-clause-bytes
returns-in_err-coverage-clause-bytes g c =
    let held = c.args.store.now.subject.held in
    let w : WriterValue = c.args.writer.now in
    let h : Coverage = c.head-head.result.now in
    let n : ℕ = c.args.number in
    let sent : SentReply = g.C.Coverages.sent c.args.coverages.now held in
    let written = g.K.Sink.written in
    let front : Front (comma_if w.begun ++ coverage_begin h) (written c.args.sink.now) (written c.coverage.new.sink) = c.coverage.ensures.bytes.front in
    subst (λ (text : List ℕ). Writes c.from_residual.result text (written c.args.sink.now) (written c.coverage.new.sink)) (sym (text_is h sent n (c.head-head.ensures held)))
    (writes_two c.from_residual.result (written c.args.sink.now) (written c.coverage.new.sink) (comma_if (is_later n)) (coverage_begin h) (ranges_from (head_of h) 0 (ranges_at sent n)) (search rules)
    (subst (λ (b : Bool). Front (comma_if b ++ coverage_begin h) (written c.args.sink.now) (written c.coverage.new.sink)) c.requires.begun front))

pub returns-in_err-coverage-clause-reads : goal.returns-in_err-coverage-clause-reads
returns-in_err-coverage-clause-reads g c = adds_none c.from_residual.result _ _ _ (search rules) refl

pub send_ranges-requires-clause-some : goal.send_ranges-requires-clause-some
send_ranges-requires-clause-some g c =
    let held = c.args.store.now.subject.held in
    let h : Coverage = c.head-head.result.now in
    some_ranges h (head_is h (g.C.Coverages.sent c.args.coverages.now held) c.args.number (c.head-head.ensures held) c.requires.valid) (length c.items-count.result.now) (search rules)
