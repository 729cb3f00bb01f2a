use Rattle.std.proofs.Common.{◌≡◌, ◌+◌, length, subst, ap, ◌∙◌, arith}
use Rattle.std.specs.Io.KnownBytes.{append_known}
use Rattle.edr_base.specs.Calls.{Front, Writes}
use Rattle.covjson_value.specs.Domains.{count_of}
use Rattle.covjson_write.specs.declared.range_heads.RangeHead.{RangeHead}
use Rattle.covjson_write.specs.Pieces.{head_of, values_from}
use Rattle.covjson_write.specs.Writers.{WriterValue}
use Rattle.edr_make.specs.MadeParts.{opening, closing}
use Rattle.edr_make.proofs.MadeTexts.{as_many_keys, stopped_first, stopped, wrote_third}
use Rattle.edr_make.proofs.made_texts.write_coverage.Goals as goal

pub returns-in_err-writer-clause-text : goal.returns-in_err-writer-clause-text
returns-in_err-writer-clause-text g c =
    stopped_first c.from_residual.result (g.K.Sink.written c.args.sink.now) (g.K.Sink.written c.begin_coverage.new.sink)
    (opening c.args.head.now) (values_from 0 c.args.values.now) (closing (head_of c.args.head.now)) c.from_residual.ensures.0 c.begin_coverage.ensures.bytes.front

pub values-requires-clause-room : goal.values-requires-clause-room
values-requires-clause-room g c =
    let count : c.in_ok-writer.writer.head.count ≡ count_of c.args.head.now.domain = ap (λ (w : WriterValue). w.head.count) c.in_ok-writer.ensures.writer in
    let none : c.in_ok-writer.writer.values ≡ 0 = ap (λ (w : WriterValue). w.values) c.in_ok-writer.ensures.writer in
    omega (arith, count, none, c.requires.count)

pub returns-in_err-values-clause-text : goal.returns-in_err-values-clause-text
returns-in_err-values-clause-text g c =
    let begun = g.K.Sink.written c.begin_coverage.new.sink in
    let after = g.K.Sink.written c.values.new.sink in
    stopped c.from_residual-in_err-values.result (g.K.Sink.written c.args.sink.now) begun after (opening c.args.head.now) (values_from 0 c.args.values.now) (closing (head_of c.args.head.now)) c.from_residual-in_err-values.ensures.0 c.in_ok-writer.ensures.bytes.whole
    (subst (λ (w : WriterValue). Front (values_from w.values c.args.values.now) begun after) c.in_ok-writer.ensures.writer c.values.ensures.bytes.front)

pub end_coverage-requires-clause-whole : goal.end_coverage-requires-clause-whole
end_coverage-requires-clause-whole g c =
    let count : c.in_ok-writer.writer.head.count ≡ count_of c.args.head.now.domain = ap (λ (w : WriterValue). w.head.count) c.in_ok-writer.ensures.writer in
    let none : c.in_ok-writer.writer.values ≡ 0 = ap (λ (w : WriterValue). w.values) c.in_ok-writer.ensures.writer in
    let values : c.values.new.self.values ≡ c.in_ok-writer.writer.values + length c.args.values.now = ap (λ (w : WriterValue). w.values) c.in_ok-values.ensures.writer in
    let head : c.values.new.self.head.count ≡ c.in_ok-writer.writer.head.count = ap (λ (w : WriterValue). w.head.count) c.in_ok-values.ensures.writer in
    omega (arith, count, none, values, head, c.requires.count)

pub returns-clause-text : goal.returns-clause-text
returns-clause-text g c =
    let begun = g.K.Sink.written c.begin_coverage.new.sink in
    let done = g.K.Sink.written c.values.new.sink in
    let after = g.K.Sink.written c.end_coverage.new.sink in
    let kept : c.values.new.self.head ≡ head_of c.args.head.now = ap (λ (w : WriterValue). w.head) c.in_ok-values.ensures.writer ∙ ap (λ (w : WriterValue). w.head) c.in_ok-writer.ensures.writer in
    wrote_third c.end_coverage.result (g.K.Sink.written c.args.sink.now) begun done after (opening c.args.head.now) (values_from 0 c.args.values.now) (closing (head_of c.args.head.now)) c.in_ok-writer.ensures.bytes.whole
    (subst (λ (w : WriterValue). done ≡ append_known begun (values_from w.values c.args.values.now)) c.in_ok-writer.ensures.writer c.in_ok-values.ensures.bytes.whole)
    (subst (λ (h : RangeHead). Writes c.end_coverage.result (closing h) done after) kept c.end_coverage.ensures.bytes)

pub end_coverage-requires-clause-one : goal.end_coverage-requires-clause-one
end_coverage-requires-clause-one g c =
    ap (λ (w : WriterValue). length w.head.keys) c.in_ok-values.ensures.writer
    ∙ (ap (λ (w : WriterValue). length w.head.keys) c.in_ok-writer.ensures.writer ∙ (as_many_keys c.args.head.now ∙ c.requires.one))
