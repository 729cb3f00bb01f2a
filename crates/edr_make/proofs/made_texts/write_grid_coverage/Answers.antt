use Rattle.std.proofs.Common.{◌≡◌, length, ◌+◌, ◌*◌, subst, ap, ◌∙◌, arith}
use Rattle.edr_base.specs.Calls.{Writes}
use Rattle.covjson_value.specs.Domains.{count_of}
use Rattle.covjson_write.specs.declared.range_heads.RangeHead.{RangeHead}
use Rattle.covjson_write.specs.Pieces.{head_of, values_from}
use Rattle.covjson_write.specs.Writers.{WriterValue}
use Rattle.edr_make.specs.MadeParts.{opening, closing}
use Rattle.edr_make.proofs.MadeTexts.{as_many_keys, stopped_first, stopped, wrote_third}
use Rattle.edr_make.specs.Made.{grid_values}
use Rattle.edr_make.proofs.made_texts.write_grid_coverage.Goals as goal

pub returns-in_err-writer-clause-text : goal.returns-in_err-writer-clause-text
returns-in_err-writer-clause-text g c =
    stopped_first c.from_residual.result (g.K.Sink.written c.args.sink.now) (g.K.Sink.written c.begin_coverage.new.sink)
    (opening c.args.head.now) (values_from 0 (grid_values c.args.number c.args.rows c.args.columns)) (closing (head_of c.args.head.now)) c.from_residual.ensures.0 c.begin_coverage.ensures.bytes.front

pub write_rows-requires-clause-room : goal.write_rows-requires-clause-room
write_rows-requires-clause-room g c =
    let count : c.in_ok-writer.writer.head.count ≡ count_of c.args.head.now.domain = ap (λ (w : WriterValue). w.head.count) c.in_ok-writer.ensures.writer in
    omega (arith, count, c.requires.count)

pub returns-in_err-write_rows-clause-text : goal.returns-in_err-write_rows-clause-text
returns-in_err-write_rows-clause-text g c =
    stopped c.from_residual-in_err-write_rows.result (g.K.Sink.written c.args.sink.now) (g.K.Sink.written c.begin_coverage.new.sink) (g.K.Sink.written c.write_rows.new.sink)
    (opening c.args.head.now) (values_from 0 (grid_values c.args.number c.args.rows c.args.columns)) (closing (head_of c.args.head.now)) c.from_residual-in_err-write_rows.ensures.0 c.in_ok-writer.ensures.bytes.whole c.write_rows.ensures.bytes.front

pub end_coverage-requires-clause-whole : goal.end_coverage-requires-clause-whole
end_coverage-requires-clause-whole g c =
    let count : c.in_ok-writer.writer.head.count ≡ count_of c.args.head.now.domain = ap (λ (w : WriterValue). w.head.count) c.in_ok-writer.ensures.writer in
    let none : c.in_ok-writer.writer.values ≡ 0 = ap (λ (w : WriterValue). w.values) c.in_ok-writer.ensures.writer in
    let values : c.write_rows.new.writer.values ≡ c.in_ok-writer.writer.values + c.args.rows * c.args.columns = ap (λ (w : WriterValue). w.values) c.in_ok-write_rows.ensures.writer in
    let head : c.write_rows.new.writer.head.count ≡ c.in_ok-writer.writer.head.count = ap (λ (w : WriterValue). w.head.count) c.in_ok-write_rows.ensures.writer in
    omega (arith, count, none, values, head, c.requires.count)

pub returns-clause-text : goal.returns-clause-text
returns-clause-text g c =
    let done = g.K.Sink.written c.write_rows.new.sink in
    let after = g.K.Sink.written c.end_coverage.new.sink in
    let kept : c.write_rows.new.writer.head ≡ head_of c.args.head.now = ap (λ (w : WriterValue). w.head) c.in_ok-write_rows.ensures.writer ∙ ap (λ (w : WriterValue). w.head) c.in_ok-writer.ensures.writer in
    wrote_third c.end_coverage.result (g.K.Sink.written c.args.sink.now) (g.K.Sink.written c.begin_coverage.new.sink) done after
    (opening c.args.head.now) (values_from 0 (grid_values c.args.number c.args.rows c.args.columns)) (closing (head_of c.args.head.now)) c.in_ok-writer.ensures.bytes.whole c.in_ok-write_rows.ensures.bytes.whole
    (subst (λ (h : RangeHead). Writes c.end_coverage.result (closing h) done after) kept c.end_coverage.ensures.bytes)

pub end_coverage-requires-clause-one : goal.end_coverage-requires-clause-one
end_coverage-requires-clause-one g c =
    ap (λ (w : WriterValue). length w.head.keys) c.in_ok-write_rows.ensures.writer
    ∙ (ap (λ (w : WriterValue). length w.head.keys) c.in_ok-writer.ensures.writer ∙ (as_many_keys c.args.head.now ∙ c.requires.one))
