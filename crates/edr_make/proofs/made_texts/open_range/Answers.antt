use Rattle.std.proofs.Common.{◌≡◌, ℕ, ◌<◌, ◌++◌, length, sym, ap, ◌∙◌, subst}
use Rattle.std.specs.Io.KnownBytes.{append_known}
use Rattle.serde_json.specs.Written.{comma_if}
use Rattle.edr_base.specs.Calls.{Front, Writes}
use Rattle.edr_base.specs.KnownBytes.{writes_on}
use Rattle.covjson_value.specs.declared.coverages.Coverage.{Coverage}
use Rattle.covjson_write.specs.Pieces.{coverage_begin, head_of, range_begin}
use Rattle.covjson_write.specs.Writers.{WriterValue}
use Rattle.edr_make.specs.MadeParts.{opening}
use Rattle.edr_make.proofs.MadeTexts.{as_many_keys, stops}
use Rattle.edr_make.proofs.made_texts.open_range.Goals as goal

pub returns-in_err-coverage-clause-bytes : goal.returns-in_err-coverage-clause-bytes
unfolding opening
returns-in_err-coverage-clause-bytes g c =
    let written = g.K.Sink.written in
    let head : Coverage = c.args.head.now in
    let front : Front (coverage_begin head) (written c.args.sink.now) (written c.coverage.new.sink) =
    subst (λ (w : WriterValue). Front (comma_if w.begun ++ coverage_begin head) (written c.args.sink.now) (written c.coverage.new.sink)) c.requires.started c.coverage.ensures.bytes.front in
    stops c.from_residual.result (written c.args.sink.now) (written c.coverage.new.sink) (coverage_begin head) (range_begin (head_of head) 0) c.from_residual.ensures.0 front

pub returns-clause-bytes : goal.returns-clause-bytes
unfolding opening
returns-clause-bytes g c =
    let written = g.K.Sink.written in
    let head : Coverage = c.args.head.now in
    let begun : written c.coverage.new.sink ≡ append_known (written c.args.sink.now) (coverage_begin head) =
    subst (λ (w : WriterValue). written c.coverage.new.sink ≡ append_known (written c.args.sink.now) (comma_if w.begun ++ coverage_begin head)) c.requires.started c.in_ok-coverage.ensures.bytes.whole in
    writes_on c.range_begin.result (written c.args.sink.now) (written c.coverage.new.sink) (written c.range_begin.new.sink) (coverage_begin head) (range_begin (head_of head) 0) begun
    (subst (λ (w : WriterValue). Writes c.range_begin.result (range_begin w.head 0) (written c.coverage.new.sink) (written c.range_begin.new.sink)) c.in_ok-coverage.ensures.writer c.range_begin.ensures.bytes)

pub range_begin-requires-clause-one : goal.range_begin-requires-clause-one
range_begin-requires-clause-one g c =
    subst (λ (n : ℕ). 0 < n) (sym (ap (λ (w : WriterValue). length w.head.keys) c.in_ok-coverage.ensures.writer ∙ as_many_keys c.args.head.now)) c.requires.head.valid.some
