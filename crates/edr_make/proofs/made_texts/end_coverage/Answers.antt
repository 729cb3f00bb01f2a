use Rattle.std.proofs.Common.{◌≡◌, ℕ, Bool, subst, ap, ◌∙◌}
use Rattle.std.specs.Io.KnownBytes.{append_known}
use Rattle.std.proofs.lemmas.Result.{IfOk-from_err}
use Rattle.edr_base.specs.Calls.{Front, Writes}
use Rattle.covjson_write.specs.Pieces.{range_end, document_end}
use Rattle.covjson_write.specs.Writers.{WriterValue}
use Rattle.edr_make.specs.MadeParts.{closing}
use Rattle.edr_make.proofs.MadeTexts.{ended}
use Rattle.edr_make.proofs.made_texts.end_coverage.Goals as goal

pub returns-in_err-range_end-clause-bytes : goal.returns-in_err-range_end-clause-bytes
unfolding closing
returns-in_err-range_end-clause-bytes g c =
    let written = g.K.Sink.written in
    record {
      whole = IfOk-from_err _ _ c.from_residual.ensures.0;
      front = subst (λ (n : ℕ). Front (range_end c.args.writer.head n) (written c.args.sink.now) (written c.range_end.new.sink)) c.requires.none c.range_end.ensures.bytes.front;
    }

pub returns-clause-bytes : goal.returns-clause-bytes
unfolding closing
returns-clause-bytes g c =
    let written = g.K.Sink.written in
    let alone = ap (λ (w : WriterValue). w.many) c.in_ok-range_end.ensures.writer ∙ c.requires.alone in
    ended c.finish.result (written c.args.sink.now) (written c.range_end.new.sink) (written c.finish.new.sink) (range_end c.args.writer.head 0)
    (subst (λ (n : ℕ). written c.range_end.new.sink ≡ append_known (written c.args.sink.now) (range_end c.args.writer.head n)) c.requires.none c.in_ok-range_end.ensures.bytes.whole)
    (subst (λ (b : Bool). Writes c.finish.result (document_end b) (written c.range_end.new.sink) (written c.finish.new.sink)) alone c.finish.ensures.bytes)
