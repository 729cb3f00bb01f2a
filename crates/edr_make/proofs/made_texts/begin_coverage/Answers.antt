use Rattle.std.proofs.Common.{◌≡◌, []}
use Rattle.std.specs.Io.KnownBytes.{append_known}
use Rattle.std.proofs.lemmas.Result.{IfOk-from_err}
use Rattle.edr_make.specs.MadeParts.{opening}
use Rattle.edr_base.specs.KnownBytes.{grew_on, front_whole, front_on}
use Rattle.edr_make.proofs.MadeTexts.{stops}
use Rattle.edr_make.proofs.made_texts.begin_coverage.Goals as goal

pub returns-in_err-writer-clause-bytes : goal.returns-in_err-writer-clause-bytes
returns-in_err-writer-clause-bytes g c = stops _ _ _ [] _ c.from_residual.ensures.0 c.begin.ensures.bytes.front

pub returns-in_err-open_range-clause-bytes : goal.returns-in_err-open_range-clause-bytes
returns-in_err-open_range-clause-bytes g c =
    record { whole = IfOk-from_err _ _ c.from_residual-in_err-open_range.ensures.0; front = front_on _ _ _ [] _ c.in_ok-writer.ensures.bytes.whole c.open_range.ensures.bytes.front }

pub returns-clause-bytes : goal.returns-clause-bytes
returns-clause-bytes g c =
    let written = g.K.Sink.written in
    let text = opening c.args.head.now in
    let all : written c.open_range.new.sink ≡ append_known (written c.args.sink.now) text =
    grew_on (written c.args.sink.now) (written c.begin.new.sink) (written c.open_range.new.sink) [] text c.in_ok-writer.ensures.bytes.whole c.in_ok-open_range.ensures.bytes.whole in
    record { whole = all; front = front_whole (written c.args.sink.now) (written c.open_range.new.sink) text all }
