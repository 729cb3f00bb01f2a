use Rattle.std.proofs.Common.{arith}
use Rattle.covjson_value.specs.Trees.{coverage_data}
use Rattle.covjson_value.proofs.JsonBack.{read-compact_text, IsUtf8-compact_text}
use Rattle.covjson_value.proofs.PlainCoverages.{coverage_within}
use Rattle.covjson_value.proofs.laws.texts_read_back.Goals as goal

pub returns : goal.returns
returns c = λ coverage valid.
    let within = coverage_within c.times_are_written.ensures coverage valid in
    (IsUtf8-compact_text (coverage_data coverage) within.plain, read-compact_text (coverage_data coverage) within.plain (omega (arith, within.shallow)))
