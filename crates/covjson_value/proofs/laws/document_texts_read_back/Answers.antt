use Rattle.std.proofs.Common.{arith}
use Rattle.covjson_value.specs.Trees.{document_data}
use Rattle.covjson_value.proofs.JsonBack.{read-compact_text, IsUtf8-compact_text}
use Rattle.covjson_value.proofs.PlainCoverages.{document_within}
use Rattle.covjson_value.proofs.laws.document_texts_read_back.Goals as goal

pub returns : goal.returns
returns c = λ document valid.
    let within = document_within c.times_are_written.ensures document valid in
    (IsUtf8-compact_text (document_data document) within.plain, read-compact_text (document_data document) within.plain (omega (arith, within.shallow)))
