use Rattle.covjson_value.proofs.JsonBack.{read-compact_text, IsUtf8-compact_text}
use Rattle.covjson_value.proofs.laws.plain_texts_read_back.Goals as goal

pub returns : goal.returns
returns c = λ tree plain shallow. (IsUtf8-compact_text tree plain, read-compact_text tree plain shallow)
