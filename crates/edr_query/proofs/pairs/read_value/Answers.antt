use Rattle.std.proofs.Common.{ap, ◌∙◌}
use Rattle.std.specs.Str.Lossy.{utf8_lossy}
use Rattle.edr_query.proofs.PlainLemmas.{kept_text, escapes_only}
use Rattle.edr_query.proofs.pairs.read_value.Goals as goal

pub returns-in-Ok : goal.returns-in-Ok
returns-in-Ok c =
    c.in-Ok.ensures.cases.0 ∙ kept_text c.args.raw.now (c.lacks.ensures c.if-not-lacks.false) (c.lacks-2.ensures c.if-lacks.true) c.in-Ok.ensures.cases.1

pub returns : goal.returns
returns c =
    c.in_ok-decode_utf8_lossy.ensures.exact ∙ ap utf8_lossy c.percent_decode.ensures.bytes ∙ escapes_only c.args.raw.now (c.lacks.ensures c.if-not-lacks.false)
