use Rattle.std.proofs.Common.{ap, ◌∙◌}
use Rattle.json.specs.Token.{null}
use Rattle.json.specs.Lex.{between, lex}
use Rattle.edr_samples.proofs.LexemeLemmas.{lex-null}
use Rattle.edr_samples.proofs.lexemes.null_at.Goals as goal

pub returns-then-is_null_at-clause-sample : goal.returns-then-is_null_at-clause-sample
returns-then-is_null_at-clause-sample c =
    let is = c.if-is_null_at.true in
    (null, tt, ap (lex between) (c.is_null_at.ensures.null is) ∙ lex-null _ (c.is_null_at.ensures.ended is))
