use Rattle.std.proofs.Common.{refl, sym, ◌∙◌}
use Rattle.covjson_checks.proofs.members.whole_or_null.Goals as goal

pub returns-then-is_null : goal.returns-then-is_null
returns-then-is_null c = rw (sym c.is_null.ensures ∙ c.if-is_null.true) refl
