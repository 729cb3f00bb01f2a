use Rattle.std.proofs.Common.{◌≡◌}
use Rattle.covjson_domains.specs.AxisAnswers as axes
use Rattle.covjson_domains.proofs.spans.stepped.Given as goal

abbrev pub invariant-loop-place : goal.invariant-loop-place
invariant-loop-place l = l.values.items ≡ axes.stepped l.first l.step l.place
