use Rattle.std.proofs.Common.{sym, subst}
use Rattle.edr_axes.specs.Instants.{IsTime}
use Rattle.edr_describe.specs.declared.reaches.Span.{Span}
use Rattle.edr_describe.proofs.Ends.{least_time, greatest_time}
use Rattle.edr_describe.proofs.reaches.Span.of_times.Goals as goal

pub returns-clause-first : goal.returns-clause-first
returns-clause-first c = subst (λ (s : Span). IsTime s.low) (sym c.of_axis.ensures) (least_time c.args.axis.now c.values.ensures.axis c.requires)

pub returns-clause-last : goal.returns-clause-last
returns-clause-last c = subst (λ (s : Span). IsTime s.high) (sym c.of_axis.ensures) (greatest_time c.args.axis.now c.values.ensures.axis c.requires)
