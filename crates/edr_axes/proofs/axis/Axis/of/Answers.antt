use Rattle.std.proofs.Common.{◌<◌, length, sym, subst, arith}
use Rattle.std.proofs.lemmas.Bool.{eqb-false}
use Rattle.edr_axes.specs.Axes.{IsAxis}
use Rattle.edr_axes.proofs.axis.Axis.of.Goals as goal

pub invariant_of-result : goal.invariant_of-result
invariant_of-result c =
    let not_none = eqb-false (length c.args.values.now) 0 (sym c.if-is_empty.ensures) in
    let some : 0 < length c.args.values.now = omega (arith, not_none) in
    subst IsAxis (sym c.in_ok-values.ensures.items) (record { some = some; ascending = c.in_default.ensures })
