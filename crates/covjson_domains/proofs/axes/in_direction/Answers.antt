use Rattle.std.proofs.Common.{◌≡◌, ◌∙◌, ℤ, List, Err, ap, subst}
use Rattle.edr_axes.specs.Axes.{IsAscending, FallsAt}
use Rattle.edr_axes.specs.declared.axis.AxisFault.TheVariants.{NotAscending}
use Rattle.covjson_domains.proofs.AscendLemmas.{read_ahead, fall_not}
use Rattle.covjson_domains.proofs.axes.in_direction.Goals as goal

pub returns-in-Ok : goal.returns-in-Ok
returns-in-Ok c =
    let values = c.args.values.items in
    let is : c.in-Ok.axis ≡ values = c.in-Ok.ensures.ok.0 ∙ c.deref.ensures.value in
    rw is (read_ahead c.args.member values (subst IsAscending c.deref.ensures.value c.in-Ok.ensures.ok.1.ascending))

pub turned_round-requires : goal.turned_round-requires
turned_round-requires c =
    let place = c.in-Err-NotAscending.field-0-0 in
    let was : c.of.result ≡ Err (NotAscending place) = c.in-Err-NotAscending.is ∙ ap Err c.in-Err-NotAscending.field-0-is in
    fall_not c.args.values.items place (subst (λ (vs : List ℤ). FallsAt vs place) c.deref.ensures.value (c.of.ensures.not_ascending place was).applies)
