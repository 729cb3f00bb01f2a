use Rattle.std.proofs.Common.{◌≡◌, ◌∙◌, ℤ, List, reverse, Err, inl, ap, subst}
use Rattle.edr_axes.specs.Axes.{IsAscending, FallsAt}
use Rattle.edr_axes.specs.declared.axis.AxisFault.TheVariants.{NotAscending}
use Rattle.covjson_domains.proofs.AscendLemmas.{read_turned, read_neither}
use Rattle.covjson_domains.proofs.axes.turned_round.Goals as goal

pub returns-in-Ok : goal.returns-in-Ok
returns-in-Ok c =
    let values = c.args.values.items in
    let same : c.deref.result.now ≡ reverse values = c.deref.ensures.value ∙ c.reverse.ensures.items in
    let is : c.in-Ok.axis ≡ reverse values = c.in-Ok.ensures.ok.0 ∙ same in
    rw is (read_turned c.args.member values c.requires (subst IsAscending same c.in-Ok.ensures.ok.1.ascending))

pub returns-in-Err-NotAscending : goal.returns-in-Err-NotAscending
returns-in-Err-NotAscending c =
    let values = c.args.values.items in
    let same : c.deref.result.now ≡ reverse values = c.deref.ensures.value ∙ c.reverse.ensures.items in
    let place = c.in-Err-NotAscending.field-0-0 in
    let was : c.of.result ≡ Err (NotAscending place) = c.in-Err-NotAscending.is ∙ ap Err c.in-Err-NotAscending.field-0-is in
    let fall : FallsAt (reverse values) place = subst (λ (vs : List ℤ). FallsAt vs place) same (c.of.ensures.not_ascending place was).applies in
    inl (read_neither c.args.member values place c.requires fall)
