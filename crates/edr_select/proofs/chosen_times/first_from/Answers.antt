use Rattle.std.proofs.Common.{◌≡◌, ◌∙◌, sym, ap, rules, int_le, w64, of_z, to_z}
use Rattle.edr_axes.specs.Axes.{value_at}
use Rattle.edr_select.specs.Wanted.{is_from}
use Rattle.edr_select.proofs.AxisPlaces.{above_least}
use Rattle.edr_select.proofs.chosen_times.first_from.Goals as goal

pub returns-in-None : goal.returns-in-None
returns-in-None c = λ k inside.
    let whole : to_z w64 (of_z w64 (value_at c.args.values.now 0)) ≡ value_at c.args.values.now 0 = search rules in
    ap (λ v. int_le v (value_at c.args.values.now k)) whole
    ∙ above_least c.args.values.now c.requires k inside ∙ sym (ap (λ side. is_from side (value_at c.args.values.now k)) c.in-None.is)
