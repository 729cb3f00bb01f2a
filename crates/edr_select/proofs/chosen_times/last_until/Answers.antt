use Rattle.std.proofs.Common.{◌≡◌, ◌∙◌, ◌-◌, sym, ap, rules, length, int_le, w64, of_z, to_z}
use Rattle.edr_axes.specs.Axes.{value_at}
use Rattle.edr_select.specs.Wanted.{is_until}
use Rattle.edr_select.proofs.AxisPlaces.{below_greatest}
use Rattle.edr_select.proofs.chosen_times.last_until.Goals as goal

pub returns-in-None : goal.returns-in-None
returns-in-None c = λ k inside.
    let last = value_at c.args.values.now (length c.args.values.now - 1) in
    let whole : to_z w64 (of_z w64 last) ≡ last = search rules in
    ap (λ v. int_le (value_at c.args.values.now k) v) whole
    ∙ below_greatest c.args.values.now c.requires k inside ∙ sym (ap (λ side. is_until side (value_at c.args.values.now k)) c.in-None.is)
