use Rattle.std.proofs.Common.{◌≡◌, ◌∙◌, rules, w64, of_z, to_z, Contains, subst, ℤ}
use Rattle.edr_select.proofs.AxisPlaces.{value_found, value_missing}
use Rattle.edr_select.proofs.Vectors.{items_equal}
use Rattle.edr_select.proofs.axis_places.places_at.Goals as goal

pub returns-in-Some : goal.returns-in-Some
returns-in-Some c =
    let whole : to_z w64 (of_z w64 c.args.only) ≡ c.args.only = search rules in
    items_equal c.alone.result _ _ (value_found c.args.axis.now c.args.only c.in-Some.place c.requires c.in-Some.ensures.0 (c.in-Some.ensures.1 ∙ whole)) c.alone.ensures

pub returns-in-None : goal.returns-in-None
returns-in-None c =
    let whole : to_z w64 (of_z w64 c.args.only) ≡ c.args.only = search rules in
    c.new.ensures.items ∙ value_missing c.args.axis.now c.args.only (subst (λ (v : ℤ). Contains c.args.axis.now v → ⊥) whole c.in-None.ensures)
