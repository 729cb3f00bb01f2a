use Rattle.std.proofs.Common.{◌≡◌, ◌∙◌, ap₂, rules, to_z, of_z, w64, subst}
use Rattle.std.specs.Int.{int_min, int_max}
use Rattle.edr_corridor.specs.Parts.{IsAbout}
use Rattle.edr_corridor.proofs.Halves.{about_both, coordinate_back, distance_back}
use Rattle.edr_corridor.proofs.bands.Band.about.Goals as goal

pub returns-clause-has : goal.returns-clause-has
returns-clause-has c =
    let one = c.args.one in let other = c.args.other in let whole = c.args.whole in
    let least : to_z w64 (of_z w64 c.min.result) ≡ c.min.result = search rules in
    let greatest : to_z w64 (of_z w64 c.max.result) ≡ c.max.result = search rules in
    let one_back = coordinate_back one c.requires.one_in in let other_back = coordinate_back other c.requires.other_in in
    subst (λ w. IsAbout (record { low = to_z w64 (of_z w64 c.min.result); high = to_z w64 (of_z w64 c.max.result); whole = to_z w64 (of_z w64 whole) }) one other w) (distance_back whole c.requires.whole_in)
    (about_both one other (to_z w64 (of_z w64 whole)) (to_z w64 (of_z w64 c.min.result)) (to_z w64 (of_z w64 c.max.result))
    (least ∙ c.min.ensures.value ∙ ap₂ int_min one_back other_back) (greatest ∙ c.max.ensures.value ∙ ap₂ int_max one_back other_back))
