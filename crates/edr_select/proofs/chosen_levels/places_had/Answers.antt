use Rattle.std.proofs.Common.{◌≡◌, ◌∙◌, ap, rules, w64, of_z, to_z}
use Rattle.edr_axes.specs.Axes.{value_at}
use Rattle.edr_select.specs.Wanted.{has_level}
use Rattle.edr_select.specs.ListLaws.{keep_step}
use Rattle.edr_select.proofs.chosen_levels.places_had.Goals as goal

pub loop-place-preserved : goal.loop-place-preserved
loop-place-preserved c =
    let whole : to_z w64 (of_z w64 c.value.result) ≡ c.value.result = search rules in
    keep_step (λ k. has_level c.args.levels.now (value_at c.args.axis.now k)) c.loop-place.place c.is_had.result c.loop-place.places.items c.keep.new.numbers.items c.loop-place.invariant
    (c.is_had.ensures ∙ ap (has_level c.args.levels.now) (whole ∙ c.value.ensures)) c.in_ok-keep.ensures
