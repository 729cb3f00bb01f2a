use Rattle.std.proofs.Common.{◌≡◌, ◌∙◌, rules, length, get_or, take_all, subst, ℤ, pos, w64, of_z, to_z, Contains}
use Rattle.std.proofs.lemmas.List.{get_or_default}
use Rattle.edr_axes.specs.Axes.{value_at}
use Rattle.edr_select.proofs.LevelChoices.{listed, level_more, level_same}
use Rattle.edr_select.proofs.FoundPlaces.{Found, found_is}
use Rattle.edr_select.proofs.chosen_levels.places_listed.Goals as goal
use Rattle.edr_select.proofs.chosen_levels.places_listed.Goals.{in-Some+in_ok-push-in-Some, in-None}

pub loop-level-preserved : goal.loop-level-preserved
loop-level-preserved c =
    let level : ℤ = value_at c.args.levels.now c.loop-level.level-index in
    let whole : to_z w64 (of_z w64 level) ≡ level = search rules in
    let at : get_or c.args.levels.now c.loop-level.level-index level ≡ level = get_or_default c.args.levels.now c.loop-level.level-index level (pos 0) c.loop-level-test.true in
    elim c.match-place_of.branch [
      | in-Some+in_ok-push-in-Some w ↦ rw (w.places-is, w.in_ok-push-in-Some.ensures.items) (level_more c.args.axis.now c.args.levels.now c.loop-level.places.items c.loop-level.level-index w.in-Some.place level c.requires c.loop-level-test.true at w.in-Some.ensures.0 (w.in-Some.ensures.1 ∙ whole) c.loop-level.invariant)
      | in-None w ↦ rw w.places-is (level_same c.args.axis.now c.args.levels.now c.loop-level.places.items c.loop-level.level-index level c.loop-level-test.true at (subst (λ (v : ℤ). Contains c.args.axis.now v → ⊥) whole w.in-None.ensures) c.loop-level.invariant)
    ]

pub returns : goal.returns
returns c =
    found_is (length c.args.axis.now) c.loop-level.places.items c.ascending_once.result.items (listed c.args.axis.now c.args.levels.now)
    (subst (λ levels. Found (length c.args.axis.now) c.loop-level.places.items (listed c.args.axis.now levels)) (take_all c.loop-level.level-index c.args.levels.now c.loop-level-test.false) c.loop-level.invariant)
    c.ascending_once.ensures
