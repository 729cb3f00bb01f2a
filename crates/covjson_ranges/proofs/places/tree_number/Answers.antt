use Rattle.std.proofs.Common.{◌≡◌, ℕ, ◌+◌, ◌*◌, ◌<◌, List, length, drop, arith, get_or, refl, sym, ◌∙◌}
use Rattle.std.proofs.lemmas.List.{at_drop_more}
use Rattle.covjson_value.specs.declared.axis_names.AxisName.{AxisName}
use Rattle.covjson_value.specs.declared.axis_names.AxisName.TheVariants.{T}
use Rattle.edr_chunk.specs.RowMajor.{row_major}
use Rattle.covjson_ranges.specs.Ranges.{length_of, tree_place}
use Rattle.covjson_ranges.proofs.PlaceLemmas.{tree_number_inside, row_major_end, step_inside}
use Rattle.covjson_ranges.proofs.places.tree_number.Goals as goal

-- the number on the way, with one axis more
axis_more : (lengths places : AxisName → ℕ) (names : List AxisName) (i number size place : ℕ) → i < length names → size ≡ lengths (get_or names i T) → place ≡ places (get_or names i T)
    → row_major lengths places (drop (i + 1) names) (number * size + place) ≡ row_major lengths places (drop i names) number
axis_more lengths places names i number size place inside is_size is_place =
    rw (is_size, is_place) (sym (at_drop_more (λ ns. row_major lengths places ns number) names i T inside))

pub tree_place-requires : goal.tree_place-requires
tree_place-requires c = c.requires.inside

pub loop-name-preserved : goal.loop-name-preserved
loop-name-preserved c =
    let d = c.args.domain.now in
    axis_more (length_of d) (tree_place d c.args.turned c.args.places) c.args.names.now c.loop-name.name-index c.loop-name.number c.axis_len.result c.tree_place.result
    c.loop-name-test.true c.axis_len.ensures c.tree_place.ensures
    ∙ c.loop-name.invariant

pub overflow_mul-number : goal.overflow_mul-number
overflow_mul-number c =
    let r = c.requires in
    let d = c.args.domain.now in
    let i = c.loop-name.name-index in
    let below = step_inside d c.args.turned c.args.names.now c.args.places r.axes r.inside i c.loop-name.number c.axis_len.result
    (tree_place d c.args.turned c.args.places (get_or c.args.names.now i T)) c.loop-name-test.true c.loop-name.invariant c.axis_len.ensures refl in
    omega (arith, below, r.few)

pub overflow_add-number : goal.overflow_add-number
overflow_add-number c =
    let r = c.requires in
    let below = step_inside c.args.domain.now c.args.turned c.args.names.now c.args.places r.axes r.inside c.loop-name.name-index c.loop-name.number
    c.axis_len.result c.tree_place.result c.loop-name-test.true c.loop-name.invariant c.axis_len.ensures c.tree_place.ensures in
    omega (arith, below, r.few)

pub returns-clause-inside : goal.returns-clause-inside
returns-clause-inside c =
    let r = c.requires in
    let d = c.args.domain.now in
    omega (
      arith,
      tree_number_inside d c.args.turned c.args.names.now c.args.places r.axes r.inside,
      c.loop-name.invariant,
      row_major_end (length_of d) (tree_place d c.args.turned c.args.places) c.args.names.now c.loop-name.name-index c.loop-name.number c.loop-name-test.false,
    )
